-- Steps of a search: what one test says of all other elements, and how many probes they take.
use Rattle.linker_base.proofs.Imports.{Deltas, Heads, HeadsAgree, IsNarrowed, IsPartitioned, Subject, Test, arith, false_from_ne_true, false≢true, passing, pow-add, pow_mono, size_of, sym, true, ℕ, ◌*◌, ◌+◌, ◌-◌, ◌<◌, ◌^◌, ◌∙◌, ◌≡◌, ◌≤◌}
use Rattle.linker_base.specs.declared.relaxation.search.Level.{Level}

-- what is more than a power has more digits, and some are left without the power
pub digits_left : (few digits n : ℕ) → 2 ^ few < n → n ≤ 2 ^ digits
    → (few < digits) × (2 ^ digits ≡ 2 ^ (digits - few) * 2 ^ few)
digits_left few digits n low high =
    let most : digits ≤ few → 2 ^ digits ≤ 2 ^ few = λ le. pow_mono le in
    let above : few < digits = grind (arith, most) in
    let back : digits - few + few ≡ digits = omega arith in
    (above, rw back at (pow-add 2 (digits - few) few))

-- where the first passes, any may be the last that does
pub all_narrowed : (s : Subject) (test : Test) (level : Level) → IsPartitioned s level test
    → passing s level test 0 ≡ true → IsNarrowed s level test 1 (size_of s level)
all_narrowed s test level parted passes = record {
  parted = parted;
  before = λ k low. let none : k ≡ 0 = omega arith in rw none passes;
  after = λ k low high. absurd (omega arith);
}

module _ (s : Subject) (test : Test) (parted : IsPartitioned s Deltas test) (agree : HeadsAgree s test) where
  pub heads_narrowed : passing s Heads test 0 ≡ true → IsNarrowed s Heads test 1 (size_of s Heads)
  heads_narrowed = all_narrowed s test Heads (λ i j le low at. agree i (omega arith) ∙ parted (64 * i) (64 * j) (omega arith) (omega arith) (sym (agree j low) ∙ at))

  -- the last head that passes is the first delta of the block in which those that pass end
  pub block_narrowed : (b first count : ℕ) → b < size_of s Heads → IsNarrowed s Heads test (b + 1) 1
      → first ≤ 64 * b → (first + count < size_of s Deltas → 64 * b + 64 ≤ first + count)
      → IsNarrowed s Deltas test (first + 1) count
  block_narrowed b first count bound found from whole = record {
    parted = parted;
    before = λ k low. parted k (64 * b) (omega arith) (omega arith) (sym (agree b bound) ∙ found.before b (omega arith));
    after = λ k low high. false_from_ne_true (passing s Deltas test k) (λ passes.
        let full : 64 * b + 64 ≤ first + count = whole (omega arith) in
        let inside : b + 1 < size_of s Heads = omega arith in
        false≢true (sym (found.after (b + 1) (omega arith) inside) ∙ agree (b + 1) inside ∙ parted (64 * (b + 1)) k (omega arith) high passes));
  }
