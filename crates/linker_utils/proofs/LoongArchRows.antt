-- What the tests of a pair and the bits of `tp` mean.
use Rattle.linker_utils.proofs.Imports.{List, and_block, and_mask, ap, arith, bit_and, bit_or, length, refl, ℕ, ⊤, ◌%◌, ◌*◌, ◌+◌, ◌-◌, ◌/◌, ◌<◌, ◌^◌, ◌↔◌, ◌∙◌, ◌≡◌, ◌≢◌, ◌≤◌}
use Rattle.linker_utils.proofs.RewriteRows.{kept_and_set}
use Rattle.linker_utils.specs.LoongArchRewrites.{IsPair, IsPcalau12i, rd_of, rj_of, tp, word_at}

-- the bits of `tp` in place of those of the first source register
pub over_tp : (word : ℕ) → word < 2 ^ 32
    → bit_or (bit_and word 0xfffffc1f) 0x40 ≡ word - rj_of word * 2 ^ 5 + tp * 2 ^ 5
over_tp word small =
    let parts : word ≡ word / 2 ^ 10 * 2 ^ 10 + word % 2 ^ 10 = omega arith in
    let kept : bit_and word 0xfffffc1f ≡ bit_and (word / 2 ^ 10) 0x3fffff * 2 ^ 10 + bit_and (word % 2 ^ 10) 0x1f =
    ap (λ n. bit_and n 0xfffffc1f) parts
    ∙ and_block 10 (word / 2 ^ 10) 0x3fffff (word % 2 ^ 10) 0x1f (omega arith) (omega arith) in
    kept_and_set 0xfffffc1f 0x40 word refl
    ∙ omega (arith, small, kept, and_mask (word / 2 ^ 10) 22, and_mask (word % 2 ^ 10) 5)

-- a pair with P
pub pair_by_tests : (P : ℕ → Type 0) (s : List ℕ) (o : ℕ) → let first = word_at s o in let word = word_at s (o + 4) in
    ((o + 8 ≤ length s) × (IsPcalau12i first × (P word × ((rj_of word ≡ rd_of word)
    × ((rd_of word ≢ 0) × ((rd_of first ≡ rd_of word) × ⊤))))))
    ↔ IsPair P s o
pair_by_tests P s o = (
  λ h. (let pair = h.1.1.1 in record {
    within = h.0;
    second = h.1.1.0;
    one_register = record { first = h.1.0; into_own_source = record { same = pair.0; not_zero = pair.1.0 }; register = pair.1.1.0 };
  }),
  λ p. (let pair = p.one_register in
      (p.within, (pair.first, (p.second, (pair.into_own_source.same, (pair.into_own_source.not_zero, (pair.register, tt))))))),
)
