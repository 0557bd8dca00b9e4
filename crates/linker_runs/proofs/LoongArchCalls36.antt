-- A call of LoongArch that stays long can be written in a run of less than 128 GiB less 128 KiB.
use Rattle.linker_runs.proofs.Imports.{Aligned, CALL36, Call, HasItsInstructions, IsAligned, IsCall36At, IsInWords, IsNearCall36, IsOutOfReach, IsPcalaAt, Item, ItemError, ItemSuits, List, LoongArch64, LoongArchCause, NearCalls36AreWritable, PCALA, R_LARCH_CALL36, Site, ap, arith, call_template, cases_lt, choice_of, drop, false, false≢true, freed_before, if◌then◌else◌, inl, inr, ints, item_at, length, length-drop, length-take, loongarch_fits, mul_assoc, nat_lt, offset_of, place_of, pos, refl, run_granularity, short_shape, subst, suc, sum_64, sym, take, target_of, zero, ℕ, ⊎_elim, ◌%◌, ◌*◌, ◌+◌, ◌-ℤ◌, ◌-◌, ◌<◌, ◌^◌, ◌∙◌, ◌≡◌, ◌≤◌}
use Rattle.linker_runs.proofs.Choices.{place_is}
use Rattle.linker_runs.proofs.Frees.{exact_frees}
use Rattle.linker_runs.proofs.Multiples.{Multiple, multiple_of, no_rest}
use Rattle.linker_runs.proofs.Layouts.{freed_fits}
use Rattle.linker_runs.proofs.Nearer.{Frees, place_fits}
use Rattle.linker_runs.proofs.Units.{item_suits}
use Rattle.linker_runs.proofs.LoongArch.{code_not}
use Rattle.linker_runs.proofs.LongSites.{LongCause, is_long, long_sites}
use Rattle.linker_runs.proofs.Distances.{not_rejected}
use Rattle.linker_runs.proofs.Reaches.{up, down, fours}

-- ---- distances in units of 4 bytes

words_apart : (to from : ℕ) → to % 4 ≡ from % 4 → IsAligned 4 (pos to -ℤ pos from)
words_apart to from same = elim (cases_lt to from) [
  | inl low ↦ rw (down from to low) ((fours.1 (from - to - 1)).1 (omega arith))
  | inr high ↦ rw (up from to high) ((fours.0 (to - from)).1 (omega arith))
]

freed_units : (u : ℕ) (items : List Item) (freed : ℕ → ℕ) → Frees u items freed → (i : ℕ) → i ≤ length items → Multiple u (freed i)
freed_units u items freed f zero within = (0, f.none ∙ omega arith)
freed_units u items freed f (suc i) within =
    let rest = freed_units u items freed f i (omega arith) in
    let next = f.step i (omega arith) in
    let z : suc i ≡ i + 1 = omega arith in
    (rest.0 + next.0, omega (arith, ap freed z, rest.1, next.1))

words_of : (u x : ℕ) → u % 4 ≡ 0 → Multiple u x → x % 4 ≡ 0
words_of u x four m =
    let q = multiple_of 4 u four in
    no_rest 4 x (m.0 * q.0, m.1 ∙ ap (λ y. m.0 * y) q.1 ∙ sym (mul_assoc m.0 q.0 4))

differ : (a b : ℕ) → a ≡ 134217728 → b ≡ 2097152 → a ≡ b → ⊥
differ a b e f g = omega arith

pub shapes_differ : CALL36 ≡ PCALA → ⊥
shapes_differ e = differ (short_shape CALL36 0).max_backward (short_shape PCALA 0).max_backward refl refl (ap (λ t. (short_shape t 0).max_backward) e)

-- ---- the call

module _ (section : List ℕ) (o start from to : ℕ) (here : IsCall36At section o) (there : o + 8 ≤ length section) (low : from < 2 ^ 37 - 2 ^ 17) (high : to < 2 ^ 37 - 2 ^ 17)
    (words : to % 4 ≡ from % 4) where
  call_near : IsOutOfReach (call_template section o) (sum_64 start from) (sum_64 start to) → ⊥
  call_near far =
      not_rejected start from to _ (take 8 (drop o section)) (loongarch_fits R_LARCH_CALL36) long (λ v. tt) (λ v e. absurd (false≢true e))
      (λ v w. (omega (arith, ints, w.0), omega (arith, ints, w.1))) refl
      (record { supported = refl; within = (omega (arith, ints), omega (arith, ints)); encoded = tt; aligned = words_apart to from words }) far
    where
      long : 8 ≤ length (take 8 (drop o section))
      long = let a = length-take 8 (drop o section) in let b = length-drop o section in omega arith

  long_not : (error : ItemError) → LoongArchCause section o 8 (sum_64 start from) (sum_64 start to) error → ⊥
  long_not = code_not section o 8 (sum_64 start from) (sum_64 start to) Call here (inr refl) (λ four. absurd (omega (arith, four))) (λ _. call_near)

module _ (bytes : List ℕ) (base start u here there : ℕ) where
  call_not : (item : Item) → IsNearCall36 item → IsInWords item → HasItsInstructions LoongArch64 bytes base item → ItemSuits u start item → Multiple u here → Multiple u there → here ≤ offset_of item → there ≤ target_of item
      → (error : ItemError) → LongCause LoongArch64 bytes base start item (offset_of item - here) (target_of item - there) error → ⊥
  call_not (Aligned alignment) near in_words has suits m n here_fits there_fits error cause = cause
  call_not (Site site) near in_words has suits m n here_fits there_fits error cause =
      long_not bytes (site.offset - base) start (site.offset - here) (target_of (Site site) - there) call (omega (arith, has.1, has.2)) (let b = near.offset in omega arith) (let b = near.target in omega arith) apart error cause
    where
      words : u % 4 ≡ 0
      words = subst (λ t. u % (short_shape t 0).granularity ≡ 0) near.shapes (suits.units 0 (is_long CALL36 (omega arith) refl (Site site) near.shapes).0)

      call : IsCall36At bytes (site.offset - base)
      call = ⊎_elim
          (λ (is : IsCall36At bytes (site.offset - base) × (site.shapes ≡ CALL36)). is.0)
          (λ (is : IsPcalaAt bytes (site.offset - base) × (site.shapes ≡ PCALA)). absurd (shapes_differ (sym near.shapes ∙ is.1)))
          has.3

      target : target_of (Site site) ≡ site.target
      target = ap (λ t. if nat_lt 0 t.count then site.target else site.offset) near.shapes

      apart : (target_of (Site site) - there) % 4 ≡ (site.offset - here) % 4
      apart =
          omega (arith, words_of u here words m, words_of u there words n, in_words near.shapes, target)

pub near_calls_36 : NearCalls36AreWritable
near_calls_36 start base items shapes kept freed bytes are is i within near has =
    let item = item_at items i in
    let frees = exact_frees start items (choice_of shapes) are in
    let before = freed_before start items (choice_of shapes) in
    let p = place_of items (target_of item) in
    let u = run_granularity items in
    long_sites LoongArch64 start base items shapes kept freed bytes are is i within (is_long CALL36 (omega arith) refl item near.shapes) has
    (call_not bytes base start u (before i) (before p) item near (are.in_words i within) has (item_suits start items are i within) (freed_units u items before frees i (omega (arith, within)))
    (freed_units u items before frees p (place_is start items are.in_order (target_of item)).within)
    (freed_fits start items (choice_of shapes) are.in_order i within) (place_fits start u items before are.in_order frees (target_of item) p (place_is start items are.in_order (target_of item))))
