use Rattle.linker_rewriting.proofs.Imports.{arith, below_more, cases_lt, false, inl, inr, is_high, min, relocation_in, subst, ℕ, ◌<◌, ◌≡◌, ◌≤◌, ◌⊎◌}
use Rattle.linker_rewriting.proofs.LabelGroups.{isnt_r_type, found, none_at, none_searched}
use Rattle.linker_rewriting.proofs.riscv_pcrel_groups.high_at.Goals as goal

inside : {index end count : ℕ} (len far : ℕ) → index < end → end ≡ min len far → len ≡ count → index < count
inside len far less is same = omega (arith, less, is, same)

below : {index end : ℕ} (len far : ℕ) → index < end → end ≡ min len far → index < far
below len far less is = omega (arith, less, is)

ended : {index end count : ℕ} (len far : ℕ) → end ≡ min len far → end ≤ index → len ≡ count
    → (count ≤ index) ⊎ (far ≤ index)
ended len far is most same =
    elim (cases_lt len far) [
      | inl all ↦ inl (omega (arith, all, is, most, same))
      | inr some ↦ inr (omega (arith, some, is, most))
    ]

pub loop-index-preserved : goal.loop-index-preserved
loop-index-preserved c k from below =
    let a = c.args in
    below_more (λ j. c.first_from-first.result ≤ j → is_high a.r_type a.at (relocation_in a.relocations.now j) ≡ false)
    c.loop-index.index (λ j under first. c.loop-index.invariant j first under)
    (λ _. subst (λ r. is_high a.r_type a.at r ≡ false) c.relocation_in-relocation.ensures
    (isnt_r_type a.r_type a.at c.relocation_in-relocation.result c.if-relocation-r_type.false))
    k below from

pub returns-then-relocation-r_type-clause-high : goal.returns-then-relocation-r_type-clause-high
returns-then-relocation-r_type-clause-high c =
    let a = c.args in
    λ ascending. found a.relocations.now a.r_type a.at c.first_from-first.result c.loop-index.index
    c.relocation_in-relocation.result (c.first_from-first.ensures.before ascending)
    c.loop-index.invariant (inside _ _ c.loop-index-test.true c.min-index-end.ensures c.relocations_len.ensures)
    (below _ _ c.loop-index-test.true c.min-index-end.ensures)
    c.relocation_in-relocation.ensures c.if-relocation-at.false c.if-relocation-r_type.true

pub returns-then-relocation-at-clause-high : goal.returns-then-relocation-at-clause-high
returns-then-relocation-at-clause-high c =
    let a = c.args in
    λ ascending. none_at a.relocations.now a.r_type a.at c.first_from-first.result c.loop-index.index ascending
    (c.first_from-first.ensures.before ascending) (c.first_from-first.ensures.following ascending)
    c.loop-index.invariant c.loop-index.auto.index
    (inside _ _ c.loop-index-test.true c.min-index-end.ensures c.relocations_len.ensures)
    (subst (λ r. r.offset ≡ a.at → ⊥) c.relocation_in-relocation.ensures c.if-relocation-at.true)

pub returns-clause-high : goal.returns-clause-high
returns-clause-high c =
    let a = c.args in
    λ ascending. none_searched a.relocations.now a.r_type a.at c.first_from-first.result c.loop-index.index ascending
    (c.first_from-first.ensures.before ascending) (c.first_from-first.ensures.following ascending)
    c.loop-index.invariant
    (ended _ _ c.min-index-end.ensures c.loop-index-test.false c.relocations_len.ensures)
