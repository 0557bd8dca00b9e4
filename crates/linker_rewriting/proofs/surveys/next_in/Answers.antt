use Rattle.linker_rewriting.proofs.Imports.{KeepsNone, arith, below_more, relocation_in, subst, sym, ◌∙◌, ◌≤◌}
use Rattle.linker_rewriting.proofs.surveys.next_in.Goals as goal

pub loop-index-preserved : goal.loop-index-preserved
loop-index-preserved c =
    let a = c.args in
    let s = a.context.now in
    let r = relocation_in a.relocations.now c.loop-index.index in
    let all = below_more (λ n. a.from ≤ n → KeepsNone s.architecture s.phase s.symbols.now (relocation_in a.relocations.now n))
    c.loop-index.index (λ n less from. c.loop-index.invariant n from less)
    (λ from. subst (λ x. KeepsNone x s.phase s.symbols.now r) c.requires.architecture
    (subst (λ x. KeepsNone a.architecture x s.symbols.now r) c.requires.phase
    (subst (KeepsNone a.architecture a.phase s.symbols.now) c.relocation_in-relocation.ensures
    (c.is_surveyed.ensures c.if-is_surveyed.false, sym c.needs_mark.ensures ∙ c.if-needs_mark.false)))) in
    λ n from less. all n less from

pub returns-then-is_surveyed : goal.returns-then-is_surveyed
returns-then-is_surveyed c =
    let e = c.relocations_len-len.ensures in
    let t = c.loop-index-test.true in
    record { from = c.loop-index.auto.index; within = omega (arith, t, e); between = c.loop-index.invariant }

pub returns-then-needs_mark : goal.returns-then-needs_mark
returns-then-needs_mark c =
    let e = c.relocations_len-len.ensures in
    let t = c.loop-index-test.true in
    record { from = c.loop-index.auto.index; within = omega (arith, t, e); between = c.loop-index.invariant }

pub returns : goal.returns
returns c =
    let e = c.relocations_len-len.ensures in
    let t = c.loop-index-test.false in
    let f = c.requires.from in
    record {
      from = omega (arith, e, f);
      within = omega (arith, e);
      between = λ n from less. c.loop-index.invariant n from (omega (arith, t, less));
    }
