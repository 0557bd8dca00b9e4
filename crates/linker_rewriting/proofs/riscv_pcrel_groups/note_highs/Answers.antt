use Rattle.linker_rewriting.proofs.Imports.{AreHighsNoted, Consumed, IfSome, IsLacking, None, Some, ap, arith, context_of, decision_in, drop-set-lt, length, length-map, map, map-set, slice_set, subst, sym, ◌+◌, ◌/◌, ◌<◌, ◌∙◌, ◌≡◌}
use Rattle.linker_rewriting.proofs.LabelGroups.{more_noted, same_noted}
use Rattle.linker_rewriting.proofs.riscv_pcrel_groups.note_highs.Goals as goal

pub loop-index-preserved : goal.loop-index-preserved
loop-index-preserved c =
    let a = c.args in
    let k = c.loop-index.index in
    let within : c.in-Some.high < length a.relocations.now / 24 =
    subst (λ x. IfSome x (λ high. high < length a.relocations.now / 24)) c.in-Some.is c.lacking.ensures.within in
    let f = decision_in in
    let xs = c.loop-index.decisions in
    let ds = map f xs in
    let s = context_of a.context.now in
    let within_map : c.in-Some.high < length ds =
    (let m = length-map xs f in let l = c.loop-index.auto.decisions in let e = c.requires.enough in omega (arith, m, l, e, within)) in
    let written : map f (slice_set xs c.in-Some.high c.from_decision.result) ≡ slice_set ds c.in-Some.high Consumed =
    map-set f xs c.in-Some.high c.from_decision.result ∙ ap (slice_set ds c.in-Some.high) c.from_decision.ensures.decision in
    record {
      noted = subst (λ l. AreHighsNoted s a.relocations.now a.section.now l (k + 1)) (sym written)
          (more_noted s a.relocations.now a.section.now ds k c.in-Some.high
          c.loop-index.invariant.noted
          (subst (λ r. IsLacking s a.relocations.now a.section.now k r (Some c.in-Some.high)) c.relocation_in.ensures
          (subst (IsLacking s a.relocations.now a.section.now k c.relocation_in.result) c.in-Some.is
          (c.lacking.ensures.lacking c.requires.ascending)))
          within_map);
      others = drop-set-lt (length a.relocations.now / 24) xs c.in-Some.high c.from_decision.result within ∙ c.loop-index.invariant.others;
    }

pub loop-index-preserved-in_default : goal.loop-index-preserved-in_default
loop-index-preserved-in_default c =
    let a = c.args in
    let k = c.loop-index.index in
    record {
      noted = same_noted (context_of a.context.now) a.relocations.now a.section.now
          (map decision_in c.loop-index.decisions) k c.loop-index.invariant.noted
          (subst (λ r. IsLacking (context_of a.context.now) a.relocations.now a.section.now k r None) c.relocation_in.ensures
          (subst (IsLacking (context_of a.context.now) a.relocations.now a.section.now k c.relocation_in.result) c.in_default.is
          (c.lacking.ensures.lacking c.requires.ascending)));
      others = c.loop-index.invariant.others;
    }
