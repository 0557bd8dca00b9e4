use Rattle.linker_rewriting.proofs.Imports.{IsInLabel, IsNoteOf, ap, arith, context_of, decision_in, drop-set-lt, false, length, length-map, map, map-set, slice_set, subst, sym, ◌+◌, ◌/◌, ◌<◌, ◌∙◌, ◌≡◌}
use Rattle.linker_rewriting.proofs.LabelGroups.{AreCopied, more_copied, same_copied}
use Rattle.linker_rewriting.proofs.riscv_pcrel_groups.copy_notes.Goals as goal

pub loop-index-preserved : goal.loop-index-preserved
loop-index-preserved c =
    let a = c.args in
    let k = c.loop-index.index in
    let f = decision_in in
    let xs = c.loop-index.decisions in
    let ds = map f xs in
    let first = map f a.decisions.now in
    let s = context_of a.context.now in
    let less : k < length a.relocations.now / 24 =
    (let t = c.loop-index-test.true in let n = c.relocations_len-index-end.ensures in omega arith) in
    let within : k < length ds =
    (let m = length-map xs f in let l = c.loop-index.auto.decisions in let e = c.requires.enough in omega (arith, m, l, e, less)) in
    let written : map f (slice_set xs k c.from_decision.result) ≡ slice_set ds k c.note_of-note.result =
    map-set f xs k c.from_decision.result ∙ ap (slice_set ds k) c.from_decision.ensures.decision in
    record {
      copied = subst (λ l. AreCopied s a.relocations.now a.section.now first l (k + 1)) (sym written)
          (more_copied s a.relocations.now a.section.now first ds k
          c.note_of-note.result c.loop-index.invariant.copied within
          c.requires.ascending c.requires.noted
          (subst (λ r. IsNoteOf a.context.now.phase a.context.now.addresses.now a.context.now.values.now a.relocations.now ds r c.note_of-note.result)
          c.relocation_in-relocation.ensures c.note_of-note.ensures));
      others = drop-set-lt (length a.relocations.now / 24) xs k c.from_decision.result less ∙ c.loop-index.invariant.others;
    }

pub loop-index-preserved-then-not-is_in_label : goal.loop-index-preserved-then-not-is_in_label
loop-index-preserved-then-not-is_in_label c =
    let a = c.args in
    let k = c.loop-index.index in
    let f = decision_in in
    record {
      copied = same_copied (context_of a.context.now) a.relocations.now a.section.now
          (map f a.decisions.now) (map f c.loop-index.decisions) k
          c.loop-index.invariant.copied
          (subst (λ r. IsInLabel a.context.now.architecture a.context.now.phase r.r_type false) c.relocation_in-relocation.ensures
          (subst (IsInLabel a.context.now.architecture a.context.now.phase c.relocation_in-relocation.result.r_type) c.if-not-is_in_label.true c.is_in_label.ensures));
      others = c.loop-index.invariant.others;
    }
