use Rattle.linker_section.proofs.Imports.{after, ap, arith, err_from_is_err_and, length, refl, relocation_in, rules, sym, to_z-of_z, w64, ◌/◌, ◌∙◌}
use Rattle.linker_section.proofs.Crels.{after_next, fails, rela_of, written_more}
use Rattle.linker_section.proofs.crel.decode.Goals as goal
use Rattle.linker_section.proofs.crel.decode.Goals.{then-index-relocations_len, else-index-relocations_len}

pub loop-index-init : goal.loop-index-init
unfolding after
loop-index-init c = record {
  reached = refl;
  within = c.requires;
  each = λ k below. absurd (omega arith);
}

pub returns-in_err-place-clause-err : goal.returns-in_err-place-clause-err
returns-in_err-place-clause-err c =
    let p = err_from_is_err_and c.from_residual.result c.from_residual.ensures.1 in
    let l = c.loop-index in
    rw (p.1, p.2) (fails l.index c.args.header.now.count c.args.header.now c.args.section.now l.place
    c.in_err-place.field-0.0 (omega arith) l.invariant.reached (sym c.next_of.ensures.is ∙ c.in_err-place.was))

pub loop-index-preserved : goal.loop-index-preserved
loop-index-preserved c =
    let h = c.args.header.now in
    let s = c.args.section.now in
    let l = c.loop-index in
    let room = length c.args.relocations.now / 24 in
    let after = c.if-index-relocations_len.relocations in
    let reached = after_next l.index h s l.place l.invariant.reached ∙ sym c.next_of.ensures.is ∙ c.in_ok-place.was in
    record {
      reached = reached;
      within = c.in_ok-place.ensures.within;
      each = elim c.if-index-relocations_len.branch [
        | then-index-relocations_len w ↦
            written_more h s l.index room l.relocations after c.in_ok-place.place reached l.invariant.each
            (λ k less within. ap (λ bytes. relocation_in bytes k) w.relocations-is ∙ w.set_relocation.ensures.others k (omega arith) (omega arith))
            (λ within. ap (λ bytes. relocation_in bytes l.index) w.relocations-is
            ∙ w.set_relocation.ensures.set ∙ ap (rela_of c.in_ok-place.place) (to_z-of_z w64 w.cast_signed.result (search rules) ∙ w.cast_signed.ensures))
        | else-index-relocations_len w ↦
            written_more h s l.index room l.relocations after c.in_ok-place.place reached l.invariant.each
            (λ k less within. ap (λ bytes. relocation_in bytes k) w.relocations-is) (λ within. absurd (omega arith))
      ];
    }

pub returns-clause-ok : goal.returns-clause-ok
returns-clause-ok c = λ k below. c.loop-index.invariant.each k (omega arith)
