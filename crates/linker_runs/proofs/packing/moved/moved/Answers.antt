use Rattle.linker_runs.proofs.Imports.{BecomesType, ap, arith, deletions_of, rank, rules, section_of, subst, sym, ◌+◌, ◌-◌, ◌∙◌}
use Rattle.linker_runs.proofs.packing.moved.moved.Goals as goal
use Rattle.linker_runs.proofs.packing.moved.moved.Goals.{then-relocation-len-2, else-relocation-len-2}

pub returns : goal.returns
returns c = λ valid begun start ready.
    let ds = deletions_of c.args.deltas.now in
    let s = section_of c.args.section.now c.args.base ds start in
    let place = c.position_of-here.ensures.offset in
    let here = c.position_of-here.ensures.position valid in
    record {
      offset = λ inside. omega (arith, c.saturating_sub.ensures, (here.output ∙ ap (rank ds) place), (begun.output ∙ ap (rank ds) c.requires.begin));
      r_type = λ low. elim c.if-relocation-len-2.branch [
        | then-relocation-len-2 w ↦
            subst (λ r_type. BecomesType c.args.machine s c.args.items.now (c.args.base + c.args.relocation.now.offset) c.args.relocation.now.r_type r_type) (sym w.r_type-is)
            (subst (λ p. BecomesType c.args.machine s c.args.items.now p c.args.relocation.now.r_type w.r_type_of-r_type.result) place
            (w.r_type_of-r_type.ensures valid here c.args.section.now c.args.base start c.requires.small ready))
        | else-relocation-len-2 w ↦ absurd (omega (arith, w.if-relocation-len-2.false, low))
      ];
      symbol = search rules;
      addend = search rules;
      end_r_type = λ past. elim c.if-relocation-len-2.branch [
        | then-relocation-len-2 w ↦ absurd (omega (arith, w.if-relocation-len-2.true, past))
        | else-relocation-len-2 w ↦ w.r_type-is
      ];
      outside = λ far. absurd (omega (arith, c.if-relocation-len.false, far));
    }
