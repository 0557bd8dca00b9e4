use Rattle.linker_runs.proofs.Imports.{Fault, IsClearRun, IsFirstOf, ItemMeets, UnitMeets, ap, arith, item_at, subst, sym, target_of, ◌∙◌}
use Rattle.linker_runs.proofs.Validity.{own_item, own_formed, run_met, run_earlier, first_unit, clear_of, clear_met}
use Rattle.linker_runs.proofs.relaxation.faults.run_fault.Goals as goal

pub granularity_fault-requires-clause-few : goal.granularity_fault-requires-clause-few
granularity_fault-requires-clause-few c = subst (λ it. (fault : Fault) → ItemMeets it fault) (sym c.at-item.ensures) (own_item c.args.start c.args.items.now c.args.index (c.requires.sound c.args.index c.requires.within))

pub has_its_nops-requires-clause-formed : goal.has_its_nops-requires-clause-formed
has_its_nops-requires-clause-formed c = own_formed c.args.start c.args.items.now c.requires.sound c.args.index c.requires.within

pub returns-in-Some : goal.returns-in-Some
returns-in-Some c = first_unit c.args.granularity c.args.start c.args.items.now c.args.index c.in-Some.fault (subst (λ it. IsFirstOf (UnitMeets c.args.granularity c.args.start it) c.in-Some.fault) c.at-item.ensures c.in-Some.ensures)

pub returns-then-not-is_clear : goal.returns-then-not-is_clear
returns-then-not-is_clear c =
    let items = c.args.items.now in
    record {
      here = λ met. (let yes = c.is_clear.ensures.1 (subst (IsClearRun items) (sym (c.target.ensures ∙ ap target_of c.at-item.ensures)) (clear_of c.args.start items (target_of (item_at items c.args.index)) c.requires.in_order met)) in cc);
      earlier = run_earlier c.args.granularity c.args.start items c.args.index 14 (subst (λ it. (fault : Fault) → UnitMeets c.args.granularity c.args.start it fault) c.at-item.ensures c.in_default.ensures) (omega arith) (λ h. absurd (omega arith));
    }

pub returns-then-not-has_its_nops : goal.returns-then-not-has_its_nops
returns-then-not-has_its_nops c =
    let items = c.args.items.now in
    let clear = subst (IsClearRun items) (c.target.ensures ∙ ap target_of c.at-item.ensures) (c.is_clear.ensures.0 c.if-not-is_clear.false) in
    record {
      here = λ met. (let yes = c.has_its_nops.ensures.1 met in cc);
      earlier = run_earlier c.args.granularity c.args.start items c.args.index 15 (subst (λ it. (fault : Fault) → UnitMeets c.args.granularity c.args.start it fault) c.at-item.ensures c.in_default.ensures) (omega arith) (λ _. clear_met c.args.granularity c.args.start items c.args.index c.requires.in_order clear);
    }

pub returns-else-not-has_its_nops : goal.returns-else-not-has_its_nops
returns-else-not-has_its_nops c =
    run_met c.args.granularity c.args.start c.args.items.now c.args.index c.requires.in_order (subst (λ it. (fault : Fault) → UnitMeets c.args.granularity c.args.start it fault) c.at-item.ensures c.in_default.ensures)
    (subst (IsClearRun c.args.items.now) (c.target.ensures ∙ ap target_of c.at-item.ensures) (c.is_clear.ensures.0 c.if-not-is_clear.false))
    (c.has_its_nops.ensures.0 c.if-not-has_its_nops.false)
