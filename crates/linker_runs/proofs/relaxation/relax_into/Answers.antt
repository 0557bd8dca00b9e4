use Rattle.linker_runs.proofs.Imports.{AreChosen, AreForced, AreFreed, AreItems, AreNotLonger, AreRelaxed, AreTooFewRounds, HaveNoAlignment, IsGreatestCautious, IsInReachExactly, IsRelaxation, Item, List, choice_of, get_or, inl, inr, subst, sym, ℕ}
use Rattle.linker_runs.proofs.Choices.{relaxed_exact, cautious_exactly, exactly_cautious}
use Rattle.linker_runs.proofs.Frees.{all_exact}
use Rattle.linker_runs.proofs.relaxation.relax_into.Goals as goal
use Rattle.linker_runs.proofs.relaxation.relax_into.Goals.{then-not-settle, else-not-settle}

-- what the shapes are, however they were chosen
record Chosen (start : ℕ) (items : List Item) (shapes freed : List ℕ) : Type 0 where
  chosen : AreChosen start items shapes
  reached : IsInReachExactly start items (choice_of shapes)
  forced : AreForced items shapes
  greatest : HaveNoAlignment items → (other : ℕ → ℕ) → IsInReachExactly start items other → AreNotLonger items shapes other
  laid_out : AreFreed start items shapes freed

settled : (start : ℕ) (items : List Item) (shapes freed : List ℕ) → AreItems start items → AreRelaxed start items shapes → AreForced items shapes → AreFreed start items shapes freed → Chosen start items shapes freed
settled start items shapes freed are relaxed forced laid = record {
  chosen = inl relaxed;
  reached = relaxed.reached;
  forced = forced;
  greatest = λ sites other reached. relaxed_exact start items shapes other are relaxed sites reached;
  laid_out = laid;
}

swept : (start : ℕ) (items : List Item) (shapes freed : List ℕ) → AreItems start items → AreTooFewRounds start items → IsGreatestCautious items shapes → AreFreed start items shapes freed → Chosen start items shapes freed
swept start items shapes freed are few greatest laid = record {
  chosen = inr (few, greatest);
  reached = cautious_exactly start items (choice_of shapes) are greatest.reached;
  forced = greatest.greatest;
  greatest = λ sites other reached. greatest.greatest other (exactly_cautious start items other are sites reached);
  laid_out = laid;
}

pub returns : goal.returns
returns c =
    let start = c.args.start in
    let items = c.new-list.result in
    let are : AreItems start items = subst (AreItems start) (sym c.new-list.ensures) c.requires.items in
    let shapes = c.if-not-settle.shapes in
    let freed = c.if-not-settle.freed in
    let is : Chosen start items shapes freed =
    elim c.if-not-settle.branch [
      | then-not-settle w ↦
          subst (λ s. Chosen start items s freed) (sym w.shapes-is)
          (swept start items w.choose_cautiously.new.shapes freed are (c.settle.ensures.too_few w.if-not-settle.true) w.choose_cautiously.ensures
          (subst (AreFreed start items w.choose_cautiously.new.shapes) (sym w.freed-is) w.lay_out.ensures))
      | else-not-settle w ↦
          (let both = c.settle.ensures.relaxed w.if-not-settle.false in
          subst (λ s. Chosen start items s freed) (sym w.shapes-is)
          (settled start items c.settle.new.shapes freed are both.0 c.settle.ensures.forced
          (subst (AreFreed start items c.settle.new.shapes) (sym w.freed-is) both.1)))
    ] in
    subst (λ xs. IsRelaxation start xs shapes c.keep.new.kept freed) c.new-list.ensures
    (record {
      chosen = is.chosen;
      reached = is.reached;
      kept_bytes = c.keep.ensures;
      freed_bytes = is.laid_out;
      aligned = λ i within. all_exact start items (choice_of shapes) are i within (get_or c.keep.new.kept i 0) (c.keep.ensures.each i within);
      not_longer = is.forced;
      greatest = is.greatest;
    })

pub keep-requires-clause-freed : goal.keep-requires-clause-freed
keep-requires-clause-freed c =
    let start = c.args.start in
    let items = c.new-list.result in
    elim c.if-not-settle.branch [
      | then-not-settle w ↦ subst (λ s. AreFreed start items s c.if-not-settle.freed) (sym w.shapes-is) (subst (AreFreed start items w.choose_cautiously.new.shapes) (sym w.freed-is) w.lay_out.ensures)
      | else-not-settle w ↦ subst (λ s. AreFreed start items s c.if-not-settle.freed) (sym w.shapes-is) (subst (AreFreed start items c.settle.new.shapes) (sym w.freed-is) (c.settle.ensures.relaxed w.if-not-settle.false).1)
    ]
