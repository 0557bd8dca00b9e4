use Rattle.linker_base.proofs.Imports.{All, IsWalking, List, Reached, RelaxDelta, ap, arith, begun_below, deletion_of, false≢true, inl, inr, map, max, passed_in, rank, refl, sym, take, walk_at, ℕ, ◌+◌, ◌<◌, ◌∙◌, ◌≡◌, ◌≤◌}
use Rattle.linker_base.proofs.Walking.{walked_ahead, walked_below_end, passed_is, passes_none, begin_below}
use Rattle.linker_base.proofs.relaxation.cursor.RelaxCursor.translate.Goals.{else-input_offset-self-via-then-input_offset-self+else-is_ahead, else-input_offset-self-via-else-input_offset-self}
use Rattle.linker_base.proofs.relaxation.cursor.RelaxCursor.translate.Goals as goal

-- ---- deltas are passed

pub invariant_of-self : goal.invariant_of-self
invariant_of-self c =
    let deltas = c.self.inside.deltas.now in
    let walked = c.pass.ensures deltas _ c.self.invariant.listed c.self.invariant.walked in
    record { listed = c.self.invariant.listed; walked = rw (passed_is deltas _ c.pass.new.self walked) walked }

pub overflow_sub-result : goal.overflow_sub-result
overflow_sub-result c =
    let deltas = c.self.inside.deltas.now in
    let below = walked_below_end deltas c.self.invariant.listed c.pass.new.self _ (c.pass.ensures deltas _ c.self.invariant.listed c.self.invariant.walked) in
    omega (arith, below, c.max.ensures)

pub returns-then-self-input_offset-clause-ahead : goal.returns-then-self-input_offset-clause-ahead
returns-then-self-input_offset-clause-ahead c given =
    let deltas = c.self.inside.deltas.now in
    let before = passed_in deltas c.self.inside.reached in
    let k = max before (begun_below (map deletion_of deltas) c.args.input_offset) in
    let walked = c.pass.ensures deltas before c.self.invariant.listed c.self.invariant.walked in
    let moved = walked_ahead deltas c.self.invariant.listed before c.args.input_offset k c.pass.new.self c.self.invariant.walked.within refl walked (rw (← c.self.view_is) at given) in
    rw (← c.self.view_is) (omega (arith, moved.0, c.max.ensures))

pub returns-then-self-input_offset-clause-step_back : goal.returns-then-self-input_offset-clause-step_back
returns-then-self-input_offset-clause-step_back c back = absurd (back (rw (← c.self.view_is) (begin_below c.self.inside.deltas.now c.self.invariant.listed c.self.inside.reached _ c.args.input_offset c.self.invariant.walked c.if-self-input_offset.true (omega (arith, c.ranges.input_offset.fits)))))

-- ---- none is passed

stays : (deltas : List RelaxDelta) (reached : Reached) (i : ℕ) → IsWalking deltas reached → i ≤ reached.next → passed_in deltas reached ≡ max (passed_in deltas reached) (begun_below (map deletion_of deltas) i)
stays deltas reached i walking low = passes_none deltas walking.listed reached _ i walking.walked low

ranked : (deltas : List RelaxDelta) (reached : Reached) (i : ℕ) → IsWalking deltas reached → i ≤ reached.next → All (λ d. d.0 < i) (take (passed_in deltas reached) (map deletion_of deltas)) → rank (map deletion_of deltas) i + reached.deleted ≡ max i reached.end
ranked deltas reached i walking low ahead = (walked_ahead deltas walking.listed (passed_in deltas reached) i (passed_in deltas reached) reached walking.walked.within (stays deltas reached i walking low) walking.walked ahead).0

pub overflow_sub-result-then-is_ahead : goal.overflow_sub-result-then-is_ahead
overflow_sub-result-then-is_ahead c = walked_below_end c.self.inside.deltas.now c.self.invariant.listed c.self.inside.reached _ c.self.invariant.walked

pub returns-then-is_ahead-clause-walks : goal.returns-then-is_ahead-clause-walks
returns-then-is_ahead-clause-walks c = rw (← c.self.view_is) (ap (walk_at (map deletion_of c.self.inside.deltas.now)) (stays c.self.inside.deltas.now c.self.inside.reached c.args.input_offset c.self.invariant (omega (arith, c.if-self-input_offset.false))))

pub returns-then-is_ahead-clause-ahead : goal.returns-then-is_ahead-clause-ahead
returns-then-is_ahead-clause-ahead c given =
    let is = ranked c.self.inside.deltas.now c.self.inside.reached c.args.input_offset c.self.invariant (omega (arith, c.if-self-input_offset.false)) (rw (← c.self.view_is) at given) in
    rw (← c.self.view_is) (omega (arith, is, c.if-input_offset-self.true))

pub overflow_sub-result-2 : goal.overflow_sub-result-2
overflow_sub-result-2 c = elim c.else-input_offset-self.branch [
  | else-input_offset-self-via-else-input_offset-self w ↦
      let below = walked_below_end c.self.inside.deltas.now c.self.invariant.listed c.self.inside.reached _ c.self.invariant.walked in
      omega (arith, below, w.if-input_offset-self.false)
  | else-input_offset-self-via-then-input_offset-self+else-is_ahead w ↦
      elim c.requires [
        | inl ahead ↦ absurd (false≢true (sym w.if-is_ahead.false ∙ w.is_ahead.ensures.1 ahead))
        | inr fits ↦ omega (arith, c.self.invariant.walked.sum, rw (← c.self.view_is) at fits)
      ]
]

pub returns-clause-walks : goal.returns-clause-walks
returns-clause-walks c = rw (← c.self.view_is) (ap (walk_at (map deletion_of c.self.inside.deltas.now)) (stays c.self.inside.deltas.now c.self.inside.reached c.args.input_offset c.self.invariant (omega (arith, c.if-self-input_offset.false))))

pub returns-clause-ahead : goal.returns-clause-ahead
returns-clause-ahead c given = elim c.else-input_offset-self.branch [
  | else-input_offset-self-via-else-input_offset-self w ↦
      let is = ranked c.self.inside.deltas.now c.self.inside.reached c.args.input_offset c.self.invariant (omega (arith, c.if-self-input_offset.false)) (rw (← c.self.view_is) at given) in
      rw (← c.self.view_is) (omega (arith, is, w.if-input_offset-self.false))
  | else-input_offset-self-via-then-input_offset-self+else-is_ahead w ↦ absurd (false≢true (sym w.if-is_ahead.false ∙ w.is_ahead.ensures.1 given))
]
