use Rattle.linker_reading.proofs.Imports.{Choice, IsRecognisable, Some, ap, arith, choices_at, false≢true, length, length-take, rules, slice_get, subst, sym, ◌+◌, ◌<◌, ◌∙◌, ◌≡◌, ◌≤◌}
use Rattle.linker_reading.proofs.Found.{one_of}
use Rattle.linker_reading.proofs.Kept.{AreKept, none_kept, one_kept, not_kept, all_kept}
use Rattle.linker_reading.proofs.Tables.{following, taken_few}
use Rattle.linker_reading.proofs.windows.those_there.Goals.{then-is_there, else-is_there}
use Rattle.linker_reading.proofs.windows.those_there.Goals as goal

pub loop-index-init : goal.loop-index-init
loop-index-init g c = (
  omega arith,
  none_kept (λ (d : Choice g.row.N-Kind.Denot g.row.N.Denot). IsRecognisable g.N.RecognisedName.how c.args.name c.args.bytes.now c.args.offset d)
      (choices_at g.N.RecognisedName.how c.args.name c.args.bytes.now c.args.offset)
      c.listed-choices.result.0 c.listed-choices.result.1 c.listed-choices.ensures.choices,
)

pub loop-index-preserved : goal.loop-index-preserved
loop-index-preserved g c =
    let IsSo = λ (d : Choice g.row.N-Kind.Denot g.row.N.Denot). IsRecognisable g.N.RecognisedName.how c.args.name c.args.bytes.now c.args.offset d in
    let list = choices_at g.N.RecognisedName.how c.args.name c.args.bytes.now c.args.offset in
    let first = c.listed-choices.result.0 in
    let array = c.loop-index.choices in
    let i = c.loop-index.index in
    let kept = c.loop-index.kept in
    let few = c.loop-index.invariant.0 in
    let were = c.loop-index.invariant.1 in
    let one = c.choice_at-choice.result in
    let below = c.loop-index-test.true in
    let most = c.listed-choices.ensures.few in
    let within : i < length list =
    (let all : length first ≡ 6 = search rules in
    let same = ap length c.listed-choices.ensures.choices in
    let taken = length-take c.listed-choices.result.1 first in
    omega (arith, all, same, taken, below, most)) in
    let at : slice_get list i ≡ Some one = sym (were.rest i (omega arith) within) ∙ c.choice_at-choice.ensures in
    let test = c.is_there.ensures c.args.name (one_of one list i at) in
    elim c.if-is_there.branch [
      | then-is_there w ↦
          let room : kept < length array = (let inside = following one array i c.choice_at-choice.ensures in omega (arith, few, inside)) in
          subst (λ k. (k ≤ i + 1) × AreKept IsSo list c.if-is_there.choices (i + 1) k) (sym w.kept-is) (
            omega (arith, few),
            subst (λ l. AreKept IsSo list l (i + 1) (kept + 1)) (sym (w.choices-is ∙ w.put.ensures))
                (one_kept IsSo list array i kept one at were few room (test.0 w.if-is_there.true)),
          )
      | else-is_there w ↦
          subst (λ k. (k ≤ i + 1) × AreKept IsSo list c.if-is_there.choices (i + 1) k) (sym w.kept-is) (
            omega (arith, few),
            subst (λ l. AreKept IsSo list l (i + 1) kept) (sym w.choices-is)
                (not_kept IsSo list array i kept one at were (λ is. false≢true (sym w.if-is_there.false ∙ test.1 is))),
          )
    ]

pub returns-clause-those : goal.returns-clause-those
returns-clause-those g c =
    let list = choices_at g.N.RecognisedName.how c.args.name c.args.bytes.now c.args.offset in
    all_kept (λ (d : Choice g.row.N-Kind.Denot g.row.N.Denot). IsRecognisable g.N.RecognisedName.how c.args.name c.args.bytes.now c.args.offset d)
    list c.loop-index.choices c.loop-index.index c.loop-index.kept c.loop-index.invariant.1
    (let few : length list ≤ c.listed-choices.result.1 = taken_few c.listed-choices.result.0 list c.listed-choices.result.1 c.listed-choices.ensures.choices in
    omega (arith, few, c.loop-index-test.false))
    (λ d is. is.listed)
