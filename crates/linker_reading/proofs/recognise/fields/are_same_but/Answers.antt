use Rattle.linker_reading.proofs.Imports.{both_ways, eq-eqb, sym, ◌∙◌}
use Rattle.linker_reading.proofs.Words.{IsFrontSame, no_front, of_parts, to_front, to_rest}
use Rattle.linker_reading.proofs.recognise.fields.are_same_but.Goals.{then-split-eq0, else-split-eq0}
use Rattle.linker_reading.proofs.recognise.fields.are_same_but.Goals as goal

pub returns-then-are_same_from : goal.returns-then-are_same_from
returns-then-are_same_from c = (
  (λ t. of_parts c.args.field.now c.args.others.now c.args.start c.args.count c.args.a.now c.args.b.now c.requires.start front (c.are_same_from-then-are_same_from.ensures.0 t)),
  (λ same. c.are_same_from-then-are_same_from.ensures.1 (to_rest c.args.field.now c.args.others.now c.args.start c.args.count c.args.a.now c.args.b.now c.requires.start same)),
)
  where
    front : IsFrontSame c.args.field.now c.args.others.now c.args.start c.args.count c.args.a.now c.args.b.now c.requires.start
    front = elim c.if-split-eq0.branch [
      | then-split-eq0 w ↦ no_front c.args.field.now c.args.others.now c.args.start c.args.count c.args.a.now c.args.b.now c.requires.start w.if-split-eq0.true
      | else-split-eq0 w ↦ w.are_same_from.ensures.0 (sym w.value-is ∙ c.if-are_same_from.true)
    ]

pub returns-else-are_same_from : goal.returns-else-are_same_from
returns-else-are_same_from c = elim c.if-split-eq0.branch [
  | then-split-eq0 w ↦ absurd (both_ways _ c.if-are_same_from.false (w.value-is ∙ eq-eqb c.args.start 0 w.if-split-eq0.true))
  | else-split-eq0 w ↦ (
    (λ t. absurd (both_ways _ c.if-are_same_from.false t)),
    (λ same. w.value-is ∙ w.are_same_from.ensures.1 (to_front c.args.field.now c.args.others.now c.args.start c.args.count c.args.a.now c.args.b.now c.requires.start same)),
  )
]
