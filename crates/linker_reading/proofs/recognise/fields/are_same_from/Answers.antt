use Rattle.linker_reading.proofs.Imports.{AreSameFrom, arith, both_ways, false≢true, subst, ◌*◌, ◌+◌, ◌≡◌}
use Rattle.linker_reading.proofs.Words.{to_word, to_byte, four_more, one_more}
use Rattle.linker_reading.proofs.recognise.fields.are_same_from.Goals as goal

pub loop-word-preserved : goal.loop-word-preserved
loop-word-preserved c =
    subst (AreSameFrom c.args.field.now c.args.others.now c.args.from c.args.a.now c.args.b.now) (let e : 4 * c.loop-word.word + 4 ≡ 4 * (c.loop-word.word + 1) = omega arith in e)
    (four_more c.args.field.now c.args.others.now c.args.from c.args.a.now c.args.b.now (λ i. (c.type_inv.a i).fits) (λ i. (c.type_inv.b i).fits) (4 * c.loop-word.word) c.u32_from_slice-one.result c.u32_from_slice-other.result
    c.u32_from_slice-one.ensures c.u32_from_slice-other.ensures c.loop-word.invariant (c.is_same_but.ensures.0 c.if-not-is_same_but.false))

pub returns-then-not-is_same_but : goal.returns-then-not-is_same_but
returns-then-not-is_same_but c = (
  (λ t. absurd (false≢true t)),
  (λ same. absurd (both_ways c.is_same_but.result c.if-not-is_same_but.true (c.is_same_but.ensures.1
      (to_word c.args.field.now c.args.others.now c.args.from c.args.a.now c.args.b.now (λ i. (c.type_inv.a i).fits) (λ i. (c.type_inv.b i).fits) (4 * c.loop-word.word) c.u32_from_slice-one.result c.u32_from_slice-other.result
      c.u32_from_slice-one.ensures c.u32_from_slice-other.ensures (λ i h. same (4 * c.loop-word.word + i) (omega (arith, h, c.loop-word-test.true))))))),
)

pub loop-at-preserved : goal.loop-at-preserved
loop-at-preserved c =
    one_more c.args.field.now c.args.others.now c.args.from c.args.a.now c.args.b.now (λ i. (c.type_inv.a i).fits) (λ i. (c.type_inv.b i).fits) c.loop-at.at c.from-one.result c.from-other.result c.from-one.ensures c.from-other.ensures c.loop-at.invariant (c.is_same_but-in-loop-at.ensures.0 c.if-not-is_same_but-2.false)

pub returns-then-not-is_same_but-2 : goal.returns-then-not-is_same_but-2
returns-then-not-is_same_but-2 c = (
  (λ t. absurd (false≢true t)),
  (λ same. absurd (both_ways c.is_same_but-in-loop-at.result c.if-not-is_same_but-2.true (c.is_same_but-in-loop-at.ensures.1
      (to_byte c.args.field.now c.args.others.now c.args.from c.args.a.now c.args.b.now (λ i. (c.type_inv.a i).fits) (λ i. (c.type_inv.b i).fits) c.loop-at.at c.from-one.result c.from-other.result c.from-one.ensures c.from-other.ensures (same c.loop-at.at c.loop-at-test.true))))),
)
