use Rattle.linker_output.proofs.Imports.{arith, bit_at, refl, shr_and_one, sym, ◌+◌, ◌∙◌, ◌≡◌, ◌≢◌}
use Rattle.linker_output.proofs.RelrLists.{marks_none, marks_without, marks_with, marked_wraps}
use Rattle.linker_output.proofs.relr.put_marked.Goals as goal
use Rattle.linker_output.proofs.relr.put_marked.Goals.{then-bitmap-bit-eq1+else-address, else-bitmap-bit-eq1}

pub loop-bit-init : goal.loop-bit-init
loop-bit-init c = marks_none c.args.base c.args.bitmap c.args.index c.args.addresses.now (omega arith)

pub returns-then-address-clause-err : goal.returns-then-address-clause-err
returns-then-address-clause-err c =
    let n = c.loop-bit.bit in
    (refl, marked_wraps n c.args.base c.args.bitmap (sym (shr_and_one c.args.bitmap (n + 1)) ∙ c.if-bitmap-bit-eq1.true) (omega arith) (omega arith))

pub loop-bit-preserved : goal.loop-bit-preserved
loop-bit-preserved c =
    let l = c.loop-bit in
    let n = l.bit in
    elim c.if-bitmap-bit-eq1.branch [
      | then-bitmap-bit-eq1+else-address w ↦
          let one : bit_at c.args.bitmap (n + 1) ≡ 1 = (sym (shr_and_one c.args.bitmap (n + 1))) ∙ w.if-bitmap-bit-eq1.true in
          rw (w.next-is, w.addresses-is, w.put-next.ensures.next, w.put-next.ensures.written, w.from.ensures)
          (marks_with n c.args.base c.args.bitmap c.args.index c.args.addresses.now l.next l.addresses one (omega arith) (omega arith) l.invariant)
      | else-bitmap-bit-eq1 w ↦
          let clear : bit_at c.args.bitmap (n + 1) ≢ 1 = λ e. w.if-bitmap-bit-eq1.false (shr_and_one c.args.bitmap (n + 1) ∙ e) in
          rw (w.next-is, w.addresses-is) (marks_without n c.args.base c.args.bitmap c.args.index c.args.addresses.now l.next l.addresses clear l.invariant)
    ]
