use Rattle.linker_reading.proofs.Imports.{sym, ◌∙◌}
use Rattle.linker_reading.proofs.Ppc64Numbers.{d_held, ds_held, dq_held, branch14_held, branch24_held, prefixed_held}
use Rattle.linker_reading.proofs.reading.ppc64.number.Goals as goal

pub returns-then-is_dq_form : goal.returns-then-is_dq_form
returns-then-is_dq_form c =
    rw c.in-Ds.is (dq_held _ c.read-number.result.0 c.low_bits_signed.result
    (rw c.in-Ds.is at c.read-number.ensures.number) (sym (rw c.in-Ds.is at c.is_dq_form.ensures) ∙ c.if-is_dq_form.true)
    c.low_bits_signed.ensures)

pub returns-else-is_dq_form : goal.returns-else-is_dq_form
returns-else-is_dq_form c =
    rw c.in-Ds.is (ds_held _ c.read-number.result.0 c.low_bits_signed-else-is_dq_form.result
    (rw c.in-Ds.is at c.read-number.ensures.number) (sym (rw c.in-Ds.is at c.is_dq_form.ensures) ∙ c.if-is_dq_form.false)
    c.low_bits_signed-else-is_dq_form.ensures)

pub returns-in-D : goal.returns-in-D
returns-in-D c =
    rw c.in-D.is (d_held _ c.read-number.result.0 c.low_bits_signed-in-D.result
    (rw c.in-D.is at c.read-number.ensures.number) c.low_bits_signed-in-D.ensures)

pub returns-in-Branch24 : goal.returns-in-Branch24
returns-in-Branch24 c =
    rw c.in-Branch24.is (branch24_held _ c.read-number.result.0 c.low_bits_signed-in-Branch24.result
    (rw c.in-Branch24.is at c.read-number.ensures.number) c.low_bits_signed-in-Branch24.ensures)

pub returns-in-Prefixed : goal.returns-in-Prefixed
returns-in-Prefixed c =
    rw c.in-Prefixed.is (prefixed_held _ c.read-number.result.0 c.low_bits_signed-in-Prefixed.result
    (rw c.in-Prefixed.is at c.read-number.ensures.number) c.low_bits_signed-in-Prefixed.ensures)

pub returns-in-Branch14 : goal.returns-in-Branch14
returns-in-Branch14 c =
    rw c.in-Branch14.is (branch14_held _ c.read-number.result.0
    c.low_bits_signed-in-Branch14.result (rw c.in-Branch14.is at c.read-number.ensures.number)
    c.low_bits_signed-in-Branch14.ensures)
