use Rattle.linker_reading.proofs.AArch64Numbers.{movkz_held, ldst_held}
use Rattle.linker_reading.proofs.reading.aarch64.number.Goals as goal

pub returns-in-Movkz : goal.returns-in-Movkz
returns-in-Movkz c =
    rw c.in-Movkz.is (movkz_held _ c.read-number.result.0 c.low_bits.result
    (rw c.in-Movkz.is at c.read-number.ensures.number) c.low_bits.ensures)

pub returns-in-LdSt : goal.returns-in-LdSt
returns-in-LdSt c =
    rw c.in-LdSt.is (ldst_held _ c.read-number.result.0 c.low_bits-in-LdSt.result
    (rw c.in-LdSt.is at c.read-number.ensures.number) c.low_bits-in-LdSt.ensures)
