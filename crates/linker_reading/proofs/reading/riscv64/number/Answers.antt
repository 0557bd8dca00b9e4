use Rattle.linker_reading.proofs.RiscVNumbers.{utype_held, clui_held}
use Rattle.linker_reading.proofs.reading.riscv64.number.Goals as goal

pub returns-in-UType : goal.returns-in-UType
returns-in-UType c =
    rw c.in-UType.is (utype_held _ c.read-number.result.0
    (rw c.in-UType.is at c.read-number.ensures.number))

pub returns-in-CluiType : goal.returns-in-CluiType
returns-in-CluiType c =
    rw c.in-CluiType.is (clui_held _ c.read-number.result.0
    (rw c.in-CluiType.is at c.read-number.ensures.number))
