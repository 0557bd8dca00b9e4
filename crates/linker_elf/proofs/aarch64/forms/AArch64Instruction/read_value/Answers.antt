use Rattle.linker_elf.proofs.Codes.{low12_number}
use Rattle.linker_elf.proofs.aarch64.forms.AArch64Instruction.read_value.Goals as goal

pub returns-in-MachOLow12-clause-number : goal.returns-in-MachOLow12-clause-number
returns-in-MachOLow12-clause-number c =
    low12_number c.args.self c.args.bytes.now c.load-word.result c.scale_of.result c.number_in.result c.steps-steps.result.now c.scaled.result _
    c.in-MachOLow12.is c.steps-steps.ensures.moves c.scale_of.ensures.scale c.scale_of.ensures.small c.scaled.ensures c.number_in.ensures c.load-word.ensures.loaded
