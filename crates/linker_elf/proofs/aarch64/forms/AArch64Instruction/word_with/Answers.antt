use Rattle.linker_elf.proofs.Codes.{plain_word, movnz_word, low12_word}
use Rattle.linker_elf.proofs.aarch64.forms.AArch64Instruction.word_with.Goals as goal

pub returns-in-Movnz : goal.returns-in-Movnz
returns-in-Movnz c =
    let both = movnz_word c.args.self c.args.value c.args.negative c.args.word c.move_bits-bits.result.0 c.move_bits-bits.result.1 c.window_with.result
    c.code-code.result.now c.steps-steps.result.now c.in-Movnz.is c.code-code.ensures c.steps-steps.ensures.moves
    c.move_bits-bits.ensures.bits c.move_bits-bits.ensures.opcode c.window_with.ensures in
    record { small = both.0; written = both.1 }

pub returns-in-MachOLow12 : goal.returns-in-MachOLow12
returns-in-MachOLow12 c =
    let both = low12_word c.args.self c.args.value c.args.negative c.args.word c.scale_of.result c.window_with-in-MachOLow12.result
    c.code-code.result.now c.steps-steps.result.now c.scaled.result _ c.in-MachOLow12.is c.code-code.ensures c.steps-steps.ensures.moves
    c.scale_of.ensures.scale c.scale_of.ensures.small c.scaled.ensures c.window_with-in-MachOLow12.ensures c.requires in
    record { small = both.0; written = both.1 }

pub returns-in_default : goal.returns-in_default
returns-in_default c =
    let both = plain_word c.args.self c.args.value c.args.negative c.args.word c.window_with-in_default.result
    c.code-code.result.now c.steps-steps.result.now c.in_default.not-Movnz c.in_default.not-MachOLow12 c.code-code.ensures c.steps-steps.ensures.moves
    c.window_with-in_default.ensures c.requires in
    record { small = both.0; written = both.1 }
