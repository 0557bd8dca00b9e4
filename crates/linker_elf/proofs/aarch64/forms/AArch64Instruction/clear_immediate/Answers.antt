use Rattle.linker_elf.proofs.Imports.{BitsWritten, aarch64_form, ap, bit_and, ored_cleared, subst, sym, ◌-◌, ◌^◌}
use Rattle.linker_elf.proofs.Codes.{aarch64_cleared}
use Rattle.linker_elf.proofs.aarch64.forms.AArch64Instruction.clear_immediate.Goals as goal

pub returns-clause-clears : goal.returns-clause-clears
returns-clause-clears c =
    let f = c.args.self in
    let x = c.args.word in
    subst (λ m. BitsWritten (ored_cleared ((aarch64_form f).places x)) 0 x (bit_and x (2 ^ 64 - 1 - m)))
    (sym (ap (λ k. k.ored) c.code.ensures)) (aarch64_cleared f x c.requires)
