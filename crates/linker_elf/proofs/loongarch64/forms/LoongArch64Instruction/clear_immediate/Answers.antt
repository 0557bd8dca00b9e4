use Rattle.linker_elf.proofs.Imports.{BitsWritten, LoongArch64, ap, bit_and, cleared, code_of, consecutive_bits, subst, sym, ◌-◌, ◌^◌, ◌∙◌}
use Rattle.linker_elf.proofs.Codes.{shift10_cleared}
use Rattle.linker_elf.proofs.loongarch64.forms.LoongArch64Instruction.clear_immediate.Goals as goal

pub returns-then-has_16_bits-clause-clears : goal.returns-then-has_16_bits-clause-clears
returns-then-has_16_bits-clause-clears c =
    let x = c.load.result in
    let laid = subst (λ m. BitsWritten (consecutive_bits 4 12 22 0 cleared) 0 x (bit_and x (2 ^ 64 - 1 - m)))
    (sym (ap (λ k. k.ored) c.code.ensures ∙ ap (λ f. (code_of (LoongArch64 f)).0.ored) c.in-Shift10.is))
    (shift10_cleared x c.load.ensures.small) in
    rw (c.in-Shift10.is, sym c.has_16_bits.ensures ∙ c.if-has_16_bits.true, sym c.load.ensures.loaded, c.store.ensures.stored)
    laid
