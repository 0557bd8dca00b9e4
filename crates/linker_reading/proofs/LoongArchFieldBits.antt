-- The masks of fields of LoongArch have the bits that a write of a row may change.
use Rattle.linker_reading.proofs.Imports.{BitRange, Bool, LoongArch64, LoongArch64Instruction, bit_at, false, if◌then◌else◌, instruction_mask, is_instruction_bit, is_placed, loongarch_form, nat_lt, refl, shift10_low, true, ℕ, ◌-◌, ◌<◌, ◌==◌, ◌≡◌}
use Rattle.linker_elf.specs.declared.loongarch64.forms.LoongArch64Instruction.TheVariants as loongarch
use Rattle.linker_reading.proofs.Masks.{agrees}

shift10_agrees : (b : Bool) (x w : ℕ) → w < 64
    → (bit_at (if b then 0x3fffc00 else 0x3ffc00) w == 1)
    ≡ (if b then is_placed ((loongarch_form loongarch.Shift10).places x) w else is_placed shift10_low w)
shift10_agrees true x w h = agrees 0x3fffc00 (is_placed ((loongarch_form loongarch.Shift10).places 0)) refl w h
shift10_agrees false x w h = agrees 0x3ffc00 (is_placed shift10_low) refl w h

pub loongarch_agrees : (f : LoongArch64Instruction) (bits : BitRange) (x w : ℕ) → w < 64
    → (bit_at (instruction_mask (LoongArch64 f) bits x) w == 1) ≡ is_instruction_bit (LoongArch64 f) bits x w
loongarch_agrees loongarch.Shift5 bits x w h = agrees 0x1ffffe0 (is_instruction_bit (LoongArch64 loongarch.Shift5) bits 0) refl w h
loongarch_agrees loongarch.Shift10 bits x w h = shift10_agrees (nat_lt 12 (bits.end - bits.start)) x w h
loongarch_agrees loongarch.Branch26 bits x w h = agrees 0x3ffffff (is_instruction_bit (LoongArch64 loongarch.Branch26) bits 0) refl w h
loongarch_agrees loongarch.Branch21 bits x w h = agrees 0x3fffc1f (is_instruction_bit (LoongArch64 loongarch.Branch21) bits 0) refl w h
loongarch_agrees loongarch.Call30 bits x w h = agrees 0x7fc0001ffffe0 (is_instruction_bit (LoongArch64 loongarch.Call30) bits 0) refl w h
loongarch_agrees loongarch.Call36 bits x w h = agrees 0x3fffc0001ffffe0 (is_instruction_bit (LoongArch64 loongarch.Call36) bits 0) refl w h
