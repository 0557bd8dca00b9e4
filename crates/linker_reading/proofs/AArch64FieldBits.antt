-- The masks of fields of AArch64 have the bits that a write of a row may change.
use Rattle.linker_reading.proofs.Imports.{AArch64, AArch64Instruction, BitRange, access_scale, agree_below, agree_below_at, bit_at, instruction_mask, is_instruction_bit, is_placed, low12_places, refl, scale_small, true, ℕ, ◌<◌, ◌==◌, ◌≡◌}
use Rattle.linker_elf.specs.declared.aarch64.forms.AArch64Instruction.TheVariants as aarch64
use Rattle.linker_reading.proofs.Masks.{agrees}

-- the 12 bits are at the same place for each scale
low12_agrees : (s : ℕ) → s < 5 → (w : ℕ) → w < 64 → (bit_at 0x003ffc00 w == 1) ≡ is_placed (low12_places s) w
low12_agrees s small w h =
    agrees 0x003ffc00 (is_placed (low12_places s))
    (agree_below_at (λ k. agree_below (λ v. bit_at 0x003ffc00 v == 1) (is_placed (low12_places k)) 64) (λ _. true) 5 s refl small) w h

pub aarch64_agrees : (f : AArch64Instruction) (bits : BitRange) (x w : ℕ) → w < 64
    → (bit_at (instruction_mask (AArch64 f) bits x) w == 1) ≡ is_instruction_bit (AArch64 f) bits x w
aarch64_agrees aarch64.Adr bits x w h = agrees 0x60ffffe0 (is_instruction_bit (AArch64 aarch64.Adr) bits 0) refl w h
aarch64_agrees aarch64.Movkz bits x w h = agrees 0x001fffe0 (is_instruction_bit (AArch64 aarch64.Movkz) bits 0) refl w h
aarch64_agrees aarch64.Movnz bits x w h = agrees 0x7f9fffe0 (is_instruction_bit (AArch64 aarch64.Movnz) bits 0) refl w h
aarch64_agrees aarch64.Ldr bits x w h = agrees 0x00ffffe0 (is_instruction_bit (AArch64 aarch64.Ldr) bits 0) refl w h
aarch64_agrees aarch64.LdrRegister bits x w h = agrees 0x003ffc00 (is_instruction_bit (AArch64 aarch64.LdrRegister) bits 0) refl w h
aarch64_agrees aarch64.Add bits x w h = agrees 0x003ffc00 (is_instruction_bit (AArch64 aarch64.Add) bits 0) refl w h
aarch64_agrees aarch64.LdSt bits x w h = agrees 0x003ffc00 (is_instruction_bit (AArch64 aarch64.LdSt) bits 0) refl w h
aarch64_agrees aarch64.TstBr bits x w h = agrees 0x0007ffe0 (is_instruction_bit (AArch64 aarch64.TstBr) bits 0) refl w h
aarch64_agrees aarch64.Bcond bits x w h = agrees 0x00ffffe0 (is_instruction_bit (AArch64 aarch64.Bcond) bits 0) refl w h
aarch64_agrees aarch64.JumpCall bits x w h = agrees 0x03ffffff (is_instruction_bit (AArch64 aarch64.JumpCall) bits 0) refl w h
aarch64_agrees aarch64.MachOLow12 bits x w h = low12_agrees (access_scale x) (scale_small x) w h
