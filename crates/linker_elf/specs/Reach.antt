-- Which values of a relocation the machine reads back as they are, or the psABI allows: the row's
-- own range, and for halves and pairs of instructions, and where the psABI checks what the row
-- doesn't, the ranges below.
use Rattle.linker_elf.specs.Imports.{AArch64, AArch64Instruction, BitMasking, BitRange, ByteSize}
use Rattle.linker_elf.specs.Imports.{Call36, CluiType, D, GotRelGotBase, GotRelative, IType}
use Rattle.linker_elf.specs.Imports.{LoongArch64, LoongArch64Instruction, Movnz, PltRelative, Ppc64}
use Rattle.linker_elf.specs.Imports.{Ppc64Form, RelocationKind, RiscV, RiscVInstruction, RowSize}
use Rattle.linker_elf.specs.Imports.{SType, Signed, UType, UiType}
use Rattle.std.specs.Prelude.{Bool, None, Some, false, nat_lt, neg_ℤ, pos, true, ℕ, ℤ, ◌+◌, ◌-◌}
use Rattle.std.specs.Prelude.{◌^◌, ◌==◌, if◌then◌else◌, ◌&&◌}
use Rattle.linker_elf.specs.Elf.{bit_bounds}
use Rattle.linker_elf.specs.declared.elf.RowInfo.{RowInfo}
use Rattle.linker_elf.specs.Rows.{Bounds}

-- `lui` or `auipc` with a low part of 12 signed bits: 2 ^ 31 on either side, less 0x800
abbrev pub riscv_pair_bounds : ℤ × ℤ
riscv_pair_bounds = (neg_ℤ (pos (2 ^ 31 + 0x800)), pos (2 ^ 31 - 0x800))

-- `c.lui`, of 6 signed bits, with that low part
abbrev pub clui_bounds : ℤ × ℤ
clui_bounds = (neg_ℤ (pos 0x20800), pos 0x1f800)

-- Of those `c.lui` has none whose high part is 0: the ISA reserves its immediate 0.
abbrev pub clui_hole : ℤ × ℤ
clui_hole = (neg_ℤ (pos 0x800), pos 0x800)

-- `pcaddu18i` with a `jirl` of 16 signed bits, in units of 4 bytes
abbrev pub call36_bounds : ℤ × ℤ
call36_bounds = (neg_ℤ (pos (2 ^ 37 + 0x20000)), pos (2 ^ 37 - 0x20000))

-- MOVN and MOVZ of bits up to 16, 32 or 48: the value is as short, or its complement is (MOVW_PREL
-- and MOVW_GOTOFF of G0 to G2, and those of TLS)
abbrev pub aarch64_reach : AArch64Instruction → BitRange → Bounds → Bounds
aarch64_reach Movnz bits None =
    if nat_lt 48 bits.end then None else Some (bit_bounds (bits.end + 1) Signed)
aarch64_reach insn bits own = own

abbrev pub riscv_reach : RiscVInstruction → Bounds → Bounds
riscv_reach UType own = Some riscv_pair_bounds
riscv_reach IType own = Some riscv_pair_bounds
riscv_reach SType own = Some riscv_pair_bounds
riscv_reach UiType own = Some riscv_pair_bounds
riscv_reach CluiType own = Some clui_bounds
riscv_reach insn own = own

abbrev pub loongarch_reach : LoongArch64Instruction → Bounds → Bounds
loongarch_reach Call36 own = Some call36_bounds
loongarch_reach insn own = own

-- the high halves, which the psABI checks: 16 signed bits from bit 16 up
abbrev pub ppc64_reach : Ppc64Form → BitRange → Bounds → Bounds
ppc64_reach D bits None = if bits.start == 16 then Some (bit_bounds 32 Signed) else None
ppc64_reach insn bits own = own

-- the distance to a GOT entry or a PLT entry, or the entry's offset in the GOT, in 4 bytes: code
-- reads them in two's complement
abbrev pub signed_in_4_bytes : RelocationKind → Bool
signed_in_4_bytes GotRelative = true
signed_in_4_bytes GotRelGotBase = true
signed_in_4_bytes PltRelative = true
signed_in_4_bytes kind = false

abbrev pub bytes_reach : RelocationKind → ℕ → Bounds → Bounds
bytes_reach kind n own =
    if signed_in_4_bytes kind && n == 4 then Some (bit_bounds 32 Signed) else own

abbrev pub reach_of_size : RelocationKind → RowSize → Bounds → Bounds
reach_of_size kind (ByteSize n) own = bytes_reach kind n own
reach_of_size kind (BitMasking bits (AArch64 insn)) own = aarch64_reach insn bits own
reach_of_size kind (BitMasking bits (RiscV insn)) own = riscv_reach insn own
reach_of_size kind (BitMasking bits (Ppc64 insn)) own = ppc64_reach insn bits own
reach_of_size kind (BitMasking bits (LoongArch64 insn)) own = loongarch_reach insn own

abbrev pub reach_of : RowInfo → Bounds
reach_of row = reach_of_size row.kind row.size row.range.bounds
