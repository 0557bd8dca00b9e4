-- What calls of RISC-V become (RISC-V ELF psABI, "Function Call Relaxation", "Compressed Tail Call
-- Relaxation"; the instructions by the RISC-V unprivileged ISA).
use Rattle.linker_runs.specs.Imports.{CjType, IsAddress, IsSomeAnd, ItemError, JType, List, Machine}
use Rattle.linker_runs.specs.Imports.{NoShape, None, NotItsInstructions, OfJalr, Option, OutOfReach}
use Rattle.linker_runs.specs.Imports.{Some, UiType, [], drop, field, from_le_bytes, length, pos}
use Rattle.linker_runs.specs.Imports.{riscv_row, take, to_le_bytes, true, w16, w32, w64, ℕ}
use Rattle.linker_elf.specs.Applied.{IsApplied}
use Rattle.linker_riscv64.specs.RiscVCalls.{link_register}
use Rattle.std.specs.Prelude.{◌≡◌, ◌+◌, ◌-◌, ◌*◌, ◌%◌, ◌^◌, ◌==◌, ◌&&◌, if◌then◌else◌, ◌+ℤ◌, ◌∷◌}
use Rattle.linker_elf.specs.RiscV.{riscv_form}
use Rattle.linker_elf.specs.declared.riscv64.relocations.RiscVRelocation.TheVariants as r
use Rattle.linker_laws.specs.RiscVRelocationLaws.{without_bit_0}
use Rattle.linker_runs.specs.RiscVItems.{IsCallAt, has_short_jump}
use Rattle.linker_runs.specs.Sites.{Template, operands_of, IsInReach, IsOutOfReach}

-- ---- what is written

-- The half is `c.j` to the target, which links x0, or else `c.jal`: RV32 sets x1 to the place plus
-- 2, and jumps to the target.
pub record IsShortJump (half link place target : ℕ) : Type 0 where
  pub quadrant : field half 0 2 ≡ 1
  pub function : field half 13 16 ≡ (if link == 0 then 5 else 1)
  pub goes : IsAddress (pos place +ℤ (riscv_form CjType).machine half) target

-- The word is `jal` to the target, and links a register.
pub record IsJal (word link place target : ℕ) : Type 0 where
  pub opcode : field word 0 7 ≡ 0x6f
  pub links : field word 7 12 ≡ link
  pub goes : IsAddress (pos place +ℤ (riscv_form JType).machine word) target

-- The bytes are those of the call at an offset of a section, `auipc` and `jalr`, with its
-- relocation applied, which changes nothing but their immediates. It goes to the target, without
-- bit 0.
pub record IsFarCall (section : List ℕ) (o place target : ℕ) (written : List ℕ) : Type 0 where
  pub relocated : IsSomeAnd (riscv_row r.R_RISCV_CALL_PLT)
      (λ row. IsApplied row (operands_of place target) (take 8 (drop o section)) written)
  pub goes : IsAddress
      (without_bit_0 (pos place +ℤ (riscv_form UiType).machine (from_le_bytes w64 written)))
      (target - target % 2)

-- What the call at an offset of a section becomes. Only some become two bytes long.
pub data RiscVBecomes (machine : Machine) (section : List ℕ) (o place target : ℕ) (written : List ℕ)
    : Type 0 where
  short_jump : length written ≡ 2 → has_short_jump machine section o ≡ true
      → IsShortJump (from_le_bytes w16 written) (link_register OfJalr section o) place target
      → RiscVBecomes machine section o place target written
  jump : length written ≡ 4
      → IsJal (from_le_bytes w32 written) (link_register OfJalr section o) place target
      → RiscVBecomes machine section o place target written
  call : length written ≡ 8 → IsFarCall section o place target written
      → RiscVBecomes machine section o place target written

-- ---- what is accepted and rejected

-- `c.j` of distance 0, and `c.jal` of distance 0, which links x1
abbrev pub short_bytes : ℕ → List ℕ
short_bytes link = if link == 0 then 0x01 ∷ 0xa0 ∷ [] else 0x01 ∷ 0x20 ∷ []

-- the instruction of n bytes before its relocation
abbrev pub riscv_template : Machine → List ℕ → ℕ → ℕ → Option Template
riscv_template machine section o kept =
    if kept == 2 && has_short_jump machine section o
    then Some (record {
      row = riscv_row r.R_RISCV_RVC_JUMP;
      bytes = short_bytes (link_register OfJalr section o);
    })
    else if kept == 4
    then Some (record {
      row = riscv_row r.R_RISCV_JAL;
      bytes = to_le_bytes w32 (0x6f + link_register OfJalr section o * 2 ^ 7);
    })
    else if kept == 8
    then Some (record {
      row = riscv_row r.R_RISCV_CALL_PLT;
      bytes = take 8 (drop o section);
    })
    else None

-- A call is at the offset, and of n bytes there is an instruction that reaches the target.
pub record RiscVAccepts (machine : Machine) (section : List ℕ) (o kept place target : ℕ) : Type 0 where
  pub call : IsCallAt section o
  pub reached : IsSomeAnd (riscv_template machine section o kept) (λ t. IsInReach t place target)

-- why nothing is written of the eight bytes at an offset of which n stay
abbrev pub RiscVCause : Machine → List ℕ → ℕ → ℕ → ℕ → ℕ → ItemError → Type 0
RiscVCause machine section o kept place target NotItsInstructions = ¬ IsCallAt section o
RiscVCause machine section o kept place target NoShape =
    IsCallAt section o × (riscv_template machine section o kept ≡ None)
RiscVCause machine section o kept place target OutOfReach =
    IsCallAt section o
    × IsSomeAnd (riscv_template machine section o kept) (λ t. IsOutOfReach t place target)
RiscVCause machine section o kept place target other = ⊥
