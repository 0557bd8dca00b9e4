-- What sites of LoongArch become (LoongArch ELF psABI, "Linker Relaxation"; the instructions by the
-- LoongArch Reference Manual, volume 1).
use Rattle.linker_runs.specs.Imports.{Address, Branch26, Call, IsAddress, IsSomeAnd, ItemError}
use Rattle.linker_runs.specs.Imports.{Kind, List, NoShape, NotItsInstructions, OutOfReach, Shift5}
use Rattle.linker_runs.specs.Imports.{Some, drop, field, from_le_bytes, length, loongarch_row, pos}
use Rattle.linker_runs.specs.Imports.{signed, sum_64, take, to_le_bytes, value_of, w32, w64, ℕ}
use Rattle.std.specs.Prelude.{◌≡◌, ◌≢◌, ◌⊎◌, ◌+◌, ◌*◌, ◌^◌, ◌+ℤ◌, ◌*ℤ◌}
use Rattle.linker_elf.specs.Elf.{IsWithin, bit_bounds}
use Rattle.linker_elf.specs.LoongArch.{loongarch_form, pcalau12i, reach}
use Rattle.linker_elf.specs.declared.elf.Sign.TheVariants.{Signed}
use Rattle.linker_elf.specs.declared.loongarch64.relocations.LoongArch64Relocation.TheVariants as r
use Rattle.linker_utils.specs.LoongArchRewrites.{IsAddi, IsCall, IsPair, word_at, rd_of}
use Rattle.linker_runs.specs.Sites.{Template, operands_of, IsRelocated, IsInReach, IsOutOfReach}

-- ---- sites

-- `pcaddu18i`, and a `jirl` from its register that links `ra` or none
abbrev pub IsCall36At : List ℕ → ℕ → Type 0
IsCall36At section o = IsCall 1 section o ⊎ IsCall 0 section o

-- `pcalau12i` and `addi.d` of one register
abbrev pub IsPcalaAt : List ℕ → ℕ → Type 0
IsPcalaAt section o = IsPair IsAddi section o

abbrev pub IsSiteAt : List ℕ → ℕ → Type 0
IsSiteAt section o = IsCall36At section o ⊎ IsPcalaAt section o

-- the destination register of the second instruction
abbrev pub destination : List ℕ → ℕ → ℕ
destination section o = rd_of (word_at section (o + 4))

-- ---- instructions before their relocations

-- `b` where no register is linked, `bl` where `ra` is
abbrev pub branch_template : ℕ → Template
branch_template link =
    record {
      row = loongarch_row r.R_LARCH_B26;
      bytes = to_le_bytes w32 (0x50000000 + link * 2 ^ 26);
    }

-- `pcaddi` of a register
abbrev pub pcaddi_template : ℕ → Template
pcaddi_template register =
    record {
      row = loongarch_row r.R_LARCH_PCREL20_S2;
      bytes = to_le_bytes w32 (0x18000000 + register);
    }

-- the `pcaddu18i` and the `jirl` at an offset
abbrev pub call_template : List ℕ → ℕ → Template
call_template section o =
    record { row = loongarch_row r.R_LARCH_CALL36; bytes = take 8 (drop o section) }

-- the `pcalau12i` at an offset, and the `addi.d` after it
abbrev pub high_template : List ℕ → ℕ → Template
high_template section o =
    record { row = loongarch_row r.R_LARCH_PCALA_HI20; bytes = take 4 (drop o section) }

abbrev pub low_template : List ℕ → ℕ → Template
low_template section o =
    record { row = loongarch_row r.R_LARCH_PCALA_LO12; bytes = take 4 (drop (o + 4) section) }

-- ---- what is written

-- The word is `b` or `bl`, by its opcode, to the target.
pub record IsBranch (opcode word place target : ℕ) : Type 0 where
  pub opcode_is : field word 26 32 ≡ opcode
  pub goes : IsAddress (pos place +ℤ ((loongarch_form Branch26).machine word *ℤ pos 4)) target

-- The word is `pcaddi` of a register, and computes the target.
pub record IsPcaddi (word register place target : ℕ) : Type 0 where
  pub opcode : field word 25 32 ≡ 0x0c
  pub register_is : rd_of word ≡ register
  pub computes : IsAddress (pos place +ℤ ((loongarch_form Shift5).machine word *ℤ pos 4)) target

-- The bytes are those of the call at an offset of a section with its relocation applied, which
-- changes nothing but their immediates. It goes to the target.
pub record IsFarCall (section : List ℕ) (o place target : ℕ) (written : List ℕ) : Type 0 where
  pub relocated : IsRelocated (call_template section o) place target written
  pub goes : IsAddress (pos place +ℤ reach (from_le_bytes w64 written)) target

-- The bytes are those of the pair at an offset of a section with its relocations applied, which
-- changes nothing but their immediates. It computes the target.
pub record IsFarAddress (section : List ℕ) (o place target : ℕ) (written : List ℕ) : Type 0 where
  pub high : IsRelocated (high_template section o) place target (take 4 written)
  pub low : IsRelocated (low_template section o) (sum_64 place 4) target (drop 4 written)
  pub computes : IsAddress
      (pcalau12i place (from_le_bytes w32 (take 4 written))
      +ℤ signed 12 (field (from_le_bytes w32 (drop 4 written)) 10 22)) target

-- What the site at an offset of a section becomes.
pub data LoongArchBecomes (section : List ℕ) (o place target : ℕ) (written : List ℕ) : Type 0 where
  jump : IsCall 0 section o → length written ≡ 4
      → IsBranch 0x14 (from_le_bytes w32 written) place target
      → LoongArchBecomes section o place target written
  call : IsCall 1 section o → length written ≡ 4
      → IsBranch 0x15 (from_le_bytes w32 written) place target
      → LoongArchBecomes section o place target written
  far_call : IsCall36At section o → length written ≡ 8
      → IsFarCall section o place target written → LoongArchBecomes section o place target written
  address : IsPcalaAt section o → length written ≡ 4
      → IsPcaddi (from_le_bytes w32 written) (destination section o) place target
      → LoongArchBecomes section o place target written
  far_address : IsPcalaAt section o → length written ≡ 8
      → IsFarAddress section o place target written
      → LoongArchBecomes section o place target written

-- ---- what is accepted and rejected

-- the distance of the pages is a number of 32 bits
abbrev pub ArePagesNear : ℕ → ℕ → Type 0
ArePagesNear place target =
    IsSomeAnd (loongarch_row r.R_LARCH_PCALA_HI20) (λ row.
    IsSomeAnd (value_of row (operands_of place target)) (IsWithin (Some (bit_bounds 32 Signed))))

-- Both relocations of the pair at an offset can be applied, and it can compute the target.
pub record IsAddressInReach (section : List ℕ) (o place target : ℕ) : Type 0 where
  pub pages : ArePagesNear place target
  pub high : IsInReach (high_template section o) place target
  pub low : IsInReach (low_template section o) (sum_64 place 4) target

-- The pair at an offset can't compute the target, or one of its relocations can't be applied.
pub data IsAddressOutOfReach (section : List ℕ) (o place target : ℕ) : Type 0 where
  far_pages : ¬ ArePagesNear place target → IsAddressOutOfReach section o place target
  far_high : IsOutOfReach (high_template section o) place target
      → IsAddressOutOfReach section o place target
  far_low : IsOutOfReach (low_template section o) (sum_64 place 4) target
      → IsAddressOutOfReach section o place target

-- the instructions at an offset are those of a kind
abbrev pub IsKindAt : List ℕ → ℕ → Kind → Type 0
IsKindAt section o Call = IsCall36At section o
IsKindAt section o Address = IsPcalaAt section o

-- the short one before its relocation
abbrev pub short_template : List ℕ → ℕ → Kind → Template
short_template section o Call = branch_template (destination section o)
short_template section o Address = pcaddi_template (destination section o)

-- as they are, they reach the target, or don't
abbrev pub IsLongInReach : List ℕ → ℕ → Kind → ℕ → ℕ → Type 0
IsLongInReach section o Call place target = IsInReach (call_template section o) place target
IsLongInReach section o Address place target = IsAddressInReach section o place target

abbrev pub IsLongOutOfReach : List ℕ → ℕ → Kind → ℕ → ℕ → Type 0
IsLongOutOfReach section o Call place target = IsOutOfReach (call_template section o) place target
IsLongOutOfReach section o Address place target = IsAddressOutOfReach section o place target

-- A site of a kind is at the offset, of which four bytes stay or eight, and what is said of its
-- short instruction, or of its instructions as they are, holds.
abbrev pub StaysAs : List ℕ → ℕ → ℕ → (Kind → Type 0) → (Kind → Type 0) → Type 0
StaysAs section o kept Short Long = (kind : Kind) × IsKindAt section o kind
    × (((kept ≡ 4) × Short kind) ⊎ ((kept ≡ 8) × Long kind))

-- of n bytes there are instructions that reach the target
abbrev pub LoongArchAccepts : List ℕ → ℕ → ℕ → ℕ → ℕ → Type 0
LoongArchAccepts section o kept place target =
    StaysAs section o kept (λ kind. IsInReach (short_template section o kind) place target)
    (λ kind. IsLongInReach section o kind place target)

-- its instructions of n bytes don't reach the target
abbrev pub LoongArchIsFar : List ℕ → ℕ → ℕ → ℕ → ℕ → Type 0
LoongArchIsFar section o kept place target =
    StaysAs section o kept (λ kind. IsOutOfReach (short_template section o kind) place target)
    (λ kind. IsLongOutOfReach section o kind place target)

-- why nothing is written of the eight bytes at an offset of which n stay
abbrev pub LoongArchCause : List ℕ → ℕ → ℕ → ℕ → ℕ → ItemError → Type 0
LoongArchCause section o kept place target NotItsInstructions = ¬ IsSiteAt section o
LoongArchCause section o kept place target NoShape =
    IsSiteAt section o × (kept ≢ 4) × (kept ≢ 8)
LoongArchCause section o kept place target OutOfReach = LoongArchIsFar section o kept place target
LoongArchCause section o kept place target other = ⊥
