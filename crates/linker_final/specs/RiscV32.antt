-- RV32: relocations with wrapped addends, and what instructions with them compute, modulo 2^32
-- (RISC-V unprivileged ISA, "RV32I Base Integer Instruction Set": registers have 32 bits).
use Rattle.linker_final.specs.Imports.{Addresses, BType, Call, CbType, CjType, EntryAddresses, Hart}
use Rattle.linker_final.specs.Imports.{Instruction, IsRow, IsValue, JType, Jump, Operands, Pairs}
use Rattle.linker_final.specs.Imports.{Rela, Relocated, RiscV, RiscVRelocation, RowInfo, Section}
use Rattle.linker_final.specs.Imports.{Site, SiteBecomes, Symbol, UType, address_of, adds}
use Rattle.linker_final.specs.Imports.{after_rewrite, cast_unsigned, even, executed, fetched, field}
use Rattle.linker_final.specs.Imports.{from_le_bytes, int_rem_euclid, jal, jumps, low_load}
use Rattle.linker_final.specs.Imports.{low_store, number_of_bytes, register, relocation_in}
use Rattle.linker_final.specs.Imports.{riscv_form, riscv_row, sums, w16, w64, word_of}
use Rattle.linker_elf.specs.Applied.{IsApplied}
use Rattle.linker_laws.specs.Schemes.{AreAddresses, Computed, PremiseHolds, Step, entry_and_addend}
use Rattle.linker_laws.specs.Schemes.{here, number_at, place, plt_address, symbol_address, zero}
use Rattle.linker_riscv64.specs.RiscVFields.{rd_of}
use Rattle.std.specs.Prelude.{Bool, IsSomeAnd, List, None, Ok, Option, Result, Some, [], drop}
use Rattle.std.specs.Prelude.{false, length, nat_le, pos, true, ℕ, ℤ, ⊤, ◌≡◌, ◌≢◌, ◌<◌, ◌+◌, ◌-◌}
use Rattle.std.specs.Prelude.{◌%◌, ◌^◌, ◌/◌, ◌∷◌, ◌==◌, ◌&&◌, if◌then◌else◌}
use Rattle.linker_elf.specs.Elf.{IsWithin}
use Rattle.linker_elf.specs.Reach.{reach_of, riscv_pair_bounds}
use Rattle.linker_elf.specs.Rows.{Bounds}
use Rattle.linker_section.specs.RiscV32.{AreWrapped}
use Rattle.linker_section.specs.declared.values.ValueError.{ValueError}
use Rattle.linker_elf.specs.declared.riscv64.relocations.RiscVRelocation.TheVariants as names
use Rattle.linker_riscv64.specs.RiscVCalls.{link_register}
use Rattle.linker_riscv64.specs.declared.calls.LinkRegister.TheVariants.{OfJalr}
use Rattle.linker_runs.specs.declared.packing.riscv32.Isa.TheVariants.{Rv32}
use Rattle.linker_runs.specs.declared.packing.Machine.TheVariants as machines
use Rattle.linker_utils.specs.RiscVRewrites.{riscv_matches}
use Rattle.linker_utils.specs.declared.riscv64.rewrites.RewriteKind.TheVariants as kinds

-- two numbers of 64 bits are the same modulo 2^32
abbrev pub IsSame32 : ℤ → ℤ → Type 0
IsSame32 a b = cast_unsigned w64 a % 2 ^ 32 ≡ cast_unsigned w64 b % 2 ^ 32

-- ---- relocations and their values

-- what a relocation becomes: the same but for a multiple of 2^32 that is added to its addend
pub record HasWrappedAddend (before after : Rela) : Type 0 where
  pub others : after ≡ record before { addend = after.addend }
  pub addend : IsSame32 after.addend before.addend

abbrev pub Addends : Type 0
Addends =
    (addresses : Addresses) (symbols : List Symbol) (before after : List ℕ)
    → AreWrapped addresses symbols before after → (n : ℕ) → n < length before / 24
    → HasWrappedAddend (relocation_in before n) (relocation_in after n)

-- What a value becomes: the same number modulo 2^32. It is within bounds if any such number is.
pub record IsWrappedWithin (bounds : Bounds) (value after : ℤ) : Type 0 where
  pub same : IsSame32 after value
  pub within : (v : ℤ) → IsSame32 v value → IsWithin bounds v → IsWithin bounds after

-- Where there was a value there is one. An error, or none, stays.
abbrev pub IsWrappedValue : Bounds → Result (Option ℤ) ValueError → Result (Option ℤ) ValueError
    → Type 0
IsWrappedValue bounds (Ok (Some value)) after =
    (number : ℤ) × (after ≡ Ok (Some number)) × IsWrappedWithin bounds value number
IsWrappedValue bounds before after = after ≡ before

-- each relocation of a section that has a row, also a low part, whose value is its high part's
abbrev pub Values : Type 0
Values =
    (addresses : Addresses) (symbols : List Symbol) (before after : List ℕ)
    → AreWrapped addresses symbols before after → (n : ℕ) → n < length before / 24
    → (row : RowInfo) → IsRow RiscV (relocation_in before n).r_type (Some row)
    → (result : Result (Option ℤ) ValueError)
    → IsValue RiscV addresses after symbols (relocation_in after n) result
    → (first : Result (Option ℤ) ValueError)
    × IsValue RiscV addresses before symbols (relocation_in before n) first
    × IsWrappedValue (reach_of row) first result

-- a pair of instructions, and a call by two, reaches every address
abbrev pub PairsReachAll : Type 0
PairsReachAll =
    (value after : ℤ) → IsWrappedWithin (Some riscv_pair_bounds) value after
    → IsWithin (Some riscv_pair_bounds) after

-- ---- instructions

-- `Reaches` of RV64, modulo 2^32
abbrev pub Reaches32 : (steps : List Step) → Operands → Computed steps → ℕ → Type 0
Reaches32 [] o sum target = int_rem_euclid sum (pos (2 ^ 32)) ≡ pos (target % 2 ^ 32)
Reaches32 (step ∷ steps) o computed target =
    IsSomeAnd step.row (λ row.
    (at : ℕ) (before after : List ℕ) (applied : IsApplied row (step.operands o at) before after)
    → PremiseHolds step.premise (number_at row.size before) applied.value
    → Reaches32 steps o (computed (number_at row.size after)) target)

-- Relocations that are applied with a wrapped addend compute the target, which has the file's.
abbrev pub Law32 : (steps : List Step) → (Operands → Computed steps) → (Operands → ℕ) → Type 0
Law32 steps computed target =
    (o : Operands) (addend : ℤ) → AreAddresses o → IsSame32 addend o.addend
    → let wrapped = record o { addend = addend }
    in Reaches32 steps wrapped (computed wrapped) (target o)

abbrev pub RelativeAddresses : Type 0
RelativeAddresses =
    Pairs Law32 place UType (riscv_row names.R_RISCV_PCREL_HI20) low_load low_store symbol_address
    × EntryAddresses Law32

abbrev pub Branches : Type 0
Branches =
    Call Law32 names.R_RISCV_CALL × Call Law32 names.R_RISCV_CALL_PLT
    × Jump Law32 names.R_RISCV_JAL JType × Jump Law32 names.R_RISCV_BRANCH BType
    × Jump Law32 names.R_RISCV_RVC_JUMP CjType × Jump Law32 names.R_RISCV_RVC_BRANCH CbType

-- 4 bytes hold the distance from where the formula begins
abbrev pub Word : RiscVRelocation → (Operands → ℕ) → (Operands → ℕ) → Type 0
Word name begin target =
    IsSomeAnd (riscv_row name) (λ row.
    (o : Operands) (addend : ℤ) → AreAddresses o → IsSame32 addend o.addend
    → (before after : List ℕ) → IsApplied row (record o { addend = addend }) before after
    → (begin o + number_of_bytes 4 after) % 2 ^ 32 ≡ target o % 2 ^ 32)

abbrev pub Words : Type 0
Words =
    Word names.R_RISCV_32 zero symbol_address × Word names.R_RISCV_32_PCREL place symbol_address
    × Word names.R_RISCV_PLT32 place plt_address
    × Word names.R_RISCV_GOT32_PCREL place entry_and_addend

-- ---- the premises of a pair's law

-- the steps are applied to some bytes
abbrev pub AreApplied : List Step → Operands → Type 0
AreApplied [] o = ⊤
AreApplied (step ∷ steps) o =
    IsSomeAnd step.row (λ row.
    (at : ℕ) × (before : List ℕ) × (after : List ℕ) × IsApplied row (step.operands o at) before after)
    × AreApplied steps o

-- `lui` and `addi` are applied with an addend that isn't the file's
pub record PairIsApplied : Type 0 where
  pub o : Operands
  pub addend : ℤ
  pub addresses : AreAddresses o
  pub same : IsSame32 addend o.addend
  pub other : addend ≢ o.addend
  pub applied : AreApplied
      (here (riscv_row names.R_RISCV_HI20) ∷ here (riscv_row names.R_RISCV_LO12_I) ∷ [])
      (record o { addend = addend })

-- ---- `c.jal`: a call by two instructions, and the one that a rewrite makes of it ("C" and "Zca",
-- "Control Transfer Instructions")

-- `c.jal`, an instruction of RV32 alone, expands to `jal x1`. RV64 has `c.addiw` of these bits.
abbrev pub is_cjal : ℕ → Bool
is_cjal half = field half 0 2 == 1 && field half 13 16 == 1

-- the instruction that bytes begin with, and its length
abbrev pub fetched_32 : List ℕ → Option (ℕ × Instruction)
fetched_32 bytes =
    let half = from_le_bytes w16 bytes in
    if nat_le 2 (length bytes) && is_cjal half
    then Some (2, jal 1 ((riscv_form CjType).machine half)) else fetched bytes

-- What RV32 does as RV64, modulo 2^32: `lui`, `auipc`, `jal`, `add`, `addi` and `jalr`. Others, of
-- which it lacks some, aren't defined here.
abbrev pub is_of_both : Instruction → Bool
is_of_both (sums adds rd rs1 rs2 immediate) = true
is_of_both (sums jumps rd rs1 rs2 immediate) = true
is_of_both (sums action rd rs1 rs2 immediate) = false
is_of_both instruction = true

-- registers and addresses have 32 bits
abbrev pub modulo_32 : Hart → Hart
modulo_32 h = record h { pc = h.pc % 2 ^ 32; integers = λ r. h.integers r % 2 ^ 32 }

abbrev pub executed_32 : Option (ℕ × Instruction) → Hart → Option Hart
executed_32 None h = None
executed_32 (Some i) h = if is_of_both i.1 then Some (modulo_32 (executed i.0 i.1 h)) else None

-- what a hart of RV32 is after the instruction that the bytes from its pc on begin with
abbrev pub step_32 : List ℕ → Hart → Option Hart
step_32 bytes h = executed_32 (fetched_32 bytes) h

-- After a call of n bytes at a place a hart is at a target, with the address after these bytes in
-- ra, modulo 2^32. But for ra and the base of the call all is as before.
pub record HasCalled (n place target base : ℕ) (before after : Hart) : Type 0 where
  pub goes : after.pc ≡ target % 2 ^ 32
  pub links : register after 1 ≡ (place + n) % 2 ^ 32
  pub others : (r : ℕ) → r ≢ 1 → r ≢ base → register after r ≡ register before r % 2 ^ 32
  pub floats : after.floats ≡ before.floats
  pub memory : after.memory ≡ before.memory

-- What is made of a call has the value of a relocation, whose addend is the file's modulo 2^32.
pub record IsMadeOf (name : RiscVRelocation) (made : List ℕ → List ℕ) (o : Operands)
    (call code : List ℕ) : Type 0 where
  pub addend : ℤ
  pub addresses : AreAddresses o
  pub same : IsSame32 addend o.addend
  pub matches : riscv_matches kinds.CallToCJal call 0
  pub relocated : Relocated (riscv_row name) (record o { addend = addend }) (made call) code

-- Code that is so made of a call does this, executed at its place.
abbrev pub CallDoes : RiscVRelocation → (List ℕ → List ℕ) → (Operands → List ℕ → List ℕ → Hart → Type 0)
    → Type 0
CallDoes name made Does =
    (o : Operands) (call code : List ℕ) → IsMadeOf name made o call code
    → (h : Hart) → h.pc ≡ o.place → Does o call code h

-- `auipc` and `jalr`, which links ra, go to the target without its bit 0
abbrev pub LongCall : RiscVRelocation → Type 0
LongCall name =
    CallDoes name (λ call. call) (λ o call code h.
    IsSomeAnd (step_32 code h) (λ middle.
    (middle.pc ≡ (o.place + 4) % 2 ^ 32)
    × IsSomeAnd (step_32 (drop 4 code) middle)
    (HasCalled 8 o.place (even plt_address o) (rd_of (word_of call)) h)))

abbrev pub short_call : List ℕ → List ℕ
short_call call = after_rewrite kinds.CallToCJal call 0

-- So does the `c.jal` in their place, to the target as it is, and with the base as it was.
abbrev pub ShortCall : Type 0
ShortCall =
    CallDoes names.R_RISCV_RVC_JUMP short_call
    (λ o call code h. IsSomeAnd (step_32 code h) (HasCalled 2 o.place (symbol_address o) 1 h))

-- So do the two bytes that `pack_run` leaves of a call that links ra: they are a `c.jal`, too.
abbrev pub PackedCall : Type 0
PackedCall =
    (s : Section) (site : Site) (code : List ℕ) → SiteBecomes (machines.RiscV Rv32) s site code
    → length code ≡ 2 → link_register OfJalr s.bytes (site.offset - s.base) ≡ 1
    → (h : Hart) → h.pc ≡ address_of s site.offset → IsSomeAnd (step_32 code h)
    (HasCalled 2 (address_of s site.offset) (address_of s site.target) 1 h)

abbrev pub Calls : Type 0
Calls = LongCall names.R_RISCV_CALL × LongCall names.R_RISCV_CALL_PLT × ShortCall × PackedCall

-- ---- the premises of a call's law

-- a call is made with an addend that isn't the file's
pub record CallIsMade (name : RiscVRelocation) (made : List ℕ → List ℕ) : Type 0 where
  pub o : Operands
  pub call : List ℕ
  pub code : List ℕ
  pub is_made : IsMadeOf name made o call code
  pub other : is_made.addend ≢ o.addend

abbrev pub CallsAreMade : Type 0
CallsAreMade =
    CallIsMade names.R_RISCV_CALL (λ call. call) × CallIsMade names.R_RISCV_CALL_PLT (λ call. call)
    × CallIsMade names.R_RISCV_RVC_JUMP short_call
