-- Sections that get shorter between their rewrites and their values: a section of a relaxed run is
-- packed, and then its values are written. What its final bytes are of the section before.
use Rattle.std.specs.Prelude.{◌≡◌, ◌≢◌, ℕ, ◌+◌, ◌-◌, ◌/◌, ◌^◌, ◌<◌, ◌≤◌, List, length, take, drop}
use Rattle.std.specs.Prelude.{slice_index, IsTrue, Ok, Some, true, false, ℤ, ◌⊎◌, ◌%◌, MatchOption}
use Rattle.std.specs.Prelude.{None, pos, ◌+ℤ◌, ◌*ℤ◌, slice_get, IsSomeAnd, Option}
use Rattle.linker_final.specs.Imports.{Addresses, Architecture, AreItems, AreMoved, AreWritten}
use Rattle.linker_final.specs.Imports.{BType, Branch21, Branch26, CbType, CjType, IsFirstFault}
use Rattle.linker_final.specs.Imports.{IsFirstRejected, IsInside, IsMoved, IsNotIn, IsPackedRun}
use Rattle.linker_final.specs.Imports.{IsRelaxation, IsRow, Item, JType, Operands, RiscVRelocation}
use Rattle.linker_final.specs.Imports.{RowInfo, Section, Shift10, Shift5, Site as site, Symbol}
use Rattle.linker_final.specs.Imports.{address_of, deletions_of_run, has_value, is_fixed, kept_len}
use Rattle.linker_final.specs.Imports.{loongarch_form, names_label, nops, offset_at, operands_with}
use Rattle.linker_final.specs.Imports.{packed_offset, relocation_in, riscv_form, riscv_row}
use Rattle.linker_final.specs.Imports.{section_of, sum_64, value_of, window_len}
use Rattle.linker_elf.specs.Applied.{IsApplied}
use Rattle.linker_laws.specs.Schemes.{AreAddresses, IsAddress, number_at, plt_address}
use Rattle.linker_laws.specs.Schemes.{symbol_address}
use Rattle.linker_elf.specs.declared.loongarch64.relocations.LoongArch64Relocation.{LoongArch64Relocation}
use Rattle.linker_elf.specs.declared.riscv64.forms.RiscVInstruction.{RiscVInstruction}
use Rattle.linker_elf.specs.LoongArchRelocations.{loongarch_row}
use Rattle.linker_runs.specs.declared.packing.Machine.TheVariants.{LoongArch64, RiscV}
use Rattle.linker_base.specs.Deletions.{is_kept}
use Rattle.linker_base.specs.declared.bit_misc.BitRange.{BitRange}
use Rattle.linker_elf.specs.declared.elf.AnyForm.{AnyForm}
use Rattle.linker_elf.specs.declared.elf.RowSize.TheVariants.{BitMasking}
use Rattle.linker_elf.specs.declared.loongarch64.forms.LoongArch64Instruction.{LoongArch64Instruction}
use Rattle.linker_final.specs.Final.{AreBytes, ArePhases, HasRewritten, Linked, instruction_at}
use Rattle.linker_final.specs.declared.packed.PackError.{PackError}
use Rattle.linker_final.specs.declared.packed.PackError.TheVariants.{Misplaced, Packing, Writing}
use Rattle.linker_final.specs.declared.packed.RunSection.{RunSection}
use Rattle.linker_runs.specs.Origins.{HasItsInstructions}
use Rattle.linker_runs.specs.Relaxing.{end_of, item_at, items_in, len_of, offset_of}
use Rattle.linker_runs.specs.declared.packing.riscv32.Isa.{Isa}
use Rattle.linker_runs.specs.declared.packing.Machine.{Machine}
use Rattle.linker_runs.specs.declared.relaxation.Alignment.{Alignment}
use Rattle.linker_runs.specs.declared.relaxation.Item.TheVariants.{Aligned, Site}
use Rattle.linker_section.specs.Sections.{IsInNoField}
use Rattle.linker_section.specs.Values.{operands_of}
use Rattle.linker_runs.specs.declared.packing.Machine.TheVariants as machines
use Rattle.linker_elf.specs.declared.elf.architecture.Architecture.TheVariants as architectures
use Rattle.linker_elf.specs.declared.loongarch64.relocations.LoongArch64Relocation.TheVariants as loongarch_names
use Rattle.linker_elf.specs.declared.riscv64.relocations.RiscVRelocation.TheVariants as riscv_names

-- What is passed to `pack_run` and then to `relocate_section`, and what they leave.
pub record Packed : Type 0 where
  pub machine : Machine
  -- the section once it is rewritten, and where it is in its run
  pub section : Section
  -- which parts of it may be shorter
  pub items : List Item
  -- its bytes once it is packed
  pub packed : List ℕ
  -- its relocations before that, and those that are written then
  pub relocations : List ℕ
  pub relocations_after : List ℕ
  -- what values are made of
  pub addresses : Addresses
  pub symbols : List Symbol
  -- the bytes once values are written
  pub final : List ℕ

abbrev pub count : Packed → ℕ
count p = length p.relocations_after / 24

abbrev pub architecture_of : Machine → Architecture
architecture_of (machines.RiscV _) = architectures.RiscV
architecture_of machines.LoongArch64 = architectures.LoongArch64

-- where the byte at an offset of the section before goes
abbrev pub place_of : Packed → ℕ → ℕ
place_of p o = packed_offset p.section (p.section.base + o)

-- Both calls succeeded: what their contracts ensure, and the linker has put the section at the
-- address where its first byte goes.
pub record IsPacked (p : Packed) : Type 0 where
  pub run : IsPackedRun p.machine p.section p.items p.packed
  pub moved : (i : ℕ) → i < count p
      → IsMoved p.machine p.section p.items (relocation_in p.relocations i)
      (relocation_in p.relocations_after i)
  pub address : p.addresses.section ≡ address_of p.section p.section.base
  pub written : AreWritten (architecture_of p.machine) p.addresses p.relocations_after p.symbols
      p.packed p.final
  -- what slices have
  pub as_many : length p.relocations_after ≡ length p.relocations
  pub section_bytes : AreBytes p.section.bytes
  pub final_bytes : AreBytes p.final

-- of what calls were passed and left
abbrev pub packed_as : Machine → Section → List Item → List ℕ → List ℕ → List ℕ → Addresses
    → List Symbol → List ℕ → Packed
packed_as machine section items packed relocations relocations_after addresses symbols final =
    record {
      machine = machine;
      section = section;
      items = items;
      packed = packed;
      relocations = relocations;
      relocations_after = relocations_after;
      addresses = addresses;
      symbols = symbols;
      final = final;
    }

-- Why a section isn't packed and written: the first that applies, in this order. The output is as
-- it was, or packed, and so are the relocations.
abbrev pub IsPackCause : Machine → Section → List Item → List ℕ → List ℕ → Addresses
    → List Symbol → List ℕ → List ℕ → PackError → Type 0
IsPackCause machine s items relocations after addresses symbols old new Misplaced =
    (addresses.section ≢ address_of s s.base) × (new ≡ old) × (after ≡ relocations)
IsPackCause machine s items relocations after addresses symbols old new (Packing rejected) =
    (addresses.section ≡ address_of s s.base) × IsFirstRejected machine s items rejected
    × (new ≡ old) × (after ≡ relocations)
IsPackCause machine s items relocations after addresses symbols old new (Writing error) =
    (addresses.section ≡ address_of s s.base) × IsPackedRun machine s items new
    × AreMoved machine s items relocations after
    × IsFirstFault (architecture_of machine) addresses after symbols new error

-- ---- which bytes are whose

-- the byte at an offset of the section before stays, and no item writes another in its place
pub record Stays (p : Packed) (o : ℕ) : Type 0 where
  pub inside : o < length p.section.bytes
  pub kept : IsTrue (is_kept p.section.deletions (p.section.base + o))
  pub own : (i : ℕ) → i < length p.items
      → IsNotIn p.section.deletions (p.section.base + o) (item_at p.items i)

-- n from an offset on do
abbrev pub StayTogether : Packed → ℕ → ℕ → Type 0
StayTogether p o len = (k : ℕ) → k < len → Stays p (o + k)

-- no field of a relocation has one of n final bytes from a place on
abbrev pub IsUnwritten : Packed → ℕ → ℕ → Type 0
IsUnwritten p start len =
    (at : ℕ) → start ≤ at → at < start + len
    → IsInNoField (architecture_of p.machine) p.relocations_after p.packed (count p) at

-- ---- bytes

-- A byte that stays, and that no field has, is in the final section at its translated place.
abbrev pub KeptBytesStay : Type 0
KeptBytesStay =
    (p : Packed) → IsPacked p → (o : ℕ) → Stays p o → IsUnwritten p (place_of p o) 1
    → slice_index p.final (place_of p o) ≡ slice_index p.section.bytes o

-- Padding without a field is of nops, as many as stay.
abbrev pub PaddingIsNops : Type 0
PaddingIsNops =
    (p : Packed) → IsPacked p → (i : ℕ) (alignment : Alignment) → i < length p.items
    → item_at p.items i ≡ Aligned alignment → IsInside p.section (Aligned alignment)
    → let kept = kept_len p.section.deletions (Aligned alignment) in
    let place = packed_offset p.section (offset_of (Aligned alignment)) in
    IsUnwritten p place kept → take kept (drop place p.final) ≡ nops p.machine kept

-- The byte at an offset of the section before goes to a final place. No other does.
pub record GoesAlone (p : Packed) (place o : ℕ) : Type 0 where
  pub inside : o < length p.section.bytes
  pub kept : IsTrue (is_kept p.section.deletions (p.section.base + o))
  pub there : place_of p o ≡ place
  pub alone : (other : ℕ) → IsTrue (is_kept p.section.deletions (p.section.base + other))
      → place_of p other ≡ place → other ≡ o

-- Deleted bytes are gone: each final place is that of one byte that stays, and each byte that stays
-- has one.
abbrev pub DeletedBytesAreGone : Type 0
DeletedBytesAreGone =
    (p : Packed) → IsPacked p
    → ((place : ℕ) → place < length p.final → (o : ℕ) × GoesAlone p place o)
    × ((o : ℕ) → o < length p.section.bytes
    → IsTrue (is_kept p.section.deletions (p.section.base + o)) → place_of p o < length p.final)

-- The address at which a final byte is, is that where its offset in the run goes.
abbrev pub PlacesHaveAddresses : Type 0
PlacesHaveAddresses =
    (p : Packed) → IsPacked p → (o : ℕ)
    → sum_64 p.addresses.section (place_of p o) ≡ address_of p.section (p.section.base + o)

-- ---- sites

-- The item at an index is a site that a run may make shorter, whose instructions are there, and no
-- relocation has a field in what stays of it.
pub record IsSiteOf (p : Packed) (i : ℕ) (here : site) : Type 0 where
  pub below : i < length p.items
  pub item : item_at p.items i ≡ Site here
  pub short : is_fixed (Site here) ≡ false
  pub there : HasItsInstructions p.machine p.section.bytes p.section.base (Site here)
  pub unwritten : IsUnwritten p (packed_offset p.section here.offset)
      (kept_len p.section.deletions (Site here))

-- where it is in the section before
abbrev pub site_offset : Packed → site → ℕ
site_offset p here = here.offset - p.section.base

-- how many bytes of it stay, and the final ones
abbrev pub site_len : Packed → site → ℕ
site_len p here = kept_len p.section.deletions (Site here)

abbrev pub site_bytes : Packed → site → List ℕ
site_bytes p here = take (site_len p here) (drop (packed_offset p.section here.offset) p.final)

-- the addresses where it goes, the code after it and its target
abbrev pub site_place : Packed → site → ℕ
site_place p here = address_of p.section here.offset

abbrev pub site_after : Packed → site → ℕ
site_after p here = sum_64 (site_place p here) (site_len p here)

abbrev pub site_target : Packed → site → ℕ
site_target p here = address_of p.section here.target

-- ---- deleted bytes

-- n bytes from an offset of the section before on are deleted
abbrev pub AreDeleted : Packed → ℕ → ℕ → Type 0
AreDeleted p o len =
    (k : ℕ) → k < len → is_kept p.section.deletions (p.section.base + (o + k)) ≡ false

-- An item of which nothing stays is deleted.
abbrev pub ItemsAreDeleted : Type 0
ItemsAreDeleted =
    (p : Packed) (item : Item) → p.section.base ≤ offset_of item
    → kept_len p.section.deletions item ≡ 0
    → AreDeleted p (offset_of item - p.section.base) (len_of item)

-- the address where an offset of the section before goes
abbrev pub address_at : Packed → ℕ → ℕ
address_at p o = address_of p.section (p.section.base + o)

-- Old is before four bytes at an offset of the section, and new where they and the next ones go, by
-- where code moved.
pub record IsBefore (p : Packed) (o : ℕ) (moved : ℕ → ℕ) (pc : ℕ) : Type 0 where
  pub small : pc + 4 < 2 ^ 64
  pub place : moved pc ≡ address_at p o
  pub next : moved (pc + 4) ≡ address_at p (o + 4)

-- ---- relocated instructions

-- The relocation at an index is of an instruction by its row, and has a value by its own symbol.
pub record HasValue (p : Packed) (i : ℕ) (row : RowInfo) (operands : Operands) : Type 0 where
  pub within : i < count p
  pub is_row : IsRow (architecture_of p.machine) (relocation_in p.relocations_after i).r_type
      (Some row)
  pub bits : BitRange
  pub insn : AnyForm
  pub size : row.size ≡ BitMasking bits insn
  pub has : has_value row.kind ≡ true
  pub unlabelled : names_label row.size row.kind ≡ false
  pub taken : operands_of (architecture_of p.machine) p.addresses p.symbols row
      (relocation_in p.relocations_after i) ≡ Ok operands
  pub value : ℤ
  pub value_is : value_of row operands ≡ Some value

-- Where it goes there is in the final section what the packing left there, with the relocation
-- applied, if its place is in the section. It may be the one instruction of a site that became
-- shorter.
abbrev pub PlacesAreRelocated : Type 0
PlacesAreRelocated =
    (p : Packed) → IsPacked p → (i : ℕ) (row : RowInfo) (operands : Operands)
    → HasValue p i row operands → offset_at p.relocations i ≤ length p.section.bytes
    → let place = place_of p (offset_at p.relocations i) in
    IsApplied row operands (take (window_len row) (drop place p.packed))
    (take (window_len row) (drop place p.final))

-- If it stays, it is in the final section the instruction of the section before with its relocation
-- applied.
abbrev pub InstructionsAreRelocated : Type 0
InstructionsAreRelocated =
    (p : Packed) → IsPacked p → (i : ℕ) (row : RowInfo) (operands : Operands)
    → HasValue p i row operands → let o = offset_at p.relocations i in
    StayTogether p o (window_len row)
    → IsApplied row operands (take (window_len row) (drop o p.section.bytes))
    (take (window_len row) (drop (place_of p o) p.final))

-- ---- sections that are rewritten, in one phase or in several, and then packed

-- All calls succeeded, and the one that packs took what the last phase left.
pub record IsRewrittenAndPacked (l : Linked) (p : Packed) : Type 0 where
  pub first : HasRewritten l.phase
  pub open first use *
  pub later : ArePhases l.later l.relocations_after l.rewritten l.relocations_last l.last
  pub packed : IsPacked p
  pub architecture : l.context.architecture ≡ architecture_of p.machine
  pub bytes : p.section.bytes ≡ l.last
  pub relocations_are : p.relocations ≡ l.relocations_last

-- The instruction of the relocation at an index stays as it was rewritten, and its relocation is
-- written.
pub record IsKeptInstruction (p : Packed) (i : ℕ) : Type 0 where
  pub bytes : StayTogether p (offset_at p.relocations i) 4
  pub r_type : (relocation_in p.relocations_after i).r_type ≡ (relocation_in p.relocations i).r_type

-- the final bytes of an instruction at an offset of the section before
abbrev pub final_instruction : Packed → ℕ → List ℕ
final_instruction p o = instruction_at p.final (place_of p o)

-- ---- sections that are packed with what `relax` returned of their run

-- What `relax` was passed and returned.
pub record Run : Type 0 where
  pub items : List Item
  pub shapes : List ℕ
  pub kept : List ℕ
  pub freed : List ℕ

-- The run was relaxed where it begins, as the contract of `relax` requires and ensures, and the
-- section is packed with what the run loses then.
pub record IsOfRun (p : Packed) (run : Run) : Type 0 where
  pub accepted : AreItems p.section.start run.items
  pub relaxed : IsRelaxation p.section.start run.items run.shapes run.kept run.freed
  pub lost : p.section.deletions ≡ deletions_of_run run.items run.kept

-- ---- alignments

-- N bytes from an address on lead to a multiple of a number, and no fewer do.
pub record IsAligned (power address padding : ℕ) : Type 0 where
  pub multiple : (address + padding) % power ≡ 0
  pub least : (n : ℕ) → n < padding → (address + n) % power ≢ 0

-- There are none, since more than a limit would be needed.
pub record IsSkipped (power address padding most : ℕ) : Type 0 where
  pub none : padding ≡ 0
  pub far : (n : ℕ) → n ≤ most → (address + n) % power ≢ 0

-- N bytes of padding from an address on are what an alignment requires there. One with a
-- limit has at most as many, or none.
abbrev pub AlignmentHolds : Alignment → ℕ → ℕ → Type 0
AlignmentHolds alignment address padding =
    MatchOption alignment.max_skip (IsAligned alignment.alignment address padding)
    (λ most. (IsAligned alignment.alignment address padding × (padding ≤ most))
    ⊎ IsSkipped alignment.alignment address padding most)

-- ---- in the final section

-- the address where the first nop of an alignment goes, how many bytes of them stay, and the
-- address where the code after them goes
abbrev pub padding_at : Packed → Alignment → ℕ
padding_at p alignment = address_of p.section alignment.offset

abbrev pub padding_len : Packed → Alignment → ℕ
padding_len p alignment = kept_len p.section.deletions (Aligned alignment)

abbrev pub code_at : Packed → Alignment → ℕ
code_at p alignment = address_of p.section (end_of (Aligned alignment))

-- the index of that in the final section
abbrev pub code_index : Packed → Alignment → ℕ
code_index p alignment = packed_offset p.section (end_of (Aligned alignment))

-- The code after an alignment is of the section, or begins where the section ends. That of an
-- alignment between two sections begins where the second one does.
pub record LeadsInto (p : Packed) (alignment : Alignment) : Type 0 where
  pub lower : p.section.base ≤ end_of (Aligned alignment)
  pub upper : end_of (Aligned alignment) ≤ p.section.base + length p.section.bytes

-- An alignment has the padding that it requires where that goes. The code after it goes next to
-- that, and is in the final section at this address.
pub record HoldsIn (p : Packed) (alignment : Alignment) : Type 0 where
  pub holds : AlignmentHolds alignment (padding_at p alignment) (padding_len p alignment)
  pub next : code_at p alignment ≡ padding_at p alignment + padding_len p alignment
  pub inside : LeadsInto p alignment → code_index p alignment ≤ length p.final
  pub there : LeadsInto p alignment
      → sum_64 p.addresses.section (code_index p alignment) ≡ code_at p alignment
  pub next_there : p.section.base ≤ alignment.offset → code_index p alignment
      ≡ packed_offset p.section alignment.offset + padding_len p alignment

-- Each alignment of the run holds in the final section: the code after it is at a multiple of the
-- alignment, and its padding is the least that leads there, or none where the limit is passed. It
-- may be one of the items that `pack_run` was passed, whose padding is nops (`PaddingIsNops`). One
-- that loses no bytes may be left out there.
abbrev pub AlignmentsHold : Type 0
AlignmentsHold =
    (p : Packed) → IsPacked p → (run : Run) → IsOfRun p run → (i : ℕ) (alignment : Alignment)
    → i < length run.items → item_at run.items i ≡ Aligned alignment → HoldsIn p alignment

-- A section before whose first byte the run has an alignment without a limit is aligned.
abbrev pub SectionsAreAligned : Type 0
SectionsAreAligned =
    (p : Packed) → IsPacked p → (run : Run) → IsOfRun p run → (i : ℕ) (alignment : Alignment)
    → i < length run.items → item_at run.items i ≡ Aligned alignment → alignment.max_skip ≡ None
    → end_of (Aligned alignment) ≡ p.section.base → p.addresses.section % alignment.alignment ≡ 0

-- ---- both calls

-- A section as it is packed with what its run loses, and the final bytes.
abbrev pub packed_of : RunSection → List (ℕ × ℕ) → ℕ → List ℕ → List ℕ → List ℕ → Addresses
    → List Symbol → List ℕ → Packed
packed_of s deletions start packed before after addresses symbols final =
    packed_as s.machine (section_of s.bytes.now s.base deletions start) (items_in s.items.now) packed
    before after addresses symbols final

-- `relax` of the items, in a run that begins at an address, and then `pack_section` left the final
-- bytes.
pub record AreRelaxedAndPacked (s : RunSection) (items : List Item) (start : ℕ)
    (before after : List ℕ) (addresses : Addresses) (symbols : List Symbol) (final : List ℕ)
    : Type 0 where
  pub run : Run
  pub of_items : run.items ≡ items
  pub packed : List ℕ
  pub is_packed : IsPacked (packed_of s (deletions_of_run run.items run.kept) start packed before
      after addresses symbols final)
  pub of_run : IsOfRun (packed_of s (deletions_of_run run.items run.kept) start packed before after
      addresses symbols final) run

-- The relocation at an index, whose place is in the section, has a row where it is written.
pub record IsOfRow (p : Packed) (i : ℕ) (row : RowInfo) : Type 0 where
  pub within : i < count p
  pub inside : offset_at p.relocations i ≤ length p.section.bytes
  pub is_row : IsRow (architecture_of p.machine) (relocation_in p.relocations_after i).r_type
      (Some row)

-- the number of the instruction's final bytes
abbrev pub final_number : Packed → ℕ → RowInfo → ℕ
final_number p i row =
    number_at row.size
    (take (window_len row) (drop (place_of p (offset_at p.relocations i)) p.final))

-- What the machine reads of a final branch, in units of n bytes, and adds to the address
-- where the branch goes, leads to the target of its relocation's formula.
abbrev pub Goes : Machine → Option RowInfo → (ℕ → ℤ) → ℕ → (Operands → ℕ) → Type 0
Goes machine row reads unit target =
    IsSomeAnd row (λ row.
    (p : Packed) → IsPacked p → p.machine ≡ machine → (i : ℕ) → IsOfRow p i row
    → (symbol : Symbol)
    → slice_get p.symbols (relocation_in p.relocations_after i).symbol ≡ Some symbol
    → let y = operands_with (architecture_of machine) p.addresses row symbol
    (relocation_in p.relocations_after i) 0 in
    AreAddresses y → IsAddress
    (pos (address_at p (offset_at p.relocations i))
    +ℤ (reads (final_number p i row) *ℤ pos unit)) (target y))

-- RISC-V (RISC-V unprivileged ISA, "JAL", "Conditional Branches", "Control Transfer Instructions")
abbrev pub RiscVGoes : RiscVRelocation → RiscVInstruction → Type 0
RiscVGoes name f =
    (isa : Isa)
    → Goes (machines.RiscV isa) (riscv_row name) (riscv_form f).machine 1 symbol_address

-- each jump and branch of RISC-V that has a relocation, but for calls by two instructions
abbrev pub RiscVBranchesGo : Type 0
RiscVBranchesGo =
    RiscVGoes riscv_names.R_RISCV_JAL JType × RiscVGoes riscv_names.R_RISCV_BRANCH BType
    × RiscVGoes riscv_names.R_RISCV_RVC_JUMP CjType
    × RiscVGoes riscv_names.R_RISCV_RVC_BRANCH CbType

-- LoongArch (LoongArch Reference Manual, volume 1, "B", "BEQZ", "BEQ", "PCADDI")
abbrev pub LoongArchGoes : LoongArch64Relocation → LoongArch64Instruction → (Operands → ℕ) → Type 0
LoongArchGoes name f = Goes machines.LoongArch64 (loongarch_row name) (loongarch_form f).machine 4

-- Each branch of LoongArch that has a relocation, but for calls by two instructions. `pcaddi`
-- computes the target.
abbrev pub LoongArchBranchesGo : Type 0
LoongArchBranchesGo =
    LoongArchGoes loongarch_names.R_LARCH_B16 Shift10 symbol_address
    × LoongArchGoes loongarch_names.R_LARCH_B21 Branch21 symbol_address
    × LoongArchGoes loongarch_names.R_LARCH_B26 Branch26 plt_address
    × LoongArchGoes loongarch_names.R_LARCH_PCREL20_S2 Shift5 symbol_address
