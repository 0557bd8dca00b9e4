-- Which bytes of a window recognising a relocation compares, and where a recognised one leads.
use Rattle.linker_reading.specs.Imports.{Architecture, BitMasking, Bool, CanRewrite, Choice}
use Rattle.linker_reading.specs.Imports.{FieldValue, IfNone, IfSome, IsNameOf, List, None, Option}
use Rattle.linker_reading.specs.Imports.{Ppc64, Reference, Relaxation, RowInfo, RowSize, Some}
use Rattle.linker_reading.specs.Imports.{addend_after, cast_unsigned, difference_64, drop, false}
use Rattle.linker_reading.specs.Imports.{length, nat_lt, offset_after, relaxation_deleted}
use Rattle.linker_reading.specs.Imports.{relaxation_matches, relaxation_rewrite, take, true, w64, ℕ}
use Rattle.std.specs.Prelude.{◌≡◌, ◌≤◌, ◌<◌, ◌+◌, ◌-◌, ◌/◌, ◌^◌, ◌&&◌, if◌then◌else◌}
use Rattle.linker_base.specs.declared.rewrite.RewriteWindow.{RewriteWindow}
use Rattle.linker_elf.specs.Entries.{is_ppc64_branch}
use Rattle.linker_elf.specs.declared.elf.Operands.{Operands}
use Rattle.linker_reading.specs.Fields.{IsProper, whole_number}
use Rattle.linker_reading.specs.Recognised.{Recogniser, IsOneOf, HasField, choices_at}
use Rattle.linker_reading.specs.Recognised.{deleted_start, deleted_count}
use Rattle.linker_reading.specs.AArch64Recogniser.{aarch64}
use Rattle.linker_reading.specs.RiscVRecogniser.{riscv}
use Rattle.linker_reading.specs.LoongArchRecogniser.{loongarch}
use Rattle.linker_reading.specs.Ppc64Recogniser.{ppc64}
use Rattle.linker_reading.specs.X86Recogniser.{x86_64}
use Rattle.linker_reading.specs.Solving.{IsSolved, terms_of}
use Rattle.linker_reading.specs.declared.solving.Reference.TheVariants as references
use Rattle.linker_reading.specs.declared.windows.Destination.{Destination}
use Rattle.linker_elf.specs.Architectures.{of_some}
use Rattle.linker_elf.specs.declared.elf.architecture.Architecture.TheVariants as architectures

-- ---- the window of all choices

-- A choice is listed for an offset of bytes, its rewrite is meant for what is there, and all is
-- there that recognising it compares. So it is recognised where it was made (`IsFound`, `IsMade`).
pub record IsRecognisable {K R : Type 0} (it : Recogniser K R) (name : R) (bytes : List ℕ) (o : ℕ)
    (c : Choice K R) : Type 0 where
  pub listed : IsOneOf c (choices_at it name bytes o)
  pub matches : relaxation_matches (it.relaxation c.kind) bytes o
  pub rewritable : CanRewrite (relaxation_rewrite (it.relaxation c.kind)) bytes o
  pub has_field :
      HasField (it.row c.relocation)
      (offset_after (relaxation_rewrite (it.relaxation c.kind)) o) bytes
  pub has_deleted :
      deleted_start (relaxation_deleted (it.relaxation c.kind)) o
      + deleted_count (relaxation_deleted (it.relaxation c.kind)) ≤ length bytes

-- Each choice that is there in all bytes is so in those from b on, below e.
abbrev pub HasEach : {K R : Type 0} → Recogniser K R → R → List ℕ → ℕ → ℕ → ℕ → Type 0
HasEach {K} {R} it name original o b e =
    (c : Choice K R) → IsRecognisable it name original o c
    → IsRecognisable it name (take (e - b) (drop b original)) (o - b) c

-- The window that begins at the last byte from which on it has each, and ends at the first one
-- below which it does. It has the offset, or ends there.
pub record IsLeastWindow {K R : Type 0} (it : Recogniser K R) (name : R) (original : List ℕ) (o : ℕ)
    (window : RewriteWindow) : Type 0 where
  pub back : window.back ≤ o
  pub ahead : window.back ≤ window.len
  pub has : HasEach it name original o (o - window.back) (o - window.back + window.len)
  pub last : (b : ℕ) → o - window.back < b → b ≤ o
      → HasEach it name original o b (length original) → ⊥
  pub first : (e : ℕ) → o ≤ e → e < o - window.back + window.len
      → HasEach it name original o (o - window.back) e → ⊥

-- that of the choices at the relocation with an `r_type`
pub record IsWindowBy {K R : Type 0} (it : Recogniser K R) (r_type : ℕ) (original : List ℕ) (o : ℕ)
    (window : RewriteWindow) : Type 0 where
  pub name : R
  pub is_name : IsNameOf it.elf_name r_type name
  pub least : IsLeastWindow it name original o window

-- that of the choices at the relocation of an architecture
abbrev pub IsWindowOf : Architecture → ℕ → List ℕ → ℕ → RewriteWindow → Type 0
IsWindowOf architectures.AArch64 = IsWindowBy aarch64
IsWindowOf architectures.RiscV = IsWindowBy riscv
IsWindowOf architectures.LoongArch64 = IsWindowBy loongarch
IsWindowOf architectures.Ppc64 = IsWindowBy ppc64
IsWindowOf architectures.X86_64 = IsWindowBy x86_64

-- ---- where a field leads

-- branches of PowerPC64, which enter a function of their own output at its local entry point
abbrev pub is_local_entry : RowSize → Bool
is_local_entry (BitMasking bits (Ppc64 insn)) = is_ppc64_branch insn
is_local_entry size = false

-- What is known of the address that a value of a row comes from, the addend after the rewrite, and
-- whether a branch of PowerPC64 leads there.
pub record LeadsTo (row : RowInfo) (value : FieldValue) (kind : Relaxation)
    (original : List ℕ) (o : ℕ) (operands : Operands) (d : Destination) : Type 0 where
  pub matches : relaxation_matches kind original o
  pub reference : of_some (λ t. t.reference) (terms_of row.kind row.size) ≡ Some d.reference
  pub solved : IsSolved row value operands (Some d.address)
  pub addend : d.addend ≡ addend_after (relaxation_rewrite kind) operands.addend
  pub local : d.is_local_entry ≡ is_local_entry row.size

-- There is no destination without a row, without a value, or where none is so.
abbrev pub IsDestination : Option RowInfo → Option FieldValue → Relaxation → List ℕ → ℕ
    → Operands → Option Destination → Type 0
IsDestination None value kind original o operands d = d ≡ None
IsDestination (Some row) None kind original o operands d = d ≡ None
IsDestination (Some row) (Some value) kind original o operands d =
    IfSome d (LeadsTo row value kind original o operands)
    × IfNone d (IsProper value
    → (e : Destination) → LeadsTo row value kind original o operands e → ⊥)

-- S, or L, or of a branch of PowerPC64 the local entry point: the address less the addend, if all
-- bits of it are known
abbrev pub is_of_symbol : Reference → Bool
is_of_symbol references.Symbol = true
is_of_symbol references.GotEntry = false
is_of_symbol references.PltEntry = true

abbrev pub local_entry_of : Destination → Option ℕ
local_entry_of d =
    if is_of_symbol d.reference
    then of_some (λ n. difference_64 n (cast_unsigned w64 d.addend)) (whole_number d.address)
    else None

-- How far after the symbol a branch of PowerPC64 leads in its own output: bits 5 to 7 of `st_other`
-- are the logarithm, from 4 bytes on (64-Bit ELF V2 ABI, "Symbol Values").
abbrev pub entry_distance : Bool → ℕ → ℕ
entry_distance is_local other = if is_local && nat_lt 1 (other / 32) then 2 ^ (other / 32) else 0

abbrev pub symbol_of : Destination → ℕ → Option ℕ
symbol_of d other =
    of_some (λ n. difference_64 n (entry_distance d.is_local_entry other)) (local_entry_of d)
