-- Groups of one label of RISC-V: a high part, and the low parts whose symbol is the label at it
-- (RISC-V ELF psABI, "PC-Relative Symbol Addresses" and "TLS Descriptors").
use Rattle.std.specs.Prelude.{◌≡◌, ℕ, ◌<◌, ◌/◌, ◌^◌, ◌⊎◌, ◌&&◌, ◌==◌, Bool, true, false, List}
use Rattle.std.specs.Prelude.{length, Option, Some, None, if◌then◌else◌, slice_get, nat_le, not}
use Rattle.std.specs.Prelude.{◌-◌}
use Rattle.linker_rewriting.specs.Imports.{Addresses, Architecture, Choice, GotToPcRel, IsAscending}
use Rattle.linker_rewriting.specs.Imports.{Labelled, LinkFacts, Phase, Rela, Relaxation, RiscV}
use Rattle.linker_rewriting.specs.Imports.{Scope, Symbol, TlsLocalExec, cast_unsigned}
use Rattle.linker_rewriting.specs.Imports.{difference_64, r_type_of, relocation_in, riscv_name}
use Rattle.linker_rewriting.specs.Imports.{sum_64, w64}
use Rattle.linker_elf.specs.declared.elf.value.Operands.{Operands}
use Rattle.linker_elf.specs.declared.riscv64.relocations.RiscVRelocation.TheVariants as riscv64
use Rattle.linker_rewriting.specs.Candidates.{IsCandidateWith}
use Rattle.linker_rewriting.specs.Facts.{RelaxContext, link_facts}
use Rattle.linker_rewriting.specs.Groups.{IsScopeIn}
use Rattle.linker_rewriting.specs.Sequences.{is_marked_at}

-- ---- high parts

-- the `r_type` of the high parts whose groups a phase rewrites
abbrev pub high_r_type : Phase → ℕ
high_r_type TlsLocalExec = r_type_of (riscv_name riscv64.R_RISCV_TLSDESC_HI20)
high_r_type phase = r_type_of (riscv_name riscv64.R_RISCV_GOT_HI20)

-- a relocation with an `r_type` is at an offset
abbrev pub is_high : ℕ → ℕ → Rela → Bool
is_high r_type at r = (r.offset == at) && (r.r_type == r_type)

-- how many relocations at one offset are searched, so that a search has a bound
abbrev pub searched : ℕ
searched = 16

-- As many others at an offset are before the relocation with an index, where relocations ascend.
abbrev pub is_beyond : List ℕ → ℕ → ℕ → Bool
is_beyond bytes at n = nat_le searched n && ((relocation_in bytes (n - searched)).offset == at)

-- the relocation with an index is such a one, and is searched
abbrev pub is_high_in : List ℕ → ℕ → ℕ → ℕ → Bool
is_high_in bytes r_type at n =
    is_high r_type at (relocation_in bytes n) && not (is_beyond bytes at n)

-- the index of the first one of a section
abbrev pub IsHighAt : List ℕ → ℕ → ℕ → Option ℕ → Type 0
IsHighAt bytes r_type at None =
    (n : ℕ) → n < length bytes / 24 → is_high_in bytes r_type at n ≡ false
IsHighAt bytes r_type at (Some high) =
    (high < length bytes / 24) × (is_high_in bytes r_type at high ≡ true)
    × ((n : ℕ) → n < high → is_high_in bytes r_type at n ≡ false)

-- where a label is in the section
abbrev pub offset_of_label : Addresses → Option Symbol → Option ℕ
offset_of_label addresses None = None
offset_of_label addresses (Some label) = Some (difference_64 label.address addresses.section)

-- where the label of a relocation is: at a high part itself
abbrev pub label_offset : Phase → Addresses → List Symbol → Rela → Option ℕ
label_offset phase addresses values r =
    if r.r_type == high_r_type phase then Some r.offset
    else offset_of_label addresses (slice_get values r.symbol)

abbrev pub IsHighFrom : List ℕ → ℕ → Option ℕ → Option ℕ → Type 0
IsHighFrom bytes r_type None high = high ≡ None
IsHighFrom bytes r_type (Some at) high = IsHighAt bytes r_type at high

-- the index of the high part at the label of a relocation
abbrev pub IsHighOf : Phase → Addresses → List Symbol → List ℕ → Rela → Option ℕ → Type 0
IsHighOf phase addresses values bytes r high =
    IsHighFrom bytes (high_r_type phase) (label_offset phase addresses values r) high

-- the same in a context
abbrev pub IsHighIn : RelaxContext → List ℕ → Rela → Option ℕ → Type 0
IsHighIn s = IsHighOf s.phase s.addresses s.values

-- ---- one relocation

abbrev pub is_labelled : Scope → Bool
is_labelled Labelled = true
is_labelled scope = false

-- an architecture has them in a phase
abbrev pub has_labels : Architecture → Phase → Bool
has_labels RiscV TlsLocalExec = true
has_labels RiscV GotToPcRel = true
has_labels architecture phase = false

-- an `r_type` is of such groups
abbrev pub IsInLabel : Architecture → Phase → ℕ → Bool → Type 0
IsInLabel architecture phase r_type in_label =
    (scope : Scope) × IsScopeIn architecture phase r_type scope × (in_label ≡ is_labelled scope)

-- the mark that counts: of a TLS descriptor that of the high part, of a load each one's own
abbrev pub is_label_marked : Architecture → Phase → List ℕ → ℕ → Rela → ℕ → Bool
is_label_marked architecture TlsLocalExec bytes n r high =
    is_marked_at architecture bytes high (relocation_in bytes high)
is_label_marked architecture phase bytes n r high = is_marked_at architecture bytes n r

-- G, where G + A is 2^63 bytes from the place
abbrev pub far_entry : Operands → ℕ
far_entry o = difference_64 (sum_64 o.place (2 ^ 63)) (cast_unsigned w64 o.addend)

-- No entry of the GOT is in reach: no rewrite makes one.
abbrev pub without_entry : Option LinkFacts → Option LinkFacts
without_entry None = None
without_entry (Some facts) =
    Some (record facts {
      operands = record facts.operands { got_entry = far_entry facts.operands };
    })

-- what all of a label are chosen by: the symbol, the addend and the place of the high part
abbrev pub label_facts : RelaxContext → List ℕ → ℕ → Rela → ℕ → Option LinkFacts
label_facts s bytes n r high =
    without_entry (link_facts s (relocation_in bytes high) (relocation_in bytes high)
    (is_label_marked s.architecture s.phase bytes n r high))

-- the rewrite of a relocation with a high part
abbrev pub IsLabelCandidate : RelaxContext → List ℕ → List ℕ → ℕ → Rela → ℕ
    → Option (Choice Relaxation ℕ) → Type 0
IsLabelCandidate s bytes section n r high candidate =
    IsCandidateWith s bytes section n r (label_facts s bytes n r high) candidate

-- it is of a label with a high part, and has no rewrite
abbrev pub Lacks : RelaxContext → List ℕ → List ℕ → ℕ → Rela → ℕ → Type 0
Lacks s bytes section n r high =
    IsInLabel s.architecture s.phase r.r_type true × IsHighIn s bytes r (Some high)
    × IsLabelCandidate s bytes section n r high None

-- which high part keeps its group for a relocation
abbrev pub IsLacking : RelaxContext → List ℕ → List ℕ → ℕ → Rela → Option ℕ → Type 0
IsLacking s bytes section n r None = (high : ℕ) → Lacks s bytes section n r high → ⊥
IsLacking s bytes section n r (Some high) = Lacks s bytes section n r high

-- ---- groups

-- a relocation with an index below a limit keeps the group of a high part
abbrev pub HasLacking : RelaxContext → List ℕ → List ℕ → ℕ → ℕ → Type 0
HasLacking s bytes section limit high =
    (n : ℕ) × (n < limit) × Lacks s bytes section n (relocation_in bytes n) high

-- All of the group of a high part can be rewritten, in a section whose relocations ascend by
-- offset.
abbrev pub LabelFits : RelaxContext → List ℕ → List ℕ → ℕ → Type 0
LabelFits s bytes section high =
    IsAscending bytes × (HasLacking s bytes section (length bytes / 24) high → ⊥)

-- A relocation's group stays: the section's relocations don't ascend, no high part is at its label,
-- or one of the group has no rewrite.
abbrev pub LabelStays : RelaxContext → List ℕ → List ℕ → Rela → Type 0
LabelStays s bytes section r =
    (¬ IsAscending bytes)
    ⊎ (IsHighIn s bytes r None
    ⊎ ((high : ℕ) × IsHighIn s bytes r (Some high)
    × HasLacking s bytes section (length bytes / 24) high))

-- whether it does
abbrev pub IsLabelNote : RelaxContext → List ℕ → List ℕ → Rela → Bool → Type 0
IsLabelNote s bytes section r true = LabelStays s bytes section r
IsLabelNote s bytes section r false =
    (high : ℕ) × IsHighIn s bytes r (Some high) × LabelFits s bytes section high
