-- AArch64: rewritten instructions are groups of the simulation. No code moves.
use Rattle.std.specs.Prelude.{◌≡◌, ◌≢◌, ℕ, Bool, true, ◌*◌, ◌/◌, ◌^◌, ◌<◌, ◌==◌, ◌&&◌, List, Option}
use Rattle.std.specs.Prelude.{Some, None, drop, ⊤, ◌-◌, IsSomeAnd}
use Rattle.linker_laws.specs.Imports.{IsApplied, IsRewritable, Operands, Rewrite, page, rewritten}
use Rattle.linker_laws.specs.Imports.{sum_64}
use Rattle.linker_elf.specs.declared.aarch64.relocations.AArch64Relocation.{AArch64Relocation}
use Rattle.linker_elf.specs.AArch64Relocations.{aarch64_row}
use Rattle.linker_utils.specs.AArch64Rewrites.{AreOfDescriptor, AreOfOneRegister, IsAdd64, IsAdrp}
use Rattle.linker_utils.specs.AArch64Rewrites.{IsIntoOwnSource, IsLdr64, aarch64_rewrite, rd_of}
use Rattle.linker_utils.specs.AArch64Rewrites.{rn_of}
use Rattle.linker_elf.specs.declared.aarch64.relocations.AArch64Relocation.TheVariants as names
use Rattle.linker_laws.specs.AArch64Machine as aarch64_machine
use Rattle.linker_laws.specs.AArch64Machine.{is_b, is_bl, load_64, step}
use Rattle.linker_laws.specs.Changes.{ChangesOpen, OthersAgree, go_to, put, with_register}
use Rattle.linker_laws.specs.Machine.{loaded}
use Rattle.linker_laws.specs.Schemes.{AreAddresses, plt_address, symbol_address}
use Rattle.linker_laws.specs.Simulation.{Agree, Group, Kinds, Link, Machine, Program, State}
use Rattle.linker_laws.specs.Simulation.{anything, half, of_link, run, same}
use Rattle.linker_utils.specs.declared.aarch64.rewrites.RewriteKind.TheVariants as kinds
use Rattle.linker_utils.specs.declared.aarch64.rewrites.RewriteKind.{RewriteKind}
pub use Rattle.linker_laws.specs.Machine.{BeginsRewritten, word_of}
pub use Rattle.linker_laws.specs.Schemes.{following, thread_offset}

-- ---- instructions as bytes

-- A relocation is applied to an instruction's bytes.
abbrev pub IsRelocated : AArch64Relocation → Operands → List ℕ → List ℕ → Type 0
IsRelocated name o before after = IsSomeAnd (aarch64_row name) (λ row. IsApplied row o before after)

abbrev pub IsRewritten : RewriteKind → List ℕ → List ℕ → Type 0
IsRewritten kind before after =
    IsSomeAnd (aarch64_rewrite kind) (λ r. BeginsRewritten r before after)

-- So do a section's bytes from the window on, after a rewrite of the section.
abbrev pub BeginsRewrittenAt : Option Rewrite → List ℕ → ℕ → Type 0
BeginsRewrittenAt None section o = ⊤
BeginsRewrittenAt (Some r) section o =
    IsRewritable r section o
    → BeginsRewritten r (drop (o - r.back) section)
    (drop (o - r.back) (rewritten (Some r) section o))

abbrev pub InSections : Type 0
InSections =
    (kind : RewriteKind) (section : List ℕ) (o : ℕ)
    → BeginsRewrittenAt (aarch64_rewrite kind) section o

-- the operands with another GOT entry
abbrev pub with_entry : ℕ → Operands → Operands
with_entry entry o = record o { got_entry = entry }

-- `adrp xN`, and an instruction with P from xN into xN, which are executed next
pub record IsPair (P : ℕ → Type 0) (o : Operands) (s : aarch64_machine.State)
    (adrp second : List ℕ) : Type 0 where
  pub small : AreAddresses o
  pub at : s.pc ≡ o.place
  pub one_register : AreOfOneRegister (word_of adrp) (word_of second)
  pub second_is : P (word_of second)

-- ---- the machine

-- Of a state, what the machine of rewritten instructions has. TPIDR_EL0 is register 32.
abbrev pub seen : State → aarch64_machine.State
seen s =
    record {
      registers = s.registers;
      pc = s.pc;
      memory = s.memory;
      thread_pointer = s.registers 32;
    }

-- what it leaves, or what another instruction does, by its word
abbrev pub executed : (ℕ → Program) → ℕ → State → Option aarch64_machine.State → Option State
executed others word s None = others word s
executed others word s (Some u) =
    Some (record s { pc = u.pc; registers = u.registers; memory = u.memory })

abbrev pub does : (ℕ → Program) → (ℕ → ℕ) → ℕ → Program
does others code at s = let word = loaded 4 code at in executed others word s (step word (seen s))

abbrev pub machine : (ℕ → Program) → Machine
machine others code s = does others code s.pc s

pub record Code : Type 0 where
  -- what any other instruction does, by its word
  pub others : ℕ → Program
  pub old : ℕ → ℕ
  pub new : ℕ → ℕ
  -- of a high half of initial-exec: the address of the GOT entry
  pub entry : ℕ → ℕ
  -- and the variable's offset from the thread pointer
  pub offset : ℕ → ℕ

-- After a high half the register has the entry's page in old, and the offset's high part in new.
abbrev pub link : Code → Link
link c =
    record {
      machine = machine c.others;
      old = c.old;
      new = c.new;
      moved = λ a. a;
      halves = λ h x y. x == page (c.entry h) && y / 2 ^ 16 == c.offset h / 2 ^ 16;
    }

-- ---- words of code

-- An instruction's bytes stand at the operands' place.
abbrev pub Stands : (ℕ → ℕ) → Operands → List ℕ → Type 0
Stands code o instruction = loaded 4 code o.place ≡ word_of instruction

-- They do with a relocation applied.
pub record Has (code : ℕ → ℕ) (name : AArch64Relocation) (o : Operands) (instruction : List ℕ)
    : Type 0 where
  pub relocated : List ℕ
  pub applied : IsRelocated name o instruction relocated
  pub stands : Stands code o relocated

-- a group of n instructions in both, which leave a number in a register
abbrev pub Leaves : ℕ → Code → Operands → Kinds → State → ℕ → ℕ → Type 0
Leaves n c o k s register number =
    Group (of_link (link c)) n k s (with_register register same k)
    (put register number (sum_64 o.place (4 * n)) s)

-- ---- addresses by two instructions

-- `adrp xN` and `ldr xN, [xN]` of an entry that holds the address become `adrp xN` and `add xN,
-- xN`.
abbrev pub GotToAddress : Type 0
GotToAddress =
    (c : Code) (o : Operands) (k : Kinds) (s : State) (adrp ldr add : List ℕ)
    → IsPair IsLdr64 o (seen s) adrp ldr → load_64 s.memory o.got_entry ≡ symbol_address o
    → IsRewritten kinds.LdrToAdd ldr add
    → Has c.old names.R_AARCH64_ADR_GOT_PAGE o adrp
    → Has c.old names.R_AARCH64_LD64_GOT_LO12_NC (following 4 o) ldr
    → Has c.new names.R_AARCH64_ADR_PREL_PG_HI21 o adrp
    → Has c.new names.R_AARCH64_ADD_ABS_LO12_NC (following 4 o) add
    → Leaves 2 c o k s (rd_of (word_of ldr)) (symbol_address o)

-- `adrp xN` and `add xN, xN` become `nop` and `adr xN`. The rewrite takes the bytes from the `adrp`
-- on, of which the `add` has those from the fifth on.
abbrev pub NopAndAdr : AArch64Relocation → Type 0
NopAndAdr of_page =
    (c : Code) (o : Operands) (k : Kinds) (s : State) (both made : List ℕ)
    → IsPair IsAdd64 o (seen s) both (drop 4 both) → IsRewritten kinds.AdrpAddToNopAdr both made
    → Has c.old of_page o both
    → Has c.old names.R_AARCH64_ADD_ABS_LO12_NC (following 4 o) (drop 4 both)
    → Stands c.new o made
    → Has c.new names.R_AARCH64_ADR_PREL_LO21 (following 4 o) (drop 4 made)
    → Leaves 2 c o k s (rd_of (word_of (drop 4 both))) (symbol_address o)

-- So do `adrp xN` and `ldr xN, [xN]`, where `add xN, xN` took the place of the `ldr` before.
abbrev pub LoadToNopAndAdr : Type 0
LoadToNopAndAdr =
    (c : Code) (o : Operands) (k : Kinds) (s : State) (adrp ldr both made : List ℕ)
    → IsPair IsLdr64 o (seen s) adrp ldr → load_64 s.memory o.got_entry ≡ symbol_address o
    → word_of both ≡ word_of adrp → IsRewritten kinds.AdrpAddToNopAdr both made
    → Has c.old names.R_AARCH64_ADR_GOT_PAGE o adrp
    → Has c.old names.R_AARCH64_LD64_GOT_LO12_NC (following 4 o) ldr
    → Stands c.new o made
    → Has c.new names.R_AARCH64_ADR_PREL_LO21 (following 4 o) (drop 4 made)
    → Leaves 2 c o k s (rd_of (word_of ldr)) (symbol_address o)

-- `adrp xN` and `add xN, xN` become `adr xN` and `nop`.
abbrev pub AdrAndNop : AArch64Relocation → Type 0
AdrAndNop of_page =
    (c : Code) (o : Operands) (k : Kinds) (s : State) (adrp add made nop : List ℕ)
    → IsPair IsAdd64 o (seen s) adrp add → IsRewritten kinds.AdrpToAdr adrp made
    → IsRewritten kinds.ReplaceWithNop add nop
    → Has c.old of_page o adrp → Has c.old names.R_AARCH64_ADD_ABS_LO12_NC (following 4 o) add
    → Has c.new names.R_AARCH64_ADR_PREL_LO21 o made → Stands c.new (following 4 o) nop
    → Leaves 2 c o k s (rd_of (word_of add)) (symbol_address o)

-- The value of the second page isn't checked, but `adr` reaches the symbol.
abbrev pub OfPages : (AArch64Relocation → Type 0) → Type 0
OfPages Holds = Holds names.R_AARCH64_ADR_PREL_PG_HI21 × Holds names.R_AARCH64_ADR_PREL_PG_HI21_NC

-- ---- addresses by one instruction, whatever stands before it

-- `add xD, xN`, where xN has the page of the address, becomes `adr xD`.
abbrev pub AddToAdr : Type 0
AddToAdr =
    (c : Code) (o : Operands) (k : Kinds) (s : State) (add made : List ℕ)
    → AreAddresses o → s.pc ≡ o.place → IsAdd64 (word_of add) → rd_of (word_of add) ≢ 31
    → s.registers (rn_of (word_of add)) ≡ page (symbol_address o)
    → IsRewritten kinds.AddToAdr add made
    → Has c.old names.R_AARCH64_ADD_ABS_LO12_NC o add
    → Has c.new names.R_AARCH64_ADR_PREL_LO21 o made
    → Leaves 1 c o k s (rd_of (word_of add)) (symbol_address o)

-- So does `ldr xD, [xN]` of the GOT entry, which holds the address, where xN has the entry's page.
-- Where it loads into XZR, nothing changes.
abbrev pub LdrToAdr : Type 0
LdrToAdr =
    (c : Code) (o : Operands) (k : Kinds) (s : State) (ldr made : List ℕ)
    → AreAddresses o → s.pc ≡ o.place → IsLdr64 (word_of ldr)
    → s.registers (rn_of (word_of ldr)) ≡ page o.got_entry
    → load_64 s.memory o.got_entry ≡ symbol_address o
    → IsRewritten kinds.LdrToAdr ldr made
    → Has c.old names.R_AARCH64_LD64_GOT_LO12_NC o ldr
    → Has c.new names.R_AARCH64_ADR_PREL_LO21 o made
    → (rd_of (word_of ldr) ≢ 31 → Leaves 1 c o k s (rd_of (word_of ldr)) (symbol_address o))
    × (rd_of (word_of ldr) ≡ 31 → Group (of_link (link c)) 1 k s k (go_to (sum_64 o.place 4) s))

-- ---- the halves of initial-exec

-- `adrp xN` of the entry becomes `movz xN`. Both are high half h.
abbrev pub HighHalfToMovz : Type 0
HighHalfToMovz =
    (c : Code) (h : ℕ) (o : Operands) (k : Kinds) (s : State) (adrp movz : List ℕ)
    → AreAddresses o → s.pc ≡ o.place → c.entry h ≡ o.got_entry → c.offset h ≡ thread_offset o
    → IsAdrp (word_of adrp) → rd_of (word_of adrp) ≢ 31 → IsRewritten kinds.MovzXnLsl16 adrp movz
    → Has c.old names.R_AARCH64_TLSIE_ADR_GOTTPREL_PAGE21 o adrp
    → Has c.new names.R_AARCH64_TLSLE_MOVW_TPREL_G1 o movz
    → Group (of_link (link c)) 1 k s (with_register (rd_of (word_of adrp)) (half h) k)
    (put (rd_of (word_of adrp)) (page o.got_entry) (sum_64 o.place 4) s)

-- `ldr xN, [xN]` of the entry, which holds the offset, becomes `movk xN`, where xN has high half h.
abbrev pub LowHalfToMovk : Type 0
LowHalfToMovk =
    (c : Code) (h : ℕ) (o : Operands) (k : Kinds) (s : State) (ldr movk : List ℕ)
    → AreAddresses o → s.pc ≡ o.place → c.entry h ≡ o.got_entry → c.offset h ≡ thread_offset o
    → IsLdr64 (word_of ldr) → IsIntoOwnSource (word_of ldr) → IsRewritten kinds.MovkXn ldr movk
    → load_64 s.memory o.got_entry ≡ thread_offset o
    → k.registers (rd_of (word_of ldr)) ≡ half h
    → s.registers (rd_of (word_of ldr)) ≡ page o.got_entry
    → Has c.old names.R_AARCH64_TLSIE_LD64_GOTTPREL_LO12_NC o ldr
    → Has c.new names.R_AARCH64_TLSLE_MOVW_TPREL_G0_NC o movk
    → Leaves 1 c o k s (rd_of (word_of ldr)) (thread_offset o)

-- ---- TLS descriptors

-- the state in which `blr xT` calls the descriptor's function
abbrev pub called : Operands → ℕ → State → State
called o t s =
    let function = load_64 s.memory o.got_entry in
    put 30 (sum_64 o.place 16) function (put 0 o.got_entry function (put t function function s))

-- `adrp x0`, `ldr xT, [x0]`, `add x0, x0` and `blr xT` stand in old. The function of the descriptor
-- returns, and leaves an offset in X0. What else it changes may be anything then, as are XT and
-- X30. By the ABI it changes no other register but the flags, and memory below the stack pointer.
-- Where the thread has no block yet, it makes one.
pub record Descriptor (c : Code) (o : Operands) (offset : ℕ) (k : Kinds) (s : State) (k' : Kinds)
    (s' : State) (adrp ldr add blr : List ℕ) : Type 0 where
  pub small : AreAddresses o
  pub at : s.pc ≡ o.place
  pub instructions : AreOfDescriptor (word_of adrp) (word_of ldr) (word_of add) (word_of blr)
  pub page : Has c.old names.R_AARCH64_TLSDESC_ADR_PAGE21 o adrp
  pub low : Has c.old names.R_AARCH64_TLSDESC_LD64_LO12 (following 4 o) ldr
  pub sum : Has c.old names.R_AARCH64_TLSDESC_ADD_LO12 (following 8 o) add
  pub call : Stands c.old (following 12 o) blr
  -- how many instructions the function executes
  pub executes : ℕ
  pub returns :
      run executes (machine c.others c.old) (called o (rd_of (word_of ldr)) s) ≡ Some s'
  pub changes :
      ChangesOpen (with_register 0 same k) (put 0 offset (sum_64 o.place 16) s) k' s'

-- two `nop` stand in new in place of the last two
pub record EndsInNops (c : Code) (o : Operands) (add blr nop nop_after : List ℕ) : Type 0 where
  pub first_made : IsRewritten kinds.ReplaceWithNop add nop
  pub second_made : IsRewritten kinds.ReplaceWithNop blr nop_after
  pub first : Stands c.new (following 8 o) nop
  pub second : Stands c.new (following 12 o) nop_after

-- The first two become `movz x0` and `movk x0` of the offset.
abbrev pub DescriptorToLocalExec : Type 0
DescriptorToLocalExec =
    (c : Code) (o : Operands) (k k' : Kinds) (s s' : State)
    (adrp ldr add blr movz movk nop nop_after : List ℕ)
    → Descriptor c o (thread_offset o) k s k' s' adrp ldr add blr
    → EndsInNops c o add blr nop nop_after
    → IsRewritten kinds.MovzX0Lsl16 adrp movz → IsRewritten kinds.MovkX0 ldr movk
    → Has c.new names.R_AARCH64_TLSLE_MOVW_TPREL_G1 o movz
    → Has c.new names.R_AARCH64_TLSLE_MOVW_TPREL_G0_NC (following 4 o) movk
    → Group (of_link (link c)) 4 k s k' s'

-- They become `adrp x0` and `ldr x0, [x0]` of another entry, which holds the number that the
-- function returns, whatever state of new agrees.
abbrev pub DescriptorToInitialExec : Type 0
DescriptorToInitialExec =
    (c : Code) (o : Operands) (offset entry : ℕ) (k k' : Kinds) (s s' : State)
    (adrp ldr add blr adrp_x0 ldr_x0 nop nop_after : List ℕ)
    → Descriptor c o offset k s k' s' adrp ldr add blr → EndsInNops c o add blr nop nop_after
    → entry < 2 ^ 64 → ((t : State) → Agree (link c) k s t → load_64 t.memory entry ≡ offset)
    → IsRewritten kinds.AdrpX0 adrp adrp_x0 → IsRewritten kinds.LdrX0 ldr ldr_x0
    → Has c.new names.R_AARCH64_TLSIE_ADR_GOTTPREL_PAGE21 (with_entry entry o) adrp_x0
    → Has c.new names.R_AARCH64_TLSIE_LD64_GOTTPREL_LO12_NC (following 4 (with_entry entry o)) ldr_x0
    → Group (of_link (link c)) 4 k s k' s'

-- ---- branches to undefined weak symbols

-- A branch goes on after itself, as the address of such a symbol says, and becomes `nop`. It leaves
-- a state, by the next address, and what is known then.
abbrev pub BranchToNop : AArch64Relocation → (ℕ → Bool) → (Kinds → Kinds) → (ℕ → State → State)
    → Type 0
BranchToNop name is_branch known left =
    (c : Code) (o : Operands) (k : Kinds) (s : State) (branch made : List ℕ)
    → AreAddresses o → s.pc ≡ o.place → plt_address o ≡ sum_64 o.place 4
    → is_branch (word_of branch) ≡ true → IsRewritten kinds.ReplaceWithNop branch made
    → Has c.old name o branch → Stands c.new o made
    → Group (of_link (link c)) 1 k s (known k) (left (sum_64 o.place 4) s)

-- `bl` leaves the next address in X30.
abbrev pub go_and_link : ℕ → State → State
go_and_link next s = put 30 next next s

abbrev pub WeakBranches : Type 0
WeakBranches =
    BranchToNop names.R_AARCH64_JUMP26 is_b (λ k. k) go_to
    × BranchToNop names.R_AARCH64_CALL26 is_bl (with_register 30 anything) go_and_link

-- ---- all of them

pub record Groups : Type 0 where
  pub loads : GotToAddress
  pub nop_and_adr : OfPages NopAndAdr
  pub load_to_nop_and_adr : LoadToNopAndAdr
  pub adr_and_nop : OfPages AdrAndNop
  pub add_to_adr : AddToAdr
  pub ldr_to_adr : LdrToAdr
  pub high_halves : HighHalfToMovz
  pub low_halves : LowHalfToMovk
  pub descriptor_to_local_exec : DescriptorToLocalExec
  pub descriptor_to_initial_exec : DescriptorToInitialExec
  pub branches : WeakBranches
  pub others : (c : Code) → OthersAgree (does c.others) (link c)
