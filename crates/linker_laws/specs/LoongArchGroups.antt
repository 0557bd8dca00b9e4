-- LoongArch: rewritten instructions are groups of the simulation. Code gets shorter, so what is
-- old's and what is new's stand at places of their own.
use Rattle.std.specs.Prelude.{◌≡◌, ℕ, ◌+◌, ◌-◌, ◌/◌, ◌^◌, ◌<◌, ◌==◌, ◌&&◌, nat_lt, if◌then◌else◌}
use Rattle.std.specs.Prelude.{List, drop, Option, Some, None, IsTrue, option_map, ⊤, IsSomeAnd}
use Rattle.linker_laws.specs.Imports.{IsApplied, Operands, loongarch_row, page, sum_64, unwrap_or}
use Rattle.linker_elf.specs.declared.loongarch64.relocations.LoongArch64Relocation.{LoongArch64Relocation}
use Rattle.linker_utils.specs.declared.loongarch64.rewrites.RewriteKind.{RewriteKind}
use Rattle.linker_elf.specs.Choices.{RowIsWithin}
use Rattle.linker_base.specs.declared.rewrite.DeletedBytes.{DeletedBytes}
use Rattle.linker_utils.specs.LoongArchRewrites.{AreOfOneRegister, IsAddTp, IsAddi, IsCall}
use Rattle.linker_utils.specs.LoongArchRewrites.{IsCallOfDescriptor, IsLd, IsLoadOfDescriptor}
use Rattle.linker_utils.specs.LoongArchRewrites.{IsLowOfDescriptor, IsLu12i, IsPcalau12i}
use Rattle.linker_utils.specs.LoongArchRewrites.{adds_low12, loongarch_deleted, loongarch_rewrite}
use Rattle.linker_utils.specs.LoongArchRewrites.{rd_of, rj_of, signed_12, signed_32, tp}
use Rattle.linker_utils.specs.LoongArchRewrites.{unsigned_12}
use Rattle.linker_elf.specs.declared.loongarch64.relocations.LoongArch64Relocation.TheVariants as names
use Rattle.linker_laws.specs.Changes.{ChangesOpen, OthersAgree, go_to, put, with_register}
use Rattle.linker_laws.specs.LoongArchMachine as loongarch_machine
use Rattle.linker_laws.specs.LoongArchMachine.{Action, action_of, far_address, go_on, step, used}
use Rattle.linker_laws.specs.Machine.{Relocated, loaded}
use Rattle.linker_laws.specs.RiscVGroups.{of_place}
use Rattle.linker_laws.specs.Schemes.{AreAddresses, entry_and_addend, plt_address, symbol_address}
use Rattle.linker_laws.specs.Simulation.{Agree, AreOf, Group, Kind, Kinds, Link, Machine, Program}
use Rattle.linker_laws.specs.Simulation.{State, anything, half, of_link, run, same}
use Rattle.linker_utils.specs.declared.loongarch64.rewrites.RewriteKind.TheVariants as kinds
pub use Rattle.linker_laws.specs.Machine.{BeginsRewritten, word_of}
pub use Rattle.linker_laws.specs.Schemes.{following, thread_offset}

-- ---- instructions as bytes

-- A relocation is applied to an instruction's bytes.
abbrev pub IsRelocated : LoongArch64Relocation → Operands → List ℕ → List ℕ → Type 0
IsRelocated name o before after =
    IsSomeAnd (loongarch_row name) (λ row. IsApplied row o before after)

abbrev pub IsRewritten : RewriteKind → List ℕ → List ℕ → Type 0
IsRewritten kind before after =
    IsSomeAnd (loongarch_rewrite kind) (λ r. BeginsRewritten r before after)

-- the value of a relocation, which nothing else checks, is a number of 32 bits in two's complement
abbrev pub Fits32 : LoongArch64Relocation → Operands → Type 0
Fits32 name o = RowIsWithin (loongarch_row name) signed_32 o

-- `pcalau12i rd`, and an instruction with P from rd into rd
pub record IsPair (P : ℕ → Type 0) (pcala second : List ℕ) : Type 0 where
  pub one_register : AreOfOneRegister (word_of pcala) (word_of second)
  pub second_is : P (word_of second)

-- a pair that loads a GOT entry, or makes its address, with its relocations applied
pub record LoadsEntry (high low : LoongArch64Relocation) (o : Operands)
    (pcala ld pcala_of_entry ld_of_entry : List ℕ) : Type 0 where
  pub fits : Fits32 high o
  pub first : IsRelocated high o pcala pcala_of_entry
  pub second : IsRelocated low (following 4 o) ld ld_of_entry

-- ---- numbers

-- the offset without its low 12 bits
abbrev pub high_offset : Operands → ℕ
high_offset o = page (thread_offset o)

-- the page from which a number of 12 bits in two's complement leads to the GOT entry
abbrev pub near_entry : Operands → ℕ
near_entry o = page (sum_64 (entry_and_addend o) 0x800)

-- ---- the machine

pub record Processor : Type 0 where
  -- what any other instruction does, by its word
  pub others : ℕ → Program
  -- what a vector register with a number has after a load of n bytes
  pub widened : ℕ → ℕ → ℕ → ℕ

-- Of a state, what the machine of rewritten instructions has. Vector registers are those from 32
-- up.
abbrev pub seen : Processor → State → loongarch_machine.State
seen p s =
    record {
      registers = s.registers;
      floats = record { numbers = λ r. s.registers (32 + r); widened = p.widened };
      pc = s.pc;
      memory = s.memory;
    }

-- what an integer register is read as: `zero` is 0
abbrev pub register : State → ℕ → ℕ
register s r = if r == 0 then 0 else s.registers r

-- what that machine leaves
abbrev pub left : State → loongarch_machine.State → State
left s u =
    record s {
      pc = u.pc;
      registers = λ r. if nat_lt r 32 then u.registers r else u.floats.numbers (r - 32);
      memory = u.memory;
    }

-- or what another instruction does, by its word
abbrev pub executed : (ℕ → Program) → ℕ → State → Option loongarch_machine.State → Option State
executed others word s None = others word s
executed others word s (Some u) = Some (left s u)

abbrev pub does : Processor → (ℕ → ℕ) → ℕ → Program
does p code at s = let word = loaded 4 code at in executed p.others word s (step word (seen p s))

abbrev pub machine : Processor → Machine
machine p code s = does p code s.pc s

pub record Code : Type 0 where
  pub processor : Processor
  pub old : ℕ → ℕ
  pub new : ℕ → ℕ
  -- the new address of a byte of old, or of the next kept byte
  pub moved : ℕ → ℕ
  -- of a number that differs, by its index: what old's instruction makes, and what new's makes
  pub old_half : ℕ → ℕ
  pub new_half : ℕ → ℕ

abbrev pub link : Code → Link
link c =
    record {
      machine = machine c.processor;
      old = c.old;
      new = c.new;
      moved = c.moved;
      halves = λ h x y. x == c.old_half h && y == c.new_half h;
    }

-- ---- words of code

-- An instruction stands at an address.
abbrev pub Stands : (ℕ → ℕ) → ℕ → List ℕ → Type 0
Stands code at instruction = loaded 4 code at ≡ word_of instruction

-- It does with a relocation applied.
pub record Has (code : ℕ → ℕ) (name : LoongArch64Relocation) (o : Operands) (instruction : List ℕ)
    : Type 0 where
  pub relocated : List ℕ
  pub applied : IsRelocated name o instruction relocated
  pub stands : Stands code o.place relocated

-- n bytes of old, in whose place new has m, are followed by the same in both.
abbrev pub IsFollowed : Code → ℕ → ℕ → State → Type 0
IsFollowed c n m s = sum_64 (c.moved s.pc) m ≡ c.moved (sum_64 s.pc n)

-- Old's state is before them. The operands have the places of both.
pub record AreBefore (c : Code) (n m : ℕ) (x y : Operands) (s : State) : Type 0 where
  pub at : s.pc ≡ x.place
  pub place : y.place ≡ c.moved x.place
  pub next : sum_64 y.place m ≡ c.moved (sum_64 x.place n)

-- n bytes of old are deleted
pub record AreDeleted (c : Code) (n : ℕ) (s : State) : Type 0 where
  pub small : s.pc + n < 2 ^ 64
  pub moved : c.moved s.pc ≡ c.moved (s.pc + n)

-- how many bytes a rewrite deletes
abbrev pub deleted_by : RewriteKind → ℕ
deleted_by kind =
    unwrap_or (option_map (λ (bytes : DeletedBytes). bytes.count) (loongarch_deleted kind)) 0

-- ---- states

-- register r has number x, unless it is `zero`, and an address is next
abbrev pub put_unless_zero : ℕ → ℕ → ℕ → State → State
put_unless_zero r x next s = if r == 0 then go_to next s else put r x next s

abbrev pub with_unless_zero : ℕ → Kind → Kinds → Kinds
with_unless_zero r kind k = if r == 0 then k else with_register r kind k

-- A group of an instruction that leaves a number in a register, which may be anything then. New
-- has n instructions.
abbrev pub LeavesAnything : ℕ → Code → Kinds → State → ℕ → ℕ → Type 0
LeavesAnything n c k s r number =
    Group (of_link (link c)) n k s (with_unless_zero r anything k)
    (put_unless_zero r number (sum_64 s.pc 4) s)

-- Whatever state of new agrees, it has a number in a register.
abbrev pub NewHas : Code → Kinds → State → ℕ → ℕ → Type 0
NewHas c k s r x = (t : State) → Agree (link c) k s t → register t r ≡ x

-- ---- addresses by two instructions

-- A group leaves an address in the register of an instruction, which isn't `zero`. Both addresses
-- are of a kind. New has m bytes in n instructions.
abbrev pub Makes : ℕ → ℕ → (Operands → ℕ) → Code → Operands → Operands → Kinds → State → List ℕ
    → Type 0
Makes n m address c x y k s instruction =
    (kind : Kind) → AreBefore c 8 m x y s → AreOf (link c) 8 kind (address x) (address y)
    → Group (of_link (link c)) n k s (with_register (rd_of (word_of instruction)) kind k)
    (put (rd_of (word_of instruction)) (address x) (sum_64 x.place 8) s)

-- `pcalau12i rd` and `ld.d rd, rd` of a GOT entry that holds the address stand in old.
pub record Loads (c : Code) (x : Operands) (s : State) (pcala ld : List ℕ) : Type 0 where
  pub small : AreAddresses x
  pub holds : loaded 8 s.memory (entry_and_addend x) ≡ symbol_address x
  pub fits : Fits32 names.R_LARCH_GOT_PC_HI20 x
  pub high : Has c.old names.R_LARCH_GOT_PC_HI20 x pcala
  pub low : Has c.old names.R_LARCH_GOT_PC_LO12 (following 4 x) ld

-- `pcalau12i rd` and `addi.d rd, rd` stand there.
pub record Adds (name low_name : LoongArch64Relocation) (c : Code) (x : Operands)
    (pcala addi : List ℕ) : Type 0 where
  pub small : AreAddresses x
  pub fits : Fits32 name x
  pub high : Has c.old name x pcala
  pub low : Has c.old low_name (following 4 x) addi

-- The load becomes `addi.d rd, rd`.
abbrev pub GotToAddress : Type 0
GotToAddress =
    (c : Code) (x y : Operands) (k : Kinds) (s : State) (pcala ld addi : List ℕ)
    → IsPair IsLd pcala ld → Loads c x s pcala ld → IsRewritten kinds.LdToAddi ld addi
    → AreAddresses y
    → Fits32 names.R_LARCH_PCALA_HI20 y → Has c.new names.R_LARCH_PCALA_HI20 y pcala
    → Has c.new names.R_LARCH_PCALA_LO12 (following 4 y) addi
    → Makes 2 8 symbol_address c x y k s ld

-- Both become `pcaddi rd`.
abbrev pub GotToPcaddi : Type 0
GotToPcaddi =
    (c : Code) (x y : Operands) (k : Kinds) (s : State) (pcala ld pcaddi : List ℕ)
    → IsPair IsLd pcala ld → Loads c x s pcala ld → IsRewritten kinds.PcalaToPcaddi pcala pcaddi
    → AreAddresses y
    → Has c.new names.R_LARCH_PCREL20_S2 y pcaddi
    → Makes 1 (8 - deleted_by kinds.Delete) symbol_address c x y k s ld

-- So do `pcalau12i rd` and `addi.d rd, rd` of the symbol, or of a GOT entry for general- or
-- local-dynamic or of a TLS descriptor, by the relocations before and after.
abbrev pub SumToPcaddi : (name low_name after : LoongArch64Relocation) → RewriteKind
    → (Operands → ℕ) → Type 0
SumToPcaddi name low_name after deletes address =
    (c : Code) (x y : Operands) (k : Kinds) (s : State) (pcala addi pcaddi : List ℕ)
    → IsPair IsAddi pcala addi → Adds name low_name c x pcala addi
    → IsRewritten kinds.PcalaToPcaddi pcala pcaddi → AreAddresses y → Has c.new after y pcaddi
    → Makes 1 (8 - deleted_by deletes) address c x y k s addi

abbrev pub EntriesToPcaddi : Type 0
EntriesToPcaddi =
    SumToPcaddi names.R_LARCH_TLS_LD_PC_HI20 names.R_LARCH_GOT_PC_LO12
    names.R_LARCH_TLS_LD_PCREL20_S2 kinds.DeleteAddi entry_and_addend
    × SumToPcaddi names.R_LARCH_TLS_GD_PC_HI20 names.R_LARCH_GOT_PC_LO12
    names.R_LARCH_TLS_GD_PCREL20_S2 kinds.DeleteAddi entry_and_addend
    × SumToPcaddi names.R_LARCH_TLS_DESC_PC_HI20 names.R_LARCH_TLS_DESC_PC_LO12
    names.R_LARCH_TLS_DESC_PCREL20_S2 kinds.Delete entry_and_addend

-- ---- instructions alone, whatever stands before them

-- What is said of an instruction that is rewritten by itself. The bytes before are in old, with a
-- relocation by the first operands. The bytes after are in new, and were made with a relocation by
-- the second ones.
abbrev pub InstructionLaw : Type 1
InstructionLaw = List ℕ → List ℕ → Operands → Operands → Type 0

-- It is said of an instruction with P after a rewrite and a relocation.
abbrev pub Becomes : (ℕ → Type 0) → RewriteKind → LoongArch64Relocation → InstructionLaw → Type 0
Becomes P kind name Holds =
    (x y : Operands) (before rewritten after : List ℕ) → P (word_of before)
    → IsRewritten kind before rewritten → IsRelocated name y rewritten after
    → Holds before after x y

-- where new's offset has 12 bits
abbrev pub OfShortOffset : InstructionLaw → InstructionLaw
OfShortOffset Holds before after x y =
    RowIsWithin (loongarch_row names.R_LARCH_TLS_LE_LO12) unsigned_12 y → Holds before after x y

-- What is said of an instruction of old, in whose place new has n instructions that do nothing.
abbrev pub GoneLaw : Type 1
GoneLaw = ℕ → (Code → State → Type 0) → List ℕ → Type 0

-- a `nop`
abbrev pub HasNop : List ℕ → Code → State → Type 0
HasNop nop c s = IsFollowed c 4 4 s × Stands c.new (c.moved s.pc) nop

abbrev pub BecomesNop : (ℕ → Type 0) → GoneLaw → Type 0
BecomesNop P Holds =
    (before nop : List ℕ) → P (word_of before) → IsRewritten kinds.ReplaceWithNop before nop
    → Holds 1 (HasNop nop) before

-- or none
abbrev pub IsGone : Code → State → Type 0
IsGone c = AreDeleted c (deleted_by kinds.Delete)

abbrev pub IsDeleted : (ℕ → Type 0) → GoneLaw → Type 0
IsDeleted P Holds = (before : List ℕ) → P (word_of before) → Holds 0 IsGone before

-- old's number and new's of index h
abbrev pub AreHalves : Code → ℕ → ℕ → ℕ → Type 0
AreHalves c h old new = (c.old_half h ≡ old) × (c.new_half h ≡ new)

-- `pcalau12i rd` makes the entry's page in old, and the instruction after a number in new.
abbrev pub HighHalf : (name after_name : LoongArch64Relocation) → (Operands → ℕ) → InstructionLaw
HighHalf name after_name number before after x y =
    (c : Code) (h : ℕ) (k : Kinds) (s : State) → AreAddresses x → AreBefore c 4 4 x y s
    → AreHalves c h (near_entry x) (number y) → Fits32 name x → Fits32 after_name y
    → Has c.old name x before → Stands c.new y.place after
    → let n = rd_of (word_of before) in
    Group (of_link (link c)) 1 k s (with_unless_zero n (half h) k)
    (put_unless_zero n (near_entry x) (sum_64 x.place 4) s)

-- of initial-exec or of a TLS descriptor: `lu12i.w rd`
abbrev pub HighOffset : LoongArch64Relocation → InstructionLaw
HighOffset name = HighHalf name names.R_LARCH_TLS_LE_HI20 high_offset

abbrev pub HighHalfToLu12i : LoongArch64Relocation → Type 0
HighHalfToLu12i name =
    Becomes IsPcalau12i kinds.PcalaToLu12i names.R_LARCH_TLS_LE_HI20 (HighOffset name)

-- of a TLS descriptor: `pcalau12i rd` of a GOT entry of initial-exec
abbrev pub HighEntry : InstructionLaw
HighEntry before after x y =
    AreAddresses y
    → HighHalf names.R_LARCH_TLS_DESC_PC_HI20 names.R_LARCH_TLS_IE_PC_HI20 near_entry
    before after x y

-- where the offset has 12 bits: `nop`, or nothing
abbrev pub HighHalfGoes : LoongArch64Relocation → GoneLaw
HighHalfGoes name n Goes pcala =
    (c : Code) (x : Operands) (k : Kinds) (s : State) → Goes c s → AreAddresses x → s.pc ≡ x.place
    → Fits32 name x → Has c.old name x pcala
    → LeavesAnything n c k s (rd_of (word_of pcala)) (near_entry x)

-- `ld.d rd, rj` of initial-exec, where rj has the entry's page and the entry holds the offset. The
-- instruction after leaves the offset too, where a premise holds.
abbrev pub LowHalfIf : (Code → Kinds → State → Type 0) → InstructionLaw
LowHalfIf Holds before after x y =
    (c : Code) (k : Kinds) (s : State) → AreAddresses x → AreBefore c 4 4 x y s
    → thread_offset x ≡ thread_offset y → loaded 8 s.memory (entry_and_addend x) ≡ thread_offset x
    → register s (rj_of (word_of before)) ≡ near_entry x → Holds c k s
    → Has c.old names.R_LARCH_TLS_IE_PC_LO12 x before → Stands c.new y.place after
    → let n = rd_of (word_of before) in
    Group (of_link (link c)) 1 k s (with_unless_zero n same k)
    (put_unless_zero n (thread_offset x) (sum_64 x.place 4) s)

-- `ori rd, rj`, where rj has the offset's high part in new
abbrev pub LowHalf : InstructionLaw
LowHalf before after x y =
    LowHalfIf (λ c k s. NewHas c k s (rj_of (word_of before)) (high_offset y)) before after x y

-- ---- TLS descriptors, each instruction alone

-- `addi.d a0, a0`, where `a0` has the page, makes the descriptor's address. The instruction after
-- makes a number that new's premises say.
abbrev pub LowOfDescriptor : (Code → Kinds → State → Operands → ℕ → Type 0) → InstructionLaw
LowOfDescriptor NewMakes before after x y =
    (c : Code) (h : ℕ) (k : Kinds) (s : State) → AreAddresses x → AreBefore c 4 4 x y s
    → register s 4 ≡ near_entry x → c.old_half h ≡ entry_and_addend x
    → NewMakes c k s y (c.new_half h)
    → Has c.old names.R_LARCH_TLS_DESC_PC_LO12 x before → Stands c.new y.place after
    → Group (of_link (link c)) 1 k s (with_register 4 (half h) k)
    (put 4 (entry_and_addend x) (sum_64 x.place 4) s)

-- `a0` has the offset's high part, and `ori a0, a0` leaves the offset.
abbrev pub MakesOffset : Code → Kinds → State → Operands → ℕ → Type 0
MakesOffset c k s y number = NewHas c k s 4 (high_offset y) × (thread_offset y ≡ number)

-- `a0` has the page of an entry of initial-exec, and `ld.d a0, a0` loads what that holds.
abbrev pub LoadsOffset : Code → Kinds → State → Operands → ℕ → Type 0
LoadsOffset c k s y number =
    NewHas c k s 4 (near_entry y)
    × ((t : State) → Agree (link c) k s t → loaded 8 t.memory (entry_and_addend y) ≡ number)

-- `ld.d ra, a0, 0` loads the function's address, and new has a `nop`, or nothing.
abbrev pub LoadGoes : GoneLaw
LoadGoes n Goes ld =
    (c : Code) (k : Kinds) (s : State) → Goes c s → s.registers 4 < 2 ^ 64
    → Stands c.old s.pc ld
    → Group (of_link (link c)) n k s (with_register 1 anything k)
    (put 1 (loaded 8 s.memory (s.registers 4)) (sum_64 s.pc 4) s)

-- `jirl ra, ra, 0` calls the function, which leaves an offset in `a0`. New has the offset there,
-- and a `nop`, or nothing. What else the function changes may be anything then, as is `ra`. By the
-- psABI ("TLS Descriptors") it changes no other register, and returns by `ra`. It saves others
-- below the stack pointer. Where the thread has no block yet, it makes one.
abbrev pub CallGoes : GoneLaw
CallGoes n Goes jirl =
    (c : Code) (offset executes : ℕ) (k k' : Kinds) (s s' : State) → Goes c s
    → s.registers 1 < 2 ^ 64 → NewHas c k s 4 offset → Stands c.old s.pc jirl
    → run executes (machine c.processor c.old) (put 1 (sum_64 s.pc 4) (s.registers 1) s) ≡ Some s'
    → ChangesOpen (with_register 4 same k) (put 4 offset (sum_64 s.pc 4) s) k' s'
    → Group (of_link (link c)) n k s k' s'

-- ---- local-exec, where the offset has 12 bits

-- `lu12i.w rd` leaves 0.
abbrev pub OffsetGoes : GoneLaw
OffsetGoes n Goes lu12i =
    (c : Code) (x : Operands) (k : Kinds) (s : State) → Goes c s → AreAddresses x → s.pc ≡ x.place
    → RowIsWithin (loongarch_row names.R_LARCH_TLS_LE_LO12_R) signed_12 x
    → Has c.old names.R_LARCH_TLS_LE_HI20_R x lu12i
    → LeavesAnything n c k s (rd_of (word_of lu12i)) 0

-- `add.d rd, rj, tp`, where rj has 0
abbrev pub SumGoes : GoneLaw
SumGoes n Goes add =
    (c : Code) (k : Kinds) (s : State) → Goes c s → register s (rj_of (word_of add)) ≡ 0
    → s.registers tp < 2 ^ 64 → Stands c.old s.pc add
    → LeavesAnything n c k s (rd_of (word_of add)) (s.registers tp)

-- what an instruction does with a sum
abbrev pub uses : Processor → Action → ℕ → ℕ → State → State
uses p action rd sum s = left s (go_on (used action rd sum (seen p s)))

-- An instruction adds the low part of an offset to a register that has the thread pointer's number,
-- and the instruction after to the thread pointer. What it does with the sum keeps agreement.
abbrev pub LowPart : InstructionLaw
LowPart before after x y =
    let word = word_of before in
    (c : Code) (k k' : Kinds) (s : State) → AreBefore c 4 4 x y s
    → thread_offset x ≡ thread_offset y
    → RowIsWithin (loongarch_row names.R_LARCH_TLS_LE_LO12_R) signed_12 y
    → register s (rj_of word) ≡ s.registers tp → NewHas c k s tp (s.registers tp)
    → Has c.old names.R_LARCH_TLS_LE_LO12_R x before → Stands c.new y.place after
    → let after_use = uses c.processor (action_of (word / 2 ^ 22)) (rd_of word)
    (sum_64 (s.registers tp) (thread_offset x)) in
    ((t : State) → Agree (link c) k s t → Agree (link c) k' (after_use s) (after_use t))
    → Group (of_link (link c)) 1 k s k' (after_use s)

-- ---- calls

-- `pcaddu18i rd` and a `jirl` over rd, with the value of their relocation, stand in old, and a
-- branch in new. Old and new are at a target. rd may have anything then.
abbrev pub CallTo : RewriteKind → ℕ → (Operands → Kinds → Kinds) → (Operands → State → State)
    → Type 0
CallTo kind links known linked =
    (c : Code) (x y : Operands) (k : Kinds) (s : State) (call call_of branch : List ℕ)
    → AreAddresses x → AreAddresses y → AreBefore c 8 (8 - deleted_by kind) x y s
    → plt_address y ≡ c.moved (plt_address x) → IsCall links call 0 → IsRewritten kind call branch
    → Relocated (loongarch_row names.R_LARCH_CALL36) x call call_of
    → Stands c.old x.place call_of → Stands c.old (sum_64 x.place 4) (drop 4 call_of)
    → Has c.new names.R_LARCH_B26 y branch
    → let n = rd_of (word_of call) in
    Group (of_link (link c)) 1 k s (known x (with_register n anything k))
    (linked x (put n (far_address (word_of call_of) (seen c.processor s)) (plt_address x) s))

-- `bl` leaves the address after the call in `ra`, and `b` nothing.
abbrev pub Calls : Type 0
Calls =
    CallTo kinds.CallToBl 1 (λ x. with_register 1 (of_place (sum_64 x.place 8)))
    (λ x s. put 1 (sum_64 x.place 8) s.pc s)
    × CallTo kinds.CallToB 0 (λ x k. k) (λ x s. s)

pub record Groups : Type 0 where
  pub got : GotToAddress
  pub near_got : GotToPcaddi
  pub address : SumToPcaddi names.R_LARCH_PCALA_HI20 names.R_LARCH_PCALA_LO12
      names.R_LARCH_PCREL20_S2 kinds.Delete symbol_address
  pub near_entries : EntriesToPcaddi
  pub high_halves : HighHalfToLu12i names.R_LARCH_TLS_IE_PC_HI20
  pub no_high_halves : BecomesNop IsPcalau12i (HighHalfGoes names.R_LARCH_TLS_IE_PC_HI20)
  pub low_halves : Becomes IsLd kinds.LowToOri names.R_LARCH_TLS_LE_LO12 LowHalf
  -- `ori rd, zero`, where the offset has 12 bits
  pub short_low_halves : Becomes IsLd kinds.LowToOriZero names.R_LARCH_TLS_LE_LO12
      (OfShortOffset (LowHalfIf (λ c k s. ⊤)))
  pub descriptor_high_halves : HighHalfToLu12i names.R_LARCH_TLS_DESC_PC_HI20
  pub no_descriptor_high_halves :
      BecomesNop IsPcalau12i (HighHalfGoes names.R_LARCH_TLS_DESC_PC_HI20)
  pub deleted_descriptor_high_halves :
      IsDeleted IsPcalau12i (HighHalfGoes names.R_LARCH_TLS_DESC_PC_HI20)
  pub descriptor_entries : (x y : Operands) (pcala pcala_of : List ℕ) → IsPcalau12i (word_of pcala)
      → IsRelocated names.R_LARCH_TLS_IE_PC_HI20 y pcala pcala_of → HighEntry pcala pcala_of x y
  pub descriptor_low_halves : Becomes IsLowOfDescriptor kinds.LowToOri names.R_LARCH_TLS_LE_LO12
      (LowOfDescriptor MakesOffset)
  -- `ori a0, zero` leaves the offset, where it has 12 bits.
  pub short_descriptor_low_halves : Becomes IsLowOfDescriptor kinds.LowToOriZero
      names.R_LARCH_TLS_LE_LO12
      (OfShortOffset (LowOfDescriptor (λ c k s y number. thread_offset y ≡ number)))
  pub descriptor_entry_loads : Becomes IsLowOfDescriptor kinds.AddiToLd
      names.R_LARCH_TLS_IE_PC_LO12 (LowOfDescriptor LoadsOffset)
  pub descriptor_loads : BecomesNop IsLoadOfDescriptor LoadGoes
  pub deleted_descriptor_loads : IsDeleted IsLoadOfDescriptor LoadGoes
  pub descriptor_calls : BecomesNop IsCallOfDescriptor CallGoes
  pub deleted_descriptor_calls : IsDeleted IsCallOfDescriptor CallGoes
  pub high_offsets : IsDeleted IsLu12i OffsetGoes
  pub sums : IsDeleted IsAddTp SumGoes
  pub low_offsets : Becomes (λ word. IsTrue (adds_low12 (word / 2 ^ 22))) kinds.BaseToTp
      names.R_LARCH_TLS_LE_LO12_R LowPart
  pub calls : Calls
  -- other instructions
  pub others : (c : Code) → OthersAgree (does c.processor) (link c)
