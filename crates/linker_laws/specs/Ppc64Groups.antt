-- PowerPC64: rewritten instructions are groups of the simulation, each by itself, whatever stands
-- before it. No code moves.
use Rattle.std.specs.Prelude.{◌≡◌, ℕ, zero, suc, ◌+◌, ◌-◌, ◌*◌, ◌^◌, ◌<◌, ◌==◌, ◌&&◌, not, nat_lt}
use Rattle.std.specs.Prelude.{Bool, if◌then◌else◌, List, drop, Option, Some, None, IsTrue}
use Rattle.std.specs.Prelude.{IsSomeAnd, ⊤}
use Rattle.linker_laws.specs.Imports.{Branch24, D, Ds, IsApplied, Operands, Ppc64Form}
use Rattle.linker_laws.specs.Imports.{Ppc64Relocation, difference_64, field, from_le_bytes}
use Rattle.linker_laws.specs.Imports.{ppc64_form, ppc64_reads, sum_64, w64}
use Rattle.linker_utils.specs.Ppc64Rewrites.{access_of, opcode_of, ppc64_rewrite, ra_of, rt_of}
use Rattle.linker_utils.specs.Ppc64Rewrites.{is_add_of_thread, is_addi, is_addi_of_toc}
use Rattle.linker_utils.specs.Ppc64Rewrites.{is_addis_of_entry, is_addis_of_toc, is_addis_over}
use Rattle.linker_utils.specs.Ppc64Rewrites.{is_bl, is_call, is_d_access, is_ds_access, is_indexed}
use Rattle.linker_utils.specs.Ppc64Rewrites.{is_indexed_any, is_indexed_word, is_ld, is_pla, is_pld}
use Rattle.linker_utils.specs.Ppc64Rewrites.{is_vector_access}
use Rattle.linker_elf.specs.Ppc64Relocations.{ppc64_row}
use Rattle.linker_elf.specs.declared.ppc64.relocations.Ppc64Relocation.TheVariants as names
use Rattle.linker_laws.specs.Changes.{ChangesOpen, OthersAgree, go_to, put, with_register}
use Rattle.linker_laws.specs.Machine.{BeginsRewritten, loaded, moved}
use Rattle.linker_laws.specs.Ppc64Machine as ppc64_machine
use Rattle.linker_laws.specs.Ppc64Machine.{Access, Formats, access_with, accessed, base, go_on}
use Rattle.linker_laws.specs.Ppc64Machine.{loads, loads_signed, shifted_sum, step, step_prefixed}
use Rattle.linker_laws.specs.Ppc64Machine.{stores, word_access_with, write}
use Rattle.linker_laws.specs.Schemes.{AreAddresses, symbol_address}
use Rattle.linker_laws.specs.Simulation.{State, Program, Machine, Link, Kind, Kinds, Agree, Group}
use Rattle.linker_laws.specs.Simulation.{anything, half, of_link, run, same}
use Rattle.linker_utils.specs.declared.ppc64.rewrites.RewriteKind.{RewriteKind}
use Rattle.linker_utils.specs.declared.ppc64.rewrites.RewriteKind.TheVariants as kinds
pub use Rattle.linker_laws.specs.Machine.{word_of}
pub use Rattle.linker_laws.specs.Schemes.{thread_offset}

-- ---- instructions as bytes

-- A relocation is applied to an instruction's bytes.
abbrev pub IsRelocated : Ppc64Relocation → Operands → List ℕ → List ℕ → Type 0
IsRelocated name o before after = IsSomeAnd (ppc64_row name) (λ row. IsApplied row o before after)

abbrev pub IsRewritten : RewriteKind → List ℕ → List ℕ → Type 0
IsRewritten kind before after = IsSomeAnd (ppc64_rewrite kind) (λ r. BeginsRewritten r before after)

-- the operands of an instruction at another place
abbrev pub at_place : ℕ → Operands → Operands
at_place at o = record o { place = at }

-- the number of the 8 bytes of a prefixed instruction
abbrev pub prefixed_of : List ℕ → ℕ
prefixed_of bytes = from_le_bytes w64 bytes

-- the register that such an instruction writes
abbrev pub prefixed_target : List ℕ → ℕ
prefixed_target insn = rt_of (word_of (drop 4 insn))

-- ---- addresses

-- S + A, by its distance from what the formula subtracts, where a register has the number of that:
-- register 2 has the TOC pointer, and register 13 the thread pointer
abbrev pub from_toc : Operands → ℕ → ℕ
from_toc o toc = sum_64 (difference_64 (symbol_address o) o.got_base) toc

abbrev pub from_thread : Operands → ℕ → ℕ
from_thread o thread = sum_64 (thread_offset o) thread

-- the address of the GOT entry
abbrev pub entry_from_toc : Operands → ℕ → ℕ
entry_from_toc o toc = sum_64 (difference_64 o.got_entry o.got_base) toc

-- S + A of an instruction 4 bytes on, with 4 more in its addend
abbrev pub four_on : Operands → Operands
four_on o = record o { place = sum_64 o.place 4; symbol = sum_64 o.symbol 4 }

-- Instructions with the low half of an address lead from a number to a target, wherever they are.
abbrev pub Leads : Ppc64Relocation → Ppc64Form → Operands → ℕ → ℕ → Type 0
Leads low form o number target =
    (there : ℕ) (insn over : List ℕ) → IsRelocated low (at_place there o) insn over
    → moved number (ppc64_reads form (word_of over)) ≡ target

-- The low half of a variable's address from a number in a register: in `addi`, `lwz` and so on, and
-- in `ld`, `std` and `lwa`.
abbrev pub LowHalfLeads : Operands → ℕ → ℕ → Type 0
LowHalfLeads o number target =
    Leads names.R_PPC64_TPREL16_LO D o number target
    × Leads names.R_PPC64_TPREL16_LO_DS Ds o number target

-- ---- accesses

-- a load or a store, by its opcode less 32
abbrev pub access_number : ℕ → ℕ
access_number word = field word 26 31

-- an access over a register
abbrev pub is_over_base : (ℕ → Bool) → ℕ → Bool
is_over_base is_access word = is_access word && not (ra_of word == 0)

-- what `ld`, `lwa` and `std` access
abbrev pub ds_access : ℕ → Access
ds_access word =
    if opcode_of word == 62 then stores 8 else (
    if field word 0 2 == 0 then loads 8 else loads_signed 4)

-- the base and the displacement
abbrev pub address_read : ℕ → ppc64_machine.State → ℕ
address_read word s = moved (base (ra_of word) s) (ppc64_reads Ds word)

-- what any indexed load or store accesses
abbrev pub indexed_access : ℕ → Access
indexed_access word =
    if field word 0 6 == 0x2e then access_with (access_of word)
    else word_access_with (access_of word)

-- ---- what an instruction does with an address

-- Instructions: the test of their words, and what they do with an address.
pub record Use : Type 0 where
  pub test : ℕ → Bool
  pub does : Formats → ℕ → ℕ → ppc64_machine.State → ppc64_machine.State

-- those that put it in rT, and those that access it
abbrev pub adds : (ℕ → Bool) → Use
adds test =
    record {
      test = test;
      does = λ f word address. write (rt_of word) address;
    }

abbrev pub accesses : (ℕ → Bool) → (ℕ → Access) → Use
accesses test access =
    record {
      test = test;
      does = λ f word address. accessed f (access word) (rt_of word) address;
    }

abbrev pub is_d_over : Use
is_d_over = accesses (is_over_base is_d_access) (λ word. access_with (access_number word))

-- ---- the machine

pub record Processor : Type 0 where
  -- what any other instruction does, by its number
  pub others : ℕ → Program
  pub formats : Formats

-- Of a state, what the machine of rewritten instructions has. Floating-point registers are those
-- from 32 up, and the link register is register 64.
abbrev pub seen : State → ppc64_machine.State
seen s =
    record {
      registers = s.registers;
      floats = λ r. s.registers (32 + r);
      link = s.registers 64;
      pc = s.pc;
      memory = s.memory;
    }

-- what that machine leaves
abbrev pub left : State → ppc64_machine.State → State
left s u =
    record s {
      pc = u.pc;
      registers = λ r. if nat_lt r 32 then u.registers r else (
          if nat_lt r 64 then u.floats (r - 32) else (if r == 64 then u.link else s.registers r));
      memory = u.memory;
    }

-- An instruction of 8 bytes begins so.
abbrev pub is_prefix : ℕ → Bool
is_prefix word = opcode_of word == 1

-- the number of the 4 or 8 bytes of an instruction
abbrev pub instruction_at : (ℕ → ℕ) → ℕ → ℕ
instruction_at code at =
    let word = loaded 4 code at in
    if is_prefix word then word + loaded 4 code (sum_64 at 4) * 2 ^ 32 else word

-- what that machine leaves, or what another instruction does, by its number
abbrev pub executed : (ℕ → Program) → ℕ → State → Option ppc64_machine.State → Option State
executed others number s None = others number s
executed others number s (Some u) = Some (left s u)

abbrev pub execute : Processor → ℕ → Program
execute p number s =
    executed p.others number s (if is_prefix number then step_prefixed p.formats number (seen s)
    else step p.formats number (seen s))

abbrev pub machine : Processor → Machine
machine p code s = execute p (instruction_at code s.pc) s

pub record Code : Type 0 where
  pub processor : Processor
  pub old : ℕ → ℕ
  pub new : ℕ → ℕ
  -- of a number that differs, by its index: what old's instruction makes, and what new's makes
  pub old_half : ℕ → ℕ
  pub new_half : ℕ → ℕ

abbrev pub link : Code → Link
link c =
    record {
      machine = machine c.processor;
      old = c.old;
      new = c.new;
      moved = λ a. a;
      halves = λ h x y. x == c.old_half h && y == c.new_half h;
    }

-- ---- what stands, and what is left

-- n words stand at an address
abbrev pub Stands : ℕ → (ℕ → ℕ) → ℕ → List ℕ → Type 0
Stands zero code at bytes = ⊤
Stands (suc n) code at bytes =
    (loaded 4 code at ≡ word_of bytes) × Stands n code (sum_64 at 4) (drop 4 bytes)

-- They do with a relocation applied.
pub record Has (n : ℕ) (code : ℕ → ℕ) (at : ℕ) (name : Ppc64Relocation) (o : Operands)
    (bytes : List ℕ) : Type 0 where
  pub relocated : List ℕ
  pub applied : IsRelocated name o bytes relocated
  pub stands : Stands n code at relocated

-- a group of one instruction of n bytes in both, which leaves a number of a kind in a register
abbrev pub Leaves : ℕ → Code → Kinds → State → ℕ → Kind → ℕ → Type 0
Leaves n c k s r kind number =
    Group (of_link (link c)) 1 k s (with_register r kind k) (put r number (sum_64 s.pc n) s)

-- Whatever state of new agrees, such a number is in a register.
abbrev pub NewHas : Code → Kinds → State → ℕ → (ℕ → Type 0) → Type 0
NewHas c k s r Is = (t : State) → Agree (link c) k s t → Is (t.registers r)

-- old's number and new's of index h
abbrev pub AreHalves : Code → ℕ → ℕ → ℕ → Type 0
AreHalves c h old new = (c.old_half h ≡ old) × (c.new_half h ≡ new)

-- what an `addis` leaves
abbrev pub high_part : List ℕ → State → ℕ
high_part addis s = shifted_sum (word_of addis) (seen s)

-- From a number low halves lead to an address, by what a base register has.
abbrev pub Low : Ppc64Relocation → Ppc64Form → (Operands → ℕ → ℕ) → Operands → ℕ → ℕ
    → Type 0
Low name form address o number base = Leads name form o number (address o base)

-- A low half of `ld` leads to a number in memory, from a number.
pub record Takes (low : Ppc64Relocation) (o : Operands) (s : State) (base number : ℕ) : Type 0 where
  pub at : ℕ
  pub leads : Leads low Ds o base at
  pub holds : loaded 8 s.memory at ≡ number

-- ---- laws

-- the relocation of an instruction, the one that a rewrite leaves, and the bytes before and after,
-- which are a group
abbrev pub AreGroup : Type 1
AreGroup = Ppc64Relocation → Ppc64Relocation → List ℕ → List ℕ → Type 0

-- ---- high halves

-- `addis rX` over a register becomes `nop`.
abbrev pub ToNop : ℕ → (Operands → ℕ → ℕ → Type 0) → AreGroup
ToNop register LowHalvesLead name after addis blank =
    (c : Code) (o : Operands) (k : Kinds) (s : State) → AreAddresses o
    → (old : Has 1 c.old s.pc name o addis) → Stands 1 c.new s.pc blank
    → let number = high_part old.relocated s in
    LowHalvesLead o number (s.registers register)
    × Leaves 4 c k s (rt_of (word_of addis)) anything number

-- `addis rX,2` stays, with another relocation. Both are half h.
abbrev pub Kept : (OldLeads NewLeads : Operands → ℕ → ℕ → Type 0) → AreGroup
Kept OldLeads NewLeads name after addis addis_after =
    (c : Code) (h : ℕ) (x y : Operands) (k : Kinds) (s : State) → AreAddresses x → AreAddresses y
    → k.registers 2 ≡ same
    → (old : Has 1 c.old s.pc name x addis) (new : Has 1 c.new s.pc after y addis_after)
    → AreHalves c h (high_part old.relocated s) (high_part new.relocated s)
    → OldLeads x (c.old_half h) (s.registers 2) × NewLeads y (c.new_half h) (s.registers 2)
    × Leaves 4 c k s (rt_of (word_of addis)) (half h) (c.old_half h)

-- ---- low halves

-- `ld rY` of the GOT entry, which holds the address, becomes `addi rY`.
abbrev pub LoadToSum : AreGroup
LoadToSum name after ld addi =
    (c : Code) (address : ℕ) (x y : Operands) (k : Kinds) (s : State)
    → Takes name x s (s.registers (ra_of (word_of ld))) address
    → NewHas c k s (ra_of (word_of ld)) (λ n. Leads after D y n address)
    → Has 1 c.old s.pc name x ld → Has 1 c.new s.pc after y addi
    → Leaves 4 c k s (rt_of (word_of ld)) same address

-- what an instruction does with an address
abbrev pub used : Processor → Use → ℕ → ℕ → State → State
used p how word address s = left s (go_on (how.does p.formats word address (seen s)))

-- a group of one instruction in both, which do the same with an address, if that keeps agreement
abbrev pub Uses : Code → Use → ℕ → ℕ → Kinds → State → Type 0
Uses c how word address k s =
    (k' : Kinds) → let after = used c.processor how word address in
    ((t : State) → Agree (link c) k s t → Agree (link c) k' (after s) (after t))
    → Group (of_link (link c)) 1 k s k' (after s)

-- An instruction over a register that has a high half becomes the same over the base register.
abbrev pub OverBase : ℕ → Ppc64Form → (Operands → ℕ → ℕ) → Use → AreGroup
OverBase register form address how low whole insn over =
    (c : Code) (o : Operands) (k : Kinds) (s : State) → AreAddresses o
    → IsTrue (how.test (word_of insn)) → k.registers register ≡ same
    → let target = address o (s.registers register) in
    Leads low form o (s.registers (ra_of (word_of insn))) target
    → Has 1 c.old s.pc low o insn → Has 1 c.new s.pc whole o over
    → Uses c how (word_of insn) target k s

-- sums of addresses, and loads and stores
abbrev pub LowOverBase : ℕ → (Operands → ℕ → ℕ) → AreGroup
LowOverBase register address low whole insn over =
    OverBase register D address (adds is_addi) low whole insn over
    × OverBase register D address is_d_over low whole insn over

-- `lq` and accesses of vector registers, which the machine doesn't have: of one address and of one
-- register, by the same opcode
abbrev pub VectorOverBase : ℕ → (Operands → ℕ → ℕ) → AreGroup
VectorOverBase register address low whole insn over =
    (o : Operands) (s t : ppc64_machine.State) → AreAddresses o
    → IsTrue (is_over_base is_vector_access (word_of insn))
    → Leads low Ds o (s.registers (ra_of (word_of insn))) (address o (t.registers register))
    → (low_of whole_of : List ℕ) → IsRelocated low o insn low_of → IsRelocated whole o over whole_of
    → (address_read (word_of low_of) s ≡ address_read (word_of whole_of) t)
    × (opcode_of (word_of low_of) ≡ opcode_of (word_of whole_of))
    × (rt_of (word_of low_of) ≡ rt_of (word_of whole_of))

-- loads and stores of whole words, and these
abbrev pub WordOverBase : ℕ → (Operands → ℕ → ℕ) → AreGroup
WordOverBase register address low whole insn over =
    OverBase register Ds address (accesses (is_over_base is_ds_access) ds_access) low whole
    insn over
    × VectorOverBase register address low whole insn over

-- ---- initial-exec

-- In new a register has a number from which low halves lead to a variable.
abbrev pub NewLeads : Code → Operands → Kinds → State → ℕ → Type 0
NewLeads c o k s r = NewHas c k s r (λ n. LowHalfLeads o n (from_thread o (s.registers 13)))

-- An instruction makes a number in old, and `addis rT,13` stands in new. Both are half h.
abbrev pub MakesHighHalf : Code → Operands → Kinds → State → ℕ → ℕ → List ℕ → Type 0
MakesHighHalf c o k s number rt addis_13 =
    (h : ℕ) → k.registers 13 ≡ same
    → (new : Has 1 c.new s.pc names.R_PPC64_TPREL16_HA o addis_13)
    → AreHalves c h number (high_part new.relocated s)
    → LowHalfLeads o (c.new_half h) (from_thread o (s.registers 13))
    × Leaves 4 c k s rt (half h) number

-- `ld rT` of the GOT entry, which holds the offset
abbrev pub OffsetToHighHalf : AreGroup
OffsetToHighHalf low after ld addis_13 =
    (c : Code) (o : Operands) (k : Kinds) (s : State) → AreAddresses o
    → Takes low o s (s.registers (ra_of (word_of ld))) (thread_offset o) → Has 1 c.old s.pc low o ld
    → MakesHighHalf c o k s (thread_offset o) (rt_of (word_of ld)) addis_13

-- `add rT,rY,13`, or a load or a store by that sum, becomes the same by a low half over rY.
abbrev pub OverOffset : Use → AreGroup
OverOffset how name low insn direct =
    (c : Code) (o : Operands) (k : Kinds) (s : State)
    → s.registers (ra_of (word_of insn)) ≡ thread_offset o
    → NewLeads c o k s (ra_of (word_of insn)) → Stands 1 c.old s.pc insn
    → Has 1 c.new s.pc low o direct
    → Uses c how (word_of insn) (from_thread o (s.registers 13)) k s

-- ---- arguments of `__tls_get_addr`

-- `addi rT` of a GOT entry
pub record IsArgument (low : Ppc64Relocation) (c : Code) (o : Operands) (entry : ℕ) (s : State)
    (addi : List ℕ) : Type 0 where
  pub small : AreAddresses o
  pub leads : Leads low D o (s.registers (ra_of (word_of addi))) entry
  pub old : Has 1 c.old s.pc low o addi

-- of general-dynamic: `addis rT,13`
abbrev pub ArgumentToHighHalf : AreGroup
ArgumentToHighHalf low after addi addis_13 =
    (c : Code) (o : Operands) (entry : ℕ) (k : Kinds) (s : State)
    → IsArgument low c o entry s addi
    → MakesHighHalf c o k s entry (rt_of (word_of addi)) addis_13

-- or `ld rT` of the GOT entry of initial-exec, which holds an offset
abbrev pub ArgumentToOffset : AreGroup
ArgumentToOffset low after addi ld =
    (c : Code) (h : ℕ) (x y : Operands) (entry : ℕ) (k : Kinds) (s : State)
    → IsArgument low c x entry s addi
    → c.old_half h ≡ entry
    → ((t : State) → Agree (link c) k s t
    → Takes after y t (t.registers (ra_of (word_of addi))) (c.new_half h))
    → Has 1 c.new s.pc after y ld → Leaves 4 c k s (rt_of (word_of addi)) (half h) entry

-- of local-dynamic: `addis rT,13,0`
abbrev pub ArgumentToThread : AreGroup
ArgumentToThread low after addi addis_13 =
    (c : Code) (h : ℕ) (o : Operands) (entry : ℕ) (k : Kinds) (s : State)
    → IsArgument low c o entry s addi
    → k.registers 13 ≡ same → AreHalves c h entry (sum_64 (s.registers 13) 0)
    → Stands 1 c.new s.pc addis_13 → Leaves 4 c k s (rt_of (word_of addi)) (half h) entry

-- ---- calls of `__tls_get_addr`

-- the state in which `bl` calls a function
abbrev pub called : List ℕ → State → State
called bl s = put 64 (sum_64 s.pc 4) (moved s.pc ((ppc64_form Branch24).machine (word_of bl))) s

-- `bl` stands in old. The function returns a number in r3, to the next of n words. Of two the
-- second is a `nop`, which old executes too. What else the function changes may be anything then,
-- and so may the link register.
pub record Returns (n : ℕ) (c : Code) (number : ℕ) (k : Kinds) (s : State) (k' : Kinds) (s' : State)
    (bl : List ℕ) : Type 0 where
  pub is : IsTrue (is_bl (word_of bl))
  pub stands : Stands n c.old s.pc bl
  -- how many instructions old executes after the `bl`
  pub executes : ℕ
  pub returns : run executes (machine c.processor c.old) (called bl s) ≡ Some s'
  pub changes :
      ChangesOpen (with_register 3 same k) (put 3 number (sum_64 s.pc (4 * n)) s) k' s'

-- `nop` and `addi 3,3`, from the high half of a variable's offset
abbrev pub CallToLowHalf : AreGroup
CallToLowHalf name low before made =
    (c : Code) (o : Operands) (k k' : Kinds) (s s' : State) (bl : List ℕ)
    → Returns 2 c (from_thread o (s.registers 13)) k s k' s' bl → NewLeads c o k s 3
    → Stands 1 c.new s.pc made → Has 1 c.new (sum_64 s.pc 4) low o (drop 4 made)
    → Group (of_link (link c)) 2 k s k' s'

-- n words in place of the call, which make a number of one in r3 and of r13
abbrev pub CallTo : ℕ → (ℕ → ℕ → ℕ) → AreGroup
CallTo n result name after before made =
    (c : Code) (number : ℕ) (k k' : Kinds) (s s' : State) (bl : List ℕ)
    → Returns n c (result number (s.registers 13)) k s k' s' bl
    → k.registers 13 ≡ same → NewHas c k s 3 (λ x. x ≡ number) → Stands n c.new s.pc made
    → Group (of_link (link c)) n k s k' s'

-- ---- prefixed instructions

-- Two words of 32 bits are of a sort.
pub record IsPrefixed (test : ℕ → ℕ → Bool) (insn : List ℕ) : Type 0 where
  pub prefix_below : word_of insn < 2 ^ 32
  pub word_below : word_of (drop 4 insn) < 2 ^ 32
  pub is : IsTrue (test (word_of insn) (word_of (drop 4 insn)))

-- One that is relative to itself stands in old, with a relocation.
pub record IsRelative (name : Ppc64Relocation) (c : Code) (o : Operands) (s : State)
    (insn : List ℕ) : Type 0 where
  pub small : AreAddresses o
  pub at : s.pc ≡ o.place
  pub old : Has 2 c.old s.pc name o insn

-- `pld rT` of the GOT entry, which holds the address, becomes `paddi rT`.
abbrev pub PldToPaddi : AreGroup
PldToPaddi name after pld paddi =
    (c : Code) (o : Operands) (k : Kinds) (s : State) → IsRelative name c o s pld
    → loaded 8 s.memory o.got_entry ≡ symbol_address o → Has 2 c.new s.pc after o paddi
    → Leaves 8 c k s (prefixed_target pld) same (symbol_address o)

-- The instructions of both leave half h, by its two numbers.
abbrev pub LeavesHalf : Code → Kinds → State → ℕ → ℕ → ℕ → Type 0
LeavesHalf c k s rt old new =
    (h : ℕ) → AreHalves c h old new → Leaves 8 c k s rt (half h) old

-- `paddi rT,13` of a variable's offset stands in new.
abbrev pub MakesVariable : (Operands → State → ℕ → Type 0) → AreGroup
MakesVariable OldMakes name after insn over =
    (c : Code) (o : Operands) (number : ℕ) (k : Kinds) (s : State)
    → IsRelative name c o s insn → OldMakes o s number
    → k.registers 13 ≡ same → Has 2 c.new s.pc after o over
    → LeavesHalf c k s (prefixed_target insn) number (from_thread o (s.registers 13))

-- `paddi rT` of the GOT entry of general-dynamic becomes `pld rT` of that of initial-exec.
abbrev pub ArgumentToLoad : AreGroup
ArgumentToLoad name after paddi pld =
    (c : Code) (x y : Operands) (offset : ℕ) (k : Kinds) (s : State)
    → IsRelative name c x s paddi → AreAddresses y → s.pc ≡ y.place
    → ((t : State) → Agree (link c) k s t → loaded 8 t.memory y.got_entry ≡ offset)
    → Has 2 c.new s.pc after y pld
    → LeavesHalf c k s (prefixed_target paddi) x.got_entry offset

-- `paddi rT` of the GOT entry of local-dynamic becomes `paddi rT,13,4096`.
abbrev pub ArgumentToBlock : AreGroup
ArgumentToBlock name after paddi over =
    (c : Code) (o : Operands) (k : Kinds) (s : State)
    → IsRelative name c o s paddi → k.registers 13 ≡ same
    → Stands 2 c.new s.pc over
    → LeavesHalf c k s (prefixed_target paddi) o.got_entry (sum_64 (s.registers 13) 0x1000)

-- `add rT,rY,13`, or a load or a store by that sum, becomes the same without r13. In old rY has an
-- offset, and in new the sum.
abbrev pub OverVariable : Use → AreGroup
OverVariable how name after insn direct =
    (c : Code) (offset : ℕ) (k : Kinds) (s : State)
    → let address = sum_64 offset (s.registers 13) in
    s.registers (ra_of (word_of insn)) ≡ offset
    → NewHas c k s (ra_of (word_of insn)) (λ n. n ≡ address) → Stands 1 c.old s.pc insn
    → Stands 1 c.new s.pc direct → Uses c how (word_of insn) address k s

-- ---- the TOC pointer

-- `addis 2,12` and `addi 2,2` at the entry of a function, whose address r12 has, become `lis 2` and
-- `addi 2,2`. They leave the address of the TOC.
abbrev pub TocAtEntry : Type 0
TocAtEntry =
    (c : Code) (o : Operands) (k : Kinds) (s : State) (addis addi lis following : List ℕ)
    → AreAddresses o → s.pc ≡ o.place → s.registers 12 ≡ o.place
    → IsTrue (is_addis_of_entry (word_of addis)) → IsTrue (is_addi_of_toc (word_of addi))
    → IsRewritten kinds.AddisToLis addis lis → IsRewritten kinds.AddiAfterLis addi following
    → Has 1 c.old s.pc names.R_PPC64_REL16_HA o addis
    → Has 1 c.old (sum_64 s.pc 4) names.R_PPC64_REL16_LO (four_on o) addi
    → Has 1 c.new s.pc names.R_PPC64_ADDR16_HA o lis
    → Has 1 c.new (sum_64 s.pc 4) names.R_PPC64_ADDR16_LO o following
    → Group (of_link (link c)) 2 k s (with_register 2 same k)
    (put 2 (symbol_address o) (sum_64 s.pc 8) s)

-- The `nop` to which a call returns becomes `ld 2,24(1)`. There new has what r2 has in old.
abbrev pub RestoresToc : AreGroup
RestoresToc name after nop ld =
    (c : Code) (k : Kinds) (s : State) → Stands 1 c.old s.pc nop → Stands 1 c.new s.pc ld
    → ((t : State) → Agree (link c) k s t
    → loaded 8 t.memory (sum_64 (t.registers 1) 24) ≡ s.registers 2)
    → Group (of_link (link c)) 1 k s (with_register 2 same k) (go_to (sum_64 s.pc 4) s)

-- ---- what becomes of the instructions of each relocation

-- The instructions that a law is of. `word`: those of one word that passes a test. `both`: those of
-- two words that pass one. `any`: all instructions. `kept`: an `addis` that isn't rewritten.
-- `after_call`: the `nop` after a call. `none_at_all`: no instruction.
pub data Sort : Type 0 where
  word : (ℕ → Bool) → Sort
  both : (ℕ → ℕ → Bool) → Sort
  any : Sort
  kept : Sort
  after_call : Sort
  none_at_all : Sort

-- Which relocation is left: none; one of a name, which is applied to all words, or to the second;
-- that of the call before them.
pub data Left : Type 0 where
  none : Left
  applied : Ppc64Relocation → Left
  to_second : Ppc64Relocation → Left
  of_call : Left

abbrev pub name_of : Left → Ppc64Relocation
name_of none = names.R_PPC64_NONE
name_of (applied name) = name
name_of (to_second name) = name
name_of of_call = names.R_PPC64_REL24

pub record Law : Type 1 where
  pub sort : Sort
  pub left : Left
  pub IsGroup : AreGroup

abbrev pub law : Sort → Left → AreGroup → Law
law sort left IsGroup = record { sort = sort; left = left; IsGroup = IsGroup }

-- by the relocation, and what becomes of the instruction
abbrev pub law_of : Ppc64Relocation → RewriteKind → Law
law_of names.R_PPC64_REL24 kinds.NopToRestoreToc = law after_call of_call RestoresToc
-- near the TOC pointer
law_of names.R_PPC64_TOC16_HA kinds.AddisToNop =
    law (word (is_addis_over 2)) none
    (ToNop 2 (λ o n base. Low names.R_PPC64_TOC16_LO D from_toc o n base
    × Low names.R_PPC64_TOC16_LO_DS Ds from_toc o n base))
law_of names.R_PPC64_TOC16_LO kinds.BaseToToc =
    law any (applied names.R_PPC64_TOC16) (LowOverBase 2 from_toc)
law_of names.R_PPC64_TOC16_LO_DS kinds.BaseToToc =
    law any (applied names.R_PPC64_TOC16_DS) (WordOverBase 2 from_toc)
-- near the thread pointer
law_of names.R_PPC64_TPREL16_HA kinds.AddisThreadToNop =
    law (word (is_addis_over 13)) none
    (ToNop 13 (λ o n base. LowHalfLeads o n (from_thread o base)))
law_of names.R_PPC64_TPREL16_LO kinds.BaseToThread =
    law any (applied names.R_PPC64_TPREL16) (LowOverBase 13 from_thread)
law_of names.R_PPC64_TPREL16_LO_DS kinds.BaseToThread =
    law any (applied names.R_PPC64_TPREL16_DS) (WordOverBase 13 from_thread)
-- loads of addresses
law_of names.R_PPC64_GOT_PCREL34 kinds.PldToPaddi =
    law (both is_pld) (applied names.R_PPC64_PCREL34) PldToPaddi
law_of names.R_PPC64_GOT16_HA kinds.KeepAddis =
    law kept (applied names.R_PPC64_TOC16_HA)
    (Kept (Low names.R_PPC64_GOT16_LO_DS Ds entry_from_toc) (Low names.R_PPC64_TOC16_LO D from_toc))
law_of names.R_PPC64_GOT16_LO_DS kinds.LdToAddi =
    law (word is_ld) (applied names.R_PPC64_TOC16_LO) LoadToSum
-- initial-exec
law_of names.R_PPC64_GOT_TPREL16_HA kinds.AddisToNop =
    law (word (is_addis_over 2)) none
    (ToNop 2 (Low names.R_PPC64_GOT_TPREL16_LO_DS Ds entry_from_toc))
law_of names.R_PPC64_GOT_TPREL16_LO_DS kinds.LdToAddisThread =
    law (word is_ld) (applied names.R_PPC64_TPREL16_HA) OffsetToHighHalf
law_of names.R_PPC64_GOT_TPREL16_DS kinds.LdToAddisThread =
    law (word is_ld) (applied names.R_PPC64_TPREL16_HA) OffsetToHighHalf
law_of names.R_PPC64_GOT_TPREL_PCREL34 kinds.PldToPaddiThread =
    law (both is_pld) (applied names.R_PPC64_TPREL34)
    (MakesVariable (λ o s number.
    (number ≡ thread_offset o) × (loaded 8 s.memory o.got_entry ≡ number)))
law_of names.R_PPC64_TLS kinds.AddToAddi =
    law (word is_add_of_thread) (applied names.R_PPC64_TPREL16_LO)
    (OverOffset (adds is_add_of_thread))
law_of names.R_PPC64_TLS kinds.IndexedToD =
    law (word is_indexed) (applied names.R_PPC64_TPREL16_LO)
    (OverOffset (accesses is_indexed (λ word. access_with (access_of word))))
law_of names.R_PPC64_TLS kinds.IndexedToDs =
    law (word is_indexed_word) (applied names.R_PPC64_TPREL16_LO_DS)
    (OverOffset (accesses is_indexed_word (λ word. word_access_with (access_of word))))
law_of names.R_PPC64_TLS kinds.AddToMove =
    law (word is_add_of_thread) none (OverVariable (adds is_add_of_thread))
law_of names.R_PPC64_TLS kinds.IndexedToDirect =
    law (word is_indexed_any) none (OverVariable (accesses is_indexed_any indexed_access))
-- general-dynamic, for local-exec and for initial-exec
law_of names.R_PPC64_GOT_TLSGD16_HA kinds.AddisToNop =
    law (word (is_addis_over 2)) none (ToNop 2 (Low names.R_PPC64_GOT_TLSGD16_LO D entry_from_toc))
law_of names.R_PPC64_GOT_TLSGD16_HA kinds.KeepAddis =
    law kept (applied names.R_PPC64_GOT_TPREL16_HA)
    (Kept (Low names.R_PPC64_GOT_TLSGD16_LO D entry_from_toc)
    (Low names.R_PPC64_GOT_TPREL16_LO_DS Ds entry_from_toc))
law_of names.R_PPC64_GOT_TLSGD16_LO kinds.AddiToAddisThread =
    law (word is_addi) (applied names.R_PPC64_TPREL16_HA) ArgumentToHighHalf
law_of names.R_PPC64_GOT_TLSGD16_LO kinds.AddiToLd =
    law (word is_addi) (applied names.R_PPC64_GOT_TPREL16_LO_DS) ArgumentToOffset
law_of names.R_PPC64_GOT_TLSGD16 kinds.AddiToAddisThread =
    law (word is_addi) (applied names.R_PPC64_TPREL16_HA) ArgumentToHighHalf
law_of names.R_PPC64_GOT_TLSGD16 kinds.AddiToLd =
    law (word is_addi) (applied names.R_PPC64_GOT_TPREL16_DS) ArgumentToOffset
law_of names.R_PPC64_GOT_TLSGD_PCREL34 kinds.PaddiToPaddiThread =
    law (both is_pla) (applied names.R_PPC64_TPREL34)
    (MakesVariable (λ o s number. number ≡ o.got_entry))
law_of names.R_PPC64_GOT_TLSGD_PCREL34 kinds.PaddiToPld =
    law (both is_pla) (applied names.R_PPC64_GOT_TPREL_PCREL34) ArgumentToLoad
law_of names.R_PPC64_TLSGD kinds.BranchToNop = law any none (CallTo 1 (λ number thread. number))
law_of names.R_PPC64_TLSGD kinds.BranchToAdd = law any none (CallTo 1 sum_64)
law_of names.R_PPC64_TLSGD kinds.CallToAddi =
    law any (to_second names.R_PPC64_TPREL16_LO) CallToLowHalf
law_of names.R_PPC64_TLSGD kinds.CallToAdd = law any none (CallTo 2 sum_64)
-- local-dynamic
law_of names.R_PPC64_GOT_TLSLD16_HA kinds.AddisToNop =
    law (word (is_addis_over 2)) none (ToNop 2 (Low names.R_PPC64_GOT_TLSLD16_LO D entry_from_toc))
law_of names.R_PPC64_GOT_TLSLD16_LO kinds.AddiToAddisThread =
    law (word is_addi) none ArgumentToThread
law_of names.R_PPC64_GOT_TLSLD16 kinds.AddiToAddisThread = law (word is_addi) none ArgumentToThread
law_of names.R_PPC64_GOT_TLSLD_PCREL34 kinds.PaddiToPaddi4096 =
    law (both is_pla) none ArgumentToBlock
law_of names.R_PPC64_TLSLD kinds.BranchToNop = law any none (CallTo 1 (λ number thread. number))
law_of names.R_PPC64_TLSLD kinds.CallToAddi4096 =
    law any none (CallTo 2 (λ number thread. sum_64 number 0x1000))
-- nothing else is rewritten
law_of name kind = law none_at_all none (λ name after before made. ⊥)

-- What a rewrite makes of instructions of a sort is a group with them.
abbrev pub Holds : Sort → RewriteKind → (List ℕ → List ℕ → Type 0) → Type 0
Holds (word test) kind AreSo =
    (before after : List ℕ) → IsTrue (test (word_of before)) → IsRewritten kind before after
    → AreSo before after
Holds (both test) kind AreSo =
    (before after : List ℕ) → IsPrefixed test before → IsRewritten kind before after
    → AreSo before after
Holds any kind AreSo =
    (before after : List ℕ) → IsRewritten kind before after → AreSo before after
Holds kept kind AreSo =
    (addis : List ℕ) → IsTrue (is_addis_of_toc (word_of addis)) → ppc64_rewrite kind ≡ None
    → AreSo addis addis
Holds after_call kind AreSo =
    (call restored : List ℕ) → IsPrefixed is_call call → IsRewritten kind call restored
    → AreSo (drop 4 call) (drop 4 restored)
Holds none_at_all kind AreSo = ⊤

pub record Groups : Type 0 where
  pub rewrites : (name : Ppc64Relocation) (kind : RewriteKind)
      → let l = law_of name kind in Holds l.sort kind (l.IsGroup name (name_of l.left))
  pub entries : TocAtEntry
  -- From the address of the TOC the whole distances of GOT entries lead to these.
  pub near_entries :
      (o : Operands) → AreAddresses o
      → Leads names.R_PPC64_GOT_TPREL16_DS Ds o o.got_base o.got_entry
      × Leads names.R_PPC64_GOT_TLSGD16 D o o.got_base o.got_entry
      × Leads names.R_PPC64_GOT_TLSLD16 D o o.got_base o.got_entry
  pub others :
      (c : Code) → OthersAgree (λ code at. execute c.processor (instruction_at code at)) (link c)
