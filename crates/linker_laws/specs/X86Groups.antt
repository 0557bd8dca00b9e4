-- x86-64: rewritten instructions are groups of the simulation (x86-64 psABI, "Optimize GOTPCRELX
-- Relocations" and "ELF Handling For Thread-Local Storage"). No code moves.
use Rattle.std.specs.Prelude.{◌≡◌, ℕ, zero, suc, ◌+◌, ◌-◌, ◌^◌, ◌<◌, ◌≤◌, ◌==◌, ◌&&◌, ◌⊎◌, Bool}
use Rattle.std.specs.Prelude.{true, false, not, nat_le, nat_lt, if◌then◌else◌, List, [], ◌∷◌, take}
use Rattle.std.specs.Prelude.{◌++◌, neg_ℤ, pos, drop, Option, Some, None, IsSomeAnd, IsTrue, ⊤}
use Rattle.linker_laws.specs.Imports.{IsApplied, Operands, RowInfo, X86_64Relocation, difference_64}
use Rattle.linker_laws.specs.Imports.{number_of_bytes, offset_after, rewritten, sum_64, x86_64_row}
use Rattle.linker_elf.specs.Choices.{operands_after}
use Rattle.std.specs.List.{All}
use Rattle.linker_elf.specs.declared.x86_64.relocations.X86_64Relocation.TheVariants as names
use Rattle.linker_laws.specs.Changes.{ChangesOpen, OthersAgree, go_to, put, with_register}
use Rattle.linker_laws.specs.Schemes.{AreAddresses}
use Rattle.linker_laws.specs.Simulation.{State, Program, Machine, Link, Kind, Kinds, Stored, Agree}
use Rattle.linker_laws.specs.Simulation.{AreOf, Group, anything, half, of_link, run, same}
use Rattle.linker_laws.specs.SimulationWorked.{of_byte}
use Rattle.linker_laws.specs.X86Machine as x86_machine
use Rattle.linker_laws.specs.X86Machine.{Flags, Operation, Instruction, Decoded, MOV, operate}
use Rattle.linker_laws.specs.X86Machine.{operate_into, bit_of, decode, execute, load, store_8}
use Rattle.linker_laws.specs.X86Machine.{extended, reg_of, rex2_prefix, rex_prefix}
use Rattle.linker_utils.specs.X86RelocationsAfter.{x86_64_relocation_after}
use Rattle.linker_utils.specs.X86Rewrites.{Original, is_one_at, lea_of_descriptor, legacy}
use Rattle.linker_utils.specs.X86Rewrites.{x86_64_matches, x86_64_originals, x86_64_rewrite}
use Rattle.linker_utils.specs.declared.x86_64.rewrites.RewriteKind.{RewriteKind}
use Rattle.linker_utils.specs.declared.x86_64.rewrites.RewriteKind.TheVariants as kinds

-- ---- the bytes of code, as rewrites and relocations leave them

-- A relocation at an offset of a section is applied.
pub record IsRelocatedBy (row : RowInfo) (operands : Operands) (o : ℕ)
    (before after : List ℕ) : Type 0 where
  -- the bytes from the offset on
  pub rest : List ℕ
  pub applied : IsApplied row operands (drop o before) rest
  pub whole : after ≡ take o before ++ rest

abbrev pub IsRelocated : X86_64Relocation → Operands → ℕ → List ℕ → List ℕ → Type 0
IsRelocated name operands o before after =
    IsSomeAnd (x86_64_row name) (λ row. IsRelocatedBy row operands o before after)

-- the state before an instruction that begins n bytes before the field at an offset
pub record IsBefore (n : ℕ) (section : List ℕ) (o : ℕ) (operands : Operands)
    (s : x86_machine.State) : Type 0 where
  pub bytes : All (λ b. b < 2 ^ 8) section
  pub offset : o < 2 ^ 64
  pub addresses : AreAddresses operands
  pub addend : operands.addend ≡ neg_ℤ (pos 4)
  pub ip : s.ip ≡ difference_64 operands.place n

-- the symbol's address
abbrev pub address : Operands → ℕ
address o = o.symbol

-- the symbol's offset from the thread pointer
abbrev pub thread_offset : Operands → ℕ
thread_offset o = difference_64 o.symbol o.tls_base

-- ---- the machine

-- RAX to R31 are registers 0 to 31 of a state. The flags are registers 32 to 37, each 0 or 1, and
-- the thread pointer is register 38.
abbrev pub flags_of : (ℕ → ℕ) → Flags
flags_of registers =
    record {
      carry = registers 32 == 1;
      parity = registers 33 == 1;
      auxiliary = registers 34 == 1;
      is_zero = registers 35 == 1;
      sign = registers 36 == 1;
      overflow = registers 37 == 1;
    }

abbrev pub is_flag : ℕ → Bool
is_flag r = nat_le 32 r && nat_lt r 38

abbrev pub flag : Flags → ℕ → Bool
flag f r =
    if r == 32 then f.carry else (
    if r == 33 then f.parity else (
    if r == 34 then f.auxiliary else (
    if r == 35 then f.is_zero else (
    if r == 36 then f.sign else f.overflow))))

-- Of a state, what the machine of rewritten instructions has.
abbrev pub seen : State → x86_machine.State
seen s =
    record {
      register = s.registers;
      ip = s.pc;
      memory = s.memory;
      flags = flags_of s.registers;
      fs = s.registers 38;
    }

-- all operations but MOV write the flags
abbrev pub is_arithmetic : Operation → Bool
is_arithmetic MOV = false
is_arithmetic op = true

abbrev pub sets_flags : Instruction → Bool
sets_flags (operate op n first second) = is_arithmetic op
sets_flags (operate_into r without_flags op n first second) = not without_flags
sets_flags i = false

-- what that machine leaves after an instruction
abbrev pub left : Instruction → State → x86_machine.State → State
left i s u =
    record s {
      pc = u.ip;
      registers =
          λ r. if sets_flags i && is_flag r then bit_of (flag u.flags r) else u.register r;
      memory = u.memory;
    }

-- or what another instruction does, by the bytes from its first on
abbrev pub executed : (List ℕ → Program) → List ℕ → State → Option Decoded → Option State
executed others bytes s None = others bytes s
executed others bytes s (Some d) =
    Some (left d.instruction s (execute d.instruction (sum_64 s.pc d.size) (seen s)))

-- n bytes of code from an address on
abbrev pub bytes_at : ℕ → (ℕ → ℕ) → ℕ → List ℕ
bytes_at zero code a = []
bytes_at (suc n) code a = code a ∷ bytes_at n code (sum_64 a 1)

-- An instruction has 15 bytes at most ("Instruction Format").
abbrev pub does : (List ℕ → Program) → List ℕ → Program
does others bytes s = executed others bytes s (decode bytes)

abbrev pub machine : (List ℕ → Program) → Machine
machine others code s = does others (bytes_at 15 code s.pc) s

pub record Code : Type 0 where
  -- what any other instruction does, by 15 bytes of code
  pub others : List ℕ → Program
  pub old : ℕ → ℕ
  pub new : ℕ → ℕ
  -- of a number that differs, by its index: what old's instruction makes, and what new's makes
  pub old_half : ℕ → ℕ
  pub new_half : ℕ → ℕ

abbrev pub link : Code → Link
link c =
    record {
      machine = machine c.others;
      old = c.old;
      new = c.new;
      moved = λ a. a;
      halves = λ h x y. x == c.old_half h && y == c.new_half h;
    }

-- ---- rewritten instructions

-- The first n of some bytes are those of code from an address on.
abbrev pub Stands : (ℕ → ℕ) → ℕ → ℕ → List ℕ → Type 0
Stands code a n bytes = bytes_at n code a ≡ take n bytes

-- An instruction begins n bytes before the field at an offset of a section. Old has it with its
-- relocation applied, and new has m bytes of what a rewrite leaves, with the relocation after it.
abbrev pub Rewritten : ℕ → ℕ → List Original → X86_64Relocation → RewriteKind
    → (Operands → Operands) → (Code → Operands → State → Type 0) → Type 0
Rewritten n m instructions name kind relocated Holds =
    IsSomeAnd (x86_64_relocation_after kind name) (λ after.
    (c : Code) (s : State) (section original relaxed : List ℕ) (o : ℕ) (operands : Operands)
    → IsBefore n section o operands (seen s)
    → IsTrue (is_one_at instructions section o)
    → x86_64_matches kind section o
    → IsRelocated name operands o section original
    → IsRelocated after (relocated (operands_after (x86_64_rewrite kind) o operands))
    (offset_after (x86_64_rewrite kind) o) (rewritten (x86_64_rewrite kind) section o) relaxed
    → Stands c.old s.pc (n + 4) (drop (o - n) original)
    → Stands c.new s.pc m (drop (o - n) relaxed)
    → Holds c operands s)

-- Whatever state of new agrees, old's instruction leaves registers that agree, from its registers
-- and old's memory.
abbrev pub KeepsRegisters : Code → Kinds → State → (ℕ → Kind) → State → Type 0
KeepsRegisters c k s known s' =
    (t : State) → Agree (link c) k s t
    → IsSomeAnd (machine c.others c.old (record s { registers = t.registers }))
    (λ u. (r : ℕ) → AreOf (link c) 8 (known r) (s'.registers r) (u.registers r))

-- The GOT entry holds a number in old, and its instruction goes on. If that keeps agreement, both
-- are a group, whatever new has in the entry.
abbrev pub IsGroup : (Operands → ℕ) → Code → Operands → State → Type 0
IsGroup held c o s =
    load 8 (seen s) o.got_entry ≡ held o
    → IsSomeAnd (machine c.others c.old s) (λ s'.
    (k : Kinds) (known : ℕ → Kind) → KeepsRegisters c k s known s'
    → Group (of_link (link c)) 1 k s (record k { registers = known }) s')

-- an instruction that reads the number, and one that has it
abbrev pub Reads : ℕ → List Original → X86_64Relocation → RewriteKind → (Operands → ℕ) → Type 0
Reads n instructions name kind held =
    Rewritten n (n + 4) instructions name kind (λ operands. operands) (IsGroup held)

-- ---- addresses

-- with no prefix, with REX and with REX2, by the bytes before the field
abbrev pub EachPrefix : (ℕ → X86_64Relocation → Type 0) → Type 0
EachPrefix Holds =
    Holds 2 names.R_X86_64_GOTPCRELX × Holds 3 names.R_X86_64_REX_GOTPCRELX
    × Holds 4 names.R_X86_64_CODE_4_GOTPCRELX

-- `mov` from the GOT, and `lea`
abbrev pub IsLoad : ℕ → X86_64Relocation → Type 0
IsLoad n name = Reads n (legacy n 0x8b) name kinds.MovIndirectToLea address

-- an immediate in place of the GOT entry
abbrev pub TakesImmediate : (ℕ → RewriteKind) → Type 0
TakesImmediate kind =
    EachPrefix (λ n name. Reads n (x86_64_originals (kind n)) name (kind n) address)

-- by EVEX, with 6 bytes before the field
abbrev pub TakesImmediateByEvex : (ℕ → RewriteKind) → Type 0
TakesImmediateByEvex kind =
    Reads 6 (x86_64_originals (kind 6)) names.R_X86_64_CODE_6_GOTPCRELX (kind 6) address

-- ---- initial-exec, and local-exec

abbrev pub TakesOffset : (ℕ → RewriteKind) → Type 0
TakesOffset kind =
    Reads 3 (x86_64_originals (kind 3)) names.R_X86_64_GOTTPOFF (kind 3) thread_offset
    × Reads 4 (x86_64_originals (kind 4)) names.R_X86_64_CODE_4_GOTTPOFF (kind 4) thread_offset

-- ---- branches

-- the state after a call of an address, by the next instruction's
abbrev pub called : ℕ → ℕ → State → State
called target next s =
    let top = difference_64 (s.registers 4) 8 in
    record (put 4 top target s) { memory = store_8 top next s.memory }

-- None of n bytes from an address on is one of the 8 from another on.
abbrev pub IsApart : ℕ → ℕ → ℕ → Type 0
IsApart n first top = (i : ℕ) → i < n → 8 ≤ difference_64 (sum_64 first i) top

-- What is known of memory after a call has pushed 8 bytes: these are the same in both. What is
-- known of another number was known before.
abbrev pub IsKnownAfter : ℕ → Stored → Stored → ℕ → Type 0
IsKnownAfter top k k' a =
    ((difference_64 a top < 8) × (k' ≡ of_byte same))
    ⊎ ((k'.kind ≡ anything) ⊎ ((k' ≡ k) × IsApart k.bytes (a - k.below) top))

-- The stack pointer is the same in both.
abbrev pub IsCall : Code → Operands → State → Type 0
IsCall c o s =
    load 8 (seen s) o.got_entry ≡ o.symbol
    → (k k' : Kinds) → k.registers 4 ≡ same → k'.registers ≡ k.registers
    → ((a : ℕ) → a < 2 ^ 64
    → IsKnownAfter (difference_64 (s.registers 4) 8) (k.memory a) (k'.memory a) a)
    → Group (of_link (link c)) 1 k s k' (called o.symbol (sum_64 s.pc 6) s)

abbrev pub IsJump : Code → Operands → State → Type 0
IsJump c o s =
    load 8 (seen s) o.got_entry ≡ o.symbol
    → (k : Kinds) → Group (of_link (link c)) 1 k s k (go_to o.symbol s)

-- ---- TLS descriptors, each instruction by itself

-- the register that the reg field of an instruction with an opcode of one byte names, after REX,
-- and after d5 and the byte of REX2
abbrev pub reg_after_rex : List ℕ → ℕ
reg_after_rex (p ∷ opcode ∷ m ∷ rest) = reg_of m + (rex_prefix p).reg
reg_after_rex bytes = 0

abbrev pub reg_after_rex2 : List ℕ → ℕ
reg_after_rex2 (d5 ∷ p ∷ opcode ∷ m ∷ rest) = reg_of m + (rex2_prefix p).reg
reg_after_rex2 bytes = 0

-- the number that new's instruction makes: the offset
abbrev pub MakesOffset : Code → Kinds → State → Operands → ℕ → Type 0
MakesOffset c k s o number = thread_offset o ≡ number

-- or what a GOT entry has, whatever state of new agrees
abbrev pub LoadsNumber : ℕ → Code → Kinds → State → Operands → ℕ → Type 0
LoadsNumber entry c k s o number =
    (t : State) → Agree (link c) k s t → load 8 (seen t) entry ≡ number

-- `lea x@tlsdesc(%rip), %reg` leaves a half: the descriptor's address in old, and the offset in
-- new.
abbrev pub IsLea : ℕ → (List ℕ → ℕ) → (Code → Kinds → State → Operands → ℕ → Type 0) → Code
    → Operands → State → Type 0
IsLea n register_of Makes c o s =
    (h : ℕ) (k : Kinds) → c.old_half h ≡ o.got_entry → Makes c k s o (c.new_half h)
    → let r = register_of (bytes_at 15 c.old s.pc) in
    Group (of_link (link c)) 1 k s (with_register r (half h) k)
    (put r o.got_entry (sum_64 s.pc (n + 4)) s)

-- `mov $x, %reg`
abbrev pub LeaToOffset : ℕ → X86_64Relocation → (List ℕ → ℕ) → Type 0
LeaToOffset n name register_of =
    Rewritten n (n + 4) (lea_of_descriptor n) name (kinds.TlsDescToLocalExec n)
    (λ operands. operands) (IsLea n register_of MakesOffset)

-- `mov x@gottpoff(%rip), %reg`, of an entry that has what the function returns
abbrev pub LeaToEntry : ℕ → X86_64Relocation → (List ℕ → ℕ) → Type 0
LeaToEntry n name register_of =
    (entry : ℕ) → entry < 2 ^ 64
    → Rewritten n (n + 4) (lea_of_descriptor n) name kinds.TlsDescToInitialExec
    (λ operands. record operands { got_entry = entry }) (IsLea n register_of (LoadsNumber entry))

abbrev pub LeaOfDescriptor : Type 0
LeaOfDescriptor =
    LeaToOffset 3 names.R_X86_64_GOTPC32_TLSDESC reg_after_rex
    × LeaToEntry 3 names.R_X86_64_GOTPC32_TLSDESC reg_after_rex
    × LeaToOffset 4 names.R_X86_64_CODE_4_GOTPC32_TLSDESC reg_after_rex2
    × LeaToEntry 4 names.R_X86_64_CODE_4_GOTPC32_TLSDESC reg_after_rex2

-- `call *x@tlscall(%rax)` calls the function whose address the descriptor has. It returns an offset
-- in RAX. New has a `nop`, and has the offset there. What else the function changes may be anything
-- then, as may memory below the stack pointer and the flags. By the psABI ("TLS Descriptors") it
-- changes no other register. Where the thread has no block yet, it makes one.
abbrev pub IsDescriptorCall : Code → State → Type 0
IsDescriptorCall c s =
    (h executes : ℕ) (k k' : Kinds) (s' : State) → k.registers 0 ≡ half h
    → let next = sum_64 s.pc 2 in
    run executes (machine c.others c.old) (called (load 8 (seen s) (s.registers 0)) next s)
    ≡ Some s'
    → ChangesOpen (with_register 0 same k) (put 0 (c.new_half h) next s) k' s'
    → Group (of_link (link c)) 1 k s k' s'

abbrev pub CallOfDescriptor : Type 0
CallOfDescriptor =
    (c : Code) (s : State) (calls : List ℕ) (at : ℕ)
    → All (λ b. b < 2 ^ 8) calls → x86_64_matches kinds.SkipTlsDescCall calls at
    → Stands c.old s.pc 2 (drop at calls)
    → Stands c.new s.pc 2 (drop at (rewritten (x86_64_rewrite kinds.SkipTlsDescCall) calls at))
    → IsDescriptorCall c s

-- ---- general- and local-dynamic

-- The thread pointer is the first word of what it points to.
pub record HasThreadPointer (s : x86_machine.State) : Type 0 where
  pub small : s.fs < 2 ^ 64
  pub word : load 8 s s.fs ≡ s.fs

-- Whatever state of new agrees, it has old's thread pointer, which is the first word of what it
-- points to.
abbrev pub HasPointer : Code → Kinds → State → Type 0
HasPointer c k s =
    (t : State) → Agree (link c) k s t
    → HasThreadPointer (seen t) × (t.registers 38 ≡ s.registers 38)

-- After a `lea` of m bytes, of a GOT entry into RDI, old executes a call of `__tls_get_addr`, and
-- the function, by its own instructions. It returns at the end of n bytes, with an address in RAX.
-- What else it changes may be anything then. By the ABI these are registers that don't belong to
-- the caller, the flags, and memory below the stack pointer. Where the thread has no block yet, it
-- makes one.
pub record Returns (c : Code) (o : Operands) (m n : ℕ) (kind : Kind) (address : ℕ) (k : Kinds)
    (s : State) (k' : Kinds) (s' : State) : Type 0 where
  pub executes : ℕ
  pub returns :
      run executes (machine c.others c.old) (put 7 o.got_entry (sum_64 s.pc m) s) ≡ Some s'
  pub changes :
      ChangesOpen (with_register 0 kind k) (put 0 address (sum_64 s.pc n) s) k' s'

-- It returns the variable's address. New executes a count of instructions, where a premise holds.
abbrev pub IsThreadCall : ℕ → ℕ → ℕ → (Code → Kinds → State → Kinds → Operands → Type 0) → Code
    → Operands → State → Type 0
IsThreadCall m n count Premise c o s =
    (k k' : Kinds) (s' : State) → HasPointer c k s → Premise c k s k' o
    → Returns c o m n same (sum_64 (s.registers 38) (thread_offset o)) k s k' s'
    → Group (of_link (link c)) count k s k' s'

-- New's n bytes begin m before the field.
abbrev pub ThreadCall : ℕ → ℕ → ℕ → RewriteKind → (Operands → Operands)
    → (Code → Kinds → State → Kinds → Operands → Type 0) → Type 0
ThreadCall m n count kind relocated Premise =
    Rewritten m n (x86_64_originals kind) names.R_X86_64_TLSGD kind relocated
    (IsThreadCall (m + 4) n count Premise)

-- The GOT entry at an address holds the offset. The flags may be anything then.
abbrev pub AddsOffset : ℕ → Code → Kinds → State → Kinds → Operands → Type 0
AddsOffset entry c k s k' o =
    LoadsNumber entry c k s o (thread_offset o)
    × ((r : ℕ) → IsTrue (is_flag r) → k'.registers r ≡ anything)

-- It returns the address of the module's block. New executes `mov %fs:0, %rax`, with prefixes or
-- after a NOP, by n bytes, and has the thread pointer in RAX.
abbrev pub IsModuleCall : ℕ → ℕ → Code → Operands → State → Type 0
IsModuleCall n count c o s =
    (h : ℕ) (k k' : Kinds) (s' : State) → HasPointer c k s → s.registers 38 ≡ c.new_half h
    → Returns c o 7 n (half h) (c.old_half h) k s k' s'
    → Group (of_link (link c)) count k s k' s'

abbrev pub ModuleCall : ℕ → ℕ → RewriteKind → Type 0
ModuleCall n count kind =
    (x86_64_relocation_after kind names.R_X86_64_TLSLD ≡ Some names.R_X86_64_NONE)
    × ((c : Code) (s : State) (section original : List ℕ) (o : ℕ) (operands : Operands)
    → IsBefore 3 section o operands (seen s)
    → x86_64_matches kind section o
    → IsRelocated names.R_X86_64_TLSLD operands o section original
    → Stands c.old s.pc 7 (drop (o - 3) original)
    → Stands c.new s.pc n (drop (o - 3) (rewritten (x86_64_rewrite kind) section o))
    → IsModuleCall n count c operands s)

-- `mov %fs:0, %rax` with `lea x@tpoff(%rax), %rax` or with `add x@gottpoff(%rip), %rax`. In the
-- large code model the call is by `movabs`, `add` and `call *%rax`, and a NOP is the third
-- instruction.
abbrev pub GeneralDynamic : Type 0
GeneralDynamic =
    ThreadCall 4 16 2 kinds.TlsGdToLocalExec (λ operands. operands) (λ c k s k' o. ⊤)
    × ((entry : ℕ) → entry < 2 ^ 64
    → ThreadCall 4 16 2 kinds.TlsGdToInitialExec
    (λ operands. record operands { got_entry = entry }) (AddsOffset entry))
    × ThreadCall 3 22 3 kinds.TlsGdToLocalExecLarge (λ operands. operands) (λ c k s k' o. ⊤)

abbrev pub LocalDynamic : Type 0
LocalDynamic =
    ModuleCall 12 1 kinds.TlsLdToLocalExec × ModuleCall 13 1 kinds.TlsLdToLocalExecNoPlt
    × ModuleCall 22 2 kinds.TlsLdToLocalExec64

-- ---- offsets in a module's block

-- Fields of n bytes hold a symbol's offset in the block and its offset from the thread pointer.
-- Added to the addresses of both they are the same address. As addresses in the TLS segment's
-- image, the block begins at `image`, and the thread pointer points to `pointed`.
abbrev pub LeadToTheSame : ℕ → (ℕ → ℕ) → X86_64Relocation → X86_64Relocation → Type 0
LeadToTheSame n read in_block from_pointer =
    IsSomeAnd (x86_64_row in_block) (λ row.
    IsSomeAnd (x86_64_row from_pointer) (λ row'.
    (image pointed block pointer : ℕ) → image < 2 ^ 64 → pointed < 2 ^ 64
    → block ≡ sum_64 pointer (difference_64 image pointed)
    → (operands : Operands) (bytes rest rest' : List ℕ) → AreAddresses operands
    → IsApplied row (record operands { tls_base = image }) bytes rest
    → IsApplied row' (record operands { tls_base = pointed }) bytes rest'
    → sum_64 block (read (number_of_bytes n rest)) ≡ sum_64 pointer (read (number_of_bytes n rest'))))

-- One of 32 bits is sign-extended.
abbrev pub BlockOffsets : Type 0
BlockOffsets =
    LeadToTheSame 4 extended names.R_X86_64_DTPOFF32 names.R_X86_64_TPOFF32
    × LeadToTheSame 8 (λ offset. offset) names.R_X86_64_DTPOFF64 names.R_X86_64_TPOFF64

-- ---- all of them

pub record Groups : Type 0 where
  pub loads : EachPrefix IsLoad × IsLoad 3 names.R_X86_64_GOTPCREL
  pub absolute :
      Reads 2 (legacy 2 0x8b) names.R_X86_64_GOTPCRELX kinds.MovIndirectToAbsolute address
      × TakesImmediate kinds.RexMovIndirectToAbsolute
  pub operations :
      TakesImmediate kinds.RexAddIndirectToAbsolute × TakesImmediate kinds.RexSubIndirectToAbsolute
      × TakesImmediate kinds.RexCmpIndirectToAbsolute × TakesImmediate kinds.RexAdcIndirectToAbsolute
      × TakesImmediate kinds.RexAndIndirectToAbsolute × TakesImmediate kinds.RexOrIndirectToAbsolute
      × TakesImmediate kinds.RexSbbIndirectToAbsolute × TakesImmediate kinds.RexXorIndirectToAbsolute
      × TakesImmediate kinds.RexTestIndirectToAbsolute
      × (TakesImmediateByEvex kinds.RexAddIndirectToAbsolute
      × TakesImmediateByEvex kinds.RexAdcIndirectToAbsolute
      × TakesImmediateByEvex kinds.RexAndIndirectToAbsolute
      × TakesImmediateByEvex kinds.RexOrIndirectToAbsolute
      × TakesImmediateByEvex kinds.RexSbbIndirectToAbsolute
      × TakesImmediateByEvex kinds.RexXorIndirectToAbsolute)
  pub thread : TakesOffset kinds.RexMovIndirectToAbsolute × TakesOffset kinds.RexAddIndirectToAbsolute
      × Reads 6 (x86_64_originals (kinds.RexAddIndirectToAbsolute 6)) names.R_X86_64_CODE_6_GOTTPOFF
      (kinds.RexAddIndirectToAbsolute 6) thread_offset
  pub branches : Rewritten 2 6 (x86_64_originals kinds.CallIndirectToRelative)
      names.R_X86_64_GOTPCRELX kinds.CallIndirectToRelative (λ operands. operands) IsCall
      × Rewritten 2 6 (x86_64_originals kinds.JmpIndirectToRelative) names.R_X86_64_GOTPCRELX
      kinds.JmpIndirectToRelative (λ operands. operands) IsJump
  pub descriptor_address : LeaOfDescriptor
  pub descriptor_call : CallOfDescriptor
  pub general_dynamic : GeneralDynamic
  pub local_dynamic : LocalDynamic
  pub block_offsets : BlockOffsets
  pub others :
      (c : Code) → OthersAgree (λ code at. does c.others (bytes_at 15 code at)) (link c)
