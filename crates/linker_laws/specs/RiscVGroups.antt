-- RISC-V: rewritten instructions are groups of the simulation. Code gets shorter, so what is old's
-- and what is new's stand at places of their own.
use Rattle.std.specs.Prelude.{◌≡◌, ◌≢◌, ℕ, zero, suc, ◌+◌, ◌-◌, ◌*◌, ◌^◌, ◌<◌, ◌≤◌, ◌%◌, ◌==◌}
use Rattle.std.specs.Prelude.{false, nat_lt, if◌then◌else◌, List, [], ◌∷◌, take, drop, length}
use Rattle.std.specs.Prelude.{Option, Some, None, IsSomeAnd, ⊤, ◌⊎◌}
use Rattle.linker_laws.specs.Imports.{Operands, RiscVRelocation, RowInfo, UType, cast_signed}
use Rattle.linker_laws.specs.Imports.{clui_row, difference_64, from_le_bytes, rewritten, riscv_form}
use Rattle.linker_laws.specs.Imports.{riscv_relocation, riscv_row, sum_64, w16, w64}
use Rattle.linker_riscv64.specs.RiscVCalls.{IsCallPair, word_at}
use Rattle.linker_elf.specs.Elf.{IsWithin}
use Rattle.linker_elf.specs.Choices.{low_12_bounds, symbol_and_addend}
use Rattle.linker_riscv64.specs.RiscVFields.{funct3_of, opcode_of, rd_of}
use Rattle.linker_utils.specs.RiscVRewrites.{IsAddTp, IsAddiToA0, IsAuipc, IsCallOfDescriptor, IsLd}
use Rattle.linker_utils.specs.RiscVRewrites.{IsLui, a0, half_at, riscv_matches, riscv_rewrite, tp}
use Rattle.linker_elf.specs.declared.riscv64.relocations.RiscVRelocation.TheVariants as names
use Rattle.linker_laws.specs.Changes.{ChangesOpen, OthersAgree, put, with_register}
use Rattle.linker_laws.specs.Machine.{Relocated, loaded, moved, wrapped}
use Rattle.linker_laws.specs.RiscVMachine.{Action, Hart, action_of, adds, adds_word, bytes_of}
use Rattle.linker_laws.specs.RiscVMachine.{jumps, loads, loads_float, register, rs1_of, rs2_of}
use Rattle.linker_laws.specs.RiscVMachine.{step, stores, stores_float, used}
use Rattle.linker_laws.specs.RiscVRelocationLaws.{even}
use Rattle.linker_laws.specs.Schemes.{AreAddresses, entry_and_addend, plt_address, symbol_address}
use Rattle.linker_laws.specs.Simulation.{Agree, AreOf, Group, Kind, Kinds, Link, Machine, Program}
use Rattle.linker_laws.specs.Simulation.{State, anything, code as counted, of_link, run, same}
use Rattle.linker_utils.specs.declared.riscv64.rewrites.RewriteKind.{RewriteKind}
use Rattle.linker_utils.specs.declared.riscv64.rewrites.RewriteKind.TheVariants as kinds
pub use Rattle.linker_laws.specs.Machine.{word_of}
pub use Rattle.linker_laws.specs.Schemes.{thread_offset}

-- ---- the machine

-- Of a state, what a hart has. Floating-point registers are those from 32 up. Register 0 is read
-- as 0, whatever is written to it: its number may be anything.
abbrev pub seen : State → Hart
seen s =
    record {
      pc = s.pc;
      integers = s.registers;
      floats = λ r. s.registers (32 + r);
      memory = s.memory;
    }

-- the state whose hart is another
abbrev pub left : State → Hart → State
left s h =
    record s {
      pc = h.pc;
      registers = λ r. if nat_lt r 32 then h.integers r else h.floats (r - 32);
      memory = h.memory;
    }

-- n bytes of code from an address on
abbrev pub bytes_at : ℕ → (ℕ → ℕ) → ℕ → List ℕ
bytes_at zero code at = []
bytes_at (suc n) code at = code at ∷ bytes_at n code (sum_64 at 1)

-- those of an instruction: 4 where the lowest two bits are 1, else 2
abbrev pub instruction_at : (ℕ → ℕ) → ℕ → List ℕ
instruction_at code at = bytes_at (if code at % 4 == 3 then 4 else 2) code at

-- what an instruction leaves, or what another one does, by its bytes
abbrev pub continued : (List ℕ → Program) → List ℕ → State → Option Hart → Option State
continued others bytes s None = others bytes s
continued others bytes s (Some h) = Some (left s h)

abbrev pub does : (List ℕ → Program) → List ℕ → Program
does others bytes s = continued others bytes s (step bytes (seen s))

abbrev pub machine : (List ℕ → Program) → Machine
machine others code s = does others (instruction_at code s.pc) s

pub record Code : Type 0 where
  -- what any other instruction does, by its bytes
  pub others : List ℕ → Program
  pub old : ℕ → ℕ
  pub new : ℕ → ℕ
  -- the new address of a byte of old, or of the next kept byte
  pub moved : ℕ → ℕ

abbrev pub link : Code → Link
link c =
    record {
      machine = machine c.others;
      old = c.old;
      new = c.new;
      moved = c.moved;
      halves = λ h x y. false;
    }

-- ---- bytes of code

-- An instruction's n bytes stand at an address.
abbrev pub Stands : ℕ → (ℕ → ℕ) → ℕ → List ℕ → Type 0
Stands n code at instruction = bytes_at n code at ≡ take n instruction

-- They do with a relocation applied.
pub record Has (n : ℕ) (code : ℕ → ℕ) (at : ℕ) (row : Option RowInfo) (o : Operands)
    (instruction : List ℕ) : Type 0 where
  pub relocated : List ℕ
  pub applied : Relocated row o instruction relocated
  pub stands : Stands n code at relocated

-- Old's state is before n bytes, in whose place new has m. The operands have the places of both.
pub record AreBefore (c : Code) (n m : ℕ) (x y : Operands) (s : State) : Type 0 where
  pub at : s.pc ≡ x.place
  pub small : x.place < 2 ^ 64
  pub place : y.place ≡ c.moved x.place
  pub next : sum_64 y.place m ≡ c.moved (sum_64 x.place n)

-- n bytes of old are deleted
pub record AreDeleted (c : Code) (n : ℕ) (s : State) : Type 0 where
  pub small : s.pc + n < 2 ^ 64
  pub moved : c.moved s.pc ≡ c.moved (s.pc + n)

-- a group of an instruction that leaves a number in a register, of which new has nothing
abbrev pub IsLeftOut : Code → Kinds → State → ℕ → ℕ → Type 0
IsLeftOut c k s rd number =
    Group (of_link (link c)) 0 k s (with_register rd anything k) (put rd number (s.pc + 4) s)

-- the section after a rewrite at an offset
abbrev pub after_rewrite : RewriteKind → List ℕ → ℕ → List ℕ
after_rewrite kind section o = rewritten (riscv_rewrite kind) section o

-- ---- high parts (psABI, "Compressed LUI Relaxation", "Zero-page Relaxation", "Local-Exec TLS
-- Relaxation")

-- S + A is a number of 12 bits in two's complement
abbrev pub IsLow12 : Operands → Type 0
IsLow12 x = IsWithin (Some low_12_bounds) (symbol_and_addend x)

-- the offset is a number of 12 bits in two's complement
abbrev pub IsLowOffset : Operands → Type 0
IsLowOffset x = IsWithin (Some low_12_bounds) (cast_signed w64 (thread_offset x))

-- what `lui` leaves
abbrev pub upper : List ℕ → ℕ
upper lui = wrapped ((riscv_form UType).machine (word_of lui))

-- what `auipc` leaves at an address
abbrev pub upper_from : ℕ → List ℕ → ℕ
upper_from at auipc = moved at ((riscv_form UType).machine (word_of auipc))

-- `lui` becomes `c.lui`, which has no immediate 0: S + A isn't a number of 12 bits.
abbrev pub LuiBecomesClui : Type 0
LuiBecomesClui =
    (c : Code) (x y : Operands) (k : Kinds) (s : State) (lui : List ℕ) → AreBefore c 4 2 x y s
    → riscv_matches kinds.Hi20ToCLui lui 0 → symbol_address x ≡ symbol_address y → ¬ IsLow12 x
    → (old : Has 4 c.old x.place (riscv_row names.R_RISCV_HI20) x lui)
    → Has 2 c.new y.place (Some clui_row) y (after_rewrite kinds.Hi20ToCLui lui 0)
    → Group (of_link (link c)) 1 k s (with_register (rd_of (word_of lui)) same k)
    (put (rd_of (word_of lui)) (upper old.relocated) (sum_64 x.place 4) s)

-- `c.lui` becomes `c.li` of 0, where S + A is such a number, and a `lui` of the same register was
-- in old.
abbrev pub CluiBecomesCli : Type 0
CluiBecomesCli =
    (c : Code) (x y : Operands) (k : Kinds) (s : State) (lui clui : List ℕ) → AreBefore c 4 2 x y s
    → riscv_matches kinds.CLuiToCLi clui 0 → IsLui (word_of lui)
    → rd_of (word_of lui) ≡ rd_of (half_at clui 0) → IsLow12 x
    → Has 4 c.old x.place (riscv_row names.R_RISCV_HI20) x lui
    → Stands 2 c.new y.place (after_rewrite kinds.CLuiToCLi clui 0)
    → Group (of_link (link c)) 1 k s (with_register (rd_of (word_of lui)) same k)
    (put (rd_of (word_of lui)) 0 (sum_64 x.place 4) s)

-- In old a `lui` of S + A, or of an offset, that is a number of 12 bits leaves 0. New has nothing
-- of it, where it is gone.
abbrev pub ZeroLuiGoes : RiscVRelocation → (Operands → Type 0) → (Code → State → Type 0) → List ℕ
    → Type 0
ZeroLuiGoes name IsLow IsGone lui =
    (c : Code) (x : Operands) (k : Kinds) (s : State) → IsGone c s → IsLow x
    → Has 4 c.old s.pc (riscv_row name) x lui → IsLeftOut c k s (rd_of (word_of lui)) 0

abbrev pub DeletedLui : RewriteKind → RiscVRelocation → (Operands → Type 0) → Type 0
DeletedLui kind name IsLow =
    (lui : List ℕ) → riscv_matches kind lui 0 → IsLui (word_of lui)
    → ZeroLuiGoes name IsLow (λ c. AreDeleted c 4) lui

-- In old an `add` of the thread pointer to a register that has 0 leaves the thread pointer. New has
-- nothing of it, where it is gone.
abbrev pub SumGoes : (Code → State → Type 0) → List ℕ → Type 0
SumGoes IsGone add =
    (c : Code) (k : Kinds) (s : State) → IsGone c s
    → register (seen s) (rs1_of (word_of add)) ≡ 0 → s.registers tp < 2 ^ 64
    → Stands 4 c.old s.pc add → IsLeftOut c k s (rd_of (word_of add)) (s.registers tp)

-- ---- low parts

-- the relocation of a low part: stores have their own
abbrev pub low_row : Action → Option RowInfo
low_row (stores f) = riscv_row names.R_RISCV_LO12_S
low_row (stores_float f) = riscv_row names.R_RISCV_LO12_S
low_row action = riscv_row names.R_RISCV_LO12_I

-- what the instruction at an offset does with its sum
abbrev pub action_at : List ℕ → ℕ → Option Action
action_at section o =
    action_of (opcode_of (word_at section o)) (funct3_of (word_at section o))

-- that of a low part of an offset from the thread pointer
abbrev pub offset_row : Action → Option RowInfo
offset_row (stores f) = riscv_row names.R_RISCV_TPREL_LO12_S
offset_row (stores_float f) = riscv_row names.R_RISCV_TPREL_LO12_S
offset_row action = riscv_row names.R_RISCV_TPREL_LO12_I

-- what the instruction of a word does with a sum
abbrev pub uses : Action → ℕ → ℕ → State → State
uses action word sum s = left s (used 4 action (rd_of word) (rs2_of word) sum (seen s))

-- An instruction adds the low part of a number to a base. Old's base has the number of another one,
-- and new has something in its place. What it loads, stores or writes is of the kinds after it.
abbrev pub LowPartBy : (Action → Option RowInfo) → (Operands → ℕ) → (State → ℕ)
    → (Kinds → Type 0) → (Operands → Code → Type 0) → List ℕ → Action → Type 0
LowPartBy row number base IsKnown NewHas low action =
    (c : Code) (x y : Operands) (k k' : Kinds) (s : State) → AreBefore c 4 4 x y s
    → number x ≡ number y → IsWithin (Some low_12_bounds) (cast_signed w64 (number x))
    → register (seen s) (rs1_of (word_of low)) ≡ base s → IsKnown k
    → Has 4 c.old x.place (row action) x low → NewHas y c
    → let after = uses action (word_of low) (sum_64 (base s) (number x)) in
    ((t : State) → Agree (link c) k s t → Agree (link c) k' (after s) (after t))
    → Group (of_link (link c)) 1 k s k' (after s)

-- the rewrite makes the other register the base
abbrev pub LowPartOf : RewriteKind → (Action → Option RowInfo) → (Operands → ℕ)
    → (State → ℕ) → (Kinds → Type 0) → List ℕ → Action → Type 0
LowPartOf kind row number base IsKnown low action =
    LowPartBy row number base IsKnown
    (λ y c. Has 4 c.new y.place (row action) y (after_rewrite kind low 0)) low action

abbrev pub LowPart : RewriteKind → (Action → Option RowInfo) → (Operands → ℕ)
    → (State → ℕ) → (Kinds → Type 0) → Type 0
LowPart kind row number base IsKnown =
    (low : List ℕ) → riscv_matches kind low 0
    → IsSomeAnd (action_at low 0) (LowPartOf kind row number base IsKnown low)

-- ---- calls

-- the address of a place of code
abbrev pub of_place : ℕ → Kind
of_place a = counted (record { number = 0; added = a ∷ []; subtracted = [] })

-- Old's `auipc rX` and `jalr rY` over rX and new's n instructions are a group. Both are at the
-- target then, and each has the address after the call in rY. rX may have anything, unless it is
-- rY.
abbrev pub IsCall : Code → ℕ → Operands → Kinds → State → List ℕ → List ℕ → Type 0
IsCall c n x k s call relocated =
    let base = rd_of (word_of call) in
    let link_register = rd_of (word_of (drop 4 call)) in
    Group (of_link (link c)) n k s
    (with_register link_register (of_place (sum_64 x.place 8)) (with_register base anything k))
    (put link_register (sum_64 x.place 8) (even plt_address x)
    (put base (upper_from x.place relocated) (sum_64 x.place 4) s))

-- New has n bytes of m instructions, which go to a target.
abbrev pub CallBecomes : List ℕ → Operands → ℕ → ℕ → ℕ → (Code → Type 0) → RiscVRelocation → Type 0
CallBecomes call y n m target NewHas name =
    (c : Code) (x : Operands) (k : Kinds) (s : State) → AreAddresses x → AreBefore c 8 n x y s
    → target ≡ c.moved (even plt_address x) → (old : Has 8 c.old x.place (riscv_row name) x call)
    → NewHas c → IsCall c m x k s call old.relocated

-- The `auipc` and the `jalr` become a jump of n bytes that links rY.
abbrev pub CallTo : RiscVRelocation → ℕ → RiscVRelocation → (List ℕ → ℕ → Type 0) → Type 0
CallTo name n new_name IsJump =
    (y : Operands) (call jump : List ℕ) → AreAddresses y
    → IsCallPair (word_of call) (word_of (drop 4 call)) → rd_of (word_of call) ≢ 0
    → IsJump jump (rd_of (word_of (drop 4 call)))
    → CallBecomes call y n 1 (symbol_address y)
    (λ c. Has n c.new y.place (riscv_row new_name) y jump) name

-- The `auipc` and the `jalr` stay, with the value of their relocation in each layout.
abbrev pub CallStays : RiscVRelocation → Type 0
CallStays name =
    (y : Operands) (call : List ℕ) → AreAddresses y
    → IsCallPair (word_of call) (word_of (drop 4 call)) → rd_of (word_of call) ≢ 0
    → CallBecomes call y 8 2 (even plt_address y) (λ c. Has 8 c.new y.place (riscv_row name) y call)
    name

-- `jal` of a register, and `c.j`, of distance 0
abbrev pub IsJal : List ℕ → ℕ → Type 0
IsJal jump rd = word_of jump ≡ 0x6f + rd * 2 ^ 7

abbrev pub IsCj : List ℕ → ℕ → Type 0
IsCj jump rd = (rd ≡ 0) × (from_le_bytes w16 jump ≡ 0xa001)

-- Such a jump is what rewrites leave of a call.
abbrev pub CallsAreRewritten : Type 0
CallsAreRewritten =
    (call : List ℕ)
    → (riscv_matches kinds.CallToJal call 0
    → IsJal (after_rewrite kinds.CallToJal call 0) (rd_of (word_of (drop 4 call))))
    × (riscv_matches kinds.TailToJal call 0
    → IsJal (after_rewrite kinds.TailToJal call 0) (rd_of (word_of (drop 4 call))))
    × (riscv_matches kinds.TailToCJ call 0
    → IsCj (after_rewrite kinds.TailToCJ call 0) (rd_of (word_of (drop 4 call))))

-- ---- what is known after a low part

-- At an address that is the same in both, a number of n bytes of a kind begins.
pub record BeginsAt (c : Code) (k : Kinds) (n address : ℕ) (kind : Kind) : Type 0 where
  pub small : address + n < 2 ^ 64
  pub moved : c.moved address ≡ address
  pub known : k.memory address ≡ record { kind = kind; bytes = n; below = 0 }

-- m bytes from an address on are none of n bytes from another one on
abbrev pub AreApart : ℕ → ℕ → ℕ → ℕ → Type 0
AreApart zero a n address = ⊤
AreApart (suc m) a n address =
    (n ≤ difference_64 a address) × AreApart m (sum_64 a 1) n address

-- n bytes from an address on, which is the same in both, can be stored: each other number is apart
-- from them in old and in new, or may be anything.
pub record HasRoom (c : Code) (k : Kinds) (n address : ℕ) : Type 0 where
  pub small : address + n < 2 ^ 64
  pub moved : c.moved address ≡ address
  pub apart :
      (a : ℕ) → a < 2 ^ 64 → n ≤ difference_64 a address
      → let first = a - (k.memory a).below in
      let m = (k.memory a).bytes in
      ((k.memory a).kind ≡ anything)
      ⊎ (AreApart m first n address × AreApart m (c.moved first) n address)

-- n bytes that both have are stored from an address on
abbrev pub with_stored : ℕ → ℕ → Kinds → Kinds
with_stored n address k =
    record k {
      memory = λ a.
          let below = difference_64 a address in
          if nat_lt below n then record { kind = same; bytes = n; below = below } else k.memory a;
    }

-- What the kinds are after an instruction did with a sum what its action says, and what has to be
-- known before. Code at an address, and memory, is at the same address in both.
pub data AreUsed (c : Code) (k : Kinds) (s : State) (rd rs2 sum : ℕ) : Action → Kinds → Type 0 where
  as_sum : AreUsed c k s rd rs2 sum adds (with_register rd same k)
  as_word : AreUsed c k s rd rs2 sum adds_word (with_register rd same k)
  as_target : sum < 2 ^ 64 → c.moved (sum - sum % 2) ≡ sum - sum % 2
      → AreUsed c k s rd rs2 sum jumps (with_register rd (of_place (sum_64 s.pc 4)) k)
  as_loaded : (f : ℕ) → BeginsAt c k (bytes_of f) sum same
      → AreUsed c k s rd rs2 sum (loads f) (with_register rd same k)
  -- 8 bytes are of any kind
  as_whole : (kind : Kind) → BeginsAt c k 8 sum kind
      → AreUsed c k s rd rs2 sum (loads 3) (with_register rd kind k)
  as_loaded_float : (f : ℕ) → BeginsAt c k (2 ^ f) sum same
      → AreUsed c k s rd rs2 sum (loads_float f) (with_register (32 + rd) same k)
  as_stored : (f : ℕ) → (rs2 ≡ 0) ⊎ (k.registers rs2 ≡ same) → HasRoom c k (bytes_of f) sum
      → AreUsed c k s rd rs2 sum (stores f) (with_stored (bytes_of f) sum k)
  as_stored_float : (f : ℕ) → k.registers (32 + rs2) ≡ same → HasRoom c k (2 ^ f) sum
      → AreUsed c k s rd rs2 sum (stores_float f) (with_stored (2 ^ f) sum k)

-- Then what an instruction does with a sum keeps agreement, as a low part's group requires.
abbrev pub AccessesAgree : Type 0
AccessesAgree =
    (c : Code) (action : Action) (word sum : ℕ) (k : Kinds) (s : State) (k' : Kinds)
    → c.moved (sum_64 s.pc 4) ≡ sum_64 (c.moved s.pc) 4
    → AreUsed c k s (rd_of word) (rs2_of word) sum action k'
    → (t : State) → Agree (link c) k s t
    → Agree (link c) k' (uses action word sum s) (uses action word sum t)

-- ---- loads of addresses from the GOT (psABI, linker relaxation)

-- `auipc rX`, and `ld rY` over rX
pub record IsLoadFromGot (auipc ld : ℕ) : Type 0 where
  pub first : IsAuipc auipc
  pub second : IsLd ld
  pub base : rs1_of ld ≡ rd_of auipc
  pub not_zero : rd_of auipc ≢ 0

-- the operands of a low part whose high part requires a GOT entry
abbrev pub of_entry : Operands → Operands
of_entry y = record y { symbol = y.got_entry }

-- `auipc rX` and `ld rY` of an entry that holds the address stand in old.
pub record LoadFromGot (c : Code) (x : Operands) (s : State) (auipc ld : List ℕ) : Type 0 where
  pub small : AreAddresses x
  pub entry : loaded 8 s.memory (entry_and_addend x) ≡ symbol_address x
  pub high : Has 4 c.old x.place (riscv_row names.R_RISCV_GOT_HI20) x auipc
  pub low :
      Has 4 c.old (sum_64 x.place 4) (riscv_row names.R_RISCV_PCREL_LO12_I) (of_entry x) ld

-- The `auipc` and the `ld` are a group, in whose place new has n instructions. What is said of
-- new's operands holds. Then rY has the address in both, and the two addresses are of a kind.
abbrev pub LoadBecomes : ℕ → (Operands → Type 0) → (Operands → Code → Type 0) → List ℕ → List ℕ
    → Type 0
LoadBecomes n Said NewHas auipc ld =
    (c : Code) (x y : Operands) (k : Kinds) (kind : Kind) (s : State) → AreBefore c 8 (4 * n) x y s
    → (load : LoadFromGot c x s auipc ld)
    → AreOf (link c) 8 kind (symbol_address x) (symbol_address y) → Said y → NewHas y c
    → let base = rd_of (word_of auipc) in
    let rd = rd_of (word_of ld) in
    Group (of_link (link c)) n k s (with_register rd kind (with_register base anything k))
    (put rd (symbol_address x) (sum_64 x.place 8)
    (put base (upper_from x.place load.high.relocated) (sum_64 x.place 4) s))

-- `auipc rX` and `addi rY` over rX
abbrev pub GotToAddress : Type 0
GotToAddress =
    (auipc ld : List ℕ) → 4 ≤ length ld → IsLoadFromGot (word_of auipc) (word_of ld)
    → LoadBecomes 2 AreAddresses
    (λ y c. Has 4 c.new y.place (riscv_row names.R_RISCV_PCREL_HI20) y auipc
    × Has 4 c.new (sum_64 y.place 4) (riscv_row names.R_RISCV_PCREL_LO12_I) y
    (after_rewrite kinds.LdToAddi ld 0)) auipc ld

-- `lui rX` and `addi rY` over rX
abbrev pub GotToFixedAddress : Type 0
GotToFixedAddress =
    (auipc ld : List ℕ) → 4 ≤ length auipc → 4 ≤ length ld
    → IsLoadFromGot (word_of auipc) (word_of ld)
    → LoadBecomes 2 AreAddresses
    (λ y c. Has 4 c.new y.place (riscv_row names.R_RISCV_HI20) y
    (after_rewrite kinds.AuipcToLui auipc 0)
    × Has 4 c.new (sum_64 y.place 4) (riscv_row names.R_RISCV_LO12_I) y
    (after_rewrite kinds.LdToAddi ld 0)) auipc ld

-- `addi rY, x0` alone, where the address is a number of 12 bits
abbrev pub GotToLowAddress : Type 0
GotToLowAddress =
    (auipc ld : List ℕ) → 4 ≤ length ld → IsLoadFromGot (word_of auipc) (word_of ld)
    → LoadBecomes 1 IsLow12
    (λ y c. Has 4 c.new y.place (riscv_row names.R_RISCV_LO12_I) y
    (after_rewrite kinds.LdToAddiZero ld 0)) auipc ld

-- ---- TLS descriptors (psABI, "TLS Descriptors -> Initial Exec Relaxation", "TLS Descriptors ->
-- Local Exec Relaxation")

-- `t0` is register 5.
abbrev pub t0 : ℕ
t0 = 5

-- `auipc rX`, `ld rY` over rX, `addi a0` over rX, and `jalr t0` over rY
pub record AreOfDescriptor (auipc ld addi jalr : ℕ) : Type 0 where
  pub first : IsAuipc auipc
  pub second : IsLd ld
  pub third : IsAddiToA0 addi
  pub fourth : IsCallOfDescriptor jalr
  pub base_of_ld : rs1_of ld ≡ rd_of auipc
  pub base_of_addi : rs1_of addi ≡ rd_of auipc
  pub base_of_jalr : rs1_of jalr ≡ rd_of ld
  pub base_not_zero : rd_of auipc ≢ 0
  pub function_not_zero : rd_of ld ≢ 0
  -- the `ld` keeps rX, and the `addi` keeps rY
  pub apart : rd_of ld ≢ rd_of auipc
  pub function_not_a0 : rd_of ld ≢ a0

-- the state in which `jalr t0` calls the descriptor's function
abbrev pub called : Operands → ℕ → ℕ → ℕ → State → State
called x base high register_of_function s =
    let function = loaded 8 s.memory (entry_and_addend x) in
    put t0 (sum_64 x.place 16) function
    (put a0 (entry_and_addend x) (sum_64 x.place 12)
    (put register_of_function function (sum_64 x.place 8) (put base high (sum_64 x.place 4) s)))

-- `auipc rX`, `ld rY` over rX, `addi a0` over rX, and `jalr t0` over rY stand in old. The function
-- of the descriptor is at an even address. It returns, and leaves an offset in a0. What else it
-- changes may be anything then, as are rX, rY and t0. Nops write register 0.
pub record Descriptor (c : Code) (x : Operands) (offset : ℕ) (k : Kinds) (s : State) (k' : Kinds)
    (s' : State) (auipc ld addi jalr : List ℕ) : Type 0 where
  pub small : AreAddresses x
  pub at : s.pc ≡ x.place
  pub instructions : AreOfDescriptor (word_of auipc) (word_of ld) (word_of addi) (word_of jalr)
  pub high : Has 4 c.old x.place ((riscv_relocation names.R_RISCV_TLSDESC_HI20).row) x auipc
  pub low :
      Has 4 c.old (sum_64 x.place 4) ((riscv_relocation names.R_RISCV_TLSDESC_LOAD_LO12).row) x ld
  pub sum :
      Has 4 c.old (sum_64 x.place 8) ((riscv_relocation names.R_RISCV_TLSDESC_ADD_LO12).row) x addi
  pub call : Stands 4 c.old (sum_64 x.place 12) jalr
  pub function : loaded 8 s.memory (entry_and_addend x) < 2 ^ 64
  pub even : loaded 8 s.memory (entry_and_addend x) % 2 ≡ 0
  -- how many instructions the function executes
  pub executes : ℕ
  pub returns :
      run executes (machine c.others c.old)
      (called x (rd_of (word_of auipc)) (upper_from x.place high.relocated) (rd_of (word_of ld)) s)
      ≡ Some s'
  pub changes :
      ChangesOpen (with_register a0 same (with_register 0 anything k))
      (put a0 offset (sum_64 x.place 16) s) k' s'

-- In new n nops are where the first instructions were, one after the other. Each other one is
-- deleted, so the last m instructions are at an address.
pub record AreNops (c : Code) (n m : ℕ) (x : Operands) (at : ℕ) : Type 0 where
  pub small : c.moved x.place < 2 ^ 64
  pub nops :
      (i : ℕ) → i < n → (instruction : List ℕ) × riscv_matches kinds.ReplaceWithLongNop instruction 0
      × Stands 4 c.new (sum_64 (c.moved x.place) (4 * i))
      (after_rewrite kinds.ReplaceWithLongNop instruction 0)
  pub place : at ≡ sum_64 (c.moved x.place) (4 * n)
  pub next : sum_64 at (4 * m) ≡ c.moved (sum_64 x.place 16)

-- The sequence is a group, in whose place new has n nops and then m instructions. What is said of
-- new's operands holds.
abbrev pub OffsetBecomes : ℕ → (Operands → Type 0) → (Operands → Code → ℕ → Type 0)
    → (auipc ld addi jalr : List ℕ) → Type 0
OffsetBecomes m Said NewHas auipc ld addi jalr =
    (c : Code) (n at : ℕ) (x y : Operands) (k k' : Kinds) (s s' : State)
    → Descriptor c x (thread_offset x) k s k' s' auipc ld addi jalr
    → thread_offset x ≡ thread_offset y → Said y → AreNops c n m x at → NewHas y c at
    → Group (of_link (link c)) (n + m) k s k' s'

-- `lui a0` and `addi a0, a0` of the offset
abbrev pub DescriptorToLocalExec : Type 0
DescriptorToLocalExec =
    (auipc ld addi jalr : List ℕ) → length addi ≡ 4 → length jalr ≡ 4
    → OffsetBecomes 2 AreAddresses
    (λ y c at. Has 4 c.new at (riscv_row names.R_RISCV_TPREL_HI20) y
    (after_rewrite kinds.AddiToLui addi 0)
    × Has 4 c.new (sum_64 at 4) (riscv_row names.R_RISCV_TPREL_LO12_I) y
    (after_rewrite kinds.CallToAddi jalr 0)) auipc ld addi jalr

-- `addi a0, x0` alone, where the offset has 12 bits
abbrev pub DescriptorToShortLocalExec : Type 0
DescriptorToShortLocalExec =
    (auipc ld addi jalr : List ℕ) → length jalr ≡ 4
    → OffsetBecomes 1 IsLowOffset
    (λ y c at. Has 4 c.new at (riscv_row names.R_RISCV_TPREL_LO12_I) y
    (after_rewrite kinds.CallToAddiZero jalr 0)) auipc ld addi jalr

-- `auipc a0` and `ld a0` of an entry that holds the number that the function returns, whatever
-- state of new agrees
abbrev pub DescriptorToInitialExec : Type 0
DescriptorToInitialExec =
    (c : Code) (n offset : ℕ) (x y : Operands) (k k' : Kinds) (s s' : State)
    (auipc ld addi jalr : List ℕ) → Descriptor c x offset k s k' s' auipc ld addi jalr
    → AreAddresses y → offset < 2 ^ 64
    → ((t : State) → Agree (link c) k s t → loaded 8 t.memory (entry_and_addend y) ≡ offset)
    → AreNops c n 2 x y.place → length addi ≡ 4 → length jalr ≡ 4
    → Has 4 c.new y.place (riscv_row names.R_RISCV_TLS_GOT_HI20) y
    (after_rewrite kinds.AddiToAuipc addi 0)
    → Has 4 c.new (sum_64 y.place 4) (riscv_row names.R_RISCV_PCREL_LO12_I) (of_entry y)
    (after_rewrite kinds.CallToLd jalr 0)
    → Group (of_link (link c)) (n + 2) k s k' s'

pub record Groups : Type 0 where
  pub short_high_parts : LuiBecomesClui
  pub short_zeros : CluiBecomesCli
  pub no_high_parts : DeletedLui kinds.Hi20Delete names.R_RISCV_HI20 IsLow12
  pub high_offsets : DeletedLui kinds.Delete names.R_RISCV_TPREL_HI20 IsLowOffset
  pub sums : (add : List ℕ) → IsAddTp (word_of add) → SumGoes (λ c. AreDeleted c 4) add
  -- x0 in place of a register that has 0
  pub low_parts : LowPart kinds.Lo12Rs1ToZero low_row symbol_address (λ s. 0) (λ k. ⊤)
  -- the thread pointer in place of a register that has its number
  pub low_offsets : LowPart kinds.BaseToTp offset_row thread_offset (λ s. s.registers tp)
      (λ k. k.registers tp ≡ same)
  pub accesses : AccessesAgree
  pub calls : CallTo names.R_RISCV_CALL 4 names.R_RISCV_JAL IsJal
      × CallTo names.R_RISCV_CALL_PLT 4 names.R_RISCV_JAL IsJal
  pub short_tail_calls : CallTo names.R_RISCV_CALL 2 names.R_RISCV_RVC_JUMP IsCj
      × CallTo names.R_RISCV_CALL_PLT 2 names.R_RISCV_RVC_JUMP IsCj
  pub long_calls : CallStays names.R_RISCV_CALL × CallStays names.R_RISCV_CALL_PLT
  pub rewritten_calls : CallsAreRewritten
  pub got : GotToAddress
  pub got_to_fixed_address : GotToFixedAddress
  pub got_to_low_address : GotToLowAddress
  pub descriptor_to_local_exec : DescriptorToLocalExec
  pub descriptor_to_short_local_exec : DescriptorToShortLocalExec
  pub descriptor_to_initial_exec : DescriptorToInitialExec
  -- other instructions
  pub others : (c : Code) → OthersAgree (λ code at. does c.others (instruction_at code at)) (link c)
