-- A small program of which every premise holds: groups and numbers of each kind, and both runs
-- computed to the end.
use Rattle.std.specs.Prelude.{◌≡◌, ℕ, ◌+◌, ◌-◌, ◌/◌, ◌%◌, ◌^◌, ◌==◌, nat_le, if◌then◌else◌, ◌&&◌}
use Rattle.std.specs.Prelude.{List, [], ◌∷◌, Option, Some, None, IsSomeAnd, nat_lt, slice_get}
use Rattle.linker_laws.specs.Imports.{unwrap_or}
use Rattle.linker_laws.specs.Simulation.{State, Machine, Link, Kind, code, same, anything, Stored}
use Rattle.linker_laws.specs.Simulation.{Kinds, Agree, of_link, run, Covered, Stops}
use Rattle.linker_laws.specs.Changes.{put, go_to, with_register}
use Rattle.linker_laws.specs.Chains.{Chain, one, followed_by, of_chain}

-- ---- the machine

abbrev pub put_byte : ℕ → ℕ → ℕ → State → State
put_byte a x next s =
    record s { pc = next; memory = λ m. if m == a then x % 0x100 else s.memory m }

abbrev pub put_out : ℕ → ℕ → State → State
put_out x next s = record s { pc = next; outside = λ m. if m == 0 then x else s.outside m }

-- An instruction has an opcode, registers a and b and a number v, in 4, 4, 4 and 8 bits.
abbrev pub execute : ℕ → ℕ → ℕ → ℕ → State → Option State
execute opcode a b v s =
    let next = s.pc + 1 in
    if opcode == 1 then Some (put a (s.memory v) next s) else (
    if opcode == 2 then Some (put_byte v (s.registers a) next s) else (
    if opcode == 3 then Some (put a v next s) else (
    if opcode == 4 then Some (put a (s.registers b + v) next s) else (
    if opcode == 5 then Some (put a (s.registers a + s.registers b) next s) else (
    if opcode == 6 then Some (put a next (s.registers b) s) else (
    if opcode == 7 then Some (put a next v s) else (
    if opcode == 8 then Some (go_to (s.registers a) s) else (
    if opcode == 9 then Some (put_out (s.registers a) next s) else (
    if opcode == 10 then Some (put a (s.memory (s.registers b)) next s) else None)))))))))

abbrev pub machine : Machine
machine bytes s =
    let i = bytes s.pc in
    execute (i / 0x10000) (i / 0x1000 % 0x10) (i / 0x100 % 0x10) (i % 0x100) s

-- ---- the link

-- code from address 0x10 on
abbrev pub placed : List ℕ → ℕ → ℕ
placed words a = unwrap_or (slice_get words (a - 0x10)) 0

-- The instructions at 0x15, 0x18 and 0x1d are deleted.
abbrev pub new_address : ℕ → ℕ
new_address a =
    if nat_le a 0x15 then a else (
    if nat_le a 0x18 then a - 1 else (
    if nat_le a 0x1d then a - 2 else (
    if nat_le a 0x24 then a - 3 else a)))

abbrev pub link : Link
link =
    record {
      machine = machine;
      old =
          placed
          (0x110f0  -- load r1, [0xf0]: an entry that has the address 7
          ∷ 0x32030  -- set r2, 0x30: high part 0
          ∷ 0x220f8  -- store r2, [0xf8]
          ∷ 0x130f8  -- load r3, [0xf8]
          ∷ 0x44305  -- add r4, r3, 5: its low part
          ∷ 0x37000  -- set r7, 0: high part 1
          ∷ 0x48703  -- add r8, r7, 3: its low part
          ∷ 0x35020  -- set r5, f
          ∷ 0x66500  -- call r5, which links r6
          ∷ 0x54100  -- base: add r4, r1
          ∷ 0x190f3  -- load r9, [0xf3]: case less base
          ∷ 0x59600  -- add r9, r6
          ∷ 0x89000  -- jump to r9
          ∷ 0x37000  -- set r7, 0
          ∷ 0x94000  -- case: put out r4
          ∷ 0x00000  -- stop
          ∷ 0x39024  -- f: set r9, the address of the byte after f
          ∷ 0xa9900  -- load r9, [r9]
          ∷ 0x54900  -- add r4, r9
          ∷ 0x86000  -- return over r6
          ∷ []);
      new =
          placed
          (0x31007  -- set r1, 7
          ∷ 0x32020  -- set r2, 0x20
          ∷ 0x220f8  -- store r2, [0xf8]
          ∷ 0x130f8  -- load r3, [0xf8]
          ∷ 0x44315  -- add r4, r3, 0x15
          ∷ 0x38003  -- set r8, 3
          ∷ 0x7601d  -- call f, which links r6
          ∷ 0x54100  -- base: add r4, r1
          ∷ 0x190f3  -- load r9, [0xf3]: case less base
          ∷ 0x59600  -- add r9, r6
          ∷ 0x89000  -- jump to r9
          ∷ 0x94000  -- case: put out r4
          ∷ 0x00000  -- stop
          ∷ 0x39021  -- f: set r9, the address of the byte after f
          ∷ 0xa9900  -- load r9, [r9]
          ∷ 0x54900  -- add r4, r9
          ∷ 0x86000  -- return over r6
          ∷ []);
      moved = new_address;
      halves = λ h x y. if h == 0 then x == 0x30 && y == 0x20 else x == 0;
    }

-- ---- both runs

-- words of code from an address on, by their bytes
abbrev pub words_from : ℕ → List ℕ → ℕ → ℕ
words_from first words a =
    let i = a - first in
    unwrap_or (slice_get words (i / 4)) 0 / 256 ^ (i % 4) % 256

-- a number of one byte of memory
abbrev pub of_byte : Kind → Stored
of_byte kind = record { kind = kind; bytes = 1; below = 0 }

abbrev pub with_byte : ℕ → Kind → Kinds → Kinds
with_byte a kind k =
    record k { memory = λ m. if m == a then of_byte kind else k.memory m }

-- what counts from base to case
abbrev pub case_less_base : Kind
case_less_base = code (record { number = 0; added = 0x1e ∷ []; subtracted = 0x19 ∷ [] })

-- Old alone reads the entry at 0xf0. At 0xf3 is a jump table.
abbrev pub first_known : Kinds
first_known =
    with_byte 0xf0 anything
    (with_byte 0xf3 case_less_base
    (with_register 2 anything (record { registers = λ r. same; memory = λ a. of_byte same })))

-- a state before the code at an address
abbrev pub before : ℕ → (ℕ → ℕ) → (ℕ → ℕ) → State
before pc registers memory =
    record { pc = pc; registers = registers; memory = memory; outside = λ n. 0 }

abbrev pub first_old : State
first_old =
    before 0x10 (λ r. r)
    (λ a. if a == 0xf0 then 7 else (if a == 0xf3 then 5 else (if a == 0x24 then 0x55 else 0)))

-- the register and the entry that may differ do, and the jump table and the byte after f moved
abbrev pub first_new : State
first_new =
    before 0x10 (λ r. if r == 2 then 0x77 else r)
    (λ a. if a == 0xf0 then 0x99 else (if a == 0xf3 then 4 else (if a == 0x21 then 0x55 else 0)))

-- 8 bytes of a number from an address on, in memory that has nothing else
abbrev pub entry : ℕ → ℕ → ℕ → ℕ
entry first number a =
    if nat_le first a && nat_lt a (first + 8) then number / 256 ^ (a - first) % 256 else 0

-- Code is at 0x10000.
abbrev pub before_code : (ℕ → ℕ) → (ℕ → ℕ) → State
before_code = before 0x10000

abbrev pub words : List ℕ → ℕ → ℕ
words = words_from 0x10000

-- Old and new begin in states that agree. A covered run of q others and groups is m instructions of
-- old and n of new. It leads to where both stop, and something holds of what each has there.
pub record AreRuns (l : Link) (first : Kinds) (s t : State) (q m n : ℕ)
    (OldEnds NewEnds : State → Type 0) : Type 0 where
  pub kinds : Kinds
  pub state : State
  pub agree : Agree l first s t
  pub covered : Covered (of_link l) q n first s kinds state
  pub stops : Stops (of_link l) kinds state
  pub old_ends : IsSomeAnd (run m (l.machine l.old) s) OldEnds
  pub new_ends : IsSomeAnd (run n (l.machine l.new) t) NewEnds

abbrev pub EndsAt : ℕ → State → Type 0
EndsAt pc s = (s.pc ≡ pc) × (s.registers 4 ≡ 0x91) × (s.outside 0 ≡ 0x91)

-- Old executes 6 groups and 11 others.
abbrev pub IsWorked : Type 0
IsWorked = AreRuns link first_known first_old first_new 17 18 16 (EndsAt 0x1f) (EndsAt 0x1c)

-- ---- a chain of two links

-- rewritten where it stands
abbrev pub rewritten : Link
rewritten =
    record {
      machine = machine;
      old =
          placed
          (0x110f0  -- load r1, [0xf0]
          ∷ 0x37000  -- set r7, 0: a high part
          ∷ 0x91000  -- put out r1
          ∷ 0x00000  -- stop
          ∷ []);
      new =
          placed
          (0x31007  -- set r1, 7
          ∷ 0x37020  -- set r7, 0x20
          ∷ 0x91000  -- put out r1
          ∷ 0x00000  -- stop
          ∷ []);
      moved = λ a. a;
      halves = λ h x y. x == 0 && y == 0x20;
    }

-- then packed, the instruction at 0x11 deleted
abbrev pub packed : Link
packed =
    record {
      machine = machine;
      old = rewritten.new;
      new =
          placed
          (0x31007  -- set r1, 7
          ∷ 0x91000  -- put out r1
          ∷ 0x00000  -- stop
          ∷ []);
      moved = λ a. if nat_le a 0x11 then a else (if nat_le a 0x13 then a - 1 else a);
      halves = λ h x y. x == 0x20;
    }

abbrev pub chain : Chain
chain = followed_by (one rewritten) packed

abbrev pub all_same : Kinds
all_same = record { registers = λ r. same; memory = λ a. of_byte same }

abbrev pub with_entry : ℕ → State
with_entry number = before 0x10 (λ r. r) (λ a. if a == 0xf0 then number else 0)

-- Old executes 3 instructions, which are a group of the chain, and new 2. Old alone reads the
-- entry.
pub record IsChainWorked : Type 0 where
  pub known : (of_chain chain).Known
  pub state : State
  pub agree :
      (of_chain chain).Agrees (with_byte 0xf0 anything all_same, all_same) (with_entry 7)
      (with_entry 0x99)
  pub covered :
      Covered (of_chain chain) 1 2 (with_byte 0xf0 anything all_same, all_same) (with_entry 7)
      known state
  pub old_ends : IsSomeAnd (run 3 (machine rewritten.old) (with_entry 7)) (λ s. s.outside 0 ≡ 7)
  pub new_ends : IsSomeAnd (run 2 (machine packed.new) (with_entry 0x99)) (λ s. s.outside 0 ≡ 7)
