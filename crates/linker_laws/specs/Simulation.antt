-- Every run of an object's code has a run of the linked code. "Old" is the object's code with the
-- values of its relocations, and "new" what a linker leaves of it. Both are at addresses.
use Rattle.std.specs.Prelude.{◌≡◌, ◌<◌, ◌≤◌, ◌+◌, ◌-◌, ◌*◌, ◌^◌, ◌⊎◌, ℕ, zero, suc, ℤ, pos, ◌+ℤ◌}
use Rattle.std.specs.Prelude.{◌-ℤ◌, Bool, IsTrue, List, map, sum, Option, Some, None, IsSome, ⊤}
use Rattle.std.specs.Prelude.{IsSomeAnd, option_and_then}
use Rattle.linker_laws.specs.Imports.{int_rem_euclid}
use Rattle.linker_laws.specs.Machine.{Memory, loaded}

-- ---- a machine

pub record State : Type 0 where
  -- the address of the next instruction
  pub pc : ℕ
  -- registers, flags and the thread pointer, each by an index of its own
  pub registers : ℕ → ℕ
  -- the byte at each address; instructions aren't part of it
  pub memory : Memory
  -- all else: what system calls have written and will read, what other threads will store
  pub outside : ℕ → ℕ

-- What code does, by one instruction: a function, so that a state has one run. It is none where the
-- run stops.
abbrev pub Program : Type 0
Program = State → Option State

-- what a machine does with the bytes of code at each address
abbrev pub Machine : Type 0
Machine = (ℕ → ℕ) → Program

-- the state after n instructions
abbrev pub run : ℕ → Program → State → Option State
run zero p s = Some s
run (suc n) p s = option_and_then (run n p) (p s)

-- ---- a link

pub record Link : Type 0 where
  pub machine : Machine
  -- old's bytes of code
  pub old : ℕ → ℕ
  -- new's bytes of code
  pub new : ℕ → ℕ
  -- the new address of a byte of old, or of the next kept byte; elsewhere it is the old one
  pub moved : ℕ → ℕ
  -- of a high part, by its index: whether it makes one number in old, and the other in new
  pub halves : ℕ → ℕ → ℕ → Bool

-- ---- kinds of numbers

-- A number that counts from places of code: a return address, or an entry of a jump table.
pub record Code : Type 0 where
  pub number : ℕ
  -- the old addresses of places that are added
  pub added : List ℕ
  -- those of places that are subtracted
  pub subtracted : List ℕ

-- that number, where the places are at other addresses
abbrev pub counted : (ℕ → ℕ) → Code → ℤ
counted address c =
    (pos c.number +ℤ pos (sum (map address c.added))) -ℤ pos (sum (map address c.subtracted))

pub data Kind : Type 0 where
  -- both runs have one number
  same : Kind
  -- old's counts from old addresses, and new's from new ones
  code : Code → Kind
  -- each run has what its instruction of a high part makes
  half : ℕ → Kind
  -- each run has any number
  anything : Kind

-- a number of n bytes, modulo 2 ^ 8n
abbrev pub IsCounted : ℕ → ℤ → ℕ → Type 0
IsCounted n z number = int_rem_euclid z (pos (2 ^ (8 * n))) ≡ pos number

-- numbers of n bytes of old and of new are of a kind
abbrev pub AreOf : Link → ℕ → Kind → ℕ → ℕ → Type 0
AreOf l n same x y = x ≡ y
AreOf l n (code c) x y = IsCounted n (counted (λ a. a) c) x × IsCounted n (counted l.moved c) y
AreOf l n (half h) x y = IsTrue (l.halves h x y)
AreOf l n anything x y = ⊤

-- the number of which a byte of memory is a part
pub record Stored : Type 0 where
  pub kind : Kind
  -- how many bytes the number has
  pub bytes : ℕ
  -- how many of these are below this one
  pub below : ℕ

-- the kinds of all numbers, at a point of both runs
pub record Kinds : Type 0 where
  pub registers : ℕ → Kind
  pub memory : ℕ → Stored

-- ---- states that agree

-- the number with a byte of old, and the one at its new address, are of its kind
abbrev pub AreStored : Link → Stored → Memory → Memory → ℕ → Type 0
AreStored l k old new a =
    let first = a - k.below in
    AreOf l k.bytes k.kind (loaded k.bytes old first) (loaded k.bytes new (l.moved first))

-- A state of old and one of new agree, by these kinds.
pub record Agree (l : Link) (k : Kinds) (s t : State) : Type 0 where
  pub small : s.pc < 2 ^ 64
  pub pc : t.pc ≡ l.moved s.pc
  pub registers : (r : ℕ) → AreOf l 8 (k.registers r) (s.registers r) (t.registers r)
  pub memory : (a : ℕ) → a < 2 ^ 64 → AreStored l (k.memory a) s.memory t.memory a
  pub outside : s.outside ≡ t.outside

-- Two programs: what is known at a point of both runs, and which states agree by it.
pub record Comparison : Type 1 where
  pub Known : Type 0
  pub Agrees : Known → State → State → Type 0
  pub old : Program
  pub new : Program
  pub small : (k : Known) (s t : State) → Agrees k s t → s.pc < 2 ^ 64

abbrev pub of_link : Link → Comparison
of_link l =
    record {
      Known = Kinds;
      Agrees = Agree l;
      old = l.machine l.old;
      new = l.machine l.new;
      small = λ k s t agree. agree.small;
    }

-- ---- what old executes

-- An instruction that isn't rewritten, though its field may differ. Whatever state of new agrees
-- before it, new executes one instruction too, and agrees after it. So of a half, or of anything,
-- nothing may come but what the kinds after it allow.
pub record Other (c : Comparison) (k : c.Known) (s : State) (k' : c.Known) (s' : State) : Type 0
  where
    pub old_goes : c.old s ≡ Some s'
    pub new_goes : (t : State) → c.Agrees k s t → IsSomeAnd (c.new t) (c.Agrees k' s')

-- A group: rewritten instructions, a call that is shortened or goes by a stub, deleted bytes. Old
-- executes one instruction and some more, a called function's too. New executes n, whatever state
-- of it agrees before, and agrees after them. Where n is 0, old goes forward.
pub record Group (c : Comparison) (n : ℕ) (k : c.Known) (s : State) (k' : c.Known) (s' : State)
    : Type 0 where
  pub more : ℕ
  pub old_goes : run (suc more) c.old s ≡ Some s'
  pub new_goes : (t : State) → c.Agrees k s t → IsSomeAnd (run n c.new t) (c.Agrees k' s')
  pub forward : n ≡ 0 → s.pc < s'.pc

-- Both runs stop.
pub record Stops (c : Comparison) (k : c.Known) (s : State) : Type 0 where
  pub old_stops : c.old s ≡ None
  pub new_stops : (t : State) → c.Agrees k s t → c.new t ≡ None

-- A covered run of old, between two states outside groups: q other instructions and groups, each
-- entered at its beginning, for which new executes n instructions.
pub data Covered (c : Comparison) : ℕ → ℕ → c.Known → State → c.Known → State → Type 0 where
  ends : (k : c.Known) (s : State) → Covered c 0 0 k s k s
  other : (q n : ℕ) (k k' k'' : c.Known) (s s' s'' : State) → Other c k s k' s'
      → Covered c q n k' s' k'' s'' → Covered c (suc q) (suc n) k s k'' s''
  group : (q m n : ℕ) (k k' k'' : c.Known) (s s' s'' : State) → Group c m k s k' s'
      → Covered c q n k' s' k'' s'' → Covered c (suc q) (m + n) k s k'' s''

-- What stands where a covered run ends. Not covered is a group without a law, or one of which a
-- premise doesn't hold.
pub data Next (c : Comparison) (k : c.Known) (s : State) : Type 0 where
  by_other : (k' : c.Known) (s' : State) → Other c k s k' s' → Next c k s
  by_group : (n : ℕ) (k' : c.Known) (s' : State) → Group c n k s k' s' → Next c k s
  stopping : Stops c k s → Next c k s
  uncovered : Next c k s

-- what stands wherever covered runs from a state end
abbrev pub Following : (c : Comparison) → c.Known → State → Type 0
Following c k s = (q n : ℕ) (k' : c.Known) (s' : State) → Covered c q n k s k' s' → Next c k' s'

-- Old's run is covered for m other instructions and groups, or until it stops, or up to what isn't
-- covered.
pub record IsCovered (c : Comparison) (k : c.Known) (s : State) (next : Following c k s) (m : ℕ)
    : Type 0 where
  pub q : ℕ
  pub n : ℕ
  pub known : c.Known
  pub state : State
  pub covered : Covered c q n k s known state
  pub far : (m ≤ q) ⊎ (Stops c known state ⊎ (next q n known state covered ≡ uncovered))

-- ---- the theorem

-- any run of old is covered up to what isn't
abbrev pub CoversRuns : Comparison → Type 0
CoversRuns c = (k : c.Known) (s : State) (next : Following c k s) (m : ℕ) → IsCovered c k s next m

-- a covered run is old's, of at least as many instructions
abbrev pub IsRun : Comparison → Type 0
IsRun c =
    (q n : ℕ) (k k' : c.Known) (s s' : State) → Covered c q n k s k' s'
    → (m : ℕ) × (q ≤ m) × (run m c.old s ≡ Some s')

-- wherever a covered run of old ends, new's run agrees
abbrev pub Follows : Comparison → Type 0
Follows c =
    (q n : ℕ) (k k' : c.Known) (s s' t : State) → Covered c q n k s k' s' → c.Agrees k s t
    → IsSomeAnd (run n c.new t) (c.Agrees k' s')

-- where old stops after a covered run, new stops
abbrev pub StopsToo : Comparison → Type 0
StopsToo c =
    (q n : ℕ) (k k' : c.Known) (s s' t : State) → Covered c q n k s k' s' → Stops c k' s'
    → c.Agrees k s t → run (suc n) c.new t ≡ None

-- if old's run is covered without an end, new's run has no end
abbrev pub GoesOnToo : Comparison → Type 0
GoesOnToo c =
    (k : c.Known) (s t : State) → c.Agrees k s t
    → ((q : ℕ) → (n : ℕ) × (k' : c.Known) × (s' : State) × Covered c q n k s k' s')
    → (n : ℕ) → IsSome (run n c.new t)

pub record Simulates (c : Comparison) : Type 0 where
  pub covers : CoversRuns c
  pub is_run : IsRun c
  pub follows : Follows c
  pub stops : StopsToo c
  pub goes_on : GoesOnToo c
