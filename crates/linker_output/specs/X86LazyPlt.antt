-- x86-64: entries go to the address that their word has, and by the header to the dynamic linker's
-- resolver (Intel 64 and IA-32 Architectures Software Developer's Manual, volume 2, "JMP", "PUSH";
-- x86-64 psABI, "Procedure Linkage Table").
use Rattle.std.specs.Prelude.{◌==◌, ◌&&◌, zero, List, false, drop, Option, IsSomeAnd, if◌then◌else◌}
use Rattle.std.specs.Prelude.{◌≡◌, ◌≤◌, ◌^◌, ◌<◌, ℕ, suc, ◌∷◌, Some, None}
use Rattle.linker_output.specs.Imports.{LazyEntry, LazyPiece, X86_64, difference_64}
use Rattle.linker_output.specs.Imports.{number_of_bytes, sum_64}
use Rattle.linker_laws.specs.X86Machine as machine
use Rattle.linker_laws.specs.X86Machine.{State, load, store_8, with_register, extended, is_relative}
use Rattle.linker_laws.specs.X86Machine.{reg_of}
use Rattle.linker_output.specs.LazyPlt.{IsCode, header_places}
use Rattle.linker_output.specs.LazyPlts.{x86_64_entry, x86_64_header, x86_64_landing_entry}
use Rattle.linker_output.specs.LazyRuns.{or_else}

-- ---- "ENDBR64"

-- Indirect branches may go to it, and it does nothing.
abbrev pub landed : List ℕ → State → Option State
landed (a ∷ b ∷ c ∷ d ∷ rest) s =
    if a == 0xf3 && (b == 0x0f && (c == 0x1e && d == 0xfa))
    then Some (record s { ip = sum_64 s.ip 4 })
    else None
landed bytes s = None

-- ---- "PUSH"

-- 8 bytes are stored below the stack pointer
abbrev pub pushed : ℕ → ℕ → State → State
pushed number next s =
    let top = difference_64 (s.register 4) 8 in
    record s {
      ip = next;
      register = with_register 4 top s.register;
      memory = store_8 top number s.memory;
    }

-- by 68, of 32 bits, sign-extended; by ff /6, of 8 bytes so far from the next instruction
abbrev pub further : List ℕ → State → Option State
further (opcode ∷ m ∷ rest) s =
    if opcode == 0x68
    then Some (pushed (extended (number_of_bytes 4 (m ∷ rest))) (sum_64 s.ip 5) s)
    else (if (opcode == 0xff) && (is_relative m && (reg_of m == 6))
    then Some (pushed (load 8 s (sum_64 (sum_64 s.ip 6) (extended (number_of_bytes 4 rest))))
    (sum_64 s.ip 6) s)
    else None)
further bytes s = None

abbrev pub step : List ℕ → State → Option State
step bytes s = or_else (landed bytes s) (or_else (further bytes s) (machine.step bytes s))

abbrev pub and_then : (State → Option State) → Option State → Option State
and_then rest None = None
and_then rest (Some s) = rest s

-- n instructions of code, from the one at the state's address on, whose first byte has an
-- address
abbrev pub run : ℕ → List ℕ → ℕ → State → Option State
run zero code start s = Some s
run (suc n) code start s =
    and_then (run n code start) (step (drop (difference_64 s.ip start) code) s)

-- ---- the laws

-- Nothing but the instruction pointer changes.
abbrev pub Enters : Type 0
Enters =
    (entry : LazyEntry) → entry.address < 2 ^ 64 → entry.word < 2 ^ 64
    → (code : List ℕ) → IsCode X86_64 x86_64_entry entry code
    → (s : State) → s.ip ≡ entry.address
    → step code s ≡ Some (record s { ip = load 8 s entry.word })

-- It goes to the resolver, whose address the third word has, with the second word and above it the
-- index on the stack, and changes nothing else.
pub record Asks (number first : ℕ) (s t : State) : Type 0 where
  pub ip : t.ip ≡ load 8 s (sum_64 first 16)
  pub stack : t.register 4 ≡ difference_64 (s.register 4) 16
  pub registers : (n : ℕ) → (n == 4) ≡ false → t.register n ≡ s.register n
  pub object : load 8 t (t.register 4) ≡ load 8 s (sum_64 first 8)
  pub index : load 8 t (sum_64 (t.register 4) 8) ≡ number
  pub memory : (a : ℕ) → 16 ≤ difference_64 a (t.register 4) → t.memory a ≡ s.memory a
  pub flags : t.flags ≡ s.flags
  pub fs : t.fs ≡ s.fs

-- the 8 bytes of a word aren't among the 16 below the stack pointer
abbrev pub IsOffStack : ℕ → State → Type 0
IsOffStack word s =
    (i : ℕ) → i < 8 → 16 ≤ difference_64 (sum_64 word i) (difference_64 (s.register 4) 16)

-- An entry, in 3 instructions, and the header, in 2. The second and the third word aren't on the
-- stack.
abbrev pub ResolvesBy : List LazyPiece → (LazyEntry → State → Type 0) → Type 0
ResolvesBy pieces LeadsOn =
    (entry : LazyEntry) (first : ℕ) → entry.address < 2 ^ 64 → entry.word < 2 ^ 64 → first < 2 ^ 64
    → entry.header < 2 ^ 64 → entry.index < 2 ^ 64
    → (code : List ℕ) → IsCode X86_64 pieces entry code
    → (header : List ℕ) → IsCode X86_64 x86_64_header (header_places entry.header first) header
    → (s : State) → s.ip ≡ entry.address → LeadsOn entry s
    → IsOffStack (sum_64 first 8) s → IsOffStack (sum_64 first 16) s
    → IsSomeAnd (run 3 code entry.address s) (λ t. (t.ip ≡ entry.header)
    × IsSomeAnd (run 2 header entry.header t) (Asks entry.index first s))

-- The word of the entry has the address after the entry's first instruction.
abbrev pub Resolves : Type 0
Resolves = ResolvesBy x86_64_entry (λ entry s. load 8 s entry.word ≡ sum_64 entry.address 6)

-- For protected code, where a stub comes to the entry (`LandingLoads`), whatever its word has.
abbrev pub LandingResolves : Type 0
LandingResolves = ResolvesBy x86_64_landing_entry (λ entry s. Unit {0})
