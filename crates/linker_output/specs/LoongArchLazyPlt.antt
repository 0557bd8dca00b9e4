-- LoongArch: entries go to the address that their word has, and by the header to the dynamic
-- linker's resolver (LoongArch Reference Manual, volume 1).
use Rattle.std.specs.Prelude.{◌==◌, ◌||◌, List, false, Option, Some, None, IsSomeAnd, if◌then◌else◌}
use Rattle.std.specs.Prelude.{◌≡◌, ◌+◌, ◌*◌, ◌/◌, ◌^◌, ◌<◌, ℕ, pos, ◌+ℤ◌, ◌*ℤ◌}
use Rattle.linker_output.specs.Imports.{LazyEntry, LoongArch64, difference_64, field, loaded}
use Rattle.linker_output.specs.Imports.{signed, sum_64, wrapped}
use Rattle.linker_laws.specs.LoongArchMachine as machine
use Rattle.linker_laws.specs.LoongArchMachine.{State, read, write, go_on}
use Rattle.linker_utils.specs.LoongArchRewrites.{rd_of, rj_of}
use Rattle.linker_output.specs.LazyPlt.{IsCode, header_places}
use Rattle.linker_output.specs.LazyPlts.{loongarch_entry, loongarch_header}
use Rattle.linker_output.specs.LazyRuns.{words, or_else, run_by}

-- ---- "PCADDU12I", "SUB.D" and "SRLI.D"

-- the immediate, in units of 2^12 bytes, is added to the address of the instruction
abbrev pub upper_address : ℕ → State → ℕ
upper_address word s = wrapped (pos s.pc +ℤ (signed 20 (field word 5 25) *ℤ pos 4096))

abbrev pub difference : ℕ → State → ℕ
difference word s = difference_64 (read (rj_of word) s) (read (field word 10 15) s)

abbrev pub shifted : ℕ → State → ℕ
shifted word s = read (rj_of word) s / 2 ^ field word 10 16

abbrev pub further : ℕ → State → Option State
further word s =
    if word / 2 ^ 25 == 0x0e then Some (go_on (write (rd_of word) (upper_address word s) s))
    else (if word / 2 ^ 15 == 0x23 then Some (go_on (write (rd_of word) (difference word s) s))
    else (if word / 2 ^ 16 == 0x45 then Some (go_on (write (rd_of word) (shifted word s) s))
    else None))

abbrev pub step : ℕ → State → Option State
step word s = or_else (further word s) (machine.step word s)

abbrev pub run : List ℕ → State → Option State
run code s = run_by (λ s. s.pc) step code s

-- ---- the laws

-- It goes to the target, and changes only $t1, which has the address after the jump, and $t3,
-- which has the target.
pub record GoesTo (entry : LazyEntry) (target : ℕ) (s t : State) : Type 0 where
  pub pc : t.pc ≡ target
  pub t1 : read 13 t ≡ sum_64 entry.address 12
  pub t3 : read 15 t ≡ target
  pub registers : (n : ℕ) → (n == 13 || n == 15) ≡ false → read n t ≡ read n s
  pub floats : t.floats ≡ s.floats
  pub memory : t.memory ≡ s.memory

-- The word has the address of a function, or of the header.
abbrev pub Enters : Type 0
Enters =
    (entry : LazyEntry) → entry.address < 2 ^ 64 → entry.word < 2 ^ 64
    → (code : List ℕ) → IsCode LoongArch64 loongarch_entry entry code
    → (target : ℕ) → target < 2 ^ 64
    → (s : State) → s.pc ≡ entry.address → loaded 8 s.memory entry.word ≡ target
    → IsSomeAnd (run (words 3 code) s) (GoesTo entry target s)

-- It goes to the resolver, with the second word, which names the object, in $t0 and the offset of
-- the entry's word after the first one in $t1, and changes no other registers than $t2 and $t3.
pub record Asks (index resolver object : ℕ) (s t : State) : Type 0 where
  pub pc : t.pc ≡ resolver
  pub t0 : read 12 t ≡ object
  pub t1 : read 13 t ≡ 8 * index
  pub registers : (n : ℕ) → ((n == 12 || n == 13) || (n == 14 || n == 15)) ≡ false
      → read n t ≡ read n s
  pub floats : t.floats ≡ s.floats
  pub memory : t.memory ≡ s.memory

-- The first words have the resolver and the object, and the word of the entry, which is that with
-- an index after the header, has the header's address.
abbrev pub Resolves : Type 0
Resolves =
    (entry : LazyEntry) (first : ℕ) → entry.address < 2 ^ 64 → entry.word < 2 ^ 64 → first < 2 ^ 64
    → entry.header < 2 ^ 64 → entry.index < 2 ^ 59
    → entry.address ≡ sum_64 entry.header (32 + 16 * entry.index)
    → (code : List ℕ) → IsCode LoongArch64 loongarch_entry entry code
    → (header : List ℕ)
    → IsCode LoongArch64 loongarch_header (header_places entry.header first) header
    → (resolver object : ℕ) → resolver < 2 ^ 64
    → (s : State) → s.pc ≡ entry.address → loaded 8 s.memory entry.word ≡ entry.header
    → loaded 8 s.memory first ≡ resolver → loaded 8 s.memory (sum_64 first 8) ≡ object
    → IsSomeAnd (run (words 3 code) s) (λ t. (t.pc ≡ entry.header)
    × IsSomeAnd (run (words 8 header) t) (Asks entry.index resolver object s))
