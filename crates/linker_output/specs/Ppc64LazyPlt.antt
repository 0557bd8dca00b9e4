-- PowerPC64: an entry goes by the header to the dynamic linker's resolver (Power ISA, version 3.1,
-- book I, "Branch Facility", "Fixed-Point Facility"; 64-bit ELF V2 ABI for Power, "Procedure
-- Linkage Table").
use Rattle.std.specs.Prelude.{◌==◌, ◌&&◌, ◌||◌, List, Bool, false, Option, IsSomeAnd, if◌then◌else◌}
use Rattle.std.specs.Prelude.{◌≡◌, ◌+◌, ◌*◌, ◌/◌, ◌%◌, ◌-◌, ◌^◌, ◌<◌, ℕ, Some, None, drop}
use Rattle.linker_output.specs.Imports.{Branch24, Formats, LazyEntry, Ppc64, State, difference_64}
use Rattle.linker_output.specs.Imports.{field, go_on, go_to, loaded, moved, number_of_bytes}
use Rattle.linker_output.specs.Imports.{opcode_of, ra_of, rb_of, rt_of, sum_64, write}
use Rattle.linker_elf.specs.Ppc64.{ppc64_form}
use Rattle.linker_output.specs.LazyPlt.{IsCode, header_places}
use Rattle.linker_output.specs.LazyPlts.{ppc64_entry, ppc64_header}
use Rattle.linker_output.specs.LazyRuns.{words, or_else, run_by}
use Rattle.linker_output.specs.Ppc64Stubs.{Counted, lifted, step_counted}

-- ---- "Branch" (`b`), "Subtract From" (`subf`), "Rotate Left Doubleword Immediate then Clear Left"
-- (`rldicl`)

abbrev pub is_b : ℕ → Bool
is_b word = opcode_of word == 18 && field word 0 2 == 0

abbrev pub is_subf : ℕ → Bool
is_subf word = opcode_of word == 31 && field word 0 11 == 0x50

abbrev pub is_rldicl : ℕ → Bool
is_rldicl word = opcode_of word == 30 && (field word 2 5 == 0 && field word 0 1 == 0)

abbrev pub difference : ℕ → State → ℕ
difference word s = difference_64 (s.registers (rb_of word)) (s.registers (ra_of word))

-- 64 bits, rotated to the left
abbrev pub rotated : ℕ → ℕ → ℕ
rotated k number = number * 2 ^ k % 2 ^ 64 + number / 2 ^ (64 - k)

-- Bit 5 of both numbers stands apart from the others. Of RS, which RT is here, the bits that aren't
-- cleared go to RA.
abbrev pub rotation : ℕ → ℕ
rotation word = field word 11 16 + 32 * field word 1 2

abbrev pub cleared : ℕ → ℕ
cleared word = field word 6 11 + 32 * field word 5 6

abbrev pub rotated_cleared : ℕ → State → ℕ
rotated_cleared word s =
    rotated (rotation word) (s.registers (rt_of word)) % 2 ^ (64 - cleared word)

abbrev pub further : ℕ → State → Option State
further word s =
    if is_b word then Some (go_to (moved s.pc ((ppc64_form Branch24).machine word)) s)
    else (if is_subf word then Some (go_on (write (rt_of word) (difference word s) s))
    else (if is_rldicl word then Some (go_on (write (ra_of word) (rotated_cleared word s) s))
    else None))

abbrev pub step : Formats → ℕ → Counted → Option Counted
step f word c = or_else (lifted c (further word c.state)) (step_counted f word c)

abbrev pub run : Formats → List ℕ → Counted → Option Counted
run f code c = run_by (λ c. c.state.pc) (step f) code c

-- ---- the law

-- It goes to the resolver, with the index in r0 and the second word, which names the object, in
-- r11, and changes no other registers than r12, which has the resolver, and the count register.
pub record Asks (index resolver object : ℕ) (c d : Counted) : Type 0 where
  pub pc : d.state.pc ≡ resolver
  pub r0 : d.state.registers 0 ≡ index
  pub r11 : d.state.registers 11 ≡ object
  pub r12 : d.state.registers 12 ≡ resolver
  pub registers : (n : ℕ) → ((n == 0 || n == 11) || n == 12) ≡ false
      → d.state.registers n ≡ c.state.registers n
  pub floats : d.state.floats ≡ c.state.floats
  pub link : d.state.link ≡ c.state.link
  pub memory : d.state.memory ≡ c.state.memory

-- A call comes with the entry's address in r12, as the stub leaves it that loads the entry's word.
-- The entry is that with an index after the header. The first words have the resolver, whose
-- address is a multiple of 4, and the object. The header's code is memory too: it loads how far the
-- words are.
abbrev pub Resolves : Type 0
Resolves =
    (entry : LazyEntry) (first : ℕ) → entry.address < 2 ^ 64 → first < 2 ^ 64
    → entry.header < 2 ^ 64 → entry.header % 4 ≡ 0 → entry.index < 2 ^ 61
    → entry.address ≡ sum_64 entry.header (60 + 4 * entry.index)
    → (code : List ℕ) → IsCode Ppc64 ppc64_entry entry code
    → (header : List ℕ) → IsCode Ppc64 ppc64_header (header_places entry.header first) header
    → (resolver object : ℕ) → resolver % 4 ≡ 0
    → (f : Formats) (c : Counted) → c.state.pc ≡ entry.address
    → c.state.registers 12 ≡ entry.address
    → loaded 8 c.state.memory (sum_64 entry.header 52) ≡ number_of_bytes 8 (drop 52 header)
    → loaded 8 c.state.memory first ≡ resolver → loaded 8 c.state.memory (sum_64 first 8) ≡ object
    → IsSomeAnd (run f (words 1 code) c) (λ d. (d.state.pc ≡ entry.header)
    × IsSomeAnd (run f (words 13 header) d) (Asks entry.index resolver object c))
