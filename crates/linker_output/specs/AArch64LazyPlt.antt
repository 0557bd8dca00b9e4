-- AArch64: entries go to the address that their word has, and by the header to the dynamic linker's
-- resolver (Arm Architecture Reference Manual for A-profile, DDI 0487, C6.2).
use Rattle.std.specs.Prelude.{◌==◌, ◌||◌, List, Bool, false, Option, Some, IsSomeAnd, if◌then◌else◌}
use Rattle.std.specs.Prelude.{◌≡◌, ◌≤◌, ◌/◌, ◌^◌, ◌<◌, ℕ, ◌+ℤ◌, ◌*ℤ◌, pos}
use Rattle.linker_output.specs.Imports.{AArch64, LazyEntry, LazyPiece, difference_64, field, signed}
use Rattle.linker_output.specs.Imports.{stored, sum_64}
use Rattle.linker_utils.specs.AArch64Rewrites.{rd_of, rn_of}
use Rattle.linker_laws.specs.AArch64Machine as machine
use Rattle.linker_laws.specs.AArch64Machine.{State, read_x, write_x_or_sp, go_on, load_64}
use Rattle.linker_laws.specs.AArch64Machine.{in_64_bits}
use Rattle.linker_output.specs.AArch64Stubs.{jumped, is_bti_c}
use Rattle.linker_output.specs.LazyPlt.{IsCode, header_places}
use Rattle.linker_output.specs.LazyPlts.{aarch64_landing_header, aarch64_landing_entry}
use Rattle.linker_output.specs.LazyPlts.{aarch64_entry, aarch64_header, aarch64_wide_entry}
use Rattle.linker_output.specs.LazyRuns.{words, or_else, run_by}

-- ---- "STP", pre-indexed, of 64 bits

abbrev pub is_stp : ℕ → Bool
is_stp word = word / 2 ^ 22 == 0x2a6

-- the immediate is in units of 8 bytes
abbrev pub pair_address : ℕ → State → ℕ
pair_address word s =
    in_64_bits (pos (s.registers (rn_of word)) +ℤ (signed 7 (field word 15 22) *ℤ pos 8))

-- Both registers are stored, one after the other, and the base becomes their address.
abbrev pub pair_stored : ℕ → State → State
pair_stored word s =
    let address = pair_address word s in
    let first = stored 8 (read_x (rd_of word) s) address s.memory in
    write_x_or_sp (rn_of word) address
    (record s { memory = stored 8 (read_x (field word 10 15) s) (sum_64 address 8) first })

abbrev pub further : ℕ → State → Option State
further word s =
    if is_stp word then Some (go_on (pair_stored word s))
    else (if is_bti_c word then Some (go_on s) else jumped word s)

abbrev pub step : ℕ → State → Option State
step word s = or_else (machine.step word s) (further word s)

abbrev pub run : List ℕ → State → Option State
run code s = run_by (λ s. s.pc) step code s

-- ---- the laws

-- It goes to the target, and changes only x16, which has the address of the word, and x17, which
-- has the target.
pub record GoesTo (entry : LazyEntry) (target : ℕ) (s t : State) : Type 0 where
  pub pc : t.pc ≡ target
  pub x16 : t.registers 16 ≡ entry.word
  pub x17 : t.registers 17 ≡ target
  pub registers : (n : ℕ) → (n == 16 || n == 17) ≡ false → t.registers n ≡ s.registers n
  pub memory : t.memory ≡ s.memory
  pub thread_pointer : t.thread_pointer ≡ s.thread_pointer

-- An entry, in its first instructions. The word has the address of a function, or of the header.
abbrev pub EntersBy : ℕ → List LazyPiece → Type 0
EntersBy count pieces =
    (entry : LazyEntry) → entry.address < 2 ^ 64 → entry.word < 2 ^ 64
    → (code : List ℕ) → IsCode AArch64 pieces entry code
    → (s : State) → s.pc ≡ entry.address
    → IsSomeAnd (run (words count code) s) (GoesTo entry (load_64 s.memory entry.word) s)

abbrev pub Enters : Type 0
Enters = EntersBy 4 aarch64_entry

-- of those for protected code
abbrev pub LandingEnters : Type 0
LandingEnters = EntersBy 4 aarch64_wide_entry × EntersBy 5 aarch64_landing_entry

-- It goes to the resolver, with the addresses of the entry's word and of the third word, which has
-- the resolver's address, on the stack and in x16, and the return address on the stack. x17 changes
-- too.
pub record Asks (entry : LazyEntry) (third : ℕ) (s t : State) : Type 0 where
  pub pc : t.pc ≡ load_64 s.memory third
  pub x16 : t.registers 16 ≡ third
  pub stack : t.registers 31 ≡ difference_64 (s.registers 31) 16
  pub registers : (n : ℕ) → ((n == 16 || n == 17) || n == 31) ≡ false
      → t.registers n ≡ s.registers n
  pub word : load_64 t.memory (t.registers 31) ≡ entry.word
  pub link : load_64 t.memory (sum_64 (t.registers 31) 8) ≡ s.registers 30
  pub memory : (a : ℕ) → 16 ≤ difference_64 a (t.registers 31) → t.memory a ≡ s.memory a
  pub thread_pointer : t.thread_pointer ≡ s.thread_pointer

-- the 8 bytes of a word aren't among the 16 below the stack pointer
abbrev pub IsOffStack : ℕ → State → Type 0
IsOffStack word s =
    (i : ℕ) → i < 8 → 16 ≤ difference_64 (sum_64 word i) (difference_64 (s.registers 31) 16)

-- An entry and a header, in their first instructions. The word of the entry has the header's
-- address, and the third word isn't on the stack.
abbrev pub ResolvesBy : ℕ → List LazyPiece → ℕ → List LazyPiece → Type 0
ResolvesBy count pieces header_count header_pieces =
    (entry : LazyEntry) (first : ℕ) → entry.address < 2 ^ 64 → entry.word < 2 ^ 64 → first < 2 ^ 64
    → entry.header < 2 ^ 64
    → (code : List ℕ) → IsCode AArch64 pieces entry code
    → (header : List ℕ) → IsCode AArch64 header_pieces (header_places entry.header first) header
    → (s : State) → s.pc ≡ entry.address → load_64 s.memory entry.word ≡ entry.header
    → s.registers 30 < 2 ^ 64 → IsOffStack (sum_64 first 16) s
    → IsSomeAnd (run (words count code) s) (λ t. (t.pc ≡ entry.header)
    × IsSomeAnd (run (words header_count header) t) (Asks entry (sum_64 first 16) s))

abbrev pub Resolves : Type 0
Resolves = ResolvesBy 4 aarch64_entry 5 aarch64_header

-- of those for protected code
abbrev pub LandingResolves : Type 0
LandingResolves =
    ResolvesBy 4 aarch64_wide_entry 6 aarch64_landing_header
    × ResolvesBy 5 aarch64_landing_entry 6 aarch64_landing_header
