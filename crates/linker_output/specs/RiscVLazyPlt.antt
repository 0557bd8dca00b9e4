-- RISC-V: entries go to the address that their word has, and by the header to the dynamic linker's
-- resolver (RISC-V unprivileged ISA; RISC-V psABI, "Procedure Linkage Table").
use Rattle.std.specs.Prelude.{◌==◌, ◌&&◌, ◌||◌, List, Bool, false, Option, IsSomeAnd, if◌then◌else◌}
use Rattle.std.specs.Prelude.{◌≡◌, ◌+◌, ◌*◌, ◌/◌, ◌%◌, ◌^◌, ◌<◌, ℕ, Some, None}
use Rattle.linker_output.specs.Imports.{LazyEntry, RiscV, difference_64, field, loaded, sum_64}
use Rattle.linker_laws.specs.RiscVMachine.{Hart, Instruction, register, with_integer, goes_on}
use Rattle.linker_laws.specs.RiscVMachine.{of_word, executed, rs1_of, rs2_of}
use Rattle.linker_output.specs.LazyPlt.{IsCode, header_places}
use Rattle.linker_output.specs.LazyPlts.{riscv_entry, riscv_header}
use Rattle.linker_output.specs.LazyRuns.{words, or_else, run_by}
use Rattle.linker_riscv64.specs.RiscVFields.{opcode_of, funct3_of, rd_of}

-- ---- "SUB" and "SRLI"

abbrev pub is_sub : ℕ → Bool
is_sub word = opcode_of word == 0x33 && (funct3_of word == 0 && field word 25 32 == 0x20)

abbrev pub is_srli : ℕ → Bool
is_srli word = opcode_of word == 0x13 && (funct3_of word == 5 && field word 26 32 == 0)

abbrev pub difference : ℕ → Hart → ℕ
difference word h = difference_64 (register h (rs1_of word)) (register h (rs2_of word))

abbrev pub shifted : ℕ → Hart → ℕ
shifted word h = register h (rs1_of word) / 2 ^ field word 20 26

abbrev pub further : ℕ → Hart → Option Hart
further word h =
    if is_sub word then Some (goes_on 4 (with_integer (rd_of word) (difference word h) h))
    else (if is_srli word then Some (goes_on 4 (with_integer (rd_of word) (shifted word h) h))
    else None)

abbrev pub stepped : Option Instruction → Hart → Option Hart
stepped None h = None
stepped (Some i) h = Some (executed 4 i h)

abbrev pub step : ℕ → Hart → Option Hart
step word h = or_else (stepped (of_word word) h) (further word h)

abbrev pub run : List ℕ → Hart → Option Hart
run code h = run_by (λ h. h.pc) step code h

-- ---- the laws

-- It goes to the target, and changes only t1, which has the address after the jump, and t3, which
-- has the target.
pub record GoesTo (entry : LazyEntry) (target : ℕ) (h t : Hart) : Type 0 where
  pub pc : t.pc ≡ target
  pub t1 : register t 6 ≡ sum_64 entry.address 12
  pub t3 : register t 28 ≡ target
  pub integers : (n : ℕ) → (n == 6 || n == 28) ≡ false → register t n ≡ register h n
  pub floats : t.floats ≡ h.floats
  pub memory : t.memory ≡ h.memory

-- The word has an even address: that of a function, or of the header.
abbrev pub Enters : Type 0
Enters =
    (entry : LazyEntry) → entry.address < 2 ^ 64 → entry.word < 2 ^ 64
    → (code : List ℕ) → IsCode RiscV riscv_entry entry code
    → (target : ℕ) → target < 2 ^ 64 → target % 2 ≡ 0
    → (h : Hart) → h.pc ≡ entry.address → loaded 8 h.memory entry.word ≡ target
    → IsSomeAnd (run (words 3 code) h) (GoesTo entry target h)

-- It goes to the resolver, with the second word, which names the object, in t0 and the offset of
-- the entry's word after the first one in t1, and changes no other registers than t2 and t3.
pub record Asks (index resolver object : ℕ) (h t : Hart) : Type 0 where
  pub pc : t.pc ≡ resolver
  pub t0 : register t 5 ≡ object
  pub t1 : register t 6 ≡ 8 * index
  pub integers : (n : ℕ) → ((n == 5 || n == 6) || (n == 7 || n == 28)) ≡ false
      → register t n ≡ register h n
  pub floats : t.floats ≡ h.floats
  pub memory : t.memory ≡ h.memory

-- The first words have the resolver and the object, and the word of the entry, which is that with
-- an index after the header, has the header's address.
abbrev pub Resolves : Type 0
Resolves =
    (entry : LazyEntry) (first : ℕ) → entry.address < 2 ^ 64 → entry.word < 2 ^ 64 → first < 2 ^ 64
    → entry.header < 2 ^ 64 → entry.header % 16 ≡ 0 → entry.index < 2 ^ 59
    → entry.address ≡ sum_64 entry.header (32 + 16 * entry.index)
    → (code : List ℕ) → IsCode RiscV riscv_entry entry code
    → (header : List ℕ) → IsCode RiscV riscv_header (header_places entry.header first) header
    → (resolver object : ℕ) → resolver < 2 ^ 64 → resolver % 2 ≡ 0 → object < 2 ^ 64
    → (h : Hart) → h.pc ≡ entry.address → loaded 8 h.memory entry.word ≡ entry.header
    → loaded 8 h.memory first ≡ resolver → loaded 8 h.memory (sum_64 first 8) ≡ object
    → IsSomeAnd (run (words 3 code) h) (λ t. (t.pc ≡ entry.header)
    × IsSomeAnd (run (words 8 header) t) (Asks entry.index resolver object h))
