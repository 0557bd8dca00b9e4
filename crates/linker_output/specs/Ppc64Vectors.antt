-- PowerPC64: what the functions do that save and restore vector registers (64-bit ELF V2 ABI for
-- Power, "Vector Save and Restore Functions"; Power ISA, version 3.1, book I, "Vector Facility").
use Rattle.std.specs.Prelude.{Option, IsSomeAnd, if◌then◌else◌, length, slice_get, ◌%◌, ◌<◌, ◌≤◌}
use Rattle.std.specs.Prelude.{◌≡◌, ◌==◌, ◌&&◌, Bool, ◌+◌, ◌-◌, ◌*◌, ℕ, List, false, Some, None}
use Rattle.linker_output.specs.Imports.{Formats, State, field, go_on, indexed_address, loaded}
use Rattle.linker_output.specs.Imports.{opcode_of, rt_of, store, with_number}
use Rattle.linker_output.specs.LazyRuns.{run_by}
use Rattle.linker_output.specs.Layout.{Run}
use Rattle.linker_output.specs.Ppc64Output.{ppc64_output}
use Rattle.linker_output.specs.Ppc64Saves.{Returns, step, words_from, saved, restored}
use Rattle.linker_output.specs.Ppc64Stubs.{Counted, with_state}

-- ---- the vector registers

-- the machine with the vector registers by their numbers, each a number of 128 bits
pub record Vectored : Type 0 where
  pub counted : Counted
  pub vectors : ℕ → ℕ

-- "Store Vector Indexed" and "Load Vector Indexed", by their extended opcodes, 231 and 103
abbrev pub is_stvx : ℕ → Bool
is_stvx word = opcode_of word == 31 && field word 0 11 == 231 * 2

abbrev pub is_lvx : ℕ → Bool
is_lvx word = opcode_of word == 31 && field word 0 11 == 103 * 2

-- an address without its low four bits
abbrev pub quadword : ℕ → ℕ
quadword address = address - address % 16

abbrev pub vector_address : ℕ → State → ℕ
vector_address word s = quadword (indexed_address word s)

abbrev pub vector_stored : ℕ → Vectored → Vectored
vector_stored word v =
    let s = v.counted.state in
    record v {
      counted =
          with_state (go_on (store 16 (v.vectors (rt_of word)) (vector_address word s) s))
          v.counted;
    }

abbrev pub vector_loaded : ℕ → Vectored → Vectored
vector_loaded word v =
    let s = v.counted.state in
    record {
      counted = with_state (go_on s) v.counted;
      vectors = with_number (rt_of word) (loaded 16 s.memory (vector_address word s)) v.vectors;
    }

abbrev pub with_vectors : (ℕ → ℕ) → Option Counted → Option Vectored
with_vectors vectors None = None
with_vectors vectors (Some c) = Some (record { counted = c; vectors = vectors })

abbrev pub step_vectored : Formats → ℕ → Vectored → Option Vectored
step_vectored f word v =
    if is_stvx word then Some (vector_stored word v)
    else (if is_lvx word then Some (vector_loaded word v)
    else with_vectors v.vectors (step f word v.counted))

abbrev pub run_vectored : Formats → List ℕ → Vectored → Option Vectored
run_vectored f code v = run_by (λ v. v.counted.state.pc) (step_vectored f) code v

-- the code of the function for a register, of 20 to 31, and those after it
abbrev pub vector_code : Run → ℕ → List ℕ
vector_code run n = words_from run (2 * (n - 20)) (2 * (32 - n) + length run.tail)

-- ---- the laws

-- the law of a run's functions
abbrev pub EachVector : ℕ → (ℕ → Vectored → Vectored → Type 0) → Type 0
EachVector index Leaves =
    IsSomeAnd (slice_get ppc64_output.runs index) (λ r.
    (n : ℕ) → 20 ≤ n → n < 32 → (f : Formats) (v : Vectored)
    → IsSomeAnd (run_vectored f (vector_code r n) v) (Leaves n v))

-- back to where the link register leads, with all registers but r12 and the vector registers as
-- they were
pub record ReturnsVectored (v w : Vectored) : Type 0 where
  pub returns : Returns v.counted w.counted
  pub registers : (m : ℕ) → (m == 12) ≡ false
      → w.counted.state.registers m ≡ v.counted.state.registers m
  pub floats : (m : ℕ) → w.counted.state.floats m ≡ v.counted.state.floats m

-- `_savevr_N`: the vector registers from n on are below the address in r0, without its low four
-- bits.
pub record SavesVectors (n : ℕ) (v w : Vectored) : Type 0 where
  pub returns : ReturnsVectored v w
  pub vectors : (m : ℕ) → w.vectors m ≡ v.vectors m
  pub memory : (a : ℕ) → w.counted.state.memory a
      ≡ saved 16 n v.vectors (quadword (v.counted.state.registers 0)) v.counted.state.memory a

-- `_restvr_N`: those registers are what the places below that address have.
pub record RestoresVectors (n : ℕ) (v w : Vectored) : Type 0 where
  pub returns : ReturnsVectored v w
  pub vectors : (m : ℕ) → w.vectors m
      ≡ restored 16 n (quadword (v.counted.state.registers 0)) v.counted.state.memory v.vectors m
  pub memory : (a : ℕ) → w.counted.state.memory a ≡ v.counted.state.memory a

abbrev pub SaveVectors : Type 0
SaveVectors = EachVector 6 SavesVectors

abbrev pub RestoreVectors : Type 0
RestoreVectors = EachVector 7 RestoresVectors
