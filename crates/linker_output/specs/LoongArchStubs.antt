-- LoongArch: stubs go to their targets (LoongArch Reference Manual, volume 1).
use Rattle.std.specs.Prelude.{◌≡◌, ◌==◌, ◌^◌, ◌<◌, ◌∷◌, [], ℕ, List, false, drop, IsSomeAnd}
use Rattle.linker_laws.specs.LoongArchMachine.{State, read, run}
use Rattle.linker_output.specs.Imports.{AreBytes, LoongArch64, loaded, word_of}
use Rattle.linker_output.specs.LoongArchOutput.{loongarch_output}
use Rattle.linker_output.specs.Stubs.{IsStub}

-- It goes to the target, and changes only $t3, which a call may change on its way.
pub record GoesTo (target : ℕ) (s t : State) : Type 0 where
  pub pc : t.pc ≡ target
  pub registers : (n : ℕ) → (n == 15) ≡ false → read n t ≡ read n s
  pub floats : t.floats ≡ s.floats
  pub memory : t.memory ≡ s.memory

-- to the address that the word has
abbrev pub Loads : Type 0
Loads =
    (place word target : ℕ) → place < 2 ^ 64 → word < 2 ^ 64 → target < 2 ^ 64 → (code : List ℕ)
    → IsStub LoongArch64 loongarch_output.load_stub place word code
    → (s : State) → s.pc ≡ place → loaded 8 s.memory word ≡ target
    → IsSomeAnd (run (word_of code ∷ word_of (drop 4 code) ∷ word_of (drop 8 code) ∷ []) s)
    (GoesTo target s)

abbrev pub Jumps : Type 0
Jumps =
    (place target : ℕ) → place < 2 ^ 64 → target < 2 ^ 64 → (code : List ℕ) → AreBytes code
    → IsSomeAnd loongarch_output.jump_stub (λ stub. IsStub LoongArch64 stub place target code)
    → (s : State) → s.pc ≡ place
    → IsSomeAnd (run (word_of code ∷ word_of (drop 4 code) ∷ []) s) (GoesTo target s)
