-- PowerPC64: what takes the place of a `nop` after a call.
use Rattle.linker_laws.proofs.Imports.{IsRewritten, List, Some, and_parts, ap, arith, drop, eqb-true, field, is_call, loaded, opcode_of, place_sum, refl, sum_64, sym, take, true, two_words, word_of, ℕ, ◌&&◌, ◌<◌, ◌==◌, ◌^◌, ◌∙◌, ◌≡◌}
use Rattle.linker_utils.specs.Ppc64Rewrites.{nop}
use Rattle.linker_utils.specs.declared.ppc64.rewrites.RewriteKind.TheVariants as kinds
use Rattle.linker_laws.specs.Ppc64Machine.{State, Formats, step, write, go_on}
use Rattle.linker_laws.proofs.Ppc64Words.{step_nop}
use Rattle.linker_laws.proofs.Words.{back_word, front_pair}

first_of : (a b : ℕ) → a < 2 ^ 32 → b < 2 ^ 32 → word_of (two_words a b) ≡ a
first_of a b small below = omega arith

second_of : (a b : ℕ) → a < 2 ^ 32 → b < 2 ^ 32 → word_of (drop 4 (two_words a b)) ≡ b
second_of a b small below = omega arith

-- the words of what a rewrite leaves as two words
pub first_made : (after : List ℕ) (a b : ℕ) → a < 2 ^ 32 → b < 2 ^ 32 → take 8 after ≡ two_words a b
    → word_of after ≡ a
first_made after a b small below made = sym (front_pair after) ∙ ap word_of made ∙ first_of a b small below

pub second_made : (after : List ℕ) (a b : ℕ) → a < 2 ^ 32 → b < 2 ^ 32 → take 8 after ≡ two_words a b
    → word_of (drop 4 after) ≡ b
second_made after a b small below made =
    sym (back_word after) ∙ ap (λ xs. word_of (drop 4 xs)) made ∙ second_of a b small below

restored_step : (f : Formats) (s : State)
    → step f 0xe8410018 s ≡ Some (go_on (write 2 (loaded 8 s.memory (sum_64 (s.registers 1) 24)) s))
unfolding place_sum
restored_step f s = refl

pub restores_toc : (f : Formats) (s : State) (call restored : List ℕ) → word_of call < 2 ^ 32
    → is_call (word_of call) (word_of (drop 4 call)) ≡ true → IsRewritten kinds.NopToRestoreToc call restored
    → (step f (word_of (drop 4 call)) s ≡ Some (go_on s))
    × (step f (word_of (drop 4 restored)) s ≡ Some (go_on (write 2 (loaded 8 s.memory (sum_64 (s.registers 1) 24)) s)))
restores_toc f s call restored small is made =
    let parts = and_parts (opcode_of (word_of call) == 18 && field (word_of call) 0 2 == 1)
    (word_of (drop 4 call) == nop) is in
    let made_words : take 8 restored ≡ two_words (word_of call) 0xe8410018 =
    made ∙ ap (λ w. two_words w 0xe8410018) (front_pair call) in (
      step_nop f (word_of (drop 4 call)) s (eqb-true _ _ parts.1),
      ap (λ w. step f w s) (second_made restored (word_of call) 0xe8410018 small (omega arith) made_words)
          ∙ restored_step f s,
    )
