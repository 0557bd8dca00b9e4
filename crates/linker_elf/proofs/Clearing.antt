-- The places that a form only ORs, once they are cleared.
use Rattle.linker_elf.proofs.Imports.{All, All-cons, All-head, All-nil, All-tail, BitsWritten, ImmediateBit, IsClear, IsTrue, List, Mark, [], bit_at, bit_for, cleared, clearing, consecutive_bits, eq-eqb, is_clear_at, ored, ored_cleared, placed_bit, refl, replaced, same_from_bits, suc, zero, ℕ, ◌+◌, ◌∷◌, ◌≡◌}

-- writing at no place changes nothing
pub nothing_written : (v x : ℕ) → BitsWritten [] v x x
nothing_written v x = record { placed = All-nil (λ (p : ImmediateBit). bit_at x p.insn_bit ≡ placed_bit p.mark (bit_for p v) (bit_at x p.insn_bit)); kept = λ w h. refl }

pub same_window : (v before after : ℕ) → BitsWritten [] v before after → after ≡ before
same_window v before after laid = same_from_bits after before (λ w. laid.kept w refl)

abbrev Laid : ℕ → ℕ → ImmediateBit → Type 0
Laid before after p = bit_at after p.insn_bit ≡ placed_bit p.mark (bit_for p 0) (bit_at before p.insn_bit)

step : (before after : ℕ) (m : Mark) (p : ImmediateBit) (ps : List ImmediateBit) → All (Laid before after) (clearing m p ps) → IsTrue (is_clear_at m (bit_at after p.insn_bit)) × All (Laid before after) ps
step before after ored p ps h =
    let q : ImmediateBit = record p { mark = cleared } in
    (eq-eqb (bit_at after p.insn_bit) 0 (All-head (Laid before after) q ps h), All-tail (Laid before after) q ps h)
step before after replaced p ps h = (refl, h)
step before after cleared p ps h = (refl, h)

-- the places that are only ORed hold 0 after they are cleared
pub clear_after : (ps : List ImmediateBit) (before after : ℕ) → All (λ (p : ImmediateBit). bit_at after p.insn_bit ≡ placed_bit p.mark (bit_for p 0) (bit_at before p.insn_bit)) (ored_cleared ps) → IsClear ps after
clear_after [] before after h = All-nil (λ (p : ImmediateBit). IsTrue (is_clear_at p.mark (bit_at after p.insn_bit)))
clear_after (p ∷ ps) before after h =
    let s = step before after p.mark p (ored_cleared ps) h in
    All-cons (λ (q : ImmediateBit). IsTrue (is_clear_at q.mark (bit_at after q.insn_bit))) p ps s.0 (clear_after ps before after s.1)

-- no place that is replaced is cleared
pub none_ored : (n k w r : ℕ) → ored_cleared (consecutive_bits n k w r replaced) ≡ []
none_ored zero k w r = refl
none_ored (suc n) k w r = none_ored n (k + 1) (w + 1) r
