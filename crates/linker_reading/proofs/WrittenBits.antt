-- A write of a row's value to an instruction keeps the bits that aren't of the row's field.
use Rattle.linker_reading.proofs.Imports.{BitRange, BitsWritten, Bool, Form, ImmediateBit, List, Mark, WriteKeepsOtherBits, Written, [], ap, bit_at, bits_taken, cast_unsigned, cleared, clearing, eqb, false, is_placed, mod_below, or_first, or_second, ored, ored_cleared, pow_pos, replaced, w64, ℕ, ℤ, ◌-◌, ◌/◌, ◌<◌, ◌^◌, ◌||◌, ◌∙◌, ◌∷◌, ◌≡◌}

-- ---- the places that are cleared

-- what is cleared is a place
pub not_cleared : (ps : List ImmediateBit) (w : ℕ) → is_placed ps w ≡ false → is_placed (ored_cleared ps) w ≡ false
not_cleared [] w e = e
not_cleared (p ∷ ps) w e =
    by_mark p.mark (or_first (eqb p.insn_bit w) (is_placed ps w) e) (not_cleared ps w (or_second (eqb p.insn_bit w) (is_placed ps w) e))
  where
    by_mark : (m : Mark) → eqb p.insn_bit w ≡ false → is_placed (ored_cleared ps) w ≡ false → is_placed (clearing m p (ored_cleared ps)) w ≡ false
    by_mark ored here rest = ap (λ b. b || is_placed (ored_cleared ps) w) here ∙ rest
    by_mark replaced here rest = rest
    by_mark cleared here rest = rest

-- a bit at no place is the same before and after
pub outside : (form : Form) (cleared_places : List ImmediateBit) (n x clear y w : ℕ) (neg : Bool) → WriteKeepsOtherBits form
    → BitsWritten cleared_places 0 x clear → Written form n neg clear y
    → is_placed cleared_places w ≡ false → is_placed (form.places clear) w ≡ false → form.opcode w ≡ false → bit_at y w ≡ bit_at x w
outside form cleared_places n x clear y w neg keeps clears laid free placed opcode =
    keeps n neg clear y laid w placed opcode ∙ clears.kept w free

pub taken_small : (bits : BitRange) (v : ℤ) → bits_taken bits v < 2 ^ (bits.end - bits.start)
taken_small bits v = mod_below (cast_unsigned w64 v / 2 ^ bits.start) (2 ^ (bits.end - bits.start)) (pow_pos (bits.end - bits.start))
