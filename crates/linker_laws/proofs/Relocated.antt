-- Relocations of a program that is given: by computation, what they write is what their rows say.
use Rattle.linker_laws.proofs.Imports.{All, All-cons, All-nil, AllowedRange, AnyForm, AreAddresses, BitRange, BitsWritten, Bool, HoldsBits, ImmediateBit, InstructionWritten, IsAccepted, IsApplied, IsEncoded, IsMultiple, IsReached, IsWithin, List, None, Operands, Option, PageMask, RelocationKind, RowInfo, Some, [], and_parts, arith, bit_at, bit_at_above, bit_for, bits_at, bits_taken, byte_len, drop, eq-eqb, eqb-true, false, inl, inr, insn_at, int_lt, is_32_bit_move, is_placed, is_supported, le_yes, leb, leb-false, leb-true, length, ltb-true, nat_lt, number_placed, placed_bit, places_cleared, pos, reach_of, refl, relocation_form, subst, suc, sym, true, true≢false, value_at, value_of, window_len, window_of, with_bit_31_if, zero, ℕ, ℤ, ◌&&◌, ◌*◌, ◌-◌, ◌<◌, ◌==◌, ◌^◌, ◌||◌, ◌∙◌, ◌∷◌, ◌≡◌, ◌≢◌, ◌≤◌, ◌⊎◌}
use Rattle.std.proofs.lemmas.Float.{T_from_true}
use Rattle.std.specs.Int.Signed.{le_z, lt_z, lt_z_yes}
use Rattle.linker_laws.proofs.Instructions.{row_of}

-- ---- bits that are written, by computation

abbrev is_written_at : List ImmediateBit → ℕ → ℕ → ℕ → Bool
is_written_at [] v before after = true
is_written_at (p ∷ ps) v before after =
    (bit_at after p.insn_bit == placed_bit p.mark (bit_for p v) (bit_at before p.insn_bit))
    && is_written_at ps v before after

abbrev is_kept_below : ℕ → List ImmediateBit → ℕ → ℕ → Bool
is_kept_below zero ps before after = true
is_kept_below (suc n) ps before after =
    (is_placed ps n || bit_at after n == bit_at before n) && is_kept_below n ps before after

other_of : (a b : Bool) → (a || b) ≡ true → a ≡ false → b ≡ true
other_of true b e f = absurd (true≢false f)
other_of false b e f = e

written_at : (ps : List ImmediateBit) (v before after : ℕ) → is_written_at ps v before after ≡ true
    → All (λ (p : ImmediateBit). bit_at after p.insn_bit
    ≡ placed_bit p.mark (bit_for p v) (bit_at before p.insn_bit)) ps
written_at [] v before after e = All-nil _
written_at (p ∷ ps) v before after e =
    All-cons (λ (p : ImmediateBit). bit_at after p.insn_bit
    ≡ placed_bit p.mark (bit_for p v) (bit_at before p.insn_bit)) p ps
    (eqb-true _ _ (and_parts _ (is_written_at ps v before after) e).0)
    (written_at ps v before after (and_parts _ (is_written_at ps v before after) e).1)

kept_below : (n : ℕ) (ps : List ImmediateBit) (before after : ℕ)
    → is_kept_below n ps before after ≡ true → (w : ℕ) → w < n → is_placed ps w ≡ false
    → bit_at after w ≡ bit_at before w
kept_below zero ps before after e w below out = omega arith
kept_below (suc n) ps before after e w below out =
    by (w == n) refl
    (kept_below n ps before after (and_parts _ (is_kept_below n ps before after) e).1 w)
  where
    here : w ≡ n → bit_at after w ≡ bit_at before w
    here is =
        subst (λ w. bit_at after w ≡ bit_at before w) (sym is)
        (eqb-true _ _ (other_of (is_placed ps n) (bit_at after n == bit_at before n)
        (and_parts _ (is_kept_below n ps before after) e).0
        (subst (λ w. is_placed ps w ≡ false) is out)))

    by : (b : Bool) → (w == n) ≡ b
        → (w < n → is_placed ps w ≡ false → bit_at after w ≡ bit_at before w)
        → bit_at after w ≡ bit_at before w
    by true is rest = here (eqb-true w n is)
    by false is rest =
        rest (smaller (λ equal. true≢false (sym (eq-eqb w n equal) ∙ is))) out
      where
        smaller : w ≢ n → w < n
        smaller unlike = grind arith

bits_written : (n : ℕ) (ps : List ImmediateBit) (v before after : ℕ)
    → is_written_at ps v before after ≡ true → is_kept_below n ps before after ≡ true
    → before < 2 ^ n → after < 2 ^ n → BitsWritten ps v before after
bits_written n ps v before after placed kept small small' =
    record {
      placed = written_at ps v before after placed;
      kept = λ w out. elim (lt_or_le w n) [
        | inl below ↦ kept_below n ps before after kept w below out
        | inr above ↦ bit_at_above after n w small' above ∙ sym (bit_at_above before n w small above)
      ];
    }
  where
    lt_or_le : (a b : ℕ) → (a < b) ⊎ (b ≤ a)
    lt_or_le a b = by (leb b a) refl
      where
        by : (c : Bool) → leb b a ≡ c → (a < b) ⊎ (b ≤ a)
        by true e = inr (leb-true b a e)
        by false e = inl (leb-false b a e)

abbrev bits_are_written : ℕ → List ImmediateBit → ℕ → ℕ → ℕ → Bool
bits_are_written n ps v before after =
    is_written_at ps v before after
    && (is_kept_below n ps before after && (leb (suc before) (2 ^ n) && leb (suc after) (2 ^ n)))

bits_by : (n : ℕ) (ps : List ImmediateBit) (v before after : ℕ)
    → bits_are_written n ps v before after ≡ true → BitsWritten ps v before after
bits_by n ps v before after e =
    let placed = (and_parts (is_written_at ps v before after) _ e).0 in
    let more = (and_parts (is_written_at ps v before after) _ e).1 in
    let kept = (and_parts (is_kept_below n ps before after) _ more).0 in
    let small = (and_parts (is_kept_below n ps before after) _ more).1 in
    bits_written n ps v before after placed kept
    (leb-true (suc before) (2 ^ n) (and_parts (leb (suc before) (2 ^ n)) _ small).0)
    (leb-true (suc after) (2 ^ n) (and_parts (leb (suc before) (2 ^ n)) _ small).1)

abbrev is_written_by : AnyForm → BitRange → ℤ → ℕ → List ℕ → List ℕ → Bool
is_written_by insn bits v clear before after =
    let form = relocation_form insn in
    let word = window_of form before in
    let negative = int_lt v (pos 0) in
    bits_are_written (8 * byte_len form.window) (places_cleared insn bits word) 0 word clear
    && bits_are_written (8 * byte_len form.window) (form.places clear)
    (form.number negative (number_placed insn word (bits_taken bits v))) (form.base negative clear)
    (with_bit_31_if (is_32_bit_move insn word) (window_of form after))

written_by : (insn : AnyForm) (bits : BitRange) (v : ℤ) (clear : ℕ)
    (before after : List ℕ) → is_written_by insn bits v clear before after ≡ true
    → drop (byte_len (relocation_form insn).window) after
    ≡ drop (byte_len (relocation_form insn).window) before
    → InstructionWritten insn bits v before after
written_by insn bits v clear before after e rest =
    let form = relocation_form insn in
    let word = window_of form before in
    let cleared = bits_are_written (8 * byte_len form.window) (places_cleared insn bits word) 0 word clear in
    record {
      clear = clear;
      clears = bits_by _ _ _ _ _ (and_parts cleared _ e).0;
      written = bits_by _ _ _ _ _ (and_parts cleared _ e).1;
      rest = rest;
    }

-- ---- relocations that are applied

pub relocated : {kind : RelocationKind} {start end : ℕ} {insn : AnyForm}
    {mask : Option PageMask} {range : AllowedRange} {a : ℕ} {bias : Option ℕ}
    {thunkable implicit : Bool} → (o : Operands) (before after : List ℕ) (v : ℤ) (clear : ℕ)
    → let row = row_of kind start end insn mask range a bias thunkable implicit in
    let word = window_of (relocation_form insn) before in
    let bits : BitRange = record { start = start; end = end } in
    value_of row o ≡ Some v → is_supported row ≡ true → window_len row ≤ length before
    → IsMultiple row v before → IsReached row v before
    → is_written_by (insn_at insn bits word) (bits_at insn kind bits word) (value_at insn kind v word)
    clear before after ≡ true
    → drop (byte_len (relocation_form (insn_at insn bits word)).window) after
    ≡ drop (byte_len (relocation_form (insn_at insn bits word)).window) before
    → IsApplied row o before after
relocated o before after v clear is supported long aligned reached e rest =
    record {
      value = v;
      value_is = is;
      accepted = record {
        supported = supported;
        long = long;
        aligned = aligned;
        reached = reached;
      };
      written = written_by _ _ _ clear before after e rest;
    }

abbrev is_within : Option (ℤ × ℤ) → ℤ → Bool
is_within None v = true
is_within (Some b) v = le_z b.0 v && lt_z v b.1

within_by : (b : Option (ℤ × ℤ)) (v : ℤ) → is_within b v ≡ true → IsWithin b v
within_by None v e = tt
within_by (Some b) v e =
    (le_yes b.0 v (and_parts (le_z b.0 v) _ e).0, lt_z_yes (T_from_true (lt_z v b.1) (and_parts (le_z b.0 v) _ e).1))

-- the tests that say so of a given value
abbrev pub is_accepted : RowInfo → ℤ → List ℕ → Bool
is_accepted row v bytes =
    is_supported row && (leb (window_len row) (length bytes) && is_within (reach_of row) v)

pub accepted_by : (row : RowInfo) (v : ℤ) (bytes : List ℕ) → IsMultiple row v bytes
    → is_accepted row v bytes ≡ true → HoldsBits row.size v bytes → IsEncoded row.size v
    → IsAccepted row v bytes
accepted_by row v bytes aligned e holds encoded =
    let more = (and_parts (is_supported row) _ e).1 in
    let short = leb (window_len row) (length bytes) in
    record {
      supported = (and_parts (is_supported row) _ e).0;
      long = leb-true (window_len row) (length bytes) (and_parts short _ more).0;
      aligned = aligned;
      reached = (within_by (reach_of row) v (and_parts short _ more).1, holds, encoded);
    }

-- the same by fewer steps, where the numbers are given
pub applied : {kind : RelocationKind} {start end : ℕ} {insn : AnyForm}
    {mask : Option PageMask} {range : AllowedRange} {a : ℕ} {bias : Option ℕ}
    {thunkable implicit : Bool} {o : Operands} {before after : List ℕ} (v : ℤ) (clear : ℕ)
    → let row = row_of kind start end insn mask range a bias thunkable implicit in
    let word = window_of (relocation_form insn) before in
    let bits : BitRange = record { start = start; end = end } in
    value_of row o ≡ Some v → IsMultiple row v before → is_accepted row v before ≡ true
    → HoldsBits row.size v before → IsEncoded row.size v
    → is_written_by (insn_at insn bits word) (bits_at insn kind bits word) (value_at insn kind v word)
    clear before after ≡ true
    → drop (byte_len (relocation_form (insn_at insn bits word)).window) after
    ≡ drop (byte_len (relocation_form (insn_at insn bits word)).window) before
    → IsApplied row o before after
applied {before = before} {after = after} v clear is aligned e holds encoded written rest =
    record {
      value = v;
      value_is = is;
      accepted = accepted_by _ v before aligned e holds encoded;
      written = written_by _ _ _ clear before after written rest;
    }

-- ---- bytes and addresses

abbrev pub all_small : List ℕ → Bool
all_small [] = true
all_small (b ∷ bytes) = nat_lt b 256 && all_small bytes

pub are_bytes : (bytes : List ℕ) → all_small bytes ≡ true → All (λ b. b < 2 ^ 8) bytes
are_bytes [] e = All-nil _
are_bytes (b ∷ bytes) e =
    All-cons (λ b. b < 2 ^ 8) b bytes
    (ltb-true b 256 (and_parts (nat_lt b 256) (all_small bytes) e).0)
    (are_bytes bytes (and_parts (nat_lt b 256) (all_small bytes) e).1)

pub addresses : (o : Operands) → o.symbol < 2 ^ 64 → o.place < 2 ^ 64 → o.got_entry < 2 ^ 64
    → o.got_base < 2 ^ 64 → o.plt_entry < 2 ^ 64 → o.tls_base < 2 ^ 64 → AreAddresses o
addresses o a b c d e f =
    record { symbol = a; place = b; got_entry = c; got_base = d; plt_entry = e; tls_base = f }

pub small : (o : Operands)
    → (nat_lt o.symbol (2 ^ 64) && (nat_lt o.place (2 ^ 64) && (nat_lt o.got_entry (2 ^ 64)
    && (nat_lt o.got_base (2 ^ 64) && (nat_lt o.plt_entry (2 ^ 64) && nat_lt o.tls_base (2 ^ 64)))))) ≡ true
    → AreAddresses o
small o e =
    let e2 = (and_parts (nat_lt o.symbol (2 ^ 64)) _ e).1 in
    let e3 = (and_parts (nat_lt o.place (2 ^ 64)) _ e2).1 in
    let e4 = (and_parts (nat_lt o.got_entry (2 ^ 64)) _ e3).1 in
    let e5 = (and_parts (nat_lt o.got_base (2 ^ 64)) _ e4).1 in
    record {
      symbol = below o.symbol _ e;
      place = below o.place _ e2;
      got_entry = below o.got_entry _ e3;
      got_base = below o.got_base _ e4;
      plt_entry = below o.plt_entry _ e5;
      tls_base = ltb-true o.tls_base (2 ^ 64) (and_parts (nat_lt o.plt_entry (2 ^ 64)) _ e5).1;
    }
  where
    below : (n : ℕ) (b : Bool) → (nat_lt n (2 ^ 64) && b) ≡ true → n < 2 ^ 64
    below n b e = ltb-true n (2 ^ 64) (and_parts (nat_lt n (2 ^ 64)) b e).0
