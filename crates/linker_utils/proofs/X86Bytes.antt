-- What the rewrites of x86-64 leave in prefix and ModRM bytes.
use Rattle.linker_utils.proofs.Imports.{KeepsRegister, List, Some, [], and_pow, ap, append_assoc, arith, bit_and, bit_at, bit_at-lt, bit_at_and, bit_at_or, bit_or, drop, drop_at, eq-eqb, evex_high, evex_reg_to_rm, field, get_or, get_or-drop, get_or-take, length, length-take, min, modrm_reg_to_rm, ne_eqb, refl, rewritten, rex_mov, rex_r_to_b, sym, take, ℕ, ◌*◌, ◌++◌, ◌+◌, ◌-◌, ◌/◌, ◌∙◌, ◌∷◌, ◌≡◌, ◌≤◌}

-- ---- the EVEX byte, by the code's tests

pub high_then : (b h : ℕ) → bit_and b 128 ≡ 0 → h ≡ bit_and (bit_or b 128) 223 → h ≡ evex_high b
high_then b h z e = let clear : bit_at b 7 ≡ 0 = omega (arith, and_pow b 7) in rw (eq-eqb (bit_at b 7) 0 clear) e

pub high_else : (b h : ℕ) → (bit_and b 128 ≡ 0 → ⊥) → h ≡ b → h ≡ evex_high b
high_else b h z e = rw (ne_eqb (bit_at b 7) 0 (λ clear. z (and_pow b 7 ∙ ap (λ n. n * 128) clear))) e

pub low_then : (b h : ℕ) → bit_and b 16 ≡ 0 → h ≡ evex_high b → bit_or h 24 ≡ evex_reg_to_rm b
low_then b h z e = let clear : bit_at b 4 ≡ 0 = omega (arith, and_pow b 4) in ap (λ x. bit_or x 24) e ∙ rw (eq-eqb (bit_at b 4) 0 clear) refl

pub low_else : (b h : ℕ) → (bit_and b 16 ≡ 0 → ⊥) → h ≡ evex_high b → h ≡ evex_reg_to_rm b
low_else b h z e = e ∙ rw (ne_eqb (bit_at b 4) 0 (λ clear. z (and_pow b 4 ∙ ap (λ n. n * 16) clear))) refl

-- ---- the register of a `mov`

rex_moves : (r : ℕ) → bit_at r 0 ≡ 0 → bit_at (rex_r_to_b r) 0 ≡ bit_at r 2
rex_moves r clear =
    let moved : bit_and r 4 / 4 ≡ bit_at r 2 = ap (λ n. n / 4) (and_pow r 2) ∙ omega arith in
    let kept : bit_at (bit_and r 251) 0 ≡ 0 = bit_at_and r 251 0 ∙ ap (λ n. min n (bit_at 251 0)) clear in
    let last : bit_at (bit_at r 2) 0 ≡ bit_at r 2 = omega (arith, bit_at-lt r 2) in
    ap (λ n. bit_at (bit_or (bit_and r 251) n) 0) moved ∙ bit_at_or (bit_and r 251) (bit_at r 2) 0 ∙ omega (arith, kept, last)

modrm_moves : (m : ℕ) → field (modrm_reg_to_rm 192 m) 0 3 ≡ field m 3 6
modrm_moves m = omega arith

pub keeps_register : (s after : List ℕ) (o : ℕ) → 3 ≤ o → o - 3 + 3 ≤ length s → after ≡ rewritten (Some (rex_mov 3)) s o → KeepsRegister s after o
keeps_register s after o low inside made clear =
    let window = take 3 (drop (o - 3) s) in
    let bytes = rex_r_to_b (get_or window 0 0) ∷ 199 ∷ modrm_reg_to_rm 192 (get_or window 2 0) ∷ [] in
    let rest = drop (o - 3 + 3) s in
    let front : length (take (o - 3) s) ≡ o - 3 = length-take (o - 3) s ∙ omega arith in
    let there : drop (o - 3) after ≡ bytes ++ rest =
    ap (drop (o - 3)) (made ∙ append_assoc (take (o - 3) s) bytes rest) ∙ drop_at (take (o - 3) s) (bytes ++ rest) (o - 3) front in
    let prefix_byte : get_or after (o - 3) 0 ≡ rex_r_to_b (get_or window 0 0) =
    ap (λ k. get_or after k 0) (omega arith) ∙ sym (get_or-drop (o - 3) after 0 0) ∙ ap (λ xs. get_or xs 0 0) there in
    let modrm_byte : get_or after (o - 1) 0 ≡ modrm_reg_to_rm 192 (get_or window 2 0) =
    ap (λ k. get_or after k 0) (let e : o - 1 ≡ o - 3 + 2 = omega arith in e) ∙ sym (get_or-drop (o - 3) after 2 0) ∙ ap (λ xs. get_or xs 2 0) there in
    let old_prefix : get_or window 0 0 ≡ get_or s (o - 3) 0 =
    get_or-take 3 (drop (o - 3) s) 0 0 (omega arith) ∙ get_or-drop (o - 3) s 0 0 ∙ ap (λ k. get_or s k 0) (omega arith) in
    let old_modrm : get_or window 2 0 ≡ get_or s (o - 1) 0 =
    get_or-take 3 (drop (o - 3) s) 2 0 (omega arith) ∙ get_or-drop (o - 3) s 2 0 ∙ ap (λ k. get_or s k 0) (let e : o - 3 + 2 ≡ o - 1 = omega arith in e) in
    record {
      extension = ap (λ n. bit_at n 0) (prefix_byte ∙ ap rex_r_to_b old_prefix) ∙ rex_moves (get_or s (o - 3) 0) clear;
      register = ap (λ n. field n 0 3) (modrm_byte ∙ ap (modrm_reg_to_rm 192) old_modrm) ∙ modrm_moves (get_or s (o - 1) 0);
    }
