-- The bytes of an instruction, as a loop over them compares.
use Rattle.linker_utils.proofs.Imports.{Bool, List, [], add-one, and_mask, and_parts, ap, arith, begins, bit_and, drop, eq-eqb, eqb, eqb-true, false, field4, get_or, get_or-drop, is_at, is_one_at, le-leb, leb, leb-true, legacy, length, length-drop, lt-leb, ne_eqb, original, refl, rex, rip, slice_index, subst, sym, true, true≢false, with_rex, ℕ, ◌%◌, ◌&&◌, ◌+◌, ◌-◌, ◌<◌, ◌^◌, ◌||◌, ◌∙◌, ◌∷◌, ◌≡◌, ◌≤◌}
use Rattle.std.proofs.Math.Bool.{and-false}
use Rattle.std.proofs.Math.Seq.{drop-cons}
use Rattle.std.proofs.Math.ListN.{drop_of_length-le}

-- bytes that are too few
begins_short : (ps : List (ℕ × ℕ)) (bs : List ℕ) → length bs < length ps → begins ps bs ≡ false
begins_short [] bs h = absurd (omega arith)
begins_short (p ∷ ps) [] h = refl
begins_short (p ∷ ps) (b ∷ bs) h = ap (λ t. eqb (bit_and b p.0) p.1 && t) (begins_short ps bs (omega arith)) ∙ and-false _

-- a byte that is as its mask and value say leaves those after it to compare
begins_cons : (ps : List (ℕ × ℕ)) (bs : List ℕ) (i at : ℕ) (d : ℕ × ℕ) → i < length ps → at < length bs → bit_and (get_or bs at 0) (get_or ps i d).0 ≡ (get_or ps i d).1 → begins (drop i ps) (drop at bs) ≡ begins (drop (i + 1) ps) (drop (at + 1) bs)
begins_cons ps bs i at d inside there same =
    rw (drop-cons ps i d, drop-cons bs at 0, add-one, add-one, eq-eqb _ _ same) refl

-- and one that isn't settles it
begins_not : (ps : List (ℕ × ℕ)) (bs : List ℕ) (i at : ℕ) (d : ℕ × ℕ) → i < length ps → at < length bs → (bit_and (get_or bs at 0) (get_or ps i d).0 ≡ (get_or ps i d).1 → ⊥) → begins (drop i ps) (drop at bs) ≡ false
begins_not ps bs i at d inside there other =
    rw (drop-cons ps i d, drop-cons bs at 0, ne_eqb _ _ other) refl

-- what is left to compare, by the loop's index
pub after_byte : (ps : List (ℕ × ℕ)) (bs : List ℕ) (i : ℕ) (d : ℕ × ℕ) → i < length ps → length ps ≤ length bs → bit_and (get_or bs i 0) (get_or ps i d).0 ≡ (get_or ps i d).1 → begins (drop i ps) (drop i bs) ≡ begins (drop (i + 1) ps) (drop (i + 1) bs)
after_byte ps bs i d inside room same = begins_cons ps bs i i d inside (omega arith) same

pub not_there : (ps : List (ℕ × ℕ)) (bs : List ℕ) (i : ℕ) (d : ℕ × ℕ) → i < length ps → length ps ≤ length bs → begins ps bs ≡ begins (drop i ps) (drop i bs) → (bit_and (get_or bs i 0) (get_or ps i d).0 ≡ (get_or ps i d).1 → ⊥) → false ≡ begins ps bs
not_there ps bs i d inside room so_far other = sym (so_far ∙ begins_not ps bs i i d inside (omega arith) other)

pub all_there : (ps : List (ℕ × ℕ)) (bs : List ℕ) (i : ℕ) → i ≡ length ps → begins ps bs ≡ begins (drop i ps) (drop i bs) → true ≡ begins ps bs
all_there ps bs i end so_far = sym (so_far ∙ rw (drop_of_length-le ps (let e : length ps ≤ i = omega arith in e)) refl)

pub too_few : (ps : List (ℕ × ℕ)) (bs : List ℕ) → length bs < length ps → false ≡ begins ps bs
too_few ps bs few = sym (begins_short ps bs few)

-- in the section, and outside
pub inside : (ps : List (ℕ × ℕ)) (bs : List ℕ) (back o : ℕ) → back ≤ o → begins ps (drop (o - back) bs) ≡ is_at (original back ps) bs o
inside ps bs back o low = sym (rw (le-leb back o low) refl)

pub too_short : (ps : List (ℕ × ℕ)) (bs : List ℕ) (back o : ℕ) → 0 < length ps → length bs < o - back → false ≡ is_at (original back ps) bs o
too_short ps bs back o some short = sym (ap (λ t. leb back o && t) (begins_short ps (drop (o - back) bs) (omega (arith, length-drop (o - back) bs))) ∙ and-false _)

pub too_low : (ps : List (ℕ × ℕ)) (bs : List ℕ) (back o : ℕ) → o < back → false ≡ is_at (original back ps) bs o
too_low ps bs back o low = sym (rw (lt-leb back o low) refl)

-- ---- the opcode of what is there

alone : (a : Bool) → (a || false) ≡ true → a ≡ true
alone true h = refl
alone false h = absurd (true≢false (sym h))

second_byte : (p q : ℕ × ℕ) (ps : List (ℕ × ℕ)) (bs : List ℕ) → begins (p ∷ q ∷ ps) bs ≡ true → bit_and (get_or bs 1 0) q.0 ≡ q.1
second_byte p q ps [] h = absurd (true≢false (sym h))
second_byte p q ps (a ∷ []) h = absurd (true≢false (sym (and_parts (eqb (bit_and a p.0) p.1) false h).1))
second_byte p q ps (a ∷ b ∷ bs) h =
    eqb-true (bit_and b q.0) q.1
    (and_parts (eqb (bit_and b q.0) q.1) (begins ps bs) (and_parts (eqb (bit_and a p.0) p.1) (begins (q ∷ ps) (b ∷ bs)) h).1).0

low_byte : (b opcode : ℕ) → b < 256 → bit_and b 0xff ≡ opcode → opcode ≡ b
low_byte b opcode small is =
    let m : bit_and b 0xff ≡ b % 2 ^ 8 = and_mask b 8 in
    omega (arith, m, is, small)

-- that of an instruction with REX is two bytes before the field
pub opcode_is : (s : List ℕ) (o opcode : ℕ) → ((i : ℕ) → get_or s i 0 < 256) → is_one_at (legacy 3 opcode) s o ≡ true → opcode ≡ slice_index s (o - 2)
opcode_is s o opcode small is =
    let there = and_parts (leb 3 o) (begins (with_rex rex opcode).bytes (drop (o - 3) s)) (alone (is_at (with_rex rex opcode) s o) is) in
    let low : 3 ≤ o = leb-true 3 o there.0 in
    let second : bit_and (get_or (drop (o - 3) s) 1 0) 0xff ≡ opcode = second_byte rex (0xff, opcode) (rip ∷ field4) (drop (o - 3) s) there.1 in
    let at : o - 3 + 1 ≡ o - 2 = omega (arith, low) in
    let same : get_or (drop (o - 3) s) 1 0 ≡ get_or s (o - 2) 0 = get_or-drop (o - 3) s 1 0 ∙ ap (λ i. get_or s i 0) at in
    low_byte (get_or s (o - 2) 0) opcode (small (o - 2)) (subst (λ b. bit_and b 0xff ≡ opcode) same second)
