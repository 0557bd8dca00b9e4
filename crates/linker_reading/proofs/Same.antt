-- Windows that differ in a field only, by its mask and by its row.
use Rattle.linker_reading.proofs.Imports.{AreSameBut, AreSameButFor, Bool, FieldBits, IsSameBut, List, RowInfo, [], ap, arith, bit_at, bit_at-zero, cases_lt, drop, false, is_field_bit, is_in, is_in_one, is_in_row, is_size_bit, kept_index, le-ltb, length, lt-ltb, nat_le, nat_lt, refl, slice_index, sym, true, window_len, ℕ, ⊎_elim, ◌&&◌, ◌*◌, ◌+◌, ◌-◌, ◌<◌, ◌==◌, ◌||◌, ◌↔◌, ◌∙◌, ◌≡◌, ◌≤◌}
use Rattle.linker_reading.proofs.X86WrittenChoices.{no_gap}

-- a mask has a row's bits, of bytes that begin with its window
abbrev pub HasBitsOf : RowInfo → List ℕ → ℕ → Type 0
HasBitsOf row bytes mask = (w : ℕ) → w < 64 → (bit_at mask w == 1) ≡ is_field_bit row bytes w

first_false : (a : Bool) {b : Bool} → b ≡ false → (a && b) ≡ false
first_false true e = e
first_false false e = refl

zero_has_none : (w : ℕ) → (bit_at 0 w == 1) ≡ false
zero_has_none w = ap (λ n. n == 1) (bit_at-zero w)

-- a test that holds below 64 only
below_64 : (mask : ℕ) (row : RowInfo) (bytes : List ℕ) → HasBitsOf row bytes mask → (w : ℕ)
    → (nat_lt w 64 && (bit_at mask w == 1)) ≡ is_field_bit row bytes w
below_64 mask row bytes has w =
    ⊎_elim
    (λ h. ap (λ b. b && (bit_at mask w == 1)) (lt-ltb w 64 h) ∙ has w h)
    (λ h. ap (λ b. b && (bit_at mask w == 1)) (le-ltb w 64 h) ∙ ap (λ b. b && is_size_bit row.size row.kind bytes w) (sym (le-ltb w 64 h)))
    (cases_lt w 64)

pub in_row : (field : FieldBits) (row : RowInfo) (bytes : List ℕ) (at : ℕ) → field.offset ≡ at → HasBitsOf row (drop at bytes) field.bits
    → (i j : ℕ) → is_in field i j ≡ is_in_row row at bytes i j
in_row field row bytes at e has i j =
    ap (λ n. nat_le n i && (nat_lt (8 * (i - n) + j) 64 && (bit_at field.bits (8 * (i - n) + j) == 1))) e
    ∙ ap (λ b. nat_le at i && b) (below_64 field.bits row (drop at bytes) has (8 * (i - at) + j))

-- no bits are those of no row
pub in_none : (offset : ℕ) (i j : ℕ) → is_in (record { offset = offset; bits = 0 }) i j ≡ false
in_none offset i j = first_false (nat_le offset i) (first_false (nat_lt (8 * (i - offset) + j) 64) (zero_has_none (8 * (i - offset) + j)))

-- the same by another test with the same answers
pub same_by : (P Q : ℕ → ℕ → Bool) (others : List FieldBits) (start count : ℕ) (a b : List ℕ)
    → ((i j : ℕ) → P i j ≡ Q i j) → AreSameBut P others start count a b → AreSameBut Q others start count a b
same_by P Q others start count a b e same i h j k ignored =
    same i h j k (ap (λ t. t || is_in_one others (kept_index start count i) j) (e (kept_index start count i) j) ∙ ignored)

or_false : (b : Bool) → (b || false) ≡ b
or_false true = refl
or_false false = refl

none_else : (Q : ℕ → ℕ → Bool) (i j : ℕ) → (Q (kept_index 0 0 i) j || is_in_one [] (kept_index 0 0 i) j) ≡ Q i j
none_else Q i j = or_false (Q (kept_index 0 0 i) j) ∙ ap (λ n. Q n j) (no_gap i)

whole : (Q : ℕ → ℕ → Bool) (a b : List ℕ) → AreSameBut Q [] 0 0 a b
    → (i : ℕ) → i < length b → IsSameBut (Q i) (slice_index a i) (slice_index b i)
whole Q a b same i h j k ignored =
    ap (λ n. bit_at (slice_index a n) j) (sym (no_gap i)) ∙ same i h j k (none_else Q i j ∙ ignored)

of_whole : (Q : ℕ → ℕ → Bool) (a b : List ℕ)
    → ((i : ℕ) → i < length b → IsSameBut (Q i) (slice_index a i) (slice_index b i)) → AreSameBut Q [] 0 0 a b
of_whole Q a b same i h j k ignored =
    ap (λ n. bit_at (slice_index a n) j) (no_gap i) ∙ same i h j k (sym (none_else Q i j) ∙ ignored)

pub same_but_row : (row : RowInfo) (a b : List ℕ) (field : FieldBits) → length a ≡ length b → window_len row ≤ length a
    → field.offset ≡ 0 → HasBitsOf row a field.bits → AreSameBut (is_in field) [] 0 0 a b ↔ AreSameButFor row a b
same_but_row row a b field lengths room at has =
    let tests : (i j : ℕ) → is_in field i j ≡ is_in_row row 0 a i j = in_row field row a 0 at has in (
      (λ same. record {
        lengths = lengths;
        room = room;
        same = λ i h. whole (is_in_row row 0 a) a b (same_by (is_in field) (is_in_row row 0 a) [] 0 0 a b tests same) i (omega arith);
      }),
      (λ same. same_by (is_in_row row 0 a) (is_in field) [] 0 0 a b (λ i j. sym (tests i j)) (of_whole (is_in_row row 0 a) a b (λ i h. same.same i (omega arith)))),
    )
