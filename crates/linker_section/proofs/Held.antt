-- What each field holds after all writes.
use Rattle.linker_section.proofs.Imports.{Addresses, Architecture, AreApart, Composes, IsField, IsValued, IsWritten, List, RowInfo, Values, WritesRow, ap, arith, begins_pair, cases_eq, cases_lt, drop, drop-take, drop_at, ends_pair, ext_get_or, false, field_bytes, field_end, field_len, get_or-drop, get_or-take, inl, inr, is_of_pair, length-drop, length-take, length-take-le, of_number, of_pair, offset_at, or_left, or_right, subst, sym, take, take-take, true, true≢false, window_len, ℕ, ℤ, ◌+◌, ◌<◌, ◌∙◌, ◌≡◌, ◌≤◌, ◌⊎◌}
use Rattle.linker_section.proofs.All.{AreUntouched, IsFirstAt, first_byte}
use Rattle.linker_section.proofs.Composing.{first_is_none, second_is_none}
use Rattle.linker_section.proofs.Fronts.{writes_front}
use Rattle.linker_section.proofs.Local.{IsLocal, one_local}
use Rattle.linker_section.proofs.Numbers.{is_word6}
use Rattle.linker_section.proofs.Sized.{is_composing, first_composes, second_composes, alike}
use Rattle.linker_section.proofs.Stepping.{len_alone, written_alone, drop_after}

-- ---- two fields

-- They have no byte in common, are one, or compose.
pub data IsMet (bytes before : List ℕ) (i : ℕ) (row : RowInfo) (j : ℕ)
    (other : RowInfo) : Type 0 where
  is_ahead : field_end bytes before i row ≤ offset_at bytes j → IsMet bytes before i row j other
  is_after : field_end bytes before j other ≤ offset_at bytes i → IsMet bytes before i row j other
  is_same : i ≡ j → IsMet bytes before i row j other
  is_later : i < j → Composes bytes i row j other → IsMet bytes before i row j other
  is_earlier : j < i → Composes bytes j other i row → IsMet bytes before i row j other

pub meet : (architecture : Architecture) (bytes before : List ℕ) (total i : ℕ)
    (row : RowInfo) (j : ℕ) (other : RowInfo)
    → AreApart architecture bytes before total → i < total → j < total
    → IsField architecture bytes before i row → IsField architecture bytes before j other
    → IsMet bytes before i row j other
meet architecture bytes before total i row j other apart i_below j_below is_field is_other =
    elim (cases_lt (offset_at bytes j) (field_end bytes before i row)) [
      | inr past ↦ is_ahead past
      | inl x ↦ elim (cases_lt (offset_at bytes i) (field_end bytes before j other)) [
        | inr past ↦ is_after past
        | inl y ↦ elim (cases_eq i j) [
          | inl is ↦ is_same is
          | inr isnt ↦ elim (cases_lt i j) [
            | inl less ↦ is_later less (apart i j row other less j_below is_field is_other (y, x))
            | inr most ↦
                is_earlier (omega (arith, isnt, most))
                (apart j i other row (omega (arith, isnt, most)) i_below is_other is_field (x, y))
          ]
        ]
      ]
    ]

-- ---- the bytes of a field

-- bytes that a write elsewhere leaves
kept_ahead : (o w p v : ℕ) (now after : List ℕ) → IsLocal p v now after → o + w ≤ p
    → take w (drop o after) ≡ take w (drop o now)
kept_ahead o w p v now after local ahead =
    sym (drop-take o w after)
    ∙ (ap (drop o) (sym (take-take (o + w) p after ahead) ∙ (ap (take (o + w)) local.kept ∙ take-take (o + w) p now ahead))
    ∙ drop-take o w now)

kept_after : (o w p v : ℕ) (now after : List ℕ) → IsLocal p v now after
    → (p + v ≤ o) ⊎ (v ≡ 0) → take w (drop o after) ≡ take w (drop o now)
kept_after o w p v now after local following = ap (take w) (drop_after p v o now after local following)

-- of a field of which no earlier relocation has a byte, before it is written
pub field_untouched : (architecture : Architecture) (bytes before : List ℕ) (n : ℕ)
    (row : RowInfo) (now : List ℕ) → AreUntouched architecture bytes before n now
    → IsFirstAt architecture bytes before n row
    → field_bytes bytes before n row now ≡ field_bytes bytes before n row before
field_untouched architecture bytes before n row now so_far first =
    let o = offset_at bytes n in
    let w = field_len row (drop o before) in
    let d = length-drop o before in let dn = length-drop o now in
    let t = length-take w (drop o before) in let tn = length-take w (drop o now) in
    ext_get_or 0 (take w (drop o now)) (take w (drop o before)) (omega (arith, d, dn, t, tn, so_far.0))
    (λ i below.
    let inside : i < w = omega (arith, below, tn) in
    get_or-take w (drop o now) i 0 inside
    ∙ (get_or-drop o now i 0
    ∙ (so_far.1 (o + i) (first_byte architecture bytes before n row (o + i) first (omega arith) (omega (arith, inside)))
    ∙ (sym (get_or-drop o before i 0) ∙ sym (get_or-take w (drop o before) i 0 inside)))))

-- that a row's write makes of them
pub own_write : (row : RowInfo) (v : ℤ) (o : ℕ) (now after : List ℕ)
    → IsWritten row v o now after
    → WritesRow row v (take (window_len row) (drop o now)) (take (window_len row) (drop o after))
own_write row v o now after w =
    subst (λ rest. WritesRow row v (take (window_len row) (drop o now)) (take (window_len row) rest))
    (sym (ap (drop o) w.around ∙ drop_at (take o now) w.rest o (length-take-le o now w.inside)))
    (writes_front row v (drop o now) w.rest w.written)

-- ---- one more write

-- another relocation is at the same bytes of a number
pub record IsJoined (bytes before : List ℕ) (i : ℕ) (row : RowInfo) (n : ℕ)
    (other : RowInfo) : Type 0 where
  pub offset : offset_at bytes n ≡ offset_at bytes i
  pub len : window_len other ≡ window_len row
  pub own_composes : is_composing row.kind ≡ true
  pub other_composes : is_composing other.kind ≡ true
  pub alike : is_word6 other.kind ≡ is_word6 row.kind
  pub alone : is_of_pair row ≡ false

joined_later : (bytes before : List ℕ) (i : ℕ) (row : RowInfo) (n : ℕ)
    (other : RowInfo) → is_of_pair other ≡ false → Composes bytes i row n other
    → IsJoined bytes before i row n other
joined_later bytes before i row n other alone composes =
    elim composes [
      | of_number offset window on ↦ record {
        offset = sym offset;
        len = sym window;
        own_composes = first_composes row.kind other.kind on;
        other_composes = second_composes row.kind other.kind on;
        alike = sym (alike row.kind other.kind on);
        alone = first_is_none row.kind other.kind row.size on;
      }
      | of_pair offset next begins ends ↦
          absurd (true≢false (sym (or_right (begins_pair other.size other.kind) (ends_pair other.size other.kind) ends) ∙ alone))
    ]

joined_earlier : (bytes before : List ℕ) (i : ℕ) (row : RowInfo) (n : ℕ)
    (other : RowInfo) → is_of_pair other ≡ false → Composes bytes n other i row
    → IsJoined bytes before i row n other
joined_earlier bytes before i row n other alone composes =
    elim composes [
      | of_number offset window on ↦ record {
        offset = offset;
        len = window;
        own_composes = second_composes other.kind row.kind on;
        other_composes = first_composes other.kind row.kind on;
        alike = alike other.kind row.kind on;
        alone = second_is_none other.kind row.kind row.size on;
      }
      | of_pair offset next begins ends ↦
          absurd (true≢false (sym (or_left (begins_pair other.size other.kind) (ends_pair other.size other.kind) begins) ∙ alone))
    ]

-- What a write of a relocation does to the bytes of a field: nothing, or it is the field's own, or
-- it is that of another which composes with it.
pub data IsStep (bytes before : List ℕ) (i : ℕ) (row : RowInfo) (n : ℕ)
    (other : RowInfo) (v : ℤ) (now after : List ℕ) : Type 0 where
  is_kept : field_bytes bytes before i row after ≡ field_bytes bytes before i row now
      → (0 < field_len other (drop (offset_at bytes n) before) → offset_at bytes n ≡ offset_at bytes i → ⊥)
      → IsStep bytes before i row n other v now after
  is_own : i ≡ n
      → WritesRow other v (field_bytes bytes before n other now) (field_bytes bytes before n other after)
      → 0 < field_len other (drop (offset_at bytes n) before)
      → IsStep bytes before i row n other v now after
  is_joined : IsJoined bytes before i row n other
      → WritesRow other v (field_bytes bytes before n other now) (field_bytes bytes before n other after)
      → 0 < field_len other (drop (offset_at bytes n) before)
      → IsStep bytes before i row n other v now after

pub step : (architecture : Architecture) (addresses : Addresses) (bytes : List ℕ)
    (values : Values) (before : List ℕ) (total i : ℕ) (row : RowInfo) (n : ℕ)
    (other : RowInfo) (v : ℤ) (now after : List ℕ)
    → AreApart architecture bytes before total → i < total → n < total
    → IsField architecture bytes before i row
    → IsValued architecture addresses bytes values n other v
    → IsWritten other v (offset_at bytes n) now after
    → IsStep bytes before i row n other v now after
step architecture addresses bytes values before total i row n other v now after apart i_below n_below is_field has written =
    let o = offset_at bytes i in
    let w = field_len row (drop o before) in
    let p = offset_at bytes n in
    let alone = written_alone other v p now after written in
    let len : field_len other (drop p before) ≡ window_len other = len_alone other (drop p before) has.valued alone in
    let local = one_local other v p now after written in
    let writes : WritesRow other v (field_bytes bytes before n other now) (field_bytes bytes before n other after) =
    subst (λ k. WritesRow other v (take k (drop p now)) (take k (drop p after))) (sym len) (own_write other v p now after written) in
    elim (cases_eq (window_len other) 0) [
      | inl empty ↦
          is_kept (kept_after o w p (window_len other) now after local (inr empty)) (λ is. absurd (omega (arith, is, len, empty)))
      | inr wide ↦
          let is_other : IsField architecture bytes before n other = record { is_row = has.is_row; some = omega (arith, wide, len) } in
          elim (meet architecture bytes before total i row n other apart i_below n_below is_field is_other) [
            | is_ahead x ↦ is_kept (kept_ahead o w p (window_len other) now after local x) (λ _ at. omega (arith, x, at, is_field.some))
            | is_after x ↦
                is_kept (kept_after o w p (window_len other) now after local (inl (omega (arith, x, len))))
                (λ is at. omega (arith, x, at, is))
            | is_same is ↦ is_own is writes (omega (arith, wide, len))
            | is_later less composes ↦ is_joined (joined_later bytes before i row n other alone composes) writes (omega (arith, wide, len))
            | is_earlier less composes ↦ is_joined (joined_earlier bytes before i row n other alone composes) writes (omega (arith, wide, len))
          ]
    ]

-- a pair elsewhere
pub pair_kept : (bytes before : List ℕ) (i : ℕ) (row : RowInfo) (n : ℕ)
    (other : RowInfo) (now after : List ℕ)
    → IsLocal (offset_at bytes n) (field_len other (drop (offset_at bytes n) before)) now after
    → (field_end bytes before i row ≤ offset_at bytes n) ⊎ (field_end bytes before n other ≤ offset_at bytes i)
    → field_bytes bytes before i row after ≡ field_bytes bytes before i row now
pair_kept bytes before i row n other now after local far =
    let o = offset_at bytes i in
    let w = field_len row (drop o before) in
    let p = offset_at bytes n in
    elim far [
      | inl x ↦ kept_ahead o w p _ now after local x
      | inr x ↦ kept_after o w p _ now after local (inl x)
    ]
