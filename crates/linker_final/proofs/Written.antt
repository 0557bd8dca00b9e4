-- What the bytes are once a section's values are written, by its relocations and its phases.
use Rattle.linker_final.proofs.Imports.{Addresses, All, All-get_or, All-head, All-tail, All-weaker, AnyForm, Architecture, AreApart, AreBytes, ArePhases, AreRewritten, AreWritten, BitMasking, BitRange, Bool, ByteSize, Choice, Composes, Decision, ElfName, Entry, Err, Found, HoldsNumber, HoldsValue, IsAccepted, IsApplied, IsDone, IsField, IsHeld, IsHighPartAt, IsLinked, IsLowValue, IsMade, IsNamed, IsNamedValue, IsOutside, IsRewrittenByNoOther, IsRow, IsSomeAnd, IsValueBy, IsValueIn, IsWithin, IsWrittenByNoOther, Keeps, Linked, List, NoEntry, NoHighPart, NoTlsBase, None, Ok, Operands, Option, OtherBytes, OtherFields, Rela, Relaxation, RelocationKind, Result, Rewrite, RewritesNone, RewritingPhase, Rewritten, RowInfo, RowSize, Some, Symbol, UType, UntouchedBytes, UntouchedBytesAreTheSame, UntouchedInPhase, ValueError, WritesRow, [], addend_after, and_parts, ap, arith, begins_pair, byte_at, bytes_row, cases_Bool, cases_eq, cases_lt, cast_unsigned, composed, composed_by, composed_with, cond, cond-false, continues, count, count_of, decision_at, difference_64, drop, drop-drop, drop-take, ends_pair, entry_address, entry_of, eq-eqb, eqb, eqb-true, ext_get_or, false, field_bytes, field_end, field_len, from_le_bytes, get_or, get_or-drop, get_or-take, get_or_past, has_value, inl, inr, instruction_at, int_rem_euclid, is_auipc, is_high_kind, is_high_part, is_of_pair, is_there, lacks_origin, le-ltb, length, length-append, length-drop, length-take, length-take-le, low_by, low_bytes, low_operands, low_value, lt-ltb, ltb, ltb-true, names_label, number_of_bytes, number_written, of_number, of_pair, offset_after, offset_at, one_info, one_row, operands_by, operands_in, operands_of, operands_with, or_from, pos, r_type_of, reach_of, refl, relaxation_rewrite, relocation_after, relocation_at, relocation_in, rewrite_window, rewritten, size_len, slice_get, slice_index, some_window, subst, suc, sym, take, take-take, true, two_at, unsigned_abs, value_by, value_of, w32, w64, window_len, window_of, window_of_rewrite, word_of_front, written_end_at, written_end_by, zero, ℕ, ℤ, ⊤, ◌%◌, ◌*◌, ◌++◌, ◌+◌, ◌-◌, ◌/◌, ◌<◌, ◌^◌, ◌||◌, ◌∙◌, ◌∷◌, ◌≡◌, ◌≤◌, ◌⊎◌}
use Rattle.linker_section.specs.Sections.{IsRowValue, HasValue, IsInNoField}
use Rattle.linker_final.specs.X86Section.{put_back}
use Rattle.linker_elf.specs.declared.elf.AnyForm.TheVariants.{RiscV}
use Rattle.linker_elf.specs.declared.elf.RelocationKind.TheVariants.{None as NoValue}
use Rattle.linker_section.proofs.Windows.{IsReplaced, in_window, outside_window}
use Rattle.linker_elf.specs.declared.elf.RelocationKind.TheVariants as kinds

-- ---- bytes in which a window is another's

-- a byte of n from a start on
pub window_byte : (start len at : ℕ) (bytes : List ℕ) → start ≤ at → at < start + len
    → get_or (take len (drop start bytes)) (at - start) 0 ≡ get_or bytes at 0
window_byte start len at bytes from below =
    let e : start + (at - start) ≡ at = omega (arith, from) in
    cc (get_or-take len (drop start bytes) (at - start) 0 (omega (arith, from, below)), get_or-drop start bytes (at - start) 0)

pub replaced_byte : {start len : ℕ} {bytes before after : List ℕ}
    → IsReplaced start len bytes before after → (at : ℕ) → start ≤ at → at < start + len
    → get_or after at 0 ≡ get_or bytes (at - start) 0
replaced_byte {start} {len} {bytes} {before} {after} r at from below =
    sym (window_byte start len at after from below) ∙ ap (λ xs. get_or xs (at - start) 0) (in_window r)

pub window_length : (start len : ℕ) (bytes : List ℕ) → start + len ≤ length bytes
    → length (take len (drop start bytes)) ≡ len
window_length start len bytes inside =
    length-take-le len (drop start bytes) (let d = length-drop start bytes in omega (arith, d, inside))

-- n other bytes in a window
pub replaced : (start len : ℕ) (bytes before : List ℕ) → start + len ≤ length before → length bytes ≡ len
    → IsReplaced start len bytes before (take start before ++ bytes ++ drop (start + len) before)
replaced start len bytes before inside long =
    let a = length-append (take start before ++ bytes) (drop (start + len) before) in
    let c = length-take-le start before (omega (arith, inside)) in
    let d = length-drop (start + len) before in
    record { inside = inside; same_len = omega (arith, a, length-append (take start before) bytes, c, d, long, inside); made = refl }

pub put_back_is : (start len : ℕ) (others bytes : List ℕ) → start + len ≤ length bytes
    → length others ≡ length bytes
    → IsReplaced start len (take len (drop start others)) bytes (put_back start len others bytes)
put_back_is start len others bytes inside same =
    replaced start len (take len (drop start others)) bytes inside
    (window_length start len others (omega (arith, inside, same)))

-- each byte of them
pub back_inside : (start len : ℕ) (others bytes : List ℕ) → start + len ≤ length bytes
    → length others ≡ length bytes → (at : ℕ) → start ≤ at → at < start + len
    → get_or (put_back start len others bytes) at 0 ≡ get_or others at 0
back_inside start len others bytes inside same at from below =
    cc (replaced_byte (put_back_is start len others bytes inside same) at from below, window_byte start len at others from below)

pub back_outside : (start len : ℕ) (others bytes : List ℕ) → start + len ≤ length bytes
    → length others ≡ length bytes → (at : ℕ) → (at < start) ⊎ (start + len ≤ at)
    → get_or (put_back start len others bytes) at 0 ≡ get_or bytes at 0
back_outside start len others bytes inside same at outside =
    outside_window (put_back_is start len others bytes inside same) at outside

-- two windows are the same if each byte is
pub windows : (a b len : ℕ) (xs ys : List ℕ) → length (take len (drop a xs)) ≡ length (take len (drop b ys))
    → ((k : ℕ) → k < len → get_or xs (a + k) 0 ≡ get_or ys (b + k) 0) → take len (drop a xs) ≡ take len (drop b ys)
windows a b len xs ys long each =
    cc (ext_get_or 0 (take len (drop a xs)) (take len (drop b ys)) long (λ k below. let within : k < len = omega (arith, below, length-take len (drop a xs)) in get_or-take len (drop a xs) k 0 within ∙ (get_or-drop a xs k 0 ∙ (each k within ∙ (sym (get_or-drop b ys k 0) ∙ sym (get_or-take len (drop b ys) k 0 within))))))

pub same_windows : (start len : ℕ) (xs ys : List ℕ) → length ys ≡ length xs
    → ((at : ℕ) → start ≤ at → at < start + len → get_or xs at 0 ≡ get_or ys at 0)
    → take len (drop start xs) ≡ take len (drop start ys)
same_windows start len xs ys same each =
    let dx = length-drop start xs in
    let dy = length-drop start ys in
    windows start start len xs ys (omega (arith, length-take len (drop start xs), length-take len (drop start ys), dx, dy, same))
    (λ k within. each (start + k) (omega arith) (omega (arith, within)))

-- ---- a rewrite of a window in bytes that were put back

module _ (start len : ℕ) (r : Rewrite) (o : ℕ) (section middle final : List ℕ)
    (inside : start + len ≤ length final) (section_length : length section ≡ length final)
    (middle_length : length middle ≡ length final)
    (first : start ≤ o - r.back) (last : o - r.back + r.len ≤ start + len)
    (made : rewrite_window r middle o ≡ r.bytes (rewrite_window r section o))
    (left : (at : ℕ) → start ≤ at → at < start + len
    → (at < o - r.back) ⊎ (o - r.back + r.len ≤ at) → get_or middle at 0 ≡ get_or section at 0) where
  -- the window is that of the object's bytes
  pub back_window : rewrite_window r (put_back start len section final) o ≡ rewrite_window r section o
  back_window =
      let s = put_back_is start len section final inside section_length in
      same_windows (o - r.back) r.len (put_back start len section final) section (let l = s.same_len in omega (arith, l, section_length))
      (λ at from below. back_inside start len section final inside section_length at
      (omega (arith, first, from)) (omega (arith, last, below)))

  -- the rewrite makes of them the bytes that it made in the section
  pub back_rewritten : rewritten (Some r) (put_back start len section final) o
      ≡ put_back start len middle final
  back_rewritten =
      let a = o - r.back in
      let before = put_back start len section final in
      let bytes = r.bytes (rewrite_window r before o) in
      let bytes_are : bytes ≡ rewrite_window r middle o = ap r.bytes back_window ∙ sym made in
      let long : length bytes ≡ r.len =
      ap length bytes_are ∙ window_length a r.len middle (omega (arith, middle_length, inside, last)) in
      let ls = (put_back_is start len section final inside section_length).same_len in
      let x = replaced a r.len bytes before (omega (arith, ls, inside, last)) long in
      ext_get_or 0 (rewritten (Some r) before o) (put_back start len middle final)
      (omega (arith, x.same_len, ls, (put_back_is start len middle final inside middle_length).same_len))
      (λ at below. elim (cases_lt at a) [
        | inl ahead ↦ outside_window x at (inl ahead) ∙ unchanged at (inl ahead)
        | inr from ↦ elim (cases_lt at (a + r.len)) [
          | inl within ↦
              replaced_byte x at from within
              ∙ (ap (λ xs. get_or xs (at - a) 0) bytes_are
              ∙ (window_byte a r.len at middle from within
              ∙ sym (back_inside start len middle final inside middle_length at
              (omega (arith, first, from)) (omega (arith, last, within)))))
          | inr following ↦ outside_window x at (inr following) ∙ unchanged at (inr following)
        ]
      ])
    where
      unchanged : (at : ℕ) → (at < o - r.back) ⊎ (o - r.back + r.len ≤ at)
          → get_or (put_back start len section final) at 0 ≡ get_or (put_back start len middle final) at 0
      unchanged at outside =
          elim (cases_lt at start) [
            | inl below ↦
                back_outside start len section final inside section_length at (inl below)
                ∙ sym (back_outside start len middle final inside middle_length at (inl below))
            | inr from ↦ elim (cases_lt at (start + len)) [
              | inl within ↦
                  back_inside start len section final inside section_length at from within
                  ∙ (sym (left at from within outside)
                  ∙ sym (back_inside start len middle final inside middle_length at from within))
              | inr above ↦
                  back_outside start len section final inside section_length at (inr above)
                  ∙ sym (back_outside start len middle final inside middle_length at (inr above))
            ]
          ]

-- ---- phases

pub phases_as_many : (phases : List RewritingPhase) (relocations section relocations_last last : List ℕ)
    → ArePhases phases relocations section relocations_last last
    → length relocations_last ≡ length relocations
phases_as_many [] relocations section relocations_last last is = ap length (is.0)
phases_as_many (p ∷ phases) relocations section relocations_last last is =
    phases_as_many phases p.relocations_after p.rewritten relocations_last last (is.2)
    ∙ ((is.1).as_many ∙ ap length (is.0).same_relocations)

pub phases_same_length : (phases : List RewritingPhase) (relocations section relocations_last last : List ℕ)
    → ArePhases phases relocations section relocations_last last → length last ≡ length section
phases_same_length [] relocations section relocations_last last is = ap length (is.1)
phases_same_length (p ∷ phases) relocations section relocations_last last is =
    phases_same_length phases p.relocations_after p.rewritten relocations_last last (is.2)
    ∙ ((is.1).same_length ∙ ap length (is.0).same_section)

-- a relocation that is kept in each
pub phases_keep : (phases : List RewritingPhase) (relocations section relocations_last last : List ℕ)
    → ArePhases phases relocations section relocations_last last
    → (i : ℕ) → i < length relocations / 24 → All (Keeps i) phases
    → relocation_in relocations_last i ≡ relocation_in relocations i
phases_keep [] relocations section relocations_last last is i below kept =
    ap (λ bytes. relocation_in bytes i) (is.0)
phases_keep (p ∷ phases) relocations section relocations_last last is i below kept =
    let rewritten = is.1 in
    let taken = (is.0).same_relocations in
    let within : i < count_of p = subst (λ bytes. i < length bytes / 24) (sym taken) below in
    let following : i < length p.relocations_after / 24 = subst (λ n. i < n / 24) (sym rewritten.as_many) within in
    let here : relocation_in p.relocations_after i ≡ relocation_in p.relocations i =
    rewritten.relocations i within
    ∙ ap (λ d. relocation_after d (relocation_in p.relocations i)) (All-head (Keeps i) p phases kept) in
    phases_keep phases p.relocations_after p.rewritten relocations_last last (is.2) i following (All-tail (Keeps i) p phases kept)
    ∙ (here ∙ ap (λ bytes. relocation_in bytes i) taken)

-- a byte that no rewrite of any has
pub phases_spare : (phases : List RewritingPhase) (relocations section relocations_last last : List ℕ)
    → ArePhases phases relocations section relocations_last last
    → (at : ℕ) → All (RewritesNone at) phases → get_or last at 0 ≡ get_or section at 0
phases_spare [] relocations section relocations_last last is at none = ap (λ bytes. get_or bytes at 0) (is.1)
phases_spare (p ∷ phases) relocations section relocations_last last is at none =
    phases_spare phases p.relocations_after p.rewritten relocations_last last (is.2) at (All-tail (RewritesNone at) p phases none)
    ∙ ((is.1).others at (All-head (RewritesNone at) p phases none)
    ∙ ap (λ bytes. get_or bytes at 0) (is.0).same_section)

-- what all leave alone
module _ (phases : List RewritingPhase) (i start len : ℕ) (alone : All (UntouchedInPhase i start len) phases) where
  pub all_keep : All (Keeps i) phases
  all_keep = All-weaker (UntouchedInPhase i start len) (Keeps i) (λ p leaves. leaves.kept) phases alone

  pub none_rewrites : (at : ℕ) → start ≤ at → at < start + len → All (RewritesNone at) phases
  none_rewrites at from less =
      All-weaker (UntouchedInPhase i start len) (RewritesNone at) (λ p leaves. leaves.apart at from less) phases alone

pub left_alone_is_the_same : UntouchedBytesAreTheSame
left_alone_is_the_same phases relocations section relocations_last last are i start len below alone = (
  phases_keep phases relocations section relocations_last last are i below (all_keep phases i start len alone),
  same_windows start len last section (sym (phases_same_length phases relocations section relocations_last last are))
      (λ at from less.
      phases_spare phases relocations section relocations_last last are at (none_rewrites phases i start len alone at from less)),
)

-- ---- those after one

module _ (l : Linked) (later : ArePhases l.later l.relocations_after l.rewritten l.relocations_last l.last) where
  pub later_as_many : length l.relocations_last ≡ length l.relocations_after
  later_as_many = phases_as_many l.later l.relocations_after l.rewritten l.relocations_last l.last later

  pub later_length : length l.last ≡ length l.rewritten
  later_length = phases_same_length l.later l.relocations_after l.rewritten l.relocations_last l.last later

  module _ (i start len : ℕ) (left : UntouchedBytes l i start len) where
    pub later_keep : i < length l.relocations_after / 24
        → relocation_in l.relocations_last i ≡ relocation_in l.relocations_after i
    later_keep below =
        phases_keep l.later l.relocations_after l.rewritten l.relocations_last l.last later i below
        (all_keep l.later i start len left)

    pub later_byte : (at : ℕ) → start ≤ at → at < start + len → get_or l.last at 0 ≡ get_or l.rewritten at 0
    later_byte at from less =
        phases_spare l.later l.relocations_after l.rewritten l.relocations_last l.last later at
        (none_rewrites l.later i start len left at from less)

    pub later_bytes : take len (drop start l.last) ≡ take len (drop start l.rewritten)
    later_bytes = same_windows start len l.last l.rewritten (sym later_length) later_byte

-- and after them values are written
module _ (l : Linked) (linked : IsLinked l) where
  pub last_as_many : length l.relocations_last ≡ length l.relocations
  last_as_many = later_as_many l linked.later ∙ linked.as_many

  pub last_length : length l.last ≡ length l.rewritten
  last_length = later_length l linked.later

  pub last_within : (i : ℕ) → i < count l → i < length l.relocations_last / 24
  last_within i below = subst (λ n. i < n / 24) (sym last_as_many) below

  module _ (i start len : ℕ) (left : UntouchedBytes l i start len) where
    pub relocation_left : i < count l
        → relocation_in l.relocations_last i ≡ relocation_in l.relocations_after i
    relocation_left below =
        later_keep l linked.later i start len left (subst (λ n. i < n / 24) (sym linked.as_many) below)

    pub byte_left : (at : ℕ) → start ≤ at → at < start + len → get_or l.last at 0 ≡ get_or l.rewritten at 0
    byte_left = later_byte l linked.later i start len left

    pub bytes_left : take len (drop start l.last) ≡ take len (drop start l.rewritten)
    bytes_left = later_bytes l linked.later i start len left

-- fewer bytes
pub left_within : (l : Linked) (i start len start' len' : ℕ) → start ≤ start' → start' + len' ≤ start + len
    → UntouchedBytes l i start len → UntouchedBytes l i start' len'
left_within l i start len start' len' low high left =
    All-weaker (UntouchedInPhase i start len) (UntouchedInPhase i start' len')
    (λ p leaves.
    record {
      kept = leaves.kept;
      apart = λ at from less. leaves.apart at (omega (arith, low, from)) (omega (arith, high, less));
    })
    l.later left

-- ---- rows of whole bytes whose value replaces what is there

-- of n bytes, which the value replaces
pub record IsPlain (n : ℕ) (row : RowInfo) : Type 0 where
  pub size : row.size ≡ ByteSize n
  pub valued : has_value row.kind ≡ true
  pub unlabelled : names_label row.size row.kind ≡ false
  pub alone : is_of_pair row ≡ false
  pub some : (o : Operands) → IsSomeAnd (value_of row o) (λ _. ⊤)
  pub writes : (v : ℤ) (old : ℕ) → number_written row.kind v old ≡ cast_unsigned w64 v
  pub composes : (v number : ℤ) → composed_with row.kind v number ≡ v
  pub remainder : (o : Operands) (v : ℤ) → value_of row o ≡ Some v → IsWithin (reach_of row) v
      → int_rem_euclid v (pos (2 ^ (8 * n))) ≡ pos (cast_unsigned w64 v % 2 ^ (8 * n))
  pub holds : (len : ℕ) (v : ℤ) (before after : List ℕ) → HoldsNumber row.kind len v before after
      → pos (number_of_bytes len after) ≡ int_rem_euclid v (pos (2 ^ (8 * len)))

abbrev pub plain : {n : ℕ} {row : RowInfo} → row.size ≡ ByteSize n → has_value row.kind ≡ true
    → names_label row.size row.kind ≡ false → is_of_pair row ≡ false
    → ((o : Operands) → IsSomeAnd (value_of row o) (λ _. ⊤))
    → ((v : ℤ) (old : ℕ) → number_written row.kind v old ≡ cast_unsigned w64 v)
    → ((v number : ℤ) → composed_with row.kind v number ≡ v)
    → ((o : Operands) (v : ℤ) → value_of row o ≡ Some v → IsWithin (reach_of row) v
    → int_rem_euclid v (pos (2 ^ (8 * n))) ≡ pos (cast_unsigned w64 v % 2 ^ (8 * n)))
    → ((len : ℕ) (v : ℤ) (before after : List ℕ) → HoldsNumber row.kind len v before after
    → pos (number_of_bytes len after) ≡ int_rem_euclid v (pos (2 ^ (8 * len))))
    → IsPlain n row
plain size valued unlabelled alone some writes composes remainder holds =
    record {
      size = size;
      valued = valued;
      unlabelled = unlabelled;
      alone = alone;
      some = some;
      writes = writes;
      composes = composes;
      remainder = remainder;
      holds = holds;
    }

-- ---- what is composed at the field

-- a relocation without a field in the bytes there composes nothing
by_other : (there : List ℕ) (f : Option (RowInfo × ℤ)) (number : ℤ)
    → ((row : RowInfo) (v : ℤ) → f ≡ Some (row, v) → 0 < field_len row there → ⊥)
    → composed_by there f number ≡ number
by_other there None number far = refl
by_other there (Some one) number far =
    cond-false (ltb 0 (field_len (one.0) there)) (composed_with (one.0).kind (one.1) number) number
    (le-ltb 0 (field_len (one.0) there) (elim (cases_lt 0 (field_len (one.0) there)) [
      | inl some ↦ absurd (far (one.0) (one.1) refl some)
      | inr empty ↦ empty
    ]))

by_own : (there : List ℕ) (row : RowInfo) (v number : ℤ) → 0 < field_len row there
    → composed_with row.kind v number ≡ v → composed_by there (Some (row, v)) number ≡ v
by_own there row v number some is = cc (lt-ltb 0 (field_len row there) some)

module _ (found : Found) (bytes section : List ℕ) (number : ℤ) (i : ℕ) (row : RowInfo)
    (v : ℤ) (is : found i ≡ Some (row, v)) (one : (m : ℤ) → composed_with row.kind v m ≡ v)
    (some : 0 < field_len row (drop (offset_at bytes i) section)) (total : ℕ)
    (far : (j : ℕ) (other : RowInfo) (w : ℤ) → j < total → (j ≡ i → ⊥)
    → found j ≡ Some (other, w) → offset_at bytes j ≡ offset_at bytes i
    → 0 < field_len other (drop (offset_at bytes i) section) → ⊥) where
  abbrev so_far : ℕ → ℤ
  so_far n = composed found bytes section (offset_at bytes i) number n

  there : List ℕ
  there = drop (offset_at bytes i) section

  next : (n : ℕ) → so_far (suc n) ≡ cond (eqb (offset_at bytes n) (offset_at bytes i))
      (composed_by (drop (offset_at bytes i) section) (found n) (so_far n)) (so_far n)
  next n = refl

  passed : (n : ℕ) → n < total → (n ≡ i → ⊥) → so_far (suc n) ≡ so_far n
  passed n below isnt =
      next n ∙ elim (cases_Bool (eqb (offset_at bytes n) (offset_at bytes i))) [
        | inl here ↦
            cc (by_other (drop (offset_at bytes i) section) (found n) (so_far n) (λ other w is_other wide.
            far n other w below isnt is_other (eqb-true (offset_at bytes n) (offset_at bytes i) here) wide))
        | inr away ↦ cc
      ]

  own : (n : ℕ) → n ≡ i → so_far (suc n) ≡ v
  own n same =
      next n
      ∙ cc (
        eq-eqb (offset_at bytes n) (offset_at bytes i) (ap (offset_at bytes) same),
        ap (λ f. composed_by (drop (offset_at bytes i) section) f (so_far n)) (ap found same ∙ is),
        by_own (drop (offset_at bytes i) section) row v (so_far n) some (one (so_far n)),
      )

  -- the value
  pub composed_alone : (n : ℕ) → n ≤ total → i < n
      → composed found bytes section (offset_at bytes i) number n ≡ v
  composed_alone zero most below = absurd (omega (arith, below))
  composed_alone (suc n) most below =
      elim (cases_eq n i) [
        | inl same ↦ own n same
        | inr isnt ↦
            passed n (omega (arith, most)) isnt
            ∙ composed_alone n (omega (arith, most)) (omega (arith, below, isnt))
      ]

-- ---- what is found

-- a relocation of a row, with the operands of its formula, has the value of the formula
pub record IsFoundOf (row : RowInfo) (operands : Operands)
    (found : Option (RowInfo × ℤ)) : Type 0 where
  pub value : ℤ
  pub is : found ≡ Some (row, value)
  pub value_is : value_of row operands ≡ Some value

abbrev with_row : RowInfo → Option ℤ → Option (RowInfo × ℤ)
with_row row None = None
with_row row (Some v) = Some (row, v)

some_is_not : (value : Option ℤ) → IsSomeAnd value (λ _. ⊤) → None ≡ value → ⊥
some_is_not None nothing is = nothing
some_is_not (Some v) there is = absurd (let e : None ≡ Some v = is in cc)

module _ (architecture : Architecture) (addresses : Addresses) (bytes : List ℕ)
    (symbols : List Symbol) (r : Rela) (row : RowInfo) (is_row : IsRow architecture r.r_type (Some row)) where
  -- it is found by the row
  of_row : (found : Option (RowInfo × ℤ)) → IsRowValue architecture addresses bytes symbols r (Ok found)
      → (value : Option ℤ) × (found ≡ with_row row value)
      × IsValueIn architecture addresses bytes symbols r (Some row) (Ok value)
  of_row (Some one) has =
      let same : one.0 ≡ row = one_info architecture r.r_type (one.0) row has.is_row is_row in (
        Some (one.1),
        ap (λ x. Some (x, one.1)) same,
        subst (λ x. IsValueIn architecture addresses bytes symbols r (Some x) (Ok (Some (one.1)))) same has.is_value,
      )
  of_row None marked = (
    None,
    refl,
    subst (λ x. IsValueIn architecture addresses bytes symbols r x (Ok None))
        (one_row architecture r.r_type (marked.0) (Some row) (marked.1) is_row) (marked.2),
  )

  module _ (operands : Operands)
      (by : (value : Option ℤ) → IsValueIn architecture addresses bytes symbols r (Some row) (Ok value) → value ≡ value_of row operands)
      (some : IsSomeAnd (value_of row operands) (λ _. ⊤)) where
    made : (found : Option (RowInfo × ℤ)) (value : Option ℤ) → found ≡ with_row row value
        → value ≡ value_of row operands → IsFoundOf row operands found
    made found (Some v) is value_is = record { value = v; is = is; value_is = sym value_is }
    made found None is value_is = absurd (some_is_not (value_of row operands) some value_is)

    pub found_by : (found : Option (RowInfo × ℤ))
        → IsRowValue architecture addresses bytes symbols r (Ok found) → IsFoundOf row operands found
    found_by found has = let own = of_row found has in made found (own.0) (own.1) (by (own.0) (own.2))

module _ (architecture : Architecture) (addresses : Addresses) (bytes : List ℕ)
    (symbols : List Symbol) (r : Rela) (row : RowInfo)
    (is_row : IsRow architecture r.r_type (Some row)) (valued : has_value row.kind ≡ true)
    (unlabelled : names_label row.size row.kind ≡ false) where
  of_operands : (result : Result (Option ℤ) ValueError)
      → IsValueIn architecture addresses bytes symbols r (Some row) result
      → result ≡ value_by (lacks_origin addresses symbols row r) row (operands_of architecture addresses symbols row r)
  of_operands result is =
      let of = subst (λ labels. IsValueBy labels architecture addresses bytes symbols row r result) unlabelled is in cc

  -- it has what its formula takes
  pub are_there : (found : Option (RowInfo × ℤ))
      → IsRowValue architecture addresses bytes symbols r (Ok found) → (error : ValueError)
      → operands_of architecture addresses symbols row r ≡ Err error → ⊥
  are_there found has error is =
      let own = of_row architecture addresses bytes symbols r row is_row found has in
      let e : Ok (own.0) ≡ Err error =
      of_operands (Ok (own.0)) (own.2) ∙ ap (value_by (lacks_origin addresses symbols row r) row) is in cc

module _ (architecture : Architecture) (addresses : Addresses) (bytes : List ℕ)
    (symbols : List Symbol) (r : Rela) (row : RowInfo) (operands : Operands)
    (is_row : IsRow architecture r.r_type (Some row)) (valued : has_value row.kind ≡ true)
    (unlabelled : names_label row.size row.kind ≡ false)
    (taken : operands_of architecture addresses symbols row r ≡ Ok operands)
    (some : IsSomeAnd (value_of row operands) (λ _. ⊤)) where
  of_value : (lacks : Bool) (value : Option ℤ) → Ok value ≡ value_by lacks row (Ok operands)
      → value ≡ value_of row operands
  of_value true value same = absurd (let e : Ok value ≡ Err NoTlsBase = same in cc)
  of_value false value same = let both : Ok value ≡ Ok (value_of row operands) = same in cc

  pub found_is : (found : Option (RowInfo × ℤ))
      → IsRowValue architecture addresses bytes symbols r (Ok found) → IsFoundOf row operands found
  found_is =
      found_by architecture addresses bytes symbols r row is_row operands
      (λ value is.
      of_value (lacks_origin addresses symbols row r) value
      (of_operands architecture addresses bytes symbols r row is_row valued unlabelled (Ok value) is
      ∙ ap (value_by (lacks_origin addresses symbols row r) row) taken)) some

-- ---- bytes that hold a number

-- of n bytes a list is the lowest of the number that they are
abbrev pub AreLowest : ℕ → Type 0
AreLowest n =
    (xs : List ℕ) (number : ℕ) → length xs ≡ n → ((i : ℕ) → get_or xs i 0 < 256)
    → number_of_bytes n xs ≡ number % 2 ^ (8 * n) → xs ≡ low_bytes n number

pub four_bytes : AreLowest 4
four_bytes (a ∷ b ∷ c ∷ d ∷ []) number long small is =
    let sa : a < 256 = small 0 in let sb : b < 256 = small 1 in
    let sc : c < 256 = small 2 in let sd : d < 256 = small 3 in
    let sum : a + b * 256 + c * 65536 + d * 16777216 ≡ number % 2 ^ 32 = omega (arith, is) in
    let ea : a ≡ byte_at 0 number = omega (arith, sum, sa, sb, sc, sd) in
    let eb : b ≡ byte_at 1 number = omega (arith, sum, sa, sb, sc, sd) in
    let ec : c ≡ byte_at 2 number = omega (arith, sum, sa, sb, sc, sd) in
    let ed : d ≡ byte_at 3 number = omega (arith, sum, sa, sb, sc, sd) in
    rw (ea, eb, ec, ed)
four_bytes xs number long small is = absurd (omega (arith, long))

pub eight_bytes : AreLowest 8
eight_bytes (a ∷ b ∷ c ∷ d ∷ e ∷ f ∷ g ∷ h ∷ []) number long small is =
    let sa : a < 256 = small 0 in let sb : b < 256 = small 1 in
    let sc : c < 256 = small 2 in let sd : d < 256 = small 3 in
    let se : e < 256 = small 4 in let sf : f < 256 = small 5 in
    let sg : g < 256 = small 6 in let sh : h < 256 = small 7 in
    let sum : a + b * 2 ^ 8 + c * 2 ^ 16 + d * 2 ^ 24 + e * 2 ^ 32 + f * 2 ^ 40 + g * 2 ^ 48 + h * 2 ^ 56
    ≡ number % 2 ^ 64 = omega (arith, is) in
    let ea : a ≡ byte_at 0 number = omega (arith, sum, sa, sb, sc, sd, se, sf, sg, sh) in
    let eb : b ≡ byte_at 1 number = omega (arith, sum, sa, sb, sc, sd, se, sf, sg, sh) in
    let ec : c ≡ byte_at 2 number = omega (arith, sum, sa, sb, sc, sd, se, sf, sg, sh) in
    let ed : d ≡ byte_at 3 number = omega (arith, sum, sa, sb, sc, sd, se, sf, sg, sh) in
    let ee : e ≡ byte_at 4 number = omega (arith, sum, sa, sb, sc, sd, se, sf, sg, sh) in
    let ef : f ≡ byte_at 5 number = omega (arith, sum, sa, sb, sc, sd, se, sf, sg, sh) in
    let eg : g ≡ byte_at 6 number = omega (arith, sum, sa, sb, sc, sd, se, sf, sg, sh) in
    let eh : h ≡ byte_at 7 number = omega (arith, sum, sa, sb, sc, sd, se, sf, sg, sh) in
    rw (ea, eb, ec, ed, ee, ef, eg, eh)
eight_bytes xs number long small is = absurd (omega (arith, long))

-- ---- the field of a relocation

-- What is left of a relocation of n bytes: its formula has a value, the bytes between accept it,
-- and those in the end are its lowest.
pub record UntouchedField (n : ℕ) (row : RowInfo) (operands : Operands) (o : ℕ) (before after : List ℕ)
    : Type 0 where
  pub value : ℤ
  pub value_is : value_of row operands ≡ Some value
  pub inside : o + n ≤ length before
  pub accepted : IsAccepted row value (drop o before)
  pub field : take n (drop o after) ≡ low_bytes n (cast_unsigned w64 value)

pub len_is : (n : ℕ) (row : RowInfo) (bytes : List ℕ) → IsPlain n row → field_len row bytes ≡ n
len_is n row bytes plain = cc

module _ (n : ℕ) (there : 0 < n) (are : AreLowest n) (architecture : Architecture) (addresses : Addresses) (bytes : List ℕ)
    (symbols : List Symbol) (before after : List ℕ)
    (written : AreWritten architecture addresses bytes symbols before after)
    (small : (p : ℕ) → get_or after p 0 < 256)
    (i : ℕ) (below : i < length bytes / 24) (row : RowInfo) (plain : IsPlain n row)
    (is_row : IsRow architecture (relocation_in bytes i).r_type (Some row)) (operands : Operands)
    (taken : operands_of architecture addresses symbols row (relocation_in bytes i) ≡ Ok operands)
    (alone : (j : ℕ) (other : RowInfo) → j < length bytes / 24 → (j ≡ i → ⊥)
    → IsField architecture bytes before j other
    → (offset_at bytes i < offset_at bytes j) ⊎ (field_end bytes before j other ≤ offset_at bytes i))
  where
    pub left : UntouchedField n row operands (offset_at bytes i) before after
    left =
        let o = offset_at bytes i in
        let found = written.can.found in
        let mine = found_is architecture addresses bytes symbols (relocation_in bytes i) row operands is_row
        plain.valued plain.unlabelled taken (plain.some operands) (found i) (written.can.are_found i below) in
        let v = mine.value in
        let len = len_is n row (drop o before) plain in
        let some : 0 < field_len row (drop o before) = omega (arith, len, there) in
        let accepted_at = (written.can.accepted i row v below mine.is).0 plain.alone in
        let accepted = accepted_at.accepted in
        let wide : window_len row ≡ n = ap size_len plain.size in
        let inside : o + n ≤ length before = omega (arith, accepted.long, wide, length-drop o before, accepted_at.inside) in
        let held = (written.fields i row v below mine.is some).value plain.alone in
        let old = field_bytes bytes before i row before in
        let new = field_bytes bytes before i row after in
        let composed_is : composed found bytes before o (pos (number_of_bytes n old)) (length bytes / 24) ≡ v =
        composed_alone found bytes before (pos (number_of_bytes n old)) i row v mine.is (plain.composes v) some
        (length bytes / 24) far (length bytes / 24) (omega arith) below in
        let number : HoldsNumber row.kind n (composed found bytes before o (pos (number_of_bytes n old)) (length bytes / 24)) old new =
        subst (λ size. HoldsValue size row v (λ m. composed found bytes before o m (length bytes / 24)) old new) plain.size held in
        let holds : pos (number_of_bytes n new) ≡ pos (cast_unsigned w64 v % 2 ^ (8 * n)) =
        plain.holds n _ old new number
        ∙ (ap (λ z. int_rem_euclid z (pos (2 ^ (8 * n)))) composed_is ∙ plain.remainder operands v mine.value_is accepted.reached.0) in
        let new_is : new ≡ take n (drop o after) = ap (λ m. take m (drop o after)) len in
        let lt = length-take-le n (drop o after) (omega (arith, written.same_length, length-drop o after, inside)) in
        record {
          value = v;
          value_is = mine.value_is;
          inside = inside;
          accepted = accepted;
          field = are (take n (drop o after)) (cast_unsigned w64 v) lt
              (λ k. elim (cases_lt k n) [
                | inl less ↦
                    subst (λ y. y < 256) (sym (get_or-take n (drop o after) k 0 less ∙ get_or-drop o after k 0)) (small (o + k))
                | inr most ↦
                    subst (λ y. y < 256) (sym (get_or_past (take n (drop o after)) k 0 (omega (arith, lt, most)))) (omega arith)
              ])
              (ap (number_of_bytes n) (sym new_is) ∙ ap unsigned_abs holds);
        }
      where
        far : (j : ℕ) (other : RowInfo) (w : ℤ) → j < length bytes / 24 → (j ≡ i → ⊥)
            → written.can.found j ≡ Some (other, w) → offset_at bytes j ≡ offset_at bytes i
            → 0 < field_len other (drop (offset_at bytes i) before) → ⊥
        far j other w most isnt is same some =
            let has : HasValue architecture addresses bytes symbols (relocation_in bytes j) other w =
            subst (λ f. IsRowValue architecture addresses bytes symbols (relocation_in bytes j) (Ok f)) is (written.can.are_found j most) in
            let wide : 0 < field_len other (drop (offset_at bytes j) before) =
            subst (λ p. 0 < field_len other (drop p before)) (sym same) some in
            elim (alone j other most isnt (record { is_row = has.is_row; some = wide })) [
              | inl ahead ↦ absurd (omega (arith, ahead, same))
              | inr following ↦ absurd (omega (arith, following, same, wide))
            ]

-- ---- the relocation of an instruction, which is applied to the bytes between

-- of an instruction of n bytes
pub record IsOfInstruction (n : ℕ) (row : RowInfo) : Type 0 where
  pub bits : BitRange
  pub insn : AnyForm
  pub size : row.size ≡ BitMasking bits insn
  pub wide : window_len row ≡ n
  pub valued : has_value row.kind ≡ true
  pub unlabelled : names_label row.size row.kind ≡ false
  pub alone : is_of_pair row ≡ false
  pub some : (o : Operands) → IsSomeAnd (value_of row o) (λ _. ⊤)

pub some_value : (v : Option ℤ) → IsSomeAnd v (λ _. ⊤) → (z : ℤ) × (v ≡ Some z)
some_value None nothing = absurd nothing
some_value (Some z) _ = (z, refl)

-- whichever bits it has
pub of_bits : {n : ℕ} {row : RowInfo} {bits : BitRange} {insn : AnyForm}
    → row.size ≡ BitMasking bits insn → window_len row ≡ n → has_value row.kind ≡ true
    → names_label row.size row.kind ≡ false → is_of_pair row ≡ false
    → ((o : Operands) → IsSomeAnd (value_of row o) (λ _. ⊤)) → IsOfInstruction n row
of_bits size wide valued unlabelled alone some =
    record {
      bits = _;
      insn = _;
      size = size;
      wide = wide;
      valued = valued;
      unlabelled = unlabelled;
      alone = alone;
      some = some;
    }

pub instruction_len : (n : ℕ) (row : RowInfo) → IsOfInstruction n row → (bytes : List ℕ)
    → field_len row bytes ≡ n
instruction_len n row of bytes = cc

module _ (architecture : Architecture) (addresses : Addresses) (bytes : List ℕ)
    (symbols : List Symbol) (before after : List ℕ)
    (written : AreWritten architecture addresses bytes symbols before after)
    (i : ℕ) (below : i < length bytes / 24) (n : ℕ) (wide : 0 < n) (row : RowInfo)
  where
    -- where the field's value is known
    module _ (bits : BitRange) (insn : AnyForm) (size : row.size ≡ BitMasking bits insn)
        (len_is : window_len row ≡ n) (valued : has_value row.kind ≡ true)
        (alone : is_of_pair row ≡ false) (operands : Operands)
        (mine : IsFoundOf row operands (written.can.found i))
      where
        pub applied_found : IsApplied row operands (take n (drop (offset_at bytes i) before)) (take n (drop (offset_at bytes i) after))
        applied_found =
            let o = offset_at bytes i in
            let found = written.can.found in
            let v = mine.value in
            let len : field_len row (drop o before) ≡ n = cc in
            let some : 0 < field_len row (drop o before) = omega (arith, len, wide) in
            let held = (written.fields i row v below mine.is some).value alone in
            let writes : WritesRow row v (field_bytes bytes before i row before) (field_bytes bytes before i row after) =
            subst (λ size. HoldsValue size row v (λ n. composed found bytes before o n (length bytes / 24)) (field_bytes bytes before i row before) (field_bytes bytes before i row after)) size held in
            let there : WritesRow row v (take n (drop o before)) (take n (drop o after)) =
            subst (λ n. WritesRow row v (take n (drop o before)) (take n (drop o after))) len writes in
            record { value = v; value_is = mine.value_is; accepted = there.accepted; written = there.written }

    -- where the operands are
    module _ (of : IsOfInstruction n row)
        (is_row : IsRow architecture (relocation_in bytes i).r_type (Some row)) (operands : Operands)
        (taken : operands_of architecture addresses symbols row (relocation_in bytes i) ≡ Ok operands)
      where
        pub applied : IsApplied row operands (take n (drop (offset_at bytes i) before)) (take n (drop (offset_at bytes i) after))
        applied =
            applied_found of.bits of.insn of.size of.wide of.valued of.alone operands
            (found_is architecture addresses bytes symbols (relocation_in bytes i) row operands is_row
            of.valued of.unlabelled taken (of.some operands) (written.can.found i) (written.can.are_found i below))

-- ---- the relocation of an instruction of any length

module _ (architecture : Architecture) (addresses : Addresses) (bytes : List ℕ)
    (symbols : List Symbol) (before after : List ℕ)
    (written : AreWritten architecture addresses bytes symbols before after)
    (i : ℕ) (below : i < length bytes / 24) (row : RowInfo)
    (bits : BitRange) (insn : AnyForm) (size : row.size ≡ BitMasking bits insn)
    (valued : has_value row.kind ≡ true) (unlabelled : names_label row.size row.kind ≡ false)
    (is_row : IsRow architecture (relocation_in bytes i).r_type (Some row)) (operands : Operands)
    (taken : operands_of architecture addresses symbols row (relocation_in bytes i) ≡ Ok operands)
    (has : IsSomeAnd (value_of row operands) (λ _. ⊤))
  where
    pub applied_to_window : IsApplied row operands (take (window_len row) (drop (offset_at bytes i) before))
        (take (window_len row) (drop (offset_at bytes i) after))
    applied_to_window =
        let some : 0 < window_len row = subst (λ s. 0 < size_len s) (sym size) (some_window insn) in
        let alone : is_of_pair row ≡ false = ap (λ s. begins_pair s row.kind || ends_pair s row.kind) size in
        applied_found architecture addresses bytes symbols before after written i below (window_len row) some row bits insn size
        refl valued alone operands
        (found_is architecture addresses bytes symbols (relocation_in bytes i) row operands is_row
        valued unlabelled taken has (written.can.found i) (written.can.are_found i below))

-- ---- instructions and their relocations

pub small_byte : (bytes : List ℕ) → AreBytes bytes → (i : ℕ) → get_or bytes i 0 < 256
small_byte bytes are i =
    elim (cases_lt i (length bytes)) [
      | inl below ↦ All-get_or (λ b. b < 2 ^ 8) bytes i 0 below are
      | inr past ↦ subst (λ b. b < 256) (sym (get_or_past bytes i 0 past)) (omega arith)
    ]

-- ---- words

pub word_same : (bytes : List ℕ) (o : ℕ)
    → from_le_bytes w32 (drop o bytes) ≡ from_le_bytes w32 (instruction_at bytes o)
word_same bytes o = sym (word_of_front (drop o bytes))

-- of two instructions
pub front_of_pair : (bytes : List ℕ) → from_le_bytes w32 (take 8 bytes) ≡ from_le_bytes w32 bytes
front_of_pair bytes =
    cc (word_of_front (take 8 bytes), take-take 4 8 bytes (omega arith), word_of_front bytes)

pub back_of_pair : (bytes : List ℕ)
    → from_le_bytes w32 (drop 4 (take 8 bytes)) ≡ from_le_bytes w32 (drop 4 bytes)
back_of_pair bytes = ap (from_le_bytes w32) (drop-take 4 4 bytes) ∙ word_of_front (drop 4 bytes)

pub first_same : (bytes : List ℕ) (o : ℕ)
    → from_le_bytes w32 (two_at bytes o) ≡ from_le_bytes w32 (instruction_at bytes o)
first_same bytes o = front_of_pair (drop o bytes) ∙ word_same bytes o

pub second_same : (bytes : List ℕ) (o : ℕ) → drop 4 (two_at bytes o) ≡ instruction_at bytes (o + 4)
second_same bytes o = drop-take 4 4 (drop o bytes) ∙ ap (take 4) (drop-drop 4 o bytes)

-- ---- rows

-- what follows of each value follows of one that is there
pub mapped : {A : Type 0} {P Q : A → Type 0} → ((x : A) → P x → Q x) → (value : Option A)
    → IsSomeAnd value P → IsSomeAnd value Q
mapped each None is = is
mapped each (Some x) is = each x is

-- what the code of a name means
pub by_name : {N A : Type 0} (elf : N → ElfName) (meaning : N → A) (name : N) → IsNamed (elf name)
    → (value : A) → IsNamedValue elf meaning (r_type_of (elf name)) value → value ≡ meaning name
by_name elf meaning name named value is = cc (is.value_is, is.is_name.named name named refl)

-- a code has no other row
abbrev pub IsRowOf : Architecture → ℕ → RowInfo → Type 0
IsRowOf architecture code row = (found : Option RowInfo) → IsRow architecture code found → found ≡ Some row

pub row_in : (architecture : Architecture) (addresses : Addresses) (relocations : List ℕ) (symbols : List Symbol)
    (r : Rela) (row : RowInfo) → IsRowOf architecture r.r_type row
    → (found : _) → IsRowValue architecture addresses relocations symbols r (Ok found)
    → IsRow architecture r.r_type (Some row)
row_in architecture addresses relocations symbols r row only (Some one) has =
    subst (λ x. IsRow architecture r.r_type x) (only (Some (one.0)) has.is_row) has.is_row
row_in architecture addresses relocations symbols r row only None marked =
    subst (λ x. IsRow architecture r.r_type x) (only (marked.0) (marked.1)) (marked.1)

-- ---- relocations that rewrites leave

abbrev pub rela : ℕ → ℕ → ℕ → ℤ → Rela
rela offset code symbol addend = record { offset = offset; r_type = code; symbol = symbol; addend = addend }

-- of the object, at an index
abbrev pub rela_at : Linked → ℕ → Rela
rela_at l i = relocation_in l.relocations i

pub with_operands : (row : RowInfo) (o p : Operands) (old new : List ℕ)
    → value_of row p ≡ value_of row o → IsApplied row o old new → IsApplied row p old new
with_operands row o p old new same is =
    record { value = is.value; value_is = same ∙ is.value_is; accepted = is.accepted; written = is.written }

module _ (l : Linked) (linked : IsLinked l) (i : ℕ) (below : i < count l) (n : ℕ) (some : 0 < n)
    (row : RowInfo) (of : IsOfInstruction n row)
    (after : Rela) (is_after : relocation_in l.relocations_after i ≡ after)
    (left : UntouchedBytes l i after.offset n) (only : IsRowOf l.context.architecture after.r_type row)
    (symbol : Symbol) (is_symbol : slice_get l.symbols after.symbol ≡ Some symbol) (got : ℕ)
    (architecture : Architecture) (is_architecture : l.context.architecture ≡ architecture)
    (entry_is : operands_by architecture l.addresses row after symbol
    (entry_address l.addresses symbol (entry_of row after.addend symbol.is_thread_local))
    ≡ Ok (operands_with architecture l.addresses row symbol after got)) where
  abbrev operands : Operands
  operands = operands_with architecture l.addresses row symbol after got

  within : i < length l.relocations_last / 24
  within = last_within l linked i below

  is_last : relocation_in l.relocations_last i ≡ after
  is_last = relocation_left l linked i after.offset n left below ∙ is_after

  there_written : IsRow l.context.architecture (relocation_in l.relocations_last i).r_type (Some row)
  there_written =
      row_in l.context.architecture l.addresses l.relocations_last l.symbols (relocation_in l.relocations_last i) row
      (subst (λ (x : Rela). IsRowOf l.context.architecture x.r_type row) (sym is_last) only)
      (linked.written.can.found i) (linked.written.can.are_found i within)

  -- is applied to the bytes between, by operands with the same value
  pub applied_after : (o : Operands) → value_of row o ≡ value_of row operands → (found : Option RowInfo) → found ≡ Some row
      → IsSomeAnd found (λ row. IsApplied row o (take n (drop after.offset l.rewritten)) (take n (drop after.offset l.final)))
  applied_after o same found is =
      rw is (with_operands row operands o _ _ same
      (subst (λ xs. IsApplied row operands xs (take n (drop after.offset l.final))) (bytes_left l linked i after.offset n left)
      (subst (λ (x : Rela). IsApplied row operands (take n (drop x.offset l.last)) (take n (drop x.offset l.final))) is_last
      (applied l.context.architecture l.addresses l.relocations_last l.symbols l.last l.final linked.written
      i within n some row of there_written operands
      (subst (λ x. operands_of l.context.architecture l.addresses l.symbols row x ≡ Ok operands) (sym is_last)
      (subst (λ a. operands_of a l.addresses l.symbols row after ≡ Ok operands) (sym is_architecture)
      (ap (operands_in architecture l.addresses row after) is_symbol ∙ entry_is)))))))

-- ---- entries of the GOT

-- the entry that its formula has is there
pub entry_is_there : (l : Linked) → IsLinked l → (i : ℕ) → i < count l → (row : RowInfo)
    → has_value row.kind ≡ true → names_label row.size row.kind ≡ false
    → (after : Rela) → relocation_in l.relocations_last i ≡ after
    → IsRowOf l.context.architecture after.r_type row
    → (symbol : Symbol) → slice_get l.symbols after.symbol ≡ Some symbol
    → (entry : Entry) → entry_of row after.addend symbol.is_thread_local ≡ Some entry
    → is_there l.addresses symbol entry ≡ true
entry_is_there l linked i below row valued unlabelled after is_after only symbol is_symbol entry is_entry =
    elim (cases_Bool (is_there l.addresses symbol entry)) [
      | inl there_written ↦ there_written
      | inr missing ↦
          let none : entry_address l.addresses symbol (entry_of row after.addend symbol.is_thread_local) ≡ None =
          rw (is_entry, missing) in
          let found = linked.written.can.found i in
          let has = subst (λ (x : Rela). IsRowValue l.context.architecture l.addresses l.relocations_last l.symbols x (Ok found)) is_after
          (linked.written.can.are_found i (last_within l linked i below)) in
          absurd (are_there l.context.architecture l.addresses l.relocations_last l.symbols after row
          (row_in l.context.architecture l.addresses l.relocations_last l.symbols after row only found has) valued unlabelled found has NoEntry
          (ap (operands_in l.context.architecture l.addresses row after) is_symbol
          ∙ ap (operands_by l.context.architecture l.addresses row after symbol) none))
    ]

-- ---- bytes that a rewrite hasn't

pub outside_of : (l : Linked) (i : ℕ) (chosen : Choice Relaxation ℕ) (rewrite : Option Rewrite)
    → decision_at l.decisions i ≡ Rewritten chosen → relaxation_rewrite chosen.kind ≡ rewrite → (b : ℕ)
    → let o = (relocation_in l.relocations i).offset in
    (b < o - (window_of_rewrite rewrite).back)
    ⊎ (o - (window_of_rewrite rewrite).back + (window_of_rewrite rewrite).len ≤ b)
    → IsOutside l.relocations l.decisions i b
outside_of l i chosen rewrite decided is b apart = rw (decided, is) apart

-- of a decision without one
pub spared : (l : Linked) (i : ℕ) (d : Decision) → decision_at l.decisions i ≡ d
    → window_of d ≡ record { back = 0; len = 0 } → (b : ℕ) → IsOutside l.relocations l.decisions i b
spared l i d is none b =
    rw (is, none) (elim (cases_lt b (relocation_in l.relocations i).offset) [
      | inl before ↦ inl (omega (arith, before))
      | inr past ↦ inr (omega (arith, past))
    ])

-- ---- bytes that rewrites leave

module _ (l : Linked) (rewriting : AreRewritten l) (i : ℕ) (chosen : Choice Relaxation ℕ)
    (below : i < count l) (decided : decision_at l.decisions i ≡ Rewritten chosen) where
  pub relocation_is : (rewrite : Option Rewrite) (code : ℕ) → relaxation_rewrite chosen.kind ≡ rewrite
      → chosen.relocation ≡ code → relocation_in l.relocations_after i
      ≡ rela (offset_after rewrite (rela_at l i).offset) code (rela_at l i).symbol (addend_after rewrite (rela_at l i).addend)
  relocation_is rewrite code is r_type_is = rw (decided, is, r_type_is) at (rewriting.relocations i below)

  -- where neither the offset nor the addend changes
  pub relocation_named : (rewrite : Option Rewrite) (code : ℕ) → relaxation_rewrite chosen.kind ≡ rewrite
      → chosen.relocation ≡ code → ((o : ℕ) → offset_after rewrite o ≡ o) → ((a : ℤ) → addend_after rewrite a ≡ a)
      → relocation_in l.relocations_after i ≡ rela (rela_at l i).offset code (rela_at l i).symbol (rela_at l i).addend
  relocation_named rewrite code is r_type_is unmoved same_addend =
      rw (unmoved (rela_at l i).offset, same_addend (rela_at l i).addend) at (relocation_is rewrite code is r_type_is)

  -- what a rewrite leaves of its window, which begins at the relocation
  pub made_there : (made : Rewrite) → relaxation_rewrite chosen.kind ≡ Some made → made.back ≡ 0
      → take made.len (take made.len (drop (rela_at l i).offset l.rewritten))
      ≡ made.bytes (take made.len (take made.len (drop (rela_at l i).offset l.section)))
  made_there made is back =
      let o = (rela_at l i).offset in
      let done : IsMade (relaxation_rewrite chosen.kind) o l.section l.rewritten =
      subst (λ d. IsDone d o l.section l.rewritten) decided (rewriting.done i below) in
      let there_written : IsMade (Some made) o l.section l.rewritten =
      subst (λ q. IsMade q o l.section l.rewritten) is done in
      let here : take made.len (drop o l.rewritten) ≡ made.bytes (take made.len (drop o l.section)) =
      rw (← (let e : o - made.back ≡ o = omega (arith, back) in e)) there_written in
      take-take made.len made.len (drop o l.rewritten) (omega arith)
      ∙ (here ∙ ap made.bytes (sym (take-take made.len made.len (drop o l.section) (omega arith))))

  -- an instruction that isn't changed
  pub stays : relaxation_rewrite chosen.kind ≡ None → IsRewrittenByNoOther l i (rela_at l i).offset
      → instruction_at l.rewritten (rela_at l i).offset ≡ instruction_at l.section (rela_at l i).offset
  stays is alone =
      cc (same_windows (rela_at l i).offset 4 l.rewritten l.section (sym rewriting.same_length) (λ at from less. rewriting.others at (λ j lj. elim (cases_eq j i) [ inl same ↦ inr (rw same (let end : written_end_at l.relocations l.decisions i ≡ (rela_at l i).offset - 0 + 0 = ap (λ d. written_end_by d (rela_at l i).offset) decided ∙ ap (λ q. (rela_at l i).offset - (window_of_rewrite q).back + (window_of_rewrite q).len) is in omega (arith, end, from))) | inr isnt ↦ alone j at lj isnt from less ])))

-- ---- bytes that no relocation writes

-- a byte that no field has stays, since no value is written to it
pub none_written : {architecture : Architecture} {addresses : Addresses} {bytes : List ℕ} {symbols : List Symbol} {before after : List ℕ}
    → AreWritten architecture addresses bytes symbols before after
    → (p : ℕ) → IsInNoField architecture bytes before (length bytes / 24) p → slice_index after p ≡ slice_index before p
none_written {architecture} {addresses} {bytes} {symbols} {before} {after} written p free =
    written.left p (λ i row v below is.
    let has : HasValue architecture addresses bytes symbols (relocation_in bytes i) row v =
    subst (λ f. IsRowValue architecture addresses bytes symbols (relocation_in bytes i) (Ok f)) is (written.can.are_found i below) in
    elim (cases_lt 0 (field_len row (drop (offset_at bytes i) before))) [
      | inl some ↦ free i row below (record { is_row = has.is_row; some = some })
      | inr none ↦ elim (cases_lt p (offset_at bytes i)) [ inl ahead ↦ inl ahead | inr following ↦ inr (omega (arith, none, following)) ]
    ])

-- The field of a relocation is apart from an instruction.
abbrev pub IsApart : Linked → ℕ → ℕ → Type 0
IsApart l i p =
    (row : RowInfo) → IsField l.context.architecture l.relocations_last l.last i row
    → (p + 4 ≤ offset_at l.relocations_last i) ⊎ (field_end l.relocations_last l.last i row ≤ p)

-- no other relocation has one in it
pub unwritten_but : (l : Linked) → IsLinked l → (i p : ℕ) → UntouchedBytes l i p 4 → IsApart l i p
    → IsWrittenByNoOther l i p → instruction_at l.final p ≡ instruction_at l.rewritten p
unwritten_but l linked i p left apart alone =
    cc (
      same_windows p 4 l.final l.last (sym linked.written.same_length) (λ at from less. none_written linked.written at (λ j row lj field. elim (cases_eq j i) [ inl same ↦ rw same (elim (apart row (rw (← same) field)) [ inl ahead ↦ inl (omega (arith, ahead, less)) | inr following ↦ inr (omega (arith, following, from)) ]) | inr isnt ↦ alone j at (rw (← (last_as_many l linked)) lj) isnt from less row field ])),
      bytes_left l linked i p 4 left,
    )

module _ (l : Linked) (i : ℕ) (after : Rela) (is_after : relocation_in l.relocations_last i ≡ after)
    (row : RowInfo) (only : IsRowOf l.context.architecture after.r_type row) where
  same_row : (other : RowInfo)
      → IsField l.context.architecture l.relocations_last l.last i other → other ≡ row
  same_row other field =
      cc (only (Some other) (subst (λ (x : Rela). IsRow l.context.architecture x.r_type (Some other)) is_after field.is_row))

  -- one without a value has no field
  pub no_field : row ≡ bytes_row NoValue 0 → (other : RowInfo)
      → IsField l.context.architecture l.relocations_last l.last i other → ⊥
  no_field is other field =
      let some : 0 < field_len (bytes_row NoValue 0) (drop (offset_at l.relocations_last i) l.last) =
      subst (λ x. 0 < field_len x (drop (offset_at l.relocations_last i) l.last)) (same_row other field ∙ is) field.some in
      absurd (omega (arith, some))

  -- one of an instruction has that
  pub apart_with : (n : ℕ) → IsOfInstruction n row → (p : ℕ)
      → (p + 4 ≤ after.offset) ⊎ (after.offset + n ≤ p) → IsApart l i p
  apart_with n of p beside other field =
      let offset : offset_at l.relocations_last i ≡ after.offset = ap (λ (x : Rela). x.offset) is_after in
      let len : field_len other (drop (offset_at l.relocations_last i) l.last) ≡ n =
      cc (same_row other field, instruction_len n row of (drop (offset_at l.relocations_last i) l.last)) in
      elim beside [
        | inl ahead ↦ inl (omega (arith, ahead, offset))
        | inr following ↦ inr (omega (arith, following, offset, len))
      ]

-- an instruction stays that no other relocation writes, where the own one is of no type
pub unwritten_without : (l : Linked) → IsLinked l → (i : ℕ) → i < count l → (p : ℕ)
    → UntouchedBytes l i p 4 → IsRowOf l.context.architecture 0 (bytes_row NoValue 0)
    → (relocation_in l.relocations_after i).r_type ≡ 0
    → IsWrittenByNoOther l i p → instruction_at l.final p ≡ instruction_at l.rewritten p
unwritten_without l linked i below p left none gone alone =
    unwritten_but l linked i p left
    (λ row field. absurd (no_field l i (relocation_in l.relocations_after i) (relocation_left l linked i p 4 left below) (bytes_row NoValue 0)
    (subst (λ x. IsRowOf l.context.architecture x (bytes_row NoValue 0)) (sym gone) none) refl row field))
    alone

-- ---- high parts

-- what an `auipc` has
pub record IsUpper (size : RowSize) : Type 0 where
  pub len : size_len size ≡ 4
  pub begins_none : (kind : RelocationKind) → begins_pair size kind ≡ false
  pub ends_none : (kind : RelocationKind) → ends_pair size kind ≡ false

upper : (size : RowSize) → is_auipc size ≡ true → IsUpper size
upper (BitMasking bits (RiscV UType)) is =
    record { len = refl; begins_none = λ kind. refl; ends_none = λ kind. refl }
upper size is = absurd (let e : false ≡ true = is in cc)

-- and its kind
pub record IsOfHigh (kind : RelocationKind) : Type 0 where
  pub valued : has_value kind ≡ true
  pub alone : (other : RelocationKind) → continues kind other ≡ false

of_high : (kind : RelocationKind) → is_high_kind kinds.RelativeRiscVLow12 kind ≡ true → IsOfHigh kind
of_high kinds.Relative is = record { valued = refl; alone = λ other. refl }
of_high kinds.GotRelative is = record { valued = refl; alone = λ other. refl }
of_high kinds.GotTpOff is = record { valued = refl; alone = λ other. refl }
of_high kinds.TlsGd is = record { valued = refl; alone = λ other. refl }
of_high kind is = absurd (let e : false ≡ true = is in cc)

-- the row of a high part of a PC-relative low part
abbrev pub IsHigh : RowInfo → Type 0
IsHigh row = is_high_part kinds.RelativeRiscVLow12 (Some row) ≡ true

high_size : (row : RowInfo) → IsHigh row → IsUpper row.size
high_size row is = upper row.size ((and_parts (is_auipc row.size) (is_high_kind kinds.RelativeRiscVLow12 row.kind) is).0)

high_kind : (row : RowInfo) → IsHigh row → IsOfHigh row.kind
high_kind row is = of_high row.kind ((and_parts (is_auipc row.size) (is_high_kind kinds.RelativeRiscVLow12 row.kind) is).1)

high_len : (row : RowInfo) (there : List ℕ) → IsHigh row → field_len row there ≡ 4
high_len row there is =
    let size = high_size row is in
    cc ((high_kind row is).valued, or_from (begins_pair row.size row.kind) (ends_pair row.size row.kind) (size.begins_none row.kind) (size.ends_none row.kind), size.len)

-- nothing composes with one
alone : (bytes : List ℕ) (i j : ℕ) (row other : RowInfo) → IsHigh row → Composes bytes i row j other → ⊥
alone bytes i j row other is (of_number same wide continuing) =
    let e : true ≡ false = sym continuing ∙ (high_kind row is).alone other.kind in cc
alone bytes i j row other is (of_pair same next begins ends) =
    let e : true ≡ false = sym begins ∙ (high_size row is).begins_none row.kind in cc

-- ---- a relocation at an index

pub record IsRelocationAt (bytes : List ℕ) (i : ℕ) (r : Rela) : Type 0 where
  pub within : i < length bytes / 24
  pub is : relocation_in bytes i ≡ r

there_by : (bytes : List ℕ) (i : ℕ) (r : Rela) (within : Bool) → ltb i (length bytes / 24) ≡ within
    → cond within (Some (relocation_in bytes i)) None ≡ Some r → IsRelocationAt bytes i r
there_by bytes i r true within is =
    let both : Some (relocation_in bytes i) ≡ Some r = is in record { within = ltb-true i (length bytes / 24) within; is = cc }
there_by bytes i r false within is = absurd (let e : None ≡ Some r = is in cc)

pub there_is : (bytes : List ℕ) (i : ℕ) (r : Rela) → relocation_at bytes i ≡ Some r → IsRelocationAt bytes i r
there_is bytes i r is = there_by bytes i r (ltb i (length bytes / 24)) refl is

-- ---- the high part at an offset

module _ (architecture : Architecture) (bytes section : List ℕ)
    (apart : AreApart architecture bytes section (length bytes / 24))
    (i : ℕ) (below : i < length bytes / 24) (row : RowInfo)
    (is_row : IsRow architecture (relocation_in bytes i).r_type (Some row)) (high : IsHigh row) where
  field_of : (j : ℕ) (other : RowInfo)
      → IsRow architecture (relocation_in bytes j).r_type (Some other) → IsHigh other
      → IsField architecture bytes section j other
  field_of j other of is =
      record { is_row = of; some = let n = high_len other (drop (offset_at bytes j) section) is in omega (arith, n) }

  -- no other is there, since their fields would overlap
  one_there : (j : ℕ) (other : RowInfo) → j < length bytes / 24
      → IsRow architecture (relocation_in bytes j).r_type (Some other) → IsHigh other
      → offset_at bytes j ≡ offset_at bytes i → j ≡ i
  one_there j other within of is same =
      let mine = field_of i row is_row high in
      let its = field_of j other of is in
      let n = high_len row (drop (offset_at bytes i) section) high in
      let m = high_len other (drop (offset_at bytes j) section) is in
      elim (cases_eq j i) [
        | inl equal ↦ equal
        | inr isnt ↦ elim (cases_lt j i) [
          | inl before ↦
              absurd (alone bytes j i other row is
              (apart j i other row before below its mine (omega (arith, n, m, same), omega (arith, n, m, same))))
          | inr most ↦
              absurd (alone bytes i j row other high
              (apart i j row other (omega (arith, most, isnt)) within mine its (omega (arith, n, m, same), omega (arith, n, m, same))))
        ]
      ]

-- ---- what is found of a low part

module _ (architecture : Architecture) (addresses : Addresses) (bytes : List ℕ)
    (symbols : List Symbol) (section : List ℕ)
    (apart : AreApart architecture bytes section (length bytes / 24))
    (i : ℕ) (below : i < length bytes / 24) (row : RowInfo)
    (is_row : IsRow architecture (relocation_in bytes i).r_type (Some row)) (high : IsHigh row)
    (operands : Operands)
    (taken : operands_of architecture addresses symbols row (relocation_in bytes i) ≡ Ok operands)
    (r : Rela) (low : RowInfo) (low_is : IsRow architecture r.r_type (Some low))
    (labelled : names_label low.size low.kind ≡ true) (of_low : low.kind ≡ kinds.RelativeRiscVLow12)
    (label : Symbol) (is_label : slice_get symbols r.symbol ≡ Some label)
    (labels : difference_64 label.address addresses.section ≡ offset_at bytes i)
    (some : IsSomeAnd (value_of low (low_operands row operands)) (λ _. ⊤)) where
  by_high : (found : Option (Rela × RowInfo))
      → IsHighPartAt architecture bytes kinds.RelativeRiscVLow12 (offset_at bytes i) found
      → (result : Result (Option ℤ) ValueError) (value : Option ℤ) → result ≡ Ok value
      → result ≡ low_value architecture addresses symbols low found
      → value_of low (low_operands row operands) ≡ value
  by_high None none result value ok is = absurd (let e : Ok value ≡ Err NoHighPart = sym ok ∙ is in cc)
  by_high (Some found) part result value ok is =
      let there = there_is bytes part.index (found.0) part.is_there in
      let its : IsRow architecture (relocation_in bytes part.index).r_type (Some (found.1)) =
      subst (λ (x : Rela). IsRow architecture x.r_type (Some (found.1))) (sym there.is) part.row_is in
      let equal : part.index ≡ i =
      one_there architecture bytes section apart i below row is_row high part.index (found.1) there.within its part.is_high
      (ap (λ (x : Rela). x.offset) there.is ∙ part.offset_is) in
      let same : found.0 ≡ relocation_in bytes i = sym there.is ∙ ap (relocation_in bytes) equal in
      let same_row : found.1 ≡ row = one_info architecture (relocation_in bytes i).r_type (found.1) row
      (subst (λ n. IsRow architecture (relocation_in bytes n).r_type (Some (found.1))) equal its) is_row in
      let takes : low_value architecture addresses symbols low (Some found) ≡ Ok (value_of low (low_operands row operands)) =
      ap (λ x. low_by low (found.1) (operands_of architecture addresses symbols (found.1) x)) same
      ∙ (ap (λ x. low_by low x (operands_of architecture addresses symbols x (relocation_in bytes i))) same_row
      ∙ ap (low_by low row) taken) in
      let both : Ok (value_of low (low_operands row operands)) ≡ Ok value = sym takes ∙ (sym is ∙ ok) in cc

  by_row : (value : Option ℤ) → IsValueIn architecture addresses bytes symbols r (Some low) (Ok value)
      → value_of low (low_operands row operands) ≡ value
  by_row value is =
      let of = subst (λ s. IsLowValue architecture addresses bytes symbols low s (Ok value)) is_label
      (subst (λ labels. IsValueBy labels architecture addresses bytes symbols low r (Ok value)) labelled is) in
      by_high (of.0) (rw (← labels, ← of_low) (of.1)) (Ok value) value refl (of.2)

  pub low_found : (found : Option (RowInfo × ℤ))
      → IsRowValue architecture addresses bytes symbols r (Ok found)
      → IsFoundOf low (low_operands row operands) found
  low_found =
      found_by architecture addresses bytes symbols r low low_is (low_operands row operands) (λ value is. sym (by_row value is)) some

-- ---- what no rewrite took

pub bytes : OtherBytes
bytes l linked at free none =
    none_written linked.written at
    (λ i row below is_field. (free i (subst (λ n. i < n / 24) (last_as_many l linked) below)).1 row is_field)
    ∙ (phases_spare l.later l.relocations_after l.rewritten l.relocations_last l.last linked.later at none
    ∙ linked.others at (λ i below. (free i below).0))

pub fields : OtherFields
fields l linked i below kept keeps = (
  phases_keep l.later l.relocations_after l.rewritten l.relocations_last l.last linked.later i
      (subst (λ n. i < n / 24) (sym linked.as_many) below) keeps
      ∙ (linked.relocations i below ∙ ap (λ d. relocation_after d (relocation_in l.relocations i)) kept),
  λ row v found some.
      subst (λ n. IsHeld linked.written.can.found l.relocations_last l.last l.final (n / 24) i row v) (last_as_many l linked)
      (linked.written.fields i row v (last_within l linked i below) found some),
)
