-- Fields that are gone through by ascending offsets are apart, if each is clear of the last one.
use Rattle.linker_section.proofs.Imports.{ApartIn, Architecture, AreApart, AreClaimed, BeginsPair, Composes, Field, HasField, IfSome, IsContinued, IsField, IsLastField, IsOverlapped, IsRow, List, None, Option, Overlap, Rela, RowInfo, Some, and_from, and_parts, ap, arith, begins_pair, both_ways, cases_eq, continues, continues_at, ends_pair, eq-eqb, eqb, eqb-true, false, field_end, inl, inr, is_clear_of, is_of_pair, is_some, leb, leb-false, leb-true, length, never, of_number, of_pair, offset_at, or_cases, or_parts, relocation_in, subst, sym, true, true≢false, window_len, ℕ, ◌&&◌, ◌+◌, ◌-◌, ◌/◌, ◌<◌, ◌∙◌, ◌≡◌, ◌≤◌, ◌⊎◌}
use Rattle.linker_section.proofs.Composing.{continues_on, second_is_none, first_is_none, begun_continues_none, begun_is_continued_none, begun_ends_none}
use Rattle.linker_section.proofs.Rows.{one_info}

-- ---- what the test says

pub record Joins (field last : Field) : Type 0 where
  pub offset_is : field.offset ≡ last.offset
  pub len_is : field.len ≡ last.len
  pub continues_is : continues last.kind field.kind ≡ true

pub clear_cases : (field last : Field) → last.offset ≤ field.offset → is_clear_of field last ≡ true
    → (last.offset + last.len ≤ field.offset) ⊎ Joins field last
clear_cases field last order clear =
    elim (or_cases (leb last.len (field.offset - last.offset)) (eqb (field.offset - last.offset) 0 && continues_at field last) clear) [
      | inl far ↦ inl (let l = leb-true _ _ far in omega (arith, l, order))
      | inr same ↦
          let parts = and_parts (eqb (field.offset - last.offset) 0) (continues_at field last) same in
          let both = and_parts (eqb field.len last.len) (continues last.kind field.kind) (parts.1) in
          inr (record {
            offset_is = let e = eqb-true _ _ (parts.0) in omega (arith, e, order);
            len_is = eqb-true _ _ (both.0);
            continues_is = both.1;
          })
    ]

pub not_clear : (field last : Field) → last.offset ≤ field.offset → is_clear_of field last ≡ false
    → (field.offset < last.offset + last.len) × (Joins field last → ⊥)
not_clear field last order clear =
    let parts = or_parts (leb last.len (field.offset - last.offset)) (eqb (field.offset - last.offset) 0 && continues_at field last) clear in (
      (let l = leb-false _ _ (parts.0) in omega (arith, l, order)),
      (λ joins. both_ways _ (parts.1)
          (and_from _ _ (eq-eqb (field.offset - last.offset) 0 (let e = joins.offset_is in omega (arith, e)))
          (and_from _ _ (eq-eqb _ _ joins.len_is) joins.continues_is))),
    )

-- ---- one more field

own_continued : (architecture : Architecture) (bytes section : List ℕ) (k : ℕ)
    (row : RowInfo) (field : Field) → HasField architecture bytes section k row field
    → IsContinued row field
own_continued architecture bytes section k row field h kind is =
    let own : continues row.kind kind ≡ true = subst (λ x. continues x kind ≡ true) (sym h.kind_is) is in
    (h.window_is (first_is_none row.kind kind row.size own), own)

-- what is after an earlier field is after the new one, or they compose
earlier_composes : (architecture : Architecture) (bytes section : List ℕ) (IsSeen : ℕ → Type 0)
    (last : Field) (k : ℕ) (row : RowInfo) (field : Field)
    → AreClaimed architecture bytes section IsSeen last
    → HasField architecture bytes section k row field → last.offset ≤ field.offset
    → is_clear_of field last ≡ true → (i : ℕ) (other : RowInfo) → IsSeen i
    → IsField architecture bytes section i other
    → (field_end bytes section i other ≤ field.offset)
    ⊎ ((offset_at bytes i ≡ field.offset)
    × (field_end bytes section i other ≡ field.offset + field.len) × IsContinued other field
    × Composes bytes i other k row)
earlier_composes architecture bytes section IsSeen last k row field claimed h order clear i other seen is_field =
    elim (claimed.others i other seen is_field) [
      | inl before ↦ inl (omega (arith, before, order))
      | inr same ↦ elim (clear_cases field last order clear) [
        | inl far ↦ inl (let e = same.1 in omega (arith, e, far))
        | inr joins ↦
            let o = joins.offset_is in let l = joins.len_is in let e = same.1 in
            let continued = same.2 field.kind joins.continues_is in
            inr (
              (same.0 ∙ sym o),
              (omega (arith, o, l, e)),
              (λ kind is. let on = same.2 kind (continues_on last.kind field.kind kind joins.continues_is is) in
                  ((on.0 ∙ sym l), on.1)),
              of_number (same.0 ∙ (sym o ∙ sym h.offset_is))
                  (continued.0 ∙ (sym l ∙ sym (h.window_is (second_is_none last.kind row.kind row.size
                  (subst (λ x. continues last.kind x ≡ true) (sym h.kind_is) joins.continues_is)))))
                  (subst (λ x. continues other.kind x ≡ true) (sym h.kind_is) (continued.1)),
            )
      ]
    ]

-- a set with one more
pub record OneMore (IsSeen IsSeenNow : ℕ → Type 0) (k : ℕ) : Type 0 where
  pub before : (i : ℕ) → IsSeenNow i → IsSeen i ⊎ (i ≡ k)
  pub kept : (i : ℕ) → IsSeen i → IsSeenNow i
  pub now : IsSeenNow k

pub apart_more : (architecture : Architecture) (bytes section : List ℕ)
    (IsSeen IsSeenNow : ℕ → Type 0) (last : Field) (k : ℕ) (row : RowInfo)
    (field : Field) → OneMore IsSeen IsSeenNow k
    → ((i : ℕ) → IsSeen i → offset_at bytes i ≡ offset_at bytes k → i ≤ k)
    → ApartIn architecture bytes section IsSeen → AreClaimed architecture bytes section IsSeen last
    → HasField architecture bytes section k row field → last.offset ≤ field.offset
    → is_clear_of field last ≡ true → ApartIn architecture bytes section IsSeenNow
apart_more architecture bytes section IsSeen IsSeenNow last k row field more later apart claimed h order clear i j one other seen_i seen_j below is_one is_other overlap =
    elim (more.before i seen_i) [
      | inl was_i ↦ elim (more.before j seen_j) [
        | inl was_j ↦ apart i j one other was_i was_j below is_one is_other overlap
        | inr new ↦
            let here : IsField architecture bytes section k other = subst (λ x. IsField architecture bytes section x other) new is_other in
            elim (earlier_composes architecture bytes section IsSeen last k row field claimed h order clear i one was_i is_one) [
              | inl before ↦
                  absurd (let o = h.offset_is in let b = overlap.1 in let n = ap (offset_at bytes) new in omega (arith, before, o, b, n))
              | inr found ↦
                  subst (λ x. Composes bytes i one x other) (sym new) (subst (λ x. Composes bytes i one k x) (one_info architecture _ row other h.is_field.is_row here.is_row) (found.3))
            ]
      ]
      | inr new ↦ elim (more.before j seen_j) [
        | inl was_j ↦ elim (earlier_composes architecture bytes section IsSeen last k row field claimed h order clear j other was_j is_other) [
          | inl before ↦
              absurd (let o = h.offset_is in let b = overlap.0 in let n = ap (offset_at bytes) new in omega (arith, before, o, b, n))
          | inr found ↦ absurd (let l = later j was_j (found.0 ∙ sym h.offset_is) in omega (arith, l, new, below))
        ]
        | inr also ↦ absurd (omega (arith, new, also, below))
      ]
    ]

pub claimed_more : (architecture : Architecture) (bytes section : List ℕ)
    (IsSeen IsSeenNow : ℕ → Type 0) (last : Field) (k : ℕ) (row : RowInfo)
    (field : Field) → OneMore IsSeen IsSeenNow k
    → AreClaimed architecture bytes section IsSeen last
    → HasField architecture bytes section k row field → last.offset ≤ field.offset
    → is_clear_of field last ≡ true → AreClaimed architecture bytes section IsSeenNow field
claimed_more architecture bytes section IsSeen IsSeenNow last k row field more claimed h order clear =
    record {
      is_last = λ some. record {
        index = k;
        seen = more.now;
        row = row;
        is_field = h.is_field;
        offset_is = h.offset_is;
        end_is = h.end_is;
        kind_is = h.kind_is;
        continued = own_continued architecture bytes section k row field h;
      };
      others = λ i other seen is_other. elim (more.before i seen) [
        | inl was ↦ elim (earlier_composes architecture bytes section IsSeen last k row field claimed h order clear i other was is_other) [
          | inl before ↦ inl before
          | inr found ↦ inr (found.0, found.1, found.2)
        ]
        | inr new ↦
            let same : row ≡ other = one_info architecture _ row other h.is_field.is_row (subst (λ x. IsField architecture bytes section x other) new is_other).is_row in
            inr (
              (ap (offset_at bytes) new ∙ h.offset_is),
              (subst (λ x. field_end bytes section x other ≡ field.offset + field.len) (sym new)
                  (subst (λ x. field_end bytes section k x ≡ field.offset + field.len) same h.end_is)),
              (subst (λ x. IsContinued x field) same (own_continued architecture bytes section k row field h)),
            )
      ];
    }

-- ---- a field that isn't clear

pub overlapped : (architecture : Architecture) (bytes section : List ℕ) (IsSeen : ℕ → Type 0)
    (last : Field) (k : ℕ) (row : RowInfo) (field : Field)
    → AreClaimed architecture bytes section IsSeen last
    → IsField architecture bytes section k row → offset_at bytes k ≡ field.offset
    → row.kind ≡ field.kind → (is_of_pair row ≡ false → window_len row ≡ field.len)
    → last.offset ≤ field.offset → is_clear_of field last ≡ false
    → (at : IsLastField architecture bytes section IsSeen last)
    × Overlap bytes section at.index at.row k row
    × ((begins_pair at.row.size at.row.kind ≡ true → at.index + 1 ≡ k → ends_pair row.size row.kind ≡ true → ⊥)
    → Composes bytes at.index at.row k row → ⊥)
overlapped architecture bytes section IsSeen last k row field claimed is_field p kind_is window_is order clear =
    let not = not_clear field last order clear in
    let near = not.0 in
    let at = claimed.is_last (omega (arith, near, order)) in
    let o = at.offset_is in let e = at.end_is in (
      at,
      ((omega (arith, o, p, is_field.some, order)), (omega (arith, p, e, near))),
      (λ no_pair composes. elim composes [
        | of_number offset window on ↦
            let kinds : continues last.kind field.kind ≡ true =
            subst (λ x. continues x field.kind ≡ true) at.kind_is (subst (λ x. continues at.row.kind x ≡ true) kind_is on) in
            not.1 (record {
              offset_is = sym p ∙ (sym offset ∙ o);
              len_is = sym (window_is (second_is_none at.row.kind row.kind row.size on)) ∙ (sym window ∙ (at.continued field.kind kinds).0);
              continues_is = kinds;
            })
        | of_pair offset next begins ends ↦ no_pair begins (sym next) ends
      ]),
    )

-- the last field is also that of one of more
last_kept : (architecture : Architecture) (bytes section : List ℕ) (IsSeen IsSeenNow : ℕ → Type 0)
    (last : Field) → ((i : ℕ) → IsSeen i → IsSeenNow i)
    → IsLastField architecture bytes section IsSeen last
    → IsLastField architecture bytes section IsSeenNow last
last_kept architecture bytes section IsSeen IsSeenNow last kept at =
    record {
      index = at.index;
      seen = kept at.index at.seen;
      row = at.row;
      is_field = at.is_field;
      offset_is = at.offset_is;
      end_is = at.end_is;
      kind_is = at.kind_is;
      continued = at.continued;
    }

-- ---- the second of a pair, at the first's field

pub apart_pair : (architecture : Architecture) (bytes section : List ℕ)
    (IsSeen IsSeenNow : ℕ → Type 0) (k : ℕ) (row other : RowInfo)
    → OneMore IsSeen IsSeenNow (k + 1) → IsSeen k → ApartIn architecture bytes section IsSeen
    → IsField architecture bytes section k row → begins_pair row.size row.kind ≡ true
    → IsField architecture bytes section (k + 1) other
    → offset_at bytes (k + 1) ≡ offset_at bytes k
    → field_end bytes section (k + 1) other ≡ field_end bytes section k row
    → ends_pair other.size other.kind ≡ true → ApartIn architecture bytes section IsSeenNow
apart_pair architecture bytes section IsSeen IsSeenNow k row other more seen apart is_field begins is_other same_offset same_end ends i j one next seen_i seen_j below is_one is_next overlap =
    let overlap_0 = overlap.0 in let overlap_1 = overlap.1 in
    elim (more.before i seen_i) [
      | inl was_i ↦ elim (more.before j seen_j) [
        | inl was_j ↦ apart i j one next was_i was_j below is_one is_next overlap
        | inr new ↦
            let same : other ≡ next = one_info architecture _ other next is_other.is_row (subst (λ x. IsField architecture bytes section x next) new is_next).is_row in
            let o = ap (offset_at bytes) new in
            let end : field_end bytes section j next ≡ field_end bytes section k row =
            subst (λ x. field_end bytes section x next ≡ field_end bytes section k row) (sym new)
            (subst (λ x. field_end bytes section (k + 1) x ≡ field_end bytes section k row) same same_end) in
            elim (cases_eq i k) [
              | inl is ↦
                  let first : row ≡ one = one_info architecture _ row one is_field.is_row
                  (subst (λ x. IsField architecture bytes section x one) is is_one).is_row in
                  of_pair (ap (offset_at bytes) is ∙ (sym same_offset ∙ sym o)) (new ∙ ap (λ x. x + 1) (sym is))
                  (subst (λ x. begins_pair x.size x.kind ≡ true) first begins)
                  (subst (λ x. ends_pair x.size x.kind ≡ true) same ends)
              | inr isnt ↦
                  absurd (elim (apart i k one row was_i seen (omega (arith, isnt, below, new)) is_one is_field
                  ((omega (arith, overlap_0, end)), (omega (arith, overlap_1, o, same_offset)))) [
                    | of_number offset window on ↦
                        true≢false (sym on ∙ begun_is_continued_none row.size row.kind one.kind begins)
                    | of_pair offset after begun ended ↦
                        true≢false (sym ended ∙ begun_ends_none row.size row.kind begins)
                  ])
            ]
      ]
      | inr new ↦ elim (more.before j seen_j) [
        | inl was_j ↦
            let here : IsField architecture bytes section (k + 1) one = subst (λ x. IsField architecture bytes section x one) new is_one in
            let end : field_end bytes section i one ≡ field_end bytes section k row =
            subst (λ x. field_end bytes section x one ≡ field_end bytes section k row) (sym new)
            (subst (λ x. field_end bytes section (k + 1) x ≡ field_end bytes section k row) (one_info architecture _ other one is_other.is_row here.is_row) same_end) in
            absurd (elim (apart k j row next seen was_j (omega (arith, below, new)) is_field is_next
            ((omega (arith, overlap_0, (ap (offset_at bytes) new), same_offset)), (omega (arith, overlap_1, end)))) [
              | of_number offset window on ↦
                  true≢false (sym on ∙ begun_continues_none row.size row.kind next.kind begins)
              | of_pair offset after begun ended ↦ omega (arith, after, new, below)
            ])
        | inr also ↦ absurd (omega (arith, new, also, below))
      ]
    ]

pub claimed_pair : (architecture : Architecture) (bytes section : List ℕ)
    (IsSeen IsSeenNow : ℕ → Type 0) (k : ℕ) (row other : RowInfo) (field : Field)
    → OneMore IsSeen IsSeenNow (k + 1) → AreClaimed architecture bytes section IsSeen field
    → HasField architecture bytes section k row field → begins_pair row.size row.kind ≡ true
    → offset_at bytes (k + 1) ≡ offset_at bytes k
    → IsField architecture bytes section (k + 1) other
    → field_end bytes section (k + 1) other ≡ field_end bytes section k row
    → AreClaimed architecture bytes section IsSeenNow field
claimed_pair architecture bytes section IsSeen IsSeenNow k row other field more claimed h begins same_offset is_other same_end =
    record {
      is_last = λ some. last_kept architecture bytes section IsSeen IsSeenNow field more.kept (claimed.is_last some);
      others = λ i next seen is_next. elim (more.before i seen) [
        | inl was ↦ claimed.others i next was is_next
        | inr new ↦
            let here : IsField architecture bytes section (k + 1) next = subst (λ x. IsField architecture bytes section x next) new is_next in
            inr (
              (ap (offset_at bytes) new ∙ (same_offset ∙ h.offset_is)),
              (subst (λ x. field_end bytes section x next ≡ field.offset + field.len) (sym new)
                  (subst (λ x. field_end bytes section (k + 1) x ≡ field.offset + field.len) (one_info architecture _ other next is_other.is_row here.is_row) (same_end ∙ h.end_is))),
              (λ kind is. absurd (true≢false (sym is ∙ subst (λ x. continues x kind ≡ false) h.kind_is (begun_continues_none row.size row.kind kind begins)))),
            )
      ];
    }

-- ---- indexes below a number

pub to_in : (architecture : Architecture) (bytes section : List ℕ) (k : ℕ)
    → AreApart architecture bytes section k → ApartIn architecture bytes section (λ i. i < k)
to_in architecture bytes section k apart i j row other seen_i seen_j below is_field is_other overlap =
    apart i j row other below seen_j is_field is_other overlap

pub from_in : (architecture : Architecture) (bytes section : List ℕ) (k : ℕ)
    → ApartIn architecture bytes section (λ i. i < k) → AreApart architecture bytes section k
from_in architecture bytes section k apart i j row other below under is_field is_other overlap =
    apart i j row other (omega (arith, below, under)) under below is_field is_other overlap

-- ---- a relocation without a field

-- those that are seen now were seen before, or have never field
abbrev pub HaveNone : Architecture → List ℕ → List ℕ → (ℕ → Type 0) → (ℕ → Type 0) → Type 0
HaveNone architecture bytes section IsSeen IsSeenNow =
    (i : ℕ) → IsSeenNow i
    → IsSeen i ⊎ ((row : RowInfo) → IsField architecture bytes section i row → ⊥)

pub apart_without : (architecture : Architecture) (bytes section : List ℕ)
    (IsSeen IsSeenNow : ℕ → Type 0) → HaveNone architecture bytes section IsSeen IsSeenNow
    → ApartIn architecture bytes section IsSeen → ApartIn architecture bytes section IsSeenNow
apart_without architecture bytes section IsSeen IsSeenNow none apart i j row other seen_i seen_j below is_field is_other overlap =
    elim (none i seen_i) [
      | inr without ↦ absurd (without row is_field)
      | inl was_i ↦ elim (none j seen_j) [
        | inr without ↦ absurd (without other is_other)
        | inl was_j ↦ apart i j row other was_i was_j below is_field is_other overlap
      ]
    ]

pub claimed_without : (architecture : Architecture) (bytes section : List ℕ)
    (IsSeen IsSeenNow : ℕ → Type 0) (last : Field)
    → HaveNone architecture bytes section IsSeen IsSeenNow → ((i : ℕ) → IsSeen i → IsSeenNow i)
    → AreClaimed architecture bytes section IsSeen last
    → AreClaimed architecture bytes section IsSeenNow last
claimed_without architecture bytes section IsSeen IsSeenNow last none kept claimed =
    record {
      is_last = λ some. last_kept architecture bytes section IsSeen IsSeenNow last kept (claimed.is_last some);
      others = λ i other seen is_other. elim (none i seen) [
        | inr without ↦ absurd (without other is_other)
        | inl was ↦ claimed.others i other was is_other
      ];
    }

none_below : (architecture : Architecture) (bytes section : List ℕ) (k : ℕ)
    → ((row : RowInfo) → IsField architecture bytes section k row → ⊥)
    → HaveNone architecture bytes section (λ i. i < k) (λ i. i < k + 1)
none_below architecture bytes section k none i under =
    elim (cases_eq i k) [
      | inl is ↦ inr (λ row is_field. none row (subst (λ x. IsField architecture bytes section x row) is is_field))
      | inr isnt ↦ inl (omega (arith, isnt, under))
    ]

pub apart_mark : (architecture : Architecture) (bytes section : List ℕ) (k : ℕ)
    → ((row : RowInfo) → IsField architecture bytes section k row → ⊥)
    → AreApart architecture bytes section k → AreApart architecture bytes section (k + 1)
apart_mark architecture bytes section k none apart =
    from_in architecture bytes section (k + 1)
    (apart_without architecture bytes section (λ i. i < k) (λ i. i < k + 1) (none_below architecture bytes section k none)
    (to_in architecture bytes section k apart))

pub claimed_mark : (architecture : Architecture) (bytes section : List ℕ) (k : ℕ) (last : Field)
    → ((row : RowInfo) → IsField architecture bytes section k row → ⊥)
    → AreClaimed architecture bytes section (λ i. i < k) last
    → AreClaimed architecture bytes section (λ i. i < k + 1) last
claimed_mark architecture bytes section k last none claimed =
    claimed_without architecture bytes section (λ i. i < k) (λ i. i < k + 1) last (none_below architecture bytes section k none)
    (λ i below. omega (arith, below)) claimed

pub one_below : (k : ℕ) → OneMore (λ i. i < k) (λ i. i < k + 1) k
one_below k =
    record {
      before = λ i below. elim (cases_eq i k) [ inl is ↦ inr is | inr isnt ↦ inl (omega (arith, isnt, below)) ];
      kept = λ i below. omega (arith, below);
      now = omega arith;
    }

pub pair_below : (k : ℕ) → OneMore (λ i. i < k + 1) (λ i. i < k + 2) (k + 1)
pair_below k =
    record {
      before = λ i below. elim (cases_eq i (k + 1)) [ inl is ↦ inr is | inr isnt ↦ inl (omega (arith, isnt, below)) ];
      kept = λ i below. omega (arith, below);
      now = omega arith;
    }

-- ---- two fields

pub pair_begins : (architecture : Architecture) (bytes : List ℕ) (i j : ℕ)
    (row other : RowInfo) → offset_at bytes i ≡ offset_at bytes j → j ≡ i + 1
    → j < length bytes / 24 → begins_pair row.size row.kind ≡ true
    → ends_pair other.size other.kind ≡ true
    → IsRow architecture (relocation_in bytes i).r_type (Some row)
    → IsRow architecture (relocation_in bytes j).r_type (Some other) → BeginsPair architecture bytes i
pair_begins architecture bytes i j row other offset next under begins ends is_row is_other =
    record {
      within = omega (arith, under, next);
      same_offset = ap (offset_at bytes) (sym next) ∙ sym offset;
      row = row;
      is_row = is_row;
      begins = begins;
      other = other;
      is_other = subst (λ x. IsRow architecture (relocation_in bytes x).r_type (Some other)) next is_other;
      ends = ends;
    }

-- a collision
pub ordered_overlapped : (architecture : Architecture) (bytes section : List ℕ) (i j : ℕ)
    (row other : RowInfo) (first second : Field) → i < j → j < length bytes / 24
    → HasField architecture bytes section i row first
    → HasField architecture bytes section j other second → first.offset ≤ second.offset
    → is_clear_of second first ≡ false
    → (j ≡ i + 1 → BeginsPair architecture bytes i → ⊥)
    → IsOverlapped architecture bytes section j
ordered_overlapped architecture bytes section i j row other first second below under h g order clear no_pair =
    let not = not_clear second first order clear in
    let some = g.is_field.some in let o = h.offset_is in let p = g.offset_is in let e = h.end_is in
    record {
      earlier = i;
      order = below;
      row = row;
      is_field = h.is_field;
      other = other;
      is_other = g.is_field;
      overlap = ((omega (arith, o, p, some, order)), (omega (arith, p, e, not.0)));
      apart = λ composes. elim composes [
        | of_number offset window on ↦ not.1 (record {
          offset_is = sym p ∙ (sym offset ∙ o);
          len_is = sym (g.window_is (second_is_none row.kind other.kind other.size on)) ∙ (sym window ∙ h.window_is (first_is_none row.kind other.kind row.size on));
          continues_is = subst (λ x. continues x second.kind ≡ true) h.kind_is (subst (λ x. continues row.kind x ≡ true) g.kind_is on);
        })
        | of_pair offset next begins ends ↦
            no_pair next (pair_begins architecture bytes i j row other offset next under begins ends h.is_field.is_row g.is_field.is_row)
      ];
    }

pub after_overlapped : (architecture : Architecture) (bytes section : List ℕ) (i j : ℕ)
    (row other : RowInfo) (first second : Field) → i < j
    → HasField architecture bytes section i row first
    → HasField architecture bytes section j other second → second.offset < first.offset
    → is_clear_of first second ≡ false → IsOverlapped architecture bytes section j
after_overlapped architecture bytes section i j row other first second below h g order clear =
    let some = h.is_field.some in let o = h.offset_is in let p = g.offset_is in let e = g.end_is in
    record {
      earlier = i;
      order = below;
      row = row;
      is_field = h.is_field;
      other = other;
      is_other = g.is_field;
      overlap = ((omega (arith, o, e, (not_clear first second (omega (arith, order)) clear).0)), (omega (arith, o, p, some, order)));
      apart = λ composes. elim composes [
        | of_number offset window on ↦ omega (arith, offset, o, p, order)
        | of_pair offset next begins ends ↦ omega (arith, offset, o, p, order)
      ];
    }

pub begun_of : (architecture : Architecture) (bytes : List ℕ) (first : ℕ) (result : Option Rela)
    → is_some result ≡ true
    → IfSome result (λ second. (second ≡ relocation_in bytes (first + 1)) × BeginsPair architecture bytes first)
    → BeginsPair architecture bytes first
begun_of architecture bytes first None is found = never is
begun_of architecture bytes first (Some second) is found = found.1
