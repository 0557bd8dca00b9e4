-- Two runs of relocations by ascending offsets, gone through by offset.
use Rattle.linker_section.proofs.Imports.{Architecture, AreApart, ArePast, AreSmall, IsField, IsOfRuns, IsPast, IsRow, List, Rela, RowInfo, Some, ap, arith, cases_Bool, cases_eq, cases_lt, cond-false, drop, false, field_end, field_len, has_value, inl, inr, is_of_pair, length, ltb-true, offset_at, relocation_in, subst, true, window_len, ℕ, ◌+◌, ◌/◌, ◌<◌, ◌≡◌, ◌≤◌}
use Rattle.linker_section.proofs.Claims.{OneMore}
use Rattle.linker_section.proofs.RowFacts.{says_way}
use Rattle.linker_section.proofs.Stepping.{len_alone, len_paired}
use Rattle.linker_section.proofs.Ulebs.{uleb_len_most}

-- ---- fields are small

pub len_within : (row : RowInfo) (there : List ℕ) → is_of_pair row ≡ false
    → field_len row there ≤ window_len row
len_within row there alone =
    elim (cases_Bool (has_value row.kind)) [
      | inl has ↦ let e = len_alone row there has alone in omega (arith, e)
      | inr isnt ↦ let e : field_len row there ≡ 0 = cond-false {A = ℕ} (has_value row.kind) _ 0 isnt in omega (arith, e)
    ]

pair_within : (row : RowInfo) (there : List ℕ) → is_of_pair row ≡ true
    → field_len row there ≤ 10
pair_within row there paired =
    elim (cases_Bool (has_value row.kind)) [
      | inl has ↦ let e = len_paired row there has paired in let most = uleb_len_most 10 there in omega (arith, e, most)
      | inr isnt ↦ let e : field_len row there ≡ 0 = cond-false {A = ℕ} (has_value row.kind) _ 0 isnt in omega (arith, e)
    ]

pub fields_small : (architecture : Architecture) (bytes section : List ℕ)
    → AreSmall architecture bytes section
fields_small architecture bytes section i row below is_field =
    let there = drop (offset_at bytes i) section in
    elim (cases_Bool (is_of_pair row)) [
      | inl paired ↦ pair_within row there paired
      | inr alone ↦
          omega (arith, (len_within row there alone), (ltb-true (window_len row) 11 (says_way architecture _ row is_field.is_row).narrow))
    ]

-- ---- one more field

pub past_more : (architecture : Architecture) (bytes section : List ℕ)
    (IsSeen IsSeenNow : ℕ → Type 0) (k : ℕ) (last : Rela) → OneMore IsSeen IsSeenNow k
    → ((i : ℕ) → IsSeen i → i < length bytes / 24) → AreSmall architecture bytes section
    → IsPast architecture last (relocation_in bytes k)
    → ArePast architecture bytes section IsSeen last
    → ArePast architecture bytes section IsSeenNow (relocation_in bytes k)
past_more architecture bytes section IsSeen IsSeenNow k last more within small next past =
    let ends : (i : ℕ) (row : RowInfo) → IsSeen i → IsField architecture bytes section i row
    → field_end bytes section i row ≤ offset_at bytes k =
    λ i row seen is_field. elim (past.before i row seen is_field) [
      | inl before ↦ let o = next.0 in omega (arith, before, o)
      | inr same ↦
          let e = next.1 row (drop (offset_at bytes i) section)
          (subst (λ r. IsRow architecture r.r_type (Some row)) same is_field.is_row) (small i row (within i seen) is_field) in
          omega (arith, (ap (λ r. r.offset) same), e)
    ] in
    record {
      apart = λ i j row other seen_i seen_j below is_field is_other overlap.
          let o = overlap.0 in let p = overlap.1 in
          elim (more.before i seen_i) [
            | inl was_i ↦ elim (more.before j seen_j) [
              | inl was_j ↦ past.apart i j row other was_i was_j below is_field is_other overlap
              | inr new ↦ let e = ends i row was_i is_field in let n = ap (offset_at bytes) new in absurd (omega (arith, e, p, n))
            ]
            | inr new ↦ elim (more.before j seen_j) [
              | inl was_j ↦ let e = ends j other was_j is_other in let n = ap (offset_at bytes) new in absurd (omega (arith, e, o, n))
              | inr also ↦ absurd (omega (arith, new, also, below))
            ]
          ];
      before = λ i row seen is_field. elim (more.before i seen) [
        | inl was ↦ inl (ends i row was is_field)
        | inr new ↦ inr (ap (relocation_in bytes) new)
      ];
    }

-- in both runs

pub past_first : (architecture : Architecture) (bytes section : List ℕ)
    (start first second : ℕ) (last : Rela) → first < start → start ≤ length bytes / 24
    → AreSmall architecture bytes section → IsPast architecture last (relocation_in bytes first)
    → ArePast architecture bytes section (IsOfRuns bytes start first second) last
    → ArePast architecture bytes section (IsOfRuns bytes start (first + 1) second) (relocation_in bytes first)
past_first architecture bytes section start first second last there within =
    past_more architecture bytes section (IsOfRuns bytes start first second) (IsOfRuns bytes start (first + 1) second) first last
    (record {
      before = λ i seen. elim (seen.1) [
        | inl under ↦ elim (cases_eq i first) [
          | inl is ↦ inr is
          | inr isnt ↦ inl (seen.0, inl (omega (arith, under, isnt)))
        ]
        | inr other ↦ inl (seen.0, inr other)
      ];
      kept = λ i seen. elim (seen.1) [
        | inl under ↦ (seen.0, inl (omega (arith, under)))
        | inr other ↦ (seen.0, inr other)
      ];
      now = ((omega (arith, there, within)), inl (omega arith));
    })
    (λ i seen. seen.0)

pub past_second : (architecture : Architecture) (bytes section : List ℕ)
    (start first second : ℕ) (last : Rela) → start ≤ second → second < length bytes / 24
    → AreSmall architecture bytes section → IsPast architecture last (relocation_in bytes second)
    → ArePast architecture bytes section (IsOfRuns bytes start first second) last
    → ArePast architecture bytes section (IsOfRuns bytes start first (second + 1)) (relocation_in bytes second)
past_second architecture bytes section start first second last from there =
    past_more architecture bytes section (IsOfRuns bytes start first second) (IsOfRuns bytes start first (second + 1)) second last
    (record {
      before = λ i seen. elim (seen.1) [
        | inl under ↦ inl (seen.0, inl under)
        | inr other ↦ elim (cases_eq i second) [
          | inl is ↦ inr is
          | inr isnt ↦ let o = other.1 in inl (seen.0, inr (other.0, omega (arith, o, isnt)))
        ]
      ];
      kept = λ i seen. elim (seen.1) [
        | inl under ↦ (seen.0, inl under)
        | inr other ↦ let o = other.1 in (seen.0, inr (other.0, omega (arith, o)))
      ];
      now = (there, inr (from, omega arith));
    })
    (λ i seen. seen.0)

-- past the last one there is none
pub past_end : (architecture : Architecture) (bytes section : List ℕ) (start first second : ℕ)
    (last : Rela) → length bytes / 24 ≤ second
    → ArePast architecture bytes section (IsOfRuns bytes start first second) last
    → ArePast architecture bytes section (IsOfRuns bytes start first (second + 1)) last
past_end architecture bytes section start first second last end past =
    let fewer : (i : ℕ) → IsOfRuns bytes start first (second + 1) i → IsOfRuns bytes start first second i =
    λ i seen. (
      seen.0,
      elim (seen.1) [
        | inl under ↦ inl under
        | inr other ↦ let b = seen.0 in inr (other.0, omega (arith, b, end))
      ],
    ) in
    record {
      apart = λ i j row other seen_i seen_j. past.apart i j row other (fewer i seen_i) (fewer j seen_j);
      before = λ i row seen. past.before i row (fewer i seen);
    }

pub past_none : (architecture : Architecture) (bytes section : List ℕ) (start : ℕ) (last : Rela)
    → ArePast architecture bytes section (IsOfRuns bytes start 0 start) last
past_none architecture bytes section start last =
    let no : (i : ℕ) → IsOfRuns bytes start 0 start i → ⊥ =
    λ i seen. elim (seen.1) [
      | inl under ↦ omega (arith, under)
      | inr other ↦ let a = other.0 in let b = other.1 in omega (arith, a, b)
    ] in
    record {
      apart = λ i j row other seen_i. absurd (no i seen_i);
      before = λ i row seen. absurd (no i seen);
    }

pub past_all : (architecture : Architecture) (bytes section : List ℕ) (start first second : ℕ)
    (last : Rela) → start ≤ first → length bytes / 24 ≤ second
    → ArePast architecture bytes section (IsOfRuns bytes start first second) last
    → AreApart architecture bytes section (length bytes / 24)
past_all architecture bytes section start first second last all_first all_second past i j row other below under =
    let seen : (k : ℕ) → k < length bytes / 24 → IsOfRuns bytes start first second k =
    λ k there. (
      there,
      elim (cases_lt k start) [
        | inl of_first ↦ inl (omega (arith, of_first, all_first))
        | inr of_second ↦ inr (of_second, omega (arith, there, all_second))
      ],
    ) in
    past.apart i j row other (seen i (omega (arith, below, under))) (seen j under) below
