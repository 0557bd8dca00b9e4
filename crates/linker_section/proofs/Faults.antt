-- The first relocation that can't be written is that by the section before all writes.
use Rattle.linker_section.proofs.Imports.{Addresses, AllContinue, Architecture, AreApart, AreRelocated, BeginsPair, DoesNotFit, Ended, IsCause, IsCauseAt, IsField, IsFirstFaultBy, IsFirstRejectedBy, IsNotAccepted, IsOfValue, IsOtherLength, IsPairRejected, IsUlebCause, IsUnwritable, List, Misaligned, OtherLength, OutOfReach, Overlaps, RelocateError, RelocationError, RowInfo, SectionError, TooLarge, TooShort, Uleb128, Uleb128Error, Unsupported, Value, Values, Write, [], ap, arith, begins_pair, cases_eq, cond-false, cond_both, drop, drop_all, ends_pair, field_len, get_or-take, inl, inr, le-ltb, length, length-drop, ltb, offset_at, or_left, refl, slice_index, subst, suc, sym, take, take-append-drop, take_all, uleb_len, zero, ℕ, ℤ, ◌+◌, ◌<◌, ◌^◌, ◌∙◌, ◌∷◌, ◌≡◌, ◌≤◌, ◌⊎◌}
use Rattle.linker_section.proofs.All.{untouched, pair_first, same_uleb}
use Rattle.linker_section.proofs.Composing.{begun_has_value}
use Rattle.linker_section.proofs.Fielded.{found_of, uses, found_are, are_inside, are_accepted, front_at, same_at}
use Rattle.linker_section.proofs.Fronts.{HaveSameWindow, multiple_same, reached_same, window_back}
use Rattle.linker_section.proofs.Held.{field_untouched}
use Rattle.linker_section.proofs.Lengths.{offset_same, length_same, shows_same}
use Rattle.linker_section.proofs.Stepping.{len_paired}
use Rattle.linker_section.proofs.Ulebs.{some_uleb, uleb_len_is, uleb_same, pair_number_from}

-- ---- a value of one relocation

-- what rejects a value depends on the window and on the count of bytes
cause_same : (row : RowInfo) (v : ℤ) (xs ys : List ℕ) (error : RelocateError)
    → HaveSameWindow row.size xs ys → length ys ≡ length xs → IsCause row v xs error
    → IsCause row v ys error
cause_same row v xs ys Unsupported same len cause = cause
cause_same row v xs ys TooShort same len cause =
    let short = cause.1 in (cause.0, omega (arith, short, len))
cause_same row v xs ys Misaligned same len cause =
    let long = cause.1 in (
      cause.0,
      omega (arith, long, len),
      λ is. cause.2 (multiple_same row v ys xs (window_back row.size xs ys same) is),
    )
cause_same row v xs ys OutOfReach same len cause =
    let long = cause.1 in (
      cause.0,
      omega (arith, long, len),
      multiple_same row v xs ys same (cause.2),
      λ is. cause.3 (reached_same row v ys xs (window_back row.size xs ys same) is),
    )

rejected_same : (row : RowInfo) (v : ℤ) (o : ℕ) (now before : List ℕ)
    (error : RelocateError) → HaveSameWindow row.size (drop o now) (drop o before)
    → length now ≡ length before → IsUnwritable row v o now error
    → IsUnwritable row v o before error
rejected_same row v o now before error same len (inl rejected) =
    inl (record {
      outside = λ past. rejected.outside (omega (arith, past, len));
      inside = λ within. cause_same row v (drop o now) (drop o before) error same
          (let d = length-drop o before in let dn = length-drop o now in omega (arith, d, dn, len))
          (rejected.inside (omega (arith, within, len)));
    })
rejected_same row v o now before error same len (inr out) =
    let d = length-drop o before in let dn = length-drop o now in
    let inside = out.inside in let long = out.long in
    inr (record {
      is_error = out.is_error;
      inside = omega (arith, inside, len);
      long = omega (arith, long, d, dn, len);
      other = sym (offset_same row v (drop o now) (drop o before) same) ∙ out.other;
    })

-- ---- the number of a pair

continues_all : (fuel : ℕ) (xs : List ℕ) → length xs ≤ fuel → AllContinue (length xs) xs
    → uleb_len (take fuel xs) ≡ length xs
continues_all zero [] most continue = refl
continues_all (suc fuel) [] most continue = refl
continues_all zero (b ∷ xs) most continue = absurd (omega (arith, most))
continues_all (suc fuel) (b ∷ xs) most continue =
    cond-false (ltb b 0x80) 1 (1 + uleb_len (take fuel xs)) (le-ltb b 0x80 (continue 0 (omega arith)))
    ∙ (ap (λ n. 1 + n) (continues_all fuel xs (omega (arith, most)) (λ j below. continue (suc j) (omega (arith, below))))
    ∙ omega arith)

continues_to : (last : ℕ) (xs : List ℕ) → last < length xs → AllContinue last xs
    → uleb_len (take (suc last) xs) ≡ suc last
continues_to last [] there continue = absurd (omega (arith, there))
continues_to zero (b ∷ xs) there continue =
    cond_both (ltb b 0x80) 1 (1 + uleb_len (take 0 xs)) (λ n. n ≡ 1) (λ _. refl) (λ _. refl)
continues_to (suc last) (b ∷ xs) there continue =
    cond-false (ltb b 0x80) 1 (1 + uleb_len (take (suc last) xs)) (le-ltb b 0x80 (continue 0 (omega arith)))
    ∙ (ap (λ n. 1 + n) (continues_to last xs (omega (arith, there)) (λ j below. continue (suc j) (omega (arith, below))))
    ∙ omega arith)

-- bytes that begin with the same bytes, as many as their number has
cause_of_number : (xs ys : List ℕ) (number : ℕ) (error : Uleb128Error)
    → take (uleb_len (take 10 xs)) ys ≡ take (uleb_len (take 10 xs)) xs → length ys ≡ length xs
    → IsUlebCause xs number error → IsUlebCause ys number error
cause_of_number xs ys number Ended same len cause =
    let all : uleb_len (take 10 xs) ≡ length xs = continues_all 10 xs (let s = cause.short in omega (arith, s)) cause.continue in
    let whole : ys ≡ xs = sym (take_all (length xs) ys (omega (arith, len))) ∙ (subst (λ k. take k ys ≡ take k xs) all same ∙ take_all (length xs) xs (omega arith)) in
    subst (λ l. IsUlebCause l number Ended) (sym whole) cause
cause_of_number xs ys number TooLarge same len cause =
    let byte : (j : ℕ) → j < 10 → slice_index xs j ≡ slice_index ys j =
    λ j below. sym (get_or-take 10 xs j 0 below)
    ∙ (ap (λ l. slice_index l j) (sym (subst (λ k. take k ys ≡ take k xs) (continues_to 9 xs cause.long cause.continue) same)) ∙ get_or-take 10 ys j 0 below) in
    record {
      long = omega (arith, cause.long, len);
      continue = λ j below. subst (λ b. 0x80 ≤ b) (byte j (omega (arith, below))) (cause.continue j below);
      tenth = subst (λ b. 1 < b) (byte 9 (omega arith)) cause.tenth;
    }
cause_of_number xs ys number DoesNotFit same len cause =
    let u = cause.there in
    let there = uleb_same xs ys cause.old cause.rest u
    (subst (λ k. take k ys ≡ take k xs) (uleb_len_is xs cause.old cause.rest u) same) (omega (arith, u.there, len)) in
    record {
      old = cause.old;
      rest = drop (u.last + 1) ys;
      there = there.0;
      above = subst (λ k. 128 ^ (k + 1) ≤ number) (sym (there.1)) cause.above;
    }

-- ---- by the section before

module _ (architecture : Architecture) (addresses : Addresses) (bytes : List ℕ) (values : Values) (before now : List ℕ) where
  write_cause : (n : ℕ) (error : RelocateError)
      → AreRelocated architecture addresses bytes values before n now
      → AreApart architecture bytes before (n + 1)
      → IsNotAccepted architecture addresses bytes values n now error
      → IsNotAccepted architecture addresses bytes values n before error
  write_cause n error relocated apart not =
      let so_far = untouched architecture addresses bytes before values (λ i j x y less under. apart i j x y less (omega (arith, under))) relocated in
      let row = not.row in
      record {
        row = row;
        value = not.value;
        has_value = not.has_value;
        length_shown = length_same row (offset_at bytes n) now before
            (front_at architecture addresses bytes values before (n + 1) apart (found_of relocated) row not.value row.size refl (omega arith) relocated not.has_value)
            (so_far.0) not.length_shown;
        rejected = rejected_same row not.value (offset_at bytes n) now before error
            (same_at architecture addresses bytes values before (n + 1) apart (found_of relocated) row not.value row.size refl (omega arith) relocated not.has_value)
            (so_far.0) not.rejected;
        alone = not.alone;
      }

  length_cause : (n : ℕ) → AreRelocated architecture addresses bytes values before n now
      → AreApart architecture bytes before (n + 1)
      → IsOtherLength architecture addresses bytes values n now
      → IsOtherLength architecture addresses bytes values n before
  length_cause n relocated apart other =
      let so_far = untouched architecture addresses bytes before values (λ i j x y less under. apart i j x y less (omega (arith, under))) relocated in
      let row = other.row in
      let o = offset_at bytes n in
      let d = length-drop o before in let dn = length-drop o now in let len = so_far.0 in
      let inside = other.inside in let long = other.long in
      record {
        row = row;
        value = other.value;
        has_value = other.has_value;
        inside = omega (arith, inside, len);
        long = omega (arith, long, d, dn, len);
        other = sym (shows_same row.size (drop o now) (drop o before)
            (front_at architecture addresses bytes values before (n + 1) apart (found_of relocated) row other.value row.size refl (omega arith) relocated other.has_value))
            ∙ other.other;
      }

  number_cause : (n : ℕ) (error : Uleb128Error)
      → AreRelocated architecture addresses bytes values before n now
      → AreApart architecture bytes before (n + 1)
      → IsPairRejected architecture addresses bytes values n now error
      → IsPairRejected architecture addresses bytes values n before error
  number_cause n error relocated apart rejected =
      let so_far = untouched architecture addresses bytes before values (λ i j x y less under. apart i j x y less (omega (arith, under))) relocated in
      let o = offset_at bytes n in
      let pair = rejected.pair in
      let row = pair.row in
      let d = length-drop o before in let dn = length-drop o now in let len = so_far.0 in
      let lengths : length (drop o before) ≡ length (drop o now) = omega (arith, d, dn, len) in
      let width : field_len row (drop o before) ≡ uleb_len (take 10 (drop o before)) =
      len_paired row (drop o before) (begun_has_value row.size row.kind pair.begins) (or_left (begins_pair row.size row.kind) (ends_pair row.size row.kind) pair.begins) in
      let w = uleb_len (take 10 (drop o before)) in
      let same : take w (drop o now) ≡ take w (drop o before) = elim (cases_eq (length (drop o before)) 0) [
        | inl empty ↦
            ap (take w) (sym (take-append-drop 0 (drop o now)) ∙ (drop_all 0 (drop o now) (omega (arith, empty, lengths))
            ∙ sym (sym (take-append-drop 0 (drop o before)) ∙ drop_all 0 (drop o before) (omega (arith, empty)))))
        | inr isnt ↦
            let some = some_uleb (drop o before) (omega (arith, isnt)) in
            let is_field : IsField architecture bytes before n row = record { is_row = pair.has_value.is_row; some = omega (arith, some, width) } in
            subst (λ k. take k (drop o now) ≡ take k (drop o before)) width
            (field_untouched architecture bytes before n row now so_far (pair_first architecture bytes before n row apart is_field pair.begins))
      ] in
      let same_len : uleb_len (take 10 (drop o now)) ≡ w =
      same_uleb 10 (drop o before) (drop o now) (sym lengths)
      (λ j below. sym (get_or-take w (drop o now) j 0 below) ∙ (ap (λ l. slice_index l j) same ∙ get_or-take w (drop o before) j 0 below)) in
      record {
        number = rejected.number;
        pair = record {
          same_offset = pair.same_offset;
          row = row;
          value = pair.value;
          has_value = pair.has_value;
          begins = pair.begins;
          other = pair.other;
          subtracted = pair.subtracted;
          has_subtracted = pair.has_subtracted;
          ends = pair.ends;
          is_number = pair_number_from pair.other.kind (drop o now) (drop o before) pair.value pair.subtracted rejected.number
              (λ old rest u.
              let inside = u.there in (
                _,
                (uleb_same (drop o before) (drop o now) old rest u
                    (subst (λ k. take k (drop o now) ≡ take k (drop o before)) (uleb_len_is (drop o before) old rest u) same)
                    (omega (arith, inside, lengths))).0,
              )) pair.is_number;
        };
        cause = cause_of_number (drop o now) (drop o before) rejected.number error
            (subst (λ k. take k (drop o before) ≡ take k (drop o now)) (sym same_len) (sym same)) lengths rejected.cause;
      }

  by_before : (written i : ℕ) (error : RelocationError)
      → (i ≡ written) ⊎ ((i ≡ written + 1) × BeginsPair architecture bytes written × IsOfValue error)
      → AreRelocated architecture addresses bytes values before written now
      → IsCauseAt architecture addresses bytes values before i now error
      → IsCauseAt architecture addresses bytes values before i before error
  by_before written i (Value error) next relocated cause = cause
  by_before written i Overlaps next relocated cause = cause
  by_before written i OtherLength (inl is) relocated cause = (
    cause.0,
    length_cause i (subst (λ n. AreRelocated architecture addresses bytes values before n now) (sym is) relocated) (cause.0) (cause.1),
  )
  by_before written i OtherLength (inr is) relocated cause = absurd (is.2)
  by_before written i (Write error) (inl is) relocated cause = (
    cause.0,
    elim (cause.1) [
      | inl not ↦ inl (write_cause i error (subst (λ n. AreRelocated architecture addresses bytes values before n now) (sym is) relocated) (cause.0) not)
      | inr left ↦ inr left
    ],
  )
  by_before written i (Write error) (inr is) relocated cause = absurd (is.2)
  by_before written i (Uleb128 error) (inl is) relocated cause = (
    cause.0,
    number_cause i error (subst (λ n. AreRelocated architecture addresses bytes values before n now) (sym is) relocated) (cause.0) (cause.1),
  )
  by_before written i (Uleb128 error) (inr is) relocated cause = absurd (is.2)

next_most : {A B : Type 0} (i written : ℕ) → (i ≡ written) ⊎ ((i ≡ written + 1) × A × B) → written ≤ i
next_most i written (inl is) = omega (arith, is)
next_most i written (inr is) = let e = is.0 in omega (arith, e)

pub first_fault : (architecture : Architecture) (addresses : Addresses) (bytes : List ℕ)
    (values : Values) (before : List ℕ) (error : SectionError)
    → IsFirstRejectedBy architecture addresses bytes values before error
    → IsFirstFaultBy architecture addresses bytes values before error
first_fault architecture addresses bytes values before error rejected =
    let found = found_of rejected.relocated in
    let used = uses architecture addresses bytes values before error.index rejected.apart found rejected.relocated (λ i below. refl) in
    record {
      within = rejected.within;
      written = rejected.written;
      is_next = rejected.is_next;
      found = found;
      are_found = found_are architecture addresses bytes values before error.index rejected.apart found rejected.relocated used;
      apart = rejected.apart;
      accepted = are_accepted architecture addresses bytes values before error.index rejected.apart found rejected.relocated (next_most error.index rejected.written rejected.is_next) used;
      inside = are_inside architecture addresses bytes values before error.index rejected.apart found rejected.relocated used;
      cause = by_before architecture addresses bytes values before rejected.now rejected.written error.index error.error rejected.is_next rejected.relocated rejected.cause;
    }
