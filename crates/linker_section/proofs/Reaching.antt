-- What is known of a section before and after some of its values are written.
use Rattle.linker_section.proofs.Imports.{Addresses, Architecture, AreAllRelocatedBy, AreApart, AreRelocated, AreSmall, AreWrittenBelow, Ascends, Err, Field, IsFirstRun, IsFront, IsLimit, IsOwnField, IsQuickStep, IsWritten, IsWrittenAt, List, None, Ok, Option, Reached, RelocateError, Result, RowInfo, Step, Values, ap, arith, cases_eq, clear_in, cond-false, drop, drop-drop, eqb, false, field_of_row, inl, inr, is_clear_of, le-leb, leb, length, length-drop, ne_eqb, next_field, offset_at, or_left, or_right, refl, slice_index, subst, sym, true, true≢false, window_len, ℕ, ℤ, ◌*◌, ◌+◌, ◌-◌, ◌/◌, ◌<◌, ◌^◌, ◌∙◌, ◌≡◌, ◌≤◌}
use Rattle.linker_elf.specs.declared.elf.RelocationKind.TheVariants as kinds
use Rattle.std.specs.Result.{is_err}
use Rattle.linker_section.proofs.All.{all_relocated}
use Rattle.linker_section.proofs.Local.{one_local}
use Rattle.linker_section.proofs.Runs.{fields_small}
use Rattle.linker_section.proofs.Stepping.{first_order, ascends_next, drop_after, one_restores, apart_now, len_alone}
use Rattle.linker_section.proofs.Saving.{restores_by}

pub below_first : (architecture : Architecture) (addresses : Addresses) (bytes : List ℕ)
    (values : Values) (before memory : List ℕ)
    → AreWrittenBelow architecture addresses bytes values before before memory 0
below_first architecture addresses bytes values before memory =
    record {
      within = omega arith;
      relocated = AreRelocated.none;
      restores = refl;
      same_length = refl;
    }

pub reached_first : (architecture : Architecture) (addresses : Addresses) (bytes : List ℕ)
    (values : Values) (limit : Option ℕ) (before memory : List ℕ)
    → IsLimit architecture bytes before limit
    → Reached architecture addresses bytes values limit before before memory 0 (record { offset = 0; len = 0; kind = kinds.None })
reached_first architecture addresses bytes values limit before memory is_limit =
    record {
      is_limit = is_limit;
      below = below_first architecture addresses bytes values before memory;
      order = first_order limit architecture bytes before;
    }

pub all_written : (architecture : Architecture) (addresses : Addresses) (bytes : List ℕ)
    (values : Values) (before now memory : List ℕ) (i : ℕ)
    → AreWrittenBelow architecture addresses bytes values before now memory i
    → AreApart architecture bytes before i → length bytes / 24 ≤ i
    → AreAllRelocatedBy architecture addresses bytes values before now
all_written architecture addresses bytes values before now memory i below apart following =
    let all : i ≡ length bytes / 24 = omega (arith, following, below.within) in
    all_relocated architecture addresses bytes before now values
    (subst (AreApart architecture bytes before) all apart)
    (subst (λ n. AreRelocated architecture addresses bytes values before n now) all below.relocated)

pub reached_all : (architecture : Architecture) (addresses : Addresses) (bytes : List ℕ)
    (values : Values) (limit : Option ℕ) (before now memory : List ℕ) (i : ℕ) (last : Field)
    → Reached architecture addresses bytes values limit before now memory i last
    → length bytes / 24 ≤ i → AreAllRelocatedBy architecture addresses bytes values before now
reached_all architecture addresses bytes values limit before now memory i last reached following =
    all_written architecture addresses bytes values before now memory i reached.below
    (apart_now limit architecture bytes before now i last reached.is_limit reached.order) following

-- the section stays, and what is kept of earlier relocations
pub below_kept : (architecture : Architecture) (addresses : Addresses) (bytes : List ℕ)
    (values : Values) (before now after memory other : List ℕ) (i : ℕ) → after ≡ now
    → ((k : ℕ) → k < i → slice_index other k ≡ slice_index memory k)
    → AreWrittenBelow architecture addresses bytes values before now memory i
    → AreWrittenBelow architecture addresses bytes values before after other i
below_kept architecture addresses bytes values before now after memory other i same kept below =
    subst (λ section. AreWrittenBelow architecture addresses bytes values before section other i) (sym same)
    (record {
      within = below.within;
      relocated = below.relocated;
      restores = restores_by architecture bytes memory other i now before kept below.restores;
      same_length = below.same_length;
    })

-- one value is written that is found by its `r_type`
pub below_quickly : (architecture : Architecture) (addresses : Addresses) (bytes : List ℕ)
    (values : Values) (before now after memory other : List ℕ) (i end next : ℕ)
    → i < length bytes / 24 → i < length memory
    → IsQuickStep architecture addresses bytes values i end now after memory other next
    → AreWrittenBelow architecture addresses bytes values before now memory i
    → AreWrittenBelow architecture addresses bytes values before after other (i + 1)
below_quickly architecture addresses bytes values before now after memory other i end next there room step below =
    subst (λ kept. AreWrittenBelow architecture addresses bytes values before after kept (i + 1)) (sym step.kept_is)
    (record {
      within = omega (arith, there);
      relocated = AreRelocated.one below.relocated step.value.has step.written;
      restores = one_restores architecture bytes memory before now after i step.word step.row step.v room step.value.has.is_row step.written step.saved below.restores;
      same_length = step.written.same_length ∙ below.same_length;
    })

-- ---- whether a value is written

pub is_written : (row : RowInfo) (v : ℤ) (offset : ℕ) (before after : List ℕ)
    (result : Result Unit RelocateError) → is_err result ≡ false
    → IsWrittenAt row v offset before after result → IsWritten row v offset before after
is_written row v offset before after (Ok u) is written = written
is_written row v offset before after (Err error) is written = absurd (true≢false is)

pub not_written : (row : RowInfo) (v : ℤ) (offset : ℕ) (before after : List ℕ)
    (result : Result Unit RelocateError) → is_err result ≡ true
    → IsWrittenAt row v offset before after result → after ≡ before
not_written row v offset before after (Ok u) is written = absurd (true≢false (sym is))
not_written row v offset before after (Err error) is written = written.1

-- ---- relocations that ascend

pub front_first : (architecture : Architecture) (bytes before : List ℕ)
    → IsFront architecture bytes before before 0
    (record { index = 0; last = record { offset = 0; len = 0; kind = kinds.None } }) 0
front_first architecture bytes before =
    record {
      last = record { offset = 0; len = 0; kind = kinds.None };
      order = first_order None architecture bytes before;
      is_last = record { same = λ is. refl; own = λ other k here. absurd (omega (arith, here)) };
      within = omega arith;
    }

-- after a value that is written quickly
pub front_quickly : (architecture : Architecture) (addresses : Addresses) (bytes : List ℕ)
    (values : Values) (before now after memory other : List ℕ) (i end next : ℕ) (step : Step)
    → step.index ≤ i → length now ≡ length before
    → IsQuickStep architecture addresses bytes values i end now after memory other next
    → IsFront architecture bytes before now i step end
    → IsFront architecture bytes before after (i + 1) step next
front_quickly architecture addresses bytes values before now after memory other i end next step later same_length quick front =
    let o = offset_at bytes i in
    let row = quick.row in
    let last = front.last in
    let value = quick.value in
    let field : Field = record { offset = o; len = window_len row; kind = row.kind } in
    let following = quick.following in
    let within = front.within in
    let same : field_of_row row o now ≡ field =
    ap (λ n. record { offset = o; len = n; kind = row.kind }) (len_alone row (drop o now) value.has.valued value.single) in
    let next_is : next_field (field_of_row row o now) last ≡ field =
    ap (λ f. next_field f last) same
    ∙ cond-false (eqb (window_len row) 0) last field (ne_eqb (window_len row) 0 (λ e. omega (arith, e, value.some))) in
    let far : leb last.len (o - last.offset) ≡ true = le-leb last.len (o - last.offset) (omega (arith, following, within)) in
    let below : last.offset ≤ o = omega (arith, following, within) in
    let local = one_local row quick.v o now after quick.written in
    let clear_now : clear_in None i (field_of_row row o now) last ≡ true =
    ap (λ f. clear_in None i f last) same ∙ or_right (eqb (window_len row) 0) (is_clear_of field last) (or_left (leb last.len (o - last.offset)) _ far) in
    record {
      last = field;
      order = subst (Ascends architecture bytes before after (i + 1)) next_is
          (ascends_next architecture bytes before now after i last row front.order below same_length value.has.is_row value.has.valued value.single local.inside
          (λ offset window. drop_after o (window_len row) offset now after local window) clear_now);
      is_last = record {
        same = λ is. absurd (omega (arith, is, later));
        own = λ differs k here. subst (λ x. IsOwnField architecture bytes x field) (omega (arith, here))
            (record { row = row; is_row = value.has.is_row; is_field = refl });
      };
      within = omega (arith, quick.end_is);
    }

-- after a step
pub front_slowly : (architecture : Architecture) (bytes before now : List ℕ) (step : Step)
    → Ascends architecture bytes before now step.index step.last
    → IsFront architecture bytes before now step.index step (step.last.offset + step.last.len)
front_slowly architecture bytes before now step order =
    record {
      last = step.last;
      order = order;
      is_last = record { same = λ is. refl; own = λ other k here. absurd (other refl) };
      within = omega arith;
    }

-- ---- two runs

-- all are written
pub runs_written : (architecture : Architecture) (addresses : Addresses) (bytes : List ℕ)
    (values : Values) (before now memory : List ℕ) (i : ℕ)
    → AreWrittenBelow architecture addresses bytes values before now memory i
    → length bytes / 24 ≤ i
    → ((section : List ℕ) → AreSmall architecture bytes section
    → AreApart architecture bytes section (length bytes / 24))
    → AreAllRelocatedBy architecture addresses bytes values before now
runs_written architecture addresses bytes values before now memory i below end apart =
    let all : length bytes / 24 ≡ i = omega (arith, below.within, end) in
    all_written architecture addresses bytes values before now memory i below
    (subst (AreApart architecture bytes before) all
    (apart before (fields_small architecture bytes before))) end

pub first_run : (architecture : Architecture) (addresses : Addresses) (bytes : List ℕ)
    (values : Values) (before now memory : List ℕ) (i : ℕ) → i < length bytes / 24
    → AreWrittenBelow architecture addresses bytes values before now memory i
    → IsFirstRun architecture addresses bytes values before now memory i
first_run architecture addresses bytes values before now memory i there below =
    record { below = below; within = below.within; all = λ is. absurd (omega (arith, is, there)) }

pub only_run : (architecture : Architecture) (addresses : Addresses) (bytes : List ℕ)
    (values : Values) (before now memory : List ℕ) (i : ℕ)
    → AreWrittenBelow architecture addresses bytes values before now memory i
    → AreApart architecture bytes before i → length bytes / 24 ≤ i
    → IsFirstRun architecture addresses bytes values before now memory i
only_run architecture addresses bytes values before now memory i below apart end =
    record {
      below = below;
      within = below.within;
      all = λ is. all_written architecture addresses bytes values before now memory i below apart end;
    }

pub end_fits : (architecture : Architecture) (addresses : Addresses) (bytes : List ℕ)
    (values : Values) (before now memory : List ℕ) (i : ℕ) (last : Field)
    → Reached architecture addresses bytes values None before now memory i last
    → length before < 2 ^ 63 → last.offset < 2 ^ 64 → last.offset + last.len < 2 ^ 64
end_fits architecture addresses bytes values before now memory i last reached long fits =
    elim (cases_eq last.len 0) [
      | inl none ↦ omega (arith, none, fits)
      | inr some ↦ let inside = reached.order.inside (omega (arith, some)) in omega (arith, inside, long)
    ]

-- there is a relocation, or there is none
pub there_is : (bytes rest : List ℕ) (i : ℕ) → rest ≡ drop (i * 24) bytes → 24 ≤ length rest
    → i < length bytes / 24
there_is bytes rest i is some =
    let d = length-drop (i * 24) bytes in let e = ap length is in omega (arith, d, e, some)

pub there_isnt : (bytes rest : List ℕ) (i : ℕ) → rest ≡ drop (i * 24) bytes → length rest < 24
    → length bytes / 24 ≤ i
there_isnt bytes rest i is none =
    let d = length-drop (i * 24) bytes in let e = ap length is in omega (arith, d, e, none)

pub rest_after : (bytes rest : List ℕ) (i : ℕ) → rest ≡ drop (i * 24) bytes
    → drop 24 rest ≡ drop ((i + 1) * 24) bytes
rest_after bytes rest i is =
    ap (drop 24) is ∙ (drop-drop 24 (i * 24) bytes ∙ ap (λ n. drop n bytes) (omega arith))
