-- What a write leaves is what is recognised, without the deleted bytes.
use Rattle.linker_reading.proofs.Imports.{AreSameBut, Bool, DifferOnlyInFields, FieldBits, List, None, Option, Recogniser, RowInfo, Some, WrittenIsLeft, ap, arith, bit_at, cases_lt, deleted_count, deleted_start, drop, get_or-append_right, get_or-drop, get_or-take, get_or_append_left, if◌then◌else◌, is_in_field, is_in_one, kept_index, le-ltb, length, length-append, length-drop, length-take-le, lt-ltb, offset_after, relaxation_deleted, relaxation_rewrite, rewritten, slice_index, subst, sym, take, without_deleted, ℕ, ⊎_elim, ◌++◌, ◌+◌, ◌-◌, ◌<◌, ◌||◌, ◌∙◌, ◌≡◌, ◌≤◌}
use Rattle.linker_reading.proofs.X86WrittenChoices.{written_is_left, no_gap}
use Rattle.linker_reading.proofs.WrittenRows.{row_changes_field}
use Rattle.linker_base.specs.declared.rewrite.DeletedBytes.{DeletedBytes}

abbrev without : ℕ → ℕ → List ℕ → List ℕ
without start count bytes = take start bytes ++ drop (start + count) bytes

kept_byte : (start count : ℕ) (bytes : List ℕ) (i : ℕ) → start + count ≤ length bytes
    → slice_index (without start count bytes) i ≡ slice_index bytes (kept_index start count i)
kept_byte start count bytes i inside =
    let front : length (take start bytes) ≡ start = length-take-le start bytes (omega arith) in
    ⊎_elim
    (λ below. get_or_append_left (take start bytes) (drop (start + count) bytes) 0 i (omega (arith, front, below)) ∙ get_or-take start bytes i 0 below
    ∙ ap (λ b. slice_index bytes (if b then i else i + count)) (sym (lt-ltb i start below)))
    (λ from. get_or-append_right (take start bytes) (drop (start + count) bytes) start i 0 front from ∙ get_or-drop (start + count) bytes (i - start) 0
    ∙ ap (slice_index bytes) (let e : start + count + (i - start) ≡ i + count = omega arith in e)
    ∙ ap (λ b. slice_index bytes (if b then i else i + count)) (sym (le-ltb i start from)))
    (cases_lt i start)

kept_inside : (start count i n : ℕ) → start + count ≤ n → i < n - count → kept_index start count i < n
kept_inside start count i n inside h =
    ⊎_elim
    (λ below. subst (λ b. (if b then i else i + count) < n) (sym (lt-ltb i start below)) (omega arith))
    (λ from. subst (λ b. (if b then i else i + count) < n) (sym (le-ltb i start from)) (omega arith))
    (cases_lt i start)

without_length : (start count : ℕ) (bytes : List ℕ) → start + count ≤ length bytes → length (without start count bytes) + count ≡ length bytes
without_length start count bytes inside =
    omega (arith, length-append (take start bytes) (drop (start + count) bytes), length-take-le start bytes (let h : start ≤ length bytes = omega arith in h), length-drop (start + count) bytes)

same_without : (Q : ℕ → ℕ → Bool) (others : List FieldBits) (start count : ℕ) (a b : List ℕ) → start + count ≤ length b
    → AreSameBut Q others 0 0 a b → AreSameBut Q others start count a (without start count b)
same_without Q others start count a b inside same i h j k ignored =
    let at = kept_index start count i in
    ap (λ n. bit_at (slice_index a n) j) (sym (no_gap at))
    ∙ same at (kept_inside start count i (length b) inside (omega (arith, without_length start count b inside))) j k
    (ap (λ n. Q n j || is_in_one others n j) (no_gap at) ∙ ignored)
    ∙ ap (λ x. bit_at x j) (sym (kept_byte start count b i inside))

left_without : (row : Option RowInfo) (deleted : Option DeletedBytes) (section whole : List ℕ) (at o : ℕ) (others : List FieldBits)
    → deleted_start deleted o + deleted_count deleted ≤ length section → DifferOnlyInFields section at row None o others whole
    → DifferOnlyInFields section at row deleted o others (without_deleted deleted o whole)
left_without row deleted section whole at o others inside left =
    let all : length whole ≡ length section = omega (arith, left.lengths) in
    let size = without_length (deleted_start deleted o) (deleted_count deleted) whole (omega arith) in
    record {
      has_field = left.has_field;
      starts = omega (arith, size);
      lengths = size ∙ all;
      same = same_without (is_in_field row at section) others (deleted_start deleted o) (deleted_count deleted) section whole (omega arith) left.same;
    }

pub written_choice_is_left : {K R : Type 0} (it : Recogniser K R) → WrittenIsLeft it
written_choice_is_left it c row original o v written others e can inside room bytes writes =
    let section = rewritten (relaxation_rewrite (it.relaxation c.kind)) original o in
    let at = offset_after (relaxation_rewrite (it.relaxation c.kind)) o in
    let deleted = relaxation_deleted (it.relaxation c.kind) in
    let left = written_is_left row section written at o others inside (row_changes_field row v (drop at section) written bytes writes) in
    record {
      rewritable = can;
      left = subst (λ (found : Option RowInfo). DifferOnlyInFields section at found deleted o others (without_deleted deleted o (take at section ++ written))) (sym e)
          (left_without (Some row) deleted section (take at section ++ written) at o others room left);
    }
