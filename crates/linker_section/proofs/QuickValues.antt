-- Values that are found by the facts of rows.
use Rattle.linker_section.proofs.Imports.{Addresses, Architecture, Bool, IfSome, IsHighPart, IsHighValue, IsLowResolved, IsPlainValue, IsQuickAt, IsQuickValue, IsResolvedBy, IsResolvedUnless, IsRow, IsValueAt, Knowledge, Known, List, None, Ok, Option, RowInfo, SaysWay, Some, Symbol, Values, When, address_of, ap, by_known, cond-true, difference_64, false, has_value, if◌then◌else◌, is_defined_in, is_high, is_high_part, is_high_way, is_low, is_low_way, is_of_pair, is_offset, is_offset_way, is_plain, is_quick, is_skipped, is_tp_off, known_operands, lacks_known_stub, length, low_by, low_operands, lt-ltb, ltb-true, may_use_stub, names_label, needs_upper, not, or_left, or_right, refl, relocation_in, subst, sym, target_of, true, true≢false, value_by, way_of, window_len, ℕ, ℤ, ◌&&◌, ◌/◌, ◌<◌, ◌∙◌, ◌≡◌}
use Rattle.linker_section.specs.declared.quick.HighPart.{HighPart}
use Rattle.linker_elf.specs.declared.elf.facts.Way.{Way}
use Rattle.linker_elf.specs.declared.elf.RelocationKind.TheVariants as kinds
use Rattle.linker_elf.specs.declared.elf.facts.Way.TheVariants as ways

pub when_true : {A : Type 0} (test : Bool) (x y : A) → When test x y → test ≡ true → x ≡ y
when_true test x y is holds = sym (cond-true test x y holds) ∙ is

pub and_false : (a b c : Bool) → (a && b) ≡ false → (a && (b && c)) ≡ false
and_false false b c isnt = refl
and_false true false c isnt = refl
and_false true true c isnt = absurd (true≢false isnt)

without_stub : (may : Bool) (x y : ℕ) → (if may && false then x else y) ≡ y
without_stub false x y = refl
without_stub true x y = refl

-- a symbol without a stub that isn't undefined and weak is reached by its address
pub own_target : (architecture : Architecture) (addresses : Addresses) (row : RowInfo)
    (symbol : Symbol) (place : ℕ) → symbol.stub ≡ 0 → symbol.is_undefined_weak ≡ false
    → target_of architecture addresses row symbol place ≡ address_of row symbol
own_target architecture addresses row symbol place none strong =
    rw (none, strong) (without_stub (may_use_stub row.size row.kind) 0 (address_of row symbol))

-- ---- a relocation of whose symbol something is known

module _ (architecture : Architecture) (addresses : Addresses) (bytes : List ℕ) (knowledge : Knowledge) (i : ℕ) (row : RowInfo) (v : ℤ) (known : Known) (there : i < length bytes / 24) (is_row : IsRow architecture (relocation_in bytes i).r_type (Some row)) (way : SaysWay architecture row) (same : knowledge i (relocation_in bytes i) ≡ Some known) (kept : known.is_left_out ≡ false) (keeps : lacks_known_stub architecture (relocation_in bytes i) (Some known) ≡ false) (reached : needs_upper architecture (relocation_in bytes i) v ≡ false) (values : Values) (are : by_known knowledge architecture addresses bytes i (Ok (Some (row, v))) → values architecture addresses bytes i (Ok (Some (row, v)))) where
  -- a relocation with a value of its own is written
  at_once : is_quick row ≡ true
      → IsResolvedBy (names_label row.size row.kind) architecture addresses bytes knowledge row (relocation_in bytes i) (Some known) (Ok (Some v))
      → IsQuickAt architecture addresses bytes values i row v
  at_once quick is =
      let r = relocation_in bytes i in
      let isnt : is_skipped (Some row) (knowledge i r) ≡ false =
      ap (is_skipped (Some row)) same ∙ ap (λ b. b && not (is_of_pair row)) kept in
      record {
        has = record {
          is_row = is_row;
          valued = when_true (is_quick row) (has_value row.kind) true way.has_value quick;
          is_value = are (
            Some row,
            is_row,
            subst (λ b. IsResolvedUnless b architecture addresses bytes knowledge i (Some row) (Ok (Some (row, v)))) (sym isnt) (record {
              is_row = refl;
              is_value = subst (λ x. IsResolvedBy (names_label row.size row.kind) architecture addresses bytes knowledge row r x (Ok (Some v))) (sym same) is;
              keeps = ap (lacks_known_stub architecture r) same ∙ keeps;
              in_reach = λ needs. absurd (true≢false (sym needs ∙ reached));
            }),
          );
        };
        single = when_true (is_quick row) (is_of_pair row) false way.single quick;
        some = ltb-true 0 (window_len row) (when_true (is_quick row) _ true way.some quick);
        unthreaded = when_true (is_quick row) (is_tp_off row.kind) false way.unthreaded quick;
      }

  pub plain_quick : is_plain row ≡ true
      → (is_offset_way (way_of row.size row.kind) && not addresses.has_tls) ≡ false
      → IsPlainValue (known_operands architecture addresses row (relocation_in bytes i) (Some known)) row v
      → IsQuickValue architecture addresses bytes values knowledge i row v
  plain_quick plain origin value =
      let r = relocation_in bytes i in
      let quick : is_quick row ≡ true = or_left (is_plain row) (is_low row) plain in
      let label = when_true (is_plain row) (names_label row.size row.kind) false way.unlabelled plain in
      let defined = is_defined_in (Some known) in
      let none : (is_offset row.kind && (not addresses.has_tls && defined)) ≡ false =
      ap (λ b. b && (not addresses.has_tls && defined)) (when_true (is_quick row) (is_offset row.kind) _ way.offset quick) ∙ and_false _ _ defined origin in
      let own = sym (cond-true (has_value row.kind) _ (Ok None) (when_true (is_quick row) (has_value row.kind) true way.has_value quick)
      ∙ (ap (λ b. value_by b row (known_operands architecture addresses row r (Some known))) none
      ∙ (ap (value_by false row) value.is_found ∙ ap Ok value.value_is))) in
      record {
        at = at_once quick (subst (λ b. IsResolvedBy b architecture addresses bytes knowledge row r (Some known) (Ok (Some v))) (sym label) own);
        high = λ high. record {
          r = r;
          row = row;
          part = record {
            index = i;
            is_there = cond-true _ (Some r) None (lt-ltb i (length bytes / 24) there);
            offset_is = refl;
            row_is = is_row;
            is_high = when_true (is_high row) (is_high_part kinds.RelativeRiscVLow12 (Some row)) true way.high high;
          };
          operands = value.operands;
          found = ap (known_operands architecture addresses row r) same ∙ value.is_found;
          low = when_true (is_high row) _ _ (way.high_value value.operands) high ∙ value.value_is;
        };
      }

  low_isnt_high : (way : Way) → is_low_way way ≡ true → is_high_way way ≡ true → ⊥
  low_isnt_high ways.Low low high = true≢false (sym high)
  low_isnt_high way low high = true≢false (sym low)

  pub low_quick : is_low row ≡ true → (high : Option HighPart)
      → IfSome high (IsHighValue architecture addresses bytes knowledge)
      → IsValueAt (difference_64 known.symbol.address addresses.section) high v
      → IsQuickValue architecture addresses bytes values knowledge i row v
  low_quick low high highs value =
      let quick : is_quick row ≡ true = or_right (is_plain row) (is_low row) low in
      let part = subst (λ x. IfSome x (IsHighValue architecture addresses bytes knowledge)) (value.1) highs in
      let kind = when_true (is_low row) row.kind kinds.RelativeRiscVLow12 way.labelled low in
      let here : IsHighPart architecture bytes row.kind (difference_64 known.symbol.address addresses.section) part.r part.row = record {
        index = part.part.index;
        is_there = part.part.is_there;
        offset_is = part.part.offset_is ∙ sym (value.2);
        row_is = part.part.row_is;
        is_high = subst (λ k. is_high_part k (Some part.row) ≡ true) (sym kind) part.part.is_high;
      } in
      let is = sym (ap (low_by row part.row) part.found
      ∙ ap Ok (when_true (is_low row) _ _ (way.low_value (low_operands part.row part.operands)) low
      ∙ (part.low ∙ ap Some (sym (value.3))))) in
      record {
        at = at_once quick (subst (λ b. IsResolvedBy b architecture addresses bytes knowledge row (relocation_in bytes i) (Some known) (Ok (Some v))) (sym (ap (names_label row.size) kind))
            (IsLowResolved.by_high here is));
        high = λ is_high. absurd (low_isnt_high (way_of row.size row.kind) low is_high);
      }

-- ---- where there is a value

pub if_some : {A : Type 0} {P Q : A → Type 0} (x : Option A) → ((v : A) → P v → Q v) → IfSome x P
    → IfSome x Q
if_some None f is = tt
if_some (Some v) f is = f v is
