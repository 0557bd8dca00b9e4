-- RV32: values once addends are wrapped, and its instructions by RV64's laws: a sum modulo 2^64 is
-- one modulo 2^32.
use Rattle.linker_final.proofs.Imports.{Addresses, AreAddresses, BType, BitMasking, Bool, Bounds, ByteSize, CbType, CjType, CluiType, Computed, Err, FitsSigned, HoldsDistance, IType, IsHighPartAt, IsLowValue, IsNoHighPart, IsRow, IsValue, IsValueBy, IsValueIn, IsWithin, JType, Law, List, NoSymbol, None, Ok, Operands, Option, Rela, RelocationKind, Result, RiscV, RiscVRelocation, RowInfo, RowSize, SType, Some, Step, Symbol, UType, UiType, ValueError, [], and_parts, ap, arith, cast_signed, cast_unsigned, clui_row, difference_64, entry_address, entry_and_addend, entry_of, even, false, formula, has_value, here, if◌then◌else◌, int_rem_euclid, ints, is_high_part, is_offset, lacks_origin, length, loads_plt_word, low_by, low_load, low_operands, low_value, names_label, neg_ℤ, negsuc, number_at, number_of_bytes, of_z-to_z, one_row, operands_by, operands_in, operands_of, operands_with, own_value, place, plt_address, pos, reach_of, refl, relocation_at, relocation_in, riscv_form, riscv_pair_bounds, riscv_relocation, riscv_row, slice_get, subst, suc, sum_64, sym, symbol_address, tls_base, to_z-of_z, true, unsigned_abs, upper_and_low, value_by, value_of, w64, without_bit_0, ℕ, ℤ, ◌%◌, ◌&&◌, ◌*ℤ◌, ◌+ℤ◌, ◌+◌, ◌-◌, ◌/◌, ◌<ℤ◌, ◌<◌, ◌==◌, ◌^◌, ◌∙◌, ◌∷◌, ◌≡◌, ◌≤ℤ◌, addresses as small}
use Rattle.linker_final.specs.RiscV32.{Addends, Branches, HasWrappedAddend, IsSame32, IsWrappedValue, IsWrappedWithin, Law32, PairsReachAll, Reaches32, RelativeAddresses, Values, Word, Words}
use Rattle.linker_laws.specs.Schemes.{Reaches, zero}
use Rattle.linker_laws.proofs.Sums.{sum_below}
use Rattle.linker_elf.proofs.Agreement.{le_yes, rem_rem}
use Rattle.linker_elf.specs.declared.riscv64.forms.RiscVInstruction.{RiscVInstruction}
use Rattle.linker_final.proofs.Written.{mapped, there_is}
use Rattle.linker_laws.specs.RiscVRelocationLaws.{low_store, of_entry}
use Rattle.linker_section.proofs.QuickValues.{when_true}
use Rattle.linker_section.specs.Inner.Facts.{When}
use Rattle.linker_section.specs.RiscV32.{AreWrapped, IsLeastFrom, IsWrapped, IsWrappedBy, IsWrappedTo, least_in, with_value}
use Rattle.std.proofs.Math.Facts.{sfits_to_z}
use Rattle.std.specs.Int.Signed.{le_z}
use Rattle.linker_runs.proofs.Moved.{there_at}
use Rattle.linker_elf.specs.declared.elf.RelocationKind.TheVariants as kinds
use Rattle.linker_elf.specs.declared.riscv64.relocations.RiscVRelocation.TheVariants as riscv64
use Rattle.linker_laws.specs.RiscVRelocationLaws as laws

-- ---- numbers

unsigned_small : (z : ℤ) → FitsSigned w64 z → cast_unsigned w64 z < 2 ^ 64
unsigned_small z fits = omega (arith, ints)

-- the least numbers that rows hold
abbrev IsLeast : ℤ → Type 0
IsLeast least = (neg_ℤ (pos (2 ^ 40)) ≤ℤ least) × (least ≤ℤ pos 0)

fits_near : (least z : ℤ) → IsLeast least → least ≤ℤ z → z <ℤ (least +ℤ pos (2 ^ 32)) → FitsSigned w64 z
fits_near least (pos n) is low high = record { sfits = omega (arith, ints) }
fits_near least (negsuc n) is low high = record { sfits = omega (arith, ints) }

low_bits : (z : ℤ) → FitsSigned w64 z → int_rem_euclid z (pos (2 ^ 32)) ≡ pos (cast_unsigned w64 z % 2 ^ 32)
low_bits (pos n) fits = refl
low_bits (negsuc n) fits =
    let small : n < 2 ^ 63 = fits.sfits in
    ap pos (let e : 2 ^ 32 - 1 - n % 2 ^ 32 ≡ (2 ^ 64 - suc n) % 2 ^ 32 = omega arith in e)

same_32 : (a b : ℤ) → FitsSigned w64 a → FitsSigned w64 b
    → int_rem_euclid a (pos (2 ^ 32)) ≡ int_rem_euclid b (pos (2 ^ 32)) → IsSame32 a b
same_32 a b small small' same = ap unsigned_abs (sym (low_bits a small) ∙ (same ∙ low_bits b small'))

-- no other such number is below it
least_one : (least end w v : ℤ) → IsLeast least → end ≤ℤ pos (2 ^ 40) → IsSame32 w v → least ≤ℤ w
    → w <ℤ (least +ℤ pos (2 ^ 32)) → least ≤ℤ v → v <ℤ end → w <ℤ end
least_one least end w v is small same low below there high = omega (arith, ints)

abbrev AreNear : Bounds → Type 0
AreNear None = Unit
AreNear (Some bounds) = IsLeast bounds.0 × (bounds.1 ≤ℤ pos (2 ^ 40))

wrapped_within : (bounds : ℤ × ℤ) (value number : ℤ) → AreNear (Some bounds) → IsLeastFrom bounds.0 value number
    → IsSame32 number value → IsWrappedWithin (Some bounds) value number
wrapped_within bounds value number near is here = record {
  same = here;
  within = λ v same inside. (
    is.from,
    least_one bounds.0 bounds.1 number v near.0 near.1 (here ∙ sym same) is.from is.below inside.0 inside.1,
  );
}

pub pairs_reach_all : PairsReachAll
pairs_reach_all value after is =
    let lowest = 2 ^ 31 + 0x800 in
    let n = (cast_unsigned w64 value + lowest) % 2 ^ 32 in
    is.within (pos n +ℤ neg_ℤ (pos lowest)) (there (cast_unsigned w64 value)) (inside n (low (cast_unsigned w64 value + lowest)))
  where
    low : (n : ℕ) → n % 2 ^ 32 < 2 ^ 32
    low n = omega arith

    there : (v : ℕ) → cast_unsigned w64 (pos ((v + (2 ^ 31 + 0x800)) % 2 ^ 32) +ℤ neg_ℤ (pos (2 ^ 31 + 0x800))) % 2 ^ 32 ≡ v % 2 ^ 32
    there v = omega (arith, ints)

    inside : (n : ℕ) → n < 2 ^ 32 → IsWithin (Some riscv_pair_bounds) (pos n +ℤ neg_ℤ (pos (2 ^ 31 + 0x800)))
    inside n small = (omega (arith, ints), omega (arith, ints))

-- ---- how a value depends on the addend

-- what the addend is added to
abbrev base_of : RelocationKind → Operands → ℕ
base_of kinds.PltRelative o = o.plt_entry
base_of kinds.GotRelative o = o.got_entry
base_of kinds.GotTpOff o = o.got_entry
base_of kinds.TlsGd o = o.got_entry
base_of kinds.TlsDesc o = o.got_entry
base_of kind o = o.symbol

-- what is subtracted
abbrev less_of_size : RowSize → Operands → Option ℕ
less_of_size (ByteSize n) o = if n == 0 then None else Some o.place
less_of_size (BitMasking bits insn) o = Some o.place

abbrev less_of : RelocationKind → RowSize → Operands → Option ℕ
less_of kinds.Relative size o = less_of_size size o
less_of kinds.RelativeRiscVLow12 size o = Some o.place
less_of kinds.PltRelative size o = Some o.place
less_of kinds.GotRelative size o = Some o.place
less_of kinds.GotTpOff size o = Some o.place
less_of kinds.TlsGd size o = Some o.place
less_of kinds.TlsDesc size o = Some o.place
less_of kinds.TpOff size o = Some o.tls_base
less_of kind size o = None

abbrev made : ℕ → Option ℕ → ℕ → ℕ
made base None a = sum_64 (sum_64 base a) 0
made base (Some less) a = difference_64 (sum_64 (sum_64 base a) 0) less

made_small : (base : ℕ) (less : Option ℕ) (a : ℕ) → made base less a < 2 ^ 64
made_small base None a = omega arith
made_small base (Some n) a = omega arith

-- the addend that makes a number another one
moved : (base : ℕ) (less : Option ℕ) (a wanted : ℕ) → wanted < 2 ^ 64
    → made base less (sum_64 a (difference_64 wanted (made base less a))) ≡ wanted
moved base None a wanted small = omega arith
moved base (Some n) a wanted small = omega arith

moved_low : (a wanted n : ℕ) → n < 2 ^ 64 → wanted % 2 ^ 32 ≡ n % 2 ^ 32
    → sum_64 a (difference_64 wanted n) % 2 ^ 32 ≡ a % 2 ^ 32
moved_low a wanted n small same = omega arith

-- ---- rows

abbrev number_if : Bool → ℕ → Option ℕ
number_if true n = Some n
number_if false n = None

abbrev are_near : Bounds → Bool
are_near None = true
are_near (Some bounds) =
    (le_z (neg_ℤ (pos (2 ^ 40))) bounds.0 && le_z bounds.0 (pos 0)) && le_z bounds.1 (pos (2 ^ 40))

near : (bounds : Bounds) → are_near bounds ≡ true → AreNear bounds
near None is = tt
near (Some bounds) is =
    let a = and_parts (le_z (neg_ℤ (pos (2 ^ 40))) bounds.0 && le_z bounds.0 (pos 0)) (le_z bounds.1 (pos (2 ^ 40))) is in
    let b = and_parts (le_z (neg_ℤ (pos (2 ^ 40))) bounds.0) (le_z bounds.0 (pos 0)) a.0 in
    ((le_yes (neg_ℤ (pos (2 ^ 40))) bounds.0 b.0, le_yes bounds.0 (pos 0) b.1), le_yes bounds.1 (pos (2 ^ 40)) a.1)

-- the kinds of low parts
abbrev low_kind : Bool → RelocationKind
low_kind true = kinds.TlsDesc
low_kind false = kinds.RelativeRiscVLow12

abbrev is_of_descriptor : RelocationKind → Bool
is_of_descriptor kinds.TlsDesc = true
is_of_descriptor kind = false

abbrev end_of : Bool → Operands → ℕ
end_of true o = o.got_entry
end_of false o = o.symbol

-- the value of a low part
abbrev low_result : Bool → Operands → Option ℤ
low_result of_descriptor o =
    Some (cast_signed w64
    (difference_64 (sum_64 (sum_64 (end_of of_descriptor o) (cast_unsigned w64 o.addend)) 0) o.place))

-- a high part has the value of its low parts
record IsHigh (of_descriptor : Bool) (row : RowInfo) : Type 0 where
  value : (o : Operands)
      → When (is_high_part (low_kind of_descriptor) (Some row)) (low_result of_descriptor (low_operands row o)) (value_of row o)
  valued : When (is_high_part (low_kind of_descriptor) (Some row)) (has_value row.kind) true
  no_offset : When (is_high_part (low_kind of_descriptor) (Some row)) (is_offset row.kind) false
  unlabelled : When (is_high_part (low_kind of_descriptor) (Some row)) (names_label row.size row.kind) false
  bounds : When (is_high_part (low_kind of_descriptor) (Some row)) (reach_of row) (Some riscv_pair_bounds)

record IsLow (row : RowInfo) : Type 0 where
  kind : When (names_label row.size row.kind) row.kind (low_kind (is_of_descriptor row.kind))
  value : (o : Operands) → When (names_label row.size row.kind) (value_of row o) (low_result (is_of_descriptor row.kind) o)
  bounds : When (names_label row.size row.kind) (reach_of row) (Some riscv_pair_bounds)

record IsSum (row : RowInfo) : Type 0 where
  formula_is : (o : Operands) (a : ℤ) → formula row.kind row (record o { addend = a })
      ≡ number_if (has_value row.kind) (made (base_of row.kind o) (less_of row.kind row.size o) (cast_unsigned w64 a))
  same_entry : (a b : ℤ) (is_thread_local : Bool) → entry_of row a is_thread_local ≡ entry_of row b is_thread_local
  loads_none : loads_plt_word row.size row.kind ≡ false
  near : are_near (reach_of row) ≡ true
  low : IsLow row
  high_of_descriptor : IsHigh true row
  high : IsHigh false row

abbrev AreSums : Option RowInfo → Type 0
AreSums None = Unit
AreSums (Some row) = IsSum row

are_sums : (name : RiscVRelocation) → AreSums ((riscv_relocation name).row)
are_sums (riscv64.Other r_type) = tt
are_sums name = record {
  formula_is = λ o a. refl;
  same_entry = λ a b is_thread_local. refl;
  loads_none = refl;
  near = refl;
  low = record { kind = refl; value = λ o. refl; bounds = refl };
  high_of_descriptor = record { value = λ o. refl; valued = refl; no_offset = refl; unlabelled = refl; bounds = refl };
  high = record { value = λ o. refl; valued = refl; no_offset = refl; unlabelled = refl; bounds = refl };
}

is_sum : (r_type : ℕ) (row : RowInfo) → IsRow RiscV r_type (Some row) → IsSum row
is_sum r_type row of = subst AreSums (sym of.value_is) (are_sums of.name)

high_is : (of_descriptor : Bool) (row : RowInfo) → IsSum row → IsHigh of_descriptor row
high_is true row sum = sum.high_of_descriptor
high_is false row sum = sum.high

-- ---- a value with another addend

abbrev Value : Type 0
Value = Result (Option ℤ) ValueError

-- a relocation with another addend, and the value that it then has
record HasMoved (r after : Rela) (value wanted : ℤ) (result : Value) : Type 0 where
  same : IsSame32 wanted value
  addend : IsSame32 after.addend r.addend
  is : result ≡ Ok (Some wanted)

module _ (row : RowInfo) (sum : IsSum row) (addresses : Addresses) (r : Rela) (value wanted : ℤ)
    (fits : FitsSigned w64 wanted) (same_rest : int_rem_euclid wanted (pos (2 ^ 32)) ≡ int_rem_euclid value (pos (2 ^ 32))) where
  abbrev HasMovedTo : Value → Type 0
  HasMovedTo result = HasMoved r (with_value r value wanted) value wanted result

  with_addend : has_value row.kind ≡ true → (o : Operands) (a : ℤ) → value_of row (record o { addend = a })
      ≡ Some (cast_signed w64 (made (base_of row.kind o) (less_of row.kind row.size o) (cast_unsigned w64 a)))
  with_addend valued o a = cc (sum.formula_is o a)

  operands_are : (symbol : Symbol) (entry : ℕ) (a : ℤ)
      → operands_with RiscV addresses row symbol (record r { addend = a }) entry
      ≡ record (operands_with RiscV addresses row symbol r entry) { addend = a }
  operands_are symbol entry a = cc (sum.loads_none)

  value_moved : has_value row.kind ≡ true → (symbol : Symbol) (entry : ℕ)
      → value_of row (operands_with RiscV addresses row symbol r entry) ≡ Some value
      → HasMovedTo (Ok (value_of row (operands_with RiscV addresses row symbol (with_value r value wanted) entry)))
  value_moved valued symbol entry is =
      let o = operands_with RiscV addresses row symbol r entry in
      let base = base_of row.kind o in
      let less = less_of row.kind row.size o in
      let a = cast_unsigned w64 r.addend in
      let n = made base less a in
      let small : n < 2 ^ 64 = made_small base less a in
      let w = cast_unsigned w64 wanted in
      let of : Some (cast_signed w64 n) ≡ Some value =
      sym (with_addend valued o r.addend) ∙ (ap (value_of row) (sym (operands_are symbol entry r.addend)) ∙ is) in
      let is_value : cast_signed w64 n ≡ value = cc in
      let number : cast_unsigned w64 value ≡ n = sym (ap (cast_unsigned w64) is_value) ∙ of_z-to_z w64 n small in
      let same = same_32 wanted value fits (subst (FitsSigned w64) is_value (sfits_to_z (record { fits = small }))) same_rest in
      let b = sum_64 a (difference_64 w n) in
      let addend : (with_value r value wanted).addend ≡ cast_signed w64 b = cc in
      let there : cast_unsigned w64 (cast_signed w64 b) ≡ b = of_z-to_z w64 b (sum_below a (difference_64 w n)) in
      record {
        same = same;
        addend = ap (λ z. cast_unsigned w64 z % 2 ^ 32) addend
            ∙ (ap (λ y. y % 2 ^ 32) there ∙ moved_low a w n small (same ∙ ap (λ v. v % 2 ^ 32) number));
        is = ap Ok (ap (value_of row) (operands_are symbol entry (with_value r value wanted).addend)
            ∙ (with_addend valued o (with_value r value wanted).addend
            ∙ ap Some (ap (λ z. cast_signed w64 (made base less (cast_unsigned w64 z))) addend
            ∙ (ap (λ y. cast_signed w64 (made base less y)) there
            ∙ (ap (cast_signed w64) (moved base less a w (unsigned_small wanted fits)) ∙ to_z-of_z w64 wanted fits)))));
      }

  by_entry : has_value row.kind ≡ true → (lacks : Bool) (symbol : Symbol) (entry : Option ℕ)
      → value_by lacks row (operands_by RiscV addresses row r symbol entry) ≡ Ok (Some value)
      → HasMovedTo (value_by lacks row (operands_by RiscV addresses row (with_value r value wanted) symbol entry))
  by_entry valued lacks symbol None is = absurd (cc)
  by_entry valued true symbol (Some entry) is = absurd (cc)
  by_entry valued false symbol (Some entry) is =
      value_moved valued symbol entry (let e : value_of row (operands_with RiscV addresses row symbol r entry) ≡ Some value = cc in e)

  by_symbol : has_value row.kind ≡ true → (lacks : Bool) (symbol : Option Symbol)
      → value_by lacks row (operands_in RiscV addresses row r symbol) ≡ Ok (Some value)
      → HasMovedTo (value_by lacks row (operands_in RiscV addresses row (with_value r value wanted) symbol))
  by_symbol valued lacks None is = absurd (cc)
  by_symbol valued lacks (Some symbol) is =
      let tls = symbol.is_thread_local in
      rw (← (sum.same_entry r.addend (with_value r value wanted).addend tls))
      (by_entry valued lacks symbol (entry_address addresses symbol (entry_of row r.addend tls)) is)

  own_moved : (symbols : List Symbol) (valued : Bool) → has_value row.kind ≡ valued
      → (if valued then value_by (lacks_origin addresses symbols row r) row (operands_of RiscV addresses symbols row r) else Ok None)
      ≡ Ok (Some value)
      → HasMovedTo (if valued then
      value_by (lacks_origin addresses symbols row r) row (operands_of RiscV addresses symbols row (with_value r value wanted))
      else Ok None)
  own_moved symbols true valued is = by_symbol valued (lacks_origin addresses symbols row r) (slice_get symbols r.symbol) is
  own_moved symbols false valued is = absurd (cc)

-- ---- a relocation that stands alone

unchanged : (r : Rela) → HasWrappedAddend r r
unchanged r = record { others = refl; addend = refl }

unbounded : (result : Value) → IsWrappedValue None result result
unbounded (Err error) = refl
unbounded (Ok None) = refl
unbounded (Ok (Some value)) = (value, refl, record { same = refl; within = λ v same inside. inside })

module _ (addresses : Addresses) (symbols : List Symbol) (row : RowInfo) (sum : IsSum row) (r : Rela) where
  -- what becomes of it, by its value
  abbrev Becomes : Bounds → Value → Rela → Type 0
  Becomes bounds result after =
      HasWrappedAddend r after × IsWrappedValue bounds result (own_value RiscV addresses symbols row after)

  becomes : (bounds : Bounds) → AreNear bounds → (result : Value) → own_value RiscV addresses symbols row r ≡ result
      → (after : Rela) → IsWrappedTo (least_in bounds) r result after → Becomes bounds result after
  becomes None are result is after to =
      subst (Becomes None result) (sym to) (unchanged r, subst (λ x. IsWrappedValue None result x) (sym is) (unbounded result))
  becomes (Some bounds) are (Err error) is after to = subst (Becomes (Some bounds) (Err error)) (sym to) (unchanged r, is)
  becomes (Some bounds) are (Ok None) is after to = subst (Becomes (Some bounds) (Ok None)) (sym to) (unchanged r, is)
  becomes (Some bounds) are (Ok (Some value)) is after to =
      let number = to.0 in
      let least = to.1 in
      let fits = fits_near bounds.0 number are.0 least.from least.below in
      let done = own_moved row sum addresses r value number fits least.same symbols (has_value row.kind) refl is in
      subst (Becomes (Some bounds) (Ok (Some value))) (sym to.2)
      (record { others = refl; addend = done.addend }, (number, done.is, wrapped_within bounds value number are least done.same))

  -- a low part stays
  by_label : (labelled : Bool) → names_label row.size row.kind ≡ labelled → (after : Rela)
      → IsWrappedTo (if labelled then None else least_in (reach_of row)) r (own_value RiscV addresses symbols row r) after
      → HasWrappedAddend r after
  by_label true is after to = subst (HasWrappedAddend r) (sym to) (unchanged r)
  by_label false is after to = (becomes (reach_of row) (near (reach_of row) sum.near) (own_value RiscV addresses symbols row r) refl after to).0

  alone : names_label row.size row.kind ≡ false → (after : Rela) → IsWrappedBy addresses symbols r (Some row) after
      → Becomes (reach_of row) (own_value RiscV addresses symbols row r) after
  alone isnt after to =
      becomes (reach_of row) (near (reach_of row) sum.near) (own_value RiscV addresses symbols row r) refl after
      (subst (λ labelled. IsWrappedTo (if labelled then None else least_in (reach_of row)) r (own_value RiscV addresses symbols row r) after)
      isnt to)

addend_by : (addresses : Addresses) (symbols : List Symbol) (r after : Rela) (row : Option RowInfo)
    → IsRow RiscV r.r_type row → IsWrappedBy addresses symbols r row after → HasWrappedAddend r after
addend_by addresses symbols r after None of to = subst (HasWrappedAddend r) (sym to) (unchanged r)
addend_by addresses symbols r after (Some row) of to =
    by_label addresses symbols row (is_sum r.r_type row of) r (names_label row.size row.kind) refl after to

pub addends : Addends
addends addresses symbols before after are n below =
    let each = are.each n below in
    addend_by addresses symbols (relocation_in before n) (relocation_in after n) each.0 each.1 each.2

-- the value of a relocation that is no low part
own_wrapped : (addresses : Addresses) (symbols : List Symbol) (row : RowInfo) (r after : Rela)
    → IsRow RiscV r.r_type (Some row) → IsWrapped addresses symbols r after → names_label row.size row.kind ≡ false
    → IsWrappedValue (reach_of row) (own_value RiscV addresses symbols row r) (own_value RiscV addresses symbols row after)
own_wrapped addresses symbols row r after of each isnt =
    (alone addresses symbols row (is_sum r.r_type row of) r isnt after
    (subst (λ x. IsWrappedBy addresses symbols r x after) (one_row RiscV r.r_type each.0 (Some row) each.1 of) each.2)).1

-- ---- a low part

module _ (addresses : Addresses) (symbols : List Symbol) (row high : RowInfo) (low : IsLow row)
    (labelled : names_label row.size row.kind ≡ true) (upper : IsHigh (is_of_descriptor row.kind) high)
    (is_high : is_high_part row.kind (Some high) ≡ true) where
  high_part : is_high_part (low_kind (is_of_descriptor row.kind)) (Some high) ≡ true
  high_part = cc

  by_operands : (operands : Result Operands ValueError) → low_by row high operands ≡ value_by false high operands
  by_operands (Err error) = refl
  by_operands (Ok o) =
      ap Ok (when_true (names_label row.size row.kind) (value_of row (low_operands high o)) _ (low.value (low_operands high o)) labelled
      ∙ when_true (is_high_part (low_kind (is_of_descriptor row.kind)) (Some high)) _ (value_of high o) (upper.value o) high_part)

  -- its value is that of the high part alone
  as_alone : (r : Rela) → low_value RiscV addresses symbols row (Some (r, high)) ≡ own_value RiscV addresses symbols high r
  as_alone r =
      let part = is_high_part (low_kind (is_of_descriptor row.kind)) (Some high) in
      let offset = when_true part (is_offset high.kind) false upper.no_offset high_part in
      rw ((when_true part (has_value high.kind) true upper.valued high_part), offset) (by_operands (operands_of RiscV addresses symbols high r))

  unlabelled : names_label high.size high.kind ≡ false
  unlabelled = when_true (is_high_part (low_kind (is_of_descriptor row.kind)) (Some high)) _ false upper.unlabelled high_part

  low_wrapped : (r after : Rela) → IsRow RiscV r.r_type (Some high) → IsWrapped addresses symbols r after
      → IsWrappedValue (reach_of row) (low_value RiscV addresses symbols row (Some (r, high))) (low_value RiscV addresses symbols row (Some (after, high)))
  low_wrapped r after of each =
      let same_reach : reach_of high ≡ reach_of row =
      when_true (is_high_part (low_kind (is_of_descriptor row.kind)) (Some high)) _ (Some riscv_pair_bounds) upper.bounds high_part
      ∙ sym (when_true (names_label row.size row.kind) (reach_of row) (Some riscv_pair_bounds) low.bounds labelled) in
      rw (as_alone r, as_alone after, ← same_reach) (own_wrapped addresses symbols high r after of each unlabelled)

module _ (addresses : Addresses) (symbols : List Symbol) (before after : List ℕ)
    (are : AreWrapped addresses symbols before after) where
  same_count : length after / 24 ≡ length before / 24
  same_count = ap (λ n. n / 24) are.same_length

  none_was : (kind : RelocationKind) (at : ℕ) → IsHighPartAt RiscV after kind at None → IsHighPartAt RiscV before kind at None
  none_was kind at none i r is =
      let there = there_is before i r is in
      let new = relocation_in after i in
      let becomes = addends addresses symbols before after are i there.within in
      let now : relocation_at after i ≡ Some new = there_at after i (subst (λ n. i < n) (sym same_count) there.within) in
      let old : new ≡ record r { addend = new.addend } = becomes.others ∙ ap (λ (x : Rela). record x { addend = new.addend }) there.is in
      subst (IsNoHighPart RiscV kind at) old (none i new now)

  low_was : (row : RowInfo) → IsSum row → names_label row.size row.kind ≡ true → (at : ℕ)
      (found : Option (Rela × RowInfo)) → IsHighPartAt RiscV after row.kind at found
      → (first : Option (Rela × RowInfo)) × IsHighPartAt RiscV before row.kind at first
      × IsWrappedValue (reach_of row) (low_value RiscV addresses symbols row first) (low_value RiscV addresses symbols row found)
  low_was row sum labelled at None none = (None, none_was row.kind at none, refl)
  low_was row sum labelled at (Some (new, high)) part =
      let i = part.index in
      let there = there_is after i new part.is_there in
      let below : i < length before / 24 = subst (λ n. i < n) same_count there.within in
      let r = relocation_in before i in
      let is : new ≡ record r { addend = new.addend } =
      sym there.is ∙ ((addends addresses symbols before after are i below).others ∙ ap (λ (x : Rela). record r { addend = x.addend }) there.is) in
      let of : IsRow RiscV r.r_type (Some high) = subst (λ (x : Rela). IsRow RiscV x.r_type (Some high)) is part.row_is in
      let offset : r.offset ≡ at = sym (ap (λ (x : Rela). x.offset) is) ∙ part.offset_is in
      let each : IsWrapped addresses symbols r new = subst (IsWrapped addresses symbols r) there.is (are.each i below) in (
        Some (r, high),
        record { index = i; is_there = there_at before i below; offset_is = offset; row_is = of; is_high = part.is_high },
        low_wrapped addresses symbols row high sum.low labelled (high_is (is_of_descriptor row.kind) high (is_sum r.r_type high of))
            part.is_high r new of each,
      )

  abbrev Was : RowInfo → Rela → Value → Type 0
  Was row r result =
      (first : Value) × IsValue RiscV addresses before symbols r first × IsWrappedValue (reach_of row) first result

  was_low : (row : RowInfo) (r : Rela) → IsRow RiscV r.r_type (Some row) → names_label row.size row.kind ≡ true
      → (label : Option Symbol) → slice_get symbols r.symbol ≡ label → (first : Value)
      → IsLowValue RiscV addresses before symbols row label first → IsValue RiscV addresses before symbols r first
  was_low row r of labelled label is first low = (
    Some row,
    of,
    subst (λ b. IsValueBy b RiscV addresses before symbols row r first) (sym labelled)
        (subst (λ s. IsLowValue RiscV addresses before symbols row s first) (sym is) low),
  )

  label_was : (row : RowInfo) → IsSum row → (r : Rela) → IsRow RiscV r.r_type (Some row)
      → names_label row.size row.kind ≡ true → (label : Option Symbol) → slice_get symbols r.symbol ≡ label
      → (result : Value) → IsLowValue RiscV addresses after symbols row label result → Was row r result
  label_was row sum r of labelled None is result value =
      (Err NoSymbol, was_low row r of labelled None is (Err NoSymbol) refl, value)
  label_was row sum r of labelled (Some label) is result value =
      let low = low_was row sum labelled (difference_64 label.address addresses.section) value.0 value.1 in
      let first = low_value RiscV addresses symbols row low.0 in (
        first,
        was_low row r of labelled (Some label) is first (low.0, low.1, refl),
        subst (λ x. IsWrappedValue (reach_of row) first x) (sym value.2) low.2,
      )

  by_kind : (n : ℕ) → n < length before / 24 → (row : RowInfo)
      → IsRow RiscV (relocation_in before n).r_type (Some row)
      → (labelled : Bool) → names_label row.size row.kind ≡ labelled → (result : Value)
      → IsValueBy labelled RiscV addresses after symbols row (relocation_in after n) result
      → Was row (relocation_in before n) result
  by_kind n below row of true labelled result value =
      let r = relocation_in before n in
      label_was row (is_sum r.r_type row of) r of labelled (slice_get symbols (relocation_in after n).symbol)
      (sym (ap (λ (x : Rela). slice_get symbols x.symbol) (addends addresses symbols before after are n below).others)) result value
  by_kind n below row of false isnt result value =
      let r = relocation_in before n in
      let first = own_value RiscV addresses symbols row r in
      let same : first ≡ first = refl in (
        first,
        (Some row, of, rw isnt same),
        rw value (own_wrapped addresses symbols row r (relocation_in after n) of (are.each n below) isnt),
      )

pub values : Values
values addresses symbols before after are n below row of result value =
    let r = relocation_in before n in
    let now : IsRow RiscV r.r_type value.0 =
    subst (λ (x : Rela). IsRow RiscV x.r_type value.0) (addends addresses symbols before after are n below).others value.1 in
    let same : value.0 ≡ Some row = one_row RiscV r.r_type value.0 (Some row) now of in
    by_kind addresses symbols before after are n below row of (names_label row.size row.kind) refl result
    (subst (λ x. IsValueIn RiscV addresses after symbols (relocation_in after n) x result) same value.2)

-- ---- instructions: a sum modulo 2^64 is one modulo 2^32

weaker : (steps : List Step) (o : Operands) (c : Computed steps) (t t' : ℕ) → t' % 2 ^ 32 ≡ t % 2 ^ 32
    → Reaches steps o c t' → Reaches32 steps o c t
weaker [] o c t t' same is = sym (rem_rem c t' 64 32 (omega arith) (sym is)) ∙ ap pos same
weaker (step ∷ steps) o c t t' same is =
    mapped (λ row law at before after applied holds.
    weaker steps o (c (number_at row.size after)) t t' same (law at before after applied holds)) step.row is

pub with_addend_sum : (o : Operands) (a : ℤ) → AreAddresses o → AreAddresses (record o { addend = a })
with_addend_sum o a are =
    small (record o { addend = a }) are.symbol are.place are.got_entry are.got_base are.plt_entry are.tls_base

-- a target that changes with its addend by multiples of 2^32
abbrev IsTarget32 : (Operands → ℕ) → Type 0
IsTarget32 target =
    (o : Operands) (a : ℤ) → IsSame32 a o.addend → target (record o { addend = a }) % 2 ^ 32 ≡ target o % 2 ^ 32

pub symbol_32 : IsTarget32 symbol_address
symbol_32 o a same = omega (arith, same)

entry_32 : IsTarget32 entry_and_addend
entry_32 o a same = omega (arith, same)

law_32 : (steps : List Step) (computed : Operands → Computed steps) (target : Operands → ℕ)
    → IsTarget32 target → Law steps computed target → Law32 steps computed target
law_32 steps computed target moves law = λ o a small same.
    let p : Operands = record o { addend = a } in
    weaker steps p (computed p) (target o) (target p) (moves o a same) (law p (with_addend_sum o a small))

pairs : (begin : Operands → ℕ) (upper : RiscVInstruction) (high : Option RowInfo) (load store : Step)
    (target : Operands → ℕ) → IsTarget32 target
    → laws.Pairs Law begin upper high load store target → laws.Pairs Law32 begin upper high load store target
pairs begin upper high load store target moves law = (
  law_32 (here high ∷ load ∷ []) (upper_and_low begin upper IType) target moves law.0,
  law_32 (here high ∷ store ∷ []) (upper_and_low begin upper SType) target moves law.1,
)

entries : (name : RiscVRelocation) → laws.Entries Law name → laws.Entries Law32 name
entries name = pairs place UType (riscv_row name) (of_entry low_load) (of_entry low_store) entry_and_addend entry_32

pub absolute : laws.AbsoluteAddresses Law → laws.AbsoluteAddresses Law32
absolute law = (upper UType (riscv_row riscv64.R_RISCV_HI20) law.0, upper CluiType (Some clui_row) law.1)
  where
    load : Step
    load = here (riscv_row riscv64.R_RISCV_LO12_I)

    store : Step
    store = here (riscv_row riscv64.R_RISCV_LO12_S)

    upper : (f : RiscVInstruction) (high : Option RowInfo) → laws.Pairs Law zero f high load store symbol_address
        → laws.Pairs Law32 zero f high load store symbol_address
    upper f high = pairs zero f high load store symbol_address symbol_32

pub relative : laws.RelativeAddresses → laws.EntryAddresses Law → RelativeAddresses
relative law of_entries = (
  pairs place UType (riscv_row riscv64.R_RISCV_PCREL_HI20) low_load low_store symbol_address symbol_32 law,
  (
    entries riscv64.R_RISCV_GOT_HI20 of_entries.0,
    entries riscv64.R_RISCV_TLS_GOT_HI20 of_entries.1,
    entries riscv64.R_RISCV_TLS_GD_HI20 of_entries.2,
  ),
)

descriptor : (low : RiscVRelocation) → laws.Descriptor Law low → laws.Descriptor Law32 low
descriptor low =
    law_32 (here ((riscv_relocation riscv64.R_RISCV_TLSDESC_HI20).row) ∷ here ((riscv_relocation low).row) ∷ [])
    (upper_and_low place UType IType) entry_and_addend entry_32

pub descriptors : laws.DescriptorAddresses Law → laws.DescriptorAddresses Law32
descriptors law = (
  descriptor riscv64.R_RISCV_TLSDESC_LOAD_LO12 law.0,
  descriptor riscv64.R_RISCV_TLSDESC_ADD_LO12 law.1,
)

pub thread : laws.ThreadAddresses Law → laws.ThreadAddresses Law32
thread law =
    pairs tls_base UType (riscv_row riscv64.R_RISCV_TPREL_HI20) (here (riscv_row riscv64.R_RISCV_TPREL_LO12_I))
    (here (riscv_row riscv64.R_RISCV_TPREL_LO12_S)) symbol_address symbol_32 law

call : (name : RiscVRelocation) → laws.Call Law name → laws.Call Law32 name
call name =
    law_32 (here (riscv_row name) ∷ []) (λ o x. without_bit_0 (pos o.place +ℤ (riscv_form UiType).machine x))
    (even plt_address) (λ o a same. omega (arith, same))

jump : (name : RiscVRelocation) (f : RiscVInstruction) → laws.Jump Law name f → laws.Jump Law32 name f
jump name f =
    law_32 (here (riscv_row name) ∷ []) (λ o x. pos o.place +ℤ ((riscv_form f).machine x *ℤ pos 1)) symbol_address symbol_32

pub branches : laws.Calls → laws.Jumps → Branches
branches calls jumps = (
  call riscv64.R_RISCV_CALL calls.0,
  call riscv64.R_RISCV_CALL_PLT calls.1,
  jump riscv64.R_RISCV_JAL JType jumps.0,
  jump riscv64.R_RISCV_BRANCH BType jumps.1,
  jump riscv64.R_RISCV_RVC_JUMP CjType jumps.2,
  jump riscv64.R_RISCV_RVC_BRANCH CbType jumps.3,
)

word : (name : RiscVRelocation) (begin target : Operands → ℕ)
    → ((o : Operands) (a : ℤ) → begin (record o { addend = a }) ≡ begin o) → IsTarget32 target
    → HoldsDistance 4 (riscv_row name) begin target → Word name begin target
word name begin target keeps moves =
    mapped (λ row is o a small same before after applied.
    ap (λ b. (b + number_of_bytes 4 after) % 2 ^ 32) (sym (keeps o a))
    ∙ (is (record o { addend = a }) (with_addend_sum o a small) before after applied ∙ moves o a same)) (riscv_row name)

pub words : laws.Fields → Words
words law = (
  word riscv64.R_RISCV_32 zero symbol_address (λ o a. refl) symbol_32 law.0,
  word riscv64.R_RISCV_32_PCREL place symbol_address (λ o a. refl) symbol_32 law.2,
  word riscv64.R_RISCV_PLT32 place plt_address (λ o a. refl) (λ o a same. omega (arith, same)) law.3,
  word riscv64.R_RISCV_GOT32_PCREL place entry_and_addend (λ o a. refl) entry_32 law.4,
)
