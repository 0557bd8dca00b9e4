-- The law of one instruction, over all rows of one field.
use Rattle.linker_laws.proofs.Imports.{AllowedRange, AnyForm, AreAddresses, BitMasking, BitRange, Bool, IsAddress, IsAligned, IsApplied, IsWithin, Law, List, Operands, Option, PageMask, Premise, RelocationKind, RowInfo, Some, Step, [], and_parts, ap, arith, bits_from, cast_signed, cast_unsigned, difference_64, entry_address, entry_and_addend, eqb, eqb-true, field, got_base, high_of, inl, inr, is_sound_layout, layout_check, leb, leb-true, low_of, ltb, ltb-true, none, or_cases, place, place_sum, plt_address, pos, reach_of, relocation_form, relocation_layout, size_and_addend, subst, sum_64, sym, symbol_address, tls_base, true, value_of, w64, window_of, ℕ, ℤ, ◌%◌, ◌&&◌, ◌*ℤ◌, ◌+ℤ◌, ◌-◌, ◌<◌, ◌^◌, ◌||◌, ◌∙◌, ◌∷◌, ◌≡◌, ◌≤◌}
use Rattle.linker_laws.specs.Schemes.{zero}
use Rattle.linker_laws.proofs.Applied.{insn_reads, is_plain, begins, fits, value_is, reads_within, aligned_low, stands, taken_bits, sound_written}
use Rattle.linker_laws.proofs.Sums.{Leads, difference_leads, itself_leads, sum_below, difference_below, multiple_part}

-- ---- what values lead to

-- The number n of a formula leads from p to s.
pub record Number (p s n : ℕ) : Type 0 where
  pub below : n < 2 ^ 64
  pub leads : Leads p n s
  pub small : s < 2 ^ 64

pub unbiased : (s : ℕ) → s < 2 ^ 64 → sum_64 s 0 ≡ s
unbiased s small = omega arith

pub relative_number : (s p : ℕ) → s < 2 ^ 64 → p < 2 ^ 64
    → Number p s (difference_64 (sum_64 s 0) p)
relative_number s p small place =
    record {
      below = difference_below (sum_64 s 0) p;
      leads = subst (λ t. Leads p (difference_64 t p) s) (sym (unbiased s small))
          (difference_leads s p small place);
      small = small;
    }

pub absolute_number : (s : ℕ) → s < 2 ^ 64 → Number 0 s (sum_64 s 0)
absolute_number s small =
    record {
      below = sum_below s 0;
      leads = subst (λ t. Leads 0 t s) (sym (unbiased s small)) (itself_leads s small);
      small = small;
    }

-- ---- rows of one field

-- bits from `start` up, below `end`, of values that are checked
abbrev pub row_of : RelocationKind → ℕ → ℕ → AnyForm → Option PageMask → AllowedRange
    → ℕ → Option ℕ → Bool → Bool → RowInfo
row_of kind start end insn mask range a bias thunkable implicit =
    record {
      kind = kind;
      size = BitMasking (record { start = start; end = end }) insn;
      mask = mask;
      range = range;
      alignment = a;
      bias = bias;
      thunkable = thunkable;
      implicit_addend = implicit;
    }

-- The machine reads the values within bounds, which are multiples of 2 to the range's start.
pub record IsRead (insn : AnyForm) (start end : ℕ) (b : ℤ × ℤ) (a : ℕ) : Type 0 where
  pub sound : is_sound_layout (relocation_layout insn) ≡ true
  pub check : layout_check (relocation_layout insn) start end (Some b) a ≡ true
  pub some : start < end
  pub inside : end ≤ 64
  pub from : begins insn start ≡ true

abbrev pub is_read : AnyForm → ℕ → ℕ → ℤ × ℤ → ℕ → Bool
is_read insn start end b a =
    is_sound_layout (relocation_layout insn)
    && (layout_check (relocation_layout insn) start end (Some b) a
    && (begins insn start && (ltb start end && leb end 64)))

-- the same in units of 2 to the range's start
abbrev pub is_added : AnyForm → ℕ → ℕ → ℤ × ℤ → ℕ → Bool
is_added insn start end b a =
    is_read insn start end b a && (ltb start 64 && (eqb start 0 || eqb a (2 ^ start)))

pub read_parts : (insn : AnyForm) (start end : ℕ) (b : ℤ × ℤ) (a : ℕ)
    → is_read insn start end b a ≡ true → IsRead insn start end b a
read_parts insn start end b a h =
    let one = and_parts (is_sound_layout (relocation_layout insn))
    (layout_check (relocation_layout insn) start end (Some b) a
    && (begins insn start && (ltb start end && leb end 64))) h in
    let two = and_parts (layout_check (relocation_layout insn) start end (Some b) a)
    (begins insn start && (ltb start end && leb end 64)) one.1 in
    let first = and_parts (begins insn start) (ltb start end && leb end 64) two.1 in
    let three = and_parts (ltb start end) (leb end 64) first.1 in
    record {
      sound = one.0;
      check = two.0;
      some = ltb-true start end three.0;
      inside = leb-true end 64 three.1;
      from = first.0;
    }

module _ (kind : RelocationKind) (start end : ℕ) (insn : AnyForm)
    (mask : Option PageMask) (range : AllowedRange) (a : ℕ) (bias : Option ℕ)
    (thunkable implicit : Bool) (o : Operands) (before after : List ℕ)
    (applied : IsApplied (row_of kind start end insn mask range a bias thunkable implicit) o
    before after) where
  -- what the machine reads, where the value is within bounds
  pub reads_bits : (b : ℤ × ℤ) → IsWithin (Some b) applied.value
      → is_read insn start end b a ≡ true → (n : ℕ) → n < 2 ^ 64
      → value_of (row_of kind start end insn mask range a bias thunkable implicit) o
      ≡ Some (cast_signed w64 n)
      → insn_reads insn (window_of (relocation_form insn) after)
      ≡ bits_from start (cast_signed w64 n)
  reads_bits b within ok n below e =
      let row = row_of kind start end insn mask range a bias thunkable implicit in
      let parts = read_parts insn start end b a ok in
      let is = value_is row o before after applied (cast_signed w64 n) e in
      reads_within insn parts.sound (record { start = start; end = end }) applied.value before after
      (sound_written insn parts.sound kind (record { start = start; end = end }) applied.value before
      after applied.written) parts.inside b a parts.check
      (fits row o before after applied n below is) parts.some within applied.accepted.aligned.0
      parts.from applied.accepted.aligned.1
      ∙ ap (bits_from start) (sym is)

  -- the value's low bits
  pub multiple : (n k : ℕ) → n < 2 ^ 64 → k < 65 → a ≡ 2 ^ k
      → value_of (row_of kind start end insn mask range a bias thunkable implicit) o
      ≡ Some (cast_signed w64 n)
      → n % 2 ^ k ≡ 0
  multiple n k below short is_power e =
      let row = row_of kind start end insn mask range a bias thunkable implicit in
      aligned_low n k applied.value below short
      (value_is row o before after applied (cast_signed w64 n) e)
      (subst (λ m. IsAligned m applied.value) is_power applied.accepted.aligned.0)

  -- what stands at the places
  pub field_sum : (sound : is_sound_layout (relocation_layout insn) ≡ true) → is_plain insn ≡ true
      → end ≤ 64 → (n : ℕ) → n < 2 ^ 64
      → value_of (row_of kind start end insn mask range a bias thunkable implicit) o
      ≡ Some (cast_signed w64 n)
      → place_sum ((relocation_form insn).places (sound_written insn sound kind
      (record { start = start; end = end }) applied.value before after applied.written).clear)
      (window_of (relocation_form insn) after)
      ≡ (field n start end - field n start end % 2 ^ low_of (relocation_layout insn))
      % 2 ^ high_of (relocation_layout insn)
  field_sum sound plain inside n below e =
      let row = row_of kind start end insn mask range a bias thunkable implicit in
      let bits : BitRange = record { start = start; end = end } in
      stands insn sound bits applied.value before after
      (sound_written insn sound kind bits applied.value before after applied.written) inside plain
      ∙ ap (λ f. (f - f % 2 ^ low_of (relocation_layout insn))
      % 2 ^ high_of (relocation_layout insn))
      (taken_bits bits n applied.value below
      (value_is row o before after applied (cast_signed w64 n) e))

  -- An instruction that holds the value in units of 2 to the range's start adds it to what it
  -- begins with.
  adds_number : (b : ℤ × ℤ) → IsWithin (Some b) applied.value → is_added insn start end b a ≡ true
      → (p n s : ℕ) → Number p s n
      → value_of (row_of kind start end insn mask range a bias thunkable implicit) o
      ≡ Some (cast_signed w64 n)
      → IsAddress (pos p
      +ℤ (insn_reads insn (window_of (relocation_form insn) after) *ℤ pos (2 ^ start))) s
  adds_number b within ok p n s number e =
      let both = and_parts (is_read insn start end b a)
      (ltb start 64 && (eqb start 0 || eqb a (2 ^ start))) ok in
      let rest = and_parts (ltb start 64) (eqb start 0 || eqb a (2 ^ start)) both.1 in
      let short = ltb-true start 64 rest.0 in
      let none : n % 2 ^ start ≡ 0 =
      elim (or_cases (eqb start 0) (eqb a (2 ^ start)) rest.1) [
        | inl at_0 ↦ ap (λ k. n % 2 ^ k) (eqb-true start 0 at_0) ∙ omega arith
        | inr power ↦
            multiple n start number.below (omega arith) (eqb-true a (2 ^ start) power) e
      ] in
      multiple_part start p n s
      (insn_reads insn (window_of (relocation_form insn) after))
      (omega arith) number.below number.leads (reads_bits b within both.0 n number.below e) none
      number.small

-- ---- laws

-- the addresses that operands give
abbrev pub IsSmall : (Operands → ℕ) → Type 0
IsSmall f = (o : Operands) → AreAddresses o → f o < 2 ^ 64

pub zero_small : IsSmall zero
zero_small o small = omega arith

pub symbol_small : IsSmall symbol_address
symbol_small o small = sum_below o.symbol (cast_unsigned w64 o.addend)

pub plt_small : IsSmall plt_address
plt_small o small = sum_below o.plt_entry (cast_unsigned w64 o.addend)

pub entry_and_addend_small : IsSmall entry_and_addend
entry_and_addend_small o small = sum_below o.got_entry (cast_unsigned w64 o.addend)

pub place_small : IsSmall place
place_small o small = small.place

pub got_small : IsSmall got_base
got_small o small = small.got_base

pub tls_small : IsSmall tls_base
tls_small o small = small.tls_base

-- a formula's number, by operands
abbrev pub IsNumber : (Operands → ℕ) → (Operands → ℕ) → (Operands → ℕ) → Type 0
IsNumber begin target number =
    (o : Operands) → AreAddresses o → Number (begin o) (target o) (number o)

abbrev pub relative : (Operands → ℕ) → (Operands → ℕ) → Operands → ℕ
relative target begin o = difference_64 (sum_64 (target o) 0) (begin o)

abbrev pub absolute : (Operands → ℕ) → Operands → ℕ
absolute target o = sum_64 (target o) 0

-- what is subtracted leads to the target
pub leads_from : (begin target : Operands → ℕ) → IsSmall begin → IsSmall target
    → IsNumber begin target (relative target begin)
leads_from begin target from to = λ o small.
    relative_number (target o) (begin o) (to o small) (from o small)

pub leads_to : (target : Operands → ℕ) → IsSmall target → IsNumber zero target (absolute target)
leads_to target to = λ o small. absolute_number (target o) (to o small)

pub symbol_from_place : IsNumber place symbol_address (relative symbol_address place)
symbol_from_place = leads_from place symbol_address place_small symbol_small

pub plt_from_place : IsNumber place plt_address (relative plt_address place)
plt_from_place = leads_from place plt_address place_small plt_small

pub entry_and_addend_from_place : IsNumber place entry_and_addend (relative entry_and_addend place)
entry_and_addend_from_place =
    leads_from place entry_and_addend place_small entry_and_addend_small

pub entry_and_addend_from_got : IsNumber got_base entry_and_addend
    (relative entry_and_addend got_base)
entry_and_addend_from_got =
    leads_from got_base entry_and_addend got_small entry_and_addend_small

pub plt_from_got : IsNumber got_base plt_address (relative plt_address got_base)
plt_from_got = leads_from got_base plt_address got_small plt_small

pub entry_and_addend_itself : IsNumber zero entry_and_addend (absolute entry_and_addend)
entry_and_addend_itself = leads_to entry_and_addend entry_and_addend_small

pub size_itself : IsNumber zero size_and_addend (absolute size_and_addend)
size_itself =
    leads_to size_and_addend
    (λ o small. sum_below o.symbol_size (cast_unsigned w64 o.addend))

pub symbol_from_tls : IsNumber tls_base symbol_address (relative symbol_address tls_base)
symbol_from_tls = leads_from tls_base symbol_address tls_small symbol_small

pub symbol_from_got : IsNumber got_base symbol_address (relative symbol_address got_base)
symbol_from_got = leads_from got_base symbol_address got_small symbol_small

pub symbol_itself : IsNumber zero symbol_address (absolute symbol_address)
symbol_itself = leads_to symbol_address symbol_small

-- the entry's address where no addend is added to it
abbrev pub entry_sum : Operands → ℕ
entry_sum o = sum_64 o.got_entry 0

pub entry_sum_small : IsSmall entry_sum
entry_sum_small o small = sum_below o.got_entry 0

pub entry_is : (o : Operands) → AreAddresses o → entry_sum o ≡ entry_address o
entry_is o small = unbiased o.got_entry small.got_entry

pub entry_from : (begin : Operands → ℕ) → IsSmall begin
    → IsNumber begin entry_address (relative entry_sum begin)
entry_from begin from = λ o small.
    subst (λ t. Number (begin o) t (relative entry_sum begin o))
    (unbiased o.got_entry small.got_entry)
    (relative_number (entry_sum o) (begin o) (sum_below o.got_entry 0) (from o small))

pub entry_from_place : IsNumber place entry_address (relative entry_sum place)
entry_from_place = entry_from place place_small

pub entry_from_got : IsNumber got_base entry_address (relative entry_sum got_base)
entry_from_got = entry_from got_base got_small

-- the same distance from a place n bytes on, where S + A is as much more
pub same_distance : (n : ℕ) (o : Operands) → AreAddresses o → n < 2 ^ 64
    → difference_64 (sum_64 (sum_64 (sum_64 o.symbol n) (cast_unsigned w64 o.addend)) 0)
    (sum_64 o.place n)
    ≡ relative symbol_address place o
same_distance n o small few = same o.symbol (cast_unsigned w64 o.addend) o.place small.place
  where
    same : (s a p : ℕ) → p < 2 ^ 64
        → difference_64 (sum_64 (sum_64 (sum_64 s n) a) 0) (sum_64 p n)
        ≡ difference_64 (sum_64 (sum_64 s a) 0) p
    same s a p small = omega arith

-- a relocation of a sequence, and the one whose place is the sequence's
abbrev pub step_of : RowInfo → (Operands → ℕ → Operands) → Premise → Step
step_of row operands premise = record { row = Some row; operands = operands; premise = premise }

abbrev pub first_step : RowInfo → Premise → Step
first_step row premise = record { row = Some row; operands = λ o at. o; premise = premise }

-- the value of a relocation is that of a formula's number
abbrev pub HasNumber : RowInfo → (Operands → ℕ → Operands) → (Operands → ℕ) → Type 0
HasNumber row operands number =
    (o : Operands) → AreAddresses o → (at : ℕ)
    → value_of row (operands o at) ≡ Some (cast_signed w64 (number o))

abbrev pub FirstHasNumber : RowInfo → (Operands → ℕ) → Type 0
FirstHasNumber row number =
    (o : Operands) → AreAddresses o → value_of row o ≡ Some (cast_signed w64 (number o))

-- an instruction that adds its number
pub adds : {begin target number : Operands → ℕ} → IsNumber begin target number
    → {kind : RelocationKind} {start end : ℕ} {insn : AnyForm}
    {mask : Option PageMask} {range : AllowedRange} {a : ℕ} {bias : Option ℕ}
    {thunkable implicit : Bool} {b : ℤ × ℤ}
    → reach_of (row_of kind start end insn mask range a bias thunkable implicit) ≡ Some b
    → is_added insn start end b a ≡ true
    → ((o : Operands) → value_of (row_of kind start end insn mask range a bias thunkable implicit) o
    ≡ Some (cast_signed w64 (number o)))
    → Law (first_step (row_of kind start end insn mask range a bias thunkable implicit) none ∷ [])
    (λ o x. pos (begin o) +ℤ (insn_reads insn x *ℤ pos (2 ^ start))) target
adds {begin} {target} {number} leads within ok e = λ o small at before after applied any.
    adds_number _ _ _ _ _ _ _ _ _ _ o before after applied _
    (subst (λ b. IsWithin b applied.value) within applied.accepted.reached.0) ok (begin o)
    (number o) (target o) (leads o small) (e o)
