-- Rows whose values compose are of whole bytes, and fields have at most ten.
use Rattle.linker_section.proofs.Imports.{AArch64Relocation, AnyForm, Architecture, BitMasking, BitRange, Bool, ByteSize, ElfName, IsField, IsNamedValue, IsRow, List, LoongArch64Relocation, None, Option, Ppc64Relocation, RelocationKind, RiscVRelocation, RowInfo, RowSize, Some, X86_64Relocation, [], aarch64_name, aarch64_row, ap, arith, cases_Bool, changes_bits, changes_number, continues, drop, false, field_len, has_value, inl, inr, is_auipc, is_of_pair, leb-true, length, length-take, loongarch_name, loongarch_row, nat_le, nat_lt, never, not, not-true, offset_at, or_cases, ppc64_name, ppc64_row, refl, riscv_name, riscv_relocation, size_len, subst, sym, take, true, uleb_len, window_len, x86_64_name, x86_64_row, ℕ, ◌||◌, ◌∙◌, ◌∷◌, ◌≡◌, ◌≤◌}
use Rattle.linker_elf.specs.declared.elf.architecture.Architecture.TheVariants.{AArch64, X86_64, RiscV, LoongArch64, Ppc64}
use Rattle.linker_elf.specs.declared.aarch64.relocations.AArch64Relocation.TheVariants as aarch64_names
use Rattle.linker_elf.specs.declared.elf.RelocationKind.TheVariants as kinds
use Rattle.linker_elf.specs.declared.loongarch64.relocations.LoongArch64Relocation.TheVariants as loongarch_names
use Rattle.linker_elf.specs.declared.ppc64.relocations.Ppc64Relocation.TheVariants as ppc64_names
use Rattle.linker_elf.specs.declared.riscv64.relocations.RiscVRelocation.TheVariants as riscv_names
use Rattle.linker_elf.specs.declared.x86_64.relocations.X86_64Relocation.TheVariants as x86_64_names
use Rattle.linker_section.proofs.Numbers.{is_word6}

-- the kinds whose values compose
abbrev pub is_composing : RelocationKind → Bool
is_composing kinds.AbsoluteSet = true
is_composing kinds.AbsoluteAddition = true
is_composing kinds.AbsoluteSubtraction = true
is_composing kinds.AbsoluteSetWord6 = true
is_composing kinds.AbsoluteAdditionWord6 = true
is_composing kinds.AbsoluteSubtractionWord6 = true
is_composing kind = false

pub first_composes : (first second : RelocationKind) → continues first second ≡ true
    → is_composing first ≡ true
first_composes kinds.AbsoluteSet second on = refl
first_composes kinds.AbsoluteAddition second on = refl
first_composes kinds.AbsoluteSubtraction second on = refl
first_composes kinds.AbsoluteSetWord6 second on = refl
first_composes kinds.AbsoluteAdditionWord6 second on = refl
first_composes kinds.AbsoluteSubtractionWord6 second on = refl
first_composes _ second on = never on

number_composes : (second : RelocationKind) → changes_number second ≡ true → is_composing second ≡ true
number_composes kinds.AbsoluteAddition on = refl
number_composes kinds.AbsoluteSubtraction on = refl
number_composes _ on = never on

bits_compose : (second : RelocationKind) → changes_bits second ≡ true → is_composing second ≡ true
bits_compose kinds.AbsoluteAdditionWord6 on = refl
bits_compose kinds.AbsoluteSubtractionWord6 on = refl
bits_compose _ on = never on

pub second_composes : (first second : RelocationKind) → continues first second ≡ true
    → is_composing second ≡ true
second_composes kinds.AbsoluteSet second on = number_composes second on
second_composes kinds.AbsoluteAddition second on = number_composes second on
second_composes kinds.AbsoluteSubtraction second on = number_composes second on
second_composes kinds.AbsoluteSetWord6 second on = bits_compose second on
second_composes kinds.AbsoluteAdditionWord6 second on = bits_compose second on
second_composes kinds.AbsoluteSubtractionWord6 second on = bits_compose second on
second_composes _ second on = never on

number_plain : (second : RelocationKind) → changes_number second ≡ true → is_word6 second ≡ false
number_plain kinds.AbsoluteAddition on = refl
number_plain kinds.AbsoluteSubtraction on = refl
number_plain _ on = never on

bits_word6 : (second : RelocationKind) → changes_bits second ≡ true → is_word6 second ≡ true
bits_word6 kinds.AbsoluteAdditionWord6 on = refl
bits_word6 kinds.AbsoluteSubtractionWord6 on = refl
bits_word6 _ on = never on

-- values that compose are of as many bits
pub alike : (first second : RelocationKind) → continues first second ≡ true
    → is_word6 first ≡ is_word6 second
alike kinds.AbsoluteSet second on = sym (number_plain second on)
alike kinds.AbsoluteAddition second on = sym (number_plain second on)
alike kinds.AbsoluteSubtraction second on = sym (number_plain second on)
alike kinds.AbsoluteSetWord6 second on = sym (bits_word6 second on)
alike kinds.AbsoluteAdditionWord6 second on = sym (bits_word6 second on)
alike kinds.AbsoluteSubtractionWord6 second on = sym (bits_word6 second on)
alike _ second on = never on

-- ---- rows

abbrev is_sized : RowSize → RelocationKind → Bool
is_sized (ByteSize n) kind = true
is_sized (BitMasking bits insn) kind = not (is_composing kind)

abbrev is_sized_row : Option RowInfo → Bool
is_sized_row None = true
is_sized_row (Some row) = is_sized row.size row.kind

sized_aarch64 : (name : AArch64Relocation) → is_sized_row (aarch64_row name) ≡ true
sized_aarch64 (aarch64_names.Other r_type) = refl
sized_aarch64 _ = refl

sized_riscv : (name : RiscVRelocation) → is_sized_row ((riscv_relocation name).row) ≡ true
sized_riscv (riscv_names.Other r_type) = refl
sized_riscv _ = refl

sized_loongarch : (name : LoongArch64Relocation) → is_sized_row (loongarch_row name) ≡ true
sized_loongarch (loongarch_names.Other r_type) = refl
sized_loongarch _ = refl

sized_ppc64 : (name : Ppc64Relocation) → is_sized_row (ppc64_row name) ≡ true
sized_ppc64 (ppc64_names.Other r_type) = refl
sized_ppc64 _ = refl

sized_x86_64 : (name : X86_64Relocation) → is_sized_row (x86_64_row name) ≡ true
sized_x86_64 (x86_64_names.Other r_type) = refl
sized_x86_64 _ = refl

-- and each `auipc` has a value
abbrev is_valued : RowSize → RelocationKind → Bool
is_valued size kind = not (is_auipc size) || has_value kind

abbrev is_valued_row : Option RowInfo → Bool
is_valued_row None = true
is_valued_row (Some row) = is_valued row.size row.kind

valued_aarch64 : (name : AArch64Relocation) → is_valued_row (aarch64_row name) ≡ true
valued_aarch64 (aarch64_names.Other r_type) = refl
valued_aarch64 _ = refl

valued_riscv : (name : RiscVRelocation) → is_valued_row ((riscv_relocation name).row) ≡ true
valued_riscv (riscv_names.Other r_type) = refl
valued_riscv _ = refl

valued_loongarch : (name : LoongArch64Relocation) → is_valued_row (loongarch_row name) ≡ true
valued_loongarch (loongarch_names.Other r_type) = refl
valued_loongarch _ = refl

valued_ppc64 : (name : Ppc64Relocation) → is_valued_row (ppc64_row name) ≡ true
valued_ppc64 (ppc64_names.Other r_type) = refl
valued_ppc64 _ = refl

valued_x86_64 : (name : X86_64Relocation) → is_valued_row (x86_64_row name) ≡ true
valued_x86_64 (x86_64_names.Other r_type) = refl
valued_x86_64 _ = refl

test_of : {Name : Type 0} (elf : Name → ElfName) (row_of : Name → Option RowInfo)
    (r_type : ℕ) (row : Option RowInfo) (test : Option RowInfo → Bool)
    → ((name : Name) → test (row_of name) ≡ true) → IsNamedValue elf row_of r_type row
    → test row ≡ true
test_of elf row_of r_type row test all is = ap test is.value_is ∙ all is.name

sized : (architecture : Architecture) (r_type : ℕ) (row : Option RowInfo)
    → IsRow architecture r_type row → is_sized_row row ≡ true
sized AArch64 r_type row is = test_of aarch64_name aarch64_row r_type row is_sized_row sized_aarch64 is
sized RiscV r_type row is = test_of riscv_name (λ name. (riscv_relocation name).row) r_type row is_sized_row sized_riscv is
sized LoongArch64 r_type row is = test_of loongarch_name loongarch_row r_type row is_sized_row sized_loongarch is
sized Ppc64 r_type row is = test_of ppc64_name ppc64_row r_type row is_sized_row sized_ppc64 is
sized X86_64 r_type row is = test_of x86_64_name x86_64_row r_type row is_sized_row sized_x86_64 is

valued : (architecture : Architecture) (r_type : ℕ) (row : Option RowInfo)
    → IsRow architecture r_type row → is_valued_row row ≡ true
valued AArch64 r_type row is = test_of aarch64_name aarch64_row r_type row is_valued_row valued_aarch64 is
valued RiscV r_type row is = test_of riscv_name (λ name. (riscv_relocation name).row) r_type row is_valued_row valued_riscv is
valued LoongArch64 r_type row is = test_of loongarch_name loongarch_row r_type row is_valued_row valued_loongarch is
valued Ppc64 r_type row is = test_of ppc64_name ppc64_row r_type row is_valued_row valued_ppc64 is
valued X86_64 r_type row is = test_of x86_64_name x86_64_row r_type row is_valued_row valued_x86_64 is

-- and none is longer than 8 bytes
abbrev is_short_row : Option RowInfo → Bool
is_short_row None = true
is_short_row (Some row) = nat_le (window_len row) 8

short_aarch64 : (name : AArch64Relocation) → is_short_row (aarch64_row name) ≡ true
short_aarch64 (aarch64_names.Other r_type) = refl
short_aarch64 _ = refl

short_riscv : (name : RiscVRelocation) → is_short_row ((riscv_relocation name).row) ≡ true
short_riscv (riscv_names.Other r_type) = refl
short_riscv _ = refl

short_loongarch : (name : LoongArch64Relocation) → is_short_row (loongarch_row name) ≡ true
short_loongarch (loongarch_names.Other r_type) = refl
short_loongarch _ = refl

short_ppc64 : (name : Ppc64Relocation) → is_short_row (ppc64_row name) ≡ true
short_ppc64 (ppc64_names.Other r_type) = refl
short_ppc64 _ = refl

short_x86_64 : (name : X86_64Relocation) → is_short_row (x86_64_row name) ≡ true
short_x86_64 (x86_64_names.Other r_type) = refl
short_x86_64 _ = refl

short : (architecture : Architecture) (r_type : ℕ) (row : Option RowInfo)
    → IsRow architecture r_type row → is_short_row row ≡ true
short AArch64 r_type row is = test_of aarch64_name aarch64_row r_type row is_short_row short_aarch64 is
short RiscV r_type row is = test_of riscv_name (λ name. (riscv_relocation name).row) r_type row is_short_row short_riscv is
short LoongArch64 r_type row is = test_of loongarch_name loongarch_row r_type row is_short_row short_loongarch is
short Ppc64 r_type row is = test_of ppc64_name ppc64_row r_type row is_short_row short_ppc64 is
short X86_64 r_type row is = test_of x86_64_name x86_64_row r_type row is_short_row short_x86_64 is

uleb_short : (bytes : List ℕ) → uleb_len bytes ≤ length bytes
uleb_short [] = omega arith
uleb_short (byte ∷ rest) =
    elim (cases_Bool (nat_lt byte 0x80)) [
      | inl is ↦ rw is (omega arith)
      | inr is ↦ rw is (omega (arith, (uleb_short rest)))
    ]

-- a field has at most ten bytes
pub field_short : (architecture : Architecture) (bytes section : List ℕ) (i : ℕ)
    (row : RowInfo) → IsField architecture bytes section i row
    → field_len row (drop (offset_at bytes i) section) ≤ 10
field_short architecture bytes section i row is_field =
    let here = drop (offset_at bytes i) section in
    elim (cases_Bool (has_value row.kind)) [
      | inr isnt ↦ rw isnt (omega arith)
      | inl is ↦ elim (cases_Bool (is_of_pair row)) [
        | inl pair ↦ rw (is, pair) (omega (arith, (uleb_short (take 10 here)), (length-take 10 here)))
        | inr alone ↦ rw (is, alone) (omega (arith, (leb-true (window_len row) 8 (short architecture _ (Some row) is_field.is_row))))
      ]
    ]

-- a size of whole bytes, as many as a field of another has
size_of : (size : RowSize) (kind : RelocationKind) (n : ℕ) → is_sized size kind ≡ true
    → is_composing kind ≡ true → size_len size ≡ n → size ≡ ByteSize n
size_of (ByteSize m) kind n sized composing len = ap ByteSize len
size_of (BitMasking bits insn) kind n sized composing len =
    never (sym (ap not composing) ∙ sized)

-- a row of which a value composes is of whole bytes
pub whole_bytes : (architecture : Architecture) (r_type : ℕ) (row : RowInfo) (n : ℕ)
    → IsRow architecture r_type (Some row) → is_composing row.kind ≡ true → window_len row ≡ n
    → row.size ≡ ByteSize n
whole_bytes architecture r_type row n is_row composing len =
    size_of row.size row.kind n (sized architecture r_type (Some row) is_row) composing len

-- and one of an instruction composes with none
instruction_size : (size : RowSize) (kind : RelocationKind) (bits : BitRange)
    (insn : AnyForm) → size ≡ BitMasking bits insn → is_sized size kind ≡ true
    → is_composing kind ≡ false
instruction_size size kind bits insn same sized =
    not-true (is_composing kind) (subst (λ x. is_sized x kind ≡ true) same sized)

pub instruction_alone : (architecture : Architecture) (r_type : ℕ) (row : RowInfo)
    (bits : BitRange) (insn : AnyForm) → IsRow architecture r_type (Some row)
    → row.size ≡ BitMasking bits insn → is_composing row.kind ≡ false
instruction_alone architecture r_type row bits insn is_row same =
    instruction_size row.size row.kind bits insn same (sized architecture r_type (Some row) is_row)

pub auipc_valued : (architecture : Architecture) (r_type : ℕ) (row : RowInfo)
    → IsRow architecture r_type (Some row) → is_auipc row.size ≡ true → has_value row.kind ≡ true
auipc_valued architecture r_type row is_row auipc =
    elim (or_cases (not (is_auipc row.size)) (has_value row.kind) (valued architecture r_type (Some row) is_row)) [
      | inl isnt ↦ never (sym (ap not auipc) ∙ isnt)
      | inr has ↦ has
    ]
