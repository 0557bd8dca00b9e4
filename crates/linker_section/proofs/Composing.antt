-- Which kinds compose, and which rows are of a pair at a ULEB128 number.
use Rattle.linker_section.proofs.Imports.{BitMasking, ByteSize, RelocationKind, RowSize, begins_pair, changes_bits, changes_number, continues, ends_pair, false, has_value, never, refl, sym, true, true≢false, ◌||◌, ◌∙◌, ◌≡◌}
use Rattle.linker_elf.specs.declared.elf.RelocationKind.TheVariants as kinds

changed_number : (second third : RelocationKind) → changes_number second ≡ true
    → continues second third ≡ changes_number third
changed_number kinds.AbsoluteAddition third is = refl
changed_number kinds.AbsoluteSubtraction third is = refl
changed_number _ third is = never is

changed_bits : (second third : RelocationKind) → changes_bits second ≡ true
    → continues second third ≡ changes_bits third
changed_bits kinds.AbsoluteAdditionWord6 third is = refl
changed_bits kinds.AbsoluteSubtractionWord6 third is = refl
changed_bits _ third is = never is

pub continues_on : (first second third : RelocationKind) → continues first second ≡ true
    → continues second third ≡ true → continues first third ≡ true
continues_on kinds.AbsoluteSet second third a b = sym (changed_number second third a) ∙ b
continues_on kinds.AbsoluteAddition second third a b = sym (changed_number second third a) ∙ b
continues_on kinds.AbsoluteSubtraction second third a b = sym (changed_number second third a) ∙ b
continues_on kinds.AbsoluteSetWord6 second third a b = sym (changed_bits second third a) ∙ b
continues_on kinds.AbsoluteAdditionWord6 second third a b = sym (changed_bits second third a) ∙ b
continues_on kinds.AbsoluteSubtractionWord6 second third a b = sym (changed_bits second third a) ∙ b
continues_on _ second third a b = never a

-- ---- rows of pairs

changed_is_none : (kind : RelocationKind) (size : RowSize) → changes_number kind ≡ true
    → (begins_pair size kind || ends_pair size kind) ≡ false
changed_is_none kinds.AbsoluteAddition (ByteSize n) is = refl
changed_is_none kinds.AbsoluteAddition (BitMasking bits insn) is = refl
changed_is_none kinds.AbsoluteSubtraction (ByteSize n) is = refl
changed_is_none kinds.AbsoluteSubtraction (BitMasking bits insn) is = refl
changed_is_none _ size is = never is

bits_is_none : (kind : RelocationKind) (size : RowSize) → changes_bits kind ≡ true
    → (begins_pair size kind || ends_pair size kind) ≡ false
bits_is_none kinds.AbsoluteAdditionWord6 (ByteSize n) is = refl
bits_is_none kinds.AbsoluteAdditionWord6 (BitMasking bits insn) is = refl
bits_is_none kinds.AbsoluteSubtractionWord6 (ByteSize n) is = refl
bits_is_none kinds.AbsoluteSubtractionWord6 (BitMasking bits insn) is = refl
bits_is_none _ size is = never is

pub second_is_none : (first kind : RelocationKind) (size : RowSize) → continues first kind ≡ true
    → (begins_pair size kind || ends_pair size kind) ≡ false
second_is_none kinds.AbsoluteSet kind size is = changed_is_none kind size is
second_is_none kinds.AbsoluteAddition kind size is = changed_is_none kind size is
second_is_none kinds.AbsoluteSubtraction kind size is = changed_is_none kind size is
second_is_none kinds.AbsoluteSetWord6 kind size is = bits_is_none kind size is
second_is_none kinds.AbsoluteAdditionWord6 kind size is = bits_is_none kind size is
second_is_none kinds.AbsoluteSubtractionWord6 kind size is = bits_is_none kind size is
second_is_none _ kind size is = never is

pub first_is_none : (kind next : RelocationKind) (size : RowSize) → continues kind next ≡ true
    → (begins_pair size kind || ends_pair size kind) ≡ false
first_is_none kinds.Relative next size is = never is
first_is_none kinds.PairSubtractionULEB128RiscV next size is = never is
first_is_none kinds.PairSubtractionULEB128LoongArch next size is = never is
first_is_none _ next (ByteSize n) is = refl
first_is_none _ next (BitMasking bits insn) is = refl

-- the first of a pair: nothing continues with it, and it ends none
pub begun_continues_none : (size : RowSize) (kind next : RelocationKind)
    → begins_pair size kind ≡ true → continues kind next ≡ false
begun_continues_none (ByteSize n) kinds.Relative next is = refl
begun_continues_none (ByteSize n) _ next is = never is
begun_continues_none (BitMasking bits insn) _ next is = never is

pub begun_ends_none : (size : RowSize) (kind : RelocationKind)
    → begins_pair size kind ≡ true → ends_pair size kind ≡ false
begun_ends_none (ByteSize n) kinds.Relative is = refl
begun_ends_none (ByteSize n) _ is = never is
begun_ends_none (BitMasking bits insn) _ is = never is

continues_relative : (first : RelocationKind) → continues first kinds.Relative ≡ false
continues_relative kinds.AbsoluteSet = refl
continues_relative _ = refl

pub begun_is_continued_none : (size : RowSize) (kind first : RelocationKind)
    → begins_pair size kind ≡ true → continues first kind ≡ false
begun_is_continued_none (ByteSize n) kinds.Relative first is = continues_relative first
begun_is_continued_none (ByteSize n) _ first is = never is
begun_is_continued_none (BitMasking bits insn) _ first is = never is

pub ended_begins_none : (size : RowSize) (kind : RelocationKind)
    → ends_pair size kind ≡ true → begins_pair size kind ≡ false
ended_begins_none (ByteSize n) kinds.PairSubtractionULEB128RiscV is = refl
ended_begins_none (ByteSize n) kinds.PairSubtractionULEB128LoongArch is = refl
ended_begins_none (ByteSize n) _ is = never is
ended_begins_none (BitMasking bits insn) _ is = never is

pub ended_has_value : (size : RowSize) (kind : RelocationKind)
    → ends_pair size kind ≡ true → has_value kind ≡ true
ended_has_value (ByteSize n) kinds.PairSubtractionULEB128RiscV is = refl
ended_has_value (ByteSize n) kinds.PairSubtractionULEB128LoongArch is = refl
ended_has_value (ByteSize n) _ is = never is
ended_has_value (BitMasking bits insn) _ is = never is

pub unvalued_begins_none : (size : RowSize) (kind : RelocationKind)
    → has_value kind ≡ false → begins_pair size kind ≡ false
unvalued_begins_none (ByteSize n) kinds.None is = refl
unvalued_begins_none (BitMasking bits insn) kinds.None is = refl
unvalued_begins_none (ByteSize n) kinds.Alignment is = refl
unvalued_begins_none (BitMasking bits insn) kinds.Alignment is = refl
unvalued_begins_none (ByteSize n) kinds.TlsDescCall is = refl
unvalued_begins_none (BitMasking bits insn) kinds.TlsDescCall is = refl
unvalued_begins_none size _ is = absurd (true≢false is)

pub unvalued_ends_none : (size : RowSize) (kind : RelocationKind)
    → has_value kind ≡ false → ends_pair size kind ≡ false
unvalued_ends_none (ByteSize n) kinds.None is = refl
unvalued_ends_none (BitMasking bits insn) kinds.None is = refl
unvalued_ends_none (ByteSize n) kinds.Alignment is = refl
unvalued_ends_none (BitMasking bits insn) kinds.Alignment is = refl
unvalued_ends_none (ByteSize n) kinds.TlsDescCall is = refl
unvalued_ends_none (BitMasking bits insn) kinds.TlsDescCall is = refl
unvalued_ends_none size _ is = absurd (true≢false is)

pub begun_has_value : (size : RowSize) (kind : RelocationKind)
    → begins_pair size kind ≡ true → has_value kind ≡ true
begun_has_value (ByteSize n) kinds.Relative is = refl
begun_has_value (ByteSize n) _ is = never is
begun_has_value (BitMasking bits insn) _ is = never is
