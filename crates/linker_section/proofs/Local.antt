-- A write changes the bytes of its field only.
use Rattle.linker_section.proofs.Imports.{AArch64Instruction, Addresses, AnyForm, Architecture, BitMasking, ByteSize, Call36, D, IsPairWritten, IsWritten, List, LoongArch64, LoongArch64Instruction, Movnz, Ppc64, Ppc64Form, RelocationKind, RiscV, RiscVInstruction, RowInfo, RowSize, UType, Values, WritesRow, and_parts, ap, arith, byte_len, drop, drop-append-drop, drop-drop, drop_at, is_of_uleb128, length, length-append, length-drop, length-take-le, lit≤, ltb-true, nat_lt, not, offset_at, relocation_form, size_len, supported_size, sym, take, take_at, takes_size, to_le_bytes, true, uleb_len, w64, window_at, window_len, window_of, ℕ, ℤ, ◌+◌, ◌∙◌, ◌≡◌, ◌≤◌}
use Rattle.linker_elf.specs.Relocate as relocate
use Rattle.linker_elf.specs.declared.elf.AnyForm.TheVariants.{AArch64}
use Rattle.linker_section.proofs.Ulebs.{uleb_len_is, same_last}

-- of a section only the bytes from an offset on change, as many as a field has
pub record IsLocal (offset len : ℕ) (before after : List ℕ) : Type 0 where
  pub inside : offset + len ≤ length before
  pub kept : take offset after ≡ take offset before
  pub following : drop (offset + len) after ≡ drop (offset + len) before
  pub same_length : length after ≡ length before

-- ---- a row

small_aarch64 : (f : AArch64Instruction) → byte_len (relocation_form (AArch64 f)).window ≤ 8
small_aarch64 Movnz = lit≤ tt
small_aarch64 _ = lit≤ tt

small_riscv : (f : RiscVInstruction) → byte_len (relocation_form (RiscV f)).window ≤ 8
small_riscv UType = lit≤ tt
small_riscv _ = lit≤ tt

small_ppc64 : (f : Ppc64Form) → byte_len (relocation_form (Ppc64 f)).window ≤ 8
small_ppc64 D = lit≤ tt
small_ppc64 _ = lit≤ tt

small_loongarch : (f : LoongArch64Instruction) → byte_len (relocation_form (LoongArch64 f)).window ≤ 8
small_loongarch Call36 = lit≤ tt
small_loongarch _ = lit≤ tt

pub small_window : (insn : AnyForm) → byte_len (relocation_form insn).window ≤ 8
small_window (AArch64 f) = small_aarch64 f
small_window (RiscV f) = small_riscv f
small_window (Ppc64 f) = small_ppc64 f
small_window (LoongArch64 f) = small_loongarch f

pub small_bytes : (kind : RelocationKind) (n : ℕ) → takes_size kind (ByteSize n) ≡ true → n ≤ 8
small_bytes kind n supported_size =
    let l = ltb-true n 9 ((and_parts (nat_lt n 9) (not (is_of_uleb128 kind n)) supported_size).0) in omega (arith, l)

pub small_size : (size : RowSize) (kind : RelocationKind) → takes_size kind size ≡ true
    → size_len size ≤ 8
small_size (ByteSize n) kind supported_size = small_bytes kind n supported_size
small_size (BitMasking bits insn) kind supported_size = small_window insn

rest_same : (size : RowSize) (kind : RelocationKind) (v : ℤ) (before after : List ℕ)
    → takes_size kind size ≡ true → relocate.IsWritten size kind v before after
    → drop (size_len size) after ≡ drop (size_len size) before
rest_same (ByteSize n) kind v before after supported_size written =
    rw written (drop-append-drop n before _ n (omega arith)
    (length-take-le n (to_le_bytes w64 _) (small_bytes kind n supported_size)))
rest_same (BitMasking bits insn) kind v before after supported_size written =
    rw (← window_at insn bits (window_of (relocation_form insn) before)) written.rest

pub small_row : (row : RowInfo) (v : ℤ) (before after : List ℕ)
    → WritesRow row v before after → window_len row ≤ 8
small_row row v before after written =
    small_size row.size row.kind (supported_size row written.accepted.supported)

pub one_local : (row : RowInfo) (v : ℤ) (offset : ℕ) (before after : List ℕ)
    → IsWritten row v offset before after → IsLocal offset (window_len row) before after
one_local row v offset before after w =
    let n = length-take-le offset before w.inside in
    record {
      inside = let l = w.written.accepted.long in let d = length-drop offset before in let i = w.inside in omega (arith, l, d, i);
      kept = ap (take offset) w.around ∙ take_at (take offset before) w.rest offset n;
      following = sym (drop-drop (window_len row) offset after)
          ∙ (ap (drop (window_len row)) (ap (drop offset) w.around ∙ drop_at (take offset before) w.rest offset n)
          ∙ (rest_same row.size row.kind v (drop offset before) w.rest (supported_size row w.written.accepted.supported) w.written.written
          ∙ drop-drop (window_len row) offset before));
      same_length = w.same_length;
    }

-- ---- a pair

pub pair_local : (architecture : Architecture) (addresses : Addresses) (bytes : List ℕ)
    (values : Values) (first : ℕ) (before after : List ℕ)
    → IsPairWritten architecture addresses bytes values first before after
    → IsLocal (offset_at bytes first) (uleb_len (take 10 (drop (offset_at bytes first) before))) before after
pair_local architecture addresses bytes values first before after w =
    let offset = offset_at bytes first in
    let there = drop offset before in
    let n = length-take-le offset before w.inside in
    let is = uleb_len_is there w.written.old w.written.rest w.written.was in
    let was = w.written.was in
    let d = length-drop offset before in
    let i = w.inside in
    record {
      inside = omega (arith, is, d, i, was.there);
      kept = ap (take offset) w.around ∙ take_at (take offset before) w.rest offset n;
      following = sym (drop-drop (uleb_len (take 10 there)) offset after)
          ∙ (ap (drop (uleb_len (take 10 there))) (ap (drop offset) w.around ∙ drop_at (take offset before) w.rest offset n)
          ∙ (ap (λ k. drop k w.rest) (is ∙ ap (λ k. k + 1) (same_last there w.number w.rest w.written))
          ∙ (sym w.written.is.rest_is ∙ (was.rest_is ∙ (ap (λ k. drop k there) (sym is) ∙ drop-drop (uleb_len (take 10 there)) offset before)))));
      same_length = ap length w.around ∙ (length-append (take offset before) w.rest ∙ (omega (arith, n, w.written.same_length, d, i)));
    }
