-- A write of a row reads and changes the bytes of its field only.
use Rattle.linker_section.proofs.Imports.{AArch64Instruction, AnyForm, BitMasking, BitRange, BitsWritten, Bool, ByteSize, Call36, D, Ds, FieldReads, Fits, HoldsBits, InstructionHolds, InstructionWritten, IsAccepted, IsAligned, IsInUnits, IsInWords, IsMultiple, IsReached, List, LoongArch64, LoongArch64Instruction, Movnz, Option, Ppc64, Ppc64Form, RelocationKind, RiscV, RiscVInstruction, RowInfo, RowSize, SizeHolds, SizeNumber, SizeReads, UType, Width, WritesRow, Written, ap, append-nil, arith, bits_at, bits_taken, byte_len, byte_worth, drop, from_le_bytes, get_or-take, insn_at, int_lt, int_rem_euclid, is_dq_form, is_low_jump, length, length-take-le, lit≤, low_bytes, number_of_bytes, number_written, pos, relocation_form, replicate, size_len, subst, supported_size, sym, take, take-take, take_at, takes_size, to_le_bytes, true, value_at, w64, whole_number, window_at, window_len, window_of, ℕ, ℤ, ◌*◌, ◌++◌, ◌-◌, ◌<◌, ◌^◌, ◌∙◌, ◌≡◌, ◌≤◌}
use Rattle.linker_elf.specs.Reach.{reach_of}
use Rattle.linker_elf.specs.Relocate as relocate
use Rattle.linker_elf.specs.declared.elf.AnyForm.TheVariants.{AArch64}
use Rattle.linker_section.proofs.Local.{small_bytes}
use Rattle.linker_section.proofs.Ulebs.{sum_same, no_rest}

-- ---- numbers of the first bytes

number_front : (w : Width) (xs : List ℕ) → 0 < byte_len w
    → from_le_bytes w (take (byte_len w) xs) ≡ from_le_bytes w xs
number_front w xs some =
    sum_same _ _ (byte_len w - 1)
    (λ i most. ap (byte_worth i) (get_or-take (byte_len w) xs i 0 (omega (arith, most, some))))

pub number_of_front : (n : ℕ) (xs : List ℕ) → number_of_bytes n (take n xs) ≡ number_of_bytes n xs
number_of_front n xs =
    ap (λ ys. from_le_bytes w64 (ys ++ replicate (8 - n) 0)) (take-take n n xs (omega arith))

some_aarch64 : (f : AArch64Instruction) → 0 < byte_len (relocation_form (AArch64 f)).window
some_aarch64 Movnz = lit≤ tt
some_aarch64 _ = lit≤ tt

some_riscv : (f : RiscVInstruction) → 0 < byte_len (relocation_form (RiscV f)).window
some_riscv UType = lit≤ tt
some_riscv _ = lit≤ tt

some_ppc64 : (f : Ppc64Form) → 0 < byte_len (relocation_form (Ppc64 f)).window
some_ppc64 D = lit≤ tt
some_ppc64 _ = lit≤ tt

some_loongarch : (f : LoongArch64Instruction) → 0 < byte_len (relocation_form (LoongArch64 f)).window
some_loongarch Call36 = lit≤ tt
some_loongarch _ = lit≤ tt

pub some_window : (insn : AnyForm) → 0 < byte_len (relocation_form insn).window
some_window (AArch64 f) = some_aarch64 f
some_window (RiscV f) = some_riscv f
some_window (Ppc64 f) = some_ppc64 f
some_window (LoongArch64 f) = some_loongarch f

window_front : (insn : AnyForm) (xs : List ℕ)
    → window_of (relocation_form insn) (take (byte_len (relocation_form insn).window) xs)
    ≡ window_of (relocation_form insn) xs
window_front insn xs = number_front (relocation_form insn).window xs (some_window insn)

-- ---- what is accepted

-- lists begin with the same bytes of an instruction, if a size has one
abbrev pub HaveSameWindow : RowSize → List ℕ → List ℕ → Type 0
HaveSameWindow (ByteSize n) xs ys = Unit
HaveSameWindow (BitMasking bits insn) xs ys =
    window_of (relocation_form insn) xs ≡ window_of (relocation_form insn) ys

pub same_window : (size : RowSize) (xs ys : List ℕ)
    → take (size_len size) xs ≡ take (size_len size) ys → HaveSameWindow size xs ys
same_window (ByteSize n) xs ys same = tt
same_window (BitMasking bits insn) xs ys same =
    sym (window_front insn xs) ∙ (ap (window_of (relocation_form insn)) same ∙ window_front insn ys)

pub window_back : (size : RowSize) (xs ys : List ℕ) → HaveSameWindow size xs ys
    → HaveSameWindow size ys xs
window_back (ByteSize n) xs ys same = tt
window_back (BitMasking bits insn) xs ys same = sym same

units_same : (size : RowSize) (v : ℤ) (xs ys : List ℕ) → HaveSameWindow size xs ys
    → IsInUnits size v xs → IsInUnits size v ys
units_same (ByteSize n) v xs ys same is = tt
units_same (BitMasking bits (Ppc64 Ds)) v xs ys same is =
    subst (λ x. is_dq_form x ≡ true → IsAligned 16 v) same is
units_same (BitMasking bits _) v xs ys same is = tt

words_same : (size : RowSize) (kind : RelocationKind) (v : ℤ) (xs ys : List ℕ)
    → HaveSameWindow size xs ys → IsInWords size kind v xs → IsInWords size kind v ys
words_same (ByteSize n) kind v xs ys same is = tt
words_same (BitMasking bits insn) kind v xs ys same is =
    subst (λ x. is_low_jump insn kind x ≡ true → IsAligned 4 v) same is

bits_same : (size : RowSize) (v : ℤ) (xs ys : List ℕ) → HaveSameWindow size xs ys
    → HoldsBits size v xs → HoldsBits size v ys
bits_same (ByteSize n) v xs ys same is = tt
bits_same (BitMasking bits insn) v xs ys same is =
    subst (λ x. Fits (relocation_form insn) (bits_taken bits v) x) same is

pub multiple_same : (row : RowInfo) (v : ℤ) (xs ys : List ℕ)
    → HaveSameWindow row.size xs ys → IsMultiple row v xs → IsMultiple row v ys
multiple_same row v xs ys same is =
    (is.0, units_same row.size v xs ys same (is.1), words_same row.size row.kind v xs ys same (is.2))

pub reached_same : (row : RowInfo) (v : ℤ) (xs ys : List ℕ)
    → HaveSameWindow row.size xs ys → IsReached row v xs → IsReached row v ys
reached_same row v xs ys same is = (is.0, bits_same row.size v xs ys same (is.1), is.2)

pub accepted_same : (row : RowInfo) (v : ℤ) (xs ys : List ℕ)
    → HaveSameWindow row.size xs ys → window_len row ≤ length ys
    → IsAccepted row v xs → IsAccepted row v ys
accepted_same row v xs ys same long is =
    record {
      supported = is.supported;
      long = long;
      aligned = multiple_same row v xs ys same is.aligned;
      reached = reached_same row v xs ys same is.reached;
    }

-- ---- what is written

instruction_front : (insn : AnyForm) (bits : BitRange) (v : ℤ) (n : ℕ)
    (before after : List ℕ) → byte_len (relocation_form insn).window ≡ n
    → InstructionWritten insn bits v before after
    → InstructionWritten insn bits v (take n before) (take n after)
instruction_front insn bits v n before after len written =
    let old : window_of (relocation_form insn) before ≡ window_of (relocation_form insn) (take n before) =
    sym (window_front insn before) ∙ ap (λ k. window_of (relocation_form insn) (take k before)) len in
    let new : window_of (relocation_form insn) after ≡ window_of (relocation_form insn) (take n after) =
    sym (window_front insn after) ∙ ap (λ k. window_of (relocation_form insn) (take k after)) len in
    record {
      clear = written.clear;
      clears = subst (λ x. BitsWritten (relocate.places_cleared insn bits x) 0 x written.clear) old written.clears;
      written = subst (λ x. Written (relocation_form insn) (relocate.number_placed insn (window_of (relocation_form insn) (take n before)) (bits_taken bits v)) (int_lt v (pos 0)) written.clear (relocate.with_bit_31_if (relocate.is_32_bit_move insn (window_of (relocation_form insn) (take n before))) x)) new
          (subst (λ x. Written (relocation_form insn) (relocate.number_placed insn x (bits_taken bits v)) (int_lt v (pos 0)) written.clear (relocate.with_bit_31_if (relocate.is_32_bit_move insn x) (window_of (relocation_form insn) after))) old written.written);
      rest = ap (λ k. drop k (take n after)) len ∙ (no_rest n after ∙ sym (ap (λ k. drop k (take n before)) len ∙ no_rest n before));
    }

written_front : (size : RowSize) (kind : RelocationKind) (v : ℤ) (before after : List ℕ)
    → takes_size kind size ≡ true → relocate.IsWritten size kind v before after
    → relocate.IsWritten size kind v (take (size_len size) before) (take (size_len size) after)
written_front (ByteSize n) kind v before after supported_size written =
    ap (take n) written
    ∙ (take_at (low_bytes n (number_written kind v (number_of_bytes n before))) (drop n before) n
    (length-take-le n (to_le_bytes w64 _) (small_bytes kind n supported_size))
    ∙ (sym (append-nil (low_bytes n (number_written kind v (number_of_bytes n before))))
    ∙ (ap (λ x. low_bytes n (number_written kind v (number_of_bytes n before)) ++ x) (sym (no_rest n before))
    ∙ ap (λ x. low_bytes n (number_written kind v x) ++ drop n (take n before)) (sym (number_of_front n before)))))
written_front (BitMasking bits insn) kind v before after supported_size written =
    let n = byte_len (relocation_form insn).window in
    subst (λ word. InstructionWritten (insn_at insn bits word) (bits_at insn kind bits word) (value_at insn kind v word) (take n before) (take n after))
    (sym (window_front insn before))
    (let word = window_of (relocation_form insn) before in
    instruction_front (insn_at insn bits word) (bits_at insn kind bits word) (value_at insn kind v word) n before after
    (ap byte_len (window_at insn bits word)) written)

number_same : (size : RowSize) (kind : RelocationKind) (v : ℤ) (before after : List ℕ)
    → SizeNumber size kind v before after
    → SizeNumber size kind v (take (size_len size) before) (take (size_len size) after)
number_same (ByteSize n) kind v before after is =
    ap pos (number_of_front n after)
    ∙ (is ∙ ap (λ x. int_rem_euclid (whole_number kind v x) (pos (2 ^ (8 * n)))) (sym (number_of_front n before)))
number_same (BitMasking bits insn) kind v before after is = tt

reads_front : (is_signed : Bool) (size : RowSize) (kind : RelocationKind)
    (bounds : Option (ℤ × ℤ)) (v : ℤ) (before after : List ℕ)
    → SizeReads is_signed size kind bounds v before after
    → SizeReads is_signed size kind bounds v (take (size_len size) before) (take (size_len size) after)
reads_front is_signed (ByteSize n) kind bounds v before after is = tt
reads_front is_signed (BitMasking bits insn) kind bounds v before after is =
    subst (λ x. FieldReads is_signed insn kind bits bounds v x (window_of (relocation_form insn) (take (byte_len (relocation_form insn).window) after))) (sym (window_front insn before))
    (subst (λ x. FieldReads is_signed insn kind bits bounds v (window_of (relocation_form insn) before) x) (sym (window_front insn after)) is)

holds_front : (size : RowSize) (v : ℤ) (after : List ℕ) → SizeHolds size v after
    → SizeHolds size v (take (size_len size) after)
holds_front (ByteSize n) v after is = tt
holds_front (BitMasking bits insn) v after is =
    subst (λ x. InstructionHolds insn bits v x) (sym (window_front insn after)) is

pub writes_front : (row : RowInfo) (v : ℤ) (before after : List ℕ)
    → WritesRow row v before after
    → WritesRow row v (take (window_len row) before) (take (window_len row) after)
writes_front row v before after w =
    let n = window_len row in
    let long = length-take-le n before w.accepted.long in
    record {
      accepted = accepted_same row v before (take n before) (same_window row.size before (take n before) (sym (take-take n n before (omega arith)))) (omega (arith, long)) w.accepted;
      written = written_front row.size row.kind v before after (supported_size row w.accepted.supported) w.written;
      number = number_same row.size row.kind v before after w.number;
      machine = λ is_signed agrees. reads_front is_signed row.size row.kind row.range.bounds v before after (w.machine is_signed agrees);
      reached = λ is_signed agrees. reads_front is_signed row.size row.kind (reach_of row) v before after (w.reached is_signed agrees);
      pairs = holds_front row.size v after w.pairs;
    }
