-- Whether an instruction is as long as the form of its relocation.
use Rattle.linker_section.proofs.Imports.{Addresses, Architecture, BitMasking, Bool, ByteSize, CbType, CjType, CluiType, HasLength, HoldsOffset, IType, IsOtherLength, IsTrue, IsUnwritable, IsValued, List, LoongArch64, OutOfReach, Ppc64, Prefixed, RiscV, RiscVInstruction, RowInfo, RowSize, SType, Shift10, Values, ap, arith, cases_Bool, cases_lt, drop, eqb, false, from_le_bytes, get_or-take, holds_offset, inl, inr, is_12_bits, is_of_pair, is_thread_based, is_tp_off, length, length-drop, not, offset_at, refl, shows, shows_length, size_len, slice_index, sym, take, true, true≢false, w64, window_len, word_shows, ℕ, ℤ, ◌%◌, ◌&&◌, ◌/◌, ◌<◌, ◌^◌, ◌||◌, ◌↔◌, ◌∙◌, ◌≡◌}
use Rattle.linker_elf.specs.declared.elf.facts.Length.{Length}
use Rattle.linker_elf.specs.declared.elf.facts.Length.TheVariants as lengths
use Rattle.linker_section.proofs.Fronts.{some_window, HaveSameWindow}

-- ---- what a test says

pub length_of : (row : RowInfo) (offset : ℕ) (section : List ℕ) (result : Bool)
    → (IsTrue result ↔ HasLength row offset section) → result ≡ true
    → HasLength row offset section
length_of row offset section result is holds = is.0 holds

-- what isn't so is another length, in the section
pub other_length : (architecture : Architecture) (addresses : Addresses) (bytes : List ℕ)
    (values : Values) (i : ℕ) (now : List ℕ) (row : RowInfo) (v : ℤ)
    → IsValued architecture addresses bytes values i row v
    → (HasLength row (offset_at bytes i) now → ⊥)
    → IsOtherLength architecture addresses bytes values i now
other_length architecture addresses bytes values i now row v has isnt =
    let o = offset_at bytes i in
    elim (cases_lt (length now) o) [
      | inl past ↦ absurd (isnt (λ inside. absurd (omega (arith, past, inside))))
      | inr inside ↦ elim (cases_lt (length (drop o now)) (window_len row)) [
        | inl short ↦ absurd (isnt (λ _ long. absurd (omega (arith, short, long))))
        | inr long ↦ elim (cases_Bool (shows_length row.size (drop o now))) [
          | inl shown ↦ absurd (isnt (λ _ _. shown))
          | inr other ↦ record { row = row; value = v; has_value = has; inside = inside; long = long; other = other }
        ]
      ]
    ]

-- ---- bytes with the same front

abbrev pub IsSameFront : RowSize → List ℕ → List ℕ → Type 0
IsSameFront (ByteSize n) xs ys = Unit
IsSameFront (BitMasking bits insn) xs ys =
    take (size_len (BitMasking bits insn)) xs ≡ take (size_len (BitMasking bits insn)) ys

byte_same : (n j : ℕ) (xs ys : List ℕ) → j < n → take n xs ≡ take n ys
    → slice_index xs j ≡ slice_index ys j
byte_same n j xs ys below same =
    sym (get_or-take n xs j 0 below) ∙ (ap (λ l. slice_index l j) same ∙ get_or-take n ys j 0 below)

pub shows_same : (size : RowSize) (xs ys : List ℕ) → IsSameFront size xs ys
    → shows_length size xs ≡ shows_length size ys
shows_same (ByteSize n) xs ys same = refl
shows_same (BitMasking bits (RiscV insn)) xs ys same =
    riscv_same insn (byte_same (size_len (BitMasking bits (RiscV insn))) 0 xs ys (some_window (RiscV insn)) same)
  where
    riscv_same : (insn : RiscVInstruction) → slice_index xs 0 ≡ slice_index ys 0
        → shows_length (BitMasking bits (RiscV insn)) xs ≡ shows_length (BitMasking bits (RiscV insn)) ys
    riscv_same CbType first = ap (λ byte. not (eqb (byte % 4) 3)) first
    riscv_same CjType first = ap (λ byte. not (eqb (byte % 4) 3)) first
    riscv_same CluiType first = ap (λ byte. not (eqb (byte % 4) 3)) first
    riscv_same insn first = ap (λ byte. eqb (byte % 4) 3) first
shows_same (BitMasking bits (Ppc64 Prefixed)) xs ys same =
    ap (λ byte. eqb (byte / 4) 1) (byte_same 8 3 xs ys (omega arith) same)
shows_same (BitMasking bits insn) xs ys same = refl

pub length_same : (row : RowInfo) (o : ℕ) (now before : List ℕ)
    → IsSameFront row.size (drop o now) (drop o before) → length now ≡ length before
    → HasLength row o now → HasLength row o before
length_same row o now before same len is inside long =
    let d = length-drop o before in let dn = length-drop o now in
    sym (shows_same row.size (drop o now) (drop o before) same)
    ∙ is (omega (arith, inside, len)) (omega (arith, long, d, dn, len))

-- numbers of whole bytes have any length
pub pair_shows : (row : RowInfo) (there : List ℕ) → is_of_pair row ≡ true
    → shows_length row.size there ≡ true
pair_shows row there paired = size_shows row.size paired
  where
    size_shows : (size : RowSize) → is_of_pair (record row { size = size }) ≡ true
        → shows_length size there ≡ true
    size_shows (ByteSize n) is = refl
    size_shows (BitMasking bits insn) is = absurd (true≢false (sym is))

-- ---- the word of 8 bytes that bytes begin with

low_bits : (bytes : List ℕ) → from_le_bytes w64 bytes % 4 ≡ slice_index bytes 0 % 4
low_bits bytes = omega arith

high_bits : (bytes : List ℕ) → ((i : ℕ) → slice_index bytes i < 256)
    → from_le_bytes w64 bytes / 2 ^ 26 % 64 ≡ slice_index bytes 3 / 4
high_bits bytes small =
    let a = small 0 in let b = small 1 in let c = small 2 in let d = small 3 in
    omega (arith, a, b, c, d)

pub word_says : (length : Length) (bytes : List ℕ) → ((i : ℕ) → slice_index bytes i < 256)
    → word_shows length (from_le_bytes w64 bytes) ≡ shows length bytes
word_says lengths.Any bytes small = refl
word_says lengths.Two bytes small = ap (λ n. not (eqb n 3)) (low_bits bytes)
word_says lengths.Four bytes small = ap (λ n. eqb n 3) (low_bits bytes)
word_says lengths.Prefixed bytes small = ap (λ n. eqb n 1) (high_bits bytes small)

-- ---- offsets from the thread pointer

thread_same : (size : RowSize) (xs ys : List ℕ) → HaveSameWindow size xs ys
    → is_thread_based size xs ≡ is_thread_based size ys
thread_same (BitMasking bits (RiscV IType)) xs ys same = ap (λ word. eqb (word / 2 ^ 15 % 32) 4) same
thread_same (BitMasking bits (RiscV SType)) xs ys same = ap (λ word. eqb (word / 2 ^ 15 % 32) 4) same
thread_same (BitMasking bits (LoongArch64 Shift10)) xs ys same =
    ap (λ word. eqb bits.start 0 && eqb (word / 2 ^ 5 % 32) 2) same
thread_same size xs ys same = refl

pub offset_same : (row : RowInfo) (v : ℤ) (xs ys : List ℕ) → HaveSameWindow row.size xs ys
    → holds_offset row v xs ≡ holds_offset row v ys
offset_same row v xs ys same =
    ap (λ based. not (is_tp_off row.kind) || (is_12_bits v || not based)) (thread_same row.size xs ys same)

-- no other value is one
pub unthreaded_holds : (row : RowInfo) (v : ℤ) (there : List ℕ)
    → is_tp_off row.kind ≡ false → holds_offset row v there ≡ true
unthreaded_holds row v there isnt =
    ap (λ b. not b || (is_12_bits v || not (is_thread_based row.size there))) isnt

pub offset_of : (row : RowInfo) (v : ℤ) (offset : ℕ) (section : List ℕ) (result : Bool)
    → (IsTrue result ↔ HoldsOffset row v offset section) → result ≡ true
    → HoldsOffset row v offset section
offset_of row v offset section result is holds = is.0 holds

-- what isn't held is out of reach, in the section
pub offset_beyond : (row : RowInfo) (v : ℤ) (o : ℕ) (section : List ℕ)
    → (HoldsOffset row v o section → ⊥) → IsUnwritable row v o section OutOfReach
offset_beyond row v o section isnt =
    elim (cases_lt (length section) o) [
      | inl past ↦ absurd (isnt (λ inside. absurd (omega (arith, past, inside))))
      | inr inside ↦ elim (cases_lt (length (drop o section)) (window_len row)) [
        | inl short ↦ absurd (isnt (λ _ long. absurd (omega (arith, short, long))))
        | inr long ↦ elim (cases_Bool (holds_offset row v (drop o section))) [
          | inl held ↦ absurd (isnt (λ _ _. held))
          | inr other ↦ inr (record { is_error = refl; inside = inside; long = long; other = other })
        ]
      ]
    ]
