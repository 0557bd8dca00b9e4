-- What relocated instructions compute, in one scheme for an instruction, a pair and a sequence.
use Rattle.std.specs.Prelude.{◌≡◌, ℕ, ◌^◌, ◌<◌, List, [], ◌∷◌, Option, Some, IsSomeAnd, ℤ, pos}
use Rattle.std.specs.Prelude.{◌+ℤ◌, ◌*ℤ◌, ◌+◌, ◌*◌, ◌%◌, ⊤, Bool, IsTrue}
use Rattle.linker_laws.specs.Imports.{IsApplied, Operands, RowInfo, cast_unsigned, difference_64}
use Rattle.linker_laws.specs.Imports.{field, int_rem_euclid, number_of_bytes, sum_64, w64}
use Rattle.linker_elf.specs.Elf.{IsWithin, bit_bounds, relocation_form}
use Rattle.linker_base.specs.Form.{window_of}
use Rattle.linker_elf.specs.declared.elf.RowSize.{RowSize}
use Rattle.linker_elf.specs.declared.elf.RowSize.TheVariants.{ByteSize, BitMasking}
use Rattle.linker_elf.specs.declared.elf.Sign.{Sign}

-- the addresses among operands are numbers of 64 bits
pub record AreAddresses (o : Operands) : Type 0 where
  pub symbol : o.symbol < 2 ^ 64
  pub place : o.place < 2 ^ 64
  pub got_entry : o.got_entry < 2 ^ 64
  pub got_base : o.got_base < 2 ^ 64
  pub plt_entry : o.plt_entry < 2 ^ 64
  pub tls_base : o.tls_base < 2 ^ 64

-- A sum that instructions compute, modulo 2 ^ 64, is the target.
abbrev pub IsAddress : ℤ → ℕ → Type 0
IsAddress sum target = int_rem_euclid sum (pos (2 ^ 64)) ≡ pos target

-- ---- targets

-- S + A, which is also what an offset of TLS leads to from where the thread pointer or the module's
-- block begins
abbrev pub symbol_address : Operands → ℕ
symbol_address o = sum_64 o.symbol (cast_unsigned w64 o.addend)

-- L + A
abbrev pub plt_address : Operands → ℕ
plt_address o = sum_64 o.plt_entry (cast_unsigned w64 o.addend)

-- GOT + G
abbrev pub entry_address : Operands → ℕ
entry_address o = o.got_entry

-- GOT + G + A
abbrev pub entry_and_addend : Operands → ℕ
entry_and_addend o = sum_64 o.got_entry (cast_unsigned w64 o.addend)

-- Z + A
abbrev pub size_and_addend : Operands → ℕ
size_and_addend o = sum_64 o.symbol_size (cast_unsigned w64 o.addend)

-- S + A, less the address that the thread pointer has
abbrev pub thread_offset : Operands → ℕ
thread_offset o = difference_64 (symbol_address o) o.tls_base

-- ---- what instructions begin with

abbrev pub zero : Operands → ℕ
zero o = 0

abbrev pub place : Operands → ℕ
place o = o.place

abbrev pub got_base : Operands → ℕ
got_base o = o.got_base

abbrev pub tls_base : Operands → ℕ
tls_base o = o.tls_base

-- the operands of an instruction n bytes after the first
abbrev pub following : ℕ → Operands → Operands
following n o = record o { place = sum_64 o.place n }

-- ---- the scheme

-- what a law requires of a relocation beside that it is applied: nothing, that its value, which
-- nothing else checks, is from the first bound up and below the second, or that its instruction was
-- one of some words
pub data Premise : Type 0 where
  none : Premise
  of_values : ℤ × ℤ → Premise
  of_words : (ℕ → Bool) → Premise

abbrev pub PremiseHolds : Premise → ℕ → ℤ → Type 0
PremiseHolds none before v = ⊤
PremiseHolds (of_values bounds) before v = IsWithin (Some bounds) v
PremiseHolds (of_words test) before v = IsTrue (test before)

-- One relocation of a sequence of instructions.
pub record Step : Type 0 where
  pub row : Option RowInfo
  -- its operands, by those of the sequence and the address of its own instruction
  pub operands : Operands → ℕ → Operands
  pub premise : Premise

-- the relocation whose place is the sequence's, and one that has the same operands
abbrev pub here : Option RowInfo → Step
here row = record { row = row; operands = λ o at. o; premise = none }

-- one of an instruction that may stand anywhere
abbrev pub anywhere : Option RowInfo → Step
anywhere row = record { row = row; operands = λ o at. record o { place = at }; premise = none }

-- one of an instruction n bytes after the first
abbrev pub next : ℕ → Option RowInfo → Step
next n row = record (here row) { operands = λ o at. record o { place = sum_64 o.place n } }

-- one n bytes after the first, with as many more in its addend, so that S + A is more too
abbrev pub moved_on : ℕ → Option RowInfo → Step
moved_on n row =
    record (here row) {
      operands = λ o at. record o { place = sum_64 o.place n; symbol = sum_64 o.symbol n };
    }

-- a value of n bits, in two's complement or without a sign
abbrev pub of_bits : ℕ → Sign → Step → Step
of_bits n sign step = record step { premise = of_values (bit_bounds n sign) }

-- the little-endian number of a relocation's bytes: an instruction's word, or a field
abbrev pub number_at : RowSize → List ℕ → ℕ
number_at (ByteSize n) bytes = number_of_bytes n bytes
number_at (BitMasking bits insn) bytes = window_of (relocation_form insn) bytes

-- what instructions compute, by the words of the steps
abbrev pub Computed : List Step → Type 0
Computed [] = ℤ
Computed (step ∷ steps) = ℕ → Computed steps

-- Each step has a row. If they are applied one after the other, the instructions compute the target
-- from their words, whatever the bytes were before.
abbrev pub Reaches : (steps : List Step) → Operands → Computed steps → ℕ → Type 0
Reaches [] o sum target = IsAddress sum target
Reaches (step ∷ steps) o computed target =
    IsSomeAnd step.row (λ row.
    (at : ℕ) (before after : List ℕ) (applied : IsApplied row (step.operands o at) before after)
    → PremiseHolds step.premise (number_at row.size before) applied.value
    → Reaches steps o (computed (number_at row.size after)) target)

-- The same of all operands.
abbrev pub Law : (steps : List Step) → (Operands → Computed steps) → (Operands → ℕ) → Type 0
Law steps computed target =
    (o : Operands) → AreAddresses o → Reaches steps o (computed o) (target o)

-- An instruction adds the number that it holds, in units of n bytes, to what it begins with.
abbrev pub Adds : Step → (Operands → ℕ) → (ℕ → ℤ) → ℕ → (Operands → ℕ) → Type 0
Adds step begin reads unit target =
    Law (step ∷ []) (λ o word. pos (begin o) +ℤ (reads word *ℤ pos unit)) target

-- The target plus a rounding, less the low k bits of the distance to it: what is left to another
-- instruction.
abbrev pub without_low : ℕ → ℕ → (Operands → ℕ) → (Operands → ℕ) → Operands → ℕ
without_low k rounding begin target o =
    let end = sum_64 (target o) rounding in
    difference_64 end (difference_64 end (begin o) % 2 ^ k)

-- ---- fields of data

-- What n bytes hold is the distance from where the formula begins to the target, modulo
-- 2 ^ (8 * n).
abbrev pub HoldsDistance : ℕ → Option RowInfo → (Operands → ℕ) → (Operands → ℕ) → Type 0
HoldsDistance n row begin target =
    IsSomeAnd row (λ row.
    (o : Operands) → AreAddresses o → (before after : List ℕ) → IsApplied row o before after
    → (begin o + number_of_bytes n after) % 2 ^ (8 * n) ≡ target o % 2 ^ (8 * n))

-- ---- the difference of two labels, which two relocations of one place leave there (RISC-V and
-- LoongArch ELF psABI, "Relocation Types", ADD and SUB, and of RISC-V SET)

-- S + A of the first, less that of the second
abbrev pub distance : Operands → Operands → ℕ
distance o p = difference_64 (symbol_address o) (symbol_address p)

-- What n bytes hold after both relocations, by their number before, is a number modulo 2 ^ (8 * n).
abbrev pub Leaves : ℕ → (Operands → Operands → ℕ → ℕ) → Option RowInfo
    → Option RowInfo → Type 0
Leaves n number first second =
    IsSomeAnd first (λ first. IsSomeAnd second (λ second.
    (o p : Operands) (before between after : List ℕ)
    → IsApplied first o before between → IsApplied second p between after
    → number_of_bytes n after ≡ number o p (number_of_bytes n before) % 2 ^ (8 * n)))

-- the distance, added to what stood there
abbrev pub AddsDistance : ℕ → Option RowInfo → Option RowInfo → Type 0
AddsDistance n = Leaves n (λ o p old. sum_64 old (distance o p))

-- the distance
abbrev pub SetsDistance : ℕ → Option RowInfo → Option RowInfo → Type 0
SetsDistance n = Leaves n (λ o p old. distance o p)

-- The low 6 bits of a byte hold a number modulo 64, and its 2 highest bits are the old ones.
abbrev pub Leaves6 : (Operands → Operands → ℕ → ℕ) → Option RowInfo
    → Option RowInfo → Type 0
Leaves6 number first second =
    IsSomeAnd first (λ first. IsSomeAnd second (λ second.
    (o p : Operands) (before between after : List ℕ)
    → IsApplied first o before between → IsApplied second p between after
    → (field (number_of_bytes 1 after) 0 6 ≡ number o p (number_of_bytes 1 before) % 2 ^ 6)
    × (field (number_of_bytes 1 after) 6 8 ≡ field (number_of_bytes 1 before) 6 8)))

abbrev pub AddsDistance6 : Option RowInfo → Option RowInfo → Type 0
AddsDistance6 = Leaves6 (λ o p old. sum_64 old (distance o p))

abbrev pub SetsDistance6 : Option RowInfo → Option RowInfo → Type 0
SetsDistance6 = Leaves6 (λ o p old. distance o p)
