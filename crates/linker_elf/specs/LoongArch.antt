-- LoongArch: its instruction forms (LoongArch Reference Manual, volume 1), and its calls and
-- addresses of several instructions (LoongArch ELF psABI).
use Rattle.linker_elf.specs.Imports.{BitRange, Branch21, Branch26, Call30, Call36, Field, Form}
use Rattle.linker_elf.specs.Imports.{ImmediateBit, Layout, LoongArch64Instruction, Shift10, Shift5}
use Rattle.linker_elf.specs.Imports.{bit_at, bits_to, cast_unsigned, cleared_bits, field}
use Rattle.linker_elf.specs.Imports.{field_form, form_of, from_le_bytes, int_rem_euclid, modulo}
use Rattle.linker_elf.specs.Imports.{one_field, or_bits_to, own_form, place_sum, signed}
use Rattle.linker_elf.specs.Imports.{sum_bits_to, twos_complement, unclaimed, unsigned, w32, w64}
use Rattle.std.specs.Prelude.{Bool, List, [], drop, false, nat_lt, neg_ℤ, pos, true, ℕ, ℤ, ⊤, ◌≡◌}
use Rattle.std.specs.Prelude.{◌+◌, ◌-◌, ◌*◌, ◌%◌, ◌^◌, ◌==◌, if◌then◌else◌, ◌∷◌, ◌++◌, ◌+ℤ◌, ◌-ℤ◌}
use Rattle.std.specs.Prelude.{◌*ℤ◌, ◌≤ℤ◌, ◌<ℤ◌, ◌≤◌}

-- ---- forms; bit j of a pair's second word is bit 32 + j

-- the part of a `Shift10` that every reading takes
abbrev pub shift10_low : List ImmediateBit
shift10_low = bits_to 0 11 10

abbrev pub call36_high : List ImmediateBit
call36_high = sum_bits_to 0x8000 16 35 5

abbrev pub call36_low : List ImmediateBit
call36_low = bits_to 0 15 42

-- the immediates of `pcaddu18i` and of `jirl`
abbrev pub pcaddu18i_imm : ℕ → ℤ
pcaddu18i_imm pair = signed 20 (field pair 5 25)

abbrev pub jirl_imm : ℕ → ℤ
jirl_imm pair = signed 16 (field pair 42 58)

abbrev pub call36_form : Form
call36_form =
    record {
      window = w64;
      width = λ _. 36;
      places = λ _. call36_high ++ call36_low;
      number = λ _ v. v;
      base = λ _ x. x;
      opcode = λ _. false;
      reading =
          λ x. int_rem_euclid (pos (place_sum call36_high x) +ℤ signed 16 (place_sum call36_low x))
          (pos (2 ^ 36));
      flag = λ _. false;
      restores = λ _. true;
      machine = λ x. (pcaddu18i_imm x *ℤ pos (2 ^ 16)) +ℤ jirl_imm x;
      wanted = λ _ _ v. pos v;
      claim = modulo 36;
    }

-- an immediate of n bits
abbrev pub immediate : ℕ → List ImmediateBit → Field
immediate n ps =
    record {
      window = w32;
      width = n;
      bits = n;
      low = 0;
      read = unsigned;
      flags = false;
      machine = twos_complement;
      claim = modulo n;
      places = ps;
    }

-- a distance of n bits, which `read_value` reads in two's complement too
abbrev pub distance : ℕ → List ImmediateBit → Field
distance n ps = record (immediate n ps) { read = twos_complement; flags = true }

-- A `Shift10` has an immediate of 16 bits where more than 12 bits of a value are taken, and else
-- one of 12.
abbrev pub has_16_bits : BitRange → Bool
has_16_bits bits = nat_lt 12 (bits.end - bits.start)

-- the immediate of 16 bits in a `Shift10`
abbrev pub shift10_imm16 : Field
shift10_imm16 = immediate 16 (shift10_low ++ or_bits_to 12 15 22)

-- the value's bits in the pair of a call with 20 bits
abbrev pub call30_bits : List ImmediateBit
call30_bits = bits_to 9 19 14 ++ bits_to 0 8 42

abbrev pub call30_field : Field
call30_field =
    record (immediate 20 (call30_bits ++ cleared_bits 5 13)) {
      window = w64;
      machine = unsigned;
      claim = unclaimed;
    }

abbrev pub loongarch_layout : LoongArch64Instruction → Layout
loongarch_layout Shift5 = one_field (immediate 20 (bits_to 0 19 5))
loongarch_layout Shift10 =
    own_form (record (field_form shift10_imm16) { reading = λ x. pos (place_sum shift10_low x) })
loongarch_layout Branch26 = one_field (distance 26 (bits_to 0 15 10 ++ bits_to 16 25 0))
loongarch_layout Branch21 = one_field (distance 21 (bits_to 0 15 10 ++ bits_to 16 20 0))
loongarch_layout Call30 =
    own_form (record (field_form call30_field) { restores = λ x. field x 5 14 == 0 })
loongarch_layout Call36 = own_form call36_form

-- the forms by their numbers from 0 up
abbrev pub loongarch64_forms : List LoongArch64Instruction
loongarch64_forms = Shift5 ∷ Shift10 ∷ Branch26 ∷ Branch21 ∷ Call30 ∷ Call36 ∷ []

abbrev pub loongarch_form : LoongArch64Instruction → Form
loongarch_form f = form_of (loongarch_layout f)

-- An immediate of 12 bits in a `Shift10` holds the value's, whatever stood in the places that are
-- only ORed.
abbrev pub ReadsLow : LoongArch64Instruction → ℕ → ℕ → Type 0
ReadsLow Shift10 v after = field after 10 22 ≡ v % 2 ^ 12
ReadsLow f v after = ⊤

-- how far in bytes `pcaddu18i` and `jirl` go
abbrev pub reach : ℕ → ℤ
reach pair = (pcaddu18i_imm pair *ℤ pos (2 ^ 18)) +ℤ (jirl_imm pair *ℤ pos 4)

-- v is bits 2 to 37 of d, a multiple of 4
pub record IsCallBy (v : ℕ) (d : ℤ) : Type 0 where
  pub aligned : int_rem_euclid d (pos 4) ≡ pos 0
  pub bits : v ≡ field (cast_unsigned w64 d) 2 38

-- A pair with bits 2 to 37 of a distance goes that far, from -2^37 to 2^37 - 2^17; from there below
-- 2^37 it is 2^38 less.
pub record IsDistanceModulo (v after : ℕ) : Type 0 where
  pub near : (d : ℤ) → IsCallBy v d → neg_ℤ (pos (2 ^ 37)) ≤ℤ d → d <ℤ pos (2 ^ 37 - 2 ^ 17)
      → reach after ≡ d
  pub far : (d : ℤ) → IsCallBy v d → pos (2 ^ 37 - 2 ^ 17) ≤ℤ d → d <ℤ pos (2 ^ 37)
      → reach after ≡ d -ℤ pos (2 ^ 38)

abbrev pub Reaches : LoongArch64Instruction → ℕ → ℕ → Type 0
Reaches Call36 v after = IsDistanceModulo v after
Reaches f v after = ⊤

-- ---- addresses

-- a number less its remainder by 4096, the size of a page
abbrev pub page : ℕ → ℕ
page n = n - n % 4096

-- 2^12 - 2^32 modulo 2^64 where bit 11 is set: `addi.d` then reads the low 12 bits as 2^12 less,
-- and of that bits 0 to 31 are kept, which is 2^32 more
abbrev pub high_correction : ℕ → ℕ
high_correction s = if bit_at s 11 == 1 then 2 ^ 64 + 2 ^ 12 - 2 ^ 32 else 0

-- the distance from the page of pc - 8 to that of s, rounded for its bits 32 to 63, modulo 2^64
abbrev pub high_distance : ℕ → ℕ → ℕ
high_distance s pc =
    (page ((s + 2 ^ 31 + high_correction s) % 2 ^ 64)
    + (2 ^ 64 - page ((pc + (2 ^ 64 - 8)) % 2 ^ 64))) % 2 ^ 64

-- the instruction at a byte
abbrev pub instruction : List ℕ → ℕ → ℕ
instruction bytes k = from_le_bytes w32 (drop k bytes)

-- the address that `pcalau12i` makes
abbrev pub pcalau12i : ℕ → ℕ → ℤ
pcalau12i pc word =
    let sum = pos pc +ℤ (signed 20 (field word 5 25) *ℤ pos 4096) in
    sum -ℤ int_rem_euclid sum (pos 4096)

-- the number that `addi.d` from zero, `lu32i.d` and `lu52i.d` make: bits 0 to 31, 32 to 51 and 52
-- to 63
abbrev pub upper_and_lower_value : ℕ → ℕ → ℕ → ℤ
upper_and_lower_value addi lu32i lu52i =
    int_rem_euclid (signed 12 (field addi 10 22)) (pos (2 ^ 32))
    +ℤ pos (2 ^ 32 * field lu32i 5 25 + 2 ^ 52 * field lu52i 10 22)

-- the address that `pcalau12i` at pc, `addi.d` from zero, `lu32i.d`, `lu52i.d` and `add.d` of both
-- make
abbrev pub five_instructions : ℕ → List ℕ → ℤ
five_instructions pc bytes =
    int_rem_euclid (pcalau12i pc (instruction bytes 0)
    +ℤ upper_and_lower_value (instruction bytes 4) (instruction bytes 8) (instruction bytes 12))
    (pos (2 ^ 64))

-- the bits of a word below bit s and from bit e up stay
pub record IsKeptOutside (s e before after : ℕ) : Type 0 where
  pub below : field after 0 s ≡ field before 0 s
  pub above : field after e 32 ≡ field before e 32

-- Bits s and up, below e, of the instruction at a byte are a number, and nothing else has changed.
pub record IsSetAt (s e : ℕ) (before after : List ℕ) (at value : ℕ) : Type 0 where
  pub immediate : field (instruction after at) s e ≡ value
  pub outside : IsKeptOutside s e (instruction before at) (instruction after at)
  pub front : (k : ℕ) → k + 4 ≤ at → instruction after k ≡ instruction before k
  pub rest : (k : ℕ) → at + 4 ≤ k → drop k after ≡ drop k before

-- The five instructions at pc make the target, and nothing but their immediates has changed.
pub record MakesAddress (before after : List ℕ) (pc target : ℕ) : Type 0 where
  pub makes : five_instructions pc after ≡ pos target
  pub first : IsKeptOutside 5 25 (instruction before 0) (instruction after 0)
  pub second : IsKeptOutside 10 22 (instruction before 4) (instruction after 4)
  pub third : IsKeptOutside 5 25 (instruction before 8) (instruction after 8)
  pub fourth : IsKeptOutside 10 22 (instruction before 12) (instruction after 12)
  pub rest : drop 16 after ≡ drop 16 before
