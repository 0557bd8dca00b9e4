-- Instruction forms: where the bits of a value stand in the bytes of an instruction, and which
-- number the machine reads there. A form's window is its 2, 4 or 8 bytes as one little-endian
-- number; bit j of its second word is bit 32 + j.
use Rattle.std.specs.Prelude.{◌≡◌, ℕ, zero, suc, ◌+◌, ◌-◌, ◌*◌, ◌%◌, ◌^◌, ◌<◌, max, Bool, true}
use Rattle.std.specs.Prelude.{false, not, ◌&&◌, ◌||◌, ◌==◌, nat_lt, IsTrue, List, [], ◌∷◌, ⊤, ℤ}
use Rattle.std.specs.Prelude.{pos, int_lt}
use Rattle.std.specs.List.{All, list_any, sum_by}
use Rattle.std.specs.Int.{Width, w64, cast_unsigned, bit_at, from_le_bytes, int_rem_euclid}
use Rattle.linker_base.specs.Bits.{signed}

-- What stands at a place: the value's bit, that bit ORed to the old one, or 0.
pub data Mark : Type 0 where
  replaced : Mark
  ored : Mark
  cleared : Mark

-- Bit `value` of the value plus `added`, modulo 2 ^ 64, belongs to bit `insn_bit` of the window. A
-- bit that is only cleared has no bit of the value.
pub record ImmediateBit : Type 0 where
  pub value : ℕ
  pub insn_bit : ℕ
  pub added : ℕ
  pub mark : Mark

-- n consecutive immediate bits, from value bit k and window bit w up
abbrev pub consecutive_bits : ℕ → ℕ → ℕ → ℕ → Mark → List ImmediateBit
consecutive_bits zero k w r m = []
consecutive_bits (suc n) k w r m =
    record { value = k; insn_bit = w; added = r; mark = m } ∷ consecutive_bits n (k + 1) (w + 1) r m

-- value bits a to b, both included, at window bit c and up
abbrev pub bits_to : ℕ → ℕ → ℕ → List ImmediateBit
bits_to a b c = consecutive_bits (b + 1 - a) a c 0 replaced

-- bits a to b of the value plus r, at window bit c and up
abbrev pub sum_bits_to : ℕ → ℕ → ℕ → ℕ → List ImmediateBit
sum_bits_to r a b c = consecutive_bits (b + 1 - a) a c r replaced

-- value bits a to b, only ORed at window bit c and up
abbrev pub or_bits_to : ℕ → ℕ → ℕ → List ImmediateBit
or_bits_to a b c = consecutive_bits (b + 1 - a) a c 0 ored

-- window bits a to b, only cleared
abbrev pub cleared_bits : ℕ → ℕ → List ImmediateBit
cleared_bits a b = consecutive_bits (b + 1 - a) 0 a 0 cleared

-- the bit of v that belongs to a place
abbrev pub bit_for : ImmediateBit → ℕ → ℕ
bit_for p v = bit_at ((v + p.added) % 2 ^ 64) p.value

-- what stands at a place after v is written, where `old` stood
abbrev pub placed_bit : Mark → ℕ → ℕ → ℕ
placed_bit replaced new old = new
placed_bit ored new old = max old new
placed_bit cleared new old = 0

-- window bit w is one of the places
abbrev pub is_placed : List ImmediateBit → ℕ → Bool
is_placed places w = list_any (λ (p : ImmediateBit). p.insn_bit == w) places

-- The window after is the window before with the bits of v at the places.
pub record BitsWritten (places : List ImmediateBit) (v before after : ℕ) : Type 0 where
  pub placed : All (λ (p : ImmediateBit). bit_at after p.insn_bit
      ≡ placed_bit p.mark (bit_for p v) (bit_at before p.insn_bit)) places
  pub kept : (w : ℕ) → is_placed places w ≡ false → bit_at after w ≡ bit_at before w

-- a place that holds a bit of the value
abbrev pub holds_value_bit : Mark → Bool
holds_value_bit replaced = true
holds_value_bit ored = true
holds_value_bit cleared = false

-- p is the place of value bit k
abbrev pub is_of : ImmediateBit → ℕ → Bool
is_of p k = holds_value_bit p.mark && p.value == k

-- value bit k has a place
abbrev pub has_value : List ImmediateBit → ℕ → Bool
has_value [] k = false
has_value (p ∷ ps) k = is_of p k || has_value ps k

-- no value bit has two places
abbrev pub values_apart : List ImmediateBit → Bool
values_apart [] = true
values_apart (p ∷ ps) = not (holds_value_bit p.mark && has_value ps p.value) && values_apart ps

-- all places are of value bits below bit n
abbrev pub values_below : ℕ → List ImmediateBit → Bool
values_below n [] = true
values_below n (p ∷ ps) = nat_lt p.value n && values_below n ps

-- 2 ^ k times the window's bit at a place of value bit k, and 0 at one that is only cleared
abbrev pub worth : Mark → ℕ → ℕ → ℕ
worth cleared k b = 0
worth ored k b = 2 ^ k * b
worth replaced k b = 2 ^ k * b

-- the number that stands at the places of the window x
unfoldable pub place_sum : List ImmediateBit → ℕ → ℕ
place_sum places x =
    sum_by (λ (p : ImmediateBit). worth p.mark p.value (bit_at x p.insn_bit)) places

-- the places that are only ORed hold 0
abbrev pub is_clear_at : Mark → ℕ → Bool
is_clear_at ored b = b == 0
is_clear_at replaced b = true
is_clear_at cleared b = true

abbrev pub IsClear : List ImmediateBit → ℕ → Type 0
IsClear places x =
    All (λ (p : ImmediateBit). IsTrue (is_clear_at p.mark (bit_at x p.insn_bit))) places

-- a and b leave the same remainder by 2 ^ n
abbrev pub IsSameModulo : ℕ → ℤ → ℤ → Type 0
IsSameModulo n a b = int_rem_euclid a (pos (2 ^ n)) ≡ int_rem_euclid b (pos (2 ^ n))

-- How near the machine's number has to come: the same number, the same modulo 2 ^ n, or nothing is
-- claimed of it.
pub data Claim : Type 0 where
  exactly : Claim
  modulo : ℕ → Claim
  unclaimed : Claim

abbrev pub IsSameBy : Claim → ℤ → ℤ → Type 0
IsSameBy exactly a b = a ≡ b
IsSameBy (modulo n) a b = IsSameModulo n a b
IsSameBy unclaimed a b = ⊤

-- What defines a form.
pub record Form : Type 0 where
  -- the window's length
  pub window : Width
  -- values below 2 to the width can be written, every value where it is 64; by the window before
  pub width : ℕ → ℕ
  -- the places, by the window before
  pub places : ℕ → List ImmediateBit
  -- the number whose bits are placed, by the flag and the value
  pub number : Bool → ℕ → ℕ
  -- the window on which they are placed, by the flag and the window before
  pub base : Bool → ℕ → ℕ
  -- the window's bits that the base sets: an opcode, by the flag
  pub opcode : ℕ → Bool
  -- the number and the flag that reading a window returns
  pub reading : ℕ → ℤ
  pub flag : ℕ → Bool
  -- the windows on which writing back what was read changes nothing
  pub restores : ℕ → Bool
  -- the number that the machine reads
  pub machine : ℕ → ℤ
  -- what it has to be after a write, by the flag, the window before and the value, and how near
  pub wanted : Bool → ℕ → ℕ → ℤ
  pub claim : Claim

-- the number in a form's window, of bytes that begin with it
abbrev pub window_of : Form → List ℕ → ℕ
window_of form bytes = from_le_bytes form.window bytes

-- the value can be written
abbrev pub Fits : Form → ℕ → ℕ → Type 0
Fits form v before = v < 2 ^ form.width before

-- The window after is the window before with v and the flag written to it.
abbrev pub Written : Form → ℕ → Bool → ℕ → ℕ → Type 0
Written form v neg before after =
    BitsWritten (form.places before) (form.number neg v) (form.base neg before) after

-- the machine reads what it has to, where the places that are only ORed held 0
abbrev pub MachineReads : Form → ℕ → Bool → ℕ → ℕ → Type 0
MachineReads form v neg before after =
    IsClear (form.places before) before
    → IsSameBy form.claim (form.machine after) (form.wanted neg before v)

-- The value and the flag are those that reading the window returns, the value modulo 2 to the
-- form's width.
pub record IsReadBack (form : Form) (v : ℕ) (neg : Bool) (before : ℕ) : Type 0 where
  pub restores : IsTrue (form.restores before)
  pub value : v ≡ cast_unsigned w64 (form.reading before) % 2 ^ form.width before
  pub flag : neg ≡ form.flag before

-- ---- laws of forms

-- Each bit that is neither at a place nor in the opcode that the form sets is the old one.
abbrev pub OtherBitsUnchanged : Form → ℕ → ℕ → Type 0
OtherBitsUnchanged form before after =
    (w : ℕ) → is_placed (form.places before) w ≡ false → form.opcode w ≡ false
    → bit_at after w ≡ bit_at before w

-- A write keeps the other bits.
abbrev pub WriteKeepsOtherBits : Form → Type 0
WriteKeepsOtherBits form =
    (v : ℕ) (neg : Bool) (before after : ℕ) → Written form v neg before after
    → OtherBitsUnchanged form before after

-- Writing back what was read changes nothing.
abbrev pub WriteBackChangesNothing : Form → Type 0
WriteBackChangesNothing form =
    (v : ℕ) (neg : Bool) (before after : ℕ) → v < 2 ^ 64 → Written form v neg before after
    → IsReadBack form v neg before → after ≡ before

-- ---- forms of one field

-- How a field of bits is read: as it stands, or in two's complement.
pub data Sign : Type 0 where
  unsigned : Sign
  twos_complement : Sign

-- the number f of n bits, read so
abbrev pub number_of : Sign → ℕ → ℕ → ℤ
number_of unsigned n f = pos f
number_of twos_complement n f = signed n f

-- One field of bits in an instruction.
pub record Field : Type 0 where
  -- the window's length
  pub window : Width
  -- values below 2 to the width can be written, every value where it is 64
  pub width : ℕ
  -- the field's number has n bits, of which those below bit `low` stand nowhere and are 0
  pub bits : ℕ
  pub low : ℕ
  -- how `read_value` reads the number, and whether its flag says that the number is below 0
  pub read : Sign
  pub flags : Bool
  -- how the machine reads the number, and how near that comes to the value without its bits below
  -- bit `low`
  pub machine : Sign
  pub claim : Claim
  -- where bits `low` and up, below bit `bits`, stand
  pub places : List ImmediateBit

abbrev pub field_form : Field → Form
field_form d =
    record {
      window = d.window;
      width = λ _. d.width;
      places = λ _. d.places;
      number = λ _ v. v;
      base = λ _ x. x;
      opcode = λ _. false;
      reading = λ x. number_of d.read d.bits (place_sum d.places x);
      flag = λ x. d.flags && int_lt (number_of d.read d.bits (place_sum d.places x)) (pos 0);
      restores = λ _. true;
      machine = λ x. number_of d.machine d.bits (place_sum d.places x);
      wanted = λ _ _ v. pos (v - v % 2 ^ d.low);
      claim = d.claim;
    }

-- Every value is written. The machine reads n bits in two's complement, those of the value from bit
-- `low` up.
abbrev pub signed_field : Width → ℕ → ℕ → List ImmediateBit → Field
signed_field w n low ps =
    record {
      window = w;
      width = 64;
      bits = n;
      low = low;
      read = twos_complement;
      flags = true;
      machine = twos_complement;
      claim = modulo n;
      places = ps;
    }

-- What gives a form: one field, or a definition of its own.
pub data Layout : Type 0 where
  one_field : Field → Layout
  own_form : Form → Layout

abbrev pub form_of : Layout → Form
form_of (one_field d) = field_form d
form_of (own_form form) = form
