-- The bits of an instruction's opcode, by which its forms are found.
use Rattle.linker_reading.specs.Imports.{AnyForm, Bool, List, None, Option, Some, [], bit_and}
use Rattle.linker_reading.specs.Imports.{field, nat_le, true, ℕ}
use Rattle.std.specs.Prelude.{◌+◌, ◌*◌, ◌^◌, ◌==◌, ◌&&◌, if◌then◌else◌, ◌∷◌}

-- An instruction, or two that make one value, of `len` bytes: under the mask, the bits of its
-- opcode; where two fields of registers begin that have to be the same; and the forms of its
-- immediate. Bit j of the second word is bit 32 + j.
pub record Encoding : Type 0 where
  pub len : ℕ
  pub mask : ℕ
  pub bits : ℕ
  pub registers : Option (ℕ × ℕ)
  pub forms : List AnyForm

abbrev pub of_len : ℕ → ℕ → ℕ → List AnyForm → Encoding
of_len len mask bits forms =
    record { len = len; mask = mask; bits = bits; registers = None; forms = forms }

-- two instructions, by the masks and opcodes of both, whose registers at these bits are the same
abbrev pub pair_of : ℕ → ℕ → ℕ → ℕ → ℕ × ℕ → List AnyForm → Encoding
pair_of mask bits next_mask next_bits registers forms =
    record {
      len = 8;
      mask = next_mask * 2 ^ 32 + mask;
      bits = next_bits * 2 ^ 32 + bits;
      registers = Some registers;
      forms = forms;
    }

-- the fields of 5 bits are the same
abbrev pub have_same : Option (ℕ × ℕ) → ℕ → Bool
have_same None x = true
have_same (Some at) x = field x at.0 (at.0 + 5) == field x at.1 (at.1 + 5)

-- the instruction is there, in a number of n bytes
abbrev pub is_encoded : Encoding → ℕ → ℕ → Bool
is_encoded e len x =
    nat_le e.len len && (bit_and x e.mask == e.bits && have_same e.registers x)

-- the forms of the first instruction of a list that is there
abbrev pub first_forms : List Encoding → ℕ → ℕ → List AnyForm
first_forms [] len x = []
first_forms (e ∷ es) len x = if is_encoded e len x then e.forms else first_forms es len x
