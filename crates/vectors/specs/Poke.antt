-- Instructions at an offset of a section.
use Rattle.std.specs.Prelude.{◌≡◌, ℕ, ◌+◌, ◌%◌, ◌^◌, ◌≤◌, Bool, List, length, take, drop}
use Rattle.std.specs.Int.{byte_len, cast_unsigned, w64}
use Rattle.linker_utils.specs.Form.{Form, window_of, Fits, Written, MachineReads}
use Rattle.linker_utils.specs.Form.{OtherBitsUnchanged}

-- the form's window at an offset
abbrev pub window_at : Form → List ℕ → ℕ → ℕ
window_at form section offset = window_of form (drop offset section)

-- the window lies in the section
abbrev pub HasWindow : Form → List ℕ → ℕ → Type 0
HasWindow form section offset = offset + byte_len form.window ≤ length section

-- the value can be written there
abbrev pub CanPoke : Form → ℕ → List ℕ → ℕ → Type 0
CanPoke form value section offset =
    HasWindow form section offset × Fits form value (window_at form section offset)

-- The value and the flag are written at an offset, and the machine reads them there; the window's
-- other bits and all bytes around it are unchanged.
pub record IsPoked (form : Form) (value : ℕ) (negative : Bool) (offset : ℕ)
    (before after : List ℕ) : Type 0 where
  pub written : Written form value negative (window_at form before offset)
      (window_at form after offset)
  pub machine : MachineReads form value negative (window_at form before offset)
      (window_at form after offset)
  pub others : OtherBitsUnchanged form (window_at form before offset) (window_at form after offset)
  pub front : take offset after ≡ take offset before
  pub rest : drop (offset + byte_len form.window) after
      ≡ drop (offset + byte_len form.window) before

-- the value and the flag that reading the window returns, the value truncated to the form's width
abbrev pub value_at : Form → List ℕ → ℕ → ℕ
value_at form section offset =
    let x = window_at form section offset in cast_unsigned w64 (form.reading x) % 2 ^ form.width x

abbrev pub flag_at : Form → List ℕ → ℕ → Bool
flag_at form section offset = form.flag (window_at form section offset)
