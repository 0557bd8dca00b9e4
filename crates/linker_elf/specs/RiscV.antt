-- RISC-V: its instruction forms (RISC-V unprivileged ISA, "Immediate Encoding Variants"), its
-- rewrites and its jumps (RISC-V ELF psABI, "Function Call Relaxation").
use Rattle.linker_elf.specs.Imports.{BType, CbType, CjType, CluiType, Form, IType, ImmediateBit}
use Rattle.linker_elf.specs.Imports.{IsSameModulo, JType, Layout, RiscVInstruction, SType, UType}
use Rattle.linker_elf.specs.Imports.{UiType, Width, Written, bits_to, form_of, modulo, one_field}
use Rattle.linker_elf.specs.Imports.{own_form, place_sum, signed, signed_field, sum_bits_to, w16}
use Rattle.linker_elf.specs.Imports.{w32, w64}
use Rattle.std.specs.Prelude.{Bool, List, [], false, negsuc, pos, true, ℕ, ℤ, ⊤, ◌≡◌, ◌++◌, ◌≤ℤ◌}
use Rattle.std.specs.Prelude.{◌∷◌, ◌<ℤ◌, ◌+ℤ◌}
use Rattle.linker_base.specs.Rounded.{rounded_immediate}

-- the places of a high part and of the low part in the second word
abbrev pub ui_high : List ImmediateBit
ui_high = sum_bits_to 0x800 12 31 12

abbrev pub ui_low : List ImmediateBit
ui_low = bits_to 0 11 52

-- the sum of the immediates of `UType` in the window's first word and `IType` in its second
abbrev pub ui_sum : ℕ → ℤ
ui_sum x = signed 32 (place_sum ui_high x) +ℤ signed 12 (place_sum ui_low x)

abbrev pub ui_form : Form
ui_form =
    record {
      window = w64;
      width = λ _. 64;
      places = λ _. ui_high ++ ui_low;
      number = λ _ v. v;
      base = λ _ x. x;
      opcode = λ _. false;
      reading = ui_sum;
      flag = λ _. false;
      restores = λ _. true;
      machine = ui_sum;
      wanted = λ _ _ v. pos v;
      claim = modulo 32;
    }

-- a signed immediate of n bits, those of the value from bit `low` up
abbrev pub signed_immediate : Width → ℕ → ℕ → List ImmediateBit → Layout
signed_immediate w n low ps = one_field (signed_field w n low ps)

abbrev pub riscv_layout : RiscVInstruction → Layout
riscv_layout UType = own_form (rounded_immediate w32 32 12 0x800 false ui_high)
riscv_layout IType = signed_immediate w32 12 0 (bits_to 0 11 20)
riscv_layout SType = signed_immediate w32 12 0 (bits_to 0 4 7 ++ bits_to 5 11 25)
riscv_layout BType =
    signed_immediate w32 13 1 (bits_to 11 11 7 ++ bits_to 1 4 8 ++ bits_to 5 10 25
    ++ bits_to 12 12 31)
riscv_layout JType =
    signed_immediate w32 21 1 (bits_to 12 19 12 ++ bits_to 11 11 20 ++ bits_to 1 10 21
    ++ bits_to 20 20 31)
riscv_layout CbType =
    signed_immediate w16 9 1 (bits_to 5 5 2 ++ bits_to 1 2 3 ++ bits_to 6 7 5 ++ bits_to 3 4 10
    ++ bits_to 8 8 12)
riscv_layout CjType =
    signed_immediate w16 12 1
    (bits_to 5 5 2 ++ bits_to 1 3 3 ++ bits_to 7 7 6 ++ bits_to 6 6 7 ++ bits_to 10 10 8
    ++ bits_to 8 9 9 ++ bits_to 4 4 11 ++ bits_to 11 11 12)
riscv_layout CluiType =
    own_form (rounded_immediate w16 18 12 0x800 true
    (sum_bits_to 0x800 12 16 2 ++ sum_bits_to 0x800 17 17 12))
riscv_layout UiType = own_form ui_form

-- the forms by their numbers from 0 up
abbrev pub riscv_forms : List RiscVInstruction
riscv_forms = UType ∷ IType ∷ SType ∷ BType ∷ JType ∷ CbType ∷ CjType ∷ CluiType ∷ UiType ∷ []

abbrev pub riscv_form : RiscVInstruction → Form
riscv_form f = form_of (riscv_layout f)

-- the places of a form's bits, the same in every window
abbrev pub riscv_places : RiscVInstruction → List ImmediateBit
riscv_places f = (riscv_form f).places 0

-- from -2 ^ 31 - 0x800 up, below 2 ^ 31 - 0x800
abbrev pub IsPairRange : ℤ → Type 0
IsPairRange z = (negsuc 2147485695 ≤ℤ z) × (z <ℤ pos 2147481600)

-- The sum of a high and a low part is the value: modulo 2 ^ 32, and exactly in the range of pairs.
pub record IsPairOf (v : ℕ) (sum : ℤ) : Type 0 where
  pub same : IsSameModulo 32 sum (pos v)
  pub exact : IsPairRange (signed 64 v) → sum ≡ signed 64 v

-- the low part completes each high part that was written of the same value
abbrev pub Completes : RiscVInstruction → ℕ → ℕ → Type 0
Completes low v after =
    (neg : Bool) (before high : ℕ) → Written (riscv_form UType) v neg before high
    → IsPairOf v ((riscv_form UType).machine high +ℤ (riscv_form low).machine after)

-- what a written instruction and its pair read as
abbrev pub PairReads : RiscVInstruction → ℕ → ℕ → Type 0
PairReads IType v after = Completes IType v after
PairReads SType v after = Completes SType v after
PairReads UiType v after = IsPairOf v ((riscv_form UiType).machine after)
PairReads f v after = ⊤
