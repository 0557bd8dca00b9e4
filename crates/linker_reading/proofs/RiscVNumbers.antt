-- What an instruction of RISC-V holds: with the rounding that a read takes off.
use Rattle.linker_reading.proofs.Imports.{CluiType, RiscV, UType, ap, arith, cast_unsigned, number_held, place_sum, place_sum_below, refl, riscv_form, signed, w64, ℕ, ◌%◌, ◌+◌, ◌^◌, ◌∙◌, ◌≡◌}
use Rattle.linker_reading.proofs.Numbers.{short, rounded_again}

pub utype_held : (x number : ℕ) → number ≡ cast_unsigned w64 ((riscv_form UType).reading x)
    → (number + 0x800) % 2 ^ 64 ≡ cast_unsigned w64 (number_held (RiscV UType) x)
utype_held x number is =
    let sum = place_sum ((riscv_form UType).places x) x in
    ap (λ y. (y + 0x800) % 2 ^ 64) is
    ∙ rounded_again (signed 32 sum)
    (short 32 sum (omega arith) (place_sum_below ((riscv_form UType).places x) 32 x refl refl))

pub clui_held : (x number : ℕ) → number ≡ cast_unsigned w64 ((riscv_form CluiType).reading x)
    → (number + 0x800) % 2 ^ 64 ≡ cast_unsigned w64 (number_held (RiscV CluiType) x)
clui_held x number is =
    let sum = place_sum ((riscv_form CluiType).places x) x in
    ap (λ y. (y + 0x800) % 2 ^ 64) is
    ∙ rounded_again (signed 18 sum)
    (short 18 sum (omega arith) (place_sum_below ((riscv_form CluiType).places x) 18 x refl refl))
