-- The forms of all architectures keep the laws of forms. A clause of a variable stands for every
-- variant that no clause above it names; one variant is named above it in any case.
use Rattle.linker_elf.specs.Imports.{AArch64, AArch64Instruction, All, AnyForm, Call30, Call36}
use Rattle.linker_elf.specs.Imports.{CluiType, D, Field, ImmediateBit, LoongArch64}
use Rattle.linker_elf.specs.Imports.{LoongArch64Instruction, MachOLow12, Movnz, Ppc64, Ppc64Form}
use Rattle.linker_elf.specs.Imports.{RiscV, RiscVInstruction, Shift10, Shift5, UType, UiType}
use Rattle.linker_elf.specs.Imports.{WriteBackChangesNothing, WriteKeepsOtherBits, bit_at, cleared}
use Rattle.linker_elf.specs.Imports.{cleared_bits, exactly, field, or_bits_to, unsigned, w16, w32}
use Rattle.std.specs.Prelude.{false, true, ℕ}
use Rattle.std.proofs.Common.{◌≡◌, ◌+◌, ◌/◌, ◌^◌, ◌<◌, refl, ap, sym, ◌∙◌, cond}
use Rattle.std.proofs.lemmas.Bool.{agree_below_at, eqb-true, ltb-true}
use Rattle.std.proofs.lemmas.Nat.{mod_below}
use Rattle.std.proofs.lemmas.Nat.Bits.{bit_at-zero}
use Rattle.linker_base.proofs.Fields.{bit_at_run}
use Rattle.linker_base.proofs.Immediates.{IsSoundField, is_sound_field, sound_field, field_restored}
use Rattle.linker_base.proofs.Immediates.{layout_restores}
use Rattle.linker_base.proofs.Moves.{keeps_others, keeps_base, opcode_keeps, move_restored}
use Rattle.linker_base.proofs.Moves.{scale_from}
use Rattle.linker_base.proofs.Pairs.{pair_restored, long_pair_restored, low_restored}
use Rattle.linker_base.proofs.Pairs.{clear_restored}
use Rattle.linker_base.proofs.Rounded.{sound_part, rounded_restores}
use Rattle.linker_base.proofs.ConsecutiveBits.{consecutive_bits_all}
use Rattle.linker_elf.specs.AArch64.{aarch64_form, aarch64_layout, movn_opcode, movz_opcode}
use Rattle.linker_elf.specs.AArch64.{imm16_places, access_scale, has_scaled_offset}
use Rattle.linker_elf.specs.AArch64.{is_of_16_bytes, low12_places}
use Rattle.linker_elf.specs.Elf.{relocation_form}
use Rattle.linker_elf.specs.LoongArch.{loongarch_form, loongarch_layout, call30_bits, shift10_low}
use Rattle.linker_elf.specs.LoongArch.{call36_high, call36_low}
use Rattle.linker_elf.specs.Ppc64.{ppc64_form, ppc64_layout}
use Rattle.linker_elf.specs.RiscV.{riscv_form, riscv_layout, riscv_places, ui_high, ui_low}

-- ---- bits outside the places stay

pub aarch64_keeps : (f : AArch64Instruction) → WriteKeepsOtherBits (aarch64_form f)
aarch64_keeps Movnz =
    keeps_others (aarch64_form Movnz) (λ neg x w o. opcode_keeps
    (cond neg movn_opcode movz_opcode) 23 x w o)
aarch64_keeps f = keeps_base (aarch64_form f) (λ _ _. refl)

pub riscv_keeps : (f : RiscVInstruction) → WriteKeepsOtherBits (riscv_form f)
riscv_keeps UType = keeps_base (riscv_form UType) (λ _ _. refl)
riscv_keeps f = keeps_base (riscv_form f) (λ _ _. refl)

pub ppc64_keeps : (f : Ppc64Form) → WriteKeepsOtherBits (ppc64_form f)
ppc64_keeps D = keeps_base (ppc64_form D) (λ _ _. refl)
ppc64_keeps f = keeps_base (ppc64_form f) (λ _ _. refl)

pub loongarch_keeps : (f : LoongArch64Instruction) → WriteKeepsOtherBits (loongarch_form f)
loongarch_keeps Shift5 = keeps_base (loongarch_form Shift5) (λ _ _. refl)
loongarch_keeps f = keeps_base (loongarch_form f) (λ _ _. refl)

pub relocation_keeps : (f : AnyForm) → WriteKeepsOtherBits (relocation_form f)
relocation_keeps (AArch64 f) = aarch64_keeps f
relocation_keeps (RiscV f) = riscv_keeps f
relocation_keeps (Ppc64 f) = ppc64_keeps f
relocation_keeps (LoongArch64 f) = loongarch_keeps f

-- ---- writing back what was read changes nothing

-- the scale of an offset is at most 4, and its places fit each
pub scale_small : (x : ℕ) → access_scale x < 5
scale_small x =
    scale_from (has_scaled_offset x) (is_of_16_bytes x) (field x 30 32)
    (mod_below (x / 2 ^ 30) (2 ^ 2) (ltb-true 0 (2 ^ 2) refl))

-- `MachOLow12` at one scale
abbrev pub low12_field : ℕ → Field
low12_field s =
    record {
      window = w32;
      width = 12 + s;
      bits = 12 + s;
      low = s;
      read = unsigned;
      flags = false;
      machine = unsigned;
      claim = exactly;
      places = low12_places s;
    }

pub low12_sound : (s : ℕ) → s < 5 → IsSoundField (low12_field s)
low12_sound s h =
    sound_field (low12_field s) (agree_below_at (λ k. is_sound_field (low12_field k))
    (λ _. true) 5 s refl h)

pub aarch64_restored : (f : AArch64Instruction) → WriteBackChangesNothing (aarch64_form f)
aarch64_restored Movnz = λ v neg before after wide laid back.
    move_restored imm16_places neg v before after
    (sound_part 0 16 0 imm16_places refl) laid back.restores back.value back.flag
aarch64_restored MachOLow12 = λ v neg before after wide laid back.
    let s = access_scale before in
    field_restored (low12_field s) (low12_sound s (scale_small before)) v neg before after wide laid
    (record { restores = refl; value = back.value; flag = back.flag })
aarch64_restored f = layout_restores (aarch64_layout f) refl

pub riscv_restored : (f : RiscVInstruction) → WriteBackChangesNothing (riscv_form f)
riscv_restored UType = rounded_restores w32 32 12 0x800 false (riscv_places UType) refl refl
riscv_restored CluiType = rounded_restores w16 18 12 0x800 true (riscv_places CluiType) refl refl
riscv_restored UiType = λ v neg before after wide laid back.
    pair_restored ui_high ui_low v before after
    (sound_part 12 32 0x800 ui_high refl) (sound_part 0 12 0 ui_low refl) laid wide back.value
riscv_restored f = layout_restores (riscv_layout f) refl

pub ppc64_restored : (f : Ppc64Form) → WriteBackChangesNothing (ppc64_form f)
ppc64_restored D = layout_restores (ppc64_layout D) refl
ppc64_restored f = layout_restores (ppc64_layout f) refl

-- what is cleared held 0
call30_clear : (x : ℕ) → field x 5 14 ≡ 0
    → All (λ (p : ImmediateBit). bit_at x p.insn_bit ≡ 0) (cleared_bits 5 13)
call30_clear x e =
    consecutive_bits_all (λ (p : ImmediateBit). bit_at x p.insn_bit ≡ 0) 9 0 5 0 cleared
    (λ j l. sym (bit_at_run x 5 9 j l) ∙ ap (λ y. bit_at y j) e ∙ bit_at-zero j)

pub loongarch_restored : (f : LoongArch64Instruction) → WriteBackChangesNothing (loongarch_form f)
loongarch_restored Shift10 = λ v neg before after wide laid back.
    low_restored shift10_low (or_bits_to 12 15 22) v before after
    (sound_part 0 12 0 shift10_low refl) refl wide back.value laid
loongarch_restored Call30 = λ v neg before after wide laid back.
    clear_restored call30_bits (cleared_bits 5 13) v before after
    (sound_part 0 20 0 call30_bits refl) refl
    (call30_clear before (eqb-true (field before 5 14) 0 back.restores)) wide back.value laid
loongarch_restored Call36 = λ v neg before after wide laid back.
    long_pair_restored call36_high call36_low v before after
    (sound_part 16 36 0x8000 call36_high refl)
    (sound_part 0 16 0 call36_low refl) laid wide back.value
loongarch_restored f = layout_restores (loongarch_layout f) refl

pub relocation_restored : (f : AnyForm) → WriteBackChangesNothing (relocation_form f)
relocation_restored (AArch64 f) = aarch64_restored f
relocation_restored (RiscV f) = riscv_restored f
relocation_restored (Ppc64 f) = ppc64_restored f
relocation_restored (LoongArch64 f) = loongarch_restored f
