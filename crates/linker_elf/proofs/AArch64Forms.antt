-- What the machine reads of the AArch64 forms.
use Rattle.linker_elf.proofs.Imports.{AArch64Instruction, BitsWritten, Bool, Fits, ImmediateBit, List, MachOLow12, MachineReads, Movnz, Written, aarch64_form, aarch64_layout, access_scale, agree_below_at, always_clear, and_mask, ap, arith, bit_and, bit_at, bit_at_shr, bit_or, eqb, false, field, field_machine, imm16_places, layout_machine, low12_field, low12_places, low12_sound, macho_low12, move_opcode, moved_bits, moved_value, movn_opcode, movnz, movz_opcode, opcode_of, or_comm, or_shifted, place_sum, place_sum_laid, pos, refl, same_from_bits, scale_small, shift_of, subst, sym, true, w32, words_below, ℕ, ◌%◌, ◌*◌, ◌+◌, ◌/◌, ◌<◌, ◌^◌, ◌∙◌, ◌≡◌}
use Rattle.linker_elf.proofs.Steps.{not_placed_above, laid_below}

-- ---- Movnz

moved_small : (neg : Bool) (v : ℕ) → moved_bits neg v < 2 ^ 16
moved_small true v = omega arith
moved_small false v = omega arith

-- the 16 bits after a write
moved_sum : (neg : Bool) (v base after : ℕ) → BitsWritten imm16_places (moved_bits neg v) base after → place_sum imm16_places after ≡ moved_bits neg v
moved_sum neg v base after laid =
    let small = moved_small neg v in
    place_sum_laid 0 16 0 imm16_places (moved_bits neg v) base after (omega arith) refl refl laid (always_clear imm16_places base refl)
    ∙ omega arith

-- bits 21 and up
pub high_kept : (ps : List ImmediateBit) (v base after : ℕ) → BitsWritten ps v base after → (n : ℕ) → words_below n ps ≡ true → after / 2 ^ n ≡ base / 2 ^ n
high_kept ps v base after laid n b =
    same_from_bits (after / 2 ^ n) (base / 2 ^ n) (λ i.
    bit_at_shr after n i ∙ laid.kept (n + i) (not_placed_above ps n (n + i) b (omega arith)) ∙ sym (bit_at_shr base n i))

pub movnz_machine : (neg : Bool) (v before after : ℕ) → Written movnz v neg before after → MachineReads movnz v neg before after
movnz_machine true v before after laid = λ clear.
    let high : after / 2 ^ 21 ≡ (movn_opcode * 2 ^ 23 + before % 2 ^ 23) / 2 ^ 21 = high_kept imm16_places (moved_bits true v) (movn_opcode * 2 ^ 23 + before % 2 ^ 23) after laid 21 refl in
    let opcode : opcode_of after ≡ movn_opcode = omega arith in
    let shift : field after 21 23 ≡ field before 21 23 = omega arith in
    ap (λ o. moved_value (eqb o movn_opcode) (place_sum imm16_places after) (shift_of after)) opcode
    ∙ ap (λ s. moved_value true s (shift_of after)) (moved_sum true v (movn_opcode * 2 ^ 23 + before % 2 ^ 23) after laid)
    ∙ ap (λ h. moved_value true (moved_bits true v) (16 * h)) shift
movnz_machine false v before after laid = λ clear.
    let high : after / 2 ^ 21 ≡ (movz_opcode * 2 ^ 23 + before % 2 ^ 23) / 2 ^ 21 = high_kept imm16_places (moved_bits false v) (movz_opcode * 2 ^ 23 + before % 2 ^ 23) after laid 21 refl in
    let opcode : opcode_of after ≡ movz_opcode = omega arith in
    let shift : field after 21 23 ≡ field before 21 23 = omega arith in
    ap (λ o. moved_value (eqb o movn_opcode) (place_sum imm16_places after) (shift_of after)) opcode
    ∙ ap (λ s. moved_value false s (shift_of after)) (moved_sum false v (movz_opcode * 2 ^ 23 + before % 2 ^ 23) after laid)
    ∙ ap (λ h. moved_value false (moved_bits false v) (16 * h)) shift

-- ---- MachOLow12

low12_inside : (s : ℕ) → s < 5 → words_below 22 (low12_places s) ≡ true
low12_inside s h = agree_below_at (λ k. words_below 22 (low12_places k)) (λ _. true) 5 s refl h

scale_kept : (x y : ℕ) → x / 2 ^ 22 ≡ y / 2 ^ 22 → access_scale x ≡ access_scale y
scale_kept x y h =
    let a : field x 27 30 ≡ field y 27 30 = omega arith in
    let b : field x 24 26 ≡ field y 24 26 = omega arith in
    let c : field x 30 32 ≡ field y 30 32 = omega arith in
    let d : bit_at x 26 ≡ bit_at y 26 = omega arith in
    let e : bit_at x 23 ≡ bit_at y 23 = omega arith in
    cc

macho_machine : (neg : Bool) (v before after : ℕ) → Fits macho_low12 v before → v < 2 ^ 64 → Written macho_low12 v neg before after → MachineReads macho_low12 v neg before after
macho_machine neg v before after h l laid = λ clear.
    let s = access_scale before in
    let small = scale_small before in
    let same : access_scale after ≡ access_scale before = scale_kept after before (high_kept (low12_places s) v before after laid 22 (low12_inside s small)) in
    ap (λ k. pos (place_sum (low12_places k) after)) same
    ∙ field_machine (low12_field s) (low12_sound s small) v neg before after l h laid clear

-- ---- all forms

pub aarch64_machine : (f : AArch64Instruction) (v : ℕ) (neg : Bool) (before after : ℕ) → v < 2 ^ 64 → Fits (aarch64_form f) v before
    → Written (aarch64_form f) v neg before after → MachineReads (aarch64_form f) v neg before after
aarch64_machine Movnz v neg before after h fit laid = movnz_machine neg v before after laid
aarch64_machine MachOLow12 v neg before after h fit laid = macho_machine neg v before after fit h laid
aarch64_machine f v neg before after h fit laid = layout_machine (aarch64_layout f) refl v neg before after h fit laid

-- the opcode as the code sets it
pub opcode_set : (x opcode : ℕ) → bit_or (bit_and x 8388607) (opcode * 2 ^ 23) ≡ opcode * 2 ^ 23 + x % 2 ^ 23
opcode_set x opcode =
    ap (λ y. bit_or y (opcode * 2 ^ 23)) (and_mask x 23)
    ∙ or_comm (x % 2 ^ 23) (opcode * 2 ^ 23)
    ∙ or_shifted opcode 23 (x % 2 ^ 23) (let small : x % 2 ^ 23 < 2 ^ 23 = omega arith in small)

pub movnz_written : (v : ℕ) (neg : Bool) (x bits opcode after : ℕ) → bits ≡ moved_bits neg v → opcode ≡ move_opcode neg * 2 ^ 23
    → BitsWritten imm16_places bits (bit_or (bit_and x 8388607) opcode) after → Written movnz v neg x after
movnz_written v neg x bits opcode after b o laid =
    subst (λ m. BitsWritten imm16_places m (movnz.base neg x) after) b
    (subst (λ n. BitsWritten imm16_places bits n after) (ap (bit_or (bit_and x 8388607)) o ∙ opcode_set x (move_opcode neg)) laid)

pub movnz_below : (v : ℕ) (neg : Bool) (before after : ℕ) → Written movnz v neg before after → after < 2 ^ 32
movnz_below v true before after laid = laid_below imm16_places 32 (moved_bits true v) (movn_opcode * 2 ^ 23 + before % 2 ^ 23) after refl laid (omega arith)
movnz_below v false before after laid = laid_below imm16_places 32 (moved_bits false v) (movz_opcode * 2 ^ 23 + before % 2 ^ 23) after refl laid (omega arith)

-- ---- what is read

pub is_word : (f : AArch64Instruction) → (aarch64_form f).window ≡ w32
is_word Movnz = refl
is_word f = refl

pub macho_below : (v : ℕ) (neg : Bool) (x after : ℕ) → Written macho_low12 v neg x after → x < 2 ^ 32 → after < 2 ^ 32
macho_below v neg x after laid small =
    laid_below (low12_places (access_scale x)) 32 v x after
    (agree_below_at (λ k. words_below 32 (low12_places k)) (λ _. true) 5 (access_scale x) refl (scale_small x)) laid small
