-- The tables of the engine are the forms: the steps write and read the places, and a read returns
-- what the form says.
use Rattle.linker_elf.proofs.Imports.{AArch64, AArch64Instruction, Adr, AnyForm, BitsWritten, Bool, Call30, Call36, CluiType, D, Encoding, ImmediateBit, Layout, List, LoongArch64, LoongArch64Instruction, MachOLow12, Movnz, Ppc64, Ppc64Form, RiscV, RiscVInstruction, Shift10, Step, UType, UiType, Written, [], aarch64_form, aarch64_layout, access_scale, agree_below_at, and_parts, ap, arith, bit_and, bit_or, bits_of, call30_field, cast_unsigned, cleared, code_of, consecutive_bits, false, form_of, from_le_bytes, get_or, imm16_places, laid, leb, loongarch_layout, low12_places, lt-leb, move_opcode, moved_bits, moves_places, one_field, ored_cleared, own_form, place_sum, place_sum_below, pow_mono, ppc64_layout, reads, refl, relocation_form, riscv_layout, riscv_places, subst, sym, true, twos_complement, w32, w64, width_of, window_of, words_below, writes, ℕ, ◌%◌, ◌*◌, ◌+◌, ◌-◌, ◌<◌, ◌^◌, ◌∙◌, ◌∷◌, ◌≡◌, ◌≢◌, ◌≤◌}
use Rattle.linker_elf.specs.Inner.Runs.{is_plain}
use Rattle.linker_elf.proofs.LoongArch.{shift10_places, call36_places, shift10_value, call36_value}
use Rattle.linker_elf.proofs.ReadNumbers.{value_of, is_read_by, field_value, field_flag, flag_is}
use Rattle.linker_elf.proofs.AArch64Forms.{opcode_set, movnz_written, movnz_below, macho_below}
use Rattle.linker_elf.proofs.Clearing.{none_ored}
use Rattle.linker_elf.proofs.Steps.{laid_below, written_by}
use Rattle.linker_elf.proofs.RiscV.{u_value, clui_value, ui_value}

-- The table has the form.
pub record Coded (f : AnyForm) : Type 0 where
  pub width : (relocation_form f).window ≡ width_of (code_of f).0.window
  pub moves : moves_places f (code_of f).1 ≡ true
  pub below : words_below (bits_of (code_of f).0.window) ((relocation_form f).places 0) ≡ true
  pub written : (v : ℕ) (neg : Bool) (before after : ℕ) → BitsWritten ((relocation_form f).places 0) v before after
      → Written (relocation_form f) v neg before after
  pub value : (x : ℕ) → value_of (code_of f).0 (place_sum ((relocation_form f).places 0) x) ≡ cast_unsigned w64 ((relocation_form f).reading x)
  pub flag : (x : ℕ) → leb (code_of f).0.flag (place_sum ((relocation_form f).places 0) x) ≡ (relocation_form f).flag x

-- a form of one field is read as it says
abbrev is_layout : Encoding → Layout → Bool
is_layout e (one_field d) = is_read_by e d
is_layout e (own_form form) = false

layout_value : (e : Encoding) (l : Layout) → is_layout e l ≡ true → (x : ℕ) → value_of e (place_sum ((form_of l).places 0) x) ≡ cast_unsigned w64 ((form_of l).reading x)
layout_value e (one_field d) h x = field_value e d h x
layout_value e (own_form form) h x = cc

layout_flag : (e : Encoding) (l : Layout) → is_layout e l ≡ true → (x : ℕ) → leb e.flag (place_sum ((form_of l).places 0) x) ≡ (form_of l).flag x
layout_flag e (one_field d) h x = field_flag e d h x
layout_flag e (own_form form) h x = cc

-- no flag
never : (n f : ℕ) → n < 64 → f < 2 ^ n → leb (2 ^ 64 - 1) f ≡ false
never n f short small =
    let fits : 2 ^ n ≤ 2 ^ 63 = pow_mono {i = n} {j = 63} (omega arith) in
    lt-leb (2 ^ 64 - 1) f (omega (arith, fits, small))

aarch64_coded : (f : AArch64Instruction) → is_plain (AArch64 f) ≡ true → Coded (AArch64 f)
aarch64_coded Movnz p = cc
aarch64_coded MachOLow12 p = cc
aarch64_coded f p =
    record {
      width = refl;
      moves = refl;
      below = refl;
      written = λ v neg before after laid. laid;
      value = layout_value (code_of (AArch64 f)).0 (aarch64_layout f) refl;
      flag = layout_flag (code_of (AArch64 f)).0 (aarch64_layout f) refl;
    }

pub riscv_coded : (f : RiscVInstruction) → Coded (RiscV f)
riscv_coded UType =
    record {
      width = refl;
      moves = refl;
      below = refl;
      written = λ v neg before after laid. laid;
      value = u_value;
      flag = λ x. never 32 (place_sum (riscv_places UType) x) (omega arith) (place_sum_below (riscv_places UType) 32 x refl refl);
    }
riscv_coded CluiType =
    record {
      width = refl;
      moves = refl;
      below = refl;
      written = λ v neg before after laid. laid;
      value = clui_value;
      flag =
          λ x. flag_is twos_complement true 18 (place_sum (riscv_places CluiType) x) (2 ^ 17) (omega arith)
          (place_sum_below (riscv_places CluiType) 18 x refl refl) refl;
    }
riscv_coded UiType =
    record {
      width = refl;
      moves = refl;
      below = refl;
      written = λ v neg before after laid. laid;
      value = ui_value;
      flag = λ x. never 32 (place_sum (riscv_places UiType) x) (omega arith) (place_sum_below (riscv_places UiType) 32 x refl refl);
    }
riscv_coded f =
    record {
      width = refl;
      moves = refl;
      below = refl;
      written = λ v neg before after laid. laid;
      value = layout_value (code_of (RiscV f)).0 (riscv_layout f) refl;
      flag = layout_flag (code_of (RiscV f)).0 (riscv_layout f) refl;
    }

pub ppc64_coded : (f : Ppc64Form) → Coded (Ppc64 f)
ppc64_coded D =
    record {
      width = refl;
      moves = refl;
      below = refl;
      written = λ v neg before after laid. laid;
      value = layout_value (code_of (Ppc64 D)).0 (ppc64_layout D) refl;
      flag = layout_flag (code_of (Ppc64 D)).0 (ppc64_layout D) refl;
    }
ppc64_coded f =
    record {
      width = refl;
      moves = refl;
      below = refl;
      written = λ v neg before after laid. laid;
      value = layout_value (code_of (Ppc64 f)).0 (ppc64_layout f) refl;
      flag = layout_flag (code_of (Ppc64 f)).0 (ppc64_layout f) refl;
    }

pub loongarch_coded : (f : LoongArch64Instruction) → Coded (LoongArch64 f)
loongarch_coded Shift10 =
    record {
      width = refl;
      moves = refl;
      below = refl;
      written = λ v neg before after laid. laid;
      value = shift10_value;
      flag = λ x. never 16 (place_sum shift10_places x) (omega arith) (place_sum_below shift10_places 16 x refl refl);
    }
loongarch_coded Call30 =
    record {
      width = refl;
      moves = refl;
      below = refl;
      written = λ v neg before after laid. laid;
      value = field_value (code_of (LoongArch64 Call30)).0 call30_field refl;
      flag = field_flag (code_of (LoongArch64 Call30)).0 call30_field refl;
    }
loongarch_coded Call36 =
    record {
      width = refl;
      moves = refl;
      below = refl;
      written = λ v neg before after laid. laid;
      value = call36_value;
      flag = λ x. never 36 (place_sum call36_places x) (omega arith) (place_sum_below call36_places 36 x refl refl);
    }
loongarch_coded f =
    record {
      width = refl;
      moves = refl;
      below = refl;
      written = λ v neg before after laid. laid;
      value = layout_value (code_of (LoongArch64 f)).0 (loongarch_layout f) refl;
      flag = layout_flag (code_of (LoongArch64 f)).0 (loongarch_layout f) refl;
    }

pub coded : (f : AnyForm) → is_plain f ≡ true → Coded f
coded (AArch64 f) p = aarch64_coded f p
coded (RiscV f) p = riscv_coded f
coded (Ppc64 f) p = ppc64_coded f
coded (LoongArch64 f) p = loongarch_coded f

coded_parts : (f : AnyForm) → is_plain f ≡ true
    → (writes (bits_of (code_of f).0.window) (code_of f).0.replaced (code_of f).1 ((relocation_form f).places 0) ≡ true)
    × (reads (code_of f).1 ((relocation_form f).places 0) ≡ true)
coded_parts f p =
    and_parts (writes (bits_of (code_of f).0.window) (code_of f).0.replaced (code_of f).1 ((relocation_form f).places 0))
    (reads (code_of f).1 ((relocation_form f).places 0)) (coded f p).moves

pub plain_reads : (f : AnyForm) → is_plain f ≡ true → reads (code_of f).1 ((relocation_form f).places 0) ≡ true
plain_reads f p = (coded_parts f p).1

-- what the engine writes
abbrev pub Writes : Encoding → List Step → ℕ → ℕ → ℕ → Type 0
Writes code steps v x y = y ≡ laid steps v (bit_and x (2 ^ 64 - 1 - code.replaced))

written_at : (code : Encoding) (steps : List Step) (v x y : ℕ) → Writes code steps v x y → (n : ℕ) (ps : List ImmediateBit)
    → writes n code.replaced steps ps ≡ true → x < 2 ^ n → BitsWritten ps v x y
written_at code steps v x y h n ps fits small =
    subst (BitsWritten ps v x) (sym h) (written_by n code.replaced steps ps v x fits small)

-- what it writes of a plain form
pub plain_laid : (f : AnyForm) → is_plain f ≡ true → (code : Encoding) (steps : List Step) (v x y : ℕ) → code ≡ (code_of f).0 → steps ≡ (code_of f).1
    → Writes code steps v x y → x < 2 ^ bits_of code.window
    → BitsWritten ((relocation_form f).places 0) v x y
plain_laid f p code steps v x y e s h small =
    let fits : writes (bits_of code.window) code.replaced steps ((relocation_form f).places 0) ≡ true = rw (e, s) (coded_parts f p).0 in
    written_at code steps v x y h (bits_of code.window) ((relocation_form f).places 0) fits small

pub plain_below : (f : AnyForm) → is_plain f ≡ true → (code : Encoding) (v x y : ℕ) → code ≡ (code_of f).0
    → BitsWritten ((relocation_form f).places 0) v x y → x < 2 ^ bits_of code.window → y < 2 ^ bits_of code.window
plain_below f p code v x y e laid small =
    let below : words_below (bits_of code.window) ((relocation_form f).places 0) ≡ true = rw e (coded f p).below in
    laid_below ((relocation_form f).places 0) (bits_of code.window) v x y below laid small

-- ---- the instructions of AArch64, of which two take their bits of another number, or from a scale
-- up

plain_of : (f : AArch64Instruction) → f ≢ Movnz → f ≢ MachOLow12 → is_plain (AArch64 f) ≡ true
plain_of Movnz a b = absurd (a refl)
plain_of MachOLow12 a b = absurd (b refl)
plain_of f a b = refl

pub one_word : (f : AArch64Instruction) → bits_of (code_of (AArch64 f)).0.window ≡ 32
one_word Adr = refl
one_word f = refl

pub plain_word : (f : AArch64Instruction) (v : ℕ) (neg : Bool) (x y : ℕ) (code : Encoding) (steps : List Step) → f ≢ Movnz → f ≢ MachOLow12
    → code ≡ (code_of (AArch64 f)).0 → steps ≡ (code_of (AArch64 f)).1 → Writes code steps v x y → x < 2 ^ 32
    → (y < 2 ^ 32) × Written (aarch64_form f) v neg x y
plain_word f v neg x y code steps a b e s h small =
    let p = plain_of f a b in
    let word : bits_of code.window ≡ 32 = ap (λ (k : Encoding). bits_of k.window) e ∙ one_word f in
    let below = subst (λ (n : ℕ). x < 2 ^ n) (sym word) small in
    let laid = plain_laid (AArch64 f) p code steps v x y e s h below in
    (subst (λ (n : ℕ). y < 2 ^ n) word (plain_below (AArch64 f) p code v x y e laid below), (coded (AArch64 f) p).written v neg x y laid)

base_small : (neg : Bool) (x : ℕ) → move_opcode neg * 2 ^ 23 + x % 2 ^ 23 < 2 ^ 32
base_small true x = omega arith
base_small false x = omega arith

pub movnz_word : (f : AArch64Instruction) (v : ℕ) (neg : Bool) (x bits opcode y : ℕ) (code : Encoding) (steps : List Step) → f ≡ Movnz
    → code ≡ (code_of (AArch64 f)).0 → steps ≡ (code_of (AArch64 f)).1 → bits ≡ moved_bits neg v → opcode ≡ move_opcode neg * 2 ^ 23
    → Writes code steps bits (bit_or (bit_and x 8388607) opcode) y
    → (y < 2 ^ 32) × Written (aarch64_form f) v neg x y
movnz_word f v neg x bits opcode y code steps is e s b o h =
    let known : writes 32 (code_of (AArch64 Movnz)).0.replaced (code_of (AArch64 Movnz)).1 imm16_places ≡ true = refl in
    let at : writes 32 code.replaced steps imm16_places ≡ true = rw (e, s, is) known in
    let base = ap (bit_or (bit_and x 8388607)) o ∙ opcode_set x (move_opcode neg) in
    let small = subst (λ t. t < 2 ^ 32) (sym base) (base_small neg x) in
    let laid = movnz_written v neg x bits opcode y b o (written_at code steps bits (bit_or (bit_and x 8388607) opcode) y h 32 imm16_places at small) in
    (movnz_below v neg x y laid, subst (λ g. Written (aarch64_form g) v neg x y) (sym is) laid)

-- the step of an offset's bits from its scale up
abbrev pub scaled : ℕ → List Step
scaled s = record { added = 0; up = 10 - s; mask = 0x3ffc00 } ∷ []

scaled_is : (f : AArch64Instruction) (steps ss : List Step) (s : ℕ) (d : Step) → f ≡ MachOLow12 → steps ≡ (code_of (AArch64 f)).1
    → ss ≡ record (get_or steps 0 d) { up = (get_or steps 0 d).up - s } ∷ [] → ss ≡ scaled s
scaled_is f steps ss s d is e h =
    h ∙ ap (λ (ts : List Step). record (get_or ts 0 d) { up = (get_or ts 0 d).up - s } ∷ []) (e ∙ ap (λ g. (code_of (AArch64 g)).1) is)

pub low12_word : (f : AArch64Instruction) (v : ℕ) (neg : Bool) (x s y : ℕ) (code : Encoding) (steps ss : List Step) (d : Step) → f ≡ MachOLow12
    → code ≡ (code_of (AArch64 f)).0 → steps ≡ (code_of (AArch64 f)).1 → s ≡ access_scale x → s < 5
    → ss ≡ record (get_or steps 0 d) { up = (get_or steps 0 d).up - s } ∷ [] → Writes code ss v x y → x < 2 ^ 32
    → (y < 2 ^ 32) × Written (aarch64_form f) v neg x y
low12_word f v neg x s y code steps ss d is e t k small r h wide =
    let known = agree_below_at (λ j. writes 32 (code_of (AArch64 MachOLow12)).0.replaced (scaled j) (low12_places j)) (λ _. true) 5 s refl small in
    let at : writes 32 code.replaced ss (low12_places s) ≡ true = rw (scaled_is f steps ss s d is t r, e, is) known in
    let laid = subst (λ j. BitsWritten (low12_places j) v x y) k (written_at code ss v x y h 32 (low12_places s) at wide) in
    (macho_below v neg x y laid wide, subst (λ g. Written (aarch64_form g) v neg x y) (sym is) laid)

pub low12_number : (f : AArch64Instruction) (bytes : List ℕ) (x s number : ℕ) (steps ss : List Step) (d : Step) → f ≡ MachOLow12
    → steps ≡ (code_of (AArch64 f)).1 → s ≡ access_scale x → s < 5 → ss ≡ record (get_or steps 0 d) { up = (get_or steps 0 d).up - s } ∷ []
    → ((ps : List ImmediateBit) → reads ss ps ≡ true → number ≡ place_sum ps x) → x ≡ from_le_bytes w32 bytes
    → number ≡ cast_unsigned w64 ((aarch64_form f).reading (window_of (aarch64_form f) bytes))
low12_number f bytes x s number steps ss d is t k small r h w =
    let known = agree_below_at (λ j. reads (scaled j) (low12_places j)) (λ _. true) 5 s refl small in
    let at : reads ss (low12_places s) ≡ true = rw (scaled_is f steps ss s d is t r) known in
    let sum = h (low12_places s) at ∙ ap (λ j. place_sum (low12_places j) x) k in
    subst (λ g. number ≡ cast_unsigned w64 ((aarch64_form g).reading (window_of (aarch64_form g) bytes))) (sym is)
    (sum ∙ ap (λ y. place_sum (low12_places (access_scale y)) y) w)

-- ---- bits that a form only ORs, cleared

pub aarch64_cleared : (f : AArch64Instruction) (x : ℕ) → x < 2 ^ 32
    → BitsWritten (ored_cleared ((aarch64_form f).places x)) 0 x (bit_and x (2 ^ 64 - 1 - (code_of (AArch64 f)).0.ored))
aarch64_cleared MachOLow12 x small =
    let s = access_scale x in
    subst (λ ps. BitsWritten ps 0 x (bit_and x (2 ^ 64 - 1 - 0))) (sym (none_ored (s + 11 + 1 - s) s 10 0)) (written_by 32 0 [] [] 0 x refl small)
aarch64_cleared f x small =
    written_by 32 (code_of (AArch64 f)).0.ored [] (ored_cleared ((aarch64_form f).places x)) 0 x refl small

pub shift10_cleared : (x : ℕ) → x < 2 ^ 32 → BitsWritten (consecutive_bits 4 12 22 0 cleared) 0 x (bit_and x (2 ^ 64 - 1 - 0x3c00000))
shift10_cleared x small =
    written_by 32 0x3c00000 [] (consecutive_bits 4 12 22 0 cleared) 0 x refl small
