-- PowerPC64: prefixed instructions.
use Rattle.linker_laws.proofs.Imports.{AreAddresses, BitRange, ImmediateBit, InstructionWritten, List, Operands, Ppc64, Prefixed, Some, [], and_parts, ap, arith, bits_to, cond-false, cond-true, drop, eq-eqb, eqb-true, field, is_pld, li_of, loaded, moved, opcode_of, ppc64_form, prefixed_of, ra_of, refl, rt_of, sum_64, symbol_address, true, two_words as both_words, word_of, ℕ, ℤ, ◌&&◌, ◌*◌, ◌++◌, ◌+◌, ◌/◌, ◌<◌, ◌==◌, ◌^◌, ◌∙◌, ◌≡◌}
use Rattle.linker_utils.specs.declared.ppc64.rewrites.RewriteKind.TheVariants as kinds
use Rattle.linker_elf.specs.declared.ppc64.relocations.Ppc64Relocation.TheVariants as names
use Rattle.linker_laws.specs.Ppc64RelocationLaws as relocation_laws
use Rattle.linker_laws.specs.Ppc64Groups as groups
use Rattle.linker_laws.specs.Ppc64Machine.{State, Formats, base, step_prefixed, write, go_to}
use Rattle.linker_laws.proofs.AArch64Words.{field_kept}
use Rattle.linker_laws.proofs.Words.{back_word, two_words}
use Rattle.linker_laws.proofs.Ppc64Calls.{first_made, second_made}
use Rattle.linker_laws.proofs.RiscVMachine.{times_one, address_is}

-- the parts of a prefixed instruction
pub record HasPrefixedParts (prefix opcode rt ra : ℕ) (both : ℕ) : Type 0 where
  pub prefix_is : field both 18 32 ≡ prefix
  pub opcode_is : opcode_of (both / 2 ^ 32) ≡ opcode
  pub rt_is : rt_of (both / 2 ^ 32) ≡ rt
  pub ra_is : ra_of (both / 2 ^ 32) ≡ ra

abbrev places : List ImmediateBit
places = bits_to 0 15 32 ++ bits_to 16 33 0

same_parts : (x y p op rt ra : ℕ) → field y 18 32 ≡ field x 18 32 → field y 48 64 ≡ field x 48 64
    → HasPrefixedParts p op rt ra x → HasPrefixedParts p op rt ra y
same_parts x y p op rt ra low high h =
    let a = h.opcode_is in
    let b = h.rt_is in
    let c = h.ra_is in
    record { prefix_is = low ∙ h.prefix_is; opcode_is = omega arith; rt_is = omega arith; ra_is = omega arith }

pub prefixed_after : (bits : BitRange) (v : ℤ) (before after : List ℕ) (p op rt ra : ℕ)
    → InstructionWritten (Ppc64 Prefixed) bits v before after
    → HasPrefixedParts p op rt ra (prefixed_of before) → HasPrefixedParts p op rt ra (prefixed_of after)
prefixed_after bits v before after p op rt ra w h =
    same_parts (prefixed_of before) (prefixed_of after) p op rt ra
    (field_kept [] places _ _ _ _ _ w.clears w.written 18 32 refl refl)
    (field_kept [] places _ _ _ _ _ w.clears w.written 48 64 refl refl) h

pub of_words : (w1 w2 both p op rt ra : ℕ) → both ≡ w1 + w2 * 2 ^ 32 → w1 < 2 ^ 32 → w2 < 2 ^ 32
    → field w1 18 32 ≡ p → opcode_of w2 ≡ op → rt_of w2 ≡ rt → ra_of w2 ≡ ra
    → HasPrefixedParts p op rt ra both
of_words w1 w2 both p op rt ra is small below a b c d =
    let whole : both / 2 ^ 32 ≡ w2 = omega arith in
    record {
      prefix_is = (let e : field both 18 32 ≡ field w1 18 32 = omega arith in e) ∙ a;
      opcode_is = ap opcode_of whole ∙ b;
      rt_is = ap rt_of whole ∙ c;
      ra_is = ap ra_of whole ∙ d;
    }

-- the state after an instruction of 8 bytes that writes a register
abbrev pub set_8 : ℕ → ℕ → State → State
set_8 r v s = write r v (go_to (sum_64 s.pc 8) s)

tests : (both p op rt : ℕ) → HasPrefixedParts p op rt 0 both
    → (field both 18 32 == p && (opcode_of (both / 2 ^ 32) == op && ra_of (both / 2 ^ 32) == 0)) ≡ true
tests both p op rt h =
    ap (λ b. b && (opcode_of (both / 2 ^ 32) == op && ra_of (both / 2 ^ 32) == 0)) (eq-eqb _ _ h.prefix_is)
    ∙ ap (λ b. b && ra_of (both / 2 ^ 32) == 0) (eq-eqb _ _ h.opcode_is) ∙ eq-eqb _ _ h.ra_is

pub step_pld : (f : Formats) (both rt : ℕ) (s : State) → HasPrefixedParts 0x104 57 rt 0 both
    → step_prefixed f both s
    ≡ Some (set_8 rt (loaded 8 s.memory (moved s.pc ((ppc64_form Prefixed).machine both))) s)
step_pld f both rt s h =
    cond-true _ _ _ (tests both 0x104 57 rt h)
    ∙ ap (λ r. Some (set_8 r (loaded 8 s.memory (moved s.pc ((ppc64_form Prefixed).machine both))) s)) h.rt_is

pub step_paddi : (f : Formats) (both rt : ℕ) (s : State) → HasPrefixedParts 0x184 14 rt 0 both
    → step_prefixed f both s ≡ Some (set_8 rt (moved s.pc ((ppc64_form Prefixed).machine both)) s)
step_paddi f both rt s h =
    cond-false _ _ _ (ap (λ k. k == 0x104
    && (opcode_of (both / 2 ^ 32) == 57 && ra_of (both / 2 ^ 32) == 0)) h.prefix_is)
    ∙ cond-true _ _ _ (tests both 0x184 14 rt h)
    ∙ ap (λ r. Some (set_8 r (moved s.pc ((ppc64_form Prefixed).machine both)) s)) h.rt_is

pub step_paddi_over : (f : Formats) (both rt ra : ℕ) (s : State) → HasPrefixedParts 0x180 14 rt ra both
    → step_prefixed f both s ≡ Some (set_8 rt (moved (base ra s) ((ppc64_form Prefixed).machine both)) s)
step_paddi_over f both rt ra s h =
    let m = (ppc64_form Prefixed).machine both in
    cond-false _ _ _ (ap (λ k. k == 0x104
    && (opcode_of (both / 2 ^ 32) == 57 && ra_of (both / 2 ^ 32) == 0)) h.prefix_is)
    ∙ cond-false _ _ _ (ap (λ k. k == 0x184
    && (opcode_of (both / 2 ^ 32) == 14 && ra_of (both / 2 ^ 32) == 0)) h.prefix_is)
    ∙ cond-true _ _ _ (ap (λ k. k == 0x180 && opcode_of (both / 2 ^ 32) == 14) h.prefix_is ∙ eq-eqb _ _ h.opcode_is)
    ∙ ap (λ r. Some (set_8 r (moved (base (ra_of (both / 2 ^ 32)) s) m) s)) h.rt_is
    ∙ ap (λ a. Some (set_8 rt (moved (base a s) m) s)) h.ra_is

pub pld_parts : (pld : List ℕ) → word_of pld < 2 ^ 32 → word_of (drop 4 pld) < 2 ^ 32
    → is_pld (word_of pld) (word_of (drop 4 pld)) ≡ true
    → HasPrefixedParts 0x104 57 (groups.prefixed_target pld) 0 (prefixed_of pld)
pld_parts pld low high is =
    let w = word_of (drop 4 pld) in
    let first = and_parts (field (word_of pld) 18 32 == 0x104 && opcode_of w == 57) (ra_of w == 0) is in
    let second = and_parts (field (word_of pld) 18 32 == 0x104) (opcode_of w == 57) first.0 in
    of_words (word_of pld) w (prefixed_of pld) 0x104 57 (rt_of w) 0 (two_words pld) low high
    (eqb-true _ _ second.0) (eqb-true _ _ second.1) refl (eqb-true _ _ first.1)

-- `pld rT` of the GOT entry
pub pld_sets : relocation_laws.Prefixes → (f : Formats) (o : Operands) (s : State) (pld pld_of : List ℕ) (number : ℕ)
    → AreAddresses o → s.pc ≡ o.place → groups.IsPrefixed is_pld pld → groups.IsRelocated names.R_PPC64_GOT_PCREL34 o pld pld_of
    → loaded 8 s.memory o.got_entry ≡ number
    → step_prefixed f (prefixed_of pld_of) s ≡ Some (set_8 (groups.prefixed_target pld) number s)
pld_sets prefixes f o s pld pld_of number small at p a holds =
    let rt = groups.prefixed_target pld in
    let x = prefixed_of pld_of in
    let m = (ppc64_form Prefixed).machine x in
    step_pld f x rt s
    (prefixed_after _ _ pld pld_of 0x104 57 rt 0 a.written (pld_parts pld p.prefix_below p.word_below p.is))
    ∙ ap (λ v. Some (set_8 rt v s))
    (ap (loaded 8 s.memory)
    (ap (λ t. moved t m) at ∙ times_one o.place m ∙ address_is _ _ (prefixes.1 o small o.place pld pld_of a tt))
    ∙ holds)

pub paddi_parts : (pld paddi : List ℕ) → groups.IsRewritten kinds.PldToPaddi pld paddi
    → HasPrefixedParts 0x184 14 (groups.prefixed_target pld) 0 (prefixed_of paddi)
paddi_parts pld paddi made =
    let rt = groups.prefixed_target pld in
    let turned : li_of rt < 2 ^ 32 = omega arith in
    let made_words = made ∙ ap (λ w. both_words 0x06100000 (li_of (rt_of w))) (back_word pld) in
    let p1 = first_made paddi 0x06100000 (li_of rt) (omega arith) turned made_words in
    let p2 = second_made paddi 0x06100000 (li_of rt) (omega arith) turned made_words in
    of_words 0x06100000 (li_of rt) (prefixed_of paddi) 0x184 14 rt 0
    (two_words paddi ∙ ap (λ w. w + word_of (drop 4 paddi) * 2 ^ 32) p1 ∙ ap (λ w. 0x06100000 + w * 2 ^ 32) p2)
    (omega arith) turned refl (omega arith) (omega arith) (omega arith)

-- `paddi rT` of the address
pub paddi_sets : relocation_laws.Prefixes → (f : Formats) (o : Operands) (s : State) (pld paddi paddi_of : List ℕ)
    → AreAddresses o → s.pc ≡ o.place → groups.IsRewritten kinds.PldToPaddi pld paddi
    → groups.IsRelocated names.R_PPC64_PCREL34 o paddi paddi_of
    → step_prefixed f (prefixed_of paddi_of) s ≡ Some (set_8 (groups.prefixed_target pld) (symbol_address o) s)
paddi_sets prefixes f o s pld paddi paddi_of small at made a =
    let rt = groups.prefixed_target pld in
    let m = (ppc64_form Prefixed).machine (prefixed_of paddi_of) in
    step_paddi f (prefixed_of paddi_of) rt s
    (prefixed_after _ _ paddi paddi_of 0x184 14 rt 0 a.written (paddi_parts pld paddi made))
    ∙ ap (λ v. Some (set_8 rt v s))
    (ap (λ t. moved t m) at ∙ times_one o.place m ∙ address_is _ _ (prefixes.0 o small o.place paddi paddi_of a tt))
