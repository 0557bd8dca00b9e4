-- PowerPC64: the TOC pointer at the entry of a function.
use Rattle.linker_laws.proofs.Imports.{AreAddresses, D, IsAddress, IsRelocated, IsRewritten, List, Operands, Some, ap, arith, eqb-true, field, four_on, is_addi_of_toc, is_addis_of_entry, moved, pos, ppc64_form, refl, symbol_address, true, word_of, ℕ, ◌*ℤ◌, ◌+ℤ◌, ◌^◌, ◌∙◌, ◌≡◌}
use Rattle.linker_elf.specs.declared.ppc64.relocations.Ppc64Relocation.TheVariants as names
use Rattle.linker_laws.specs.Ppc64RelocationLaws as relocation_laws
use Rattle.linker_laws.specs.Ppc64Machine.{State, Formats, base, step}
use Rattle.linker_laws.proofs.AArch64Pairs.{word_made}
use Rattle.linker_laws.proofs.Ppc64Addresses.{same_parts}
use Rattle.linker_laws.proofs.Ppc64Words.{HasParts, d_after, sum_leads, set, base_back, step_addis, step_addi}
use Rattle.linker_utils.specs.declared.ppc64.rewrites.RewriteKind.TheVariants as kinds

-- the parts of `addis 2,b` and of `addi 2,2`
entry_parts : (x : ℕ) → field x 16 32 ≡ 0x3c4c → HasParts 15 2 12 x
entry_parts x h = record { opcode_is = omega arith; rt_is = omega arith; ra_is = omega arith }

addi_parts : (x : ℕ) → field x 16 32 ≡ 0x3842 → HasParts 14 2 2 x
addi_parts x h = record { opcode_is = omega arith; rt_is = omega arith; ra_is = omega arith }

lis_parts : (x : ℕ) → x ≡ 0x3c400000 → HasParts 15 2 0 x
lis_parts x h = record { opcode_is = omega arith; rt_is = omega arith; ra_is = omega arith }

made_parts : (x : ℕ) → x ≡ 0x38420000 → HasParts 14 2 2 x
made_parts x h = record { opcode_is = omega arith; rt_is = omega arith; ra_is = omega arith }

-- What a pair leaves in register 2.
pub record LeavesToc (f : Formats) (w1 w2 target : ℕ) (s : State) : Type 0 where
  pub high : ℕ
  pub first : step f w1 s ≡ Some (set 2 high s)
  pub second : step f w2 (set 2 high s) ≡ Some (set 2 target (set 2 high s))

pair_leaves : (f : Formats) (b begin target w1 w2 : ℕ) (s : State) → HasParts 15 2 b w1
    → HasParts 14 2 2 w2 → base b s ≡ begin
    → IsAddress ((pos begin +ℤ ((ppc64_form D).machine w1 *ℤ pos (2 ^ 16))) +ℤ (ppc64_form D).machine w2)
    target → LeavesToc f w1 w2 target s
pair_leaves f b begin target w1 w2 s first second at leads =
    let a = (ppc64_form D).machine w1 *ℤ pos (2 ^ 16) in
    let c = (ppc64_form D).machine w2 in
    let h = moved (base b s) a in
    record {
      high = h;
      first = step_addis f w1 2 b s first;
      second = step_addi f w2 2 2 (set 2 h s) second
          ∙ ap (λ n. Some (set 2 n (set 2 h s)))
          (ap (λ n. moved n c) (base_back 2 h s (λ e. omega arith))
          ∙ ap (λ t. moved (moved t a) c) at
          ∙ sum_leads begin target a c leads);
    }

-- `addis 2,12` and `addi 2,2` of the distance
pub distance_leaves : relocation_laws.RelativeAddresses → (f : Formats) (o : Operands) (s : State)
    (addis addi addis_of addi_of : List ℕ) → AreAddresses o → s.registers 12 ≡ o.place
    → is_addis_of_entry (word_of addis) ≡ true → is_addi_of_toc (word_of addi) ≡ true
    → IsRelocated names.R_PPC64_REL16_HA o addis addis_of → IsRelocated names.R_PPC64_REL16_LO (four_on o) addi addi_of
    → LeavesToc f (word_of addis_of) (word_of addi_of) (symbol_address o) s
distance_leaves relative f o s addis addi addis1 addi1 small at is_addis is_addi a d =
    let e1 = entry_parts (word_of addis) (eqb-true _ _ is_addis) in
    let e2 = addi_parts (word_of addi) (eqb-true _ _ is_addi) in
    pair_leaves f 12 o.place (symbol_address o) (word_of addis1) (word_of addi1) s
    (same_parts e1.opcode_is e1.rt_is e1.ra_is (d_after _ _ addis addis1 a.written))
    (same_parts e2.opcode_is e2.rt_is e2.ra_is (d_after _ _ addi addi1 d.written)) at
    (relative.0 o small o.place addis addis1 a tt o.place addi addi1 d tt)

-- `lis 2` and `addi 2,2` of the address
pub address_leaves : relocation_laws.AbsoluteAddresses → (f : Formats) (o : Operands) (s : State)
    (addis addi lis following lis_of following_of : List ℕ) → AreAddresses o
    → IsRewritten kinds.AddisToLis addis lis → IsRewritten kinds.AddiAfterLis addi following
    → IsRelocated names.R_PPC64_ADDR16_HA o lis lis_of → IsRelocated names.R_PPC64_ADDR16_LO o following following_of
    → LeavesToc f (word_of lis_of) (word_of following_of) (symbol_address o) s
address_leaves absolute f o s addis addi lis following lis2 addi2 small made_lis made_addi a d =
    let word : word_of lis ≡ 0x3c400000 = word_made (λ w. 0x3c400000) addis lis (omega arith) made_lis in
    let second : word_of following ≡ 0x38420000 = word_made (λ w. 0x38420000) addi following (omega arith) made_addi in
    let l1 = lis_parts (word_of lis) word in
    let l2 = made_parts (word_of following) second in
    pair_leaves f 0 0 (symbol_address o) (word_of lis2) (word_of addi2) s
    (same_parts l1.opcode_is l1.rt_is l1.ra_is (d_after _ _ lis lis2 a.written))
    (same_parts l2.opcode_is l2.rt_is l2.ra_is (d_after _ _ following addi2 d.written)) refl
    (absolute.0 o small o.place lis lis2 a tt o.place following addi2 d tt)
