-- Which rewrite of AArch64 is chosen: operands after a rewrite, and what follows from a choice.
use Rattle.linker_utils.proofs.Imports.{AArch64Applies, AArch64Choice, AArch64Relocation, AddToAdr, AdrpAddToNopAdr, AdrpToAdr, AdrpX0, CanRewrite, HasWord, IsAArch64Choice, IsAdrp, IsEntryLoad, IsLdr64, IsOfDescriptor, LdrToAdd, LdrToAdr, LdrX0, LinkFacts, List, MovkX0, MovkXn, MovzX0Lsl16, MovzXnLsl16, NoOp, ReplaceWithNop, aarch64_entries, aarch64_matches, aarch64_rewrite, addend_after, ap, arith, choice, difference_64, holds_of_first, offset_after, operands_after, rd_of, refl, rn_of, rules, subst, sum_64, ℕ, ℤ, ⊤, ◌%◌, ◌+◌, ◌-◌, ◌<◌, ◌^◌, ◌∙◌, ◌≡◌, ◌≤◌}
use Rattle.linker_elf.specs.declared.elf.value.Operands.{Operands}
use Rattle.linker_utils.specs.declared.aarch64.rewrites.RewriteKind.{RewriteKind}

-- ---- what a name requires is what its rewrites are meant for

pub load_matches_add : (s : List ℕ) (o : ℕ) → IsEntryLoad s o → aarch64_matches LdrToAdd s o
load_matches_add s o h = (h.1.1.0, (h.1.1.1.0, h.1.1.1.1.into_own_source.not_31))

-- ---- no rewrite moves the place or changes the addend

same_offset : (kind : RewriteKind) (o : ℕ) → offset_after (aarch64_rewrite kind) o ≡ o
same_offset NoOp o = refl
same_offset ReplaceWithNop o = refl
same_offset MovzX0Lsl16 o = refl
same_offset MovkX0 o = refl
same_offset MovzXnLsl16 o = refl
same_offset MovkXn o = refl
same_offset AdrpToAdr o = refl
same_offset AdrpX0 o = refl
same_offset LdrX0 o = refl
same_offset AddToAdr o = refl
same_offset LdrToAdr o = refl
same_offset LdrToAdd o = refl
same_offset AdrpAddToNopAdr o = refl

same_addend : (kind : RewriteKind) (a : ℤ) → addend_after (aarch64_rewrite kind) a ≡ a
same_addend NoOp a = refl
same_addend ReplaceWithNop a = refl
same_addend MovzX0Lsl16 a = refl
same_addend MovkX0 a = refl
same_addend MovzXnLsl16 a = refl
same_addend MovkXn a = refl
same_addend AdrpToAdr a = refl
same_addend AdrpX0 a = refl
same_addend LdrX0 a = refl
same_addend AddToAdr a = refl
same_addend LdrToAdr a = refl
same_addend LdrToAdd a = refl
same_addend AdrpAddToNopAdr a = refl

same_place : (p o q : ℕ) → p < 2 ^ 64 → o < 2 ^ 64 → q ≡ o
    → ((p + q) % 2 ^ 64 + (2 ^ 64 - o)) % 2 ^ 64 ≡ p
same_place p o q p_fits fits e = omega arith

pub same_operands : (kind : RewriteKind) (o : ℕ) (operands : Operands) → operands.place < 2 ^ 64
    → o < 2 ^ 64 → operands_after (aarch64_rewrite kind) o operands ≡ operands
same_operands kind o operands place_fits fits =
    ap (λ a. record operands {
      addend = a;
      place = difference_64 (sum_64 operands.place (offset_after (aarch64_rewrite kind) o)) o;
    }) (same_addend kind operands.addend)
    ∙ ap (λ p. record operands { place = p })
    (same_place operands.place o (offset_after (aarch64_rewrite kind) o) place_fits fits (same_offset kind o))

-- ---- the four relocations of a descriptor

pub adrp_matches : (s : List ℕ) (o : ℕ) → IsOfDescriptor 0 s o → HasWord s o (λ word. IsAdrp word × (rd_of word ≡ 0))
adrp_matches s o h =
    let e : o - 0 ≡ o = omega arith in
    let within = h.1.within in
    subst (λ k. HasWord s k (λ word. IsAdrp word × (rd_of word ≡ 0))) e
    (omega arith, (h.1.instructions.adrp_opcode, h.1.instructions.adrp_into_x0))

pub ldr_matches : (s : List ℕ) (o : ℕ) → IsOfDescriptor 4 s o → HasWord s o (λ word. IsLdr64 word × (rn_of word ≡ 0))
ldr_matches s o h =
    let reaches = h.0 in
    let within = h.1.within in
    let e : o - 4 + 4 ≡ o = omega arith in
    subst (λ k. HasWord s k (λ word. IsLdr64 word × (rn_of word ≡ 0))) e
    (omega arith, (h.1.instructions.ldr_opcode, h.1.instructions.ldr_from_x0))

pub nop_matches : (back : ℕ) (s : List ℕ) (o : ℕ) → back ≤ 12 → IsOfDescriptor back s o → HasWord s o (λ _. ⊤)
nop_matches back s o small h =
    let reaches = h.0 in
    let within = h.1.within in
    (omega arith, tt)

-- ---- what is chosen

pub chosen_matches : (name : AArch64Relocation) (section : List ℕ) (o : ℕ) (facts : LinkFacts) (c : AArch64Choice)
    → IsAArch64Choice name section o facts c → aarch64_matches c.kind section o
chosen_matches name section o facts c =
    holds_of_first (AArch64Applies name section o facts) (λ x. aarch64_matches x.kind section o) (aarch64_entries name) (choice NoOp name) c
    (λ e a. a.0.0) tt

can_rewrite : (kind : RewriteKind) (section : List ℕ) (o : ℕ) → aarch64_matches kind section o
    → CanRewrite (aarch64_rewrite kind) section o
can_rewrite NoOp section o matches = tt
can_rewrite kind section o matches = search rules

pub chosen_rewritable : (name : AArch64Relocation) (section : List ℕ) (o : ℕ) (facts : LinkFacts) (c : AArch64Choice)
    → IsAArch64Choice name section o facts c → CanRewrite (aarch64_rewrite c.kind) section o
chosen_rewritable name section o facts c is = can_rewrite c.kind section o (chosen_matches name section o facts c is)
