-- The relocations of a pair or of a sequence are chosen alike: each by one condition, and by
-- another one if that doesn't hold, of the place of the first.
use Rattle.linker_utils.proofs.Imports.{AArch64Applies, AArch64Choice, AArch64Entry, AArch64Relocation, AdrpX0, AllHold, DescriptorIsChosenAlike, GotPairIsChosenAlike, InitialExecIsChosenAlike, IsDescriptorSequence, IsEntryLoad, IsFirst, IsOfDescriptor, LdrToAdd, LdrX0, LinkFacts, List, MovkX0, MovkXn, MovzX0Lsl16, MovzXnLsl16, NoOp, RowReaches, [], aarch64_matches, aarch64_row, arith, choice, descriptor_entries, entry, erased, facts_on, halves_to_local_exec, inl, inr, same_reach, subst, sym, to_address, to_initial_exec, to_local_exec, ℕ, ◌+◌, ◌-◌, ◌↔◌, ◌∷◌, ◌≡◌, ◌≤◌, ◌⊎◌}
use Rattle.linker_utils.specs.AArch64Rewrites.{HasPattern}
use Rattle.linker_elf.specs.declared.aarch64.relocations.AArch64Relocation.TheVariants as r
use Rattle.linker_utils.proofs.AArch64Choices.{load_matches_add, adrp_matches, ldr_matches, nop_matches}

-- a choice by a condition
pub data Two (P : Type 0) (a otherwise chosen : AArch64Choice) : Type 0 where
  holds : P → chosen ≡ a → Two P a otherwise chosen
  fails : ¬ P → chosen ≡ otherwise → Two P a otherwise chosen

-- by two
pub data Three (P Q : Type 0) (a b otherwise chosen : AArch64Choice) : Type 0 where
  first : P → chosen ≡ a → Three P Q a b otherwise chosen
  second : ¬ P → Q → chosen ≡ b → Three P Q a b otherwise chosen
  neither : ¬ P → ¬ Q → chosen ≡ otherwise → Three P Q a b otherwise chosen

two_of_first : (A : AArch64Entry → Type 0) (e : AArch64Entry) (P : Type 0) (otherwise chosen : AArch64Choice)
    → (A e ↔ P) → IsFirst A (e ∷ []) otherwise chosen → Two P (choice e.kind e.relocation) otherwise chosen
two_of_first A e P otherwise chosen f (inl h) = holds (f.0 h.0) h.1
two_of_first A e P otherwise chosen f (inr h) = fails (λ p. h.0 (f.1 p)) h.1

three_of_first : (A : AArch64Entry → Type 0) (d e : AArch64Entry) (P Q : Type 0) (otherwise chosen : AArch64Choice)
    → (A d ↔ P) → (A e ↔ Q) → IsFirst A (d ∷ e ∷ []) otherwise chosen
    → Three P Q (choice d.kind d.relocation) (choice e.kind e.relocation) otherwise chosen
three_of_first A d e P Q otherwise chosen f g (inl h) = first (f.0 h.0) h.1
three_of_first A d e P Q otherwise chosen f g (inr (n, inl h)) = second (λ p. n (f.1 p)) (g.0 h.0) h.1
three_of_first A d e P Q otherwise chosen f g (inr (n, inr h)) = neither (λ p. n (f.1 p)) (λ q. h.0 (g.1 q)) h.1

-- ---- of the same conditions

in_first : {P Q : Type 0} {a b c x : AArch64Choice} → P → Three P Q a b c x → x ≡ a
in_first p (first _ e) = e
in_first p (second n _ e) = absurd (n p)
in_first p (neither n _ e) = absurd (n p)

in_second : {P Q : Type 0} {a b c x : AArch64Choice} → ¬ P → Q → Three P Q a b c x → x ≡ b
in_second n q (first p e) = absurd (n p)
in_second n q (second _ _ e) = e
in_second n q (neither _ m e) = absurd (m q)

in_neither : {P Q : Type 0} {a b c x : AArch64Choice} → ¬ P → ¬ Q → Three P Q a b c x → x ≡ c
in_neither n m (first p e) = absurd (n p)
in_neither n m (second _ q e) = absurd (m q)
in_neither n m (neither _ _ e) = e

pub two_alike : {P : Type 0} {a b c d x y : AArch64Choice} → Two P a c x → Two P b d y
    → ((x ≡ a) × (y ≡ b)) ⊎ ((x ≡ c) × (y ≡ d))
two_alike (holds p e) (holds _ f) = inl (e, f)
two_alike (holds p e) (fails n f) = absurd (n p)
two_alike (fails n e) (holds p f) = absurd (n p)
two_alike (fails n e) (fails _ f) = inr (e, f)

pub three_alike : {P Q : Type 0} {a b c x a' b' c' x' a'' b'' c'' x'' a''' b''' c''' x''' : AArch64Choice}
    → Three P Q a b c x → Three P Q a' b' c' x' → Three P Q a'' b'' c'' x'' → Three P Q a''' b''' c''' x'''
    → ((x ≡ a) × (x' ≡ a') × (x'' ≡ a'') × (x''' ≡ a'''))
    ⊎ (((x ≡ b) × (x' ≡ b') × (x'' ≡ b'') × (x''' ≡ b'''))
    ⊎ ((x ≡ c) × (x' ≡ c') × (x'' ≡ c'') × (x''' ≡ c''')))
three_alike (first p e) f g h = inl (e, in_first p f, in_first p g, in_first p h)
three_alike (second n q e) f g h = inr (inl (e, in_second n q f, in_second n q g, in_second n q h))
three_alike (neither n m e) f g h = inr (inr (e, in_neither n m f, in_neither n m g, in_neither n m h))

-- ---- the place of the first

address_on : (n : ℕ) (facts : LinkFacts) → n ≤ 12
    → AllHold aarch64_row (facts_on n facts).operands (facts_on n facts) (to_address n)
    ↔ AllHold aarch64_row facts.operands facts (to_address 0)
address_on n facts small =
    let reaches = RowReaches (aarch64_row r.R_AARCH64_ADR_PREL_PG_HI21) in
    let e = same_reach n facts small in (
      λ h. (h.0, (h.1.0, (λ known. subst reaches e (h.1.1.0 known), h.1.1.1))),
      λ h. (h.0, (h.1.0, (λ known. subst reaches (sym e) (h.1.1.0 known), h.1.1.1))),
    )

initial_exec_on : (n : ℕ) (facts : LinkFacts) → n ≤ 12
    → AllHold aarch64_row (facts_on n facts).operands (facts_on n facts) (to_initial_exec n)
    ↔ AllHold aarch64_row facts.operands facts (to_initial_exec 0)
initial_exec_on n facts small =
    let reaches = RowReaches (aarch64_row r.R_AARCH64_TLSIE_ADR_GOTTPREL_PAGE21) in
    let e = same_reach n facts small in (
      λ h. (h.0, (λ known. subst reaches e (h.1.0 known), h.1.1)),
      λ h. (h.0, (λ known. subst reaches (sym e) (h.1.0 known), h.1.1)),
    )

-- an offset from the thread pointer doesn't depend on the place
local_exec_on : (n : ℕ) (facts : LinkFacts)
    → AllHold aarch64_row (facts_on n facts).operands (facts_on n facts) to_local_exec
    ↔ AllHold aarch64_row facts.operands facts to_local_exec
local_exec_on n facts = (λ h. h, λ h. h)

sequence_on : (n : ℕ) (s : List ℕ) (o : ℕ) → IsOfDescriptor n s (o + n) ↔ IsDescriptorSequence s o
sequence_on n s o =
    let e : o + n - n ≡ o = omega arith in
    (λ h. subst (IsDescriptorSequence s) e h.1, λ h. (omega arith, subst (IsDescriptorSequence s) (sym e) h))

-- ---- pairs

pub got_pair : GotPairIsChosenAlike
got_pair s o facts a b h k =
    let P : Type 0 = IsEntryLoad s (o + 4) × AllHold aarch64_row facts.operands facts (to_address 0) in
    let on = address_on 4 facts (omega arith) in
    two_alike
    (two_of_first (AArch64Applies r.R_AARCH64_ADR_GOT_PAGE s o facts)
    (entry NoOp r.R_AARCH64_ADR_PREL_PG_HI21 (to_address 0)) P _ a
    (λ x. (x.0.1, x.1), λ p. ((tt, p.0), p.1)) h)
    (two_of_first (AArch64Applies r.R_AARCH64_LD64_GOT_LO12_NC s (o + 4) (facts_on 4 facts))
    (entry LdrToAdd r.R_AARCH64_ADD_ABS_LO12_NC (to_address 4)) P _ b
    (λ x. (x.0.1, on.0 x.1), λ p. ((load_matches_add s (o + 4) p.0, p.0), on.1 p.1)) k)

pub initial_exec_halves : InitialExecIsChosenAlike
initial_exec_halves s t o p n facts a b high low h k =
    let P : Type 0 = AllHold aarch64_row facts.operands facts halves_to_local_exec in
    two_alike
    (two_of_first (AArch64Applies r.R_AARCH64_TLSIE_ADR_GOTTPREL_PAGE21 s o facts)
    (entry MovzXnLsl16 r.R_AARCH64_TLSLE_MOVW_TPREL_G1 halves_to_local_exec) P _ a
    (λ x. x.1, λ x. ((high, tt), x)) h)
    (two_of_first (AArch64Applies r.R_AARCH64_TLSIE_LD64_GOTTPREL_LO12_NC t p (facts_on n facts))
    (entry MovkXn r.R_AARCH64_TLSLE_MOVW_TPREL_G0_NC halves_to_local_exec) P _ b
    (λ x. x.1, λ x. ((low, tt), x)) k)

-- ---- the four of a descriptor

-- one of them, n bytes after the first, at an offset and with facts that are those n bytes on
one_of_four : (name : AArch64Relocation) (n : ℕ) (s : List ℕ) (o at : ℕ) (facts here : LinkFacts)
    (local initial chosen : AArch64Choice)
    → (HasPattern name s at ↔ IsDescriptorSequence s o)
    → (IsDescriptorSequence s o → aarch64_matches local.kind s at)
    → (IsDescriptorSequence s o → aarch64_matches initial.kind s at)
    → (AllHold aarch64_row here.operands here to_local_exec ↔ AllHold aarch64_row facts.operands facts to_local_exec)
    → (AllHold aarch64_row here.operands here (to_initial_exec n) ↔ AllHold aarch64_row facts.operands facts (to_initial_exec 0))
    → IsFirst (AArch64Applies name s at here) (descriptor_entries n local initial) (choice NoOp name) chosen
    → Three (IsDescriptorSequence s o × AllHold aarch64_row facts.operands facts to_local_exec)
    (IsDescriptorSequence s o × AllHold aarch64_row facts.operands facts (to_initial_exec 0))
    local initial (choice NoOp name) chosen
one_of_four name n s o at facts here local initial chosen pattern m m' le ie h =
    let P : Type 0 = IsDescriptorSequence s o × AllHold aarch64_row facts.operands facts to_local_exec in
    let Q : Type 0 = IsDescriptorSequence s o × AllHold aarch64_row facts.operands facts (to_initial_exec 0) in
    let d = entry local.kind local.relocation to_local_exec in
    let e = entry initial.kind initial.relocation (to_initial_exec n) in
    three_of_first (AArch64Applies name s at here) d e P Q (choice NoOp name) chosen
    (λ x. (pattern.0 x.0.1, le.0 x.1), λ p. ((m p.0, pattern.1 p.0), le.1 p.1))
    (λ x. (pattern.0 x.0.1, ie.0 x.1), λ p. ((m' p.0, pattern.1 p.0), ie.1 p.1))
    h

pub descriptor : DescriptorIsChosenAlike
descriptor s o facts a b c d h i j k =
    let e : o - 0 ≡ o = omega arith in
    let first : IsOfDescriptor 0 s o ↔ IsDescriptorSequence s o =
    (λ x. subst (IsDescriptorSequence s) e x.1, λ x. (omega arith, subst (IsDescriptorSequence s) (sym e) x)) in
    let second = sequence_on 4 s o in
    let third = sequence_on 8 s o in
    let fourth = sequence_on 12 s o in
    three_alike
    (one_of_four r.R_AARCH64_TLSDESC_ADR_PAGE21 0 s o o facts facts
    (choice MovzX0Lsl16 r.R_AARCH64_TLSLE_MOVW_TPREL_G1) (choice AdrpX0 r.R_AARCH64_TLSIE_ADR_GOTTPREL_PAGE21) a
    first (λ x. adrp_matches s o (first.1 x)) (λ x. adrp_matches s o (first.1 x)) (λ x. x, λ x. x) (λ x. x, λ x. x) h)
    (one_of_four r.R_AARCH64_TLSDESC_LD64_LO12 4 s o (o + 4) facts (facts_on 4 facts)
    (choice MovkX0 r.R_AARCH64_TLSLE_MOVW_TPREL_G0_NC) (choice LdrX0 r.R_AARCH64_TLSIE_LD64_GOTTPREL_LO12_NC) b
    second (λ x. ldr_matches s (o + 4) (second.1 x)) (λ x. ldr_matches s (o + 4) (second.1 x))
    (local_exec_on 4 facts) (initial_exec_on 4 facts (omega arith)) i)
    (one_of_four r.R_AARCH64_TLSDESC_ADD_LO12 8 s o (o + 8) facts (facts_on 8 facts) erased erased c
    third (λ x. nop_matches 8 s (o + 8) (omega arith) (third.1 x)) (λ x. nop_matches 8 s (o + 8) (omega arith) (third.1 x))
    (local_exec_on 8 facts) (initial_exec_on 8 facts (omega arith)) j)
    (one_of_four r.R_AARCH64_TLSDESC_CALL 12 s o (o + 12) facts (facts_on 12 facts) erased erased d
    fourth (λ x. nop_matches 12 s (o + 12) (omega arith) (fourth.1 x)) (λ x. nop_matches 12 s (o + 12) (omega arith) (fourth.1 x))
    (local_exec_on 12 facts) (initial_exec_on 12 facts (omega arith)) k)
