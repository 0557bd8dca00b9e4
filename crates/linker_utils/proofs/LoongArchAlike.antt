-- The relocations of a pair or of a sequence are chosen alike: each by the same conditions of the
-- place of the first.
use Rattle.linker_utils.proofs.Imports.{AllHold, IsFirst, LinkFacts, List, LoongArch64Relocation, Option, RowInfo, RowIsWithin, RowReaches, [], ap, arith, choice, drop, entry, facts_on, inl, inr, loongarch_row, operands_before, refl, same_reach, slice_index_or, subst, sym, take, with_group, ℕ, ◌++◌, ◌+◌, ◌-◌, ◌↔◌, ◌∙◌, ◌∷◌, ◌≡◌, ◌≤◌}
use Rattle.linker_utils.specs.LoongArchRewrites.{LoongArchEntry, LoongArchChoice, LoongArchApplies, IsAfter, IsAmong, by_pcaddi, bound_by_pcaddi, entry_by_pcaddi, bound_by_pages, page_to_initial_exec, to_initial_exec, ReachesEntry, to_local_exec, to_short_local_exec, signed_32, GotPairIsChosenAlike, EntryPairsAreChosenAlike, IsLoongArchChoice, AddressPairIsChosenAlike, InitialExecIsChosenAlike, DescriptorIsChosenAlike, AddressOfDescriptorIsChosenAlike, HasPattern, descriptor_by_pcaddi, left_out, parted, with_call, with_low, ThreadOffsetIsChosenAlike, loongarch_entries, IsPair, IsAddi, IsLd}
use Rattle.linker_elf.specs.declared.loongarch64.relocations.LoongArch64Relocation.TheVariants as r
use Rattle.linker_utils.specs.declared.loongarch64.rewrites.RewriteKind.TheVariants as kinds

-- ---- of the same conditions

abbrev Lines : Type 0
Lines = List (LoongArchChoice × LoongArchChoice)

abbrev two : LoongArchChoice → LoongArchChoice → LoongArchChoice × LoongArchChoice
two a b = (a, b)

both : {a b x y : LoongArchChoice} → a ≡ x → b ≡ y → two a b ≡ two x y
both {a} {b} {x} {y} e f = ap (λ t. two t b) e ∙ ap (two x) f

-- The first entries of both apply alike, and the others are chosen as some lines say.
then_alike : (A B : LoongArchEntry → Type 0) (d e : LoongArchEntry) (ds es : List LoongArchEntry) (m n a b : LoongArchChoice) (lines : Lines)
    → (A d ↔ B e) → (IsFirst A ds m a → IsFirst B es n b → IsAmong (a, b) lines)
    → IsFirst A (d ∷ ds) m a → IsFirst B (e ∷ es) n b
    → IsAmong (a, b) ((choice d.kind d.relocation, choice e.kind e.relocation) ∷ lines)
then_alike A B d e ds es m n a b lines f rest (inl h) (inl k) = inl (both h.1 k.1)
then_alike A B d e ds es m n a b lines f rest (inl h) (inr k) = absurd (k.0 (f.0 h.0))
then_alike A B d e ds es m n a b lines f rest (inr h) (inl k) = absurd (h.0 (f.1 k.0))
then_alike A B d e ds es m n a b lines f rest (inr h) (inr k) = inr (rest h.1 k.1)

one_alike : (A B : LoongArchEntry → Type 0) (d e : LoongArchEntry) (m n a b : LoongArchChoice) → (A d ↔ B e)
    → IsFirst A (d ∷ []) m a → IsFirst B (e ∷ []) n b
    → IsAmong (a, b) ((choice d.kind d.relocation, choice e.kind e.relocation) ∷ (m, n) ∷ [])
one_alike A B d e m n a b f = then_alike A B d e [] [] m n a b ((m, n) ∷ []) f (λ h k. inl (both h k))

two_alike : (A B : LoongArchEntry → Type 0) (d d' e e' : LoongArchEntry) (m n a b : LoongArchChoice) → (A d ↔ B e) → (A d' ↔ B e')
    → IsFirst A (d ∷ d' ∷ []) m a → IsFirst B (e ∷ e' ∷ []) n b
    → IsAmong (a, b) ((choice d.kind d.relocation, choice e.kind e.relocation) ∷ (choice d'.kind d'.relocation, choice e'.kind e'.relocation) ∷ (m, n) ∷ [])
two_alike A B d d' e e' m n a b f g =
    then_alike A B d e (d' ∷ []) (e' ∷ []) m n a b ((choice d'.kind d'.relocation, choice e'.kind e'.relocation) ∷ (m, n) ∷ []) f
    (one_alike A B d' e' m n a b g)

-- The last of the second's entries doesn't apply where none of the first's does.
left : (B : LoongArchEntry → Type 0) (e : LoongArchEntry) (n b : LoongArchChoice) → ¬ B e → IsFirst B (e ∷ []) n b → b ≡ n
left B e n b never (inl k) = absurd (never k.0)
left B e n b never (inr k) = k.1

one_of_two : (A B : LoongArchEntry → Type 0) (d e e' : LoongArchEntry) (m n a b : LoongArchChoice) → (A d ↔ B e) → (¬ A d → ¬ B e')
    → IsFirst A (d ∷ []) m a → IsFirst B (e ∷ e' ∷ []) n b
    → IsAmong (a, b) ((choice d.kind d.relocation, choice e.kind e.relocation) ∷ (m, n) ∷ [])
one_of_two A B d e e' m n a b f never (inl h) (inl k) = inl (both h.1 k.1)
one_of_two A B d e e' m n a b f never (inl h) (inr k) = absurd (k.0 (f.0 h.0))
one_of_two A B d e e' m n a b f never (inr h) (inl k) = absurd (h.0 (f.1 k.0))
one_of_two A B d e e' m n a b f never (inr h) (inr k) = inr (inl (both h.1 (left B e' n b (never h.0) k.1)))

two_of_three : (A B : LoongArchEntry → Type 0) (d d' e e' e'' : LoongArchEntry) (m n a b : LoongArchChoice) → (A d ↔ B e) → (A d' ↔ B e')
    → (¬ A d → ¬ A d' → ¬ B e'') → IsFirst A (d ∷ d' ∷ []) m a → IsFirst B (e ∷ e' ∷ e'' ∷ []) n b
    → IsAmong (a, b) ((choice d.kind d.relocation, choice e.kind e.relocation) ∷ (choice d'.kind d'.relocation, choice e'.kind e'.relocation) ∷ (m, n) ∷ [])
two_of_three A B d d' e e' e'' m n a b f g never (inl h) (inl k) = inl (both h.1 k.1)
two_of_three A B d d' e e' e'' m n a b f g never (inl h) (inr k) = absurd (k.0 (f.0 h.0))
two_of_three A B d d' e e' e'' m n a b f g never (inr h) (inl k) = absurd (h.0 (f.1 k.0))
two_of_three A B d d' e e' e'' m n a b f g never (inr h) (inr k) = inr (one_of_two A B d' e' e'' m n a b g (never h.0) h.1 k.1)

-- Of the second's entries only the last may apply.
with_last : (A B : LoongArchEntry → Type 0) (d e e' : LoongArchEntry) (m n a b : LoongArchChoice) → ¬ B e → (A d ↔ B e')
    → IsFirst A (d ∷ []) m a → IsFirst B (e ∷ e' ∷ []) n b
    → IsAmong (a, b) ((choice d.kind d.relocation, choice e'.kind e'.relocation) ∷ (m, n) ∷ [])
with_last A B d e e' m n a b never f h (inl k) = absurd (never k.0)
with_last A B d e e' m n a b never f h (inr k) = one_alike A B d e' m n a b f h k.1

with_third : (A B : LoongArchEntry → Type 0) (d e e' e'' : LoongArchEntry) (m n a b : LoongArchChoice) → ¬ B e → ¬ B e' → (A d ↔ B e'')
    → IsFirst A (d ∷ []) m a → IsFirst B (e ∷ e' ∷ e'' ∷ []) n b
    → IsAmong (a, b) ((choice d.kind d.relocation, choice e''.kind e''.relocation) ∷ (m, n) ∷ [])
with_third A B d e e' e'' m n a b never never' f h (inl k) = absurd (never k.0)
with_third A B d e e' e'' m n a b never never' f h (inr k) = with_last A B d e' e'' m n a b never' f h k.1

-- ---- the place of the first

-- what is required at the first offset, and conditions of the first place
following : (n : ℕ) (P : List ℕ → ℕ → Type 0) (s : List ℕ) (o : ℕ) → P s o ↔ IsAfter n P s (o + n)
following n P s o =
    let e : o + n - n ≡ o = omega arith in
    (λ h. (omega arith, subst (P s) (sym e) h), λ h. subst (P s) e h.1)

product : {P Q R S : Type 0} → (P ↔ Q) → (R ↔ S) → (P × R) ↔ (Q × S)
product f g = (λ h. (f.0 h.0, g.0 h.1), λ h. (f.1 h.0, g.1 h.1))

near : (n : ℕ) (facts : LinkFacts) → n ≤ 12
    → AllHold loongarch_row facts.operands facts (by_pcaddi 0)
    ↔ AllHold loongarch_row (facts_on n facts).operands (facts_on n facts) (by_pcaddi n)
near n facts small =
    let reaches = RowReaches (loongarch_row r.R_LARCH_PCREL20_S2) in
    let e = same_reach n facts small in (
      λ h. (h.0, (h.1.0, ((h.1.1.0.0, subst reaches (sym e) h.1.1.0.1), h.1.1.1))),
      λ h. (h.0, (h.1.0, ((h.1.1.0.0, subst reaches e h.1.1.0.1), h.1.1.1))),
    )

bound_near : (n : ℕ) (facts : LinkFacts) → n ≤ 12
    → AllHold loongarch_row facts.operands facts (bound_by_pcaddi 0)
    ↔ AllHold loongarch_row (facts_on n facts).operands (facts_on n facts) (bound_by_pcaddi n)
bound_near n facts small =
    let reaches = near n facts small in (
      λ h. let there = reaches.0 (h.1.0, (h.1.1.0, h.1.1.1.1)) in (h.0, (there.0, (there.1.0, (h.1.1.1.0, there.1.1)))),
      λ h. let there = reaches.1 (h.1.0, (h.1.1.0, h.1.1.1.1)) in (h.0, (there.0, (there.1.0, (h.1.1.1.0, there.1.1)))),
    )

bound_paged : (n : ℕ) (facts : LinkFacts) → n ≤ 12
    → AllHold loongarch_row facts.operands facts (bound_by_pages 0)
    ↔ AllHold loongarch_row (facts_on n facts).operands (facts_on n facts) (bound_by_pages n)
bound_paged n facts small =
    let fits = RowIsWithin (loongarch_row r.R_LARCH_PCALA_HI20) signed_32 in
    let e = same_reach n facts small in (
      λ h. (h.0, (h.1.0, (h.1.1.0, (λ known. subst fits (sym e) (h.1.1.1.0 known), h.1.1.1.1)))),
      λ h. (h.0, (h.1.0, (h.1.1.0, (λ known. subst fits e (h.1.1.1.0 known), h.1.1.1.1)))),
    )

-- by rows that are the same
entry_near : (name : LoongArch64Relocation) → loongarch_row name ≡ loongarch_row r.R_LARCH_TLS_GD_PCREL20_S2 → (n : ℕ) (facts : LinkFacts) → n ≤ 12
    → AllHold loongarch_row facts.operands facts (entry_by_pcaddi name 0)
    ↔ AllHold loongarch_row (facts_on n facts).operands (facts_on n facts) (entry_by_pcaddi r.R_LARCH_TLS_GD_PCREL20_S2 n)
entry_near name same n facts small =
    let here = λ (row : Option RowInfo). RowReaches row (operands_before 0 facts.operands) in
    let reaches = RowReaches (loongarch_row r.R_LARCH_TLS_GD_PCREL20_S2) in
    let e = same_reach n facts small in (
      λ h. (h.0, (h.1.0, ((h.1.1.0.0, subst reaches (sym e) (subst here same h.1.1.0.1)), h.1.1.1))),
      λ h. (h.0, (h.1.0, ((h.1.1.0.0, subst here (sym same) (subst reaches e h.1.1.0.1)), h.1.1.1))),
    )

-- ---- pairs

-- `addi.d` is no `ld.d`
other_pair : (s : List ℕ) (o : ℕ) → IsPair IsAddi s o → ¬ IsPair IsLd s o
other_pair s o h k =
    let sum = h.second in
    let load = k.second in
    omega (arith, sum, load)

-- no GOT entry is loaded there
none_loaded : (s : List ℕ) (o : ℕ) (facts : LinkFacts) → IsPair IsAddi s o
    → IsLoongArchChoice r.R_LARCH_GOT_PC_HI20 s o facts (choice kinds.NoOp r.R_LARCH_GOT_PC_HI20)
none_loaded s o facts is = inr ((λ h. other_pair s o is h.0), inr ((λ h. other_pair s o is h.0), refl))

pub got_pair : GotPairIsChosenAlike
got_pair s o facts a b group small h k =
    let there = following 4 (IsPair IsLd) s o in
    let sum = following 4 (IsPair IsAddi) s o in
    two_of_three (LoongArchApplies r.R_LARCH_GOT_PC_HI20 s o facts) (LoongArchApplies r.R_LARCH_GOT_PC_LO12 s (o + 4) (facts_on 4 facts))
    (entry kinds.PcalaToPcaddi r.R_LARCH_PCREL20_S2 (bound_by_pcaddi 0)) (entry kinds.NoOp r.R_LARCH_PCALA_HI20 (bound_by_pages 0))
    (entry kinds.Delete r.R_LARCH_NONE (bound_by_pcaddi 4)) (entry kinds.LdToAddi r.R_LARCH_PCALA_LO12 (bound_by_pages 4))
    (entry kinds.DeleteAddi r.R_LARCH_NONE (entry_by_pcaddi r.R_LARCH_TLS_GD_PCREL20_S2 4))
    _ _ a b
    (product there (bound_near 4 facts (omega arith))) (product there (bound_paged 4 facts (omega arith)))
    (λ p q x. group x.1.1.0 (none_loaded s o (with_group facts) (sum.1 x.0))) h k

entry_pair : (high near : LoongArch64Relocation) → loongarch_row near ≡ loongarch_row r.R_LARCH_TLS_GD_PCREL20_S2
    → (s : List ℕ) (o : ℕ) (facts : LinkFacts) (a b : LoongArchChoice) → IsPair IsAddi s o
    → IsFirst (λ e. IsPair IsAddi s o × AllHold loongarch_row facts.operands facts e.conditions)
    (entry kinds.PcalaToPcaddi near (entry_by_pcaddi near 0) ∷ []) (choice kinds.NoOp high) a
    → IsLoongArchChoice r.R_LARCH_GOT_PC_LO12 s (o + 4) (facts_on 4 facts) b
    → IsAmong (a, b) ((choice kinds.PcalaToPcaddi near, choice kinds.DeleteAddi r.R_LARCH_NONE)
    ∷ (choice kinds.NoOp high, choice kinds.NoOp r.R_LARCH_GOT_PC_LO12) ∷ [])
entry_pair high near same s o facts a b is h k =
    let there = following 4 (IsPair IsLd) s o in
    with_third (λ e. IsPair IsAddi s o × AllHold loongarch_row facts.operands facts e.conditions)
    (LoongArchApplies r.R_LARCH_GOT_PC_LO12 s (o + 4) (facts_on 4 facts))
    (entry kinds.PcalaToPcaddi near (entry_by_pcaddi near 0))
    (entry kinds.Delete r.R_LARCH_NONE (bound_by_pcaddi 4)) (entry kinds.LdToAddi r.R_LARCH_PCALA_LO12 (bound_by_pages 4))
    (entry kinds.DeleteAddi r.R_LARCH_NONE (entry_by_pcaddi r.R_LARCH_TLS_GD_PCREL20_S2 4))
    _ _ a b
    (λ x. other_pair s o is (there.1 x.0)) (λ x. other_pair s o is (there.1 x.0))
    (product (following 4 (IsPair IsAddi) s o) (entry_near near same 4 facts (omega arith))) h k

pub entry_pairs : EntryPairsAreChosenAlike
entry_pairs = (
  λ s o facts a b is small h k. entry_pair r.R_LARCH_TLS_GD_PC_HI20 r.R_LARCH_TLS_GD_PCREL20_S2 refl s o facts a b is h k,
  λ s o facts a b is small h k. entry_pair r.R_LARCH_TLS_LD_PC_HI20 r.R_LARCH_TLS_LD_PCREL20_S2 refl s o facts a b is h k,
)

pub address_pair : AddressPairIsChosenAlike
address_pair s o facts a b small h k =
    one_alike (LoongArchApplies r.R_LARCH_PCALA_HI20 s o facts) (LoongArchApplies r.R_LARCH_PCALA_LO12 s (o + 4) (facts_on 4 facts))
    (entry kinds.PcalaToPcaddi r.R_LARCH_PCREL20_S2 (by_pcaddi 0)) (entry kinds.Delete r.R_LARCH_NONE (by_pcaddi 4))
    _ _ a b (product (following 4 (IsPair IsAddi) s o) (near 4 facts (omega arith))) h k

-- ---- of instructions that stand apart

-- conditions that depend on no place, of instructions that are there
at_both : {P Q R : Type 0} → P → Q → (P × R) ↔ (Q × R)
at_both p q = (λ h. (q, h.1), λ h. (p, h.1))

pub initial_exec_halves : InitialExecIsChosenAlike
initial_exec_halves s t o p n facts a b any first second h k =
    two_alike (LoongArchApplies r.R_LARCH_TLS_IE_PC_HI20 s o facts) (LoongArchApplies r.R_LARCH_TLS_IE_PC_LO12 t p (facts_on n facts))
    (entry kinds.ReplaceWithNop r.R_LARCH_NONE (to_short_local_exec [])) (entry kinds.PcalaToLu12i r.R_LARCH_TLS_LE_HI20 to_local_exec)
    (entry kinds.LowToOriZero r.R_LARCH_TLS_LE_LO12 (to_short_local_exec [])) (entry kinds.LowToOri r.R_LARCH_TLS_LE_LO12 to_local_exec)
    _ _ a b (at_both first second) (at_both first second) h k

-- The high half reaches the entry, and the others require no distance.
there_in_reach : {P Q : Type 0} (n : ℕ) (facts : LinkFacts) → ReachesEntry facts → P → Q
    → (P × AllHold loongarch_row facts.operands facts page_to_initial_exec)
    ↔ (Q × AllHold loongarch_row (facts_on n facts).operands (facts_on n facts) (to_initial_exec []))
there_in_reach n facts reaches p q = (λ h. (q, (h.1.0, (h.1.1.0, tt))), λ h. (p, (h.1.0, (h.1.1.0, (reaches, tt)))))

-- the entry of a relocation with an index, and those from one on
abbrev nth : ℕ → LoongArch64Relocation → LoongArchEntry
nth i name = slice_index_or (loongarch_entries name) i (entry kinds.NoOp name [])

abbrev from : ℕ → LoongArch64Relocation → List LoongArchEntry
from i name = drop i (loongarch_entries name)

abbrev high : LoongArch64Relocation
high = r.R_LARCH_TLS_DESC_PC_HI20

abbrev low : LoongArch64Relocation
low = r.R_LARCH_TLS_DESC_PC_LO12

-- Of the first's two entries one applies where the second's does.
either_alike : (A B : LoongArchEntry → Type 0) (d d' e : LoongArchEntry) (ds es : List LoongArchEntry) (m n a b : LoongArchChoice) (lines : Lines)
    → (A d → B e) → (A d' ↔ B e) → (IsFirst A ds m a → IsFirst B es n b → IsAmong (a, b) lines)
    → IsFirst A (d ∷ d' ∷ ds) m a → IsFirst B (e ∷ es) n b
    → IsAmong (a, b) ((choice d.kind d.relocation, choice e.kind e.relocation) ∷ (choice d'.kind d'.relocation, choice e.kind e.relocation) ∷ lines)
either_alike A B d d' e ds es m n a b lines f g rest (inl h) (inl k) = inl (both h.1 k.1)
either_alike A B d d' e ds es m n a b lines f g rest (inl h) (inr k) = absurd (k.0 (f h.0))
either_alike A B d d' e ds es m n a b lines f g rest (inr (_, inl h)) (inl k) = inr (inl (both h.1 k.1))
either_alike A B d d' e ds es m n a b lines f g rest (inr (_, inl h)) (inr k) = absurd (k.0 (g.0 h.0))
either_alike A B d d' e ds es m n a b lines f g rest (inr (_, inr h)) (inl k) = absurd (h.0 (g.1 k.0))
either_alike A B d d' e ds es m n a b lines f g rest (inr (_, inr h)) (inr k) = inr (inr (rest h.1 k.1))

-- any two of the choices
any_alike : (A B : LoongArchEntry → Type 0) (d e : LoongArchEntry) (m n a b : LoongArchChoice)
    → IsFirst A (d ∷ []) m a → IsFirst B (e ∷ []) n b
    → IsAmong (a, b) ((choice d.kind d.relocation, choice e.kind e.relocation) ∷ (choice d.kind d.relocation, n)
    ∷ (m, choice e.kind e.relocation) ∷ (m, n) ∷ [])
any_alike A B d e m n a b (inl h) (inl k) = inl (both h.1 k.1)
any_alike A B d e m n a b (inl h) (inr k) = inr (inl (both h.1 k.1))
any_alike A B d e m n a b (inr h) (inl k) = inr (inr (inl (both h.1 k.1)))
any_alike A B d e m n a b (inr h) (inr k) = inr (inr (inr (inl (both h.1 k.1))))

-- the first two of a descriptor, by what is chosen where it stays
halves : (s t : List ℕ) (o p n : ℕ) (facts : LinkFacts) (a b : LoongArchChoice) (lines : Lines) → ReachesEntry facts
    → HasPattern high kinds.NoOp s o → HasPattern low kinds.NoOp t p
    → (IsFirst (LoongArchApplies high s o facts) (from 4 high) (choice kinds.NoOp high) a
    → IsFirst (LoongArchApplies low t p (facts_on n facts)) (from 3 low) (choice kinds.NoOp low) b → IsAmong (a, b) lines)
    → IsLoongArchChoice high s o facts a → IsLoongArchChoice low t p (facts_on n facts) b
    → IsAmong (a, b) (take 4 with_low ++ lines)
halves s t o p n facts a b lines reaches first second rest =
    let A = LoongArchApplies high s o facts in
    let B = LoongArchApplies low t p (facts_on n facts) in
    let after_two = drop 2 (take 4 with_low) ++ lines in
    let after_three = drop 3 (take 4 with_low) ++ lines in
    either_alike A B (nth 0 high) (nth 1 high) (nth 0 low) (from 2 high) (from 1 low) _ _ a b after_two
    (λ h. (second, (h.1.0, (h.1.1.0, h.1.1.1.1)))) (at_both first second)
    (then_alike A B (nth 2 high) (nth 1 low) (from 3 high) (from 2 low) _ _ a b after_three (at_both first second)
    (then_alike A B (nth 3 high) (nth 2 low) (from 4 high) (from 3 low) _ _ a b lines (there_in_reach n facts reaches first second) rest))

pub descriptor_low : DescriptorIsChosenAlike r.R_LARCH_TLS_DESC_PC_LO12 (with_low ++ parted)
descriptor_low s t o p n facts a b reaches first second =
    halves s t o p n facts a b (drop 4 (with_low ++ parted ++ (choice kinds.NoOp high, choice kinds.NoOp low) ∷ [])) reaches first second
    (any_alike (LoongArchApplies high s o facts) (LoongArchApplies low t p (facts_on n facts)) (nth 4 high) (nth 3 low) _ _ a b)

descriptor_near : (n : ℕ) (facts : LinkFacts) → n ≤ 12
    → AllHold loongarch_row facts.operands facts (descriptor_by_pcaddi 0)
    ↔ AllHold loongarch_row (facts_on n facts).operands (facts_on n facts) (descriptor_by_pcaddi n)
descriptor_near n facts small =
    let reaches = RowReaches (loongarch_row r.R_LARCH_TLS_DESC_PCREL20_S2) in
    let e = same_reach n facts small in (
      λ h. (h.0, ((h.1.0.0, subst reaches (sym e) h.1.0.1), tt)),
      λ h. (h.0, ((h.1.0.0, subst reaches e h.1.0.1), tt)),
    )

pub descriptor_address : AddressOfDescriptorIsChosenAlike
descriptor_address s o facts a b there small =
    halves s s o (o + 4) 4 facts a b (drop 4 (with_low ++ (choice kinds.NoOp high, choice kinds.NoOp low) ∷ [])) there.0 there.1 there.2
    (one_alike (LoongArchApplies high s o facts) (LoongArchApplies low s (o + 4) (facts_on 4 facts)) (nth 4 high) (nth 3 low) _ _ a b
    (product (following 4 (IsPair IsAddi) s o) (descriptor_near 4 facts (omega arith))))

-- The first with another that is left out: its entries are for local-exec by one instruction, where
-- it is deleted or not, for local-exec, for initial-exec, and for a descriptor that stays.
call_alike : (A B : LoongArchEntry → Type 0) (d0 d1 d2 d3 d4 e0 e1 : LoongArchEntry) (m n a b : LoongArchChoice)
    → (A d0 → B e0) → (A d1 → B e0 → A d0) → (A d1 → B e1) → (A d2 → B e1) → (A d3 ↔ B e1) → (B e0 → B e1)
    → IsFirst A (d0 ∷ d1 ∷ d2 ∷ d3 ∷ d4 ∷ []) m a → IsFirst B (e0 ∷ e1 ∷ []) n b
    → let p : LoongArchEntry → LoongArchChoice = λ d. choice d.kind d.relocation in
    IsAmong (a, b) ((p d0, p e0) ∷ (p d1, p e1) ∷ (p d2, p e0) ∷ (p d2, p e1) ∷ (p d3, p e0) ∷ (p d3, p e1) ∷ (p d4, n) ∷ (m, n) ∷ [])
call_alike A B d0 d1 d2 d3 d4 e0 e1 m n a b f g u v w z (inl h) (inl k) = inl (both h.1 k.1)
call_alike A B d0 d1 d2 d3 d4 e0 e1 m n a b f g u v w z (inl h) (inr k) = absurd (k.0 (f h.0))
call_alike A B d0 d1 d2 d3 d4 e0 e1 m n a b f g u v w z (inr (never, inl h)) (inl k) = absurd (never (g h.0 k.0))
call_alike A B d0 d1 d2 d3 d4 e0 e1 m n a b f g u v w z (inr (_, inl h)) (inr (_, inl k)) = inr (inl (both h.1 k.1))
call_alike A B d0 d1 d2 d3 d4 e0 e1 m n a b f g u v w z (inr (_, inl h)) (inr (_, inr k)) = absurd (k.0 (u h.0))
call_alike A B d0 d1 d2 d3 d4 e0 e1 m n a b f g u v w z (inr (_, inr (_, inl h))) (inl k) = inr (inr (inl (both h.1 k.1)))
call_alike A B d0 d1 d2 d3 d4 e0 e1 m n a b f g u v w z (inr (_, inr (_, inl h))) (inr (_, inl k)) = inr (inr (inr (inl (both h.1 k.1))))
call_alike A B d0 d1 d2 d3 d4 e0 e1 m n a b f g u v w z (inr (_, inr (_, inl h))) (inr (_, inr k)) = absurd (k.0 (v h.0))
call_alike A B d0 d1 d2 d3 d4 e0 e1 m n a b f g u v w z (inr (_, inr (_, inr (_, inl h)))) (inl k) = inr (inr (inr (inr (inl (both h.1 k.1)))))
call_alike A B d0 d1 d2 d3 d4 e0 e1 m n a b f g u v w z (inr (_, inr (_, inr (_, inl h)))) (inr (_, inl k)) = inr (inr (inr (inr (inr (inl (both h.1 k.1))))))
call_alike A B d0 d1 d2 d3 d4 e0 e1 m n a b f g u v w z (inr (_, inr (_, inr (_, inl h)))) (inr (_, inr k)) = absurd (k.0 (w.0 h.0))
call_alike A B d0 d1 d2 d3 d4 e0 e1 m n a b f g u v w z (inr (_, inr (_, inr (_, inr h)))) (inl k) = absurd (h.0 (w.1 (z k.0)))
call_alike A B d0 d1 d2 d3 d4 e0 e1 m n a b f g u v w z (inr (_, inr (_, inr (_, inr h)))) (inr (_, inl k)) = absurd (h.0 (w.1 k.0))
call_alike A B d0 d1 d2 d3 d4 e0 e1 m n a b f g u v w z (inr (_, inr (_, inr (_, inr (_, inl h))))) (inr (_, inr k)) = inr (inr (inr (inr (inr (inr (inl (both h.1 k.1)))))))
call_alike A B d0 d1 d2 d3 d4 e0 e1 m n a b f g u v w z (inr (_, inr (_, inr (_, inr (_, inr h))))) (inr (_, inr k)) = inr (inr (inr (inr (inr (inr (inr (inl (both h.1 k.1))))))))

with_first : (Q : Type 0) (name : LoongArch64Relocation) (s : List ℕ) (o n : ℕ) (facts : LinkFacts) (a b : LoongArchChoice) → ReachesEntry facts
    → HasPattern high kinds.NoOp s o → Q → IsLoongArchChoice high s o facts a
    → IsFirst (λ e. Q × AllHold loongarch_row (facts_on n facts).operands (facts_on n facts) e.conditions) (left_out to_initial_exec [])
    (choice kinds.NoOp name) b
    → IsAmong (a, b) (with_call name ++ (choice kinds.NoOp high, choice kinds.NoOp name) ∷ [])
with_first Q name s o n facts a b reaches first second =
    call_alike (LoongArchApplies high s o facts) (λ e. Q × AllHold loongarch_row (facts_on n facts).operands (facts_on n facts) e.conditions)
    (nth 0 high) (nth 1 high) (nth 2 high) (nth 3 high) (nth 4 high) (nth 0 r.R_LARCH_TLS_DESC_LD) (nth 1 r.R_LARCH_TLS_DESC_LD) _ _ a b
    (λ h. (second, (h.1.1.0, (h.1.1.1.0, (h.1.1.1.1.0, tt)))))
    (λ h k. (first, (h.1.0, (h.1.1.0, (k.1.1.0, h.1.1.1)))))
    (λ h. (second, (h.1.1.0, (h.1.1.1.0, tt))))
    (λ h. (second, (h.1.1.0, (h.1.1.1.0, tt))))
    (there_in_reach n facts reaches first second)
    (λ k. (k.0, (k.1.0, k.1.1.1)))

pub descriptor_load : DescriptorIsChosenAlike r.R_LARCH_TLS_DESC_LD (with_call r.R_LARCH_TLS_DESC_LD)
descriptor_load s t o p n facts a b reaches first second =
    with_first (HasPattern r.R_LARCH_TLS_DESC_LD kinds.NoOp t p) r.R_LARCH_TLS_DESC_LD s o n facts a b reaches first second

pub descriptor_call : DescriptorIsChosenAlike r.R_LARCH_TLS_DESC_CALL (with_call r.R_LARCH_TLS_DESC_CALL)
descriptor_call s t o p n facts a b reaches first second =
    with_first (HasPattern r.R_LARCH_TLS_DESC_CALL kinds.NoOp t p) r.R_LARCH_TLS_DESC_CALL s o n facts a b reaches first second

-- ---- a `lu12i.w` of an offset from the thread pointer

-- Only the instructions differ: no place enters the conditions.
pub thread_offset : ThreadOffsetIsChosenAlike
thread_offset = (
  λ s o p n facts a b first second h k.
      one_alike (LoongArchApplies r.R_LARCH_TLS_LE_HI20_R s o facts) (LoongArchApplies r.R_LARCH_TLS_LE_ADD_R s p (facts_on n facts))
      (nth 0 r.R_LARCH_TLS_LE_HI20_R) (nth 0 r.R_LARCH_TLS_LE_ADD_R)
      _ _ a b (λ there. (second, there.1), λ there. (first, there.1)) h k,
  λ s o p n facts a b first second h k.
      one_alike (LoongArchApplies r.R_LARCH_TLS_LE_HI20_R s o facts) (LoongArchApplies r.R_LARCH_TLS_LE_LO12_R s p (facts_on n facts))
      (nth 0 r.R_LARCH_TLS_LE_HI20_R) (nth 0 r.R_LARCH_TLS_LE_LO12_R)
      _ _ a b (λ there. (second, there.1), λ there. (first, there.1)) h k,
)
