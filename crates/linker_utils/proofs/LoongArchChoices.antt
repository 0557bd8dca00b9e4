-- What is chosen on LoongArch matches, and can be rewritten.
use Rattle.linker_utils.proofs.Imports.{CanRewrite, HasWord, IsFirst, LinkFacts, List, LoongArch64Relocation, [], arith, choice, inl, inr, rules, subst, sym, ℕ, ⊤, ◌+◌, ◌-◌, ◌↔◌, ◌∙◌, ◌∷◌, ◌≡◌, ◌⊎◌}
use Rattle.linker_elf.specs.declared.loongarch64.relocations.LoongArch64Relocation.TheVariants as r
use Rattle.linker_utils.specs.LoongArchRewrites.{LoongArchChoice, LoongArchEntry, LoongArchApplies, IsLoongArchChoice, loongarch_entries, HasPattern, IsAfter, IsSingle, IsLowOfDescriptor, loongarch_matches, IsPair, IsAddi, IsLd, IsIntoOwnSource, word_at, loongarch_rewrite}
use Rattle.linker_utils.specs.declared.loongarch64.rewrites.RewriteKind.{RewriteKind}
use Rattle.linker_utils.specs.declared.loongarch64.rewrites.RewriteKind.TheVariants as kinds

pub same_pattern : (name known : LoongArch64Relocation) (kind : RewriteKind) → name ≡ known → (s : List ℕ) (o : ℕ)
    → HasPattern known kind s o ↔ HasPattern name kind s o
same_pattern name known kind e s o =
    subst (λ x. HasPattern known kind s o ↔ HasPattern x kind s o) (sym e) (λ h. h, λ h. h)

-- ---- what a relocation requires is what its rewrites are meant for

pair_of_either : (s : List ℕ) (o : ℕ) → IsPair IsLd s o → IsPair (λ word. IsAddi word ⊎ IsLd word) s o
pair_of_either s o h = record { within = h.within; second = inr h.second; one_register = h.one_register }

address_of_either : (s : List ℕ) (o : ℕ) → IsPair IsAddi s o → IsPair (λ word. IsAddi word ⊎ IsLd word) s o
address_of_either s o h = record { within = h.within; second = inl h.second; one_register = h.one_register }

second_of_pair : (P : ℕ → Type 0) (s : List ℕ) (o : ℕ) → IsAfter 4 (IsPair P) s o → HasWord s o (λ word. P word × IsIntoOwnSource word)
second_of_pair P s o h =
    let e : o - 4 + 4 ≡ o = omega (arith, h.0) in
    (omega (arith, h.0, h.1.within), subst (λ k. P (word_at s k) × IsIntoOwnSource (word_at s k)) e (h.1.second, h.1.one_register.into_own_source))

of_ld : (s : List ℕ) (o : ℕ) → IsSingle IsLd s o → HasWord s o (λ word. IsAddi word ⊎ IsLd word)
of_ld s o h = (h.0, inr h.1)

of_addi : (s : List ℕ) (o : ℕ) → IsSingle IsLowOfDescriptor s o → HasWord s o (λ word. IsAddi word ⊎ IsLd word)
of_addi s o h = (h.0, inl h.1.0)

into_a0 : (s : List ℕ) (o : ℕ) → IsSingle IsLowOfDescriptor s o → HasWord s o (λ word. IsAddi word × IsIntoOwnSource word)
into_a0 s o h =
    (h.0, (h.1.0, record { same = h.1.2 ∙ sym h.1.1; not_zero = λ e. (let differs : 4 ≡ 0 = sym h.1.1 ∙ e in omega arith) }))

-- each entry is for instructions that its rewrite is meant for
abbrev AreMeant : LoongArch64Relocation → List ℕ → ℕ → List LoongArchEntry → Type 0
AreMeant name s o [] = ⊤
AreMeant name s o (e ∷ es) = (HasPattern name e.kind s o → loongarch_matches e.kind s o) × AreMeant name s o es

meant : (name : LoongArch64Relocation) (s : List ℕ) (o : ℕ) → AreMeant name s o (loongarch_entries name)
meant r.R_LARCH_GOT_PC_HI20 s o = (λ a. pair_of_either s o a, (λ a. tt, tt))
meant r.R_LARCH_GOT_PC_LO12 s o =
    (λ a. ((second_of_pair IsLd s o a).0, tt), (λ a. second_of_pair IsLd s o a, (λ a. second_of_pair IsAddi s o a, tt)))
meant r.R_LARCH_TLS_GD_PC_HI20 s o = (λ a. address_of_either s o a, tt)
meant r.R_LARCH_TLS_LD_PC_HI20 s o = (λ a. address_of_either s o a, tt)
meant r.R_LARCH_PCALA_HI20 s o = (λ a. address_of_either s o a, tt)
meant r.R_LARCH_PCALA_LO12 s o = (λ a. ((second_of_pair IsAddi s o a).0, tt), tt)
meant r.R_LARCH_CALL36 s o = (λ a. a, (λ a. a, tt))
meant r.R_LARCH_TLS_IE_PC_HI20 s o = (λ a. (a.0, tt), (λ a. a, tt))
meant r.R_LARCH_TLS_IE_PC_LO12 s o = (λ a. of_ld s o a, (λ a. of_ld s o a, tt))
meant r.R_LARCH_TLS_DESC_PC_HI20 s o =
    (λ a. (a.0, tt), (λ a. (a.0, tt), (λ a. (a.0, a.1.0), (λ a. tt, (λ a. address_of_either s o a, tt)))))
meant r.R_LARCH_TLS_DESC_PC_LO12 s o =
    (λ a. of_addi s o a, (λ a. of_addi s o a, (λ a. into_a0 s o a, (λ a. ((second_of_pair IsAddi s o a).0, tt), tt))))
meant r.R_LARCH_TLS_DESC_LD s o = (λ a. (a.0, tt), (λ a. (a.0, tt), tt))
meant r.R_LARCH_TLS_DESC_CALL s o = (λ a. (a.0, tt), (λ a. (a.0, tt), tt))
meant r.R_LARCH_TLS_LE_HI20_R s o = (λ a. (a.0, tt), tt)
meant r.R_LARCH_TLS_LE_ADD_R s o = (λ a. (a.0, tt), tt)
meant r.R_LARCH_TLS_LE_LO12_R s o = (λ a. (a.0, a.1.0), tt)
meant name s o = tt

first_meant : (name : LoongArch64Relocation) (s : List ℕ) (o : ℕ) (facts : LinkFacts) (es : List LoongArchEntry) (otherwise c : LoongArchChoice)
    → AreMeant name s o es → loongarch_matches otherwise.kind s o → IsFirst (LoongArchApplies name s o facts) es otherwise c
    → loongarch_matches c.kind s o
first_meant name s o facts [] otherwise c each last first = subst (λ x. loongarch_matches x.kind s o) (sym first) last
first_meant name s o facts (e ∷ es) otherwise c each last (inl h) = subst (λ x. loongarch_matches x.kind s o) (sym h.1) (each.0 h.0.0)
first_meant name s o facts (e ∷ es) otherwise c each last (inr h) = first_meant name s o facts es otherwise c each.1 last h.1

-- ---- the choice

can_rewrite : (kind : RewriteKind) (s : List ℕ) (o : ℕ) → loongarch_matches kind s o → CanRewrite (loongarch_rewrite kind) s o
can_rewrite kinds.NoOp s o matches = tt
can_rewrite kind s o matches = search rules

pub chosen_matches : (name : LoongArch64Relocation) (s : List ℕ) (o : ℕ) (facts : LinkFacts) (c : LoongArchChoice)
    → IsLoongArchChoice name s o facts c → loongarch_matches c.kind s o
chosen_matches name s o facts c =
    first_meant name s o facts (loongarch_entries name) (choice kinds.NoOp name) c (meant name s o) tt

pub chosen_rewritable : (name : LoongArch64Relocation) (s : List ℕ) (o : ℕ) (facts : LinkFacts) (c : LoongArchChoice)
    → IsLoongArchChoice name s o facts c → CanRewrite (loongarch_rewrite c.kind) s o
chosen_rewritable name s o facts c is = can_rewrite c.kind s o (chosen_matches name s o facts c is)
