-- What is chosen on RISC-V matches, and can be rewritten.
use Rattle.linker_utils.proofs.Imports.{AppliesToRiscV, CanRewrite, FitsClui, IsFirst, IsRiscVChoice, LinkFacts, List, RiscVChoice, RiscVEntry, RiscVRelocation, [], cast_unsigned, choice, inl, inr, riscv_entries, riscv_matches, riscv_rewrite, rules, subst, sum_64, sym, w64, ℕ, ⊤, ◌∷◌, ◌≡◌}
use Rattle.linker_elf.specs.declared.riscv64.relocations.RiscVRelocation.TheVariants as r
use Rattle.linker_utils.specs.RiscVRewrites.{HasPattern}
use Rattle.linker_utils.specs.declared.riscv64.rewrites.RewriteKind.{RewriteKind}
use Rattle.linker_utils.specs.declared.riscv64.rewrites.RewriteKind.TheVariants as kinds

-- ---- what holds of the choice of each entry that applies

abbrev OfEach : (RiscVEntry → Type 0) → (RiscVChoice → Type 0) → List RiscVEntry → Type 0
OfEach A P [] = ⊤
OfEach A P (e ∷ es) = (A e → P (choice e.kind e.relocation)) × OfEach A P es

of_chosen : (A : RiscVEntry → Type 0) (P : RiscVChoice → Type 0) (es : List RiscVEntry) (otherwise c : RiscVChoice)
    → OfEach A P es → P otherwise → IsFirst A es otherwise c → P c
of_chosen A P [] otherwise c each last first = subst P (sym first) last
of_chosen A P (e ∷ es) otherwise c each last (inl h) = subst P (sym h.1) (each.0 h.0)
of_chosen A P (e ∷ es) otherwise c each last (inr h) = of_chosen A P es otherwise c each.1 last h.1

-- where an entry requires what its rewrite is meant for
of_rewrite : (es : List RiscVEntry) (section : List ℕ) (o : ℕ) (facts : LinkFacts)
    → OfEach (AppliesToRiscV riscv_matches section o facts) (λ c. riscv_matches c.kind section o) es
of_rewrite [] section o facts = tt
of_rewrite (e ∷ es) section o facts = (λ a. a.0, of_rewrite es section o facts)

each_matches : (name : RiscVRelocation) (section : List ℕ) (o : ℕ) (facts : LinkFacts)
    → OfEach (AppliesToRiscV (HasPattern name) section o facts) (λ c. riscv_matches c.kind section o) (riscv_entries name)
each_matches r.R_RISCV_TPREL_HI20 section o facts = (λ a. (a.0.0, tt), tt)
each_matches r.R_RISCV_TPREL_ADD section o facts = (λ a. (a.0.0, tt), tt)
each_matches r.R_RISCV_TPREL_LO12_S section o facts = (λ a. (a.0.0, a.0.1.0), tt)
each_matches r.R_RISCV_TLSDESC_HI20 section o facts =
    (λ a. (a.0.0, tt), (λ a. (a.0.0, tt), (λ a. (a.0.0, tt), (λ a. (a.0.0, tt), tt))))
each_matches r.R_RISCV_TLSDESC_LOAD_LO12 section o facts =
    (λ a. (a.0.0, tt), (λ a. (a.0.0, tt), (λ a. (a.0.0, tt), (λ a. (a.0.0, tt), tt))))
each_matches r.R_RISCV_TLSDESC_ADD_LO12 section o facts =
    (λ a. (a.0.0, tt), (λ a. (a.0.0, tt), (λ a. a.0, (λ a. a.0, tt))))
each_matches r.R_RISCV_TLSDESC_CALL section o facts = (λ a. a.0, (λ a. a.0, (λ a. a.0, tt)))
each_matches r.R_RISCV_GOT_HI20 section o facts = (λ a. (a.0.0, tt), (λ a. tt, (λ a. a.0, tt)))
each_matches name section o facts = of_rewrite (riscv_entries name) section o facts

pub chosen_matches : (name : RiscVRelocation) (section : List ℕ) (o : ℕ) (facts : LinkFacts) (c : RiscVChoice)
    → IsRiscVChoice name section o facts c → riscv_matches c.kind section o
chosen_matches name section o facts c =
    of_chosen (AppliesToRiscV (HasPattern name) section o facts) (λ x. riscv_matches x.kind section o) (riscv_entries name) (choice kinds.NoOp name) c
    (each_matches name section o facts) tt

can_rewrite : (kind : RewriteKind) (section : List ℕ) (o : ℕ) → riscv_matches kind section o
    → CanRewrite (riscv_rewrite kind) section o
can_rewrite kinds.NoOp section o matches = tt
can_rewrite kind section o matches = search rules

pub chosen_rewritable : (name : RiscVRelocation) (section : List ℕ) (o : ℕ) (facts : LinkFacts) (c : RiscVChoice)
    → IsRiscVChoice name section o facts c → CanRewrite (riscv_rewrite c.kind) section o
chosen_rewritable name section o facts c is = can_rewrite c.kind section o (chosen_matches name section o facts c is)

-- ---- `c.lui`

abbrev IsFit : LinkFacts → RiscVChoice → Type 0
IsFit facts c =
    c.kind ≡ kinds.Hi20ToCLui → FitsClui (sum_64 facts.operands.symbol (cast_unsigned w64 facts.operands.addend))

each_fits : (name : RiscVRelocation) (section : List ℕ) (o : ℕ) (facts : LinkFacts)
    → OfEach (AppliesToRiscV (HasPattern name) section o facts) (IsFit facts) (riscv_entries name)
each_fits r.R_RISCV_HI20 section o facts = search rules
each_fits name section o facts = search rules

pub chosen_compressed : (name : RiscVRelocation) (section : List ℕ) (o : ℕ) (facts : LinkFacts) (c : RiscVChoice)
    → IsRiscVChoice name section o facts c → IsFit facts c
chosen_compressed name section o facts c =
    of_chosen (AppliesToRiscV (HasPattern name) section o facts) (IsFit facts) (riscv_entries name) (choice kinds.NoOp name) c
    (each_fits name section o facts) (search rules)
