-- What rewrites are chosen by before addresses are known, and in which phase a relocation is
-- rewritten.
use Rattle.linker_rewriting.proofs.Imports.{Addresses, AreDecidedIn, Bool, Choice, Consumed, Decision, IsDecidedAfter, IsDecidedAlone, IsScopeDecision, IsScopeIn, Kept, LinkFacts, List, None, NotRelaxable, Option, OutputFacts, Ppc64, PreLayout, Rela, RelaxContext, Relaxation, Rewritten, Scope, Some, Symbol, SymbolFacts, UnrelaxableGroups, ap, decision_at, facts_by, false, is_taken, relocation_in, slice_get, subst, sym, true, ℕ, ◌<◌, ◌∙◌, ◌≡◌}
use Rattle.linker_rewriting.proofs.Chosen.{IsChosen}

-- ---- scopes

-- a relocation that is rewritten has one
pub record IsListed (s : RelaxContext) (r : Rela) : Type 0 where
  pub scope : Scope
  pub is_scope : IsScopeIn s.architecture s.phase r.r_type scope
  pub listed : scope ≡ NotRelaxable → ⊥

pub listed_at : (s : RelaxContext) (kept : List UnrelaxableGroups) (bytes section : List ℕ)
    (decisions : List Decision) (limit n : ℕ) (chosen : Choice Relaxation ℕ)
    → AreDecidedIn s kept bytes section decisions limit → n < limit
    → decision_at decisions n ≡ Rewritten chosen → IsListed s (relocation_in bytes n)
listed_at s kept bytes section decisions limit n chosen decided below is =
    by_taken (is_taken decisions n)
    (subst (IsDecidedAfter s kept bytes section n (is_taken decisions n)) is (decided n below))
  where
    by_scope : (scope : Scope) → scope ≡ NotRelaxable
        → IsScopeDecision s kept bytes section n (relocation_in bytes n) scope (Rewritten chosen) → ⊥
    by_scope scope unlisted has =
        let same : Rewritten chosen ≡ Kept =
        subst (λ z. IsScopeDecision s kept bytes section n (relocation_in bytes n) z (Rewritten chosen)) unlisted has in
        absurd (let e : Rewritten chosen ≡ Kept = same in cc)

    by_taken : (taken : Bool) → IsDecidedAfter s kept bytes section n taken (Rewritten chosen)
        → IsListed s (relocation_in bytes n)
    by_taken true has = absurd (let e : Rewritten chosen ≡ Consumed = has in cc)
    by_taken false has =
        let alone : IsDecidedAlone s kept bytes section n (relocation_in bytes n) (Rewritten chosen) = has in
        record {
          scope = alone.0;
          is_scope = alone.1;
          listed = λ unlisted. by_scope (alone.0) unlisted (alone.2);
        }

-- ---- facts

-- no mark and no address counts
pub record AreEarly (facts : LinkFacts) : Type 0 where
  pub unmarked : facts.is_relaxable ≡ false
  pub unplaced : facts.has_addresses ≡ false

abbrev relaxable_in : Option LinkFacts → Bool
relaxable_in None = false
relaxable_in (Some facts) = facts.is_relaxable

abbrev placed_in : Option LinkFacts → Bool
placed_in None = false
placed_in (Some facts) = facts.has_addresses

early_by : (output : OutputFacts) (addresses : Addresses) (values : List Symbol) (r : Rela)
    (marked : Bool) (symbol : Option SymbolFacts) (facts : LinkFacts) → marked ≡ false
    → facts_by PreLayout output addresses values r r marked symbol ≡ Some facts → AreEarly facts
early_by output addresses values r marked None facts none is =
    absurd (let e : None ≡ Some facts = is in cc)
early_by output addresses values r marked (Some symbol) facts none is =
    record { unmarked = sym (ap relaxable_in is) ∙ none; unplaced = sym (ap placed_in is) }

pub are_early : (s : RelaxContext) (section : List ℕ) (r : Rela) (chosen : Choice Relaxation ℕ)
    → s.phase ≡ PreLayout → (s.architecture ≡ Ppc64 → ⊥) → (is : IsChosen s section r chosen) → AreEarly is.facts
are_early s section r chosen early isnt is =
    early_by s.output s.addresses s.values r is.marked (slice_get s.symbols r.symbol) is.facts (is.unmarked early isnt)
    (subst (λ p. facts_by p s.output s.addresses s.values r r is.marked (slice_get s.symbols r.symbol) ≡ Some is.facts) early is.facts_are)

-- what a condition says isn't so
pub isnt : {A : Type 0} (b : Bool) → b ≡ false → b ≡ true → A
isnt b isnt_so is_so = absurd (let e : false ≡ true = sym isnt_so ∙ is_so in cc)
