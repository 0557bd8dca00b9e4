-- The groups that stay, noted relocation by relocation.
use Rattle.linker_rewriting.proofs.Imports.{AllStayIf, AreKeptToo, Bool, Group, Grouped, HasRewrite, IfGroupMatches, IsCause, IsGroupOf, IsKeeping, IsNoted, IsOfThreads, IsSurveyedIn, IsTrue, IsUnmarked, KeepsNone, List, None, Option, Rela, RelaxContext, Scope, Some, StaysBy, UnrelaxableGroups, ap, arith, below_more, false, inl, inr, is_marked, is_of_group, not, refl, relocation_in, stays_at, subst, sym, symbol_of_group, true, ℕ, ◌&&◌, ◌+◌, ◌∙◌, ◌≡◌}

abbrev pub AreKept : List UnrelaxableGroups → List UnrelaxableGroups → Type 0
AreKept before after =
    (group : Group) (symbol : ℕ) → IsTrue (stays_at before group symbol)
    → IsTrue (stays_at after group symbol)

pub stays_on : (before after : List UnrelaxableGroups) (symbol : ℕ) (group : Option Group)
    → AreKept before after → StaysBy before symbol group → StaysBy after symbol group
stays_on before after symbol None kept stays = tt
stays_on before after symbol (Some group) kept stays =
    kept group (symbol_of_group group symbol) stays

pub all_stay_on : (before after : List UnrelaxableGroups) (unmarked : Bool) → AreKept before after
    → AllStayIf unmarked before → AllStayIf unmarked after
all_stay_on before after false kept stay = tt
all_stay_on before after true kept stay = λ group threads. kept group 0 (stay group threads)

stays_now : (before after : List UnrelaxableGroups) (symbol : ℕ) (group : Option Group)
    → AreKeptToo before after (IsGroupOf group symbol) → StaysBy after symbol group
stays_now before after symbol None same = tt
stays_now before after symbol (Some group) same =
    (same group (symbol_of_group group symbol)).1 (inr (refl, refl))

all_stay_now : (before after : List UnrelaxableGroups) (unmarked : Bool)
    → AreKeptToo before after (IsOfThreads unmarked) → AllStayIf unmarked after
all_stay_now before after false same = tt
all_stay_now before after true same =
    λ group threads. (same group 0).1 (inr (refl, threads, refl))

group_cause : (s : RelaxContext) (bytes section : List ℕ) (n : ℕ) (group : Option Group)
    → IsKeeping s bytes section n (relocation_in bytes n) group
    → (g : Group) (y : ℕ) → IsGroupOf group (relocation_in bytes n).symbol g y
    → IsCause s bytes section n g y
group_cause s bytes section n None keeping g y is = absurd is
group_cause s bytes section n (Some group) keeping g y is =
    inl (
      subst (λ x. IsKeeping s bytes section n (relocation_in bytes n) (Some x)) (sym (is.0)) keeping,
      is.1 ∙ ap (λ x. symbol_of_group x (relocation_in bytes n).symbol) (sym (is.0)),
    )

pub none_surveyed : (s : RelaxContext) (bytes section : List ℕ) (before : List UnrelaxableGroups)
    → IsSurveyedIn s bytes section before before 0
none_surveyed s bytes section before =
    record {
      noted = λ n less. absurd (omega arith);
      stayed = λ group symbol stays. stays;
      caused = λ group symbol stays. inl stays;
    }

pub more_surveyed : (s : RelaxContext) (bytes section : List ℕ) (before mid once after : List UnrelaxableGroups)
    (k : ℕ) (group : Option Group) (unmarked : Bool)
    → IsSurveyedIn s bytes section before mid k
    → IsKeeping s bytes section k (relocation_in bytes k) group
    → AreKeptToo mid once (IsGroupOf group (relocation_in bytes k).symbol)
    → IsUnmarked s bytes k (relocation_in bytes k) unmarked
    → AreKeptToo once after (IsOfThreads unmarked)
    → IsSurveyedIn s bytes section before after (k + 1)
more_surveyed s bytes section before mid once after k group unmarked surveyed keeping first is_unmarked second =
    let later : AreKept once after = λ g y h. (second g y).1 (inl h) in
    let all : AreKept mid after = λ g y h. later g y ((first g y).1 (inl h)) in
    record {
      noted = below_more (λ n. IsNoted s bytes section after n) k
          (λ n less. let was = surveyed.noted n less in record {
            group = was.group;
            is_keeping = was.is_keeping;
            stays = stays_on mid after (relocation_in bytes n).symbol was.group all was.stays;
            unmarked = was.unmarked;
            is_unmarked = was.is_unmarked;
            all_stay = all_stay_on mid after was.unmarked all was.all_stay;
          })
          (record {
            group = group;
            is_keeping = keeping;
            stays = stays_on once after (relocation_in bytes k).symbol group later
                (stays_now mid once (relocation_in bytes k).symbol group first);
            unmarked = unmarked;
            is_unmarked = is_unmarked;
            all_stay = all_stay_now once after unmarked second;
          });
      stayed = λ g y h. all g y (surveyed.stayed g y h);
      caused = λ g y h. elim ((second g y).0 h) [
        | inl in_once ↦ elim ((first g y).0 in_once) [
          | inl in_mid ↦ elim (surveyed.caused g y in_mid) [
            | inl in_before ↦ inl in_before
            | inr cause ↦ inr (cause.0, omega (arith, cause.1), cause.2)
          ]
          | inr is ↦ inr (k, omega arith, group_cause s bytes section k group keeping g y is)
        ]
        | inr is ↦ inr (k, omega arith, inr (subst (IsUnmarked s bytes k (relocation_in bytes k)) (is.0) is_unmarked, is.1, is.2))
      ];
    }

-- ---- a relocation that keeps none

of_no_group : (s : RelaxContext) (bytes section : List ℕ) (n : ℕ) (r : Rela) (scope : Scope)
    → is_of_group scope ≡ false → HasRewrite s bytes section n r scope
of_no_group s bytes section n r (Grouped group) isnt = absurd (let e : true ≡ false = isnt in cc)
of_no_group s bytes section n r (IfGroupMatches group) isnt = absurd (let e : true ≡ false = isnt in cc)
of_no_group s bytes section n r scope isnt = tt

none_too : (kept : List UnrelaxableGroups) (IsAdded : Group → ℕ → Type 0)
    → ((group : Group) (symbol : ℕ) → IsAdded group symbol → ⊥) → AreKeptToo kept kept IsAdded
none_too kept IsAdded none group symbol = (
  (λ stays. inl stays),
  (λ either. elim either [
    | inl stays ↦ stays
    | inr is ↦ absurd (none group symbol is)
  ]),
)

pub one_left : (s : RelaxContext) (bytes section : List ℕ) (before mid : List UnrelaxableGroups) (k : ℕ)
    → IsSurveyedIn s bytes section before mid k
    → KeepsNone s.architecture s.phase s.symbols (relocation_in bytes k)
    → IsSurveyedIn s bytes section before mid (k + 1)
one_left s bytes section before mid k surveyed none =
    let r = relocation_in bytes k in
    more_surveyed s bytes section before mid mid mid k None false surveyed
    ((none.0).0, (none.0).1, of_no_group s bytes section k r ((none.0).0) ((none.0).2))
    (none_too mid (IsGroupOf None r.symbol) (λ group symbol is. is))
    (sym (ap (λ b. b && not (is_marked bytes k r)) (none.1)))
    (none_too mid (IsOfThreads false) (λ group symbol is. let e : false ≡ true = is.0 in cc))
