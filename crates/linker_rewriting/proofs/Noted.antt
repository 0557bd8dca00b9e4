-- What a survey notes: the section is then rewritten, also after other surveys.
use Rattle.linker_rewriting.proofs.Imports.{Bool, Contradiction, Decision, Group, Grouped, HasRewrite, IfGroupMatches, IsCandidate, IsKeeping, IsNotSurveyed, IsNoted, IsRejectedIn, IsScopeIn, IsTrue, List, MeansUnsurveyed, None, NotSurveyed, NotesStay, Option, Overlaps, Rela, RelaxContext, RewritingError, Scope, Some, StaysBy, TooShort, UnrelaxableGroups, ap, false, group_stays, inl, inr, relocation_in, stays_at, subst, symbol_of_group, true, ℕ, ◌||◌, ◌≡◌}
use Rattle.linker_rewriting.proofs.Surveying.{all_stay_on, stays_on}
use Rattle.linker_rewriting.proofs.Unique.{one_scope, no_other}

pub notes_stay : NotesStay
notes_stay s other bytes section others_bytes others_section mid after limit others_limit noted surveyed n less =
    let was = noted n less in
    record {
      group = was.group;
      is_keeping = was.is_keeping;
      stays = stays_on mid after (relocation_in bytes n).symbol was.group surveyed.stayed was.stays;
      unmarked = was.unmarked;
      is_unmarked = was.is_unmarked;
      all_stay = all_stay_on mid after was.unmarked surveyed.stayed was.all_stay;
    }

group_in : Group → Scope → Group
group_in other (Grouped group) = group
group_in other scope = other

pub one_group : (s : RelaxContext) (r_type : ℕ) (x y : Group)
    → IsScopeIn s.architecture s.phase r_type (Grouped x)
    → IsScopeIn s.architecture s.phase r_type (Grouped y) → x ≡ y
unfolding group_in
one_group s r_type x y a b =
    ap (group_in x) (one_scope s.architecture s.phase r_type (Grouped x) (Grouped y) a b)

either_stays : (a b : Bool) → IsTrue b → (a || b) ≡ false → ⊥
either_stays false true is stays = let e : true ≡ false = stays in cc
either_stays true true is stays = let e : true ≡ false = stays in cc
either_stays a false is stays = let e : false ≡ true = is in cc

is_noted : (s : RelaxContext) (kept : List UnrelaxableGroups) (bytes section : List ℕ) (n : ℕ) (r : Rela)
    (group : Group) (noted : Option Group)
    → IsScopeIn s.architecture s.phase r.r_type (Grouped group)
    → group_stays kept group r.symbol ≡ false
    → IsCandidate s bytes section n r None
    → IsKeeping s bytes section n r noted → StaysBy kept r.symbol noted → ⊥
is_noted s kept bytes section n r group (Some other) scope stays none (inr keeping) noted =
    let e : IfGroupMatches other ≡ Grouped group =
    one_scope s.architecture s.phase r.r_type (IfGroupMatches other) (Grouped group) (keeping.0) scope in cc
is_noted s kept bytes section n r group (Some other) scope stays none (inl keeping) noted =
    let same : other ≡ group = one_group s r.r_type other group (keeping.0) scope in
    either_stays (stays_at kept group 0) (stays_at kept group (symbol_of_group group r.symbol))
    (subst (λ g. IsTrue (stays_at kept g (symbol_of_group g r.symbol))) same noted) stays
is_noted s kept bytes section n r group None scope stays none keeping noted =
    let has = subst (HasRewrite s bytes section n r)
    (one_scope s.architecture s.phase r.r_type (keeping.0) (Grouped group) (keeping.1) scope) (keeping.2) in
    no_other s bytes section n r (has.0) (has.1) none

pub always_surveyed : (s : RelaxContext) (kept : List UnrelaxableGroups) (bytes section : List ℕ) (n : ℕ)
    → IsNotSurveyed s kept bytes section n (relocation_in bytes n)
    → IsNoted s bytes section kept n → ⊥
always_surveyed s kept bytes section n isnt noted =
    is_noted s kept bytes section n (relocation_in bytes n) (isnt.0) noted.group (isnt.1) (isnt.2)
    (isnt.3) noted.is_keeping noted.stays

pub means_unsurveyed : (s : RelaxContext) (kept : List UnrelaxableGroups) (bytes section : List ℕ)
    (decisions : List Decision) (error : RewritingError)
    → IsRejectedIn s kept bytes section decisions error → MeansUnsurveyed s bytes section kept error
means_unsurveyed s kept bytes section decisions TooShort is = tt
means_unsurveyed s kept bytes section decisions (NotSurveyed n) is =
    λ noted. always_surveyed s kept bytes section n (is.2) (noted n (is.0))
means_unsurveyed s kept bytes section decisions (Overlaps n) is = tt
means_unsurveyed s kept bytes section decisions (Contradiction symbol) is = tt
