-- Groups that stay, noted in a table.
use Rattle.linker_rewriting.proofs.Imports.{AreKeptToo, Group, IsGroup, IsTrue, List, Some, UnrelaxableGroups, [], ap, arith, get_or, inl, inr, keeps, length, refl, rules, slice_get, slice_set, subst, suc, sym, with_kept, zero, ℕ, ◌<◌, ◌↔◌, ◌∙◌, ◌∷◌, ◌≡◌, ◌≢◌, ◌≤◌, ◌⊎◌}
use Rattle.std.proofs.lemmas.Option.{slice_get-get_or, slice_get_past}
use Rattle.linker_rewriting.specs.Groups.{kept_by}
use Rattle.linker_rewriting.specs.declared.groups.Group.TheVariants.{InitialExec, GeneralDynamic, LocalDynamic, Descriptor, GotLoad}

get_set_same : {X : Type 0} (xs : List X) (i : ℕ) (a : X) → i < length xs
    → slice_get (slice_set xs i a) i ≡ Some a
get_set_same [] i a less = absurd (omega arith)
get_set_same (x ∷ xs) zero a less = refl
get_set_same (x ∷ xs) (suc i) a less = get_set_same xs i a (omega arith)

get_set_other : {X : Type 0} (xs : List X) (i j : ℕ) (a : X) → j ≢ i
    → slice_get (slice_set xs i a) j ≡ slice_get xs j
get_set_other [] i j a ne = refl
get_set_other (x ∷ xs) zero zero a ne = absurd (ne refl)
get_set_other (x ∷ xs) zero (suc j) a ne = refl
get_set_other (x ∷ xs) (suc i) zero a ne = refl
get_set_other (x ∷ xs) (suc i) (suc j) a ne = get_set_other xs i j a (λ e. ne (ap suc e))

-- one more kind stays
kept_with : (group g : Group) (k : UnrelaxableGroups)
    → IsTrue (keeps g (with_kept group k)) ↔ (IsTrue (keeps g k) ⊎ (g ≡ group))
kept_with InitialExec InitialExec k = (λ _. inr refl, λ _. refl)
kept_with GeneralDynamic GeneralDynamic k = (λ _. inr refl, λ _. refl)
kept_with LocalDynamic LocalDynamic k = (λ _. inr refl, λ _. refl)
kept_with Descriptor Descriptor k = (λ _. inr refl, λ _. refl)
kept_with GotLoad GotLoad k = (λ _. inr refl, λ _. refl)
kept_with group g k = (λ h. inl h, λ either. elim either [ inl h ↦ h | inr e ↦ absurd (cc) ])

pub past_kept : (table : List UnrelaxableGroups) (group : Group) (symbol : ℕ) → length table ≤ symbol
    → AreKeptToo table table (IsGroup group symbol)
past_kept table group symbol le g s = (
  λ h. inl h,
  λ either. elim either [
    | inl h ↦ h
    | inr e ↦ subst (λ k. IsTrue (kept_by g k)) (sym (slice_get_past table s (let same = e.1 in omega arith))) refl
  ],
)

same_or : (s symbol : ℕ) → (s ≡ symbol) ⊎ (s ≢ symbol)
same_or s symbol = search rules

pub one_kept : (table : List UnrelaxableGroups) (group : Group) (symbol : ℕ) (old : UnrelaxableGroups)
    → symbol < length table → slice_get table symbol ≡ Some old
    → AreKeptToo table (slice_set table symbol (with_kept group old)) (IsGroup group symbol)
one_kept table group symbol old less is g s =
    let after = slice_set table symbol (with_kept group old) in
    elim (same_or s symbol) [
      | inl e ↦
          let there : slice_get after s ≡ Some (with_kept group old) =
          ap (slice_get after) e ∙ get_set_same table symbol (with_kept group old) less in
          let was : slice_get table s ≡ Some old = ap (slice_get table) e ∙ is in (
            λ h. elim ((kept_with group g old).0 (subst (λ k. IsTrue (kept_by g k)) there h)) [
              | inl k ↦ inl (subst (λ x. IsTrue (kept_by g x)) (sym was) k)
              | inr same ↦ inr (same, e)
            ],
            λ either. elim either [
              | inl k ↦ subst (λ x. IsTrue (kept_by g x)) (sym there)
                  ((kept_with group g old).1 (inl (subst (λ x. IsTrue (kept_by g x)) was k)))
              | inr p ↦ subst (λ x. IsTrue (kept_by g x)) (sym there)
                  ((kept_with group g old).1 (inr (p.0)))
            ],
          )
      | inr ne ↦
          let same : slice_get after s ≡ slice_get table s =
          get_set_other table symbol s (with_kept group old) ne in (
            λ h. inl (subst (λ x. IsTrue (kept_by g x)) same h),
            λ either. elim either [
              | inl k ↦ subst (λ x. IsTrue (kept_by g x)) (sym same) k
              | inr p ↦ absurd (ne (p.1))
            ],
          )
    ]

pub set_kept : (table : List UnrelaxableGroups) (group : Group) (symbol : ℕ) (new d : UnrelaxableGroups)
    → symbol < length table → new ≡ with_kept group (get_or table symbol d)
    → AreKeptToo table (slice_set table symbol new) (IsGroup group symbol)
set_kept table group symbol new d less is =
    subst (λ x. AreKeptToo table (slice_set table symbol x) (IsGroup group symbol)) (sym is)
    (one_kept table group symbol (get_or table symbol d) less (slice_get-get_or table symbol d less))
