-- The rewrite that is chosen for a relocation is that of an entry of its table.
use Rattle.linker_rewriting.proofs.Imports.{Choice, ElfName, Entry, IsChosenBy, IsFirst, IsNameOf, IsNamed, IsUnchanged, List, Relaxation, [], ap, choice, inl, inr, r_type_of, relaxation_no_op, subst, sym, ℕ, ◌∙◌, ◌∷◌, ◌≡◌, ◌⊎◌}

-- It is that of an entry that is meant for what is there.
pub record IsOfEntry {K N : Type 0} (elf : N → ElfName) (relaxation : K → Relaxation)
    (IsMeant : Entry K N → Type 0) (e : Entry K N) (chosen : Choice Relaxation ℕ) : Type 0 where
  pub kind_is : chosen.kind ≡ relaxation e.kind
  pub r_type_is : chosen.relocation ≡ r_type_of (elf e.relocation)
  pub meant : IsMeant e

-- one of some entries
abbrev pub IsOfOne : {K N : Type 0} → (N → ElfName) → (K → Relaxation) → (Entry K N → Type 0)
    → List (Entry K N) → Choice Relaxation ℕ → Type 0
IsOfOne elf relaxation IsMeant [] chosen = ⊥
IsOfOne elf relaxation IsMeant (e ∷ es) chosen =
    IsOfEntry elf relaxation IsMeant e chosen ⊎ IsOfOne elf relaxation IsMeant es chosen

module _ {K N : Type 0} (elf : N → ElfName) (relaxation : K → Relaxation)
    (IsMeant : Entry K N → Type 0) (chosen : Choice Relaxation ℕ) where
  by_first : (Applies : Entry K N → Type 0) → ((e : Entry K N) → Applies e → IsMeant e)
      → (otherwise named : Choice K N) → chosen.kind ≡ relaxation named.kind
      → chosen.relocation ≡ r_type_of (elf named.relocation) → (named ≡ otherwise → ⊥)
      → (es : List (Entry K N)) → IsFirst Applies es otherwise named
      → IsOfOne elf relaxation IsMeant es chosen
  by_first Applies meant otherwise named kind_is r_type_is changed [] is = absurd (changed is)
  by_first Applies meant otherwise named kind_is r_type_is changed (e ∷ es) (inl this) =
      inl (record {
        kind_is = kind_is ∙ ap (λ (q : Choice K N). relaxation q.kind) (this.1);
        r_type_is = r_type_is ∙ ap (λ (q : Choice K N). r_type_of (elf q.relocation)) (this.1);
        meant = meant e (this.0);
      })
  by_first Applies meant otherwise named kind_is r_type_is changed (e ∷ es) (inr other) =
      inr (by_first Applies meant otherwise named kind_is r_type_is changed es (other.1))

  -- of a relocation with a name, where the choice changes something
  pub of_one : (Applies : N → Entry K N → Type 0) (entries : N → List (Entry K N)) (no_op : K)
      → relaxation_no_op (relaxation no_op) → (r_type : ℕ) (name : N) → IsNamed (elf name)
      → IsNameOf elf r_type name → ((e : Entry K N) → Applies name e → IsMeant e)
      → IsChosenBy elf relaxation (λ n. IsFirst (Applies n) (entries n) (choice no_op n)) r_type chosen
      → ¬ IsUnchanged r_type chosen
      → IsOfOne elf relaxation IsMeant (entries name) chosen
  of_one Applies entries no_op is_no_op r_type name named is_name meant is changed =
      let same : is.name ≡ name = is.is_name.named name named is_name.r_type_is in
      by_first (Applies name) meant (choice no_op name) is.named is.kind_is is.r_type_is
      (λ e. changed (
        subst relaxation_no_op (sym (is.kind_is ∙ ap (λ (q : Choice K N). relaxation q.kind) e)) is_no_op,
        is.r_type_is ∙ (ap (λ (q : Choice K N). r_type_of (elf q.relocation)) e ∙ is_name.r_type_is),
      ))
      (entries name)
      (subst (λ n. IsFirst (Applies n) (entries n) (choice no_op n) is.named) same is.is_choice)

  -- the only one
  pub of_entry : (e : Entry K N) (es : List (Entry K N)) → es ≡ (e ∷ [])
      → IsOfOne elf relaxation IsMeant es chosen → IsOfEntry elf relaxation IsMeant e chosen
  of_entry e es only is =
      elim (subst (λ xs. IsOfOne elf relaxation IsMeant xs chosen) only is) [
        | inl this ↦ this
        | inr nothing ↦ absurd nothing
      ]

-- ---- of a table of one architecture's

-- the choice is that of an entry that applies
abbrev pub IsOfApplied : {K R : Type 0} → (Entry K R → Type 0) → List (Entry K R) → Choice K R → Type 0
IsOfApplied Applies [] chosen = ⊥
IsOfApplied Applies (e ∷ es) chosen =
    (Applies e × (chosen ≡ choice e.kind e.relocation)) ⊎ IsOfApplied Applies es chosen

pub of_first : {K R : Type 0} (Applies : Entry K R → Type 0) (es : List (Entry K R))
    (otherwise chosen : Choice K R) → (chosen ≡ otherwise → ⊥) → IsFirst Applies es otherwise chosen
    → IsOfApplied Applies es chosen
of_first Applies [] otherwise chosen changed is = absurd (changed is)
of_first Applies (e ∷ es) otherwise chosen changed (inl this) = inl this
of_first Applies (e ∷ es) otherwise chosen changed (inr other) =
    inr (of_first Applies es otherwise chosen changed (other.1))
