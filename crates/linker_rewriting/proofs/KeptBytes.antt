-- Numbers of bytes, kept one by one.
use Rattle.linker_rewriting.proofs.Imports.{All, AllKeepBytes, Choice, Consumed, Decision, KeepsBytes, Kept, List, Relaxation, Rewritten, RewrittenWithSymbol, ap, arith, below_more, decision_at, drop, drop-set-lt, drop_more_same, get_or, get_or-drop, get_or-map, get_or-set_other, get_or-set_same, get_or-take, length, length-map, length-take-le, map, map-set, refl, relocation_in, set-get_or, slice_set, subst, sym, take, written_more, ℕ, ◌+◌, ◌<◌, ◌∙◌, ◌≡◌, ◌≤◌}
use Rattle.std.proofs.Math.Seq.{map-set_same}
use Rattle.std.proofs.lemmas.List.Elements.{All-get_or}

-- one that rewrites nothing keeps no number
pub keeps_none : (d : Decision) (number : ℕ) (section : List ℕ) (offset : ℕ)
    → ((chosen : Choice Relaxation ℕ) → d ≡ Rewritten chosen → ⊥) → KeepsBytes d number section offset
keeps_none Kept number section offset other = tt
keeps_none (Rewritten chosen) number section offset other = absurd (other chosen refl)
keeps_none (RewrittenWithSymbol chosen subject) number section offset other = tt
keeps_none Consumed number section offset other = tt

-- one of those that are written
pub written_at : {X : Type 0} (IsWritten : X → Type 0) (xs : List X) (limit k : ℕ) (d : X) → All IsWritten (take limit xs)
    → k < limit → limit ≤ length xs → IsWritten (get_or xs k d)
written_at IsWritten xs limit k d all less enough =
    subst IsWritten (get_or-take limit xs k d less)
    (All-get_or IsWritten (take limit xs) k d (let e = length-take-le limit xs enough in omega (arith, e, less)) all)

module _ {X : Type 0} (f : X → Decision) (h : X → ℕ) (IsKept : X → Type 0) (bytes section : List ℕ) (old : List X) where
  pub record AreKeptTo (now : List X) (k : ℕ) : Type 0 where
    pub decisions : map f now ≡ map f old
    pub kept : AllKeepBytes bytes section (map f now) (map h now) k
    pub form : All IsKept (take k now)
    pub left : drop k now ≡ drop k old

  -- the next one is replaced by one that keeps its number
  pub replaced : (now : List X) (k : ℕ) (x d : X) → AreKeptTo now k → k < length now → f x ≡ f (get_or now k d)
      → KeepsBytes (f x) (h x) section (relocation_in bytes k).offset → IsKept x → AreKeptTo (slice_set now k x) (k + 1)
  replaced now k x d before within same keeps is =
      let set = slice_set now k x in
      let decided : map f set ≡ map f now = map-set_same f now k x d same in
      let numbers : map h set ≡ slice_set (map h now) k (h x) = map-set h now k x in
      record {
        decisions = decided ∙ before.decisions;
        kept = below_more (λ n. KeepsBytes (decision_at (map f set) n) (get_or (map h set) n 0) section (relocation_in bytes n).offset) k
            (λ n less.
            let number : get_or (map h set) n 0 ≡ get_or (map h now) n 0 =
            ap (λ l. get_or l n 0) numbers ∙ get_or-set_other (map h now) k n (h x) 0 (λ e. absurd (omega (arith, e, less))) in
            subst (λ ds. KeepsBytes (decision_at ds n) (get_or (map h set) n 0) section (relocation_in bytes n).offset) (sym decided)
            (subst (λ m. KeepsBytes (decision_at (map f now) n) m section (relocation_in bytes n).offset) (sym number) (before.kept n less)))
            (let here : decision_at (map f set) k ≡ f x =
            ap (λ ds. decision_at ds k) decided ∙ (get_or-map f now k d Kept within ∙ sym same) in
            let number : get_or (map h set) k 0 ≡ h x =
            ap (λ l. get_or l k 0) numbers
            ∙ get_or-set_same (map h now) k (h x) 0 (let e = length-map now h in omega (arith, e, within)) in
            subst (λ m. KeepsBytes (decision_at (map f set) k) m section (relocation_in bytes k).offset) (sym number)
            (subst (λ y. KeepsBytes y (h x) section (relocation_in bytes k).offset) (sym here) keeps));
        form = written_more IsKept now k x within is before.form;
        left = drop-set-lt (k + 1) now k x (omega arith) ∙ drop_more_same now old k before.left;
      }

  -- it stays
  pub passed : (now : List X) (k : ℕ) (d : X) → AreKeptTo now k → k < length now
      → KeepsBytes (f (get_or now k d)) (h (get_or now k d)) section (relocation_in bytes k).offset
      → IsKept (get_or now k d) → AreKeptTo now (k + 1)
  passed now k d before within keeps is =
      subst (λ l. AreKeptTo l (k + 1)) (set-get_or now k d) (replaced now k (get_or now k d) d before within refl keeps is)

  -- it is as it was
  pub unchanged_at : (now : List X) (k : ℕ) (d : X) → AreKeptTo now k → get_or now k d ≡ get_or old k d
  unchanged_at now k d before =
      let none : k + 0 ≡ k = omega arith in
      subst (λ n. get_or now n d ≡ get_or old n d) none
      (sym (get_or-drop k now 0 d) ∙ (ap (λ l. get_or l 0 d) before.left ∙ get_or-drop k old 0 d))
