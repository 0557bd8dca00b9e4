-- The items of a section that was rewritten, by one item more.
use Rattle.linker_runs.proofs.Imports.{Aligned, All-nil, AreListed, AreListedIn, IsDeleted, Item, List, Makes, Rewritten, Site, add-one, ap, arith, deleted_at, drop, drop-drop, end_of, inl, inr, length, map, map_push, offset_of, refl, set, subst, suc, sym, take, take_more_set, written_more, ℕ, ⊎_elim, ◌+◌, ◌-◌, ◌<◌, ◌∙◌, ◌≡◌, ◌≤◌, ◌⊎◌}
use Rattle.linker_runs.specs.RewrittenItems.AreListed.{none, left_out, made, deleted}

-- where a deletion is
pub deleted_offset : (base : ℕ) (d : ℕ × ℕ) (item : Item) → IsDeleted base d item → offset_of item ≡ base + d.0
deleted_offset base d (Site site) is = is.0
deleted_offset base d (Aligned alignment) is = absurd is

-- what is the same from an index on is so from a higher one on
pub drop_same_from : {X : Type 0} (xs ys : List X) (n m : ℕ) → n ≤ m → drop n xs ≡ drop n ys → drop m xs ≡ drop m ys
drop_same_from xs ys n m below same =
    let e : n + (m - n) ≡ m = omega arith in
    subst (λ k. drop k xs ≡ drop k ys) e (sym (drop-drop (m - n) n xs) ∙ ap (drop (m - n)) same ∙ drop-drop (m - n) n ys)

-- ---- what is listed

module _ (M : ℕ → Item → Type 0) (base n : ℕ) (deletions : List (ℕ × ℕ)) where
  listed_as : (i g end after : ℕ) (items all : List Item) (makers new : List ℕ) → AreListed M base n deletions i g end items makers → after ≡ end → all ≡ items → new ≡ makers
      → AreListed M base n deletions i g after all new
  listed_as i g end after items all makers new h e f m =
      subst (λ x. AreListed M base n deletions i g x all new) (sym e) (subst (λ x. AreListed M base n deletions i g end x new) (sym f) (subst (λ x. AreListed M base n deletions i g end items x) (sym m) h))

module _ {A : Type 0} (f : A → Item) (IsWritten : A → Type 0) (s : Rewritten) where
  -- the relocation makes no item
  pub put_left_out : (i g count end : ℕ) (out : List A) (makers : List ℕ) → AreListedIn f IsWritten s i g count end out makers → ((item : Item) → ¬ Makes s.machine s.section s.base s.relocations i item)
      → AreListedIn f IsWritten s (i + 1) g count end out makers
  put_left_out i g count end out makers before not = record {
    few = omega (arith, before.few);
    listed = rw add-one (left_out before.listed not);
    form = before.form;
    next = before.next;
  }

  -- the relocation makes one
  pub put_made : (i g count end after : ℕ) (out : List A) (makers : List ℕ) (x : A) → AreListedIn f IsWritten s i g count end out makers → count < length out → count < length makers
      → Makes s.machine s.section s.base s.relocations i (f x) → IsWritten x → end ≤ offset_of (f x) → after ≡ end_of (f x) → (g < length s.deletions → after ≤ s.base + (deleted_at s.deletions g).0)
      → AreListedIn f IsWritten s (i + 1) g (count + 1) after (set out count x) (set makers count i)
  put_made i g count end after out makers x before within also is written following e next =
      let M = Makes s.machine s.section s.base s.relocations in
      let more = made (f x) before.listed is following in
      record {
        few = omega (arith, before.few);
        listed = rw add-one (listed_as M s.base (length s.relocations) s.deletions (suc i) g (end_of (f x)) after _ _ _ _ more e (ap (map f) (take_more_set out count x within) ∙ map_push f (take count out) x) (take_more_set makers count i also));
        form = written_more IsWritten out count x within written before.form;
        next = next;
      }

  -- a deletion is one
  pub put_deleted : (i g count end after : ℕ) (out : List A) (makers : List ℕ) (x : A) → AreListedIn f IsWritten s i g count end out makers → count < length out → count < length makers
      → IsDeleted s.base (deleted_at s.deletions g) (f x) → IsWritten x → g < length s.deletions → after ≡ end_of (f x) → (g + 1 < length s.deletions → after ≤ s.base + (deleted_at s.deletions (g + 1)).0)
      → AreListedIn f IsWritten s i (g + 1) (count + 1) after (set out count x) (set makers count (length s.relocations + g))
  put_deleted i g count end after out makers x before within also is written some e next =
      let M = Makes s.machine s.section s.base s.relocations in
      let more = deleted (f x) before.listed is (omega (arith, before.next some, deleted_offset s.base (deleted_at s.deletions g) (f x) is)) in
      record {
        few = omega (arith, before.few);
        listed = rw add-one (listed_as M s.base (length s.relocations) s.deletions i (suc g) (end_of (f x)) after _ _ _ _ more e (ap (map f) (take_more_set out count x within) ∙ map_push f (take count out) x) (take_more_set makers count (length s.relocations + g) also));
        form = written_more IsWritten out count x within written before.form;
        next = next;
      }

-- The same, with what a walk through the relocations knows besides: the last item is that of a
-- relocation, if there is one, and elements after those listed are as they were.
pub record IsWalked {A : Type 0} (f : A → Item) (IsWritten : A → Type 0) (s : Rewritten) (i g count end : ℕ) (out before : List A) (makers known : List ℕ) : Type 0 where
  pub gone : g ≤ length s.deletions
  pub listed : AreListedIn f IsWritten s i g count end out makers
  pub last : (end ≡ 0) ⊎ ((j : ℕ) × (other : Item) × (j < i) × Makes s.machine s.section s.base s.relocations j other × (end ≡ end_of other))
  pub others : drop count out ≡ drop count before
  pub makers_stay : drop count makers ≡ drop count known

module _ {A : Type 0} (f : A → Item) (IsWritten : A → Type 0) (s : Rewritten) where
  pub walked_none : (before : List A) (known : List ℕ) → IsWalked f IsWritten s 0 0 0 0 before before known known
  walked_none before known = record {
    gone = omega arith;
    listed = record { few = omega arith; listed = none; form = All-nil IsWritten; next = λ some. omega arith };
    last = inl refl;
    others = refl;
    makers_stay = refl;
  }

  pub walked_past : (i g count end : ℕ) (out before : List A) (makers known : List ℕ) → IsWalked f IsWritten s i g count end out before makers known → ((item : Item) → ¬ Makes s.machine s.section s.base s.relocations i item)
      → IsWalked f IsWritten s (i + 1) g count end out before makers known
  walked_past i g count end out before makers known walked not = record {
    gone = walked.gone;
    listed = put_left_out f IsWritten s i g count end out makers walked.listed not;
    last = ⊎_elim (λ nothing. inl nothing) (λ some. inr (some.0, some.1, (omega (arith, some.2)), some.3, some.4)) walked.last;
    others = walked.others;
    makers_stay = walked.makers_stay;
  }

  pub walked_on : (i g count end : ℕ) (out before : List A) (makers known : List ℕ) (g' count' end' : ℕ) (out' : List A) (makers' : List ℕ) (item : Item) → IsWalked f IsWritten s i g count end out before makers known
      → AreListedIn f IsWritten s (i + 1) g' count' end' out' makers' → count ≤ count' → g' ≤ length s.deletions → Makes s.machine s.section s.base s.relocations i item → end' ≡ end_of item
      → drop count' out' ≡ drop count' out → drop count' makers' ≡ drop count' makers → IsWalked f IsWritten s (i + 1) g' count' end' out' before makers' known
  walked_on i g count end out before makers known g' count' end' out' makers' item walked listed more within is e others stay = record {
    gone = within;
    listed = listed;
    last = inr (i, item, (omega arith), is, e);
    others = others ∙ drop_same_from out before count count' more walked.others;
    makers_stay = stay ∙ drop_same_from makers known count count' more walked.makers_stay;
  }
