-- The items so far, by one relocation more.
use Rattle.linker_runs.proofs.Imports.{All, All-nil, AreMade, Item, List, [], add-one, ap, arith, drop, drop-set-lt, drop_more_same, left_out, length, length-set, made, map, map_push, none, refl, set, subst, suc, sym, take, take_more_set, written_more, ℕ, ◌++◌, ◌+◌, ◌<◌, ◌∙◌, ◌∷◌, ◌≡◌, ◌≤◌}

pub made_none : (Makes : ℕ → Item → Type 0) (items : List Item) (makers : List ℕ) → items ≡ [] → makers ≡ [] → AreMade Makes 0 items makers
made_none Makes items makers e f = subst (λ items. AreMade Makes 0 items makers) (sym e) (subst (AreMade Makes 0 []) (sym f) none)

-- the relocation makes none
pub made_less : (Makes : ℕ → Item → Type 0) (i : ℕ) (items : List Item) (makers : List ℕ) → AreMade Makes i items makers
    → ((item : Item) → ¬ Makes i item) → AreMade Makes (i + 1) items makers
made_less Makes i items makers before not = rw add-one (left_out before not)

-- the relocation makes one
pub made_more : (Makes : ℕ → Item → Type 0) (i : ℕ) (items after : List Item) (makers new : List ℕ) (item : Item)
    → AreMade Makes i items makers → after ≡ items ++ item ∷ [] → new ≡ makers ++ i ∷ [] → Makes i item → AreMade Makes (i + 1) after new
made_more Makes i items after makers new item before e f is =
    rw add-one (subst (λ items. AreMade Makes (suc i) items new) (sym e) (subst (AreMade Makes (suc i) (items ++ item ∷ [])) (sym f) (made before is)))

-- The items so far, and their relocations, are the first n elements of two arrays, and the others
-- are as they were.
pub record ArePut {A : Type 0} (f : A → Item) (IsWritten : A → Type 0) (Makes : ℕ → Item → Type 0) (i count : ℕ) (out before : List A) (makers known : List ℕ) : Type 0 where
  pub few : count ≤ i
  pub room : length out ≡ length before
  pub makers_room : length makers ≡ length known
  pub made : AreMade Makes i (map f (take count out)) (take count makers)
  pub form : All IsWritten (take count out)
  pub left : drop count out ≡ drop count before
  pub makers_left : drop count makers ≡ drop count known

module _ {A : Type 0} (f : A → Item) (IsWritten : A → Type 0) (Makes : ℕ → Item → Type 0) where
  pub put_none : (before : List A) (known : List ℕ) → ArePut f IsWritten Makes 0 0 before before known known
  put_none before known = record { few = omega arith; room = refl; makers_room = refl; made = made_none Makes _ _ refl refl; form = All-nil IsWritten; left = refl; makers_left = refl }

  pub put_less : (i count : ℕ) (out before : List A) (makers known : List ℕ) → ArePut f IsWritten Makes i count out before makers known → ((item : Item) → ¬ Makes i item)
      → ArePut f IsWritten Makes (i + 1) count out before makers known
  put_less i count out before makers known put not = record {
    few = omega (arith, put.few);
    room = put.room;
    makers_room = put.makers_room;
    made = made_less Makes i _ _ put.made not;
    form = put.form;
    left = put.left;
    makers_left = put.makers_left;
  }

  pub put_more : (i count : ℕ) (out before : List A) (makers known : List ℕ) (x : A) → ArePut f IsWritten Makes i count out before makers known → count < length out → count < length makers → Makes i (f x) → IsWritten x
      → ArePut f IsWritten Makes (i + 1) (count + 1) (set out count x) before (set makers count i) known
  put_more i count out before makers known x put within also is written = record {
    few = omega (arith, put.few);
    room = length-set out count x ∙ put.room;
    makers_room = length-set makers count i ∙ put.makers_room;
    made = made_more Makes i (map f (take count out)) _ (take count makers) _ (f x) put.made (ap (map f) (take_more_set out count x within) ∙ map_push f (take count out) x) (take_more_set makers count i also) is;
    form = written_more IsWritten out count x within written put.form;
    left = drop-set-lt (count + 1) out count x (omega arith) ∙ drop_more_same out before count put.left;
    makers_left = drop-set-lt (count + 1) makers count i (omega arith) ∙ drop_more_same makers known count put.makers_left;
  }
