-- Deletions beside those of a section: whether they may be merged, and what a merge leaves.
use Rattle.linker_base.proofs.Imports.{All, All-append, AreDisjoint, Bool, DoNotOverlap, EndFits, IsFirstOverlapping, IsTrue, IsValid, List, MatchOption, None, Option, Some, append_assoc, arith, drop, false, false≢true, get_or, get_or-append-add, get_or_append_left, get_or_default, is_some, length, length-append, not, refl, sym, take, take-append-drop, true, ℕ, ◌++◌, ◌+◌, ◌↔◌, ◌∙◌, ◌≡◌}
use Rattle.linker_base.proofs.Listed.{all_pairs_append}
use Rattle.linker_base.proofs.Unions.{disjoint_left, disjoint_from_valid}

-- two lists of disjoint deletions are so together, where each of the second is apart from all of
-- the first
pub disjoint_joined : (ds others : List (ℕ × ℕ)) → AreDisjoint ds → AreDisjoint others → All (λ pair. All (λ d. DoNotOverlap d pair) ds) others → AreDisjoint (ds ++ others)
disjoint_joined ds others first disjoint free = record {
  apart = all_pairs_append DoNotOverlap ds others first.apart disjoint.apart free;
  ends = All-append EndFits ds others first.ends disjoint.ends;
}

pub disjoint_back : (ds others : List (ℕ × ℕ)) → AreDisjoint (ds ++ others) → AreDisjoint others
disjoint_back ds others disjoint = record {
  apart = λ i j d lt within. rw (← get_or-append-add ds others i d, ← get_or-append-add ds others j d) (disjoint.apart (length ds + i) (length ds + j) d (omega arith) (omega (arith, length-append ds others)));
  ends = λ i d within. rw (← get_or-append-add ds others i d) (disjoint.ends (length ds + i) d (omega (arith, length-append ds others)));
}

pub disjoint_across : (ds others : List (ℕ × ℕ)) → AreDisjoint (ds ++ others) → All (λ pair. All (λ d. DoNotOverlap d pair) ds) others
disjoint_across ds others disjoint j e within i d low =
    let apart = disjoint.apart i (length ds + j) d (omega arith) (omega (arith, length-append ds others)) in
    let same : get_or (ds ++ others) (length ds + j) d ≡ get_or others j e = get_or-append-add ds others j d ∙ get_or_default others j d e within in
    rw (get_or_append_left ds others d i low, same) at apart

-- disjoint deletions beside a valid list, where a test tells whether they are apart
pub merged_by : (ds others : List (ℕ × ℕ)) (b : Bool) → IsValid ds → AreDisjoint others → IsTrue b ↔ All (λ pair. All (λ d. DoNotOverlap d pair) ds) others → IsTrue b ↔ AreDisjoint (ds ++ others)
merged_by ds others b valid disjoint tells = (λ free. disjoint_joined ds others (disjoint_from_valid ds valid) disjoint (tells.0 free), λ all. tells.1 (disjoint_across ds others all))

-- where all are disjoint, so are those with the first of the additional ones
pub disjoint_take : (ds others : List (ℕ × ℕ)) (k : ℕ) → AreDisjoint (ds ++ others) → AreDisjoint (ds ++ take k others)
disjoint_take ds others k all = disjoint_left (ds ++ take k others) (drop k others) (rw (append_assoc ds (take k others) (drop k others), take-append-drop k others) all)

-- the first that overlaps denies that all are disjoint
pub overlapping_denies : (ds others : List (ℕ × ℕ)) (at : ℕ) → IsFirstOverlapping ds others at → AreDisjoint (ds ++ others) → ⊥
overlapping_denies ds others k first all = first.here (disjoint_take ds others (k + 1) all)

-- a result that is none exactly where P holds
pub none_decides : (o : Option ℕ) (b : Bool) (P : Type 0) (Q : ℕ → Type 0) → is_some o ≡ not b → MatchOption o P Q → ((n : ℕ) → Q n → P → ⊥) → IsTrue b ↔ P
none_decides None true P Q is holds denies = (λ t. holds, λ p. refl)
none_decides None false P Q is holds denies = absurd (false≢true is)
none_decides (Some n) true P Q is holds denies = absurd (false≢true (sym is))
none_decides (Some n) false P Q is holds denies = (λ f. absurd (false≢true f), λ p. absurd (denies n holds p))
