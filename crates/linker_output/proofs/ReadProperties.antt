-- Properties that are read step by step.
use Rattle.linker_output.proofs.Imports.{Architecture, Err, List, None, Ok, Option, Property, PropertyError, PropertyRule, Reading, Result, Some, [], ap, append-nil, append_assoc, arith, before, false, followed, if◌then◌else◌, length, nat_lt, nat_tests, properties_of, read, refl, rule_of, start, suc, sym, true, visit, visit_by, visit_note, visit_property, word_at, zero, ℕ, ◌%◌, ◌++◌, ◌+◌, ◌-◌, ◌/◌, ◌<◌, ◌==◌, ◌^◌, ◌∙◌, ◌∷◌, ◌≡◌, ◌≤◌}
use Rattle.linker_output.specs.Properties.{padded}

-- ---- a step goes on, and stays in the section

pub record Inside (s : List ℕ) (from next : Reading) : Type 0 where
  pub on : from.next < next.next
  pub begun : next.next ≤ next.end
  pub ended : next.end ≤ length s

note_inside : (s : List ℕ) (v w : Reading) → v.next ≤ length s → visit_note s v ≡ Ok w → Inside s v w
note_inside s v w le e = record {
  on = grind (arith, nat_tests);
  begun = grind (arith, nat_tests);
  ended = grind (arith, nat_tests);
}

by_inside : (rule : Option PropertyRule) (s : List ℕ) (kind size : ℕ) (v w : Reading)
    → v.next + 8 + padded size ≤ v.end → v.end ≤ length s
    → visit_by rule s kind size v ≡ Ok w → Inside s v w
by_inside None s kind size v w le within e = record {
  on = grind arith;
  begun = grind arith;
  ended = grind arith;
}
by_inside (Some rule) s kind size v w le within e = record {
  on = grind (arith, nat_tests);
  begun = grind (arith, nat_tests);
  ended = grind (arith, nat_tests);
}

property_inside : (a : Architecture) (s : List ℕ) (v w : Reading) → v.next ≤ v.end → v.end ≤ length s
    → visit_property a s v ≡ Ok w → Inside s v w
property_inside a s v w le within e =
    let kind = word_at s v.next % 2 ^ 32 in
    let size = word_at s v.next / 2 ^ 32 in
    by_inside (rule_of a kind) s kind size v w (grind (arith, nat_tests)) within (grind (arith, nat_tests))

pub inside : (a : Architecture) (s : List ℕ) (v w : Reading) → v.next ≤ v.end → v.end ≤ length s
    → visit a s v ≡ Ok w → Inside s v w
inside a s v w le within e =
    elim (v.next == v.end) as (λ t. t ≡ (v.next == v.end) → (if t then visit_note s v else visit_property a s v) ≡ Ok w → Inside s v w) [
      | true ↦ λ q h. note_inside s v w (omega arith) h
      | false ↦ λ q h. property_inside a s v w le within h
    ] refl e

-- ---- steps enough

same_followed : (f g : Reading → Result (List Property) PropertyError) (r : Result Reading PropertyError)
    → ((w : Reading) → r ≡ Ok w → f w ≡ g w) → followed f r ≡ followed g r
same_followed f g (Err e) h = refl
same_followed f g (Ok w) h = ap (before w.property) (h w refl)

pub enough : (n m : ℕ) (a : Architecture) (s : List ℕ) (v : Reading) → v.next ≤ v.end → v.end ≤ length s
    → length s - v.next ≤ n → length s - v.next ≤ m → read n a s v ≡ read m a s v
unfolding read
enough zero zero a s v le within one two = refl
enough zero (suc m) a s v le within one two =
    let t : nat_lt v.next (length s) ≡ false = grind (arith, nat_tests) in rw t refl
enough (suc n) zero a s v le within one two =
    let t : nat_lt v.next (length s) ≡ false = grind (arith, nat_tests) in rw t refl
enough (suc n) (suc m) a s v le within one two =
    ap (λ r. if nat_lt v.next (length s) then r else Ok [])
    (same_followed (read n a s) (read m a s) (visit a s v)
    (λ w e. let i = inside a s v w le within e in
    let on = i.on in enough n m a s w i.begun i.ended (omega arith) (omega arith)))

pub on_step : (a : Architecture) (s : List ℕ) (v w : Reading) → v.next ≤ v.end → v.end ≤ length s
    → v.next < length s → visit a s v ≡ Ok w
    → read (length s) a s v ≡ before w.property (read (length s) a s w)
unfolding read
on_step a s v w le within lt e =
    let i = inside a s v w le within e in
    let m = length s - 1 in
    let len : length s ≡ suc m = omega arith in
    let t : nat_lt v.next (length s) ≡ true = grind (arith, nat_tests) in
    let one : read (suc m) a s v ≡ before w.property (read m a s w) = rw (t, e) refl in
    ap (λ n. read n a s v) len ∙ one ∙ ap (before w.property) (enough m (length s) a s w i.begun i.ended (omega (arith, i.on)) (omega (arith, i.on)))

pub on_error : (a : Architecture) (s : List ℕ) (v : Reading) (error : PropertyError) → v.next < length s
    → visit a s v ≡ Err error → read (length s) a s v ≡ Err error
unfolding read
on_error a s v error lt e =
    let m = length s - 1 in
    let len : length s ≡ suc m = omega arith in
    let t : nat_lt v.next (length s) ≡ true = grind (arith, nat_tests) in
    let one : read (suc m) a s v ≡ Err error = rw (t, e) refl in
    ap (λ n. read n a s v) len ∙ one

pub at_end : (n : ℕ) (a : Architecture) (s : List ℕ) (v : Reading) → length s ≤ v.next → read n a s v ≡ Ok []
unfolding read
at_end zero a s v le = refl
at_end (suc n) a s v le = let t : nat_lt v.next (length s) ≡ false = grind (arith, nat_tests) in rw t refl

-- ---- properties so far, and the rest

pub after : List Property → Result (List Property) PropertyError → Result (List Property) PropertyError
after done (Ok rest) = Ok (done ++ rest)
after done (Err error) = Err error

-- what is read in all, after these
pub record Reads (a : Architecture) (s : List ℕ) (done : List Property) (v : Reading) : Type 0 where
  pub begun : v.next ≤ v.end
  pub ended : v.end ≤ length s
  pub whole : properties_of a s ≡ after done (read (length s) a s v)

pub nothing_read : (a : Architecture) (s : List ℕ) → Reads a s [] start
unfolding after
nothing_read a s = record {
  begun = omega arith;
  ended = omega arith;
  whole = elim (properties_of a s) as (λ r. r ≡ after [] r) [ Ok xs ↦ refl | Err e ↦ refl ];
}

after_one : (done : List Property) (p : Property) (r : Result (List Property) PropertyError)
    → after done (before (Some p) r) ≡ after (done ++ p ∷ []) r
unfolding after
after_one done p (Ok xs) = ap Ok (sym (append_assoc done (p ∷ []) xs))
after_one done p (Err e) = refl

pub with_one : (a : Architecture) (s : List ℕ) (done : List Property) (v w : Reading) (p : Property)
    → v.next < length s → visit a s v ≡ Ok w → w.property ≡ Some p
    → Reads a s done v → Reads a s (done ++ p ∷ []) w
with_one a s done v w p lt e q r =
    let i = inside a s v w r.begun r.ended e in record {
      begun = i.begun;
      ended = i.ended;
      whole = r.whole ∙ ap (after done) (on_step a s v w r.begun r.ended lt e
          ∙ ap (λ o. before o (read (length s) a s w)) q) ∙ after_one done p (read (length s) a s w);
    }

pub with_none : (a : Architecture) (s : List ℕ) (done : List Property) (v w : Reading)
    → v.next < length s → visit a s v ≡ Ok w → w.property ≡ None
    → Reads a s done v → Reads a s done w
with_none a s done v w lt e q r =
    let i = inside a s v w r.begun r.ended e in record {
      begun = i.begun;
      ended = i.ended;
      whole = r.whole ∙ ap (after done) (on_step a s v w r.begun r.ended lt e
          ∙ ap (λ o. before o (read (length s) a s w)) q);
    }

pub with_error : (a : Architecture) (s : List ℕ) (done : List Property) (v : Reading) (error : PropertyError)
    → v.next < length s → visit a s v ≡ Err error → Reads a s done v → properties_of a s ≡ Err error
unfolding after
with_error a s done v error lt e r = r.whole ∙ ap (after done) (on_error a s v error lt e)

pub all_read : (a : Architecture) (s : List ℕ) (done : List Property) (v : Reading) → length s ≤ v.next
    → Reads a s done v → properties_of a s ≡ Ok done
unfolding after
all_read a s done v le r =
    r.whole ∙ ap (after done) (at_end (length s) a s v le) ∙ ap Ok (append-nil done)
