-- Notes that are written word by word.
use Rattle.linker_output.proofs.Imports.{All, Architecture, AreSlim, Err, IsWritable, List, None, Ok, Option, Present, Property, PropertyError, PropertyRule, Puts, Result, Same, Some, WritesNote, [], ap, append_assoc, arith, bytes_of, drop, drop-append-add, drop-drop, drop_at, false, length, length-append, length-take-le, list_words, nat_lt, nat_tests, note_words, property_words, refl, rule_of, size_of, subst, sym, take, take-append-drop, take_at, to_le_bytes, w64, with_words, words_by, ℕ, ◌*◌, ◌++◌, ◌+◌, ◌^◌, ◌∙◌, ◌∷◌, ◌≡◌, ◌≢◌, ◌≤◌}
use Rattle.linker_output.specs.Properties.{words_from}

-- ---- bytes

pub length_bytes : (ws : List ℕ) → length (bytes_of ws) ≡ 8 * length ws
unfolding bytes_of
length_bytes [] = refl
length_bytes (w ∷ ws) = (let e = length_bytes ws in omega arith)

pub bytes_append : (ws vs : List ℕ) → bytes_of (ws ++ vs) ≡ bytes_of ws ++ bytes_of vs
unfolding bytes_of
bytes_append [] vs = refl
bytes_append (w ∷ ws) vs = ap (λ bs. to_le_bytes w64 w ++ bs) (bytes_append ws vs)

-- the bytes up to the end of the words, and those after
through_words : (at : ℕ) (ws before : List ℕ) → at + 8 * length ws ≤ length before
    → take (at + 8 * length ws) (take at before ++ (bytes_of ws ++ drop (at + 8 * length ws) before)) ≡ take at before ++ bytes_of ws
through_words at ws before room =
    let len : length (take at before ++ bytes_of ws) ≡ at + 8 * length ws =
    length-append (take at before) (bytes_of ws) ∙ (let e = length-take-le at before (omega arith) in let f = length_bytes ws in omega arith) in
    rw (← append_assoc (take at before) (bytes_of ws) (drop (at + 8 * length ws) before))
    (take_at (take at before ++ bytes_of ws) (drop (at + 8 * length ws) before) (at + 8 * length ws) len)

after_words : (at : ℕ) (ws before : List ℕ) (n : ℕ) → at + 8 * length ws ≤ length before
    → drop (at + 8 * length ws + n) (take at before ++ (bytes_of ws ++ drop (at + 8 * length ws) before)) ≡ drop (at + 8 * length ws + n) before
after_words at ws before n room =
    let front = take at before ++ bytes_of ws in
    let rest = drop (at + 8 * length ws) before in
    let len : length front ≡ at + 8 * length ws =
    length-append (take at before) (bytes_of ws) ∙ (let e = length-take-le at before (omega arith) in let f = length_bytes ws in omega arith) in
    rw (← append_assoc (take at before) (bytes_of ws) rest)
    (ap (λ m. drop (m + n) (front ++ rest)) (sym len) ∙ drop-append-add front rest n ∙ drop-drop n (at + 8 * length ws) before)

pub puts_append : (at next : ℕ) (ws vs before middle after : List ℕ) → next ≡ at + 8 * length ws
    → length middle ≡ length before → Puts at ws before middle → Puts next vs middle after
    → Puts at (ws ++ vs) before after
puts_append at next ws vs before middle after next_is same one two = record {
  put = λ room.
      let lens = length-append ws vs in
      let fit : at + 8 * length ws ≤ length before = omega arith in
      let end : at + 8 * length ws + 8 * length vs ≡ at + 8 * length (ws ++ vs) = omega arith in
      let m = one.put fit in
      let a = two.put (omega arith) in
      let front : take next middle ≡ take at before ++ bytes_of ws =
      subst (λ n. take n middle ≡ take at before ++ bytes_of ws) (sym next_is) (ap (take (at + 8 * length ws)) m ∙ through_words at ws before fit) in
      let rest : drop (next + 8 * length vs) middle ≡ drop (at + 8 * length (ws ++ vs)) before =
      subst (λ n. drop (n + 8 * length vs) middle ≡ drop (at + 8 * length (ws ++ vs)) before) (sym next_is)
      (ap (drop (at + 8 * length ws + 8 * length vs)) m ∙ after_words at ws before (8 * length vs) fit ∙ ap (λ n. drop n before) end) in
      let bs = bytes_append ws vs in
      a ∙ ap (λ xs. xs ++ (bytes_of vs ++ drop (next + 8 * length vs) middle)) front
      ∙ ap (λ xs. (take at before ++ bytes_of ws) ++ (bytes_of vs ++ xs)) rest
      ∙ append_assoc (take at before) (bytes_of ws) (bytes_of vs ++ drop (at + 8 * length (ws ++ vs)) before)
      ∙ ap (λ xs. take at before ++ xs) (sym (append_assoc (bytes_of ws) (bytes_of vs) (drop (at + 8 * length (ws ++ vs)) before)))
      ∙ ap (λ xs. take at before ++ (xs ++ drop (at + 8 * length (ws ++ vs)) before)) (sym bs);
}

put_nothing : (at : ℕ) (before : List ℕ) → before ≡ take at before ++ (bytes_of [] ++ drop (at + 8 * 0) before)
unfolding bytes_of
put_nothing at before =
    let z : at + 8 * 0 ≡ at = omega arith in rw z (sym (take-append-drop at before))

pub puts_none : (at : ℕ) (before : List ℕ) → Puts at [] before before
puts_none at before = record {
  put = λ room. put_nothing at before;
}

pub other_words : (rule : PropertyRule) (p : Property) → rule ≢ Present → rule ≢ Same
    → property_words rule p ≡ (p.kind + 2 ^ 32 * size_of rule) ∷ p.value ∷ []
other_words Present p one two = absurd (one refl)
other_words Same p one two = absurd (two refl)
other_words other p one two = refl

-- ---- the words of a list

-- the words so far, before those of what is left
pub record Words (a : Architecture) (all : List Property) (done : List ℕ) (least index : ℕ) (left : List Property) : Type 0 where
  pub whole : list_words a all ≡ with_words done (words_from a least index left)
  pub slim : AreSlim left → AreSlim all

no_words : (r : Result (List ℕ) PropertyError) → r ≡ with_words [] r
no_words (Ok ws) = refl
no_words (Err e) = refl

pub none_yet : (a : Architecture) (all : List Property) → Words a all [] 0 0 all
none_yet a all = record { whole = no_words (list_words a all); slim = λ s. s }

more_words : (ws vs : List ℕ) (r : Result (List ℕ) PropertyError)
    → with_words ws (with_words vs r) ≡ with_words (ws ++ vs) r
more_words ws vs (Ok xs) = ap Ok (sym (append_assoc ws vs xs))
more_words ws vs (Err e) = refl

one_step : (a : Architecture) (least index : ℕ) (p : Property) (rule : PropertyRule) (left : List Property)
    → IsWritable a least p rule
    → words_from a least index (p ∷ left) ≡ with_words (property_words rule p) (words_from a (p.kind + 1) (index + 1) left)
one_step a least index p rule left w =
    let above : nat_lt p.kind least ≡ false = (let h = w.above in grind (arith, nat_tests)) in
    rw (above, w.known, w.fit) refl

pub one_more : (a : Architecture) (all : List Property) (done : List ℕ) (least index : ℕ) (p : Property) (rule : PropertyRule) (left : List Property)
    → IsWritable a least p rule → Words a all done least index (p ∷ left)
    → Words a all (done ++ property_words rule p) (p.kind + 1) (index + 1) left
one_more a all done least index p rule left w h = record {
  whole = h.whole ∙ ap (with_words done) (one_step a least index p rule left w)
      ∙ more_words done (property_words rule p) (words_from a (p.kind + 1) (index + 1) left);
  slim = λ s. h.slim (w.slim, s);
}

pub word_count : (rule : PropertyRule) (p : Property) → length (property_words rule p) ≤ 3
word_count All p = omega arith
word_count other p = omega arith

-- ---- the header

by_some : (rule : Option PropertyRule) (p : Property) (rest : Result (List ℕ) PropertyError)
    → words_by rule p rest ≡ Ok [] → ⊥
by_some None p rest e = absurd (cc)
by_some (Some rule) p (Ok rest) e = grind (arith, nat_tests)
by_some (Some rule) p (Err error) e = grind (arith, nat_tests)

from_some : (a : Architecture) (least index : ℕ) (p : Property) (ps : List Property)
    → words_from a least index (p ∷ ps) ≡ Ok [] → ⊥
from_some a least index p ps e =
    let h = by_some (rule_of a p.kind) p (words_from a (p.kind + 1) (index + 1) ps) in grind (arith, nat_tests)

pub with_header : (a : Architecture) (ps : List Property) (ws : List ℕ) → ps ≢ [] → list_words a ps ≡ Ok ws
    → note_words ws ≡ (4 + 2 ^ 32 * (8 * length ws)) ∷ 0x00554e4700000005 ∷ ws
with_header a [] ws some e = absurd (some refl)
with_header a (p ∷ ps) [] some e = absurd (from_some a 0 0 p ps e)
with_header a (p ∷ ps) (w ∷ ws) some e = refl

pub header_put : (h n : ℕ) (ws before middle one after : List ℕ) → 16 + 8 * length ws ≤ length before
    → length middle ≡ length before → length one ≡ length before
    → Puts 16 ws before middle → Puts 0 (h ∷ []) middle one → Puts 8 (n ∷ []) one after
    → after ≡ bytes_of (h ∷ n ∷ ws) ++ drop (16 + 8 * length ws) before
header_put h n ws before middle one after room same same_one p q r =
    let rest = drop (16 + 8 * length ws) before in
    let both : Puts 0 (h ∷ n ∷ []) middle after = puts_append 0 8 (h ∷ []) (n ∷ []) middle one after (omega arith) (omega arith) q r in
    let d : drop 16 middle ≡ bytes_of ws ++ rest = ap (drop 16) (p.put room) ∙ drop_at (take 16 before) (bytes_of ws ++ rest) 16 (length-take-le 16 before (omega arith)) in
    (both.put (omega arith)) ∙ ap (λ xs. bytes_of (h ∷ n ∷ []) ++ xs) d ∙ sym (append_assoc (bytes_of (h ∷ n ∷ [])) (bytes_of ws) rest)
    ∙ ap (λ xs. xs ++ rest) (sym (bytes_append (h ∷ n ∷ []) ws))

pub empty_note : (a : Architecture) (ps : List Property) (before : List ℕ) → length ps ≡ 0 → WritesNote a ps before before 0
unfolding bytes_of
empty_note a [] before none = record {
  words = [];
  sound = refl;
  len_is = refl;
  within = omega arith;
  written = refl;
}
empty_note a (p ∷ ps) before none = absurd (omega arith)
