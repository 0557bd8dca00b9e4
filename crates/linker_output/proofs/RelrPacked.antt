-- The words that the code makes relocate the addresses.
use Rattle.linker_output.proofs.Imports.{Bool, List, None, Option, Packs, RejectsAddresses, RelrError, Some, TooShort, [], address_fault, ap, append-nil, append_assoc, are_addresses, arith, bit_at, bit_at_above, bit_at_lowest, bit_at_set_other, bit_at_set_same, bit_or, cases_Bool, cond, false, inl, inr, is_past, length, list_all, marked, nat_eq, nat_tests, refl, relocated, relr_fault, subst, suc, sym, true, w64, word_fault, words_from, words_of, zero, ℕ, ◌%◌, ◌*◌, ◌++◌, ◌+◌, ◌-◌, ◌/◌, ◌<◌, ◌^◌, ◌∙◌, ◌∷◌, ◌≡◌, ◌≢◌, ◌≤◌, ◌⊎◌}
use Rattle.linker_output.proofs.RelrLists.{is_sound, no_fault}
use Rattle.linker_output.proofs.RelrFewest.{cost, cost_next, cost_words}
use Rattle.linker_output.proofs.RelrWords.{past_words, near_words, far_words, clean}
use Rattle.linker_section.proofs.Saving.{plus_one}

-- ---- bitmaps

-- a bitmap without a bit marks none
pub marked_none : (n base : ℕ) → marked n base 1 ≡ []
unfolding marked
marked_none zero base = refl
marked_none (suc n) base =
    rw (marked_none n base, (bit_at_above 1 1 (n + 1) (omega arith) (omega arith)))

-- a bit at k, above which a bitmap has none
with_bit : ℕ → ℕ → ℕ
with_bit bitmap k = bit_or bitmap (1 * 2 ^ k % 2 ^ 64)

marked_below : (n base bitmap k : ℕ) → k < 64 → n < k → marked n base (with_bit bitmap k) ≡ marked n base bitmap
unfolding marked with_bit
marked_below zero base bitmap k small h = refl
marked_below (suc n) base bitmap k small h =
    rw (marked_below n base bitmap k small (omega arith), (bit_at_set_other w64 bitmap k small (n + 1) (omega arith)))

-- no bit at k or above
record IsBelow (bitmap k : ℕ) : Type 0 where
  none : (i : ℕ) → k ≤ i → bit_at bitmap i ≡ 0

marked_at : (base bitmap k : ℕ) → suc k < 64 → IsBelow bitmap (suc k) → marked (suc k) base (with_bit bitmap (suc k)) ≡ marked (suc k) base bitmap ++ (base + 8 * k) ∷ []
unfolding marked with_bit
marked_at base bitmap k small h =
    let e : bit_at (with_bit bitmap (suc k)) (k + 1) ≡ 1 = rw (← plus_one k) (bit_at_set_same w64 bitmap (suc k) small) in
    rw (marked_below k base bitmap (suc k) small (omega arith), e, (h.none (k + 1) (omega arith)), append-nil)

order : (k n : ℕ) → (suc n ≤ k) ⊎ (k ≤ n)
order k n = grind arith

-- one more word is not marked by the bit, nor by the bitmap
marked_step : (n base bitmap k : ℕ) → k < 64 → k ≤ n → IsBelow bitmap k → marked n base (with_bit bitmap k) ≡ marked n base bitmap ++ (base + 8 * (k - 1)) ∷ [] → marked (suc n) base (with_bit bitmap k) ≡ marked (suc n) base bitmap ++ (base + 8 * (k - 1)) ∷ []
unfolding marked with_bit
marked_step n base bitmap k small le h e =
    let f : bit_at bitmap (n + 1) ≡ 0 = h.none (n + 1) (omega arith) in
    let g : bit_at (with_bit bitmap k) (n + 1) ≡ 0 = bit_at_set_other w64 bitmap k small (n + 1) (omega arith) ∙ f in
    rw (e, g, f, append-nil, append-nil)

marked_more : (n base bitmap k : ℕ) → 1 ≤ k → k < 64 → k ≤ n → IsBelow bitmap k → marked n base (with_bit bitmap k) ≡ marked n base bitmap ++ (base + 8 * (k - 1)) ∷ []
marked_more zero base bitmap k some small le h = absurd (omega arith)
marked_more (suc n) base bitmap k some small le h =
    elim (order k n) [
      | inl same ↦
          let one : suc (k - 1) ≡ k = omega arith in
          let n_is : suc n ≡ suc (k - 1) = omega arith in
          rw n_is (subst (λ j. marked (suc (k - 1)) base (with_bit bitmap j) ≡ marked (suc (k - 1)) base bitmap ++ (base + 8 * (k - 1)) ∷ []) one
          (marked_at base bitmap (k - 1) (omega arith) (subst (IsBelow bitmap) (sym one) h)))
      | inr below ↦ marked_step n base bitmap k small below h (marked_more n base bitmap k some small below h)
    ]

-- ---- all words

-- how many words the bits so far take, and the end of the addresses that are in words
pending : ℕ → ℕ
pending bitmap = cond (nat_eq bitmap 1) 0 1

end : ℕ → ℕ → ℕ
end base bitmap = cond (nat_eq bitmap 1) (base + 8) (base + 512)

record Good (base bitmap : ℕ) (xs : List ℕ) : Type 0 where
  exact : relocated (base + 8) (words_from base bitmap xs) ≡ marked 63 (base + 8) bitmap ++ xs
  sound : list_all is_sound (words_from base bitmap xs) ≡ true
  counted : length (words_from base bitmap xs) ≡ pending bitmap + cost xs (end base bitmap)

-- bits count from the base, and bit d is the last one
record State (base bitmap d : ℕ) : Type 0 where
  aligned : base % 8 ≡ 0
  odd : bitmap % 2 ≡ 1
  last : IsBelow bitmap (d + 1)

begun : (a : ℕ) → a % 8 ≡ 0 → State a 1 0
begun a h = record { aligned = h; odd = refl; last = record { none = λ i le. bit_at_above 1 1 i (omega arith) le } }

with_state : (base bitmap d k : ℕ) → State base bitmap d → d < k → k < 64 → State base (with_bit bitmap k) k
unfolding with_bit
with_state base bitmap d k s above small = record {
  aligned = s.aligned;
  odd = sym (bit_at_lowest (with_bit bitmap k)) ∙ (bit_at_set_other w64 bitmap k small 0 (omega arith) ∙ (bit_at_lowest bitmap ∙ s.odd));
  last = record { none = λ i le. bit_at_set_other w64 bitmap k small i (omega arith) ∙ s.last.none i (omega arith) };
}

with_some : (bitmap k : ℕ) → 1 ≤ k → k < 64 → with_bit bitmap k ≢ 1
unfolding with_bit
with_some bitmap k some small e =
    let one : bit_at 1 k ≡ 1 = subst (λ n. bit_at n k ≡ 1) e (bit_at_set_same w64 bitmap k small) in
    let none : bit_at 1 k ≡ 0 = bit_at_above 1 1 k (omega arith) some in omega arith

pending_some : (bitmap : ℕ) → bitmap ≢ 1 → pending bitmap ≡ 1
unfolding pending
pending_some bitmap h = grind (arith, nat_tests)

end_some : (base bitmap : ℕ) → bitmap ≢ 1 → end base bitmap ≡ base + 512
unfolding end
end_some base bitmap h = grind (arith, nat_tests)

zero_of : (n : ℕ) → 0 + n ≡ n
zero_of n = omega arith

suc_of : (n : ℕ) → suc n ≡ 1 + n
suc_of n = omega arith

near_cost : (base bitmap a : ℕ) (xs : List ℕ) → base % 8 ≡ 0 → a % 8 ≡ 0 → base < a → (a - base) / 8 < 64 → 1 + cost xs (base + 512) ≡ pending bitmap + cost (a ∷ xs) (end base bitmap)
unfolding cost cost_next pending end
near_cost base bitmap a xs p q below near =
    let e : base + 8 + 504 ≡ base + 512 = omega arith in
    let f : (base + 512) ≡ base + 8 + 504 = omega arith in grind (arith, nat_tests, e)

far_cost : (base a : ℕ) (xs : List ℕ) → base < a → 64 ≤ (a - base) / 8 → 1 + cost xs (a + 8) ≡ cost (a ∷ xs) (base + 8)
unfolding cost cost_next
far_cost base a xs below far = grind (arith, nat_tests)

near_good : (base bitmap d a : ℕ) (xs : List ℕ) → State base bitmap d → is_past base bitmap a ≡ false → a % 8 ≡ 0 → base + 8 * d < a → (a - base) / 8 < 64 → Good base (with_bit bitmap ((a - base) / 8)) xs → Good base bitmap (a ∷ xs)
unfolding with_bit
near_good base bitmap d a xs s within q above near g =
    let k = (a - base) / 8 in
    let some : 1 ≤ k = omega arith in
    let more : d < k = omega arith in
    let w : words_from base bitmap (a ∷ xs) ≡ words_from base (with_bit bitmap k) xs = near_words base bitmap a xs within near in
    let below : IsBelow bitmap k = record { none = λ i le. s.last.none i (omega arith) } in
    let at : base + 8 + 8 * (k - 1) ≡ a = omega arith in
    let t : end base (with_bit bitmap k) ≡ base + 512 = end_some base (with_bit bitmap k) (with_some bitmap k some near) in record {
      exact = rw w (g.exact ∙ (ap (λ ys. ys ++ xs) (rw at at (marked_more 63 (base + 8) bitmap k some near (omega arith) below)) ∙ append_assoc (marked 63 (base + 8) bitmap) (a ∷ []) xs));
      sound = rw w g.sound;
      counted = rw w (rw ((pending_some (with_bit bitmap k) (with_some bitmap k some near)), t) at g.counted ∙ near_cost base bitmap a xs s.aligned q (omega arith) near);
    }

far_good : (base bitmap a : ℕ) (xs : List ℕ) → bitmap ≡ 1 → a % 8 ≡ 0 → base < a → 64 ≤ (a - base) / 8 → Good a 1 xs → Good base bitmap (a ∷ xs)
unfolding pending end
far_good base bitmap a xs one q above far g =
    let w : words_from base bitmap (a ∷ xs) ≡ a ∷ words_from a 1 xs = rw one (far_words base a xs far) in
    let even : a % 2 ≡ 0 = omega arith in
    let n : length (words_from a 1 xs) ≡ cost xs (a + 8) = g.counted ∙ zero_of (cost xs (a + 8)) in record {
      exact = rw (w, even, g.exact, marked_none 63 (a + 8), one, marked_none 63 (base + 8));
      sound = rw (w, even, q) g.sound;
      counted = rw (w, one) (ap suc n ∙ (suc_of (cost xs (a + 8)) ∙ (far_cost base a xs above far ∙ sym (zero_of (cost (a ∷ xs) (base + 8))))));
    }

-- an address after the bits so far
placed : (base bitmap d a : ℕ) (xs : List ℕ) → State base bitmap d → is_past base bitmap a ≡ false → a % 8 ≡ 0 → base + 8 * d < a → ((b m e : ℕ) → State b m e → b + 8 * e < a + 1 → Good b m xs) → Good base bitmap (a ∷ xs)
placed base bitmap d a xs s within q above rest =
    let al = s.aligned in
    elim (order 64 ((a - base) / 8)) [
      | inl near ↦ near_good base bitmap d a xs s within q above (omega arith) (rest base _ ((a - base) / 8) (with_state base bitmap d _ s (omega arith) (omega arith)) (omega arith))
      | inr far ↦ far_good base bitmap a xs (clean base bitmap a within far) q (omega arith) far (rest a 1 0 (begun a q) (omega arith))
    ]

record IsFull (base bitmap a : ℕ) : Type 0 where
  some : bitmap ≢ 1
  far : 512 ≤ a - base

is_full : (base bitmap a : ℕ) → is_past base bitmap a ≡ true → IsFull base bitmap a
is_full base bitmap a h = record { some = grind (arith, nat_tests); far = grind (arith, nat_tests) }

full_exact : (base next bitmap : ℕ) (ws xs : List ℕ) → bitmap % 2 ≡ 1 → base + 504 ≡ next → relocated next ws ≡ xs → relocated base (bitmap ∷ ws) ≡ marked 63 base bitmap ++ xs
full_exact base next bitmap ws xs odd e h = rw (odd, e, h)

past_good : (base bitmap a : ℕ) (xs : List ℕ) → bitmap % 2 ≡ 1 → IsFull base bitmap a → Good (base + 504) 1 (a ∷ xs) → Good base bitmap (a ∷ xs)
unfolding pending end
past_good base bitmap a xs odd h g =
    let w : words_from base bitmap (a ∷ xs) ≡ bitmap ∷ words_from (base + 504) 1 (a ∷ xs) = past_words base bitmap a xs h.some h.far in
    let to : base + 504 + 8 ≡ base + 512 = omega arith in
    let x : relocated (base + 504 + 8) (words_from (base + 504) 1 (a ∷ xs)) ≡ a ∷ xs = g.exact ∙ ap (λ ys. ys ++ (a ∷ xs)) (marked_none 63 (base + 504 + 8)) in
    let n : length (words_from (base + 504) 1 (a ∷ xs)) ≡ cost (a ∷ xs) (base + 512) = g.counted ∙ (zero_of (cost (a ∷ xs) (base + 504 + 8)) ∙ ap (cost (a ∷ xs)) to) in record {
      exact = rw w (full_exact (base + 8) (base + 504 + 8) bitmap (words_from (base + 504) 1 (a ∷ xs)) (a ∷ xs) odd (omega arith) x);
      sound = rw (w, odd) g.sound;
      counted = rw (w, (pending_some bitmap h.some), (end_some base bitmap h.some)) (ap suc n ∙ suc_of (cost (a ∷ xs) (base + 512)));
    }

record Parts (least a : ℕ) (xs : List ℕ) : Type 0 where
  aligned : a % 8 ≡ 0
  above : least ≤ a
  rest : address_fault (a + 1) xs ≡ None

parts : (least a : ℕ) (xs : List ℕ) → address_fault least (a ∷ xs) ≡ None → Parts least a xs
parts least a xs h = record { aligned = grind (arith, nat_tests); above = grind (arith, nat_tests); rest = grind (arith, nat_tests) }

last_good : (base bitmap d : ℕ) → State base bitmap d → Good base bitmap []
unfolding pending end cost
last_good base bitmap d s =
    elim (cases_Bool (nat_eq bitmap 1)) [
      | inl one ↦ let e : bitmap ≡ 1 = grind (arith, nat_tests) in rw e (record { exact = rw (marked_none 63 (base + 8)); sound = refl; counted = refl })
      | inr some ↦ record { exact = rw (some, s.odd, append-nil); sound = rw (some, s.odd); counted = rw some }
    ]

good : (xs : List ℕ) (base bitmap d least : ℕ) → State base bitmap d → base + 8 * d < least → address_fault least xs ≡ None → Good base bitmap xs
good [] base bitmap d least s above h = last_good base bitmap d s
good (a ∷ xs) base bitmap d least s above h =
    let p = parts least a xs h in
    let al = s.aligned in
    let le = p.above in
    let rest : (b m e : ℕ) → State b m e → b + 8 * e < a + 1 → Good b m xs = λ b m e t le. good xs b m e (a + 1) t le p.rest in
    elim (cases_Bool (is_past base bitmap a)) [
      | inl past ↦
          let f = is_full base bitmap a past in
          past_good base bitmap a xs s.odd f (placed (base + 504) 1 0 a xs (begun (base + 504) (omega (arith, f.far))) refl p.aligned (omega (arith, f.far)) rest)
      | inr within ↦ placed base bitmap d a xs s within p.aligned (omega arith) rest
    ]

-- the first word is an address
started : (w : ℕ) (ws : List ℕ) → relr_fault (w ∷ ws) ≡ None → nat_eq (w % 2) 0 ≡ true
started w ws f = grind (arith, nat_tests)

pick : {X : Type 0} (b : Bool) (x y : Option X) → b ≡ true → x ≡ None → cond b x y ≡ None
pick b x y e h = rw e h

first_fault : (w : ℕ) (ws : List ℕ) → nat_eq (w % 2) 0 ≡ true → word_fault 0 (w ∷ ws) ≡ None → relr_fault (w ∷ ws) ≡ None
first_fault w ws even h = pick _ _ _ even h

first_sound : (w : ℕ) (ws : List ℕ) → nat_eq (w % 8) 0 ≡ true → list_all is_sound ws ≡ true → list_all is_sound (w ∷ ws) ≡ true
first_sound w ws multiple h = grind (arith, nat_tests)

one_counted : (a : ℕ) (xs : List ℕ) → Good a 1 xs → length (words_from a 1 xs) ≡ cost xs (a + 8)
unfolding pending end
one_counted a xs g = g.counted ∙ zero_of (cost xs (a + 8))

others_cost : (others : List ℕ) (a : ℕ) (xs : List ℕ) → relr_fault others ≡ None → relocated 0 others ≡ a ∷ xs → suc (cost xs (a + 8)) ≤ length others
others_cost [] a xs f e = absurd (cc)
others_cost (w ∷ ws) a xs f e =
    let g : w ∷ relocated (w + 8) ws ≡ a ∷ xs = rw (started w ws f) at e in
    let w_is : w ≡ a = cc in
    let ws_are : relocated (a + 8) ws ≡ xs = cc in
    let c : cost xs (a + 8) ≤ length ws = subst (λ ys. cost ys (a + 8) ≤ length ws) ws_are (cost_words (a + 8) ws) in omega arith

packs_more : (a : ℕ) (xs : List ℕ) → are_addresses (a ∷ xs) ≡ true → address_fault 0 (a ∷ xs) ≡ None → Packs (a ∷ xs) (a ∷ words_from a 1 xs)
packs_more a xs fit h =
    let p = parts 0 a xs h in
    let g = good xs a 1 0 (a + 1) (begun a p.aligned) (omega arith) p.rest in
    let even : nat_eq (a % 2) 0 ≡ true = grind (arith, nat_tests) in
    let exact : relocated 0 (a ∷ words_from a 1 xs) ≡ a ∷ xs = rw (even, g.exact, marked_none 63 (a + 8)) in
    let sound : list_all is_sound (a ∷ words_from a 1 xs) ≡ true = first_sound a (words_from a 1 xs) (grind (arith, nat_tests)) g.sound in record {
      sound = first_fault a (words_from a 1 xs) even (no_fault (a ∷ words_from a 1 xs) 0 (subst (λ ys. are_addresses ys ≡ true) (sym exact) fit) sound);
      exact = exact;
      fewest = λ others f e. (let c = others_cost others a xs f e in omega (arith, one_counted a xs g, p.aligned));
    }

pub packs : (xs : List ℕ) → are_addresses xs ≡ true → address_fault 0 xs ≡ None → Packs xs (words_of xs)
packs [] fit h = record { sound = refl; exact = refl; fewest = λ others f e. omega arith }
packs (a ∷ xs) fit h = packs_more a xs fit h

-- ---- outcomes

short_step : (least x : ℕ) (xs : List ℕ) (n : ℕ) → (address_fault (x + 1) xs ≡ Some (TooShort n) → ⊥) → address_fault least (x ∷ xs) ≡ Some (TooShort n) → ⊥
short_step least x xs n h f = grind (arith, nat_tests)

none_short : (xs : List ℕ) (least n : ℕ) → address_fault least xs ≡ Some (TooShort n) → ⊥
none_short [] least n h = absurd (cc)
none_short (x ∷ xs) least n h = short_step least x xs n (none_short xs (x + 1) n) h

-- of addresses no fault is that of the slice
pub rejected : (xs : List ℕ) (least room : ℕ) (all : List ℕ) (error : RelrError) → address_fault least xs ≡ Some error → address_fault 0 all ≡ Some error → RejectsAddresses all room error
rejected xs least room all (TooShort n) h g = absurd (none_short xs least n h)
rejected xs least room all other h g = g

few_step : (x : ℕ) (xs : List ℕ) (e : ℕ) → ((d : ℕ) → cost xs d ≤ length xs) → cost_next e x (cost xs) ≤ suc (length xs)
unfolding cost_next
few_step x xs e h =
    let c = h (x + 8) in grind (arith, nat_tests, (h e), (h (e + 504)), c)

-- no more words than addresses
few : (xs : List ℕ) (e : ℕ) → cost xs e ≤ length xs
unfolding cost
few [] e = omega arith
few (x ∷ xs) e = few_step x xs e (few xs)

pub few_words : (xs : List ℕ) → are_addresses xs ≡ true → address_fault 0 xs ≡ None → length (words_of xs) ≤ length xs
few_words [] fit h = omega arith
few_words (a ∷ xs) fit h =
    let p = parts 0 a xs h in
    let f = few xs (a + 8) in omega (arith, one_counted a xs (good xs a 1 0 (a + 1) (begun a p.aligned) (omega arith) p.rest))
