-- PowerPC64's functions that save and restore registers.
use Rattle.linker_output.proofs.Imports.{Bool, Counted, IsSomeAnd, List, Memory, None, Option, Run, Some, [], ap, arith, blr, cases_lt, codes, cond-false, cond-true, difference_64, eq-eqb, eqb, eqb-true, false, false≢true, field, if◌then◌else◌, inl, inr, ints, le-leb, le-ltb, length, load_link, loaded, lt-leb, lt-ltb, moved, moved_to_link, mtlr_0, nat_le, nat_lt, ne_eqb, negsuc, own_word, place_sum, pos, refl, run_word, save_link, spacing_with, stored, subst, suc, sum_64, sym, true, with_state, wrapped_is, zero, ℕ, ⊤, ◌%◌, ◌&&◌, ◌*◌, ◌+ℤ◌, ◌+◌, ◌-◌, ◌/◌, ◌<◌, ◌^◌, ◌∙◌, ◌∷◌, ◌≡◌, ◌≢◌, ◌≤◌}
use Rattle.linker_laws.specs.Ppc64Machine.{Formats, write, store, go_on, with_number, write_float, State}
use Rattle.linker_output.specs.Ppc64Saves.{returned, word_or_0, code_for, slot, is_from, saved, restored, Saves, Returns, Returned, Restores, RestoresIntegers, RestoresFloats, integers, floats, nothing_more, return_address, step, run, words_from}
use Rattle.linker_output.proofs.LazyRuns.{run_more}
use Rattle.linker_output.specs.Ppc64Output.{of_registers}
use Rattle.linker_output.specs.Ppc64Saves as laws

-- ---- what holds of each number below another

abbrev pub Below : (ℕ → Type 0) → ℕ → Type 0
Below P zero = ⊤
Below P (suc n) = Below P n × P n

pub below_at : (P : ℕ → Type 0) (n : ℕ) → Below P n → (i : ℕ) → i < n → P i
below_at P zero all i less = absurd (omega (arith, less))
below_at P (suc n) all i less =
    elim (cases_lt i n) [
      | inl under ↦ below_at P n (all.0) i under
      | inr over ↦ subst P (let e : n ≡ i = omega (arith, less, over) in e) (all.1)
    ]

-- ---- runs over registers

-- the instruction of a register, by its index
abbrev word_at : Run → ℕ → ℕ
word_at r i = (r.word + r.step * i) % 2 ^ 32

-- what n registers leave, up to the last index
abbrev pub after : {S : Type 0} → ℕ → (ℕ → S → S) → ℕ → S → S
after last one zero c = c
after last one (suc k) c = after last one k (one (last - k) c)

-- what each keeps
pub kept : {S A : Type 0} (last : ℕ) (one : ℕ → S → S) (part : S → A) → ((i : ℕ) (c : S) → part (one i c) ≡ part c)
    → (k : ℕ) (c : S) → part (after last one k c) ≡ part c
kept last one part keeps zero c = refl
kept last one part keeps (suc k) c = kept last one part keeps k (one (last - k) c) ∙ keeps (last - k) c

module _ (f : Formats) (r : Run) (count : r.count ≡ 18) (alone : r.second ≡ None) (y : ℕ) (ys : List ℕ) (last : words_from r 18 (length r.tail) ≡ y ∷ ys)
    (one : ℕ → Counted → Counted) (steps : (i : ℕ) → i < 18 → (c : Counted) → step f (word_at r i) c ≡ Some (one i c))
    (on : (i : ℕ) (c : Counted) → (one i c).state.pc ≡ sum_64 c.state.pc 4) where
  abbrev code : ℕ → List ℕ
  code zero = y ∷ ys
  code (suc k) = word_at r (17 - k) ∷ code k

  ran : (k : ℕ) → k ≤ 18 → (c : Counted) (end : Option Counted) → run f (y ∷ ys) (after 17 one k c) ≡ end → run f (code k) c ≡ end
  ran zero less c end e = e
  ran (suc zero) less c end e =
      run_more (λ c. c.state.pc) (step f) (word_at r 17) y ys c (one 17 c) end (steps 17 (omega arith) c) (on 17 c) e
  ran (suc (suc k)) less c end e =
      run_more (λ c. c.state.pc) (step f) (word_at r (17 - suc k)) (word_at r (17 - k)) (code k) c (one (17 - suc k) c) end
      (steps (17 - suc k) (omega arith) c) (on (17 - suc k) c) (ran (suc k) (omega (arith, less)) (one (17 - suc k) c) end e)

  found : (i : ℕ) → i < 18 → run_word r i ≡ Some (word_at r i)
  found i less =
      cond-true (nat_lt i (r.count * spacing_with r.second)) (Some (own_word r r.second i)) _
      (ap (λ s. nat_lt i (r.count * spacing_with s)) alone ∙ ap (λ n. nat_lt i (n * 1)) count
      ∙ lt-ltb i 18 less)
      ∙ ap (λ s. Some (own_word r s i)) alone

  words_are : (k : ℕ) → k ≤ 18 → words_from r (18 - k) (k + length r.tail) ≡ code k
  words_are zero less = ap (words_from r 18) (let e : 0 + length r.tail ≡ length r.tail = omega arith in e) ∙ last
  words_are (suc k) less =
      let index : 18 - suc k ≡ 17 - k = omega arith in
      let following : 17 - k + 1 ≡ 18 - k = omega (arith, less) in
      ap (λ j. words_from r (18 - suc k) j) (let e : suc k + length r.tail ≡ suc (k + length r.tail) = omega arith in e)
      ∙ ap (λ i. words_from r i (suc (k + length r.tail))) index
      ∙ ap (λ w. word_or_0 w ∷ words_from r (17 - k + 1) (k + length r.tail)) (found (17 - k) (omega arith))
      ∙ ap (λ i. word_at r (17 - k) ∷ words_from r i (k + length r.tail)) following
      ∙ ap (λ l. word_at r (17 - k) ∷ l) (words_are k (omega (arith, less)))

  pub runs : (n : ℕ) → 14 ≤ n → n < 32 → (c : Counted) (end : Option Counted) → run f (y ∷ ys) (after 17 one (32 - n) c) ≡ end
      → run f (code_for r n) c ≡ end
  runs n most less c end e =
      let index : n - 14 ≡ 18 - (32 - n) = omega (arith, most, less) in
      ap (λ i. run f (words_from r i (32 - n + length r.tail)) c) index
      ∙ ap (λ l. run f l c) (words_are (32 - n) (omega (arith, most)))
      ∙ ran (32 - n) (omega (arith, most)) c end e

-- ---- places

slot_is : (base n : ℕ) → n < 32 → slot 8 base n ≡ (base + (2 ^ 64 - 8 * (32 - n))) % 2 ^ 64
slot_is base n less =
    let few : suc (8 * (32 - n) - 1) ≡ 8 * (32 - n) = omega (arith, less) in
    wrapped_is (pos base +ℤ negsuc (8 * (32 - n) - 1)) 1 (base + (2 ^ 64 - suc (8 * (32 - n) - 1))) (omega (arith, ints))
    ∙ ap (λ m. (base + (2 ^ 64 - m)) % 2 ^ 64) few

-- a block of w bytes at p, and one of s bytes after it at q
module _ (a p q w s : ℕ) (place : p < 2 ^ 64) (follows : 0 < s → q ≡ (p + w) % 2 ^ 64) (small : w + s ≤ 2 ^ 64)
    (memory : Memory) (first others both : ℕ → ℕ) (of_first : (d : ℕ) → d < w → both d ≡ first d)
    (of_others : (d : ℕ) → w ≤ d → d < w + s → both d ≡ others (d - w)) where
  d : ℕ
  d = difference_64 a p

  e : ℕ
  e = difference_64 a q

  bound : d < 2 ^ 64
  unfolding d
  bound = omega arith

  moved_on : 0 < s → e ≡ (d + (2 ^ 64 - w)) % 2 ^ 64
  unfolding d e
  moved_on some = let is = follows some in omega (arith, is, small, place)

  at_d : if nat_lt e s then others e else (if nat_lt d w then first d else memory a)
      ≡ (if nat_lt d (w + s) then both d else memory a)
  at_d =
      elim (cases_lt d w) [
        | inl low ↦
            let out : s ≤ e = elim (cases_lt 0 s) [
              | inl some ↦ (let on = moved_on some in omega (arith, on, low, small))
              | inr none ↦ omega (arith, none)
            ] in
            cond-false (nat_lt e s) (others e) _ (le-ltb e s out)
            ∙ cond-true (nat_lt d w) (first d) (memory a) (lt-ltb d w low)
            ∙ sym (of_first d low)
            ∙ sym (cond-true (nat_lt d (w + s)) (both d) (memory a) (lt-ltb d (w + s) (omega (arith, low))))
        | inr high ↦
            elim (cases_lt d (w + s)) [
              | inl within ↦
                  let is : e ≡ d - w = omega (arith, (moved_on (omega (arith, high, within))), high, bound, small) in
                  cond-true (nat_lt e s) (others e) _ (lt-ltb e s (omega (arith, is, within, high)))
                  ∙ ap others is ∙ sym (of_others d high within)
                  ∙ sym (cond-true (nat_lt d (w + s)) (both d) (memory a) (lt-ltb d (w + s) within))
              | inr beyond ↦
                  let out : s ≤ e = elim (cases_lt 0 s) [
                    | inl some ↦ (let on = moved_on some in omega (arith, on, beyond, bound, small))
                    | inr none ↦ omega (arith, none)
                  ] in
                  cond-false (nat_lt e s) (others e) _ (le-ltb e s out)
                  ∙ cond-false (nat_lt d w) (first d) (memory a) (le-ltb d w high)
                  ∙ sym (cond-false (nat_lt d (w + s)) (both d) (memory a) (le-ltb d (w + s) beyond))
            ]
      ]

  pub joined : if nat_lt (difference_64 a q) s then others (difference_64 a q)
      else (if nat_lt (difference_64 a p) w then first (difference_64 a p) else memory a)
      ≡ (if nat_lt (difference_64 a p) (w + s) then both (difference_64 a p) else memory a)
  unfolding d e
  joined = at_d

abbrev byte_of : ℕ → (ℕ → ℕ) → ℕ → ℕ
byte_of n values d = field (values (n + d / 8)) (8 * (d % 8)) (8 * (d % 8) + 8)

-- a register more below those from the next one on
module _ (n : ℕ) (most : 14 ≤ n) (less : n < 32) (values : ℕ → ℕ) (base : ℕ) (memory : Memory) (a : ℕ) where
  follows : 0 < 8 * (32 - suc n) → slot 8 base (suc n) ≡ (slot 8 base n + 8) % 2 ^ 64
  follows some =
      let under : n < 31 = omega (arith, some) in
      omega (arith, (slot_is base n less), (slot_is base (suc n) (omega (arith, under))), under)

  of_first : (d : ℕ) → d < 8 → byte_of n values d ≡ field (values n) (8 * d) (8 * d + 8)
  of_first d low =
      ap (λ k. field (values k) (8 * (d % 8)) (8 * (d % 8) + 8)) (let e : n + d / 8 ≡ n = omega (arith, low) in e)
      ∙ ap (λ k. field (values n) (8 * k) (8 * k + 8)) (let e : d % 8 ≡ d = omega (arith, low) in e)

  of_others : (d : ℕ) → 8 ≤ d → d < 8 + 8 * (32 - suc n) → byte_of n values d ≡ byte_of (suc n) values (d - 8)
  of_others d high within =
      ap (λ k. field (values k) (8 * (d % 8)) (8 * (d % 8) + 8)) (let e : n + d / 8 ≡ suc n + (d - 8) / 8 = omega (arith, high) in e)
      ∙ ap (λ k. field (values (suc n + (d - 8) / 8)) (8 * k) (8 * k + 8)) (let e : d % 8 ≡ (d - 8) % 8 = omega (arith, high) in e)

  pub one_saved : saved 8 (suc n) values base (stored 8 (values n) (slot 8 base n) memory) a ≡ saved 8 n values base memory a
  one_saved =
      joined a (slot 8 base n) (slot 8 base (suc n)) 8 (8 * (32 - suc n)) (let p = slot_is base n less in omega (arith, p)) follows (omega arith) memory
      (λ d. field (values n) (8 * d) (8 * d + 8)) (byte_of (suc n) values) (byte_of n values) of_first of_others
      ∙ ap (λ k. if nat_lt (difference_64 a (slot 8 base n)) k then byte_of n values (difference_64 a (slot 8 base n)) else memory a)
      (let e : 8 + 8 * (32 - suc n) ≡ 8 * (32 - n) = omega (arith, less) in e)

-- ---- what one register leaves

-- a store, and loads
abbrev place : ℕ → State → ℕ → ℕ
place b s i = moved (s.registers b) (negsuc (143 - 8 * i))

abbrev stores : ℕ → (State → ℕ → ℕ) → ℕ → Counted → Counted
stores b values i c = with_state (go_on (store 8 (values c.state (14 + i)) (place b c.state i) c.state)) c

abbrev loads : ℕ → ℕ → Counted → Counted
loads b i c = with_state (go_on (write (14 + i) (loaded 8 c.state.memory (place b c.state i)) c.state)) c

abbrev loads_float : ℕ → ℕ → Counted → Counted
loads_float b i c = with_state (go_on (write_float (14 + i) (loaded 8 c.state.memory (place b c.state i)) c.state)) c

-- the index of a register, and its place
of_index : (k : ℕ) → k < 18 → 14 + (17 - k) ≡ 31 - k
of_index k less = omega (arith, less)

of_place : (k : ℕ) → k < 18 → 143 - 8 * (17 - k) ≡ 8 * (32 - (31 - k)) - 1
of_place k less = omega (arith, less)

-- ---- registers that are stored

module _ (b : ℕ) (values : State → ℕ → ℕ) (keeps : (i : ℕ) (c : Counted) → values (stores b values i c).state ≡ values c.state) where
  abbrev pub all : ℕ → Counted → Counted
  all = after 17 (stores b values)

  pub stored_registers : (k : ℕ) (c : Counted) → (all k c).state.registers ≡ c.state.registers
  stored_registers = kept 17 (stores b values) (λ (c : Counted). c.state.registers) (λ i c. refl)

  pub stored_floats : (k : ℕ) (c : Counted) → (all k c).state.floats ≡ c.state.floats
  stored_floats = kept 17 (stores b values) (λ (c : Counted). c.state.floats) (λ i c. refl)

  saved_after : (k : ℕ) → k ≤ 18 → (c : Counted) (a : ℕ)
      → (all k c).state.memory a ≡ saved 8 (32 - k) (values c.state) (c.state.registers b) c.state.memory a
  saved_after zero less c a =
      sym (cond-false (nat_lt (difference_64 a (slot 8 (c.state.registers b) 32)) 0) _ (c.state.memory a)
      (le-ltb (difference_64 a (slot 8 (c.state.registers b) 32)) 0 (omega arith)))
  saved_after (suc k) less c a =
      let n = 31 - k in
      let within : k < 18 = omega (arith, less) in
      let v = values c.state in
      let base = c.state.registers b in
      let m = c.state.memory in
      let e1 : 32 - suc k ≡ n = omega (arith, less) in
      let e2 : 32 - k ≡ suc n = omega (arith, less) in
      saved_after k (omega (arith, less)) (stores b values (17 - k) c) a
      ∙ ap (λ w. saved 8 (32 - k) w base (stored 8 (v (14 + (17 - k))) (moved base (negsuc (143 - 8 * (17 - k)))) m) a) (keeps (17 - k) c)
      ∙ ap (λ j. saved 8 j v base (stored 8 (v (14 + (17 - k))) (moved base (negsuc (143 - 8 * (17 - k)))) m) a) e2
      ∙ ap (λ j. saved 8 (suc n) v base (stored 8 (v j) (moved base (negsuc (143 - 8 * (17 - k)))) m) a) (of_index k within)
      ∙ ap (λ j. saved 8 (suc n) v base (stored 8 (v n) (moved base (negsuc j)) m) a) (of_place k within)
      ∙ one_saved n (omega (arith, less)) (omega arith) v base m a
      ∙ ap (λ j. saved 8 j v base m a) (sym e1)

  pub saved_all : (n : ℕ) → 14 ≤ n → n < 32 → (c : Counted) (a : ℕ)
      → (all (32 - n) c).state.memory a ≡ saved 8 n (values c.state) (c.state.registers b) c.state.memory a
  saved_all n most less c a =
      saved_after (32 - n) (omega (arith, most)) c a
      ∙ ap (λ j. saved 8 j (values c.state) (c.state.registers b) c.state.memory a) (let e : 32 - (32 - n) ≡ n = omega (arith, less) in e)

  -- back to the caller
  pub returns : (n : ℕ) (c : Counted) (d : Counted) → d.state.pc ≡ (all (32 - n) c).state.link - (all (32 - n) c).state.link % 4
      → d.state.link ≡ (all (32 - n) c).state.link → d.count ≡ (all (32 - n) c).count → Returns c d
  returns n c d pc link count =
      record {
        pc = pc ∙ ap (λ l. l - l % 4) (kept 17 (stores b values) (λ (c : Counted). c.state.link) (λ i c. refl) (32 - n) c);
        link = link ∙ kept 17 (stores b values) (λ (c : Counted). c.state.link) (λ i c. refl) (32 - n) c;
        count = count ∙ kept 17 (stores b values) (λ (c : Counted). c.count) (λ i c. refl) (32 - n) c;
      }

  -- and the return address stored
  pub with_address : (n : ℕ) → 14 ≤ n → n < 32 → (c : Counted)
      → Saves b values return_address n c
      (with_state (returned (go_on (store 8 ((all (32 - n) c).state.registers 0) (moved ((all (32 - n) c).state.registers 1) (pos 16)) (all (32 - n) c).state))) (all (32 - n) c))
  with_address n most less c =
      let e = all (32 - n) c in
      record {
        returns = returns n c (with_state (returned (go_on (store 8 (e.state.registers 0) (moved (e.state.registers 1) (pos 16)) e.state))) e) refl refl refl;
        registers = λ m. ap (λ g. g m) (stored_registers (32 - n) c);
        floats = λ m. ap (λ g. g m) (stored_floats (32 - n) c);
        memory = λ a.
            ap (λ g. stored 8 (g 0) (moved (g 1) (pos 16)) e.state.memory a) (stored_registers (32 - n) c)
            ∙ ap (λ v. if nat_lt (difference_64 a (moved (c.state.registers 1) (pos 16))) 8
            then field (c.state.registers 0) (8 * difference_64 a (moved (c.state.registers 1) (pos 16))) (8 * difference_64 a (moved (c.state.registers 1) (pos 16)) + 8)
            else v) (saved_all n most less c a);
      }

  pub with_no_address : (n : ℕ) → 14 ≤ n → n < 32 → (c : Counted)
      → Saves b values nothing_more n c (with_state (returned (all (32 - n) c).state) (all (32 - n) c))
  with_no_address n most less c =
      record {
        returns = returns n c (with_state (returned (all (32 - n) c).state) (all (32 - n) c)) refl refl refl;
        registers = λ m. ap (λ g. g m) (stored_registers (32 - n) c);
        floats = λ m. ap (λ g. g m) (stored_floats (32 - n) c);
        memory = saved_all n most less c;
      }

-- the ends of runs
saves_address : (f : Formats) (e : Counted)
    → run f (save_link ∷ blr ∷ []) e
    ≡ Some (with_state (returned (go_on (store 8 (e.state.registers 0) (moved (e.state.registers 1) (pos 16)) e.state))) e)
unfolding place_sum
saves_address f e =
    run_more (λ c. c.state.pc) (step f) save_link blr [] e
    (with_state (go_on (store 8 (e.state.registers 0) (moved (e.state.registers 1) (pos 16)) e.state)) e)
    (Some (with_state (returned (go_on (store 8 (e.state.registers 0) (moved (e.state.registers 1) (pos 16)) e.state))) e)) refl refl refl

-- what the instruction of each register does
abbrev Does : ℕ → (ℕ → Counted → Counted) → Formats → ℕ → Type 0
Does word one f i = (c : Counted) → step f ((word + (2 ^ 21 + 8) * i) % 2 ^ 32) c ≡ Some (one i c)

std_1 : (f : Formats) (i : ℕ) → i < 18 → Does 0xf9c1ff70 (stores 1 integers) f i
unfolding place_sum
std_1 f = below_at (Does 0xf9c1ff70 (stores 1 integers) f) 18 ((((((((((((((((((tt, λ c. refl), λ c. refl), λ c. refl), λ c. refl), λ c. refl), λ c. refl), λ c. refl), λ c. refl), λ c. refl), λ c. refl), λ c. refl), λ c. refl), λ c. refl), λ c. refl), λ c. refl), λ c. refl), λ c. refl), λ c. refl)

std_12 : (f : Formats) (i : ℕ) → i < 18 → Does 0xf9ccff70 (stores 12 integers) f i
unfolding place_sum
std_12 f = below_at (Does 0xf9ccff70 (stores 12 integers) f) 18 ((((((((((((((((((tt, λ c. refl), λ c. refl), λ c. refl), λ c. refl), λ c. refl), λ c. refl), λ c. refl), λ c. refl), λ c. refl), λ c. refl), λ c. refl), λ c. refl), λ c. refl), λ c. refl), λ c. refl), λ c. refl), λ c. refl), λ c. refl)

stfd_1 : (f : Formats) (i : ℕ) → i < 18 → Does 0xd9c1ff70 (stores 1 floats) f i
unfolding place_sum
stfd_1 f = below_at (Does 0xd9c1ff70 (stores 1 floats) f) 18 ((((((((((((((((((tt, λ c. refl), λ c. refl), λ c. refl), λ c. refl), λ c. refl), λ c. refl), λ c. refl), λ c. refl), λ c. refl), λ c. refl), λ c. refl), λ c. refl), λ c. refl), λ c. refl), λ c. refl), λ c. refl), λ c. refl), λ c. refl)

ld_1 : (f : Formats) (i : ℕ) → i < 18 → Does 0xe9c1ff70 (loads 1) f i
unfolding place_sum
ld_1 f = below_at (Does 0xe9c1ff70 (loads 1) f) 18 ((((((((((((((((((tt, λ c. refl), λ c. refl), λ c. refl), λ c. refl), λ c. refl), λ c. refl), λ c. refl), λ c. refl), λ c. refl), λ c. refl), λ c. refl), λ c. refl), λ c. refl), λ c. refl), λ c. refl), λ c. refl), λ c. refl), λ c. refl)

ld_12 : (f : Formats) (i : ℕ) → i < 18 → Does 0xe9ccff70 (loads 12) f i
unfolding place_sum
ld_12 f = below_at (Does 0xe9ccff70 (loads 12) f) 18 ((((((((((((((((((tt, λ c. refl), λ c. refl), λ c. refl), λ c. refl), λ c. refl), λ c. refl), λ c. refl), λ c. refl), λ c. refl), λ c. refl), λ c. refl), λ c. refl), λ c. refl), λ c. refl), λ c. refl), λ c. refl), λ c. refl), λ c. refl)

lfd_1 : (f : Formats) (i : ℕ) → i < 18 → Does 0xc9c1ff70 (loads_float 1) f i
unfolding place_sum
lfd_1 f = below_at (Does 0xc9c1ff70 (loads_float 1) f) 18 ((((((((((((((((((tt, λ c. refl), λ c. refl), λ c. refl), λ c. refl), λ c. refl), λ c. refl), λ c. refl), λ c. refl), λ c. refl), λ c. refl), λ c. refl), λ c. refl), λ c. refl), λ c. refl), λ c. refl), λ c. refl), λ c. refl), λ c. refl)

savegpr0 : (n : ℕ) → 14 ≤ n → n < 32 → (f : Formats) (c : Counted)
    → IsSomeAnd (run f (code_for (of_registers (codes "_savegpr0_") 0xf9c1ff70 (save_link ∷ blr ∷ [])) n) c) (Saves 1 integers return_address n c)
savegpr0 n most less f c =
    subst (λ end. IsSomeAnd end (Saves 1 integers return_address n c))
    (sym (runs f (of_registers (codes "_savegpr0_") 0xf9c1ff70 (save_link ∷ blr ∷ [])) refl refl save_link (blr ∷ []) refl (stores 1 integers) (std_1 f) (λ i c. refl) n most less c _ (saves_address f (after 17 (stores 1 integers) (32 - n) c))))
    (with_address 1 integers (λ i c. refl) n most less c)

savegpr1 : (n : ℕ) → 14 ≤ n → n < 32 → (f : Formats) (c : Counted)
    → IsSomeAnd (run f (code_for (of_registers (codes "_savegpr1_") 0xf9ccff70 (blr ∷ [])) n) c) (Saves 12 integers nothing_more n c)
savegpr1 n most less f c =
    subst (λ end. IsSomeAnd end (Saves 12 integers nothing_more n c))
    (sym (runs f (of_registers (codes "_savegpr1_") 0xf9ccff70 (blr ∷ [])) refl refl blr [] refl (stores 12 integers) (std_12 f) (λ i c. refl) n most less c _ refl))
    (with_no_address 12 integers (λ i c. refl) n most less c)

savefpr : (n : ℕ) → 14 ≤ n → n < 32 → (f : Formats) (c : Counted)
    → IsSomeAnd (run f (code_for (of_registers (codes "_savefpr_") 0xd9c1ff70 (save_link ∷ blr ∷ [])) n) c) (Saves 1 floats return_address n c)
savefpr n most less f c =
    subst (λ end. IsSomeAnd end (Saves 1 floats return_address n c))
    (sym (runs f (of_registers (codes "_savefpr_") 0xd9c1ff70 (save_link ∷ blr ∷ [])) refl refl save_link (blr ∷ []) refl (stores 1 floats) (stfd_1 f) (λ i c. refl) n most less c _ (saves_address f (after 17 (stores 1 floats) (32 - n) c))))
    (with_address 1 floats (λ i c. refl) n most less c)

pub saves_so : laws.SaveRegisters
saves_so = (savegpr0, savegpr1, savefpr)

-- ---- registers that are loaded

never_both : (b : Bool) → b && false ≡ false
never_both true = refl
never_both false = refl

-- there is none from 32 on
pub none_from : (m : ℕ) → is_from 32 m ≡ false
none_from m =
    elim (cases_lt m 32) [
      | inl under ↦ ap (λ b. b && nat_lt m 32) (lt-leb 32 m under)
      | inr over ↦ ap (λ b. nat_le 32 m && b) (le-ltb m 32 over) ∙ never_both (nat_le 32 m)
    ]

-- another register than n
same_from : (n m : ℕ) → m ≢ n → nat_le (suc n) m ≡ nat_le n m
same_from n m differs =
    elim (cases_lt m n) [
      | inl under ↦ lt-leb (suc n) m (omega (arith, under)) ∙ sym (lt-leb n m under)
      | inr over ↦ le-leb (suc n) m (omega (arith, over, differs)) ∙ sym (le-leb n m over)
    ]

-- a register more than those from the next one on, of what the places have
pub one_restored : (n : ℕ) → n < 32 → (at registers : ℕ → ℕ) (m : ℕ)
    → (if is_from (suc n) m then at m else with_number n (at n) registers m) ≡ (if is_from n m then at m else registers m)
one_restored n less at registers m =
    by_test (eqb m n) refl
  where
    by_test : (b : Bool) → eqb m n ≡ b
        → (if is_from (suc n) m then at m else with_number n (at n) registers m) ≡ (if is_from n m then at m else registers m)
    by_test true e =
        let is : m ≡ n = eqb-true m n e in
        let out : is_from (suc n) m ≡ false = ap (λ b. b && nat_lt m 32) (lt-leb (suc n) m (omega (arith, is))) in
        let in_place : is_from n m ≡ true =
        ap (λ b. b && nat_lt m 32) (le-leb n m (omega (arith, is))) ∙ lt-ltb m 32 (omega (arith, is, less)) in
        cond-false (is_from (suc n) m) (at m) (with_number n (at n) registers m) out
        ∙ cond-true (eqb m n) (at n) (registers m) e
        ∙ ap at (sym is)
        ∙ sym (cond-true (is_from n m) (at m) (registers m) in_place)
    by_test false e =
        ap (λ v. if is_from (suc n) m then at m else v) (cond-false (eqb m n) (at n) (registers m) e)
        ∙ ap (λ b. if b && nat_lt m 32 then at m else registers m) (same_from n m (λ same. false≢true (sym e ∙ eq-eqb m n same)))

-- the registers below 14
low_kept : (b m : ℕ) → m < 14 → (i : ℕ) (c : Counted) → (loads b i c).state.registers m ≡ c.state.registers m
low_kept b m low i c = cond-false (eqb m (14 + i)) _ (c.state.registers m) (ne_eqb m (14 + i) (λ e. omega (arith, e, low)))

-- by the registers, or by the floats
module _ (b : ℕ) (one : ℕ → Counted → Counted) (part : State → ℕ → ℕ)
    (loads_one : (i : ℕ) (c : Counted) → part (one i c).state ≡ with_number (14 + i) (loaded 8 c.state.memory (place b c.state i)) (part c.state))
    (based : (i : ℕ) (c : Counted) → (one i c).state.registers b ≡ c.state.registers b) (keeps : (i : ℕ) (c : Counted) → (one i c).state.memory ≡ c.state.memory) where
  restored_after : (k : ℕ) → k ≤ 18 → (c : Counted) (m : ℕ)
      → part (after 17 one k c).state m ≡ restored 8 (32 - k) (c.state.registers b) c.state.memory (part c.state) m
  restored_after zero less c m = sym (cond-false (is_from 32 m) (loaded 8 c.state.memory (slot 8 (c.state.registers b) m)) (part c.state m) (none_from m))
  restored_after (suc k) less c m =
      let n = 31 - k in
      let within : k < 18 = omega (arith, less) in
      let base = c.state.registers b in
      let g = part c.state in
      let h = c.state.memory in
      let d = one (17 - k) c in
      let e1 : 32 - suc k ≡ n = omega (arith, less) in
      let e2 : 32 - k ≡ suc n = omega (arith, less) in
      restored_after k (omega (arith, less)) d m
      ∙ ap (λ v. restored 8 (32 - k) v d.state.memory (part d.state) m) (based (17 - k) c)
      ∙ ap (λ v. restored 8 (32 - k) base v (part d.state) m) (keeps (17 - k) c)
      ∙ ap (λ v. restored 8 (32 - k) base h v m) (loads_one (17 - k) c)
      ∙ ap (λ j. restored 8 j base h (with_number (14 + (17 - k)) (loaded 8 h (moved base (negsuc (143 - 8 * (17 - k))))) g) m) e2
      ∙ ap (λ j. restored 8 (suc n) base h (with_number j (loaded 8 h (moved base (negsuc (143 - 8 * (17 - k))))) g) m) (of_index k within)
      ∙ ap (λ j. restored 8 (suc n) base h (with_number n (loaded 8 h (moved base (negsuc j))) g) m) (of_place k within)
      ∙ one_restored n (omega arith) (λ m. loaded 8 h (slot 8 base m)) g m
      ∙ ap (λ j. restored 8 j base h g m) (sym e1)

  pub restored_all : (n : ℕ) → 14 ≤ n → n < 32 → (c : Counted) (m : ℕ)
      → part (after 17 one (32 - n) c).state m ≡ restored 8 n (c.state.registers b) c.state.memory (part c.state) m
  restored_all n most less c m =
      restored_after (32 - n) (omega (arith, most)) c m
      ∙ ap (λ j. restored 8 j (c.state.registers b) c.state.memory (part c.state) m) (let e : 32 - (32 - n) ≡ n = omega (arith, less) in e)

-- ---- the ends of runs that load

abbrev address_loaded : Counted → Counted
address_loaded e = with_state (go_on (write 0 (loaded 8 e.state.memory (moved (e.state.registers 1) (pos 16))) e.state)) e

abbrev address_moved : Counted → Counted
address_moved e = with_state (moved_to_link 0 (address_loaded e).state) (address_loaded e)

restores_address : (f : Formats) (e : Counted)
    → run f (load_link ∷ mtlr_0 ∷ blr ∷ []) e ≡ Some (with_state (returned (address_moved e).state) (address_moved e))
unfolding place_sum
restores_address f e =
    run_more (λ c. c.state.pc) (step f) load_link mtlr_0 (blr ∷ []) e (address_loaded e)
    (Some (with_state (returned (address_moved e).state) (address_moved e))) refl refl
    (run_more (λ c. c.state.pc) (step f) mtlr_0 blr [] (address_loaded e) (address_moved e)
    (Some (with_state (returned (address_moved e).state) (address_moved e))) refl refl refl)

-- the return address, by what is as it was
is_returned : (n : ℕ) (c e : Counted) → e.state.memory ≡ c.state.memory → e.state.registers 1 ≡ c.state.registers 1
    → e.count ≡ c.count → Returned n c (with_state (returned (address_moved e).state) (address_moved e))
is_returned n c e memory base count =
    let same : loaded 8 e.state.memory (moved (e.state.registers 1) (pos 16)) ≡ loaded 8 c.state.memory (moved (c.state.registers 1) (pos 16)) =
    ap (λ h. loaded 8 h (moved (e.state.registers 1) (pos 16))) memory
    ∙ ap (λ v. loaded 8 c.state.memory (moved v (pos 16))) base in
    record {
      pc = ap (λ l. l - l % 4) same;
      link = same;
      r0 = same;
      count = count;
      memory = λ a. ap (λ h. h a) memory;
    }

restgpr0 : (n : ℕ) → 14 ≤ n → n < 32 → (f : Formats) (c : Counted)
    → IsSomeAnd (run f (code_for (of_registers (codes "_restgpr0_") 0xe9c1ff70 (load_link ∷ mtlr_0 ∷ blr ∷ [])) n) c) (RestoresIntegers n c)
restgpr0 n most less f c =
    subst (λ end. IsSomeAnd end (RestoresIntegers n c))
    (sym (runs f (of_registers (codes "_restgpr0_") 0xe9c1ff70 (load_link ∷ mtlr_0 ∷ blr ∷ [])) refl refl load_link (mtlr_0 ∷ blr ∷ []) refl (loads 1) (ld_1 f) (λ i c. refl) n most less c _ (restores_address f (after 17 (loads 1) (32 - n) c))))
    (record {
      returned =
          is_returned n c (after 17 (loads 1) (32 - n) c) (kept 17 (loads 1) (λ (c : Counted). c.state.memory) (λ i c. refl) (32 - n) c)
          (kept 17 (loads 1) (λ (c : Counted). c.state.registers 1) (low_kept 1 1 (omega arith)) (32 - n) c) (kept 17 (loads 1) (λ (c : Counted). c.count) (λ i c. refl) (32 - n) c);
      registers = λ m e.
          cond-false (eqb m 0) _ ((after 17 (loads 1) (32 - n) c).state.registers m) e ∙ restored_all 1 (loads 1) integers (λ i c. refl) (low_kept 1 1 (omega arith)) (λ i c. refl) n most less c m;
      floats = λ m. ap (λ g. g m) (kept 17 (loads 1) (λ (c : Counted). c.state.floats) (λ i c. refl) (32 - n) c);
    })

restgpr1 : (n : ℕ) → 14 ≤ n → n < 32 → (f : Formats) (c : Counted)
    → IsSomeAnd (run f (code_for (of_registers (codes "_restgpr1_") 0xe9ccff70 (blr ∷ [])) n) c) (Restores n c)
restgpr1 n most less f c =
    subst (λ end. IsSomeAnd end (Restores n c))
    (sym (runs f (of_registers (codes "_restgpr1_") 0xe9ccff70 (blr ∷ [])) refl refl blr [] refl (loads 12) (ld_12 f) (λ i c. refl) n most less c _ refl))
    (record {
      returns =
          record {
            pc = ap (λ l. l - l % 4) (kept 17 (loads 12) (λ (c : Counted). c.state.link) (λ i c. refl) (32 - n) c);
            link = kept 17 (loads 12) (λ (c : Counted). c.state.link) (λ i c. refl) (32 - n) c;
            count = kept 17 (loads 12) (λ (c : Counted). c.count) (λ i c. refl) (32 - n) c;
          };
      registers = restored_all 12 (loads 12) integers (λ i c. refl) (low_kept 12 12 (omega arith)) (λ i c. refl) n most less c;
      floats = λ m. ap (λ g. g m) (kept 17 (loads 12) (λ (c : Counted). c.state.floats) (λ i c. refl) (32 - n) c);
      memory = λ a. ap (λ h. h a) (kept 17 (loads 12) (λ (c : Counted). c.state.memory) (λ i c. refl) (32 - n) c);
    })

restfpr : (n : ℕ) → 14 ≤ n → n < 32 → (f : Formats) (c : Counted)
    → IsSomeAnd (run f (code_for (of_registers (codes "_restfpr_") 0xc9c1ff70 (load_link ∷ mtlr_0 ∷ blr ∷ [])) n) c) (RestoresFloats n c)
restfpr n most less f c =
    subst (λ end. IsSomeAnd end (RestoresFloats n c))
    (sym (runs f (of_registers (codes "_restfpr_") 0xc9c1ff70 (load_link ∷ mtlr_0 ∷ blr ∷ [])) refl refl load_link (mtlr_0 ∷ blr ∷ []) refl (loads_float 1) (lfd_1 f) (λ i c. refl) n most less c _ (restores_address f (after 17 (loads_float 1) (32 - n) c))))
    (record {
      returned =
          is_returned n c (after 17 (loads_float 1) (32 - n) c) (kept 17 (loads_float 1) (λ (c : Counted). c.state.memory) (λ i c. refl) (32 - n) c)
          (kept 17 (loads_float 1) (λ (c : Counted). c.state.registers 1) (λ i c. refl) (32 - n) c) (kept 17 (loads_float 1) (λ (c : Counted). c.count) (λ i c. refl) (32 - n) c);
      registers = λ m e.
          cond-false (eqb m 0) _ ((after 17 (loads_float 1) (32 - n) c).state.registers m) e ∙ kept 17 (loads_float 1) (λ (c : Counted). c.state.registers m) (λ i c. refl) (32 - n) c;
      floats = restored_all 1 (loads_float 1) floats (λ i c. refl) (λ i c. refl) (λ i c. refl) n most less c;
    })

pub restores_so : laws.RestoreRegisters
restores_so = (restgpr0, restgpr1, restfpr)
