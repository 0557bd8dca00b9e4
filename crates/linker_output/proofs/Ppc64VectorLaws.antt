-- PowerPC64's functions that save and restore vector registers.
use Rattle.linker_output.proofs.Imports.{IsSomeAnd, List, Memory, Option, Some, [], ap, arith, blr, codes, cond-false, difference_64, eqb, field, if◌then◌else◌, ints, le-ltb, loaded, moved, nat_lt, negsuc, of_vectors, place_sum, pos, refl, stored, subst, suc, sum_64, sym, with_state, wrapped_is, zero, ℕ, ◌%◌, ◌*◌, ◌+ℤ◌, ◌+◌, ◌-◌, ◌/◌, ◌<◌, ◌^◌, ◌∙◌, ◌∷◌, ◌≡◌, ◌≤◌}
use Rattle.linker_laws.specs.Ppc64Machine.{Formats, write, store, go_on, with_number}
use Rattle.linker_output.specs.Ppc64Saves.{returned, is_from, slot, saved, restored}
use Rattle.linker_output.proofs.LazyRuns.{run_more}
use Rattle.linker_output.proofs.Ppc64SaveLaws.{after, below_at, joined, kept, one_restored, none_from}
use Rattle.linker_output.specs.Ppc64Vectors.{Vectored, step_vectored, run_vectored, vector_code, quadword, ReturnsVectored, SavesVectors, RestoresVectors}
use Rattle.linker_output.specs.Ppc64Vectors as laws

-- ---- the two instructions of a register

-- `addi 12,0` with a place, and the next instruction, by a register's index
abbrev place_word : ℕ → ℕ
place_word i = (0x3980ff40 + 16 * i) % 2 ^ 32

abbrev access_word : ℕ → ℕ → ℕ
access_word access i = (access + 2 ^ 21 * i) % 2 ^ 32

abbrev placed : ℕ → Vectored → Vectored
placed i v =
    record v { counted = with_state (go_on (write 12 (moved 0 (negsuc (191 - 16 * i))) v.counted.state)) v.counted }

-- the address of a register
abbrev place : ℕ → ℕ → ℕ
place base i = quadword (sum_64 (moved 0 (negsuc (191 - 16 * i))) base)

abbrev stores : ℕ → Vectored → Vectored
stores i v =
    record v {
      counted =
          with_state (go_on (store 16 (v.vectors (20 + i)) (place (v.counted.state.registers 0) i) ((placed i v).counted.state))) v.counted;
    }

abbrev loads : ℕ → Vectored → Vectored
loads i v =
    record {
      counted = with_state (go_on ((placed i v).counted.state)) v.counted;
      vectors =
          with_number (20 + i) (loaded 16 v.counted.state.memory (place (v.counted.state.registers 0) i)) v.vectors;
    }

places : (f : Formats) (i : ℕ) → i < 12 → (v : Vectored) → step_vectored f (place_word i) v ≡ Some (placed i v)
unfolding place_sum
places f i less =
    below_at (λ i. (v : Vectored) → step_vectored f (place_word i) v ≡ Some (placed i v)) 12
    ((((((((((((tt, λ v. refl), λ v. refl), λ v. refl), λ v. refl), λ v. refl), λ v. refl), λ v. refl), λ v. refl), λ v. refl), λ v. refl), λ v. refl), λ v. refl) i less

stvx : (f : Formats) (i : ℕ) → i < 12 → (v : Vectored) → step_vectored f (access_word 0x7e8c01ce i) (placed i v) ≡ Some (stores i v)
unfolding place_sum
stvx f i less =
    below_at (λ i. (v : Vectored) → step_vectored f (access_word 0x7e8c01ce i) (placed i v) ≡ Some (stores i v)) 12
    ((((((((((((tt, λ v. refl), λ v. refl), λ v. refl), λ v. refl), λ v. refl), λ v. refl), λ v. refl), λ v. refl), λ v. refl), λ v. refl), λ v. refl), λ v. refl) i less

lvx : (f : Formats) (i : ℕ) → i < 12 → (v : Vectored) → step_vectored f (access_word 0x7e8c00ce i) (placed i v) ≡ Some (loads i v)
unfolding place_sum
lvx f i less =
    below_at (λ i. (v : Vectored) → step_vectored f (access_word 0x7e8c00ce i) (placed i v) ≡ Some (loads i v)) 12
    ((((((((((((tt, λ v. refl), λ v. refl), λ v. refl), λ v. refl), λ v. refl), λ v. refl), λ v. refl), λ v. refl), λ v. refl), λ v. refl), λ v. refl), λ v. refl) i less

-- ---- runs over registers

-- the code of n registers, and the end
abbrev code : ℕ → ℕ → List ℕ
code access zero = blr ∷ []
code access (suc k) = place_word (11 - k) ∷ access_word access (11 - k) ∷ code access k

abbrev ended : Vectored → Vectored
ended v = record v { counted = with_state (returned v.counted.state) v.counted }

module _ (f : Formats) (access : ℕ) (one : ℕ → Vectored → Vectored)
    (accesses : (i : ℕ) → i < 12 → (v : Vectored) → step_vectored f (access_word access i) (placed i v) ≡ Some (one i v))
    (on : (i : ℕ) (v : Vectored) → (one i v).counted.state.pc ≡ sum_64 (placed i v).counted.state.pc 4) where
  more : (i : ℕ) → i < 12 → (y : ℕ) (ys : List ℕ) (v : Vectored) (end : Option Vectored)
      → run_vectored f (y ∷ ys) (one i v) ≡ end
      → run_vectored f (place_word i ∷ access_word access i ∷ y ∷ ys) v ≡ end
  more i less y ys v end e =
      run_more (λ v. v.counted.state.pc) (step_vectored f) (place_word i) (access_word access i) (y ∷ ys) v (placed i v) end
      (places f i less v) refl
      (run_more (λ v. v.counted.state.pc) (step_vectored f) (access_word access i) y ys (placed i v) (one i v) end
      (accesses i less v) (on i v) e)

  pub ran : (k : ℕ) → k ≤ 12 → (v : Vectored) → run_vectored f (code access k) v ≡ Some (ended (after 11 one k v))
  ran zero less v = refl
  ran (suc zero) less v = more 11 (omega arith) blr [] v (Some (ended (one 11 v))) refl
  ran (suc (suc k)) less v =
      more (11 - suc k) (omega arith) (place_word (11 - k)) (access_word access (11 - k) ∷ code access k) v
      (Some (ended (after 11 one (suc k) (one (11 - suc k) v)))) (ran (suc k) (omega (arith, less)) (one (11 - suc k) v))

-- the code of a function is that
save_code : (k : ℕ) → k < 12 → vector_code (of_vectors (codes "_savevr_") 0x7e8c01ce) (31 - k) ≡ code 0x7e8c01ce (suc k)
save_code k less =
    below_at (λ k. vector_code (of_vectors (codes "_savevr_") 0x7e8c01ce) (31 - k) ≡ code 0x7e8c01ce (suc k)) 12
    ((((((((((((tt, refl), refl), refl), refl), refl), refl), refl), refl), refl), refl), refl), refl) k less

restore_code : (k : ℕ) → k < 12 → vector_code (of_vectors (codes "_restvr_") 0x7e8c00ce) (31 - k) ≡ code 0x7e8c00ce (suc k)
restore_code k less =
    below_at (λ k. vector_code (of_vectors (codes "_restvr_") 0x7e8c00ce) (31 - k) ≡ code 0x7e8c00ce (suc k)) 12
    ((((((((((((tt, refl), refl), refl), refl), refl), refl), refl), refl), refl), refl), refl), refl) k less

-- ---- places

moved_is : (b t : ℕ) → 0 < t → t ≤ 192 → moved b (negsuc (t - 1)) ≡ (b + (2 ^ 64 - t)) % 2 ^ 64
moved_is b t some few =
    let is : suc (t - 1) ≡ t = omega (arith, some) in
    wrapped_is (pos b +ℤ negsuc (t - 1)) 1 (b + (2 ^ 64 - suc (t - 1))) (omega (arith, ints, few))
    ∙ ap (λ m. (b + (2 ^ 64 - m)) % 2 ^ 64) is

slot_is : (base n : ℕ) → 20 ≤ n → n < 32 → slot 16 (quadword base) n ≡ (quadword base + (2 ^ 64 - 16 * (32 - n))) % 2 ^ 64
slot_is base n most less = moved_is (quadword base) (16 * (32 - n)) (omega (arith, less)) (omega (arith, most))

place_is : (base n : ℕ) → 20 ≤ n → n < 32 → quadword (sum_64 (moved 0 (negsuc (16 * (32 - n) - 1))) base) ≡ slot 16 (quadword base) n
place_is base n most less =
    ap (λ m. quadword (sum_64 m base)) (moved_is 0 (16 * (32 - n)) (omega (arith, less)) (omega (arith, most))) ∙ (let e : quadword (sum_64 ((0 + (2 ^ 64 - 16 * (32 - n))) % 2 ^ 64) base)
    ≡ (quadword base + (2 ^ 64 - 16 * (32 - n))) % 2 ^ 64 = omega (arith, most, less) in e) ∙ sym (slot_is base n most less)

place_of : (base k : ℕ) → k < 12 → place base (11 - k) ≡ slot 16 (quadword base) (31 - k)
place_of base k less =
    ap (λ j. quadword (sum_64 (moved 0 (negsuc j)) base)) (let e : 191 - 16 * (11 - k) ≡ 16 * (32 - (31 - k)) - 1 = omega (arith, less) in e)
    ∙ place_is base (31 - k) (omega (arith, less)) (omega arith)

number_of : (k : ℕ) → k < 12 → 20 + (11 - k) ≡ 31 - k
number_of k less = omega (arith, less)

-- ---- registers that are stored

abbrev byte_of : ℕ → (ℕ → ℕ) → ℕ → ℕ
byte_of n vectors d = field (vectors (n + d / 16)) (8 * (d % 16)) (8 * (d % 16) + 8)

-- a register more below those from the next one on
module _ (n : ℕ) (most : 20 ≤ n) (less : n < 32) (vectors : ℕ → ℕ) (base : ℕ) (memory : Memory) (a : ℕ) where
  follows : 0 < 16 * (32 - suc n) → slot 16 (quadword base) (suc n) ≡ (slot 16 (quadword base) n + 16) % 2 ^ 64
  follows some =
      let under : n < 31 = omega (arith, some) in
      omega (arith, (slot_is base n most less), (slot_is base (suc n) (omega (arith, most)) (omega (arith, under))), under, most)

  of_first : (d : ℕ) → d < 16 → byte_of n vectors d ≡ field (vectors n) (8 * d) (8 * d + 8)
  of_first d low =
      ap (λ k. field (vectors k) (8 * (d % 16)) (8 * (d % 16) + 8)) (let e : n + d / 16 ≡ n = omega (arith, low) in e)
      ∙ ap (λ k. field (vectors n) (8 * k) (8 * k + 8)) (let e : d % 16 ≡ d = omega (arith, low) in e)

  of_others : (d : ℕ) → 16 ≤ d → d < 16 + 16 * (32 - suc n) → byte_of n vectors d ≡ byte_of (suc n) vectors (d - 16)
  of_others d high within =
      ap (λ k. field (vectors k) (8 * (d % 16)) (8 * (d % 16) + 8)) (let e : n + d / 16 ≡ suc n + (d - 16) / 16 = omega (arith, high) in e)
      ∙ ap (λ k. field (vectors (suc n + (d - 16) / 16)) (8 * k) (8 * k + 8)) (let e : d % 16 ≡ (d - 16) % 16 = omega (arith, high) in e)

  pub one_saved : saved 16 (suc n) vectors (quadword base) (stored 16 (vectors n) (slot 16 (quadword base) n) memory) a
      ≡ saved 16 n vectors (quadword base) memory a
  one_saved =
      joined a (slot 16 (quadword base) n) (slot 16 (quadword base) (suc n)) 16 (16 * (32 - suc n))
      (let p = slot_is base n most less in omega (arith, p)) follows (omega arith) memory
      (λ d. field (vectors n) (8 * d) (8 * d + 8)) (byte_of (suc n) vectors) (byte_of n vectors) of_first of_others
      ∙ ap (λ k. if nat_lt (difference_64 a (slot 16 (quadword base) n)) k then byte_of n vectors (difference_64 a (slot 16 (quadword base) n)) else memory a)
      (let e : 16 + 16 * (32 - suc n) ≡ 16 * (32 - n) = omega (arith, less) in e)

saved_after : (k : ℕ) → k ≤ 12 → (v : Vectored) (a : ℕ) → (after 11 stores k v).counted.state.memory a
    ≡ saved 16 (32 - k) v.vectors (quadword (v.counted.state.registers 0)) v.counted.state.memory a
saved_after zero less v a =
    sym (cond-false (nat_lt (difference_64 a (slot 16 (quadword (v.counted.state.registers 0)) 32)) 0) _ (v.counted.state.memory a)
    (le-ltb (difference_64 a (slot 16 (quadword (v.counted.state.registers 0)) 32)) 0 (omega arith)))
saved_after (suc k) less v a =
    let within : k < 12 = omega (arith, less) in
    let g = v.vectors in
    let base = v.counted.state.registers 0 in
    let m = v.counted.state.memory in
    let e1 : 32 - suc k ≡ 31 - k = omega arith in
    let e2 : 32 - k ≡ suc (31 - k) = omega (arith, less) in
    saved_after k (omega (arith, less)) (stores (11 - k) v) a
    ∙ ap (λ j. saved 16 j g (quadword base) (stored 16 (g (20 + (11 - k))) (place base (11 - k)) m) a) e2
    ∙ ap (λ j. saved 16 (suc (31 - k)) g (quadword base) (stored 16 (g j) (place base (11 - k)) m) a) (number_of k within)
    ∙ ap (λ p. saved 16 (suc (31 - k)) g (quadword base) (stored 16 (g (31 - k)) p m) a) (place_of base k within)
    ∙ one_saved (31 - k) (omega (arith, within)) (omega arith) g base m a
    ∙ ap (λ j. saved 16 j g (quadword base) m a) (sym e1)

-- ---- registers that are loaded

restored_after : (k : ℕ) → k ≤ 12 → (v : Vectored) (m : ℕ) → (after 11 loads k v).vectors m
    ≡ restored 16 (32 - k) (quadword (v.counted.state.registers 0)) v.counted.state.memory v.vectors m
restored_after zero less v m =
    sym (cond-false (is_from 32 m) (loaded 16 v.counted.state.memory (slot 16 (quadword (v.counted.state.registers 0)) m)) (v.vectors m) (none_from m))
restored_after (suc k) less v m =
    let within : k < 12 = omega (arith, less) in
    let g = v.vectors in
    let base = v.counted.state.registers 0 in
    let h = v.counted.state.memory in
    let e1 : 32 - suc k ≡ 31 - k = omega arith in
    let e2 : 32 - k ≡ suc (31 - k) = omega (arith, less) in
    restored_after k (omega (arith, less)) (loads (11 - k) v) m
    ∙ ap (λ j. restored 16 j (quadword base) h (with_number (20 + (11 - k)) (loaded 16 h (place base (11 - k))) g) m) e2
    ∙ ap (λ j. restored 16 (suc (31 - k)) (quadword base) h (with_number j (loaded 16 h (place base (11 - k))) g) m) (number_of k within)
    ∙ ap (λ p. restored 16 (suc (31 - k)) (quadword base) h (with_number (31 - k) (loaded 16 h p) g) m) (place_of base k within)
    ∙ one_restored (31 - k) (omega arith) (λ m. loaded 16 h (slot 16 (quadword base) m)) g m
    ∙ ap (λ j. restored 16 j (quadword base) h g m) (sym e1)

-- ---- what is as it was

module _ (one : ℕ → Vectored → Vectored)
    (registers : (i : ℕ) (v : Vectored) → (one i v).counted.state.registers ≡ (placed i v).counted.state.registers)
    (floats : (i : ℕ) (v : Vectored) → (one i v).counted.state.floats ≡ v.counted.state.floats)
    (link : (i : ℕ) (v : Vectored) → (one i v).counted.state.link ≡ v.counted.state.link)
    (count : (i : ℕ) (v : Vectored) → (one i v).counted.count ≡ v.counted.count) where
  pub returns : (k : ℕ) (v : Vectored) → ReturnsVectored v (ended (after 11 one k v))
  returns k v =
      record {
        returns =
            record {
              pc = ap (λ l. l - l % 4) (kept 11 one (λ (v : Vectored). v.counted.state.link) link k v);
              link = kept 11 one (λ (v : Vectored). v.counted.state.link) link k v;
              count = kept 11 one (λ (v : Vectored). v.counted.count) count k v;
            };
        registers = λ m other. kept 11 one (λ (v : Vectored). v.counted.state.registers m) (λ i v. ap (λ g. g m) (registers i v)
            ∙ cond-false (eqb m 12) (moved 0 (negsuc (191 - 16 * i))) (v.counted.state.registers m) other) k v;
        floats = λ m. ap (λ g. g m) (kept 11 one (λ (v : Vectored). v.counted.state.floats) floats k v);
      }

-- ---- the laws

-- of a register by those from it on
by_rest : (P : ℕ → Type 0) → ((k : ℕ) → k < 12 → P (31 - k)) → (n : ℕ) → 20 ≤ n → n < 32 → P n
by_rest P of_each n most less =
    subst P (let e : 31 - (31 - n) ≡ n = omega (arith, less) in e) (of_each (31 - n) (omega (arith, most)))

saves : (k : ℕ) → k < 12 → (f : Formats) (v : Vectored)
    → IsSomeAnd (run_vectored f (vector_code (of_vectors (codes "_savevr_") 0x7e8c01ce) (31 - k)) v) (SavesVectors (31 - k) v)
saves k less f v =
    let is : run_vectored f (vector_code (of_vectors (codes "_savevr_") 0x7e8c01ce) (31 - k)) v ≡ Some (ended (after 11 stores (suc k) v)) =
    ap (λ l. run_vectored f l v) (save_code k less) ∙ ran f 0x7e8c01ce stores (stvx f) (λ i v. refl) (suc k) (omega (arith, less)) v in
    subst (λ end. IsSomeAnd end (SavesVectors (31 - k) v)) (sym is)
    (record {
      returns = returns stores (λ i v. refl) (λ i v. refl) (λ i v. refl) (λ i v. refl) (suc k) v;
      vectors = λ m. kept 11 stores (λ (v : Vectored). v.vectors m) (λ i v. refl) (suc k) v;
      memory = λ a.
          saved_after (suc k) (omega (arith, less)) v a
          ∙ ap (λ j. saved 16 j v.vectors (quadword (v.counted.state.registers 0)) v.counted.state.memory a) (let e : 32 - suc k ≡ 31 - k = omega arith in e);
    })

restores : (k : ℕ) → k < 12 → (f : Formats) (v : Vectored)
    → IsSomeAnd (run_vectored f (vector_code (of_vectors (codes "_restvr_") 0x7e8c00ce) (31 - k)) v) (RestoresVectors (31 - k) v)
restores k less f v =
    let is : run_vectored f (vector_code (of_vectors (codes "_restvr_") 0x7e8c00ce) (31 - k)) v ≡ Some (ended (after 11 loads (suc k) v)) =
    ap (λ l. run_vectored f l v) (restore_code k less) ∙ ran f 0x7e8c00ce loads (lvx f) (λ i v. refl) (suc k) (omega (arith, less)) v in
    subst (λ end. IsSomeAnd end (RestoresVectors (31 - k) v)) (sym is)
    (record {
      returns = returns loads (λ i v. refl) (λ i v. refl) (λ i v. refl) (λ i v. refl) (suc k) v;
      vectors = λ m.
          restored_after (suc k) (omega (arith, less)) v m
          ∙ ap (λ j. restored 16 j (quadword (v.counted.state.registers 0)) v.counted.state.memory v.vectors m) (let e : 32 - suc k ≡ 31 - k = omega arith in e);
      memory = λ a. kept 11 loads (λ (v : Vectored). v.counted.state.memory a) (λ i v. refl) (suc k) v;
    })

pub saves_so : laws.SaveVectors
saves_so =
    by_rest (λ n. (f : Formats) (v : Vectored)
    → IsSomeAnd (run_vectored f (vector_code (of_vectors (codes "_savevr_") 0x7e8c01ce) n) v) (SavesVectors n v)) saves

pub restores_so : laws.RestoreVectors
restores_so =
    by_rest (λ n. (f : Formats) (v : Vectored)
    → IsSomeAnd (run_vectored f (vector_code (of_vectors (codes "_restvr_") 0x7e8c00ce) n) v) (RestoresVectors n v)) restores
