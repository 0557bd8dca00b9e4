-- Steps of LoongArch's instructions.
use Rattle.linker_laws.proofs.Imports.{IsSomeAnd, List, None, Some, [], ap, cond-false, cond-true, eq-eqb, eqb, field, loaded, ne_eqb, pos, refl, signed, subst, sym, wrapped, ℕ, ℤ, ◌+ℤ◌, ◌∙◌, ◌∷◌, ◌≡◌, ◌≢◌}
use Rattle.linker_utils.specs.LoongArchRewrites.{rj_of, rd_of}
use Rattle.linker_laws.specs.LoongArchMachine.{State, step, run, decode, read, write, with_register, go_on, next_pc, continue, execute, EndSo, pcalau_12, pcadd_2, sums, adds, loads, page_address, near_address, sum_of}
use Rattle.linker_laws.proofs.AArch64Steps.{in_two_steps}

-- ---- one instruction

-- the state after an instruction that writes a register and goes on
abbrev pub set : ℕ → ℕ → State → State
set n v s = go_on (with_register n v s)

-- an instruction that does so
pub written : (n m v : ℕ) (s : State) → m ≡ n → n ≢ 0 → Some (go_on (write m v s)) ≡ Some (set n v s)
written n m v s same named =
    ap (λ r. Some (go_on (write r v s))) same ∙ ap (λ t. Some (go_on t)) (cond-false _ _ _ (ne_eqb n 0 named))

pub step_page : (x n : ℕ) (s : State) → decode x ≡ pcalau_12 → rd_of x ≡ n → n ≢ 0 → step x s ≡ Some (set n (page_address x s) s)
step_page x n s is rd named = ap (λ c. execute c x s) is ∙ written n (rd_of x) _ s rd named

pub step_near : (x n : ℕ) (s : State) → decode x ≡ pcadd_2 → rd_of x ≡ n → n ≢ 0 → step x s ≡ Some (set n (near_address x s) s)
step_near x n s is rd named = ap (λ c. execute c x s) is ∙ written n (rd_of x) _ s rd named

-- `addi.d` and `ld.d`
pub step_sum : (x n : ℕ) (s : State) → decode x ≡ sums adds → rd_of x ≡ n → n ≢ 0 → step x s ≡ Some (set n (sum_of x s) s)
step_sum x n s is rd named = ap (λ c. execute c x s) is ∙ written n (rd_of x) _ s rd named

-- what `ld.d` loads
abbrev pub loaded_of : ℕ → State → ℕ
loaded_of word s = loaded 8 s.memory (sum_of word s)

pub step_load : (x n : ℕ) (s : State) → decode x ≡ sums (loads 8) → rd_of x ≡ n → n ≢ 0 → step x s ≡ Some (set n (loaded_of x s) s)
step_load x n s is rd named = ap (λ c. execute c x s) is ∙ written n (rd_of x) _ s rd named

-- what is read of the register that was written
pub read_back : (n v r : ℕ) (s : State) → r ≡ n → n ≢ 0 → read r (set n v s) ≡ v
read_back n v r s same named =
    ap (λ k. read k (set n v s)) same ∙ cond-false (eqb n 0) 0 _ (ne_eqb n 0 named) ∙ cond-true (eqb n n) v (s.registers n) (eq-eqb n n refl)

-- ---- sequences

pub run_pair : (x y : ℕ) (s t u : State) → step x s ≡ Some t → t.pc ≡ next_pc s → step y t ≡ Some u → run (x ∷ y ∷ []) s ≡ Some u
run_pair x y s t u first on second =
    ap (continue (next_pc s) (λ r. run (y ∷ []) r)) first
    ∙ cond-true (eqb t.pc (next_pc s)) (run (y ∷ []) t) None (eq-eqb t.pc (next_pc s) on) ∙ second

pub ends_so : (old new : List ℕ) (s t u v : State) (P : State → State → Type 0) → run old s ≡ Some u → run new t ≡ Some v → P u v → EndSo old s new t P
ends_so old new s t u v P first second holds =
    subst (λ r. IsSomeAnd r (λ u. IsSomeAnd (run new t) (λ v. P u v))) (sym first)
    (subst (λ r. IsSomeAnd r (λ v. P u v)) (sym second) holds)

-- ---- sums of a pair

pub sum_is : (y n : ℕ) (a : ℤ) (s : State) → rj_of y ≡ n → n ≢ 0 → sum_of y (set n (wrapped a) s) ≡ wrapped (a +ℤ signed 12 (field y 10 22))
sum_is y n a s rj named =
    ap (λ v. wrapped (pos v +ℤ signed 12 (field y 10 22))) (read_back n (wrapped a) (rj_of y) s rj named)
    ∙ in_two_steps a (signed 12 (field y 10 22))
