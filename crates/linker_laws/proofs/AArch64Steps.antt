-- Steps of AArch64's instructions.
use Rattle.linker_laws.proofs.Imports.{IsAddress, JumpCall, LdSt, Operands, Some, aarch64_form, add, added, adr, adr_address, adrp, adrp_address, ap, arith, blr, branch_target, cond-false, cond-true, eq-eqb, eqb, in_64_bits, ints, ldr, load_64, movk_64, ne_eqb, next_pc, plt_address, pos, rd_of, read_x, rn_of, step, sym, unsigned_abs, with_moved, write_x, write_x_or_sp, ℕ, ℤ, ◌%◌, ◌*ℤ◌, ◌+ℤ◌, ◌+◌, ◌^◌, ◌∙◌, ◌≡◌, ◌≢◌}
use Rattle.linker_laws.proofs.Sums.{lift, lifted_is}
use Rattle.linker_laws.specs.AArch64Machine.{State, decode, go_on, execute, loaded, movn_or_movz, moved, go_to}

-- ---- sums

pub address_is : (z : ℤ) (t : ℕ) → IsAddress z t → in_64_bits z ≡ t
address_is z t e = ap unsigned_abs e

-- a sum in two steps
pub in_two_steps : (a b : ℤ) → in_64_bits (pos (in_64_bits a) +ℤ b) ≡ in_64_bits (a +ℤ b)
in_two_steps a b =
    let l = lift a in
    let m = lift b in
    let il = l.is in
    let im = m.is in
    let first : in_64_bits a ≡ l.number % 2 ^ 64 =
    address_is a _ (lifted_is a l.times l.number l.is) in
    ap (λ n. in_64_bits (pos n +ℤ b)) first
    ∙ address_is (pos (l.number % 2 ^ 64) +ℤ b) _
    (lifted_is (pos (l.number % 2 ^ 64) +ℤ b) m.times (l.number % 2 ^ 64 + m.number)
    (omega (arith, ints)))
    ∙ (let same : (l.number % 2 ^ 64 + m.number) % 2 ^ 64 ≡ (l.number + m.number) % 2 ^ 64 =
    omega arith in same)
    ∙ sym (address_is (a +ℤ b) _ (lifted_is (a +ℤ b) (l.times + m.times) (l.number + m.number)
    (omega (arith, ints))))

-- ---- one instruction

-- the state after an instruction that writes a register and goes on
abbrev pub set : ℕ → ℕ → State → State
set n v s = go_on (write_x_or_sp n v s)

written : (n v : ℕ) (s : State) → n ≢ 31 → Some (go_on (write_x n v s)) ≡ Some (set n v s)
written n v s named = ap (λ t. Some (go_on t)) (cond-false _ _ _ (ne_eqb n 31 named))

pub step_adrp : (x n : ℕ) (s : State) → decode x ≡ adrp → rd_of x ≡ n → n ≢ 31
    → step x s ≡ Some (set n (adrp_address x s) s)
step_adrp x n s is rd named =
    ap (λ c. execute c x s) is
    ∙ ap (λ r. Some (go_on (write_x r (adrp_address x s) s))) rd
    ∙ written n (adrp_address x s) s named

pub step_adr : (x n : ℕ) (s : State) → decode x ≡ adr → rd_of x ≡ n → n ≢ 31
    → step x s ≡ Some (set n (adr_address x s) s)
step_adr x n s is rd named =
    ap (λ c. execute c x s) is
    ∙ ap (λ r. Some (go_on (write_x r (adr_address x s) s))) rd
    ∙ written n (adr_address x s) s named

pub step_add : (x n : ℕ) (s : State) → decode x ≡ add → rd_of x ≡ n
    → step x s ≡ Some (set n (added x s) s)
step_add x n s is rd =
    ap (λ c. execute c x s) is ∙ ap (λ r. Some (set r (added x s) s)) rd

pub step_ldr : (x n : ℕ) (s : State) → decode x ≡ ldr → rd_of x ≡ n → n ≢ 31
    → step x s ≡ Some (set n (loaded x s) s)
step_ldr x n s is rd named =
    ap (λ c. execute c x s) is
    ∙ ap (λ r. Some (go_on (write_x r (loaded x s) s))) rd
    ∙ written n (loaded x s) s named

pub step_move : (x n : ℕ) (s : State) → decode x ≡ movn_or_movz → rd_of x ≡ n → n ≢ 31
    → step x s ≡ Some (set n (moved x) s)
step_move x n s is rd named =
    ap (λ c. execute c x s) is
    ∙ ap (λ r. Some (go_on (write_x r (moved x) s))) rd
    ∙ written n (moved x) s named

pub step_movk : (x n : ℕ) (s : State) → decode x ≡ movk_64 → rd_of x ≡ n → n ≢ 31
    → step x s ≡ Some (set n (with_moved x s) s)
step_movk x n s is rd named =
    ap (λ c. execute c x s) is
    ∙ ap (λ r. Some (go_on (write_x r (with_moved x s) s))) rd
    ∙ written n (with_moved x s) s named

pub step_blr : (x n : ℕ) (s : State) → decode x ≡ blr → rn_of x ≡ n → n ≢ 31
    → step x s ≡ Some (go_to (s.registers n) (write_x_or_sp 30 (next_pc s) s))
step_blr x n s is rn named =
    ap (λ c. execute c x s) is
    ∙ ap (λ r. Some (go_to (read_x r s) (write_x_or_sp 30 (next_pc s) s))) rn
    ∙ ap (λ v. Some (go_to v (write_x_or_sp 30 (next_pc s) s)))
    (cond-false _ _ _ (ne_eqb n 31 named))

-- what is read of the register that was written
pub read_back : (n v r : ℕ) (s : State) → r ≡ n → (set n v s).registers r ≡ v
read_back n v r s same = cond-true (eqb r n) v (s.registers r) (eq-eqb r n same)

-- ---- sums of a pair

-- what is loaded from a register that holds a sum
pub loaded_from : (y n : ℕ) (a : ℤ) (s : State) → rn_of y ≡ n
    → loaded y (set n (in_64_bits a) s)
    ≡ load_64 s.memory (in_64_bits (a +ℤ ((aarch64_form LdSt).machine y *ℤ pos 8)))
loaded_from y n a s rn =
    ap (λ v. load_64 s.memory (in_64_bits (pos v +ℤ ((aarch64_form LdSt).machine y *ℤ pos 8))))
    (read_back n (in_64_bits a) (rn_of y) s rn)
    ∙ ap (load_64 s.memory) (in_two_steps a ((aarch64_form LdSt).machine y *ℤ pos 8))

-- ---- branches

pub branch_leads : (o : Operands) (x : ℕ) (s : State) → s.pc ≡ o.place
    → IsAddress (pos o.place +ℤ ((aarch64_form JumpCall).machine x *ℤ pos 4)) (plt_address o)
    → branch_target x s ≡ plt_address o
branch_leads o x s at leads =
    ap (λ p. in_64_bits (pos p +ℤ ((aarch64_form JumpCall).machine x *ℤ pos 4))) at
    ∙ address_is _ _ leads
