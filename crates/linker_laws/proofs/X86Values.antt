-- Operations whose operands are the same numbers.
use Rattle.linker_laws.proofs.Imports.{Bool, MOV, Operation, TEST, and_comm, ap, arith, execute, extended, if◌then◌else◌, immediate, inl, inr, lea, load, logical, operand_value, operate, operate_into, perform, register, relative, result, subst, sum_64, sym, ℕ, ◌%◌, ◌*◌, ◌+◌, ◌/◌, ◌<◌, ◌^◌, ◌∙◌, ◌≡◌, ◌⊎◌}
use Rattle.linker_laws.specs.X86Machine.{State, with_register}

abbrev execute_lea : ℕ → ℕ → ℕ → ℕ → State → State
execute_lea n r address next s =
    record s { ip = next; register = with_register r (address % 2 ^ n) s.register }

low_half : (a b c d rest : ℕ)
    → (a % 2 ^ 8 + 2 ^ 8 * (b % 2 ^ 8 + 2 ^ 8 * (c % 2 ^ 8 + 2 ^ 8 * (d % 2 ^ 8 + 2 ^ 8 * rest))))
    % 2 ^ 32
    ≡ a % 2 ^ 8 + 2 ^ 8 * (b % 2 ^ 8 + 2 ^ 8 * (c % 2 ^ 8 + 2 ^ 8 * (d % 2 ^ 8 + 2 ^ 8 * 0)))
low_half a b c d rest = omega arith

load_low : (s : State) (a : ℕ) → load 8 s a % 2 ^ 32 ≡ load 4 s a
load_low s a = low_half _ _ _ _ _

-- operands are of 32 or of 64 bits
abbrev pub IsSize : ℕ → Type 0
IsSize n = (n ≡ 32) ⊎ (n ≡ 64)

-- what is loaded from the address of a number
pub loaded : (s : State) (next n d a number : ℕ) → IsSize n → sum_64 next (extended d) ≡ a
    → load 8 s a ≡ number → number < 2 ^ 64
    → operand_value s next n (relative d) ≡ number % 2 ^ n
loaded s next n d a number size at held small =
    elim size [
      | inl e ↦ subst (λ n. load (n / 8) s (sum_64 next (extended d)) ≡ number % 2 ^ n) (sym e)
          (ap (load 4 s) at ∙ sym (load_low s a) ∙ ap (λ x. x % 2 ^ 32) held)
      | inr e ↦ subst (λ n. load (n / 8) s (sum_64 next (extended d)) ≡ number % 2 ^ n) (sym e)
          (ap (load 8 s) at ∙ held
          ∙ (let same : number ≡ number % 2 ^ 64 = omega arith in same))
    ]

-- MOV of that number, and LEA of its address
pub same_load : (s : State) (next n r d e number : ℕ)
    → operand_value s next n (relative d) ≡ number % 2 ^ n → sum_64 next (extended e) ≡ number
    → execute (operate MOV n (register r) (relative d)) next s ≡ execute (lea n r e) next s
same_load s next n r d e number is there =
    ap (λ b. perform MOV n (register r) (operand_value s next n (register r)) b next s) is
    ∙ ap (λ x. execute_lea n r x next s) (sym there)

pub same_operation : (op : Operation) (s : State) (next n r d i : ℕ)
    → operand_value s next n (relative d) ≡ operand_value s next n (immediate i)
    → execute (operate op n (register r) (relative d)) next s
    ≡ execute (operate op n (register r) (immediate i)) next s
same_operation op s next n r d i same =
    ap (λ b. perform op n (register r) (operand_value s next n (register r)) b next s) same

-- TEST of memory and a register, and of that register and an immediate
pub same_test : (s : State) (next n r d i : ℕ)
    → operand_value s next n (relative d) ≡ operand_value s next n (immediate i)
    → execute (operate TEST n (relative d) (register r)) next s
    ≡ execute (operate TEST n (register r) (immediate i)) next s
same_test s next n r d i same =
    let a = operand_value s next n (register r) in
    ap (λ b. perform TEST n (relative d) b a next s) same
    ∙ ap (λ x. record s { ip = next; register = s.register; flags = (logical n x).1 })
    (and_comm (operand_value s next n (immediate i)) a)

-- the same into a register
pub same_into : (op : Operation) (s : State) (next n r d i destination : ℕ) (without_flags : Bool)
    → operand_value s next n (relative d) ≡ operand_value s next n (immediate i)
    → execute (operate_into destination without_flags op n (register r) (relative d)) next s
    ≡ execute (operate_into destination without_flags op n (register r) (immediate i)) next s
same_into op s next n r d i destination without_flags same =
    let a = operand_value s next n (register r) in
    ap (λ b. record s {
      ip = next;
      register = with_register destination (result op n s.flags a b).0 s.register;
      flags = if without_flags then s.flags else (result op n s.flags a b).1;
    }) same
