-- RISC-V: low parts over x3 and x0, and what is deleted before them.
use Rattle.linker_final.proofs.Imports.{Absolute, AbsoluteAddresses, Bool, IType, IsAddress, IsTrue, Law, List, None, Operands, Option, Relative, RelativeRiscVLow12, Relocated, RelocationKind, RowInfo, Some, UType, absolute_rows, address_in, adds_low12, ap, arith, based_group, below_32, cast_signed, cast_unsigned, difference_64, drop, false, from_le_bytes, funct3_of, if◌then◌else◌, ints, lo12, ltb-true, machine, moved, moved_twice, nothing_left, of_z-to_z, opcode_of, pair_row, pos, puts, rd_of, refl, riscv_form, row_of, signed, subst, sum_64, sum_zero, sym, symbol_address, true, true≢false, unsigned_abs, w32, w64, word_at, word_goes, word_of, wrapped, written, ℕ, ℤ, ◌%◌, ◌&&◌, ◌+ℤ◌, ◌+◌, ◌-◌, ◌<◌, ◌^◌, ◌∙◌, ◌≡◌, ◌≤◌, ◌⊎◌}
use Rattle.linker_laws.specs.RiscVMachine.{Action, auipc, goes_to, lui, rs1_of, stores, with_integer, register}
use Rattle.linker_laws.specs.RiscVRelocationLaws.{RelativeAddresses}
use Rattle.linker_final.specs.RiscVSection.{AuipcGoes, LowPartsFromBase, LuiGoes, PartsFromBase, ValuesAreDistances, after_base, distance, labelled_row}
use Rattle.linker_laws.specs.RiscVGroups.{Has, seen, low_row}
use Rattle.linker_elf.proofs.Entries.{sum_below}
use Rattle.linker_laws.proofs.RiscVDescriptors.{lui_word, upper_long, upper_word}
use Rattle.linker_laws.proofs.RiscVHighParts.{IsFormulaOf, of_address}
use Rattle.linker_laws.proofs.RiscVLowParts.{based_there, i_stands, low_sum, some_action}
use Rattle.linker_rewriting.specs.GlobalPointer.{address_of, base_by, base_for, base_of, based_relocation, is_near, relocation_over}
use Rattle.std.proofs.lemmas.Option.{same_Some}

-- ---- low parts

of_distance : IsFormulaOf RelativeRiscVLow12 distance
of_distance = (
  λ form x. ap (λ n. Some (cast_signed w64 (difference_64 n x.place)))
      (sum_zero (symbol_address x) (sum_below x.symbol _)),
  λ x. omega arith,
)

-- 12 bits hold what is near
near_number : (b s : ℕ) → is_near b s ≡ true
    → (difference_64 s b < 0x800) ⊎ (2 ^ 64 - 0x800 ≤ difference_64 s b)
near_number b s is =
    let less : ((s + (2 ^ 64 - b)) % 2 ^ 64 + 0x800) % 2 ^ 64 < 0x1000 = ltb-true _ _ is in
    let n : ℕ = (s + (2 ^ 64 - b)) % 2 ^ 64 in
    let below : n < 2 ^ 64 = omega arith in
    split n below less
  where
    split : (n : ℕ) → n < 2 ^ 64 → (n + 0x800) % 2 ^ 64 < 0x1000 → (n < 0x800) ⊎ (2 ^ 64 - 0x800 ≤ n)
    split n below less = grind arith

-- what a base is
pub record IsBase (gp s : ℕ) (base : ℕ × ℕ) : Type 0 where
  pub small : base.0 < 32
  pub below : base.1 < 2 ^ 64
  pub near : is_near (base.1) s ≡ true

base_by_tests : (gp s : ℕ) (zero_near gp_near : Bool) (base : ℕ × ℕ) → gp < 2 ^ 64
    → is_near 0 s ≡ zero_near → is_near gp s ≡ gp_near
    → (if zero_near then Some (0, 0) else (if gp_near then Some (3, gp) else None)) ≡ Some base
    → IsBase gp s base
base_by_tests gp s true gp_near base small zero_is gp_is is =
    subst (IsBase gp s) (same_Some (0, 0) base is)
    (record { small = omega arith; below = omega arith; near = zero_is })
base_by_tests gp s false true base small zero_is gp_is is =
    subst (IsBase gp s) (same_Some (3, gp) base is)
    (record { small = omega arith; below = small; near = gp_is })
base_by_tests gp s false false base small zero_is gp_is is = absurd (let e : None ≡ Some base = is in cc)

is_base : (gp s : ℕ) (base : ℕ × ℕ) → gp < 2 ^ 64 → base_for gp s ≡ Some base → IsBase gp s base
is_base gp s base small is = base_by_tests gp s (is_near 0 s) (is_near gp s) base small refl refl is

same_low : (v : ℕ) → v % 2 ^ 32 % 4096 ≡ v % 2 ^ 12
same_low v = omega arith

back : (b s : ℕ) → b < 2 ^ 64 → s < 2 ^ 64 → sum_64 b (difference_64 s b) ≡ s
back b s below small = omega arith

-- the new base and the new value make the address
based_sum : (gp : ℕ) (x y : Operands) (base : ℕ × ℕ) (v : ℕ) → IsBase gp (symbol_address x) base
    → symbol_address y ≡ difference_64 (symbol_address x) (base.1) → v ≡ base.1
    → moved v (signed 12 (symbol_address y % 2 ^ 32 % 4096)) ≡ symbol_address x
based_sum gp x y base v is value there =
    let n = symbol_address y in
    cc (
      low_sum v n (n % 2 ^ 32 % 4096) (sum_below y.symbol _) (subst (λ m. (m < 0x800) ⊎ (2 ^ 64 - 0x800 ≤ m)) (sym value) (near_number (base.1) (symbol_address x) is.near)) refl,
      back (base.1) (symbol_address x) is.below (sum_below x.symbol _),
    )

labelled_rows : (a : Action) → labelled_row a ≡ row_of RelativeRiscVLow12 a
labelled_rows (stores f) = refl
labelled_rows a = refl

first_of_and : (a b : Bool) → (a && b) ≡ true → IsTrue a
first_of_and true b is = refl
first_of_and false b is = absurd (true≢false (sym is))

parts : (kind : RelocationKind) (number : Operands → ℕ) → IsFormulaOf kind number
    → (row : Action → Option RowInfo) → ((a : Action) → row a ≡ row_of kind a)
    → PartsFromBase row number
parts kind number of row rows section o gp small inside is =
    let word = word_at section o in
    let some = some_action (opcode_of word) (funct3_of word)
    (first_of_and (adds_low12 (opcode_of word) (funct3_of word)) _ is) in
    let a = some.0 in
    let low = drop o section in
    rw some.1 (λ c x y base k k' s based value at high there old new keeps.
    let made = drop o (after_base base.0 section o) in
    let base_is = is_base gp (symbol_address x) base small based in
    let old' = subst (λ r. Has 4 c.old s.pc r x low) (rows a) old in
    based_group kind Absolute number symbol_address of of_address base.0 base_is.small low made
    (based_there section o base.0 base_is.small inside old'.applied.old_bytes) some.2 a some.1 c x y k k' s
    (symbol_address x) at old' (subst (λ r. Has 4 c.new y.place r y made) (absolute_rows a) new)
    (ap (λ v. moved (register (seen s) (rs1_of word)) (signed 12 v)) (same_low (number x)) ∙ high)
    (λ t agree. based_sum gp x y base (register (seen t) base.0) base_is value (there t agree)) keeps)

pub low_parts : LowPartsFromBase
low_parts = (
  parts Absolute symbol_address of_address low_row absolute_rows,
  parts RelativeRiscVLow12 distance of_distance labelled_row labelled_rows,
)

-- ---- values

moved_by : (s a b : ℕ) → b < 2 ^ 64 → sum_64 s (difference_64 a b) ≡ difference_64 (sum_64 s a) b
moved_by s a b below = omega arith

pub values_are_distances : ValuesAreDistances
values_are_distances addresses values gp r value code base small symbol is_low based =
    let b = base.1 in
    let a = cast_unsigned w64 r.addend in
    let base_is = is_base gp (address_of addresses r value) base small based in
    let of_symbol : base_of addresses values gp r ≡ Some base = ap (base_by addresses gp r) symbol ∙ based in
    let after : based_relocation addresses values gp r ≡ relocation_over r (Some code) (Some base) = cc in
    let n : ℕ = difference_64 a b in (
      ap (λ x. x.r_type) after,
      ap (λ x. x.symbol) after,
      ap (λ x. address_of addresses x value) after
          ∙ (ap (sum_64 (address_in addresses value)) (of_z-to_z w64 n (omega arith))
          ∙ moved_by (address_in addresses value) a b base_is.below),
    )

-- ---- high parts

-- from what begins with a number, what an upper immediate adds, and the low part
with_low : (b s : ℕ) (upper low : ℤ) → IsAddress (pos b +ℤ (upper +ℤ low)) s → moved (moved b upper) low ≡ s
with_low b s upper low is = moved_twice b upper low ∙ ap unsigned_abs is

from_zero : (z : ℤ) → wrapped z ≡ moved 0 z
from_zero z = ap wrapped (let e : z ≡ pos 0 +ℤ z = omega (arith, ints) in e)

-- what a low part of the I format holds
holds_low : (kind : RelocationKind) (number : Operands → ℕ) → IsFormulaOf kind number → (x : Operands)
    (before code : List ℕ) → Relocated (Some (pair_row kind 32 IType)) x before code
    → (riscv_form IType).machine (from_le_bytes w32 code) ≡ lo12 (number x)
holds_low kind number of x before code is =
    cc (i_stands kind x (number x) before code is.applied (of.1 x) (of.0 IType x), same_low (number x))

pub lui_goes : AbsoluteAddresses Law → LuiGoes
lui_goes laws c x k s bytes before_low low addresses d is some has is_low =
    let rd = rd_of (word_of bytes) in
    let a = has.applied.applied in
    let u = (riscv_form UType).machine (word_of has.relocated) in
    let l = (riscv_form IType).machine (word_of low) in
    let next : sum_64 s.pc 4 ≡ s.pc + 4 = omega (arith, d.small) in
    let sum : moved (moved 0 u) l ≡ symbol_address x =
    with_low 0 (symbol_address x) u l (laws.0.0 x addresses 0 bytes has.relocated a tt 0 before_low low is_low.applied tt) in
    record {
      group = nothing_left c k s rd (wrapped u) d
          (puts (machine c.others c.old) s 4 (lui rd u) rd (wrapped u) (s.pc + 4) (below_32 (word_of bytes))
          (word_goes c.others c.old s s.pc has.relocated (lui rd u) refl has.stands
          (upper_long Absolute x bytes has.relocated a 0x37 refl is)
          (lui_word Absolute x bytes has.relocated a rd is refl))
          (ap (λ n. goes_to n (with_integer rd (wrapped u) (seen s))) next));
      leaves =
          ap (λ v. moved v (lo12 (symbol_address x))) (written rd (wrapped u) (seen s) some ∙ from_zero u)
          ∙ (ap (moved (moved 0 u)) (sym (holds_low Absolute symbol_address of_address x before_low low is_low)) ∙ sum);
    }

pub auipc_goes : RelativeAddresses → AuipcGoes
auipc_goes laws c x k s bytes before_low low addresses at d is some has is_low =
    let rd = rd_of (word_of bytes) in
    let a = has.applied.applied in
    let u = (riscv_form UType).machine (word_of has.relocated) in
    let l = (riscv_form IType).machine (word_of low) in
    let next : sum_64 s.pc 4 ≡ s.pc + 4 = omega (arith, d.small) in
    let sum : moved (moved x.place u) l ≡ symbol_address x =
    with_low x.place (symbol_address x) u l (laws.0 x addresses 0 bytes has.relocated a tt 0 before_low low is_low.applied tt) in
    record {
      group = nothing_left c k s rd (moved s.pc u) d
          (puts (machine c.others c.old) s 4 (auipc rd u) rd (moved s.pc u) (s.pc + 4) (below_32 (word_of bytes))
          (word_goes c.others c.old s s.pc has.relocated (auipc rd u) refl has.stands
          (upper_long Relative x bytes has.relocated a 0x17 refl is)
          (upper_word Relative x bytes has.relocated a rd is refl))
          (ap (λ n. goes_to n (with_integer rd (moved s.pc u) (seen s))) next));
      leaves =
          ap (λ v. moved v (lo12 (distance x))) (written rd (moved s.pc u) (seen s) some ∙ ap (λ p. moved p u) at)
          ∙ (ap (moved (moved x.place u)) (sym (holds_low RelativeRiscVLow12 distance of_distance x before_low low is_low)) ∙ sum);
    }
