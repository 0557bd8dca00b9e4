-- RV32's calls, by what RV64's instructions do.
use Rattle.linker_final.proofs.Imports.{Bool, CjType, IType, IsApplied, IsSomeAnd, List, Operands, PltRelative, RiscVRelocation, Some, UType, UiType, address_is, address_of, after_rewrite, ap, ap₂, arith, call as long_one, call_to_cjal, drop, eq-eqb, even, false, fetched_word, field, from_le_bytes, if◌then◌else◌, ints, jump as word_one, jump_row, le-leb, length, length-drop, lift, moved, nat_le, ne_eqb, negsuc, pair_row, plt_address, pos, put_there, rd_of, refl, riscv_form, riscv_row, same_low_two, short_jump as half_one, subst, sum_64, sym, symbol_address, true, w16, w32, word_of, wrapped_is, ℕ, ℤ, ◌%◌, ◌&&◌, ◌+ℤ◌, ◌+◌, ◌-◌, ◌==◌, ◌^◌, ◌∙◌, ◌≡◌, ◌≢◌, ◌≤◌}
use Rattle.linker_final.specs.RiscV32.{Calls, HasCalled, IsSame32, LongCall, PackedCall, ShortCall, executed_32, fetched_32, is_cjal, modulo_32, step_32}
use Rattle.linker_laws.specs.RiscVMachine.{Hart, Instruction, auipc, executed, fetched, goes_on, goes_to, jal, jumps, of_word, rs1_of, sums, with_integer, register}
use Rattle.linker_final.proofs.RiscV32.{symbol_32, with_addend_sum}
use Rattle.linker_laws.proofs.RiscVJumps.{high_decodes, high_long, low_decodes, low_long, pair_base, pair_leads, pair_link, pair_register, short_jump_function, short_jump_leads, short_jump_low}
use Rattle.linker_elf.specs.declared.riscv64.relocations.RiscVRelocation.TheVariants as names
use Rattle.linker_utils.specs.declared.riscv64.rewrites.RewriteKind.TheVariants as kinds

-- ---- what is fetched

fetched_cjal : (bytes : List ℕ) → 2 ≤ length bytes → field (from_le_bytes w16 bytes) 0 2 ≡ 1
    → field (from_le_bytes w16 bytes) 13 16 ≡ 1
    → fetched_32 bytes ≡ Some (2, jal 1 ((riscv_form CjType).machine (from_le_bytes w16 bytes)))
fetched_cjal bytes long low function =
    let half = from_le_bytes w16 bytes in
    ap (λ b. if b then Some (2, jal 1 ((riscv_form CjType).machine half)) else fetched bytes)
    (ap (λ b. b && is_cjal half) (le-leb 2 (length bytes) long)
    ∙ ap (λ n. n == 1 && field half 13 16 == 1) low ∙ ap (λ n. n == 1) function)

neither : (b : Bool) → (b && false) ≡ false
neither true = refl
neither false = refl

fetched_long : (bytes : List ℕ) (i : Instruction) → field (from_le_bytes w32 bytes) 0 2 ≡ 3
    → 4 ≤ length bytes → of_word (from_le_bytes w32 bytes) ≡ Some i → fetched_32 bytes ≡ Some (4, i)
fetched_long bytes i low long is =
    let half = from_le_bytes w16 bytes in
    let short = Some (2, jal 1 ((riscv_form CjType).machine half)) in
    ap (λ b. if b then short else fetched bytes)
    (ap (λ n. nat_le 2 (length bytes) && (n == 1 && field half 13 16 == 1)) (same_low_two bytes ∙ low)
    ∙ neither (nat_le 2 (length bytes)))
    ∙ fetched_word bytes i low long is

-- ---- numbers modulo 2^32

moved_32 : (n : ℕ) (z : ℤ) → moved (n % 2 ^ 32) z % 2 ^ 32 ≡ moved n z % 2 ^ 32
moved_32 n z =
    let x = lift z in
    let e = x.is in
    let one : moved n z ≡ (n + x.number) % 2 ^ 64 = wrapped_is (pos n +ℤ z) x.times (n + x.number) (omega (arith, ints)) in
    let other : moved (n % 2 ^ 32) z ≡ (n % 2 ^ 32 + x.number) % 2 ^ 64 =
    wrapped_is (pos (n % 2 ^ 32) +ℤ z) x.times (n % 2 ^ 32 + x.number) (omega (arith, ints)) in
    ap (λ m. m % 2 ^ 32) other
    ∙ (let same : (n % 2 ^ 32 + x.number) % 2 ^ 64 % 2 ^ 32 ≡ (n + x.number) % 2 ^ 64 % 2 ^ 32 = omega arith in same)
    ∙ sym (ap (λ m. m % 2 ^ 32) one)

even_32 : (a b : ℕ) → a % 2 ^ 32 ≡ b % 2 ^ 32 → (a - a % 2) % 2 ^ 32 ≡ (b - b % 2) % 2 ^ 32
even_32 a b e = omega (arith, e)

-- a register that isn't written
kept : (zero is : Bool) (v n m : ℕ) → is ≡ false → n % 2 ^ 32 ≡ m % 2 ^ 32
    → (if zero then 0 else (if is then v else n) % 2 ^ 32) ≡ (if zero then 0 else m) % 2 ^ 32
kept true is v n m isnt same = refl
kept false false v n m isnt same = same
kept false true v n m isnt same = absurd (let e : true ≡ false = isnt in cc)

-- one that is
written_32 : (rd v : ℕ) (h : Hart) → rd ≢ 0
    → register (modulo_32 (goes_on 4 (with_integer rd v h))) rd ≡ v % 2 ^ 32
written_32 rd v h some =
    ap (λ b. if b then 0 else (if rd == rd then v else h.integers rd) % 2 ^ 32) (ne_eqb rd 0 some)
    ∙ ap (λ b. (if b then v else h.integers rd) % 2 ^ 32) (eq-eqb rd rd refl)

plt_32 : (o : Operands) (a : ℤ) → IsSame32 a o.addend
    → even plt_address (record o { addend = a }) % 2 ^ 32 ≡ even plt_address o % 2 ^ 32
plt_32 o a same = omega (arith, same)

-- ---- `c.jal`

called : (code : List ℕ) (place target : ℕ) (j : ℤ) (h : Hart) → h.pc ≡ place → fetched_32 code ≡ Some (2, jal 1 j) → moved place j % 2 ^ 32 ≡ target % 2 ^ 32
    → IsSomeAnd (step_32 code h) (HasCalled 2 place target 1 h)
called code place target j h at is leads =
    subst (λ s. IsSomeAnd s (HasCalled 2 place target 1 h))
    (sym (ap (λ i. executed_32 i h) is))
    (record {
      goes = ap (λ a. moved a j % 2 ^ 32) at ∙ leads;
      links = ap (λ a. sum_64 a 2 % 2 ^ 32) at
          ∙ (let e : sum_64 place 2 % 2 ^ 32 ≡ (place + 2) % 2 ^ 32 = omega arith in e);
      others = λ r link base. kept (r == 0) (r == 1) (sum_64 h.pc 2) (h.integers r) (h.integers r) (ne_eqb r 1 link) refl;
      floats = refl;
      memory = refl;
    })

short_is : ShortCall
short_is o call code m h at =
    let p : Operands = record o { addend = m.addend } in
    let jump = after_rewrite kinds.CallToCJal call 0 in
    let half = from_le_bytes w16 code in
    let j = (riscv_form CjType).machine half in
    let inside = m.matches.inside in
    let there : from_le_bytes w16 jump ≡ 0x2001 = ap (from_le_bytes w16) (put_there call 0 2 call_to_cjal (omega arith)) in
    let quadrant : field (from_le_bytes w16 jump) 0 2 ≡ 1 = omega (arith, there) in
    let function : field (from_le_bytes w16 jump) 13 16 ≡ 1 = omega (arith, there) in
    let applied : IsApplied (jump_row 16 CjType (negsuc 2047, pos 2047)) p jump code = m.relocated.applied in
    let long = applied.accepted.long in
    let len = m.relocated.len in
    let is = fetched_cjal code (omega (arith, long, len))
    (short_jump_low p jump code applied len quadrant function)
    (short_jump_function p jump code applied len quadrant function) in
    called code o.place (symbol_address o) j h at is
    (ap (λ m. m % 2 ^ 32) (short_jump_leads p jump code applied len quadrant function (with_addend_sum o m.addend m.addresses)) ∙ symbol_32 o m.addend m.same)

packed_call : PackedCall
packed_call s site code (half_one len short cj) two link h at =
    called code (address_of s site.offset) (address_of s site.target) ((riscv_form CjType).machine (from_le_bytes w16 code)) h at
    (fetched_cjal code (omega (arith, two)) cj.quadrant (cj.function ∙ ap (λ l. if l == 0 then 5 else 1) link))
    (ap (λ m. m % 2 ^ 32) (address_is _ (address_of s site.target) cj.goes))
packed_call s site code (word_one len word) two link h at = absurd (omega (arith, len, two))
packed_call s site code (long_one len far) two link h at = absurd (omega (arith, len, two))

-- ---- `auipc` and `jalr`

long_call : (name : RiscVRelocation) → riscv_row name ≡ Some (pair_row PltRelative 64 UiType) → LongCall name
long_call name row_is o call code m h at =
    let p : Operands = record o { addend = m.addend } in
    let applied = subst (λ r. IsSomeAnd r (λ row. IsApplied row p call code)) row_is m.relocated.applied in
    let old = m.relocated.old_bytes in
    let new = m.relocated.bytes in
    let len = m.relocated.len in
    let pair = m.matches.pair in
    let inside = m.matches.inside in
    let low = word_of code in
    let high = word_of (drop 4 code) in
    let base = rd_of (word_of call) in
    let u = (riscv_form UType).machine low in
    let i = (riscv_form IType).machine high in
    let middle = modulo_32 (executed 4 (auipc (rd_of low) u) h) in
    let base_is : rd_of low ≡ base = pair_register p call code applied old new len pair in
    let link_is : rd_of high ≡ 1 = pair_link p call code applied old new len pair ∙ m.matches.links in
    let v : register middle (rs1_of high) ≡ moved o.place u % 2 ^ 32 =
    ap (register middle) (pair_base p call code applied old new len pair ∙ sym base_is)
    ∙ written_32 (rd_of low) (moved h.pc u) h (λ zero. m.matches.base (sym base_is ∙ zero))
    ∙ ap (λ a. moved a u % 2 ^ 32) at in
    let second : Hart = modulo_32 (goes_to (moved (moved o.place u % 2 ^ 32) i - moved (moved o.place u % 2 ^ 32) i % 2)
    (with_integer 1 (sum_64 middle.pc 4) middle)) in
    let first_is : step_32 code h ≡ Some middle =
    ap (λ i. executed_32 i h) (fetched_long code (auipc (rd_of low) u)
    (low_long p call code applied old new len pair) (omega (arith, inside, len))
    (low_decodes p call code applied old new len pair)) in
    let second_is : step_32 (drop 4 code) middle ≡ Some second =
    ap (λ i. executed_32 i middle) (fetched_long (drop 4 code) (sums jumps (rd_of high) (rs1_of high) 0 i)
    (high_long p call code applied old new len pair) (let after = length-drop 4 code in omega (arith, after, inside, len))
    (high_decodes p call code applied old new len pair))
    ∙ ap₂ (λ m r. Some (modulo_32 (goes_to (moved m i - moved m i % 2) (with_integer r (sum_64 middle.pc 4) middle)))) v link_is in
    let leads = pair_leads p call code applied old new len pair (with_addend_sum o m.addend m.addresses) in
    subst (λ s. IsSomeAnd s (λ m. (m.pc ≡ (o.place + 4) % 2 ^ 32)
    × IsSomeAnd (step_32 (drop 4 code) m) (HasCalled 8 o.place (even plt_address o) base h)))
    (sym first_is) (
      ap (λ a. sum_64 a 4 % 2 ^ 32) at
          ∙ (let e : sum_64 o.place 4 % 2 ^ 32 ≡ (o.place + 4) % 2 ^ 32 = omega arith in e),
      subst (λ s. IsSomeAnd s (HasCalled 8 o.place (even plt_address o) base h)) (sym second_is)
          (record {
            goes = even_32 _ _ (moved_32 (moved o.place u) i) ∙ ap (λ m. m % 2 ^ 32) leads ∙ plt_32 o m.addend m.same;
            links = ap (λ a. sum_64 (sum_64 a 4 % 2 ^ 32) 4 % 2 ^ 32) at
                ∙ (let e : sum_64 (sum_64 o.place 4 % 2 ^ 32) 4 % 2 ^ 32 ≡ (o.place + 8) % 2 ^ 32 = omega arith in e);
            others = λ r link isnt. kept (r == 0) (r == 1) (sum_64 middle.pc 4) (middle.integers r) (h.integers r) (ne_eqb r 1 link)
                (ap (λ b. (if b then moved h.pc u else h.integers r) % 2 ^ 32 % 2 ^ 32)
                (ne_eqb r (rd_of low) (λ e. isnt (e ∙ base_is)))
                ∙ (let e : h.integers r % 2 ^ 32 % 2 ^ 32 ≡ h.integers r % 2 ^ 32 = omega arith in e));
            floats = refl;
            memory = refl;
          }),
    )

pub calls : Calls
calls = (long_call names.R_RISCV_CALL refl, long_call names.R_RISCV_CALL_PLT refl, short_is, packed_call)
