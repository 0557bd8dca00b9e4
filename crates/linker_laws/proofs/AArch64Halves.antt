-- The halves of initial-exec, each by itself.
use Rattle.linker_laws.proofs.Imports.{AArch64, Adr, AreAddresses, IsAdrp, IsIntoOwnSource, IsLdr64, LdSt, LdrRegister, List, MovkXn, Movkz, Movnz, MovzXnLsl16, Operands, Signed, Some, TpOff, aarch64_form, aarch64_rows, ap, arith, bit_at, bit_bounds, bits_from, cast_signed, cond-false, difference_64, eq-eqb, eqb, field, in_64_bits, int_rem_euclid, int_rem_euclid_is, ints, is_movk, load_64, movk, movn_or_movz, nat_lt, ne_eqb, not, page, plain_written, pos, rd_of, read_x, refl, shift_of, step, subst, sum_64, sym, symbol_address, thread_offset, tls_base, w64, with_moved, word_of, ℕ, ℤ, ◌%◌, ◌&&◌, ◌*ℤ◌, ◌*◌, ◌+ℤ◌, ◌+◌, ◌-◌, ◌/◌, ◌<◌, ◌^◌, ◌∙◌, ◌≡◌, ◌≢◌}
use Rattle.linker_elf.specs.declared.aarch64.relocations.AArch64Relocation.TheVariants as names
use Rattle.linker_laws.proofs.Instructions.{reads_bits, field_sum, relative, symbol_from_tls, unbiased}
use Rattle.linker_laws.proofs.AArch64WideMoves.{movn_first}
use Rattle.linker_laws.proofs.AArch64Pages.{offset_reads, IsUnsigned}
use Rattle.linker_laws.proofs.Sums.{sum_below, difference_below, page_halves_sum, taken_off, cast_is, euclid, lift, lifted_is, page_below, page_parts}
use Rattle.linker_laws.specs.AArch64Groups.{IsRelocated}
use Rattle.linker_laws.specs.AArch64Groups as aarch64_laws
use Rattle.linker_laws.specs.AArch64Machine.{State, moved, loaded}
use Rattle.linker_laws.proofs.AArch64Moves.{movk_lifted, movz_is_no_movk}
use Rattle.linker_laws.proofs.AArch64Pairs.{word_made}
use Rattle.linker_laws.proofs.AArch64Steps.{set, step_adrp, step_ldr, step_move, step_movk, address_is}
use Rattle.linker_laws.proofs.AArch64Words.{adrp_after, decodes_adrp, ldr_of_register_after, movnz_after, movk_after}

-- ---- the high half

-- the page of the GOT entry
page_of_entry : (o : Operands) → AreAddresses o → (adrp after : List ℕ)
    → IsRelocated names.R_AARCH64_TLSIE_ADR_GOTTPREL_PAGE21 o adrp after
    → in_64_bits (pos (page o.place) +ℤ ((aarch64_form Adr).machine (word_of after) *ℤ pos 4096))
    ≡ page o.got_entry
page_of_entry o small adrp after a =
    let t = sum_64 o.got_entry 0 in
    let m = difference_64 (page (sum_64 t 0)) (page o.place) in
    let z = pos (page o.place) +ℤ ((aarch64_form Adr).machine (word_of after) *ℤ pos 4096) in
    let same : t ≡ o.got_entry = unbiased o.got_entry small.got_entry in
    let h = reads_bits _ _ _ _ _ _ _ _ _ _ o adrp after a (bit_bounds 33 Signed)
    a.accepted.reached.0 refl m (difference_below (page (sum_64 t 0)) (page o.place)) refl in
    let sum = page_halves_sum 0 o.place t m ((aarch64_form Adr).machine (word_of after))
    (pos (sum_64 t 0 % 2 ^ 12)) (omega arith) (sum_below o.got_entry 0) small.place refl h
    (ap pos (let e : sum_64 t 0 % 2 ^ 12 + 0 ≡ sum_64 t 0 % 2 ^ 12 = omega arith in e)) in
    address_is z (page t) (taken_off z (sum_64 t 0 % 2 ^ 12) t (page t) sum
    (page_below t (sum_below o.got_entry 0)) (parts t (sum_below o.got_entry 0)))
    ∙ ap page same
  where
    parts : (t : ℕ) → t < 2 ^ 64 → (page t + sum_64 t 0 % 2 ^ 12) % 2 ^ 64 ≡ t
    parts t small = omega arith

-- a number by its bits from 16 up
scaled : (q : ℤ) (k r t : ℕ) → q +ℤ pos (t * 2 ^ 64) ≡ pos k → r < 2 ^ 16
    → in_64_bits ((q *ℤ pos (2 ^ 16)) +ℤ pos r) / 2 ^ 16 ≡ k % 2 ^ 48
scaled q k r t is small =
    let z = (q *ℤ pos (2 ^ 16)) +ℤ pos r in
    let whole : z +ℤ pos (t * 2 ^ 16 * 2 ^ 64) ≡ pos (k * 2 ^ 16 + r) = omega (arith, ints) in
    ap (λ n. n / 2 ^ 16) (address_is z _ (lifted_is z (t * 2 ^ 16) (k * 2 ^ 16 + r) whole))
    ∙ (let e : (k * 2 ^ 16 + r) % 2 ^ 64 / 2 ^ 16 ≡ k % 2 ^ 48 = omega arith in e)

-- a number's bits from 16 up, and the rest
record Rest (v : ℤ) : Type 0 where
  pub number : ℕ
  pub below : number < 2 ^ 16
  pub is : v ≡ (bits_from 16 v *ℤ pos (2 ^ 16)) +ℤ pos number

rest : (v : ℤ) → Rest v
rest v =
    let l = lift v in
    let low : int_rem_euclid v (pos (2 ^ 16)) ≡ pos (l.number % 2 ^ 16) =
    int_rem_euclid_is v (pos (2 ^ 16)) (2 ^ 16) (l.times * 2 ^ 48) l.number (omega arith) refl
    (let turn : l.times * 2 ^ 64 ≡ l.times * 2 ^ 48 * 2 ^ 16 = omega arith in
    subst (λ x. v +ℤ pos x ≡ pos l.number) turn l.is) in
    record {
      number = l.number % 2 ^ 16;
      below = omega arith;
      is = sym (euclid v 16) ∙ ap (λ r. (bits_from 16 v *ℤ pos (2 ^ 16)) +ℤ r) low;
    }

-- numbers with the same bits from 16 up
same_bits : (v w : ℤ) → bits_from 16 v ≡ bits_from 16 w
    → in_64_bits v / 2 ^ 16 ≡ in_64_bits w / 2 ^ 16
same_bits v w same =
    let l = lift (bits_from 16 v) in
    let a = rest v in
    let b = rest w in
    ap (λ z. in_64_bits z / 2 ^ 16) a.is
    ∙ scaled (bits_from 16 v) l.number a.number l.times l.is a.below
    ∙ sym (ap (λ z. in_64_bits z / 2 ^ 16) (b.is
    ∙ ap (λ q. (q *ℤ pos (2 ^ 16)) +ℤ pos b.number) (sym same))
    ∙ scaled (bits_from 16 v) l.number b.number l.times l.is b.below)

-- what both runs execute at a high half, each from a state of its own
pub record HighSteps (o : Operands) (s t : State) (n x y : ℕ) : Type 0 where
  pub first : step x s ≡ Some (set n (page o.got_entry) s)
  pub second : step y t ≡ Some (set n (moved y) t)
  pub bits_are : moved y / 2 ^ 16 ≡ thread_offset o / 2 ^ 16

pub high_steps : (o : Operands) (s t : State) (adrp movz : List ℕ) → AreAddresses o → s.pc ≡ o.place
    → IsAdrp (word_of adrp) → rd_of (word_of adrp) ≢ 31
    → aarch64_laws.IsRewritten MovzXnLsl16 adrp movz → (adrp1 movz1 : List ℕ)
    → IsRelocated names.R_AARCH64_TLSIE_ADR_GOTTPREL_PAGE21 o adrp adrp1
    → IsRelocated names.R_AARCH64_TLSLE_MOVW_TPREL_G1 o movz movz1
    → HighSteps o s t (rd_of (word_of adrp)) (word_of adrp1) (word_of movz1)
high_steps o s t adrp movz small at is named made adrp1 movz1 a b =
    let n = rd_of (word_of adrp) in
    let x = word_of adrp1 in
    let y = word_of movz1 in
    let first = adrp_after _ _ adrp adrp1 a.written is in
    let word = word_made (λ w. 0xd2a00000 + rd_of w) adrp movz (omega arith) made in
    let below : n < 32 = omega arith in
    let shift : shift_of (word_of movz) ≡ 16 = omega arith in
    let wide : bit_at (word_of movz) 31 ≡ 1 = omega arith in
    let no_movk = movz_is_no_movk (word_of movz) n below word in
    let moved_in = plain_written (AArch64 Movnz) TpOff (record { start = 16; end = 32 }) b.value movz
    movz1 (ap (λ k. k && nat_lt 16 17) no_movk) refl b.written in
    let second = movnz_after _ _ movz movz1 moved_in wide in
    let rd : rd_of y ≡ n =
    second.rd_is ∙ (let e : rd_of (word_of movz) ≡ n = omega arith in e) in
    let bits = (movn_first 16 symbol_from_tls refl
    (aarch64_rows names.R_AARCH64_TLSLE_MOVW_TPREL_G1).1 (λ o. refl)).bits o small movz movz1 b
    (ap (λ k. (eqb k 16 && eqb (bit_at (word_of movz) 31) 1) && not (is_movk (word_of movz))) shift
    ∙ ap (λ b. b && not (is_movk (word_of movz))) (eq-eqb _ _ wide) ∙ ap not no_movk) in
    let w = cast_signed w64 (relative symbol_address tls_base o) in
    record {
      first = step_adrp x n s (decodes_adrp x first.opcode first.top) first.rd_is named
          ∙ ap (λ v. Some (set n v s))
          (ap (λ p. in_64_bits (pos (page p) +ℤ ((aarch64_form Adr).machine x *ℤ pos 4096))) at
          ∙ page_of_entry o small adrp adrp1 a);
      second = step_move y n t second.decodes rd named;
      bits_are = same_bits (movn_or_movz y) w bits
          ∙ ap (λ v. v / 2 ^ 16)
          (address_is w _ (cast_is (relative symbol_address tls_base o) (difference_below _ _))
          ∙ ap (λ a. difference_64 a o.tls_base)
          (unbiased (symbol_address o) (sum_below o.symbol _)));
    }

-- ---- the low half

-- the 16 bits of a MOVK
low_bits : (o : Operands) (movk after : List ℕ)
    → IsRelocated names.R_AARCH64_TLSLE_MOVW_TPREL_G0_NC o movk after
    → (aarch64_form Movkz).machine (word_of after)
    ≡ pos (field (relative symbol_address tls_base o) 0 16)
low_bits o movk after a =
    let n = relative symbol_address tls_base o in
    let f = field n 0 16 in
    ap pos (field_sum _ 0 16 (AArch64 Movkz) _ _ _ _ _ _ o movk after a refl refl (omega arith) n
    (difference_below _ _) refl
    ∙ (let same : (f - f % 2 ^ 0) % 2 ^ 16 ≡ f = omega arith in same))

-- bits from 16 up with others below them
joined : (c n : ℕ) → n < 2 ^ 64 → c / 2 ^ 16 ≡ n / 2 ^ 16
    → (c - c % 2 ^ 16 + field n 0 16) % 2 ^ 64 ≡ n
joined c n small same = omega arith

ldr_is : IsUnsigned LdrRegister
ldr_is = (refl, refl, refl, λ c x. refl)

-- the GOT entry's address
entry_of_page : (o : Operands) → AreAddresses o → (ldr after : List ℕ)
    → IsRelocated names.R_AARCH64_TLSIE_LD64_GOTTPREL_LO12_NC o ldr after
    → in_64_bits (pos (page o.got_entry) +ℤ ((aarch64_form LdSt).machine (word_of after) *ℤ pos 8))
    ≡ o.got_entry
entry_of_page o small ldr after a =
    let t = sum_64 (sum_64 o.got_entry 0) 0 in
    let same : t ≡ o.got_entry =
    unbiased (sum_64 o.got_entry 0) (sum_below o.got_entry 0)
    ∙ unbiased o.got_entry small.got_entry in
    let l = offset_reads LdrRegister ldr_is _ 3 _ _ _ _ _ o ldr after a t (sum_below _ 0)
    (omega arith) refl in
    let z = pos (page o.got_entry) +ℤ pos (t % 2 ^ 12) in
    ap (λ k. in_64_bits (pos (page o.got_entry) +ℤ k)) l
    ∙ address_is z _ (lifted_is z 0 (page o.got_entry + t % 2 ^ 12) (omega (arith, ints)))
    ∙ ap (λ t. (page o.got_entry + t % 2 ^ 12) % 2 ^ 64) same ∙ page_parts o.got_entry small.got_entry

-- Register n has what a high half of the variable makes: in the object's run the page of the GOT
-- entry, and in the new one a number that has the offset's bits from 16 up.
pub record HasHigh (n : ℕ) (o : Operands) (s t : State) : Type 0 where
  pub page_is : s.registers n ≡ page o.got_entry
  pub bits_are : t.registers n / 2 ^ 16 ≡ thread_offset o / 2 ^ 16

-- what both runs execute at a low half, each from a state of its own
pub record LowSteps (o : Operands) (s t : State) (n x y : ℕ) : Type 0 where
  pub first : step x s ≡ Some (set n (thread_offset o) s)
  pub second : step y t ≡ Some (set n (thread_offset o) t)

pub low_steps : (o : Operands) (s t : State) (ldr movk : List ℕ) → AreAddresses o
    → IsLdr64 (word_of ldr) → IsIntoOwnSource (word_of ldr)
    → load_64 s.memory o.got_entry ≡ thread_offset o
    → HasHigh (rd_of (word_of ldr)) o s t → aarch64_laws.IsRewritten MovkXn ldr movk
    → (ldr1 movk1 : List ℕ)
    → IsRelocated names.R_AARCH64_TLSIE_LD64_GOTTPREL_LO12_NC o ldr ldr1
    → IsRelocated names.R_AARCH64_TLSLE_MOVW_TPREL_G0_NC o movk movk1
    → LowSteps o s t (rd_of (word_of ldr)) (word_of ldr1) (word_of movk1)
low_steps o s t ldr movk_bytes small is own holds high made ldr1 movk1 a b =
    let n = rd_of (word_of ldr) in
    let named = own.not_31 in
    let x = word_of ldr1 in
    let y = word_of movk1 in
    let first = ldr_of_register_after _ _ ldr ldr1 a.written is in
    let word = word_made (λ w. 0xf2800000 + rd_of w) ldr movk_bytes (omega arith) made in
    let second = movk_after _ _ movk_bytes movk1 b.written (omega arith) in
    let rd : rd_of y ≡ n =
    second.rd_is ∙ (let e : rd_of (word_of movk_bytes) ≡ n = omega arith in e) in
    let d = relative symbol_address tls_base o in
    let held = t.registers n in
    let offset : d ≡ thread_offset o =
    ap (λ a. difference_64 a o.tls_base) (unbiased (symbol_address o) (sum_below o.symbol _)) in
    let old : loaded x s ≡ thread_offset o =
    ap (λ r. load_64 s.memory (in_64_bits (pos (s.registers r)
    +ℤ ((aarch64_form LdSt).machine x *ℤ pos 8)))) (first.rn_is ∙ own.same)
    ∙ ap (λ p. load_64 s.memory (in_64_bits (pos p +ℤ ((aarch64_form LdSt).machine x *ℤ pos 8))))
    high.page_is
    ∙ ap (load_64 s.memory) (entry_of_page o small ldr ldr1 a) ∙ holds in
    let read : read_x (rd_of y) t ≡ held =
    ap (λ r. read_x r t) rd ∙ cond-false (eqb n 31) 0 held (ne_eqb n 31 named) in
    let low = low_bits o movk_bytes movk1 b in
    let new : with_moved y t ≡ thread_offset o =
    ap (λ k. in_64_bits (movk k (pos (read_x (rd_of y) t)) y)) second.shift_is
    ∙ ap (λ r. in_64_bits (movk 0 (pos r) y)) read
    ∙ movk_lifted (pos held) 0 held (omega (arith, ints)) y 0 (field d 0 16)
    (ap (λ k. (k *ℤ pos (2 ^ 0)) +ℤ pos (0 * 2 ^ 64)) low ∙ omega (arith, ints))
    ∙ joined held d (difference_below _ _) (high.bits_are ∙ ap (λ k. k / 2 ^ 16) (sym offset))
    ∙ offset in
    record {
      first = step_ldr x n s first.decodes first.rd_is named ∙ ap (λ v. Some (set n v s)) old;
      second = step_movk y n t second.decodes rd named ∙ ap (λ v. Some (set n v t)) new;
    }
