-- PowerPC64: instructions of thread-local sequences of prefixed code, each in two runs.
use Rattle.linker_laws.proofs.Imports.{AreAddresses, Bool, D, Ds, IsRelocated, List, Operands, Prefixed, RewriteKind, Some, access_of, accesses, addi_of_thread, and_parts, ap, arith, bits_to, by_displacement, by_word_displacement, cases_Bool, cond-false, cond-true, consecutive_bits_sum, drop, eq-eqb, eqb, eqb-true, eqb_tells, false, field, from_thread, if◌then◌else◌, inl, inr, ints, is_access, is_add_of_thread, is_indexed, is_indexed_any, is_indexed_word, is_pla, is_word_access, ld_of, move_of, moved, opcode_of, or_cases, place_sum, pos, ppc64_form, prefixed_of, ra_of, rb_of, refl, registers_of, replaced, rt_of, signed, subst, sum_64, sym, symbol_address, take, to_move, true, two_words as both_words, word_of, ℕ, ℤ, ◌%◌, ◌&&◌, ◌*◌, ◌+ℤ◌, ◌+◌, ◌/◌, ◌<◌, ◌==◌, ◌^◌, ◌∙◌, ◌≡◌}
use Rattle.linker_base.proofs.Places.{sums}
use Rattle.linker_elf.specs.declared.ppc64.relocations.Ppc64Relocation.TheVariants as names
use Rattle.linker_utils.specs.Ppc64Rewrites.{nop, direct}
use Rattle.linker_utils.specs.declared.ppc64.rewrites.RewriteKind.TheVariants as kinds
use Rattle.linker_laws.specs.Ppc64Machine.{State, Formats, Access, accessed, access_with, write, by_opcode, execute, go_on, step, word_access_with}
use Rattle.linker_laws.specs.Ppc64RelocationLaws as relocation_laws
use Rattle.linker_laws.specs.Ppc64Groups.{adds}
use Rattle.linker_laws.specs.Ppc64Groups as groups
use Rattle.linker_laws.proofs.AArch64Pairs.{word_made}
use Rattle.linker_laws.proofs.Ppc64Accesses.{step_access, indexed_parts, below, indexed_word_parts, is_direct, step_word}
use Rattle.linker_laws.proofs.Ppc64Apart.{Does, base_some}
use Rattle.linker_laws.proofs.Words.{back_word, two_words}
use Rattle.linker_laws.proofs.Ppc64Calls.{first_made, second_made}
use Rattle.linker_laws.proofs.Ppc64LowHalves.{whole_from}
use Rattle.linker_laws.proofs.Ppc64Offsets.{SumSteps, accesses_sum, adds_sum, words_sum}
use Rattle.linker_laws.proofs.Ppc64Prefixed.{HasPrefixedParts, of_words}
use Rattle.linker_laws.proofs.Ppc64Words.{set, step_nop}
use Rattle.linker_laws.proofs.RiscVMachine.{address_is, times_one}
use Rattle.linker_laws.proofs.Sums.{sum_below, wrapped_is}

-- ---- their words

pub pla_parts : (paddi : List ℕ) → word_of paddi < 2 ^ 32 → word_of (drop 4 paddi) < 2 ^ 32
    → is_pla (word_of paddi) (word_of (drop 4 paddi)) ≡ true
    → HasPrefixedParts 0x184 14 (groups.prefixed_target paddi) 0 (prefixed_of paddi)
pla_parts paddi low high is =
    let w = word_of (drop 4 paddi) in
    let first = and_parts (field (word_of paddi) 18 32 == 0x184 && opcode_of w == 14) (ra_of w == 0) is in
    let second = and_parts (field (word_of paddi) 18 32 == 0x184) (opcode_of w == 14) first.0 in
    of_words (word_of paddi) w (prefixed_of paddi) 0x184 14 (rt_of w) 0 (two_words paddi) low high
    (eqb-true _ _ second.0) (eqb-true _ _ second.1) refl (eqb-true _ _ first.1)

-- what was made of a window
made_words : (after : List ℕ) (a b : ℕ) → a < 2 ^ 32 → b < 2 ^ 32 → take 8 after ≡ both_words a b
    → prefixed_of after ≡ a + b * 2 ^ 32
made_words after a b small below made =
    two_words after
    ∙ ap (λ w. w + word_of (drop 4 after) * 2 ^ 32) (first_made after a b small below made)
    ∙ ap (λ w. a + w * 2 ^ 32) (second_made after a b small below made)

-- `paddi rT,13,n`
pub record IsOverThread (n : ℕ) (rt : ℕ) (over : List ℕ) : Type 0 where
  pub number_is : prefixed_of over ≡ 0x06000000 + addi_of_thread n rt * 2 ^ 32
  pub parts : HasPrefixedParts 0x180 14 rt 13 (prefixed_of over)

pub over_thread : (n : ℕ) (before over : List ℕ) → n < 2 ^ 16
    → take 8 over ≡ both_words 0x06000000 (addi_of_thread n (rt_of (word_of (drop 4 (take 8 before)))))
    → IsOverThread n (groups.prefixed_target before) over
over_thread n before over small made =
    let rt = groups.prefixed_target before in
    let register : rt < 32 = omega arith in
    let word : addi_of_thread n rt < 2 ^ 32 = omega (arith, small, register) in
    let is = made_words over 0x06000000 (addi_of_thread n rt) (omega arith) word
    (made ∙ ap (λ w. both_words 0x06000000 (addi_of_thread n (rt_of w))) (back_word before)) in
    record {
      number_is = is;
      parts = of_words 0x06000000 (addi_of_thread n rt) (prefixed_of over) 0x180 14 rt 13 is (omega arith) word refl
          (omega (arith, small, register)) (omega (arith, small, register)) (omega (arith, small, register));
    }

pub loads_thread : (before pld : List ℕ)
    → take 8 pld ≡ both_words 0x04100000 (ld_of (rt_of (word_of (drop 4 (take 8 before)))))
    → HasPrefixedParts 0x104 57 (groups.prefixed_target before) 0 (prefixed_of pld)
loads_thread before pld made =
    let rt = groups.prefixed_target before in
    let register : rt < 32 = omega arith in
    let word : ld_of rt < 2 ^ 32 = omega (arith, register) in
    let is = made_words pld 0x04100000 (ld_of rt) (omega arith) word
    (made ∙ ap (λ w. both_words 0x04100000 (ld_of (rt_of w))) (back_word before)) in
    of_words 0x04100000 (ld_of rt) (prefixed_of pld) 0x104 57 rt 0 is (omega arith) word refl
    (omega (arith, register)) (omega (arith, register)) (omega (arith, register))

-- the displacement of `paddi rT,13,n`
pub displacement_is : (rt both : ℕ) → both ≡ 0x06000000 + addi_of_thread 0x1000 rt * 2 ^ 32
    → (ppc64_form Prefixed).machine both ≡ pos 0x1000
displacement_is rt both is =
    let low : both / 2 ^ 32 % 2 ^ 16 * 2 ^ 0 ≡ 0x1000 = omega (arith, is) in
    let high : both / 2 ^ 0 % 2 ^ 18 * 2 ^ 16 ≡ 0 = omega (arith, is) in
    ap (signed 34) (sums (bits_to 0 15 32) (bits_to 16 33 0) both
    ∙ ap (λ x. x + place_sum (bits_to 16 33 0) both) (consecutive_bits_sum replaced 16 0 32 0 both refl ∙ low)
    ∙ ap (λ x. 0x1000 + x) (consecutive_bits_sum replaced 18 16 0 0 both refl ∙ high))

-- ---- what they lead to

module _ (prefixes : relocation_laws.Prefixes) where
  -- what an instruction relative to itself leads to
  pub general_entry : (o : Operands) (s : State) (insn after : List ℕ) → AreAddresses o → s.pc ≡ o.place
      → IsRelocated names.R_PPC64_GOT_TLSGD_PCREL34 o insn after
      → moved s.pc ((ppc64_form Prefixed).machine (prefixed_of after)) ≡ o.got_entry
  general_entry o s insn after small at a =
      let m = (ppc64_form Prefixed).machine (prefixed_of after) in
      ap (λ p. moved p m) at ∙ times_one o.place m ∙ address_is _ _ (prefixes.2 o small o.place insn after a tt)

  pub module_entry : (o : Operands) (s : State) (insn after : List ℕ) → AreAddresses o → s.pc ≡ o.place
      → IsRelocated names.R_PPC64_GOT_TLSLD_PCREL34 o insn after
      → moved s.pc ((ppc64_form Prefixed).machine (prefixed_of after)) ≡ o.got_entry
  module_entry o s insn after small at a =
      let m = (ppc64_form Prefixed).machine (prefixed_of after) in
      ap (λ p. moved p m) at ∙ times_one o.place m ∙ address_is _ _ (prefixes.3 o small o.place insn after a tt)

  pub offset_entry : (o : Operands) (s : State) (insn after : List ℕ) → AreAddresses o → s.pc ≡ o.place
      → IsRelocated names.R_PPC64_GOT_TPREL_PCREL34 o insn after
      → moved s.pc ((ppc64_form Prefixed).machine (prefixed_of after)) ≡ o.got_entry
  offset_entry o s insn after small at a =
      let m = (ppc64_form Prefixed).machine (prefixed_of after) in
      ap (λ p. moved p m) at ∙ times_one o.place m ∙ address_is _ _ (prefixes.4 o small o.place insn after a tt)

  -- `paddi rT,13` with the offset
  pub variable_there : (o : Operands) (n : ℕ) (over after : List ℕ) → AreAddresses o
      → IsRelocated names.R_PPC64_TPREL34 o over after
      → moved n ((ppc64_form Prefixed).machine (prefixed_of after)) ≡ from_thread o n
  variable_there o n over after small a =
      whole_from o.tls_base (symbol_address o) n ((ppc64_form Prefixed).machine (prefixed_of after)) small.tls_base
      (sum_below o.symbol _) (prefixes.8 o small o.place over after a tt)

-- ---- sums and accesses

step_move : (f : Formats) (x r a : ℕ) (s : State) → opcode_of x ≡ 31 → field x 0 11 ≡ 0x378 → rt_of x ≡ a → rb_of x ≡ a
    → ra_of x ≡ r → step f x s ≡ Some (set r (s.registers a) s)
step_move f x r a s op low from second to =
    let not_add : (field x 0 11 == 0x214) ≡ false = ap (λ k. k == 0x214) low in
    let six : field x 0 6 ≡ 0x38 = omega (arith, low) in
    ap (λ k. execute f (by_opcode k x) x s) op
    ∙ ap (λ i. execute f i x s)
    (cond-false _ _ _ not_add
    ∙ cond-false _ _ _ (ap (λ k. k == 0x2e && is_access (access_of x)) six)
    ∙ cond-false _ _ _ (ap (λ k. k == 0x2a && is_word_access (access_of x)) six)
    ∙ cond-true _ _ _ (ap (λ k. k == 0x378 && rt_of x == rb_of x) low ∙ eq-eqb _ _ (from ∙ sym second)))
    ∙ ap (λ n. Some (set n (s.registers (rt_of x)) s)) to
    ∙ ap (λ n. Some (set r (s.registers n) s)) from

-- A register has the number that is written.
kept : (n v : ℕ) (t : State) → t.registers n ≡ v → write n v t ≡ t
kept n v t is = λ i. record t { registers = λ m. by m i }
  where
    by : (m : ℕ) → (if m == n then v else t.registers m) ≡ t.registers m
    by m = elim (eqb_tells m n) [
      | inl same ↦ cond-true (eqb m n) v (t.registers m) same.0 ∙ sym is ∙ ap t.registers (sym same.1)
      | inr other ↦ cond-false (eqb m n) v (t.registers m) other.0
    ]

-- The steps of instructions that become the same without the thread pointer.
pub record VariableSteps (kind : RewriteKind) (how : groups.Use) : Type 0 where
  pub sum : SumSteps how
  pub new : (f : Formats) (t : State) (insn direct : List ℕ) (a b : ℕ) → how.test (word_of insn) ≡ true
      → groups.IsRewritten kind insn direct → t.registers (ra_of (word_of insn)) ≡ sum_64 a b
      → Does f (how.does f (word_of insn) (sum_64 a b)) (word_of direct) t

pub sum_to_move : VariableSteps kinds.AddToMove (adds is_add_of_thread)
sum_to_move =
    record {
      sum = adds_sum;
      new = λ f t insn direct a b is made has. by f t insn direct (sum_64 a b) made has;
    }
  where
    by : (f : Formats) (t : State) (insn direct : List ℕ) (target : ℕ) → groups.IsRewritten kinds.AddToMove insn direct
        → t.registers (ra_of (word_of insn)) ≡ target
        → step f (word_of direct) t ≡ Some (set (rt_of (word_of insn)) target t)
    by f t insn direct target made has =
        let x = word_of insn in
        let y = word_of direct in
        let z = rt_of x in
        let a = ra_of x in
        let to : z < 32 = omega arith in
        let from : a < 32 = omega arith in
        let moves : move_of z a < 2 ^ 32 = omega (arith, to, from) in
        let word : y ≡ to_move x =
        word_made to_move insn direct (elim (cases_Bool (z == a)) [
          | inl same ↦ subst (λ w. w < 2 ^ 32) (sym (cond-true (z == a) nop (move_of z a) same)) (omega arith)
          | inr other ↦ subst (λ w. w < 2 ^ 32) (sym (cond-false (z == a) nop (move_of z a) other)) moves
        ]) made in
        elim (eqb_tells z a) [
          | inl same ↦
              step_nop f y t (word ∙ cond-true (z == a) nop (move_of z a) same.0)
              ∙ ap (λ u. Some (go_on u)) (sym (kept z target t (ap t.registers same.1 ∙ has)))
          | inr differs ↦
              let moved_is : y ≡ move_of z a = word ∙ cond-false (z == a) nop (move_of z a) differs.0 in
              let op : opcode_of y ≡ 31 = omega (arith, moved_is, to, from) in
              let low : field y 0 11 ≡ 0x378 = omega (arith, moved_is, to, from) in
              let rs : rt_of y ≡ a = omega (arith, moved_is, to, from) in
              let rb : rb_of y ≡ a = omega (arith, moved_is, to, from) in
              let ra : ra_of y ≡ z = omega (arith, moved_is, to, from) in
              step_move f y z a t op low rs rb ra ∙ ap (λ n. Some (set z n t)) has
        ]

-- the displacement 0
nothing_added : (a b : ℕ) (m : ℤ) → m ≡ pos 0 → moved (sum_64 a b) m ≡ sum_64 a b
nothing_added a b m none =
    ap (moved (sum_64 a b)) none
    ∙ wrapped_is (pos (sum_64 a b) +ℤ pos 0) 0 (sum_64 a b + 0) (omega (arith, ints))
    ∙ (let same : (sum_64 a b + 0) % 2 ^ 64 ≡ sum_64 a b = omega arith in same)

no_displacement : (y : ℕ) → y / 2 ^ 0 % 2 ^ 16 * 2 ^ 0 ≡ 0 → (ppc64_form D).machine y ≡ pos 0
no_displacement y none = ap (signed 16) (consecutive_bits_sum replaced 16 0 0 0 y refl ∙ none)

no_word_displacement : (y : ℕ) → y / 2 ^ 2 % 2 ^ 14 * 2 ^ 2 ≡ 0 → (ppc64_form Ds).machine y ≡ pos 0
no_word_displacement y none = ap (signed 16) (consecutive_bits_sum replaced 14 2 2 0 y refl ∙ none)

whole_words : (w y : ℕ) (a b : Bool)
    → y ≡ (if a then 62 else 58) * 2 ^ 26 + registers_of w + (if b then 2 else 0) → y / 2 ^ 2 % 2 ^ 14 * 2 ^ 2 ≡ 0
whole_words w y true true is = omega (arith, is)
whole_words w y true false is = omega (arith, is)
whole_words w y false true is = omega (arith, is)
whole_words w y false false is = omega (arith, is)

direct_below : (x : ℕ) → direct x < 2 ^ 32
direct_below x = elim (cases_Bool (field x 0 6 == 0x2e)) [
  | inl same ↦
      subst (λ w. w < 2 ^ 32) (sym (cond-true (field x 0 6 == 0x2e) (by_displacement x) (by_word_displacement x) same)) (omega arith)
  | inr other ↦
      subst (λ w. w < 2 ^ 32) (sym (cond-false (field x 0 6 == 0x2e) (by_displacement x) (by_word_displacement x) other))
      (below x (access_of x == 4) (access_of x == 10))
]

-- the access of either form
module _ (f : Formats) (insn : List ℕ) where
  abbrev x : ℕ
  x = word_of insn

  abbrev n : ℕ
  n = access_of x

  is_short : is_indexed x ≡ true → groups.indexed_access x ≡ access_with n
  is_short is = cond-true (field x 0 6 == 0x2e) (access_with n) (word_access_with n) (eq-eqb _ _ (indexed_parts x is).low)

  is_whole : is_indexed_word x ≡ true → groups.indexed_access x ≡ word_access_with n
  is_whole is =
      cond-false (field x 0 6 == 0x2e) (access_with n) (word_access_with n)
      (ap (λ k. k == 0x2e) (indexed_word_parts x is).low)

  of_access : (a : Access) (y address : ℕ) (s : State) → groups.indexed_access x ≡ a
      → Does f (accessed f a (rt_of x) address) y s → Does f (accessed f (groups.indexed_access x) (rt_of x) address) y s
  of_access a y address s is goes = subst (λ b. Does f (accessed f b (rt_of x) address) y s) (sym is) goes

  module _ (new : List ℕ) (t : State) (a b : ℕ) (made : word_of new ≡ direct x)
      (has : t.registers (ra_of x) ≡ sum_64 a b) where
    abbrev y : ℕ
    y = word_of new

    short : is_indexed x ≡ true → Does f (accessed f (access_with n) (rt_of x) (sum_64 a b)) y t
    short is =
        let p = indexed_parts x is in
        let word : y ≡ by_displacement x =
        made ∙ cond-true (field x 0 6 == 0x2e) (by_displacement x) (by_word_displacement x) (eq-eqb _ _ p.low) in
        let op : opcode_of y ≡ 32 + n = omega (arith, word) in
        let rt : rt_of y ≡ rt_of x = omega (arith, word) in
        let ra : ra_of y ≡ ra_of x = omega (arith, word) in
        let low : y / 2 ^ 0 % 2 ^ 16 * 2 ^ 0 ≡ 0 = omega (arith, word) in
        step_access f y n (rt_of x) (ra_of x) t op p.known rt ra
        ∙ ap (λ k. Some (go_on (accessed f (access_with n) (rt_of x) k t)))
        (ap (λ n. moved n ((ppc64_form D).machine y)) (base_some (ra_of x) t p.over_some ∙ has)
        ∙ nothing_added a b ((ppc64_form D).machine y) (no_displacement y low))

    whole : is_indexed_word x ≡ true → Does f (accessed f (word_access_with n) (rt_of x) (sum_64 a b)) y t
    whole is =
        let p = indexed_word_parts x is in
        let six : (field x 0 6 == 0x2e) ≡ false = ap (λ k. k == 0x2e) p.low in
        let word : y ≡ by_word_displacement x =
        made ∙ cond-false (field x 0 6 == 0x2e) (by_displacement x) (by_word_displacement x) six in
        let turned = is_direct x y p.known word in
        step_word f y (rt_of x) (ra_of x) (word_access_with n) t (turned.decodes y refl refl) turned.rt_is turned.ra_is
        ∙ ap (λ k. Some (go_on (accessed f (word_access_with n) (rt_of x) k t)))
        (ap (λ n. moved n ((ppc64_form Ds).machine y)) (base_some (ra_of x) t p.over_some ∙ has)
        ∙ nothing_added a b ((ppc64_form Ds).machine y)
        (no_word_displacement y (whole_words x y (n == 4) (n == 10) word)))

pub access_to_direct : VariableSteps kinds.IndexedToDirect (accesses is_indexed_any groups.indexed_access)
access_to_direct =
    record {
      sum = record {
        old = λ f s insn offset is has.
            let x = word_of insn in
            let a = sum_64 offset (s.registers 13) in
            elim (or_cases (is_indexed x) (is_indexed_word x) is) [
              | inl one ↦
                  of_access f insn (access_with (access_of x)) x a s (is_short f insn one)
                  (accesses_sum.old f s insn offset one has)
              | inr one ↦
                  of_access f insn (word_access_with (access_of x)) x a s (is_whole f insn one)
                  (words_sum.old f s insn offset one has)
            ];
      };
      new = λ f t insn new a b is made has.
          let x = word_of insn in
          let y = word_of new in
          let word = word_made direct insn new (direct_below x) made in
          elim (or_cases (is_indexed x) (is_indexed_word x) is) [
            | inl one ↦
                of_access f insn (access_with (access_of x)) y (sum_64 a b) t (is_short f insn one)
                (short f insn new t a b word has one)
            | inr one ↦
                of_access f insn (word_access_with (access_of x)) y (sum_64 a b) t (is_whole f insn one)
                (whole f insn new t a b word has one)
          ];
    }
