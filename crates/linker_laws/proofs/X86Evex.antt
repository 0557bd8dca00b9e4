-- Operations with EVEX, on a number from the GOT and on an immediate.
use Rattle.linker_laws.proofs.Imports.{ADC, ADD, AND, All-drop, Bool, IsBefore, IsRelocatedBy, IsRewritable, IsTrue, List, OR, Operand, Operands, Operation, Original, Prefix, SBB, Some, XOR, [], absolute, and_parts, ap, arith, bit_and, bit_at, bit_or, cond-false, cond-true, decode, destination_of, drop, eqb, eqb-true, evex_any_v, evex_modrm, evex_new_destination, evex_no_v, evex_operand, evex_prefix, evex_same_destination, extended, false, field, has_no_index, has_zeros, immediate, immediate_operation, inl, inr, into, is_at, is_evex, is_in_map_4, is_map_4, is_one_at, is_register, is_relative, is_without_flags, legacy_or_evex, load, not, number_of_bytes, on_evex, operate_into, operation_of, or-false, or_cases, refl, reg_of, register, relative, rewritten, rm_of, sum_64, sym, take, true, v_register, with_evex, ℕ, ◌%◌, ◌&&◌, ◌*◌, ◌++◌, ◌+◌, ◌-◌, ◌<◌, ◌^◌, ◌||◌, ◌∙◌, ◌∷◌, ◌≡◌, ◌≤◌}
use Rattle.linker_utils.specs.X86Rewrites as x86
use Rattle.linker_laws.proofs.Sums.{difference_below}
use Rattle.linker_laws.specs.X86Groups.{thread_offset}
use Rattle.linker_laws.specs.X86Machine.{State}
use Rattle.linker_laws.proofs.X86Bytes.{IsEvexByte, all_below, below, implied, moved_test, modrm_byte, IsAfterEvex, after_evex, is_false}
use Rattle.linker_laws.proofs.X86Codes.{pattern_there, evex_codes}
use Rattle.linker_laws.proofs.X86Decoding.{AreReplaced, begun}
use Rattle.linker_laws.proofs.X86Fields.{got_row, signed_immediate, tls_got_row, thread_row}
use Rattle.linker_laws.proofs.X86Immediates.{absolute_operands, entry, tls_entry, long_immediate, offset_immediate}
use Rattle.linker_laws.proofs.X86Loads.{from_next, size_by}
use Rattle.linker_laws.proofs.X86Values.{IsSize, loaded, same_into}

-- ---- opcodes

-- what the last byte of EVEX says, with a new destination and without one
abbrev new_test : ℕ → Operation → ℕ → Bool
new_test fixed op c =
    not (eqb (bit_and c (bit_or 0xf3 fixed)) 0x10)
    || (has_zeros c && (is_in_map_4 op (is_without_flags c) && eqb (bit_at c 4) 1))

abbrev same_test : ℕ → Operation → ℕ → Bool
same_test fixed op c =
    not (eqb (bit_and c (bit_or 0xfb fixed)) 0x08)
    || (has_zeros c && (is_in_map_4 op (is_without_flags c)
    && (not (eqb (bit_at c 4) 1) && eqb (bit_at c 3) 1)))

-- The opcode of an operation with a relative address, and its extension with an immediate.
pub record IsPromoted (opcode k number fixed : ℕ) (op : Operation) : Type 0 where
  pub operation : operation_of opcode ≡ Some op
  pub operation' : immediate_operation 0x81 number ≡ Some op
  pub moved : all_below 8 (moved_test k number) ≡ true
  pub new : all_below 256 (new_test fixed op) ≡ true
  pub same : all_below 256 (same_test fixed op) ≡ true

pub add : IsPromoted 0x03 0xc0 0 0 ADD
add = record { operation = refl; operation' = refl; moved = refl; new = refl; same = refl }

pub or : IsPromoted 0x0b 0xc8 1 0 OR
or = record { operation = refl; operation' = refl; moved = refl; new = refl; same = refl }

pub adc : IsPromoted 0x13 0xd0 2 4 ADC
adc = record { operation = refl; operation' = refl; moved = refl; new = refl; same = refl }

pub sbb : IsPromoted 0x1b 0xd8 3 4 SBB
sbb = record { operation = refl; operation' = refl; moved = refl; new = refl; same = refl }

pub and : IsPromoted 0x23 0xe0 4 0 AND
and = record { operation = refl; operation' = refl; moved = refl; new = refl; same = refl }

pub xor : IsPromoted 0x33 0xf0 6 0 XOR
xor = record { operation = refl; operation' = refl; moved = refl; new = refl; same = refl }

-- ---- bytes

-- what the last two bytes of EVEX say
record IsInto (op : Operation) (v c : ℕ) : Type 0 where
  pub no_index : has_no_index v ≡ true
  pub zeros : has_zeros c ≡ true
  pub allowed : is_in_map_4 op (is_without_flags c) ≡ true
  pub destination : ℕ → ℕ
  pub is : (r : ℕ) → destination_of v c r ≡ Some (destination r)

any_v_byte : (v : ℕ) → v < 2 ^ 8 → eqb (bit_and v 0x07) 0x04 ≡ true → has_no_index v ≡ true
any_v_byte v small h =
    implied (eqb (bit_and v 0x07) 0x04) (has_no_index v)
    (below 256 (λ v. not (eqb (bit_and v 0x07) 0x04) || has_no_index v) refl v small) h

no_v_byte : (v : ℕ) → v < 2 ^ 8 → eqb (bit_and v 0x7f) 0x7c ≡ true
    → (has_no_index v ≡ true) × (eqb (field v 3 7) 15 ≡ true)
no_v_byte v small h =
    and_parts (has_no_index v) (eqb (field v 3 7) 15)
    (implied _ _ (below 256 (λ v. not (eqb (bit_and v 0x7f) 0x7c) || (has_no_index v && eqb (field v 3 7) 15))
    refl v small) h)

module _ {opcode k number fixed : ℕ} {op : Operation}
    (promoted : IsPromoted opcode k number fixed op) (v c : ℕ) (small : v < 2 ^ 8)
    (small' : c < 2 ^ 8) where
  -- with ND
  into_new : eqb (bit_and v 0x07) 0x04 ≡ true
      → eqb (bit_and c (bit_or 0xf3 fixed)) 0x10 ≡ true → IsInto op v c
  into_new h h' =
      let a = and_parts _ _ (implied _ _ (below 256 (new_test fixed op) promoted.new c small') h') in
      let b = and_parts _ _ a.1 in
      record {
        no_index = any_v_byte v small h;
        zeros = a.0;
        allowed = b.0;
        destination = λ r. v_register v c;
        is = λ r. cond-true (eqb (bit_at c 4) 1) _ _ b.1;
      }

  -- without ND
  into_same : eqb (bit_and v 0x7f) 0x7c ≡ true
      → eqb (bit_and c (bit_or 0xfb fixed)) 0x08 ≡ true → IsInto op v c
  into_same h h' =
      let says = no_v_byte v small h in
      let a = and_parts _ _ (implied _ _ (below 256 (same_test fixed op) promoted.same c small') h') in
      let b = and_parts _ _ a.1 in
      let d = and_parts _ _ b.1 in
      let none : v_register v c ≡ 0 =
      ap (λ x. 31 - (x + 16 * bit_at c 3)) (eqb-true _ _ says.1)
      ∙ ap (λ x. 31 - (15 + 16 * x)) (eqb-true _ _ d.1) in
      record {
        no_index = says.0;
        zeros = a.0;
        allowed = b.0;
        destination = λ r. r;
        is = λ r.
            cond-false (eqb (bit_at c 4) 1) _ _ (is_false (eqb (bit_at c 4) 1) d.0)
            ∙ cond-true (eqb (v_register v c) 0) _ _ (ap (λ x. eqb x 0) none);
      }

-- ---- decoding

to_destination : (p : Prefix) (v c : ℕ) (op : Operation) (r : ℕ) (operand : Operand)
    (says : IsInto op v c)
    → on_evex p v c r operand (Some op)
    ≡ into p c op r operand (Some (says.destination r))
to_destination p v c op r operand says =
    cond-true (is_in_map_4 op (is_without_flags c)) _ _ says.allowed
    ∙ ap (into p c op r operand) (says.is r)

in_map : (p v c opcode m : ℕ) (rest : List ℕ) → is_map_4 p ≡ true → has_no_index v ≡ true
    → has_zeros c ≡ true
    → decode (0x62 ∷ p ∷ v ∷ c ∷ opcode ∷ m ∷ rest)
    ≡ evex_modrm (evex_prefix p v) v c opcode m rest
in_map p v c opcode m rest first second third =
    cond-true (is_evex p v c) _ _
    (ap (λ b. b && (has_no_index v && has_zeros c)) first
    ∙ ap (λ b. b && has_zeros c) second ∙ third)

module _ {opcode k number fixed : ℕ} {op : Operation}
    (promoted : IsPromoted opcode k number fixed op) (p v c m : ℕ) (says : IsInto op v c)
    (is : IsEvexByte p) (by_ip : is_relative m ≡ true) (rest : List ℕ) where
  abbrev e : Prefix
  e = evex_prefix p v

  abbrev r : ℕ
  r = reg_of m + e.reg

  decoded : decode (0x62 ∷ p ∷ v ∷ c ∷ opcode ∷ m ∷ rest)
      ≡ Some (record {
        instruction = operate_into (says.destination r) (is_without_flags c) op e.bits (register r)
            (relative (number_of_bytes 4 rest));
        size = 10;
      })
  decoded =
      in_map p v c opcode m rest is.is says.no_index says.zeros
      ∙ cond-true (is_relative m) _ _ by_ip
      ∙ ap (on_evex e v c r (relative (number_of_bytes 4 rest))) promoted.operation
      ∙ to_destination e v c op r (relative (number_of_bytes 4 rest)) says

  decoded' : decode
      (0x62 ∷ x86.evex_reg_to_rm p ∷ v ∷ c ∷ 0x81 ∷ x86.modrm_reg_to_rm k m ∷ rest)
      ≡ Some (record {
        instruction = operate_into (says.destination r) (is_without_flags c) op e.bits (register r)
            (immediate (number_of_bytes 4 rest));
        size = 10;
      })
  decoded' =
      let e' = evex_prefix (x86.evex_reg_to_rm p) v in
      let m' = x86.modrm_reg_to_rm k m in
      let number' = immediate (number_of_bytes 4 rest) in
      let moved = modrm_byte k number m promoted.moved in
      in_map (x86.evex_reg_to_rm p) v c 0x81 m' rest is.after says.no_index says.zeros
      ∙ cond-false (is_relative m') _ _ moved.not_relative
      ∙ cond-true (is_register m') _ _ moved.is
      ∙ ap (λ x. on_evex e' v c (rm_of m' + e'.rm) number' (immediate_operation 0x81 x))
      moved.extension
      ∙ ap (on_evex e' v c (rm_of m' + e'.rm) number') promoted.operation'
      ∙ ap (λ x. on_evex e' v c (x + e'.rm) number' (Some op)) moved.moved
      ∙ ap (λ x. on_evex e' v c (reg_of m + x) number' (Some op)) is.moved
      ∙ to_destination e' v c op r number' says

-- ---- the laws

module _ {opcode k number fixed : ℕ} {op : Operation}
    (promoted : IsPromoted opcode k number fixed op) (section old new : List ℕ) (o : ℕ)
    (operands : Operands) (s : State) (before : IsBefore 6 section o operands s) where
  abbrev patterns : List Original
  patterns = legacy_or_evex 6 fixed opcode

  abbrev code_after : List ℕ
  code_after = rewritten (Some (absolute 5 (evex_operand 0x81 k))) section o

  -- by what the fields come to
  module _ (held : ℕ) (small : held < 2 ^ 64) (holds : load 8 s operands.got_entry ≡ held)
      (rest rest' : List ℕ) (whole : old ≡ take o section ++ rest)
      (whole' : new ≡ take o code_after ++ rest')
      (leads : sum_64 operands.place (extended (number_of_bytes 4 rest))
      ≡ sum_64 operands.got_entry (2 ^ 64 - 4))
      (value : (bits : ℕ) → IsSize bits
      → extended (number_of_bytes 4 rest') % 2 ^ bits ≡ held % 2 ^ bits) where
    of_code : (second third : ℕ × ℕ) → 6 ≤ o
        → (code : IsAfterEvex opcode second third (drop (o - 6) section))
        → IsInto op code.v code.control
        → AreReplaced 6 (drop (o - 6) old) (drop (o - 6) new) s
    of_code second third room code says code_old code_new at at' =
        let p = code.registers in
        let v = code.v in
        let c = code.control in
        let m = code.after.modrm in
        let codes = evex_codes section old new rest rest' o whole p v c opcode m 0x81 k
        code.after.rest room (code.is ∙ ap (λ xs. 0x62 ∷ p ∷ v ∷ c ∷ xs) code.after.is) whole' in
        let b = begun (0x62 ∷ p ∷ v ∷ c ∷ opcode ∷ m ∷ []) rest code_old (at ∙ ap (take 10) codes.0) in
        let b' = begun
        (0x62 ∷ x86.evex_reg_to_rm p ∷ v ∷ c ∷ 0x81 ∷ x86.modrm_reg_to_rm k m ∷ []) rest' code_new
        (at' ∙ ap (take 10) codes.1) in
        let f = number_of_bytes 4 b.after in
        let i = number_of_bytes 4 b'.after in
        let e = evex_prefix p v in
        let r = reg_of m + e.reg in
        let without_flags = is_without_flags c in
        let destination = says.destination r in
        let next = sum_64 s.ip 10 in
        let size : IsSize e.bits = size_by (bit_at v 7) in
        record {
          instruction =
              operate_into destination without_flags op e.bits (register r) (relative f);
          instruction' =
              operate_into destination without_flags op e.bits (register r) (immediate i);
          was = ap decode b.is ∙ decoded promoted p v c m says code.is_evex code.after.relative b.after;
          is =
              ap decode b'.is
              ∙ decoded' promoted p v c m says code.is_evex code.after.relative b'.after;
          same =
              same_into op s next e.bits r f i destination without_flags
              (loaded s next e.bits f operands.got_entry held size
              (from_next 6 s.ip operands.place (extended f) operands.got_entry (omega arith)
              before.addresses.place before.addresses.got_entry before.ip
              (ap (λ f. sum_64 operands.place (extended f)) b.field ∙ leads)) holds small
              ∙ sym (ap (λ i. extended i % 2 ^ e.bits) b'.field ∙ value e.bits size));
          flags = refl;
          alone = λ memory. refl;
          goes_on = refl;
        }

    with_evex_of : IsTrue (is_one_at patterns section o)
        → AreReplaced 6 (drop (o - 6) old) (drop (o - 6) new) s
    with_evex_of there =
        let new' = evex_new_destination fixed in
        let same' = evex_same_destination fixed in
        let d = drop (o - 6) section in
        let bytes = All-drop (λ b. b < 2 ^ 8) (o - 6) section before.bytes in
        elim (or_cases (is_at (with_evex evex_any_v new' opcode) section o)
        (is_at (with_evex evex_no_v same' opcode) section o || false) there) [
          | inl one ↦
              let shape = pattern_there (with_evex evex_any_v new' opcode) section o
              (or-false (is_at (with_evex evex_any_v new' opcode) section o) ∙ one) in
              let code = after_evex opcode evex_any_v new' d bytes shape.1 in
              of_code evex_any_v new' shape.0 code
              (into_new promoted code.v code.control code.v_small code.control_small code.v_is
              code.control_is)
          | inr other ↦
              let shape = pattern_there (with_evex evex_no_v same' opcode) section o other in
              let code = after_evex opcode evex_no_v same' d bytes shape.1 in
              of_code evex_no_v same' shape.0 code
              (into_same promoted code.v code.control code.v_small code.control_small code.v_is
              code.control_is)
        ]

  pub with_evex_prefix : IsTrue (is_one_at patterns section o)
      → IsRewritable (absolute 5 (evex_operand 0x81 k)) section o
      × IsTrue (is_one_at patterns section o)
      → load 8 s operands.got_entry ≡ operands.symbol
      → IsRelocatedBy got_row operands o section old
      → IsRelocatedBy signed_immediate (absolute_operands o operands) o code_after new
      → AreReplaced 6 (drop (o - 6) old) (drop (o - 6) new) s
  with_evex_prefix there matches holds was is =
      with_evex_of operands.symbol before.addresses.symbol holds was.rest is.rest was.whole is.whole
      (entry 6 section o operands s before (drop o section) was.rest was.applied)
      (λ bits size. long_immediate 6 section o operands s before bits size (drop o code_after)
      is.rest is.applied)
      there

  pub of_thread_with_evex : IsTrue (is_one_at patterns section o)
      → IsRewritable (absolute 5 (evex_operand 0x81 k)) section o
      × IsTrue (is_one_at patterns section o)
      → load 8 s operands.got_entry ≡ thread_offset operands
      → IsRelocatedBy tls_got_row operands o section old
      → IsRelocatedBy thread_row (absolute_operands o operands) o code_after new
      → AreReplaced 6 (drop (o - 6) old) (drop (o - 6) new) s
  of_thread_with_evex there matches holds was is =
      with_evex_of (thread_offset operands) (difference_below operands.symbol operands.tls_base)
      holds was.rest is.rest was.whole is.whole
      (tls_entry 6 section o operands s before (drop o section) was.rest was.applied)
      (λ bits size. offset_immediate 6 section o operands s before bits size (drop o code_after)
      is.rest is.applied)
      there
