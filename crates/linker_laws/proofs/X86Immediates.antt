-- Operations on a number from the GOT, and on an immediate.
use Rattle.linker_laws.proofs.Imports.{ADC, ADD, AND, All-drop, AreAddresses, CMP, IsApplied, IsBefore, IsRelocatedBy, IsRewritable, IsTrue, List, MOV, OR, Operands, Operation, Original, Prefix, Rewrite, RowInfo, SBB, SUB, Some, TEST, XOR, [], absolute, ap, arith, cast_unsigned, cond, decode, decode_opcode, difference_64, drop, drop-cons, eqb, execute, extended, get_or, immediate, immediate_operation, inl, inr, is_arithmetic, is_one_at, is_relative, length, load, no_prefix, number_of_bytes, operand, operand_value, operate, original, plain, pos, prefixed_operand, refl, reg_of, register, relative, rewritten, rex, rex2, rex2_prefix, rex_prefix, rip_operand, sets_flags, sized, subst, suc, sum_64, sym, take, true, w64, with_rex, with_rex2, ℕ, ◌%◌, ◌*◌, ◌++◌, ◌+◌, ◌-◌, ◌<◌, ◌^◌, ◌∙◌, ◌∷◌, ◌≡◌}
use Rattle.linker_utils.specs.X86Rewrites as x86
use Rattle.linker_laws.proofs.Sums.{difference_below, sum_zero}
use Rattle.linker_laws.specs.X86Groups.{thread_offset}
use Rattle.linker_laws.specs.X86Machine.{State, Instruction}
use Rattle.linker_laws.proofs.X86Bytes.{on_relative, after_rex, all_below, moved_test, modrm_byte, after_rex2}
use Rattle.linker_laws.proofs.X86Codes.{pattern_there, immediate_codes, wide_codes, rex_immediate_codes, rex2_immediate_codes}
use Rattle.linker_laws.proofs.X86Decoding.{AreReplaced, Replaces, begun, from_relative, from_immediate, after_rex_byte, after_rex2_byte}
use Rattle.linker_laws.proofs.X86Fields.{entry_field, tls_entry_field, signed_field, got_row, unsigned_field, thread_field, tls_got_row, thread_row, signed_immediate, unsigned_immediate, extended_low}
use Rattle.linker_laws.proofs.X86Loads.{same_place, from_next, at_place, rex_size, rex2_size}
use Rattle.linker_laws.proofs.X86Values.{IsSize, loaded, same_operation, same_test}

-- ---- opcodes

-- The instruction of an opcode with a relative address, and that of another with an extension and
-- an immediate.
pub record IsReplaced (opcode opcode' k number : ℕ) (op : Operation) : Type 0 where
  pub instruction : Prefix → ℕ → ℕ → Instruction
  pub plain : (rest : List ℕ)
      → decode (opcode ∷ rest) ≡ decode_opcode no_prefix (opcode ∷ rest)
  pub decoded : (p : Prefix) (m : ℕ) (rest : List ℕ) → is_relative m ≡ true
      → decode_opcode p (opcode ∷ m ∷ rest)
      ≡ sized p 6 (instruction p m (number_of_bytes 4 rest))
  pub same : (s : State) (next m d i : ℕ) (p : Prefix)
      → operand_value s next p.bits (relative d) ≡ operand_value s next p.bits (immediate i)
      → execute (instruction p m d) next s
      ≡ execute (operate op p.bits (register (reg_of m + p.reg)) (immediate i)) next s
  pub flags : (p : Prefix) (m d : ℕ) → sets_flags (instruction p m d) ≡ is_arithmetic op
  pub plain' : (rest : List ℕ)
      → decode (opcode' ∷ rest) ≡ decode_opcode no_prefix (opcode' ∷ rest)
  pub moved : all_below 8 (moved_test k number) ≡ true
  pub operation : immediate_operation opcode' number ≡ Some op

-- one into a register, by what is computed of its opcodes
into_register : {opcode opcode' k number : ℕ} (op : Operation)
    → ((rest : List ℕ) → decode (opcode ∷ rest) ≡ decode_opcode no_prefix (opcode ∷ rest))
    → ((p : Prefix) (m : ℕ) (rest : List ℕ) → is_relative m ≡ true → decode_opcode p (opcode ∷ m ∷ rest)
    ≡ sized p 6 (operate op p.bits (register (reg_of m + p.reg)) (relative (number_of_bytes 4 rest))))
    → ((rest : List ℕ) → decode (opcode' ∷ rest) ≡ decode_opcode no_prefix (opcode' ∷ rest))
    → all_below 8 (moved_test k number) ≡ true → immediate_operation opcode' number ≡ Some op
    → IsReplaced opcode opcode' k number op
into_register op plain decoded plain' moved operation =
    record {
      instruction = λ p m d. operate op p.bits (register (reg_of m + p.reg)) (relative d);
      plain = plain;
      decoded = decoded;
      same = λ s next m d i p e. same_operation op s next p.bits (reg_of m + p.reg) d i e;
      flags = λ p m d. refl;
      plain' = plain';
      moved = moved;
      operation = operation;
    }

pub mov : IsReplaced 0x8b 0xc7 0xc0 0 MOV
mov = into_register MOV (λ rest. refl) (λ p. from_relative p 0x8b) (λ rest. refl) refl refl

pub add : IsReplaced 0x03 0x81 0xc0 0 ADD
add = into_register ADD (λ rest. refl) (λ p. from_relative p 0x03) (λ rest. refl) refl refl

pub or : IsReplaced 0x0b 0x81 0xc8 1 OR
or = into_register OR (λ rest. refl) (λ p. from_relative p 0x0b) (λ rest. refl) refl refl

pub adc : IsReplaced 0x13 0x81 0xd0 2 ADC
adc = into_register ADC (λ rest. refl) (λ p. from_relative p 0x13) (λ rest. refl) refl refl

pub sbb : IsReplaced 0x1b 0x81 0xd8 3 SBB
sbb = into_register SBB (λ rest. refl) (λ p. from_relative p 0x1b) (λ rest. refl) refl refl

pub and : IsReplaced 0x23 0x81 0xe0 4 AND
and = into_register AND (λ rest. refl) (λ p. from_relative p 0x23) (λ rest. refl) refl refl

pub sub : IsReplaced 0x2b 0x81 0xe8 5 SUB
sub = into_register SUB (λ rest. refl) (λ p. from_relative p 0x2b) (λ rest. refl) refl refl

pub xor : IsReplaced 0x33 0x81 0xf0 6 XOR
xor = into_register XOR (λ rest. refl) (λ p. from_relative p 0x33) (λ rest. refl) refl refl

pub cmp : IsReplaced 0x3b 0x81 0xf8 7 CMP
cmp = into_register CMP (λ rest. refl) (λ p. from_relative p 0x3b) (λ rest. refl) refl refl

pub test : IsReplaced 0x85 0xf7 0xc0 0 TEST
test =
    record {
      instruction = λ p m d. operate TEST p.bits (relative d) (register (reg_of m + p.reg));
      plain = λ rest. refl;
      decoded = λ p m rest h. from_relative p 0x85 m rest h;
      same = λ s next m d i p e. same_test s next p.bits (reg_of m + p.reg) d i e;
      flags = λ p m d. refl;
      plain' = λ rest. refl;
      moved = refl;
      operation = refl;
    }

-- ---- numbers

-- the operands after the rewrite
abbrev pub absolute_operands : ℕ → Operands → Operands
absolute_operands o operands =
    record operands { place = difference_64 (sum_64 operands.place o) o; addend = pos 0 }

zero_sum : (a t : ℕ) → sum_64 0 a ≡ t → a % 2 ^ 64 ≡ t
zero_sum a t is = omega arith

low_extended : (f number : ℕ) → f % 2 ^ 64 ≡ number → extended f % 2 ^ 32 ≡ number % 2 ^ 32
low_extended f number is = let low = extended_low f in omega arith

pub offset_is : (x symbol base : ℕ) → symbol < 2 ^ 64 → base < 2 ^ 64 → sum_64 base x ≡ symbol
    → x % 2 ^ 64 ≡ difference_64 symbol base
offset_is x symbol base small place is = omega arith

of_size : (bits x number : ℕ) → IsSize bits → x % 2 ^ 64 ≡ number
    → x % 2 ^ bits ≡ number % 2 ^ bits
of_size bits x number size is =
    elim size [
      | inl e ↦ subst (λ bits. x % 2 ^ bits ≡ number % 2 ^ bits) (sym e)
          (let same : x % 2 ^ 32 ≡ number % 2 ^ 32 = omega arith in same)
      | inr e ↦ subst (λ bits. x % 2 ^ bits ≡ number % 2 ^ bits) (sym e)
          (let same : x % 2 ^ 64 ≡ number % 2 ^ 64 = omega arith in same)
    ]

-- what fields say at an instruction that begins n bytes before them
module _ (n : ℕ) (section : List ℕ) (o : ℕ) (operands : Operands) (s : State)
    (before : IsBefore n section o operands s) where
  addresses' : AreAddresses (absolute_operands o operands)
  addresses' =
      at_place operands (difference_64 (sum_64 operands.place o) o) (pos 0) before.addresses
      (subst (λ p. p < 2 ^ 64)
      (sym (same_place operands.place o before.addresses.place before.offset))
      before.addresses.place)

  pub entry : (bytes rest : List ℕ) → IsApplied got_row operands bytes rest
      → sum_64 operands.place (extended (number_of_bytes 4 rest))
      ≡ sum_64 operands.got_entry (2 ^ 64 - 4)
  entry bytes rest applied =
      entry_field operands before.addresses bytes rest applied
      ∙ ap (λ a. sum_64 operands.got_entry (cast_unsigned w64 a)) before.addend

  pub tls_entry : (bytes rest : List ℕ) → IsApplied tls_got_row operands bytes rest
      → sum_64 operands.place (extended (number_of_bytes 4 rest))
      ≡ sum_64 operands.got_entry (2 ^ 64 - 4)
  tls_entry bytes rest applied =
      tls_entry_field operands before.addresses bytes rest applied
      ∙ ap (λ a. sum_64 operands.got_entry (cast_unsigned w64 a)) before.addend

  short_immediate : (bytes rest : List ℕ)
      → IsApplied unsigned_immediate (absolute_operands o operands) bytes rest
      → extended (number_of_bytes 4 rest) % 2 ^ 32 ≡ operands.symbol % 2 ^ 32
  short_immediate bytes rest applied =
      low_extended (number_of_bytes 4 rest) operands.symbol
      (unsigned_field (absolute_operands o operands) addresses' bytes rest applied
      ∙ sum_zero operands.symbol before.addresses.symbol)

  pub long_immediate : (bits : ℕ) → IsSize bits → (bytes rest : List ℕ)
      → IsApplied signed_immediate (absolute_operands o operands) bytes rest
      → extended (number_of_bytes 4 rest) % 2 ^ bits ≡ operands.symbol % 2 ^ bits
  long_immediate bits size bytes rest applied =
      of_size bits (extended (number_of_bytes 4 rest)) operands.symbol size
      (zero_sum (extended (number_of_bytes 4 rest)) operands.symbol
      (signed_field (absolute_operands o operands) addresses' bytes rest applied
      ∙ sum_zero operands.symbol before.addresses.symbol))

  pub offset_immediate : (bits : ℕ) → IsSize bits → (bytes rest : List ℕ)
      → IsApplied thread_row (absolute_operands o operands) bytes rest
      → extended (number_of_bytes 4 rest) % 2 ^ bits ≡ thread_offset operands % 2 ^ bits
  offset_immediate bits size bytes rest applied =
      of_size bits (extended (number_of_bytes 4 rest)) (thread_offset operands) size
      (offset_is (extended (number_of_bytes 4 rest)) operands.symbol operands.tls_base
      before.addresses.symbol before.addresses.tls_base
      (thread_field (absolute_operands o operands) addresses' bytes rest applied
      ∙ sum_zero operands.symbol before.addresses.symbol))

-- ---- what both instructions do

module _ {opcode opcode' k number : ℕ} {op : Operation}
    (replaced : IsReplaced opcode opcode' k number op) (n : ℕ) (few : n < 8) (section : List ℕ)
    (o : ℕ) (operands : Operands) (s : State) (before : IsBefore n section o operands s) (held : ℕ)
    (small : held < 2 ^ 64) (holds : load 8 s operands.got_entry ≡ held) where
  both : (old new rest rest' tail tail' : List ℕ) (m : ℕ) → is_relative m ≡ true
      → (p p' : Prefix) → p'.bits ≡ p.bits → p'.rm ≡ p.reg → p.size + 6 ≡ n + 4
      → p'.size + 6 ≡ n + 4 → IsSize p.bits
      → number_of_bytes 4 tail ≡ number_of_bytes 4 rest
      → number_of_bytes 4 tail' ≡ number_of_bytes 4 rest'
      → sum_64 operands.place (extended (number_of_bytes 4 rest))
      ≡ sum_64 operands.got_entry (2 ^ 64 - 4)
      → extended (number_of_bytes 4 rest') % 2 ^ p.bits ≡ held % 2 ^ p.bits
      → decode old ≡ decode_opcode p (opcode ∷ m ∷ tail)
      → decode new ≡ decode_opcode p' (opcode' ∷ x86.modrm_reg_to_rm k m ∷ tail')
      → Replaces (n + 4) old new s
  both old new rest rest' tail tail' m by_ip p p' bits moved size size' sized field field' leads value
      was is =
      let f = number_of_bytes 4 tail in
      let i = number_of_bytes 4 tail' in
      let next = sum_64 s.ip (n + 4) in
      let instruction' = operate op p'.bits (register (reg_of m + p'.rm)) (immediate i) in
      record {
        instruction = replaced.instruction p m f;
        instruction' = instruction';
        was =
            was ∙ replaced.decoded p m tail by_ip
            ∙ ap (λ z. Some (record { instruction = replaced.instruction p m f; size = z })) size;
        is =
            is ∙ from_immediate p' opcode' k number m op tail' (modrm_byte k number m replaced.moved)
            replaced.operation
            ∙ ap (λ z. Some (record { instruction = instruction'; size = z })) size';
        same =
            replaced.same s next m f i p
            (loaded s next p.bits f operands.got_entry held sized
            (from_next n s.ip operands.place (extended f) operands.got_entry few
            before.addresses.place before.addresses.got_entry before.ip
            (ap (λ f. sum_64 operands.place (extended f)) field ∙ leads)) holds small
            ∙ sym (ap (λ i. extended i % 2 ^ p.bits) field' ∙ value))
            ∙ ap (λ b. execute (operate op b (register (reg_of m + p.reg)) (immediate i)) next s)
            (sym bits)
            ∙ ap (λ r. execute (operate op p'.bits (register (reg_of m + r)) (immediate i)) next s)
            (sym moved);
        flags = replaced.flags p m f;
        alone = λ memory. refl;
        goes_on = refl;
      }

-- ---- the laws

module _ {opcode opcode' k number : ℕ} {op : Operation}
    (replaced : IsReplaced opcode opcode' k number op) (section old new : List ℕ) (o : ℕ)
    (operands : Operands) (s : State) where
  -- what holds of an instruction and its rewrite, by the relocations before and after
  abbrev Law : ℕ → List Original → Rewrite → (row row' : RowInfo) → ℕ → Type 0
  Law n patterns r row row' held =
      IsBefore n section o operands s → IsTrue (is_one_at patterns section o)
      → IsRewritable r section o × IsTrue (is_one_at patterns section o)
      → load 8 s operands.got_entry ≡ held → IsRelocatedBy row operands o section old
      → IsRelocatedBy row' (absolute_operands o operands) o (rewritten (Some r) section o) new
      → AreReplaced n (drop (o - n) old) (drop (o - n) new) s

  -- the same by what the fields come to
  abbrev LawOfFields : ℕ → List Original → Rewrite → Type 0
  LawOfFields n patterns r =
      (held : ℕ) → held < 2 ^ 64 → IsBefore n section o operands s → IsTrue (is_one_at patterns section o)
      → load 8 s operands.got_entry ≡ held → (rest rest' : List ℕ) → old ≡ take o section ++ rest
      → new ≡ take o (rewritten (Some r) section o) ++ rest'
      → sum_64 operands.place (extended (number_of_bytes 4 rest)) ≡ sum_64 operands.got_entry (2 ^ 64 - 4)
      → ((bits : ℕ) → IsSize bits → extended (number_of_bytes 4 rest') % 2 ^ bits ≡ held % 2 ^ bits)
      → AreReplaced n (drop (o - n) old) (drop (o - n) new) s

  of_symbol : (n : ℕ) (patterns : List Original) (r : Rewrite) → LawOfFields n patterns r
      → Law n patterns r got_row signed_immediate operands.symbol
  of_symbol n patterns r law before there matches holds was is =
      law operands.symbol before.addresses.symbol before there holds was.rest is.rest was.whole is.whole
      (entry n section o operands s before (drop o section) was.rest was.applied)
      (λ bits size. long_immediate n section o operands s before bits size
      (drop o (rewritten (Some r) section o)) is.rest is.applied)

  of_offset : (n : ℕ) (patterns : List Original) (r : Rewrite) → LawOfFields n patterns r
      → Law n patterns r tls_got_row thread_row (thread_offset operands)
  of_offset n patterns r law before there matches holds was is =
      law (thread_offset operands) (difference_below operands.symbol operands.tls_base) before there holds
      was.rest is.rest was.whole is.whole
      (tls_entry n section o operands s before (drop o section) was.rest was.applied)
      (λ bits size. offset_immediate n section o operands s before bits size
      (drop o (rewritten (Some r) section o)) is.rest is.applied)

  -- with no prefix
  pub without_prefix : Law 2 (plain opcode) (absolute 2 (operand opcode' k)) got_row unsigned_immediate
      operands.symbol
  without_prefix before there matches holds was is code_old code_new at at' =
      let shape = pattern_there (original 2 (rip_operand opcode)) section o there in
      let code = on_relative opcode (drop (o - 2) section)
      (All-drop (λ b. b < 2 ^ 8) (o - 2) section before.bytes) shape.1 in
      let codes = immediate_codes section old new was.rest is.rest o was.whole opcode code.modrm
      opcode' k code.rest shape.0 code.is is.whole in
      let b = begun (opcode ∷ code.modrm ∷ []) was.rest code_old (at ∙ ap (take 6) codes.0) in
      let b' = begun (opcode' ∷ x86.modrm_reg_to_rm k code.modrm ∷ []) is.rest code_new
      (at' ∙ ap (take 6) codes.1) in
      both replaced 2 (omega arith) section o operands s before operands.symbol
      before.addresses.symbol holds code_old code_new was.rest is.rest b.after b'.after
      code.modrm code.relative no_prefix no_prefix refl refl refl refl (inl refl) b.field b'.field
      (entry 2 section o operands s before (drop o section) was.rest was.applied)
      (short_immediate 2 section o operands s before
      (drop o (rewritten (Some (absolute 2 (operand opcode' k))) section o)) is.rest is.applied)
      (ap decode b.is ∙ replaced.plain (code.modrm ∷ b.after))
      (ap decode b'.is ∙ replaced.plain' (x86.modrm_reg_to_rm k code.modrm ∷ b'.after))

  -- the same by a rewrite that has the byte before the instruction in its window
  pub within_window : Law 2 (plain opcode) (absolute 3 (prefixed_operand 2 opcode' k)) got_row
      unsigned_immediate operands.symbol
  within_window before there matches holds was is code_old code_new at at' =
      let room = matches.0.starts in
      let inside = matches.0.ends in
      let shape = pattern_there (original 2 (rip_operand opcode)) section o there in
      let code = on_relative opcode (drop (o - 2) section)
      (All-drop (λ b. b < 2 ^ 8) (o - 2) section before.bytes) shape.1 in
      let front : drop (o - 3) section
      ≡ get_or section (o - 3) 0 ∷ opcode ∷ code.modrm ∷ code.rest =
      drop-cons section (o - 3) 0 (let e : o - 3 < length section = omega arith in e)
      ∙ ap (λ i. get_or section (o - 3) 0 ∷ drop i section)
      (let e : suc (o - 3) ≡ o - 2 = omega arith in e)
      ∙ ap (λ xs. get_or section (o - 3) 0 ∷ xs) code.is in
      let codes = wide_codes section old new was.rest is.rest o was.whole
      (get_or section (o - 3) 0) opcode code.modrm opcode' k code.rest room front is.whole in
      let b = begun (opcode ∷ code.modrm ∷ []) was.rest code_old (at ∙ ap (take 6) codes.0) in
      let b' = begun (opcode' ∷ x86.modrm_reg_to_rm k code.modrm ∷ []) is.rest code_new
      (at' ∙ ap (take 6) codes.1) in
      both replaced 2 (omega arith) section o operands s before operands.symbol
      before.addresses.symbol holds code_old code_new was.rest is.rest b.after b'.after
      code.modrm code.relative no_prefix no_prefix refl refl refl refl (inl refl) b.field b'.field
      (entry 2 section o operands s before (drop o section) was.rest was.applied)
      (short_immediate 2 section o operands s before
      (drop o (rewritten (Some (absolute 3 (prefixed_operand 2 opcode' k))) section o)) is.rest
      is.applied)
      (ap decode b.is ∙ replaced.plain (code.modrm ∷ b.after))
      (ap decode b'.is ∙ replaced.plain' (x86.modrm_reg_to_rm k code.modrm ∷ b'.after))

  -- with REX
  with_rex_of : LawOfFields 3 (with_rex rex opcode ∷ []) (absolute 3 (prefixed_operand 3 opcode' k))
  with_rex_of held small before there holds rest rest' whole whole' leads value code_old code_new at
      at' =
      let shape = pattern_there (with_rex rex opcode) section o there in
      let code = after_rex opcode (drop (o - 3) section)
      (All-drop (λ b. b < 2 ^ 8) (o - 3) section before.bytes) shape.1 in
      let p = code.prefix in
      let m = code.after.modrm in
      let codes = rex_immediate_codes section old new rest rest' o whole p opcode m opcode' k
      code.after.rest shape.0 (code.is ∙ ap (λ xs. p ∷ xs) code.after.is) whole' in
      let p' = x86.rex_r_to_b p in
      let b = begun (p ∷ opcode ∷ m ∷ []) rest code_old (at ∙ ap (take 7) codes.0) in
      let b' = begun (p' ∷ opcode' ∷ x86.modrm_reg_to_rm k m ∷ []) rest' code_new
      (at' ∙ ap (take 7) codes.1) in
      both replaced 3 (omega arith) section o operands s before held small holds code_old code_new
      rest rest' b.after b'.after m code.after.relative (rex_prefix p) (rex_prefix p')
      (ap (λ w. cond (eqb w 1) 64 32) code.is_rex.wide) (ap (λ r. 8 * r) code.is_rex.moved) refl refl
      (rex_size p) b.field b'.field leads (value (rex_prefix p).bits (rex_size p))
      (ap decode b.is ∙ after_rex_byte p (opcode ∷ m ∷ b.after) code.is_rex.is)
      (ap decode b'.is
      ∙ after_rex_byte p' (opcode' ∷ x86.modrm_reg_to_rm k m ∷ b'.after) code.is_rex.after)

  pub with_rex_prefix : Law 3 (with_rex rex opcode ∷ []) (absolute 3 (prefixed_operand 3 opcode' k)) got_row
      signed_immediate operands.symbol
  with_rex_prefix = of_symbol 3 (with_rex rex opcode ∷ []) (absolute 3 (prefixed_operand 3 opcode' k)) with_rex_of

  pub of_thread : Law 3 (with_rex rex opcode ∷ []) (absolute 3 (prefixed_operand 3 opcode' k)) tls_got_row
      thread_row (thread_offset operands)
  of_thread = of_offset 3 (with_rex rex opcode ∷ []) (absolute 3 (prefixed_operand 3 opcode' k)) with_rex_of

  -- with REX2
  with_rex2_of : LawOfFields 4 (with_rex2 rex2 opcode ∷ []) (absolute 3 (prefixed_operand 4 opcode' k))
  with_rex2_of held small before there holds rest rest' whole whole' leads value code_old code_new
      at at' =
      let shape = pattern_there (with_rex2 rex2 opcode) section o there in
      let code = after_rex2 opcode (drop (o - 4) section)
      (All-drop (λ b. b < 2 ^ 8) (o - 4) section before.bytes) shape.1 in
      let p = code.prefix in
      let m = code.after.modrm in
      let codes = rex2_immediate_codes section old new rest rest' o whole p opcode m opcode' k
      code.after.rest shape.0 (code.is ∙ ap (λ xs. 0xd5 ∷ p ∷ xs) code.after.is) whole' in
      let p' = x86.rex2_r_to_b p in
      let b = begun (0xd5 ∷ p ∷ opcode ∷ m ∷ []) rest code_old (at ∙ ap (take 8) codes.0) in
      let b' = begun (0xd5 ∷ p' ∷ opcode' ∷ x86.modrm_reg_to_rm k m ∷ []) rest' code_new
      (at' ∙ ap (take 8) codes.1) in
      both replaced 4 (omega arith) section o operands s before held small holds code_old code_new
      rest rest' b.after b'.after m code.after.relative (rex2_prefix p) (rex2_prefix p')
      (ap (λ w. cond (eqb w 1) 64 32) code.is_rex2.wide) code.is_rex2.moved refl refl
      (rex2_size p) b.field b'.field leads (value (rex2_prefix p).bits (rex2_size p))
      (ap decode b.is ∙ after_rex2_byte p (opcode ∷ m ∷ b.after) code.is_rex2.is)
      (ap decode b'.is
      ∙ after_rex2_byte p' (opcode' ∷ x86.modrm_reg_to_rm k m ∷ b'.after) code.is_rex2.after)

  pub with_rex2_prefix : Law 4 (with_rex2 rex2 opcode ∷ []) (absolute 3 (prefixed_operand 4 opcode' k)) got_row
      signed_immediate operands.symbol
  with_rex2_prefix = of_symbol 4 (with_rex2 rex2 opcode ∷ []) (absolute 3 (prefixed_operand 4 opcode' k)) with_rex2_of

  pub of_thread_with_rex2 : Law 4 (with_rex2 rex2 opcode ∷ []) (absolute 3 (prefixed_operand 4 opcode' k)) tls_got_row
      thread_row (thread_offset operands)
  of_thread_with_rex2 = of_offset 4 (with_rex2 rex2 opcode ∷ []) (absolute 3 (prefixed_operand 4 opcode' k)) with_rex2_of
