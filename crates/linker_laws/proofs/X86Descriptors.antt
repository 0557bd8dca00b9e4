-- The `lea` and the call of a descriptor of x86-64, each by itself.
use Rattle.linker_laws.proofs.Imports.{All, All-drop, All-head, All-tail, AreAddresses, IsApplied, IsBefore, IsSomeAnd, IsTrue, List, MOV, Operand, Operands, Some, X86_64Relocation, [], and_parts, ap, append_assoc, ap₂, arith, begins, bit_and, bit_at, byte, cast_unsigned, cond, decode, difference_64, drop, drop_at, eqb, eqb-true, extended, false≢true, immediate, is_one_at, is_relative, lea, lea_of_descriptor, length, length-take, load, min, not, number_of_bytes, offset_after, operand_value, operands_after, operate, pos, refl, reg_after_rex, reg_after_rex2, reg_of, register, relative, rewritten, rex2_prefix, rex2_w, rex_prefix, rex_w, rip_operand, subst, sum_64, sym, take, true, w64, with_rex, with_rex2, x86_64_matches, x86_64_relocation_after, x86_64_rewrite, ℕ, ◌%◌, ◌&&◌, ◌*◌, ◌++◌, ◌+◌, ◌-◌, ◌<◌, ◌^◌, ◌||◌, ◌∙◌, ◌∷◌, ◌≡◌}
use Rattle.linker_elf.specs.declared.x86_64.relocations.X86_64Relocation.TheVariants as names
use Rattle.linker_utils.specs.X86Rewrites as x86
use Rattle.linker_utils.specs.declared.x86_64.rewrites.RewriteKind.{RewriteKind}
use Rattle.linker_utils.specs.declared.x86_64.rewrites.RewriteKind.TheVariants as kinds
use Rattle.linker_laws.proofs.Relocated.{addresses as are_addresses}
use Rattle.linker_laws.proofs.Sums.{difference_below, sum_zero}
use Rattle.linker_laws.specs.X86Groups.{IsRelocated, thread_offset}
use Rattle.linker_laws.specs.X86Machine.{State}
use Rattle.linker_laws.proofs.X86Bytes.{begin_with, IsRex, IsRex2, rex_byte, rex2_byte, below, implied, same_byte, on_relative, modrm_byte}
use Rattle.linker_laws.proofs.X86Codes.{pattern_there, rex_lea_codes, rex2_lea_codes, rex_immediate_codes, rex2_immediate_codes}
use Rattle.linker_laws.proofs.X86Decoding.{begun, from_relative, from_immediate, after_rex_byte, after_rex2_byte}
use Rattle.linker_laws.proofs.X86Fields.{descriptor_field, descriptor_row, thread_field, tls_entry_field, thread_row, tls_got_row}
use Rattle.linker_laws.proofs.X86Immediates.{absolute_operands, offset_is}
use Rattle.linker_laws.proofs.X86Loads.{from_next, at_place, same_place}
use Rattle.linker_laws.proofs.X86Threads.{itself}

-- ---- bytes

wide_rex : (p : ℕ) → p < 2 ^ 8 → eqb (bit_and p 0xfb) 0x48 ≡ true → (eqb (bit_and p 0xf3) 0x40 ≡ true) × (bit_at p 3 ≡ 1)
wide_rex p small h =
    let both = and_parts _ _
    (implied _ _
    (below 256 (λ p. not (eqb (bit_and p 0xfb) 0x48) || (eqb (bit_and p 0xf3) 0x40 && eqb (bit_at p 3) 1)) refl p small) h) in
    (both.0, eqb-true _ _ both.1)

wide_rex2 : (p : ℕ) → p < 2 ^ 8 → eqb (bit_and p 0xbb) 0x08 ≡ true → (eqb (bit_and p 0xb3) 0 ≡ true) × (bit_at p 3 ≡ 1)
wide_rex2 p small h =
    let both = and_parts _ _ (implied _ _
    (below 256 (λ p. not (eqb (bit_and p 0xbb) 0x08) || (eqb (bit_and p 0xb3) 0 && eqb (bit_at p 3) 1)) refl p small) h) in
    (both.0, eqb-true _ _ both.1)

-- the `lea` after REX, of 64 bits
record IsLea (d : List ℕ) : Type 0 where
  pub prefix : ℕ
  pub modrm : ℕ
  pub rest : List ℕ
  pub is : d ≡ prefix ∷ 0x8d ∷ modrm ∷ rest
  pub is_rex : IsRex prefix
  pub wide : bit_at prefix 3 ≡ 1
  pub relative : is_relative modrm ≡ true

lea_there : (d : List ℕ) → All (λ b. b < 2 ^ 8) d → begins (rex_w ∷ rip_operand 0x8d) d ≡ true → IsLea d
lea_there [] bytes h = absurd (false≢true h)
lea_there (p ∷ rest) bytes h =
    let first = and_parts _ _ h in
    let small = All-head (λ b. b < 2 ^ 8) p rest bytes in
    let wide = wide_rex p small first.0 in
    let after = on_relative 0x8d rest (All-tail (λ b. b < 2 ^ 8) p rest bytes) first.1 in
    record {
      prefix = p;
      modrm = after.modrm;
      rest = after.rest;
      is = ap (λ xs. p ∷ xs) after.is;
      is_rex = rex_byte p small wide.0;
      wide = wide.1;
      relative = after.relative;
    }

-- the same after REX2
record IsLea2 (d : List ℕ) : Type 0 where
  pub prefix : ℕ
  pub modrm : ℕ
  pub rest : List ℕ
  pub is : d ≡ 0xd5 ∷ prefix ∷ 0x8d ∷ modrm ∷ rest
  pub is_rex2 : IsRex2 prefix
  pub wide : bit_at prefix 3 ≡ 1
  pub relative : is_relative modrm ≡ true

lea2_there : (d : List ℕ) → All (λ b. b < 2 ^ 8) d → begins (byte 0xd5 ∷ rex2_w ∷ rip_operand 0x8d) d ≡ true → IsLea2 d
lea2_there [] bytes h = absurd (false≢true h)
lea2_there (b ∷ []) bytes h = absurd (false≢true (and_parts _ _ h).1)
lea2_there (b ∷ p ∷ rest) bytes h =
    let one = and_parts _ _ h in
    let two = and_parts _ _ one.1 in
    let tail = All-tail (λ b. b < 2 ^ 8) b (p ∷ rest) bytes in
    let small = All-head (λ b. b < 2 ^ 8) p rest tail in
    let wide = wide_rex2 p small two.0 in
    let after = on_relative 0x8d rest (All-tail (λ b. b < 2 ^ 8) p rest tail) two.1 in
    record {
      prefix = p;
      modrm = after.modrm;
      rest = after.rest;
      is = ap (λ x. x ∷ p ∷ rest) (same_byte b 0xd5 (All-head (λ b. b < 2 ^ 8) b (p ∷ rest) bytes) one.0)
          ∙ ap (λ xs. 0xd5 ∷ p ∷ xs) after.is;
      is_rex2 = rex2_byte p small wide.0;
      wide = wide.1;
      relative = after.relative;
    }

-- ---- operands

module _ (n : ℕ) (few : n < 8) (section : List ℕ) (o : ℕ) (operands : Operands) (s : State)
    (before : IsBefore n section o operands s) where
  argument : (bytes rest : List ℕ) → IsApplied descriptor_row operands bytes rest
      → sum_64 (sum_64 s.ip (n + 4)) (extended (number_of_bytes 4 rest)) ≡ operands.got_entry
  argument bytes rest applied =
      from_next n s.ip operands.place (extended (number_of_bytes 4 rest)) operands.got_entry
      few before.addresses.place before.addresses.got_entry before.ip
      (descriptor_field operands before.addresses bytes rest applied
      ∙ ap (λ a. sum_64 operands.got_entry (cast_unsigned w64 a)) before.addend)

  -- the offset, which is in the field of the new instruction
  offset_there : (f' : ℕ) (bytes rest : List ℕ) → f' ≡ number_of_bytes 4 rest
      → IsApplied thread_row (absolute_operands o operands) bytes rest
      → extended f' % 2 ^ 64 ≡ thread_offset operands
  offset_there f' bytes rest f_is applied =
      let p = difference_64 (sum_64 operands.place o) o in
      ap (λ f. extended f % 2 ^ 64) f_is
      ∙ offset_is (extended (number_of_bytes 4 rest)) operands.symbol operands.tls_base
      before.addresses.symbol before.addresses.tls_base
      (thread_field (absolute_operands o operands)
      (at_place operands p (pos 0) before.addresses (difference_below (sum_64 operands.place o) o))
      bytes rest applied
      ∙ sum_zero operands.symbol before.addresses.symbol)

  -- what is loaded from the entry
  entry_there : (entry : ℕ) → entry < 2 ^ 64 → (f' : ℕ) (bytes rest : List ℕ)
      → f' ≡ number_of_bytes 4 rest
      → IsApplied tls_got_row
      (record operands { place = difference_64 (sum_64 operands.place o) o; got_entry = entry })
      bytes rest
      → (t : State) → s.ip ≡ t.ip
      → load 8 t (sum_64 (sum_64 t.ip (n + 4)) (extended f')) ≡ load 8 t entry
  entry_there entry small f' bytes rest f_is applied t at =
      let place = operands.place in
      let p = difference_64 (sum_64 place o) o in
      let operands' : Operands = record operands { place = p; got_entry = entry } in
      let small' = before.addresses in
      let addresses' : AreAddresses operands' = are_addresses _ small'.symbol (difference_below (sum_64 place o) o) small
      small'.got_base small'.plt_entry small'.tls_base in
      ap₂ (λ a f. load 8 t (sum_64 (sum_64 a (n + 4)) (extended f))) (sym at) f_is
      ∙ ap (load 8 t) (from_next n s.ip place (extended (number_of_bytes 4 rest)) entry few
      before.addresses.place small before.ip
      (ap (λ q. sum_64 q (extended (number_of_bytes 4 rest)))
      (sym (same_place place o before.addresses.place before.offset))
      ∙ tls_entry_field operands' addresses' bytes rest applied
      ∙ ap (λ a. sum_64 entry (cast_unsigned w64 a)) before.addend))

-- ---- instructions

-- A `lea` of the descriptor's address, and a `mov` of a number, into one register, which the bytes
-- of the `lea` name.
pub record AreLea (m : ℕ) (old new : List ℕ) (register_of : List ℕ → ℕ) (o : Operands)
    (s : State) (number : State → ℕ) : Type 0 where
  pub r : ℕ
  pub f : ℕ
  pub from : Operand
  pub was : decode old ≡ Some (record { instruction = lea 64 r f; size = m })
  pub is : decode new ≡ Some (record { instruction = operate MOV 64 (register r) from; size = m })
  pub leads : sum_64 (sum_64 s.ip m) (extended f) % 2 ^ 64 ≡ o.got_entry
  pub value : (t : State) → s.ip ≡ t.ip → operand_value t (sum_64 t.ip m) 64 from ≡ number t
  pub in_code : register_of old ≡ r

-- code that begins with the bytes of both, up to the field n bytes after the first
abbrev pub LeaOf : ℕ → X86_64Relocation → (List ℕ → ℕ) → RewriteKind → (Operands → Operands)
    → (Operands → State → ℕ) → Type 0
LeaOf n name register_of kind relocated number =
    IsSomeAnd (x86_64_relocation_after kind name) (λ after.
    (section original relaxed : List ℕ) (o : ℕ) (operands : Operands) (s : State)
    → IsBefore n section o operands s
    → IsTrue (is_one_at (lea_of_descriptor n) section o)
    → x86_64_matches kind section o
    → IsRelocated name operands o section original
    → IsRelocated after (relocated (operands_after (x86_64_rewrite kind) o operands))
    (offset_after (x86_64_rewrite kind) o) (rewritten (x86_64_rewrite kind) section o) relaxed
    → (old new : List ℕ) → take (n + 4) old ≡ take (n + 4) (drop (o - n) original)
    → take (n + 4) new ≡ take (n + 4) (drop (o - n) relaxed)
    → AreLea (n + 4) old new register_of operands s (number operands))

-- by the decoded instructions, of 64 bits
are_lea : (n : ℕ) → n < 8 → (section : List ℕ) (o : ℕ) (operands : Operands) (s : State)
    (old new rest : List ℕ) (register_of : List ℕ → ℕ) (number : State → ℕ) (r q bits bits' f : ℕ)
    (from : Operand) → IsBefore n section o operands s
    → IsApplied descriptor_row operands (drop o section) rest → f ≡ number_of_bytes 4 rest
    → bits ≡ 64 → bits' ≡ 64 → q ≡ r
    → decode old ≡ Some (record { instruction = lea bits r f; size = n + 4 })
    → decode new ≡ Some (record { instruction = operate MOV bits' (register q) from; size = n + 4 })
    → ((t : State) → s.ip ≡ t.ip → operand_value t (sum_64 t.ip (n + 4)) 64 from ≡ number t)
    → register_of old ≡ r → AreLea (n + 4) old new register_of operands s number
are_lea n few section o operands s old new rest register_of number r q bits bits' f from at applied f_is
    wide wide' same was is value in_code =
    record {
      r = r;
      f = f;
      from = from;
      was = was ∙ ap (λ b. Some (record { instruction = lea b r f; size = n + 4 })) wide;
      is =
          is ∙ ap (λ b. Some (record { instruction = operate MOV b (register q) from; size = n + 4 })) wide'
          ∙ ap (λ q. Some (record { instruction = operate MOV 64 (register q) from; size = n + 4 })) same;
      leads =
          ap (λ f. sum_64 (sum_64 s.ip (n + 4)) (extended f) % 2 ^ 64) f_is
          ∙ ap (λ a. a % 2 ^ 64) (argument n few section o operands s at (drop o section) rest applied)
          ∙ itself operands.got_entry at.addresses.got_entry;
      value = value;
      in_code = in_code;
    }

-- ---- the `lea` after REX

pub to_offset : LeaOf 3 names.R_X86_64_GOTPC32_TLSDESC reg_after_rex (kinds.TlsDescToLocalExec 3)
    (λ operands. operands) (λ o t. thread_offset o)
to_offset section old new o operands s before there matches was is code_old code_new at at' =
    let shape = pattern_there (with_rex rex_w 0x8d) section o there in
    let code = lea_there (drop (o - 3) section) (All-drop (λ b. b < 2 ^ 8) (o - 3) section before.bytes) shape.1 in
    let p = code.prefix in
    let p' = x86.rex_r_to_b p in
    let m = code.modrm in
    let r = reg_of m + (rex_prefix p).reg in
    let bits : (rex_prefix p).bits ≡ 64 = ap (λ w. cond (eqb w 1) 64 32) code.wide in
    let codes = rex_immediate_codes section old new was.rest is.rest o was.whole p 0x8d m 0xc7 0xc0 code.rest shape.0 code.is is.whole in
    let b = begun (p ∷ 0x8d ∷ m ∷ []) was.rest code_old (at ∙ ap (take 7) codes.0) in
    let b' = begun (p' ∷ 0xc7 ∷ x86.modrm_reg_to_rm 0xc0 m ∷ []) is.rest code_new (at' ∙ ap (take 7) codes.1) in
    are_lea 3 (omega arith) section o operands s code_old code_new was.rest reg_after_rex
    (λ t. thread_offset operands) r (reg_of m + (rex_prefix p').rm) (rex_prefix p).bits (rex_prefix p').bits
    (number_of_bytes 4 b.after) (immediate (number_of_bytes 4 b'.after)) before was.applied b.field bits
    (ap (λ w. cond (eqb w 1) 64 32) code.is_rex.wide ∙ bits) (ap (λ b. reg_of m + 8 * b) code.is_rex.moved)
    (ap decode b.is ∙ after_rex_byte p (0x8d ∷ m ∷ b.after) code.is_rex.is
    ∙ from_relative (rex_prefix p) 0x8d m b.after code.relative)
    (ap decode b'.is ∙ after_rex_byte p' (0xc7 ∷ x86.modrm_reg_to_rm 0xc0 m ∷ b'.after) code.is_rex.after
    ∙ from_immediate (rex_prefix p') 0xc7 0xc0 0 m MOV b'.after (modrm_byte 0xc0 0 m refl) refl)
    (λ t same. offset_there 3 (omega arith) section o operands s before (number_of_bytes 4 b'.after)
    (drop o (rewritten (x86_64_rewrite (kinds.TlsDescToLocalExec 3)) section o)) is.rest b'.field is.applied)
    (ap reg_after_rex b.is)

pub to_entry : (entry : ℕ) → entry < 2 ^ 64
    → LeaOf 3 names.R_X86_64_GOTPC32_TLSDESC reg_after_rex kinds.TlsDescToInitialExec
    (λ operands. record operands { got_entry = entry }) (λ o t. load 8 t entry)
to_entry entry small section old new o operands s before there matches was is code_old code_new at at' =
    let shape = pattern_there (with_rex rex_w 0x8d) section o there in
    let code = lea_there (drop (o - 3) section) (All-drop (λ b. b < 2 ^ 8) (o - 3) section before.bytes) shape.1 in
    let p = code.prefix in
    let m = code.modrm in
    let r = reg_of m + (rex_prefix p).reg in
    let bits : (rex_prefix p).bits ≡ 64 = ap (λ w. cond (eqb w 1) 64 32) code.wide in
    let codes = rex_lea_codes section old new was.rest is.rest o was.whole p 0x8d m 0x8b code.rest shape.0 code.is is.whole in
    let b = begun (p ∷ 0x8d ∷ m ∷ []) was.rest code_old (at ∙ ap (take 7) codes.0) in
    let b' = begun (p ∷ 0x8b ∷ m ∷ []) is.rest code_new (at' ∙ ap (take 7) codes.1) in
    are_lea 3 (omega arith) section o operands s code_old code_new was.rest reg_after_rex
    (λ t. load 8 t entry) r r (rex_prefix p).bits (rex_prefix p).bits
    (number_of_bytes 4 b.after) (relative (number_of_bytes 4 b'.after)) before was.applied b.field bits bits refl
    (ap decode b.is ∙ after_rex_byte p (0x8d ∷ m ∷ b.after) code.is_rex.is
    ∙ from_relative (rex_prefix p) 0x8d m b.after code.relative)
    (ap decode b'.is ∙ after_rex_byte p (0x8b ∷ m ∷ b'.after) code.is_rex.is
    ∙ from_relative (rex_prefix p) 0x8b m b'.after code.relative)
    (entry_there 3 (omega arith) section o operands s before entry small (number_of_bytes 4 b'.after)
    (drop o (rewritten (x86_64_rewrite kinds.TlsDescToInitialExec) section o)) is.rest b'.field is.applied)
    (ap reg_after_rex b.is)

-- ---- the `lea` after REX2

pub rex2_to_offset : LeaOf 4 names.R_X86_64_CODE_4_GOTPC32_TLSDESC reg_after_rex2 (kinds.TlsDescToLocalExec 4)
    (λ operands. operands) (λ o t. thread_offset o)
rex2_to_offset section old new o operands s before there matches was is code_old code_new at at' =
    let shape = pattern_there (with_rex2 rex2_w 0x8d) section o there in
    let code = lea2_there (drop (o - 4) section) (All-drop (λ b. b < 2 ^ 8) (o - 4) section before.bytes) shape.1 in
    let p = code.prefix in
    let p' = x86.rex2_r_to_b p in
    let m = code.modrm in
    let r = reg_of m + (rex2_prefix p).reg in
    let bits : (rex2_prefix p).bits ≡ 64 = ap (λ w. cond (eqb w 1) 64 32) code.wide in
    let codes = rex2_immediate_codes section old new was.rest is.rest o was.whole p 0x8d m 0xc7 0xc0 code.rest shape.0 code.is is.whole in
    let b = begun (0xd5 ∷ p ∷ 0x8d ∷ m ∷ []) was.rest code_old (at ∙ ap (take 8) codes.0) in
    let b' = begun (0xd5 ∷ p' ∷ 0xc7 ∷ x86.modrm_reg_to_rm 0xc0 m ∷ []) is.rest code_new
    (at' ∙ ap (take 8) codes.1) in
    are_lea 4 (omega arith) section o operands s code_old code_new was.rest reg_after_rex2
    (λ t. thread_offset operands) r (reg_of m + (rex2_prefix p').rm) (rex2_prefix p).bits (rex2_prefix p').bits
    (number_of_bytes 4 b.after) (immediate (number_of_bytes 4 b'.after)) before was.applied b.field bits
    (ap (λ w. cond (eqb w 1) 64 32) code.is_rex2.wide ∙ bits) (ap (λ b. reg_of m + b) code.is_rex2.moved)
    (ap decode b.is ∙ after_rex2_byte p (0x8d ∷ m ∷ b.after) code.is_rex2.is
    ∙ from_relative (rex2_prefix p) 0x8d m b.after code.relative)
    (ap decode b'.is ∙ after_rex2_byte p' (0xc7 ∷ x86.modrm_reg_to_rm 0xc0 m ∷ b'.after) code.is_rex2.after
    ∙ from_immediate (rex2_prefix p') 0xc7 0xc0 0 m MOV b'.after (modrm_byte 0xc0 0 m refl) refl)
    (λ t same. offset_there 4 (omega arith) section o operands s before (number_of_bytes 4 b'.after)
    (drop o (rewritten (x86_64_rewrite (kinds.TlsDescToLocalExec 4)) section o)) is.rest b'.field is.applied)
    (ap reg_after_rex2 b.is)

pub rex2_to_entry : (entry : ℕ) → entry < 2 ^ 64
    → LeaOf 4 names.R_X86_64_CODE_4_GOTPC32_TLSDESC reg_after_rex2 kinds.TlsDescToInitialExec
    (λ operands. record operands { got_entry = entry }) (λ o t. load 8 t entry)
rex2_to_entry entry small section old new o operands s before there matches was is code_old code_new at at' =
    let shape = pattern_there (with_rex2 rex2_w 0x8d) section o there in
    let code = lea2_there (drop (o - 4) section) (All-drop (λ b. b < 2 ^ 8) (o - 4) section before.bytes) shape.1 in
    let p = code.prefix in
    let m = code.modrm in
    let r = reg_of m + (rex2_prefix p).reg in
    let bits : (rex2_prefix p).bits ≡ 64 = ap (λ w. cond (eqb w 1) 64 32) code.wide in
    let codes = rex2_lea_codes section old new was.rest is.rest o was.whole p 0x8d m 0x8b code.rest shape.0 code.is is.whole in
    let b = begun (0xd5 ∷ p ∷ 0x8d ∷ m ∷ []) was.rest code_old (at ∙ ap (take 8) codes.0) in
    let b' = begun (0xd5 ∷ p ∷ 0x8b ∷ m ∷ []) is.rest code_new (at' ∙ ap (take 8) codes.1) in
    are_lea 4 (omega arith) section o operands s code_old code_new was.rest reg_after_rex2
    (λ t. load 8 t entry) r r (rex2_prefix p).bits (rex2_prefix p).bits
    (number_of_bytes 4 b.after) (relative (number_of_bytes 4 b'.after)) before was.applied b.field bits bits refl
    (ap decode b.is ∙ after_rex2_byte p (0x8d ∷ m ∷ b.after) code.is_rex2.is
    ∙ from_relative (rex2_prefix p) 0x8d m b.after code.relative)
    (ap decode b'.is ∙ after_rex2_byte p (0x8b ∷ m ∷ b'.after) code.is_rex2.is
    ∙ from_relative (rex2_prefix p) 0x8b m b'.after code.relative)
    (entry_there 4 (omega arith) section o operands s before entry small (number_of_bytes 4 b'.after)
    (drop o (rewritten (x86_64_rewrite kinds.TlsDescToInitialExec) section o)) is.rest b'.field is.applied)
    (ap reg_after_rex2 b.is)

-- ---- the call

-- `call *(%rax)`
pub call_code : (calls : List ℕ) (at : ℕ) → All (λ b. b < 2 ^ 8) calls
    → x86_64_matches kinds.SkipTlsDescCall calls at
    → (rest : List ℕ) × (drop at calls ≡ 0xff ∷ 0x10 ∷ rest)
call_code calls at bytes matches =
    let shape = pattern_there (x86.original 0 (byte 0xff ∷ byte 0x10 ∷ [])) calls at matches.1 in
    let same : at - 0 ≡ at = omega arith in
    subst (λ i. (rest : List ℕ) × (drop i calls ≡ 0xff ∷ 0x10 ∷ rest)) same
    (begin_with (0xff ∷ 0x10 ∷ []) [] (drop (at - 0) calls) (All-drop (λ b. b < 2 ^ 8) (at - 0) calls bytes) shape.1)

-- what is left of the call
pub nop_code : (calls : List ℕ) (at : ℕ) → x86_64_matches kinds.SkipTlsDescCall calls at
    → drop at (rewritten (x86_64_rewrite kinds.SkipTlsDescCall) calls at)
    ≡ 0x66 ∷ 0x90 ∷ drop (at + 2) calls
nop_code calls at matches =
    let ends = matches.0.ends in
    ap (λ i. drop at (take i calls ++ (0x66 ∷ 0x90 ∷ []) ++ drop (i + 2) calls))
    (let e : at - 0 ≡ at = omega arith in e)
    ∙ ap (drop at) (append_assoc (take at calls) (0x66 ∷ 0x90 ∷ []) (drop (at + 2) calls))
    ∙ drop_at (take at calls) (0x66 ∷ 0x90 ∷ drop (at + 2) calls) at
    (length-take at calls ∙ (let e : min at (length calls) ≡ at = omega arith in e))
