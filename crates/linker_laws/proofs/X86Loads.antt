-- Loads of addresses from the GOT, and `lea`.
use Rattle.linker_laws.proofs.Imports.{All-drop, AreAddresses, IsApplied, IsBefore, List, MOV, Operands, Some, [], address, ap, ap₂, arith, bit_at, cases_Bool, cast_unsigned, cond-false, cond-true, decode, difference_64, drop, eqb, extended, if◌then◌else◌, inl, inr, lea, legacy, load, no_prefix, number_of_bytes, operands_after, operate, original, refl, reg_of, register, relative, rewritten, rex, rex2, rex2_prefix, rex_prefix, rip_operand, subst, sum_64, sym, take, w64, with_rex, with_rex2, x86_64_rewrite, ℕ, ℤ, ◌+◌, ◌-◌, ◌<◌, ◌^◌, ◌∙◌, ◌∷◌, ◌≡◌}
use Rattle.linker_laws.proofs.Relocated.{addresses as are_addresses}
use Rattle.linker_elf.specs.declared.x86_64.relocations.X86_64Relocation.TheVariants as names
use Rattle.linker_utils.specs.declared.x86_64.rewrites.RewriteKind.TheVariants as kinds
use Rattle.linker_laws.specs.X86Machine.{State}
use Rattle.linker_laws.proofs.X86Bytes.{on_relative, after_rex, after_rex2}
use Rattle.linker_laws.proofs.X86Codes.{pattern_there, lea_codes, rex_lea_codes, rex2_lea_codes}
use Rattle.linker_laws.proofs.X86Decoding.{Replaced, Replaces, begun, from_relative, after_rex_byte, after_rex2_byte}
use Rattle.linker_laws.proofs.X86Fields.{entry_field, place_field, got_row, place_row}
use Rattle.linker_laws.proofs.X86Values.{IsSize, loaded, same_load}

-- ---- addresses

pub same_place : (p o : ℕ) → p < 2 ^ 64 → o < 2 ^ 64 → difference_64 (sum_64 p o) o ≡ p
same_place p o small offset = omega arith

-- from the next instruction, which begins 4 bytes after the place of the field
pub from_next : (n ip place e t : ℕ) → n < 8 → place < 2 ^ 64 → t < 2 ^ 64
    → ip ≡ difference_64 place n → sum_64 place e ≡ sum_64 t (2 ^ 64 - 4)
    → sum_64 (sum_64 ip (n + 4)) e ≡ t
from_next n ip place e t short small target begins leads = omega arith

-- the addresses among operands at another place
pub at_place : (o : Operands) (p : ℕ) (a : ℤ) → AreAddresses o → p < 2 ^ 64
    → AreAddresses (record o { place = p; addend = a })
at_place o p a addresses small =
    are_addresses _ addresses.symbol small addresses.got_entry addresses.got_base addresses.plt_entry addresses.tls_base

-- operands are of 32 or of 64 bits
pub size_by : (w : ℕ) → IsSize (if eqb w 1 then 64 else 32)
size_by w =
    elim (cases_Bool (eqb w 1)) [
      | inl wide ↦ inr (cond-true (eqb w 1) 64 32 wide)
      | inr short ↦ inl (cond-false (eqb w 1) 64 32 short)
    ]

pub rex_size : (p : ℕ) → IsSize (rex_prefix p).bits
rex_size p = size_by (bit_at p 3)

pub rex2_size : (p : ℕ) → IsSize (rex2_prefix p).bits
rex2_size p = size_by (bit_at p 3)

-- ---- the law

module _ (n : ℕ) (few : n < 8) (section : List ℕ) (o : ℕ) (operands : Operands) (s : State)
    (before : IsBefore n section o operands s)
    (held : load 8 s operands.got_entry ≡ operands.symbol) where
  -- what both instructions do, by the code from their first bytes
  both : (old new rest rest' : List ℕ) (bits r f f' : ℕ) → IsSize bits
      → f ≡ number_of_bytes 4 rest → f' ≡ number_of_bytes 4 rest'
      → IsApplied got_row operands (drop o section) rest
      → IsApplied place_row (operands_after (x86_64_rewrite kinds.MovIndirectToLea) o operands)
      (drop o (rewritten (x86_64_rewrite kinds.MovIndirectToLea) section o)) rest'
      → decode old ≡ Some (record {
        instruction = operate MOV bits (register r) (relative f);
        size = n + 4;
      })
      → decode new ≡ Some (record { instruction = lea bits r f'; size = n + 4 })
      → Replaces (n + 4) old new s
  both old new rest rest' bits r f f' size f_is f_is' was is was_decoded is_decoded =
      let place = operands.place in
      let same = same_place place o before.addresses.place before.offset in
      let after = operands_after (x86_64_rewrite kinds.MovIndirectToLea) o operands in
      let addresses' = at_place operands (difference_64 (sum_64 place o) o) operands.addend
      before.addresses (subst (λ p. p < 2 ^ 64) (sym same) before.addresses.place) in
      let entry = ap (λ f. sum_64 place (extended f)) f_is
      ∙ entry_field operands before.addresses (drop o section) rest was
      ∙ ap (λ a. sum_64 operands.got_entry (cast_unsigned w64 a)) before.addend in
      let target = ap₂ (λ p f. sum_64 p (extended f)) (sym same) f_is'
      ∙ place_field after addresses'
      (drop o (rewritten (x86_64_rewrite kinds.MovIndirectToLea) section o)) rest' is
      ∙ ap (λ a. sum_64 operands.symbol (cast_unsigned w64 a)) before.addend in
      let next = sum_64 s.ip (n + 4) in
      record {
        instruction = operate MOV bits (register r) (relative f);
        instruction' = lea bits r f';
        was = was_decoded;
        is = is_decoded;
        same =
            same_load s next bits r f f' operands.symbol
            (loaded s next bits f operands.got_entry operands.symbol size
            (from_next n s.ip place (extended f) operands.got_entry few before.addresses.place
            before.addresses.got_entry before.ip entry) held before.addresses.symbol)
            (from_next n s.ip place (extended f') operands.symbol few before.addresses.place
            before.addresses.symbol before.ip target);
        flags = refl;
        alone = λ memory. refl;
        goes_on = refl;
      }

pub without_prefix : Replaced 2 (legacy 2 0x8b) names.R_X86_64_GOTPCRELX kinds.MovIndirectToLea
    address
without_prefix section old new o operands s before there matches held was is code_old code_new at at' =
    let shape = pattern_there (original 2 (rip_operand 0x8b)) section o there in
    let d = drop (o - 2) section in
    let code = on_relative 0x8b d (All-drop (λ b. b < 2 ^ 8) (o - 2) section before.bytes) shape.1 in
    let m = code.modrm in
    let codes = lea_codes section old new was.rest is.rest o was.whole 0x8b m code.rest
    shape.0 code.is is.whole in
    let b = begun (0x8b ∷ m ∷ []) was.rest code_old (at ∙ ap (take 6) codes.0) in
    let b' = begun (0x8d ∷ m ∷ []) is.rest code_new (at' ∙ ap (take 6) codes.1) in
    both 2 (omega arith) section o operands s before held code_old code_new was.rest is.rest 32
    (reg_of m + 0) (number_of_bytes 4 b.after) (number_of_bytes 4 b'.after) (inl refl) b.field
    b'.field was.applied is.applied
    (ap decode b.is ∙ from_relative no_prefix 0x8b m b.after code.relative)
    (ap decode b'.is ∙ from_relative no_prefix 0x8d m b'.after code.relative)

pub with_rex_prefix : Replaced 3 (legacy 3 0x8b) names.R_X86_64_REX_GOTPCRELX
    kinds.MovIndirectToLea address
with_rex_prefix section old new o operands s before there matches held was is code_old code_new at at' =
    let shape = pattern_there (with_rex rex 0x8b) section o there in
    let d = drop (o - 3) section in
    let code = after_rex 0x8b d (All-drop (λ b. b < 2 ^ 8) (o - 3) section before.bytes) shape.1 in
    let p = code.prefix in
    let m = code.after.modrm in
    let codes = rex_lea_codes section old new was.rest is.rest o was.whole p 0x8b m 0x8d code.after.rest
    shape.0 (code.is ∙ ap (λ xs. p ∷ xs) code.after.is) is.whole in
    let b = begun (p ∷ 0x8b ∷ m ∷ []) was.rest code_old (at ∙ ap (take 7) codes.0) in
    let b' = begun (p ∷ 0x8d ∷ m ∷ []) is.rest code_new (at' ∙ ap (take 7) codes.1) in
    both 3 (omega arith) section o operands s before held code_old code_new was.rest is.rest
    (rex_prefix p).bits (reg_of m + (rex_prefix p).reg) (number_of_bytes 4 b.after)
    (number_of_bytes 4 b'.after) (rex_size p) b.field b'.field was.applied is.applied
    (ap decode b.is ∙ after_rex_byte p (0x8b ∷ m ∷ b.after) code.is_rex.is
    ∙ from_relative (rex_prefix p) 0x8b m b.after code.after.relative)
    (ap decode b'.is ∙ after_rex_byte p (0x8d ∷ m ∷ b'.after) code.is_rex.is
    ∙ from_relative (rex_prefix p) 0x8d m b'.after code.after.relative)

-- the same row
pub of_any_load : Replaced 3 (legacy 3 0x8b) names.R_X86_64_GOTPCREL kinds.MovIndirectToLea address
of_any_load = with_rex_prefix

pub with_rex2_prefix : Replaced 4 (legacy 4 0x8b) names.R_X86_64_CODE_4_GOTPCRELX
    kinds.MovIndirectToLea address
with_rex2_prefix section old new o operands s before there matches held was is code_old code_new at at' =
    let shape = pattern_there (with_rex2 rex2 0x8b) section o there in
    let d = drop (o - 4) section in
    let code = after_rex2 0x8b d (All-drop (λ b. b < 2 ^ 8) (o - 4) section before.bytes) shape.1 in
    let p = code.prefix in
    let m = code.after.modrm in
    let codes = rex2_lea_codes section old new was.rest is.rest o was.whole p 0x8b m 0x8d
    code.after.rest shape.0 (code.is ∙ ap (λ xs. 0xd5 ∷ p ∷ xs) code.after.is) is.whole in
    let b = begun (0xd5 ∷ p ∷ 0x8b ∷ m ∷ []) was.rest code_old (at ∙ ap (take 8) codes.0) in
    let b' = begun (0xd5 ∷ p ∷ 0x8d ∷ m ∷ []) is.rest code_new (at' ∙ ap (take 8) codes.1) in
    both 4 (omega arith) section o operands s before held code_old code_new was.rest is.rest
    (rex2_prefix p).bits (reg_of m + (rex2_prefix p).reg) (number_of_bytes 4 b.after)
    (number_of_bytes 4 b'.after) (rex2_size p) b.field b'.field was.applied is.applied
    (ap decode b.is ∙ after_rex2_byte p (0x8b ∷ m ∷ b.after) code.is_rex2.is
    ∙ from_relative (rex2_prefix p) 0x8b m b.after code.after.relative)
    (ap decode b'.is ∙ after_rex2_byte p (0x8d ∷ m ∷ b'.after) code.is_rex2.is
    ∙ from_relative (rex2_prefix p) 0x8d m b'.after code.after.relative)
