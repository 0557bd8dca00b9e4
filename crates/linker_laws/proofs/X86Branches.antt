-- Branches through the GOT, and direct ones.
use Rattle.linker_laws.proofs.Imports.{All-drop, IsApplied, IsBefore, List, Operands, Some, Target, [], address, ap, arith, byte, call, cast_unsigned, decode, difference_64, direct, drop, extended, field4, indirect, jump, load, number_of_bytes, original, rewritten, subst, sum_64, sym, take, w64, x86_64_originals, x86_64_rewrite, ℕ, ◌-◌, ◌<◌, ◌^◌, ◌∙◌, ◌∷◌, ◌≡◌, ◌≤◌}
use Rattle.linker_elf.specs.declared.x86_64.relocations.X86_64Relocation.TheVariants as names
use Rattle.linker_utils.specs.declared.x86_64.rewrites.RewriteKind.TheVariants as kinds
use Rattle.linker_laws.proofs.Sums.{difference_below}
use Rattle.linker_laws.specs.X86Machine.{State, Instruction}
use Rattle.linker_laws.proofs.X86Bytes.{begin_with}
use Rattle.linker_laws.proofs.X86Codes.{pattern_there, call_codes, jump_codes}
use Rattle.linker_laws.proofs.X86Decoding.{Rewrites, begun, fewer}
use Rattle.linker_laws.proofs.X86Fields.{entry_field, place_field, got_row, place_row}
use Rattle.linker_laws.proofs.X86Loads.{same_place, from_next, at_place}

place_before : (p o : ℕ) → 2 ≤ o → p < 2 ^ 64 → o < 2 ^ 64
    → difference_64 (sum_64 p (o - 1)) o ≡ difference_64 p 1
place_before p o room small offset = omega arith

-- from the next instruction, of 5 bytes, of which the last 4 are a field
from_short : (ip place e t : ℕ) → place < 2 ^ 64 → t < 2 ^ 64 → ip ≡ difference_64 place 2
    → sum_64 (difference_64 place 1) e ≡ sum_64 t (2 ^ 64 - 4) → sum_64 (sum_64 ip 5) e ≡ t
from_short ip place e t small target begins leads = omega arith

module _ (section : List ℕ) (o : ℕ) (operands : Operands) (s : State)
    (before : IsBefore 2 section o operands s)
    (held : load 8 s operands.got_entry ≡ operands.symbol) where
  -- what is loaded from the GOT
  loaded_target : (bytes rest : List ℕ) → IsApplied got_row operands bytes rest
      → load 8 s (sum_64 (sum_64 s.ip 6) (extended (number_of_bytes 4 rest))) ≡ operands.symbol
  loaded_target bytes rest applied =
      ap (load 8 s) (from_next 2 s.ip operands.place (extended (number_of_bytes 4 rest))
      operands.got_entry (omega arith) before.addresses.place before.addresses.got_entry before.ip
      (entry_field operands before.addresses bytes rest applied
      ∙ ap (λ a. sum_64 operands.got_entry (cast_unsigned w64 a)) before.addend))
      ∙ held

  -- the field of a direct branch, at a place
  place_at : (p p' : ℕ) → p ≡ p' → p' < 2 ^ 64 → (bytes rest : List ℕ)
      → IsApplied place_row (record operands { place = p; addend = operands.addend }) bytes rest
      → sum_64 p' (extended (number_of_bytes 4 rest)) ≡ sum_64 operands.symbol (2 ^ 64 - 4)
  place_at p p' same small bytes rest applied =
      ap (λ p. sum_64 p (extended (number_of_bytes 4 rest))) (sym same)
      ∙ place_field (record operands { place = p; addend = operands.addend })
      (at_place operands p operands.addend before.addresses
      (subst (λ p. p < 2 ^ 64) (sym same) small)) bytes rest applied
      ∙ ap (λ a. sum_64 operands.symbol (cast_unsigned w64 a)) before.addend

-- A branch of 6 bytes goes to the address that is loaded, and one of m bytes to the same.
pub record Leads (branch : Target → Instruction) (m : ℕ) (old new : List ℕ) (target : ℕ) (s : State)
    : Type 0 where
  pub from : ℕ
  pub to : ℕ
  pub was : decode old ≡ Some (record { instruction = branch (indirect from); size = 6 })
  pub is : decode new ≡ Some (record { instruction = branch (direct to); size = m })
  pub loads : load 8 s (sum_64 (sum_64 s.ip 6) (extended from)) ≡ target
  pub leads : sum_64 (sum_64 s.ip m) (extended to) ≡ target

-- Code does so that begins with the 6 bytes of both.
abbrev pub AreBranches : (Target → Instruction) → ℕ → List ℕ → List ℕ → Operands → State → Type 0
AreBranches branch m before after operands s =
    (old new : List ℕ) → take 6 old ≡ take 6 before → take 6 new ≡ take 6 after
    → Leads branch m old new operands.symbol s

pub calls : Rewrites 2 (x86_64_originals kinds.CallIndirectToRelative) names.R_X86_64_GOTPCRELX
    kinds.CallIndirectToRelative address (AreBranches call 6)
calls section old new o operands s before there matches held was is code_old code_new at at' =
    let shape = pattern_there (original 2 (byte 0xff ∷ byte 0x15 ∷ field4)) section o there in
    let code = begin_with (0xff ∷ 0x15 ∷ []) field4 (drop (o - 2) section)
    (All-drop (λ b. b < 2 ^ 8) (o - 2) section before.bytes) shape.1 in
    let codes = call_codes section old new was.rest is.rest o was.whole 0xff 0x15 code.0 shape.0
    code.1 is.whole in
    let b = begun (0xff ∷ 0x15 ∷ []) was.rest code_old (at ∙ ap (take 6) codes.0) in
    let b' = begun (0x67 ∷ 0xe8 ∷ []) is.rest code_new (at' ∙ ap (take 6) codes.1) in
    let place = operands.place in
    let f' = number_of_bytes 4 is.rest in
    record {
      from = number_of_bytes 4 b.after;
      to = number_of_bytes 4 b'.after;
      was = ap decode b.is;
      is = ap decode b'.is;
      loads =
          ap (λ f. load 8 s (sum_64 (sum_64 s.ip 6) (extended f))) b.field
          ∙ loaded_target section o operands s before held (drop o section) was.rest was.applied;
      leads =
          ap (λ f. sum_64 (sum_64 s.ip 6) (extended f)) b'.field
          ∙ from_next 2 s.ip place (extended f') operands.symbol (omega arith)
          before.addresses.place before.addresses.symbol before.ip
          (place_at section o operands s before held (difference_64 (sum_64 place o) o) place
          (same_place place o before.addresses.place before.offset) before.addresses.place
          (drop o (rewritten (x86_64_rewrite kinds.CallIndirectToRelative) section o)) is.rest
          is.applied);
    }

pub jumps : Rewrites 2 (x86_64_originals kinds.JmpIndirectToRelative) names.R_X86_64_GOTPCRELX
    kinds.JmpIndirectToRelative address (AreBranches jump 5)
jumps section old new o operands s before there matches held was is code_old code_new at at' =
    let shape = pattern_there (original 2 (byte 0xff ∷ byte 0x25 ∷ field4)) section o there in
    let code = begin_with (0xff ∷ 0x25 ∷ []) field4 (drop (o - 2) section)
    (All-drop (λ b. b < 2 ^ 8) (o - 2) section before.bytes) shape.1 in
    let codes = jump_codes section old new was.rest is.rest o was.whole 0xff 0x25 code.0 shape.0
    code.1 is.whole in
    let b = begun (0xff ∷ 0x25 ∷ []) was.rest code_old (at ∙ ap (take 6) codes.0) in
    let b' = begun (0xe9 ∷ []) is.rest code_new
    (fewer 5 code_new (0xe9 ∷ is.rest) (at' ∙ ap (take 6) codes.1)) in
    let place = operands.place in
    let f' = number_of_bytes 4 is.rest in
    record {
      from = number_of_bytes 4 b.after;
      to = number_of_bytes 4 b'.after;
      was = ap decode b.is;
      is = ap decode b'.is;
      loads =
          ap (λ f. load 8 s (sum_64 (sum_64 s.ip 6) (extended f))) b.field
          ∙ loaded_target section o operands s before held (drop o section) was.rest was.applied;
      leads =
          ap (λ f. sum_64 (sum_64 s.ip 5) (extended f)) b'.field
          ∙ from_short s.ip place (extended f') operands.symbol before.addresses.place
          before.addresses.symbol before.ip
          (place_at section o operands s before held (difference_64 (sum_64 place (o - 1)) o)
          (difference_64 place 1) (place_before place o shape.0 before.addresses.place before.offset)
          (difference_below place 1)
          (drop (o - 1) (rewritten (x86_64_rewrite kinds.JmpIndirectToRelative) section o)) is.rest
          is.applied);
    }
