-- x86-64: each rewrite of a section has a law, so that what it takes is a group.
use Rattle.linker_final.proofs.Imports.{Absolute, Addresses, All-append, All-drop, All-take, AllHold, Applies, AreAddresses, AreBytes, Bool, CanRewrite, Choice, Composes, Consumed, Decision, HaveSameWindow, IsApplied, IsArchitectureChoice, IsDone, IsField, IsFirst, IsLinked, IsMade, IsNameOf, IsNamed, IsOutside, IsRewritable, IsRow, IsScopeIn, IsSomeAnd, IsTrue, IsWithin, IsWritten, Kept, Kinds, Labelled, LinkFacts, Linked, List, None, Ok, Operands, Option, Phase, Rela, Relative, Relaxation, RelocationKind, Rewrite, RewritesAreGroups, Rewritten, RewrittenWithSymbol, RowInfo, Scope, Some, State, Symbol, ThreadOffset, TpOff, UntouchedByOthers, UntouchedBytes, X86_64, [], accepted_same, and_from, and_parts, ap, append_assoc, arith, begins_pair, bit_and, bit_bounds, bytes_row, cases_eq, cases_lt, cast_is, cast_signed, cast_unsigned, choice, chosen_at, cond, cond-false, continues, count, decision_at, difference_64, difference_below, drop, drop-cons, drop-drop, drop_at, ends_pair, entry_address, entry_of, eqb, ext_get_or, false, field_end, field_len, from_le_bytes, get_or, get_or-drop, inl, inr, int_rem_euclid, ints, is_labelled, is_of_got, leb, leb-true, length, length-drop, length-take-le, loads_plt_word, low_bytes, neg_ℤ, negsuc, number_of_bytes, number_written, of_number, of_pair, of_z-to_z, offset_after, offset_at, offset_of, one_info, operands_after, operands_by, operands_in, operands_of, operands_with, or_cases, or_left, or_right, pos, r_type_of, refl, relaxation_no_op, relaxation_rewrite, relocation_in, replaces, rewrite_window, rewritten, signed_row, size_len, slice_get, subst, suc, sum_64, sym, symbol_term, take, take-append-drop, take_more, target_of, true, unsigned_row, unwrap_or, value_of, w64, window_len, window_of_rewrite, x86_64_none, ℕ, ℤ, ⊤, ◌%◌, ◌&&◌, ◌*◌, ◌++◌, ◌+◌, ◌-◌, ◌/◌, ◌<◌, ◌^◌, ◌||◌, ◌∙◌, ◌∷◌, ◌≡◌, ◌≤◌, ◌⊎◌}
use Rattle.linker_laws.specs.X86Groups.{AddsOffset, BlockOffsets, IsModuleCall, IsThreadCall, LeaToEntry, LeaToOffset, LeadToTheSame, reg_after_rex, reg_after_rex2, Code, Groups, Rewritten as IsRewrittenGroup, Stands, seen, IsBefore, IsRelocated, IsRelocatedBy, address, thread_offset}
use Rattle.linker_final.specs.X86Section.{AreBy, EntryHolds, HasFinal, HasObject, IsGroupOf, IsObject, LawOf, LeadsToTheSame, Makes, Offsets, Window, block, call, in_got, lea, put_back, rewriting, sequence_of, variable, window, window_of}
use Rattle.linker_section.specs.Sections.{IsInNoField}
use Rattle.linker_base.proofs.Tests.{never}
use Rattle.linker_elf.specs.X86Relocations.{x86_64_name, x86_64_row}
use Rattle.linker_elf.specs.declared.elf.RelocationKind.TheVariants.{None as NoValue}
use Rattle.linker_elf.specs.declared.elf.Sign.TheVariants.{Signed, Unsigned}
use Rattle.linker_elf.specs.declared.x86_64.relocations.X86_64Relocation.{X86_64Relocation}
use Rattle.linker_final.proofs.SectionRuns.{AreIn, IsIn, IsRewrittenAt, each_or, final_in, is_linked, without_label}
use Rattle.linker_final.proofs.Written.{none_written, AreLowest, IsPlain, IsRowOf, UntouchedField, back_inside, back_outside, back_rewritten, by_name, byte_left, eight_bytes, entry_is_there, four_bytes, last_as_many, last_length, last_within, left, len_is, no_field, outside_of, plain, put_back_is, rela, rela_at, relocation_is, relocation_left, row_in, same_windows, small_byte, spared}
use Rattle.linker_laws.proofs.X86Fields.{block_row, long_block_row, long_thread_row, thread_row, tls_got_row, tls_module_row}
use Rattle.linker_laws.specs.X86Machine.{extended}
use Rattle.linker_utils.specs.X86RelocationsAfter.{immediate_of, x86_64_relocation_after}
use Rattle.linker_utils.specs.X86Rewrites.{HasPattern, Original, Table, X86Entry, absolute, any_entry, begins, descriptor_table, general_dynamic_table, is_at, is_one_at, lea_of_descriptor, legacy, local_dynamic_table, module_by, opcode_at, operand, original, prefixed_operand, puts, rex2_w, rex_mov, rex_w, unrelocated_by, with_rex, with_rex2, x86_64_after, x86_64_matches, x86_64_originals, x86_64_rewrite, x86_64_table}
use Rattle.linker_utils.specs.declared.x86_64.rewrites.RewriteKind.{RewriteKind}
use Rattle.linker_utils.specs.declared.x86_64.rewrites.RewriteKind.TheVariants as kinds
use Rattle.linker_elf.specs.declared.x86_64.relocations.X86_64Relocation.TheVariants as names
use Rattle.linker_utils.specs.declared.architecture.Relaxation.TheVariants as relaxations
use Rattle.linker_utils.specs.X86Rewrites as x86
use Rattle.linker_elf.specs.declared.elf.RelocationKind.TheVariants as values
use Rattle.linker_laws.specs.X86Groups as groups

-- Another rewrite does the same, whose window is in an instruction or a sequence: from at most n
-- bytes before a field to n bytes after where the field begins.
pub record HasWindow (n end : ℕ) (rewrite : Option Rewrite) : Type 0 where
  pub made : Rewrite
  pub is : rewrite ≡ Some made
  pub admits : (window_of_one : List ℕ) → made.admits window_of_one ≡ true
  pub inner : Rewrite
  pub same : (bytes : List ℕ) (o : ℕ) → made.back ≤ o → o - made.back + made.len ≤ length bytes
      → rewritten (Some made) bytes o ≡ rewritten (Some inner) bytes o
  pub same_made : (before after : List ℕ) (o : ℕ) → made.back ≤ o
      → o - made.back + made.len ≤ length before → length after ≡ length before
      → rewrite_window made after o ≡ made.bytes (rewrite_window made before o)
      → rewrite_window inner after o ≡ inner.bytes (rewrite_window inner before o)
  pub outer : (o at : ℕ) → made.back ≤ o → n ≤ o → o - n ≤ at
      → (at < o - inner.back) ⊎ (o - inner.back + inner.len ≤ at)
      → (at < o - made.back) ⊎ (o - made.back + made.len ≤ at)
  -- bytes before the instruction stay
  pub low : (before after : List ℕ) (o at : ℕ) → made.back ≤ o → o - made.back + made.len ≤ length before
      → length after ≡ length before → rewrite_window made after o ≡ made.bytes (rewrite_window made before o)
      → o - made.back ≤ at → at < o - n → get_or after at 0 ≡ get_or before at 0
  pub back : inner.back ≤ n
  pub ends : inner.len ≤ inner.back + end

-- one whose own window is
abbrev pub own_window : (n end : ℕ) (rewrite : Option Rewrite) (r : Rewrite) → rewrite ≡ Some r
    → ((window_of_one : List ℕ) → r.admits window_of_one ≡ true) → r.back ≤ n → r.len ≤ r.back + end
    → HasWindow n end rewrite
own_window n end rewrite r is admits low high =
    record {
      made = r;
      is = is;
      admits = admits;
      inner = r;
      same = λ bytes o starts ends. refl;
      same_made = λ before after o starts ends long is_made. is_made;
      outer = λ o at starts long from outside. outside;
      low = λ before after o at starts ends long is_made from less. absurd (omega (arith, low, from, less));
      back = low;
      ends = high;
    }

-- The window is in an instruction, to the end of its field of 4 bytes, and so is the field after.
pub record LiesWithin (n : ℕ) (rewrite : Option Rewrite) : Type 0 where
  pub window : HasWindow n 4 rewrite
  pub moves : (o : ℕ) → n ≤ o → (o - n ≤ window.made.offset o) × (window.made.offset o ≤ o)

-- one whose own window is
own : (n : ℕ) (rewrite : Option Rewrite) (r : Rewrite) → rewrite ≡ Some r
    → ((window_of_one : List ℕ) → r.admits window_of_one ≡ true) → r.back ≤ n
    → r.len ≤ r.back + 4 → ((o : ℕ) → n ≤ o → (o - n ≤ r.offset o) × (r.offset o ≤ o))
    → LiesWithin n rewrite
own n rewrite r is admits low high moves =
    record { window = own_window n 4 rewrite r is admits low high; moves = moves }

pub within : (n back len : ℕ) (bytes : List ℕ → List ℕ) (addend : ℤ → ℤ) (rewrite : Option Rewrite)
    → rewrite ≡ Some (record { back = back; len = len; admits = λ _. true; bytes = bytes; offset = λ o. o; addend = addend })
    → back ≤ n → len ≤ back + 4 → LiesWithin n rewrite
within n back len bytes addend rewrite is low high =
    own n rewrite (record { back = back; len = len; admits = λ _. true; bytes = bytes; offset = λ o. o; addend = addend })
    is (λ window_of_one. refl) low high (λ o long. (omega arith, omega arith))

pub lea_within : (n : ℕ) → 2 ≤ n → LiesWithin n (x86_64_rewrite kinds.MovIndirectToLea)
lea_within n long = within n 2 1 _ _ (x86_64_rewrite kinds.MovIndirectToLea) refl long (omega arith)

pub jump : LiesWithin 2 (x86_64_rewrite kinds.JmpIndirectToRelative)
jump =
    own 2 (x86_64_rewrite kinds.JmpIndirectToRelative)
    (puts 2 6 (0xe9 ∷ 0 ∷ 0 ∷ 0 ∷ 0 ∷ 0x90 ∷ []) (λ o. o - 1) (λ a. a)) refl (λ window_of_one. refl) (omega arith) (omega arith)
    (λ o long. (omega (arith, long), omega arith))

-- ---- a window with the byte before the instruction, which stays

module _ (opcode k : ℕ) where
  abbrev outside : Rewrite
  outside = absolute 3 (prefixed_operand 2 opcode k)

  abbrev inside : Rewrite
  inside = absolute 2 (operand opcode k)

  window_of_one : (bytes : List ℕ) (o : ℕ) → 3 ≤ o → o - 3 + 3 ≤ length bytes
      → rewrite_window outside bytes o ≡ get_or bytes (o - 3) 0 ∷ rewrite_window inside bytes o
  window_of_one bytes o starts ends =
      cc (
        drop-cons bytes (o - 3) 0 (let e : o - 3 < length bytes = omega (arith, ends) in e),
        (let e : suc (o - 3) ≡ o - 2 = omega (arith, starts) in e),
      )

  written : (bytes : List ℕ) (o : ℕ) → 3 ≤ o → o - 3 + 3 ≤ length bytes
      → outside.bytes (rewrite_window outside bytes o)
      ≡ get_or bytes (o - 3) 0 ∷ inside.bytes (rewrite_window inside bytes o)
  written bytes o starts ends = ap (prefixed_operand 2 opcode k) (window_of_one bytes o starts ends)

  pub wide : LiesWithin 2 (Some (absolute 3 (prefixed_operand 2 opcode k)))
  wide =
      record {
        window = record {
          made = outside;
          is = refl;
          admits = λ window_of_one. refl;
          inner = inside;
          same = λ bytes o starts ends.
              let x = get_or bytes (o - 3) 0 in
              let ys = inside.bytes (rewrite_window inside bytes o) in
              let rest : drop (o - 3 + 3) bytes ≡ drop (o - 2 + 2) bytes =
              ap (λ i. drop i bytes) (omega (arith, starts)) in
              let front : take (o - 3) bytes ++ x ∷ [] ≡ take (o - 2) bytes =
              sym (take_more bytes (o - 3) 0 (let e : o - 3 < length bytes = omega (arith, ends) in e))
              ∙ ap (λ i. take i bytes) (let e : o - 3 + 1 ≡ o - 2 = omega (arith, starts) in e) in
              ap (λ zs. take (o - 3) bytes ++ zs ++ drop (o - 3 + 3) bytes) (written bytes o starts ends)
              ∙ (ap (λ zs. zs ++ drop (o - 3 + 3) bytes) (sym (append_assoc (take (o - 3) bytes) (x ∷ []) ys))
              ∙ (ap (λ zs. zs ++ ys ++ drop (o - 3 + 3) bytes) front
              ∙ ap (λ zs. take (o - 2) bytes ++ ys ++ zs) rest));
          same_made = λ before after o starts ends long is_made. ap (drop 1)
              (sym (window_of_one after o starts (omega (arith, ends, long)))
              ∙ (is_made ∙ written before o starts ends));
          outer = λ o at starts long from outside.
              elim outside [
                | inl below ↦ absurd (omega (arith, below, from))
                | inr above ↦ inr (omega (arith, above, starts))
              ];
          low = λ before after o at starts ends long is_made from less.
              let e : o - 3 ≡ at = omega (arith, starts, from, less) in
              rw (← e) (ap (λ xs. get_or xs 0 0)
              (sym (window_of_one after o starts (omega (arith, ends, long))) ∙ (is_made ∙ written before o starts ends)));
          back = omega arith;
          ends = omega arith;
        };
        moves = λ o long. (omega arith, omega arith);
      }

-- ---- values of 32 bits

pub signed_remainder : (v : ℤ) → IsWithin (Some (bit_bounds 32 Signed)) v
    → int_rem_euclid v (pos (2 ^ 32)) ≡ pos (cast_unsigned w64 v % 2 ^ 32)
signed_remainder (pos n) within = refl
signed_remainder (negsuc n) within =
    let low = within.0 in let small : n < 2 ^ 31 = omega (arith, ints) in ap pos (omega (arith, small))

unsigned_remainder : (v : ℤ) → IsWithin (Some (bit_bounds 32 Unsigned)) v
    → int_rem_euclid v (pos (2 ^ 32)) ≡ pos (cast_unsigned w64 v % 2 ^ 32)
unsigned_remainder (pos n) within = refl
unsigned_remainder (negsuc n) within = let low = within.0 in absurd (omega (arith, ints))

-- ---- rows

-- A relocation with a row of 4 bytes that needs no entry and names no stub: its operands are those
-- of `operands_with`, and S doesn't depend on the place.
pub record IsAfterRow (name : X86_64Relocation) : Type 0 where
  pub row : RowInfo
  pub is : x86_64_row name ≡ Some row
  pub plain : IsPlain 4 row
  pub unloaded : loads_plt_word row.size row.kind ≡ false
  pub placeless : (addresses : Addresses) (symbol : Symbol) (place other : ℕ)
      → target_of X86_64 addresses row symbol place ≡ target_of X86_64 addresses row symbol other
  pub alone : (addresses : Addresses) (symbol : Symbol) (r : Rela)
      → operands_by X86_64 addresses row r symbol (entry_address addresses symbol (entry_of row r.addend symbol.is_thread_local))
      ≡ Ok (operands_with X86_64 addresses row symbol r 0)
  -- the value doesn't read the entry
  pub same_value : (o : Operands) (entry plt : ℕ)
      → value_of row (record o { got_entry = entry; plt_entry = plt }) ≡ value_of row o
  pub is_not_of_got : is_of_got X86_64 (r_type_of (x86_64_name name)) ≡ false
  pub named : IsNamed (x86_64_name name)

abbrev after_row : (name : X86_64Relocation) (row : RowInfo) → x86_64_row name ≡ Some row → IsPlain 4 row
    → loads_plt_word row.size row.kind ≡ false
    → ((addresses : Addresses) (symbol : Symbol) (place other : ℕ)
    → target_of X86_64 addresses row symbol place ≡ target_of X86_64 addresses row symbol other)
    → ((addresses : Addresses) (symbol : Symbol) (r : Rela)
    → operands_by X86_64 addresses row r symbol (entry_address addresses symbol (entry_of row r.addend symbol.is_thread_local))
    ≡ Ok (operands_with X86_64 addresses row symbol r 0))
    → ((o : Operands) (entry plt : ℕ) → value_of row (record o { got_entry = entry; plt_entry = plt }) ≡ value_of row o)
    → is_of_got X86_64 (r_type_of (x86_64_name name)) ≡ false → IsNamed (x86_64_name name) → IsAfterRow name
after_row name row is plain unloaded placeless alone same_value is_not_of_got named =
    record {
      row = row;
      is = is;
      plain = plain;
      unloaded = unloaded;
      placeless = placeless;
      alone = alone;
      same_value = same_value;
      is_not_of_got = is_not_of_got;
      named = named;
    }

pub pc32 : IsAfterRow names.R_X86_64_PC32
pc32 =
    after_row names.R_X86_64_PC32 (signed_row 32 (bytes_row Relative 4)) refl
    (plain refl refl refl refl (λ o. tt) (λ v old. refl) (λ v number. refl) (λ o v is. signed_remainder v) (λ len v before after is. is))
    refl (λ addresses symbol place other. refl) (λ addresses symbol r. refl) (λ o entry plt. refl) refl tt

pub absolute32 : IsAfterRow names.R_X86_64_32
absolute32 =
    after_row names.R_X86_64_32 (unsigned_row 32 (bytes_row Absolute 4)) refl
    (plain refl refl refl refl (λ o. tt) (λ v old. refl) (λ v number. refl) (λ o v is. unsigned_remainder v) (λ len v before after is. is))
    refl (λ addresses symbol place other. refl) (λ addresses symbol r. refl) (λ o entry plt. refl) refl tt

pub signed32 : IsAfterRow names.R_X86_64_32S
signed32 =
    after_row names.R_X86_64_32S (signed_row 32 (bytes_row Absolute 4)) refl
    (plain refl refl refl refl (λ o. tt) (λ v old. refl) (λ v number. refl) (λ o v is. signed_remainder v) (λ len v before after is. is))
    refl (λ addresses symbol place other. refl) (λ addresses symbol r. refl) (λ o entry plt. refl) refl tt

abbrev pub tpoff32 : IsAfterRow names.R_X86_64_TPOFF32
tpoff32 =
    after_row names.R_X86_64_TPOFF32 (signed_row 32 (bytes_row TpOff 4)) refl
    (plain refl refl refl refl (λ o. tt) (λ v old. refl) (λ v number. refl) (λ o v is. signed_remainder v) (λ len v before after is. is))
    refl (λ addresses symbol place other. refl) (λ addresses symbol r. refl) (λ o entry plt. refl) refl tt

-- ---- rows that have a plain field

same_value : (v w : ℤ) → Some w ≡ Some v → v ≡ w
same_value v w is = cc

any_remainder : (v : ℤ) (m : ℕ) → m < 2 ^ 64 → v ≡ cast_signed w64 m
    → int_rem_euclid v (pos (2 ^ 64)) ≡ pos (cast_unsigned w64 v % 2 ^ 64)
any_remainder v m below is =
    let unsigned : cast_unsigned w64 v ≡ m = ap (cast_unsigned w64) is ∙ of_z-to_z w64 m below in
    cc (cast_is m below, (let e : m ≡ cast_unsigned w64 v % 2 ^ 64 = omega (arith, unsigned, below) in e))

pub plain_long_thread : IsPlain 8 long_thread_row
plain_long_thread =
    plain refl refl refl refl (λ o. tt) (λ v old. refl) (λ v number. refl)
    (λ o v is within.
    any_remainder v (difference_64 (symbol_term long_thread_row o) o.tls_base)
    (difference_below (symbol_term long_thread_row o) o.tls_base) (same_value v _ is))
    (λ len v before after is. is)

-- ---- the rewrite that is chosen for a relocation

-- x86-64 has no labels
pub unlabelled : (phase : Phase) (code : ℕ) (scope : Scope) → IsScopeIn X86_64 phase code scope
    → scope ≡ Labelled → ⊥
unlabelled phase code scope is labelled =
    let e : true ≡ false = sym (ap is_labelled labelled) ∙ (ap is_labelled is.value_is ∙ x86_64_none phase is.name) in cc

-- It is that of an entry, for a relocation with an addend.
pub record IsOfEntry (pattern : List Original) (e : X86Entry) (section : List ℕ) (o : ℕ) (addend : ℤ)
    (chosen : Choice Relaxation ℕ) : Type 0 where
  pub kind_is : chosen.kind ≡ relaxations.X86_64 e.kind
  pub r_type_is : chosen.relocation ≡ r_type_of (x86_64_name e.relocation)
  pub has_pattern : HasPattern pattern e.kind section o
  pub facts : LinkFacts
  pub same_addend : facts.operands.addend ≡ addend
  pub hold : AllHold x86_64_row (x86_64_after e.kind o facts.operands) facts e.conditions

-- one of some entries
abbrev pub IsOfOne : List Original → List X86Entry → List ℕ → ℕ → ℤ → Choice Relaxation ℕ → Type 0
IsOfOne pattern [] section o addend chosen = ⊥
IsOfOne pattern (e ∷ es) section o addend chosen =
    IsOfEntry pattern e section o addend chosen ⊎ IsOfOne pattern es section o addend chosen

module _ (name : X86_64Relocation) (section : List ℕ) (o : ℕ) (facts : LinkFacts) (addend : ℤ)
    (same_addend : facts.operands.addend ≡ addend)
    (chosen : Choice Relaxation ℕ) (named : Choice RewriteKind X86_64Relocation)
    (kind_is : chosen.kind ≡ relaxations.X86_64 named.kind)
    (r_type_is : chosen.relocation ≡ r_type_of (x86_64_name named.relocation))
    (changed : named ≡ choice kinds.NoOp name → ⊥) (pattern : List Original) where
  by_first : (es : List X86Entry)
      → IsFirst (Applies (HasPattern pattern) x86_64_row x86_64_after section o facts) es
      (choice kinds.NoOp name) named → IsOfOne pattern es section o addend chosen
  by_first [] is = absurd (changed is)
  by_first (e ∷ es) (inl this) =
      inl (record {
        kind_is = kind_is ∙ ap (λ (q : Choice RewriteKind X86_64Relocation). relaxations.X86_64 q.kind) (this.1);
        r_type_is = r_type_is ∙ ap (λ (q : Choice RewriteKind X86_64Relocation). r_type_of (x86_64_name q.relocation)) (this.1);
        has_pattern = this.0.0;
        facts = facts;
        same_addend = same_addend;
        hold = this.0.1;
      })
  by_first (e ∷ es) (inr other) = inr (by_first es (other.1))

abbrev pub IsOfTable : Table → List ℕ → ℕ → ℤ → Choice Relaxation ℕ → Type 0
IsOfTable t section o addend chosen = IsOfOne t.instructions t.entries section o addend chosen

-- a relocation that is rewritten
abbrev pub IsAt : Linked → ℕ → Type 0
IsAt = IsRewrittenAt rewriting

-- what the relocation at an index has
pub record HasTable (l : Linked) (i : ℕ) (chosen : Choice Relaxation ℕ) : Type 0 where
  pub name : X86_64Relocation
  pub is_name : IsNameOf x86_64_name (relocation_in l.relocations i).r_type name
  pub is : IsOfTable (x86_64_table name (opcode_at name l.section (offset_of l i)))
      l.section (offset_of l i) (relocation_in l.relocations i).addend chosen

pub has_table : (l : Linked) (i : ℕ) (at : IsAt l i) → HasTable l i at.chosen
has_table l i at =
    let r = relocation_in l.relocations i in
    let linked : IsLinked l = at.ensured in
    let x86 : l.context.architecture ≡ X86_64 = at.architecture in
    let c = chosen_at l.context l.kept l.relocations l.section l.decisions (count l) i at.chosen linked.decided at.below at.decided
    (λ scope is. unlabelled l.context.phase r.r_type scope (subst (λ x. IsScopeIn x l.context.phase r.r_type scope) x86 is)) in
    let h = subst (λ x. IsArchitectureChoice x r.r_type l.section r.offset c.facts at.chosen) x86 c.is_choice in
    let t = x86_64_table h.name (opcode_at h.name l.section r.offset) in
    record {
      name = h.name;
      is_name = h.is_name;
      is = by_first h.name l.section r.offset c.facts r.addend c.addend at.chosen h.named h.kind_is h.r_type_is
          (λ e. c.changed (
            subst relaxation_no_op (sym (h.kind_is ∙ ap (λ (q : Choice RewriteKind X86_64Relocation). relaxations.X86_64 q.kind) e)) refl,
            h.r_type_is ∙ (ap (λ (q : Choice RewriteKind X86_64Relocation). r_type_of (x86_64_name q.relocation)) e ∙ h.is_name.r_type_is),
          ))
          t.instructions t.entries h.is_choice;
    }

pub of_table : (l : Linked) (i : ℕ) (at : IsAt l i) (name : X86_64Relocation) → IsNamed (x86_64_name name)
    → IsNameOf x86_64_name (relocation_in l.relocations i).r_type name
    → IsOfTable (x86_64_table name (opcode_at name l.section (offset_of l i)))
    l.section (offset_of l i) (relocation_in l.relocations i).addend at.chosen
of_table l i at name named is_name =
    let t = has_table l i at in rw (← (t.is_name.named name named is_name.r_type_is)) t.is

-- ---- the shape of a rewrite

-- an instruction or a sequence of at most n bytes before its field, and n from there on
abbrev pub HasShape : ℕ → ℕ → Original → Type 0
HasShape n end r = (r.back ≤ n) × (length r.bytes ≤ r.back + end)

abbrev pub HaveShape : ℕ → ℕ → List Original → Type 0
HaveShape n end [] = ⊤
HaveShape n end (r ∷ rs) = HasShape n end r × HaveShape n end rs

-- with n bytes before it
abbrev pub AreOf : ℕ → ℕ → List Original → Type 0
AreOf n end [] = ⊤
AreOf n end (r ∷ rs) = (r.back ≡ n × length r.bytes ≡ n + end) × AreOf n end rs

pub shaped_of : (n end : ℕ) (rs : List Original) → AreOf n end rs → HaveShape n end rs
shaped_of n end [] are = tt
shaped_of n end (r ∷ rs) are =
    let back = are.0.0 in
    ((omega (arith, back), omega (arith, back, are.0.1)), shaped_of n end rs (are.1))

-- ---- a rewrite with its law

-- An instruction with n bytes before its field is a group.
abbrev pub Law : ℕ → List Original → X86_64Relocation → RewriteKind → (Operands → ℕ) → Type 0
Law n instructions name kind held =
    IsRewrittenGroup n (n + 4) instructions name kind (λ operands. operands)
    (IsGroupOf (relaxations.X86_64 kind) held)

-- for a relocation of a name, with n bytes before the field, and what the GOT's entry holds
pub record HasLaw (n : ℕ) (name : X86_64Relocation) (held : Operands → ℕ) (section : List ℕ) (o : ℕ)
    (chosen : Choice RewriteKind X86_64Relocation) : Type 0 where
  pub instructions : List Original
  pub are_of : AreOf n 4 instructions
  pub there : IsTrue (is_one_at instructions section o)
  pub matches : x86_64_matches chosen.kind section o
  pub shaped_too : HaveShape n 4 (x86_64_originals chosen.kind)
  pub after : x86_64_relocation_after chosen.kind name ≡ Some chosen.relocation
  pub law : Law n instructions name chosen.kind held
  pub within : LiesWithin n (x86_64_rewrite chosen.kind)
  pub row : IsAfterRow chosen.relocation

-- a rewrite that is pattern for at some instructions has a law
pub record Serves (n : ℕ) (name : X86_64Relocation) (held : Operands → ℕ) (pattern : List Original)
    (e : X86Entry) : Type 0 where
  pub serve : (section : List ℕ) (o : ℕ) → HasPattern pattern e.kind section o
      → HasLaw n name held section o (choice e.kind e.relocation)

-- by a law of the instructions that are pattern for
pub by_pattern : (n : ℕ) (name : X86_64Relocation) (held : Operands → ℕ) (pattern : List Original)
    (e : X86Entry) → AreOf n 4 pattern → HaveShape n 4 (x86_64_originals e.kind)
    → x86_64_relocation_after e.kind name ≡ Some e.relocation
    → LiesWithin n (x86_64_rewrite e.kind) → IsAfterRow e.relocation
    → Law n pattern name e.kind held → Serves n name held pattern e
by_pattern n name held pattern e shaped shaped_too after within row law =
    record {
      serve = λ section o is. record {
        instructions = pattern;
        are_of = shaped;
        there = is.0;
        matches = is.1;
        shaped_too = shaped_too;
        after = after;
        law = law;
        within = within;
        row = row;
      };
    }

-- by a law of those that the rewrite is for
pub by_originals : (n : ℕ) (name : X86_64Relocation) (held : Operands → ℕ) (pattern : List Original)
    (e : X86Entry) → AreOf n 4 (x86_64_originals e.kind)
    → x86_64_relocation_after e.kind name ≡ Some e.relocation
    → LiesWithin n (x86_64_rewrite e.kind) → IsAfterRow e.relocation
    → Law n (x86_64_originals e.kind) name e.kind held → Serves n name held pattern e
by_originals n name held pattern e shaped after within row law =
    record {
      serve = λ section o is. record {
        instructions = x86_64_originals e.kind;
        are_of = shaped;
        there = is.1.1;
        matches = is.1;
        shaped_too = shaped_of n 4 (x86_64_originals e.kind) shaped;
        after = after;
        law = law;
        within = within;
        row = row;
      };
    }

-- a rewrite that is for no instruction is never pattern for
pub by_none : (n : ℕ) (name : X86_64Relocation) (held : Operands → ℕ) (pattern : List Original)
    (e : X86Entry) → x86_64_originals e.kind ≡ [] → Serves n name held pattern e
by_none n name held pattern e none = record {
  serve = λ section o is.
      absurd (let h : IsTrue (is_one_at [] section o) = subst (λ rs. IsTrue (is_one_at rs section o)) none (is.1.1) in
      let b : false ≡ true = h in cc);
}

-- nor is one at no instruction
pub by_no_pattern : (n : ℕ) (name : X86_64Relocation) (held : Operands → ℕ) (e : X86Entry)
    → Serves n name held [] e
by_no_pattern n name held e = record { serve = λ section o is. absurd (let b : false ≡ true = is.0 in cc) }

-- ---- a choice by a table

-- the third condition of each entry is on the addend
abbrev pub AsksForAddend : X86Entry → Type 0
AsksForAddend e =
    (facts : LinkFacts) (after : Operands) → AllHold x86_64_row after facts e.conditions
    → facts.operands.addend ≡ neg_ℤ (pos 4)

abbrev pub AllServe : ℕ → X86_64Relocation → (Operands → ℕ) → List Original → List X86Entry → Type 0
AllServe n name held pattern [] = ⊤
AllServe n name held pattern (e ∷ es) =
    Serves n name held pattern e × AsksForAddend e × AllServe n name held pattern es

-- a choice, by names
pub record IsServed (n : ℕ) (name : X86_64Relocation) (held : Operands → ℕ) (section : List ℕ)
    (o : ℕ) (addend : ℤ) (chosen : Choice Relaxation ℕ) : Type 0 where
  pub named : Choice RewriteKind X86_64Relocation
  pub has_law : HasLaw n name held section o named
  pub kind_is : chosen.kind ≡ relaxations.X86_64 named.kind
  pub r_type_is : chosen.relocation ≡ r_type_of (x86_64_name named.relocation)
  pub is_from_end : addend ≡ neg_ℤ (pos 4)

by_entries : (n : ℕ) (name : X86_64Relocation) (held : Operands → ℕ) (pattern : List Original)
    (es : List X86Entry) (section : List ℕ) (o : ℕ) (addend : ℤ) (chosen : Choice Relaxation ℕ)
    → AllServe n name held pattern es → IsOfOne pattern es section o addend chosen
    → IsServed n name held section o addend chosen
by_entries n name held pattern [] section o addend chosen serve nothing = absurd nothing
by_entries n name held pattern (e ∷ es) section o addend chosen serve (inl this) =
    record {
      named = choice e.kind e.relocation;
      has_law = serve.0.serve section o this.has_pattern;
      kind_is = this.kind_is;
      r_type_is = this.r_type_is;
      is_from_end = sym this.same_addend ∙ serve.1 this.facts (x86_64_after e.kind o this.facts.operands) this.hold;
    }
by_entries n name held pattern (e ∷ es) section o addend chosen serve (inr other) =
    by_entries n name held pattern es section o addend chosen (serve.2) other

pub record TableServes (n : ℕ) (name : X86_64Relocation) (held : Operands → ℕ) (t : Table) : Type 0
  where
    pub serves : AllServe n name held t.instructions t.entries

-- each choice of it
pub of_choice : {n : ℕ} {name : X86_64Relocation} {held : Operands → ℕ} {t : Table} {section : List ℕ} {o : ℕ}
    {addend : ℤ} {chosen : Choice Relaxation ℕ} → TableServes n name held t
    → IsOfTable t section o addend chosen → IsServed n name held section o addend chosen
of_choice {n} {name} {held} {t} {section} {o} {addend} {chosen} serves =
    by_entries n name held t.instructions t.entries section o addend chosen serves.serves

-- one of two tables
either : (n : ℕ) (name : X86_64Relocation) (held : Operands → ℕ) (b : Bool) (t u : Table)
    → TableServes n name held t → TableServes n name held u → TableServes n name held (cond b t u)
either n name held true t u x y = x
either n name held false t u x y = y

nothing : (n : ℕ) (name : X86_64Relocation) (held : Operands → ℕ) → TableServes n name held (x86.any_entry [])
nothing n name held = record { serves = tt }

-- ---- tables of one name

module _ (n : ℕ) (name : X86_64Relocation) where
  -- an operation on an immediate
  operation : (kind : RewriteKind) → AreOf n 4 (x86_64_originals kind)
      → x86_64_relocation_after kind name ≡ Some (immediate_of n)
      → LiesWithin n (x86_64_rewrite kind) → IsAfterRow (immediate_of n)
      → Law n (x86_64_originals kind) name kind address
      → TableServes n name address (x86.operation_table n kind)
  operation kind shaped after inside row law =
      record {
        serves = (by_originals n name address _ _ shaped after inside row law, (λ facts after h. h.1.1.0), (by_originals n name address _ _ shaped after inside row law, (λ facts after h. h.1.1.0), tt));
      }

  -- one that is for no instruction
  no_operation : (kind : RewriteKind) → x86_64_originals kind ≡ []
      → TableServes n name address (x86.operation_table n kind)
  no_operation kind none =
      record {
        serves = (by_none n name address _ _ none, (λ facts after h. h.1.1.0), (by_none n name address _ _ none, (λ facts after h. h.1.1.0), tt));
      }

  movs : AreOf n 4 (legacy n 0x8b) → HaveShape n 4 (x86_64_originals (x86.mov_of n))
      → x86_64_relocation_after (x86.mov_of n) name ≡ Some (immediate_of n)
      → LiesWithin n (x86_64_rewrite (x86.mov_of n)) → IsAfterRow (immediate_of n)
      → Law n (legacy n 0x8b) name (x86.mov_of n) address → 2 ≤ n
      → x86_64_relocation_after kinds.MovIndirectToLea name ≡ Some names.R_X86_64_PC32
      → Law n (legacy n 0x8b) name kinds.MovIndirectToLea address
      → TableServes n name address (x86.mov_table n)
  movs shaped shaped_too after inside row law long distance lea_law =
      record {
        serves = (by_pattern n name address _ _ shaped shaped_too after inside row law, (λ facts after h. h.1.1.0), (by_pattern n name address _ _ shaped shaped_too after inside row law, (λ facts after h. h.1.1.0), (by_pattern n name address _ _ shaped ((long, omega arith), tt) distance (lea_within n long) pc32 lea_law, (λ facts after h. h.1.1.0), tt)));
      }

  -- an offset from the thread pointer
  offset : (kind : RewriteKind) → AreOf n 4 (x86_64_originals kind)
      → x86_64_relocation_after kind name ≡ Some names.R_X86_64_TPOFF32
      → LiesWithin n (x86_64_rewrite kind) → Law n (x86_64_originals kind) name kind thread_offset
      → TableServes n name thread_offset (x86.any_entry (x86.local_exec_by kind ∷ []))
  offset kind shaped after inside law =
      record {
        serves = (by_originals n name thread_offset _ _ shaped after inside tpoff32 law, (λ facts after h. h.1.1.0), tt);
      }

  got : (opcode : ℕ) → TableServes n name address (x86.mov_table n)
      → TableServes n name address (x86.operation_table n (kinds.RexAddIndirectToAbsolute n))
      → TableServes n name address (x86.operation_table n (kinds.RexSubIndirectToAbsolute n))
      → TableServes n name address (x86.operation_table n (kinds.RexCmpIndirectToAbsolute n))
      → TableServes n name address (x86.operation_table n (kinds.RexAdcIndirectToAbsolute n))
      → TableServes n name address (x86.operation_table n (kinds.RexAndIndirectToAbsolute n))
      → TableServes n name address (x86.operation_table n (kinds.RexOrIndirectToAbsolute n))
      → TableServes n name address (x86.operation_table n (kinds.RexSbbIndirectToAbsolute n))
      → TableServes n name address (x86.operation_table n (kinds.RexXorIndirectToAbsolute n))
      → TableServes n name address (x86.operation_table n (kinds.RexTestIndirectToAbsolute n))
      → TableServes n name address (x86.got_table n opcode)
  got opcode mov add sub cmp adc and or sbb xor test =
      either n name address (eqb opcode 0x8b) _ _ mov
      (either n name address (eqb opcode 0x03) _ _ add
      (either n name address (eqb opcode 0x2b) _ _ sub
      (either n name address (eqb opcode 0x3b) _ _ cmp
      (either n name address (eqb opcode 0x13) _ _ adc
      (either n name address (eqb opcode 0x23) _ _ and
      (either n name address (eqb opcode 0x0b) _ _ or
      (either n name address (eqb opcode 0x1b) _ _ sbb
      (either n name address (eqb opcode 0x33) _ _ xor
      (either n name address (eqb opcode 0x85) _ _ test
      (nothing n name address))))))))))

-- ---- each name

module _ (laws : Groups) where
  got_2 : (opcode : ℕ) → TableServes 2 names.R_X86_64_GOTPCRELX address (x86.got_table 2 opcode)
  got_2 opcode =
      got 2 names.R_X86_64_GOTPCRELX opcode
      (movs 2 names.R_X86_64_GOTPCRELX ((omega arith, omega arith), tt) ((omega arith, omega arith), tt) refl (within 2 2 2 _ _ (x86_64_rewrite kinds.MovIndirectToAbsolute) refl (omega arith) (omega arith)) absolute32 laws.absolute.0 (omega arith) refl laws.loads.0.0)
      (operation 2 names.R_X86_64_GOTPCRELX (kinds.RexAddIndirectToAbsolute 2) ((omega arith, omega arith), tt) refl (within 2 2 2 _ _ (x86_64_rewrite (kinds.RexAddIndirectToAbsolute 2)) refl (omega arith) (omega arith)) absolute32 laws.operations.0.0)
      (operation 2 names.R_X86_64_GOTPCRELX (kinds.RexSubIndirectToAbsolute 2) ((omega arith, omega arith), tt) refl (wide 0x81 0xe8) absolute32 laws.operations.1.0)
      (operation 2 names.R_X86_64_GOTPCRELX (kinds.RexCmpIndirectToAbsolute 2) ((omega arith, omega arith), tt) refl (wide 0x81 0xf8) absolute32 laws.operations.2.0)
      (operation 2 names.R_X86_64_GOTPCRELX (kinds.RexAdcIndirectToAbsolute 2) ((omega arith, omega arith), tt) refl (within 2 2 2 _ _ (x86_64_rewrite (kinds.RexAdcIndirectToAbsolute 2)) refl (omega arith) (omega arith)) absolute32 laws.operations.3.0)
      (operation 2 names.R_X86_64_GOTPCRELX (kinds.RexAndIndirectToAbsolute 2) ((omega arith, omega arith), tt) refl (within 2 2 2 _ _ (x86_64_rewrite (kinds.RexAndIndirectToAbsolute 2)) refl (omega arith) (omega arith)) absolute32 laws.operations.4.0)
      (operation 2 names.R_X86_64_GOTPCRELX (kinds.RexOrIndirectToAbsolute 2) ((omega arith, omega arith), tt) refl (within 2 2 2 _ _ (x86_64_rewrite (kinds.RexOrIndirectToAbsolute 2)) refl (omega arith) (omega arith)) absolute32 laws.operations.5.0)
      (operation 2 names.R_X86_64_GOTPCRELX (kinds.RexSbbIndirectToAbsolute 2) ((omega arith, omega arith), tt) refl (within 2 2 2 _ _ (x86_64_rewrite (kinds.RexSbbIndirectToAbsolute 2)) refl (omega arith) (omega arith)) absolute32 laws.operations.6.0)
      (operation 2 names.R_X86_64_GOTPCRELX (kinds.RexXorIndirectToAbsolute 2) ((omega arith, omega arith), tt) refl (within 2 2 2 _ _ (x86_64_rewrite (kinds.RexXorIndirectToAbsolute 2)) refl (omega arith) (omega arith)) absolute32 laws.operations.7.0)
      (operation 2 names.R_X86_64_GOTPCRELX (kinds.RexTestIndirectToAbsolute 2) ((omega arith, omega arith), tt) refl (within 2 2 2 _ _ (x86_64_rewrite (kinds.RexTestIndirectToAbsolute 2)) refl (omega arith) (omega arith)) absolute32 laws.operations.8.0)

  pub got_3 : (opcode : ℕ) → TableServes 3 names.R_X86_64_REX_GOTPCRELX address (x86.got_table 3 opcode)
  got_3 opcode =
      got 3 names.R_X86_64_REX_GOTPCRELX opcode
      (movs 3 names.R_X86_64_REX_GOTPCRELX ((omega arith, omega arith), tt) ((omega arith, omega arith), tt) refl (within 3 3 3 _ _ (x86_64_rewrite (kinds.RexMovIndirectToAbsolute 3)) refl (omega arith) (omega arith)) signed32 laws.absolute.1.1 (omega arith) refl laws.loads.0.1)
      (operation 3 names.R_X86_64_REX_GOTPCRELX (kinds.RexAddIndirectToAbsolute 3) ((omega arith, omega arith), tt) refl (within 3 3 3 _ _ (x86_64_rewrite (kinds.RexAddIndirectToAbsolute 3)) refl (omega arith) (omega arith)) signed32 laws.operations.0.1)
      (operation 3 names.R_X86_64_REX_GOTPCRELX (kinds.RexSubIndirectToAbsolute 3) ((omega arith, omega arith), tt) refl (within 3 3 3 _ _ (x86_64_rewrite (kinds.RexSubIndirectToAbsolute 3)) refl (omega arith) (omega arith)) signed32 laws.operations.1.1)
      (operation 3 names.R_X86_64_REX_GOTPCRELX (kinds.RexCmpIndirectToAbsolute 3) ((omega arith, omega arith), tt) refl (within 3 3 3 _ _ (x86_64_rewrite (kinds.RexCmpIndirectToAbsolute 3)) refl (omega arith) (omega arith)) signed32 laws.operations.2.1)
      (operation 3 names.R_X86_64_REX_GOTPCRELX (kinds.RexAdcIndirectToAbsolute 3) ((omega arith, omega arith), tt) refl (within 3 3 3 _ _ (x86_64_rewrite (kinds.RexAdcIndirectToAbsolute 3)) refl (omega arith) (omega arith)) signed32 laws.operations.3.1)
      (operation 3 names.R_X86_64_REX_GOTPCRELX (kinds.RexAndIndirectToAbsolute 3) ((omega arith, omega arith), tt) refl (within 3 3 3 _ _ (x86_64_rewrite (kinds.RexAndIndirectToAbsolute 3)) refl (omega arith) (omega arith)) signed32 laws.operations.4.1)
      (operation 3 names.R_X86_64_REX_GOTPCRELX (kinds.RexOrIndirectToAbsolute 3) ((omega arith, omega arith), tt) refl (within 3 3 3 _ _ (x86_64_rewrite (kinds.RexOrIndirectToAbsolute 3)) refl (omega arith) (omega arith)) signed32 laws.operations.5.1)
      (operation 3 names.R_X86_64_REX_GOTPCRELX (kinds.RexSbbIndirectToAbsolute 3) ((omega arith, omega arith), tt) refl (within 3 3 3 _ _ (x86_64_rewrite (kinds.RexSbbIndirectToAbsolute 3)) refl (omega arith) (omega arith)) signed32 laws.operations.6.1)
      (operation 3 names.R_X86_64_REX_GOTPCRELX (kinds.RexXorIndirectToAbsolute 3) ((omega arith, omega arith), tt) refl (within 3 3 3 _ _ (x86_64_rewrite (kinds.RexXorIndirectToAbsolute 3)) refl (omega arith) (omega arith)) signed32 laws.operations.7.1)
      (operation 3 names.R_X86_64_REX_GOTPCRELX (kinds.RexTestIndirectToAbsolute 3) ((omega arith, omega arith), tt) refl (within 3 3 3 _ _ (x86_64_rewrite (kinds.RexTestIndirectToAbsolute 3)) refl (omega arith) (omega arith)) signed32 laws.operations.8.1)

  pub got_4 : (opcode : ℕ) → TableServes 4 names.R_X86_64_CODE_4_GOTPCRELX address (x86.got_table 4 opcode)
  got_4 opcode =
      got 4 names.R_X86_64_CODE_4_GOTPCRELX opcode
      (movs 4 names.R_X86_64_CODE_4_GOTPCRELX ((omega arith, omega arith), tt) ((omega arith, omega arith), tt) refl (within 4 3 3 _ _ (x86_64_rewrite (kinds.RexMovIndirectToAbsolute 4)) refl (omega arith) (omega arith)) signed32 laws.absolute.1.2 (omega arith) refl laws.loads.0.2)
      (operation 4 names.R_X86_64_CODE_4_GOTPCRELX (kinds.RexAddIndirectToAbsolute 4) ((omega arith, omega arith), tt) refl (within 4 3 3 _ _ (x86_64_rewrite (kinds.RexAddIndirectToAbsolute 4)) refl (omega arith) (omega arith)) signed32 laws.operations.0.2)
      (operation 4 names.R_X86_64_CODE_4_GOTPCRELX (kinds.RexSubIndirectToAbsolute 4) ((omega arith, omega arith), tt) refl (within 4 3 3 _ _ (x86_64_rewrite (kinds.RexSubIndirectToAbsolute 4)) refl (omega arith) (omega arith)) signed32 laws.operations.1.2)
      (operation 4 names.R_X86_64_CODE_4_GOTPCRELX (kinds.RexCmpIndirectToAbsolute 4) ((omega arith, omega arith), tt) refl (within 4 3 3 _ _ (x86_64_rewrite (kinds.RexCmpIndirectToAbsolute 4)) refl (omega arith) (omega arith)) signed32 laws.operations.2.2)
      (operation 4 names.R_X86_64_CODE_4_GOTPCRELX (kinds.RexAdcIndirectToAbsolute 4) ((omega arith, omega arith), tt) refl (within 4 3 3 _ _ (x86_64_rewrite (kinds.RexAdcIndirectToAbsolute 4)) refl (omega arith) (omega arith)) signed32 laws.operations.3.2)
      (operation 4 names.R_X86_64_CODE_4_GOTPCRELX (kinds.RexAndIndirectToAbsolute 4) ((omega arith, omega arith), tt) refl (within 4 3 3 _ _ (x86_64_rewrite (kinds.RexAndIndirectToAbsolute 4)) refl (omega arith) (omega arith)) signed32 laws.operations.4.2)
      (operation 4 names.R_X86_64_CODE_4_GOTPCRELX (kinds.RexOrIndirectToAbsolute 4) ((omega arith, omega arith), tt) refl (within 4 3 3 _ _ (x86_64_rewrite (kinds.RexOrIndirectToAbsolute 4)) refl (omega arith) (omega arith)) signed32 laws.operations.5.2)
      (operation 4 names.R_X86_64_CODE_4_GOTPCRELX (kinds.RexSbbIndirectToAbsolute 4) ((omega arith, omega arith), tt) refl (within 4 3 3 _ _ (x86_64_rewrite (kinds.RexSbbIndirectToAbsolute 4)) refl (omega arith) (omega arith)) signed32 laws.operations.6.2)
      (operation 4 names.R_X86_64_CODE_4_GOTPCRELX (kinds.RexXorIndirectToAbsolute 4) ((omega arith, omega arith), tt) refl (within 4 3 3 _ _ (x86_64_rewrite (kinds.RexXorIndirectToAbsolute 4)) refl (omega arith) (omega arith)) signed32 laws.operations.7.2)
      (operation 4 names.R_X86_64_CODE_4_GOTPCRELX (kinds.RexTestIndirectToAbsolute 4) ((omega arith, omega arith), tt) refl (within 4 3 3 _ _ (x86_64_rewrite (kinds.RexTestIndirectToAbsolute 4)) refl (omega arith) (omega arith)) signed32 laws.operations.8.2)

  pub got_6 : (opcode : ℕ) → TableServes 6 names.R_X86_64_CODE_6_GOTPCRELX address (x86.got_table 6 opcode)
  got_6 opcode =
      got 6 names.R_X86_64_CODE_6_GOTPCRELX opcode
      (record { serves = (by_no_pattern 6 names.R_X86_64_CODE_6_GOTPCRELX address _, (λ facts after h. h.1.1.0), (by_no_pattern 6 names.R_X86_64_CODE_6_GOTPCRELX address _, (λ facts after h. h.1.1.0), (by_no_pattern 6 names.R_X86_64_CODE_6_GOTPCRELX address _, (λ facts after h. h.1.1.0), tt))) })
      (operation 6 names.R_X86_64_CODE_6_GOTPCRELX (kinds.RexAddIndirectToAbsolute 6) ((omega arith, omega arith), ((omega arith, omega arith), tt)) refl (within 6 5 5 _ _ (x86_64_rewrite (kinds.RexAddIndirectToAbsolute 6)) refl (omega arith) (omega arith)) signed32 laws.operations.9.0)
      (no_operation 6 names.R_X86_64_CODE_6_GOTPCRELX (kinds.RexSubIndirectToAbsolute 6) refl)
      (no_operation 6 names.R_X86_64_CODE_6_GOTPCRELX (kinds.RexCmpIndirectToAbsolute 6) refl)
      (operation 6 names.R_X86_64_CODE_6_GOTPCRELX (kinds.RexAdcIndirectToAbsolute 6) ((omega arith, omega arith), ((omega arith, omega arith), tt)) refl (within 6 5 5 _ _ (x86_64_rewrite (kinds.RexAdcIndirectToAbsolute 6)) refl (omega arith) (omega arith)) signed32 laws.operations.9.1)
      (operation 6 names.R_X86_64_CODE_6_GOTPCRELX (kinds.RexAndIndirectToAbsolute 6) ((omega arith, omega arith), ((omega arith, omega arith), tt)) refl (within 6 5 5 _ _ (x86_64_rewrite (kinds.RexAndIndirectToAbsolute 6)) refl (omega arith) (omega arith)) signed32 laws.operations.9.2)
      (operation 6 names.R_X86_64_CODE_6_GOTPCRELX (kinds.RexOrIndirectToAbsolute 6) ((omega arith, omega arith), ((omega arith, omega arith), tt)) refl (within 6 5 5 _ _ (x86_64_rewrite (kinds.RexOrIndirectToAbsolute 6)) refl (omega arith) (omega arith)) signed32 laws.operations.9.3)
      (operation 6 names.R_X86_64_CODE_6_GOTPCRELX (kinds.RexSbbIndirectToAbsolute 6) ((omega arith, omega arith), ((omega arith, omega arith), tt)) refl (within 6 5 5 _ _ (x86_64_rewrite (kinds.RexSbbIndirectToAbsolute 6)) refl (omega arith) (omega arith)) signed32 laws.operations.9.4)
      (operation 6 names.R_X86_64_CODE_6_GOTPCRELX (kinds.RexXorIndirectToAbsolute 6) ((omega arith, omega arith), ((omega arith, omega arith), tt)) refl (within 6 5 5 _ _ (x86_64_rewrite (kinds.RexXorIndirectToAbsolute 6)) refl (omega arith) (omega arith)) signed32 laws.operations.9.5)
      (no_operation 6 names.R_X86_64_CODE_6_GOTPCRELX (kinds.RexTestIndirectToAbsolute 6) refl)

  pub load : (opcode : ℕ) → TableServes 3 names.R_X86_64_GOTPCREL address (x86.load_table opcode)
  load opcode =
      either 3 names.R_X86_64_GOTPCREL address (eqb opcode 0x8b) _ _
      (record {
        serves = (
          by_pattern 3 names.R_X86_64_GOTPCREL address _ _ ((omega arith, omega arith), tt)
              ((omega arith, omega arith), tt) refl (lea_within 3 (omega arith)) pc32 laws.loads.1,
          (λ facts after h. h.1.1.0),
          tt,
        );
      })
      (nothing 3 names.R_X86_64_GOTPCREL address)

  pub offset_3 : (opcode : ℕ) → TableServes 3 names.R_X86_64_GOTTPOFF thread_offset (x86.initial_exec_table 3 opcode)
  offset_3 opcode =
      either 3 names.R_X86_64_GOTTPOFF thread_offset (eqb opcode 0x8b) _ _
      (offset 3 names.R_X86_64_GOTTPOFF (kinds.RexMovIndirectToAbsolute 3) ((omega arith, omega arith), tt) refl (within 3 3 3 _ _ (x86_64_rewrite (kinds.RexMovIndirectToAbsolute 3)) refl (omega arith) (omega arith)) laws.thread.0.0)
      (either 3 names.R_X86_64_GOTTPOFF thread_offset (eqb opcode 0x03) _ _
      (offset 3 names.R_X86_64_GOTTPOFF (kinds.RexAddIndirectToAbsolute 3) ((omega arith, omega arith), tt) refl (within 3 3 3 _ _ (x86_64_rewrite (kinds.RexAddIndirectToAbsolute 3)) refl (omega arith) (omega arith)) laws.thread.1.0)
      (nothing 3 names.R_X86_64_GOTTPOFF thread_offset))

  pub offset_4 : (opcode : ℕ) → TableServes 4 names.R_X86_64_CODE_4_GOTTPOFF thread_offset (x86.initial_exec_table 4 opcode)
  offset_4 opcode =
      either 4 names.R_X86_64_CODE_4_GOTTPOFF thread_offset (eqb opcode 0x8b) _ _
      (offset 4 names.R_X86_64_CODE_4_GOTTPOFF (kinds.RexMovIndirectToAbsolute 4) ((omega arith, omega arith), tt) refl (within 4 3 3 _ _ (x86_64_rewrite (kinds.RexMovIndirectToAbsolute 4)) refl (omega arith) (omega arith)) laws.thread.0.1)
      (either 4 names.R_X86_64_CODE_4_GOTTPOFF thread_offset (eqb opcode 0x03) _ _
      (offset 4 names.R_X86_64_CODE_4_GOTTPOFF (kinds.RexAddIndirectToAbsolute 4) ((omega arith, omega arith), tt) refl (within 4 3 3 _ _ (x86_64_rewrite (kinds.RexAddIndirectToAbsolute 4)) refl (omega arith) (omega arith)) laws.thread.1.1)
      (nothing 4 names.R_X86_64_CODE_4_GOTTPOFF thread_offset))

  pub offset_6 : (opcode : ℕ) → TableServes 6 names.R_X86_64_CODE_6_GOTTPOFF thread_offset (x86.initial_exec_table 6 opcode)
  offset_6 opcode =
      either 6 names.R_X86_64_CODE_6_GOTTPOFF thread_offset (eqb opcode 0x8b) _ _
      (record { serves = (by_none 6 names.R_X86_64_CODE_6_GOTTPOFF thread_offset _ _ refl, (λ facts after h. h.1.1.0), tt) })
      (either 6 names.R_X86_64_CODE_6_GOTTPOFF thread_offset (eqb opcode 0x03) _ _
      (offset 6 names.R_X86_64_CODE_6_GOTTPOFF (kinds.RexAddIndirectToAbsolute 6) ((omega arith, omega arith), ((omega arith, omega arith), tt)) refl (within 6 5 5 _ _ (x86_64_rewrite (kinds.RexAddIndirectToAbsolute 6)) refl (omega arith) (omega arith)) laws.thread.2)
      (nothing 6 names.R_X86_64_CODE_6_GOTTPOFF thread_offset))

  pub branch_or_got : (opcode : ℕ) → TableServes 2 names.R_X86_64_GOTPCRELX address (x86_64_table names.R_X86_64_GOTPCRELX opcode)
  branch_or_got opcode =
      let branch : TableServes 2 names.R_X86_64_GOTPCRELX address x86.branch_table =
      record {
        serves = (
          by_originals 2 names.R_X86_64_GOTPCRELX address _ _ ((omega arith, omega arith), tt) refl
              (within 2 2 2 _ _ (x86_64_rewrite kinds.CallIndirectToRelative) refl (omega arith) (omega arith))
              pc32 laws.branches.0,
          (λ facts after h. h.1.1.0),
          (
            by_originals 2 names.R_X86_64_GOTPCRELX address _ _ ((omega arith, omega arith), tt) refl jump pc32
                laws.branches.1,
            (λ facts after h. h.1.1.0),
            tt,
          ),
        );
      } in
      either 2 names.R_X86_64_GOTPCRELX address (eqb opcode 0xff) _ _ branch (got_2 opcode)

-- ---- what stands at the bytes, where the same bytes are

begins_take : (ps : List (ℕ × ℕ)) (xs : List ℕ) → begins ps (take (length ps) xs) ≡ begins ps xs
begins_take [] xs = refl
begins_take (p ∷ ps) [] = refl
begins_take (p ∷ ps) (x ∷ xs) = ap (λ b. eqb (bit_and x (p.0)) (p.1) && b) (begins_take ps xs)

begins_long : (ps : List (ℕ × ℕ)) (xs : List ℕ) → begins ps xs ≡ true → length ps ≤ length xs
begins_long [] xs is = omega arith
begins_long (p ∷ ps) [] is = absurd (let e : false ≡ true = is in cc)
begins_long (p ∷ ps) (x ∷ xs) is =
    omega (arith, begins_long ps xs ((and_parts (eqb (bit_and x (p.0)) (p.1)) (begins ps xs) is).1))

-- ---- an instruction or a sequence with n bytes before its field, and n from there on

pub there_inside : (n end : ℕ) → 0 < end → (rs : List Original) (section : List ℕ) (o : ℕ) → AreOf n end rs
    → IsTrue (is_one_at rs section o) → (n ≤ o) × (o + end ≤ length section)
there_inside n end some [] section o are is = absurd (let e : false ≡ true = is in cc)
there_inside n end some (r ∷ rs) section o are is =
    elim (or_cases (is_at r section o) (is_one_at rs section o) is) [
      | inl this ↦
          let parts = and_parts (leb r.back o) (begins r.bytes (drop (o - r.back) section)) this in
          let starts = leb-true r.back o (parts.0) in
          let l = length-drop (o - r.back) section in
          let back = are.0.0 in
          (omega (arith, starts, back), omega (arith, starts, back, are.0.1, begins_long r.bytes (drop (o - r.back) section) (parts.1), l, some))
      | inr other ↦ there_inside n end some rs section o (are.1) other
    ]

module _ (n end o : ℕ) (section others : List ℕ) (same_length : length others ≡ length section)
    (room : n ≤ o)
    (same : (at : ℕ) → o - n ≤ at → at < o + end → get_or section at 0 ≡ get_or others at 0) where
  at_same : (r : Original) → HasShape n end r → is_at r section o ≡ true → is_at r others o ≡ true
  at_same r shape is =
      let a = o - r.back in
      let parts = and_parts (leb r.back o) (begins r.bytes (drop a section)) is in
      let starts = leb-true r.back o (parts.0) in
      let window = same_windows a (length r.bytes) others section (sym same_length) (λ at from less.
      sym (same at (omega (arith, starts, shape.0, from)) (omega (arith, starts, shape.1, less)))) in
      and_from (leb r.back o) (begins r.bytes (drop a others)) (parts.0)
      (sym (begins_take r.bytes (drop a others)) ∙ (ap (begins r.bytes) window ∙ (begins_take r.bytes (drop a section) ∙ parts.1)))

  pub one_same : (rs : List Original) → HaveShape n end rs → IsTrue (is_one_at rs section o)
      → IsTrue (is_one_at rs others o)
  one_same [] shape is = is
  one_same (r ∷ rs) shape is =
      elim (or_cases (is_at r section o) (is_one_at rs section o) is) [
        | inl this ↦ or_left (is_at r others o) (is_one_at rs others o) (at_same r (shape.0) this)
        | inr other ↦
            or_right (is_at r others o) (is_one_at rs others o) (one_same rs (shape.1) other)
      ]

-- ---- lists and numbers

-- what follows of two lists that are the same from there on
same_rest : (p : ℕ) (xs ys : List ℕ) → length ys ≡ length xs
    → ((at : ℕ) → p ≤ at → get_or xs at 0 ≡ get_or ys at 0) → drop p xs ≡ drop p ys
same_rest p xs ys long same =
    cc (ext_get_or 0 (drop p xs) (drop p ys) (omega (arith, length-drop p xs, length-drop p ys, long)) (λ i below. get_or-drop p xs i 0 ∙ (same (p + i) (omega arith) ∙ sym (get_or-drop p ys i 0))))

small_number : (bytes : List ℕ) → ((i : ℕ) → get_or bytes i 0 < 256) → from_le_bytes w64 bytes < 2 ^ 64
small_number bytes small = omega arith

-- ---- the field in bytes that were put back

-- Bytes agree with the final ones outside of the field, and with those before the write in it.
module _ (n : ℕ) (row : RowInfo) (plain : IsPlain n row) (operands was : Operands) (p : ℕ)
    (before final bytes : List ℕ) (field : UntouchedField n row operands p before final)
    (same_value : value_of row was ≡ value_of row operands)
    (long : length bytes ≡ length final) (same_length : length before ≡ length final)
    (outside : (at : ℕ) → (at < p) ⊎ (p + n ≤ at) → get_or bytes at 0 ≡ get_or final at 0) where
  pub relocated : IsRelocatedBy row was p bytes final
  relocated =
      let v = field.value in
      let rest : drop n (drop p final) ≡ drop n (drop p bytes) =
      cc (drop-drop n p final, same_rest (p + n) bytes final (sym long) (λ at from. outside at (inr from)), drop-drop n p bytes) in
      let number : low_bytes n (cast_unsigned w64 v)
      ≡ low_bytes n (number_written row.kind v (number_of_bytes n (drop p bytes))) =
      ap (low_bytes n) (sym (plain.writes v (number_of_bytes n (drop p bytes)))) in
      let written : drop p final
      ≡ low_bytes n (number_written row.kind v (number_of_bytes n (drop p bytes))) ++ drop n (drop p bytes) =
      sym (take-append-drop n (drop p final))
      ∙ (ap (λ xs. xs ++ drop n (drop p final)) (field.field ∙ number)
      ∙ ap (λ xs. low_bytes n (number_written row.kind v (number_of_bytes n (drop p bytes))) ++ xs) rest) in
      let wide : window_len row ≡ n = ap size_len plain.size in
      record {
        rest = drop p final;
        applied = record {
          value = v;
          value_is = same_value ∙ field.value_is;
          accepted = accepted_same row v (drop p before) (drop p bytes)
              (subst (λ size. HaveSameWindow size (drop p before) (drop p bytes)) (sym plain.size) tt)
              (omega (arith, wide, length-drop p bytes, field.inside, long, same_length)) field.accepted;
          written = subst (λ size. IsWritten size row.kind v (drop p bytes) (drop p final)) (sym plain.size) written;
        };
        whole = sym (take-append-drop p final) ∙ ap (λ xs. xs ++ drop p final)
            (same_windows 0 p final bytes long (λ at from below. sym (outside at (inl (omega (arith, below))))));
      }

-- ---- rows

pub row_of : (l : Linked) → l.context.architecture ≡ X86_64 → (name : X86_64Relocation)
    → IsNamed (x86_64_name name) → (row : RowInfo) → x86_64_row name ≡ Some row
    → IsRowOf l.context.architecture (r_type_of (x86_64_name name)) row
row_of l x86 name named row is found there =
    by_name x86_64_name x86_64_row name named found
    (subst (λ x. IsRow x (r_type_of (x86_64_name name)) found) x86 there) ∙ is

-- a relocation of a code, once the section is written
pub row_after : (l : Linked) → IsLinked l → l.context.architecture ≡ X86_64 → (i : ℕ) → i < count l
    → (name : X86_64Relocation) → IsNamed (x86_64_name name)
    → (row : RowInfo) → x86_64_row name ≡ Some row
    → (relocation_in l.relocations_last i).r_type ≡ r_type_of (x86_64_name name)
    → IsRow l.context.architecture (relocation_in l.relocations_last i).r_type (Some row)
row_after l linked x86 i below name named row is r_type_is =
    row_in l.context.architecture l.addresses l.relocations_last l.symbols (relocation_in l.relocations_last i) row
    (subst (λ code. IsRowOf l.context.architecture code row) (sym r_type_is) (row_of l x86 name named row is))
    (linked.written.can.found i) (linked.written.can.are_found i (last_within l linked i below))

-- ---- one rewrite

-- It is by a kind, whose instructions are there.
pub record IsOfKind (l : Linked) (i : ℕ) (chosen : Choice Relaxation ℕ) (back end : ℕ) (kind : RewriteKind) : Type 0 where
  pub kind_is : chosen.kind ≡ relaxations.X86_64 kind
  pub window : HasWindow back end (x86_64_rewrite kind)
  pub matches : x86_64_matches kind l.section (offset_of l i)
  pub room : (back ≤ offset_of l i) × (offset_of l i + end ≤ length l.section)

-- no other relocation has a byte of the window
pub record HasRewrite (l : Linked) (i back end : ℕ) (kind : RewriteKind) : Type 0 where
  pub at : IsRewrittenAt rewriting l i
  pub open at use *
  pub of : IsOfKind l i at.chosen back end kind
  pub open of use *
  pub alone : UntouchedByOthers l i (offset_of l i - back) (back + end)

module _ (l : Linked) (i back end : ℕ) (kind : RewriteKind) (is : HasRewrite l i back end kind)
  where
    abbrev linked : IsLinked l
    linked = is.ensured

    abbrev chosen : Choice Relaxation ℕ
    chosen = is.chosen

    abbrev start : ℕ
    start = (offset_of l i) - back

    abbrev len : ℕ
    len = back + end

    abbrev w : HasWindow back end (x86_64_rewrite kind)
    w = is.window

    made_is : relaxation_rewrite is.chosen.kind ≡ Some w.made
    made_is = ap relaxation_rewrite is.kind_is ∙ w.is

    can : IsRewritable w.made l.section (offset_of l i)
    can = subst (λ q. CanRewrite q l.section (offset_of l i)) w.is (is.matches.0)

    final_length : length l.final ≡ length l.section
    final_length = linked.written.same_length ∙ (last_length l linked ∙ linked.same_length)

    -- the relocation after
    pub r_after : relocation_in l.relocations_last i
        ≡ rela (w.made.offset (offset_of l i)) chosen.relocation (rela_at l i).symbol (w.made.addend (rela_at l i).addend)
    r_after =
        relocation_left l linked i start len is.alone.left is.below
        ∙ relocation_is l linked.made i chosen is.below is.decided (Some w.made) chosen.relocation made_is refl

    -- the window
    kept : (at : ℕ) → start ≤ at → at < start + len
        → (at < (offset_of l i) - w.inner.back) ⊎ ((offset_of l i) - w.inner.back + w.inner.len ≤ at)
        → get_or l.rewritten at 0 ≡ get_or l.section at 0
    kept at from less outside =
        let window = w.outer (offset_of l i) at can.starts is.room.0 from outside in
        linked.others at (λ j lj. elim (cases_eq j i) [
          | inl same ↦ rw same (outside_of l i chosen (Some w.made) is.decided made_is at window)
          | inr isnt ↦ (is.alone.others j at lj isnt from less).0
        ])

    abbrev object : List ℕ
    object = put_back start len l.section l.final

    abbrev between : List ℕ
    between = put_back start len l.rewritten l.final

    inside_final : start + len ≤ length l.final
    inside_final = let a = is.room.0 in let b = is.room.1 in let c = final_length in omega (arith, a, b, c)

    object_rewritten : rewritten (x86_64_rewrite kind) object (offset_of l i) ≡ between
    object_rewritten =
        let a = is.room.0 in
        let lo = (put_back_is start len l.section l.final inside_final (sym final_length)).same_len in
        let ends = can.ends in
        let low = w.back in
        let fl = final_length in
        cc (
          w.is,
          w.same object (offset_of l i) can.starts (omega (arith, ends, lo, fl)),
          back_rewritten start len w.inner (offset_of l i) l.section l.rewritten l.final inside_final (sym fl) (linked.same_length ∙ sym fl) (omega (arith, low, a)) (omega (arith, low, w.ends, a)) (w.same_made l.section l.rewritten (offset_of l i) can.starts ends linked.same_length (subst (λ q. IsMade q (offset_of l i) l.section l.rewritten) made_is (subst (λ d. IsDone d (offset_of l i) l.section l.rewritten) is.decided (linked.done i is.below)))) kept,
        )

    pub object_same : (at : ℕ) → start ≤ at → at < (offset_of l i) + end → get_or l.section at 0 ≡ get_or object at 0
    object_same at from less =
        sym (back_inside start len l.section l.final inside_final (sym final_length) at from (omega (arith, is.room.0, less)))

    pub object_length : length object ≡ length l.section
    object_length = (put_back_is start len l.section l.final inside_final (sym final_length)).same_len ∙ final_length

    -- what stands there in the section does in the object's bytes
    pub object_has : (rs : List Original) → HaveShape back end rs → IsTrue (is_one_at rs l.section (offset_of l i))
        → IsTrue (is_one_at rs object (offset_of l i))
    object_has rs shape there =
        one_same back end (offset_of l i) l.section object object_length (is.room.0) object_same rs shape there

    pub object_matches : IsTrue (is_one_at (x86_64_originals kind) object (offset_of l i))
        → x86_64_matches kind object (offset_of l i)
    object_matches there = (
      subst (λ q. CanRewrite q object (offset_of l i)) (sym w.is)
          (record {
            starts = can.starts;
            ends = subst (λ n. (offset_of l i) - w.made.back + w.made.len ≤ n) (sym object_length) can.ends;
            admitted = w.admits (rewrite_window w.made object (offset_of l i));
          }),
      there,
    )

    pub object_bytes : AreBytes object
    object_bytes =
        All-append (λ b. b < 2 ^ 8) (take start l.final ++ take len (drop start l.section)) (drop (start + len) l.final)
        (All-append (λ b. b < 2 ^ 8) (take start l.final) (take len (drop start l.section))
        (All-take (λ b. b < 2 ^ 8) start l.final linked.final_bytes)
        (All-take (λ b. b < 2 ^ 8) len (drop start l.section) (All-drop (λ b. b < 2 ^ 8) start l.section linked.section_bytes)))
        (All-drop (λ b. b < 2 ^ 8) (start + len) l.final linked.final_bytes)

    pub offset_small : (offset_of l i) < 2 ^ 64
    offset_small =
        let entry = take 24 (drop (i * 24) l.relocations) in
        small_number entry (small_byte entry
        (All-take (λ b. b < 2 ^ 8) 24 (drop (i * 24) l.relocations) (All-drop (λ b. b < 2 ^ 8) (i * 24) l.relocations linked.relocation_bytes)))

    -- ---- fields in the window

    apart_by : (j : ℕ) → j < length l.relocations_last / 24 → (j ≡ i → ⊥) → (at : ℕ) → start ≤ at
        → at < (offset_of l i) + end → (row : RowInfo)
        → IsField l.context.architecture l.relocations_last l.last j row
        → (at < offset_at l.relocations_last j) ⊎ (field_end l.relocations_last l.last j row ≤ at)
    apart_by j lj isnt at from less row is_field =
        (is.alone.others j at (subst (λ n. j < n / 24) (last_as_many l linked) lj) isnt from (omega (arith, less, is.room.0))).1 row is_field

    -- a byte that the relocation after has not
    in_no_field : (at : ℕ) → start ≤ at → at < (offset_of l i) + end
        → ((row : RowInfo) → IsField l.context.architecture l.relocations_last l.last i row
        → (at < offset_at l.relocations_last i) ⊎ (field_end l.relocations_last l.last i row ≤ at))
        → IsInNoField l.context.architecture l.relocations_last l.last (length l.relocations_last / 24) at
    in_no_field at from less own j row lj is_field =
        elim (cases_eq j i) [
          | inl same ↦ rw same (own row (rw (← same) is_field))
          | inr isnt ↦ apart_by j lj isnt at from less row is_field
        ]

    between_same : (at : ℕ) → (start ≤ at → at < (offset_of l i) + end → (row : RowInfo)
        → IsField l.context.architecture l.relocations_last l.last i row
        → (at < offset_at l.relocations_last i) ⊎ (field_end l.relocations_last l.last i row ≤ at))
        → get_or between at 0 ≡ get_or l.final at 0
    between_same at own =
        let mid = linked.same_length ∙ sym final_length in
        elim (cases_lt at start) [
          | inl ahead ↦ back_outside start len l.rewritten l.final inside_final mid at (inl ahead)
          | inr from ↦ elim (cases_lt at (start + len)) [
            | inl less ↦
                let below : at < (offset_of l i) + end = omega (arith, less, is.room.0) in
                back_inside start len l.rewritten l.final inside_final mid at from less
                ∙ (sym (byte_left l linked i start len is.alone.left at from less)
                ∙ sym (none_written linked.written at (in_no_field at from below (own from below))))
            | inr following ↦ back_outside start len l.rewritten l.final inside_final mid at (inr following)
          ]
        ]

    between_length : length between ≡ length l.final
    between_length =
        (put_back_is start len l.rewritten l.final inside_final (linked.same_length ∙ sym final_length)).same_len

    -- ---- with no relocation after

    pub unrelocated : is.chosen.relocation ≡ 0 → rewritten (x86_64_rewrite kind) object (offset_of l i) ≡ l.final
    unrelocated code =
        let none : (relocation_in l.relocations_last i).r_type ≡ 0 = ap (λ (x : Rela). x.r_type) r_after ∙ code in
        object_rewritten ∙ ext_get_or 0 between l.final between_length
        (λ at below. between_same at (λ from less row is_field.
        absurd (no_field l i (relocation_in l.relocations_last i) refl (bytes_row NoValue 0)
        (subst (λ code. IsRowOf l.context.architecture code (bytes_row NoValue 0)) (sym none) (row_of l is.architecture names.R_X86_64_NONE tt (bytes_row NoValue 0) refl))
        refl row is_field)))

    -- ---- with one, whose value is written

    pub relocated_after : (after : X86_64Relocation) (row : RowInfo) → IsPlain 4 row
        → x86_64_row after ≡ Some row → IsNamed (x86_64_name after)
        → is.chosen.relocation ≡ r_type_of (x86_64_name after) → (taken : Operands)
        → operands_of X86_64 l.addresses l.symbols row (rela (w.made.offset (offset_of l i)) is.chosen.relocation (rela_at l i).symbol (w.made.addend (rela_at l i).addend))
        ≡ Ok taken
        → start ≤ w.made.offset (offset_of l i) → w.made.offset (offset_of l i) + 4 ≤ (offset_of l i) + end
        → (operands : Operands) → value_of row operands ≡ value_of row taken
        → IsRelocated after operands (offset_after (x86_64_rewrite kind) (offset_of l i))
        (rewritten (x86_64_rewrite kind) object (offset_of l i)) l.final
    relocated_after after row plain row_is named r_type_is taken taken_is low high operands same_value =
        let p = w.made.offset (offset_of l i) in
        let field : UntouchedField 4 row taken p l.last l.final =
        subst (λ (x : Rela). UntouchedField 4 row taken x.offset l.last l.final) r_after
        (left 4 (omega arith) four_bytes l.context.architecture l.addresses l.relocations_last l.symbols l.last l.final linked.written
        (small_byte l.final linked.final_bytes) i (last_within l linked i is.below) row plain row_there taken
        (subst (λ x. operands_of x l.addresses l.symbols row (relocation_in l.relocations_last i) ≡ Ok taken) (sym is.architecture)
        (subst (λ x. operands_of X86_64 l.addresses l.symbols row x ≡ Ok taken) (sym r_after) taken_is))
        (λ j other lj isnt is_field.
        subst (λ (x : Rela). (x.offset < offset_at l.relocations_last j) ⊎ (field_end l.relocations_last l.last j other ≤ x.offset)) (sym r_after)
        (apart_by j lj isnt p low (omega (arith, high)) other is_field))) in
        let base = relocated 4 row plain taken operands p l.last l.final between field same_value
        between_length (sym linked.written.same_length)
        (λ at outside. between_same at (λ from less other is_field. own_field at outside other is_field)) in
        subst (λ q. IsSomeAnd q (λ row. IsRelocatedBy row operands (offset_after (x86_64_rewrite kind) (offset_of l i)) (rewritten (x86_64_rewrite kind) object (offset_of l i)) l.final)) (sym row_is)
        (subst (λ xs. IsRelocatedBy row operands (offset_after (x86_64_rewrite kind) (offset_of l i)) xs l.final) (sym object_rewritten)
        (subst (λ q. IsRelocatedBy row operands (offset_after q (offset_of l i)) between l.final) (sym w.is) base))
      where
        row_there : IsRow l.context.architecture (relocation_in l.relocations_last i).r_type (Some row)
        row_there =
            row_after l linked is.architecture i is.below after named row row_is
            (ap (λ (x : Rela). x.r_type) r_after ∙ r_type_is)

        own_field : (at : ℕ) → (at < w.made.offset (offset_of l i)) ⊎ (w.made.offset (offset_of l i) + 4 ≤ at) → (other : RowInfo)
            → IsField l.context.architecture l.relocations_last l.last i other
            → (at < offset_at l.relocations_last i) ⊎ (field_end l.relocations_last l.last i other ≤ at)
        own_field at outside other is_field =
            let same : other ≡ row = one_info l.context.architecture (relocation_in l.relocations_last i).r_type other row is_field.is_row row_there in
            let offset : offset_at l.relocations_last i ≡ w.made.offset (offset_of l i) = ap (λ (x : Rela). x.offset) r_after in
            let long : field_len other (drop (offset_at l.relocations_last i) l.last) ≡ 4 =
            ap (λ x. field_len x (drop (offset_at l.relocations_last i) l.last)) same
            ∙ len_is 4 row (drop (offset_at l.relocations_last i) l.last) plain in
            elim outside [
              | inl ahead ↦ inl (omega (arith, ahead, offset))
              | inr following ↦ inr (omega (arith, following, offset, long))
            ]

-- ---- laws of what is rewritten

-- The relocation at an index is applied to the object's bytes, from n before its offset to `end`
-- after it. These bytes then stand in old, up to 4 after it, and the final ones in new.
pub record StandsThere (l : Linked) (i n end : ℕ) (name : X86_64Relocation) (o : Operands) (c : Code) (s : State)
    : Type 0 where
  pub original : List ℕ
  pub addresses : AreAddresses o
  pub pc : s.pc ≡ difference_64 o.place n
  pub applied : IsRelocated name o (offset_of l i) (put_back (offset_of l i - n) (n + end) l.section l.final) original
  pub old : Stands c.old s.pc (n + 4) (drop (offset_of l i - n) original)
  pub new : Stands c.new s.pc (n + end) (drop (offset_of l i - n) l.final)

-- the state before it
pub before : (l : Linked) (i back end : ℕ) (kind : RewriteKind) → HasRewrite l i back end kind → (name : X86_64Relocation)
    (operands : Operands) (c : Code) (s : State) → StandsThere l i back end name operands c s → operands.addend ≡ neg_ℤ (pos 4)
    → IsBefore back (put_back (offset_of l i - back) (back + end) l.section l.final) (offset_of l i) operands (seen s)
before l i back end kind has name operands c s there addend =
    record {
      bytes = object_bytes l i back end kind has;
      offset = offset_small l i back end kind has;
      addresses = there.addresses;
      addend = addend;
      ip = there.pc;
    }

-- what holds where they do
abbrev pub LawAt : Linked → ℕ → X86_64Relocation → RowInfo → Window → Relaxation → Symbol → Type 0
LawAt l i name row w kind symbol =
    (entry : ℕ) (c : Code) (s : State)
    → let operands = operands_with X86_64 l.addresses row symbol (relocation_in l.relocations i) entry in
    StandsThere l i w.back w.end name operands c s → LawOf w.form w kind symbol c operands s

-- A rewrite has a window, and a law.
pub record IsLawful (l : Linked) (i : ℕ) (chosen : Choice Relaxation ℕ) (name : X86_64Relocation) (w : Window)
    : Type 0 where
  pub is : window_of name chosen.kind ≡ Some w
  pub kind : RewriteKind
  pub of : IsOfKind l i chosen w.back w.end kind
  pub open of use *
  pub law : UntouchedByOthers l i (offset_of l i - w.back) (w.back + w.end)
      → (symbol : Symbol) (o : Operands) (c : Code) (s : State) → HasFinal l.addresses l.final c
      → s.pc ≡ sum_64 l.addresses.section (offset_of l i - w.back)
      → HasObject w.form l i name chosen.relocation w symbol o c s → LawOf w.form w chosen.kind symbol c o s

-- that of a relocation with a field
pub by_field : (l : Linked) (i : ℕ) (at : IsAt l i) (name : X86_64Relocation) (w : Window) (kind : RewriteKind)
    → IsOfKind l i at.chosen w.back w.end kind → window_of name at.chosen.kind ≡ Some w → w.back < 2 ^ 64
    → ((symbol : Symbol) (o : Operands) (c : Code) (s : State) → HasObject w.form l i name at.chosen.relocation w symbol o c s
    → IsObject l i name at.chosen.relocation w symbol o c s) → (row : RowInfo)
    → (UntouchedByOthers l i (offset_of l i - w.back) (w.back + w.end) → (symbol : Symbol) (other : RowInfo)
    → AreBy w.form l i at.chosen.relocation symbol other → (row ≡ other) × LawAt l i name row w at.chosen.kind symbol)
    → IsLawful l i at.chosen name w
by_field l i at name w kind of is small has row law =
    let linked : IsLinked l = at.ensured in
    let low = of.room.0 in
    let long : length l.final ≡ length l.section =
    linked.written.same_length ∙ (last_length l linked ∙ linked.same_length) in
    let e : sum_64 l.addresses.section (offset_of l i - w.back)
    ≡ difference_64 (sum_64 l.addresses.section (offset_of l i)) w.back = omega (arith, low, small) in
    record {
      is = is;
      kind = kind;
      of = of;
      law = λ alone symbol o c s final pc there.
          let object = has symbol o c s there in
          let made = law alone symbol object.row object.by in
          subst (λ x. StandsThere l i w.back w.end name x c s → LawOf w.form w at.chosen.kind symbol c x s) (sym object.are)
          (subst (λ x. LawAt l i name x w at.chosen.kind symbol) (made.0) (made.1) object.entry c s)
          (record {
            original = object.original;
            addresses = object.addresses;
            pc = pc ∙ (e ∙ ap (λ (x : Operands). difference_64 x.place w.back) (sym object.are));
            applied = object.applied;
            old = object.old;
            new = rw pc (final (offset_of l i - w.back) (w.back + w.end) (omega (arith, low, of.room.1, long)));
          });
    }

-- ---- an operand in the GOT

pub some_and : {A : Type 0} (P : A → Type 0) (q : Option A) (x : A) → q ≡ Some x → IsSomeAnd q P → P x
some_and {A} P q x is h = subst (λ z. IsSomeAnd z P) is h

pub moved : (base o o' : ℕ) → o < 2 ^ 64 → difference_64 (sum_64 (sum_64 base o) o') o ≡ sum_64 base o'
moved base o o' small = omega (arith, small)

-- ---- the operands after a rewrite

module _ (addresses : Addresses) (after : X86_64Relocation) (a : IsAfterRow after) (symbol : Symbol)
    (r : Rela) (made : Rewrite) (code entry : ℕ) (small : r.offset < 2 ^ 64)
    (before_is : is_of_got X86_64 r.r_type ≡ false) (after_is : is_of_got X86_64 code ≡ false) where
  abbrev was : Operands
  was = operands_with X86_64 addresses a.row symbol r entry

  abbrev is : Operands
  is = operands_with X86_64 addresses a.row symbol (rela (made.offset r.offset) code r.symbol (made.addend r.addend)) 0

  pub addend_was : was.addend ≡ r.addend
  addend_was = cond-false (loads_plt_word a.row.size a.row.kind) (pos 0) r.addend a.unloaded

  -- the formula has the same value
  pub value_same : value_of a.row (operands_after (Some made) r.offset was) ≡ value_of a.row is
  value_same =
      cc (
        moved addresses.section r.offset (made.offset r.offset) small,
        a.unloaded,
        before_is,
        after_is,
        a.placeless addresses symbol (sum_64 addresses.section r.offset) (sum_64 addresses.section (made.offset r.offset)),
        a.same_value is entry was.plt_entry,
      )

-- ---- the relocation after, written

-- of a rewrite that leaves a relocation without an entry
pub final_is : (l : Linked) (i back end : ℕ) (kind : RewriteKind) (is : HasRewrite l i back end kind)
    (after : X86_64Relocation) (a : IsAfterRow after)
    → is_of_got X86_64 (relocation_in l.relocations i).r_type ≡ false
    → is.chosen.relocation ≡ r_type_of (x86_64_name after)
    → (relocation_in l.relocations i).offset - back ≤ is.window.made.offset (relocation_in l.relocations i).offset
    → is.window.made.offset (relocation_in l.relocations i).offset + 4 ≤ (relocation_in l.relocations i).offset + end
    → (symbol : Symbol) → slice_get l.symbols (relocation_in l.relocations i).symbol ≡ Some symbol
    → (entry : ℕ)
    → IsRelocated after
    (operands_after (x86_64_rewrite kind) (relocation_in l.relocations i).offset
    (operands_with X86_64 l.addresses a.row symbol (relocation_in l.relocations i) entry))
    (offset_after (x86_64_rewrite kind) (relocation_in l.relocations i).offset)
    (rewritten (x86_64_rewrite kind)
    (put_back ((relocation_in l.relocations i).offset - back) (back + end) l.section l.final)
    (relocation_in l.relocations i).offset)
    l.final
final_is l i back end kind is after a before_is r_type_is low high symbol is_symbol entry =
    let r = relocation_in l.relocations i in
    let made = is.window.made in
    let relocation = rela (made.offset r.offset) is.chosen.relocation r.symbol (made.addend r.addend) in
    let of_object = operands_with X86_64 l.addresses a.row symbol r entry in
    let value : value_of a.row (operands_after (x86_64_rewrite kind) r.offset of_object)
    ≡ value_of a.row (operands_with X86_64 l.addresses a.row symbol relocation 0) =
    ap (λ q. value_of a.row (operands_after q r.offset of_object)) is.window.is
    ∙ value_same l.addresses after a symbol r made is.chosen.relocation entry (offset_small l i back end kind is)
    before_is (ap (is_of_got X86_64) r_type_is ∙ a.is_not_of_got) in
    relocated_after l i back end kind is after a.row a.plain a.is a.named r_type_is
    (operands_with X86_64 l.addresses a.row symbol relocation 0)
    (ap (operands_in X86_64 l.addresses a.row relocation) is_symbol ∙ a.alone l.addresses symbol relocation)
    low high (operands_after (x86_64_rewrite kind) r.offset of_object) value

-- ---- one instruction

module _ (name : X86_64Relocation) (back : ℕ) (held : Operands → ℕ)
    (not_of_got : is_of_got X86_64 (r_type_of (x86_64_name name)) ≡ false) (l : Linked) (i : ℕ) (at : IsAt l i)
    (is_name : IsNameOf x86_64_name (relocation_in l.relocations i).r_type name)
    (served : IsServed back name held l.section (offset_of l i) (relocation_in l.relocations i).addend at.chosen)
  where
    abbrev law : HasLaw back name held l.section (offset_of l i) served.named
    law = served.has_law

    abbrev kind : RewriteKind
    kind = served.named.kind

    abbrev after : X86_64Relocation
    after = served.named.relocation

    abbrev of_kind : IsOfKind l i at.chosen back 4 kind
    of_kind =
        record {
          kind_is = served.kind_is;
          window = law.within.window;
          matches = law.matches;
          room = there_inside back 4 (omega arith) law.instructions l.section (offset_of l i) law.are_of law.there;
        }

    module _ (alone : UntouchedByOthers l i ((offset_of l i) - back) (back + 4)) where
      abbrev has : HasRewrite l i back 4 kind
      has = record { at = at; of = of_kind; alone = alone }

      abbrev object_got : List ℕ
      object_got = put_back ((offset_of l i) - back) (back + 4) l.section l.final

      small : (offset_of l i) < 2 ^ 64
      small = offset_small l i back 4 kind has

      before_is : is_of_got X86_64 (rela_at l i).r_type ≡ false
      before_is = ap (is_of_got X86_64) (sym is_name.r_type_is) ∙ not_of_got

      module _ (a : IsAfterRow after) (symbol : Symbol) (is_symbol : slice_get l.symbols (rela_at l i).symbol ≡ Some symbol)
          (entry : ℕ) where
        abbrev operands_of_object : Operands
        operands_of_object = operands_with X86_64 l.addresses a.row symbol (rela_at l i) entry

        relocated_got : IsRelocated after (operands_after (x86_64_rewrite kind) (offset_of l i) operands_of_object)
            (offset_after (x86_64_rewrite kind) (offset_of l i)) (rewritten (x86_64_rewrite kind) object_got (offset_of l i)) l.final
        relocated_got =
            let moves = law.within.moves (offset_of l i) (has.room.0) in
            final_is l i back 4 kind has after a before_is served.r_type_is
            (moves.0) (omega (arith, moves.1)) symbol is_symbol entry

      does_the_same : (a : IsAfterRow after) (symbol : Symbol) → slice_get l.symbols (rela_at l i).symbol ≡ Some symbol
          → LawAt l i name a.row (window (in_got held) back 4) at.chosen.kind symbol
      does_the_same a symbol is_symbol entry c s there =
          let operands = operands_of_object a symbol is_symbol entry in
          let addend = addend_was l.addresses after a symbol (rela_at l i) law.within.window.made at.chosen.relocation entry small
          before_is (ap (is_of_got X86_64) served.r_type_is ∙ a.is_not_of_got) ∙ served.is_from_end in
          rw served.kind_is (some_and _ (x86_64_relocation_after kind name) after law.after law.law
          c s object_got there.original l.final (offset_of l i) operands (before l i back 4 kind has name operands c s there addend)
          (object_has l i back 4 kind has law.instructions (shaped_of back 4 law.instructions law.are_of) law.there)
          (object_matches l i back 4 kind has
          (object_has l i back 4 kind has (x86_64_originals kind) law.shaped_too (law.matches.1)))
          there.applied (relocated_got a symbol is_symbol entry) there.old there.new)

    -- the row of the relocation after
    row_same : (row : RowInfo) (is_row : IsRow X86_64 at.chosen.relocation (Some row)) → law.row.row ≡ row
    row_same row is_row =
        let same = is_row.is_name.named after law.row.named (sym served.r_type_is) in
        ap (λ q. unwrap_or q row) (sym (is_row.value_is ∙ (ap x86_64_row same ∙ law.row.is)))

    pub got_is_lawful : window_of name at.chosen.kind ≡ Some (window (in_got held) back 4) → back < 2 ^ 64
        → IsLawful l i at.chosen name (window (in_got held) back 4)
    got_is_lawful is few =
        by_field l i at name (window (in_got held) back 4) kind of_kind is few (λ symbol o c s object. object) law.row.row
        (λ alone symbol other by. (row_same other (by.1), does_the_same alone law.row symbol (by.0)))

-- ---- the GOT entry of an offset, which a rewrite leaves in place of a call or of a descriptor

module _ (l : Linked) (i back end : ℕ) (kind : RewriteKind) (is : HasRewrite l i back end kind)
    (r_type_is : is.chosen.relocation ≡ r_type_of (x86_64_name names.R_X86_64_GOTTPOFF))
    (symbol : Symbol) (is_symbol : slice_get l.symbols (relocation_in l.relocations i).symbol ≡ Some symbol)
  where
    abbrev relocation : Rela
    relocation =
        rela (is.window.made.offset (rela_at l i).offset) is.chosen.relocation (rela_at l i).symbol (is.window.made.addend (rela_at l i).addend)

    pub entry_final : (rela_at l i).offset - back ≤ is.window.made.offset (rela_at l i).offset
        → is.window.made.offset (rela_at l i).offset + 4 ≤ (rela_at l i).offset + end → (entry : ℕ)
        → IsRelocated names.R_X86_64_GOTTPOFF
        (record (operands_after (x86_64_rewrite kind) (rela_at l i).offset (operands_with X86_64 l.addresses thread_row symbol (rela_at l i) entry)) {
          got_entry = symbol.thread_entry;
        })
        (offset_after (x86_64_rewrite kind) (rela_at l i).offset)
        (rewritten (x86_64_rewrite kind) (put_back ((rela_at l i).offset - back) (back + end) l.section l.final) (rela_at l i).offset) l.final
    entry_final low high entry =
        let made = is.window.made in
        let was = operands_with X86_64 l.addresses thread_row symbol (rela_at l i) entry in
        let e = symbol.thread_entry in
        relocated_after l i back end kind is names.R_X86_64_GOTTPOFF tls_got_row
        (plain refl refl refl refl (λ o. tt) (λ v old. refl) (λ v number. refl) (λ o v is. signed_remainder v) (λ len v before after is. is)) refl tt r_type_is
        (operands_with X86_64 l.addresses tls_got_row symbol relocation e)
        -- the section is written, so that there is an entry
        (ap (operands_in X86_64 l.addresses tls_got_row relocation) is_symbol
        ∙ ap (λ b. operands_by X86_64 l.addresses tls_got_row relocation symbol (cond b (Some e) None))
        (entry_is_there l is.ensured i is.below tls_got_row refl refl relocation (r_after l i back end kind is)
        (subst (λ code. IsRowOf l.context.architecture code tls_got_row) (sym r_type_is) (row_of l is.architecture names.R_X86_64_GOTTPOFF tt tls_got_row refl))
        symbol is_symbol (record { class = ThreadOffset; addend = pos 0 }) refl))
        low high (record (operands_after (x86_64_rewrite kind) (rela_at l i).offset was) { got_entry = e })
        (rw (is.window.is, moved l.addresses.section (rela_at l i).offset (made.offset (rela_at l i).offset) (offset_small l i back end kind is)))

-- ---- fields that overlap none

-- an offset from the thread pointer composes with nothing
continues_none : (kind : RelocationKind) → continues kind values.TpOff ≡ false
continues_none values.AbsoluteSet = refl
continues_none _ = refl

-- a row of n bytes
abbrev IsOffsetOf : RowInfo → Type 0
IsOffsetOf row =
    (row.kind ≡ values.TpOff) × (begins_pair row.size row.kind ≡ false) × (ends_pair row.size row.kind ≡ false)

module _ (bytes : List ℕ) (row : RowInfo) (of : IsOffsetOf row) (other : RowInfo) where
  not_first : (i j : ℕ) → Composes bytes i row j other → ⊥
  not_first i j (of_number same _ on) = never (sym (ap (λ kind. continues kind other.kind) (of.0)) ∙ on)
  not_first i j (of_pair same next begins ends) = never (sym (of.1) ∙ begins)

  not_second : (i j : ℕ) → Composes bytes j other i row → ⊥
  not_second i j (of_number same _ on) =
      never (sym (ap (continues other.kind) (of.0) ∙ continues_none other.kind) ∙ on)
  not_second i j (of_pair same next begins ends) = never (sym (of.2) ∙ ends)

-- ---- operands

-- the address of a symbol that is defined
address_is : (addresses : Addresses) (symbol : Symbol) (code weak : ℕ) → is_of_got X86_64 code ≡ false
    → symbol.is_undefined_weak ≡ false
    → cond (is_of_got X86_64 code) addresses.got_base (cond symbol.is_undefined_weak weak symbol.address)
    ≡ symbol.address
address_is addresses symbol code weak not_of_got strong = cc

-- an offset in the block with that from the thread pointer
abbrev counted_from : ℕ → Operands → Operands
counted_from base o = record o { tls_base = base }

abbrev with_symbol : Operands → ℕ → Operands
with_symbol o symbol = record o { symbol = symbol }

-- The rows of both, where the second is that of the first counted from elsewhere.
record AreRows (n : ℕ) (block_at thread : RowInfo) : Type 0 where
  some : 0 < n
  lowest : AreLowest n
  plain : IsPlain n thread
  of : IsOffsetOf thread
  alone : (addresses : Addresses) (symbol : Symbol) (r : Rela)
      → operands_by X86_64 addresses thread r symbol (entry_address addresses symbol (entry_of thread r.addend symbol.is_thread_local))
      ≡ Ok (operands_with X86_64 addresses thread symbol r 0)
  origin : (addresses : Addresses) (symbol : Symbol) (r : Rela) (entry : ℕ)
      → (operands_with X86_64 addresses block_at symbol r entry).tls_base ≡ addresses.module_origin
  same : (addresses : Addresses) (symbol : Symbol) (r : Rela) (code entry : ℕ)
      → is_of_got X86_64 r.r_type ≡ false → is_of_got X86_64 code ≡ false → symbol.is_undefined_weak ≡ false
      → value_of thread (counted_from addresses.thread_origin (operands_with X86_64 addresses block_at symbol r entry))
      ≡ value_of thread (operands_with X86_64 addresses thread symbol (rela r.offset code r.symbol r.addend) 0)

short_rows : AreRows 4 block_row thread_row
short_rows =
    record {
      some = omega arith;
      lowest = four_bytes;
      plain = tpoff32.plain;
      of = (refl, refl, refl);
      alone = λ addresses symbol r. refl;
      origin = λ addresses symbol r entry. refl;
      same = λ addresses symbol r code entry before after strong.
          ap (λ x. value_of thread_row (with_symbol (counted_from addresses.thread_origin (operands_with X86_64 addresses block_row symbol r entry)) x))
          (address_is addresses symbol r.r_type addresses.module_origin before strong
          ∙ sym (address_is addresses symbol code addresses.thread_origin after strong));
    }

long_rows : AreRows 8 long_block_row long_thread_row
long_rows =
    record {
      some = omega arith;
      lowest = eight_bytes;
      plain = plain_long_thread;
      of = (refl, refl, refl);
      alone = λ addresses symbol r. refl;
      origin = λ addresses symbol r entry. refl;
      same = λ addresses symbol r code entry before after strong.
          ap (λ x. value_of long_thread_row (with_symbol (counted_from addresses.thread_origin (operands_with X86_64 addresses long_block_row symbol r entry)) x))
          (address_is addresses symbol r.r_type addresses.module_origin before strong
          ∙ sym (address_is addresses symbol code addresses.thread_origin after strong));
    }

-- ---- one field

rest_is : (row : RowInfo) (o : Operands) (p : ℕ) (before after : List ℕ)
    (is : IsRelocatedBy row o p before after) → p ≤ length before → drop p after ≡ is.rest
rest_is row o p before _ is inside =
    ap (drop p) is.whole ∙ drop_at (take p before) is.rest p (length-take-le p before inside)

module _ (n : ℕ) (read : ℕ → ℕ) (block_row thread_row : RowInfo)
    (rows : AreRows n block_row thread_row) (name after : X86_64Relocation)
    (is_block : x86_64_row name ≡ Some block_row) (is_thread : x86_64_row after ≡ Some thread_row)
    (name_is : is_of_got X86_64 (r_type_of (x86_64_name name)) ≡ false)
    (after_is : is_of_got X86_64 (r_type_of (x86_64_name after)) ≡ false)
    (named : IsNamed (x86_64_name after)) (law : LeadToTheSame n read name after)
    (l : Linked) (i : ℕ) (at : IsAt l i) (is_name : IsNameOf x86_64_name (relocation_in l.relocations i).r_type name)
    (stays : UntouchedBytes l i (offset_of l i) n) (kind_is : at.chosen.kind ≡ relaxations.X86_64 kinds.NoOp)
    (r_type_is : at.chosen.relocation ≡ r_type_of (x86_64_name after)) where
  abbrev linked_offset : IsLinked l
  linked_offset = at.ensured

  abbrev relocation_offset : Rela
  relocation_offset = rela (offset_of l i) at.chosen.relocation (rela_at l i).symbol (rela_at l i).addend

  r_after_offset : relocation_in l.relocations_last i ≡ relocation_offset
  r_after_offset =
      relocation_left l linked_offset i (offset_of l i) n stays at.below ∙ rw (at.decided, kind_is) at (linked_offset.relocations i at.below)

  row_there_offset : IsRow l.context.architecture (relocation_in l.relocations_last i).r_type (Some thread_row)
  row_there_offset =
      row_after l linked_offset at.architecture i at.below after named thread_row is_thread (ap (λ (x : Rela). x.r_type) r_after_offset ∙ r_type_is)

  within_offset : i < length l.relocations_last / 24
  within_offset = last_within l linked_offset i at.below

  mine : IsField l.context.architecture l.relocations_last l.last i thread_row
  mine =
      let len = len_is n thread_row (drop (offset_at l.relocations_last i) l.last) rows.plain in
      record { is_row = row_there_offset; some = omega (arith, rows.some, len) }

  others_apart : (j : ℕ) (other : RowInfo) → j < length l.relocations_last / 24
      → (j ≡ i → ⊥) → IsField l.context.architecture l.relocations_last l.last j other
      → (offset_at l.relocations_last i < offset_at l.relocations_last j)
      ⊎ (field_end l.relocations_last l.last j other ≤ offset_at l.relocations_last i)
  others_apart j other lj isnt is_field =
      elim (cases_lt (offset_at l.relocations_last i) (offset_at l.relocations_last j)) [
        | inl ahead ↦ inl ahead
        | inr from ↦ elim (cases_lt (offset_at l.relocations_last i) (field_end l.relocations_last l.last j other)) [
          | inl inside ↦ absurd (overlaps from inside)
          | inr past ↦ inr past
        ]
      ]
    where
      overlaps : offset_at l.relocations_last j ≤ offset_at l.relocations_last i
          → offset_at l.relocations_last i < field_end l.relocations_last l.last j other → ⊥
      overlaps from inside =
          let following : offset_at l.relocations_last j < field_end l.relocations_last l.last i thread_row =
          omega (arith, from, mine.some) in
          let apart = linked_offset.written.can.apart in
          elim (cases_lt i j) [
            | inl less ↦
                not_first l.relocations_last thread_row rows.of other i j
                (apart i j thread_row other less lj mine is_field (inside, following))
            | inr most ↦
                not_second l.relocations_last thread_row rows.of other i j
                (apart j i other thread_row (omega (arith, most, isnt)) within_offset is_field mine (following, inside))
          ]

  leads : LeadsToTheSame n read name l i block_row
  leads symbol is_symbol strong entry block_at pointer original addresses small is_block_address was =
      let operands = operands_with X86_64 l.addresses block_row symbol (rela_at l i) entry in
      let pointed = l.addresses.thread_origin in
      let counted = counted_from pointed operands in
      let written = operands_with X86_64 l.addresses thread_row symbol relocation_offset 0 in
      let origin : operands.tls_base ≡ l.addresses.module_origin = rows.origin l.addresses symbol (rela_at l i) entry in
      let before_is : is_of_got X86_64 (rela_at l i).r_type ≡ false = ap (is_of_got X86_64) (sym is_name.r_type_is) ∙ name_is in
      let taken : operands_of X86_64 l.addresses l.symbols thread_row relocation_offset ≡ Ok written =
      ap (operands_in X86_64 l.addresses thread_row relocation_offset) is_symbol ∙ rows.alone l.addresses symbol relocation_offset in
      let field : UntouchedField n thread_row written (offset_of l i) l.last l.final =
      subst (λ (x : Rela). UntouchedField n thread_row written x.offset l.last l.final) r_after_offset
      (left n rows.some rows.lowest l.context.architecture l.addresses l.relocations_last l.symbols l.last l.final linked_offset.written
      (small_byte l.final linked_offset.final_bytes) i within_offset thread_row rows.plain row_there_offset written
      (subst (λ x. operands_of x l.addresses l.symbols thread_row (relocation_in l.relocations_last i) ≡ Ok written) (sym at.architecture)
      (subst (λ x. operands_of X86_64 l.addresses l.symbols thread_row x ≡ Ok written) (sym r_after_offset) taken))
      others_apart) in
      let final_length : length l.final ≡ length l.section =
      linked_offset.written.same_length ∙ (last_length l linked_offset ∙ linked_offset.same_length) in
      let rl = linked_offset.written.same_length in
      let inside_final : (offset_of l i) + n ≤ length l.final = omega (arith, field.inside, rl) in
      let object = put_back (offset_of l i) n l.section l.final in
      let object_length : length object ≡ length l.final =
      (put_back_is (offset_of l i) n l.section l.final inside_final (sym final_length)).same_len in
      let base : IsRelocatedBy thread_row counted (offset_of l i) object l.final =
      relocated n thread_row rows.plain written counted (offset_of l i) l.last l.final object field
      (rows.same l.addresses symbol (rela_at l i) at.chosen.relocation entry before_is (ap (is_of_got X86_64) r_type_is ∙ after_is) strong)
      object_length (sym rl)
      (λ at outside. back_outside (offset_of l i) n l.section l.final inside_final (sym final_length) at outside) in
      let of_object : IsRelocatedBy block_row operands (offset_of l i) object original =
      some_and (λ row. IsRelocatedBy row operands (offset_of l i) object original) (x86_64_row name) block_row is_block was in
      let room : (offset_of l i) ≤ length object = omega (arith, inside_final, object_length) in
      ap (λ zs. sum_64 block_at (read (number_of_bytes n zs)))
      (rest_is block_row operands (offset_of l i) object original of_object room)
      ∙ (some_and _ (x86_64_row after) thread_row is_thread
      (some_and _ (x86_64_row name) block_row is_block law) l.addresses.module_origin pointed block_at pointer
      (subst (λ x. x < 2 ^ 64) origin addresses.tls_base) small is_block_address operands (drop (offset_of l i) object)
      of_object.rest base.rest addresses
      (subst (λ x. IsApplied block_row (counted_from x operands) (drop (offset_of l i) object) of_object.rest) origin
      of_object.applied)
      base.applied ∙ ap (λ zs. sum_64 pointer (read (number_of_bytes n zs))) {x = base.rest}
      (sym (rest_is thread_row counted (offset_of l i) object l.final base room)))

-- ---- both lengths

abbrev at_index : (l : Linked) → IsLinked l → l.context.architecture ≡ X86_64 → (i : ℕ) (chosen : Choice Relaxation ℕ)
    → i < count l → decision_at l.decisions i ≡ Rewritten chosen → IsAt l i
at_index l linked x86 i chosen below decided =
    record { ensured = linked; architecture = x86; below = below; chosen = chosen; decided = decided }

pub offsets : BlockOffsets → Offsets
offsets law = (
  λ l linked x86 i chosen below is_name decided stays.
      let at = at_index l linked x86 i chosen below decided in
      elim (of_table l i at names.R_X86_64_DTPOFF32 tt is_name) [
        | inl this ↦
            leads 4 extended block_row thread_row short_rows names.R_X86_64_DTPOFF32 names.R_X86_64_TPOFF32 refl refl
            refl refl tt (law.0) l i at is_name stays this.kind_is this.r_type_is
        | inr nothing ↦ absurd nothing
      ],
  λ l linked x86 i chosen below is_name decided stays.
      let at = at_index l linked x86 i chosen below decided in
      elim (of_table l i at names.R_X86_64_DTPOFF64 tt is_name) [
        | inl this ↦
            leads 8 (λ offset. offset) long_block_row long_thread_row long_rows names.R_X86_64_DTPOFF64 names.R_X86_64_TPOFF64
            refl refl refl refl tt (law.1) l i at is_name stays this.kind_is this.r_type_is
        | inr nothing ↦ absurd nothing
      ],
)

-- ---- a sequence

abbrev any : List Original
any = original 0 [] ∷ []

abbrev pub Lawful : Linked → ℕ → Choice Relaxation ℕ → X86_64Relocation → Type 0
Lawful l i chosen name = (w : Window) × IsLawful l i chosen name w

-- that of a module is a group
abbrev CallLaw : ℕ → ℕ → ℕ → RewriteKind → Type 0
CallLaw back its_call count kind =
    (c : Code) (s : State) (section original : List ℕ) (o : ℕ) (operands : Operands)
    → IsBefore back section o operands (seen s) → x86_64_matches kind section o
    → IsRelocated names.R_X86_64_TLSLD operands o section original
    → Stands c.old s.pc (back + 4) (drop (o - back) original)
    → Stands c.new s.pc (back + (4 + its_call)) (drop (o - back) (rewritten (x86_64_rewrite kind) section o))
    → IsModuleCall (back + (4 + its_call)) count c operands s

module _ (l : Linked) (i : ℕ) (at : IsAt l i) (kind : RewriteKind) (kind_is : at.chosen.kind ≡ relaxations.X86_64 kind)
    (back its_call : ℕ) (has_window : HasWindow back (4 + its_call) (x86_64_rewrite kind))
    (shape : AreOf back (4 + its_call) (x86_64_originals kind)) (pattern : HasPattern any kind l.section (offset_of l i)) where
  abbrev of_call : IsOfKind l i at.chosen back (4 + its_call) kind
  of_call =
      record {
        kind_is = kind_is;
        window = has_window;
        matches = pattern.1;
        room = there_inside back (4 + its_call) (omega arith) (x86_64_originals kind) l.section (offset_of l i) shape (pattern.1.1);
      }

  module _ (alone : UntouchedByOthers l i ((offset_of l i) - back) (back + (4 + its_call))) where
    abbrev has_call : HasRewrite l i back (4 + its_call) kind
    has_call = record { at = at; of = of_call; alone = alone }

    abbrev object_call : List ℕ
    object_call = put_back ((offset_of l i) - back) (back + (4 + its_call)) l.section l.final

    matches : x86_64_matches kind object_call (offset_of l i)
    matches =
        object_matches l i back (4 + its_call) kind has_call
        (object_has l i back (4 + its_call) kind has_call (x86_64_originals kind)
        (shaped_of back (4 + its_call) (x86_64_originals kind) shape) (pattern.1.1))

    -- of a variable
    module _ (count : ℕ) (is_name : IsNameOf x86_64_name (rela_at l i).r_type names.R_X86_64_TLSGD)
        (addend : (rela_at l i).addend ≡ neg_ℤ (pos 4)) (low : (offset_of l i) - back ≤ has_window.made.offset (offset_of l i))
        (high : has_window.made.offset (offset_of l i) + 4 ≤ (offset_of l i) + (4 + its_call)) where
      to_local : x86_64_relocation_after kind names.R_X86_64_TLSGD ≡ Some names.R_X86_64_TPOFF32
          → groups.Rewritten back (back + (4 + its_call)) (x86_64_originals kind) names.R_X86_64_TLSGD kind
          (λ operands. operands) (IsThreadCall (back + 4) (back + (4 + its_call)) count (λ c k s k' o. ⊤))
          → at.chosen.relocation ≡ r_type_of (x86_64_name names.R_X86_64_TPOFF32)
          → (symbol : Symbol) → slice_get l.symbols (rela_at l i).symbol ≡ Some symbol
          → LawAt l i names.R_X86_64_TLSGD thread_row (window (variable count) back (4 + its_call)) at.chosen.kind symbol
      to_local after_is law r_type_is symbol is_symbol entry c s there k k' s' pointer holds returns =
          some_and _ (x86_64_relocation_after kind names.R_X86_64_TLSGD) names.R_X86_64_TPOFF32 after_is law c s
          object_call there.original l.final (offset_of l i) (operands_with X86_64 l.addresses thread_row symbol (rela_at l i) entry)
          (before l i back (4 + its_call) kind has_call names.R_X86_64_TLSGD _ c s there addend) (matches.1) matches
          there.applied
          (final_is l i back (4 + its_call) kind has_call names.R_X86_64_TPOFF32 tpoff32
          (ap (is_of_got X86_64) (sym is_name.r_type_is)) r_type_is low high symbol is_symbol entry)
          there.old there.new k k' s' pointer tt returns

      to_initial : x86_64_relocation_after kind names.R_X86_64_TLSGD ≡ Some names.R_X86_64_GOTTPOFF
          → ((held : ℕ) → held < 2 ^ 64
          → groups.Rewritten back (back + (4 + its_call)) (x86_64_originals kind) names.R_X86_64_TLSGD kind
          (λ operands. record operands { got_entry = held })
          (IsThreadCall (back + 4) (back + (4 + its_call)) count (AddsOffset held)))
          → ((symbol : Symbol) (c : Code) (k : Kinds) (s : State) (k' : Kinds) (o : Operands)
          → EntryHolds (relaxations.X86_64 kind) symbol c k s k' o
          → (symbol.thread_entry < 2 ^ 64) × AddsOffset symbol.thread_entry c k s k' o)
          → at.chosen.relocation ≡ r_type_of (x86_64_name names.R_X86_64_GOTTPOFF)
          → (symbol : Symbol) → slice_get l.symbols (rela_at l i).symbol ≡ Some symbol
          → LawAt l i names.R_X86_64_TLSGD thread_row (window (variable count) back (4 + its_call)) at.chosen.kind symbol
      to_initial after_is law reads r_type_is symbol is_symbol entry c s there k k' s' pointer holds returns =
          let operands = operands_with X86_64 l.addresses thread_row symbol (rela_at l i) entry in
          let held = reads symbol c k s k' operands
          (subst (λ x. EntryHolds x symbol c k s k' operands) kind_is holds) in
          some_and _ (x86_64_relocation_after kind names.R_X86_64_TLSGD) names.R_X86_64_GOTTPOFF after_is
          (law symbol.thread_entry (held.0)) c s object_call there.original l.final (offset_of l i) operands
          (before l i back (4 + its_call) kind has_call names.R_X86_64_TLSGD _ c s there addend) (matches.1) matches
          there.applied (entry_final l i back (4 + its_call) kind has_call r_type_is symbol is_symbol low high entry)
          there.old there.new k k' s' pointer (held.1) returns

    -- of a module
    module_law : (count : ℕ) → CallLaw back its_call count kind → at.chosen.relocation ≡ 0 → (rela_at l i).addend ≡ neg_ℤ (pos 4)
        → (symbol : Symbol) → LawAt l i names.R_X86_64_TLSLD tls_module_row (window (block count) back (4 + its_call)) at.chosen.kind symbol
    module_law count law code addend symbol entry c s there =
        law c s object_call there.original (offset_of l i) (operands_with X86_64 l.addresses tls_module_row symbol (rela_at l i) entry)
        (before l i back (4 + its_call) kind has_call names.R_X86_64_TLSLD _ c s there addend) matches there.applied
        there.old (rw (unrelocated l i back (4 + its_call) kind has_call code) there.new)

-- ---- general-dynamic

module _ (law : groups.GeneralDynamic) (l : Linked) (i : ℕ) (at : IsAt l i)
    (is_name : IsNameOf x86_64_name (relocation_in l.relocations i).r_type names.R_X86_64_TLSGD) where
  pub variable_is_lawful : IsOfTable general_dynamic_table l.section (offset_of l i) (relocation_in l.relocations i).addend at.chosen
      → Lawful l i at.chosen names.R_X86_64_TLSGD
  variable_is_lawful (inl this) =
      let kind = kinds.TlsGdToLocalExec in
      let its_window = own_window 4 12 (x86_64_rewrite kind) (puts 4 12 _ _ _) refl (λ window. refl) (omega arith) (omega arith) in
      let shape : AreOf 4 12 (x86_64_originals kind) = ((refl, refl), ((refl, refl), tt)) in (
        window (variable 2) 4 12,
        by_field l i at names.R_X86_64_TLSGD (window (variable 2) 4 12) kind
            (of_call l i at kind this.kind_is 4 8 its_window shape this.has_pattern)
            (ap (window_of names.R_X86_64_TLSGD) this.kind_is) (omega arith) (λ symbol w c s object. object) thread_row (λ alone symbol row by. (
              ap (λ q. unwrap_or q row) (by.1),
              to_local l i at kind this.kind_is 4 8 its_window shape this.has_pattern alone 2 is_name
                  (sym this.same_addend ∙ this.hold.1.1.1.0) (omega arith) (omega arith) refl (law.0) this.r_type_is symbol (by.0),
            )),
      )
  variable_is_lawful (inr (inl this)) =
      let kind = kinds.TlsGdToLocalExecLarge in
      let its_window = own_window 3 19 (x86_64_rewrite kind) (puts 3 22 _ _ _) refl (λ window. refl) (omega arith) (omega arith) in
      let shape : AreOf 3 19 (x86_64_originals kind) = ((refl, refl), ((refl, refl), tt)) in (
        window (variable 3) 3 19,
        by_field l i at names.R_X86_64_TLSGD (window (variable 3) 3 19) kind
            (of_call l i at kind this.kind_is 3 15 its_window shape this.has_pattern)
            (ap (window_of names.R_X86_64_TLSGD) this.kind_is) (omega arith) (λ symbol w c s object. object) thread_row (λ alone symbol row by. (
              ap (λ q. unwrap_or q row) (by.1),
              to_local l i at kind this.kind_is 3 15 its_window shape this.has_pattern alone 3 is_name
                  (sym this.same_addend ∙ this.hold.1.1.1.0) (omega arith) (omega arith) refl (law.2) this.r_type_is symbol (by.0),
            )),
      )
  variable_is_lawful (inr (inr (inl this))) =
      let kind = kinds.TlsGdToInitialExec in
      let its_window = own_window 4 12 (x86_64_rewrite kind) (puts 4 12 _ _ _) refl (λ window. refl) (omega arith) (omega arith) in
      let shape : AreOf 4 12 (x86_64_originals kind) = ((refl, refl), ((refl, refl), tt)) in (
        window (variable 2) 4 12,
        by_field l i at names.R_X86_64_TLSGD (window (variable 2) 4 12) kind
            (of_call l i at kind this.kind_is 4 8 its_window shape this.has_pattern)
            (ap (window_of names.R_X86_64_TLSGD) this.kind_is) (omega arith) (λ symbol w c s object. object) thread_row (λ alone symbol row by. (
              ap (λ q. unwrap_or q row) (by.1),
              to_initial l i at kind this.kind_is 4 8 its_window shape this.has_pattern alone 2 is_name
                  (sym this.same_addend ∙ this.hold.1.1.0) (omega arith) (omega arith) refl (law.1) (λ symbol c k s k' o holds. holds) this.r_type_is symbol (by.0),
            )),
      )
  variable_is_lawful (inr (inr (inr nothing))) = absurd nothing

-- ---- local-dynamic

module _ (law : groups.LocalDynamic) (l : Linked) (i : ℕ) (at : IsAt l i) where
  by_kind : (kind : RewriteKind) (its_call n : ℕ) (has_window : HasWindow 3 (4 + its_call) (x86_64_rewrite kind))
      → AreOf 3 (4 + its_call) (x86_64_originals kind)
      → sequence_of (relaxations.X86_64 kind) ≡ Some (window (block n) 3 (4 + its_call)) → CallLaw 3 its_call n kind
      → IsOfEntry any (module_by kind) l.section (offset_of l i) (relocation_in l.relocations i).addend at.chosen
      → Lawful l i at.chosen names.R_X86_64_TLSLD
  by_kind kind its_call n has_window shape is of this =
      let its_kind = of_call l i at kind this.kind_is 3 its_call has_window shape this.has_pattern in (
        window (block n) 3 (4 + its_call),
        by_field l i at names.R_X86_64_TLSLD (window (block n) 3 (4 + its_call)) kind its_kind (ap sequence_of this.kind_is ∙ is)
            (omega arith) (λ symbol w c s object. object) tls_module_row (λ alone symbol row by. (
              ap (λ q. unwrap_or q row) by,
              module_law l i at kind this.kind_is 3 its_call has_window shape this.has_pattern alone n of this.r_type_is
                  (sym this.same_addend ∙ this.hold.1.1.0) symbol,
            )),
      )

  pub module_is_lawful : IsOfTable local_dynamic_table l.section (offset_of l i) (relocation_in l.relocations i).addend at.chosen
      → Lawful l i at.chosen names.R_X86_64_TLSLD
  module_is_lawful (inl this) =
      by_kind kinds.TlsLdToLocalExec 5 1
      (own_window 3 9 (x86_64_rewrite kinds.TlsLdToLocalExec) (puts 3 12 _ _ _) refl (λ window. refl) (omega arith) (omega arith))
      ((refl, refl), tt) refl (law.0.1) this
  module_is_lawful (inr (inl this)) =
      by_kind kinds.TlsLdToLocalExecNoPlt 6 1
      (own_window 3 10 (x86_64_rewrite kinds.TlsLdToLocalExecNoPlt) (puts 3 13 _ _ _) refl (λ window. refl) (omega arith) (omega arith))
      ((refl, refl), tt) refl (law.1.1) this
  module_is_lawful (inr (inr (inl this))) =
      by_kind kinds.TlsLdToLocalExec64 15 2
      (own_window 3 19 (x86_64_rewrite kinds.TlsLdToLocalExec64) (puts 3 22 _ _ _) refl (λ window. refl) (omega arith) (omega arith))
      ((refl, refl), ((refl, refl), tt)) refl (law.2.1) this
  module_is_lawful (inr (inr (inr nothing))) = absurd nothing

-- ---- the `lea`

module _ (n : ℕ) (three : 3 ≤ n) (name : X86_64Relocation) (named : IsNamed (x86_64_name name))
    (not_of_got : is_of_got X86_64 (r_type_of (x86_64_name name)) ≡ false)
    (register_of : List ℕ → ℕ) (shape : AreOf n 4 (lea_of_descriptor n))
    (of_offset : (bytes : List ℕ) (o : ℕ) → IsTrue (is_one_at (lea_of_descriptor n) bytes o)
    → IsTrue (is_one_at (x86_64_originals (kinds.TlsDescToLocalExec n)) bytes o))
    (of_entry : (bytes : List ℕ) (o : ℕ) → IsTrue (is_one_at (lea_of_descriptor n) bytes o)
    → IsTrue (is_one_at (x86_64_originals kinds.TlsDescToInitialExec) bytes o))
    (offset_after : x86_64_relocation_after (kinds.TlsDescToLocalExec n) name ≡ Some names.R_X86_64_TPOFF32)
    (entry_after : x86_64_relocation_after kinds.TlsDescToInitialExec name ≡ Some names.R_X86_64_GOTTPOFF)
    (to_offset : LeaToOffset n name register_of) (to_entry : LeaToEntry n name register_of)
    (l : Linked) (i : ℕ) (at : IsAt l i) (is_name : IsNameOf x86_64_name (relocation_in l.relocations i).r_type name)
    (is : window_of name at.chosen.kind ≡ Some (window (lea register_of) n 4)) (small : n < 2 ^ 64)
  where
    abbrev object_descriptor : List ℕ
    object_descriptor = put_back ((offset_of l i) - n) (n + 4) l.section l.final

    -- by its rewrite
    abbrev of_lea : (kind : RewriteKind) → at.chosen.kind ≡ relaxations.X86_64 kind → HasWindow n 4 (x86_64_rewrite kind)
        → HasPattern (lea_of_descriptor n) kind l.section (offset_of l i) → IsOfKind l i at.chosen n 4 kind
    of_lea kind kind_is has_window pattern =
        record {
          kind_is = kind_is;
          window = has_window;
          matches = pattern.1;
          room = there_inside n 4 (omega arith) (lea_of_descriptor n) l.section (offset_of l i) shape (pattern.0);
        }

    lawful : (kind : RewriteKind) → IsOfKind l i at.chosen n 4 kind
        → (UntouchedByOthers l i ((offset_of l i) - n) (n + 4) → (symbol : Symbol) → slice_get l.symbols (rela_at l i).symbol ≡ Some symbol
        → LawAt l i name thread_row (window (lea register_of) n 4) at.chosen.kind symbol)
        → IsLawful l i at.chosen name (window (lea register_of) n 4)
    lawful kind of law =
        by_field l i at name (window (lea register_of) n 4) kind of is small (λ symbol o c s object. object) thread_row
        (λ alone symbol row by. (ap (λ q. unwrap_or q row) (by.1), law alone symbol (by.0)))

    pub lea_is_lawful : IsOfTable (descriptor_table n) l.section (offset_of l i) (rela_at l i).addend at.chosen
        → IsLawful l i at.chosen name (window (lea register_of) n 4)
    lea_is_lawful (inl this) =
        let kind = kinds.TlsDescToLocalExec n in
        let has_window = own_window n 4 (x86_64_rewrite kind) (rex_mov n) refl (λ window. refl) three (omega arith) in
        let of = of_lea kind this.kind_is has_window this.has_pattern in
        lawful kind of (λ alone symbol is_symbol entry c s stands h k descriptor makes.
        let has : HasRewrite l i n 4 kind = record { at = at; of = of; alone = alone } in
        let there = object_has l i n 4 kind has (lea_of_descriptor n) (shaped_of n 4 (lea_of_descriptor n) shape) (this.has_pattern.0) in
        let operands = operands_with X86_64 l.addresses thread_row symbol (rela_at l i) entry in
        some_and _ (x86_64_relocation_after kind name) names.R_X86_64_TPOFF32 offset_after to_offset c s object_descriptor
        stands.original l.final (offset_of l i) operands
        (before l i n 4 kind has name operands c s stands (sym this.same_addend ∙ this.hold.1.1.1.0)) there
        (object_matches l i n 4 kind has (of_offset object_descriptor (offset_of l i) there)) stands.applied
        (final_is l i n 4 kind has names.R_X86_64_TPOFF32 tpoff32
        (ap (is_of_got X86_64) (sym is_name.r_type_is) ∙ not_of_got) this.r_type_is (omega arith) (omega arith) symbol is_symbol entry)
        stands.old stands.new h k descriptor
        (subst (λ x. Makes x symbol c k s operands (c.new_half h)) this.kind_is makes))
    lea_is_lawful (inr (inl this)) =
        let kind = kinds.TlsDescToInitialExec in
        let has_window = own_window n 4 (x86_64_rewrite kind) (replaces 2 1 _) refl (λ window. refl) (omega (arith, three)) (omega arith) in
        let of = of_lea kind this.kind_is has_window this.has_pattern in
        lawful kind of (λ alone symbol is_symbol entry c s stands h k descriptor makes.
        let has : HasRewrite l i n 4 kind = record { at = at; of = of; alone = alone } in
        let there = object_has l i n 4 kind has (lea_of_descriptor n) (shaped_of n 4 (lea_of_descriptor n) shape) (this.has_pattern.0) in
        let operands = operands_with X86_64 l.addresses thread_row symbol (rela_at l i) entry in
        let made : Makes (relaxations.X86_64 kind) symbol c k s operands (c.new_half h) =
        subst (λ x. Makes x symbol c k s operands (c.new_half h)) this.kind_is makes in
        some_and _ (x86_64_relocation_after kind name) names.R_X86_64_GOTTPOFF entry_after
        (to_entry symbol.thread_entry (made.0)) c s object_descriptor stands.original l.final (offset_of l i) operands
        (before l i n 4 kind has name operands c s stands (sym this.same_addend ∙ this.hold.1.1.0)) there
        (object_matches l i n 4 kind has (of_entry object_descriptor (offset_of l i) there)) stands.applied
        (entry_final l i n 4 kind has this.r_type_is symbol is_symbol (omega arith) (omega arith) entry)
        stands.old stands.new h k descriptor (made.1))
    lea_is_lawful (inr (inr nothing)) = absurd nothing

-- an instruction that is one of one is one of two
first : (a b : Bool) → (a || false) ≡ true → (a || b) ≡ true
first true b is = refl
first false b is = absurd (let e : false ≡ true = is in cc)

module _ (law : groups.LeaOfDescriptor) (l : Linked) (i : ℕ) (at : IsAt l i)
  where
    abbrev it : Rela
    it = relocation_in l.relocations i

    pub with_rex_is_lawful : IsNameOf x86_64_name it.r_type names.R_X86_64_GOTPC32_TLSDESC
        → IsOfTable (descriptor_table 3) l.section it.offset it.addend at.chosen
        → IsLawful l i at.chosen names.R_X86_64_GOTPC32_TLSDESC (window (lea reg_after_rex) 3 4)
    with_rex_is_lawful is_name =
        lea_is_lawful 3 (omega arith) names.R_X86_64_GOTPC32_TLSDESC tt refl reg_after_rex ((refl, refl), tt)
        (λ bytes o is. is)
        (λ bytes o is. first (is_at (with_rex rex_w 0x8d) bytes o) (is_at (with_rex2 rex2_w 0x8d) bytes o || false) is)
        refl refl (law.0) (law.1) l i at is_name refl (omega arith)

    pub with_rex2_is_lawful : IsNameOf x86_64_name it.r_type names.R_X86_64_CODE_4_GOTPC32_TLSDESC
        → IsOfTable (descriptor_table 4) l.section it.offset it.addend at.chosen
        → IsLawful l i at.chosen names.R_X86_64_CODE_4_GOTPC32_TLSDESC (window (lea reg_after_rex2) 4 4)
    with_rex2_is_lawful is_name =
        lea_is_lawful 4 (omega arith) names.R_X86_64_CODE_4_GOTPC32_TLSDESC tt refl reg_after_rex2 ((refl, refl), tt)
        (λ bytes o is. is)
        (λ bytes o is. or_right (is_at (with_rex rex_w 0x8d) bytes o) (is_at (with_rex2 rex2_w 0x8d) bytes o || false) is)
        refl refl (law.2) (law.3) l i at is_name refl (omega arith)

-- ---- the call

module _ (law : groups.CallOfDescriptor) (l : Linked) (i : ℕ) (at : IsAt l i)
  where
    abbrev o : ℕ
    o = offset_of l i

    abbrev skip : RewriteKind
    skip = kinds.SkipTlsDescCall

    pub call_is_lawful : IsOfTable (any_entry (unrelocated_by kinds.SkipTlsDescCall ∷ [])) l.section o (relocation_in l.relocations i).addend at.chosen
        → IsLawful l i at.chosen names.R_X86_64_TLSDESC_CALL (window call 0 2)
    call_is_lawful (inl this) =
        let linked : IsLinked l = at.ensured in
        let has_window = own_window 0 2 (x86_64_rewrite skip) (replaces 0 2 _) refl (λ window. refl) (omega arith) (omega arith) in
        let of : IsOfKind l i at.chosen 0 2 skip = record {
          kind_is = this.kind_is;
          window = has_window;
          matches = this.has_pattern.1;
          room = there_inside 0 2 (omega arith) (x86_64_originals skip) l.section o ((refl, refl), tt) (this.has_pattern.1.1);
        } in
        record {
          is = refl;
          kind = skip;
          of = of;
          law = λ alone symbol operands c s final pc old.
              let has : HasRewrite l i 0 2 skip = record { at = at; of = of; alone = alone } in
              let high = of.room.1 in
              let long : length l.final ≡ length l.section =
              linked.written.same_length ∙ (last_length l linked ∙ linked.same_length) in
              let object = put_back (o - 0) (0 + 2) l.section l.final in
              law c s object o (object_bytes l i 0 2 skip has)
              (object_matches l i 0 2 skip has
              (object_has l i 0 2 skip has (x86_64_originals skip) (shaped_of 0 2 (x86_64_originals skip) ((refl, refl), tt)) (this.has_pattern.1.1)))
              (old
              ∙ same_windows o 2 l.section object (object_length l i 0 2 skip has)
              (λ j from less. object_same l i 0 2 skip has j (omega (arith, from)) less))
              (rw (unrelocated l i 0 2 skip has this.r_type_is, ← (let e : o - 0 ≡ o = omega arith in e), pc) (final (o - 0) 2 (omega (arith, high, long))));
        }
    call_is_lawful (inr nothing) = absurd nothing

-- ---- the law of a name

module _ (laws : Groups) (l : Linked) (i : ℕ) (at : IsAt l i) where
  -- a rewrite has a law, or it leaves the instruction
  abbrev Outcome : X86_64Relocation → Type 0
  Outcome name =
      IsNamed (x86_64_name name)
      × (Lawful l i at.chosen name ⊎ ((window_of name at.chosen.kind ≡ None) × (relaxation_rewrite at.chosen.kind ≡ None)))

  abbrev IsOf : X86_64Relocation → Type 0
  IsOf name =
      IsOfTable (x86_64_table name (opcode_at name l.section (offset_of l i))) l.section (offset_of l i) (relocation_in l.relocations i).addend at.chosen

  got_law : (name : X86_64Relocation) (back : ℕ) (held : Operands → ℕ) → is_of_got X86_64 (r_type_of (x86_64_name name)) ≡ false
      → window_of name at.chosen.kind ≡ Some (window (in_got held) back 4) → back < 2 ^ 64 → IsNamed (x86_64_name name)
      → ((opcode : ℕ) → TableServes back name held (x86_64_table name opcode))
      → IsNameOf x86_64_name (relocation_in l.relocations i).r_type name → IsOf name → Outcome name
  got_law name back held not_of_got is few named serves is_name of = (
    named,
    inl (window (in_got held) back 4, got_is_lawful name back held not_of_got l i at is_name (of_choice (serves (opcode_at name l.section (offset_of l i))) of) is few),
  )

  law_of_name : (name : X86_64Relocation) → IsNameOf x86_64_name (relocation_in l.relocations i).r_type name
      → IsOf name → Outcome name
  law_of_name names.R_X86_64_GOTPCREL is_name of = got_law names.R_X86_64_GOTPCREL 3 address refl refl (omega arith) tt (load laws) is_name of
  law_of_name names.R_X86_64_GOTPCRELX is_name of = got_law names.R_X86_64_GOTPCRELX 2 address refl refl (omega arith) tt (branch_or_got laws) is_name of
  law_of_name names.R_X86_64_REX_GOTPCRELX is_name of = got_law names.R_X86_64_REX_GOTPCRELX 3 address refl refl (omega arith) tt (got_3 laws) is_name of
  law_of_name names.R_X86_64_CODE_4_GOTPCRELX is_name of = got_law names.R_X86_64_CODE_4_GOTPCRELX 4 address refl refl (omega arith) tt (got_4 laws) is_name of
  law_of_name names.R_X86_64_CODE_6_GOTPCRELX is_name of = got_law names.R_X86_64_CODE_6_GOTPCRELX 6 address refl refl (omega arith) tt (got_6 laws) is_name of
  law_of_name names.R_X86_64_GOTTPOFF is_name of = got_law names.R_X86_64_GOTTPOFF 3 thread_offset refl refl (omega arith) tt (offset_3 laws) is_name of
  law_of_name names.R_X86_64_CODE_4_GOTTPOFF is_name of = got_law names.R_X86_64_CODE_4_GOTTPOFF 4 thread_offset refl refl (omega arith) tt (offset_4 laws) is_name of
  law_of_name names.R_X86_64_CODE_6_GOTTPOFF is_name of = got_law names.R_X86_64_CODE_6_GOTTPOFF 6 thread_offset refl refl (omega arith) tt (offset_6 laws) is_name of
  law_of_name names.R_X86_64_TLSGD is_name of =
      (tt, inl (variable_is_lawful laws.general_dynamic l i at is_name of))
  law_of_name names.R_X86_64_TLSLD is_name of =
      (tt, inl (module_is_lawful laws.local_dynamic l i at of))
  law_of_name names.R_X86_64_GOTPC32_TLSDESC is_name of = (
    tt,
    inl (window (lea reg_after_rex) 3 4, with_rex_is_lawful laws.descriptor_address l i at is_name of),
  )
  law_of_name names.R_X86_64_CODE_4_GOTPC32_TLSDESC is_name of = (
    tt,
    inl (window (lea reg_after_rex2) 4 4, with_rex2_is_lawful laws.descriptor_address l i at is_name of),
  )
  law_of_name names.R_X86_64_TLSDESC_CALL is_name of = (
    tt,
    inl (window call 0 2, call_is_lawful laws.descriptor_call l i at of),
  )
  law_of_name names.R_X86_64_DTPOFF32 is_name (inl this) = (tt, inr (refl, ap relaxation_rewrite this.kind_is))
  law_of_name names.R_X86_64_DTPOFF32 is_name (inr nothing) = absurd nothing
  law_of_name names.R_X86_64_DTPOFF64 is_name (inl this) = (tt, inr (refl, ap relaxation_rewrite this.kind_is))
  law_of_name names.R_X86_64_DTPOFF64 is_name (inr nothing) = absurd nothing
  law_of_name name is_name of = absurd of

  -- of instructions that are rewritten together
  law_there : (name : X86_64Relocation) (w : Window) → IsNameOf x86_64_name (relocation_in l.relocations i).r_type name
      → window_of name at.chosen.kind ≡ Some w → IsLawful l i at.chosen name w
  law_there name w is_name is =
      let t = has_table l i at in
      let made = law_of_name t.name t.is_name t.is in
      let same : name ≡ t.name = is_name.named t.name (made.0) t.is_name.r_type_is in
      let there : window_of t.name at.chosen.kind ≡ Some w = ap (λ n. window_of n at.chosen.kind) (sym same) ∙ is in
      rw same (elim (made.1) [
        | inl found ↦
            let law = found.1 in
            let e : found.0 ≡ w = ap (λ q. unwrap_or q w) (sym law.is ∙ there) in
            subst (IsLawful l i at.chosen t.name) e law
        | inr none ↦ absurd (let e : None ≡ Some w = sym (none.0) ∙ there in cc)
      ])

-- ---- which bytes stay

module _ (laws : Groups) (l : Linked) (linked : IsLinked l) (x86 : l.context.architecture ≡ X86_64) (b : ℕ) where
  abbrev Shown : Type 0
  Shown = (get_or l.rewritten b 0 ≡ get_or l.section b 0) ⊎ IsIn rewriting l b

  -- one with a law
  in_window : (i : ℕ) (at : IsAt l i) (name : X86_64Relocation)
      → IsNameOf x86_64_name (relocation_in l.relocations i).r_type name
      → (w : Window) → IsLawful l i at.chosen name w → IsOutside l.relocations l.decisions i b ⊎ Shown
  in_window i at name is_name w law =
      let o = offset_of l i in
      let has_window = law.window in
      let made = has_window.made in
      let inner = has_window.inner in
      let made_is : relaxation_rewrite at.chosen.kind ≡ Some made = ap relaxation_rewrite law.kind_is ∙ has_window.is in
      let can : IsRewritable made l.section o = subst (λ q. CanRewrite q l.section o) has_window.is (law.matches.0) in
      elim (cases_lt b (o - made.back)) [
        | inl before ↦
            inl (outside_of l i at.chosen (Some made) at.decided made_is b (inl before))
        | inr from ↦ elim (cases_lt b (o - made.back + made.len)) [
          | inr past ↦
              inl (outside_of l i at.chosen (Some made) at.decided made_is b (inr past))
          | inl less ↦ inr (elim (cases_lt b (o - w.back)) [
            | inl low ↦ inl (has_window.low l.section l.rewritten o b can.starts can.ends linked.same_length
                (subst (λ q. IsMade q o l.section l.rewritten) made_is
                (subst (λ d. IsDone d o l.section l.rewritten) at.decided (linked.done i at.below))) from low)
            | inr high ↦ inr (record {
              g = record {
                i = i;
                below = at.below;
                name = name;
                is_name = is_name;
                chosen = at.chosen;
                decided = at.decided;
                window = w;
                is = law.is;
              };
              first = high;
              last = elim (cases_lt b (o - inner.back + inner.len)) [
                | inl inside ↦
                    omega (arith, inside, has_window.back, has_window.ends, law.room.0)
                | inr past ↦ elim (has_window.outer o b can.starts (law.room.0) high (inr past)) [
                  | inl low ↦ absurd (omega (arith, low, from))
                  | inr out ↦ absurd (omega (arith, out, less))
                ]
              ];
            })
          ])
        ]
      ]

  by_decision : (i : ℕ) → i < count l → (d : Decision) → decision_at l.decisions i ≡ d
      → IsOutside l.relocations l.decisions i b ⊎ Shown
  by_decision i below Kept is = inl (spared l i Kept is refl b)
  by_decision i below Consumed is = inl (spared l i Consumed is refl b)
  by_decision i below (Rewritten chosen) is =
      let at = at_index l linked x86 i chosen below is in
      let t = has_table l i at in
      elim ((law_of_name laws l i at t.name t.is_name t.is).1) [
        | inl found ↦ in_window i at t.name t.is_name (found.0) (found.1)
        | inr none ↦ inl (spared l i (Rewritten chosen) is (ap window_of_rewrite (none.1)) b)
      ]
  by_decision i below (RewrittenWithSymbol chosen subject) is =
      absurd (without_label l linked.decided x86 unlabelled i chosen subject below is)

pub are_in : Groups → AreIn rewriting
are_in laws l linked x86 b =
    elim (each_or (λ i. IsOutside l.relocations l.decisions i b) (count l)
    (λ i below. by_decision laws l linked x86 b i below (decision_at l.decisions i) refl)) [
      | inl none ↦ inl (linked.others b none)
      | inr shown ↦ shown
    ]

-- ---- groups

pub rewrites_are_groups : Groups → RewritesAreGroups rewriting
rewrites_are_groups laws x c called l is k s g n k' s' both =
    let begins = both.1 in
    let at = at_index l (is_linked rewriting x called l is) (called.architecture l is) g.i g.chosen g.below g.decided in
    let law = law_there laws l g.i at g.name g.window g.is_name g.is in
    begins.by_law (law.law begins.alone begins.symbol begins.operands c s
    (final_in (λ addresses final. HasFinal addresses final c) x l is (both.0)) begins.pc begins.object)
