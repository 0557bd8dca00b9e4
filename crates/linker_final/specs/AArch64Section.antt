-- AArch64: what the rewrites of a section are, and where they begin in a run of old.
use Rattle.linker_final.specs.Imports.{AArch64, Addresses, Agree, Choice, IsAddressRewritten}
use Rattle.linker_final.specs.Imports.{IsDescriptorRewritten, IsLoadRewritten, IsNameOf, Kinds}
use Rattle.linker_final.specs.Imports.{Operands, Relaxation, Rewritten, State, Symbol, anything}
use Rattle.linker_final.specs.Imports.{decision_at, go_to, half, loaded, operands_with, page, put}
use Rattle.linker_final.specs.Imports.{relocation_in, same, sum_64, with_register, word_of}
use Rattle.linker_laws.specs.Schemes.{AreAddresses, following, plt_address, symbol_address}
use Rattle.linker_laws.specs.Schemes.{thread_offset}
use Rattle.std.specs.Prelude.{IsSomeAnd, List, Some, false, length, slice_get, ℕ, ◌≡◌, ◌+◌, ◌<◌}
use Rattle.std.specs.Prelude.{◌≤◌, ◌≢◌, ◌*◌, ◌^◌, ◌⊎◌}
use Rattle.linker_utils.specs.AArch64Rewrites.{rd_of}
use Rattle.linker_elf.specs.AArch64Relocations.{aarch64_name, aarch64_row}
use Rattle.linker_elf.specs.declared.aarch64.relocations.AArch64Relocation.{AArch64Relocation}
use Rattle.linker_final.specs.Final.{IsBesideAll, IsLinked, IsPhase, IsRewrittenByNoOther}
use Rattle.linker_final.specs.Final.{IsWrittenByNoOther, Linked, Rewriting, Section}
use Rattle.linker_final.specs.Final.{UntouchedInstruction, UntouchedInstructions, count}
use Rattle.linker_final.specs.Final.{instruction_at, offset_of, two_at}
use Rattle.linker_laws.specs.AArch64Groups.{Code, Descriptor, Has, go_and_link, link}
use Rattle.linker_laws.specs.AArch64Machine.{load_64}
use Rattle.linker_elf.specs.declared.aarch64.relocations.AArch64Relocation.TheVariants as names
use Rattle.linker_utils.specs.declared.aarch64.rewrites.RewriteKind.TheVariants as kinds

-- ---- what is rewritten

-- the relocation at an index has a name, and its instruction is rewritten
pub record IsRewrittenOf (l : Linked) (name : AArch64Relocation) (i : ℕ) : Type 0 where
  pub below : i < count l
  pub is_name : IsNameOf aarch64_name (relocation_in l.relocations i).r_type name
  pub chosen : Choice Relaxation ℕ
  pub decided : decision_at l.decisions i ≡ Rewritten chosen

-- Instructions that are rewritten together, by the index of the first relocation. A descriptor's
-- first two become those of two kinds.
pub data Rewrites (l : Linked) : Type 0 where
  load : (i : ℕ) → IsLoadRewritten l.relocations l.decisions i → Rewrites l
  address : (i : ℕ) → IsAddressRewritten l.relocations l.decisions i → Rewrites l
  to_local : (i : ℕ)
      → IsDescriptorRewritten kinds.MovzX0Lsl16 kinds.MovkX0 l.relocations l.decisions i → Rewrites l
  to_initial : (i : ℕ)
      → IsDescriptorRewritten kinds.AdrpX0 kinds.LdrX0 l.relocations l.decisions i → Rewrites l
  high : (i : ℕ) → IsRewrittenOf l names.R_AARCH64_TLSIE_ADR_GOTTPREL_PAGE21 i → Rewrites l
  low : (i : ℕ) → IsRewrittenOf l names.R_AARCH64_TLSIE_LD64_GOTTPREL_LO12_NC i → Rewrites l
  jump : (i : ℕ) → IsRewrittenOf l names.R_AARCH64_JUMP26 i → Rewrites l
  call : (i : ℕ) → IsRewrittenOf l names.R_AARCH64_CALL26 i → Rewrites l

-- the offset of the first one, and how many they are
abbrev pub span : (l : Linked) → Rewrites l → ℕ × ℕ
span l (load i of) = (offset_of l i, 2)
span l (address i of) = (offset_of l i, 2)
span l (to_local i of) = (offset_of l i, 4)
span l (to_initial i of) = (offset_of l i, 4)
span l (high i of) = (offset_of l i, 1)
span l (low i of) = (offset_of l i, 1)
span l (jump i of) = (offset_of l i, 1)
span l (call i of) = (offset_of l i, 1)

-- new has the final bytes
abbrev pub HasFinal : Addresses → List ℕ → Code → Type 0
HasFinal addresses final c =
    (at : ℕ) → at + 4 ≤ length final
    → loaded 4 c.new (sum_64 addresses.section at) ≡ word_of (instruction_at final at)

-- ---- where old comes to it

-- Old comes to the instruction of a relocation. Its operands are those by the row of a name, with
-- a GOT entry anywhere.
pub record ComesTo (l : Linked) (s : State) (name : AArch64Relocation) (i : ℕ) (o : Operands)
    : Type 0 where
  pub pc : s.pc ≡ o.place
  pub small : AreAddresses o
  pub symbol : Symbol
  pub is_symbol : slice_get l.symbols (relocation_in l.relocations i).symbol ≡ Some symbol
  pub are :
      IsSomeAnd (aarch64_row name)
      (λ row. o
      ≡ operands_with AArch64 l.addresses row symbol (relocation_in l.relocations i) o.got_entry)

-- the object's instruction of a relocation
abbrev pub object : Linked → ℕ → List ℕ
object l i = instruction_at l.section (offset_of l i)

abbrev pub register : List ℕ → ℕ
register instruction = rd_of (word_of instruction)

-- A later phase gets the load whose first relocation has an index as this one left it (`phases`
-- says when), and makes an `adr` of it. Phases after that, and other relocations, leave it alone.
pub record IsRewrittenAgain (x : Section) (l : Linked) (i : ℕ) : Type 0 where
  pub again : Linked
  pub is_phase : IsPhase x again
  pub relocation : relocation_in again.relocations i ≡ relocation_in l.relocations_after i
  pub bytes : two_at again.section (offset_of l i) ≡ two_at l.rewritten (offset_of l i)
  pub address : IsAddressRewritten again.relocations again.decisions i
  pub untouched : UntouchedInstructions again i (i + 1)
  pub alone : IsWrittenByNoOther again i (offset_of again i)

-- Later phases, and other relocations, leave alone what became of a descriptor.
pub record IsDescriptorLeft (l : Linked) (i : ℕ) : Type 0 where
  pub first : UntouchedInstructions l i (i + 1)
  pub second : UntouchedInstructions l (i + 2) (i + 3)
  pub add : IsWrittenByNoOther l (i + 2) (offset_of l (i + 2))
  pub call : IsWrittenByNoOther l (i + 3) (offset_of l (i + 3))

-- Old comes to instructions that are rewritten together. It has the object's, with the values of
-- their relocations. Later phases and other relocations leave them alone, or a load becomes an
-- `adr`, and what else their law requires holds. The GOT's entry of a descriptor's offset has the
-- number that the function returns, whatever state of new agrees. They leave kinds and a state.
pub data Begins (x : Section) (l : Linked) (c : Code) (k : Kinds) (s : State)
    : Rewrites l → Kinds → State → Type 0
  where
    at_load : (i : ℕ) (of : IsLoadRewritten l.relocations l.decisions i) (o : Operands)
        (at : ComesTo l s names.R_AARCH64_ADR_GOT_PAGE i o) → at.symbol.is_undefined_weak ≡ false
        → IsRewrittenByNoOther l i (offset_of l i)
        → UntouchedInstructions l i (i + 1) ⊎ IsRewrittenAgain x l i
        → load_64 s.memory o.got_entry ≡ symbol_address o
        → Has c.old names.R_AARCH64_ADR_GOT_PAGE o (object l i)
        → Has c.old names.R_AARCH64_LD64_GOT_LO12_NC (following 4 o) (object l (i + 1))
        → Begins x l c k s (load i of) (with_register (register (object l (i + 1))) same k)
        (put (register (object l (i + 1))) (symbol_address o) (sum_64 o.place 8) s)
    at_address : (i : ℕ) (of : IsAddressRewritten l.relocations l.decisions i) (o : Operands)
        (at : ComesTo l s names.R_AARCH64_ADR_PREL_PG_HI21 i o)
        → at.symbol.is_undefined_weak ≡ false
        → UntouchedInstructions l i (i + 1) → IsWrittenByNoOther l i (offset_of l i)
        → Has c.old names.R_AARCH64_ADR_PREL_PG_HI21 o (two_at l.section (offset_of l i))
        → Has c.old names.R_AARCH64_ADD_ABS_LO12_NC (following 4 o) (object l (i + 1))
        → Begins x l c k s (address i of) (with_register (register (object l (i + 1))) same k)
        (put (register (object l (i + 1))) (symbol_address o) (sum_64 o.place 8) s)
    at_local : (i : ℕ)
        (of : IsDescriptorRewritten kinds.MovzX0Lsl16 kinds.MovkX0 l.relocations l.decisions i)
        (o : Operands) (k' : Kinds) (s' : State)
        → ComesTo l s names.R_AARCH64_TLSLE_MOVW_TPREL_G1 i o → IsDescriptorLeft l i
        → Descriptor c o (thread_offset o) k s k' s' (object l i) (object l (i + 1))
        (object l (i + 2)) (object l (i + 3)) → Begins x l c k s (to_local i of) k' s'
    at_initial : (i : ℕ)
        (of : IsDescriptorRewritten kinds.AdrpX0 kinds.LdrX0 l.relocations l.decisions i)
        (o : Operands) (k' : Kinds) (s' : State) (offset : ℕ)
        (at : ComesTo l s names.R_AARCH64_TLSLE_MOVW_TPREL_G1 i o) → IsDescriptorLeft l i
        → at.symbol.thread_entry < 2 ^ 64
        → ((t : State) → Agree (link c) k s t → load_64 t.memory at.symbol.thread_entry ≡ offset)
        → Descriptor c o offset k s k' s' (object l i) (object l (i + 1)) (object l (i + 2))
        (object l (i + 3)) → Begins x l c k s (to_initial i of) k' s'
    at_high : (i h : ℕ) (of : IsRewrittenOf l names.R_AARCH64_TLSIE_ADR_GOTTPREL_PAGE21 i)
        (o : Operands) → ComesTo l s names.R_AARCH64_TLSLE_MOVW_TPREL_G1 i o
        → UntouchedInstruction l i → c.entry h ≡ o.got_entry → c.offset h ≡ thread_offset o
        → register (object l i) ≢ 31
        → Has c.old names.R_AARCH64_TLSIE_ADR_GOTTPREL_PAGE21 o (object l i)
        → Begins x l c k s (high i of) (with_register (register (object l i)) (half h) k)
        (put (register (object l i)) (page o.got_entry) (sum_64 o.place 4) s)
    at_low : (i h : ℕ) (of : IsRewrittenOf l names.R_AARCH64_TLSIE_LD64_GOTTPREL_LO12_NC i)
        (o : Operands) → ComesTo l s names.R_AARCH64_TLSLE_MOVW_TPREL_G1 i o
        → UntouchedInstruction l i → c.entry h ≡ o.got_entry → c.offset h ≡ thread_offset o
        → load_64 s.memory o.got_entry ≡ thread_offset o
        → k.registers (register (object l i)) ≡ half h
        → s.registers (register (object l i)) ≡ page o.got_entry
        → Has c.old names.R_AARCH64_TLSIE_LD64_GOTTPREL_LO12_NC o (object l i)
        → Begins x l c k s (low i of) (with_register (register (object l i)) same k)
        (put (register (object l i)) (thread_offset o) (sum_64 o.place 4) s)
    at_jump : (i : ℕ) (of : IsRewrittenOf l names.R_AARCH64_JUMP26 i) (o : Operands)
        → ComesTo l s names.R_AARCH64_JUMP26 i o → UntouchedInstruction l i
        → IsWrittenByNoOther l i (offset_of l i) → plt_address o ≡ sum_64 o.place 4
        → Has c.old names.R_AARCH64_JUMP26 o (object l i)
        → Begins x l c k s (jump i of) k (go_to (sum_64 o.place 4) s)
    at_call : (i : ℕ) (of : IsRewrittenOf l names.R_AARCH64_CALL26 i) (o : Operands)
        → ComesTo l s names.R_AARCH64_CALL26 i o → UntouchedInstruction l i
        → IsWrittenByNoOther l i (offset_of l i) → plt_address o ≡ sum_64 o.place 4
        → Has c.old names.R_AARCH64_CALL26 o (object l i)
        → Begins x l c k s (call i of) (with_register 30 anything k)
        (go_and_link (sum_64 o.place 4) s)

abbrev pub rewriting : Rewriting
rewriting =
    record {
      architecture = AArch64;
      Code = Code;
      link = link;
      Ensured = IsLinked;
      Stays = IsBesideAll;
      Rewrites = Rewrites;
      span = λ l g. ((span l g).0, (span l g).0 + 4 * (span l g).1);
      Begins =
          λ x l c k s g n k' s'. (n ≡ (span l g).1) × HasFinal x.addresses x.final c
          × Begins x l c k s g k' s';
    }
