-- PowerPC64: what the rewrites of a section are, and where they begin in a run of old (64-bit ELF
-- V2 ABI for Power, "TOC Optimizations" and "TLS Linkage Optimizations").
use Rattle.std.specs.Prelude.{◌≡◌, ◌⊎◌, ℕ, ◌+◌, ◌-◌, ◌*◌, ◌<◌, ◌≤◌, IsSomeAnd, List, take, drop}
use Rattle.std.specs.Prelude.{get_or, slice_get, Some, ◌≢◌}
use Rattle.linker_final.specs.Imports.{Choice, Decision, Group, IsNameOf, IsNamed, Kinds}
use Rattle.linker_final.specs.Imports.{NotRelaxable, Ppc64, Relaxation, Rewritten, State, Symbol}
use Rattle.linker_final.specs.Imports.{decision_at, of_link, operands_with, ppc64_scope_in}
use Rattle.linker_final.specs.Imports.{r_type_of, relocation_in, sum_64}
use Rattle.linker_elf.specs.Ppc64Relocations.{ppc64_name, ppc64_row}
use Rattle.linker_elf.specs.declared.ppc64.relocations.Ppc64Relocation.{Ppc64Relocation}
use Rattle.linker_final.specs.Final.{AreRewritten, IsLinked, IsRewrittenByNoOther, Linked}
use Rattle.linker_final.specs.Final.{Rewriting, Section, UntouchedByOthers, UntouchedBytes, count}
use Rattle.linker_final.specs.Final.{offset_of}
use Rattle.linker_laws.specs.Ppc64Groups.{Code, Has, Law, Left, Stands, applied, law_of, link}
use Rattle.linker_laws.specs.Ppc64Groups.{name_of, to_second}
use Rattle.linker_utils.specs.declared.ppc64.rewrites.RewriteKind.{RewriteKind}
use Rattle.linker_elf.specs.declared.ppc64.relocations.Ppc64Relocation.TheVariants as names
use Rattle.linker_utils.specs.declared.architecture.Relaxation.TheVariants as relaxations
use Rattle.linker_utils.specs.declared.ppc64.rewrites.RewriteKind.TheVariants as kinds

-- ---- what is rewritten

-- what is at the relocation with an index
pub record Rewrites (l : Linked) : Type 0 where
  pub i : ℕ
  pub below : i < count l
  pub name : Ppc64Relocation
  pub is_name : IsNameOf ppc64_name (relocation_in l.relocations i).r_type name
  pub chosen : Choice Relaxation ℕ
  pub decided : decision_at l.decisions i ≡ Rewritten chosen

abbrev pub kind_by : Relaxation → RewriteKind
kind_by (relaxations.Ppc64 kind) = kind
kind_by kind = kinds.NoOp

abbrev pub kind_of : Decision → RewriteKind
kind_of (Rewritten chosen) = kind_by chosen.kind
kind_of decision = kinds.NoOp

abbrev pub kind_at : Linked → ℕ → RewriteKind
kind_at l i = kind_of (decision_at l.decisions i)

-- By what becomes of it, and the offset of its relocation: the offset of the first word, and how
-- many words it has. A mark is at the second byte of an instruction. Of a call that may change r2
-- it is the `nop` after it.
abbrev pub shape : RewriteKind → ℕ → ℕ × ℕ
shape kinds.NoOp o = (o, 0)
shape kinds.NopToRestoreToc o = (o + 4, 1)
shape kinds.AddToMove o = (o - 1, 1)
shape kinds.IndexedToDirect o = (o - 1, 1)
shape kinds.PldToPaddi o = (o, 2)
shape kinds.PldToPaddiThread o = (o, 2)
shape kinds.PaddiToPaddiThread o = (o, 2)
shape kinds.PaddiToPld o = (o, 2)
shape kinds.PaddiToPaddi4096 o = (o, 2)
shape kinds.CallToAddi o = (o, 2)
shape kinds.CallToAdd o = (o, 2)
shape kinds.CallToAddi4096 o = (o, 2)
shape kind o = (o, 1)

abbrev pub shape_at : Linked → ℕ → ℕ × ℕ
shape_at l i = shape (kind_at l i) (offset_of l i)

abbrev pub span : Linked → ℕ → ℕ × ℕ
span l i = ((shape_at l i).0, (shape_at l i).0 + 4 * (shape_at l i).1)

-- In a phase a byte is the same, and nothing has it that is rewritten.
pub record Stays (l : Linked) (b : ℕ) : Type 0 where
  pub same : get_or l.rewritten b 0 ≡ get_or l.section b 0
  pub apart : (i : ℕ) → i < count l → (b < (span l i).0) ⊎ ((span l i).1 ≤ b)

-- ---- their laws

abbrev pub law_at : (l : Linked) → Rewrites l → Law
law_at l g = law_of g.name (kind_at l g.i)

-- the words before and after are a group
abbrev pub GroupAt : (l : Linked) → Rewrites l → List ℕ → List ℕ → Type 0
GroupAt l g = (law_at l g).IsGroup g.name (name_of (law_at l g).left)

-- ---- where old comes to them

-- the words before or after
abbrev pub words_at : Linked → ℕ → List ℕ → List ℕ
words_at l i bytes = take (4 * (shape_at l i).1) (drop (shape_at l i).0 bytes)

-- the GOT entry that a relocation takes: that of a variable's offset, or any
abbrev pub entry_by : Ppc64Relocation → Symbol → ℕ → ℕ
entry_by names.R_PPC64_GOT_TPREL16_HA symbol any = symbol.thread_entry
entry_by names.R_PPC64_GOT_TPREL16_LO_DS symbol any = symbol.thread_entry
entry_by names.R_PPC64_GOT_TPREL16_DS symbol any = symbol.thread_entry
entry_by names.R_PPC64_GOT_TPREL_PCREL34 symbol any = symbol.thread_entry
entry_by name symbol any = any

-- At an address new has n words with the relocation applied that is left.
abbrev pub HasApplied : Ppc64Relocation → Linked → ℕ → Symbol → ℕ → Code → ℕ → ℕ → List ℕ → Type 0
HasApplied name l i symbol any c n at words =
    IsSomeAnd (ppc64_row name)
    (λ row. Has n c.new at name
    (operands_with Ppc64 l.addresses row symbol (relocation_in l.relocations_after i)
    (entry_by name symbol any)) words)

abbrev pub IsMade : Left → Linked → ℕ → Symbol → ℕ → Code → ℕ → ℕ → List ℕ → Type 0
IsMade (applied name) l i symbol any c n at words = HasApplied name l i symbol any c n at words
IsMade (to_second name) l i symbol any c n at words =
    Stands 1 c.new at words × HasApplied name l i symbol any c 1 (sum_64 at 4) (drop 4 words)
IsMade left l i symbol any c n at words = Stands n c.new at words

-- Later phases leave n bytes from a start on alone. So do other relocations, unless the one that is
-- left is applied to all of them.
abbrev pub AreLeftAlone : Left → Linked → ℕ → ℕ → ℕ → Type 0
AreLeftAlone (applied name) = UntouchedBytes
AreLeftAlone left = UntouchedByOthers

-- New has the final bytes, which are left alone. Or new has what this phase leaves, with its
-- relocation applied, as code between two phases has.
abbrev pub IsNew : (l : Linked) → Code → State → Rewrites l → Symbol → ℕ → Type 0
IsNew l c s g symbol any =
    (AreLeftAlone (law_at l g).left l g.i (span l g.i).0 (4 * (shape_at l g.i).1)
    × Stands (shape_at l g.i).1 c.new s.pc (drop (span l g.i).0 l.final))
    ⊎ IsMade (law_at l g).left l g.i symbol any c (shape_at l g.i).1 s.pc
    (words_at l g.i l.rewritten)

-- Old comes to what is rewritten, and new has what became of it. What else its law requires holds,
-- as that old has the words before with their relocation applied. So by it new executes n
-- instructions, and they leave kinds and a state.
pub record Begins (x : Section) (l : Linked) (c : Code) (k : Kinds) (s : State) (g : Rewrites l)
    (n : ℕ) (k' : Kinds) (s' : State) : Type 0 where
  pub pc : s.pc ≡ sum_64 l.addresses.section (span l g.i).0
  pub alone : IsRewrittenByNoOther l g.i (span l g.i).0
  pub symbol : Symbol
  pub is_symbol : slice_get l.symbols (relocation_in l.relocations_after g.i).symbol ≡ Some symbol
  pub entry : ℕ
  pub new : IsNew l c s g symbol entry
  pub by_law : GroupAt l g (words_at l g.i l.section) (words_at l g.i l.rewritten)
      → IsMade (law_at l g).left l g.i symbol entry c (shape_at l g.i).1 s.pc
      (words_at l g.i l.rewritten) → Group (of_link (link c)) n k s k' s'

abbrev pub rewriting : Rewriting
rewriting =
    record {
      architecture = Ppc64;
      Code = Code;
      link = link;
      Ensured = IsLinked;
      Stays = Stays;
      Rewrites = Rewrites;
      span = λ l g. span l g.i;
      Begins = Begins;
    }

-- ---- what a rewrite leaves

-- A rewrite leaves the relocation that its law is of (`relocation_after`).
abbrev pub NamesAreLeft : Type 0
NamesAreLeft =
    (l : Linked) → IsLinked l → l.context.architecture ≡ Ppc64 → (g : Rewrites l)
    → g.chosen.relocation ≡ r_type_of (ppc64_name (name_of (law_at l g).left))

-- ---- what is rewritten again

-- What a phase rewrites has a name that the phase lists (`ppc64_scope_in`). So what a rewrite
-- leaves is rewritten again only in a phase that lists the name of the relocation that it leaves.
abbrev pub RewrittenAgain : Type 0
RewrittenAgain =
    (l : Linked) → AreRewritten l → l.context.architecture ≡ Ppc64 → (g : Rewrites l)
    → IsNamed (ppc64_name g.name) → ppc64_scope_in l.context.phase g.name ≢ NotRelaxable
