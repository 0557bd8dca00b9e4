-- The instructions that the entries of RISC-V's tables of choices are for.
use Rattle.linker_utils.specs.Imports.{HasWord, List, RiscVRelocation, Tables, ℕ}
use Rattle.linker_utils.specs.RiscVRewrites.{riscv_matches, IsLui, IsAuipc, IsLd, IsAddTp}
use Rattle.linker_utils.specs.RiscVRewrites.{IsAddiToA0, IsLowOverOther, HasPattern}
use Rattle.linker_utils.specs.RiscVRewrites.{riscv_entries}
use Rattle.linker_utils.specs.declared.riscv64.choices.Pattern.{Pattern}
use Rattle.linker_utils.specs.declared.riscv64.choices.Pattern.TheVariants as originals
use Rattle.linker_utils.specs.declared.riscv64.rewrites.RewriteKind.{RewriteKind}
use Rattle.linker_utils.specs.declared.riscv64.rewrites.RewriteKind.TheVariants as kinds

-- what an entry with a rewrite is for is at an offset of a section
abbrev pub IsThere : Pattern → RewriteKind → List ℕ → ℕ → Type 0
IsThere originals.OfRewrite kind section o = riscv_matches kind section o
IsThere originals.Lui kind section o = HasWord section o IsLui
IsThere originals.AddTp kind section o = HasWord section o IsAddTp
IsThere originals.Auipc kind section o = HasWord section o IsAuipc
IsThere originals.Ld kind section o = HasWord section o IsLd
IsThere originals.AddiToA0 kind section o = HasWord section o IsAddiToA0
IsThere originals.LowOverOther kind section o = HasWord section o IsLowOverOther

-- the tables; no rewrite moves the place or changes the addend
abbrev pub riscv_tables : Tables RewriteKind RiscVRelocation
riscv_tables =
    record {
      entries = λ name section o. riscv_entries name;
      required = λ name at p. HasPattern name;
      after = λ kind o operands. operands;
      no_op = kinds.NoOp;
    }
