-- The tables of choices of PowerPC64, and the instructions that their entries are for.
use Rattle.linker_utils.specs.Imports.{List, Ppc64Relocation, Tables, ℕ}
use Rattle.linker_utils.specs.Ppc64Rewrites.{ppc64_matches, ppc64_entries}
use Rattle.linker_utils.specs.declared.ppc64.choices.Pattern.{Pattern}
use Rattle.linker_utils.specs.declared.ppc64.rewrites.RewriteKind.{RewriteKind}
use Rattle.linker_utils.specs.declared.ppc64.rewrites.RewriteKind.TheVariants as kinds

abbrev pub MatchesPattern : Pattern → RewriteKind → List ℕ → ℕ → Type 0
MatchesPattern originals = ppc64_matches

-- the tables; no condition is on what counts from a place that a rewrite moves
abbrev pub ppc64_tables : Tables RewriteKind Ppc64Relocation
ppc64_tables =
    record {
      entries = λ name section o. ppc64_entries name;
      required = λ name at p. ppc64_matches;
      after = λ kind o operands. operands;
      no_op = kinds.NoOp;
    }
