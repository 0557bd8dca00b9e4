-- The instructions that the entries of AArch64's tables of choices are for.
use Rattle.linker_utils.specs.Imports.{AArch64Relocation, HasWord, List, Tables, ℕ}
use Rattle.std.specs.Prelude.{◌+◌}
use Rattle.linker_utils.specs.AArch64Rewrites.{IsEntryLoad, IsOfDescriptor, IsBranch, IsCall}
use Rattle.linker_utils.specs.AArch64Rewrites.{aarch64_matches, aarch64_entries, HasPattern}
use Rattle.linker_utils.specs.declared.aarch64.choices.Pattern.{Pattern}
use Rattle.linker_utils.specs.declared.aarch64.choices.Pattern.TheVariants as originals
use Rattle.linker_utils.specs.declared.aarch64.rewrites.RewriteKind.{RewriteKind}
use Rattle.linker_utils.specs.declared.aarch64.rewrites.RewriteKind.TheVariants as kinds

-- what an entry with a rewrite is for is at an offset of a section
abbrev pub MatchesPattern : Pattern → RewriteKind → List ℕ → ℕ → Type 0
MatchesPattern originals.OfRewrite kind section o = aarch64_matches kind section o
MatchesPattern originals.AdrpOfPair kind section o = IsEntryLoad section (o + 4)
MatchesPattern originals.LdrOfPair kind section o = IsEntryLoad section o
MatchesPattern (originals.OfDescriptor back) kind section o = IsOfDescriptor back section o
MatchesPattern originals.Bl kind section o = HasWord section o IsCall
MatchesPattern originals.B kind section o = HasWord section o IsBranch

-- the tables; no rewrite moves the place or changes the addend
abbrev pub aarch64_tables : Tables RewriteKind AArch64Relocation
aarch64_tables =
    record {
      entries = λ name section o. aarch64_entries name;
      required = λ name at p kind section o. aarch64_matches kind section o
          × HasPattern name section o;
      after = λ kind o operands. operands;
      no_op = kinds.NoOp;
    }
