-- The instructions that an entry of the code's table of choices is for.
use Rattle.linker_utils.specs.Imports.{List, LoongArch64Relocation, Tables, ℕ}
use Rattle.linker_utils.specs.LoongArchRewrites.{IsAfter, IsSingle, IsPageOfDescriptor}
use Rattle.linker_utils.specs.LoongArchRewrites.{IsLowOfDescriptor, IsLoadOfDescriptor}
use Rattle.linker_utils.specs.LoongArchRewrites.{IsCallOfDescriptor, IsPcalau12i, IsPair}
use Rattle.linker_utils.specs.LoongArchRewrites.{IsAddi, IsLd, IsLu12i, IsAddTp}
use Rattle.linker_utils.specs.LoongArchRewrites.{loongarch_matches, loongarch_entries}
use Rattle.linker_utils.specs.LoongArchRewrites.{HasPattern, IsLowOverOther}
use Rattle.linker_utils.specs.declared.loongarch64.choices.Pattern.{Pattern}
use Rattle.linker_utils.specs.declared.loongarch64.choices.Pattern.TheVariants as pattern
use Rattle.linker_utils.specs.declared.loongarch64.rewrites.RewriteKind.{RewriteKind}
use Rattle.linker_utils.specs.declared.loongarch64.rewrites.RewriteKind.TheVariants as kinds

abbrev pub matches_pattern : Pattern → RewriteKind → List ℕ → ℕ → Type 0
matches_pattern pattern.OfRewrite kind = loongarch_matches kind
matches_pattern pattern.Load kind = IsPair IsLd
matches_pattern pattern.LowOfLoad kind = IsAfter 4 (IsPair IsLd)
matches_pattern pattern.Sum kind = IsPair IsAddi
matches_pattern pattern.LowOfSum kind = IsAfter 4 (IsPair IsAddi)
matches_pattern pattern.Pcalau12i kind = IsSingle IsPcalau12i
matches_pattern pattern.Ld kind = IsSingle IsLd
matches_pattern pattern.PageOfDescriptor kind = IsSingle IsPageOfDescriptor
matches_pattern pattern.LowOfDescriptor kind = IsSingle IsLowOfDescriptor
matches_pattern pattern.LoadOfDescriptor kind = IsSingle IsLoadOfDescriptor
matches_pattern pattern.CallOfDescriptor kind = IsSingle IsCallOfDescriptor
matches_pattern pattern.Lu12i kind = IsSingle IsLu12i
matches_pattern pattern.AddTp kind = IsSingle IsAddTp
matches_pattern pattern.LowOverOther kind = IsSingle IsLowOverOther

-- the tables; no rewrite moves the place or changes the addend
abbrev pub loongarch_tables : Tables RewriteKind LoongArch64Relocation
loongarch_tables =
    record {
      entries = λ name section o. loongarch_entries name;
      required = λ name at p. HasPattern name;
      after = λ kind o operands. operands;
      no_op = kinds.NoOp;
    }
