-- What a site of LoongArch becomes that keeps its instructions, by its kind.
use Rattle.linker_runs.specs.Imports.{Address, Call, Kind, List, drop, sum_64, take, ℕ}
use Rattle.linker_runs.specs.Sites.{IsRelocated}
use Rattle.linker_runs.specs.LoongArchSites.{call_template, high_template, low_template}
use Rattle.linker_runs.specs.LoongArchSites.{ArePagesNear}

-- The pair's relocations are applied, and it can compute the target.
pub record AreRelocated (section : List ℕ) (o place target : ℕ) (written : List ℕ) : Type 0 where
  pub pages : ArePagesNear place target
  pub high : IsRelocated (high_template section o) place target (take 4 written)
  pub low : IsRelocated (low_template section o) (sum_64 place 4) target (drop 4 written)

-- the instructions as they are, with their relocations applied
abbrev pub IsLongOf : List ℕ → ℕ → Kind → ℕ → ℕ → List ℕ → Type 0
IsLongOf section o Call place target written =
    IsRelocated (call_template section o) place target written
IsLongOf section o Address place target written = AreRelocated section o place target written
