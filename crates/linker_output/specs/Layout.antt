-- Code's shortest instruction, and the path of the dynamic linker.
use Rattle.std.specs.Prelude.{ℕ, ◌+◌, ◌-◌, ◌*◌, ◌/◌, ◌%◌, ◌^◌, nat_lt, length, slice_get, ◌==◌}
use Rattle.std.specs.Prelude.{bit_and, if◌then◌else◌, List, [], ◌∷◌, Option, Some, None}
use Rattle.linker_output.specs.Imports.{CodeUnit}
use Rattle.linker_output.specs.declared.layout.RunWord.{RunWord}

abbrev pub unit_by : CodeUnit → ℕ → ℕ
unit_by unit flags = if bit_and flags unit.flag == 0 then unit.len else unit.flagged_len

-- Functions that linkers provide, one after the other: one or two words of each, and then the
-- words that all of them end with.
pub record Run : Type 0 where
  pub prefix : List ℕ
  pub first : ℕ
  pub count : ℕ
  pub word : ℕ
  pub step : ℕ
  pub second : Option RunWord
  pub tail : List ℕ

-- how many words there are from one function to the next
abbrev pub spacing_with : Option RunWord → ℕ
spacing_with None = 1
spacing_with (Some second) = 2

abbrev pub run_spacing : Run → ℕ
run_spacing run = spacing_with run.second

abbrev pub run_len : Run → ℕ
run_len run = run.count * run_spacing run + length run.tail

-- a word of a function, by its place in the run
abbrev pub stepped : ℕ → ℕ → ℕ → ℕ
stepped word step function = (word + step * function) % 2 ^ 32

abbrev pub own_word : Run → Option RunWord → ℕ → ℕ
own_word run None index = stepped run.word run.step index
own_word run (Some second) index =
    if index % 2 == 0 then stepped run.word run.step (index / 2)
    else stepped second.word second.step (index / 2)

abbrev pub run_word : Run → ℕ → Option ℕ
run_word run index =
    if nat_lt index (run.count * run_spacing run) then Some (own_word run run.second index)
    else slice_get run.tail (index - run.count * run_spacing run)

-- a path, and the bits of `e_flags` that it is for
pub record Path : Type 0 where
  pub flags : ℕ
  pub path : List ℕ

abbrev pub path_in : List Path → ℕ → Option (List ℕ)
path_in [] flags = None
path_in (path ∷ paths) flags = if path.flags == flags then Some path.path else path_in paths flags

-- by those bits of `e_flags` that paths depend on
abbrev pub path_of : List Path → ℕ → ℕ → Option (List ℕ)
path_of paths mask flags = path_in paths (bit_and flags mask)
