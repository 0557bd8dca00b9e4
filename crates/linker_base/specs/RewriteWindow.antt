-- The window of a rewrite in numbers.
use Rattle.std.specs.Prelude.{◌≡◌, ◌≤◌, ◌+◌, ◌-◌, ◌⊎◌, ℕ, List, length, Option, None, Some}
use Rattle.linker_base.specs.Rewrite.{Rewrite}
use Rattle.linker_base.specs.declared.rewrite.RewriteWindow.{RewriteWindow}

-- a rewrite of none changes no byte
abbrev pub window_of_rewrite : Option Rewrite → RewriteWindow
window_of_rewrite None = record { back = 0; len = 0 }
window_of_rewrite (Some r) = record { back = r.back; len = r.len }

-- it lies in the section; one of no bytes does at any offset
abbrev pub IsWindowIn : RewriteWindow → List ℕ → ℕ → Type 0
IsWindowIn window section o =
    (window.len ≡ 0) ⊎ ((window.back ≤ o) × (o - window.back + window.len ≤ length section))
