-- What linkers provide, at an index.
use Rattle.linker_utils_c.proofs.Imports.{List, Symbol, [], option_map, refl, slice_get, suc, view_run, view_runs, view_symbols, zero, ℕ, ◌∷◌, ◌≡◌}
use Rattle.linker_output.specs.declared.layout.SaveRestoreRoutines.{SaveRestoreRoutines}
use Rattle.linker_output.specs.declared.layout.ProvidedSymbol.{ProvidedSymbol}

abbrev pub view_symbol : ProvidedSymbol → Symbol
view_symbol s = record { name = s.name.now; place = s.place; offset = s.offset }

pub runs_at : (rs : List SaveRestoreRoutines) (n : ℕ) → slice_get (view_runs rs) n ≡ option_map view_run (slice_get rs n)
runs_at [] n = refl
runs_at (r ∷ rs) zero = refl
runs_at (r ∷ rs) (suc n) = runs_at rs n

pub symbols_at : (ss : List ProvidedSymbol) (n : ℕ) → slice_get (view_symbols ss) n ≡ option_map view_symbol (slice_get ss n)
symbols_at [] n = refl
symbols_at (s ∷ ss) zero = refl
symbols_at (s ∷ ss) (suc n) = symbols_at ss n
