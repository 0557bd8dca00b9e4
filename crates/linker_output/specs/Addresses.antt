-- Sections of objects in which compilers keep addresses, as the GOT does.
use Rattle.linker_output.specs.declared.addresses.WordLoad.{WordLoad}
use Rattle.std.specs.Prelude.{option_and_then, option_map, ℕ, ◌==◌, if◌then◌else◌, List, [], ◌∷◌}
use Rattle.std.specs.Prelude.{Option, Some, None}

-- its name, and the types of the relocations that refer to its words
pub record AddressWords : Type 0 where
  pub name : List ℕ
  pub loads : List WordLoad

-- the `r_type` for an entry of the GOT in place of one for a word
abbrev pub entry_in : List WordLoad → ℕ → Option ℕ
entry_in [] r_type = None
entry_in (load ∷ loads) r_type =
    if load.word == r_type then Some load.entry else entry_in loads r_type

abbrev pub entry_r_type_of : Option AddressWords → ℕ → Option ℕ
entry_r_type_of section r_type = option_and_then (λ s. entry_in s.loads r_type) section

abbrev pub section_name : Option AddressWords → Option (List ℕ)
section_name = option_map (λ s. s.name)
