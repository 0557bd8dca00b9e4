-- Symbols by look-up: what a linker knows of the symbol of each relocation, and the values by that.
use Rattle.std.specs.Prelude.{ℕ, pos, ◌==◌, false, if◌then◌else◌}
use Rattle.std.specs.Prelude.{List, slice_get, Option, Some, None, option_map}
use Rattle.linker_section.specs.Imports.{Entry, Rela, Symbol}
use Rattle.linker_section.specs.Known.{Known, Knowledge, by_known}
use Rattle.linker_section.specs.Sections.{Values}
use Rattle.linker_section.specs.declared.resolved.Resolved.{Resolved}

-- what is known of the symbol of a relocation with an index
abbrev pub Lookup : Type 0
Lookup = ℕ → Rela → Option Resolved

-- an array has it at the index
abbrev pub by_relocation : List Resolved → Lookup
by_relocation known i r = slice_get known i

-- The same as of a symbol in a table, whose entries aren't read. Its size stands in place of S.
abbrev pub symbol_of : Resolved → Symbol
symbol_of known = record {
  address = known.address;
  size = known.address;
  stub = known.stub;
  address_entry = 0;
  thread_entry = 0;
  module_entry = 0;
  descriptor = 0;
  entry_addend = pos 0;
  other = known.other;
  is_thread_local = false;
  is_undefined_weak = known.is_undefined_weak;
}

-- the address of the entry that a relocation requires: 0 where it requires none, and none where it
-- requires one that there isn't
abbrev pub entry_at : ℕ → Option Entry → Option ℕ
entry_at address None = Some 0
entry_at address (Some entry) = if address == 0 then None else Some address

-- what a linker resolved, as what is known of a symbol
abbrev pub known_of : Resolved → Known
known_of known = record {
  symbol = symbol_of known;
  entry = λ addresses. entry_at known.entry;
  is_left_out = known.is_left_out;
}

-- ---- values

-- what is known of symbols by a look-up
abbrev pub known_by : Lookup → Knowledge
known_by lookup i r = option_map known_of (lookup i r)

-- the values of a section's relocations by a look-up
abbrev pub by_lookup : Lookup → Values
by_lookup lookup = by_known (known_by lookup)
