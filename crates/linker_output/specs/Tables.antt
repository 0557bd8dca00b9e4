-- The vocabulary of the architectures' tables.
use Rattle.std.specs.Prelude.{ℕ, ℤ, List, [], ◌∷◌, ◌++◌, Option, Some, None, pos}
use Rattle.linker_output.specs.Imports.{Architecture, BelowImage, CodeUnit, DynamicTag, ElfName}
use Rattle.linker_output.specs.Imports.{StubField, TagRule, bit_bounds, r_type_of, text_of}
use Rattle.linker_output.specs.Imports.{to_le_bytes, w32}
use Rattle.linker_output.specs.declared.layout.SymbolPlace.{SymbolPlace}
use Rattle.linker_output.specs.declared.addresses.WordLoad.{WordLoad}
use Rattle.linker_elf.specs.declared.elf.Sign.TheVariants.{Signed}
use Rattle.linker_output.specs.Dynamic.{DynamicKind, DynamicKinds}
use Rattle.linker_output.specs.Layout.{Path}
use Rattle.linker_output.specs.Stubs.{StubCode}
use Rattle.linker_output.specs.View.{Description, Symbol}

abbrev pub kind : ℕ → List ℕ → DynamicKind
kind r_type name = record { r_type = r_type; name = name }

abbrev pub tag : ℕ → TagRule → DynamicTag
tag number rule = record { tag = number; rule = rule }

abbrev pub kind_of : ElfName → DynamicKind
kind_of name = kind (r_type_of name) (text_of name)

-- instructions of n bytes, whatever `e_flags` is
abbrev pub units_of : ℕ → CodeUnit
units_of n = record { len = n; flag = 0; flagged_len = n }

abbrev pub symbol : List ℕ → SymbolPlace → ℕ → Symbol
symbol name place offset = record { name = name; place = place; offset = offset }

abbrev pub path : ℕ → List ℕ → Path
path flags text = record { flags = flags; path = text }

-- one path, whatever `e_flags` is
abbrev pub only : List ℕ → List Path
only text = path 0 text ∷ []

-- an instruction's relocations: for a word of a section, and for an entry of the GOT
abbrev pub load_of : ElfName → ElfName → WordLoad
load_of word entry = record { word = r_type_of word; entry = r_type_of entry }

-- little-endian bytes of an instruction of 4
abbrev pub four : ℕ → ℕ → ℕ → ℕ → List ℕ
four a b c d = a ∷ b ∷ c ∷ d ∷ []

-- the bytes of instructions
abbrev pub code_of_words : List ℕ → List ℕ
code_of_words [] = []
code_of_words (word ∷ words) = to_le_bytes w32 word ++ code_of_words words

-- a field at an offset, with the value of a relocation
abbrev pub field_of : ℕ → ElfName → StubField
field_of offset name =
    record { offset = offset; relocation = r_type_of name; range = record { bounds = None } }

-- the same, of a value of 32 bits in two's complement
abbrev pub field_of_32 : ℕ → ElfName → StubField
field_of_32 offset name =
    record (field_of offset name) { range = record { bounds = Some (bit_bounds 32 Signed) } }

-- a stub of two instructions with the fields, and those after them
abbrev pub plain_stub : ℕ → ℕ → StubField → Option StubField → List ℕ → StubCode
plain_stub one two first second tail =
    record {
      head = [];
      pair = code_of_words (one ∷ two ∷ []);
      first = first;
      second = second;
      tail = code_of_words tail;
      entry = 0;
      origin = 0;
      addend = pos 0;
    }

-- a stub of instructions, of so many bytes, and of 8 bytes with the field after them
abbrev pub data_stub : List ℕ → ℕ → StubField → ℤ → StubCode
data_stub words at field addend =
    record (plain_stub 0 0 field None []) {
      head = code_of_words words;
      origin = at;
      addend = addend;
    }

-- A description with these types of dynamic relocations and the stub to the address that a word
-- has. It has none of the optional stubs. An architecture sets what differs, and always its paths.
abbrev pub plain_output : Architecture → DynamicKinds → StubCode → Description
plain_output instructions dynamic load_stub =
    record {
      dynamic = dynamic;
      dynamic_tags = [];
      thread_pointer = BelowImage 0 0;
      module_bias = 0;
      got = record { header = None; bias = 0 };
      addresses = None;
      -- 64 KiB
      page = 0x10000;
      code_unit = units_of 4;
      -- AArch64's `udf 0`; of RISC-V a half of 0 is no instruction
      filler = four 0 0 0 0;
      flags = record { same = 0; joined = 0; own = 0 };
      symbols = [];
      runs = [];
      interpreter_flags = 0;
      paths = [];
      landing_property = None;
      instructions = instructions;
      load_stub = load_stub;
      landing_load_stub = None;
      jump_stub = None;
      far_stub = None;
      far_relative_stub = None;
      toc_load_stub = None;
      toc_far_stub = None;
      prefixed_load_stub = None;
      prefixed_jump_stub = None;
    }
