-- The dynamic relocations of a GOT entry's words (ELF Handling For Thread-Local Storage, and the
-- psABIs' tables of relocations).
use Rattle.linker_output.specs.Imports.{Address, Descriptor, Module, ModuleOffset, ThreadOffset}
use Rattle.linker_section.specs.declared.needed.EntryClass.{EntryClass}
use Rattle.std.specs.Prelude.{option_map, ℕ, Bool, ◌&&◌, ◌==◌, if◌then◌else◌, List, [], ◌∷◌, Option}
use Rattle.std.specs.Prelude.{option_to_list, Some, None}

-- a type of dynamic relocations: its `r_type` in ELF files, and its name
pub record DynamicKind : Type 0 where
  pub r_type : ℕ
  pub name : List ℕ

-- the types that a linker emits
pub record DynamicKinds : Type 0 where
  -- S + A
  pub word : DynamicKind
  -- the load address plus A
  pub relative : DynamicKind
  -- S, in the GOT and in the PLT's GOT
  pub glob_dat : DynamicKind
  pub jump_slot : DynamicKind
  pub copy : DynamicKind
  -- what the function at the load address plus A returns
  pub irelative : DynamicKind
  -- the module's number, the offset in its block, the offset from the thread pointer
  pub module_number : DynamicKind
  pub module_offset : DynamicKind
  pub thread_offset : DynamicKind
  pub descriptor : Option DynamicKind

-- ---- names

abbrev pub types_of : DynamicKinds → List DynamicKind
types_of types =
    types.word ∷ types.relative ∷ types.glob_dat ∷ types.jump_slot ∷ types.copy ∷ types.irelative
    ∷ types.module_number ∷ types.module_offset ∷ types.thread_offset
    ∷ option_to_list types.descriptor

-- the name of the first type with an `r_type`
abbrev pub name_in : List DynamicKind → ℕ → Option (List ℕ)
name_in [] r_type = None
name_in (type ∷ types) r_type =
    if type.r_type == r_type then Some type.name else name_in types r_type

abbrev pub name_of : DynamicKinds → ℕ → Option (List ℕ)
name_of types r_type = name_in (types_of types) r_type

-- ---- the words of an entry

-- the relocations of two words, of which the second may not be there
abbrev pub words : Option ℕ → Option ℕ → List (Option ℕ)
words first second = first ∷ second ∷ []

abbrev pub unless : Bool → DynamicKind → Option ℕ
unless is_known type = if is_known then None else Some type.r_type

-- A bound symbol is defined in this output, and no other definition can take its place. An
-- executable knows its offsets from the thread pointer and its module's number, which is 1; a
-- shared library knows only the offsets in its block. A descriptor's relocation writes both of its
-- words.
abbrev pub dynamic_words : DynamicKinds → EntryClass → Bool → Bool → List (Option ℕ)
dynamic_words types Address is_bound is_executable =
    words (Some (if is_bound then types.relative.r_type else types.glob_dat.r_type)) None
dynamic_words types ThreadOffset is_bound is_executable =
    words (unless (is_bound && is_executable) types.thread_offset) None
dynamic_words types ModuleOffset is_bound is_executable =
    words (unless (is_bound && is_executable) types.module_number)
    (unless is_bound types.module_offset)
dynamic_words types Module is_bound is_executable =
    words (unless is_executable types.module_number) None
dynamic_words types Descriptor is_bound is_executable = words (option_map (λ t. t.r_type) types.descriptor) None
