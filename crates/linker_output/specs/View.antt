-- What the code's descriptions say, with texts and tables as lists.
use Rattle.linker_output.specs.Imports.{Architecture, CodeUnit, DynamicTag, FarRelative, FlagRules}
use Rattle.linker_output.specs.Imports.{Jump, LandingLoad, Load, PrefixedJump, PrefixedLoad}
use Rattle.linker_output.specs.Imports.{StubKind, TocFar, TocLoad}
use Rattle.linker_output.specs.declared.stubs.StubKind.TheVariants.{Far}
use Rattle.linker_output.specs.declared.got.GotLayout.{GotLayout}
use Rattle.linker_output.specs.declared.layout.SymbolPlace.{SymbolPlace}
use Rattle.linker_output.specs.declared.got.ThreadPointer.{ThreadPointer}
use Rattle.std.specs.Prelude.{option_map, ℕ, List, Option, Some, map}
use Rattle.linker_output.specs.Addresses.{AddressWords}
use Rattle.linker_output.specs.Dynamic.{DynamicKind, DynamicKinds}
use Rattle.linker_output.specs.Layout.{Path, Run}
use Rattle.linker_output.specs.Stubs.{StubCode}
use Rattle.linker_output.specs.declared.addresses.AddressSection.{AddressSection}
use Rattle.linker_output.specs.declared.dynamic.DynamicType.{DynamicType}
use Rattle.linker_output.specs.declared.dynamic.DynamicTypes.{DynamicTypes}
use Rattle.linker_output.specs.declared.layout.Interpreter.{Interpreter}
use Rattle.linker_output.specs.declared.layout.SaveRestoreRoutines.{SaveRestoreRoutines}
use Rattle.linker_output.specs.declared.layout.ProvidedSymbol.{ProvidedSymbol}
use Rattle.linker_output.specs.declared.properties.LandingProperty.{LandingProperty}
use Rattle.linker_output.specs.declared.stubs.Stub.{Stub}
use Rattle.linker_output.specs.declared.description.Target.{Target}

-- a symbol that a linker defines: its name, and how far it is above a place
pub record Symbol : Type 0 where
  pub name : List ℕ
  pub place : SymbolPlace
  pub offset : ℕ

-- what an architecture's psABI, or its linkers, lay down for an output
pub record Description : Type 0 where
  pub dynamic : DynamicKinds
  pub dynamic_tags : List DynamicTag
  pub thread_pointer : ThreadPointer
  pub module_bias : ℕ
  pub got : GotLayout
  -- the section of objects in which compilers keep addresses
  pub addresses : Option AddressWords
  pub page : ℕ
  pub code_unit : CodeUnit
  pub filler : List ℕ
  pub flags : FlagRules
  pub symbols : List Symbol
  pub runs : List Run
  pub interpreter_flags : ℕ
  pub paths : List Path
  pub landing_property : Option LandingProperty
  -- whose relocations the fields of stubs have
  pub instructions : Architecture
  pub load_stub : StubCode
  pub landing_load_stub : Option StubCode
  pub jump_stub : Option StubCode
  pub far_stub : Option StubCode
  pub far_relative_stub : Option StubCode
  pub toc_load_stub : Option StubCode
  pub toc_far_stub : Option StubCode
  pub prefixed_load_stub : Option StubCode
  pub prefixed_jump_stub : Option StubCode

-- ---- of the code

abbrev pub view_type : DynamicType → DynamicKind
view_type t = record { r_type = t.r_type; name = t.name.now }

abbrev pub view_list : List DynamicType → List DynamicKind
view_list = map view_type

abbrev pub view_types : DynamicTypes → DynamicKinds
view_types t =
    record {
      word = view_type t.word;
      relative = view_type t.relative;
      glob_dat = view_type t.glob_dat;
      jump_slot = view_type t.jump_slot;
      copy = view_type t.copy;
      irelative = view_type t.irelative;
      module_number = view_type t.module_number;
      module_offset = view_type t.module_offset;
      thread_offset = view_type t.thread_offset;
      descriptor = option_map view_type t.descriptor;
    }

abbrev pub view_addresses : Option AddressSection → Option AddressWords
view_addresses = option_map (λ s. record { name = s.name.now; loads = s.loads.now })

abbrev pub view_symbols : List ProvidedSymbol → List Symbol
view_symbols = map (λ s. record { name = s.name.now; place = s.place; offset = s.offset })

abbrev pub view_run : SaveRestoreRoutines → Run
view_run r =
    record {
      prefix = r.prefix.now;
      first = r.first;
      count = r.count;
      word = r.word;
      step = r.step;
      second = r.second;
      tail = r.tail.now;
    }

abbrev pub view_runs : List SaveRestoreRoutines → List Run
view_runs = map view_run

abbrev pub view_paths : List Interpreter → List Path
view_paths = map (λ i. record { flags = i.flags; path = i.path.now })

abbrev pub view_stub : Stub → StubCode
view_stub s =
    record {
      head = s.head.now;
      pair = s.pair;
      first = s.first;
      second = s.second;
      tail = s.tail.now;
      entry = s.entry;
      origin = s.origin;
      addend = s.addend;
    }

abbrev pub view_some : Option Stub → Option StubCode
view_some = option_map view_stub

-- the stub of a kind
abbrev pub stub_of : Target → StubKind → Option StubCode
stub_of t Load = Some (view_stub t.load_stub)
stub_of t Jump = view_some t.jump_stub
stub_of t Far = view_some t.far_stub
stub_of t FarRelative = view_some t.far_relative_stub
stub_of t LandingLoad = view_some t.landing_load_stub
stub_of t TocLoad = view_some t.toc_load_stub
stub_of t TocFar = view_some t.toc_far_stub
stub_of t PrefixedLoad = view_some t.prefixed_load_stub
stub_of t PrefixedJump = view_some t.prefixed_jump_stub

abbrev pub view : Target → Description
view t =
    record {
      dynamic = view_types t.dynamic;
      dynamic_tags = t.dynamic_tags.now;
      thread_pointer = t.thread_pointer;
      module_bias = t.module_bias;
      got = t.got;
      addresses = view_addresses t.address_section;
      page = t.page;
      code_unit = t.code_unit;
      filler = t.filler;
      flags = t.flags;
      symbols = view_symbols t.symbols.now;
      runs = view_runs t.runs.now;
      interpreter_flags = t.interpreter_flags;
      paths = view_paths t.interpreters.now;
      landing_property = t.landing_property;
      instructions = t.instructions;
      load_stub = view_stub t.load_stub;
      landing_load_stub = view_some t.landing_load_stub;
      jump_stub = view_some t.jump_stub;
      far_stub = view_some t.far_stub;
      far_relative_stub = view_some t.far_relative_stub;
      toc_load_stub = view_some t.toc_load_stub;
      toc_far_stub = view_some t.toc_far_stub;
      prefixed_load_stub = view_some t.prefixed_load_stub;
      prefixed_jump_stub = view_some t.prefixed_jump_stub;
    }
