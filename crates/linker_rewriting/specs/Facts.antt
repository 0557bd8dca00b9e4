-- What a relocation's rewrite is chosen by before addresses are known, from the facts of its symbol
-- and of the output (the psABIs' sections on symbols and on thread-local storage).
use Rattle.std.specs.Prelude.{ℕ, ℤ, ◌/◌, ◌==◌, ◌||◌, ◌&&◌, not, true, false, Bool, List, [], Option}
use Rattle.std.specs.Prelude.{Some, None, if◌then◌else◌, slice_get}
use Rattle.linker_rewriting.specs.Imports.{Addresses, Architecture, LinkFacts, OutputFacts, Phase}
use Rattle.linker_rewriting.specs.Imports.{PreLayout, Rela, RelaxContext as Passed, Symbol}
use Rattle.linker_rewriting.specs.Imports.{SymbolFacts, TlsLocalExec, sum_64}

-- ---- before addresses are known

-- its address is a number, wherever the output is loaded, and any distance from the code
abbrev pub has_own_address : SymbolFacts → Bool
has_own_address symbol = symbol.is_absolute || symbol.is_undefined_weak

-- it is of another file, if of any
abbrev pub is_imported : SymbolFacts → Bool
is_imported symbol = not (symbol.is_local || symbol.is_undefined_weak)

-- A call of it may return with another TOC pointer: it goes through a stub, or the function doesn't
-- keep register 2 (64-Bit ELF V2 ABI, "The st_other Field Values": the three bits from 5 up are 1).
abbrev pub may_change_toc : SymbolFacts → Bool
may_change_toc symbol = symbol.is_ifunc || is_imported symbol || (symbol.other / 32 == 1)

-- The facts of a relocation with an addend, where each other one of its group can be rewritten. No
-- address is known, and what only a rewrite by addresses reads is left out.
abbrev pub facts_of : OutputFacts → SymbolFacts → ℤ → Bool → LinkFacts
facts_of output symbol addend marked =
    record {
      is_local = symbol.is_local;
      is_ifunc = symbol.is_ifunc;
      is_undefined_weak = symbol.is_undefined_weak;
      has_fixed_address = output.is_fixed || has_own_address symbol;
      is_pcrel_link_time_constant = output.has_near_symbols && not (has_own_address symbol);
      is_executable = output.is_executable;
      has_local_exec_base = true;
      may_compress = false;
      is_class32 = false;
      is_relaxable = marked;
      has_got_high_part = false;
      is_label_relaxable = false;
      toc_base_is_exclusive = false;
      may_change_toc = may_change_toc symbol;
      group_fits = true;
      has_addresses = false;
      operands = record {
        addend = addend;
        symbol = 0;
        place = 0;
        got_entry = 0;
        got_base = 0;
        plt_entry = 0;
        symbol_size = 0;
        tls_base = 0;
        has_got_entry = false;
        has_plt_entry = false;
        has_tls_base = false;
      };
    }

-- ---- once they are

-- S, which counts as the thread pointer's address of a thread-local symbol that nothing defines
abbrev pub address_in : Addresses → Symbol → ℕ
address_in addresses value =
    if value.is_undefined_weak then (if value.is_thread_local then addresses.thread_origin else 0)
    else value.address

-- An executable whose definition of the symbol is used: what a rewrite to local-exec requires. In
-- the phase of offsets from the thread pointer no other one is made.
abbrev pub is_executable_in : Phase → OutputFacts → SymbolFacts → Bool
is_executable_in TlsLocalExec output symbol =
    output.is_executable && (symbol.is_local && not symbol.is_ifunc)
is_executable_in phase output symbol = output.is_executable

-- whether instructions may be deleted in a phase
abbrev pub may_delete : Phase → Bool
may_delete TlsLocalExec = true
may_delete phase = false

-- The facts of a relocation at an offset, of a symbol and an addend, where each other one of its
-- group can be rewritten. The distance to a symbol that nothing defines isn't that of its value.
abbrev pub placed_facts : Phase → OutputFacts → Addresses → SymbolFacts → Symbol → ℕ → ℤ → Bool
    → LinkFacts
placed_facts phase output addresses symbol value offset addend marked =
    record (facts_of output symbol addend marked) {
      is_pcrel_link_time_constant = (output.is_fixed || not (has_own_address symbol))
          && not symbol.is_undefined_weak;
      is_executable = is_executable_in phase output symbol;
      is_relaxable = marked && may_delete phase;
      has_got_high_part = true;
      is_label_relaxable = marked;
      toc_base_is_exclusive = true;
      has_addresses = true;
      operands = record (facts_of output symbol addend marked).operands {
        symbol = address_in addresses value;
        place = sum_64 addresses.section offset;
        got_base = addresses.got_base;
        tls_base = addresses.thread_origin;
        has_tls_base = addresses.has_tls;
      };
    }

-- ---- in any phase

-- What rewrites are chosen by: the architecture, the phase, the output, and an object's symbols,
-- with addresses once they are known.
pub record RelaxContext : Type 0 where
  pub architecture : Architecture
  pub phase : Phase
  pub output : OutputFacts
  pub symbols : List SymbolFacts
  pub addresses : Addresses
  pub values : List Symbol

abbrev pub context : Architecture → Phase → OutputFacts → List SymbolFacts → Addresses
    → List Symbol → RelaxContext
context architecture phase output symbols addresses values =
    record {
      architecture = architecture;
      phase = phase;
      output = output;
      symbols = symbols;
      addresses = addresses;
      values = values;
    }

-- as the code passes it on
abbrev pub context_of : Passed → RelaxContext
context_of s =
    context s.architecture s.phase s.output.now s.symbols.now s.addresses.now s.values.now

abbrev pub no_addresses : Addresses
no_addresses =
    record {
      section = 0;
      got_base = 0;
      thread_origin = 0;
      module_origin = 0;
      module_entry = 0;
      has_tls = false;
    }

abbrev pub pre_layout : Architecture → OutputFacts → List SymbolFacts → RelaxContext
pre_layout architecture output symbols = context architecture PreLayout output symbols no_addresses []

-- The facts of a relocation whose subject is another one or itself: that whose symbol and addend
-- count. None where a table has no entry for the symbol.
abbrev pub facts_with : Phase → OutputFacts → Addresses → Rela → Rela → Bool → SymbolFacts
    → Option Symbol → Option LinkFacts
facts_with phase output addresses r subject marked symbol None = None
facts_with phase output addresses r subject marked symbol (Some value) =
    Some (placed_facts phase output addresses symbol value r.offset subject.addend marked)

abbrev pub facts_at : Phase → OutputFacts → Addresses → List Symbol → Rela → Rela → Bool
    → SymbolFacts → Option LinkFacts
facts_at PreLayout output addresses values r subject marked symbol =
    Some (facts_of output symbol subject.addend marked)
facts_at phase output addresses values r subject marked symbol =
    facts_with phase output addresses r subject marked symbol (slice_get values subject.symbol)

abbrev pub facts_by : Phase → OutputFacts → Addresses → List Symbol → Rela → Rela → Bool
    → Option SymbolFacts → Option LinkFacts
facts_by phase output addresses values r subject marked None = None
facts_by phase output addresses values r subject marked (Some symbol) =
    facts_at phase output addresses values r subject marked symbol

abbrev pub link_facts : RelaxContext → Rela → Rela → Bool → Option LinkFacts
link_facts s r subject marked =
    facts_by s.phase s.output s.addresses s.values r subject marked
    (slice_get s.symbols subject.symbol)
