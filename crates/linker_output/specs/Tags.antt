-- Entries of the dynamic section (ELF for the Arm 64-bit Architecture and RISC-V ELF psABI,
-- "Dynamic Section"; PowerPC64's as GNU ld and glibc have them).
use Rattle.std.specs.Prelude.{ℕ, ◌+◌, ◌-◌, ◌%◌, ◌^◌, Bool, true, if◌then◌else◌, List, [], ◌∷◌}
use Rattle.linker_output.specs.declared.tags.DynamicEntry.{DynamicEntry}
use Rattle.linker_output.specs.declared.tags.DynamicFacts.{DynamicFacts}
use Rattle.linker_output.specs.Imports.{DynamicTag, LandingPlt, LazyPlt, Options, SignedPlt}
use Rattle.linker_output.specs.Imports.{TagRule, VariantCalls}

-- whether an output has a tag
abbrev pub has_tag : TagRule → DynamicFacts → Bool
has_tag LandingPlt facts = facts.has_landing_plt
has_tag SignedPlt facts = facts.has_signed_plt
has_tag VariantCalls facts = facts.has_variant_calls
has_tag LazyPlt facts = facts.has_lazy_plt
has_tag Options facts = true

-- its value, of which an address counts modulo 2 ^ 64
abbrev pub value_of : TagRule → DynamicFacts → ℕ
value_of LazyPlt facts = (facts.first_entry + (2 ^ 64 - 32)) % 2 ^ 64
value_of Options facts = facts.options
value_of rule facts = 0

-- the entries that an output has, of an architecture's tags
abbrev pub entries : List DynamicTag → DynamicFacts → List DynamicEntry
entries [] facts = []
entries (t ∷ ts) facts =
    if has_tag t.rule facts
    then record { tag = t.tag; value = value_of t.rule facts } ∷ entries ts facts
    else entries ts facts
