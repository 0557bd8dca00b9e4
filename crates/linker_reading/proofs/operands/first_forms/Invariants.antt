use Rattle.linker_reading.proofs.Imports.{drop, ◌≡◌}
use Rattle.linker_reading.specs.Opcodes.{first_forms}
use Rattle.linker_reading.specs.Inner.Encodings.{encodings_of}
use Rattle.linker_reading.proofs.operands.first_forms.Given as goal

-- none of the encodings so far is there
abbrev pub invariant-loop-encoding : goal.invariant-loop-encoding
invariant-loop-encoding l =
    first_forms (encodings_of l.encodings) l.len l.number
    ≡ first_forms (encodings_of (drop l.encoding-index l.encodings)) l.len l.number
