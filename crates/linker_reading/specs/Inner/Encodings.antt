-- The encodings of instructions, as the code has them.
use Rattle.linker_reading.specs.Imports.{List, None, Option, Some, [], ℕ}
use Rattle.std.specs.Prelude.{◌∷◌}
use Rattle.linker_reading.specs.Opcodes.{Encoding}
use Rattle.linker_reading.specs.declared.operands.Base.{Base}
use Rattle.linker_reading.specs.declared.operands.Base.TheVariants as bases
use Rattle.linker_reading.specs.declared.operands.Encoding.{Encoding as CodeEncoding}

-- where the destination of the first instruction and the base of the second begin
abbrev pub registers_of : Base → Option (ℕ × ℕ)
registers_of bases.Any = None
registers_of bases.From7And47 = Some (7, 47)
registers_of bases.From0And37 = Some (0, 37)

abbrev pub encoding_of : CodeEncoding → Encoding
encoding_of e =
    record {
      len = e.len;
      mask = e.mask;
      bits = e.bits;
      registers = registers_of e.base;
      forms = e.forms.now;
    }

abbrev pub encodings_of : List CodeEncoding → List Encoding
encodings_of [] = []
encodings_of (e ∷ es) = encoding_of e ∷ encodings_of es
