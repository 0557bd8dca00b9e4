-- The bits that a write of a row may change, as masks.
use Rattle.linker_reading.specs.Imports.{AbsoluteAdditionWord6, AbsoluteSetWord6}
use Rattle.linker_reading.specs.Imports.{AbsoluteSubtractionWord6, BitMasking, ByteSize, List}
use Rattle.linker_reading.specs.Imports.{RelocationKind, RowInfo, RowSize, bit_and, bits_at}
use Rattle.linker_reading.specs.Imports.{insn_at, min, relocation_form, window_of, ℕ}
use Rattle.std.specs.Prelude.{◌-◌, ◌*◌, ◌^◌}
use Rattle.linker_elf.specs.Forms.{instruction_mask}

abbrev pub bytes_mask : ℕ → ℕ
bytes_mask n = 2 ^ (8 * min n 8) - 1

abbrev pub number_mask : RelocationKind → ℕ → ℕ
number_mask AbsoluteSetWord6 n = bit_and (bytes_mask n) 0x3f
number_mask AbsoluteAdditionWord6 n = bit_and (bytes_mask n) 0x3f
number_mask AbsoluteSubtractionWord6 n = bit_and (bytes_mask n) 0x3f
number_mask kind n = bytes_mask n

abbrev pub size_mask : RowSize → RelocationKind → List ℕ → ℕ
size_mask (ByteSize n) kind bytes = number_mask kind n
size_mask (BitMasking bits insn) kind bytes =
    let word = window_of (relocation_form insn) bytes in
    instruction_mask (insn_at insn bits word) (bits_at insn kind bits word)
    (window_of (relocation_form (insn_at insn bits word)) bytes)

abbrev pub field_mask : RowInfo → List ℕ → ℕ
field_mask row bytes = size_mask row.size row.kind bytes
