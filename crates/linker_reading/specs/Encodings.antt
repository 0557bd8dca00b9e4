-- Which forms the immediate of an instruction has, by the bits of its opcode in the manuals; and
-- the number that the machine makes of the immediate.
use Rattle.linker_reading.specs.Imports.{AArch64, AnyForm, Architecture, List, LoongArch64, None}
use Rattle.linker_reading.specs.Imports.{Option, Ppc64, RiscV, Some, [], byte_len, cast_signed}
use Rattle.linker_reading.specs.Imports.{cast_unsigned, length, min, number_of_bytes}
use Rattle.linker_reading.specs.Imports.{relocation_form, w64, window_of, ℕ, ℤ}
use Rattle.std.specs.Prelude.{◌*◌, ◌%◌, ◌^◌, ◌≤◌, ◌≡◌}
use Rattle.linker_reading.specs.AArch64Encodings.{aarch64_encodings, aarch64_number, aarch64_scale}
use Rattle.linker_reading.specs.LoongArchEncodings.{loongarch_encodings}
use Rattle.linker_reading.specs.LoongArchEncodings.{loongarch_number, loongarch_scale}
use Rattle.linker_reading.specs.Opcodes.{Encoding, first_forms}
use Rattle.linker_reading.specs.Ppc64Encodings.{ppc64_encodings, ppc64_scale}
use Rattle.linker_reading.specs.Reading.{number_held}
use Rattle.linker_reading.specs.Recognised.{IsOneOf}
use Rattle.linker_reading.specs.RiscVEncodings.{riscv_encodings}
use Rattle.linker_elf.specs.declared.elf.architecture.Architecture.TheVariants as architectures

-- ---- the forms of an instruction

-- x86-64's values are whole bytes, which no form has.
abbrev pub encodings : Architecture → List Encoding
encodings architectures.AArch64 = aarch64_encodings
encodings architectures.RiscV = riscv_encodings
encodings architectures.LoongArch64 = loongarch_encodings
encodings architectures.Ppc64 = ppc64_encodings
encodings architectures.X86_64 = []

-- the forms of the instruction that bytes begin with, and of both where it and the next are a pair
abbrev pub forms_of : Architecture → List ℕ → List AnyForm
forms_of architecture bytes =
    let len = min (length bytes) 8 in
    first_forms (encodings architecture) len (number_of_bytes len bytes)

-- whose forms these are
abbrev pub architecture_of : AnyForm → Architecture
architecture_of (AArch64 f) = architectures.AArch64
architecture_of (RiscV f) = architectures.RiscV
architecture_of (Ppc64 f) = architectures.Ppc64
architecture_of (LoongArch64 f) = architectures.LoongArch64

-- bytes begin with an instruction of the form
pub record HasForm (insn : AnyForm) (bytes : List ℕ) : Type 0 where
  pub room : byte_len (relocation_form insn).window ≤ length bytes
  pub listed : IsOneOf insn (forms_of (architecture_of insn) bytes)

-- ---- what the machine makes of the immediate

-- the number in the immediate
abbrev pub immediate_number : AnyForm → ℕ → ℤ
immediate_number (AArch64 f) x = aarch64_number f x
immediate_number (RiscV f) x = number_held (RiscV f) x
immediate_number (Ppc64 f) x = number_held (Ppc64 f) x
immediate_number (LoongArch64 f) x = loongarch_number f x

-- log2 of what the number counts: bytes of a distance or an offset, or what an addition adds
abbrev pub scale_of : AnyForm → ℕ → ℕ
scale_of (AArch64 f) x = aarch64_scale f x
scale_of (RiscV f) x = 0
scale_of (Ppc64 f) x = ppc64_scale f x
scale_of (LoongArch64 f) x = loongarch_scale f x

-- What the machine makes of the immediate, in two's complement of 64 bits.
abbrev pub operand_of : AnyForm → ℕ → ℤ
operand_of insn x =
    cast_signed w64
    (cast_unsigned w64 (immediate_number insn x) * 2 ^ scale_of insn x % 2 ^ 64)

-- It is read exactly where the bytes begin with an instruction of the form.
abbrev pub IsOperand : AnyForm → List ℕ → Option ℤ → Type 0
IsOperand insn bytes None = HasForm insn bytes → ⊥
IsOperand insn bytes (Some v) =
    HasForm insn bytes × (v ≡ operand_of insn (window_of (relocation_form insn) bytes))
