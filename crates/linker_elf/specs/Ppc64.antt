-- PowerPC64: its instruction forms (Power ISA, "Instruction Formats"), and addresses in two halves
-- (64-bit ELF V2 ABI for Power, "@ha" and "@l").
use Rattle.linker_elf.specs.Imports.{Branch14, Branch24, D, DUnsigned, Ds, Form, ImmediateBit}
use Rattle.linker_elf.specs.Imports.{IsSameModulo, Layout, Ppc64Form, Prefixed, Sign, Width}
use Rattle.linker_elf.specs.Imports.{bits_to, field, form_of, from_le_bytes, modulo, one_field}
use Rattle.linker_elf.specs.Imports.{signed, twos_complement, unsigned, w32, w64}
use Rattle.std.specs.Prelude.{List, [], drop, false, negsuc, pos, ℕ, ℤ, ◌∷◌, ◌≡◌, ◌+ℤ◌, ◌*ℤ◌, ◌≤ℤ◌}
use Rattle.std.specs.Prelude.{◌<ℤ◌, ◌^◌, ◌-◌, ◌+◌, ◌++◌}

-- an immediate of n bits, of which those from bit `low` up stand at places
abbrev pub immediate_at : Sign → Width → ℕ → ℕ → List ImmediateBit → Layout
immediate_at sign w n low ps =
    one_field (record {
      window = w;
      width = 64;
      bits = n;
      low = low;
      read = unsigned;
      flags = false;
      machine = sign;
      claim = modulo n;
      places = ps;
    })

-- a displacement whose bits stand in the word where they stand in the value
abbrev pub displacement : ℕ → ℕ → Layout
displacement n low = immediate_at twos_complement w32 n low (bits_to low (n - 1) low)

abbrev pub ppc64_layout : Ppc64Form → Layout
ppc64_layout D = displacement 16 0
ppc64_layout Ds = displacement 16 2
ppc64_layout Branch14 = displacement 16 2
ppc64_layout Branch24 = displacement 26 2
ppc64_layout Prefixed =
    immediate_at twos_complement w64 34 0 (bits_to 0 15 32 ++ bits_to 16 33 0)
ppc64_layout DUnsigned = immediate_at unsigned w32 16 0 (bits_to 0 15 0)

-- the forms by their numbers from 0 up
abbrev pub ppc64_forms : List Ppc64Form
ppc64_forms = D ∷ Ds ∷ Branch14 ∷ Branch24 ∷ Prefixed ∷ DUnsigned ∷ []

abbrev pub ppc64_form : Ppc64Form → Form
ppc64_form f = form_of (ppc64_layout f)

-- what `addis` by the high half and `addi` by the low half add, by the words of both
abbrev pub pair : ℕ → ℕ → ℤ
pair ha lo = (ppc64_form D).machine ha *ℤ pos (2 ^ 16) +ℤ (ppc64_form D).machine lo

-- from -2^31 - 0x8000 up, below 2^31 - 0x8000
abbrev pub IsPairDistance : ℤ → Type 0
IsPairDistance v = (negsuc (2 ^ 31 + 0x8000 - 1) ≤ℤ v) × (v <ℤ pos (2 ^ 31 - 0x8000))

-- The pair of the words is v modulo 2^32, and v itself where the pair reaches it.
pub record PairHolds (ha lo v : ℕ) : Type 0 where
  pub same : IsSameModulo 32 (pair ha lo) (pos v)
  pub exact : IsPairDistance (signed 64 v) → pair ha lo ≡ signed 64 v

-- Only bits 0 to 15 of the word that bytes begin with have changed.
pub record KeepsHigh (before after : List ℕ) : Type 0 where
  pub high : field (from_le_bytes w32 after) 16 32 ≡ field (from_le_bytes w32 before) 16 32
  pub rest : drop 4 after ≡ drop 4 before
