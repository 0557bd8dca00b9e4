-- Steps of bits between a value and a window, as the engine has them, and the tables of the forms.
use Rattle.linker_elf.specs.Imports.{AArch64, AnyForm, ImmediateBit, LoongArch64, MachOLow12, Mark}
use Rattle.linker_elf.specs.Imports.{Movnz, Ppc64, RiscV, Step, Width, bit_at, cleared, is_of}
use Rattle.linker_elf.specs.Imports.{is_placed, list_all, ored, replaced, rotate_left, values_apart}
use Rattle.linker_elf.specs.Imports.{values_below, w16, w32, w64}
use Rattle.std.specs.Prelude.{Bool, List, [], bit_and, bit_or, false, nat_lt, not, slice_index_or}
use Rattle.std.specs.Prelude.{true, ℕ, ◌+◌, ◌-◌}
use Rattle.std.specs.Prelude.{◌%◌, ◌^◌, ◌&&◌, ◌||◌, ◌==◌, ◌∷◌}
use denote.Enum.Declared.{tag_of}
use Rattle.std.proofs.lemmas.Bool.{agree_below}
use Rattle.linker_elf.specs.contracts.aarch64.forms.AArch64Instruction as aarch64
use Rattle.linker_elf.specs.contracts.loongarch64.forms.LoongArch64Instruction as loongarch64
use Rattle.linker_elf.specs.contracts.ppc64.forms.Ppc64Form as ppc64
use Rattle.linker_elf.specs.contracts.riscv64.forms.RiscVInstruction as riscv64
use Rattle.linker_elf.specs.Elf.{relocation_form}
use Rattle.linker_elf.specs.declared.aarch64.forms.TheConstants as aarch64_table
use Rattle.linker_elf.specs.declared.elf.engine.Encoding.{Encoding}
use Rattle.linker_elf.specs.declared.elf.engine.TheConstants.{UNSIGNED}
use Rattle.linker_elf.specs.declared.elf.engine.Window.{Window}
use Rattle.linker_elf.specs.declared.elf.engine.Window.TheVariants.{Two, Four, Eight}
use Rattle.linker_elf.specs.declared.loongarch64.forms.TheConstants as loongarch64_table
use Rattle.linker_elf.specs.declared.ppc64.forms.TheConstants as ppc64_table
use Rattle.linker_elf.specs.declared.riscv64.forms.TheConstants as riscv64_table

abbrev pub width_of : Window → Width
width_of Two = w16
width_of Four = w32
width_of Eight = w64

abbrev pub bits_of : Window → ℕ
bits_of Two = 16
bits_of Four = 32
bits_of Eight = 64

-- the places lie in n bits of the window
abbrev pub words_below : ℕ → List ImmediateBit → Bool
words_below n ps = list_all (λ (p : ImmediateBit). nat_lt p.insn_bit n) ps

-- ---- the tables

abbrev pub code_of : AnyForm → Encoding × List Step
code_of (AArch64 f) =
    let k = tag_of aarch64.the_type f in
    (slice_index_or aarch64_table.CODES k UNSIGNED, slice_index_or aarch64_table.STEPS k [])
code_of (RiscV f) =
    let k = tag_of riscv64.the_type f in
    (slice_index_or riscv64_table.CODES k UNSIGNED, slice_index_or riscv64_table.STEPS k [])
code_of (Ppc64 f) =
    let k = tag_of ppc64.the_type f in
    (slice_index_or ppc64_table.CODES k UNSIGNED, slice_index_or ppc64_table.STEPS k [])
code_of (LoongArch64 f) =
    let k = tag_of loongarch64.the_type f in
    (slice_index_or loongarch64_table.CODES k UNSIGNED, slice_index_or loongarch64_table.STEPS k [])

-- the form's places hold the value, in any window
abbrev pub is_plain : AnyForm → Bool
is_plain (AArch64 Movnz) = false
is_plain (AArch64 MachOLow12) = false
is_plain f = true

-- ---- to a window

-- the bits of v that a step moves
abbrev pub moved : Step → ℕ → ℕ
moved s v = bit_and (rotate_left w64 ((v + s.added) % 2 ^ 64) s.up) s.mask

-- the bits of v that steps move, ORed to y
abbrev pub laid : List Step → ℕ → ℕ → ℕ
laid [] v y = y
laid (s ∷ ss) v y = laid ss v (bit_or y (moved s v))

-- no step moves a bit to window bit i
abbrev pub none_to : List Step → ℕ → Bool
none_to ss i = list_all (λ (s : Step). bit_at s.mask i == 0) ss

-- value bit k moves to window bit i after r is added, and no other does
abbrev pub one_to : List Step → ℕ → ℕ → ℕ → Bool
one_to [] k r i = false
one_to (s ∷ ss) k r i =
    (bit_at s.mask i == 0 && one_to ss k r i)
    || (bit_at s.mask i == 1 && (s.added == r && ((i + (64 - s.up)) % 64 == k && none_to ss i)))

-- a place has the bit that its mark says, where the window's bits of a mask are replaced
abbrev pub is_laid : ℕ → List Step → ImmediateBit → Mark → Bool
is_laid mask ss p replaced = bit_at mask p.insn_bit == 1 && one_to ss p.value p.added p.insn_bit
is_laid mask ss p ored = bit_at mask p.insn_bit == 0 && one_to ss p.value p.added p.insn_bit
is_laid mask ss p cleared = bit_at mask p.insn_bit == 1 && none_to ss p.insn_bit

-- the steps are rotations to windows of n bits
abbrev pub steps_fit : ℕ → List Step → Bool
steps_fit n ss = list_all (λ (s : Step). nat_lt s.up 64 && nat_lt s.mask (2 ^ n)) ss

-- A write of these steps, where the window's bits of a mask are replaced, is one at these places,
-- in windows of n bits.
abbrev pub writes : ℕ → ℕ → List Step → List ImmediateBit → Bool
writes n mask ss ps =
    nat_lt n 65
    && (nat_lt mask (2 ^ n)
    && (steps_fit n ss
    && (list_all (λ (p : ImmediateBit). nat_lt p.insn_bit n && is_laid mask ss p p.mark) ps
    && agree_below
    (λ i. is_placed ps i || (bit_at mask i == 0 && none_to ss i)) (λ _. true) n)))

-- ---- from a window

-- no window bit moves to value bit k
abbrev pub none_from : List Step → ℕ → Bool
none_from ss k = list_all (λ (s : Step). bit_at s.mask ((k + s.up) % 64) == 0) ss

-- window bit i moves to value bit k, and no other does
abbrev pub one_from : List Step → ℕ → ℕ → Bool
one_from [] k i = false
one_from (s ∷ ss) k i =
    (bit_at s.mask ((k + s.up) % 64) == 0 && one_from ss k i)
    || (bit_at s.mask i == 1 && ((k + s.up) % 64 == i && none_from ss k))

-- value bit k comes from its place, or from nowhere
abbrev pub comes_from : List ImmediateBit → List Step → ℕ → Bool
comes_from [] ss k = none_from ss k
comes_from (p ∷ ps) ss k =
    (is_of p k && one_from ss k p.insn_bit) || (not (is_of p k) && comes_from ps ss k)

-- A read of these steps is one at these places.
abbrev pub reads : List Step → List ImmediateBit → Bool
reads ss ps =
    values_apart ps
    && (values_below 64 ps && (steps_fit 64 ss && agree_below (comes_from ps ss) (λ _. true) 64))

-- Steps of a form, spread bit by bit, are its places: they write and read them.
abbrev pub moves_places : AnyForm → List Step → Bool
moves_places f ss =
    let places = (relocation_form f).places 0 in
    writes (bits_of (code_of f).0.window) (code_of f).0.replaced ss places && reads ss places
