-- What has to hold of a section's relocation besides that it has a value: what is after the nops
-- of an alignment is aligned, a call keeps its TOC pointer, an instruction is as long as the
-- relocation's form, and the instructions for a value have bits for all of it.
use Rattle.std.specs.Prelude.{◌≡◌, ℕ, ℤ, pos, negsuc, int_le, int_lt, ◌-◌, ◌/◌, ◌%◌, ◌^◌, ◌<◌, ◌≤◌}
use Rattle.std.specs.Prelude.{◌==◌, ◌&&◌, ◌||◌, Bool, true, false, not, nat_lt, if◌then◌else◌}
use Rattle.std.specs.Prelude.{List, length, drop, slice_get, slice_index, Option, Some, None}
use Rattle.std.specs.Prelude.{is_some}
use Rattle.linker_section.specs.Imports.{Addresses, Architecture, BitMasking, IType, Length}
use Rattle.linker_section.specs.Imports.{LoongArch64, Rela, RelocationKind, RiscV, RowInfo, RowSize}
use Rattle.linker_section.specs.Imports.{SType, Symbol, TpOff, cast_unsigned, from_le_bytes, int_eq}
use Rattle.linker_section.specs.Imports.{leading_zeros, sum_64, w32, w64, window_len}
use Rattle.linker_elf.specs.Facts.{length_of}
use Rattle.linker_elf.specs.declared.elf.facts.Length.TheVariants as lengths
use Rattle.linker_elf.specs.declared.loongarch64.forms.LoongArch64Instruction.TheVariants.{Shift10}
use Rattle.linker_section.specs.Relocations.{relocation_in}
use Rattle.linker_elf.specs.declared.elf.architecture.Architecture.TheVariants as architectures

-- ---- alignments

-- What is after n bytes of nops is at a multiple of the next power of two above their count,
-- which is at most 2 ^ 32.
abbrev pub is_padded : ℕ → ℕ → Bool
is_padded place nops =
    nat_lt (64 - leading_zeros w64 nops) 33
    && sum_64 place nops % 2 ^ (64 - leading_zeros w64 nops) == 0

-- how many bytes are between an address and the next multiple of a power of two
abbrev pub needed : ℕ → ℕ → ℕ
needed place power = (power - place % power) % power

-- The addend's lowest 8 bits are the exponent of two of an alignment, which has an instruction less
-- of nops. Its other bits, if they aren't 0, are how many bytes may be skipped at most: where more
-- would be needed, nothing is aligned.
abbrev pub is_stated : ℕ → ℕ → Bool
is_stated place addend =
    nat_lt (addend % 256) 33
    && (sum_64 place (2 ^ (addend % 256) - 4) % 2 ^ (addend % 256) == 0
    || (nat_lt 0 (addend / 256) && nat_lt (addend / 256) (needed place (2 ^ (addend % 256)))))

-- What is after the nops of an `R_RISCV_ALIGN` or `R_LARCH_ALIGN` is where it has to be (RISC-V
-- ELF psABI, "Alignment Relaxation"; LoongArch ELF psABI, "Relocation Types"). The addend is how
-- many bytes the nops have; that of `R_LARCH_ALIGN` with a symbol says both.
abbrev pub is_filled : Architecture → Addresses → Rela → Bool
is_filled architectures.RiscV addresses r =
    not (r.r_type == 43)
    || is_padded (sum_64 addresses.section r.offset) (cast_unsigned w64 r.addend)
is_filled architectures.LoongArch64 addresses r =
    not (r.r_type == 102)
    || (if r.symbol == 0 then
    is_padded (sum_64 addresses.section r.offset) (cast_unsigned w64 r.addend)
    else is_stated (sum_64 addresses.section r.offset) (cast_unsigned w64 r.addend))
is_filled architecture addresses r = true

-- ---- PowerPC64's TOC pointer

-- A function of the output may return with another TOC pointer, as the high three bits of
-- `st_other` say, and no stub keeps the caller's (64-Bit ELF V2 ABI, "Symbol Values").
abbrev pub changes_toc : Symbol → Bool
changes_toc symbol = symbol.stub == 0 && (not symbol.is_undefined_weak && symbol.other / 32 == 1)

abbrev pub changes_toc_if : Option Symbol → Bool
changes_toc_if None = false
changes_toc_if (Some symbol) = changes_toc symbol

-- an `R_PPC64_REL24`
abbrev pub keeps_toc : Architecture → Rela → Bool
keeps_toc architectures.Ppc64 r = r.r_type == 10
keeps_toc architecture r = false

-- of such a function
abbrev pub lacks_stub : Architecture → List Symbol → Rela → Bool
lacks_stub architecture symbols r =
    keeps_toc architecture r && changes_toc_if (slice_get symbols r.symbol)

-- ---- lengths of instructions

-- Bytes begin with an instruction of a length, as far as they show it. RISC-V's low two bits are 11
-- where it has 4 bytes, and others where it has 2 (The RISC-V Instruction Set Manual, volume I,
-- "Expanded Instruction-Length Encoding"); the primary opcode of the first 4 bytes of PowerPC64's
-- instructions of 8 is 1 (Power ISA, "Prefixed Instructions").
abbrev pub shows : Length → List ℕ → Bool
shows lengths.Any there = true
shows lengths.Two there = not (slice_index there 0 % 4 == 3)
shows lengths.Four there = slice_index there 0 % 4 == 3
shows lengths.Prefixed there = slice_index there 3 / 4 == 1

-- so with the length of a row's form
abbrev pub shows_length : RowSize → List ℕ → Bool
shows_length size there = shows (length_of size) there

-- the bytes at an offset are so, if the field of a row is in the section
abbrev pub HasLength : RowInfo → ℕ → List ℕ → Type 0
HasLength row offset section =
    offset ≤ length section → window_len row ≤ length (drop offset section)
    → shows_length row.size (drop offset section) ≡ true

-- ---- offsets from the thread pointer

abbrev pub is_tp_off : RelocationKind → Bool
is_tp_off TpOff = true
is_tp_off kind = false

-- The base register of an instruction with 12 bits of an offset is the thread pointer: bits 15 to
-- 19 are 4, x4, on RISC-V, and bits 5 to 9 are 2, $r2, on LoongArch.
abbrev pub is_thread_based : RowSize → List ℕ → Bool
is_thread_based (BitMasking bits (RiscV IType)) there =
    from_le_bytes w32 there / 2 ^ 15 % 32 == 4
is_thread_based (BitMasking bits (RiscV SType)) there =
    from_le_bytes w32 there / 2 ^ 15 % 32 == 4
is_thread_based (BitMasking bits (LoongArch64 Shift10)) there =
    bits.start == 0 && from_le_bytes w32 there / 2 ^ 5 % 32 == 2
is_thread_based size there = false

abbrev pub is_12_bits : ℤ → Bool
is_12_bits v = int_le (negsuc 2047) v && int_lt v (pos 2048)

-- An instruction whose base is the thread pointer adds the whole offset from it, of which no other
-- instruction adds a high part: the offset is one of 12 signed bits.
abbrev pub holds_offset : RowInfo → ℤ → List ℕ → Bool
holds_offset row v there =
    not (is_tp_off row.kind) || (is_12_bits v || not (is_thread_based row.size there))

-- the bytes at an offset are so, if the field of a row is in the section
abbrev pub HoldsOffset : RowInfo → ℤ → ℕ → List ℕ → Type 0
HoldsOffset row v offset section =
    offset ≤ length section → window_len row ≤ length (drop offset section)
    → holds_offset row v (drop offset section) ≡ true

-- ---- LoongArch's values of more than 32 bits

-- The `r_type` of the third relocation of the psABI's sequences for 64 bits, by that of the first,
-- an `*_HI20`. Those of local-dynamic and general-dynamic TLS have an entry of the GOT, and the
-- other relocations of its sequence (LoongArch ELF psABI, "Relocation Types" and "Code Models").
abbrev pub upper_r_type : ℕ → Option ℕ
upper_r_type r_type =
    if r_type == 67 then Some 69
    else (if r_type == 71 then Some 73
    else (if r_type == 75 || (r_type == 95 || r_type == 97) then Some 77
    else (if r_type == 79 || (r_type == 96 || r_type == 98) then Some 81
    else (if r_type == 83 then Some 85
    else (if r_type == 87 then Some 89
    else (if r_type == 91 then Some 93
    else (if r_type == 111 then Some 113
    else (if r_type == 115 then Some 117
    else None))))))))

-- Such a first relocation is relative to the place: `R_LARCH_PCALA_HI20`, and those with `PC` in
-- their names.
abbrev pub is_placed : ℕ → Bool
is_placed r_type =
    r_type == 71 || (r_type == 75 || (r_type == 87 || (r_type == 95 || (r_type == 97
    || r_type == 111))))

-- A relocation is the third of the sequence that another begins: of the same symbol and addend,
-- and 8 bytes after it where it is relative to the place, since the four are adjacent there.
abbrev pub is_upper_of : Option ℕ → Rela → Rela → Bool
is_upper_of None high other = false
is_upper_of (Some r_type) high other =
    other.r_type == r_type && (other.symbol == high.symbol && (int_eq other.addend high.addend
    && (not (is_placed high.r_type) || other.offset == sum_64 high.offset 8)))

abbrev pub is_upper : Rela → Rela → Bool
is_upper high other = is_upper_of (upper_r_type high.r_type) high other

-- one of a section's relocations is
abbrev pub HasUpper : List ℕ → Rela → Type 0
HasUpper bytes high =
    (i : ℕ) × (i < length bytes / 24) × (is_upper high (relocation_in bytes i) ≡ true)

-- The value of an `*_HI20` of a pair or a sequence isn't a number of 32 signed bits, of which the
-- first two instructions make the address. `R_LARCH_TLS_LE_HI20_R` has no sequence for 64 bits.
abbrev pub needs_upper : Architecture → Rela → ℤ → Bool
needs_upper architectures.LoongArch64 r v =
    (int_lt v (negsuc 0x7fffffff) || int_lt (pos 0x7fffffff) v)
    && (r.r_type == 121 || is_some (upper_r_type r.r_type))
needs_upper architecture r v = false

-- its section then has the relocation of the upper bits
abbrev pub IsInReach : Architecture → List ℕ → Rela → ℤ → Type 0
IsInReach architecture bytes r v = needs_upper architecture r v ≡ true → HasUpper bytes r
