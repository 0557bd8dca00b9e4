-- The lazy PLTs of the architectures (x86-64 psABI, "Procedure Linkage Table"; the other psABIs
-- leave the code to linkers, and this is ld.lld's), and those for protected code.
use Rattle.std.specs.Prelude.{ℕ, ℤ, pos, negsuc, List, [], ◌∷◌, ◌++◌, ◌-◌, length, replicate, Some}
use Rattle.std.specs.Prelude.{◌+◌, Option, None}
use Rattle.linker_elf.specs.AArch64Relocations.{aarch64_name}
use Rattle.linker_output.specs.Imports.{AArch64, Architecture, Header, Index, LazyPiece, LazyWord}
use Rattle.linker_output.specs.Imports.{LoongArch64, Ppc64, RiscV, StubField, Word, X86_64}
use Rattle.linker_output.specs.Imports.{loongarch_name, ppc64_name, x86_64_name}
use Rattle.linker_output.specs.declared.lazy_plt.LazyTarget.{LazyTarget}
use Rattle.linker_elf.specs.RiscVRelocations.{riscv_name}
use Rattle.linker_elf.specs.declared.aarch64.relocations.AArch64Relocation.{AArch64Relocation}
use Rattle.linker_elf.specs.declared.aarch64.relocations.AArch64Relocation.TheVariants as aarch64
use Rattle.linker_elf.specs.declared.loongarch64.relocations.LoongArch64Relocation.TheVariants as loongarch
use Rattle.linker_elf.specs.declared.ppc64.relocations.Ppc64Relocation.TheVariants as ppc64
use Rattle.linker_elf.specs.declared.riscv64.relocations.RiscVRelocation.TheVariants as riscv
use Rattle.linker_elf.specs.declared.x86_64.relocations.X86_64Relocation.TheVariants as x86_64
use Rattle.linker_output.specs.LazyPlt.{PltCode}
use Rattle.linker_output.specs.Tables.{field_of, field_of_32, code_of_words}
use Rattle.linker_output.specs.declared.lazy_plt.LazyForm.{LazyForm}
use Rattle.linker_output.specs.declared.lazy_plt.LazyForm.TheVariants as form
use Rattle.linker_output.specs.declared.lazy_plt.LazyWord.TheVariants as word

-- at most 8 bytes, and zeros after them
abbrev pub padded : List ℕ → List ℕ
padded code = code ++ replicate (8 - length code) 0

abbrev pub fixed : List ℕ → LazyPiece
fixed code = record { code = padded code; len = length code; field = None }

-- with a field, what its value is computed from, the origin and the addend
abbrev pub with_field : List ℕ → StubField → LazyTarget → ℕ → ℤ → LazyPiece
with_field code field target origin addend =
    record {
      code = padded code;
      len = length code;
      field =
          Some (record { field = field; target = target; origin = origin; addend = addend });
    }

abbrev pub plt_of : Architecture → ℕ → List LazyPiece → List LazyPiece → List LazyWord → LazyWord
    → PltCode
plt_of instructions alignment header entry header_words own =
    record {
      instructions = instructions;
      alignment = alignment;
      header = header;
      entry = entry;
      header_words = header_words;
      word = own;
    }

-- of instructions of 4 bytes
abbrev pub one : ℕ → LazyPiece
one word = fixed (code_of_words (word ∷ []))

abbrev pub two : ℕ → ℕ → LazyPiece
two first second = fixed (code_of_words (first ∷ second ∷ []))

abbrev pub one_with : ℕ → StubField → LazyTarget → ℕ → ℤ → LazyPiece
one_with word = with_field (code_of_words (word ∷ []))

-- an instruction with the value of a relocation, of an address that is an addend above a word
abbrev pub aarch64_word : AArch64Relocation → ℕ → ℕ → ℕ → LazyPiece
aarch64_word name word origin addend =
    one_with word (field_of 0 (aarch64_name name)) Word origin (pos addend)

-- An address that is an addend above a word gets into x16, and what the word there has into x17;
-- then others. The first instruction is at an offset.
abbrev pub aarch64_loads : ℕ → ℕ → List LazyPiece → List LazyPiece
aarch64_loads origin addend others =
    aarch64_word aarch64.R_AARCH64_ADR_PREL_PG_HI21 0x90000010 origin addend  -- `adrp x16, 0`
    -- `ldr x17, [x16, 0]`
    ∷ aarch64_word aarch64.R_AARCH64_LDST64_ABS_LO12_NC 0xf9400211 origin addend
    -- `add x16, x16, 0`
    ∷ aarch64_word aarch64.R_AARCH64_ADD_ABS_LO12_NC 0x91000210 origin addend ∷ others

-- `stp x16, x30, [sp, -16]!`, those, `br x17`, and 3 of `nop`
abbrev pub aarch64_header : List LazyPiece
aarch64_header =
    one 0xa9bf7bf0
    ∷ aarch64_loads 4 16 (two 0xd61f0220 0xd503201f ∷ two 0xd503201f 0xd503201f ∷ [])

-- those, and `br x17`
abbrev pub aarch64_entry : List LazyPiece
aarch64_entry = aarch64_loads 0 0 (one 0xd61f0220 ∷ [])

abbrev pub aarch64_plt : List LazyPiece → List LazyPiece → PltCode
aarch64_plt header entry =
    plt_of AArch64 16 header entry (word.Zero ∷ word.Zero ∷ word.Zero ∷ []) word.Header

-- ---- AArch64's for protected code, whose entries have 24 bytes

-- `bti c`, `stp x16, x30, [sp, -16]!`, those, `br x17`, and 2 of `nop`
abbrev pub aarch64_landing_header : List LazyPiece
aarch64_landing_header =
    two 0xd503245f 0xa9bf7bf0
    ∷ aarch64_loads 8 16 (two 0xd61f0220 0xd503201f ∷ one 0xd503201f ∷ [])

-- those, `br x17`, and 2 of `nop`
abbrev pub aarch64_wide_entry : List LazyPiece
aarch64_wide_entry = aarch64_loads 0 0 (two 0xd61f0220 0xd503201f ∷ one 0xd503201f ∷ [])

-- `bti c`, those, `br x17`, and `nop`
abbrev pub aarch64_landing_entry : List LazyPiece
aarch64_landing_entry = one 0xd503245f ∷ aarch64_loads 4 0 (two 0xd61f0220 0xd503201f ∷ [])

-- those, `autia1716`, `br x17`, and `nop`
abbrev pub aarch64_authenticated_entry : List LazyPiece
aarch64_authenticated_entry = aarch64_loads 0 0 (two 0xd503219f 0xd61f0220 ∷ one 0xd503201f ∷ [])

-- `bti c`, those, `autia1716`, and `br x17`
abbrev pub aarch64_authenticated_landing_entry : List LazyPiece
aarch64_authenticated_landing_entry = one 0xd503245f ∷ aarch64_loads 4 0 (two 0xd503219f 0xd61f0220 ∷ [])

abbrev pub loongarch_high : StubField
loongarch_high = field_of_32 0 (loongarch_name loongarch.R_LARCH_TLS_LE_HI20_R)

abbrev pub loongarch_low : StubField
loongarch_low = field_of 0 (loongarch_name loongarch.R_LARCH_TLS_LE_LO12_R)

abbrev pub loongarch_header : List LazyPiece
loongarch_header =
    one_with 0x1c00000e loongarch_high Word 0 (pos 0)  -- `pcaddu12i $t2, 0`
    ∷ one 0x0011bdad  -- `sub.d $t1, $t1, $t3`
    ∷ one_with 0x28c001cf loongarch_low Word 0 (pos 0)  -- `ld.d $t3, $t2, 0`
    ∷ one 0x02ff51ad  -- `addi.d $t1, $t1, -44`
    ∷ one_with 0x02c001cc loongarch_low Word 0 (pos 0)  -- `addi.d $t0, $t2, 0`
    ∷ two 0x004505ad 0x28c0218c  -- `srli.d $t1, $t1, 1`, `ld.d $t0, $t0, 8`
    ∷ one 0x4c0001e0 ∷ []  -- `jr $t3`

abbrev pub loongarch_entry : List LazyPiece
loongarch_entry =
    one_with 0x1c00000f loongarch_high Word 0 (pos 0)  -- `pcaddu12i $t3, 0`
    ∷ one_with 0x28c001ef loongarch_low Word 0 (pos 0)  -- `ld.d $t3, $t3, 0`
    ∷ two 0x4c0001ed 0x03400000 ∷ []  -- `jirl $t1, $t3, 0`, `nop`

abbrev pub ppc64_header : List LazyPiece
ppc64_header =
    two 0x7c0802a6 0x429f0005  -- `mflr 0`, `bcl 20, 31, .+4`
    ∷ two 0x7d6802a6 0x7c0803a6  -- `mflr 11`, `mtlr 0`
    ∷ two 0x7d8b6050 0x380cffcc  -- `sub 12, 12, 11`, `addi 0, 12, -52`
    ∷ two 0x7800f082 0xe98b002c  -- `srdi 0, 0, 2`, `ld 12, 44(11)`
    ∷ two 0x7d6c5a14 0xe98b0000  -- `add 11, 12, 11`, `ld 12, 0(11)`
    ∷ two 0xe96b0008 0x7d8903a6  -- `ld 11, 8(11)`, `mtctr 12`
    ∷ one 0x4e800420  -- `bctr`
    -- how far `.plt` is above the third instruction
    ∷ with_field (0 ∷ 0 ∷ 0 ∷ 0 ∷ 0 ∷ 0 ∷ 0 ∷ 0 ∷ [])
    (field_of 0 (ppc64_name ppc64.R_PPC64_REL64)) Word 8 (pos 0) ∷ []

abbrev pub ppc64_entry : List LazyPiece
ppc64_entry =
    -- `b header`
    one_with 0x48000000 (field_of 0 (ppc64_name ppc64.R_PPC64_REL24)) Header 0 (pos 0) ∷ []

abbrev pub riscv_high : StubField
riscv_high = field_of 0 (riscv_name riscv.R_RISCV_PCREL_HI20)

abbrev pub riscv_low : StubField
riscv_low = field_of 0 (riscv_name riscv.R_RISCV_PCREL_LO12_I)

abbrev pub riscv_header : List LazyPiece
riscv_header =
    one_with 0x00000397 riscv_high Word 0 (pos 0)  -- `auipc t2, 0`
    ∷ one 0x41c30333  -- `sub t1, t1, t3`
    ∷ one_with 0x0003be03 riscv_low Word 0 (pos 0)  -- `ld t3, 0(t2)`
    ∷ one 0xfd430313  -- `addi t1, t1, -44`
    ∷ one_with 0x00038293 riscv_low Word 0 (pos 0)  -- `addi t0, t2, 0`
    ∷ two 0x00135313 0x0082b283  -- `srli t1, t1, 1`, `ld t0, 8(t0)`
    ∷ one 0x000e0067 ∷ []  -- `jr t3`

abbrev pub riscv_entry : List LazyPiece
riscv_entry =
    one_with 0x00000e17 riscv_high Word 0 (pos 0)  -- `auipc t3, 0`
    ∷ one_with 0x000e3e03 riscv_low Word 0 (pos 0)  -- `ld t3, 0(t3)`
    ∷ two 0x000e0367 0x00000013 ∷ []  -- `jalr t1, t3`, `nop`

-- an opcode of two bytes, and the distance to a word
abbrev pub x86_64_word : ℕ → ℕ → ℕ → ℤ → LazyPiece
x86_64_word first second =
    with_field (first ∷ second ∷ 0 ∷ 0 ∷ 0 ∷ 0 ∷ [])
    (field_of 2 (x86_64_name x86_64.R_X86_64_PC32)) Word

abbrev pub x86_64_header : List LazyPiece
x86_64_header =
    x86_64_word 0xff 0x35 2 (pos 4)  -- `push 8+words(%rip)`
    ∷ x86_64_word 0xff 0x25 8 (pos 12)  -- `jmp *16+words(%rip)`
    ∷ fixed (0x0f ∷ 0x1f ∷ 0x40 ∷ 0 ∷ []) ∷ []  -- `nopl 0(%rax)`

-- `push index` and `jmp header`, after so many bytes of an entry; then others
abbrev pub x86_64_onward : ℕ → List LazyPiece → List LazyPiece
x86_64_onward before others =
    with_field (0x68 ∷ 0 ∷ 0 ∷ 0 ∷ 0 ∷ [])
    (field_of 1 (x86_64_name x86_64.R_X86_64_32S)) Index 0 (pos 0)
    ∷ with_field (0xe9 ∷ 0 ∷ 0 ∷ 0 ∷ 0 ∷ [])
    (field_of 1 (x86_64_name x86_64.R_X86_64_PC32)) Header (before + 6) (negsuc 3) ∷ others

-- `jmp *word(%rip)`, and those
abbrev pub x86_64_entry : List LazyPiece
x86_64_entry = x86_64_word 0xff 0x25 2 (negsuc 3) ∷ x86_64_onward 6 []

abbrev pub x86_64_plt : List LazyPiece → LazyWord → PltCode
x86_64_plt entry own =
    plt_of X86_64 16 x86_64_header entry (word.Dynamic ∷ word.Zero ∷ word.Zero ∷ []) own

-- for protected code: calls come by a stub, to which the entry's word belongs
-- `endbr64`, those, and `xchg %ax,%ax`, which does nothing
abbrev pub x86_64_landing_entry : List LazyPiece
x86_64_landing_entry =
    fixed (0xf3 ∷ 0x0f ∷ 0x1e ∷ 0xfa ∷ []) ∷ x86_64_onward 4 (fixed (0x66 ∷ 0x90 ∷ []) ∷ [])

-- for the address of the resolver, and what names the object
abbrev pub two_zeros : List LazyWord
two_zeros = word.Zero ∷ word.Zero ∷ []

abbrev pub lazy_plt_of : Architecture → PltCode
lazy_plt_of AArch64 = aarch64_plt aarch64_header aarch64_entry
lazy_plt_of RiscV = plt_of RiscV 16 riscv_header riscv_entry two_zeros word.Header
lazy_plt_of LoongArch64 =
    plt_of LoongArch64 16 loongarch_header loongarch_entry two_zeros word.Header
lazy_plt_of Ppc64 = plt_of Ppc64 4 ppc64_header ppc64_entry two_zeros (word.Entry 0)
lazy_plt_of X86_64 = x86_64_plt x86_64_entry (word.Entry 6)

-- for protected code
abbrev pub plt_of_form : Architecture → LazyForm → Option PltCode
plt_of_form AArch64 form.Landing = Some (aarch64_plt aarch64_landing_header aarch64_wide_entry)
plt_of_form AArch64 form.LandingEntry =
    Some (aarch64_plt aarch64_landing_header aarch64_landing_entry)
plt_of_form AArch64 form.Authenticated = Some (aarch64_plt aarch64_header aarch64_authenticated_entry)
plt_of_form AArch64 form.AuthenticatedLanding =
    Some (aarch64_plt aarch64_landing_header aarch64_authenticated_entry)
plt_of_form AArch64 form.AuthenticatedLandingEntry =
    Some (aarch64_plt aarch64_landing_header aarch64_authenticated_landing_entry)
plt_of_form X86_64 form.Landing = Some (x86_64_plt x86_64_landing_entry (word.Entry 0))
plt_of_form architecture form.Plain = Some (lazy_plt_of architecture)
plt_of_form architecture form = None
