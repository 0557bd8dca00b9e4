-- PowerPC64: what a linker adds to an output (64-bit ELF V2 ABI for Power, "Relocation Types";
-- paths as glibc has them).
use Rattle.std.specs.Prelude.{◌+◌, ◌^◌, codes, [], ◌∷◌, None, Some, ℕ, List}
use Rattle.linker_output.specs.Imports.{Base, BelowImage, ElfName, Got, LazyPlt, Options, Ppc64}
use Rattle.linker_output.specs.Imports.{ppc64_name}
use Rattle.linker_elf.specs.declared.ppc64.relocations.Ppc64Relocation.TheVariants as r
use Rattle.linker_output.specs.Layout.{Run}
use Rattle.linker_output.specs.Stubs.{StubCode}
use Rattle.linker_output.specs.Tables.{field_of, code_of_words, kind, kind_of, plain_stub}
use Rattle.linker_output.specs.Tables.{symbol, only, plain_output, tag, four, load_of}
use Rattle.linker_output.specs.View.{Description}

-- `e_flags`: the version of the ABI
abbrev pub version_2 : ℕ
version_2 = 2

-- stubs: `std 2, 24(1)`, `mflr 0`, `bcl 20, 31, .+4`, `mflr 12`, which puts its own address in r12,
-- and `mtlr 0`
abbrev pub address_to_r12 : List ℕ
address_to_r12 = 0xf8410018 ∷ 0x7c0802a6 ∷ 0x429f0005 ∷ 0x7d8802a6 ∷ 0x7c0803a6 ∷ []

-- `mtctr 12`, `bctr`
abbrev pub jump_to_r12 : List ℕ
jump_to_r12 = 0x7d8903a6 ∷ 0x4e800420 ∷ []

-- `addis 12, 2`, `ld 12, (12)`
abbrev pub by_toc : StubCode
by_toc =
    plain_stub 0x3d820000 0xe98c0000 (field_of 0 (ppc64_name r.R_PPC64_TOC16_HA))
    (Some (field_of 4 (ppc64_name r.R_PPC64_TOC16_LO_DS))) jump_to_r12

-- a prefixed instruction
abbrev pub by_prefixed : ℕ → ℕ → StubCode
by_prefixed prefix suffix =
    plain_stub prefix suffix (field_of 0 (ppc64_name r.R_PPC64_PCREL34)) None jump_to_r12

-- `addis 12, 12` and an instruction with the low half
abbrev pub through_r12 : ℕ → ElfName → StubCode
through_r12 word low =
    record (plain_stub 0x3d8c0000 word (field_of 0 (ppc64_name r.R_PPC64_TOC16_HA))
    (Some (field_of 4 low)) jump_to_r12) {
      head = code_of_words address_to_r12;
      entry = 4;
      origin = 12;
    }

-- `std 0,16(1)` and `ld 0,16(1)`; `mtlr 0`; `blr`
abbrev pub save_link : ℕ
save_link = 0xf8010010

abbrev pub load_link : ℕ
load_link = 0xe8010010

abbrev pub mtlr_0 : ℕ
mtlr_0 = 0x7c0803a6

abbrev pub blr : ℕ
blr = 0x4e800020

-- functions that save or restore registers 14 to 31, each 8 bytes above the one before it (64-bit
-- ELF V2 ABI for Power): an instruction of each register, and those that all end with
abbrev pub of_registers : List ℕ → ℕ → List ℕ → Run
of_registers prefix word tail =
    record {
      prefix = prefix;
      first = 14;
      count = 18;
      word = word;
      step = 2 ^ 21 + 8;
      second = None;
      tail = tail;
    }

-- functions that save or restore vector registers 20 to 31, each 16 bytes above the one before it:
-- `addi 12,0` with the place, an instruction of each register, and `blr`
abbrev pub of_vectors : List ℕ → ℕ → Run
of_vectors prefix access =
    record (of_registers prefix 0x3980ff40 (blr ∷ [])) {
      first = 20;
      count = 12;
      step = 16;
      second = Some (record { word = access; step = 2 ^ 21 });
    }

abbrev pub ppc64_output : Description
ppc64_output =
    record (plain_output Ppc64
    (record {
      word = kind_of (ppc64_name r.R_PPC64_ADDR64);
      relative = kind 22 (codes "R_PPC64_RELATIVE");
      glob_dat = kind 20 (codes "R_PPC64_GLOB_DAT");
      jump_slot = kind 21 (codes "R_PPC64_JMP_SLOT");
      copy = kind 19 (codes "R_PPC64_COPY");
      irelative = kind 248 (codes "R_PPC64_IRELATIVE");
      module_number = kind 68 (codes "R_PPC64_DTPMOD64");
      module_offset = kind_of (ppc64_name r.R_PPC64_DTPREL64);
      thread_offset = kind_of (ppc64_name r.R_PPC64_TPREL64);
      descriptor = None;
    })
    -- `addis 12, 12`, `ld 12, (12)`
    (through_r12 0xe98c0000 (ppc64_name r.R_PPC64_TOC16_LO_DS))) {
      -- DT_PPC64_GLINK, DT_PPC64_OPT
      dynamic_tags = tag 0x70000000 LazyPlt ∷ tag 0x70000003 Options ∷ [];
      thread_pointer = BelowImage 0 0x7000;
      module_bias = 0x8000;
      -- the TOC pointer is 0x8000 above the GOT, whose first word has it
      got = record { header = Some Base; bias = 0x8000 };
      -- compilers keep addresses in `.toc` (64-bit ELF V2 ABI for Power, "TOC")
      addresses =
          Some
          (record {
            name = codes ".toc";
            loads =
                load_of (ppc64_name r.R_PPC64_TOC16_HA) (ppc64_name r.R_PPC64_GOT16_HA)
                ∷ load_of (ppc64_name r.R_PPC64_TOC16_LO) (ppc64_name r.R_PPC64_GOT16_LO)
                ∷ load_of (ppc64_name r.R_PPC64_TOC16_LO_DS) (ppc64_name r.R_PPC64_GOT16_LO_DS)
                ∷ [];
          });
      -- `trap`
      filler = four 0x08 0 0xe0 0x7f;
      -- version 2 of the ABI, or 0, which leaves it open; an output has 2
      flags = record { same = 0; joined = version_2; own = version_2 };
      symbols = symbol (codes ".TOC.") Got 0x8000 ∷ [];
      -- from `std`, `ld`, `stfd` and `lfd` of register 14 and -144(1), or -144(12), on
      runs =
          of_registers (codes "_savegpr0_") 0xf9c1ff70 (save_link ∷ blr ∷ [])
          ∷ of_registers (codes "_restgpr0_") 0xe9c1ff70 (load_link ∷ mtlr_0 ∷ blr ∷ [])
          ∷ of_registers (codes "_savegpr1_") 0xf9ccff70 (blr ∷ [])
          ∷ of_registers (codes "_restgpr1_") 0xe9ccff70 (blr ∷ [])
          ∷ of_registers (codes "_savefpr_") 0xd9c1ff70 (save_link ∷ blr ∷ [])
          ∷ of_registers (codes "_restfpr_") 0xc9c1ff70 (load_link ∷ mtlr_0 ∷ blr ∷ [])
          -- `stvx` and `lvx` of register 20 over 12 and 0
          ∷ of_vectors (codes "_savevr_") 0x7e8c01ce
          ∷ of_vectors (codes "_restvr_") 0x7e8c00ce ∷ [];
      paths = only (codes "/lib64/ld64.so.2");
      -- `addis 12, 12`, `addi 12, 12`
      jump_stub = Some (through_r12 0x398c0000 (ppc64_name r.R_PPC64_TOC16_LO));
      -- `std 2, 24(1)`, and the same as the next
      toc_load_stub =
          Some (record by_toc { head = code_of_words (0xf8410018 ∷ []); entry = 4 });
      toc_far_stub = Some by_toc;
      -- `pld 12`, `paddi 12, 0`, relative to the instruction
      prefixed_load_stub = Some (by_prefixed 0x04100000 0xe5800000);
      prefixed_jump_stub = Some (by_prefixed 0x06100000 0x39800000);
    }
