-- AArch64: what a linker adds to an output (ELF for the Arm 64-bit Architecture, "Relocation";
-- System V ABI for the Arm 64-bit Architecture; paths as glibc has them). ELF for the Arm 64-bit
-- Architecture leaves 1028 and 1029 to the platform, and glibc has the module's number first.
use Rattle.std.specs.Prelude.{codes, [], Some, ◌∷◌, pos}
use Rattle.linker_elf.specs.AArch64Relocations.{aarch64_name}
use Rattle.linker_elf.specs.declared.aarch64.relocations.AArch64Relocation.TheVariants as r
use Rattle.linker_output.specs.Stubs.{StubCode}
use Rattle.linker_output.specs.Tables.{field_of, kind, kind_of, plain_output, only, tag}
use Rattle.linker_output.specs.Tables.{plain_stub, data_stub, code_of_words}
use Rattle.linker_output.specs.View.{Description}
use Rattle.linker_output.specs.Imports.{AArch64, BelowImage, LandingPlt, SignedPlt, VariantCalls}

-- `adrp x16`, `ldr x17, [x16]`, `br x17`
abbrev pub by_word : StubCode
by_word =
    plain_stub 0x90000010 0xf9400211 (field_of 0 (aarch64_name r.R_AARCH64_ADR_PREL_PG_HI21))
    (Some (field_of 4 (aarch64_name r.R_AARCH64_LDST64_ABS_LO12_NC))) (0xd61f0220 ∷ [])

abbrev pub aarch64_output : Description
aarch64_output =
    record (plain_output AArch64
    (record {
      word = kind_of (aarch64_name r.R_AARCH64_ABS64);
      relative = kind 1027 (codes "R_AARCH64_RELATIVE");
      glob_dat = kind 1025 (codes "R_AARCH64_GLOB_DAT");
      jump_slot = kind 1026 (codes "R_AARCH64_JUMP_SLOT");
      copy = kind 1024 (codes "R_AARCH64_COPY");
      irelative = kind 1032 (codes "R_AARCH64_IRELATIVE");
      module_number = kind 1028 (codes "R_AARCH64_TLS_DTPMOD");
      module_offset = kind 1029 (codes "R_AARCH64_TLS_DTPREL");
      thread_offset = kind 1030 (codes "R_AARCH64_TLS_TPREL");
      descriptor = Some (kind 1031 (codes "R_AARCH64_TLSDESC"));
    })
    by_word) {
      -- DT_AARCH64_BTI_PLT, DT_AARCH64_PAC_PLT, DT_AARCH64_VARIANT_PCS
      dynamic_tags =
          tag 0x70000001 LandingPlt ∷ tag 0x70000003 SignedPlt ∷ tag 0x70000005 VariantCalls ∷ [];
      -- 16 bytes above the thread pointer are the run-time library's
      thread_pointer = BelowImage 16 0;
      paths = only (codes "/lib/ld-linux-aarch64.so.1");
      -- GNU_PROPERTY_AARCH64_FEATURE_1_AND, and its bit BTI
      landing_property = Some (record { kind = 0xc0000000; bit = 1 });
      -- `bti c`, and the same
      landing_load_stub =
          Some (record by_word { head = code_of_words (0xd503245f ∷ []); origin = 4 });
      -- `adrp x16`, `add x16, x16`, `br x16`
      jump_stub =
          Some
          (plain_stub 0x90000010 0x91000210 (field_of 0 (aarch64_name r.R_AARCH64_ADR_PREL_PG_HI21))
          (Some (field_of 4 (aarch64_name r.R_AARCH64_ADD_ABS_LO12_NC))) (0xd61f0200 ∷ []));
      -- `ldr x16, 8`, `br x16`, and the address
      far_stub =
          Some
          (data_stub (0x58000050 ∷ 0xd61f0200 ∷ []) 8 (field_of 0 (aarch64_name r.R_AARCH64_ABS64))
          (pos 0));
      -- `ldr x16, 16`, `adr x17, 0`, `add x16, x16, x17`, `br x16`, and the distance from `adr`
      far_relative_stub =
          Some
          (data_stub (0x58000090 ∷ 0x10000011 ∷ 0x8b110210 ∷ 0xd61f0200 ∷ []) 16
          (field_of 0 (aarch64_name r.R_AARCH64_PREL64)) (pos 12));
    }
