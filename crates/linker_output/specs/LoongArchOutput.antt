-- LoongArch, 64 bits: what a linker adds to an output (LoongArch ELF psABI, "Relocation Types";
-- paths as glibc has them).
use Rattle.std.specs.Prelude.{codes, [], ◌∷◌, None, Some, ℕ, ◌+◌}
use Rattle.linker_output.specs.Imports.{LoongArch64, loongarch_name}
use Rattle.linker_elf.specs.declared.loongarch64.relocations.LoongArch64Relocation.TheVariants as r
use Rattle.linker_output.specs.Tables.{field_of, field_of_32, kind, kind_of, plain_output, path}
use Rattle.linker_output.specs.Tables.{four, plain_stub}
use Rattle.linker_output.specs.View.{Description}

-- `e_flags`: the base ABI, of three bits, and the version of the object file ABI, of two
abbrev pub base_abi : ℕ
base_abi = 0x7

abbrev pub soft_float : ℕ
soft_float = 1

abbrev pub single_float : ℕ
single_float = 2

abbrev pub double_float : ℕ
double_float = 3

abbrev pub abi_version : ℕ
abi_version = 0xc0

abbrev pub loongarch_output : Description
loongarch_output =
    record (plain_output LoongArch64
    (record {
      word = kind_of (loongarch_name r.R_LARCH_64);
      relative = kind 3 (codes "R_LARCH_RELATIVE");
      glob_dat = kind_of (loongarch_name r.R_LARCH_64);
      jump_slot = kind 5 (codes "R_LARCH_JUMP_SLOT");
      copy = kind 4 (codes "R_LARCH_COPY");
      irelative = kind 12 (codes "R_LARCH_IRELATIVE");
      module_number = kind 7 (codes "R_LARCH_TLS_DTPMOD64");
      module_offset = kind_of (loongarch_name r.R_LARCH_TLS_DTPREL64);
      thread_offset = kind 11 (codes "R_LARCH_TLS_TPREL64");
      descriptor = Some (kind 14 (codes "R_LARCH_TLS_DESC64"));
    })
    -- `pcalau12i $t3`, `ld.d $t3, $t3`, `jirl $zero, $t3`
    (plain_stub 0x1a00000f 0x28c001ef (field_of_32 0 (loongarch_name r.R_LARCH_GOT_PC_HI20))
    (Some (field_of 4 (loongarch_name r.R_LARCH_GOT_PC_LO12))) (0x4c0001e0 ∷ []))) {
      -- `break 0`
      filler = four 0 0 0x2a 0;
      flags = record { same = base_abi + abi_version; joined = 0; own = 0 };
      interpreter_flags = base_abi;
      paths =
          path soft_float (codes "/lib64/ld-linux-loongarch-lp64s.so.1")
          ∷ path single_float (codes "/lib64/ld-linux-loongarch-lp64f.so.1")
          ∷ path double_float (codes "/lib64/ld-linux-loongarch-lp64d.so.1") ∷ [];
      -- `pcaddu18i $t3`, `jirl $zero, $t3`
      jump_stub =
          Some
          (plain_stub 0x1e00000f 0x4c0001e0 (field_of 0 (loongarch_name r.R_LARCH_CALL36))
          None []);
    }
