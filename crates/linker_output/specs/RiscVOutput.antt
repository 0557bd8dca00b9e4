-- RISC-V, 64 bits: what a linker adds to an output (RISC-V ELF psABI, "Relocations"; paths as glibc
-- has them).
use Rattle.std.specs.Prelude.{codes, [], ◌∷◌, Some, ℕ, ◌+◌}
use Rattle.linker_elf.specs.RiscVRelocations.{riscv_name}
use Rattle.linker_elf.specs.declared.riscv64.relocations.RiscVRelocation.TheVariants as r
use Rattle.linker_output.specs.Tables.{field_of, kind, kind_of, symbol, path, plain_output, tag}
use Rattle.linker_output.specs.Tables.{plain_stub}
use Rattle.linker_output.specs.View.{Description}
use Rattle.linker_output.specs.Imports.{Dynamic, RiscV, SmallData, VariantCalls}

-- `e_flags`: the C extension; the float ABI, of two bits; the E extension; RVTSO
abbrev pub has_c : ℕ
has_c = 0x1

abbrev pub float_abi : ℕ
float_abi = 0x6

abbrev pub single_float : ℕ
single_float = 0x2

abbrev pub double_float : ℕ
double_float = 0x4

abbrev pub has_rve : ℕ
has_rve = 0x8

abbrev pub has_tso : ℕ
has_tso = 0x10

abbrev pub riscv_output : Description
riscv_output =
    record (plain_output RiscV
    (record {
      word = kind_of (riscv_name r.R_RISCV_64);
      relative = kind 3 (codes "R_RISCV_RELATIVE");
      glob_dat = kind_of (riscv_name r.R_RISCV_64);
      jump_slot = kind 5 (codes "R_RISCV_JUMP_SLOT");
      copy = kind 4 (codes "R_RISCV_COPY");
      irelative = kind 58 (codes "R_RISCV_IRELATIVE");
      module_number = kind 7 (codes "R_RISCV_TLS_DTPMOD64");
      module_offset = kind 9 (codes "R_RISCV_TLS_DTPREL64");
      thread_offset = kind 11 (codes "R_RISCV_TLS_TPREL64");
      descriptor = Some (kind 12 (codes "R_RISCV_TLSDESC"));
    })
    -- `auipc t3`, `ld t3, (t3)`, `jr t3`
    (plain_stub 0x00000e17 0x000e3e03 (field_of 0 (riscv_name r.R_RISCV_PCREL_HI20))
    (Some (field_of 4 (riscv_name r.R_RISCV_PCREL_LO12_I))) (0x000e0067 ∷ []))) {
      -- DT_RISCV_VARIANT_CC
      dynamic_tags = tag 0x70000001 VariantCalls ∷ [];
      module_bias = 0x800;
      got = record { header = Some Dynamic; bias = 0 };
      page = 0x1000;
      -- 2 bytes with the C extension
      code_unit = record { len = 4; flag = has_c; flagged_len = 2 };
      flags = record { same = float_abi + has_rve; joined = has_c + has_tso; own = 0 };
      symbols = symbol (codes "__global_pointer$") SmallData 0x800 ∷ [];
      interpreter_flags = float_abi + has_rve;
      paths =
          path 0 (codes "/lib/ld-linux-riscv64-lp64.so.1")
          ∷ path single_float (codes "/lib/ld-linux-riscv64-lp64f.so.1")
          ∷ path double_float (codes "/lib/ld-linux-riscv64-lp64d.so.1") ∷ [];
    }
