-- RV32: what a linker adds to an output (RISC-V ELF psABI, "Relocations"; paths as glibc has them).
use Rattle.std.specs.Prelude.{codes, [], ◌∷◌, Some}
use Rattle.linker_elf.specs.RiscVRelocations.{riscv_name}
use Rattle.linker_elf.specs.declared.riscv64.relocations.RiscVRelocation.TheVariants as r
use Rattle.linker_output.specs.RiscVOutput.{riscv_output, single_float, double_float}
use Rattle.linker_output.specs.Tables.{field_of, kind, kind_of, path, plain_stub}
use Rattle.linker_output.specs.View.{Description}

-- what differs from RV64's
abbrev pub riscv32_output : Description
riscv32_output =
    record riscv_output {
      dynamic =
          record (riscv_output.dynamic) {
            word = kind_of (riscv_name r.R_RISCV_32);
            glob_dat = kind_of (riscv_name r.R_RISCV_32);
            module_number = kind 6 (codes "R_RISCV_TLS_DTPMOD32");
            module_offset = kind 8 (codes "R_RISCV_TLS_DTPREL32");
            thread_offset = kind 10 (codes "R_RISCV_TLS_TPREL32");
          };
      paths =
          path 0 (codes "/lib/ld-linux-riscv32-ilp32.so.1")
          ∷ path single_float (codes "/lib/ld-linux-riscv32-ilp32f.so.1")
          ∷ path double_float (codes "/lib/ld-linux-riscv32-ilp32d.so.1") ∷ [];
      -- `auipc t3`, `lw t3, (t3)`, `jr t3`
      load_stub =
          plain_stub 0x00000e17 0x000e2e03 (field_of 0 (riscv_name r.R_RISCV_PCREL_HI20))
          (Some (field_of 4 (riscv_name r.R_RISCV_PCREL_LO12_I))) (0x000e0067 ∷ []);
    }
