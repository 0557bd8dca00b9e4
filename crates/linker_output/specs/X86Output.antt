-- x86-64: what a linker adds to an output (x86-64 psABI, "Relocation Types"; ELF Handling For
-- Thread-Local Storage; paths as glibc has them).
use Rattle.std.specs.Prelude.{codes, [], ◌∷◌, None, Some, negsuc}
use Rattle.linker_output.specs.Imports.{AboveImage, ThreadLocal, X86_64, x86_64_name}
use Rattle.linker_elf.specs.declared.x86_64.relocations.X86_64Relocation.TheVariants as r
use Rattle.linker_output.specs.Stubs.{StubCode}
use Rattle.linker_output.specs.Tables.{field_of, kind, kind_of, units_of, symbol, only}
use Rattle.linker_output.specs.Tables.{four, plain_output}
use Rattle.linker_output.specs.View.{Description}

-- `jmp *word(%rip)`, of which the field is relative to the next instruction, and 2 of `int3`
abbrev pub by_word : StubCode
by_word =
    record {
      head = [];
      pair = 0xff ∷ 0x25 ∷ 0 ∷ 0 ∷ 0 ∷ 0 ∷ 0xcc ∷ 0xcc ∷ [];
      first = field_of 2 (x86_64_name r.R_X86_64_PC32);
      second = None;
      tail = [];
      entry = 0;
      origin = 2;
      addend = negsuc 3;
    }

abbrev pub x86_64_output : Description
x86_64_output =
    record (plain_output X86_64
    (record {
      word = kind_of (x86_64_name r.R_X86_64_64);
      relative = kind 8 (codes "R_X86_64_RELATIVE");
      glob_dat = kind 6 (codes "R_X86_64_GLOB_DAT");
      jump_slot = kind 7 (codes "R_X86_64_JUMP_SLOT");
      copy = kind 5 (codes "R_X86_64_COPY");
      irelative = kind 37 (codes "R_X86_64_IRELATIVE");
      module_number = kind 16 (codes "R_X86_64_DTPMOD64");
      module_offset = kind_of (x86_64_name r.R_X86_64_DTPOFF64);
      thread_offset = kind_of (x86_64_name r.R_X86_64_TPOFF64);
      descriptor = Some (kind 36 (codes "R_X86_64_TLSDESC"));
    })
    by_word) {
      -- `int3`
      filler = four 0xcc 0xcc 0xcc 0xcc;
      symbols = symbol (codes "_TLS_MODULE_BASE_") ThreadLocal 0 ∷ [];
      paths = only (codes "/lib64/ld-linux-x86-64.so.2");
      -- GNU_PROPERTY_X86_FEATURE_1_AND, and its bit IBT
      landing_property = Some (record { kind = 0xc0000002; bit = 1 });
      thread_pointer = AboveImage;
      page = 0x1000;
      code_unit = units_of 1;
      -- `endbr64`, `jmp *word(%rip)`, and `nopw 0(%rax,%rax)`, which does nothing
      landing_load_stub =
          Some
          (record by_word {
            head = four 0xf3 0x0f 0x1e 0xfa;
            pair = 0xff ∷ 0x25 ∷ 0 ∷ 0 ∷ 0 ∷ 0 ∷ 0x66 ∷ 0x0f ∷ [];
            tail = four 0x1f 0x44 0 0;
            origin = 6;
          });
    }
