-- What is recognised of x86-64.
use Rattle.linker_reading.specs.Imports.{Applies, List, RewriteKind as X86Kind, X86_64Relocation, ℕ}
use Rattle.linker_elf.specs.X86Relocations.{x86_64_name, x86_64_row}
use Rattle.linker_reading.specs.Recognised.{Recogniser}
use Rattle.linker_utils.specs.declared.architecture.Relaxation.TheVariants as relaxations
use Rattle.linker_utils.specs.X86Rewrites.{Table, HasPattern as IsAskedForByX86}
use Rattle.linker_utils.specs.X86Rewrites.{opcode_at, x86_64_after, x86_64_table}
use Rattle.linker_utils.specs.declared.x86_64.rewrites.RewriteKind.TheVariants as of_x86_64

-- by the opcode before the offset
abbrev pub x86_64_table_at : X86_64Relocation → List ℕ → ℕ → Table
x86_64_table_at name original o = x86_64_table name (opcode_at name original o)

abbrev pub x86_64 : Recogniser X86Kind X86_64Relocation
x86_64 =
    record {
      entries = λ name original o. (x86_64_table_at name original o).entries;
      applies = λ name original o.
          Applies (IsAskedForByX86 (x86_64_table_at name original o).instructions) x86_64_row
          x86_64_after original o;
      no_op = of_x86_64.NoOp;
      row = x86_64_row;
      elf_name = x86_64_name;
      relaxation = relaxations.X86_64;
    }
