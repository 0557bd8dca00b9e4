-- The reaches of calls of RISC-V are those of the rows of what they become.
use Rattle.linker_runs.proofs.Imports.{CALL, CALL_WITHOUT_C, IsOfRow, IsSomeAnd, R_RISCV_JAL, R_RISCV_RVC_JUMP, RiscVShapesAreOfRows, TAIL_C, arith, refl, riscv_row, short_shape}
use Rattle.linker_runs.proofs.Reaches.{one, two, twos, is_of_row, even_within}

jal : IsSomeAnd (riscv_row R_RISCV_JAL) (IsOfRow (short_shape CALL 0))
jal = record {
  len = refl;
  reach = is_of_row 4 1048576 2 twos _ refl refl (λ v. tt) (λ from to. even_within 524288 from to (omega arith));
}

c_j : IsSomeAnd (riscv_row R_RISCV_RVC_JUMP) (IsOfRow (short_shape TAIL_C 0))
c_j = record {
  len = refl;
  reach = is_of_row 2 2048 2 twos _ refl refl (λ v. tt) (λ from to. even_within 1024 from to (omega arith));
}

pub riscv_shapes : RiscVShapesAreOfRows
riscv_shapes = (
  one CALL _ refl refl jal,
  two TAIL_C _ _ refl refl c_j jal,
  one CALL_WITHOUT_C _ refl refl jal,
)
