-- The reaches of calls and addresses of LoongArch are those of the rows of what they become.
use Rattle.linker_runs.proofs.Imports.{CALL36, IsOfRow, IsSomeAnd, LoongArchShapesAreOfRows, PCALA, R_LARCH_B26, R_LARCH_PCREL20_S2, refl, short_shape}
use Rattle.linker_elf.specs.LoongArchRelocations.{loongarch_row}
use Rattle.linker_runs.proofs.Reaches.{one, fours, is_of_row, size_within}

branch : IsSomeAnd (loongarch_row R_LARCH_B26) (IsOfRow (short_shape CALL36 0))
branch = record {
  len = refl;
  reach = is_of_row 4 134217728 4 fours _ refl refl (λ v. tt) (λ from to _. size_within 134217728 from to);
}

pcaddi : IsSomeAnd (loongarch_row R_LARCH_PCREL20_S2) (IsOfRow (short_shape PCALA 0))
pcaddi = record {
  len = refl;
  reach = is_of_row 4 2097152 4 fours _ refl refl (λ v. tt) (λ from to _. size_within 2097152 from to);
}

pub loongarch_shapes : LoongArchShapesAreOfRows
loongarch_shapes = (one CALL36 _ refl refl branch, one PCALA _ refl refl pcaddi)
