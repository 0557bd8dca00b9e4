-- Which targets the short shapes of the architectures reach: those that the instructions reach that
-- they stand for, by the rows of the relocations that give these their targets.
use Rattle.linker_runs.specs.Imports.{IsSomeAnd, List, None, Option, Shape, Shapes, [], length}
use Rattle.linker_runs.specs.Imports.{loongarch_row, pos, riscv_row, slice_index_or, true, ℕ}
use Rattle.std.specs.Prelude.{◌≡◌, ◌<◌, ◌↔◌, ◌∷◌, ◌-ℤ◌}
use Rattle.linker_elf.specs.Relocate.{IsInReach, window_len}
use Rattle.linker_elf.specs.declared.elf.RowInfo.{RowInfo}
use Rattle.linker_elf.specs.declared.loongarch64.relocations.LoongArch64Relocation.TheVariants as loongarch
use Rattle.linker_elf.specs.declared.riscv64.relocations.RiscVRelocation.TheVariants as riscv
use Rattle.linker_runs.specs.declared.shapes.loongarch64.TheConstants.{CALL36, PCALA}
use Rattle.linker_runs.specs.declared.shapes.riscv64.TheConstants.{CALL, TAIL_C, CALL_WITHOUT_C}
use Rattle.linker_runs.specs.Relaxing.{short_shape, is_reached}

-- A shape has as many bytes as the instruction of a row, and reaches a target exactly where the row
-- can write the distance.
pub record IsOfRow (shape : Shape) (row : RowInfo) : Type 0 where
  pub len : shape.kept ≡ window_len row
  pub reach : (from to : ℕ)
      → (is_reached shape from to ≡ true) ↔ IsInReach row (pos to -ℤ pos from)

-- The short shapes are those of the rows, in this order. The longest one is two
-- instructions of four bytes.
pub record AreOfRows (shapes : Shapes) (rows : List (Option RowInfo)) : Type 0 where
  pub count : shapes.count ≡ length rows
  pub each : (k : ℕ) → k < length rows
      → IsSomeAnd (slice_index_or rows k None) (IsOfRow (short_shape shapes k))
  pub longest : shapes.longest ≡ 8

-- A call becomes `jal`, and a tail call where the C extension may be used `c.j` or `jal`.
abbrev pub RiscVShapesAreOfRows : Type 0
RiscVShapesAreOfRows = AreOfRows CALL (riscv_row riscv.R_RISCV_JAL ∷ [])
    × AreOfRows TAIL_C (riscv_row riscv.R_RISCV_RVC_JUMP ∷ riscv_row riscv.R_RISCV_JAL ∷ [])
    × AreOfRows CALL_WITHOUT_C (riscv_row riscv.R_RISCV_JAL ∷ [])

-- A call becomes `b` or `bl`, and a pair that computes an address `pcaddi`.
abbrev pub LoongArchShapesAreOfRows : Type 0
LoongArchShapesAreOfRows = AreOfRows CALL36 (loongarch_row loongarch.R_LARCH_B26 ∷ [])
    × AreOfRows PCALA (loongarch_row loongarch.R_LARCH_PCREL20_S2 ∷ [])
