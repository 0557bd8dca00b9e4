-- Shapes, and the faults of a run, in the numbers that C sees.
use Rattle.std.specs.Prelude.{◌≡◌, ℕ, ◌+◌, ◌==◌, if◌then◌else◌, List}
use Rattle.std.specs.Prelude.{Option, None, Some}
use Rattle.linker_runs.specs.declared.relaxation.Shapes.{Shapes}
use Rattle.linker_utils_c.specs.Imports.{AlignmentBelowGranularity, BadAlignment, BadGranularity}
use Rattle.linker_utils_c.specs.Imports.{BadReach, EndsTooHigh, Item, ItemsOverlap, MayBeMisaligned}
use Rattle.linker_utils_c.specs.Imports.{Misaligned, ShapeTooLong, ShapesNotAscending, Status}
use Rattle.linker_utils_c.specs.Imports.{TargetInside, TooFewNops, TooManyShapes, UnevenEnd}
use Rattle.linker_utils_c.specs.Imports.{UnevenNops, UnevenShape}
use Rattle.linker_runs.specs.declared.relaxation.faults.Fault.{Fault}
use Rattle.linker_runs.specs.declared.relaxation.faults.Fault.TheVariants as faults
use Rattle.linker_runs.specs.declared.shapes.riscv64.TheConstants as riscv
use Rattle.linker_runs.specs.declared.shapes.loongarch64.TheConstants as loongarch
use Rattle.linker_runs.specs.Faults.{IsFirstFault}
use Rattle.linker_utils_c.specs.Status.{code}

-- the shapes that a number names
abbrev pub standard_shapes : ℕ → Option Shapes
standard_shapes number =
    if number == 0 then Some riscv.CALL
    else if number == 1 then Some riscv.TAIL_C
    else if number == 2 then Some riscv.CALL_WITHOUT_C
    else if number == 3 then Some loongarch.CALL36
    else if number == 4 then Some loongarch.PCALA
    else None

abbrev pub fault_status : Fault → Status
fault_status faults.Overlaps = ItemsOverlap
fault_status faults.TooHigh = EndsTooHigh
fault_status faults.TooManyShapes = TooManyShapes
fault_status faults.ShapeTooLong = ShapeTooLong
fault_status faults.ShapesNotAscending = ShapesNotAscending
fault_status faults.BadGranularity = BadGranularity
fault_status faults.BadReach = BadReach
fault_status faults.BadAlignment = BadAlignment
fault_status faults.UnevenShape = UnevenShape
fault_status faults.Misaligned = Misaligned
fault_status faults.AlignmentBelowGranularity = AlignmentBelowGranularity
fault_status faults.UnevenEnd = UnevenEnd
fault_status faults.TooFewNops = TooFewNops
fault_status faults.UnevenNops = UnevenNops
fault_status faults.TargetInside = TargetInside
fault_status faults.MayBeMisaligned = MayBeMisaligned

-- the status says the run's first fault, which is that of the item at the index
pub record IsRunFault (start : ℕ) (items : List Item) (at status : ℕ) : Type 0 where
  pub fault : Fault
  pub says : status ≡ code (fault_status fault)
  pub first : IsFirstFault start items (record { index = at; fault = fault })

-- the arrays of a run of n items have as many elements, and the last one has one more
pub record HaveLengths (len shapes kept places freed : ℕ) : Type 0 where
  pub each_shape : shapes ≡ len
  pub each_kept : kept ≡ len
  pub each_place : places ≡ len
  pub one_more : freed ≡ len + 1
