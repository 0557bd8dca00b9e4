-- What the parts of a run meet, fault by fault.
use Rattle.linker_runs.proofs.Imports.{Alignment, AlignmentMeets, Fault, Shape, Shapes, ShapesMeet, arith, number_of, short_shape, suc, zero, ℕ, ◌+◌, ◌<◌, ◌≤◌}
use Rattle.linker_runs.specs.declared.relaxation.faults.Fault.TheVariants.{TooManyShapes, ShapeTooLong, ShapesNotAscending, BadGranularity, BadReach, AlignmentBelowGranularity, UnevenEnd, TooFewNops, UnevenNops, Overlaps}

-- what shapes meet of the faults below a number
pub shapes_upto : (shapes : Shapes) (len n : ℕ) → (2 < n → ShapesMeet shapes len TooManyShapes) → (3 < n → ShapesMeet shapes len ShapeTooLong) → (4 < n → ShapesMeet shapes len ShapesNotAscending)
    → (5 < n → ShapesMeet shapes len BadGranularity) → (6 < n → ShapesMeet shapes len BadReach) → (fault : Fault) → number_of fault < n → ShapesMeet shapes len fault
shapes_upto shapes len n few within ascending units reaches TooManyShapes below = few below
shapes_upto shapes len n few within ascending units reaches ShapeTooLong below = within below
shapes_upto shapes len n few within ascending units reaches ShapesNotAscending below = ascending below
shapes_upto shapes len n few within ascending units reaches BadGranularity below = units below
shapes_upto shapes len n few within ascending units reaches BadReach below = reaches below
shapes_upto shapes len n few within ascending units reaches other below = tt

-- and an alignment
pub alignment_upto : (u start : ℕ) (alignment : Alignment) (n : ℕ) → (10 < n → AlignmentMeets u start alignment AlignmentBelowGranularity) → (11 < n → AlignmentMeets u start alignment UnevenEnd)
    → (12 < n → AlignmentMeets u start alignment TooFewNops) → (13 < n → AlignmentMeets u start alignment UnevenNops) → (fault : Fault) → number_of fault < n → AlignmentMeets u start alignment fault
alignment_upto u start alignment n power end enough even AlignmentBelowGranularity below = power below
alignment_upto u start alignment n power end enough even UnevenEnd below = end below
alignment_upto u start alignment n power end enough even TooFewNops below = enough below
alignment_upto u start alignment n power end enough even UnevenNops below = even below
alignment_upto u start alignment n power end enough even other below = tt

-- the greatest number of a fault is 15
pub numbers : (fault : Fault) → number_of fault < 16
numbers Overlaps = omega arith
numbers other = omega arith

-- what holds of the two short shapes there may be
pub of_both : (shapes : Shapes) (P : Shape → Type 0) → shapes.count ≤ 2 → (0 < shapes.count → P (short_shape shapes 0)) → (1 < shapes.count → P (short_shape shapes 1)) → (k : ℕ) → k < shapes.count → P (short_shape shapes k)
of_both shapes P few first second zero within = first within
of_both shapes P few first second (suc zero) within = second within
of_both shapes P few first second (suc (suc k)) within = absurd (omega arith)

-- the next of them has no greater granularity
pub next_unit : (shapes : Shapes) → shapes.count ≤ 2 → (1 < shapes.count → (short_shape shapes 1).granularity ≤ (short_shape shapes 0).granularity) → (k : ℕ) → k + 1 < shapes.count → (short_shape shapes (k + 1)).granularity ≤ (short_shape shapes k).granularity
next_unit shapes few first zero within = first (omega arith)
next_unit shapes few first (suc k) within = absurd (omega arith)
