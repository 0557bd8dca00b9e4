use Rattle.linker_runs.proofs.Imports.{ItemMeets, arith, pow_pos, subst}
use Rattle.linker_runs.specs.declared.relaxation.faults.Fault.TheVariants.{TooManyShapes, ShapeTooLong, BadAlignment}
use Rattle.linker_runs.proofs.relaxation.Item.granularity_fault.Goals as goal

pub are_even-requires-clause-count : goal.are_even-requires-clause-count
are_even-requires-clause-count c = subst (λ item. ItemMeets item TooManyShapes) c.in-Site.is (c.requires.few TooManyShapes)

pub are_even-requires-clause-within : goal.are_even-requires-clause-within
are_even-requires-clause-within c =
    let h = subst (λ item. ItemMeets item ShapeTooLong) c.in-Site.is (c.requires.few ShapeTooLong) in
    (omega arith, λ k short. (let one = h.1 k short in omega arith))

pub fault-requires-clause-power : goal.fault-requires-clause-power
fault-requires-clause-power c =
    let power = subst (λ item. ItemMeets item BadAlignment) c.in-Aligned.is (c.requires.few BadAlignment) in
    omega (arith, pow_pos power.0, power.1)
