use Rattle.linker_reading.proofs.Imports.{ap, arith, sym, ◌%◌, ◌∙◌}
use Rattle.linker_reading.proofs.Aligned.{alignment_leaves}
use Rattle.linker_reading.proofs.Ranges.{moved_fits}
use Rattle.linker_reading.proofs.reading.with_alignment.Goals as goal

pub overflow_mul-result : goal.overflow_mul-result
overflow_mul-result c =
    let f = c.args.field in
    rw c.power_of_two-unit.ensures (record {
      fits = moved_fits f.bits f.known.start f.known.end c.requires.bits (omega arith) c.requires.short;
    })

pub returns-then-alignment-unit-eq0-clause-known : goal.returns-then-alignment-unit-eq0-clause-known
returns-then-alignment-unit-eq0-clause-known c = λ some v fits aligned known.
    rw c.power_of_two-unit.ensures (alignment_leaves c.args.alignment c.args.field
    (record { some = c.requires.some; inside = c.requires.short; small = c.requires.bits })
    some c.if-field-eq0.true
    (ap (λ u. c.args.alignment % u) (sym c.power_of_two-unit.ensures)
    ∙ c.if-alignment-unit-eq0.true)
    v fits aligned known)
