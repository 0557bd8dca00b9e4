use Rattle.linker_reading.proofs.Imports.{Option, RowInfo, ap, sym, value_read, ◌∙◌}
use Rattle.linker_reading.specs.Recognised.{value_at}
use Rattle.linker_reading.proofs.Read.{read_from}
use Rattle.linker_reading.proofs.recognise.engine.value_at.Goals as goal

pub returns : goal.returns
returns c =
    c.read.ensures.value ∙ ap (value_read c.in-Some.row) (read_from c.args.at c.min-start.result c.args.linked.now c.min-start.ensures)
    ∙ sym (ap (λ (row : Option RowInfo). value_at row c.args.at c.args.linked.now) c.in-Some.is)
