use Rattle.linker_reading.proofs.WrittenRows.{row_changes_field}
use Rattle.linker_reading.proofs.recognise.fields.writes_change_fields.Goals as goal

pub returns : goal.returns
returns c = row_changes_field
