use Rattle.linker_final.proofs.Written.{bytes, fields}
use Rattle.linker_final.proofs.laws.others.Goals as goal

pub returns : goal.returns
returns c = record { bytes = bytes; fields = fields }
