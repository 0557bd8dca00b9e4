use Rattle.linker_rewriting.proofs.Bytes.{one_byte_tells, words_tell}
use Rattle.linker_rewriting.proofs.KeptBits.{tell}
use Rattle.linker_rewriting.proofs.Makeable.{decisions_are_made}
use Rattle.linker_rewriting.proofs.laws.decisions_are_made.Goals as goal

pub returns : goal.returns
returns c = record {
  made = decisions_are_made;
  one = one_byte_tells;
  words = words_tell;
  facts = tell;
}
