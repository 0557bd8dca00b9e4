use Rattle.linker_utils_c.proofs.Imports.{rules}
use Rattle.linker_utils_c.proofs.pack_runs.pack.Goals as goal

pub returns-in-Err : goal.returns-in-Err
returns-in-Err c = record {
  listed = search rules;
  too_high = search rules;
  different_lengths = search rules;
  outcome = search rules;
  unchanged = search rules;
  faulty_stays = search rules;
}
