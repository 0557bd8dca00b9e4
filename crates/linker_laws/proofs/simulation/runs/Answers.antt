use Rattle.linker_laws.proofs.Imports.{of_chain, of_link}
use Rattle.linker_laws.proofs.CoveredRuns.{simulates, composes}
use Rattle.linker_laws.proofs.simulation.runs.Goals as goal

-- src/lib.rt:8:1
pub returns : goal.returns
returns c =
    record {
      simulates = λ c. simulates (of_chain c);
      compose = λ c l. composes (of_chain c) (of_link l);
    }
