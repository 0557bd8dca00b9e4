use Rattle.linker_laws.proofs.SimulationWorked.{is_worked}
use Rattle.linker_laws.proofs.ChainWorked.{is_chain_worked}
use Rattle.linker_laws.proofs.simulation.worked.Goals as goal

-- src/lib.rt:8:1
pub returns : goal.returns
returns c = record { worked = is_worked; chain = is_chain_worked }
