use Rattle.linker_output.proofs.Ppc64SaveLaws.{saves_so, restores_so}
use Rattle.linker_output.proofs.Ppc64VectorLaws as vectors
use Rattle.linker_output.proofs.laws.ppc64_saves.Goals as goal

pub returns-clause-saves : goal.returns-clause-saves
returns-clause-saves c = saves_so

pub returns-clause-restores : goal.returns-clause-restores
returns-clause-restores c = restores_so

pub returns-clause-saves_vectors : goal.returns-clause-saves_vectors
returns-clause-saves_vectors c = vectors.saves_so

pub returns-clause-restores_vectors : goal.returns-clause-restores_vectors
returns-clause-restores_vectors c = vectors.restores_so
