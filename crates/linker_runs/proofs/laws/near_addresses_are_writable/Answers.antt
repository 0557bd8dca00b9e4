use Rattle.linker_runs.proofs.LoongArchAddresses.{near_addresses}
use Rattle.linker_runs.proofs.laws.near_addresses_are_writable.Goals as goal

pub returns : goal.returns
returns c = near_addresses
