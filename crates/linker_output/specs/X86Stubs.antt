-- x86-64: stubs go to the address that their word has (Intel 64 and IA-32 Architectures Software
-- Developer's Manual, volume 2, "JMP").
use Rattle.std.specs.Prelude.{◌≡◌, ◌^◌, ◌<◌, ℕ, List, Some, IsSomeAnd}
use Rattle.linker_laws.specs.X86Machine.{State, step, load}
use Rattle.linker_output.specs.Stubs.{IsStub}
use Rattle.linker_output.specs.X86LazyPlt.{run}
use Rattle.linker_output.specs.X86Output.{x86_64_output}
use Rattle.linker_output.specs.Imports.{X86_64}

-- Nothing but the instruction pointer changes.
abbrev pub Loads : Type 0
Loads =
    (place word : ℕ) → place < 2 ^ 64 → word < 2 ^ 64 → (code : List ℕ)
    → IsStub X86_64 x86_64_output.load_stub place word code
    → (s : State) → s.ip ≡ place → step code s ≡ Some (record s { ip = load 8 s word })

-- the same, in two instructions, where indirect branches may go to the stub
abbrev pub LandingLoads : Type 0
LandingLoads =
    (place word : ℕ) → place < 2 ^ 64 → word < 2 ^ 64 → (code : List ℕ)
    → IsSomeAnd x86_64_output.landing_load_stub (λ stub. IsStub X86_64 stub place word code)
    → (s : State) → s.ip ≡ place → run 2 code place s ≡ Some (record s { ip = load 8 s word })
