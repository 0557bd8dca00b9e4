use Rattle.linker_elf.proofs.Imports.{take, ◌≡◌}
use Rattle.linker_elf.proofs.Steps.{taken}
use Rattle.linker_elf.proofs.elf.engine.number_in.Given as goal

abbrev pub invariant-loop-step : goal.invariant-loop-step
invariant-loop-step l = l.number ≡ taken (take l.step-index l.steps) l.window 0
