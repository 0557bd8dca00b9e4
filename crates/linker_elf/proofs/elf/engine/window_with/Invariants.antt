use Rattle.linker_elf.proofs.Imports.{bit_and, laid, take, ◌-◌, ◌^◌, ◌≡◌}
use Rattle.linker_elf.proofs.elf.engine.window_with.Given as goal

abbrev pub invariant-loop-step : goal.invariant-loop-step
invariant-loop-step l = l.written ≡ laid (take l.step-index l.steps) l.value (bit_and l.window (2 ^ 64 - 1 - l.replaced))
