use Rattle.linker_riscv64.proofs.Imports.{All, arith, length, subst, take_all, ◌<◌}
use Rattle.linker_riscv64.proofs.Shrunk.{chosen_more, written_more}
use Rattle.linker_riscv64.proofs.shrinking.choose_all.Goals as goal

pub loop-choice-preserved : goal.loop-choice-preserved
loop-choice-preserved g c =
    let within : c.loop-choice.choice-index < length c.loop-choice.answer = omega arith in
    record {
      chosen = chosen_more g.A.AsChoice.choice c.loop-choice.answer c.loop-choice.choice-index c.from_choice.result within c.from_choice.ensures.tells c.loop-choice.invariant.chosen;
      written = written_more g.A.AsChoice.is_written c.loop-choice.answer c.loop-choice.choice-index c.from_choice.result within c.from_choice.ensures.written c.loop-choice.invariant.written;
    }

pub returns-clause-written : goal.returns-clause-written
returns-clause-written g c = subst (All g.A.AsChoice.is_written) (take_all c.loop-choice.choice-index c.loop-choice.answer (omega arith)) c.loop-choice.invariant.written
