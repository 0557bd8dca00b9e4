use Rattle.linker_rewriting.proofs.Imports.{DecisionNumbers, refl}
use Rattle.linker_rewriting.proofs.Numbers.{chosen_in}
use Rattle.linker_rewriting.proofs.decisions.numbers.of_choice.Goals as goal

pub returns-clause-choice : goal.returns-clause-choice
returns-clause-choice c =
    let numbers : DecisionNumbers = record {
      addend = c.args.subject.addend;
      symbol = c.args.subject.symbol;
      rewrite = c.number-rewrite.result.0;
      relocation = c.args.choice.relocation;
      machine = c.machine_of.result;
      fate = c.args.fate;
      opcode_len = c.number-rewrite.result.1;
    } in
    chosen_in numbers c.args.choice c.machine_of.ensures c.number-rewrite.ensures refl
