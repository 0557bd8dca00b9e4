use Rattle.linker_utils_c.proofs.Imports.{calls_in, rules, ◌+◌}
use Rattle.linker_riscv64.proofs.Packed.{apart_take}
use Rattle.linker_utils_c.proofs.packing.pack.Goals as goal

pub returns-in-Some : goal.returns-in-Some
returns-in-Some c = record {
  listed = search rules;
  not_apart = (λ _ apart. c.in-Some.ensures.here (apart_take (calls_in c.args.calls.now) (c.in-Some.index + 1) apart), λ _. search rules);
  different_lengths = λ listed apart. absurd (c.in-Some.ensures.here (apart_take (calls_in c.args.calls.now) (c.in-Some.index + 1) apart));
  packed = λ listed apart. absurd (c.in-Some.ensures.here (apart_take (calls_in c.args.calls.now) (c.in-Some.index + 1) apart));
  unchanged = search rules;
  faulty_call = search rules;
  faulty_stays = search rules;
}
