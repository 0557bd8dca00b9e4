use Rattle.linker_runs.proofs.Imports.{arith}
use Rattle.linker_runs.proofs.Firsts.{shapes_upto, numbers}
use Rattle.linker_runs.proofs.relaxation.Shapes.fault.Goals as goal

pub returns-then-not-are_ascending : goal.returns-then-not-are_ascending
returns-then-not-are_ascending c =
    let within = c.are_within.ensures.0 c.if-not-are_within.false in
    record {
      here = λ met. (let yes = (c.are_ascending.ensures c.args.len).1 met in cc);
      earlier = shapes_upto c.args.self.now c.args.len 4 (λ _. omega arith) (λ _. within) (λ h. absurd (omega arith)) (λ h. absurd (omega arith)) (λ h. absurd (omega arith));
    }

pub returns-then-not-have_units : goal.returns-then-not-have_units
returns-then-not-have_units c =
    let len = c.args.len in
    let within = c.are_within.ensures.0 c.if-not-are_within.false in
    let ascending = (c.are_ascending.ensures len).0 c.if-not-are_ascending.false in
    record {
      here = λ met. (let yes = (c.have_units.ensures len).1 met in cc);
      earlier = shapes_upto c.args.self.now len 5 (λ _. omega arith) (λ _. within) (λ _. ascending) (λ h. absurd (omega arith)) (λ h. absurd (omega arith));
    }

pub returns-then-not-have_reaches : goal.returns-then-not-have_reaches
returns-then-not-have_reaches c =
    let len = c.args.len in
    let ascending = (c.are_ascending.ensures len).0 c.if-not-are_ascending.false in
    let units = (c.have_units.ensures len).0 c.if-not-have_units.false in
    record {
      here = λ met. (let yes = (c.have_reaches.ensures len).1 met in cc);
      earlier = shapes_upto c.args.self.now len 6 (λ _. omega arith) (λ _. (c.are_within.ensures.0 c.if-not-are_within.false)) (λ _. ascending) (λ _. units) (λ h. absurd (omega arith));
    }

pub returns-else-not-have_reaches : goal.returns-else-not-have_reaches
returns-else-not-have_reaches c =
    let len = c.args.len in
    let within = c.are_within.ensures.0 c.if-not-are_within.false in
    let ascending = (c.are_ascending.ensures len).0 c.if-not-are_ascending.false in
    let units = (c.have_units.ensures len).0 c.if-not-have_units.false in
    let reaches = (c.have_reaches.ensures len).0 c.if-not-have_reaches.false in
    λ fault. shapes_upto c.args.self.now len 16 (λ _. omega arith) (λ _. within) (λ _. ascending) (λ _. units) (λ _. reaches) fault (numbers fault)
