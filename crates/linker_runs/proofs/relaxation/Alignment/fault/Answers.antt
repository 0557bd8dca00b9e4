use Rattle.linker_runs.proofs.Imports.{ap, arith, inl, rules, ⊎_elim, ◌%◌, ◌+◌, ◌≡◌}
use Rattle.linker_runs.proofs.Firsts.{alignment_upto, numbers}
use Rattle.linker_runs.proofs.Validity.{still_meets}
use Rattle.linker_runs.proofs.relaxation.Alignment.fault.Goals as goal

pub returns-then-is_still : goal.returns-then-is_still
returns-then-is_still c = still_meets c.args.granularity c.args.start c.args.self.now (c.is_still.ensures.0 (search rules))

pub returns-then-self-granularity-ne0 : goal.returns-then-self-granularity-ne0
returns-then-self-granularity-ne0 c = record {
  here = ⊎_elim (λ none. absurd (omega arith)) (λ still. (let h = c.is_still.ensures.1 still in cc));
  earlier = alignment_upto c.args.granularity c.args.start c.args.self.now 10 (λ h. absurd (omega arith)) (λ h. absurd (omega arith)) (λ h. absurd (omega arith)) (λ h. absurd (omega arith));
}

pub returns-then-start-self-ne0 : goal.returns-then-start-self-ne0
returns-then-start-self-ne0 c =
    let self = c.args.self.now in
    let e = c.from.ensures in
    let sum : c.args.start + (self.offset + c.from.result) ≡ c.args.start + self.offset + self.nops = omega arith in
    let same : (c.args.start + (self.offset + c.from.result)) % c.args.granularity ≡ (c.args.start + self.offset + self.nops) % c.args.granularity = ap (λ n. n % c.args.granularity) sum in
    record {
      here = ⊎_elim (λ none. absurd (omega arith)) (λ still. (let h = c.is_still.ensures.1 still in cc));
      earlier = alignment_upto c.args.granularity c.args.start self 11 (λ _. inl (search rules)) (λ h. absurd (omega arith)) (λ h. absurd (omega arith)) (λ h. absurd (omega arith));
    }

pub returns-then-not-has_nops : goal.returns-then-not-has_nops
returns-then-not-has_nops c = record {
  here = λ met. (let yes = (c.has_nops.ensures c.args.start).1 met in cc);
  earlier = alignment_upto c.args.granularity c.args.start c.args.self.now 12 (λ _. inl (search rules)) (λ _. inl (search rules)) (λ h. absurd (omega arith)) (λ h. absurd (omega arith));
}

pub returns-then-not-has_even_nops : goal.returns-then-not-has_even_nops
returns-then-not-has_even_nops c =
    let many = (c.has_nops.ensures c.args.start).0 c.if-not-has_nops.false in
    record {
      here = λ met. (let yes = (c.has_even_nops.ensures c.args.start).1 met in cc);
      earlier = alignment_upto c.args.granularity c.args.start c.args.self.now 13 (λ _. inl (search rules)) (λ _. inl (search rules)) (λ _. many) (λ h. absurd (omega arith));
    }

pub returns-else-not-has_even_nops : goal.returns-else-not-has_even_nops
returns-else-not-has_even_nops c =
    let many = (c.has_nops.ensures c.args.start).0 c.if-not-has_nops.false in
    let even = (c.has_even_nops.ensures c.args.start).0 c.if-not-has_even_nops.false in
    λ fault. alignment_upto c.args.granularity c.args.start c.args.self.now 16 (λ _. inl (search rules)) (λ _. inl (search rules)) (λ _. many) (λ _. even) fault (numbers fault)
