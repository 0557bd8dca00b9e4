use Rattle.linker_riscv64.proofs.Imports.{JumpsAndLinks, arith, length, put_mid, rules, subst, ◌+◌, ◌-◌, ◌<◌, ◌≤◌}
use Rattle.linker_riscv64.proofs.CallSites.{four_of, register_small}
use Rattle.linker_riscv64.proofs.Jumps.{jal_jumps}
use Rattle.linker_riscv64.proofs.calls.jal_site_with.Goals as goal

pub returns-clause-jumps : goal.returns-clause-jumps
returns-clause-jumps c =
    let room = (c.has_window.ensures.0 c.if-not-has_window.false).1 in
    let four : c.args.site + 4 ≤ length c.args.section.now = omega (arith, room, c.call_len.ensures, four_of c.args.link) in
    let named = c.in-Some.ensures.some.1 in
    let small : c.in-Some.register < 32 = omega (arith, named, register_small c.args.link c.args.section.now c.args.site) in
    subst (λ r. JumpsAndLinks c.args.section.now (put_mid c.args.site (length c.overwrite.new.section - c.args.site) c.overwrite.new.section c.write_to_value.new.dest) c.args.site r c.args.distance) named
    (jal_jumps c.args.section.now c.overwrite.new.section c.to_le_bytes.result c.write_to_value.new.dest c.args.site c.in-Some.register c.cast_unsigned.result c.args.distance
    four small (search rules) c.overwrite.ensures (search rules)
    c.write_to_value.ensures.written c.write_to_value.ensures.machine c.write_to_value.ensures.rest
    (search rules) (search rules) (search rules))

pub returns-clause-not_a_call : goal.returns-clause-not_a_call
returns-clause-not_a_call c = (λ is. let no : ⊥ = cc in absurd no, λ fails. absurd (fails.1 c.in-Some.ensures.some.0))

pub returns-clause-too_far : goal.returns-clause-too_far
returns-clause-too_far c = (λ is. let no : ⊥ = cc in absurd no, λ fails. absurd (fails.3 (search rules)))
