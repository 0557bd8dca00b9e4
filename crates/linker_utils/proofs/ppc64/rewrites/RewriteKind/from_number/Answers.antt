use Rattle.linker_utils.proofs.Imports.{arith, ppc64_rewrites, sym, ◌≤◌}
use Rattle.std.proofs.lemmas.Option.{slice_get_past}
use Rattle.linker_utils.proofs.ppc64.rewrites.RewriteKind.from_number.Goals as goal

pub returns-else-number-28 : goal.returns-else-number-28
returns-else-number-28 c =
    let past : 28 ≤ c.args.number = omega (arith, c.if-number.false, c.if-number-2.false, c.if-number-3.false, c.if-number-4.false, c.if-number-5.false, c.if-number-6.false, c.if-number-7.false, c.if-number-8.false, c.if-number-9.false, c.if-number-10.false, c.if-number-11.false, c.if-number-12.false, c.if-number-13.false, c.if-number-14.false, c.if-number-15.false, c.if-number-16.false, c.if-number-17.false, c.if-number-18.false, c.if-number-19.false, c.if-number-20.false, c.if-number-21.false, c.if-number-22.false, c.if-number-23.false, c.if-number-24.false, c.if-number-25.false, c.if-number-26.false, c.if-number-27.false, c.if-number-28.false) in
    sym (slice_get_past ppc64_rewrites c.args.number past)
