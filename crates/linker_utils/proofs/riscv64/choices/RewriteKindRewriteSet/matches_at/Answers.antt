use Rattle.linker_utils.proofs.Imports.{drop, from_le_bytes, w32}
use Rattle.linker_utils.proofs.RiscVRewrites.{low_over_other}
use Rattle.linker_utils.proofs.riscv64.choices.RewriteKindRewriteSet.matches_at.Goals as goal

pub returns-in-LowOverOther : goal.returns-in-LowOverOther
returns-in-LowOverOther c =
    let same = low_over_other (from_le_bytes w32 (drop c.args.offset c.args.section.now)) in
    let tests = c.are_at-in-LowOverOther.ensures in
    rw c.in-LowOverOther.is (λ is. (let t = tests.0 is in (t.0, same.0 t.1)), λ there. tests.1 (there.0, same.1 there.1))
