use Rattle.linker_utils.proofs.RiscVRewrites.{adds_low}
use Rattle.linker_utils.proofs.riscv64.rewrites.RewriteKind.matches.Goals as goal

pub returns-in-Lo12Rs1ToZero-clause-exactly : goal.returns-in-Lo12Rs1ToZero-clause-exactly
returns-in-Lo12Rs1ToZero-clause-exactly c =
    let tests = adds_low c.args.section.now c.args.offset in
    let is_for = c.is_for-in-Lo12Rs1ToZero.ensures in
    rw c.in-Lo12Rs1ToZero.is (λ is. tests.0 (is_for.0 is), λ there. is_for.1 (tests.1 there))

pub returns-in-BaseToTp-clause-exactly : goal.returns-in-BaseToTp-clause-exactly
returns-in-BaseToTp-clause-exactly c =
    let tests = adds_low c.args.section.now c.args.offset in
    let is_for = c.is_for-in-BaseToTp.ensures in
    rw c.in-BaseToTp.is (λ is. tests.0 (is_for.0 is), λ there. is_for.1 (tests.1 there))
