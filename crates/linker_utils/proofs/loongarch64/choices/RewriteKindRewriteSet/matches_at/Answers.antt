use Rattle.linker_utils.specs.LoongArchRewrites.{IsAddi, IsLd}
use Rattle.linker_utils.proofs.LoongArchRows.{pair_by_tests}
use Rattle.linker_utils.proofs.loongarch64.choices.RewriteKindRewriteSet.matches_at.Goals as goal

pub returns-in-Load : goal.returns-in-Load
returns-in-Load c =
    let pair = pair_by_tests IsLd c.args.section.now c.args.offset in
    let tests = c.are_at.ensures in
    rw c.in-Load.is (λ is. pair.0 (tests.0 is), λ there. tests.1 (pair.1 there))

pub returns-in-Sum : goal.returns-in-Sum
returns-in-Sum c =
    let pair = pair_by_tests IsAddi c.args.section.now c.args.offset in
    let tests = c.are_at-in-Sum.ensures in
    rw c.in-Sum.is (λ is. pair.0 (tests.0 is), λ there. tests.1 (pair.1 there))
