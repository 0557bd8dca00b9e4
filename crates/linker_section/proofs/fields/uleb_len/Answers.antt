use Rattle.linker_section.proofs.Imports.{ap, arith, sym, ◌+◌, ◌∙◌}
use Rattle.linker_section.proofs.Ulebs.{uleb_ends, uleb_goes_on}
use Rattle.linker_section.proofs.fields.uleb_len.Goals as goal

pub returns-then-bytes-len-lt128 : goal.returns-then-bytes-len-lt128
returns-then-bytes-len-lt128 c =
    let i = c.loop-len.len in
    sym (c.loop-len.invariant.so_far ∙ ap (λ n. i + n)
    (uleb_ends c.args.bytes.now i c.loop-len-test.true c.if-len-lt10.true c.if-bytes-len-lt128.true))

pub loop-len-preserved : goal.loop-len-preserved
loop-len-preserved c =
    let t = c.loop-len-test.true in let w = c.if-len-lt10.true in
    record {
      within = omega (arith, w);
      inside = omega (arith, t);
      so_far = omega (arith, c.loop-len.invariant.so_far, (uleb_goes_on c.args.bytes.now c.loop-len.len t w c.if-bytes-len-lt128.false));
    }
