use Rattle.linker_base.proofs.Imports.{arith, blocks_of, cases_lt, inl, inr, length, nat_tests, ◌<◌, ◌≡◌}
use Rattle.linker_base.proofs.relaxation.blocks.fill_heads.Goals as goal

pub returns : goal.returns
returns c =
    let n = length c.args.deltas.now in
    let all : 64 < n → c.count_heads-block-end.result ≡ blocks_of n = λ many. grind (arith, nat_tests, c.count_heads-block-end.ensures) in
    record {
      many = λ many. omega (arith, all many, c.loop-block.heads.ok.0, c.loop-block.invariant.pushed);
      heads = λ some. record {
        count = elim (cases_lt 64 n) [
          | inl many ↦ omega (arith, all many, c.loop-block.heads.ok.0, c.loop-block.invariant.pushed)
          | inr few ↦ omega (arith, few, some, c.loop-block.heads.ok.0, c.loop-block.invariant.pushed, c.loop-block.invariant.within)
        ];
        each = λ b h d low. c.loop-block.invariant.each b h d (omega (arith, low, c.loop-block.heads.ok.0, c.loop-block.invariant.pushed));
      };
    }
