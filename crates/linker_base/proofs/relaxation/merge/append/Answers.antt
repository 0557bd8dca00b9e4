use Rattle.linker_base.proofs.Imports.{IsValid, arith, refl, rules, take-append-le, vec_len, ◌∙◌}
use Rattle.linker_base.proofs.Listed.{taken_up_to, RecordsDeletions-more}
use Rattle.linker_base.proofs.relaxation.merge.append.Goals as goal

pub loop-input_offset-preserved : goal.loop-input_offset-preserved
loop-input_offset-preserved c =
    let pairs = c.args.pairs.now in
    let k = c.loop-input_offset.input_offset-index in
    let up_to = λ (valid : IsValid pairs). taken_up_to pairs valid k (0, 0) c.loop-input_offset-test.true in
    record {
      front = rw c.push_reserved.ensures.items (take-append-le (vec_len c.args.deltas.now) c.loop-input_offset.deltas.items _ (omega (arith, c.loop-input_offset.deltas.ok.0)) ∙ c.loop-input_offset.invariant.front);
      len = search rules;
      capacity = search rules;
      listing = λ none valid. rw c.push_reserved.ensures.items (RecordsDeletions-more pairs _ _ k c.loop-input_offset-test.true (c.loop-input_offset.invariant.listing none valid) refl (omega (arith, up_to valid, c.loop-input_offset.invariant.sum valid)));
      sum = λ valid. omega (arith, up_to valid, c.loop-input_offset.invariant.sum valid);
    }
