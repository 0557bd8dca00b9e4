use Rattle.linker_runs.proofs.Imports.{ap, arith, drop, repeated, sym, take, ◌*◌, ◌++◌, ◌+◌, ◌∙◌}
use Rattle.linker_runs.proofs.Nops.{repeated_none, repeated_more, repeated_length, put_more, put_nothing}
use Rattle.linker_runs.proofs.packing.put_words.Goals as goal

pub loop-index-init : goal.loop-index-init
loop-index-init c =
    put_nothing c.args.packed.now c.args.at
    ∙ ap (λ ys. take c.args.at c.args.packed.now ++ ys ++ drop (c.args.at + 0) c.args.packed.now) (sym (repeated_none c.args.word))
    ∙ ap (λ n. take c.args.at c.args.packed.now ++ repeated c.args.word 0 ++ drop (c.args.at + n) c.args.packed.now) (omega arith)

pub loop-index-preserved : goal.loop-index-preserved
loop-index-preserved c =
    let xs = c.args.packed.now in
    let i = c.loop-index.index in
    let word = c.args.word in
    let same = c.loop-index.auto.packed in
    let put = c.put_bytes.ensures (omega arith) in
    put_more xs (repeated word i) word c.loop-index.packed c.put_bytes.new.packed c.args.at (4 * i) 4 (omega arith) (repeated_length word i (omega arith)) (omega arith)
    c.loop-index.invariant (put ∙ ap (λ n. take (c.args.at + 4 * i) c.loop-index.packed ++ word ++ drop (c.args.at + 4 * i + n) c.loop-index.packed) (omega arith))
    ∙ ap (λ ys. take c.args.at xs ++ ys ++ drop (c.args.at + (4 * i + 4)) xs) (sym (repeated_more word i))
    ∙ ap (λ n. take c.args.at xs ++ repeated word (i + 1) ++ drop (c.args.at + n) xs) (omega arith)
