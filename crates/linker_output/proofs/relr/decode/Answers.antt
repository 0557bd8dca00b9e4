use Rattle.linker_output.proofs.Imports.{Fits-lt-pow, arith, capped, drop, drop_more, get_or, length, relocated, subst, word_fault, ◌+◌, ◌∷◌}
use Rattle.linker_output.specs.Inner.Relr.{put_all}
use Rattle.linker_output.proofs.RelrLists.{Reads, reads_address, reads_bitmap}
use Rattle.linker_output.proofs.relr.decode.Goals as goal
use Rattle.linker_output.proofs.relr.decode.Goals.{then-word-eq0+else-word-ne0, else-word-eq0+in_ok-count}

pub loop-word-preserved : goal.loop-word-preserved
loop-word-preserved c =
    let l = c.loop-word in
    let i = l.word-index in
    let words = c.args.words.now in
    let w = get_or words i 0 in
    let ws = drop (i + 1) words in
    let fault = word_fault 0 words in
    let len = capped (length (relocated 0 words)) in
    let whole = put_all 0 (relocated 0 words) c.args.addresses.now in
    let begun : Reads l.base (w ∷ ws) l.count l.addresses fault len whole =
    subst (λ ys. Reads l.base ys l.count l.addresses fault len whole) (drop_more words i 0 c.loop-word-test.true) l.invariant.reads in
    elim c.if-word-eq0.branch [
      | then-word-eq0+else-word-ne0 v ↦
          record {
            reads = rw (v.base-is, v.count-is, v.addresses-is, v.put-count.ensures.next, v.put-count.ensures.written, v.from-base.ensures)
                (reads_address l.base w ws l.count l.addresses fault len whole v.if-word-eq0.true v.if-word-ne0.false begun);
            bounded = omega (arith, Fits-lt-pow (c.type_inv.words i));
          }
      | else-word-eq0+in_ok-count v ↦
          let e = v.in_ok-count.ensures.ok in
          record {
            reads = rw (v.base-is, v.count-is, v.addresses-is, e.1, e.2)
                (reads_bitmap l.base w ws l.count l.addresses fault len whole v.if-word-eq0.false e.0 begun);
            bounded = omega arith;
          }
    ]
