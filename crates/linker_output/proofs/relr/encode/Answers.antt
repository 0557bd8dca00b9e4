use Rattle.linker_output.proofs.Imports.{Leaves, None, [], address_fault, arith, at_drop_all, at_drop_more, capped, drop, false, get_or, is_past, length, nat_tests, subst, sym, words_from, words_of, ◌+◌, ◌∙◌, ◌∷◌, ◌≡◌}
use Rattle.linker_output.specs.Inner.Relr.{put_all}
use Rattle.linker_output.proofs.RelrWords.{Ready, Placed, past_ready, near_placed, far_placed}
use Rattle.linker_output.proofs.relr.encode.Goals as goal
use Rattle.linker_output.proofs.relr.encode.Goals.{then-bitmap-ne1+then-address-base, else-bitmap-ne1, else-bitmap-ne1-via-then-bitmap-ne1+else-address-base, else-bitmap-ne1-via-else-bitmap-ne1, then-distance-lt64, else-distance-lt64}

pub loop-address-preserved : goal.loop-address-preserved
loop-address-preserved c =
    let i = c.loop-address.address-index in
    let others = c.in-Some.others.now in
    let a = get_or others i 0 in
    let xs = drop (i + 1) others in
    let l = c.loop-address in
    let len = capped (length (words_of c.args.addresses.now)) in
    let whole = put_all 0 (words_of c.args.addresses.now) c.args.words.now in
    let begun : Leaves l.count (words_from l.base l.bitmap (a ∷ xs)) l.words len whole =
    subst (λ ws. Leaves l.count ws l.words len whole) (at_drop_more (words_from l.base l.bitmap) others i 0 c.loop-address-test.true) l.invariant.leaves in
    let left : address_fault (l.last + 1) (a ∷ xs) ≡ address_fault 0 c.args.addresses.now =
    sym (at_drop_more (address_fault (l.last + 1)) others i 0 c.loop-address-test.true) ∙ l.invariant.fault in
    let j = c.if-bitmap-ne1 in
    let ready : Ready j.count j.base j.bitmap a xs j.words len whole =
    elim c.if-bitmap-ne1.branch [
      | then-bitmap-ne1+then-address-base w ↦
          let p = w.put-count-then-address-base in
          rw (w.count-is, w.base-is, w.bitmap-is, w.words-is, p.ensures.next, p.ensures.written)
          (past_ready l.count l.base l.bitmap a xs l.words len whole w.if-bitmap-ne1.true w.if-address-base.true begun)
      | else-bitmap-ne1 w ↦
          let within : is_past l.base l.bitmap a ≡ false =
          elim w.else-bitmap-ne1.branch [
            | else-bitmap-ne1-via-then-bitmap-ne1+else-address-base v ↦ grind (arith, nat_tests, v.if-address-base.false)
            | else-bitmap-ne1-via-else-bitmap-ne1 v ↦ grind (arith, nat_tests, v.if-bitmap-ne1.false)
          ] in
          rw (w.count-is, w.base-is, w.bitmap-is, w.words-is) (record { leaves = begun; within = within; below = omega arith; fits = l.invariant.fits })
    ] in
    let k = c.if-distance-lt64 in
    let placed : Placed k.count k.base k.bitmap a xs k.words len whole =
    elim c.if-distance-lt64.branch [
      | then-distance-lt64 w ↦
          rw (w.count-is, w.base-is, w.bitmap-is, w.words-is)
          (near_placed j.count j.base j.bitmap a xs j.words len whole ready w.if-distance-lt64.true)
      | else-distance-lt64 w ↦
          let p = w.put-count-else-distance-lt64 in
          rw (w.count-is, w.base-is, w.bitmap-is, w.words-is, p.ensures.next, p.ensures.written)
          (far_placed j.count j.base j.bitmap a xs j.words len whole ready w.if-distance-lt64.false)
    ] in
    record { fault = grind (arith, nat_tests); leaves = placed.leaves; ordered = placed.below; fits = placed.fits }

pub returns-else-bitmap-ne1-2-clause-ok : goal.returns-else-bitmap-ne1-2-clause-ok
returns-else-bitmap-ne1-2-clause-ok c =
    let l = c.loop-address in
    let e : drop l.address-index c.in-Some.others.now ≡ [] = at_drop_all (λ ys. ys) c.in-Some.others.now l.address-index c.loop-address-test.false in
    let leaves : Leaves l.count [] l.words (capped (length (words_of c.args.addresses.now))) (put_all 0 (words_of c.args.addresses.now) c.args.words.now) =
    rw (e, c.if-bitmap-ne1-2.false) at l.invariant.leaves in
    let fault : None ≡ address_fault 0 c.args.addresses.now = rw e at l.invariant.fault in
    (sym fault, omega (arith, leaves.counted), leaves.written)
