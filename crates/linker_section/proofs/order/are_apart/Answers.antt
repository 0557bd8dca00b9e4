use Rattle.linker_section.proofs.Imports.{arith, false, is_clear_of, length, slice_index, sym, ◌<◌, ◌∙◌, ◌≡◌, ◌≤◌}
use Rattle.linker_section.proofs.Sorted.{swept_without, swept_clear, swept_pair, swept_overlapped, swept_all, last_is}
use Rattle.linker_section.proofs.order.are_apart.Goals as goal
use Rattle.linker_section.proofs.order.are_apart.Goals.{then-is_clear_of, else-is_clear_of+else-not-is_second_of}

pub loop-place-preserved-then-index-count : goal.loop-place-preserved-then-index-count
loop-place-preserved-then-index-count c =
    let a = c.args in
    swept_without a.architecture a.relocations.now a.section.now a.order.now a.count c.loop-place.place
    c.loop-place.last_index c.loop-place.last (λ under row is_field. omega (arith, under, c.if-index-count.true)) c.loop-place.invariant

pub loop-place-preserved-in_default : goal.loop-place-preserved-in_default
loop-place-preserved-in_default c =
    let a = c.args in
    swept_without a.architecture a.relocations.now a.section.now a.order.now a.count c.loop-place.place
    c.loop-place.last_index c.loop-place.last (λ under row is_field. c.in_default.ensures.none row is_field) c.loop-place.invariant

pub returns-then-not-is_second_of-clause-no : goal.returns-then-not-is_second_of-clause-no
returns-then-not-is_second_of-clause-no c _ =
    let a = c.args in
    let p = c.loop-place.place in
    let last = c.loop-place.last in
    let field = c.in-Some.field in
    let found = c.in-Some.ensures.found in
    let there : p < length a.order.now = let t = c.loop-place-test.true in omega (arith, t) in
    let under : slice_index a.order.now p < a.count = let t = c.if-index-count.false in omega (arith, t) in
    let after : last.offset ≤ field.offset =
    let l = c.loop-place.invariant.ascending p (omega arith) there in let o = found.1.offset_is in omega (arith, l, o) in
    let clear : is_clear_of field last ≡ false = sym c.is_clear_of.ensures ∙ c.if-is_clear_of.false in
    swept_overlapped a.architecture a.relocations.now a.section.now a.order.now a.count p c.loop-place.last_index last field (found.0)
    c.requires.order there under (found.1) after clear (c.is_second_of.ensures.no c.if-not-is_second_of.true)
    (last_is a.architecture a.relocations.now a.section.now a.order.now a.count p c.loop-place.last_index last field after clear c.loop-place.invariant)

pub loop-place-preserved : goal.loop-place-preserved
loop-place-preserved c =
    let a = c.args in
    let p = c.loop-place.place in
    let last = c.loop-place.last in
    let field = c.in-Some.field in
    let found = c.in-Some.ensures.found in
    let there : p < length a.order.now = let t = c.loop-place-test.true in omega (arith, t) in
    let under : slice_index a.order.now p < a.count = let t = c.if-index-count.false in omega (arith, t) in
    elim c.if-is_clear_of.branch [
      | then-is_clear_of w ↦
          rw (w.last-is, w.last_index-is)
          (swept_clear a.architecture a.relocations.now a.section.now a.order.now a.count p c.loop-place.last_index last field (found.0)
          c.requires.order there under (found.1) (sym c.is_clear_of.ensures ∙ w.if-is_clear_of.true) c.loop-place.invariant)
      | else-is_clear_of+else-not-is_second_of w ↦
          let second = w.is_second_of.ensures.yes w.if-not-is_second_of.false in
          let after : last.offset ≤ field.offset =
          let l = c.loop-place.invariant.ascending p (omega arith) there in let o = found.1.offset_is in omega (arith, l, o) in
          let clear : is_clear_of field last ≡ false = sym c.is_clear_of.ensures ∙ w.if-is_clear_of.false in
          rw (w.last-is, w.last_index-is)
          (swept_pair a.architecture a.relocations.now a.section.now a.order.now a.count p c.loop-place.last_index last (found.0)
          (second.0) under (second.1) found.1.is_field
          (last_is a.architecture a.relocations.now a.section.now a.order.now a.count p c.loop-place.last_index last field after clear c.loop-place.invariant)
          c.loop-place.invariant)
    ]

pub returns-clause-yes : goal.returns-clause-yes
returns-clause-yes c _ =
    let a = c.args in
    swept_all a.architecture a.relocations.now a.section.now a.order.now a.count c.loop-place.place c.loop-place.last_index c.loop-place.last
    c.requires.order c.requires.within (let f = c.loop-place-test.false in omega (arith, f)) c.loop-place.invariant
