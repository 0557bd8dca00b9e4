use Rattle.linker_rewriting.proofs.Imports.{IsCovered, IsPlaceBeside, ap, arith, below_more, decision_in, end_at, length, map, offset_at, start_at, subst, sym, ℕ, ◌/◌, ◌<◌, ◌∙◌, ◌≤◌}
use Rattle.linker_rewriting.proofs.Places.{are_bounded, at_most, clear_at, covered_at}
use Rattle.linker_rewriting.proofs.covered.first_covered.Goals as goal

no_end : (start end : ℕ) → start < end → end ≤ 0 → ⊥
no_end start end some none = omega arith

pub place_from-first-requires-clause-searchable : goal.place_from-first-requires-clause-searchable
place_from-first-requires-clause-searchable c =
    let a = c.args in
    record {
      enough = c.requires.enough;
      bounded = are_bounded a.relocations.now a.section.now (map decision_in a.decisions.now)
          (length a.relocations.now / 24) (omega arith) c.requires.made;
      apart = c.requires.apart;
    }

pub returns-then-first-count : goal.returns-then-first-count
returns-then-first-count c n less covered =
    let a = c.args in
    let ds = map decision_in a.decisions.now in
    let e = c.relocations_len-count.ensures in
    let end = c.if-first-count.true in
    let within = covered.within in
    let writes = covered.writes in
    let last = c.place_from-first.ensures.passed covered.by (omega (arith, within, end, e))
    (λ same. absurd (omega (arith, within, e, same))) writes in
    no_end (start_at a.relocations.now ds covered.by) (end_at a.relocations.now ds covered.by) writes last

pub loop-index-preserved-then-not-reaches : goal.loop-index-preserved-then-not-reaches
loop-index-preserved-then-not-reaches c =
    let a = c.args in
    let k = c.loop-index.index in
    let bytes = a.relocations.now in
    let ds = map decision_in a.decisions.now in
    let limit = length bytes / 24 in
    let place = c.loop-index.place in
    let is = c.loop-index.invariant.place in
    record {
      clear = below_more (λ n. IsCovered a.architecture bytes a.section.now ds limit n → ⊥) k
          c.loop-index.invariant.clear
          (clear_at a.architecture bytes a.section.now ds limit k place.at place.above
          (λ m before _ some. at_most (end_at bytes ds m) place.below c.relocation_in-offset.result.offset (offset_at bytes k)
          (is.below m before some) c.if-place-offset.true (ap (λ r. r.offset) c.relocation_in-offset.ensures))
          is.above (λ _ row is_field. c.reaches.ensures.no c.if-not-reaches.true row is_field));
      place = is;
    }

pub loop-index-preserved-in-Consumed : goal.loop-index-preserved-in-Consumed
loop-index-preserved-in-Consumed c =
    let a = c.args in
    let ds = map decision_in a.decisions.now in
    record {
      clear = below_more (λ n. IsCovered a.architecture a.relocations.now a.section.now ds (length a.relocations.now / 24) n → ⊥) c.loop-index.index
          c.loop-index.invariant.clear (λ covered. covered.untaken (sym c.decision_in.ensures ∙ c.in-Consumed.is));
      place = c.loop-index.invariant.place;
    }

pub place_beside-place-requires-clause-searchable : goal.place_beside-place-requires-clause-searchable
place_beside-place-requires-clause-searchable c =
    let a = c.args in
    record {
      enough = c.requires.enough;
      bounded = are_bounded a.relocations.now a.section.now (map decision_in a.decisions.now)
          (length a.relocations.now / 24) (omega arith) c.requires.made;
      apart = c.requires.apart;
    }

pub loop-index-preserved-then-place-count : goal.loop-index-preserved-then-place-count
loop-index-preserved-then-place-count c =
    let a = c.args in
    let k = c.loop-index.index in
    let bytes = a.relocations.now in
    let ds = map decision_in a.decisions.now in
    let limit = length bytes / 24 in
    let place = c.place_beside-place.result in
    let beside = subst (λ r. IsPlaceBeside bytes ds limit k r.offset place) c.relocation_in-offset.ensures c.place_beside-place.ensures in
    let end = c.if-place-count.true in
    let e = c.relocations_len-count.ensures in
    record {
      clear = below_more (λ n. IsCovered a.architecture bytes a.section.now ds limit n → ⊥) k
          c.loop-index.invariant.clear
          (clear_at a.architecture bytes a.section.now ds limit k place.at place.above beside.passed beside.is_place.above
          (λ less _ _. absurd (omega (arith, less, end, e))));
      place = beside.is_place;
    }

pub returns-then-is_covered : goal.returns-then-is_covered
returns-then-is_covered c =
    let a = c.args in
    let k = c.loop-index.index in
    let bytes = a.relocations.now in
    let ds = map decision_in a.decisions.now in
    let limit = length bytes / 24 in
    let place = c.place_beside-place.result in
    let beside = subst (λ r. IsPlaceBeside bytes ds limit k r.offset place) c.relocation_in-offset.ensures c.place_beside-place.ensures in
    let e = c.relocations_len-count.ensures in
    let t = c.loop-index-test.true in
    let w = beside.is_place.within in
    let over = c.if-place-count.false in
    let covered = c.reaches-is_covered.ensures.yes c.if-is_covered.true in (
      omega (arith, t, e),
      covered_at a.architecture bytes a.section.now ds limit k place (covered.0) beside (omega (arith, w, over, e))
          (λ is. c.in_default.not-Consumed (c.decision_in.ensures ∙ is)) (covered.1) (covered.2),
      c.loop-index.invariant.clear,
    )

pub loop-index-preserved : goal.loop-index-preserved
loop-index-preserved c =
    let a = c.args in
    let k = c.loop-index.index in
    let bytes = a.relocations.now in
    let ds = map decision_in a.decisions.now in
    let limit = length bytes / 24 in
    let place = c.place_beside-place.result in
    let beside = subst (λ r. IsPlaceBeside bytes ds limit k r.offset place) c.relocation_in-offset.ensures c.place_beside-place.ensures in
    record {
      clear = below_more (λ n. IsCovered a.architecture bytes a.section.now ds limit n → ⊥) k
          c.loop-index.invariant.clear
          (clear_at a.architecture bytes a.section.now ds limit k place.at place.above beside.passed beside.is_place.above
          (λ _ row is_field. c.reaches-is_covered.ensures.no c.if-is_covered.false row is_field));
      place = beside.is_place;
    }

pub returns : goal.returns
returns c n less =
    let t = c.loop-index-test.false in
    let e = c.relocations_len-count.ensures in
    c.loop-index.invariant.clear n (omega (arith, t, e, less))
