use Rattle.linker_runs.proofs.Imports.{AreReady, CanWrite, IsApart, IsInside, IsUnwritable, IsWritable, Item, KeepsGap, List, StayWhole, [], ap, arith, below_more, both_ways, deletions_of, end_of, false, gap_start, inl, inr, is_fixed, item_at, length, offset_of, refl, section_of, subst, suc, sym, zero, ℕ, ◌+◌, ◌<◌, ◌∙◌, ◌≡◌, ◌≤◌}
use Rattle.linker_runs.proofs.PackedItems.{cause_of, gap_below, gap_next, apart_from}
use Rattle.linker_runs.proofs.packing.test_items.Goals as goal

pub loop-index-init : goal.loop-index-init
loop-index-init c = record {
  inside = λ i below. absurd (omega arith);
  stands = λ ds start. c.requires.begin;
  position = λ valid begun. begun;
  ready = λ valid begun i below. absurd (omega arith);
}

pub returns-then-not-is_apart-clause-err : goal.returns-then-not-is_apart-clause-err
returns-then-not-is_apart-clause-err c = λ valid begun.
    let ds = deletions_of c.args.deltas.now in
    let s = section_of c.args.section.now c.args.base ds c.args.start in
    let items = c.args.items.now in
    let n = c.loop-index.index in
    let here : offset_of c.at-item.result ≡ offset_of (item_at items n) = ap offset_of c.at-item.ensures in
    let stands = c.loop-index.invariant.stands ds c.args.start in
    record {
      before = c.loop-index.invariant.ready valid begun;
      here = inl ((omega arith), λ apart. both_ways c.is_apart.result c.if-not-is_apart.true (c.is_apart.ensures.1 (λ some. omega (arith, (apart_from s items n c.loop-index.following.input_offset stands).1 apart some, here))));
    }

pub returns-then-not-is_inside-clause-err : goal.returns-then-not-is_inside-clause-err
returns-then-not-is_inside-clause-err c = λ valid begun.
    let ds = deletions_of c.args.deltas.now in
    let s = section_of c.args.section.now c.args.base ds c.args.start in
    let items = c.args.items.now in
    let n = c.loop-index.index in
    let here : offset_of c.at-item.result ≡ offset_of (item_at items n) = ap offset_of c.at-item.ensures in
    let stands = c.loop-index.invariant.stands ds c.args.start in
    let apart : IsApart items n = (apart_from s items n c.loop-index.following.input_offset stands).0 (λ some. omega (arith, c.is_apart.ensures.0 c.if-not-is_apart.false some, here)) in
    record {
      before = c.loop-index.invariant.ready valid begun;
      here = inl ((omega arith), (apart, λ inside. both_ways c.is_inside.result c.if-not-is_inside.true ((c.is_inside.ensures ds c.args.start).1 (subst (IsInside s) (sym c.at-item.ensures) inside))));
    }

pub stay_whole-requires : goal.stay_whole-requires
stay_whole-requires c =
    let ds = deletions_of c.args.deltas.now in
    let s = section_of c.args.section.now c.args.base ds c.args.start in
    let items = c.args.items.now in
    let n = c.loop-index.index in
    let here : offset_of c.at-item.result ≡ offset_of (item_at items n) = ap offset_of c.at-item.ensures in
    let stands = c.loop-index.invariant.stands ds c.args.start in
    let apart : IsApart items n = (apart_from s items n c.loop-index.following.input_offset stands).0 (λ some. omega (arith, c.is_apart.ensures.0 c.if-not-is_apart.false some, here)) in
    let inside : IsInside s (item_at items n) = subst (IsInside s) c.at-item.ensures ((c.is_inside.ensures ds c.args.start).0 c.if-not-is_inside.false) in
    let place : c.position_from-at.result.input_offset ≡ offset_of (item_at items n) = c.position_from-at.ensures.offset ∙ c.offset.ensures ∙ here in
    let up : c.loop-index.following.input_offset ≤ c.position_from-at.result.input_offset = omega (arith, gap_below s items n apart inside, stands, place) in
    up

pub returns-then-not-stay_whole-clause-err : goal.returns-then-not-stay_whole-clause-err
returns-then-not-stay_whole-clause-err c = λ valid begun.
    let ds = deletions_of c.args.deltas.now in
    let s = section_of c.args.section.now c.args.base ds c.args.start in
    let items = c.args.items.now in
    let n = c.loop-index.index in
    let here : offset_of c.at-item.result ≡ offset_of (item_at items n) = ap offset_of c.at-item.ensures in
    let stands = c.loop-index.invariant.stands ds c.args.start in
    let apart : IsApart items n = (apart_from s items n c.loop-index.following.input_offset stands).0 (λ some. omega (arith, c.is_apart.ensures.0 c.if-not-is_apart.false some, here)) in
    let inside : IsInside s (item_at items n) = subst (IsInside s) c.at-item.ensures ((c.is_inside.ensures ds c.args.start).0 c.if-not-is_inside.false) in
    let place : c.position_from-at.result.input_offset ≡ offset_of (item_at items n) = c.position_from-at.ensures.offset ∙ c.offset.ensures ∙ here in
    let up : c.loop-index.following.input_offset ≤ c.position_from-at.result.input_offset = omega (arith, gap_below s items n apart inside, stands, place) in
    let whole = c.stay_whole.ensures c.args.deltas.now valid (c.loop-index.invariant.position valid begun) (c.position_from-at.ensures.position valid (c.loop-index.invariant.position valid begun) (omega (arith, up, c.position_from-at.ensures.offset))) in
    record {
      before = c.loop-index.invariant.ready valid begun;
      here = inl ((omega arith), (apart, inside, λ keeps. both_ways c.stay_whole.result c.if-not-stay_whole.true (whole.1 (subst (λ x. StayWhole ds x c.position_from-at.result.input_offset) (sym stands) (subst (StayWhole ds (gap_start s items n)) (sym place) keeps)))));
    }

pub piece_of-requires-clause-at : goal.piece_of-requires-clause-at
piece_of-requires-clause-at c = c.position_from-at.ensures.offset ∙ c.offset.ensures

pub piece_of-requires-clause-end : goal.piece_of-requires-clause-end
piece_of-requires-clause-end c =
    let within = ((c.is_inside.ensures [] 0).0 c.if-not-is_inside.false).1 in
    omega (arith, c.position_from-past.ensures.offset, c.saturating_add.ensures, c.offset-in-loop-index.ensures, c.len.ensures, within, c.requires.small)

pub piece_of-requires-clause-from : goal.piece_of-requires-clause-from
piece_of-requires-clause-from c = ((c.is_inside.ensures [] 0).0 c.if-not-is_inside.false).0

pub piece_of-requires-clause-to : goal.piece_of-requires-clause-to
piece_of-requires-clause-to c = ((c.is_inside.ensures [] 0).0 c.if-not-is_inside.false).1

pub returns-in-Err-clause-err : goal.returns-in-Err-clause-err
returns-in-Err-clause-err c = λ valid begun.
    let ds = deletions_of c.args.deltas.now in
    let s = section_of c.args.section.now c.args.base ds c.args.start in
    let items = c.args.items.now in
    let n = c.loop-index.index in
    let here : offset_of c.at-item.result ≡ offset_of (item_at items n) = ap offset_of c.at-item.ensures in
    let stands = c.loop-index.invariant.stands ds c.args.start in
    let apart : IsApart items n = (apart_from s items n c.loop-index.following.input_offset stands).0 (λ some. omega (arith, c.is_apart.ensures.0 c.if-not-is_apart.false some, here)) in
    let inside : IsInside s (item_at items n) = subst (IsInside s) c.at-item.ensures ((c.is_inside.ensures ds c.args.start).0 c.if-not-is_inside.false) in
    let place : c.position_from-at.result.input_offset ≡ offset_of (item_at items n) = c.position_from-at.ensures.offset ∙ c.offset.ensures ∙ here in
    let up : c.loop-index.following.input_offset ≤ c.position_from-at.result.input_offset = omega (arith, gap_below s items n apart inside, stands, place) in
    let at = c.position_from-at.ensures.position valid (c.loop-index.invariant.position valid begun) (omega (arith, up, c.position_from-at.ensures.offset)) in
    let whole = c.stay_whole.ensures c.args.deltas.now valid (c.loop-index.invariant.position valid begun) at in
    let gap : KeepsGap s items n = subst (λ x. StayWhole ds x (offset_of (item_at items n))) stands (subst (StayWhole ds c.loop-index.following.input_offset) place (whole.0 c.if-not-stay_whole.false)) in
    let within : end_of (item_at items n) ≤ c.args.base + length c.args.section.now = inside.1 in
    let end : c.position_from-past.result.input_offset ≡ end_of (item_at items n) = omega (arith, c.position_from-past.ensures.offset, c.saturating_add.ensures, c.offset-in-loop-index.ensures, c.len.ensures, ap end_of c.at-item.ensures, within, c.requires.small) in
    let past = c.position_from-past.ensures.position valid at (omega (arith, end, place, c.position_from-past.ensures.offset)) in
    let rejected = subst (λ it. (is_fixed it ≡ false) × IsUnwritable c.args.machine s it c.in-Err.error) c.at-item.ensures (c.in-Err.ensures.rejected valid at past) in
    record {
      before = c.loop-index.invariant.ready valid begun;
      here = inl ((omega arith), cause_of c.args.machine s items n c.in-Err.error apart inside gap rejected.0 rejected.1);
    }

pub loop-index-preserved : goal.loop-index-preserved
loop-index-preserved c =
    let ds = deletions_of c.args.deltas.now in
    let s = section_of c.args.section.now c.args.base ds c.args.start in
    let items = c.args.items.now in
    let n = c.loop-index.index in
    let here : offset_of c.at-item.result ≡ offset_of (item_at items n) = ap offset_of c.at-item.ensures in
    let stands = c.loop-index.invariant.stands ds c.args.start in
    let apart : IsApart items n = (apart_from s items n c.loop-index.following.input_offset stands).0 (λ some. omega (arith, c.is_apart.ensures.0 c.if-not-is_apart.false some, here)) in
    let inside : IsInside s (item_at items n) = subst (IsInside s) c.at-item.ensures ((c.is_inside.ensures ds c.args.start).0 c.if-not-is_inside.false) in
    let place : c.position_from-at.result.input_offset ≡ offset_of (item_at items n) = c.position_from-at.ensures.offset ∙ c.offset.ensures ∙ here in
    let up : c.loop-index.following.input_offset ≤ c.position_from-at.result.input_offset = omega (arith, gap_below s items n apart inside, stands, place) in
    let within : end_of (item_at items n) ≤ c.args.base + length c.args.section.now = inside.1 in
    let end : c.position_from-past.result.input_offset ≡ end_of (item_at items n) = omega (arith, c.position_from-past.ensures.offset, c.saturating_add.ensures, c.offset-in-loop-index.ensures, c.len.ensures, ap end_of c.at-item.ensures, within, c.requires.small) in
    record {
      inside = below_more (λ i. end_of (item_at items i) ≤ c.args.base + length c.args.section.now) n c.loop-index.invariant.inside within;
      stands = λ ds start. end ∙ sym (gap_next (section_of c.args.section.now c.args.base ds start) items n);
      position = λ valid begun.
          let at = c.position_from-at.ensures.position valid (c.loop-index.invariant.position valid begun) (omega (arith, up, c.position_from-at.ensures.offset)) in
          let whole = c.stay_whole.ensures c.args.deltas.now valid (c.loop-index.invariant.position valid begun) at in
          c.position_from-past.ensures.position valid at (omega (arith, end, place, c.position_from-past.ensures.offset));
      ready = λ valid begun.
          let at = c.position_from-at.ensures.position valid (c.loop-index.invariant.position valid begun) (omega (arith, up, c.position_from-at.ensures.offset)) in
          let whole = c.stay_whole.ensures c.args.deltas.now valid (c.loop-index.invariant.position valid begun) at in
          below_more (CanWrite c.args.machine s items) n (c.loop-index.invariant.ready valid begun)
          (record {
            apart = apart;
            inside = inside;
            gap = (subst (λ x. StayWhole ds x (offset_of (item_at items n))) stands (subst (StayWhole ds c.loop-index.following.input_offset) place (whole.0 c.if-not-stay_whole.false)));
            writable = subst (λ it. is_fixed it ≡ false → IsWritable c.args.machine s it) c.at-item.ensures (c.in_default.ensures.writable valid at (c.position_from-past.ensures.position valid at (omega (arith, end, place, c.position_from-past.ensures.offset))));
          });
    }

last_below : (base end : ℕ) (bytes : List ℕ) (items : List Item) (n : ℕ) → base ≤ end → ((i : ℕ) → i < n → end_of (item_at items i) ≤ end) → gap_start (section_of bytes base [] 0) items n ≤ end
last_below base end bytes items zero low inside = low
last_below base end bytes items (suc n) low inside = inside n (omega arith)

pub stay_whole-requires-2 : goal.stay_whole-requires-2
stay_whole-requires-2 c =
    omega (arith, last_below c.args.base (c.args.base + length c.args.section.now) c.args.section.now c.args.items.now c.loop-index.index (omega arith) c.loop-index.invariant.inside, c.loop-index.invariant.stands [] 0, c.position_from-end.ensures.offset)

pub returns-then-stay_whole-clause-ok : goal.returns-then-stay_whole-clause-ok
returns-then-stay_whole-clause-ok c = λ valid begun.
    let ds = deletions_of c.args.deltas.now in
    let s = section_of c.args.section.now c.args.base ds c.args.start in
    let items = c.args.items.now in
    let all : c.loop-index.index ≡ length items = omega (arith, c.len-count.ensures) in
    let end = c.position_from-end.ensures.position valid (c.loop-index.invariant.position valid begun) (omega (arith, last_below c.args.base (c.args.base + length c.args.section.now) c.args.section.now items c.loop-index.index (omega arith) c.loop-index.invariant.inside, c.loop-index.invariant.stands [] 0)) in
    let whole = c.stay_whole-2.ensures c.args.deltas.now valid (c.loop-index.invariant.position valid begun) end in (
      subst (AreReady c.args.machine s items) all (c.loop-index.invariant.ready valid begun),
      subst (λ x. StayWhole ds x (c.args.base + length c.args.section.now)) (c.loop-index.invariant.stands ds c.args.start ∙ ap (gap_start s items) all) (subst (StayWhole ds c.loop-index.following.input_offset) c.position_from-end.ensures.offset (whole.0 c.if-stay_whole.true)),
    )

pub returns-else-stay_whole-clause-err : goal.returns-else-stay_whole-clause-err
returns-else-stay_whole-clause-err c = λ valid begun.
    let ds = deletions_of c.args.deltas.now in
    let s = section_of c.args.section.now c.args.base ds c.args.start in
    let items = c.args.items.now in
    let all : c.loop-index.index ≡ length items = omega (arith, c.len-count.ensures) in
    let stands = c.loop-index.invariant.stands ds c.args.start ∙ ap (gap_start s items) all in
    let end = c.position_from-end.ensures.position valid (c.loop-index.invariant.position valid begun) (omega (arith, last_below c.args.base (c.args.base + length c.args.section.now) c.args.section.now items c.loop-index.index (omega arith) c.loop-index.invariant.inside, c.loop-index.invariant.stands [] 0)) in
    let whole = c.stay_whole-2.ensures c.args.deltas.now valid (c.loop-index.invariant.position valid begun) end in
    record {
      before = λ i low. c.loop-index.invariant.ready valid begun i (omega (arith, c.len-count.ensures, all));
      here = inr (c.len-count.ensures, refl, λ keeps. both_ways c.stay_whole-2.result c.if-stay_whole.false (whole.1 (subst (λ x. StayWhole ds x c.position_from-end.result.input_offset) (sym stands) (subst (StayWhole ds (gap_start s items (length items))) (sym c.position_from-end.ensures.offset) keeps))));
    }
