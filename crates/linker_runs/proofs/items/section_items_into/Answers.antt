use Rattle.linker_runs.proofs.Imports.{HasKind, Item, List, Makes, MatchOption, Relocation, arith, inl, item_of, map, subst, sym, ℕ}
use Rattle.linker_runs.proofs.Alignments.{ahead_on}
use Rattle.linker_runs.proofs.Made.{put_none, put_less, put_more}
use Rattle.linker_runs.proofs.items.section_items_into.Goals as goal
use Rattle.linker_runs.proofs.items.section_items_into.Goals.{in-Some-item_at, in_default-item_at}

pub loop-index-init : goal.loop-index-init
loop-index-init g c = record { put = put_none item_of HasKind _ c.args.out.now c.args.makers.now; next = inl (omega arith) }

pub loop-index-preserved : goal.loop-index-preserved
loop-index-preserved g c =
    let rs : List Relocation = map g.R.AsRelocation.relocation c.args.relocations.now in
    let makes : ℕ → Item → Type 0 = Makes c.args.machine c.args.section.now c.args.base rs in
    let f = item_of in
    let form = HasKind in
    let i = c.loop-index.index in
    let n = c.loop-index.count in
    let before = c.args.out.now in
    let known = c.args.makers.now in
    let put = c.loop-index.invariant.put in
    record {
      put = elim c.match-item_at.branch [
        | in-Some-item_at w ↦
            let is : makes i (f w.from_item.result) = subst (makes i) (sym w.from_item.ensures.item) (subst (λ made. MatchOption made ((item : Item) → ¬ makes i item) (makes i)) w.in-Some-item_at.is c.item_at.ensures) in
            let more = put_more f form makes i n c.loop-index.out before c.loop-index.makers known w.from_item.result put (omega (arith, put.few, put.room)) (omega (arith, put.few, put.makers_room)) is w.from_item.ensures.form in
            rw (w.count-is, w.out-is, w.makers-is) more
        | in_default-item_at w ↦
            let not : (item : Item) → ¬ makes i item = subst (λ made. MatchOption made ((item : Item) → ¬ makes i item) (makes i)) w.in_default-item_at.is c.item_at.ensures in
            rw (w.count-is, w.out-is, w.makers-is) (put_less f form makes i n c.loop-index.out before c.loop-index.makers known put not)
      ];
      next = ahead_on c.args.machine rs i c.ahead-next.result c.ahead-next.ensures;
    }
