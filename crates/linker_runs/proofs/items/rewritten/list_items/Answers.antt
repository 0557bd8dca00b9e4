use Rattle.linker_runs.proofs.Imports.{AreListed, HasKind, Item, List, Makes, MatchOption, Relocation, Rewritten, add-one, arith, cases_lt, inl, inr, item_of, length, length-map, map, rewritten_of, subst, suc, take, ℕ, ⊎_elim, ◌<◌, ◌∙◌, ◌≡◌, ◌≤◌}
use Rattle.linker_runs.proofs.Alignments.{ahead_on}
use Rattle.linker_runs.proofs.Listed.{walked_none, walked_past, walked_on, drop_same_from}
use Rattle.linker_runs.proofs.items.rewritten.list_items.Goals as goal
use Rattle.linker_runs.proofs.items.rewritten.list_items.Goals.{in-Some+in-Some-list_item, in_default}

pub loop-index-init : goal.loop-index-init
loop-index-init g c = record { walked = walked_none item_of HasKind _ c.args.out.now c.args.makers.now; next = inl (omega arith) }

pub loop-index-preserved : goal.loop-index-preserved
loop-index-preserved g c =
    let rs : List Relocation = map g.R.AsRelocation.relocation c.args.relocations.now in
    let f = item_of in
    let W = HasKind in
    let s : Rewritten = rewritten_of c.args.machine c.args.section.now c.args.base rs (map g.L.AsDeletion.deletion c.args.deleted.now) in
    let makes : ℕ → Item → Type 0 = Makes c.args.machine c.args.section.now c.args.base rs in
    let i = c.loop-index.index in
    let now = c.loop-index.listed in
    let walked = c.loop-index.invariant.walked in
    record {
      walked = elim c.match-item_at.branch [
        | in-Some+in-Some-list_item w ↦
            let item = w.in-Some.item in
            let more = w.in-Some-list_item.more in
            let is : makes i item = subst (λ made. MatchOption made ((item : Item) → ¬ makes i item) (makes i)) w.in-Some.is c.item_at.ensures in
            let put = w.in-Some-list_item.ensures in
            let on = walked_on f W s i now.gone now.count now.end c.loop-index.out c.args.out.now c.loop-index.makers c.args.makers.now more.gone more.count more.end w.list_item.new.out w.list_item.new.makers item walked
            (put.listed c.args.machine c.args.section.now rs (length-map c.args.relocations.now g.R.AsRelocation.relocation) is walked.listed)
            put.range.0 (omega (arith, put.range.1, length-map c.args.deleted.now g.L.AsDeletion.deletion)) is put.range.2 put.others_stay.0 put.others_stay.1 in
            rw (w.listed-is, w.out-is, w.makers-is) on
        | in_default w ↦
            let not : (item : Item) → ¬ makes i item = subst (λ made. MatchOption made ((item : Item) → ¬ makes i item) (makes i)) w.in_default.is c.item_at.ensures in
            rw (w.listed-is, w.out-is, w.makers-is) (walked_past f W s i now.gone now.count now.end c.loop-index.out c.args.out.now c.loop-index.makers c.args.makers.now walked not)
      ];
      next = ahead_on c.args.machine rs i c.ahead-next.result c.ahead-next.ensures;
    }

pub returns-in-None-clause-overlaps : goal.returns-in-None-clause-overlaps
returns-in-None-clause-overlaps g c =
    let makes : ℕ → Item → Type 0 = Makes c.args.machine c.args.section.now c.args.base (map g.R.AsRelocation.relocation c.args.relocations.now) in
    let i = c.loop-index.index in
    let end = c.loop-index.listed.end in
    let is : makes i c.in-Some.item = subst (λ made. MatchOption made ((item : Item) → ¬ makes i item) (makes i)) c.in-Some.is c.item_at.ensures in (
      omega arith,
      record {
        item = c.in-Some.item;
        makes = is;
        overlap = ⊎_elim
            (λ below. ⊎_elim
            (λ (nothing : end ≡ 0). absurd (omega (arith, nothing, below)))
            (λ some. inl (some.0, some.1, some.2, some.3, omega (arith, below, some.4)))
            c.loop-index.invariant.walked.last)
            (λ cut. inr (cut.0, omega (arith, cut.1, length-map c.args.deleted.now g.L.AsDeletion.deletion), cut.2, cut.3))
            c.in-None.ensures.overlaps;
      },
    )

pub returns-clause-listed : goal.returns-clause-listed
returns-clause-listed g c =
    let rs : List Relocation = map g.R.AsRelocation.relocation c.args.relocations.now in
    let ds = map g.L.AsDeletion.deletion c.args.deleted.now in
    let makes : ℕ → Item → Type 0 = Makes c.args.machine c.args.section.now c.args.base rs in
    let all = c.list_deletions in
    let all_relocations = length-map c.args.relocations.now g.R.AsRelocation.relocation in
    let i : c.loop-index.index ≡ length rs = omega (arith, all_relocations) in
    let gone : all.result.gone ≡ length ds = ⊎_elim
    (λ (less : all.result.gone < length c.args.deleted.now). absurd (omega (arith, all.ensures.stops less, (c.requires.placed all.result.gone less).1, c.requires.base)))
    (λ (none : length c.args.deleted.now ≤ all.result.gone). omega (arith, none, all.ensures.range.1, (length-map c.args.deleted.now g.L.AsDeletion.deletion)))
    (cases_lt all.result.gone (length c.args.deleted.now)) in
    let listed = all.ensures.listed c.args.machine c.args.section.now rs c.loop-index.index all_relocations (omega (arith, i, all_relocations)) c.loop-index.invariant.walked.listed in
    let items = map item_of (take all.result.count all.new.out) in
    let makers = take all.result.count all.new.makers in (
      all.result.end,
      subst (λ n. AreListed makes c.args.base (length rs) ds (length rs) n all.result.end items makers) gone
          (subst (λ n. AreListed makes c.args.base (length rs) ds n all.result.gone all.result.end items makers) i listed.listed),
    )

pub returns-clause-others_stay : goal.returns-clause-others_stay
returns-clause-others_stay g c =
    let all = c.list_deletions in
    let walked = c.loop-index.invariant.walked in
    let more : c.loop-index.listed.count ≤ all.result.count = omega (arith, all.ensures.count, all.ensures.range.0) in (
      all.ensures.others_stay.0 ∙ drop_same_from c.loop-index.out c.args.out.now c.loop-index.listed.count all.result.count more walked.others,
      all.ensures.others_stay.1 ∙ drop_same_from c.loop-index.makers c.args.makers.now c.loop-index.listed.count all.result.count more walked.makers_stay,
    )

pub list_item-requires-clause-gone : goal.list_item-requires-clause-gone
list_item-requires-clause-gone g c = omega (arith, c.loop-index.invariant.walked.gone, length-map c.args.deleted.now g.L.AsDeletion.deletion)

pub list_item-requires-clause-apart : goal.list_item-requires-clause-apart
list_item-requires-clause-apart g c = λ k below. rw add-one (c.requires.placed (suc k) (omega (arith, below))).0

pub list_deletions-requires-clause-gone : goal.list_deletions-requires-clause-gone
list_deletions-requires-clause-gone g c = omega (arith, c.loop-index.invariant.walked.gone, length-map c.args.deleted.now g.L.AsDeletion.deletion)

pub list_deletions-requires-clause-apart : goal.list_deletions-requires-clause-apart
list_deletions-requires-clause-apart g c = λ k below. rw add-one (c.requires.placed (suc k) (omega (arith, below))).0

pub returns-clause-form : goal.returns-clause-form
returns-clause-form g c =
    let rs : List Relocation = map g.R.AsRelocation.relocation c.args.relocations.now in
    let all = length-map c.args.relocations.now g.R.AsRelocation.relocation in
    (c.list_deletions.ensures.listed c.args.machine c.args.section.now rs c.loop-index.index all (omega (arith, all)) c.loop-index.invariant.walked.listed).form
