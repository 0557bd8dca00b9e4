use Rattle.linker_runs.proofs.Imports.{All, AreMade, HasKind, Makes, MayBeAhead, items_in, map}
use Rattle.linker_runs.proofs.items.section_items.Given as goal

-- the items so far are those of the relocations so far
abbrev pub invariant-loop-index : goal.invariant-loop-index
invariant-loop-index g l =
    let rs = map g.R.AsRelocation.relocation l.relocations in
    record {
      made : AreMade (Makes l.machine l.section l.base rs) l.index (items_in l.items.items) l.makers.items;
      form : All HasKind l.items.items;
      next : MayBeAhead l.machine rs l.index l.next;
    }
