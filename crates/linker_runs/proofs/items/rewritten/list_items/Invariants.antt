use Rattle.linker_runs.proofs.Imports.{HasKind, MayBeAhead, item_of, map, rewritten_of}
use Rattle.linker_runs.proofs.Listed.{IsWalked}
use Rattle.linker_runs.proofs.items.rewritten.list_items.Given as goal

abbrev pub invariant-loop-index : goal.invariant-loop-index
invariant-loop-index g l =
    let rs = map g.R.AsRelocation.relocation l.relocations in
    let ds = map g.L.AsDeletion.deletion l.deleted in
    record {
      walked : IsWalked item_of HasKind (rewritten_of l.machine l.section l.base rs ds) l.index l.listed.gone l.listed.count l.listed.end l.out l.initial.out l.makers l.initial.makers;
      next : MayBeAhead l.machine rs l.index l.next;
    }
