use Rattle.linker_runs.proofs.Imports.{HasKind, Makes, MayBeAhead, item_of, map}
use Rattle.linker_runs.proofs.Made.{ArePut}
use Rattle.linker_runs.proofs.items.section_items_into.Given as goal

abbrev pub invariant-loop-index : goal.invariant-loop-index
invariant-loop-index g l =
    let rs = map g.R.AsRelocation.relocation l.relocations in
    record {
      put : ArePut item_of HasKind (Makes l.machine l.section l.base rs) l.index l.count l.out l.initial.out l.makers l.initial.makers;
      next : MayBeAhead l.machine rs l.index l.next;
    }
