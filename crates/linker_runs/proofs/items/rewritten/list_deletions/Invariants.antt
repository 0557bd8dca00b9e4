use Rattle.linker_runs.proofs.Imports.{AreListedIn, HasKind, List, Machine, Relocation, deleted_at, deleted_end, drop, item_of, length, map, rewritten_of, ℕ, ◌+◌, ◌<◌, ◌≡◌, ◌≤◌, ◌⊎◌}
use Rattle.linker_runs.proofs.items.rewritten.list_deletions.Given as goal

abbrev pub invariant-loop-gone : goal.invariant-loop-gone
invariant-loop-gone g l =
    let f = item_of in
    let W = HasKind in
    let ds = map g.L.AsDeletion.deletion l.deleted in
    record {
      count : l.count + l.fn.listed.gone ≡ l.fn.listed.count + l.gone;
      last : ((l.gone ≡ l.fn.listed.gone) × (l.count ≡ l.fn.listed.count) × (l.end ≡ l.fn.listed.end))
          ⊎ ((k : ℕ) × (k < length l.deleted) × (l.base + (deleted_at ds k).0 ≤ l.offset) × (l.end ≡ l.base + deleted_end ds k));
      listed : (machine : Machine) (section : List ℕ) (rs : List Relocation) (i : ℕ) → length rs ≡ l.relocations_len → i ≤ l.relocations_len
          → AreListedIn f W (rewritten_of machine section l.base rs ds) i l.fn.listed.gone l.fn.listed.count l.fn.listed.end l.initial.out l.initial.makers
          → AreListedIn f W (rewritten_of machine section l.base rs ds) i l.gone l.count l.end l.out l.makers;
      others : drop l.count l.out ≡ drop l.count l.initial.out;
      makers_stay : drop l.count l.makers ≡ drop l.count l.initial.makers;
    }
