-- The items of a section that was rewritten, listed so far.
use Rattle.linker_runs.specs.Imports.{All, Item, List, Machine, Relocation, length, map, take, ℕ}
use Rattle.std.specs.Prelude.{◌+◌, ◌<◌, ◌≤◌}
use Rattle.linker_runs.specs.SectionItems.{Makes}
use Rattle.linker_runs.specs.RewrittenItems.{AreListed, deleted_at}

-- A section with its relocations and what is deleted of it.
pub record Rewritten : Type 0 where
  pub machine : Machine
  pub section : List ℕ
  pub base : ℕ
  pub relocations : List Relocation
  pub deletions : List (ℕ × ℕ)

abbrev pub rewritten_of : Machine → List ℕ → ℕ → List Relocation → List (ℕ × ℕ) → Rewritten
rewritten_of m s b rs ds =
    record { machine = m; section = s; base = b; relocations = rs; deletions = ds }

-- The first `count` elements of two arrays are the items that the relocations below i and the
-- deletions below g make, and their makers. The last ends at `end`, and no other deletion begins
-- below that.
pub record AreListedIn {A : Type 0} (f : A → Item) (IsWritten : A → Type 0) (s : Rewritten)
    (i g count end : ℕ) (out : List A) (makers : List ℕ) : Type 0 where
  pub few : count ≤ i + g
  pub listed : AreListed (Makes s.machine s.section s.base s.relocations) s.base
      (length s.relocations) s.deletions i g end (map f (take count out)) (take count makers)
  pub form : All IsWritten (take count out)
  pub next : g < length s.deletions → end ≤ s.base + (deleted_at s.deletions g).0
