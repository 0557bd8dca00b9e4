-- Links one after the other: code is rewritten where it stands, packed, and rewritten again.
use Rattle.std.specs.Prelude.{◌≡◌, ◌<◌, ℕ, suc, Some}
use Rattle.linker_laws.specs.Simulation.{State, Link, Comparison, of_link, Covered, Group, run}

-- new's code of each link is old's of the next
pub data Chain : Type 0 where
  one : Link → Chain
  followed_by : Chain → Link → Chain

-- Old of one comparison and new of the next: some state of the code between agrees with both.
abbrev pub both : Comparison → Comparison → Comparison
both c d =
    record {
      Known = c.Known × d.Known;
      Agrees = λ k s t. (u : State) × c.Agrees k.0 s u × d.Agrees k.1 u t;
      old = c.old;
      new = d.new;
      small = λ k s t agree. c.small k.0 s agree.0 agree.1;
    }

abbrev pub of_chain : Chain → Comparison
of_chain (one l) = of_link l
of_chain (followed_by c l) = both (of_chain c) (of_link l)

-- A run of old is covered by one comparison, and the code between by the next, whichever state of
-- it agrees with old's at both ends.
pub record AreCovered (c d : Comparison) (n : ℕ) (k k' : c.Known) (h h' : d.Known) (s s' : State)
    : Type 0 where
  pub q : ℕ
  pub p : ℕ
  pub m : ℕ
  pub first : Covered c (suc q) m k s k' s'
  pub second : (u u' : State) → c.Agrees k s u → run m d.old u ≡ Some u' → c.Agrees k' s' u'
      → Covered d p n h u h' u'
  pub forward : n ≡ 0 → s.pc < s'.pc

-- then it is a group of both
abbrev pub Compose : Comparison → Comparison → Type 0
Compose c d =
    ((s : State) → c.new s ≡ d.old s)
    → (n : ℕ) (k k' : c.Known) (h h' : d.Known) (s s' : State) → AreCovered c d n k k' h h' s s'
    → Group (both c d) n (k, h) s (k', h') s'
