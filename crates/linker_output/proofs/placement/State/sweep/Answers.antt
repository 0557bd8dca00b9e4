use Rattle.linker_output.proofs.Imports.{Code, IsServedBy, List, Near, SameStubs, State, Visited, ap, arith, below_more, branch_at, false≢true, length, level, subst, sum_by, sym, true, way_at, ℕ, ⊎_elim, ◌+◌, ◌<◌, ◌∙◌, ◌≡◌}
use Rattle.linker_output.specs.declared.placement.Visit.TheVariants.{Served}
use Rattle.linker_output.proofs.Near.{near_served, places_kept, laid_kept}
use Rattle.linker_output.proofs.placement.State.sweep.Goals as goal
use Rattle.linker_output.proofs.placement.State.sweep.Goals.{in-Served, in-Raised, in-Lost+else-not-changed}

same_next : (a b d : State) → SameStubs a b → SameStubs b d → SameStubs a d
same_next a b d p q = record { stubs = q.stubs ∙ p.stubs; groups = q.groups ∙ p.groups; ways = q.ways ∙ p.ways; may_share = q.may_share ∙ p.may_share }

served_next : (code : Code) (before places : List ℕ) (old new : State) (i : ℕ) → new.ways ≡ old.ways
    → ((k : ℕ) → k < i → IsServedBy code before places (branch_at code.branches.now k) (way_at old.ways.items k))
    → IsServedBy code before places (branch_at code.branches.now i) (way_at old.ways.items i)
    → (k : ℕ) → k < i + 1 → IsServedBy code before places (branch_at code.branches.now k) (way_at new.ways.items k)
served_next code before places old new i e below here = subst (λ v. (k : ℕ) → k < i + 1 → IsServedBy code before places (branch_at code.branches.now k) (way_at v.items k)) (sym e) (below_more (λ k. IsServedBy code before places (branch_at code.branches.now k) (way_at old.ways.items k)) i below here)

pub loop-index-preserved : goal.loop-index-preserved
loop-index-preserved c =
    let code = c.args.code.now in
    let before = c.args.before.now in
    let places = c.args.places.now in
    let self = c.loop-index.self in
    let i = c.loop-index.index in
    let new = c.visit.new.self in
    let inv = c.loop-index.invariant in
    let within : i < length code.branches.now = omega arith in
    elim c.match-branch-2.branch [
      | in-Served w ↦
          let visited : Visited code before places self new i Served = subst (Visited code before places self new i) w.in-Served.is c.in_ok-visit.ensures.visited in
          let total = ap (λ v. sum_by level v.items) (visited.0.ways) in
          record {
            state = c.in_ok-visit.ensures.state;
            share = c.in_ok-visit.ensures.may_share ∙ inv.share;
            same = λ h. same_next _ _ _ (inv.same (sym w.changed-is ∙ h)) (visited.0);
            served = λ h. served_next code before places self new i (visited.0.ways) (inv.served (sym w.changed-is ∙ h))
                (⊎_elim (λ here. here)
                (λ (near : (s : ℕ) × (way_at self.ways.items i ≡ Near s)). near_served code self before places i near.0 inv.state (laid_kept code c.args.self.now self before (inv.same (sym w.changed-is ∙ h)) c.requires.laid_out) (places_kept code c.args.self.now self before places (inv.same (sym w.changed-is ∙ h)) c.requires.places) within near.1)
                visited.1);
            no_less = omega (arith, inv.no_less);
            higher = λ h. (let more = inv.higher (sym w.changed-is ∙ h) in omega arith);
          }
      | in-Raised w ↦
          let more : sum_by level self.ways.items < sum_by level new.ways.items = subst (Visited code before places self new i) w.in-Raised.is c.in_ok-visit.ensures.visited in
          record {
            state = c.in_ok-visit.ensures.state;
            share = c.in_ok-visit.ensures.may_share ∙ inv.share;
            same = λ h. absurd (false≢true (sym h ∙ w.changed-is));
            served = λ h. absurd (false≢true (sym h ∙ w.changed-is));
            no_less = omega (arith, inv.no_less);
            higher = λ h. omega (arith, inv.no_less);
          }
      | in-Lost+else-not-changed w ↦
          let total = ap (λ s. sum_by level s.ways.items) ((subst (Visited code before places self new i) w.in-Lost.is c.in_ok-visit.ensures.visited).0) in
          let was : c.loop-index.changed ≡ true = w.if-not-changed.false in
          record {
            state = c.in_ok-visit.ensures.state;
            share = c.in_ok-visit.ensures.may_share ∙ inv.share;
            same = λ h. absurd (false≢true (sym h ∙ w.changed-is ∙ was));
            served = λ h. absurd (false≢true (sym h ∙ w.changed-is ∙ was));
            no_less = omega (arith, inv.no_less);
            higher = λ h. (let more = inv.higher was in omega arith);
          }
    ]
