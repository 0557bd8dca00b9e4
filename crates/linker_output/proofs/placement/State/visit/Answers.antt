use Rattle.linker_output.proofs.Imports.{Direct, IsLostBy, IsServedBy, IsState, SameStubs, arith, branch_at, get_or_read, inl, subst, sym, way_at, ◌∙◌, ◌≡◌}
use Rattle.linker_output.proofs.Going.{spare_reaches}
use Rattle.linker_output.proofs.placement.State.visit.Goals as goal
use Rattle.linker_output.proofs.placement.State.visit.Goals.{then-late+then-not-has_spare+in_ok-raise-2+else-branch-2, else-late}

pub raise-requires-clause-needed : goal.raise-requires-clause-needed
raise-requires-clause-needed c = λ spare.
    (c.is_lost-lost.ensures.lost c.if-lost.true).target (spare_reaches c.args.code.now c.args.before.now (branch_at c.args.code.now.branches.now c.args.index) c.requires.most spare)

pub returns-then-lost : goal.returns-then-lost
returns-then-lost c =
    let a = c.args in
    let raise = c.in_ok-raise.ensures in
    let is : c.index-way.result.now ≡ way_at a.self.now.ways.items a.index = get_or_read a.self.now.ways.items a.index c.index-way.result.now (omega arith) c.index-way.ensures Direct in
    record {
      state = raise.state;
      may_share = raise.may_share;
      visited = (
        raise.same c.if-branch.false,
        record {
          within = c.requires.within;
          lost = subst (IsLostBy a.code.now a.before.now a.places.now (branch_at a.code.now.branches.now a.index)) is (c.is_lost-lost.ensures.lost c.if-lost.true);
          out = raise.out c.if-branch.false;
        },
      );
    }

pub note-requires-2-clause-state : goal.note-requires-2-clause-state
note-requires-2-clause-state c =
    let same : c.if-late.self ≡ c.args.self.now = elim c.if-late.branch [
      | then-late+then-not-has_spare+in_ok-raise-2+else-branch-2 w ↦ w.self-is ∙ w.in_ok-raise-2.ensures.same w.if-branch-2.false
      | else-late w ↦ w.self-is
    ] in
    subst (IsState c.args.code.now) (sym same) c.requires.state

pub returns : goal.returns
returns c =
    let a = c.args in
    let is : c.index-way.result.now ≡ way_at a.self.now.ways.items a.index = get_or_read a.self.now.ways.items a.index c.index-way.result.now (omega arith) c.index-way.ensures Direct in
    let same : c.if-late.self ≡ a.self.now = elim c.if-late.branch [
      | then-late+then-not-has_spare+in_ok-raise-2+else-branch-2 w ↦ w.self-is ∙ w.in_ok-raise-2.ensures.same w.if-branch-2.false
      | else-late w ↦ w.self-is
    ] in
    let kept : SameStubs a.self.now c.note-2.new.self = subst (λ s. SameStubs s c.note-2.new.self) same c.note-2.ensures.stubs in
    record {
      state = c.note-2.ensures.state;
      may_share = kept.may_share;
      visited = (kept, inl (subst (IsServedBy a.code.now a.before.now a.places.now (branch_at a.code.now.branches.now a.index)) is (c.is_lost-lost.ensures.served c.if-lost.false)));
    }
