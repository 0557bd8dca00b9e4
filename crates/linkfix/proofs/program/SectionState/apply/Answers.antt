use Rattle.linkfix.proofs.Imports.{codes, err_from_is_err_and, inl, inr, refl}
use Rattle.linkfix.proofs.program.SectionState.apply.Goals as goal

pub returns-in_err-call-in-Call-clause-causes : goal.returns-in_err-call-in-Call-clause-causes
returns-in_err-call-in-Call-clause-causes c error rejects =
    let because = c.in_err-call-in-Call.ensures.causes error (rw c.in-Call.is at rejects) in
    let stops = err_from_is_err_and c.from_residual-in_err-call-in-Call.result c.from_residual-in_err-call-in-Call.ensures.1 in
    elim because [
      | inl same ↦ inl (cc (stops.1, stops.2, same))
      | inr memory ↦ inr (rw c.in-Call.is memory.0, cc (stops.1, stops.2, memory.1))
    ]

pub returns-in_err-packed-in-Pack-clause-causes : goal.returns-in_err-packed-in-Pack-clause-causes
returns-in_err-packed-in-Pack-clause-causes c error rejects =
    let because = c.in_err-packed-in-Pack.ensures.causes error (rw c.in-Pack.is at rejects) in
    let stops = err_from_is_err_and c.from_residual-in_err-packed-in-Pack.result c.from_residual-in_err-packed-in-Pack.ensures.1 in
    elim because [
      | inl same ↦ inl (cc (stops.1, stops.2, same))
      | inr memory ↦ inr (rw c.in-Pack.is tt, cc (stops.1, stops.2, memory))
    ]

pub returns-in_ok-delete-in-Delete-clause-executed : goal.returns-in_ok-delete-in-Delete-clause-executed
returns-in_ok-delete-in-Delete-clause-executed c =
    let done = c.in_ok-delete-in-Delete.ensures in
    (codes "ok", rw c.in-Delete.is (refl, done.section_stays, done.calls_stay, done.deleted), refl)

pub returns-in_ok-call-in-Call-clause-executed : goal.returns-in_ok-call-in-Call-clause-executed
returns-in_ok-call-in-Call-clause-executed c = (codes "ok", rw c.in-Call.is c.in_ok-call-in-Call.ensures.executed, refl)

-- a command that is executed had no cause to fail
pub returns-in_ok-call-in-Call-clause-causes : goal.returns-in_ok-call-in-Call-clause-causes
returns-in_ok-call-in-Call-clause-causes c error rejects = elim (c.in_ok-call-in-Call.ensures.causes error (rw c.in-Call.is at rejects)) [
  | inl failed ↦ absurd (cc failed)
  | inr memory ↦ absurd (cc memory.1)
]

pub returns-in_ok-section_line-in-Pack-clause-causes : goal.returns-in_ok-section_line-in-Pack-clause-causes
returns-in_ok-section_line-in-Pack-clause-causes c error rejects = elim (c.in_ok-packed-in-Pack.ensures.causes error (rw c.in-Pack.is at rejects)) [
  | inl failed ↦ absurd (cc failed)
  | inr memory ↦ absurd (cc memory)
]
