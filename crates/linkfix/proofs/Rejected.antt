-- A call is rejected for one cause, and the first that is rejected is one.
use Rattle.linkfix.proofs.Imports.{All, Call, CallError, CanJump, IsFirstRejected, IsRejected, List, OddDistance, OutOfSection, SiteDeleted, TooFar, arith, cases_order, get_or, get_or-take, inl, inr, length-take, refl, subst, sym, ℕ, ◌<◌, ◌≡◌}
use Rattle.linker_utils.specs.LinkRegister.{LinkRegister}

module _ (link : LinkRegister) (deletions : List (ℕ × ℕ)) (section : List ℕ) where
  jumps_not_rejected : (call : ℕ × ℕ) (cause : CallError) → CanJump link deletions section call → ¬ IsRejected link deletions section call (Call cause)
  jumps_not_rejected call OutOfSection can rejected = rejected can.inside
  jumps_not_rejected call SiteDeleted can rejected = rejected.1 can.kept
  jumps_not_rejected call OddDistance can rejected = rejected.3 can.even
  jumps_not_rejected call TooFar can rejected = rejected.4 can.near

  rejected_once : (call : ℕ × ℕ) (a b : CallError) → IsRejected link deletions section call (Call a) → IsRejected link deletions section call (Call b) → a ≡ b
  rejected_once call OutOfSection OutOfSection r s = refl
  rejected_once call OutOfSection SiteDeleted r s = absurd (r s.0)
  rejected_once call OutOfSection OddDistance r s = absurd (r s.0)
  rejected_once call OutOfSection TooFar r s = absurd (r s.0)
  rejected_once call SiteDeleted OutOfSection r s = absurd (s r.0)
  rejected_once call SiteDeleted SiteDeleted r s = refl
  rejected_once call SiteDeleted OddDistance r s = absurd (r.1 s.1)
  rejected_once call SiteDeleted TooFar r s = absurd (r.1 s.1)
  rejected_once call OddDistance OutOfSection r s = absurd (s r.0)
  rejected_once call OddDistance SiteDeleted r s = absurd (s.1 r.1)
  rejected_once call OddDistance OddDistance r s = refl
  rejected_once call OddDistance TooFar r s = absurd (r.3 s.3)
  rejected_once call TooFar OutOfSection r s = absurd (s r.0)
  rejected_once call TooFar SiteDeleted r s = absurd (s.1 r.1)
  rejected_once call TooFar OddDistance r s = absurd (s.3 r.3)
  rejected_once call TooFar TooFar r s = refl

  module _ (calls : List (ℕ × ℕ)) where
    pub none_rejected : (at : ℕ) (cause : CallError) → All (CanJump link deletions section) calls → ¬ IsFirstRejected link deletions section calls at (Call cause)
    none_rejected at cause all first = jumps_not_rejected _ cause (all at (0, 0) first.within) (first.here (0, 0))

    not_after : (at later : ℕ) (a b : CallError) → at < later → IsFirstRejected link deletions section calls at (Call a) → ¬ IsFirstRejected link deletions section calls later (Call b)
    not_after at later a b below first second =
        let jumps = second.before at (0, 0) (omega (arith, length-take later calls, second.within)) in
        let can = rw (get_or-take later calls at (0, 0) below) at jumps in jumps_not_rejected _ a can (first.here (0, 0))

    pub first_rejected_once : (at other : ℕ) (a b : CallError) → IsFirstRejected link deletions section calls at (Call a) → IsFirstRejected link deletions section calls other (Call b) → a ≡ b
    first_rejected_once at other a b first second = elim (cases_order at other) [
      | inl same ↦ rejected_once (get_or calls at (0, 0)) a b (first.here (0, 0)) (subst (λ k. IsRejected link deletions section (get_or calls k (0, 0)) (Call b)) (sym same) (second.here (0, 0)))
      | inr (inl below) ↦ absurd (not_after at other a b below first second)
      | inr (inr above) ↦ absurd (not_after other at b a above second first)
    ]
