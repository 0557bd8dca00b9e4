-- The laws of AArch64.
use Rattle.linker_laws.proofs.Imports.{AddToAdr, AdrpAddToNopAdr, AdrpToAdr, AdrpX0, BeginsRewrittenAt, LdrToAdd, LdrToAdr, LdrX0, List, MovkX0, MovkXn, MovzX0Lsl16, MovzXnLsl16, NoOp, ReplaceWithNop, Rewrite, Some, ap, append_assoc, arith, drop, drop-append_seam, length, length-take-le, refl, rewrite_window, subst, take, take-append_seam, ℕ, ◌++◌, ◌+◌, ◌-◌, ◌∙◌, ◌≡◌}
use Rattle.linker_laws.specs.AArch64Groups as aarch64_laws
use Rattle.linker_laws.proofs.rewrites.aarch64.Goals as goal

-- ---- sections

in_section : (r : Rewrite) (section : List ℕ) (o : ℕ)
    → ((window : List ℕ) → length (r.bytes window) ≡ r.len)
    → BeginsRewrittenAt (Some r) section o
in_section r section o long can =
    let k = o - r.back in
    let bytes = r.bytes (rewrite_window r section o) in
    let rest = drop (k + r.len) section in
    let ends = can.ends in
    let before : length (take k section) ≡ k = length-take-le k section (omega arith) in
    ap (λ l. take r.len (drop k l)) (append_assoc (take k section) bytes rest)
    ∙ ap (take r.len)
    (subst (λ j. drop j (take k section ++ (bytes ++ rest)) ≡ bytes ++ rest) before
    (drop-append_seam (take k section) (bytes ++ rest)))
    ∙ subst (λ j. take j (bytes ++ rest) ≡ bytes) (long (rewrite_window r section o))
    (take-append_seam bytes rest)

sections : aarch64_laws.InSections
sections NoOp section o = tt
sections ReplaceWithNop section o = in_section _ section o (λ window. refl)
sections MovzX0Lsl16 section o = in_section _ section o (λ window. refl)
sections MovkX0 section o = in_section _ section o (λ window. refl)
sections MovzXnLsl16 section o = in_section _ section o (λ window. refl)
sections MovkXn section o = in_section _ section o (λ window. refl)
sections AdrpToAdr section o = in_section _ section o (λ window. refl)
sections AdrpX0 section o = in_section _ section o (λ window. refl)
sections LdrX0 section o = in_section _ section o (λ window. refl)
sections AddToAdr section o = in_section _ section o (λ window. refl)
sections LdrToAdr section o = in_section _ section o (λ window. refl)
sections LdrToAdd section o = in_section _ section o (λ window. refl)
sections AdrpAddToNopAdr section o = in_section _ section o (λ window. refl)

pub returns : goal.returns
returns c = record { sections = sections }
