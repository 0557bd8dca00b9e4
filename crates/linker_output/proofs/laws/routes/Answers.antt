use Rattle.linker_output.proofs.Imports.{Bool, by_jump, by_reach, false, has_no_toc, has_toc, if◌then◌else◌, loses_toc, nat_lt, ne_eqb, not, refl, stub_target, subst, sym, true, ℕ, ◌&&◌, ◌/◌, ◌==◌, ◌||◌, ◌≡◌, ◌≢◌}
use Rattle.linker_output.proofs.laws.routes.Goals as goal

never : (a : Bool) → a && false ≡ false
never true = refl
never false = refl

neither : {A : Type 0} (x y : Bool) (a b : A) → x ≡ false → y ≡ false → (if x || y then a else b) ≡ b
neither x y a b p q =
    subst (λ x. (if x || y then a else b) ≡ b) (sym p)
    (subst (λ y. (if y then a else b) ≡ b) (sym q) refl)

-- what counts only where a function is entered
unentered : (a b : Bool) (stub : ℕ) → stub ≢ 0 → a && ((stub == 0) && b) ≡ false
unentered a b stub some =
    subst (λ x. a && (x && b) ≡ false) (sym (ne_eqb stub 0 some)) (never a)

pub returns : goal.returns
returns c target row symbol r stub some has_room obstacle =
    let to = record symbol { stub = stub } in
    neither _ _ (by_jump target.jump_stub (loses_toc target.instructions r.r_type to) has_room (stub_target target.instructions to r))
    (by_reach target row to r obstacle)
    (unentered (has_toc target.instructions r.r_type) (not symbol.is_undefined_weak && symbol.other / 32 == 1) stub some)
    (unentered (has_no_toc target.instructions r.r_type) (not symbol.is_undefined_weak && nat_lt 1 (symbol.other / 32)) stub some)
