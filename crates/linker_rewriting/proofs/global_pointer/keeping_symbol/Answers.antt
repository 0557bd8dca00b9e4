use Rattle.linker_rewriting.proofs.Imports.{IsMember, None, Some, context_of, if◌then◌else◌, refl, subst, sym, ◌∙◌, ◌≡◌}
use Rattle.linker_rewriting.proofs.global_pointer.keeping_symbol.Goals as goal

pub returns-in_err-member : goal.returns-in_err-member
returns-in_err-member c =
    let a = c.args in
    record {
      ascends = a.parts.now.ascends;
      is_ascending = c.requires.ascending;
      member = None;
      is_member = subst (IsMember (context_of a.parts.now.context.now) a.site.now.relocations.now a.site.now.relocation) c.in_err-member.was c.member_of.ensures;
      keeps = c.from_residual.ensures;
    }

pub returns-then-fits : goal.returns-then-fits
returns-then-fits c =
    let a = c.args in
    record {
      ascends = a.parts.now.ascends;
      is_ascending = c.requires.ascending;
      member = Some c.in_ok-member.member;
      is_member = subst (IsMember (context_of a.parts.now.context.now) a.site.now.relocations.now a.site.now.relocation) c.in_ok-member.was c.member_of.ensures;
      keeps = subst (λ b. None ≡ (if b then None else Some c.in_ok-member.member.1.symbol)) (sym c.if-fits.true ∙ c.fits.ensures) refl;
    }

pub returns-else-fits : goal.returns-else-fits
returns-else-fits c =
    let a = c.args in
    let symbol = c.in_ok-member.member.1.symbol in
    record {
      ascends = a.parts.now.ascends;
      is_ascending = c.requires.ascending;
      member = Some c.in_ok-member.member;
      is_member = subst (IsMember (context_of a.parts.now.context.now) a.site.now.relocations.now a.site.now.relocation) c.in_ok-member.was c.member_of.ensures;
      keeps = subst (λ b. Some symbol ≡ (if b then None else Some symbol)) (sym c.if-fits.false ∙ c.fits.ensures) refl;
    }
