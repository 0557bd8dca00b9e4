use Rattle.linker_rewriting.proofs.Imports.{IsThere, IsWithin, None, Some, context_of, length, part_end, part_start, refl, subst, sym, ℕ, ◌∙◌, ◌≤◌}
use Rattle.linker_rewriting.proofs.GlobalPointer.{expected, of_member, part_bytes, part_decided, part_ends, part_kept, part_made, part_matches, part_undecided}
use Rattle.linker_rewriting.proofs.global_pointer.PartsRule.decide.Goals as goal

pub returns-in_default-clause-decided : goal.returns-in_default-clause-decided
returns-in_default-clause-decided c =
    let a = c.args in
    let p = a.self.now in
    of_member (context_of p.context.now) p.gp a.self.now.kept.now a.site.now.relocations.now a.site.now.section.now a.site.now.index a.site.now.relocation p.ascends _ None _
    c.requires.valid c.in_default.is c.member_of.ensures refl

pub returns-then-word_stays-clause-decided : goal.returns-then-word_stays-clause-decided
returns-then-word_stays-clause-decided c =
    let a = c.args in
    let p = a.self.now in
    let s = context_of p.context.now in
    let kept = a.self.now.kept.now in
    of_member s p.gp kept a.site.now.relocations.now a.site.now.section.now a.site.now.index a.site.now.relocation p.ascends _ (Some c.in-Some.member) _
    c.requires.valid c.in-Some.is c.member_of.ensures
    (part_kept s p.gp p.ascends kept a.site.now.relocations.now a.site.now.section.now a.site.now.index a.site.now.relocation c.in-Some.member (sym c.word_stays.ensures ∙ c.if-word_stays.true))

pub returns-then-fits-clause-decided : goal.returns-then-fits-clause-decided
returns-then-fits-clause-decided c =
    let a = c.args in
    let p = a.self.now in
    let s = context_of p.context.now in
    let kept = a.self.now.kept.now in
    of_member s p.gp kept a.site.now.relocations.now a.site.now.section.now a.site.now.index a.site.now.relocation p.ascends _ (Some c.in-Some.member) _
    c.requires.valid c.in-Some.is c.member_of.ensures
    (part_decided s p.gp p.ascends kept a.site.now.relocations.now a.site.now.section.now a.site.now.index a.site.now.relocation c.in-Some.member c.part_decision.result
    (sym c.word_stays.ensures ∙ c.if-word_stays.false) (sym c.fits.ensures ∙ c.if-fits.true) c.part_decision.ensures)

pub returns-else-fits-clause-lacking : goal.returns-else-fits-clause-lacking
returns-else-fits-clause-lacking c =
    let a = c.args in
    let p = a.self.now in
    let s = context_of p.context.now in
    let kept = a.self.now.kept.now in
    of_member s p.gp kept a.site.now.relocations.now a.site.now.section.now a.site.now.index a.site.now.relocation p.ascends _ (Some c.in-Some.member) _
    c.requires.valid c.in-Some.is c.member_of.ensures
    (part_undecided s p.gp p.ascends kept a.site.now.relocations.now a.site.now.section.now a.site.now.index a.site.now.relocation c.in-Some.member
    (sym c.word_stays.ensures ∙ c.if-word_stays.false) (sym c.fits.ensures ∙ c.if-fits.false))

pub returns-then-fits-clause-there : goal.returns-then-fits-clause-there
returns-then-fits-clause-there c =
    let a = c.args in
    let p = a.self.now in
    let m = c.in-Some.member in
    let is = expected (context_of p.context.now) p.gp p.ascends a.site.now.relocations.now a.site.now.section.now a.site.now.index a.site.now.relocation m (sym c.fits.ensures ∙ c.if-fits.true) in
    subst (λ d. IsThere d a.site.now.section.now a.site.now.relocation.offset) (sym c.part_decision.ensures)
    (part_made a.site.now.section.now a.site.now.relocation (m.0) (m.1) is, part_matches a.site.now.section.now a.site.now.relocation (m.0) (m.1) is)

pub returns-then-fits-clause-within : goal.returns-then-fits-clause-within
returns-then-fits-clause-within c =
    let o = c.args.site.now.relocation.offset in
    subst (IsWithin part_start part_end o) (sym c.part_decision.ensures)
    (part_bytes (c.in-Some.member.0) (c.in-Some.member.1) o)

pub returns-then-fits-clause-ends : goal.returns-then-fits-clause-ends
returns-then-fits-clause-ends c =
    let a = c.args in
    let p = a.self.now in
    let o = a.site.now.relocation.offset in
    let m = c.in-Some.member in
    subst (λ d. (limit : ℕ) → o ≤ limit → length a.site.now.section.now ≤ limit → part_end d o ≤ limit) (sym c.part_decision.ensures)
    (part_ends a.site.now.section.now a.site.now.relocation (m.0) (m.1)
    (expected (context_of p.context.now) p.gp p.ascends a.site.now.relocations.now a.site.now.section.now a.site.now.index a.site.now.relocation m (sym c.fits.ensures ∙ c.if-fits.true)))
