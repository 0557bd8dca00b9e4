use Rattle.linker_section.proofs.Imports.{ap, arith, flags_of, if◌then◌else◌, rules, sym, ◌%◌, ◌&&◌, ◌/◌, ◌==◌, ◌∙◌, ◌≡◌}
use Rattle.linker_section.proofs.Crels.{next_is}
use Rattle.linker_section.proofs.crel.next_of.Goals as goal
use Rattle.linker_section.proofs.crel.next_of.Goals.{then-header, else-header, then-header-2, else-header-2}

pub returns-clause-is : goal.returns-clause-is
returns-clause-is c =
    let h = c.args.header.now in
    let first = c.from-first.result in
    let flags : c.if-header.flags ≡ flags_of h = elim c.if-header.branch [
      | then-header w ↦ w.flags-is ∙ sym (ap (λ t. if t then 8 else 4) w.if-header.true)
      | else-header w ↦ w.flags-is ∙ sym (ap (λ t. if t then 8 else 4) w.if-header.false)
    ] in
    let has : c.if-header-2.has_addend ≡ (h.has_addends && (first / 4 % 2 == 1)) = elim c.if-header-2.branch [
      | then-header-2 w ↦ w.has_addend-is ∙ sym (ap (λ t. t && (first / 4 % 2 == 1)) w.if-header-2.true)
      | else-header-2 w ↦ w.has_addend-is ∙ w.if-header-2.false ∙ sym (ap (λ t. t && (first / 4 % 2 == 1)) w.if-header-2.false)
    ] in
    sym (next_is h c.args.section.now c.args.prior.now first c.if-header.flags c.if-header-2.has_addend
    c.in_ok-high.high c.in_ok-symbol.symbol c.in_ok-r_type.r_type c.in_ok-addend.addend (omega arith) (search rules) flags has
    (sym c.delta_at.ensures.is ∙ c.in_ok-high.was) (sym c.delta_at-2.ensures.is ∙ c.in_ok-symbol.was)
    (sym c.delta_at-3.ensures.is ∙ c.in_ok-r_type.was) (sym c.delta_at-4.ensures.is ∙ c.in_ok-addend.was))
