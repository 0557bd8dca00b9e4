use Rattle.linker_section.proofs.Imports.{arith, eqb-true, not-false, subst, sym, target_of, ◌∙◌, ◌≡◌}
use Rattle.linker_section.proofs.QuickValues.{own_target}
use Rattle.linker_section.proofs.quick.quick_target.Goals.{then-symbol-ne0, else-symbol-ne0}
use Rattle.linker_section.proofs.quick.quick_target.Goals as goal

pub returns-else-symbol : goal.returns-else-symbol
returns-else-symbol g c =
    let a = c.args in
    let symbol = c.symbol-symbol.result in
    subst (λ s. c.own_address.result ≡ target_of a.architecture a.addresses.now a.row.now s a.place) c.symbol-symbol.ensures
    (elim c.if-symbol-ne0.branch [
      | then-symbol-ne0 w ↦
          absurd (omega (arith, eqb-true symbol.stub 0 (not-false _ (sym w.value-is ∙ c.if-symbol.false))))
      | else-symbol-ne0 w ↦
          let none : symbol.stub ≡ 0 = omega arith in
          c.own_address.ensures ∙ sym (own_target a.architecture a.addresses.now a.row.now symbol a.place none (sym w.value-is ∙ c.if-symbol.false))
    ])
