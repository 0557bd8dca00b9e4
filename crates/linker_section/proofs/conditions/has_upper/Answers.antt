use Rattle.linker_section.proofs.Imports.{arith, cases_Bool, cases_lt, inl, inr, sym, true≢false, ◌∙◌}
use Rattle.linker_section.proofs.conditions.has_upper.Goals as goal

pub returns-else-has_upper_among : goal.returns-else-has_upper_among
returns-else-has_upper_among c =
    let before = c.has_upper_among-else-has_upper_among in
    let from = c.has_upper_among.ensures.no c.if-has_upper_among.false in (
      before.ensures.yes,
      λ has. elim (cases_Bool before.result) [
        | inl is ↦ is
        | inr isnt ↦ elim (cases_lt has.0 c.first_from-first.result) [
          | inl below ↦ absurd (true≢false (sym has.2 ∙ before.ensures.no isnt has.0 (omega arith) below))
          | inr past ↦ absurd (true≢false (sym has.2 ∙ from has.0 past (omega (arith, c.relocations_len.ensures, has.1))))
        ]
      ],
    )
