use Rattle.linker_section.proofs.Imports.{ap, arith, drop, from_le_bytes, length, length-drop, replicate, take, take_rest, w64, ◌++◌, ◌-◌, ◌∙◌}
use Rattle.linker_section.proofs.Saving.{saved_last}
use Rattle.linker_section.proofs.saved.last_word_at.Goals as goal

pub returns : goal.returns
returns c =
    let a = c.args in
    let section = a.section.now in
    let rest = take (length section - a.offset) (drop a.offset section) in
    saved_last a.offset c.from_le_bytes.result section (length rest) (λ i. let t = c.type_inv.section i in omega (arith, t))
    (let l = c.if-section-offset.false in omega (arith, l)) c.requires
    (ap length (take_rest section a.offset) ∙ length-drop a.offset section)
    (c.from_le_bytes.ensures ∙ ap (λ xs. from_le_bytes w64 (xs ++ drop (length rest) (replicate 8 0)))
    (c.copy_from_slice.ensures.after ∙ take_rest section a.offset))
