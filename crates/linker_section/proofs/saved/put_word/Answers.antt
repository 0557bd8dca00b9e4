use Rattle.linker_section.proofs.Imports.{ap, ap₂, arith, drop, take, ◌++◌, ◌+◌, ◌-◌, ◌∙◌, ◌≡◌}
use Rattle.linker_section.proofs.Saving.{put_is}
use Rattle.linker_section.proofs.saved.put_word.Goals as goal

pub returns : goal.returns
returns c =
    let a = c.args in
    let minus : a.offset + c.min-len.result - a.offset ≡ c.min-len.result = omega arith in
    ap₂ (λ x n. take a.offset a.section.now ++ (x ++ drop n (drop a.offset a.section.now)))
    (c.copy_from_slice.ensures.after ∙ ap (take c.min-len.result) c.to_le_bytes.ensures) minus
    ∙ put_is a.offset a.word c.min-len.result a.section.now (let l = c.if-section-offset.false in omega (arith, l)) c.min-len.ensures
