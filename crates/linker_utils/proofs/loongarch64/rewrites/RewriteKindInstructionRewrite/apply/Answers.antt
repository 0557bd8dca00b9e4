use Rattle.linker_utils.proofs.Imports.{arith, drop, from_le_bytes, inl, inr, take, w32, ◌-◌, ◌∙◌}
use Rattle.linker_utils.proofs.LoongArchRows.{over_tp}
use Rattle.linker_utils.proofs.RewriteRows.{one_word}
use Rattle.linker_utils.proofs.loongarch64.rewrites.RewriteKindInstructionRewrite.apply.Goals as goal

pub returns-in-BaseToTp-clause-bytes : goal.returns-in-BaseToTp-clause-bytes
returns-in-BaseToTp-clause-bytes c =
    let s = c.args.section.now in
    let o = c.args.offset.now - 0 in
    let made = c.apply-in-BaseToTp.ensures in
    rw c.in-BaseToTp.is
    (made.edited
    ∙ one_word s o _ _ (over_tp (from_le_bytes w32 (take 4 (drop o s))) (elim made.word [ inl less ↦ absurd (omega (arith, less)) | inr small ↦ small ])))
