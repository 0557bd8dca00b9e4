use Rattle.linker_utils.proofs.Imports.{List, arith, drop, from_le_bytes, inl, inr, refl, take, w16, w32, ℕ, ◌-◌, ◌∙◌}
use Rattle.linker_utils.proofs.RewriteRows.{kept_field, one_half, one_word, word_alone}
use Rattle.linker_utils.proofs.RiscVRewrites.{of_load, over_rs1, without_rs1}
use Rattle.linker_utils.proofs.riscv64.rewrites.RewriteKindInstructionRewrite.apply.Goals as goal

abbrev word : List ℕ → ℕ → ℕ
word s o = from_le_bytes w32 (take 4 (drop o s))

abbrev half : List ℕ → ℕ → ℕ
half s o = from_le_bytes w16 (take 2 (drop o s))

pub returns-in-CallToJal-clause-bytes : goal.returns-in-CallToJal-clause-bytes
returns-in-CallToJal-clause-bytes c =
    let s = c.args.section.now in
    let o = c.args.offset.now - 0 in
    rw c.in-CallToJal.is (c.apply-in-CallToJal.ensures.edited ∙ one_word s o _ _ (kept_field 7 5 0x6f (word s o) refl))

pub returns-in-Hi20ToCLui-clause-bytes : goal.returns-in-Hi20ToCLui-clause-bytes
returns-in-Hi20ToCLui-clause-bytes c =
    let s = c.args.section.now in
    let o = c.args.offset.now - 0 in
    rw c.in-Hi20ToCLui.is (c.apply-in-Hi20ToCLui.ensures.edited ∙ one_half s o _ _ (kept_field 7 5 0x6001 (half s o) refl))

pub returns-in-Lo12Rs1ToZero-clause-bytes : goal.returns-in-Lo12Rs1ToZero-clause-bytes
returns-in-Lo12Rs1ToZero-clause-bytes c =
    let s = c.args.section.now in
    let o = c.args.offset.now - 0 in
    rw c.in-Lo12Rs1ToZero.is (c.apply-in-Lo12Rs1ToZero.ensures.edited ∙ one_word s o _ _ (without_rs1 (word s o) (elim c.apply-in-Lo12Rs1ToZero.ensures.word [ inl less ↦ absurd (omega (arith, less)) | inr small ↦ small ])))

pub returns-in-BaseToTp-clause-bytes : goal.returns-in-BaseToTp-clause-bytes
returns-in-BaseToTp-clause-bytes c =
    let s = c.args.section.now in
    let o = c.args.offset.now - 0 in
    rw c.in-BaseToTp.is (c.apply-in-BaseToTp.ensures.edited ∙ one_word s o _ _ (over_rs1 4 (word s o) (elim c.apply-in-BaseToTp.ensures.word [ inl less ↦ absurd (omega (arith, less)) | inr small ↦ small ]) refl))

pub returns-in-LdToAddi-clause-bytes : goal.returns-in-LdToAddi-clause-bytes
returns-in-LdToAddi-clause-bytes c =
    let s = c.args.section.now in
    let o = c.args.offset.now - 0 in
    rw c.in-LdToAddi.is (c.apply-in-LdToAddi.ensures.edited ∙ one_word s o _ _ (of_load (word s o)))

pub returns-in-CLuiToCLi-clause-bytes : goal.returns-in-CLuiToCLi-clause-bytes
returns-in-CLuiToCLi-clause-bytes c =
    let s = c.args.section.now in
    let o = c.args.offset.now - 0 in
    rw c.in-CLuiToCLi.is (c.apply-in-CLuiToCLi.ensures.edited ∙ one_half s o _ _ (kept_field 7 5 0x4001 (half s o) refl))

pub returns-in-AuipcToLui-clause-bytes : goal.returns-in-AuipcToLui-clause-bytes
returns-in-AuipcToLui-clause-bytes c =
    let s = c.args.section.now in
    let o = c.args.offset.now - 0 in
    rw c.in-AuipcToLui.is (c.apply-in-AuipcToLui.ensures.edited ∙ one_word s o _ _ (kept_field 7 5 0x37 (word s o) refl))

pub returns-in-LdToAddiZero-clause-bytes : goal.returns-in-LdToAddiZero-clause-bytes
returns-in-LdToAddiZero-clause-bytes c =
    let s = c.args.section.now in
    let o = c.args.offset.now - 0 in
    rw c.in-LdToAddiZero.is (c.apply-in-LdToAddiZero.ensures.edited ∙ one_word s o _ _ (kept_field 7 5 0x13 (word s o) refl))

pub returns-in-ReplaceWithNop-clause-bytes : goal.returns-in-ReplaceWithNop-clause-bytes
returns-in-ReplaceWithNop-clause-bytes c =
    rw c.in-ReplaceWithNop.is (c.apply-in-ReplaceWithNop.ensures.edited ∙ word_alone 0x00010001 c.args.section.now (c.args.offset.now - 0))

pub returns-in-TailToJal-clause-bytes : goal.returns-in-TailToJal-clause-bytes
returns-in-TailToJal-clause-bytes c =
    rw c.in-TailToJal.is (c.apply-in-TailToJal.ensures.edited ∙ word_alone 0x6f c.args.section.now (c.args.offset.now - 0))

pub returns-in-ReplaceWithLongNop-clause-bytes : goal.returns-in-ReplaceWithLongNop-clause-bytes
returns-in-ReplaceWithLongNop-clause-bytes c =
    rw c.in-ReplaceWithLongNop.is (c.apply-in-ReplaceWithLongNop.ensures.edited ∙ word_alone 0x13 c.args.section.now (c.args.offset.now - 0))

pub returns-in-AddiToLui-clause-bytes : goal.returns-in-AddiToLui-clause-bytes
returns-in-AddiToLui-clause-bytes c =
    rw c.in-AddiToLui.is (c.apply-in-AddiToLui.ensures.edited ∙ word_alone 0x537 c.args.section.now (c.args.offset.now - 0))

pub returns-in-AddiToAuipc-clause-bytes : goal.returns-in-AddiToAuipc-clause-bytes
returns-in-AddiToAuipc-clause-bytes c =
    rw c.in-AddiToAuipc.is (c.apply-in-AddiToAuipc.ensures.edited ∙ word_alone 0x517 c.args.section.now (c.args.offset.now - 0))

pub returns-in-CallToAddi-clause-bytes : goal.returns-in-CallToAddi-clause-bytes
returns-in-CallToAddi-clause-bytes c =
    rw c.in-CallToAddi.is (c.apply-in-CallToAddi.ensures.edited ∙ word_alone 0x00050513 c.args.section.now (c.args.offset.now - 0))

pub returns-in-CallToAddiZero-clause-bytes : goal.returns-in-CallToAddiZero-clause-bytes
returns-in-CallToAddiZero-clause-bytes c =
    rw c.in-CallToAddiZero.is (c.apply-in-CallToAddiZero.ensures.edited ∙ word_alone 0x513 c.args.section.now (c.args.offset.now - 0))

pub returns-in-CallToLd-clause-bytes : goal.returns-in-CallToLd-clause-bytes
returns-in-CallToLd-clause-bytes c =
    rw c.in-CallToLd.is (c.apply-in-CallToLd.ensures.edited ∙ word_alone 0x00053503 c.args.section.now (c.args.offset.now - 0))
