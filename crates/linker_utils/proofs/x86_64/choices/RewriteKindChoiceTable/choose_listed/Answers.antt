use Rattle.linker_utils.proofs.Imports.{arith, opcode_at, subst, sym, ◌∙◌, ◌≡◌}
use Rattle.linker_utils.proofs.X86Originals.{opcode_is}
use Rattle.linker_utils.proofs.x86_64.choices.RewriteKindChoiceTable.choose_listed.Goals as goal

pub choice_by_opcode-requires-clause-opcode : goal.choice_by_opcode-requires-clause-opcode
choice_by_opcode-requires-clause-opcode c =
    let a = c.args in
    subst (λ name. 0x8b ≡ opcode_at name a.section.now a.offset) (sym c.in-R_X86_64_REX_GOTPCRELX.is)
    (opcode_is a.section.now a.offset 0x8b (λ i. let t = c.type_inv.section i in omega (arith, t))
    (sym c.is_legacy.ensures ∙ c.if-is_legacy.true))
