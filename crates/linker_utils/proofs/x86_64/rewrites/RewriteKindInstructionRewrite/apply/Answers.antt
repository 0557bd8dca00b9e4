use Rattle.linker_utils.proofs.Imports.{CanRewrite, ap, rewritten, subst, x86_64_rewrite, ◌∙◌}
use Rattle.linker_utils.proofs.X86Bytes.{keeps_register}
use Rattle.linker_utils.proofs.x86_64.rewrites.RewriteKindInstructionRewrite.apply.Goals as goal

pub returns-clause-register : goal.returns-clause-register
returns-clause-register c = λ is.
    let s = c.args.section.now in
    let o = c.args.offset.now in
    let can = subst (λ k. CanRewrite (x86_64_rewrite k) s o) is c.requires in
    keeps_register s c.rewrite.new.section o can.starts can.ends (c.rewrite.ensures.bytes ∙ ap (λ k. rewritten (x86_64_rewrite k) s o) is)
