use Rattle.linker_rewriting.proofs.Imports.{IsHighAt, IsHighFrom, None, inr, subst, sym, word_r_type, ◌∙◌}
use Rattle.linker_rewriting.proofs.toc_indirection.load_of.Goals as goal

pub returns-in_err-word-clause-load : goal.returns-in_err-word-clause-load
returns-in_err-word-clause-load c =
    let words = c.args.words.now.relocations.now in
    rw c.from_residual-in_err-word.ensures (inr (λ up. subst (λ offset. IsHighFrom words word_r_type offset None)
    (sym (sym c.word_offset.ensures ∙ c.in_ok-at.was))
    (subst (λ r_type. IsHighAt words r_type c.in_ok-at.at None) c.r_type-r_type.ensures
    (c.in_err-word.ensures.high up))))
