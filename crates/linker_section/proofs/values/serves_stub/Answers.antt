use Rattle.linker_section.proofs.Imports.{ap, false, pos, ◌∙◌}
use Rattle.linker_section.proofs.values.serves_stub.Goals as goal

pub returns : goal.returns
returns c =
    ap (λ f. f.may_use_stub) c.facts.ensures ∙ ap (λ r. r.may_use_stub) (c.requires (pos 0) false)
