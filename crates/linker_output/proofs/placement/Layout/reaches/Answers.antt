use Rattle.linker_output.proofs.Imports.{Front, IsTrue, Reaches, ap, arith, at, get_or_read, stub_at, subst, target_place, ◌↔◌, ◌∙◌, ◌≡◌}
use Rattle.linker_output.specs.Placement.{moved}
use Rattle.linker_output.proofs.placement.Layout.reaches.Goals as goal

pub returns : goal.returns
returns c =
    let code = c.args.code.now in
    let self = c.args.self.now in
    let i = c.args.index in
    let one = c.requires.layout.one_each in
    let within = c.requires.within in
    let stub : c.index-stub.result.now ≡ stub_at self.stubs.items i = get_or_read self.stubs.items i c.index-stub.result.now (omega arith) c.index-stub.ensures (record { boundary = 0; part = Front; index = 0; target = 0 }) in
    let place : c.index.result.now ≡ at self.places.items i = get_or_read self.places.items i c.index.result.now (omega arith) c.index.ensures 0 in
    let target : c.moved-target.result ≡ target_place code self.before.items (stub_at self.stubs.items i).target =
    c.moved-target.ensures ∙ ap (λ b. moved code.boundaries.now b (at code.targets.now c.index-stub.result.now.target)) c.deref.ensures.value ∙ ap (λ s. target_place code self.before.items s.target) stub in
    subst (λ p. IsTrue c.reaches.result ↔ Reaches code.shape.max_backward code.shape.max_forward p (target_place code self.before.items (stub_at self.stubs.items i).target)) place
    (subst (λ t. IsTrue c.reaches.result ↔ Reaches code.shape.max_backward code.shape.max_forward c.index.result.now t) target c.reaches.ensures)
