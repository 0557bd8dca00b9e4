use Rattle.linker_elf.proofs.Imports.{ap, sym, width_of, ◌∙◌}
use Rattle.linker_elf.proofs.Codes.{coded, plain_laid, plain_below}
use Rattle.linker_elf.proofs.elf.engine.write.Goals as goal

pub store-requires-clause-fits : goal.store-requires-clause-fits
store-requires-clause-fits c =
    let f = c.args._insn in
    let laid = plain_laid f c.requires.plain c.args.code.now c.args.steps.now c.args.value c.load.result c.window_with-window.result c.requires.code c.requires.steps
    c.window_with-window.ensures c.load.ensures.small in
    plain_below f c.requires.plain c.args.code.now c.args.value c.load.result c.window_with-window.result c.requires.code laid c.load.ensures.small

pub returns-clause-written : goal.returns-clause-written
returns-clause-written c =
    let f = c.args._insn in
    let k = coded f c.requires.plain in
    let laid = plain_laid f c.requires.plain c.args.code.now c.args.steps.now c.args.value c.load.result c.window_with-window.result c.requires.code c.requires.steps
    c.window_with-window.ensures c.load.ensures.small in
    let w = k.width ∙ ap (λ e. width_of e.window) (sym c.requires.code) in
    rw (w, sym c.load.ensures.loaded, c.store.ensures.stored)
    (k.written c.args.value c.args._negative c.load.result c.window_with-window.result laid)
