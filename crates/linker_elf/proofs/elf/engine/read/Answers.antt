use Rattle.linker_elf.proofs.Imports.{ap, cast_unsigned, from_le_bytes, leb, place_sum, reads, relocation_form, sym, true, w64, width_of, window_of, ◌∙◌, ◌≡◌}
use Rattle.linker_elf.proofs.Codes.{coded, plain_reads}
use Rattle.linker_elf.proofs.ReadNumbers.{value_of}
use Rattle.linker_elf.proofs.elf.engine.read.Goals.{After-number_in-number}
use Rattle.linker_elf.proofs.elf.engine.read.Goals as goal

number : (c : After-number_in-number) → c.number_in-number.result ≡ place_sum ((relocation_form c.args._insn).places 0) c.load.result
number c =
    let f = c.args._insn in
    let fits : reads c.args.steps.now ((relocation_form f).places 0) ≡ true = rw c.requires.steps (plain_reads f c.requires.plain) in
    c.number_in-number.ensures ((relocation_form f).places 0) fits

window : (c : After-number_in-number) → c.load.result ≡ window_of (relocation_form c.args._insn) c.args.bytes.now
window c =
    c.load.ensures.loaded
    ∙ sym (ap (λ w. from_le_bytes w c.args.bytes.now)
    ((coded c.args._insn c.requires.plain).width ∙ ap (λ e. width_of e.window) (sym c.requires.code)))

pub returns-clause-number : goal.returns-clause-number
returns-clause-number c =
    let f = c.args._insn in
    ap (value_of c.args.code.now) (number c)
    ∙ ap (λ e. value_of e (place_sum ((relocation_form f).places 0) c.load.result)) c.requires.code
    ∙ (coded f c.requires.plain).value c.load.result
    ∙ ap (λ x. cast_unsigned w64 ((relocation_form f).reading x)) (window c)

pub returns-clause-flag : goal.returns-clause-flag
returns-clause-flag c =
    let f = c.args._insn in
    ap (leb c.args.code.now.flag) (number c)
    ∙ ap (λ e. leb e.flag (place_sum ((relocation_form f).places 0) c.load.result)) c.requires.code
    ∙ (coded f c.requires.plain).flag c.load.result
    ∙ ap (relocation_form f).flag (window c)
