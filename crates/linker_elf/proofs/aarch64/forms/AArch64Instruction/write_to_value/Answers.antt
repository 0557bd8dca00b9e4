use Rattle.linker_elf.proofs.Imports.{IsReadBack, aarch64_form, aarch64_restored, rules, subst, sym, ◌∙◌}
use Rattle.linker_elf.proofs.AArch64Forms.{aarch64_machine, is_word}
use Rattle.linker_elf.proofs.aarch64.forms.AArch64Instruction.write_to_value.Goals as goal

pub returns : goal.returns
returns c =
    let f = c.args.self in
    let v = c.args.extracted_value in
    let neg = c.args.negative in
    let laid = c.word_with-word.ensures.written in
    let is = c.load.ensures.loaded in
    rw (is_word f) (record {
      written = rw (sym is, c.store.ensures.stored) laid;
      rest = c.store.ensures.rest;
      machine = rw (sym is, c.store.ensures.stored)
          (aarch64_machine f v neg c.load.result c.word_with-word.result c.ranges.extracted_value.fits (search rules) laid);
      restored = λ back. c.store.ensures.same
          (aarch64_restored f v neg c.load.result c.word_with-word.result c.ranges.extracted_value.fits laid
          (subst (IsReadBack (aarch64_form f) v neg) (sym is) back) ∙ is);
    })
