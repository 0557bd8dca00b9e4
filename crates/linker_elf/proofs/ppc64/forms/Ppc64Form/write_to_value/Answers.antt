use Rattle.linker_elf.proofs.Imports.{ppc64_form, ppc64_restored, window_of}
use Rattle.linker_elf.proofs.Ppc64Forms.{ppc64_machine}
use Rattle.linker_elf.proofs.ppc64.forms.Ppc64Form.write_to_value.Goals as goal

pub returns : goal.returns
returns c =
    let f = c.args.self in
    let v = c.args.extracted_value in
    let neg = c.args.negative in
    let old = window_of (ppc64_form f) c.args.dest.now in
    let new = window_of (ppc64_form f) c.write.new.dest in
    let small = c.ranges.extracted_value.fits in
    let laid = c.write.ensures.written in
    record {
      written = laid;
      rest = c.write.ensures.rest;
      machine = ppc64_machine f v neg old new small laid;
      restored = λ back. c.write.ensures.same (ppc64_restored f v neg old new small laid back);
    }
