use Rattle.linker_elf.proofs.Imports.{loongarch_form, loongarch_restored, window_of}
use Rattle.linker_elf.proofs.LoongArch.{loongarch_machine, loongarch_low, loongarch_reaches}
use Rattle.linker_elf.proofs.loongarch64.forms.LoongArch64Instruction.write_to_value.Goals as goal

pub returns : goal.returns
returns c =
    let f = c.args.self in
    let v = c.args.extracted_value in
    let neg = c.args.negative in
    let old = window_of (loongarch_form f) c.args.dest.now in
    let new = window_of (loongarch_form f) c.write.new.dest in
    let small = c.ranges.extracted_value.fits in
    let laid = c.write.ensures.written in
    record {
      written = laid;
      rest = c.write.ensures.rest;
      machine = loongarch_machine f v neg old new small c.requires.fits laid;
      low = loongarch_low f v neg old new small laid;
      reaches = loongarch_reaches f v neg old new small laid;
      restored = λ back. c.write.ensures.same (loongarch_restored f v neg old new small laid back);
    }
