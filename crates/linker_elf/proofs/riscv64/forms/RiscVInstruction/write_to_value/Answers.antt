use Rattle.linker_elf.proofs.Imports.{riscv_form, riscv_restored, window_of}
use Rattle.linker_elf.proofs.RiscV.{riscv_machine, riscv_pair}
use Rattle.linker_elf.proofs.riscv64.forms.RiscVInstruction.write_to_value.Goals as goal

pub returns : goal.returns
returns c =
    let f = c.args.self in
    let v = c.args.extracted_value in
    let neg = c.args.negative in
    let old = window_of (riscv_form f) c.args.dest.now in
    let new = window_of (riscv_form f) c.insert_into.new.dest in
    let small = c.ranges.extracted_value.fits in
    let laid = c.insert_into.ensures.written in
    record {
      written = laid;
      rest = c.insert_into.ensures.rest;
      machine = riscv_machine f v neg old new small laid;
      pair = riscv_pair f v neg old new small laid;
      restored = λ back. c.insert_into.ensures.same (riscv_restored f v neg old new small laid back);
    }
