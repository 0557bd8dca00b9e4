use Rattle.linker_elf.proofs.Imports.{AArch64, LoongArch64, Ppc64, RiscV, arith, is_32_bit_move, loongarch_form, ppc64_form, refl, riscv_form, sym, to_z-of_z, w64, window_of, with_bit_31_if, ◌∙◌, ◌≡◌}
use Rattle.linker_elf.proofs.AArch64Forms.{is_word}
use Rattle.linker_elf.proofs.Clearing.{nothing_written}
use Rattle.linker_elf.proofs.Placed.{bit_31_is_set, of_value}
use Rattle.linker_elf.proofs.elf.relocate.write_field.Goals.{then-is_32_bit_move, else-is_32_bit_move}
use Rattle.linker_elf.proofs.elf.relocate.write_field.Goals as goal

pub overflow_sub-new : goal.overflow_sub-new
overflow_sub-new c =
    bit_31_is_set c.in-AArch64.insn _ _ c.load-old.result c.clear_immediate.result c.word_with-word.result
    (sym c.is_32_bit_move.ensures ∙ c.if-is_32_bit_move.true) c.word_with-word.ensures.written

pub returns-after-is_32_bit_move : goal.returns-after-is_32_bit_move
returns-after-is_32_bit_move c =
    let f = c.in-AArch64.insn in
    let old = c.load-old.result in
    let word = c.word_with-word.result in
    let size : with_bit_31_if (is_32_bit_move (AArch64 f) old) c.if-is_32_bit_move.new ≡ word = elim c.if-is_32_bit_move.branch [
      | then-is_32_bit_move w ↦
          let set = bit_31_is_set f _ _ old c.clear_immediate.result word (sym c.is_32_bit_move.ensures ∙ w.if-is_32_bit_move.true)
          c.word_with-word.ensures.written in
          rw (sym c.is_32_bit_move.ensures, w.if-is_32_bit_move.true, w.new-is) (omega arith)
      | else-is_32_bit_move w ↦ rw (sym c.is_32_bit_move.ensures, w.if-is_32_bit_move.false, w.new-is) refl
    ] in
    rw c.in-AArch64.is (record {
      clear = c.clear_immediate.result;
      clears = rw (is_word f, sym c.load-old.ensures.loaded) c.clear_immediate.ensures.clears;
      written = rw (is_word f, sym c.load-old.ensures.loaded, c.store.ensures.stored, size)
          (of_value (AArch64 f) c.args.bits c.args.value _ c.taken_bits-number.result old c.clear_immediate.result word
          c.taken_bits-number.ensures (to_z-of_z w64 c.args.value c.ranges.value) c.word_with-word.ensures.written);
      rest = rw (is_word f) c.store.ensures.rest;
    })

pub returns-in-RiscV : goal.returns-in-RiscV
returns-in-RiscV c =
    let f = c.in-RiscV.insn in
    let old = window_of (riscv_form f) c.args.dest.now in
    rw c.in-RiscV.is (record {
      clear = old;
      clears = nothing_written 0 old;
      written = of_value (RiscV f) c.args.bits c.args.value _ c.taken_bits-number.result old old (window_of (riscv_form f) c.write_to_value.new.dest)
          c.taken_bits-number.ensures (to_z-of_z w64 c.args.value c.ranges.value) c.write_to_value.ensures.written;
      rest = c.write_to_value.ensures.rest;
    })

pub returns-in-Ppc64 : goal.returns-in-Ppc64
returns-in-Ppc64 c =
    let f = c.in-Ppc64.insn in
    let old = window_of (ppc64_form f) c.args.dest.now in
    let new = window_of (ppc64_form f) c.write_to_value-in-Ppc64.new.dest in
    rw c.in-Ppc64.is (record {
      clear = old;
      clears = nothing_written 0 old;
      written = of_value (Ppc64 f) c.args.bits c.args.value _ c.taken_bits-number.result old old new
          c.taken_bits-number.ensures (to_z-of_z w64 c.args.value c.ranges.value)
          (rw (sym c.number_placed-number.ensures) c.write_to_value-in-Ppc64.ensures.written);
      rest = c.write_to_value-in-Ppc64.ensures.rest;
    })

pub returns-in-LoongArch64 : goal.returns-in-LoongArch64
returns-in-LoongArch64 c =
    let f = c.in-LoongArch64.insn in
    let clear = window_of (loongarch_form f) c.clear_immediate-in-LoongArch64.new.dest in
    rw c.in-LoongArch64.is (record {
      clear = clear;
      clears = c.clear_immediate-in-LoongArch64.ensures.clears;
      written = of_value (LoongArch64 f) c.args.bits c.args.value _ c.taken_bits-number.result clear clear
          (window_of (loongarch_form f) c.write_to_value-in-LoongArch64.new.dest)
          c.taken_bits-number.ensures (to_z-of_z w64 c.args.value c.ranges.value) c.write_to_value-in-LoongArch64.ensures.written;
      rest = c.write_to_value-in-LoongArch64.ensures.rest ∙ c.clear_immediate-in-LoongArch64.ensures.rest;
    })
