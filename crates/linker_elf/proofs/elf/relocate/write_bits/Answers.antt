use Rattle.linker_elf.proofs.Imports.{Fits, FitsSigned, InstructionWritten, ap, bits_at, bits_taken, from_le_bytes, if◌then◌else◌, insn_at, low_part, of_z, relocation_form, subst, sym, to_z, to_z-of_z, value_at, w64, window_of, ◌∙◌, ◌≡◌}
use Rattle.linker_elf.proofs.Relocated.{fits_at, value_fits, window_at, low_fits}
use Rattle.linker_elf.proofs.elf.relocate.write_bits.Goals.{then-is_low_jump, else-is_low_jump}
use Rattle.linker_elf.proofs.elf.relocate.write_bits.Goals as goal

pub write_field-requires-clause-fits : goal.write_field-requires-clause-fits
write_field-requires-clause-fits c =
    let insn = c.args.insn in
    let kind = c.args.kind in
    let bits = c.args.bits in
    let v = c.args.value in
    let x = window_of (relocation_form insn) c.args.dest.now in
    let form : c.written_at-form.result ≡ insn_at insn bits x = c.written_at-form.ensures in
    let number : c.if-is_low_jump.number ≡ (bits_at insn kind bits x, value_at insn kind v x) = elim c.if-is_low_jump.branch [
      | then-is_low_jump w ↦
          let low : w.low_part.result ≡ low_part v = w.low_part.ensures ∙ ap low_part (to_z-of_z w64 v c.ranges.value) in
          w.number-is
          ∙ ap (λ n. (record { start = 2; end = 18 }, n)) (to_z-of_z w64 w.low_part.result (subst (FitsSigned w64) (sym low) (low_fits v)) ∙ low)
          ∙ sym (ap (λ t. (if t then record { start = 2; end = 18 } else bits, if t then low_part v else v)) (sym c.is_low_jump.ensures ∙ w.if-is_low_jump.true))
      | else-is_low_jump w ↦ w.number-is ∙ ap (λ n. (bits, n)) (to_z-of_z w64 v c.ranges.value)
          ∙ sym (ap (λ t. (if t then record { start = 2; end = 18 } else bits, if t then low_part v else v)) (sym c.is_low_jump.ensures ∙ w.if-is_low_jump.false))
    ] in
    let dest = c.args.dest.now in
    let z = value_at insn kind v x in
    let same : window_of (relocation_form (insn_at insn bits x)) dest ≡ x =
    ap (λ w. from_le_bytes w dest) (window_at insn bits x) in
    subst (λ n. Fits (relocation_form c.written_at-form.result) (bits_taken n.0 (to_z w64 (of_z w64 n.1)))
    (window_of (relocation_form c.written_at-form.result) dest)) (sym number)
    (subst (λ f. Fits (relocation_form f) (bits_taken (bits_at insn kind bits x) (to_z w64 (of_z w64 z)))
    (window_of (relocation_form f) dest)) (sym form)
    (subst (λ y. Fits (relocation_form (insn_at insn bits x)) (bits_taken (bits_at insn kind bits x) y)
    (window_of (relocation_form (insn_at insn bits x)) dest))
    (sym (to_z-of_z w64 z (value_fits insn kind v x c.ranges.value)))
    (subst (λ y. Fits (relocation_form (insn_at insn bits x)) (bits_taken (bits_at insn kind bits x) z) y)
    (sym same) (fits_at insn kind bits v x c.requires.fits))))

pub returns : goal.returns
returns c =
    let insn = c.args.insn in
    let kind = c.args.kind in
    let bits = c.args.bits in
    let v = c.args.value in
    let x = window_of (relocation_form insn) c.args.dest.now in
    let form : c.written_at-form.result ≡ insn_at insn bits x = c.written_at-form.ensures in
    let number : c.if-is_low_jump.number ≡ (bits_at insn kind bits x, value_at insn kind v x) = elim c.if-is_low_jump.branch [
      | then-is_low_jump w ↦
          let low : w.low_part.result ≡ low_part v = w.low_part.ensures ∙ ap low_part (to_z-of_z w64 v c.ranges.value) in
          w.number-is
          ∙ ap (λ n. (record { start = 2; end = 18 }, n)) (to_z-of_z w64 w.low_part.result (subst (FitsSigned w64) (sym low) (low_fits v)) ∙ low)
          ∙ sym (ap (λ t. (if t then record { start = 2; end = 18 } else bits, if t then low_part v else v)) (sym c.is_low_jump.ensures ∙ w.if-is_low_jump.true))
      | else-is_low_jump w ↦ w.number-is ∙ ap (λ n. (bits, n)) (to_z-of_z w64 v c.ranges.value)
          ∙ sym (ap (λ t. (if t then record { start = 2; end = 18 } else bits, if t then low_part v else v)) (sym c.is_low_jump.ensures ∙ w.if-is_low_jump.false))
    ] in
    let z = value_at insn kind v x in
    let before = c.args.dest.now in
    let after = c.write_field.new.dest in
    subst (λ f. InstructionWritten f (bits_at insn kind bits x) z before after) form
    (subst (λ y. InstructionWritten c.written_at-form.result (bits_at insn kind bits x) y before after)
    (to_z-of_z w64 z (value_fits insn kind v x c.ranges.value))
    (subst (λ n. InstructionWritten c.written_at-form.result n.0 (to_z w64 (of_z w64 n.1)) before after)
    number c.write_field.ensures))
