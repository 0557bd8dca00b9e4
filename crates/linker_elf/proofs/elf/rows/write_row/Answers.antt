use Rattle.linker_elf.proofs.Imports.{InstructionWritten, IsAligned, IsWritten, arith, info_of, ints, is_plain, length, rules, subst, sym, to_z-of_z, true, w64, ◌≡◌, ◌≤ℤ◌, ◌≤◌}
use Rattle.linker_elf.proofs.PlainRows.{accepted_by, all_by, stored, takes, written}
use Rattle.linker_elf.proofs.WrittenRows.{writes_row}
use Rattle.linker_elf.proofs.elf.rows.write_row.Goals as goal

pub has_no_bits-requires-clause-unit : goal.has_no_bits-requires-clause-unit
has_no_bits-requires-clause-unit c =
    let entry = c.args.entry.now in
    (takes (info_of entry) (all_by entry c.requires c.if-not-tests.false)).unit

pub returns-in-4-clause-ok : goal.returns-in-4-clause-ok
returns-in-4-clause-ok c =
    let entry = c.args.entry.now in
    let v = c.args.value in
    let bytes = c.args.dest.now in
    let long : entry.tests.window ≤ length bytes = omega (arith, c.if-dest-tests.false) in
    let low : entry.tests.least ≤ℤ v = omega (arith, ints, c.if-value-tests.false) in
    let high : v ≤ℤ entry.tests.last = omega (arith, ints, c.if-tests-value.false) in
    let aligned : IsAligned entry.numbers.alignment v = subst (IsAligned entry.numbers.alignment) (to_z-of_z w64 v c.ranges.value) (c.has_no_bits.ensures.0 c.if-not-has_no_bits.false) in
    writes_row (info_of entry) v bytes c.store.new.bytes c.ranges.value
    (accepted_by entry v bytes c.ranges.value c.requires c.if-not-tests.false long aligned low high)
    (stored entry 4 c.cast_unsigned.result v bytes c.store.new.bytes c.requires c.in-4.is (omega arith) (search rules) c.store.ensures)

pub returns-in-8-clause-ok : goal.returns-in-8-clause-ok
returns-in-8-clause-ok c =
    let entry = c.args.entry.now in
    let v = c.args.value in
    let bytes = c.args.dest.now in
    let long : entry.tests.window ≤ length bytes = omega (arith, c.if-dest-tests.false) in
    let low : entry.tests.least ≤ℤ v = omega (arith, ints, c.if-value-tests.false) in
    let high : v ≤ℤ entry.tests.last = omega (arith, ints, c.if-tests-value.false) in
    let aligned : IsAligned entry.numbers.alignment v = subst (IsAligned entry.numbers.alignment) (to_z-of_z w64 v c.ranges.value) (c.has_no_bits.ensures.0 c.if-not-has_no_bits.false) in
    writes_row (info_of entry) v bytes c.store-in-8.new.bytes c.ranges.value
    (accepted_by entry v bytes c.ranges.value c.requires c.if-not-tests.false long aligned low high)
    (stored entry 8 c.cast_unsigned-in-8.result v bytes c.store-in-8.new.bytes c.requires c.in-8.is (omega arith) (search rules) c.store-in-8.ensures)

pub returns-in-Some-clause-ok : goal.returns-in-Some-clause-ok
returns-in-Some-clause-ok c =
    let entry = c.args.entry.now in
    let v = c.args.value in
    let bytes = c.args.dest.now in
    let long : entry.tests.window ≤ length bytes = omega (arith, c.if-dest-tests.false) in
    let low : entry.tests.least ≤ℤ v = omega (arith, ints, c.if-value-tests.false) in
    let high : v ≤ℤ entry.tests.last = omega (arith, ints, c.if-tests-value.false) in
    let aligned : IsAligned entry.numbers.alignment v = subst (IsAligned entry.numbers.alignment) (to_z-of_z w64 v c.ranges.value) (c.has_no_bits.ensures.0 c.if-not-has_no_bits.false) in
    writes_row (info_of entry) v bytes c.write_planned.new.dest c.ranges.value
    (accepted_by entry v bytes c.ranges.value c.requires c.if-not-tests.false long aligned low high)
    (subst (λ z. IsWritten entry.size entry.kind z bytes c.write_planned.new.dest) (to_z-of_z w64 v c.ranges.value) c.write_planned.ensures)

pub returns-in-Some-2-clause-ok : goal.returns-in-Some-2-clause-ok
returns-in-Some-2-clause-ok c =
    let entry = c.args.entry.now in
    let v = c.args.value in
    let bytes = c.args.dest.now in
    let long : entry.tests.window ≤ length bytes = omega (arith, c.if-dest-tests.false) in
    let low : entry.tests.least ≤ℤ v = omega (arith, ints, c.if-value-tests.false) in
    let high : v ≤ℤ entry.tests.last = omega (arith, ints, c.if-tests-value.false) in
    let aligned : IsAligned entry.numbers.alignment v = subst (IsAligned entry.numbers.alignment) (to_z-of_z w64 v c.ranges.value) (c.has_no_bits.ensures.0 c.if-not-has_no_bits.false) in
    writes_row (info_of entry) v bytes c.write_planned-in-Some-2.new.dest c.ranges.value
    (accepted_by entry v bytes c.ranges.value c.requires c.if-not-tests.false long aligned low high)
    (subst (λ z. IsWritten entry.size entry.kind z bytes c.write_planned-in-Some-2.new.dest) (to_z-of_z w64 v c.ranges.value) c.write_planned-in-Some-2.ensures)

pub returns-in-BitMasking-clause-ok : goal.returns-in-BitMasking-clause-ok
returns-in-BitMasking-clause-ok c =
    let entry = c.args.entry.now in
    let v = c.args.value in
    let bytes = c.args.dest.now in
    let long : entry.tests.window ≤ length bytes = omega (arith, c.if-dest-tests.false) in
    let low : entry.tests.least ≤ℤ v = omega (arith, ints, c.if-value-tests.false) in
    let high : v ≤ℤ entry.tests.last = omega (arith, ints, c.if-tests-value.false) in
    let aligned : IsAligned entry.numbers.alignment v = subst (IsAligned entry.numbers.alignment) (to_z-of_z w64 v c.ranges.value) (c.has_no_bits.ensures.0 c.if-not-has_no_bits.false) in
    let range = c.in-BitMasking.range in
    let insn = c.in-BitMasking.insn in
    let after = c.write_field.new.dest in
    let plain = (takes (info_of entry) (all_by entry c.requires c.if-not-tests.false)).plain in
    writes_row (info_of entry) v bytes after c.ranges.value
    (accepted_by entry v bytes c.ranges.value c.requires c.if-not-tests.false long aligned low high)
    (subst (λ s. IsWritten s entry.kind v bytes after) (sym c.in-BitMasking.is)
    (written range insn entry.kind v bytes after (subst (λ s. is_plain s entry.kind ≡ true) c.in-BitMasking.is plain)
    (subst (λ n. InstructionWritten insn range n bytes after) (to_z-of_z w64 v c.ranges.value) c.write_field.ensures)))

pub returns-in_default-size-clause-ok : goal.returns-in_default-size-clause-ok
returns-in_default-size-clause-ok c =
    let entry = c.args.entry.now in
    let v = c.args.value in
    let bytes = c.args.dest.now in
    let long : entry.tests.window ≤ length bytes = omega (arith, c.if-dest-tests.false) in
    let low : entry.tests.least ≤ℤ v = omega (arith, ints, c.if-value-tests.false) in
    let high : v ≤ℤ entry.tests.last = omega (arith, ints, c.if-tests-value.false) in
    let aligned : IsAligned entry.numbers.alignment v = subst (IsAligned entry.numbers.alignment) (to_z-of_z w64 v c.ranges.value) (c.has_no_bits.ensures.0 c.if-not-has_no_bits.false) in
    writes_row (info_of entry) v bytes c.write_plain.new.dest c.ranges.value
    (accepted_by entry v bytes c.ranges.value c.requires c.if-not-tests.false long aligned low high)
    (subst (λ z. IsWritten entry.size entry.kind z bytes c.write_plain.new.dest) (to_z-of_z w64 v c.ranges.value) c.write_plain.ensures)
