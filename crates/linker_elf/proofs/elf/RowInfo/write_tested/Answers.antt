use Rattle.linker_elf.proofs.Imports.{IsEncoded, IsReached, IsTrue, IsWithin, false, reach_of, refl, rules, subst, to_z-of_z, w64, ◌↔◌, ◌≡◌}
use Rattle.linker_elf.proofs.Reached.{accepts}
use Rattle.linker_elf.proofs.WrittenRows.{writes_row}
use Rattle.linker_elf.proofs.elf.RowInfo.write_tested.Goals as goal

pub returns-in-BitMasking-clause-ok : goal.returns-in-BitMasking-clause-ok
returns-in-BitMasking-clause-ok c =
    let row = c.args.self.now in
    let v = c.args.value in
    let tells = subst (λ z. IsTrue c.is_reached.result ↔ (IsWithin (reach_of row) z × IsEncoded row.size z)) (to_z-of_z w64 v c.ranges.value) c.is_reached.ensures in
    let within : IsWithin (reach_of row) v × IsEncoded row.size v = tells.0 (search rules) in
    let accepted = accepts row v c.args.dest.now c.requires.fits (search rules) (search rules) (search rules) within.0 within.1 in
    writes_row row v c.args.dest.now c.write_bits.new.dest c.ranges.value accepted (rw c.in-BitMasking.is (search rules))

pub returns-in-ByteSize-clause-ok : goal.returns-in-ByteSize-clause-ok
returns-in-ByteSize-clause-ok c =
    let row = c.args.self.now in
    let v = c.args.value in
    let tells = subst (λ z. IsTrue c.is_reached.result ↔ (IsWithin (reach_of row) z × IsEncoded row.size z)) (to_z-of_z w64 v c.ranges.value) c.is_reached.ensures in
    let within : IsWithin (reach_of row) v × IsEncoded row.size v = tells.0 (search rules) in
    let accepted = accepts row v c.args.dest.now c.requires.fits (search rules) (search rules) (search rules) within.0 within.1 in
    writes_row row v c.args.dest.now c.write_number.new.dest c.ranges.value accepted (rw c.in-ByteSize.is (search rules))

pub returns-then-not-is_reached-clause-err : goal.returns-then-not-is_reached-clause-err
returns-then-not-is_reached-clause-err c =
    let row = c.args.self.now in
    let v = c.args.value in
    let tells = subst (λ z. IsTrue c.is_reached.result ↔ (IsWithin (reach_of row) z × IsEncoded row.size z)) (to_z-of_z w64 v c.ranges.value) c.is_reached.ensures in
    let cause : IsReached row v c.args.dest.now → ⊥ = λ reached.
    let yes : IsTrue c.is_reached.result = tells.1 (reached.0, reached.2) in
    let no : c.is_reached.result ≡ false = c.if-not-is_reached.true in
    cc in
    ((search rules, search rules, search rules, cause), refl)
