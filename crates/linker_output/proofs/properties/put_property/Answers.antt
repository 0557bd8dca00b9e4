use Rattle.linker_output.proofs.Imports.{Puts, [], ap, arith, length, size_of, subst, sym, value_words, ◌*◌, ◌+◌, ◌^◌, ◌∷◌, ◌≡◌}
use Rattle.linker_output.proofs.WrittenProperties.{puts_append, other_words}
use Rattle.linker_output.proofs.properties.put_property.Goals as goal

pub returns-in-Same-clause-written : goal.returns-in-Same-clause-written
returns-in-Same-clause-written c =
    let p = c.args.property.now in
    let before = c.args.note.now in
    let one = c.put_word-value.ensures in
    let two = c.put_word-version.ensures in
    let three = c.put_word.ensures in
    let head = p.kind + 2 ^ 32 * size_of c.args.rule in
    let same = c.size.ensures.exact in
    let first : Puts c.args.at (head ∷ []) before c.put_word-value.new.note = subst (λ h. Puts c.args.at (h ∷ []) before c.put_word-value.new.note) (omega (arith, c.from.ensures)) one.written in
    let l2 : length c.put_word-version.new.note ≡ length before = omega arith in
    let front = puts_append c.args.at c.put_word-value.result (head ∷ []) (p.value ∷ []) before c.put_word-value.new.note c.put_word-version.new.note one.next (omega arith) first two.written in
    let all = puts_append c.args.at c.put_word-version.result (head ∷ p.value ∷ []) (p.version ∷ []) before c.put_word-version.new.note c.put_word.new.note (omega arith) l2 front three.written in
    subst (λ r. Puts c.args.at ((p.kind + 2 ^ 32 * size_of c.args.rule) ∷ value_words r p) before c.put_word.new.note) (sym c.in-Same.is) all

pub returns-in_default : goal.returns-in_default
returns-in_default c =
    let p = c.args.property.now in
    let before = c.args.note.now in
    let one = c.put_word-value.ensures in
    let two = c.put_word-in_default.ensures in
    let head = p.kind + 2 ^ 32 * size_of c.args.rule in
    let first : Puts c.args.at (head ∷ []) before c.put_word-value.new.note = subst (λ h. Puts c.args.at (h ∷ []) before c.put_word-value.new.note) (omega (arith, c.from.ensures)) one.written in
    let l1 : length c.put_word-value.new.note ≡ length before = omega arith in
    let front = puts_append c.args.at c.put_word-value.result (head ∷ []) (p.value ∷ []) before c.put_word-value.new.note c.put_word-in_default.new.note one.next l1 first two.written in
    let words = other_words c.args.rule p c.in_default.not-Present c.in_default.not-Same in
    record {
      written = subst (λ ws. Puts c.args.at ws before c.put_word-in_default.new.note) (sym words) front;
      next = omega (arith, c.size.ensures.exact, ap length words);
    }
