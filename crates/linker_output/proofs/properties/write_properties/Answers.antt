use Rattle.linker_output.proofs.Imports.{Puts, [], ap, arith, bytes_of, drop, inr, length, nat_tests, note_words, rules, subst, sym, ◌*◌, ◌++◌, ◌+◌, ◌^◌, ◌∙◌, ◌∷◌, ◌≡◌}
use Rattle.linker_output.proofs.WrittenProperties.{with_header, header_put, empty_note}
use Rattle.linker_output.specs.declared.properties.PropertyError.TheVariants as PropertyError
use Rattle.linker_output.proofs.ReadBack.{read_back, nothing_back}
use Rattle.linker_output.proofs.properties.write_properties.Goals as goal

pub returns-then-is_empty-clause-ok : goal.returns-then-is_empty-clause-ok
returns-then-is_empty-clause-ok c =
    empty_note c.args.architecture c.args.properties.now c.args.note.now (grind (arith, nat_tests))

pub returns-then-note-len-clause-err : goal.returns-then-note-len-clause-err
returns-then-note-len-clause-err c =
    let e = c.in_ok-len.ensures.ok in
    let lens = ap length (with_header c.args.architecture c.args.properties.now e.0 (search rules) e.1) in
    let len : c.in_ok-len.len ≡ 8 * length (note_words e.0) = omega arith in
    inr (inr (e.0, omega arith, e.1, omega arith, ap PropertyError.TooShort len))

pub returns-then-is_empty-clause-read_back : goal.returns-then-is_empty-clause-read_back
returns-then-is_empty-clause-read_back c =
    nothing_back c.args.architecture c.args.properties.now (grind (arith, nat_tests))

pub returns-clause-ok : goal.returns-clause-ok
returns-clause-ok c =
    let ps = c.args.properties.now in
    let before = c.args.note.now in
    let e = c.in_ok-len.ensures.ok in
    let f = c.in_ok-encode.ensures.ok in
    let lists : e.0 ≡ f.0 = cc (e.1, f.1) in
    let same = ap length lists in
    let header = with_header c.args.architecture ps f.0 (search rules) f.1 in
    let lens = ap length header in
    let len : c.in_ok-len.len ≡ 16 + 8 * length f.0 = omega arith in
    let one = c.put_word-name.ensures in
    let first : Puts 0 ((4 + 2 ^ 32 * (8 * length f.0)) ∷ []) c.encode-2.new.note c.put_word-name.new.note =
    subst (λ h. Puts 0 (h ∷ []) c.encode-2.new.note c.put_word-name.new.note) (omega arith) one.written in
    let second : Puts 8 (0x00554e4700000005 ∷ []) c.put_word-name.new.note c.put_word.new.note =
    subst (λ at. Puts at (0x00554e4700000005 ∷ []) c.put_word-name.new.note c.put_word.new.note) one.next c.put_word.ensures.written in
    let l1 : length c.encode-2.new.note ≡ length before = omega arith in
    let l2 : length c.put_word-name.new.note ≡ length before = omega arith in
    let written = header_put (4 + 2 ^ 32 * (8 * length f.0)) 0x00554e4700000005 f.0 before c.encode-2.new.note c.put_word-name.new.note c.put_word.new.note (omega arith) l1 l2 f.3 first second in
    record {
      words = f.0;
      sound = f.1;
      len_is = omega arith;
      within = omega arith;
      written = written ∙ ap (λ n. bytes_of ((4 + 2 ^ 32 * (8 * length f.0)) ∷ 0x00554e4700000005 ∷ f.0) ++ drop n before) (sym len)
          ∙ ap (λ ws. bytes_of ws ++ drop c.in_ok-len.len before) (sym header);
    }

pub returns-clause-read_back : goal.returns-clause-read_back
returns-clause-read_back c =
    read_back c.args.architecture c.args.properties.now c.args.note.now c.put_word.new.note c.in_ok-len.len c.in_ok-encode.ensures.ok.5
    (omega arith) (returns-clause-ok c)
