use Rattle.linker_section.proofs.Imports.{arith, drop, drop_at, err_from_is_err_and, inr, length, length-append, length-drop, length-take-le, refl, sym, ◌*◌, ◌∙◌, ◌≡◌}
use Rattle.linker_section.proofs.Crels.{in_front}
use Rattle.linker_section.proofs.crel.read_crel.Goals as goal

pub returns-in_err-decode-clause-err : goal.returns-in_err-decode-clause-err
returns-in_err-decode-clause-err c =
    let p = err_from_is_err_and c.from_residual-in_err-decode.result c.from_residual-in_err-decode.ensures.1 in
    rw (p.1, p.2) (inr (
      c.in_ok-header.header,
      sym c.header_of.ensures.is ∙ c.in_ok-header.was,
      inr (omega arith, c.in_err-decode.ensures.err),
    ))

pub returns-in_err-decode-2-clause-err : goal.returns-in_err-decode-2-clause-err
returns-in_err-decode-2-clause-err c =
    let p = err_from_is_err_and c.from_residual-in_err-decode-2.result c.from_residual-in_err-decode-2.ensures.1 in
    rw (p.1, p.2) (inr (
      c.in_ok-header.header,
      sym c.header_of.ensures.is ∙ c.in_ok-header.was,
      inr (omega arith, c.in_err-decode-2.ensures.err),
    ))

pub returns-clause-ok : goal.returns-clause-ok
returns-clause-ok c =
    let n = c.in_ok-header.header.count * 24 in
    let old = c.args.relocations.now in
    let part = c.decode-2.new.relocations in
    let len : length part ≡ n = c.decode-2.ensures.same_length ∙ (length-take-le n old (omega arith)) in
    let a = length-append part (drop n old) in
    let d = length-drop n old in
    record {
      header = c.in_ok-header.header;
      is_header = sym c.header_of.ensures.is ∙ c.in_ok-header.was;
      count = refl;
      has_addends = refl;
      fits = omega arith;
      each = λ k below.
          let w = c.in_ok-decode-2.ensures.ok k below in
          (w.0, w.1, in_front part (drop n old) c.in_ok-header.header.count k len below ∙ w.2 (omega arith));
      rest = drop_at part (drop n old) n len;
      same_length = omega arith;
    }
