use Rattle.linker_output.proofs.Imports.{IsPiece, WritesPieces, arith, drop, length, length-take-le, piece_len, pieces_len, refl, rules, subst, sym, take, ◌++◌, ◌+◌, ◌∷◌, ◌≡◌, ◌≤◌}
use Rattle.linker_output.proofs.LazyCode.{placed}
use Rattle.linker_output.proofs.lazy_plt.+write_pieces.Goals as goal

pub returns-clause-ok : goal.returns-clause-ok
returns-clause-ok t c =
    let piece = c.in-Some.piece.now in
    let others = c.in-Some.others.now in
    let out = c.args.out.now in
    let middle = c.write_pieces.new.out in
    let code = c.in_ok-code.code in
    let n = piece_len piece in
    let is : c.args.pieces.now ≡ piece ∷ others = search rules in
    let made : IsPiece c.args.architecture piece c.args.places.now code = c.in_ok-code.ensures.ok in
    let less : c.args.at + (n + pieces_len others) ≤ length out =
    subst (λ ps. c.args.at + pieces_len ps ≤ length out) is c.requires in
    let len : length (take n code) ≡ n = length-take-le n code (let e = made.0 in omega arith) in
    let later : WritesPieces c.args.architecture others c.args.places.now (c.args.at + n) out middle =
    search rules in
    let last : c.overwrite.new.section
    ≡ (take c.args.at middle ++ take n code) ++ drop (c.args.at + length (take n code)) middle =
    search rules in
    subst (λ ps. WritesPieces c.args.architecture ps c.args.places.now c.args.at out c.overwrite.new.section)
    (sym is) (
      take n code ++ later.0,
      (code, later.0, made, later.1, refl),
      placed out middle c.overwrite.new.section (take n code) later.0 c.args.at n (pieces_len others) less len
          later.2 last,
    )
