use Rattle.linkfix.proofs.Imports.{IfOk-weaker, Some, ap, arith, decoded_hex, ◌≡◌}
use Rattle.std.specs.Result.{result_ok}
use Rattle.std.specs.String.{string_bytes}
use Rattle.hex.specs.Hex.{IsBytes, encode_lower}
use Rattle.hex.proofs.HexLemmas.{decode_of-encode_lower}
use Rattle.linkfix.proofs.sections.show_section.Goals as goal

pub returns-clause-read_back : goal.returns-clause-read_back
returns-clause-read_back c =
    let fits : IsBytes c.args.section.now = λ i. let f = c.type_inv.section i in omega arith in
    let back : decoded_hex (encode_lower c.args.section.now) ≡ Some c.args.section.now = ap result_ok (decode_of-encode_lower c.args.section.now fits) in
    IfOk-weaker c.encode.result (λ text. string_bytes text ≡ encode_lower c.args.section.now) (λ text. decoded_hex (string_bytes text) ≡ Some c.args.section.now)
    (λ text h. rw h back) c.encode.ensures
