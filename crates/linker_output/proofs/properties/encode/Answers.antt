use Rattle.linker_output.proofs.Imports.{Property, [], arith, drop, drop_more, get_or, length, length-append, property_words, subst, ◌++◌, ◌+◌, ◌∷◌, ◌≡◌}
use Rattle.linker_output.proofs.WrittenProperties.{Words, none_yet, one_more, word_count, puts_none, puts_append}
use Rattle.linker_output.proofs.properties.encode.Goals as goal

pub loop-index-init : goal.loop-index-init
loop-index-init c =
    ([], none_yet c.args.architecture c.args.properties.now, omega arith, puts_none 16 c.args.note.now, omega arith)

pub loop-index-preserved : goal.loop-index-preserved
loop-index-preserved c =
    let a = c.args.architecture in
    let ps = c.args.properties.now in
    let l = c.loop-index in
    let i = l.invariant in
    let d : Property = record { kind = 0; value = 0; version = 0 } in
    let p = get_or ps l.index d in
    let rule = c.in_ok-rule.rule in
    let left : Words a ps i.0 l.least l.index (p ∷ drop (l.index + 1) ps) =
    subst (Words a ps i.0 l.least l.index) (drop_more ps l.index d c.loop-index-test.true) i.1 in
    let lens = length-append i.0 (property_words rule p) in
    let few = word_count rule p in
    let same : length l.note ≡ length c.args.note.now = omega arith in (
      i.0 ++ property_words rule p,
      rw c.from-least.ensures (one_more a ps i.0 l.least l.index p rule (drop (l.index + 1) ps) c.in_ok-rule.ensures.ok left),
      omega arith,
      puts_append 16 l.at i.0 (property_words rule p) c.args.note.now l.note c.put_property-at.new.note i.2 same i.3 c.put_property-at.ensures.written,
      omega arith,
    )
