use Rattle.linker_section.proofs.Imports.{IsPlainValue, IsRow, IsValueAt, Ok, Some, ap, difference_64, is_low_way, is_offset_way, is_plain_way, known_operands, lacks_known_stub, needs_upper, not, subst, sym, ◌&&◌, ◌∙◌}
use Rattle.linker_section.proofs.QuickValues.{if_some, low_quick, plain_quick}
use Rattle.linker_section.proofs.RowFacts.{says, says_way}
use Rattle.linker_section.proofs.quick.found_value.Goals as goal

pub plain_value-requires-clause-needs : goal.plain_value-requires-clause-needs
plain_value-requires-clause-needs g c =
    let a = c.args in
    says a.architecture a.relocation.now.r_type a.row.now c.requires.row

pub plain_value-requires-clause-plain : goal.plain_value-requires-clause-plain
plain_value-requires-clause-plain g c = ap is_plain_way (sym (ap (λ f. f.way) c.facts.ensures)) ∙ c.has_plain_way.ensures.plain c.if-has_plain_way.true

pub plain_value-requires-clause-way : goal.plain_value-requires-clause-way
plain_value-requires-clause-way g c =
    let a = c.args in
    says_way a.architecture a.relocation.now.r_type a.row.now c.requires.row

pub returns-then-has_plain_way : goal.returns-then-has_plain_way
returns-then-has_plain_way g c =
    let a = c.args in
    let row = a.row.now in
    let known = g.S.Found.Known.known a.known.now in
    let knowledge = g.S.Symbols.knowledge a._symbols in
    let is = c.requires.is in
    let way = says_way a.architecture a.relocation.now.r_type row c.requires.row in
    let said = sym (ap (λ f. f.way) c.facts.ensures) in
    let origin = ap (λ w. is_offset_way w && not a.addresses.now.has_tls) said ∙ c.has_plain_way.ensures.origin c.if-has_plain_way.true in
    let keeps = ap (λ r. lacks_known_stub a.architecture r (Some known)) (sym is) ∙ (sym c.lacks_stub.ensures ∙ c.if-lacks_stub.false) in
    if_some c.plain_value.result
    (λ v value reached. plain_quick a.architecture a.addresses.now a._relocations.now knowledge a._index row v known c.requires.within
    (subst (λ r. IsRow a.architecture r.r_type (Some row)) is c.requires.row) way (ap (knowledge a._index) (sym is) ∙ c.requires.known)
    (sym c.is_left_out.ensures ∙ c.if-is_left_out.false) keeps (ap (λ r. needs_upper a.architecture r v) (sym is) ∙ reached)
    (g.S.Symbols.values a._symbols) (g.met.S.Symbols.are_values a._symbols a.architecture a.addresses.now a._relocations.now a._index (Ok (Some (row, v))))
    (ap is_plain_way said ∙ c.has_plain_way.ensures.plain c.if-has_plain_way.true) origin
    (subst (λ r. IsPlainValue (known_operands a.architecture a.addresses.now row r (Some known)) row v) is value))
    c.plain_value.ensures

pub returns-in-Low : goal.returns-in-Low
returns-in-Low g c =
    let a = c.args in
    let row = a.row.now in
    let known = g.S.Found.Known.known a.known.now in
    let knowledge = g.S.Symbols.knowledge a._symbols in
    let is = c.requires.is in
    let way = says_way a.architecture a.relocation.now.r_type row c.requires.row in
    let keeps = ap (λ r. lacks_known_stub a.architecture r (Some known)) (sym is) ∙ (sym c.lacks_stub.ensures ∙ c.if-lacks_stub.false) in
    if_some c.value_at.result
    (λ v value reached. low_quick a.architecture a.addresses.now a._relocations.now knowledge a._index row v known c.requires.within
    (subst (λ r. IsRow a.architecture r.r_type (Some row)) is c.requires.row) way (ap (knowledge a._index) (sym is) ∙ c.requires.known)
    (sym c.is_left_out.ensures ∙ c.if-is_left_out.false) keeps (ap (λ r. needs_upper a.architecture r v) (sym is) ∙ reached)
    (g.S.Symbols.values a._symbols) (g.met.S.Symbols.are_values a._symbols a.architecture a.addresses.now a._relocations.now a._index (Ok (Some (row, v))))
    (ap is_low_way (sym (ap (λ f. f.way) c.facts.ensures) ∙ c.in-Low.is)) a.high c.requires.high
    (subst (λ s. IsValueAt (difference_64 s.address a.addresses.now.section) a.high v) c.symbol-label.ensures value))
    c.value_at.ensures
