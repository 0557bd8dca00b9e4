use Rattle.linker_utils_c.proofs.Imports.{None, Some, arith, length, refl, slice_get, slice_get_past, slice_get_read, sym, ◌∙◌, ◌≡◌}
use Rattle.linker_utils_c.proofs.routes.route_at.Goals as goal

pub returns-in_default-get : goal.returns-in_default-get
returns-in_default-get c =
    let symbols = c.args.symbols.now in
    let none : slice_get symbols c.in-Some.found.symbol ≡ None = slice_get_past symbols c.in-Some.found.symbol (omega (arith, c.in_default-get.ensures.lookup)) in
    rw (sym c.relocation_at.ensures ∙ c.in-Some.is) (rw none (refl, refl))

pub returns : goal.returns
returns c =
    let symbols = c.args.symbols.now in
    let lookup = c.in-Some-get.ensures.lookup in
    let here : slice_get symbols c.in-Some.found.symbol ≡ Some c.in-Some-get.found.now =
    slice_get_read symbols (length symbols) c.in-Some.found.symbol c.in-Some-get.found.now refl lookup.3.0 lookup.1 in
    rw (sym c.relocation_at.ensures ∙ c.in-Some.is) (rw here (c.route.result, c.route.ensures, c.put_route.ensures))
