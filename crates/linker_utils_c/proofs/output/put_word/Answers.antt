use Rattle.linker_utils_c.proofs.Imports.{None, Some, ap, arith, length, option_map, refl, slice_get, slice_get_past, slice_get_read, sym, view_run, ◌∙◌, ◌≡◌}
use Rattle.linker_utils_c.proofs.Provided.{runs_at}
use Rattle.linker_utils_c.proofs.output.put_word.Goals as goal

pub returns-in_default : goal.returns-in_default
returns-in_default c =
    let all = c.args.target.now.runs.now in
    let none : slice_get all c.args.run ≡ None = slice_get_past all c.args.run (omega (arith, c.in_default.ensures.lookup)) in
    rw (runs_at all c.args.run ∙ ap (option_map view_run) none) (refl, refl)

pub returns : goal.returns
returns c =
    let all = c.args.target.now.runs.now in
    let lookup = c.in-Some.ensures.lookup in
    let here : slice_get all c.args.run ≡ Some c.in-Some.found.now =
    slice_get_read all (length all) c.args.run c.in-Some.found.now refl lookup.3.0 lookup.1 in
    rw (runs_at all c.args.run ∙ ap (option_map view_run) here) (
    rw (sym c.word_at.ensures ∙ c.in-Some-word_at.is) (refl, refl)
    )

pub returns-in_default-word_at : goal.returns-in_default-word_at
returns-in_default-word_at c =
    let all = c.args.target.now.runs.now in
    let lookup = c.in-Some.ensures.lookup in
    let here : slice_get all c.args.run ≡ Some c.in-Some.found.now =
    slice_get_read all (length all) c.args.run c.in-Some.found.now refl lookup.3.0 lookup.1 in
    rw (runs_at all c.args.run ∙ ap (option_map view_run) here) (
    rw (sym c.word_at.ensures ∙ c.in_default-word_at.is) (refl, refl)
    )
