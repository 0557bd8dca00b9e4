use Rattle.linker_utils_c.proofs.Imports.{None, Some, ap, arith, length, option_map, refl, slice_get, slice_get_past, slice_get_read, view_run, ◌∙◌, ◌≡◌}
use Rattle.linker_utils_c.proofs.Provided.{runs_at}
use Rattle.linker_utils_c.proofs.output.put_run.Goals as goal

pub returns-in_default : goal.returns-in_default
returns-in_default c =
    let all = c.args.target.now.runs.now in
    let none : slice_get all c.args.index ≡ None = slice_get_past all c.args.index (omega (arith, c.in_default.ensures.lookup)) in
    rw (runs_at all c.args.index ∙ ap (option_map view_run) none) (refl, (refl, refl, refl))

pub returns-then-prefix-provided : goal.returns-then-prefix-provided
returns-then-prefix-provided c =
    let all = c.args.target.now.runs.now in
    let lookup = c.in-Some.ensures.lookup in
    let here : slice_get all c.args.index ≡ Some c.in-Some.found.now =
    slice_get_read all (length all) c.args.index c.in-Some.found.now refl lookup.3.0 lookup.1 in
    rw (runs_at all c.args.index ∙ ap (option_map view_run) here) (record {
      copied = record {
        fits = λ fits. absurd (omega (arith, fits, c.if-prefix-provided.true));
        short = λ short. (refl, refl, refl);
      };
      fits = λ fits. absurd (omega (arith, fits, c.if-prefix-provided.true));
      short = λ short. refl;
    })

pub returns : goal.returns
returns c =
    let all = c.args.target.now.runs.now in
    let lookup = c.in-Some.ensures.lookup in
    let here : slice_get all c.args.index ≡ Some c.in-Some.found.now =
    slice_get_read all (length all) c.args.index c.in-Some.found.now refl lookup.3.0 lookup.1 in
    rw (runs_at all c.args.index ∙ ap (option_map view_run) here) (record {
      copied = c.put_text.ensures;
      fits = λ fits. rw c.len.ensures (rw c.spacing.ensures.spacing refl);
      short = λ short. absurd (omega (arith, short, c.if-prefix-provided.false));
    })
