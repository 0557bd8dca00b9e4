use Rattle.linker_reading.proofs.recognise.architecture.chosen_by_type.Goals as goal

pub returns : goal.returns
returns g c r_type is =
    record { name = c.args.name; named = c.recognise_chosen.result; is_name = is; exactly = c.recognise_chosen.ensures; found_is = c.typed.ensures }
