use Rattle.linker_output.proofs.Imports.{IsAccepted, IsCause, cast_signed, cast_unsigned, rules, subst, take, w64, ◌≡◌}
use Rattle.linker_output.proofs.Writable.{accepted_of_front, cause_of_front}
use Rattle.linker_output.proofs.routes.obstacle_in.Goals as goal

pub returns-in-Ok-clause-none : goal.returns-in-Ok-clause-none
returns-in-Ok-clause-none c =
    let v = cast_signed w64 (cast_unsigned w64 c.args.value) in
    let same : v ≡ c.args.value = search rules in
    let n = c.min-len.result in
    accepted_of_front c.args.row.now c.args.value c.args.there.now n c.min-len.ensures
    (subst (λ x. IsAccepted c.args.row.now x (take n c.args.there.now)) same
    (subst (λ bytes. IsAccepted c.args.row.now v bytes) c.copy_from_slice.ensures.after c.in-Ok.ensures.ok.accepted))

pub returns-in-Err-clause-some : goal.returns-in-Err-clause-some
returns-in-Err-clause-some c =
    let v = cast_signed w64 (cast_unsigned w64 c.args.value) in
    let same : v ≡ c.args.value = search rules in
    let n = c.min-len.result in
    let error = c.in-Err.error in
    cause_of_front c.args.row.now c.args.value c.args.there.now n error c.min-len.ensures
    (subst (λ x. IsCause c.args.row.now x (take n c.args.there.now) error) same
    (subst (λ bytes. IsCause c.args.row.now v bytes error) c.copy_from_slice.ensures.after c.in-Err.ensures.err.0))
