use Rattle.linker_reading.proofs.Imports.{ap, drop, drop-replicate, from_le_bytes, replicate, subst, take, w64, ◌++◌, ◌∙◌, ◌≡◌}
use Rattle.linker_reading.proofs.reading.number_of_bytes.Goals as goal

pub returns : goal.returns
returns c =
    subst (λ t. c.from_le_bytes.result ≡ from_le_bytes w64 (take c.args.len c.args.bytes.now ++ t))
    (drop-replicate c.args.len 8 0)
    (c.from_le_bytes.ensures
    ∙ ap (λ xs. from_le_bytes w64 (xs ++ drop c.args.len (replicate 8 0))) c.copy_from_slice.ensures.after)
