use Rattle.linker_runs.proofs.Imports.{IsWhole, ap, arith, drop, length, nop_len, nops, piece_bytes, subst, sym, take, ◌%◌, ◌++◌, ◌+◌, ◌∙◌, ◌≡◌}
use Rattle.linker_runs.proofs.Nops.{nops_length}
use Rattle.linker_runs.proofs.packing.put_piece.Goals as goal

pub returns-in-Nops : goal.returns-in-Nops
returns-in-Nops c = λ room whole.
    let machine = c.args.machine in
    let xs = c.args.packed.now in
    let n = c.in-Nops.len in
    let even : n % nop_len machine ≡ 0 = subst (IsWhole machine) c.in-Nops.is whole in
    let bytes : piece_bytes machine c.args.piece ≡ nops machine n = ap (piece_bytes machine) c.in-Nops.is in
    c.put_nops.ensures (omega (arith, nops_length machine n even, ap length bytes)) even
    ∙ ap (λ ys. take c.args.at xs ++ ys ++ drop (c.args.at + n) xs) (sym bytes)
    ∙ ap (λ k. take c.args.at xs ++ piece_bytes machine c.args.piece ++ drop (c.args.at + k) xs) (omega (arith, nops_length machine n even, ap length bytes))
