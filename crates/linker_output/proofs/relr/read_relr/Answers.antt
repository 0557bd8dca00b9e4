use Rattle.linker_output.proofs.Imports.{IfOk-weaker, Unpacks, arith, err_from_is_err_and, length, relocated, ◌∙◌}
use Rattle.linker_output.proofs.RelrLists.{refused, put_first}
use Rattle.linker_output.proofs.relr.read_relr.Goals as goal

pub returns-in_err-needed-clause-err : goal.returns-in_err-needed-clause-err
returns-in_err-needed-clause-err c =
    let p = err_from_is_err_and c.from_residual.result c.from_residual.ensures.1 in
    rw (p.1, p.2) (refused c.args.words.now (length c.args.addresses.now) _ c.in_err-needed.ensures.err)

pub returns-clause-ok : goal.returns-clause-ok
returns-clause-ok c =
    let xs = relocated 0 c.args.words.now in
    let e = c.in_ok-needed.ensures.ok in
    IfOk-weaker c.decode-2.result _ (Unpacks c.args.words.now c.args.addresses.now c.decode-2.new.addresses)
    (λ n h. record {
      sound = h.0;
      counted = (let m = h.1 in omega arith);
      fits = (let m = h.1 in omega arith);
      written = h.2 ∙ (put_first xs c.args.addresses.now (omega arith) (omega arith));
    })
    c.decode-2.ensures.ok
