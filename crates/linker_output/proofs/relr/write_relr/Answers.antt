use Rattle.linker_output.proofs.Imports.{Fits-lt-pow, IfOk-weaker, WritesPacked, are_addresses, arith, err_from_is_err_and, length, true, words_of, ◌∙◌, ◌≡◌}
use Rattle.linker_output.proofs.RelrPacked.{packs, rejected, few_words}
use Rattle.linker_output.proofs.RelrLists.{all_fit, put_first}
use Rattle.linker_output.proofs.relr.write_relr.Goals as goal

pub returns-in_err-needed-clause-err : goal.returns-in_err-needed-clause-err
returns-in_err-needed-clause-err c =
    let p = err_from_is_err_and c.from_residual.result c.from_residual.ensures.1 in
    let e = c.in_err-needed.ensures.err in
    rw (p.1, p.2) (rejected c.args.addresses.now 0 (length c.args.words.now) c.args.addresses.now _ e e)

pub returns-then-words-needed-clause-err : goal.returns-then-words-needed-clause-err
returns-then-words-needed-clause-err c =
    let xs = c.args.addresses.now in
    let fit : are_addresses xs ≡ true = all_fit xs (λ i. Fits-lt-pow (c.type_inv.addresses i)) in
    let e = c.in_ok-needed.ensures.ok in
    (words_of xs, packs xs fit e.0, omega (arith, few_words xs fit e.0), omega (arith, few_words xs fit e.0))

pub returns-clause-ok : goal.returns-clause-ok
returns-clause-ok c =
    let xs = c.args.addresses.now in
    let fit : are_addresses xs ≡ true = all_fit xs (λ i. Fits-lt-pow (c.type_inv.addresses i)) in
    let e = c.in_ok-needed.ensures.ok in
    let few = few_words xs fit e.0 in
    IfOk-weaker c.encode-2.result _ (WritesPacked xs c.args.words.now c.encode-2.new.words)
    (λ n h.
    (words_of xs, packs xs fit e.0, (let m = h.1 in omega arith), (let m = h.1 in omega arith), h.2 ∙ (put_first (words_of xs) c.args.words.now (omega arith) (omega arith))))
    c.encode-2.ensures.ok
