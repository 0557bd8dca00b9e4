use Rattle.linker_runs.proofs.Imports.{List, [], ap, arith, drop, nops, refl, repeated, sym, take, ℕ, ◌%◌, ◌*◌, ◌++◌, ◌+◌, ◌-◌, ◌/◌, ◌^◌, ◌∙◌, ◌∷◌, ◌≡◌}
use Rattle.linker_runs.proofs.Nops.{repeated_length, put_more, nops_two}
use Rattle.linker_runs.proofs.packing.put_nops.Goals as goal

pub returns-then-len-eq2 : goal.returns-then-len-eq2
returns-then-len-eq2 c = λ room even.
    let xs = c.args.packed.now in
    let n = c.args.len in
    let word : List ℕ = 0x13 ∷ 0x00 ∷ 0x00 ∷ 0x00 ∷ [] in
    let two : List ℕ = 0x01 ∷ 0x00 ∷ [] in
    let same = c.put_words.auto.packed in
    let at : (c.args.at + (n - 2)) % 2 ^ 64 ≡ c.args.at + 4 * (n / 4) = omega arith in
    put_more xs (repeated word (n / 4)) two c.put_words.new.packed c.put_bytes.new.packed c.args.at (4 * (n / 4)) 2 (omega arith) (repeated_length word (n / 4) refl) refl
    (c.put_words.ensures (omega arith)) ((c.put_bytes.ensures (omega arith)) ∙ ap (λ k. take k c.put_words.new.packed ++ two ++ drop (k + 2) c.put_words.new.packed) at)
    ∙ ap (λ ys. take c.args.at xs ++ ys ++ drop (c.args.at + (4 * (n / 4) + 2)) xs) (sym (ap (λ m. nops m n) c.in-RiscV.is ∙ nops_two n c.if-len-eq2.true))
    ∙ ap (λ k. take c.args.at xs ++ nops c.args.machine n ++ drop (c.args.at + k) xs) (omega arith)
