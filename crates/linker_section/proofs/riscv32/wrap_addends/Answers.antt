use Rattle.linker_section.proofs.Imports.{IsWrapped, Rela, ap, arith, below_more, drop, drop_at, length, length-append, length-drop, length-take-le, relocation_in, subst, sym, take, take-append-drop, ◌*◌, ◌++◌, ◌∙◌, ◌≡◌}
use Rattle.linker_section.proofs.Crels.{in_front}
use Rattle.linker_section.proofs.riscv32.wrap_addends.Goals as goal

pub loop-index-preserved : goal.loop-index-preserved
loop-index-preserved c =
    let i = c.loop-index.index in
    let count = c.relocations_len-len.result in
    let xs = c.args.relocations.now in
    let first = take (count * 24) xs in
    let inv = c.loop-index.invariant in
    let len = c.loop-index.auto.whole in
    let front = length-take-le (count * 24) xs (omega (arith, c.relocations_len-len.ensures)) in
    let set = c.set_relocation.ensures in
    let new = c.set_relocation.new.relocations in
    let Wraps : Rela → Rela → Type 0 = IsWrapped c.args.addresses.now c.args.symbols.now in
    record {
      done = below_more (λ n. Wraps (relocation_in first n) (relocation_in new n)) i
          (λ n below. subst (Wraps (relocation_in first n)) (sym (set.others n (omega (arith, len, front)) (omega arith))) (inv.done n below))
          (subst (λ r. Wraps r (relocation_in new i)) (c.relocation_in.ensures ∙ inv.others i (omega arith) (omega (arith, front)))
          (subst (Wraps c.relocation_in.result) (sym set.set) c.wrap_addend-relocation.ensures));
      others = λ n from within. set.others n (omega (arith, len)) (omega arith) ∙ inv.others n (omega arith) within;
    }

pub returns : goal.returns
returns c =
    let xs = c.args.relocations.now in
    let ys = c.loop-index.whole in
    let count = c.relocations_len-len.result in
    let w = count * 24 in
    let rest = drop w xs in
    let Wraps : Rela → Rela → Type 0 = IsWrapped c.args.addresses.now c.args.symbols.now in
    let front : length (take w xs) ≡ w = length-take-le w xs (omega (arith, c.relocations_len-len.ensures)) in
    let len : length ys ≡ w = c.loop-index.auto.whole ∙ front in
    record {
      each = λ n below.
          subst (Wraps (relocation_in xs n)) (sym (in_front ys rest count n len (omega (arith, c.relocations_len-len.ensures))))
          (subst (λ r. Wraps r (relocation_in ys n)) (sym (in_front (take w xs) rest count n front (omega (arith, c.relocations_len-len.ensures))) ∙ ap (λ l. relocation_in l n) (take-append-drop w xs))
          (c.loop-index.invariant.done n (omega (arith, c.relocations_len-len.ensures))));
      rest = subst (λ n. drop n (ys ++ rest) ≡ drop n xs) (ap (λ k. k * 24) c.relocations_len-len.ensures) (drop_at ys rest w len);
      same_length = omega (arith, length-append ys rest, length-drop w xs, len, c.relocations_len-len.ensures);
    }
