use Rattle.linker_section.proofs.Imports.{ap, arith, below_more, drop, drop_at, length, length-append, length-drop, length-take-le, relocation32_in, relocation_in, subst, ◌*◌, ◌++◌, ◌∙◌, ◌≡◌}
use Rattle.linker_section.proofs.Crels.{in_front}
use Rattle.linker_section.proofs.riscv32.read_rela32.Goals as goal

pub loop-index-preserved : goal.loop-index-preserved
loop-index-preserved c =
    let set = c.set_relocation.ensures in
    let front = length-take-le (c.relocations32_len-len.result * 24) c.args.relocations.now (omega (arith, c.requires, c.relocations32_len-len.ensures)) in
    below_more (λ n. relocation_in c.set_relocation.new.relocations n ≡ relocation32_in c.args.entries.now n) c.loop-index.index
    (λ n below. set.others n (omega (arith, c.loop-index.auto.copied, front)) (omega arith) ∙ c.loop-index.invariant n below)
    (set.set ∙ c.relocation32_in.ensures)

pub returns : goal.returns
returns c =
    let xs = c.args.relocations.now in
    let ys = c.loop-index.copied in
    let count = c.relocations32_len-len.result in
    let rest = drop (count * 24) xs in
    let len : length ys ≡ count * 24 = c.loop-index.auto.copied ∙ length-take-le (count * 24) xs (omega (arith, c.requires, c.relocations32_len-len.ensures)) in
    record {
      each = λ n below. in_front ys rest count n len (omega (arith, c.relocations32_len-len.ensures)) ∙ c.loop-index.invariant n (omega (arith, c.relocations32_len-len.ensures));
      rest = subst (λ n. drop n (ys ++ rest) ≡ drop n xs) (ap (λ k. k * 24) c.relocations32_len-len.ensures) (drop_at ys rest (count * 24) len);
      same_length = omega (arith, length-append ys rest, length-drop (count * 24) xs, len, c.requires, c.relocations32_len-len.ensures);
    }
