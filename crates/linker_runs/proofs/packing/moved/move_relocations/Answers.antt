use Rattle.linker_runs.proofs.Imports.{IsMoved, ap, arith, below_more, deletions_of, drop, drop_at, length, length-append, length-drop, length-take-le, relocation_in, section_of, subst, sym, take, take-append-drop, ◌*◌, ◌++◌, ◌/◌, ◌<◌, ◌∙◌, ◌≡◌}
use Rattle.std.proofs.lemmas.Option.{same_Some}
use Rattle.linker_runs.proofs.Moved.{front_in, there_at}
use Rattle.linker_section.specs.declared.relocations.Rela.{Rela}
use Rattle.linker_runs.proofs.packing.moved.move_relocations.Goals as goal
use Rattle.linker_runs.proofs.packing.moved.move_relocations.Goals.{in-Some, in_default}

pub loop-index-preserved : goal.loop-index-preserved
loop-index-preserved c =
    let i = c.loop-index.index in
    let old = c.loop-index.whole in
    let inv = c.loop-index.invariant in
    let len = c.loop-index.auto.whole in
    let low : i < length old / 24 = omega (arith, c.relocations_len-index-end.ensures) in
    let here = there_at old i low in
    elim c.match-relocation_at.branch [
      | in-Some w ↦
          let set = w.set_relocation.ensures in
          let new = w.set_relocation.new.relocations in
          let before : w.in-Some.before ≡ relocation_in old i = same_Some w.in-Some.before (relocation_in old i) (sym w.in-Some.is ∙ c.relocation_at.ensures ∙ here) in
          rw w.whole-is (record {
            moved = λ valid begun start ready.
                let Moves : Rela → Rela → Type 0 = IsMoved c.args.machine (section_of c.args.section.now c.args.base (deletions_of c.args.deltas.now) start) c.args.items.now in
                let first = take (c.relocations_len-len.result * 24) c.args.relocations.now in
                below_more (λ n. Moves (relocation_in first n) (relocation_in new n)) i
                (λ n below. subst (Moves (relocation_in first n)) (sym (set.others n (omega (arith, below, low)) (omega (arith, below)))) (inv.moved valid begun start ready n below))
                (subst (λ r. Moves r (relocation_in new i)) (before ∙ inv.others i (omega arith) (omega (arith, low, len)))
                (subst (Moves w.in-Some.before) (sym set.set) (w.moved-after.ensures valid begun start ready)));
            others = λ n from within. set.others n (omega (arith, within, len)) (omega (arith, from)) ∙ inv.others n (omega (arith, from)) within;
          })
      | in_default w ↦ absurd (w.in_default.not-Some (relocation_in old i) (c.relocation_at.ensures ∙ here))
    ]

pub returns : goal.returns
returns c = λ valid begun start ready.
    let xs = c.args.relocations.now in
    let ys = c.loop-index.whole in
    let w = c.relocations_len-len.result * 24 in
    let rest = drop w xs in
    let Moves : Rela → Rela → Type 0 = IsMoved c.args.machine (section_of c.args.section.now c.args.base (deletions_of c.args.deltas.now) start) c.args.items.now in
    let front : length (take w xs) ≡ w = length-take-le w xs (omega (arith, c.relocations_len-len.ensures)) in
    let len : length ys ≡ w = c.loop-index.auto.whole ∙ front in
    record {
      as_many = omega (arith, length-append ys rest, length-drop w xs, len, c.relocations_len-len.ensures);
      each = λ i low.
          subst (Moves (relocation_in xs i)) (sym (front_in ys rest i (omega (arith, low, len, c.relocations_len-len.ensures))))
          (subst (λ r. Moves r (relocation_in ys i)) (sym (front_in (take w xs) rest i (omega (arith, low, front, c.relocations_len-len.ensures))) ∙ ap (λ l. relocation_in l i) (take-append-drop w xs))
          (c.loop-index.invariant.moved valid begun start ready i (omega (arith, c.loop-index-test.false, c.relocations_len-index-end.ensures, low, front, c.relocations_len-len.ensures))));
      rest = subst (λ n. drop n (ys ++ rest) ≡ drop n xs) (ap (λ k. k * 24) c.relocations_len-len.ensures) (drop_at ys rest w len);
    }
