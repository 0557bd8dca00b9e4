use Rattle.linker_base.proofs.Imports.{ap, arith, bytes_of, deletion_of, length-map, length-take, map, nat_tests, refl, sum_by-append, sym, take, take_all, ℕ, ◌++◌, ◌-◌, ◌∙◌, ◌≡◌}
use Rattle.linker_base.proofs.OutputOffsets.{disjoint_fit}
use Rattle.linker_base.proofs.Merges.{merging_end, merging_old, merging_left, merging_last, spends_old, spends_left}
use Rattle.linker_base.proofs.Search.{blank}
use Rattle.linker_base.proofs.relaxation.merge.merge_in_place.Goals as goal
use Rattle.linker_base.proofs.relaxation.merge.merge_in_place.Goals.{then-is_old, else-is_old, then-loop-old-test+else-input_offset-merged, else-loop-old-test}

pub overflow_add-bytes : goal.overflow_add-bytes
overflow_add-bytes c =
    let start = take c.args.count c.args.merged.now in
    let ps = c.args.additional.now in
    let total : c.bytes_of_first.result ≡ bytes_of (map deletion_of start) = c.bytes_of_first.ensures c.requires.listed ∙ ap bytes_of (take_all c.args.count (map deletion_of start) (omega (arith, length-map start deletion_of, length-take c.args.count c.args.merged.now))) in
    record { fits = omega (arith, c.requires.sum, total, disjoint_fit (map deletion_of start ++ ps) c.requires.valid.disjoint, sum_by-append (λ (e : ℕ × ℕ). e.1) (map deletion_of start) ps) }

pub overflow_sub-bytes : goal.overflow_sub-bytes
overflow_sub-bytes c =
    let merging = c.loop-listed.invariant in
    let listed = merging_end _ _ _ _ _ _ blank merging c.if-old-gt0.true ∙ sym c.as_deletion-listed.ensures in
    elim c.if-is_old.branch [
      | then-is_old w ↦ omega (arith, ap (λ (e : ℕ × ℕ). e.1) (w.input_offset-is ∙ sym listed), c.from-bytes.ensures, spends_old _ _ _ _ _ _ c.if-old-gt0.true merging)
      | else-is_old w ↦ omega (arith, ap (λ (e : ℕ × ℕ). e.1) w.input_offset-is, c.from-bytes.ensures, spends_left _ _ _ _ _ _ c.if-left-gt0.true merging)
    ]

pub loop-listed-preserved : goal.loop-listed-preserved
loop-listed-preserved c =
    let old = c.loop-listed.old in
    let left = c.loop-listed.left in
    let merging = c.loop-listed.invariant in
    let listed = merging_end _ _ _ _ _ _ blank merging c.if-old-gt0.true ∙ sym c.as_deletion-listed.ensures in
    elim c.if-is_old.branch [
      | then-is_old w ↦
          let one : c.from-old.result ≡ 1 = grind (arith, nat_tests, c.from-old.ensures, w.if-is_old.true) in
          let none : left - c.from-left.result ≡ left = grind (arith, nat_tests, c.from-left.ensures, w.if-is_old.true) in
          rw (one, none, c.from-bytes.ensures) (merging_old _ _ _ _ _ _ _ _ c.requires.valid.old c.requires.valid.added c.if-old-gt0.true refl merging (w.input_offset-is ∙ sym listed) (λ _. omega (arith, ap (λ (e : ℕ × ℕ). e.0) listed, w.if-is_old.true)) refl)
      | else-is_old w ↦
          let none : old - c.from-old.result ≡ old = grind (arith, nat_tests, c.from-old.ensures, w.if-is_old.false) in
          let one : c.from-left.result ≡ 1 = grind (arith, nat_tests, c.from-left.ensures, w.if-is_old.false) in
          rw (none, one, c.from-bytes.ensures) (merging_left _ _ _ _ _ _ _ _ c.requires.valid.old c.requires.valid.added c.if-left-gt0.true refl merging w.input_offset-is (λ _. omega (arith, ap (λ (e : ℕ × ℕ). e.0) listed, w.if-is_old.false)) refl)
    ]

pub overflow_sub-bytes-in-loop-old : goal.overflow_sub-bytes-in-loop-old
overflow_sub-bytes-in-loop-old c =
    let end = merging_end _ _ _ _ _ _ blank c.loop-old.invariant c.loop-old-test.true in
    omega (arith, ap (λ (e : ℕ × ℕ). e.1) end, c.from-bytes-in-loop-old.ensures, spends_old _ _ _ _ _ _ c.loop-old-test.true c.loop-old.invariant)

pub loop-old-preserved : goal.loop-old-preserved
loop-old-preserved c =
    let end = merging_end _ _ _ _ _ _ blank c.loop-old.invariant c.loop-old-test.true in
    rw c.from-bytes-in-loop-old.ensures (merging_old _ _ _ _ _ _ _ _ c.requires.valid.old c.requires.valid.added c.loop-old-test.true refl c.loop-old.invariant (sym end) (λ _. omega (arith, ap (λ (e : ℕ × ℕ). e.0) end, c.if-input_offset-merged.true)) refl)

pub loop-left-preserved : goal.loop-left-preserved
loop-left-preserved c =
    rw c.from-bytes-in-loop-left.ensures (merging_left _ _ _ _ _ _ _ _ c.requires.valid.old c.requires.valid.added c.loop-left-test.true refl c.loop-old.invariant refl
    (λ some. elim c.loop-old-test.branch [
      | then-loop-old-test+else-input_offset-merged w ↦
          let end = merging_end _ _ _ _ _ _ blank c.loop-old.invariant some in
          omega (arith, ap (λ (e : ℕ × ℕ). e.0) end, w.if-input_offset-merged.false)
      | else-loop-old-test w ↦ absurd (omega (arith, some, w.loop-old-test.false))
    ])
    refl)

pub returns-clause-union : goal.returns-clause-union
returns-clause-union c =
    let done : c.loop-left.left ≡ 0 = omega (arith, c.loop-left-test.false) in
    (merging_last _ _ _ _ _ c.requires.listed c.requires.valid.disjoint (rw done at c.loop-left.invariant)).0

pub returns-clause-listed : goal.returns-clause-listed
returns-clause-listed c =
    let done : c.loop-left.left ≡ 0 = omega (arith, c.loop-left-test.false) in
    (merging_last _ _ _ _ _ c.requires.listed c.requires.valid.disjoint (rw done at c.loop-left.invariant)).1
