use Rattle.linker_runs.proofs.Imports.{IsApplied, IsRejected, IsSomeAnd, List, [], ap, append-nil, arith, drop, drop-drop, drop-take, drop_all, drop_at, far_high, far_low, length, length-drop, length-take-le, operands_of, subst, sum_64, sym, take, take-take, take_at, ℕ, ◌++◌, ◌+◌, ◌∙◌, ◌≡◌, ◌≤◌}
use Rattle.linker_runs.proofs.packing.loongarch64.address_of.Goals as goal
use borrow.Rule.Slice.PartMut.{post_of, put_mid}

first_word : (section pair : List ℕ) (o : ℕ) → pair ≡ take 8 (drop o section) → take 4 pair ≡ take 4 (drop o section)
first_word section pair o is = ap (take 4) is ∙ take-take 4 8 (drop o section) (omega arith)

-- the words of a pair whose first is written, and then the second
module _ (section pair high : List ℕ) (o : ℕ) (is : pair ≡ take 8 (drop o section)) (len : length high ≡ length (take 4 pair)) (room : o + 8 ≤ length section) where
  four : length high ≡ 4
  four = len ∙ ap length (first_word section pair o is) ∙ length-take-le 4 (drop o section) (omega (arith, length-drop o section, room))

  second_word : take 4 (drop 4 (high ++ drop 4 pair)) ≡ take 4 (drop (o + 4) section)
  second_word =
      ap (take 4) (drop_at high (drop 4 pair) 4 four ∙ ap (drop 4) is ∙ drop-take 4 4 (drop o section)) ∙ take-take 4 4 (drop 4 (drop o section)) (omega arith)
      ∙ ap (take 4) (drop-drop 4 o section)

  words : (low : List ℕ) → (take 4 (put_mid 4 4 (high ++ drop 4 pair) low) ≡ high) × (drop 4 (put_mid 4 4 (high ++ drop 4 pair) low) ≡ low)
  words low =
      let rest = drop 4 pair in
      let front : take 4 (high ++ rest) ≡ high = take_at high rest 4 four in
      let start : length (take 4 (high ++ rest)) ≡ 4 = ap length front ∙ four in
      let end : length rest ≡ 4 = length-drop 4 pair ∙ omega (arith, ap length is, length-take-le 8 (drop o section) (omega (arith, length-drop o section, room))) in
      let nothing : post_of 4 4 (high ++ rest) ≡ [] = ap (drop 4) (drop_at high rest 4 four) ∙ drop_all 4 rest (omega (arith, end)) in (
        take_at (take 4 (high ++ rest)) (low ++ post_of 4 4 (high ++ rest)) 4 start ∙ front,
        drop_at (take 4 (high ++ rest)) (low ++ post_of 4 4 (high ++ rest)) 4 start ∙ ap (λ xs. low ++ xs) nothing ∙ append-nil low,
      )

pub returns-then-not-apply_formula : goal.returns-then-not-apply_formula
returns-then-not-apply_formula c =
    let a = c.args in
    let row = c.row_of-row.result in
    far_high (subst (λ x. IsSomeAnd x (λ r. IsRejected r (operands_of a.place a.target) (take 4 (drop a.offset a.section.now)))) (sym c.row_of-row.ensures)
    (subst (λ o. IsRejected row o (take 4 (drop a.offset a.section.now))) c.operands_of.ensures
    (subst (IsRejected row c.operands_of.result) (first_word a.section.now c.pair_at-pair.result a.offset c.pair_at-pair.ensures)
    (c.apply_formula.ensures.rejected c.if-not-apply_formula.true))))

pub returns-then-not-apply_formula-2 : goal.returns-then-not-apply_formula-2
returns-then-not-apply_formula-2 c =
    let a = c.args in
    let row = c.row_of-row-2.result in
    far_low (subst (λ x. IsSomeAnd x (λ r. IsRejected r (operands_of (sum_64 a.place 4) a.target) (take 4 (drop (a.offset + 4) a.section.now)))) (sym c.row_of-row-2.ensures)
    (subst (λ o. IsRejected row o (take 4 (drop (a.offset + 4) a.section.now))) c.operands_of-2.ensures
    (subst (IsRejected row c.operands_of-2.result) (second_word a.section.now c.pair_at-pair.result c.apply_formula.new.dest a.offset c.pair_at-pair.ensures c.apply_formula.auto.dest c.requires)
    (c.apply_formula-2.ensures.rejected c.if-not-apply_formula-2.true))))

pub returns : goal.returns
returns c =
    let a = c.args in
    let pair = c.pair_at-pair.result in
    let high = c.apply_formula.new.dest in
    let low = c.apply_formula-2.new.dest in
    let other = second_word a.section.now pair high a.offset c.pair_at-pair.ensures c.apply_formula.auto.dest c.requires in
    let written = words a.section.now pair high a.offset c.pair_at-pair.ensures c.apply_formula.auto.dest c.requires low in
    let after = put_mid 4 4 (high ++ drop 4 pair) low in
    record {
      pages = c.are_pages_near.ensures.0 c.if-not-are_pages_near.false;
      high = subst (λ x. IsSomeAnd x (λ r. IsApplied r (operands_of a.place a.target) (take 4 (drop a.offset a.section.now)) (take 4 after))) (sym c.row_of-row.ensures)
          (rw (written.0, sym c.operands_of.ensures, sym (first_word a.section.now pair a.offset c.pair_at-pair.ensures)) (c.apply_formula.ensures.applied c.if-not-apply_formula.false));
      low = subst (λ x. IsSomeAnd x (λ r. IsApplied r (operands_of (sum_64 a.place 4) a.target) (take 4 (drop (a.offset + 4) a.section.now)) (drop 4 after))) (sym c.row_of-row-2.ensures)
          (rw (written.1, sym c.operands_of-2.ensures, sym other) (c.apply_formula-2.ensures.applied c.if-not-apply_formula-2.false));
    }
