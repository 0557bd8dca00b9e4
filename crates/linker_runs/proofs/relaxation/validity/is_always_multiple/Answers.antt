use Rattle.linker_runs.proofs.Imports.{FreesMultiples, IsAlwaysMultiple, IsAnchor, IsTrue, Item, List, ap, arith, end_of, false, inl, inr, item_at, nat_eq, offset_of, rules, subst, suc, sym, ℕ, ⊎_elim, ◌%◌, ◌+◌, ◌-◌, ◌<◌, ◌↔◌, ◌∙◌, ◌≡◌}
use Rattle.linker_runs.proofs.Addresses.{ends_by}
use Rattle.linker_runs.proofs.relaxation.validity.is_always_multiple.Goals as goal

-- what the item so far after tells
last_of : (w start o : ℕ) (items : List Item) (n b : ℕ) → b < n
    → IsAlwaysMultiple w start o items (suc (n - 1 - b)) ↔ IsAlwaysMultiple w start o items (n - b)
last_of w start o items n b below =
    let z : suc (n - 1 - b) ≡ n - b = omega arith in (
      subst (IsAlwaysMultiple w start o items) z,
      subst (IsAlwaysMultiple w start o items) (sym z),
    )

-- the same of an offset that is equal
at_offset : (w start o p : ℕ) (items : List Item) (n : ℕ) → o ≡ p → IsAlwaysMultiple w start o items n → IsAlwaysMultiple w start p items n
at_offset w start o p items n same always = subst (λ x. IsAlwaysMultiple w start x items n) same always

pub loop-following-init : goal.loop-following-init
loop-following-init c = (
  subst (IsAlwaysMultiple c.args.number c.args.start c.offset-offset.result c.args.items.now) (omega arith),
  subst (IsAlwaysMultiple c.args.number c.args.start c.offset-offset.result c.args.items.now) (omega arith),
)

pub is_anchor-requires-clause-following : goal.is_anchor-requires-clause-following
is_anchor-requires-clause-following c =
    let below = ends_by c.args.start c.args.items.now c.requires.in_order c.args.index (c.args.index - 1 - c.loop-following.following) c.requires.within (omega arith) in
    omega (arith, c.offset-offset.ensures ∙ ap offset_of c.at-here.ensures, ap end_of c.at-item.ensures)

pub frees_multiples-requires-clause-following : goal.frees_multiples-requires-clause-following
frees_multiples-requires-clause-following c =
    let below = ends_by c.args.start c.args.items.now c.requires.in_order c.args.index (c.args.index - 1 - c.loop-following.following) c.requires.within (omega arith) in
    omega (arith, c.offset-offset.ensures ∙ ap offset_of c.at-here.ensures, ap end_of c.at-item.ensures)

pub returns-then-is_anchor : goal.returns-then-is_anchor
returns-then-is_anchor c =
    let anchor = subst (IsAnchor c.args.number c.offset-offset.result) c.at-item.ensures (c.is_anchor.ensures.0 (search rules)) in
    let last = last_of c.args.number c.args.start c.offset-offset.result c.args.items.now c.args.index c.loop-following.following c.loop-following-test.true in (
      λ _. at_offset c.args.number c.args.start c.offset-offset.result (offset_of (item_at c.args.items.now c.args.index)) c.args.items.now c.args.index (c.offset-offset.ensures ∙ ap offset_of c.at-here.ensures) (c.loop-following.invariant.0 (last.0 (inl anchor))),
      λ _. search rules,
    )

pub returns-then-not-frees_multiples : goal.returns-then-not-frees_multiples
returns-then-not-frees_multiples c =
    let last = last_of c.args.number c.args.start c.offset-offset.result c.args.items.now c.args.index c.loop-following.following c.loop-following-test.true in (
      λ never. absurd (false_is never),
      λ always. absurd (⊎_elim
          (λ anchor. (let h = c.is_anchor.ensures.1 (subst (IsAnchor c.args.number c.offset-offset.result) (sym c.at-item.ensures) anchor) in let g = c.if-is_anchor.false in cc))
          (λ other. (let h = c.frees_multiples.ensures.1 (subst (FreesMultiples c.args.number c.offset-offset.result) (sym c.at-item.ensures) other.0) in let g = c.if-not-frees_multiples.true in cc))
          (last.1 (c.loop-following.invariant.1 (at_offset c.args.number c.args.start (offset_of (item_at c.args.items.now c.args.index)) c.offset-offset.result c.args.items.now c.args.index (sym (c.offset-offset.ensures ∙ ap offset_of c.at-here.ensures)) always)))),
    )
  where
    false_is : IsTrue false → ⊥
    false_is never = cc

pub loop-following-preserved : goal.loop-following-preserved
loop-following-preserved c =
    let number = c.args.number in
    let start = c.args.start in
    let o = c.offset-offset.result in
    let items = c.args.items.now in
    let following = c.loop-following.following in
    let last = last_of number start o items c.args.index following c.loop-following-test.true in
    let z : c.args.index - 1 - following ≡ c.args.index - (following + 1) = omega arith in
    let frees = subst (FreesMultiples number o) c.at-item.ensures (c.frees_multiples.ensures.0 (search rules)) in (
      λ rest. c.loop-following.invariant.0 (last.0 (inr (frees, subst (IsAlwaysMultiple number start o items) (sym z) rest))),
      λ all. ⊎_elim
          (λ anchor. (let h = c.is_anchor.ensures.1 (subst (IsAnchor c.args.number c.offset-offset.result) (sym c.at-item.ensures) anchor) in let g = c.if-is_anchor.false in cc))
          (λ other. subst (IsAlwaysMultiple number start o items) z other.1)
          (last.1 (c.loop-following.invariant.1 all)),
    )

pub returns : goal.returns
returns c =
    let number = c.args.number in
    let start = c.args.start in
    let o = c.offset-offset.result in
    let items = c.args.items.now in
    let none : c.args.index - c.loop-following.following ≡ 0 = omega arith in (
      λ test. at_offset number start o (offset_of (item_at items c.args.index)) items c.args.index (c.offset-offset.ensures ∙ ap offset_of c.at-here.ensures)
          (c.loop-following.invariant.0 (subst (IsAlwaysMultiple number start o items) (sym none) (divides test))),
      λ always. divided (subst (IsAlwaysMultiple number start o items) none
          (c.loop-following.invariant.1 (at_offset number start (offset_of (item_at items c.args.index)) o items c.args.index (sym (c.offset-offset.ensures ∙ ap offset_of c.at-here.ensures)) always))),
    )
  where
    divides : IsTrue (nat_eq ((c.args.start + c.offset-offset.result) % c.args.number) 0) → (c.args.start + c.offset-offset.result) % c.args.number ≡ 0
    divides test = search rules

    divided : (c.args.start + c.offset-offset.result) % c.args.number ≡ 0 → IsTrue (nat_eq ((c.args.start + c.offset-offset.result) % c.args.number) 0)
    divided none = search rules
