-- Places among the bytes that decisions write or delete.
use Rattle.linker_rewriting.proofs.Imports.{AllCanBeMade, Architecture, AreAbove, AreApart, AreBelow, AreBounded, Consumed, Decision, IsCovered, IsField, IsPlaceBeside, IsWindow, Kept, List, arith, below_more, cases_lt, decision_at, end_at, end_by, field_end, inl, inr, length, offset_at, start_at, start_by, subst, ℕ, ◌+◌, ◌-◌, ◌<◌, ◌≡◌, ◌≢◌, ◌≤◌}
use Rattle.linker_elf.specs.declared.elf.RowInfo.{RowInfo}
use Rattle.linker_rewriting.proofs.Deciding.{ends_within}
use Rattle.linker_rewriting.specs.declared.covered.Place.{Place}

pub no_more : (n : ℕ) → n ≤ n
no_more n = omega arith

pub at_most : (a b c d : ℕ) → a ≤ b → b ≤ c → c ≡ d → a ≤ d
at_most a b c d first second same = omega arith

-- a field of at most ten bytes, before a start by a distance
pub is_far : (offset start distance len : ℕ) → distance ≡ start - offset → 10 ≤ distance → len ≤ 10
    → offset + len ≤ start
is_far offset start distance len is far short = omega arith

pub are_bounded : (bytes section : List ℕ) (decisions : List Decision) (limit : ℕ)
    → length section ≤ 0xffffffffffffffff → AllCanBeMade bytes section decisions limit
    → AreBounded bytes decisions limit
are_bounded bytes section decisions limit long made n less low =
    ends_within (decision_at decisions n) section (offset_at bytes n) 0xffffffffffffffff low long (made n less)

pub no_window : (bytes : List ℕ) (decisions : List Decision) (n : ℕ)
    → decision_at decisions n ≡ Kept → IsWindow bytes decisions n → ⊥
no_window bytes decisions n kept some =
    let o = offset_at bytes n in
    let none = subst (λ d. start_by d o < end_by d o) kept some in
    omega (arith, none)

-- those before some bytes end below them
pub below_window : (bytes : List ℕ) (decisions : List Decision) (limit at end : ℕ)
    → AreApart bytes decisions limit → at < limit → IsWindow bytes decisions at
    → end_at bytes decisions at ≤ end → AreBelow bytes decisions (at + 1) end
below_window bytes decisions limit at end apart less some ends =
    below_more (λ n. IsWindow bytes decisions n → end_at bytes decisions n ≤ end) at
    (λ n before is. let e = apart n at before less is some in omega (arith, e, some, ends))
    (λ _. ends)

pub below_last : (bytes : List ℕ) (decisions : List Decision) (limit at end : ℕ)
    → AreApart bytes decisions limit → 0 < at → at ≤ limit → IsWindow bytes decisions (at - 1)
    → end_at bytes decisions (at - 1) ≤ end → AreBelow bytes decisions at end
below_last bytes decisions limit at end apart some within is ends =
    let e : at - 1 + 1 ≡ at = omega (arith, some) in
    subst (λ n. AreBelow bytes decisions n end) e
    (below_window bytes decisions limit (at - 1) end apart (omega (arith, some, within)) is ends)

pub above_window : (bytes : List ℕ) (decisions : List Decision) (limit at : ℕ)
    → AreApart bytes decisions limit → IsWindow bytes decisions at
    → AreAbove bytes decisions limit at (start_at bytes decisions at)
above_window bytes decisions limit at apart some n from less is =
    elim (cases_lt at n) [
      | inl after ↦ let e = apart at n after less some is in omega (arith, e, some)
      | inr same ↦
          let e : at ≡ n = omega (arith, from, same) in
          subst (λ m. start_at bytes decisions at ≤ start_at bytes decisions m) e (omega arith)
    ]

-- a field between the bytes of others
pub clear_at : (architecture : Architecture) (bytes section : List ℕ) (decisions : List Decision)
    (limit n at above : ℕ)
    → ((m : ℕ) → m < at → m ≢ n → IsWindow bytes decisions m
    → end_at bytes decisions m ≤ offset_at bytes n)
    → AreAbove bytes decisions limit at above
    → (at < limit → (row : RowInfo) → IsField architecture bytes section n row
    → field_end bytes section n row ≤ above)
    → IsCovered architecture bytes section decisions limit n → ⊥
clear_at architecture bytes section decisions limit n at above passed over ends covered =
    let begins = covered.begins in
    let within = covered.within in
    let last = covered.ends in
    elim (cases_lt covered.by at) [
      | inl before ↦
          let e = passed covered.by before covered.other covered.writes in
          omega (arith, e, begins)
      | inr from ↦
          let e = over covered.by from within covered.writes in
          let f = ends (omega (arith, from, within)) covered.row covered.is_field in
          omega (arith, e, f, last)
    ]

pub covered_at : (architecture : Architecture) (bytes section : List ℕ) (decisions : List Decision)
    (limit n : ℕ) (place : Place) (row : RowInfo)
    → IsPlaceBeside bytes decisions limit n (offset_at bytes n) place → place.at < limit
    → decision_at decisions n ≢ Consumed → IsField architecture bytes section n row
    → place.above < field_end bytes section n row
    → IsCovered architecture bytes section decisions limit n
covered_at architecture bytes section decisions limit n place row beside less untaken is_field reaches =
    record {
      row = row;
      is_field = is_field;
      untaken = untaken;
      by = place.at;
      within = less;
      other = beside.other less;
      writes = beside.writes less;
      begins = beside.ends less;
      ends = let e = beside.begins less in omega (arith, e, reaches);
    }
