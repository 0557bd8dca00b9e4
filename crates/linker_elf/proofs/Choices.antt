-- The reach of a relocation of a sequence, from the place of the sequence's first instruction.
use Rattle.linker_elf.proofs.Imports.{LinkFacts, ap, arith, facts_on, operands_before, ℕ, ◌%◌, ◌+◌, ◌-◌, ◌^◌, ◌≡◌, ◌≤◌}

pub same_reach : (n : ℕ) (facts : LinkFacts) → n ≤ 12
    → operands_before n (facts_on n facts).operands ≡ operands_before 0 facts.operands
same_reach n facts small =
    let p = facts.operands.place in
    let e : ((p + n) % 2 ^ 64 + (2 ^ 64 - n)) % 2 ^ 64 ≡ (p + (2 ^ 64 - 0)) % 2 ^ 64 = omega arith in
    ap (λ (x : ℕ). record facts.operands { place = x }) e
