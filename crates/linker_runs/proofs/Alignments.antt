-- The next alignment after a relocation, by one relocation more.
use Rattle.linker_runs.proofs.Imports.{IsAhead, IsNextAlignment, List, LoongArch64, Machine, MayBeAhead, Relocation, RiscV, arith, cases_lt, inl, inr, ℕ, ⊎_elim, ◌+◌, ◌<◌, ◌≤◌, ◌⊎◌}

-- the next alignment after one relocation is that after the relocation after it, or this one
pub next_on : (relocations : List Relocation) (i j : ℕ) → IsNextAlignment relocations i j → (j ≤ i + 1) ⊎ IsNextAlignment relocations (i + 1) j
next_on relocations i j next = ⊎_elim
    (λ (following : i + 1 < j). inr (record {
      following = following;
      within = next.within;
      aligns = next.aligns;
      first = λ k after before. next.first k (omega arith) before;
    }))
    (λ (here : j ≤ i + 1). inl here)
    (cases_lt (i + 1) j)

-- and so of what a walk knows
pub ahead_on : (machine : Machine) (relocations : List Relocation) (i j : ℕ) → IsAhead machine relocations i j → MayBeAhead machine relocations (i + 1) j
ahead_on (RiscV _) relocations i j next = next_on relocations i j next
ahead_on LoongArch64 relocations i j next = inr tt
