-- Where instructions are that rewrites are meant for.
use Rattle.linker_elf.specs.Imports.{from_le_bytes, w32}
use Rattle.std.specs.Prelude.{List, drop, length, ℕ, ◌≤◌, ◌+◌}

-- The four bytes at an offset are in the section, and their word has P.
abbrev pub HasWord : List ℕ → ℕ → (ℕ → Type 0) → Type 0
HasWord section o P = (o + 4 ≤ length section) × P (from_le_bytes w32 (drop o section))
