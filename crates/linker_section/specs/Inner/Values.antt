-- High parts of RISC-V with their indexes.
use Rattle.std.specs.Prelude.{◌≡◌, ℕ, List}
use Rattle.linker_section.specs.Imports.{Architecture, Rela, RelocationKind, RowInfo}
use Rattle.linker_section.specs.Values.{IsHighPart}

-- what is found is a high part at an offset, of low parts of a kind, and its index
abbrev pub IsHighPartOf : Architecture → List ℕ → RelocationKind → ℕ
    → ℕ × Rela × RowInfo → Type 0
IsHighPartOf architecture bytes low at found =
    (part : IsHighPart architecture bytes low at (found.1) (found.2)) × (part.index ≡ found.0)
