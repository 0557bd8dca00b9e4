-- Bytes of a section that are kept in memory of the caller's until all values are written.
use Rattle.std.specs.Prelude.{◌≡◌, ℕ, zero, suc, ◌+◌, ◌-◌, nat_le, if◌then◌else◌, List}
use Rattle.std.specs.Prelude.{◌++◌, length, take, drop, slice_index, Option, Some, None}
use Rattle.linker_section.specs.Imports.{Architecture, IsRow, RowInfo, sum_64, to_le_bytes, w64}
use Rattle.linker_section.specs.Fields.{ends_pair}
use Rattle.linker_section.specs.Relocations.{relocation_in}

-- the 8 bytes from an offset on, or fewer at the end
abbrev pub bytes_at : ℕ → List ℕ → List ℕ
bytes_at offset section = take 8 (drop offset section)

-- a word has them
abbrev pub IsSavedAt : ℕ → List ℕ → ℕ → Type 0
IsSavedAt offset section word =
    take (length section - offset) (to_le_bytes w64 word) ≡ bytes_at offset section

-- the section with a word's bytes in place of them
abbrev pub with_word : ℕ → ℕ → List ℕ → List ℕ
with_word offset word section =
    if nat_le offset (length section) then
    take offset section
    ++ (take (length section - offset) (to_le_bytes w64 word) ++ drop (offset + 8) section)
    else section

-- from where on the bytes are saved: a pair's second has those after the 8 of its first
abbrev pub saved_place : Option RowInfo → ℕ → ℕ
saved_place None offset = offset
saved_place (Some row) offset = if ends_pair row.size row.kind then sum_64 offset 8 else offset

-- with the words of relocations below an index put back, the last first, a section is another
abbrev pub Restores : Architecture → List ℕ → List ℕ → ℕ → List ℕ → List ℕ → Type 0
Restores architecture bytes memory zero now before = now ≡ before
Restores architecture bytes memory (suc n) now before =
    (row : Option RowInfo) × IsRow architecture (relocation_in bytes n).r_type row
    × Restores architecture bytes memory n
    (with_word (saved_place row (relocation_in bytes n).offset) (slice_index memory n) now) before
