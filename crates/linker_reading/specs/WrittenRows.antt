-- What a write of a row's value changes, and that what it leaves is what is recognised.
use Rattle.linker_reading.specs.Imports.{CanRewrite, Choice, FieldBits, List, Option, RowInfo, Some}
use Rattle.linker_reading.specs.Imports.{WritesRow, drop, length, offset_after, relaxation_deleted}
use Rattle.linker_reading.specs.Imports.{relaxation_rewrite, rewritten, slice_index, take, ℕ, ℤ}
use Rattle.std.specs.Prelude.{◌≡◌, ◌<◌, ◌≤◌, ◌+◌, ◌^◌, ◌++◌}
use Rattle.linker_reading.specs.FieldsOfBytes.{AreSameButFor}
use Rattle.linker_reading.specs.Recognised.{Recogniser, DiffersOnlyInFields, deleted_start}
use Rattle.linker_reading.specs.Recognised.{deleted_count}
use Rattle.linker_base.specs.declared.rewrite.DeletedBytes.{DeletedBytes}

-- both are bytes, and as many
pub record AreBytes (before after : List ℕ) : Type 0 where
  pub bytes_before : (i : ℕ) → slice_index before i < 2 ^ 8
  pub bytes_after : (i : ℕ) → slice_index after i < 2 ^ 8
  pub lengths : length after ≡ length before

-- a write to bytes changes bits of the row's field only
abbrev pub ChangesField : RowInfo → Type 0
ChangesField row =
    (v : ℤ) (before after : List ℕ) → AreBytes before after → WritesRow row v before after
    → AreSameButFor row before after

-- the bytes without those that are deleted after a rewrite at an offset
abbrev pub without_deleted : Option DeletedBytes → ℕ → List ℕ → List ℕ
without_deleted deleted o bytes =
    take (deleted_start deleted o) bytes
    ++ drop (deleted_start deleted o + deleted_count deleted) bytes

-- Where the rewrite of a choice is applied, then the value of the relocation after it is written at
-- the offset after it, and then the deleted bytes are taken out, the choice leaves the bytes that
-- stay, whatever else is ignored.
abbrev pub WrittenIsLeft : {K R : Type 0} → Recogniser K R → Type 0
WrittenIsLeft {K} {R} it =
    (c : Choice K R) (row : RowInfo) (original : List ℕ) (o : ℕ) (v : ℤ)
    (written : List ℕ) (others : List FieldBits)
    → let rewrite = relaxation_rewrite (it.relaxation c.kind) in
    let deleted = relaxation_deleted (it.relaxation c.kind) in
    let section = rewritten rewrite original o in
    let at = offset_after rewrite o in
    it.row c.relocation ≡ Some row
    → CanRewrite rewrite original o
    → at ≤ length section
    → deleted_start deleted o + deleted_count deleted ≤ length section
    → AreBytes (drop at section) written
    → WritesRow row v (drop at section) written
    → DiffersOnlyInFields (it.relaxation c.kind) (it.row c.relocation) original o others
    (without_deleted deleted o (take at section ++ written))
