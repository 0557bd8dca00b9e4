-- What a write of the value of a relocation of x86-64 leaves is what is recognised.
use Rattle.linker_reading.specs.Imports.{CanRewrite, Choice, FieldBits, List, RewriteKind, RowInfo}
use Rattle.linker_reading.specs.Imports.{Some, WritesRow, X86_64Relocation, drop, length}
use Rattle.linker_reading.specs.Imports.{offset_after, rewritten, take, ℕ, ℤ}
use Rattle.std.specs.Prelude.{◌≡◌, ◌≤◌, ◌++◌}
use Rattle.linker_elf.specs.X86Relocations.{x86_64_row}
use Rattle.linker_reading.specs.FieldsOfBytes.{AreSameButFor}
use Rattle.linker_reading.specs.Recognised.{DiffersOnlyInFields}
use Rattle.linker_utils.specs.declared.architecture.Relaxation.TheVariants.{X86_64}
use Rattle.linker_utils.specs.X86Rewrites.{x86_64_rewrite}

-- a write changes bits of the row's field only
abbrev pub WritesField : RowInfo → Type 0
WritesField row =
    (v : ℤ) (before after : List ℕ) → WritesRow row v before after → AreSameButFor row before after

-- Where the rewrite of a choice is applied, and then the value of the relocation after it written
-- at the offset after it, the choice leaves these bytes, whatever else is ignored.
abbrev pub X86WrittenIsLeft : Type 0
X86WrittenIsLeft =
    (c : Choice RewriteKind X86_64Relocation) (row : RowInfo) (original : List ℕ)
    (o : ℕ) (v : ℤ) (written : List ℕ) (others : List FieldBits)
    → x86_64_row c.relocation ≡ Some row
    → CanRewrite (x86_64_rewrite c.kind) original o
    → offset_after (x86_64_rewrite c.kind) o ≤ length (rewritten (x86_64_rewrite c.kind) original o)
    → WritesRow row v
    (drop (offset_after (x86_64_rewrite c.kind) o) (rewritten (x86_64_rewrite c.kind) original o))
    written
    → DiffersOnlyInFields (X86_64 c.kind) (x86_64_row c.relocation) original o others
    (take (offset_after (x86_64_rewrite c.kind) o) (rewritten (x86_64_rewrite c.kind) original o)
    ++ written)
