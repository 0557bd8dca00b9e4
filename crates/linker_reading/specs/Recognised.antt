-- What a linker made of a relocation: the choices of a rewrite that leave the linked bytes.
use Rattle.linker_reading.specs.Imports.{CanRewrite, Choice, ElfName, Entry, FieldBits, FieldValue}
use Rattle.linker_reading.specs.Imports.{IsFirst, List, None, Option, Recognised, Relaxation}
use Rattle.linker_reading.specs.Imports.{RowInfo, Some, [], choice, drop, length, min, offset_after}
use Rattle.linker_reading.specs.Imports.{relaxation_deleted, relaxation_matches, relaxation_rewrite}
use Rattle.linker_reading.specs.Imports.{rewritten, slice_get, slice_index_or, window_len, ℕ, ⊤}
use Rattle.std.specs.Prelude.{◌≡◌, ◌≢◌, ◌⊎◌, ◌≤◌, ◌<◌, ◌+◌, ◌-◌, ◌∷◌}
use Rattle.linker_reading.specs.Reading.{value_read}
use Rattle.linker_reading.specs.FieldsOfBytes.{is_in_field, AreSameBut}
use Rattle.linker_elf.specs.declared.elf.choice.LinkFacts.{LinkFacts}
use Rattle.linker_base.specs.declared.rewrite.DeletedBytes.{DeletedBytes}

-- ---- what a rewrite leaves

-- the bytes that are deleted after a rewrite at an offset: where they begin, and how many they are
abbrev pub deleted_start : Option DeletedBytes → ℕ → ℕ
deleted_start None o = 0
deleted_start (Some deleted) o = o + deleted.start

abbrev pub deleted_count : Option DeletedBytes → ℕ
deleted_count None = 0
deleted_count (Some deleted) = deleted.count

-- the window of the row, if there is one, lies in the bytes
abbrev pub HasField : Option RowInfo → ℕ → List ℕ → Type 0
HasField None at bytes = ⊤
HasField (Some row) at bytes = at + window_len row ≤ length bytes

-- From bytes, without those that are deleted, the linked bytes differ only in the field of a row at
-- an offset and in others.
pub record DifferOnlyInFields (after : List ℕ) (at : ℕ) (row : Option RowInfo)
    (deleted : Option DeletedBytes) (o : ℕ) (others : List FieldBits) (linked : List ℕ)
    : Type 0 where
  pub has_field : HasField row at after
  pub starts : deleted_start deleted o ≤ length linked
  pub lengths : length linked + deleted_count deleted ≡ length after
  pub same :
      AreSameBut (is_in_field row at after) others (deleted_start deleted o) (deleted_count deleted)
      after linked

-- They do so from what a rewrite makes of the original. The row is that of the relocation after it.
pub record DiffersOnlyInFields (kind : Relaxation) (row : Option RowInfo) (original : List ℕ)
    (o : ℕ) (others : List FieldBits) (linked : List ℕ) : Type 0 where
  pub rewritable : CanRewrite (relaxation_rewrite kind) original o
  pub left :
      DifferOnlyInFields (rewritten (relaxation_rewrite kind) original o)
      (offset_after (relaxation_rewrite kind) o) row (relaxation_deleted kind) o others linked

-- ---- what stands in the field

-- an offset after a rewrite, less the deleted bytes before it
abbrev pub linked_offset : Option DeletedBytes → ℕ → ℕ → ℕ
linked_offset deleted o at = at - min (deleted_count deleted) (at - deleted_start deleted o)

-- what is known of a relocation's value from the bytes at an offset; nothing without a row
abbrev pub value_at : Option RowInfo → ℕ → List ℕ → Option FieldValue
value_at None at linked = None
value_at (Some row) at linked = value_read row (drop at linked)

-- The field of the relocation after a rewrite at an offset: where it is in the linked bytes, and
-- what is known of the value from it.
pub record IsRead (kind : Relaxation) (row : Option RowInfo) (o : ℕ)
    (linked : List ℕ) (at : ℕ) (value : Option FieldValue) : Type 0 where
  pub at_is :
      at ≡ linked_offset (relaxation_deleted kind) o (offset_after (relaxation_rewrite kind) o)
  pub value_is : value ≡ value_at row at linked

-- ---- what an architecture brings

-- What is recognised of an architecture: its tables and relocations. K are its rewrites, R the
-- names of its relocations.
pub record Recogniser (K R : Type 0) : Type 1 where
  -- the entries of the table at a relocation at an offset of bytes, and whether one of them applies
  -- by what a linker knows
  pub entries : R → List ℕ → ℕ → List (Entry K R)
  pub applies : R → List ℕ → ℕ → LinkFacts → Entry K R → Type 0
  -- the rewrite that changes nothing
  pub no_op : K
  pub row : R → Option RowInfo
  -- how ELF names a relocation
  pub elf_name : R → ElfName
  -- a rewrite as one of all architectures'
  pub relaxation : K → Relaxation

-- ---- which choices there are

abbrev pub IsOneOf : {A : Type 0} → A → List A → Type 0
IsOneOf a [] = ⊥
IsOneOf a (x ∷ xs) = (x ≡ a) ⊎ IsOneOf a xs

-- those of a table's entries, and the last one
abbrev pub choices_of : {K R : Type 0} → List (Entry K R) → Choice K R → List (Choice K R)
choices_of [] otherwise = otherwise ∷ []
choices_of (e ∷ es) otherwise = choice e.kind e.relocation ∷ choices_of es otherwise

-- those at a relocation: the last one leaves the instruction and the relocation
abbrev pub choices_at : {K R : Type 0} → Recogniser K R → R → List ℕ → ℕ → List (Choice K R)
choices_at it name original o =
    choices_of (it.entries name original o) (choice it.no_op name)

-- the one that is made by what a linker knows
abbrev pub IsChosen : {K R : Type 0} → Recogniser K R → R → List ℕ → ℕ → LinkFacts → Choice K R
    → Type 0
IsChosen it name original o facts c =
    IsFirst (it.applies name original o facts) (it.entries name original o)
    (choice it.no_op name) c

-- ---- which of them were made

-- The choice leaves the linked bytes, its field is at that offset of them, and that is known of the
-- value.
pub record IsMade {K R : Type 0} (it : Recogniser K R) (original : List ℕ) (o : ℕ)
    (others : List FieldBits) (linked : List ℕ) (m : Recognised K R) : Type 0 where
  pub leaves :
      DiffersOnlyInFields (it.relaxation m.choice.kind) (it.row m.choice.relocation) original o others linked
  pub reads :
      IsRead (it.relaxation m.choice.kind) (it.row m.choice.relocation) o linked m.offset m.value

-- It is one of the choices at a relocation, its rewrite is meant for what is
-- there, and it was made.
pub record IsFound {K R : Type 0} (it : Recogniser K R) (name : R) (original : List ℕ) (o : ℕ)
    (others : List FieldBits) (linked : List ℕ) (m : Recognised K R) : Type 0 where
  pub listed : IsOneOf m.choice (choices_at it name original o)
  pub matches : relaxation_matches (it.relaxation m.choice.kind) original o
  pub made : IsMade it original o others linked m

-- Those that were found are those that are so.
pub record AreExactly {A : Type 0} (IsSo : A → Type 0) (found : List (Option A)) : Type 0 where
  pub only : (a : A) → IsOneOf (Some a) found → IsSo a
  pub all : (a : A) → IsSo a → IsOneOf (Some a) found

-- the first place of something in a list
pub record IsFirstPlace {A : Type 0} (a : A) (list : List A) (i : ℕ) : Type 0 where
  pub here : slice_get list i ≡ Some a
  pub not_before : (j : ℕ) → j < i → slice_get list j ≢ Some a

-- Each of those that were found has the first place of its choice.
abbrev pub ArePlaced : {K R : Type 0} → List (Choice K R) → List (Option (Recognised K R)) → Type 0
ArePlaced {K} {R} choices found =
    (i : ℕ) (m : Recognised K R) → slice_index_or found i None ≡ Some m
    → IsFirstPlace m.choice choices i

-- No two of those that were found have the same choice.
abbrev pub AreDistinct : {K R : Type 0} → List (Option (Recognised K R)) → Type 0
AreDistinct {K} {R} found =
    (i j : ℕ) (m n : Recognised K R) → slice_index_or found i None ≡ Some m
    → slice_index_or found j None ≡ Some n → m.choice ≡ n.choice → i ≡ j
