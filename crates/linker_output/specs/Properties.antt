-- Notes of program properties (Linux extensions to the generic ABI, "Program property"; the psABIs'
-- processor-specific types).
use Rattle.std.specs.Prelude.{◌==◌, if◌then◌else◌, nat_le, nat_lt, length, Option, Result, bit_and}
use Rattle.std.specs.Prelude.{ℕ, ◌&&◌, ◌||◌, ◌++◌, Bool, true, List, drop, zero, Some, None, bit_or}
use Rattle.std.specs.Prelude.{◌≡◌, ◌+◌, ◌-◌, ◌*◌, ◌/◌, ◌^◌, ◌%◌, ◌<◌, ◌≤◌, ◌⊎◌, not, ◌∷◌, max, suc}
use Rattle.std.specs.Prelude.{[], Ok, Err}
use Rattle.linker_output.specs.Imports.{AArch64, Architecture, CutOff, Differs, NotAscending}
use Rattle.linker_output.specs.Imports.{NotProperties, Property, PropertyError, PropertyRule, RiscV}
use Rattle.linker_output.specs.Imports.{TooLarge, TooMany, TooShort, Unknown, WrongSize, X86_64}
use Rattle.linker_output.specs.Imports.{from_le_bytes, to_le_bytes, w64}
use Rattle.linker_output.specs.declared.properties.Reading.{Reading}
use Rattle.linker_output.specs.declared.properties.PropertyRule.TheVariants.{All, Any, AnyOfAll}
use Rattle.linker_output.specs.declared.properties.PropertyRule.TheVariants.{Largest, Present, Same}

-- ---- which rule a type has

abbrev pub is_in : ℕ → ℕ → ℕ → Bool
is_in first last kind = nat_le first kind && nat_le kind last

abbrev pub processor_rule : Architecture → ℕ → Option PropertyRule
processor_rule X86_64 kind =
    if kind == 0xc0000000 || is_in 0xc0010000 0xc0017fff kind then Some AnyOfAll
    else if kind == 0xc0000001 || is_in 0xc0008000 0xc000ffff kind then Some Any
    else if is_in 0xc0000002 0xc0007fff kind then Some All else None
processor_rule AArch64 kind =
    if kind == 0xc0000000 then Some All else if kind == 0xc0000001 then Some Same else None
processor_rule RiscV kind = if kind == 0xc0000000 then Some All else None
processor_rule architecture kind = None

abbrev pub rule_of : Architecture → ℕ → Option PropertyRule
rule_of architecture kind =
    if kind == 1 then Some Largest
    else if kind == 2 then Some Present
    else if is_in 0xb0000000 0xb0007fff kind then Some All
    else if is_in 0xb0008000 0xb000ffff kind then Some Any
    else processor_rule architecture kind

-- ---- two values of a type

-- a number is a property without a version
abbrev pub of_value : ℕ → ℕ → Property
of_value kind value = record { kind = kind; value = value; version = 0 }

-- a missing value is 0, and so is a property whose value is 0
abbrev pub value_of : Option Property → ℕ
value_of None = 0
value_of (Some property) = property.value

abbrev pub unless_zero : ℕ → ℕ → Option Property
unless_zero kind value = if value == 0 then None else Some (of_value kind value)

-- two values go together in a way, and one stays as it is
abbrev pub both_or_one : (Property → Property → Result (Option Property) PropertyError)
    → Option Property → Option Property → Result (Option Property) PropertyError
both_or_one both None second = Ok second
both_or_one both (Some first) None = Ok (Some first)
both_or_one both (Some first) (Some second) = both first second

abbrev pub of_all : (Property → Property → Option Property) → Option Property → Option Property
    → Option Property
of_all both (Some first) (Some second) = both first second
of_all both first second = None

abbrev pub same_value : ℕ → Property → Property → Result (Option Property) PropertyError
same_value kind first second =
    if first.value == second.value && first.version == second.version
    then Ok (Some (record { kind = kind; value = first.value; version = first.version }))
    else Err (Differs kind)

abbrev pub merged : PropertyRule → ℕ → Option Property → Option Property
    → Result (Option Property) PropertyError
merged All kind first second =
    Ok (unless_zero kind (bit_and (value_of first) (value_of second)))
merged Any kind first second =
    Ok (unless_zero kind (bit_or (value_of first) (value_of second)))
merged AnyOfAll kind first second =
    Ok (of_all (λ a b. Some (of_value kind (bit_or a.value b.value))) first second)
merged Largest kind first second =
    both_or_one (λ a b. Ok (Some (of_value kind (max a.value b.value)))) first second
merged Present kind first second =
    both_or_one (λ a b. Ok (Some (of_value kind 0))) first second
merged Same kind first second = both_or_one (same_value kind) first second

-- a type without a rule is dropped
abbrev pub merged_by : Option PropertyRule → ℕ → Option Property → Option Property
    → Result (Option Property) PropertyError
merged_by None kind first second = Ok None
merged_by (Some rule) kind first second = merged rule kind first second

-- ---- the order of inputs

abbrev pub merged_to : Option PropertyRule → ℕ → Result (Option Property) PropertyError
    → Option Property → Result (Option Property) PropertyError
merged_to rule kind (Err error) third = Err error
merged_to rule kind (Ok both) third = merged_by rule kind both third

abbrev pub merged_with : Option PropertyRule → ℕ → Option Property
    → Result (Option Property) PropertyError → Result (Option Property) PropertyError
merged_with rule kind first (Err error) = Err error
merged_with rule kind first (Ok both) = merged_by rule kind first both

-- ---- sets of properties

-- the first one of a type
abbrev pub of_kind : ℕ → List Property → Option Property
of_kind kind [] = None
of_kind kind (property ∷ properties) =
    if property.kind == kind then Some property else of_kind kind properties

-- the types ascend, and none is below the least one that may come next
abbrev pub are_ascending : ℕ → List Property → Bool
are_ascending least [] = true
are_ascending least (property ∷ properties) =
    nat_le least property.kind && are_ascending (property.kind + 1) properties

-- of each type what the two lists' properties of the type make
abbrev pub merged_kind : Architecture → List Property → List Property → ℕ
    → Result (Option Property) PropertyError
merged_kind architecture first second kind =
    merged_by (rule_of architecture kind) kind (of_kind kind first) (of_kind kind second)

pub record Merges (architecture : Architecture) (first second properties : List Property)
    : Type 0 where
  pub ascending : are_ascending 0 properties ≡ true
  pub exact : (kind : ℕ) → merged_kind architecture first second kind ≡ Ok (of_kind kind properties)

-- no two lists are merged of the same
abbrev pub MergesToOne : Architecture → List Property → List Property → Type 0
MergesToOne architecture first second =
    (x y : List Property) → Merges architecture first second x → Merges architecture first second y
    → x ≡ y

-- of a type what three inputs make, from the first on and from the last on
abbrev pub MergesAlike : Architecture → List Property → List Property → List Property → ℕ → Type 0
MergesAlike architecture first second third kind =
    let rule = rule_of architecture kind in
    merged_to rule kind (merged_kind architecture first second kind) (of_kind kind third)
    ≡ merged_with rule kind (of_kind kind first) (merged_kind architecture second third kind)

-- a list begins with these properties, and the others are left
abbrev pub Begins : List Property → List Property → List Property → Type 0
Begins properties before after = after ≡ properties ++ drop (length properties) before

abbrev pub WritesMerged : Architecture → List Property → List Property → List Property
    → List Property → ℕ → Type 0
WritesMerged architecture first second before after count =
    (properties : List Property) × Merges architecture first second properties
    × (length properties ≡ count) × (count ≤ length before) × Begins properties before after

-- a type whose values differ
abbrev pub DiffersAt : Architecture → List Property → List Property → PropertyError → Type 0
DiffersAt architecture first second error =
    (kind : ℕ) × (merged_kind architecture first second kind ≡ Err error)

abbrev pub RejectsMerge : Architecture → List Property → List Property → ℕ → PropertyError → Type 0
RejectsMerge architecture first second room (TooShort needed) =
    (properties : List Property) × Merges architecture first second properties
    × (length properties ≡ needed) × (room < needed)
RejectsMerge architecture first second room error = DiffersAt architecture first second error

-- ---- notes

-- the word of 8 bytes at an offset
abbrev pub word_at : List ℕ → ℕ → ℕ
word_at section at = from_le_bytes w64 (drop at section)

-- the size of a type's values
abbrev pub size_of : PropertyRule → ℕ
size_of All = 4
size_of Any = 4
size_of AnyOfAll = 4
size_of Largest = 8
size_of Present = 0
size_of Same = 16

-- a size with its padding
abbrev pub padded : ℕ → ℕ
padded size = (size + 7) / 8 * 8

-- the property whose value is at an offset
abbrev pub property_at : PropertyRule → List ℕ → ℕ → ℕ → Property
property_at Largest section at kind = of_value kind (word_at section at)
property_at Present section at kind = of_value kind 0
property_at Same section at kind =
    record { kind = kind; value = word_at section at; version = word_at section (at + 8) }
property_at rule section at kind = of_value kind (word_at section at % 2 ^ 32)

-- The header of a note at an offset, with `namesz` 4, `n_type` 5 (`NT_GNU_PROPERTY_TYPE_0`) and the
-- name "GNU".
abbrev pub is_header : List ℕ → ℕ → Bool
is_header section at =
    word_at section at % 2 ^ 32 == 4 && word_at section (at + 8) == 0x00554e4700000005

abbrev pub visit_note : List ℕ → Reading → Result Reading PropertyError
visit_note section from =
    let at = from.next in
    let room = length section - at in
    let size = word_at section at / 2 ^ 32 in
    if nat_lt room 16 then Err (CutOff at)
    else if not (is_header section at) then Err (NotProperties at)
    else if nat_lt (room - 16) size then Err (CutOff at)
    else Ok (record { next = at + 16; end = at + 16 + size; least = from.least; property = None })

-- by the rule of the type
abbrev pub visit_by : Option PropertyRule → List ℕ → ℕ → ℕ → Reading → Result Reading PropertyError
visit_by None section kind size from =
    Ok (record {
      next = from.next + 8 + padded size;
      end = from.end;
      least = kind + 1;
      property = Some (of_value kind 0);
    })
visit_by (Some rule) section kind size from =
    if size == size_of rule
    then Ok (record {
      next = from.next + 8 + padded size;
      end = from.end;
      least = kind + 1;
      property = Some (property_at rule section (from.next + 8) kind);
    })
    else Err (WrongSize from.next)

abbrev pub visit_property : Architecture → List ℕ → Reading → Result Reading PropertyError
visit_property architecture section from =
    let at = from.next in
    let room = from.end - at in
    let kind = word_at section at % 2 ^ 32 in
    let size = word_at section at / 2 ^ 32 in
    if nat_lt room 8 || nat_lt (room - 8) (padded size) then Err (CutOff at)
    else if nat_lt kind from.least then Err (NotAscending at)
    else visit_by (rule_of architecture kind) section kind size from

-- a note, or a property of the note that ends at `end`
abbrev pub visit : Architecture → List ℕ → Reading → Result Reading PropertyError
visit architecture section from =
    if from.next == from.end then visit_note section from
    else visit_property architecture section from

abbrev pub before : Option Property → Result (List Property) PropertyError
    → Result (List Property) PropertyError
before (Some property) (Ok properties) = Ok (property ∷ properties)
before property rest = rest

abbrev pub followed : (Reading → Result (List Property) PropertyError) → Result Reading PropertyError
    → Result (List Property) PropertyError
followed rest (Err error) = Err error
followed rest (Ok next) = before next.property (rest next)

-- The properties from an offset on, in at most n steps. Each step ends 8 bytes further on or more.
unfoldable pub read : ℕ → Architecture → List ℕ → Reading → Result (List Property) PropertyError
read zero architecture section from = Ok []
read (suc n) architecture section from =
    if nat_lt from.next (length section)
    then followed (read n architecture section) (visit architecture section from) else Ok []

abbrev pub start : Reading
start = record { next = 0; end = 0; least = 0; property = None }

abbrev pub properties_of : Architecture → List ℕ → Result (List Property) PropertyError
properties_of architecture section = read (length section) architecture section start

abbrev pub WritesRead : Architecture → List ℕ → List Property → List Property → ℕ → Type 0
WritesRead architecture section before after count =
    (properties : List Property) × (properties_of architecture section ≡ Ok properties)
    × (length properties ≡ count) × (count ≤ length before) × Begins properties before after

abbrev pub RejectsRead : Architecture → List ℕ → ℕ → PropertyError → Type 0
RejectsRead architecture section room error =
    (properties_of architecture section ≡ Err error)
    ⊎ ((properties : List Property) × (properties_of architecture section ≡ Ok properties)
    × (room < length properties) × (error ≡ TooShort (length properties)))

-- ---- writing

-- no part of a property is lost in a value of its type's size
abbrev pub fits : PropertyRule → Property → Bool
fits Largest property = property.version == 0
fits Present property = property.value == 0 && property.version == 0
fits Same property = true
fits rule property = nat_lt property.value (2 ^ 32) && property.version == 0

-- the words of a property
abbrev pub value_words : PropertyRule → Property → List ℕ
value_words Present property = []
value_words Same property = property.value ∷ property.version ∷ []
value_words rule property = property.value ∷ []

abbrev pub property_words : PropertyRule → Property → List ℕ
property_words rule property = (property.kind + 2 ^ 32 * size_of rule) ∷ value_words rule property

abbrev pub with_words : List ℕ → Result (List ℕ) PropertyError → Result (List ℕ) PropertyError
with_words words (Ok rest) = Ok (words ++ rest)
with_words words (Err error) = Err error

-- What follows a note's header. An error has the index of the property, from an index on, or its
-- type.
abbrev pub words_by : Option PropertyRule → Property → Result (List ℕ) PropertyError
    → Result (List ℕ) PropertyError
words_by None property rest = Err (Unknown property.kind)
words_by (Some rule) property rest =
    if fits rule property then with_words (property_words rule property) rest
    else Err (TooLarge property.kind)

abbrev pub words_from : Architecture → ℕ → ℕ → List Property → Result (List ℕ) PropertyError
words_from architecture least index [] = Ok []
words_from architecture least index (property ∷ properties) =
    if nat_lt property.kind least then Err (NotAscending index)
    else words_by (rule_of architecture property.kind) property
    (words_from architecture (property.kind + 1) (index + 1) properties)

abbrev pub list_words : Architecture → List Property → Result (List ℕ) PropertyError
list_words architecture properties = words_from architecture 0 0 properties

-- a note of these words, or none
abbrev pub note_words : List ℕ → List ℕ
note_words [] = []
note_words words = (4 + 2 ^ 32 * (8 * length words)) ∷ 0x00554e4700000005 ∷ words

unfoldable pub bytes_of : List ℕ → List ℕ
bytes_of [] = []
bytes_of (word ∷ words) = to_le_bytes w64 word ++ bytes_of words

pub record WritesNote (architecture : Architecture) (properties : List Property)
    (before after : List ℕ) (len : ℕ) : Type 0 where
  pub words : List ℕ
  pub sound : list_words architecture properties ≡ Ok words
  pub len_is : len ≡ 8 * length (note_words words)
  pub within : len ≤ length before
  pub written : after ≡ bytes_of (note_words words) ++ drop len before

-- at most 2 ^ 27 - 1 properties have a note, whose length is of 32 bits
abbrev pub RejectsNote : Architecture → List Property → ℕ → PropertyError → Type 0
RejectsNote architecture properties room error =
    ((2 ^ 27 ≤ length properties) × (error ≡ TooMany))
    ⊎ ((length properties < 2 ^ 27) × (list_words architecture properties ≡ Err error))
    ⊎ ((words : List ℕ) × (length properties < 2 ^ 27)
    × (list_words architecture properties ≡ Ok words) × (room < 8 * length (note_words words))
    × (error ≡ TooShort (8 * length (note_words words))))
