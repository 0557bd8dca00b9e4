-- Compact relocations (generic ABI, "CREL relocation format", section type SHT_CREL), whose numbers
-- are LEB128 (DWARF 5, "Variable Length Data").
use Rattle.std.specs.Prelude.{◌≡◌, ℕ, ◌+◌, ◌-◌, ◌*◌, ◌/◌, ◌%◌, ◌^◌, ◌==◌, ◌&&◌, ◌<◌, ◌≤◌, ◌⊎◌, suc}
use Rattle.std.specs.Prelude.{zero, if◌then◌else◌, nat_le, nat_lt, Bool, true, false, List, length}
use Rattle.std.specs.Prelude.{drop, slice_index, Option, Some, None, Result, Ok, Err}
use Rattle.linker_section.specs.Imports.{Rela, cast_signed, uleb_number, w64}
use Rattle.std.specs.List.{prefix_len}
use Rattle.linker_section.specs.Relocations.{relocation_in}
use Rattle.linker_section.specs.declared.crel.Crel.{Crel}
use Rattle.linker_section.specs.declared.crel.CrelError.{CrelError}
use Rattle.linker_section.specs.declared.crel.CrelError.TheVariants.{CutOff, TooLarge, TooShort}
use Rattle.linker_section.specs.declared.crel.Header.{Header}
use Rattle.linker_section.specs.declared.crel.Number.{Number}
use Rattle.linker_section.specs.declared.crel.Place.{Place}

-- what follows, unless there is an error
abbrev pub followed : {A B : Type 0} → Result A CrelError → (A → Result B CrelError)
    → Result B CrelError
followed (Ok value) rest = rest value
followed (Err error) rest = Err error

-- ---- numbers

-- The number of groups of seven bits that are n together, which are below the limit. A signed one
-- is in two's complement of as many bits. Modulo 2^64, where it has no more bits.
abbrev pub word_of : Bool → ℕ → ℕ → Option ℕ
word_of false limit n = if nat_lt n (2 ^ 64) then Some n else None
word_of true limit n =
    if nat_lt (2 * n) limit then (if nat_lt n (2 ^ 63) then Some n else None)
    else if nat_le limit (n + 2 ^ 63) then Some (n + 2 ^ 64 - limit) else None

abbrev pub number_to : Option ℕ → ℕ → ℕ → Result Number CrelError
number_to None at next = Err (TooLarge at)
number_to (Some word) at next = Ok (record { value = word; next = next })

-- The number that bytes begin with, signed or not, which are those from an offset on. Its last byte
-- is the first one below 0x80. It has ten bytes at most.
abbrev pub number_in : Bool → List ℕ → ℕ → Result Number CrelError
number_in is_signed bytes at =
    let last = prefix_len (nat_le 0x80) bytes in
    if nat_lt 9 last then Err (TooLarge at)
    else if last == length bytes then Err (CutOff at)
    else number_to (word_of is_signed (128 ^ (last + 1)) (uleb_number bytes last)) at (at + last + 1)

abbrev pub number_at : Bool → List ℕ → ℕ → Result Number CrelError
number_at is_signed section at = number_in is_signed (drop at section) at

-- one that may be there, or else 0
abbrev pub delta_at : Bool → Bool → List ℕ → ℕ → Result Number CrelError
delta_at is_signed true section at = number_at is_signed section at
delta_at is_signed false section at = Ok (record { value = 0; next = at })

-- ---- the header

-- each of the relocations that it counts has a byte at least
abbrev pub header_of : List ℕ → Result Header CrelError
header_of section =
    followed (number_at false section 0) (λ header.
    if nat_lt (length section - header.next) (header.value / 8) then Err (CutOff (length section))
    else Ok (record {
      count = header.value / 8;
      has_addends = header.value / 4 % 2 == 1;
      scale = 2 ^ (header.value % 4);
      next = header.next;
    }))

-- ---- relocations

-- how many flags there are, as a power of two
abbrev pub flags_of : Header → ℕ
flags_of header = if header.has_addends then 8 else 4

-- the relocation after another one, by its first byte
abbrev pub next_by : Header → List ℕ → Place → ℕ → Result Place CrelError
next_by header section prior first =
    followed (delta_at false (nat_le 128 first) section (prior.next + 1)) (λ high.
    followed (delta_at true (first % 2 == 1) section high.next) (λ symbol.
    followed (delta_at true (first / 2 % 2 == 1) section symbol.next) (λ r_type.
    followed (delta_at true (header.has_addends
    && (first / 4 % 2 == 1)) section r_type.next) (λ addend.
    let delta = high.value * (128 / flags_of header) + first % 128 / flags_of header in
    Ok (record {
      next = addend.next;
      offset = (prior.offset + delta * header.scale) % 2 ^ 64;
      r_type = (prior.r_type + r_type.value) % 2 ^ 32;
      symbol = (prior.symbol + symbol.value) % 2 ^ 32;
      addend = (prior.addend + addend.value) % 2 ^ 64;
    })))))

abbrev pub next_of : Header → List ℕ → Place → Result Place CrelError
next_of header section prior =
    if nat_lt prior.next (length section)
    then next_by header section prior (slice_index section prior.next)
    else Err (CutOff prior.next)

-- what is known after n relocations, of which the last is the one here
unfoldable pub after : ℕ → Header → List ℕ → Result Place CrelError
after zero header section =
    Ok (record { next = header.next; offset = 0; r_type = 0; symbol = 0; addend = 0 })
after (suc n) header section = followed (after n header section) (next_of header section)

abbrev pub relocation_of_place : Place → Rela
relocation_of_place place =
    record {
      offset = place.offset;
      r_type = place.r_type;
      symbol = place.symbol;
      addend = cast_signed w64 place.addend;
    }

-- ---- reading

-- the relocation at an index is this one
abbrev pub IsRelocation : Header → List ℕ → ℕ → Rela → Type 0
IsRelocation header section k relocation =
    (place : Place) × (after (k + 1) header section ≡ Ok place)
    × (relocation ≡ relocation_of_place place)

-- the section is well-formed, and bytes begin with its relocations
pub record ReadsCrel (section before bytes : List ℕ) (crel : Crel) : Type 0 where
  pub header : Header
  pub is_header : header_of section ≡ Ok header
  pub count : crel.count ≡ header.count
  pub has_addends : crel.has_addends ≡ header.has_addends
  pub fits : crel.count * 24 ≤ length before
  pub each : (k : ℕ) → k < crel.count → IsRelocation header section k (relocation_in bytes k)
  pub rest : drop (crel.count * 24) bytes ≡ drop (crel.count * 24) before
  pub same_length : length bytes ≡ length before

-- why a section isn't read to this many bytes: its header, the room, or a relocation
abbrev pub RejectsCrel : List ℕ → ℕ → CrelError → Type 0
RejectsCrel section room error =
    (header_of section ≡ Err error)
    ⊎ ((header : Header) × (header_of section ≡ Ok header)
    × (((room / 24 < header.count) × (error ≡ TooShort header.count))
    ⊎ ((header.count ≤ room / 24) × (after header.count header section ≡ Err error))))
