-- A lazy PLT: pieces of code, whose fields have the values of relocations, and what its words hold.
use Rattle.linker_output.specs.Imports.{Architecture, Header, Index, LazyEntry, LazyPiece, LazyWord}
use Rattle.linker_output.specs.Imports.{Operands, RelocateError, StubError, Word, sum_64}
use Rattle.linker_output.specs.declared.lazy_plt.LazyTarget.{LazyTarget}
use Rattle.std.specs.Prelude.{option_map, ◌++◌, List, length, take, drop, Option}
use Rattle.std.specs.Prelude.{slice_get, false, ◌≡◌, ◌≤◌, ◌<◌, ◌+◌, ◌-◌, ◌⊎◌, ◌^◌, ℕ, [], ◌∷◌, min}
use Rattle.std.specs.Prelude.{true, MatchOption, IsSomeAnd}
use Rattle.linker_output.specs.Stubs.{WritesField, RejectsField}
use Rattle.linker_output.specs.declared.lazy_plt.LazyField.{LazyField}
use Rattle.linker_output.specs.declared.lazy_plt.LazyPlt.{LazyPlt}
use Rattle.linker_output.specs.declared.lazy_plt.LazyWord.TheVariants as words
use Rattle.linker_output.specs.declared.stubs.StubError.TheVariants as errors

-- the code of a lazy PLT, and the words that belong to it
pub record PltCode : Type 0 where
  pub instructions : Architecture
  pub alignment : ℕ
  pub header : List LazyPiece
  pub entry : List LazyPiece
  pub header_words : List LazyWord
  pub word : LazyWord

-- of the code's
abbrev pub view_plt : LazyPlt → PltCode
view_plt p =
    record {
      instructions = p.instructions;
      alignment = p.alignment;
      header = p.header.now;
      entry = p.entry.now;
      header_words = p.header_words.now;
      word = p.word;
    }

-- ---- a piece

abbrev pub piece_len : LazyPiece → ℕ
piece_len piece = min piece.len 8

abbrev pub target_at : LazyTarget → LazyEntry → ℕ
target_at Word entry = entry.word
target_at Header entry = entry.header
target_at Index entry = entry.index

-- S, L and the GOT entry are the target, and P, the TOC base and the thread pointer are the origin
abbrev pub operands_at : LazyField → LazyEntry → Operands
operands_at field entry =
    let target = target_at field.target entry in
    let origin = sum_64 entry.address field.origin in
    record {
      symbol = target;
      addend = field.addend;
      place = origin;
      got_entry = target;
      got_base = origin;
      plt_entry = target;
      symbol_size = 0;
      tls_base = origin;
      has_got_entry = true;
      has_plt_entry = false;
      has_tls_base = true;
    }

-- the 8 bytes of a piece with its field
abbrev pub IsPiece : Architecture → LazyPiece → LazyEntry → List ℕ → Type 0
IsPiece architecture piece entry code =
    (length code ≡ 8)
    × MatchOption piece.field (code ≡ piece.code)
    (λ f. WritesField architecture f.field (operands_at f entry) piece.code code)

abbrev pub RejectsPiece : Architecture → LazyPiece → LazyEntry → RelocateError → Type 0
RejectsPiece architecture piece entry error =
    IsSomeAnd piece.field
    (λ f. RejectsField architecture f.field (operands_at f entry) piece.code error)

-- ---- pieces one after the other

abbrev pub pieces_len : List LazyPiece → ℕ
pieces_len [] = 0
pieces_len (piece ∷ pieces) = piece_len piece + pieces_len pieces

-- the same as a number of 64 bits, the largest one if there are more
abbrev pub capped_len : List LazyPiece → ℕ
capped_len pieces = min (pieces_len pieces) (2 ^ 64 - 1)

abbrev pub IsCode : Architecture → List LazyPiece → LazyEntry → List ℕ → Type 0
IsCode architecture [] entry code = code ≡ []
IsCode architecture (piece ∷ pieces) entry code =
    (first : List ℕ) × (others : List ℕ) × IsPiece architecture piece entry first
    × IsCode architecture pieces entry others × (code ≡ take (piece_len piece) first ++ others)

-- the first piece whose field is rejected
abbrev pub RejectsPieces : Architecture → List LazyPiece → LazyEntry → RelocateError → Type 0
RejectsPieces architecture [] entry error = ⊥
RejectsPieces architecture (piece ∷ pieces) entry error =
    RejectsPiece architecture piece entry error
    ⊎ (((code : List ℕ) × IsPiece architecture piece entry code)
    × RejectsPieces architecture pieces entry error)

-- bytes have the code at an offset, and the others are left
abbrev pub WritesPieces : Architecture → List LazyPiece → LazyEntry → ℕ → List ℕ → List ℕ → Type 0
WritesPieces architecture pieces entry at before after =
    (code : List ℕ) × IsCode architecture pieces entry code
    × (after ≡ take at before ++ (code ++ drop (at + pieces_len pieces) before))

-- ---- a header or an entry

-- bytes begin with the code, and those after it are left
abbrev pub WritesCode : Architecture → List LazyPiece → LazyEntry → List ℕ → List ℕ → Type 0
WritesCode architecture pieces entry before after =
    (code : List ℕ) × IsCode architecture pieces entry code
    × (after ≡ code ++ drop (pieces_len pieces) before)

-- why there is none, in such bytes
abbrev pub RejectsCode : Architecture → List LazyPiece → LazyEntry → List ℕ → StubError → Type 0
RejectsCode architecture pieces entry out errors.Missing = ⊥
RejectsCode architecture pieces entry out errors.TooShort = length out < pieces_len pieces
RejectsCode architecture pieces entry out (errors.Field error) =
    (pieces_len pieces ≤ length out) × RejectsPieces architecture pieces entry error

-- what a header is written from: its address, and that of the first word
abbrev pub header_places : ℕ → ℕ → LazyEntry
header_places header words =
    record { address = header; word = words; header = header; index = 0 }

-- ---- words

abbrev pub word_by : LazyWord → ℕ → ℕ → ℕ → ℕ
word_by words.Zero entry header dynamic = 0
word_by words.Dynamic entry header dynamic = dynamic
word_by words.Header entry header dynamic = header
word_by (words.Entry offset) entry header dynamic = sum_64 entry offset

abbrev pub word_in : List LazyWord → ℕ → ℕ → ℕ → Option ℕ
word_in all index dynamic header =
    option_map (λ word. word_by word header header dynamic) (slice_get all index)
