-- What the rows of rewrites mean.
use Rattle.linker_utils.specs.Imports.{Bool, CanRewrite, IfSome, IsTrue, List, None, Option}
use Rattle.linker_utils.specs.Imports.{Rewrite, Some, [], bit_and, bit_or, drop, false, field}
use Rattle.linker_utils.specs.Imports.{from_le_bytes, length, nat_le, not, replaces, suc}
use Rattle.linker_utils.specs.Imports.{to_le_bytes, true, w16, w32, w64, zero, ℕ, ⊤}
use Rattle.std.specs.Prelude.{◌∷◌, ◌≡◌, ◌≢◌, ◌≤◌, ◌+◌, ◌-◌, ◌*◌, ◌/◌, ◌^◌, ◌⊎◌, ◌&&◌, ◌||◌, ◌==◌}
use Rattle.std.specs.Prelude.{◌%◌, if◌then◌else◌}
use Rattle.linker_base.specs.RewriteWindow.{window_of_rewrite}
use Rattle.linker_utils.specs.Ppc64Rewrites.{by_displacement, by_word_displacement, direct, to_move}
use Rattle.linker_utils.specs.RiscVRewrites.{adds_low12}
use Rattle.linker_utils.specs.declared.rewrite_rows.Special.{Special}
use Rattle.linker_utils.specs.declared.rewrite_rows.Special.TheVariants as specials
use Rattle.linker_utils.specs.declared.rewrite_rows.WordBits.{WordBits}
use Rattle.linker_utils.specs.declared.rewrite_rows.Words.{Words}
use Rattle.linker_utils.specs.declared.rewrite_rows.WordEdit.{WordEdit}
use Rattle.linker_utils.specs.declared.rewrite_rows.Original.{Original}
use Rattle.linker_utils.specs.declared.rewrite_rows.Replacement.{Replacement}
use Rattle.linker_utils.specs.declared.rewrite_rows.WordTest.{WordTest}
use Rattle.linker_utils.specs.declared.rewrite_rows.WordTest.TheVariants as test

-- how many bits a number has, of at most n
abbrev pub len_of : ℕ → ℕ → ℕ
len_of zero number = zero
len_of (suc n) number = if number == 0 then 0 else suc (len_of n (number / 2))

-- Those of a word that a mask has, from a bit up. `ones`: the mask is that of the lowest n bits.
-- `whole`: there is no bit below.
abbrev pub kept_of : Bool → Bool → ℕ → ℕ → ℕ → ℕ → ℕ
kept_of true whole word from mask n = field word from (from + n)
kept_of false true word from mask n = bit_and word mask
kept_of false false word from mask n = bit_and (word / 2 ^ from) mask

abbrev pub kept : ℕ → ℕ → ℕ → ℕ → ℕ
kept word from mask n = kept_of (mask + 1 == 2 ^ n) (from == 0) word from mask n

-- the number in bits of a word
abbrev pub number_of : ℕ → WordBits → ℕ
number_of word bits =
    if bits.is_top then word / 2 ^ (bits.from % 32)
    else kept word (bits.from % 32) bits.mask (len_of 32 bits.mask)

-- that of one of two instructions
abbrev pub number_in : Words → WordBits → ℕ
number_in words bits = number_of (if bits.of_second then words.second else words.first) bits

-- the instruction at an offset, of 2 bytes where n bytes have no more, and the one after it where
-- they have two
abbrev pub words_at : List ℕ → ℕ → ℕ → Words
words_at section o len =
    record {
      first =
          if nat_le 4 len then from_le_bytes w32 (drop o section)
          else if nat_le 2 len then from_le_bytes w16 (drop o section) else 0;
      second = if nat_le 8 len then from_le_bytes w32 (drop (o + 4) section) else 0;
    }

-- a set has a number: its bit is 1
abbrev pub is_among : ℕ → ℕ → Bool
is_among set n = set / 2 ^ (n % 64) % 2 == 1

-- one of four sets
abbrev pub set_by : ℕ → ℕ → ℕ → ℕ → ℕ → ℕ
set_by n first second third fourth =
    if n == 0 then first else if n == 1 then second else if n == 2 then third else fourth

-- a test holds
abbrev pub Holds : Words → WordTest → Type 0
Holds words (test.Is some n) = number_in words some ≡ n
Holds words (test.IsNot some n) = number_in words some ≢ n
Holds words (test.IsEither some m n) =
    (number_in words some ≡ m) ⊎ (number_in words some ≡ n)
Holds words (test.IsEitherOrWithin some m n from to) =
    IsTrue (number_in words some == m || number_in words some == n
    || nat_le from (number_in words some) && nat_le (number_in words some) to)
Holds words (test.AreSame some others) = number_in words some ≡ number_in words others
Holds words (test.DifferWhere some from to one other) =
    IsTrue (not (nat_le from (number_in words some) && nat_le (number_in words some) to
    && number_in words one == number_in words other))
Holds words (test.IsAmong some by first second third fourth) =
    IsTrue (is_among (set_by (number_in words by % 4) first second third fourth)
    (number_in words some))
Holds words (test.DifferAmong some set one other) =
    IsTrue (not (is_among set (number_in words some)
    && number_in words one == number_in words other))
Holds words test.AddsLow12 = IsTrue (adds_low12 (field words.first 0 7) (field words.first 12 15))

abbrev pub AllHold : Words → List WordTest → Type 0
AllHold words [] = ⊤
AllHold words (t ∷ ts) = Holds words t × AllHold words ts

-- Instructions of n bytes for which all tests hold are at an offset.
abbrev pub AreAt : List ℕ → ℕ → ℕ → List WordTest → Type 0
AreAt section o len tests =
    (o + len ≤ length section) × AllHold (words_at section o len) tests

-- an offset is a multiple of 4, if it has to be
abbrev pub IsPlaced : Bool → ℕ → Type 0
IsPlaced false o = ⊤
IsPlaced true o = o % 4 ≡ 0

-- Those of a row are.
abbrev pub IsFor : Original → List ℕ → ℕ → Type 0
IsFor row section o =
    (row.len ≡ 0)
    ⊎ (row.back ≤ o) × AreAt section (o - row.back) row.len row.tests.now
    × IsPlaced row.aligned (o - row.back)

-- what isn't made of bits that are kept and set
abbrev pub special_of : Special → ℕ → ℕ
special_of specials.ToD = by_displacement
special_of specials.ToDs = by_word_displacement
special_of specials.ToEither = direct
special_of specials.ToMove = to_move

abbrev pub made : Option Special → ℕ → ℕ → ℕ → ℕ
made None word keep set = bit_or (bit_and word keep) set
made (Some special) word keep set = special_of special word

-- an instruction that is written, by the one before
abbrev pub edited : ℕ → WordEdit → ℕ
edited word edit = made edit.special word edit.keep edit.set

-- the instruction whose bits it has
abbrev pub word_of : Bool → List ℕ → ℕ
word_of false window = from_le_bytes w32 window
word_of true window = from_le_bytes w32 (drop 4 window)

-- one of 2 bytes, or of 4
abbrev pub edit_of : Bool → ℕ → WordEdit → Rewrite
edit_of half back edit =
    replaces back (if half then 2 else 4) (λ window.
    if half then to_le_bytes w16 (edited (from_le_bytes w16 window) edit)
    else to_le_bytes w32 (edited (from_le_bytes w32 window) edit))

abbrev pub edits : Bool → ℕ → List WordEdit → Option Rewrite
edits half back [] = None
edits half back (edit ∷ []) = Some (edit_of half back edit)
edits half back (first ∷ second ∷ more) =
    Some (replaces back 8 (λ window.
    to_le_bytes w64 (edited (from_le_bytes w32 window) first
    + edited (word_of second.of_second window) second * 2 ^ 32)))

-- a row's rewrite
abbrev pub row_rewrite : Replacement → Option Rewrite
row_rewrite row = edits row.half row.back row.edits.now

-- It can be done at an offset, and what it requires is there.
abbrev pub CanApply : Replacement → List ℕ → ℕ → Type 0
CanApply row section o =
    let window = window_of_rewrite (row_rewrite row) in
    (window.len ≡ 0)
    ⊎ CanRewrite (row_rewrite row) section o
    × IfSome row.required (Holds (words_at section (o - window.back) window.len))
