-- Single instructions that an emulator executed, and when a state of the definitions is what it
-- left. The tables have the instructions, and what the emulator changed. The numbers before are
-- defined here, and `tools/oracle steps` gives the emulator the same ones.
use Rattle.std.specs.Prelude.{ℕ, zero, suc, ◌+◌, ◌*◌, ◌/◌, ◌%◌, ◌^◌, ◌==◌, ◌&&◌, Bool, true, ◌≡◌}
use Rattle.std.specs.Prelude.{nat_lt, if◌then◌else◌, List, [], ◌∷◌, bit_and}
use Rattle.linker_final.specs.Imports.{byte_at, difference_64, list_all, sum_64}

-- ---- rows

-- A state has a number at each place: those of the registers are at 0 and up. Four are 8 bytes of
-- memory each, and the others are the flags, the address of the instruction, and where the memory
-- begins.
abbrev pub m0 : ℕ
m0 = 96

abbrev pub m1 : ℕ
m1 = 97

abbrev pub m2 : ℕ
m2 = 98

abbrev pub m3 : ℕ
m3 = 99

abbrev pub flags : ℕ
flags = 100

abbrev pub pc : ℕ
pc = 101

abbrev pub at : ℕ
at = 102

-- A row: its own number, the instruction, the numbers before that aren't made of the row's, and the
-- numbers after that aren't as before, each after its place.
pub record Executed : Type 0 where
  pub row : ℕ
  pub code : ℕ
  pub given : List (ℕ × ℕ)
  pub left : List (ℕ × ℕ)

abbrev pub row : ℕ → ℕ → Executed
row number code = record { row = number; code = code; given = []; left = [] }

infixl 70 ◌with◌ ◌=>◌
-- a row with a number before
abbrev pub ◌with◌ : Executed → ℕ × ℕ → Executed
◌with◌ e number = record e { given = number ∷ e.given }

-- a row that leaves a number
abbrev pub ◌=>◌ : Executed → ℕ × ℕ → Executed
◌=>◌ e number = record e { left = number ∷ e.left }

-- those of one instruction, and which bits of the flags are compared
pub record Group : Type 0 where
  pub mask : ℕ
  pub rows : List Executed

abbrev pub group : ℕ → List Executed → Group
group mask rows = record { mask = mask; rows = rows }

-- Functions of which the longer ones end with the shorter: the words of the longest, and a row of
-- each, which has the number of its register in place of an instruction.
pub record Functions : Type 0 where
  pub words : List ℕ
  pub rows : List Executed

abbrev pub functions : List ℕ → List Executed → Functions
functions words rows = record { words = words; rows = rows }

-- ---- before

-- A pseudo-random number below the square of a root: the middle of a square. The root is a power of
-- 2, and written out, since `2 ^ n` takes n steps. `tools/oracle steps` takes the square's bits.
abbrev pub noise : ℕ → ℕ → ℕ
noise root k =
    let n = k * 0x9e3779b97f4a7c15f39cc0605cedc8341082276bf3a27251f86c6a11d0c18e95 % (root * root) in
    n * n / root % (root * root)

-- What is made of a row's number for a place. Code and data are at addresses of 47 bits, and
-- instructions at multiples of a unit.
abbrev pub made_high : ℕ → ℕ → ℕ → ℕ
made_high unit row place =
    let number = noise 0x100000000 (256 * row + place) in
    if place == pc then 7 * 2 ^ 44 + unit * (number % 2 ^ 30) else (
    if place == at then 6 * 2 ^ 44 + number % 2 ^ 30 else number)

-- Or they are in three parts, each instruction within a page of its own, and data above the pages.
abbrev pub made_low : ℕ → ℕ → ℕ
made_low row place =
    let number = noise 0x100000000 (256 * row + place) in
    let part = 2 ^ 33 * (number % 3) in
    if place == pc then part + 2 ^ 20 + 2 ^ 14 * row + 2 ^ 10 + 4 * (number / 3 % 3584) else (
    if place == at then part + 2 ^ 26 + number / 3 % 2 ^ 24 else number)

-- the number that is listed for a place, or else another
abbrev pub listed_or : ℕ → List (ℕ × ℕ) → ℕ → ℕ
listed_or other [] place = other
listed_or other (number ∷ others) place =
    if number.0 == place then number.1 else listed_or other others place

-- numbers by their places, or bytes by their addresses
abbrev pub Numbers : Type 0
Numbers = ℕ → ℕ

-- the numbers before, by what is made of the row's, and those after, by the ones before
abbrev pub before : (ℕ → Numbers) → Executed → Numbers
before made e place = listed_or (made e.row place) e.given place

abbrev pub after : Numbers → Executed → Numbers
after numbers e place = listed_or (numbers place) e.left place

-- the memory at n places as one number, whose low byte is the first
abbrev pub memory_from : ℕ → ℕ → Numbers → ℕ
memory_from zero place numbers = 0
memory_from (suc n) place numbers = numbers place + 2 ^ 64 * memory_from n (place + 1) numbers

abbrev pub memory_in : Numbers → ℕ
memory_in numbers = memory_from 4 m0 numbers

-- the bytes of such a memory by their addresses, where it has n and begins at an address; it
-- is 0 elsewhere
abbrev pub bytes_of : ℕ → ℕ → ℕ → Numbers
bytes_of length start memory address =
    let k = difference_64 address start in
    if nat_lt k length then byte_at k memory else 0

abbrev pub bytes_from : ℕ → ℕ → Numbers
bytes_from start memory = bytes_of 32 start memory

-- ---- what is compared

abbrev pub all_below : ℕ → (ℕ → Bool) → Bool
all_below zero test = true
all_below (suc n) test = test n && all_below n test

-- N bytes from an address on are those of a number.
abbrev pub are_bytes : ℕ → ℕ → ℕ → Numbers → Bool
are_bytes length start number memory =
    all_below length (λ k. memory (sum_64 start k) == byte_at k number)

-- Of a row, by the numbers before, and an instruction of n bytes: each of n registers,
-- the memory and the flags are as the row leaves them, or else as before. The next address is the
-- one that the row leaves, or else that after the instruction.
abbrev pub is_left : ℕ → ℕ → ℕ → Executed → Numbers → Numbers → ℕ → Numbers → ℕ → Bool
is_left registers bytes mask e numbers register next memory flags_after =
    let start = numbers at in
    let memory_after = memory_in (after numbers e) in
    all_below registers (λ r. register r == after numbers e r)
    && are_bytes 32 start memory_after memory
    && next == listed_or (sum_64 (numbers pc) bytes) e.left pc
    && bit_and flags_after mask == bit_and (after numbers e flags) mask

-- Each row of groups passes a test of its numbers before, which are made so.
abbrev pub AllPass : (ℕ → Numbers) → (Group → Numbers → Executed → Bool) → List Group → Type 0
AllPass made test groups =
    list_all (λ (g : Group). list_all (λ e. test g (before made e) e) g.rows) groups ≡ true
