-- The words of a stub's code, and the relocations of its fields.
use Rattle.linker_output.proofs.Imports.{AppliesAt, AreAddresses, IsNamedValue, IsSomeAnd, List, None, Operands, Option, RowInfo, Some, StubCode, StubField, ap, arith, cast_unsigned, drop, drop_at, from_le_bytes, length, operands_of, pos, refl, subst, sum_64, take, w32, w64, ℕ, ◌++◌, ◌<◌, ◌^◌, ◌∙◌, ◌∷◌, ◌≡◌, ◌≤◌}
use Rattle.linker_elf.specs.ElfNames.{ElfName, IsNamed, r_type_of}

abbrev pub word : List ℕ → ℕ
word bytes = from_le_bytes w32 bytes

-- the code of a stub that there is
abbrev pub some_or : StubCode → Option StubCode → StubCode
some_or other None = other
some_or other (Some stub) = stub

-- ---- words of code

pub front_word : (xs : List ℕ) → word (take 4 xs) ≡ word xs
front_word (a ∷ b ∷ c ∷ d ∷ xs) = refl
front_word short = refl

later_word : (xs ys : List ℕ) → 4 ≤ length xs → word (xs ++ ys) ≡ word xs
later_word (a ∷ b ∷ c ∷ d ∷ xs) ys len = refl
later_word short ys len = absurd (omega arith)

second_word : (xs ys : List ℕ) → length xs ≡ 8 → word (drop 4 (xs ++ ys)) ≡ word (drop 4 xs)
second_word (a ∷ b ∷ c ∷ d ∷ xs) ys len = later_word xs ys (omega arith)
second_word short ys len = absurd (omega arith)

-- of code that is a pair and what stands after it
module _ (code pair tail : List ℕ) (len : length pair ≡ 8) (is : code ≡ pair ++ tail) where
  pub first_is : word code ≡ word pair
  first_is = ap word is ∙ later_word pair tail (omega arith)

  pub second_is : word (drop 4 code) ≡ word (drop 4 pair)
  second_is = ap (λ c. word (drop 4 c)) is ∙ second_word pair tail len

  pub third_is : drop 8 code ≡ tail
  third_is = ap (drop 8) is ∙ drop_at pair tail 8 len

-- ---- relocations by their codes

pub applies : {N : Type 0} (elf : N → ElfName) (row_of : N → Option RowInfo) (name : N)
    (field : StubField) (o : Operands) (before after : List ℕ) → IsNamed (elf name)
    → r_type_of (elf name) ≡ field.relocation
    → (row : RowInfo) × IsNamedValue elf row_of field.relocation (Some row) × AppliesAt field o before after row
    → IsSomeAnd (row_of name) (λ row. AppliesAt field o before after row)
applies elf row_of name field o before after named same is =
    subst (λ v. IsSomeAnd v (λ row. AppliesAt field o before after row))
    (is.1.value_is ∙ ap row_of (is.1.is_name.named name named same)) is.2

-- ---- operands

pub no_addend : (n : ℕ) → n < 2 ^ 64 → sum_64 n (cast_unsigned w64 (pos 0)) ≡ n
no_addend n small = omega arith

pub are_addresses : (stub : StubCode) (place target : ℕ) → target < 2 ^ 64
    → AreAddresses (operands_of stub place target)
are_addresses stub place target small =
    record {
      symbol = small;
      place = omega arith;
      got_entry = small;
      got_base = omega arith;
      plt_entry = small;
      tls_base = omega arith;
    }
