-- Each name but `Other` has the `r_type` and the text that stand at its index, and stands at its
-- `r_type`: by computation, name by name.
use Rattle.linker_elf.proofs.Imports.{AArch64Relocation, ElfName, IsNameOf, IsNamed, List, LoongArch64Relocation, Ppc64Relocation, RiscVRelocation, X86_64Relocation, [], aarch64_name, ap, arith, get_or, get_or-map, inl, inr, length, lit≤, loongarch_name, map, ppc64_name, r_type_of, range_with_len, refl, riscv_name, slice_get, slice_get_cases, slice_index_or, subst, sym, tag_of, text_of, x86_64_name, ℕ, ◌%◌, ◌+◌, ◌-◌, ◌<◌, ◌^◌, ◌∙◌, ◌∷◌, ◌≡◌, ◌≤◌}
use Rattle.std.specs.Option.{unwrap_or}
use Rattle.std.proofs.lemmas.List.FromFn.{get_or-range_with_len}
use Rattle.linker_elf.specs.contracts.aarch64.relocations.AArch64Relocation as aarch64
use Rattle.linker_elf.specs.declared.aarch64.relocations.TheConstants as aarch64_table
use Rattle.linker_elf.specs.declared.aarch64.relocations.AArch64Relocation.TheVariants as aarch64_names
use Rattle.linker_elf.specs.contracts.riscv64.relocations.RiscVRelocation as riscv64
use Rattle.linker_elf.specs.declared.riscv64.relocations.TheConstants as riscv64_table
use Rattle.linker_elf.specs.declared.riscv64.relocations.RiscVRelocation.TheVariants as riscv64_names
use Rattle.linker_elf.specs.contracts.loongarch64.relocations.LoongArch64Relocation as loongarch64
use Rattle.linker_elf.specs.declared.loongarch64.relocations.TheConstants as loongarch64_table
use Rattle.linker_elf.specs.declared.loongarch64.relocations.LoongArch64Relocation.TheVariants as loongarch64_names
use Rattle.linker_elf.specs.contracts.ppc64.relocations.Ppc64Relocation as ppc64
use Rattle.linker_elf.specs.declared.ppc64.relocations.TheConstants as ppc64_table
use Rattle.linker_elf.specs.declared.ppc64.relocations.Ppc64Relocation.TheVariants as ppc64_names
use Rattle.linker_elf.specs.contracts.x86_64.relocations.X86_64Relocation as x86_64
use Rattle.linker_elf.specs.declared.x86_64.relocations.TheConstants as x86_64_table
use Rattle.linker_elf.specs.declared.x86_64.relocations.X86_64Relocation.TheVariants as x86_64_names

pub aarch64_r_types : (name : AArch64Relocation) → ((r_type : ℕ) → name ≡ aarch64_names.Other r_type → ⊥)
    → slice_index_or aarch64_table.R_TYPES.now (tag_of aarch64.the_type name) 0 ≡ r_type_of (aarch64_name name)
aarch64_r_types (aarch64_names.Other r_type) isnt = absurd (isnt r_type refl)
aarch64_r_types name isnt = refl

pub aarch64_texts : (name : AArch64Relocation) (i : ℕ) → ((r_type : ℕ) → name ≡ aarch64_names.Other r_type → ⊥) → i ≡ tag_of aarch64.the_type name
    → slice_index_or (map (λ text. text.now) aarch64_table.TEXTS.now) i [] ≡ text_of (aarch64_name name)
aarch64_texts (aarch64_names.Other r_type) i isnt is = absurd (isnt r_type refl)
aarch64_texts name i isnt is = ap (λ k. slice_index_or (map (λ text. text.now) aarch64_table.TEXTS.now) k []) is

pub riscv_r_types : (name : RiscVRelocation) → ((r_type : ℕ) → name ≡ riscv64_names.Other r_type → ⊥)
    → slice_index_or riscv64_table.R_TYPES.now (tag_of riscv64.the_type name) 0 ≡ r_type_of (riscv_name name)
riscv_r_types (riscv64_names.Other r_type) isnt = absurd (isnt r_type refl)
riscv_r_types name isnt = refl

pub riscv_texts : (name : RiscVRelocation) (i : ℕ) → ((r_type : ℕ) → name ≡ riscv64_names.Other r_type → ⊥) → i ≡ tag_of riscv64.the_type name
    → slice_index_or (map (λ text. text.now) riscv64_table.TEXTS.now) i [] ≡ text_of (riscv_name name)
riscv_texts (riscv64_names.Other r_type) i isnt is = absurd (isnt r_type refl)
riscv_texts name i isnt is = ap (λ k. slice_index_or (map (λ text. text.now) riscv64_table.TEXTS.now) k []) is

pub loongarch_r_types : (name : LoongArch64Relocation) → ((r_type : ℕ) → name ≡ loongarch64_names.Other r_type → ⊥)
    → slice_index_or loongarch64_table.R_TYPES.now (tag_of loongarch64.the_type name) 0 ≡ r_type_of (loongarch_name name)
loongarch_r_types (loongarch64_names.Other r_type) isnt = absurd (isnt r_type refl)
loongarch_r_types name isnt = refl

pub loongarch_texts : (name : LoongArch64Relocation) (i : ℕ) → ((r_type : ℕ) → name ≡ loongarch64_names.Other r_type → ⊥) → i ≡ tag_of loongarch64.the_type name
    → slice_index_or (map (λ text. text.now) loongarch64_table.TEXTS.now) i [] ≡ text_of (loongarch_name name)
loongarch_texts (loongarch64_names.Other r_type) i isnt is = absurd (isnt r_type refl)
loongarch_texts name i isnt is = ap (λ k. slice_index_or (map (λ text. text.now) loongarch64_table.TEXTS.now) k []) is

pub ppc64_r_types : (name : Ppc64Relocation) → ((r_type : ℕ) → name ≡ ppc64_names.Other r_type → ⊥)
    → slice_index_or ppc64_table.R_TYPES.now (tag_of ppc64.the_type name) 0 ≡ r_type_of (ppc64_name name)
ppc64_r_types (ppc64_names.Other r_type) isnt = absurd (isnt r_type refl)
ppc64_r_types name isnt = refl

pub ppc64_texts : (name : Ppc64Relocation) (i : ℕ) → ((r_type : ℕ) → name ≡ ppc64_names.Other r_type → ⊥) → i ≡ tag_of ppc64.the_type name
    → slice_index_or (map (λ text. text.now) ppc64_table.TEXTS.now) i [] ≡ text_of (ppc64_name name)
ppc64_texts (ppc64_names.Other r_type) i isnt is = absurd (isnt r_type refl)
ppc64_texts name i isnt is = ap (λ k. slice_index_or (map (λ text. text.now) ppc64_table.TEXTS.now) k []) is

pub x86_64_r_types : (name : X86_64Relocation) → ((r_type : ℕ) → name ≡ x86_64_names.Other r_type → ⊥)
    → slice_index_or x86_64_table.R_TYPES.now (tag_of x86_64.the_type name) 0 ≡ r_type_of (x86_64_name name)
x86_64_r_types (x86_64_names.Other r_type) isnt = absurd (isnt r_type refl)
x86_64_r_types name isnt = refl

pub x86_64_texts : (name : X86_64Relocation) (i : ℕ) → ((r_type : ℕ) → name ≡ x86_64_names.Other r_type → ⊥) → i ≡ tag_of x86_64.the_type name
    → slice_index_or (map (λ text. text.now) x86_64_table.TEXTS.now) i [] ≡ text_of (x86_64_name name)
x86_64_texts (x86_64_names.Other r_type) i isnt is = absurd (isnt r_type refl)
x86_64_texts name i isnt is = ap (λ k. slice_index_or (map (λ text. text.now) x86_64_table.TEXTS.now) k []) is

-- ---- names by `r_type`

-- the name at an `r_type` in the parts of a table, each of which begins at an `r_type`
abbrev found : {N : Type 0} → List ℕ → List (List N) → N → ℕ → N
found (first ∷ firsts) (names ∷ parts) other r_type =
    unwrap_or (slice_get names ((r_type + (2 ^ 32 - first)) % 2 ^ 32)) (found firsts parts other r_type)
found firsts parts other r_type = other

-- each name of the parts has the `r_type` of its place
abbrev AreInPlace : {N : Type 0} → (N → ℕ) → List ℕ → List (List N) → Type 0
AreInPlace r_type_in (first ∷ firsts) (names ∷ parts) =
    (map r_type_in names ≡ range_with_len first (length names))
    × ((first + length names ≤ 2 ^ 32) × AreInPlace r_type_in firsts parts)
AreInPlace r_type_in firsts parts = Unit

r_type_found : {N : Type 0} (r_type_in : N → ℕ) (firsts : List ℕ) (parts : List (List N)) (other : N) (r_type : ℕ)
    → AreInPlace r_type_in firsts parts → r_type < 2 ^ 32 → r_type_in other ≡ r_type → r_type_in (found firsts parts other r_type) ≡ r_type
r_type_found r_type_in [] parts other r_type placed small is = is
r_type_found r_type_in (first ∷ firsts) [] other r_type placed small is = is
r_type_found r_type_in (first ∷ firsts) (names ∷ parts) other r_type placed small is =
    let i = (r_type + (2 ^ 32 - first)) % 2 ^ 32 in
    let rest = found firsts parts other r_type in
    elim (slice_get_cases names i).1 [
      | inl (name, within, is_at, read) ↦
          ap (λ n. r_type_in (unwrap_or n rest)) is_at
          ∙ (sym (get_or-map r_type_in names i name (r_type_in name) within ∙ ap r_type_in read)
          ∙ (ap (λ xs. get_or xs i (r_type_in name)) (placed.0)
          ∙ (get_or-range_with_len first (length names) i (r_type_in name) within ∙ omega (arith, placed.1.0))))
      | inr (beyond, none) ↦
          ap (λ n. r_type_in (unwrap_or n rest)) none
          ∙ r_type_found r_type_in firsts parts other r_type (placed.1.1) small is
    ]

-- it is the name of the `r_type`, if each name with a text is at its `r_type`
is_name : {N : Type 0} (elf : N → ElfName) (firsts : List ℕ) (parts : List (List N)) (other : N) (r_type : ℕ)
    → AreInPlace (λ name. r_type_of (elf name)) firsts parts
    → ((name : N) → IsNamed (elf name) → found firsts parts other (r_type_of (elf name)) ≡ name)
    → r_type < 2 ^ 32 → r_type_of (elf other) ≡ r_type → IsNameOf elf r_type (found firsts parts other r_type)
is_name elf firsts parts other r_type placed there small is =
    record {
      r_type_is = r_type_found (λ name. r_type_of (elf name)) firsts parts other r_type placed small is;
      named = λ name named same. subst (λ k. found firsts parts other k ≡ name) same (there name named);
    }

pub aarch64_is_name : (r_type : ℕ) → r_type < 2 ^ 32
    → IsNameOf aarch64_name r_type (found (0 ∷ 257 ∷ 512 ∷ []) (map (λ names. names.now) aarch64_table.NAMES.now) (aarch64_names.Other r_type) r_type)
aarch64_is_name r_type small =
    is_name aarch64_name (0 ∷ 257 ∷ 512 ∷ []) (map (λ names. names.now) aarch64_table.NAMES.now) (aarch64_names.Other r_type) r_type (refl, (lit≤ tt, (refl, (lit≤ tt, (refl, (lit≤ tt, tt)))))) there small refl
  where
    there : (name : AArch64Relocation) → IsNamed (aarch64_name name)
        → found (0 ∷ 257 ∷ 512 ∷ []) (map (λ names. names.now) aarch64_table.NAMES.now) (aarch64_names.Other r_type) (r_type_of (aarch64_name name)) ≡ name
    there (aarch64_names.Other other) named = absurd named
    there name named = refl

pub riscv_is_name : (r_type : ℕ) → r_type < 2 ^ 32
    → IsNameOf riscv_name r_type (found (0 ∷ []) (map (λ names. names.now) riscv64_table.NAMES.now) (riscv64_names.Other r_type) r_type)
riscv_is_name r_type small =
    is_name riscv_name (0 ∷ []) (map (λ names. names.now) riscv64_table.NAMES.now) (riscv64_names.Other r_type) r_type (refl, (lit≤ tt, tt)) there small refl
  where
    there : (name : RiscVRelocation) → IsNamed (riscv_name name)
        → found (0 ∷ []) (map (λ names. names.now) riscv64_table.NAMES.now) (riscv64_names.Other r_type) (r_type_of (riscv_name name)) ≡ name
    there (riscv64_names.Other other) named = absurd named
    there name named = refl

pub loongarch_is_name : (r_type : ℕ) → r_type < 2 ^ 32
    → IsNameOf loongarch_name r_type (found (0 ∷ []) (map (λ names. names.now) loongarch64_table.NAMES.now) (loongarch64_names.Other r_type) r_type)
loongarch_is_name r_type small =
    is_name loongarch_name (0 ∷ []) (map (λ names. names.now) loongarch64_table.NAMES.now) (loongarch64_names.Other r_type) r_type (refl, (lit≤ tt, tt)) there small refl
  where
    there : (name : LoongArch64Relocation) → IsNamed (loongarch_name name)
        → found (0 ∷ []) (map (λ names. names.now) loongarch64_table.NAMES.now) (loongarch64_names.Other r_type) (r_type_of (loongarch_name name)) ≡ name
    there (loongarch64_names.Other other) named = absurd named
    there name named = refl

pub ppc64_is_name : (r_type : ℕ) → r_type < 2 ^ 32
    → IsNameOf ppc64_name r_type (found (0 ∷ 249 ∷ []) (map (λ names. names.now) ppc64_table.NAMES.now) (ppc64_names.Other r_type) r_type)
ppc64_is_name r_type small =
    is_name ppc64_name (0 ∷ 249 ∷ []) (map (λ names. names.now) ppc64_table.NAMES.now) (ppc64_names.Other r_type) r_type (refl, (lit≤ tt, (refl, (lit≤ tt, tt)))) there small refl
  where
    there : (name : Ppc64Relocation) → IsNamed (ppc64_name name)
        → found (0 ∷ 249 ∷ []) (map (λ names. names.now) ppc64_table.NAMES.now) (ppc64_names.Other r_type) (r_type_of (ppc64_name name)) ≡ name
    there (ppc64_names.Other other) named = absurd named
    there name named = refl
