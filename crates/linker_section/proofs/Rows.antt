-- An `r_type` has one row.
use Rattle.linker_section.proofs.Imports.{AArch64Relocation, Architecture, ElfName, IsNamed, IsNamedValue, IsRow, LoongArch64Relocation, None, Option, Ppc64Relocation, RiscVRelocation, RowInfo, Some, X86_64Relocation, aarch64_name, aarch64_row, ap, inl, inr, loongarch_name, loongarch_row, named, ppc64_name, ppc64_row, refl, riscv_name, riscv_relocation, sym, unnamed, x86_64_name, x86_64_row, ℕ, ◌∙◌, ◌≡◌, ◌⊎◌}
use Rattle.linker_elf.specs.declared.elf.architecture.Architecture.TheVariants.{AArch64, X86_64, RiscV, LoongArch64, Ppc64}
use Rattle.linker_elf.specs.declared.aarch64.relocations.AArch64Relocation.TheVariants as aarch64_names
use Rattle.linker_elf.specs.declared.loongarch64.relocations.LoongArch64Relocation.TheVariants as loongarch64_names
use Rattle.linker_elf.specs.declared.ppc64.relocations.Ppc64Relocation.TheVariants as ppc64_names
use Rattle.linker_elf.specs.declared.riscv64.relocations.RiscVRelocation.TheVariants as riscv64_names
use Rattle.linker_elf.specs.declared.x86_64.relocations.X86_64Relocation.TheVariants as x86_64_names

-- ---- names without a text have no row

aarch64_unnamed : (name : AArch64Relocation) → (IsNamed (aarch64_name name) → ⊥) → aarch64_row name ≡ None
aarch64_unnamed (aarch64_names.Other r_type) isnt = refl
aarch64_unnamed _ isnt = absurd (isnt tt)

riscv64_unnamed : (name : RiscVRelocation) → (IsNamed (riscv_name name) → ⊥) → (riscv_relocation name).row ≡ None
riscv64_unnamed (riscv64_names.Other r_type) isnt = refl
riscv64_unnamed _ isnt = absurd (isnt tt)

loongarch64_unnamed : (name : LoongArch64Relocation) → (IsNamed (loongarch_name name) → ⊥) → loongarch_row name ≡ None
loongarch64_unnamed (loongarch64_names.Other r_type) isnt = refl
loongarch64_unnamed _ isnt = absurd (isnt tt)

ppc64_unnamed : (name : Ppc64Relocation) → (IsNamed (ppc64_name name) → ⊥) → ppc64_row name ≡ None
ppc64_unnamed (ppc64_names.Other r_type) isnt = refl
ppc64_unnamed _ isnt = absurd (isnt tt)

x86_64_unnamed : (name : X86_64Relocation) → (IsNamed (x86_64_name name) → ⊥) → x86_64_row name ≡ None
x86_64_unnamed (x86_64_names.Other r_type) isnt = refl
x86_64_unnamed _ isnt = absurd (isnt tt)

-- ---- so an `r_type` has one row

pub is_named_or_not : (elf : ElfName) → IsNamed elf ⊎ (IsNamed elf → ⊥)
is_named_or_not (named r_type text) = inl tt
is_named_or_not (unnamed r_type) = inr (λ is. is)

pub of_one : {Name A : Type 0} (elf : Name → ElfName) (value_of : Name → A) (none : A) (r_type : ℕ)
    (x y : A) → ((name : Name) → (IsNamed (elf name) → ⊥) → value_of name ≡ none)
    → IsNamedValue elf value_of r_type x → IsNamedValue elf value_of r_type y → x ≡ y
of_one elf value_of none r_type x y unnamed_is a b =
    elim (is_named_or_not (elf a.name)) [
      | inl is ↦
          a.value_is ∙ (sym (ap value_of (b.is_name.named a.name is a.is_name.r_type_is)) ∙ sym b.value_is)
      | inr isnt ↦ elim (is_named_or_not (elf b.name)) [
        | inl is ↦ a.value_is ∙ (ap value_of (a.is_name.named b.name is b.is_name.r_type_is) ∙ sym b.value_is)
        | inr other ↦
            a.value_is ∙ (unnamed_is a.name isnt ∙ (sym (unnamed_is b.name other) ∙ sym b.value_is))
      ]
    ]

pub one_row : (architecture : Architecture) (r_type : ℕ) (x y : Option RowInfo)
    → IsRow architecture r_type x → IsRow architecture r_type y → x ≡ y
one_row AArch64 r_type x y = of_one aarch64_name aarch64_row None r_type x y aarch64_unnamed
one_row RiscV r_type x y = of_one riscv_name (λ name. (riscv_relocation name).row) None r_type x y riscv64_unnamed
one_row LoongArch64 r_type x y = of_one loongarch_name loongarch_row None r_type x y loongarch64_unnamed
one_row Ppc64 r_type x y = of_one ppc64_name ppc64_row None r_type x y ppc64_unnamed
one_row X86_64 r_type x y = of_one x86_64_name x86_64_row None r_type x y x86_64_unnamed

of_some : RowInfo → Option RowInfo → RowInfo
of_some other (Some row) = row
of_some other None = other

pub one_info : (architecture : Architecture) (r_type : ℕ) (x y : RowInfo)
    → IsRow architecture r_type (Some x) → IsRow architecture r_type (Some y) → x ≡ y
unfolding of_some
one_info architecture r_type x y a b = ap (of_some x) (one_row architecture r_type (Some x) (Some y) a b)
