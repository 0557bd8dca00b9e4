-- How ELF names the relocation with an `r_type`: with a text, or as one of those without.
use Rattle.linker_elf.proofs.Imports.{AArch64Relocation, ElfName, IsNameOf, IsNamed, IsNamedValue, List, LoongArch64Relocation, Ppc64Relocation, RiscVRelocation, X86_64Relocation, aarch64_name, ap, length, lit≤, loongarch_name, named, ppc64_name, r_type_of, refl, riscv_name, sym, text_of, unnamed, x86_64_name, ℕ, ◌∙◌, ◌≡◌, ◌≤◌}
use Rattle.linker_elf.specs.declared.aarch64.relocations.AArch64Relocation.TheVariants as aarch64_names
use Rattle.linker_elf.specs.declared.riscv64.relocations.RiscVRelocation.TheVariants as riscv64_names
use Rattle.linker_elf.specs.declared.loongarch64.relocations.LoongArch64Relocation.TheVariants as loongarch64_names
use Rattle.linker_elf.specs.declared.ppc64.relocations.Ppc64Relocation.TheVariants as ppc64_names
use Rattle.linker_elf.specs.declared.x86_64.relocations.X86_64Relocation.TheVariants as x86_64_names

named_is : (elf : ElfName) (r_type : ℕ) (text : List ℕ) → IsNamed elf → r_type_of elf ≡ r_type → text ≡ text_of elf → named r_type text ≡ elf
named_is (named r t) r_type text is r_type_is text_is = ap (λ k. named k text) (sym r_type_is) ∙ ap (λ k. named r k) text_is
named_is (unnamed r) r_type text is r_type_is text_is = absurd is

pub of_named : {Name : Type 0} (elf : Name → ElfName) (r_type : ℕ) (name : Name) (text : List ℕ) → IsNameOf elf r_type name → IsNamed (elf name) → text ≡ text_of (elf name) → IsNamedValue elf elf r_type (named r_type text)
of_named elf r_type name text is_name is_named text_is =
    record { name = name; is_name = is_name; value_is = named_is (elf name) r_type text is_named is_name.r_type_is text_is }

pub of_unnamed : {Name : Type 0} (elf : Name → ElfName) (r_type : ℕ) (name : Name) (other : ℕ) → IsNameOf elf r_type name → elf name ≡ unnamed other → IsNamedValue elf elf r_type (unnamed r_type)
of_unnamed elf r_type name other is_name is =
    record { name = name; is_name = is_name; value_is = ap unnamed (sym is_name.r_type_is ∙ ap r_type_of is) ∙ sym is }

-- Each name but `Other` has a text, of at most 39 bytes.
abbrev pub IsShort : ElfName → Type 0
IsShort elf = IsNamed elf × (length (text_of elf) ≤ 39)

pub aarch64_is_short : (name : AArch64Relocation) → ((r_type : ℕ) → name ≡ aarch64_names.Other r_type → ⊥) → IsShort (aarch64_name name)
aarch64_is_short (aarch64_names.Other r_type) isnt = absurd (isnt r_type refl)
aarch64_is_short _ isnt = (tt, lit≤ tt)

pub riscv64_is_short : (name : RiscVRelocation) → ((r_type : ℕ) → name ≡ riscv64_names.Other r_type → ⊥) → IsShort (riscv_name name)
riscv64_is_short (riscv64_names.Other r_type) isnt = absurd (isnt r_type refl)
riscv64_is_short _ isnt = (tt, lit≤ tt)

pub loongarch64_is_short : (name : LoongArch64Relocation) → ((r_type : ℕ) → name ≡ loongarch64_names.Other r_type → ⊥) → IsShort (loongarch_name name)
loongarch64_is_short (loongarch64_names.Other r_type) isnt = absurd (isnt r_type refl)
loongarch64_is_short _ isnt = (tt, lit≤ tt)

pub ppc64_is_short : (name : Ppc64Relocation) → ((r_type : ℕ) → name ≡ ppc64_names.Other r_type → ⊥) → IsShort (ppc64_name name)
ppc64_is_short (ppc64_names.Other r_type) isnt = absurd (isnt r_type refl)
ppc64_is_short _ isnt = (tt, lit≤ tt)

pub x86_64_is_short : (name : X86_64Relocation) → ((r_type : ℕ) → name ≡ x86_64_names.Other r_type → ⊥) → IsShort (x86_64_name name)
x86_64_is_short (x86_64_names.Other r_type) isnt = absurd (isnt r_type refl)
x86_64_is_short _ isnt = (tt, lit≤ tt)
