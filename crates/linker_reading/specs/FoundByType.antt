-- What a linker made of a relocation, by its architecture and its `r_type`.
use Rattle.linker_reading.specs.Imports.{Architecture, FieldBits, IsNameOf, List, Option}
use Rattle.linker_reading.specs.Imports.{Recognised, Relaxation, Some, choice, map, r_type_of, ℕ}
use Rattle.std.specs.Prelude.{◌≡◌, ◌↔◌}
use Rattle.linker_elf.specs.declared.elf.choice.LinkFacts.{LinkFacts}
use Rattle.linker_reading.specs.Recognised.{Recogniser, IsChosen, IsMade, IsFound}
use Rattle.linker_reading.specs.Recognised.{AreExactly, ArePlaced, choices_at}
use Rattle.linker_reading.specs.AArch64Recogniser.{aarch64}
use Rattle.linker_reading.specs.RiscVRecogniser.{riscv}
use Rattle.linker_reading.specs.LoongArchRecogniser.{loongarch}
use Rattle.linker_reading.specs.Ppc64Recogniser.{ppc64}
use Rattle.linker_reading.specs.X86Recogniser.{x86_64}
use Rattle.linker_elf.specs.Architectures.{of_some}
use Rattle.linker_elf.specs.declared.elf.architecture.Architecture.TheVariants.{AArch64, RiscV}
use Rattle.linker_elf.specs.declared.elf.architecture.Architecture.TheVariants.{LoongArch64}
use Rattle.linker_elf.specs.declared.elf.architecture.Architecture.TheVariants.{Ppc64, X86_64}

-- the same with the rewrite as one of all architectures', and the relocation's `r_type`
abbrev pub by_type : {K R : Type 0} → Recogniser K R → Recognised K R → Recognised Relaxation ℕ
by_type it m =
    record {
      choice = choice (it.relaxation m.choice.kind) (r_type_of (it.elf_name m.choice.relocation));
      offset = m.offset;
      value = m.value;
    }

-- Those that were found for the name of an `r_type`, in their order.
pub record AreFoundBy {K R : Type 0} (it : Recogniser K R) (r_type : ℕ) (original : List ℕ) (o : ℕ)
    (others : List FieldBits) (linked : List ℕ) (found : List (Option (Recognised Relaxation ℕ)))
    : Type 0 where
  pub name : R
  pub named : List (Option (Recognised K R))
  pub is_name : IsNameOf it.elf_name r_type name
  pub those : AreExactly (IsFound it name original o others linked) named
  pub placed : ArePlaced (choices_at it name original o) named
  pub found_are : found ≡ map (of_some (by_type it)) named

-- those of a relocation of an architecture
abbrev pub AreFound : Architecture → ℕ → List ℕ → ℕ → List FieldBits → List ℕ
    → List (Option (Recognised Relaxation ℕ)) → Type 0
AreFound AArch64 = AreFoundBy aarch64
AreFound RiscV = AreFoundBy riscv
AreFound LoongArch64 = AreFoundBy loongarch
AreFound Ppc64 = AreFoundBy ppc64
AreFound X86_64 = AreFoundBy x86_64

-- What was found for the name of an `r_type`: the choice by what a linker knows, if it leaves the
-- linked bytes, and what is read of its relocation.
pub record IsFoundBy {K R : Type 0} (it : Recogniser K R) (r_type : ℕ) (original : List ℕ) (o : ℕ)
    (others : List FieldBits) (linked : List ℕ) (facts : LinkFacts)
    (found : Option (Recognised Relaxation ℕ)) : Type 0 where
  pub name : R
  pub named : Option (Recognised K R)
  pub is_name : IsNameOf it.elf_name r_type name
  pub exactly : (m : Recognised K R) → (named ≡ Some m)
      ↔ (IsChosen it name original o facts m.choice × IsMade it original o others linked m)
  pub found_is : found ≡ of_some (by_type it) named

-- that of a relocation of an architecture
abbrev pub IsFoundChosen : Architecture → ℕ → List ℕ → ℕ → List FieldBits → List ℕ → LinkFacts
    → Option (Recognised Relaxation ℕ) → Type 0
IsFoundChosen AArch64 = IsFoundBy aarch64
IsFoundChosen RiscV = IsFoundBy riscv
IsFoundChosen LoongArch64 = IsFoundBy loongarch
IsFoundChosen Ppc64 = IsFoundBy ppc64
IsFoundChosen X86_64 = IsFoundBy x86_64
