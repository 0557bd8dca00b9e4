-- How ELF files and psABI documents name a relocation.
use Rattle.std.specs.Prelude.{List, codes, ℕ, ⊤, ◌≡◌}

-- the `r_type` of ELF files with the name; or one without a name
pub data ElfName : Type 0 where
  named : ℕ → List ℕ → ElfName
  unnamed : ℕ → ElfName

abbrev pub r_type_of : ElfName → ℕ
r_type_of (named r_type text) = r_type
r_type_of (unnamed r_type) = r_type

abbrev pub text_of : ElfName → List ℕ
text_of (named r_type text) = text
text_of (unnamed r_type) = codes "unknown relocation"

abbrev pub IsNamed : ElfName → Type 0
IsNamed (named r_type text) = ⊤
IsNamed (unnamed r_type) = ⊥

-- the name of an `r_type`: it has this one, and has no text (`Other`) only where no name with a
-- text has it
pub record IsNameOf {A : Type 0} (elf : A → ElfName) (r_type : ℕ) (name : A) : Type 0 where
  pub r_type_is : r_type_of (elf name) ≡ r_type
  pub named : (other : A) → IsNamed (elf other) → r_type_of (elf other) ≡ r_type → name ≡ other
