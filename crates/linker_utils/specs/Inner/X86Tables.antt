-- x86-64: the instructions that the entries of the code are for.
use Rattle.linker_utils.specs.Imports.{List, RewriteKind, Tables, X86_64Relocation, [], ℕ, ⊤}
use Rattle.std.specs.Prelude.{◌≡◌, ◌∷◌}
use Rattle.std.proofs.Common.{subst, refl}
use Rattle.linker_utils.specs.X86Rewrites.{HasPattern, Table, x86_64_table, x86_64_after}
use Rattle.linker_utils.specs.X86Rewrites.{opcode_at}
use Rattle.linker_utils.specs.X86Rewrites.{Original, original, legacy, lea_of_descriptor}
use Rattle.linker_utils.specs.declared.x86_64.choices.Pattern.{Pattern}
use Rattle.linker_utils.specs.declared.x86_64.choices.Pattern.TheVariants as pattern
use Rattle.linker_utils.specs.declared.x86_64.rewrites.RewriteKind.TheVariants as kinds
use Rattle.linker_elf.specs.declared.x86_64.relocations.X86_64Relocation.TheVariants as r

abbrev pub pattern_instructions : Pattern → List Original
pattern_instructions pattern.OfRewrite = original 0 [] ∷ []
pattern_instructions (pattern.Legacy n opcode) = legacy n opcode
pattern_instructions (pattern.LeaOfDescriptor n) = lea_of_descriptor n

abbrev pub MatchesPattern : Pattern → RewriteKind → List ℕ → ℕ → Type 0
MatchesPattern originals = HasPattern (pattern_instructions originals)

-- the table of a relocation at an offset
abbrev pub table_at : X86_64Relocation → List ℕ → ℕ → Table
table_at name section o = x86_64_table name (opcode_at name section o)

-- the tables
abbrev pub x86_64_tables : Tables RewriteKind X86_64Relocation
x86_64_tables =
    record {
      entries = λ name section o. (table_at name section o).entries;
      required = λ name section o. HasPattern (table_at name section o).instructions;
      after = x86_64_after;
      no_op = kinds.NoOp;
    }

-- ---- which relocations have entries

abbrev IsListed : {A : Type 0} → List A → Type 0
IsListed [] = ⊥
IsListed (x ∷ xs) = ⊤

some_entry : {A : Type 0} → (x : A) (xs : List A) → x ∷ xs ≡ [] → ⊥
some_entry x xs none = subst IsListed none tt

-- a relocation that has none with the opcode of `mov` has none with any
no_entries : (name : X86_64Relocation) (opcode : ℕ) → (x86_64_table name 0x8b).entries ≡ []
    → (x86_64_table name opcode).entries ≡ []
no_entries r.R_X86_64_NONE opcode none = none
no_entries r.R_X86_64_64 opcode none = none
no_entries r.R_X86_64_PC32 opcode none = none
no_entries r.R_X86_64_GOT32 opcode none = none
no_entries r.R_X86_64_PLT32 opcode none = none
no_entries r.R_X86_64_GOTPCREL opcode none = absurd (some_entry _ _ none)
no_entries r.R_X86_64_32 opcode none = none
no_entries r.R_X86_64_32S opcode none = none
no_entries r.R_X86_64_16 opcode none = none
no_entries r.R_X86_64_PC16 opcode none = none
no_entries r.R_X86_64_8 opcode none = none
no_entries r.R_X86_64_PC8 opcode none = none
no_entries r.R_X86_64_DTPOFF64 opcode none = none
no_entries r.R_X86_64_TPOFF64 opcode none = none
no_entries r.R_X86_64_TLSGD opcode none = none
no_entries r.R_X86_64_TLSLD opcode none = none
no_entries r.R_X86_64_DTPOFF32 opcode none = none
no_entries r.R_X86_64_GOTTPOFF opcode none = absurd (some_entry _ _ none)
no_entries r.R_X86_64_TPOFF32 opcode none = none
no_entries r.R_X86_64_PC64 opcode none = none
no_entries r.R_X86_64_GOTOFF64 opcode none = none
no_entries r.R_X86_64_GOTPC32 opcode none = none
no_entries r.R_X86_64_GOT64 opcode none = none
no_entries r.R_X86_64_GOTPC64 opcode none = none
no_entries r.R_X86_64_PLTOFF64 opcode none = none
no_entries r.R_X86_64_SIZE32 opcode none = none
no_entries r.R_X86_64_SIZE64 opcode none = none
no_entries r.R_X86_64_GOTPC32_TLSDESC opcode none = none
no_entries r.R_X86_64_TLSDESC_CALL opcode none = none
no_entries r.R_X86_64_GOTPCRELX opcode none = absurd (some_entry _ _ none)
no_entries r.R_X86_64_REX_GOTPCRELX opcode none = absurd (some_entry _ _ none)
no_entries r.R_X86_64_CODE_4_GOTPCRELX opcode none = absurd (some_entry _ _ none)
no_entries r.R_X86_64_CODE_4_GOTTPOFF opcode none = absurd (some_entry _ _ none)
no_entries r.R_X86_64_CODE_4_GOTPC32_TLSDESC opcode none = none
no_entries r.R_X86_64_CODE_5_GOTPCRELX opcode none = none
no_entries r.R_X86_64_CODE_5_GOTTPOFF opcode none = none
no_entries r.R_X86_64_CODE_5_GOTPC32_TLSDESC opcode none = none
no_entries r.R_X86_64_CODE_6_GOTPCRELX opcode none = absurd (some_entry _ _ none)
no_entries r.R_X86_64_CODE_6_GOTTPOFF opcode none = absurd (some_entry _ _ none)
no_entries r.R_X86_64_CODE_6_GOTPC32_TLSDESC opcode none = none
no_entries (r.Other code) opcode none = none

sampled_opcode : (name : X86_64Relocation) → opcode_at name (0x8b ∷ []) 2 ≡ 0x8b
sampled_opcode r.R_X86_64_GOTPCREL = refl
sampled_opcode name = refl

-- which is the opcode of a section of that byte
pub none_sampled : (name : X86_64Relocation)
    → (x86_64_table name (opcode_at name (0x8b ∷ []) 2)).entries ≡ []
    → (opcode : ℕ) → (x86_64_table name opcode).entries ≡ []
none_sampled name none opcode =
    no_entries name opcode
    (subst (λ n. (x86_64_table name n).entries ≡ []) (sampled_opcode name) none)
