-- Instructions, and the relocations that are applied to them.
use Rattle.linker_runs.specs.Imports.{IsSomeAnd, List, Option, false, pos, ℕ}
use Rattle.linker_elf.specs.Applied.{IsApplied, IsRejected}
use Rattle.linker_elf.specs.declared.elf.RowInfo.{RowInfo}
use Rattle.linker_elf.specs.declared.elf.value.Operands.{Operands}

-- An instruction or two that go nowhere yet, and the relocation that gives them their target.
pub record Template : Type 0 where
  pub row : Option RowInfo
  pub bytes : List ℕ

-- the operands of a relocation at a place whose symbol, or the symbol's PLT entry, is at the target
abbrev pub operands_of : ℕ → ℕ → Operands
operands_of place target =
    record {
      symbol = target;
      addend = pos 0;
      place = place;
      got_entry = 0;
      got_base = 0;
      plt_entry = target;
      symbol_size = 0;
      tls_base = 0;
      has_got_entry = false;
      has_plt_entry = false;
      has_tls_base = false;
    }

-- its bytes with the relocation applied at the place
abbrev pub IsRelocated : Template → ℕ → ℕ → List ℕ → Type 0
IsRelocated template place target written = IsSomeAnd template.row
    (λ row. IsApplied row (operands_of place target) template.bytes written)

-- the relocation can be applied at the place
abbrev pub IsInReach : Template → ℕ → ℕ → Type 0
IsInReach template place target = IsSomeAnd template.row
    (λ row. (after : List ℕ) × IsApplied row (operands_of place target) template.bytes after)

-- the relocation has no value there, or one that its row rejects
abbrev pub IsOutOfReach : Template → ℕ → ℕ → Type 0
IsOutOfReach template place target = IsSomeAnd template.row
    (λ row. IsRejected row (operands_of place target) template.bytes)
