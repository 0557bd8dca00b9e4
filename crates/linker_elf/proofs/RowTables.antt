-- Each entry of a table of rows is the row of its name, with what a write of it tests and with its
-- numbers: by computation, name by name.
use Rattle.linker_elf.proofs.Imports.{AArch64Relocation, Bool, IfSome, IsEntryOf, IsSound, List, LoongArch64Relocation, None, Option, Ppc64Relocation, R_AARCH64_NONE, R_LARCH_NONE, R_PPC64_NONE, R_RISCV_NONE, R_X86_64_NONE, RiscVRelocation, RowFits, RowInfo, Some, TableRow, X86_64Relocation, aarch64_row, ap, false, if◌then◌else◌, loongarch_raw_row, loongarch_row, ppc64_relocation, ppc64_row, raw_info_in, raw_row, refl, riscv_relocation, riscv_row, slice_index_or, subst, sym, tag_of, true, with_raw_kind, x86_64_relocation, x86_64_row, ℕ, ◌≡◌}
use Rattle.linker_elf.specs.contracts.aarch64.relocations.AArch64Relocation as aarch64
use Rattle.linker_elf.specs.declared.aarch64.relocations.TheConstants as aarch64_table
use Rattle.linker_elf.specs.contracts.riscv64.relocations.RiscVRelocation as riscv64
use Rattle.linker_elf.specs.declared.riscv64.relocations.TheConstants as riscv64_table
use Rattle.linker_elf.specs.contracts.loongarch64.relocations.LoongArch64Relocation as loongarch64
use Rattle.linker_elf.specs.declared.loongarch64.relocations.TheConstants as loongarch64_table
use Rattle.linker_elf.specs.contracts.ppc64.relocations.Ppc64Relocation as ppc64
use Rattle.linker_elf.specs.declared.ppc64.relocations.TheConstants as ppc64_table
use Rattle.linker_elf.specs.contracts.x86_64.relocations.X86_64Relocation as x86_64
use Rattle.linker_elf.specs.declared.x86_64.relocations.TheConstants as x86_64_table

entry_at : {row : Option RowInfo} (table : List (Option TableRow)) (i t : ℕ) → i ≡ t
    → IsEntryOf row (slice_index_or table t None) → IsEntryOf row (slice_index_or table i None)
entry_at {row} table i t is entry = subst (λ k. IsEntryOf row (slice_index_or table k None)) (sym is) entry

pub aarch64_rows : (name : AArch64Relocation) (i : ℕ) → i ≡ tag_of aarch64.the_type name
    → IsEntryOf (aarch64_row name) (slice_index_or aarch64_table.ROWS.now i None)
aarch64_rows R_AARCH64_NONE i is = entry_at aarch64_table.ROWS.now i _ is (record { row_is = refl; entry_is = refl })
aarch64_rows name i is = entry_at aarch64_table.ROWS.now i _ is (record { row_is = refl; entry_is = refl })

pub riscv_rows : (name : RiscVRelocation) (i : ℕ) → i ≡ tag_of riscv64.the_type name
    → IsEntryOf ((riscv_relocation name).row) (slice_index_or riscv64_table.ROWS.now i None)
riscv_rows R_RISCV_NONE i is = entry_at riscv64_table.ROWS.now i _ is (record { row_is = refl; entry_is = refl })
riscv_rows name i is = entry_at riscv64_table.ROWS.now i _ is (record { row_is = refl; entry_is = refl })

pub riscv_raw_rows : (name : RiscVRelocation) (i : ℕ) → i ≡ tag_of riscv64.the_type name
    → raw_info_in (slice_index_or riscv64_table.ROWS.now i None) ≡ riscv_row name
riscv_raw_rows R_RISCV_NONE i is = ap (λ k. raw_info_in (slice_index_or riscv64_table.ROWS.now k None)) is
riscv_raw_rows name i is = ap (λ k. raw_info_in (slice_index_or riscv64_table.ROWS.now k None)) is

pub loongarch_rows : (name : LoongArch64Relocation) (i : ℕ) → i ≡ tag_of loongarch64.the_type name
    → IsEntryOf (loongarch_row name) (slice_index_or loongarch64_table.ROWS.now i None)
loongarch_rows R_LARCH_NONE i is = entry_at loongarch64_table.ROWS.now i _ is (record { row_is = refl; entry_is = refl })
loongarch_rows name i is = entry_at loongarch64_table.ROWS.now i _ is (record { row_is = refl; entry_is = refl })

pub loongarch_raw_rows : (name : LoongArch64Relocation) (i : ℕ) → i ≡ tag_of loongarch64.the_type name
    → with_raw_kind (raw_info_in (slice_index_or loongarch64_table.ROWS.now i None))
    ≡ loongarch_raw_row name
loongarch_raw_rows R_LARCH_NONE i is = ap (λ k. with_raw_kind (raw_info_in (slice_index_or loongarch64_table.ROWS.now k None))) is
loongarch_raw_rows name i is = ap (λ k. with_raw_kind (raw_info_in (slice_index_or loongarch64_table.ROWS.now k None))) is

pub ppc64_rows : (name : Ppc64Relocation) (i : ℕ) → i ≡ tag_of ppc64.the_type name
    → IsEntryOf (ppc64_row name) (slice_index_or ppc64_table.ROWS.now i None)
ppc64_rows R_PPC64_NONE i is = entry_at ppc64_table.ROWS.now i _ is (record { row_is = refl; entry_is = refl })
ppc64_rows name i is = entry_at ppc64_table.ROWS.now i _ is (record { row_is = refl; entry_is = refl })

pub ppc64_raw_rows : (name : Ppc64Relocation) (i : ℕ) → i ≡ tag_of ppc64.the_type name
    → raw_info_in (slice_index_or ppc64_table.ROWS.now i None) ≡ raw_row (ppc64_relocation name)
ppc64_raw_rows R_PPC64_NONE i is = ap (λ k. raw_info_in (slice_index_or ppc64_table.ROWS.now k None)) is
ppc64_raw_rows name i is = ap (λ k. raw_info_in (slice_index_or ppc64_table.ROWS.now k None)) is

pub x86_64_rows : (name : X86_64Relocation) (i : ℕ) → i ≡ tag_of x86_64.the_type name
    → IsEntryOf (x86_64_row name) (slice_index_or x86_64_table.ROWS.now i None)
x86_64_rows R_X86_64_NONE i is = entry_at x86_64_table.ROWS.now i _ is (record { row_is = refl; entry_is = refl })
x86_64_rows name i is = entry_at x86_64_table.ROWS.now i _ is (record { row_is = refl; entry_is = refl })

pub x86_64_raw_rows : (name : X86_64Relocation) (i : ℕ) → i ≡ tag_of x86_64.the_type name
    → raw_info_in (slice_index_or x86_64_table.ROWS.now i None) ≡ raw_row (x86_64_relocation name)
x86_64_raw_rows R_X86_64_NONE i is = ap (λ k. raw_info_in (slice_index_or x86_64_table.ROWS.now k None)) is
x86_64_raw_rows name i is = ap (λ k. raw_info_in (slice_index_or x86_64_table.ROWS.now k None)) is

-- the entry, or another where there is none
abbrev some_or : TableRow → Option TableRow → TableRow
some_or other None = other
some_or other (Some entry) = entry

-- such an entry is sound where the row's bits fit its instruction
pub sound_from : (row : Option RowInfo) (entry : Option TableRow) → IsEntryOf row entry
    → IfSome row RowFits → IfSome entry IsSound
sound_from row None is fits = tt
sound_from row (Some entry) is fits =
    record {
      is = ap (some_or entry) is.entry_is;
      fits = subst (λ r. IfSome r RowFits) (sym is.row_is) fits;
    }

-- what holds of a row holds of it where some rows are left out
pub unless : (P : RowInfo → Type 0) (is : Bool) (row : Option RowInfo)
    → IfSome row P → IfSome (if is then None else row) P
unless P true row holds = tt
unless P false row holds = holds

-- another kind changes no bits
pub raw_kind_fits : (row : Option RowInfo) → IfSome row RowFits → IfSome (with_raw_kind row) RowFits
raw_kind_fits None fits = tt
raw_kind_fits (Some row) fits = record { size = fits.size; aligned = fits.aligned }
