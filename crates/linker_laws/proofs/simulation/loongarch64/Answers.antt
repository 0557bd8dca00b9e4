use Rattle.linker_elf.specs.declared.loongarch64.relocations.LoongArch64Relocation.TheVariants.{R_LARCH_TLS_DESC_PC_HI20, R_LARCH_TLS_IE_PC_HI20}
use Rattle.linker_laws.proofs.LoongArchGroups as proofs
use Rattle.linker_laws.proofs.simulation.loongarch64.Goals as goal

pub returns : goal.returns
returns c =
    let laws = c.loongarch64.ensures in
    record {
      groups = record {
        got = proofs.are_loads laws.relative;
        near_got = proofs.are_near_loads laws.relative laws.branches;
        address = proofs.are_near_sums laws.relative laws.branches;
        near_entries = proofs.are_near_entries laws.relative laws.branches;
        high_halves = proofs.high_half_made R_LARCH_TLS_IE_PC_HI20 proofs.page_of_entry;
        no_high_halves = proofs.no_high_half R_LARCH_TLS_IE_PC_HI20 proofs.page_of_entry;
        low_halves = proofs.are_low_halves;
        short_low_halves = proofs.are_short_low_halves;
        descriptor_high_halves = proofs.high_half_made R_LARCH_TLS_DESC_PC_HI20 proofs.page_of_descriptor;
        no_descriptor_high_halves = proofs.no_high_half R_LARCH_TLS_DESC_PC_HI20 proofs.page_of_descriptor;
        deleted_descriptor_high_halves = proofs.are_deleted_descriptor_high_halves;
        descriptor_entries = proofs.are_descriptor_pages;
        descriptor_low_halves = proofs.are_descriptor_low_halves;
        short_descriptor_low_halves = proofs.are_short_descriptor_low_halves;
        descriptor_entry_loads = proofs.are_descriptor_entry_loads;
        descriptor_loads = proofs.are_descriptor_loads;
        deleted_descriptor_loads = proofs.are_deleted_descriptor_loads;
        descriptor_calls = proofs.are_descriptor_calls;
        deleted_descriptor_calls = proofs.are_deleted_descriptor_calls;
        high_offsets = proofs.are_high_offsets;
        sums = proofs.are_sums;
        low_offsets = proofs.are_low_offsets;
        calls = proofs.are_calls laws.calls laws.branches;
        others = proofs.are_others;
      };
    }
