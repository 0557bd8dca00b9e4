use Rattle.linker_laws.proofs.RiscVAccesses.{are_accesses}
use Rattle.linker_laws.proofs.RiscVGroups.{are_calls, are_cluis_to_cli, are_fixed_addresses, are_high_offsets, are_high_parts, are_loads, are_long_calls, are_low_addresses, are_low_offsets, are_low_parts, are_luis_to_clui, are_others, are_rewritten_calls, are_short_tail_calls, are_sums, are_to_initial_exec, are_to_local_exec, are_to_short_local_exec}
use Rattle.linker_laws.proofs.simulation.riscv64.Goals as goal

pub returns : goal.returns
returns c =
    let laws = c.riscv64.ensures in
    record {
      groups = record {
        short_high_parts = are_luis_to_clui;
        short_zeros = are_cluis_to_cli;
        no_high_parts = are_high_parts;
        high_offsets = are_high_offsets;
        sums = are_sums;
        low_parts = are_low_parts;
        low_offsets = are_low_offsets;
        accesses = are_accesses;
        calls = are_calls;
        short_tail_calls = are_short_tail_calls;
        long_calls = are_long_calls;
        rewritten_calls = are_rewritten_calls;
        got = are_loads laws.entries laws.relative;
        got_to_fixed_address = are_fixed_addresses laws.entries laws.absolute;
        got_to_low_address = are_low_addresses laws.entries;
        descriptor_to_local_exec = are_to_local_exec laws.descriptors laws.thread;
        descriptor_to_short_local_exec = are_to_short_local_exec laws.descriptors;
        descriptor_to_initial_exec = are_to_initial_exec laws.descriptors laws.entries;
        others = are_others;
      };
    }
