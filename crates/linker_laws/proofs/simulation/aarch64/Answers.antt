use Rattle.linker_laws.proofs.AArch64AdrGroups.{are_add_to_adr, are_adr_and_nop, are_ldr_to_adr, are_load_to_nop_and_adr, are_nop_and_adr}
use Rattle.linker_laws.proofs.AArch64DescriptorGroups.{are_to_initial_exec, are_to_local_exec}
use Rattle.linker_laws.proofs.AArch64Groups.{are_loads, are_high_halves, are_low_halves, are_branches}
use Rattle.linker_laws.proofs.Agreement.{others_agree}
use Rattle.linker_laws.proofs.Imports.{link, refl}
use Rattle.linker_laws.specs.AArch64Groups.{does}
use Rattle.linker_laws.proofs.simulation.aarch64.Goals as goal

pub returns : goal.returns
returns c =
    let laws = c.aarch64.ensures in
    record {
      groups = record {
        loads = are_loads laws.relative laws.entries;
        nop_and_adr = are_nop_and_adr laws.relative laws.literals;
        load_to_nop_and_adr = are_load_to_nop_and_adr laws.entries laws.literals;
        adr_and_nop = are_adr_and_nop laws.relative laws.literals;
        add_to_adr = are_add_to_adr laws.literals;
        ldr_to_adr = are_ldr_to_adr laws.literals;
        high_halves = are_high_halves;
        low_halves = are_low_halves;
        descriptor_to_local_exec = are_to_local_exec laws.entries laws.thread_moves;
        descriptor_to_initial_exec = are_to_initial_exec laws.entries;
        branches = are_branches laws.branches;
        others = λ c. others_agree (does c.others) (link c) (λ code s. refl);
      };
    }
