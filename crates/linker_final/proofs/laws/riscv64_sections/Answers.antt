use Rattle.linker_laws.specs.Chains.{one}
use Rattle.linker_final.proofs.RiscV.{are_in, none_is_initial_exec, nops, offsets_are_low, relocations_are_left, rewrites_are_groups}
use Rattle.linker_final.proofs.SectionRuns.{each_place, runs_are_followed}
use Rattle.linker_final.specs.RiscVSection.{rewriting}
use Rattle.linker_final.proofs.laws.riscv64_sections.Goals as goal

pub returns : goal.returns
returns c =
    let laws = c.riscv64.ensures.groups in
    let groups = rewrites_are_groups laws in
    record {
      places = each_place rewriting are_in;
      groups = groups;
      runs = runs_are_followed rewriting groups (λ code. c.runs.ensures.simulates (one (rewriting.link code)));
      relocations = relocations_are_left laws;
      nops = nops;
      offsets_are_low = offsets_are_low;
      none_is_initial_exec = none_is_initial_exec;
    }
