use Rattle.linker_laws.specs.Chains.{one}
use Rattle.linker_final.specs.X86Section.{rewriting}
use Rattle.linker_final.proofs.SectionRuns.{each_place, runs_are_followed}
use Rattle.linker_final.proofs.X86.{are_in, offsets, rewrites_are_groups}
use Rattle.linker_final.proofs.laws.x86_64_sections.Goals as goal

pub returns : goal.returns
returns c =
    let laws = c.x86_64.ensures.groups in
    let groups = rewrites_are_groups laws in
    record {
      places = each_place rewriting (are_in laws);
      groups = groups;
      runs = runs_are_followed rewriting groups (λ code. c.runs.ensures.simulates (one (rewriting.link code)));
      offsets = offsets laws.block_offsets;
    }
