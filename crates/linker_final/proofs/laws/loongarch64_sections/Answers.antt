use Rattle.linker_laws.specs.Chains.{one}
use Rattle.linker_final.proofs.LoongArch.{are_in, relocations_are_left, rewrites_are_groups}
use Rattle.linker_final.proofs.SectionRuns.{each_place, runs_are_followed}
use Rattle.linker_final.specs.LoongArchSection.{rewriting}
use Rattle.linker_final.proofs.laws.loongarch64_sections.Goals as goal

pub returns : goal.returns
returns c =
    let laws = c.loongarch64.ensures.groups in
    let groups = rewrites_are_groups laws in
    record {
      places = each_place rewriting are_in;
      groups = groups;
      runs = runs_are_followed rewriting groups (λ code. c.runs.ensures.simulates (one (rewriting.link code)));
      relocations = relocations_are_left laws;
    }
