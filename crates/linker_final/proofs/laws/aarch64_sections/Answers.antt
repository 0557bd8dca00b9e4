use Rattle.linker_laws.specs.Chains.{one}
use Rattle.linker_final.proofs.AArch64.{are_in, rewrites_are_groups}
use Rattle.linker_final.proofs.SectionRuns.{each_place, runs_are_followed}
use Rattle.linker_final.proofs.Imports.{rewriting}
use Rattle.linker_final.proofs.laws.aarch64_sections.Goals as goal

pub returns : goal.returns
returns c =
    let groups = rewrites_are_groups c.aarch64.ensures.groups in
    record {
      places = each_place rewriting are_in;
      groups = groups;
      runs = runs_are_followed rewriting groups (λ code. c.runs.ensures.simulates (one (rewriting.link code)));
    }
