use Rattle.linker_laws.specs.Chains.{one}
use Rattle.linker_final.proofs.Ppc64.{are_in, names_are_left, rewrites_are_groups, rewritten_again}
use Rattle.linker_final.proofs.SectionRuns.{each_place, runs_are_followed}
use Rattle.linker_final.specs.Ppc64Section.{rewriting}
use Rattle.linker_final.proofs.laws.ppc64_sections.Goals as goal

pub returns : goal.returns
returns c =
    let laws = c.ppc64.ensures.groups in
    let groups = rewrites_are_groups laws in
    record {
      places = each_place rewriting (are_in laws);
      groups = groups;
      runs = runs_are_followed rewriting groups (λ code. c.runs.ensures.simulates (one (rewriting.link code)));
      names = names_are_left laws;
      rewritten_again = rewritten_again;
    }
