use Rattle.linker_base.proofs.Imports.{length, take, vec_capacity, vec_len, ◌≡◌}
use Rattle.linker_base.proofs.relaxation.map.RelaxDeltaMap.clone.Given as goal

abbrev pub invariant-loop-section_index : goal.invariant-loop-section_index
invariant-loop-section_index l = record {
  room : vec_capacity l.entries ≡ length l.sections;
  pushed : vec_len l.entries ≡ l.section_index-index;
  copied : l.entries.items ≡ take l.section_index-index l.sections;
}
