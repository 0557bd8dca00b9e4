use Rattle.linker_rewriting.proofs.Imports.{All, IsWrittenDecision, decision_at, decision_in, drop, length, map, take, ℕ, ◌/◌, ◌<◌, ◌≡◌}
use Rattle.linker_rewriting.proofs.riscv_pcrel_groups.set_all.Given as goal

abbrev pub invariant-loop-index : goal.invariant-loop-index
invariant-loop-index l = record {
  set : (n : ℕ) → n < l.index → decision_at (map decision_in l.decisions) n ≡ l.fn.decision;
  form : All IsWrittenDecision (take l.index l.decisions);
  others : drop (length l.relocations / 24) l.decisions ≡ drop (length l.relocations / 24) l.fn.decisions;
}
