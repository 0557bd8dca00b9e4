use Rattle.linker_section.proofs.Imports.{drop, length, take, uleb_len, ◌+◌, ◌-◌, ◌≡◌, ◌≤◌}
use Rattle.linker_section.proofs.fields.uleb_len.Given as goal

abbrev pub invariant-loop-len : goal.invariant-loop-len
invariant-loop-len l = record {
  within : l.len ≤ 10;
  inside : l.len ≤ length l.bytes;
  so_far : uleb_len (take 10 l.bytes) ≡ l.len + uleb_len (take (10 - l.len) (drop l.len l.bytes));
}

abbrev pub decreases-loop-len : goal.decreases-loop-len
decreases-loop-len l = 10 - l.len
