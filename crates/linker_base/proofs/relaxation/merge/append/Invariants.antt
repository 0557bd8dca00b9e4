use Rattle.linker_base.proofs.Imports.{IsValid, RecordsDeletions, bytes_of, take, vec_capacity, vec_len, ◌+◌, ◌≡◌}
use Rattle.linker_base.proofs.relaxation.merge.append.Given as goal

abbrev pub invariant-loop-input_offset : goal.invariant-loop-input_offset
invariant-loop-input_offset l = record {
  front : take (vec_len l.initial.deltas) l.deltas.items ≡ l.initial.deltas.items;
  len : vec_len l.deltas ≡ vec_len l.initial.deltas + l.input_offset-index;
  capacity : vec_capacity l.deltas ≡ vec_capacity l.initial.deltas;
  listing : vec_len l.initial.deltas ≡ 0 → IsValid l.pairs → RecordsDeletions (take l.input_offset-index l.pairs) l.deltas.items;
  sum : IsValid l.pairs → l.cumulative_deleted ≡ bytes_of (take l.input_offset-index l.pairs);
}
