use Rattle.linker_output.proofs.Imports.{capped, drop, length, relocated, word_fault, ◌*◌, ◌+◌, ◌^◌, ◌≤◌}
use Rattle.linker_output.specs.Inner.Relr.{put_all}
use Rattle.linker_output.proofs.RelrLists.{Reads}
use Rattle.linker_output.proofs.relr.decode.Given as goal

-- what is left gives what the whole gives
abbrev pub invariant-loop-word : goal.invariant-loop-word
invariant-loop-word l =
    let whole = relocated 0 l.fn.words in
    record {
      reads : Reads l.base (drop l.word-index l.words) l.count l.addresses (word_fault 0 l.fn.words) (capped (length whole)) (put_all 0 whole l.fn.addresses);
      bounded : l.base ≤ 2 ^ 64 + 504 * l.word-index + 8;
    }
