use Rattle.linker_output.proofs.Imports.{Leaves, address_fault, capped, drop, length, words_from, words_of, ◌+◌, ◌<◌, ◌^◌, ◌≡◌, ◌≤◌}
use Rattle.linker_output.specs.Inner.Relr.{put_all}
use Rattle.linker_output.proofs.relr.encode.Given as goal

-- what is left gives what the whole gives
abbrev pub invariant-loop-address : goal.invariant-loop-address
invariant-loop-address l =
    let rest = drop l.address-index l.others in
    record {
      fault : address_fault (l.last + 1) rest ≡ address_fault 0 l.fn.addresses;
      leaves : Leaves l.count (words_from l.base l.bitmap rest) l.words (capped (length (words_of l.fn.addresses))) (put_all 0 (words_of l.fn.addresses) l.fn.words);
      ordered : l.base ≤ l.last;
      fits : l.count < 2 ^ 64;
    }
