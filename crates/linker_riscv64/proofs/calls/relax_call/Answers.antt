-- What `relax_call_over` says, of the view's deletions.
use Rattle.linker_riscv64.proofs.Imports.{sym}
use Rattle.linker_riscv64.proofs.calls.relax_call.Goals as goal

pub returns : goal.returns
returns c =
    let valid = c.as_delta_slice.ensures.valid in
    let over = c.relax_call_over.ensures in
    rw (sym c.as_delta_slice.ensures.same) (record {
      jumps = over.jumps valid;
      accepted = over.accepted valid;
      out_of_section = over.out_of_section;
      site_deleted = over.site_deleted valid;
      odd_distance = over.odd_distance valid;
      too_far = over.too_far valid;
      unchanged = over.unchanged;
    })
