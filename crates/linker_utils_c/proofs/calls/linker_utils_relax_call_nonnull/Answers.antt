use Rattle.linker_utils_c.proofs.Statuses.{via, on_ok, on_err}
use Rattle.linker_utils_c.proofs.calls.linker_utils_relax_call_nonnull.Goals as goal

pub returns : goal.returns
returns c =
    let status = c.call_status.ensures in
    let call = c.relax_call_over.ensures in
    let same = c.new.ensures.same in
    let view = c.new.ensures.valid in
    record {
      listed = status.listed;
      jumps = λ valid success. on_ok c.relax_call_over.result (status.success.0 success) (rw same at (call.jumps (view valid)));
      out_of_section = via status.out_of_section call.out_of_section;
      site_deleted = λ valid. via status.site_deleted (rw same at (call.site_deleted (view valid)));
      odd_distance = λ valid. via status.odd_distance (rw same at (call.odd_distance (view valid)));
      too_far = λ valid. via status.too_far (rw same at (call.too_far (view valid)));
      accepted = λ valid. via status.success (rw same at (call.accepted (view valid)));
      unchanged = λ no. on_err c.relax_call_over.result (λ ok. no (status.success.1 ok)) call.unchanged;
    }
