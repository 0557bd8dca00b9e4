use Rattle.linker_utils_c.proofs.Imports.{subst, sym, ◌∙◌}
use Rattle.linker_utils_c.specs.Output.{stub_kind_of, stub_in, IsStubWritten}
use Rattle.linker_utils_c.proofs.output.linker_utils_write_stub_nonnull.Goals as goal

pub returns : goal.returns
returns c =
    rw (sym c.from_machine.ensures ∙ c.in-Some.is) (
    subst (λ d. IsStubWritten d.instructions (stub_in d (stub_kind_of c.args.kind)) c.args.place c.args.target c.args.bytes.now c.write_by.new.bytes c.write_by.result)
    c.of.ensures c.write_by.ensures)
