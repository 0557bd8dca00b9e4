use Rattle.linker_final.proofs.RiscV32.{absolute, branches, descriptors, relative, thread, words}
use Rattle.linker_final.proofs.RiscV32Worked.{pair_is_applied}
use Rattle.linker_final.proofs.laws.riscv32.instructions.Goals as goal

pub returns : goal.returns
returns c =
    let laws = c.riscv64.ensures in
    record {
      absolute = absolute laws.absolute;
      relative = relative laws.relative laws.entries;
      descriptors = descriptors laws.descriptors;
      thread = thread laws.thread;
      branches = branches laws.calls laws.jumps;
      words = words laws.fields;
      premises = pair_is_applied;
    }
