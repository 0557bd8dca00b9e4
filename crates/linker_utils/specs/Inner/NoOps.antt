-- The rewrite that leaves the instruction as it is keeps the law of rewrites.
use Rattle.linker_utils.specs.Imports.{None, Normal, Relaxation}
use Rattle.std.proofs.Common.{◌≡◌, ap}
use Rattle.linker_utils.specs.AArch64Rewrites.{aarch64_rewrite, aarch64_modifier}
use Rattle.linker_utils.specs.LoongArchRewrites.{loongarch_rewrite, loongarch_modifier}
use Rattle.linker_utils.specs.Ppc64Rewrites.{ppc64_rewrite, ppc64_modifier}
use Rattle.linker_utils.specs.RiscVRewrites.{riscv_rewrite, riscv_modifier}
use Rattle.linker_utils.specs.X86Rewrites.{x86_64_rewrite, x86_64_modifier}
use Rattle.linker_utils.specs.Relaxations.{relaxation_rewrite, relaxation_modifier}
use Rattle.linker_utils.specs.Relaxations.{relaxation_no_op}
use Rattle.linker_utils.specs.declared.architecture.Relaxation.TheVariants.{AArch64, RiscV}
use Rattle.linker_utils.specs.declared.architecture.Relaxation.TheVariants.{LoongArch64, Ppc64}
use Rattle.linker_utils.specs.declared.architecture.Relaxation.TheVariants.{X86_64}

abbrev pub relaxation_stays : (k : Relaxation) → relaxation_no_op k
    → (relaxation_rewrite k ≡ None) × (relaxation_modifier k ≡ Normal)
relaxation_stays (AArch64 kind) is = (ap aarch64_rewrite is, ap aarch64_modifier is)
relaxation_stays (RiscV kind) is = (ap riscv_rewrite is, ap riscv_modifier is)
relaxation_stays (LoongArch64 kind) is = (ap loongarch_rewrite is, ap loongarch_modifier is)
relaxation_stays (Ppc64 kind) is = (ap ppc64_rewrite is, ap ppc64_modifier is)
relaxation_stays (X86_64 kind) is = (ap x86_64_rewrite is, ap x86_64_modifier is)
