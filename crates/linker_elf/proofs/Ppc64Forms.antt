-- What the machine reads of the PowerPC64 forms.
use Rattle.linker_elf.proofs.Imports.{Bool, D, MachineReads, Ppc64Form, Written, layout_machine, ppc64_form, ppc64_layout, refl, ℕ, ◌<◌, ◌^◌}

pub ppc64_machine : (f : Ppc64Form) (v : ℕ) (neg : Bool) (before after : ℕ) → v < 2 ^ 64
    → Written (ppc64_form f) v neg before after → MachineReads (ppc64_form f) v neg before after
ppc64_machine D v neg before after h laid = layout_machine (ppc64_layout D) refl v neg before after h h laid
ppc64_machine f v neg before after h laid = layout_machine (ppc64_layout f) refl v neg before after h h laid
