-- The masks of fields of PowerPC64 have the bits that a write of a row may change.
use Rattle.linker_reading.proofs.Imports.{BitRange, Bool, Ppc64, Ppc64Form, bit_at, false, if◌then◌else◌, instruction_mask, is_dq_form, is_instruction_bit, is_placed, nat_lt, not, refl, relocation_form, true, ℕ, ◌&&◌, ◌<◌, ◌==◌, ◌≡◌}
use Rattle.linker_elf.specs.declared.ppc64.forms.Ppc64Form.TheVariants as ppc64
use Rattle.linker_reading.proofs.Masks.{agrees}

ds_agrees : (b : Bool) (x w : ℕ) → w < 64
    → (bit_at (if b then 0xfff0 else 0xfffc) w == 1)
    ≡ (is_placed ((relocation_form (Ppc64 ppc64.Ds)).places x) w && not (b && nat_lt w 4))
ds_agrees true x w h = agrees 0xfff0 (λ k. is_placed ((relocation_form (Ppc64 ppc64.Ds)).places 0) k && not (true && nat_lt k 4)) refl w h
ds_agrees false x w h = agrees 0xfffc (λ k. is_placed ((relocation_form (Ppc64 ppc64.Ds)).places 0) k && not (false && nat_lt k 4)) refl w h

pub ppc64_agrees : (f : Ppc64Form) (bits : BitRange) (x w : ℕ) → w < 64
    → (bit_at (instruction_mask (Ppc64 f) bits x) w == 1) ≡ is_instruction_bit (Ppc64 f) bits x w
ppc64_agrees ppc64.D bits x w h = agrees 0xffff (is_instruction_bit (Ppc64 ppc64.D) bits 0) refl w h
ppc64_agrees ppc64.Ds bits x w h = ds_agrees (is_dq_form x) x w h
ppc64_agrees ppc64.Branch14 bits x w h = agrees 0xfffc (is_instruction_bit (Ppc64 ppc64.Branch14) bits 0) refl w h
ppc64_agrees ppc64.Branch24 bits x w h = agrees 0x3fffffc (is_instruction_bit (Ppc64 ppc64.Branch24) bits 0) refl w h
ppc64_agrees ppc64.Prefixed bits x w h = agrees 0xffff0003ffff (is_instruction_bit (Ppc64 ppc64.Prefixed) bits 0) refl w h
ppc64_agrees ppc64.DUnsigned bits x w h = agrees 0xffff (is_instruction_bit (Ppc64 ppc64.DUnsigned) bits 0) refl w h
