-- Each sequence has the field of its call where the rewrite says.
use Rattle.linker_utils.proofs.Imports.{HaveFieldAt, [], byte, field4, general_dynamic, large, refl, x86_64_originals, ◌++◌, ◌∷◌}
use Rattle.linker_utils.specs.declared.x86_64.rewrites.RewriteKind.TheVariants as kinds

pub of_general_dynamic : HaveFieldAt 8 general_dynamic
of_general_dynamic = ((0xe8, [], refl), ((0x15, [], refl), tt))

pub of_large : HaveFieldAt 6 large
of_large = (
  (0xb8, field4 ++ byte 0x48 ∷ byte 0x01 ∷ byte 0xd8 ∷ byte 0xff ∷ byte 0xd0 ∷ [], refl),
  ((0xb8, field4 ++ byte 0x4c ∷ byte 0x01 ∷ byte 0xf8 ∷ byte 0xff ∷ byte 0xd0 ∷ [], refl), tt),
)

pub of_local_dynamic : HaveFieldAt 5 (x86_64_originals kinds.TlsLdToLocalExec)
of_local_dynamic = ((0xe8, [], refl), tt)

pub of_local_dynamic_by_got : HaveFieldAt 6 (x86_64_originals kinds.TlsLdToLocalExecNoPlt)
of_local_dynamic_by_got = ((0x15, [], refl), tt)
