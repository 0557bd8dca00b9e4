-- In a phase without rewrites no relocation has a scope.
use Rattle.linker_rewriting.proofs.Imports.{AArch64, Architecture, Bool, GotToPcRel, IsNotRelaxableUnless, LoongArch64, Phase, Ppc64, PreLayout, RiscV, ShortPcRel, TlsLocalExec, X86_64, has_rewrites, subst, sym, ◌≡◌}

by_table : (architecture : Architecture) (phase : Phase)
    → IsNotRelaxableUnless architecture phase (has_rewrites architecture phase)
by_table AArch64 PreLayout = tt
by_table AArch64 GotToPcRel = tt
by_table AArch64 ShortPcRel = tt
by_table RiscV TlsLocalExec = tt
by_table RiscV GotToPcRel = tt
by_table LoongArch64 PreLayout = tt
by_table LoongArch64 TlsLocalExec = tt
by_table Ppc64 PreLayout = tt
by_table Ppc64 TlsLocalExec = tt
by_table Ppc64 ShortPcRel = tt
by_table X86_64 PreLayout = tt
by_table architecture phase = λ r_type scope is. is.value_is

pub unlisted : (architecture : Architecture) (phase : Phase) (has : Bool)
    → has ≡ has_rewrites architecture phase → IsNotRelaxableUnless architecture phase has
unlisted architecture phase has is =
    subst (IsNotRelaxableUnless architecture phase) (sym is) (by_table architecture phase)
