-- x86-64: the relocation of the field after a rewrite (x86-64 psABI, "Optimize GOTPCRELX
-- Relocations"; "ELF Handling For Thread-Local Storage", "x86-64").
use Rattle.linker_utils.specs.Imports.{None, Option, RewriteKind, Some, X86_64Relocation, ℕ}
use Rattle.std.specs.Prelude.{◌==◌, if◌then◌else◌}
use Rattle.linker_elf.specs.declared.x86_64.relocations.X86_64Relocation.TheVariants as r
use Rattle.linker_utils.specs.declared.x86_64.rewrites.RewriteKind.TheVariants as kinds

-- The relocation after is the first, where that before is of the named kind.
abbrev pub after_got : X86_64Relocation → X86_64Relocation → Option X86_64Relocation
after_got after r.R_X86_64_GOTPCRELX = Some after
after_got after r.R_X86_64_REX_GOTPCRELX = Some after
after_got after r.R_X86_64_CODE_4_GOTPCRELX = Some after
after_got after r.R_X86_64_CODE_6_GOTPCRELX = Some after
after_got after before = None

-- `lea` is in place of any `mov` from the GOT: no bit of a prefix changes
abbrev pub after_load : X86_64Relocation → X86_64Relocation → Option X86_64Relocation
after_load after r.R_X86_64_GOTPCREL = Some after
after_load after before = after_got after before

-- `mov` and `add` also take an offset from the thread pointer
abbrev pub after_got_or_tp : X86_64Relocation → X86_64Relocation → Option X86_64Relocation
after_got_or_tp after r.R_X86_64_GOTTPOFF = Some r.R_X86_64_TPOFF32
after_got_or_tp after r.R_X86_64_CODE_4_GOTTPOFF = Some r.R_X86_64_TPOFF32
after_got_or_tp after r.R_X86_64_CODE_6_GOTTPOFF = Some r.R_X86_64_TPOFF32
after_got_or_tp after before = after_got after before

abbrev pub after_descriptor : X86_64Relocation → X86_64Relocation → Option X86_64Relocation
after_descriptor after r.R_X86_64_GOTPC32_TLSDESC = Some after
after_descriptor after r.R_X86_64_CODE_4_GOTPC32_TLSDESC = Some after
after_descriptor after before = None

abbrev pub after_general_dynamic : X86_64Relocation → X86_64Relocation → Option X86_64Relocation
after_general_dynamic after r.R_X86_64_TLSGD = Some after
after_general_dynamic after before = None

-- nothing is relocated any more
abbrev pub after_local_dynamic : X86_64Relocation → Option X86_64Relocation
after_local_dynamic r.R_X86_64_TLSLD = Some r.R_X86_64_NONE
after_local_dynamic before = None

abbrev pub after_descriptor_call : X86_64Relocation → Option X86_64Relocation
after_descriptor_call r.R_X86_64_TLSDESC_CALL = Some r.R_X86_64_NONE
after_descriptor_call before = None

-- An operand of 64 bits is sign-extended, and one of 32 bits, without a prefix, is not.
abbrev pub immediate_of : ℕ → X86_64Relocation
immediate_of n = if n == 2 then r.R_X86_64_32 else r.R_X86_64_32S

-- by the relocation before; none where the rewrite is not for that, and for `NoOp`
abbrev pub x86_64_relocation_after : RewriteKind → X86_64Relocation → Option X86_64Relocation
x86_64_relocation_after kinds.MovIndirectToLea before = after_load r.R_X86_64_PC32 before
x86_64_relocation_after kinds.CallIndirectToRelative before = after_got r.R_X86_64_PC32 before
x86_64_relocation_after kinds.JmpIndirectToRelative before = after_got r.R_X86_64_PC32 before
x86_64_relocation_after kinds.MovIndirectToAbsolute before = after_got_or_tp r.R_X86_64_32 before
x86_64_relocation_after (kinds.RexMovIndirectToAbsolute n) before =
    after_got_or_tp (immediate_of n) before
x86_64_relocation_after (kinds.RexAddIndirectToAbsolute n) before =
    after_got_or_tp (immediate_of n) before
x86_64_relocation_after (kinds.RexSubIndirectToAbsolute n) before =
    after_got (immediate_of n) before
x86_64_relocation_after (kinds.RexCmpIndirectToAbsolute n) before =
    after_got (immediate_of n) before
x86_64_relocation_after (kinds.RexAdcIndirectToAbsolute n) before =
    after_got (immediate_of n) before
x86_64_relocation_after (kinds.RexAndIndirectToAbsolute n) before =
    after_got (immediate_of n) before
x86_64_relocation_after (kinds.RexOrIndirectToAbsolute n) before = after_got (immediate_of n) before
x86_64_relocation_after (kinds.RexSbbIndirectToAbsolute n) before =
    after_got (immediate_of n) before
x86_64_relocation_after (kinds.RexXorIndirectToAbsolute n) before =
    after_got (immediate_of n) before
x86_64_relocation_after (kinds.RexTestIndirectToAbsolute n) before =
    after_got (immediate_of n) before
x86_64_relocation_after kinds.NoOp before = None
x86_64_relocation_after kinds.TlsGdToLocalExec before =
    after_general_dynamic r.R_X86_64_TPOFF32 before
x86_64_relocation_after kinds.TlsGdToLocalExecLarge before =
    after_general_dynamic r.R_X86_64_TPOFF32 before
x86_64_relocation_after kinds.TlsGdToInitialExec before =
    after_general_dynamic r.R_X86_64_GOTTPOFF before
x86_64_relocation_after kinds.TlsLdToLocalExec before = after_local_dynamic before
x86_64_relocation_after kinds.TlsLdToLocalExecNoPlt before = after_local_dynamic before
x86_64_relocation_after kinds.TlsLdToLocalExec64 before = after_local_dynamic before
x86_64_relocation_after (kinds.TlsDescToLocalExec n) before =
    after_descriptor r.R_X86_64_TPOFF32 before
x86_64_relocation_after kinds.TlsDescToInitialExec before =
    after_descriptor r.R_X86_64_GOTTPOFF before
x86_64_relocation_after kinds.SkipTlsDescCall before = after_descriptor_call before
