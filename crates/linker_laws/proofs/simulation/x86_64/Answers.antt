use Rattle.linker_laws.proofs.Imports.{IsLoad, Operands, Reads, TakesImmediate, TakesImmediateByEvex, X86_64Relocation, address, bytes_at, does, legacy, lit≤, refl, x86_64_originals, ℕ, ◌+◌, ◌≤◌}
use Rattle.linker_elf.specs.declared.x86_64.relocations.X86_64Relocation.TheVariants as names
use Rattle.linker_laws.specs.X86Groups.{link, seen, thread_offset}
use Rattle.linker_laws.proofs.Agreement.{others_agree}
use Rattle.linker_laws.proofs.X86Branches as by
use Rattle.linker_laws.proofs.X86Decoding.{Replaced}
use Rattle.linker_laws.proofs.X86Evex as evex
use Rattle.linker_laws.proofs.X86Groups.{are_descriptor_calls, are_leas, is_call, is_jump, one_for_another}
use Rattle.linker_laws.proofs.X86Immediates as with
use Rattle.linker_laws.proofs.X86Loads as of
use Rattle.linker_laws.proofs.X86LocalDynamic.{block_offsets}
use Rattle.linker_laws.proofs.X86ThreadGroups.{are_module_calls, are_thread_calls}
use Rattle.linker_laws.proofs.simulation.x86_64.Goals as goal
use Rattle.linker_utils.specs.declared.x86_64.rewrites.RewriteKind.{RewriteKind}
use Rattle.linker_utils.specs.declared.x86_64.rewrites.RewriteKind.TheVariants as kinds

takes : (n : ℕ) (name : X86_64Relocation) (kind : RewriteKind) (held : Operands → ℕ) → n + 4 ≤ 15
    → Replaced n (x86_64_originals kind) name kind held → Reads n (x86_64_originals kind) name kind held
takes n name kind held = one_for_another n (x86_64_originals kind) name kind held

load : (n : ℕ) (name : X86_64Relocation) → n + 4 ≤ 15
    → Replaced n (legacy n 0x8b) name kinds.MovIndirectToLea address → IsLoad n name
load n name = one_for_another n (legacy n 0x8b) name kinds.MovIndirectToLea address

each : (kind : ℕ → RewriteKind) → Replaced 2 (x86_64_originals (kind 2)) names.R_X86_64_GOTPCRELX (kind 2) address
    → Replaced 3 (x86_64_originals (kind 3)) names.R_X86_64_REX_GOTPCRELX (kind 3) address
    → Replaced 4 (x86_64_originals (kind 4)) names.R_X86_64_CODE_4_GOTPCRELX (kind 4) address
    → TakesImmediate kind
each kind a b c = (
  takes 2 names.R_X86_64_GOTPCRELX (kind 2) address (lit≤ tt) a,
  takes 3 names.R_X86_64_REX_GOTPCRELX (kind 3) address (lit≤ tt) b,
  takes 4 names.R_X86_64_CODE_4_GOTPCRELX (kind 4) address (lit≤ tt) c,
)

by_evex : (kind : ℕ → RewriteKind) → Replaced 6 (x86_64_originals (kind 6)) names.R_X86_64_CODE_6_GOTPCRELX (kind 6) address
    → TakesImmediateByEvex kind
by_evex kind = takes 6 names.R_X86_64_CODE_6_GOTPCRELX (kind 6) address (lit≤ tt)

pub returns : goal.returns
returns c =
    record {
      groups = record {
        loads = (
          (
            load 2 names.R_X86_64_GOTPCRELX (lit≤ tt) of.without_prefix,
            load 3 names.R_X86_64_REX_GOTPCRELX (lit≤ tt) of.with_rex_prefix,
            load 4 names.R_X86_64_CODE_4_GOTPCRELX (lit≤ tt) of.with_rex2_prefix,
          ),
          load 3 names.R_X86_64_GOTPCREL (lit≤ tt) of.of_any_load,
        );
        absolute = (
          one_for_another 2 (legacy 2 0x8b) names.R_X86_64_GOTPCRELX kinds.MovIndirectToAbsolute address (lit≤ tt)
              (with.without_prefix with.mov),
          each kinds.RexMovIndirectToAbsolute (with.within_window with.mov) (with.with_rex_prefix with.mov)
              (with.with_rex2_prefix with.mov),
        );
        operations = (
          each kinds.RexAddIndirectToAbsolute (with.without_prefix with.add)
              (with.with_rex_prefix with.add) (with.with_rex2_prefix with.add),
          each kinds.RexSubIndirectToAbsolute (with.within_window with.sub)
              (with.with_rex_prefix with.sub) (with.with_rex2_prefix with.sub),
          each kinds.RexCmpIndirectToAbsolute (with.within_window with.cmp)
              (with.with_rex_prefix with.cmp) (with.with_rex2_prefix with.cmp),
          each kinds.RexAdcIndirectToAbsolute (with.without_prefix with.adc)
              (with.with_rex_prefix with.adc) (with.with_rex2_prefix with.adc),
          each kinds.RexAndIndirectToAbsolute (with.without_prefix with.and)
              (with.with_rex_prefix with.and) (with.with_rex2_prefix with.and),
          each kinds.RexOrIndirectToAbsolute (with.without_prefix with.or)
              (with.with_rex_prefix with.or) (with.with_rex2_prefix with.or),
          each kinds.RexSbbIndirectToAbsolute (with.without_prefix with.sbb)
              (with.with_rex_prefix with.sbb) (with.with_rex2_prefix with.sbb),
          each kinds.RexXorIndirectToAbsolute (with.without_prefix with.xor)
              (with.with_rex_prefix with.xor) (with.with_rex2_prefix with.xor),
          each kinds.RexTestIndirectToAbsolute (with.without_prefix with.test)
              (with.with_rex_prefix with.test) (with.with_rex2_prefix with.test),
          (
            by_evex kinds.RexAddIndirectToAbsolute (evex.with_evex_prefix evex.add),
            by_evex kinds.RexAdcIndirectToAbsolute (evex.with_evex_prefix evex.adc),
            by_evex kinds.RexAndIndirectToAbsolute (evex.with_evex_prefix evex.and),
            by_evex kinds.RexOrIndirectToAbsolute (evex.with_evex_prefix evex.or),
            by_evex kinds.RexSbbIndirectToAbsolute (evex.with_evex_prefix evex.sbb),
            by_evex kinds.RexXorIndirectToAbsolute (evex.with_evex_prefix evex.xor),
          ),
        );
        thread = (
          (
            takes 3 names.R_X86_64_GOTTPOFF (kinds.RexMovIndirectToAbsolute 3) thread_offset (lit≤ tt) (with.of_thread with.mov),
            takes 4 names.R_X86_64_CODE_4_GOTTPOFF (kinds.RexMovIndirectToAbsolute 4) thread_offset (lit≤ tt)
                (with.of_thread_with_rex2 with.mov),
          ),
          (
            takes 3 names.R_X86_64_GOTTPOFF (kinds.RexAddIndirectToAbsolute 3) thread_offset (lit≤ tt) (with.of_thread with.add),
            takes 4 names.R_X86_64_CODE_4_GOTTPOFF (kinds.RexAddIndirectToAbsolute 4) thread_offset (lit≤ tt)
                (with.of_thread_with_rex2 with.add),
          ),
          takes 6 names.R_X86_64_CODE_6_GOTTPOFF (kinds.RexAddIndirectToAbsolute 6) thread_offset (lit≤ tt)
              (evex.of_thread_with_evex evex.add),
        );
        branches = (
          λ c s section original relaxed o operands before there matches was is at at'.
              is_call c operands s before.addresses.symbol
              (λ holds. by.calls section original relaxed o operands (seen s) before there matches holds was
              is (bytes_at 15 c.old s.pc) (bytes_at 15 c.new s.pc) at at'),
          λ c s section original relaxed o operands before there matches was is at at'.
              is_jump c operands s before.addresses.symbol
              (λ holds. by.jumps section original relaxed o operands (seen s) before there matches holds was
              is (bytes_at 15 c.old s.pc) (bytes_at 15 c.new s.pc) at at'),
        );
        descriptor_address = are_leas;
        descriptor_call = are_descriptor_calls;
        general_dynamic = are_thread_calls;
        local_dynamic = are_module_calls;
        block_offsets = block_offsets;
        others = λ c. others_agree (λ code at. does c.others (bytes_at 15 code at)) (link c) (λ code s. refl);
      };
    }
