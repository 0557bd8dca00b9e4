-- x86-64: its rewrites (x86-64 psABI, "Optimize GOTPCRELX Relocations" and "Thread-Local Storage";
-- prefixes and ModRM bytes by the Intel 64 and IA-32 Software Developer's Manual, "Instruction
-- Format").
use Rattle.linker_utils.specs.Imports.{Applies, Bool, CanRewrite, Choice, Condition, Entry, IsFirst}
use Rattle.linker_utils.specs.Imports.{IsTrue, LinkFacts, List, None, Normal, Option}
use Rattle.linker_utils.specs.Imports.{RelocationModifier, Rewrite, RewriteKind, SkipNextRelocation}
use Rattle.linker_utils.specs.Imports.{Some, X86_64Relocation, [], addend, bit_and, bit_at, bit_or}
use Rattle.linker_utils.specs.Imports.{bound, choice, drop, entry, executable, false, field}
use Rattle.linker_utils.specs.Imports.{fixed_address, fixed_distance, group_fits, in_reach}
use Rattle.linker_utils.specs.Imports.{in_reach_if_known, local_exec_base, nat_le, neg_ℤ}
use Rattle.linker_utils.specs.Imports.{operands_after, pos, replaces, slice_index, true, weak_zero}
use Rattle.linker_utils.specs.Imports.{x86_64_row, ℕ, ℤ, ⊤}
use Rattle.std.specs.Prelude.{◌≡◌, ◌+◌, ◌-◌, ◌/◌, ◌==◌, if◌then◌else◌, ◌∷◌, ◌&&◌, ◌||◌, ◌++◌}
use Rattle.linker_utils.specs.declared.x86_64.relaxation_kind.RelaxationKind.{RelaxationKind}
use Rattle.linker_utils.specs.declared.x86_64.relaxation_kind.RelaxationKind.TheVariants as originals
use Rattle.linker_utils.specs.X86RelocationsAfter.{immediate_of}
use Rattle.linker_elf.specs.declared.elf.value.Operands.{Operands}
use Rattle.linker_utils.specs.declared.x86_64.rewrites.RewriteKind.TheVariants as kinds
use Rattle.linker_elf.specs.declared.x86_64.relocations.X86_64Relocation.TheVariants as r

-- R (bit 2) of a REX byte moves to B (bit 0)
abbrev pub rex_r_to_b : ℕ → ℕ
rex_r_to_b r = bit_or (bit_and r 0xfb) (bit_and r 0x04 / 4)

-- R4 and R3 (bits 6 and 2) of a REX2 byte move to B4 and B3 (bits 4 and 0)
abbrev pub rex2_r_to_b : ℕ → ℕ
rex2_r_to_b r = bit_or (bit_and r 0xbb) (bit_and r 0x44 / 4)

-- the prefix byte of an instruction whose relocated field follows n bytes
abbrev pub rex_reg_to_rm : ℕ → ℕ → ℕ
rex_reg_to_rm n r =
    if n == 3 then rex_r_to_b r else (if n == 4 then rex2_r_to_b r else r)

-- In an EVEX byte a clear bit 7 is set, and bit 5 is then cleared; then where bit 4 is clear, bits
-- 4 and 3 are set.
abbrev pub evex_high : ℕ → ℕ
evex_high p = if bit_at p 7 == 0 then bit_and (bit_or p 0x80) 0xdf else p

abbrev pub evex_reg_to_rm : ℕ → ℕ
evex_reg_to_rm p = if bit_at p 4 == 0 then bit_or (evex_high p) 0x18 else evex_high p

-- a ModRM byte whose rm field is the reg field of m; k holds the other bits
abbrev pub modrm_reg_to_rm : ℕ → ℕ → ℕ
modrm_reg_to_rm k m = k + field m 3 6

-- an opcode and a ModRM byte, after a prefix byte, and after an EVEX byte and two more
abbrev pub operand : ℕ → ℕ → List ℕ → List ℕ
operand opcode k window = opcode ∷ modrm_reg_to_rm k (slice_index window 1) ∷ []

abbrev pub prefixed_operand : ℕ → ℕ → ℕ → List ℕ → List ℕ
prefixed_operand n opcode k window =
    rex_reg_to_rm n (slice_index window 0) ∷ opcode ∷ modrm_reg_to_rm k (slice_index window 2) ∷ []

abbrev pub evex_operand : ℕ → ℕ → List ℕ → List ℕ
evex_operand opcode k window =
    evex_reg_to_rm (slice_index window 0) ∷ slice_index window 1 ∷ slice_index window 2 ∷ opcode ∷
    modrm_reg_to_rm k (slice_index window 4) ∷ []

-- the `back` bytes before the offset are rewritten, and the addend becomes 0
abbrev pub absolute : ℕ → (List ℕ → List ℕ) → Rewrite
absolute back bytes =
    record {
      back = back;
      len = back;
      admits = λ _. true;
      bytes = bytes;
      offset = λ o. o;
      addend = λ _. pos 0;
    }

-- these bytes are put, and the offset moves
abbrev pub puts : ℕ → ℕ → List ℕ → (ℕ → ℕ) → (ℤ → ℤ) → Rewrite
puts back len bytes offset new_addend =
    record {
      back = back;
      len = len;
      admits = λ _. true;
      bytes = λ _. bytes;
      offset = offset;
      addend = new_addend;
    }

-- `mov` of an absolute value
abbrev pub rex_mov : ℕ → Rewrite
rex_mov n = absolute 3 (prefixed_operand n 0xc7 0xc0)

-- an operation on an immediate, whose opcode extension is in k
abbrev pub by_immediate : ℕ → ℕ → ℕ → Rewrite
by_immediate n opcode k =
    if n == 3 then absolute 3 (prefixed_operand 3 opcode k)
    else (if n == 4 then absolute 3 (prefixed_operand 4 opcode k)
    else (if n == 6 then absolute 5 (evex_operand opcode k)
    else absolute 2 (operand opcode k)))

abbrev pub x86_64_rewrite : RewriteKind → Option Rewrite
x86_64_rewrite kinds.MovIndirectToLea = Some (replaces 2 1 (λ _. 0x8d ∷ []))
x86_64_rewrite kinds.MovIndirectToAbsolute = Some (absolute 2 (operand 0xc7 0xc0))
x86_64_rewrite (kinds.RexMovIndirectToAbsolute n) = Some (rex_mov n)
x86_64_rewrite (kinds.RexAddIndirectToAbsolute n) = Some (by_immediate n 0x81 0xc0)
x86_64_rewrite (kinds.RexSubIndirectToAbsolute n) = Some (absolute 3 (prefixed_operand n 0x81 0xe8))
x86_64_rewrite (kinds.RexCmpIndirectToAbsolute n) = Some (absolute 3 (prefixed_operand n 0x81 0xf8))
x86_64_rewrite kinds.CallIndirectToRelative = Some (replaces 2 2 (λ _. 0x67 ∷ 0xe8 ∷ []))
x86_64_rewrite kinds.JmpIndirectToRelative =
    Some (puts 2 6 (0xe9 ∷ 0 ∷ 0 ∷ 0 ∷ 0 ∷ 0x90 ∷ []) (λ o. o - 1) (λ a. a))
x86_64_rewrite kinds.NoOp = None
x86_64_rewrite kinds.TlsGdToLocalExec =
    Some (puts 4 12 (0x64 ∷ 0x48 ∷ 0x8b ∷ 0x04 ∷ 0x25 ∷ 0 ∷ 0 ∷ 0 ∷ 0 ∷ 0x48 ∷ 0x8d ∷ 0x80 ∷ [])
    (λ o. o + 8) (λ _. pos 0))
x86_64_rewrite kinds.TlsGdToLocalExecLarge =
    Some
    (puts 3 22 (0x64 ∷ 0x48 ∷ 0x8b ∷ 0x04 ∷ 0x25 ∷ 0 ∷ 0 ∷ 0 ∷ 0 ∷ 0x48 ∷ 0x8d ∷ 0x80 ∷ 0 ∷ 0 ∷
    0 ∷ 0 ∷ 0x66 ∷ 0x0f ∷ 0x1f ∷ 0x44 ∷ 0 ∷ 0 ∷ []) (λ o. o + 9) (λ _. pos 0))
x86_64_rewrite kinds.TlsLdToLocalExec =
    Some (puts 3 12 (0x66 ∷ 0x66 ∷ 0x66 ∷ 0x64 ∷ 0x48 ∷ 0x8b ∷ 0x04 ∷ 0x25 ∷ 0 ∷ 0 ∷ 0 ∷ 0 ∷ [])
    (λ o. o + 5) (λ a. a))
x86_64_rewrite kinds.TlsLdToLocalExecNoPlt =
    Some
    (puts 3 13 (0x66 ∷ 0x66 ∷ 0x66 ∷ 0x66 ∷ 0x64 ∷ 0x48 ∷ 0x8b ∷ 0x04 ∷ 0x25 ∷ 0 ∷ 0 ∷ 0 ∷ 0 ∷
    []) (λ o. o + 5) (λ a. a))
x86_64_rewrite kinds.TlsLdToLocalExec64 =
    Some
    (puts 3 22 (0x66 ∷ 0x66 ∷ 0x66 ∷ 0x66 ∷ 0x2e ∷ 0x0f ∷ 0x1f ∷ 0x84 ∷ 0 ∷ 0 ∷ 0 ∷ 0 ∷ 0 ∷
    0x64 ∷ 0x48 ∷ 0x8b ∷ 0x04 ∷ 0x25 ∷ 0 ∷ 0 ∷ 0 ∷ 0 ∷ []) (λ o. o + 15) (λ a. a))
x86_64_rewrite kinds.TlsGdToInitialExec =
    Some (puts 4 12 (0x64 ∷ 0x48 ∷ 0x8b ∷ 0x04 ∷ 0x25 ∷ 0 ∷ 0 ∷ 0 ∷ 0 ∷ 0x48 ∷ 0x03 ∷ 0x05 ∷ [])
    (λ o. o + 8) (λ a. a))
x86_64_rewrite (kinds.TlsDescToLocalExec n) = Some (rex_mov n)
x86_64_rewrite kinds.TlsDescToInitialExec = Some (replaces 2 1 (λ _. 0x8b ∷ []))
x86_64_rewrite kinds.SkipTlsDescCall = Some (replaces 0 2 (λ _. 0x66 ∷ 0x90 ∷ []))
-- 81 /2, /4, /1, /3 and /6, and f7 /0
x86_64_rewrite (kinds.RexAdcIndirectToAbsolute n) = Some (by_immediate n 0x81 0xd0)
x86_64_rewrite (kinds.RexAndIndirectToAbsolute n) = Some (by_immediate n 0x81 0xe0)
x86_64_rewrite (kinds.RexOrIndirectToAbsolute n) = Some (by_immediate n 0x81 0xc8)
x86_64_rewrite (kinds.RexSbbIndirectToAbsolute n) = Some (by_immediate n 0x81 0xd8)
x86_64_rewrite (kinds.RexXorIndirectToAbsolute n) = Some (by_immediate n 0x81 0xf0)
x86_64_rewrite (kinds.RexTestIndirectToAbsolute n) = Some (by_immediate n 0xf7 0xc0)

-- the rewrites that move the offset of a TLS sequence have done the work of its call too
abbrev pub x86_64_modifier : RewriteKind → RelocationModifier
x86_64_modifier kinds.TlsGdToLocalExec = SkipNextRelocation
x86_64_modifier kinds.TlsGdToLocalExecLarge = SkipNextRelocation
x86_64_modifier kinds.TlsLdToLocalExec = SkipNextRelocation
x86_64_modifier kinds.TlsLdToLocalExecNoPlt = SkipNextRelocation
x86_64_modifier kinds.TlsLdToLocalExec64 = SkipNextRelocation
x86_64_modifier kinds.TlsGdToInitialExec = SkipNextRelocation
x86_64_modifier kinds.MovIndirectToLea = Normal
x86_64_modifier kinds.MovIndirectToAbsolute = Normal
x86_64_modifier (kinds.RexMovIndirectToAbsolute n) = Normal
x86_64_modifier (kinds.RexAddIndirectToAbsolute n) = Normal
x86_64_modifier (kinds.RexSubIndirectToAbsolute n) = Normal
x86_64_modifier (kinds.RexCmpIndirectToAbsolute n) = Normal
x86_64_modifier kinds.CallIndirectToRelative = Normal
x86_64_modifier kinds.JmpIndirectToRelative = Normal
x86_64_modifier kinds.NoOp = Normal
x86_64_modifier (kinds.TlsDescToLocalExec n) = Normal
x86_64_modifier kinds.TlsDescToInitialExec = Normal
x86_64_modifier kinds.SkipTlsDescCall = Normal
x86_64_modifier (kinds.RexAdcIndirectToAbsolute n) = Normal
x86_64_modifier (kinds.RexAndIndirectToAbsolute n) = Normal
x86_64_modifier (kinds.RexOrIndirectToAbsolute n) = Normal
x86_64_modifier (kinds.RexSbbIndirectToAbsolute n) = Normal
x86_64_modifier (kinds.RexXorIndirectToAbsolute n) = Normal
x86_64_modifier (kinds.RexTestIndirectToAbsolute n) = Normal

-- the rewrites by their numbers from 0 up
abbrev pub x86_64_rewrites : ℕ → List RewriteKind
x86_64_rewrites n =
    kinds.MovIndirectToLea ∷ kinds.MovIndirectToAbsolute ∷
    kinds.RexMovIndirectToAbsolute n ∷ kinds.RexAddIndirectToAbsolute n ∷
    kinds.RexSubIndirectToAbsolute n ∷ kinds.RexCmpIndirectToAbsolute n ∷
    kinds.CallIndirectToRelative ∷ kinds.JmpIndirectToRelative ∷ kinds.NoOp ∷
    kinds.TlsGdToLocalExec ∷ kinds.TlsGdToLocalExecLarge ∷
    kinds.TlsLdToLocalExec ∷ kinds.TlsLdToLocalExecNoPlt ∷
    kinds.TlsLdToLocalExec64 ∷ kinds.TlsGdToInitialExec ∷
    kinds.TlsDescToLocalExec n ∷ kinds.TlsDescToInitialExec ∷
    kinds.SkipTlsDescCall ∷
    kinds.RexAdcIndirectToAbsolute n ∷ kinds.RexAndIndirectToAbsolute n ∷
    kinds.RexOrIndirectToAbsolute n ∷ kinds.RexSbbIndirectToAbsolute n ∷
    kinds.RexXorIndirectToAbsolute n ∷ kinds.RexTestIndirectToAbsolute n ∷ []

-- The register that R and the reg field named before an offset is the one that B and the rm field
-- name after: R and B are bits 2 and 0 of the REX byte, reg and rm bits 3 to 5 and 0 to 2 of the
-- ModRM byte.
pub record MovesRegister (before after : List ℕ) (o : ℕ) : Type 0 where
  pub extension : bit_at (slice_index after (o - 3)) 0 ≡ bit_at (slice_index before (o - 3)) 2
  pub register : field (slice_index after (o - 1)) 0 3 ≡ field (slice_index before (o - 1)) 3 6

-- where B was clear
abbrev pub KeepsRegister : List ℕ → List ℕ → ℕ → Type 0
KeepsRegister before after o =
    bit_at (slice_index before (o - 3)) 0 ≡ 0 → MovesRegister before after o

-- x86-64: the instructions that each rewrite is for (x86-64 psABI, "Optimize GOTPCRELX
-- Relocations"; "ELF Handling For Thread-Local Storage", "x86-64"; prefixes, opcodes and ModRM
-- bytes by the Intel 64 and IA-32 Software Developer's Manual, "Instruction Format"; REX2 and EVEX
-- by the Intel Advanced Performance Extensions Architecture Specification).

-- A byte of an instruction is a mask and a value: the bits under the mask are the value. So a byte
-- of a field is any.
abbrev pub any : ℕ × ℕ
any = (0, 0)

abbrev pub byte : ℕ → ℕ × ℕ
byte value = (0xff, value)

-- ModRM, of an address relative to the instruction pointer: mod 00 and rm 101, and any register
abbrev pub rip : ℕ × ℕ
rip = (0xc7, 0x05)

-- REX, 0100WRXB: any W and R, and X and B 0, since there is no index and rm names no register
abbrev pub rex : ℕ × ℕ
rex = (0xf3, 0x40)

-- the same of 64 bits: W is 1
abbrev pub rex_w : ℕ × ℕ
rex_w = (0xfb, 0x48)

-- the byte after 0xd5 of REX2, M0 R4 X4 B4 W R3 X3 B3: any R4, W and R3
abbrev pub rex2 : ℕ × ℕ
rex2 = (0xb3, 0x00)

abbrev pub rex2_w : ℕ × ℕ
rex2_w = (0xbb, 0x08)

-- The bytes after 0x62 of EVEX. The first has R3, X3, B3 and R4 inverted, B4, and the opcode map
-- 100: any R3 and R4.
abbrev pub evex_registers : ℕ × ℕ
evex_registers = (0x6f, 0x64)

-- The second has W, V3 to V0 and X4 inverted, and 00, which is no prefix 66; the third 000, ND, V4
-- inverted, NF and 00. Where ND is 1, V names the new destination, and else it names none. `fixed`
-- is 4 where NF has to be 0, and else 0.
abbrev pub evex_any_v : ℕ × ℕ
evex_any_v = (0x07, 0x04)

abbrev pub evex_new_destination : ℕ → ℕ × ℕ
evex_new_destination fixed = (bit_or 0xf3 fixed, 0x10)

abbrev pub evex_no_v : ℕ × ℕ
evex_no_v = (0x7f, 0x7c)

abbrev pub evex_same_destination : ℕ → ℕ × ℕ
evex_same_destination fixed = (bit_or 0xfb fixed, 0x08)

-- relocated fields of 4 and 8 bytes
abbrev pub field4 : List (ℕ × ℕ)
field4 = any ∷ any ∷ any ∷ any ∷ []

abbrev pub field8 : List (ℕ × ℕ)
field8 = field4 ++ field4

-- an instruction or a sequence, with the count of its bytes before the field
pub record Original : Type 0 where
  pub back : ℕ
  pub bytes : List (ℕ × ℕ)

abbrev pub original : ℕ → List (ℕ × ℕ) → Original
original back bytes = record { back = back; bytes = bytes }

-- bytes that begin so
abbrev pub begins : List (ℕ × ℕ) → List ℕ → Bool
begins [] bytes = true
begins (p ∷ ps) [] = false
begins (p ∷ ps) (b ∷ bytes) = (bit_and b p.0 == p.1) && begins ps bytes

-- it is in the section, with its field at the offset
abbrev pub is_at : Original → List ℕ → ℕ → Bool
is_at r section o = nat_le r.back o && begins r.bytes (drop (o - r.back) section)

abbrev pub is_one_at : List Original → List ℕ → ℕ → Bool
is_one_at [] section o = false
is_one_at (r ∷ rs) section o = is_at r section o || is_one_at rs section o

-- ---- instructions with an operand relative to the instruction pointer, by their opcode

abbrev pub rip_operand : ℕ → List (ℕ × ℕ)
rip_operand opcode = byte opcode ∷ rip ∷ field4

abbrev pub plain : ℕ → List Original
plain opcode = original 2 (rip_operand opcode) ∷ []

abbrev pub with_rex : ℕ × ℕ → ℕ → Original
with_rex prefix opcode = original 3 (prefix ∷ rip_operand opcode)

abbrev pub with_rex2 : ℕ × ℕ → ℕ → Original
with_rex2 prefix opcode = original 4 (byte 0xd5 ∷ prefix ∷ rip_operand opcode)

abbrev pub with_evex : ℕ × ℕ → ℕ × ℕ → ℕ → Original
with_evex second third opcode =
    original 6 (byte 0x62 ∷ evex_registers ∷ second ∷ third ∷ rip_operand opcode)

-- with n bytes before the field: no prefix, REX or REX2
abbrev pub legacy : ℕ → ℕ → List Original
legacy n opcode =
    if n == 2 then plain opcode
    else (if n == 3 then with_rex rex opcode ∷ []
    else (if n == 4 then with_rex2 rex2 opcode ∷ []
    else []))

-- or EVEX; `adc` and `sbb` have no NF
abbrev pub legacy_or_evex : ℕ → ℕ → ℕ → List Original
legacy_or_evex n fixed opcode =
    if n == 6
    then
    with_evex evex_any_v (evex_new_destination fixed) opcode
    ∷ with_evex evex_no_v (evex_same_destination fixed) opcode ∷ []
    else legacy n opcode

-- `lea x@tlsdesc(%rip), %reg`, of 64 bits
abbrev pub lea_of_descriptor : ℕ → List Original
lea_of_descriptor n =
    if n == 3 then with_rex rex_w 0x8d ∷ []
    else (if n == 4 then with_rex2 rex2_w 0x8d ∷ []
    else [])

-- ---- TLS sequences

-- `lea x(%rip), %rdi`
abbrev pub lea_rdi : List (ℕ × ℕ)
lea_rdi = byte 0x48 ∷ byte 0x8d ∷ byte 0x3d ∷ field4

-- `movabs $__tls_get_addr@pltoff, %rax`, `add %rbx, %rax` or `add %r15, %rax`, `call *%rax`
abbrev pub large_call : ℕ → ℕ → List (ℕ × ℕ)
large_call prefix register =
    byte 0x48 ∷ byte 0xb8 ∷ field8 ++ byte prefix ∷ byte 0x01 ∷ byte register ∷ byte 0xff
    ∷ byte 0xd0 ∷ []

abbrev pub large : List Original
large =
    original 3 (lea_rdi ++ large_call 0x48 0xd8) ∷ original 3 (lea_rdi ++ large_call 0x4c 0xf8)
    ∷ []

-- `data16 lea`, and `data16 data16 rex.W call` or `data16 rex.W call *` through the GOT
abbrev pub general_dynamic : List Original
general_dynamic =
    original 4
    (byte 0x66 ∷ lea_rdi ++ byte 0x66 ∷ byte 0x66 ∷ byte 0x48 ∷ byte 0xe8 ∷ field4)
    ∷ original 4
    (byte 0x66 ∷ lea_rdi ++ byte 0x66 ∷ byte 0x48 ∷ byte 0xff ∷ byte 0x15 ∷ field4)
    ∷ []

-- what each rewrite is for; `NoOp` is for any bytes
abbrev pub x86_64_originals : RewriteKind → List Original
x86_64_originals kinds.MovIndirectToLea = plain 0x8b
x86_64_originals kinds.MovIndirectToAbsolute = plain 0x8b
x86_64_originals (kinds.RexMovIndirectToAbsolute n) = legacy n 0x8b
x86_64_originals (kinds.RexAddIndirectToAbsolute n) = legacy_or_evex n 0 0x03
x86_64_originals (kinds.RexSubIndirectToAbsolute n) = legacy n 0x2b
x86_64_originals (kinds.RexCmpIndirectToAbsolute n) = legacy n 0x3b
x86_64_originals (kinds.RexAdcIndirectToAbsolute n) = legacy_or_evex n 4 0x13
x86_64_originals (kinds.RexAndIndirectToAbsolute n) = legacy_or_evex n 0 0x23
x86_64_originals (kinds.RexOrIndirectToAbsolute n) = legacy_or_evex n 0 0x0b
x86_64_originals (kinds.RexSbbIndirectToAbsolute n) = legacy_or_evex n 4 0x1b
x86_64_originals (kinds.RexXorIndirectToAbsolute n) = legacy_or_evex n 0 0x33
x86_64_originals (kinds.RexTestIndirectToAbsolute n) = legacy n 0x85
-- `call *x(%rip)`: ff /2
x86_64_originals kinds.CallIndirectToRelative =
    original 2 (byte 0xff ∷ byte 0x15 ∷ field4) ∷ []
-- `jmp *x(%rip)`: ff /4
x86_64_originals kinds.JmpIndirectToRelative =
    original 2 (byte 0xff ∷ byte 0x25 ∷ field4) ∷ []
x86_64_originals kinds.NoOp = original 0 [] ∷ []
x86_64_originals kinds.TlsGdToLocalExec = general_dynamic
x86_64_originals kinds.TlsGdToInitialExec = general_dynamic
x86_64_originals kinds.TlsGdToLocalExecLarge = large
-- `lea` and `call`, or `call *` through the GOT
x86_64_originals kinds.TlsLdToLocalExec = original 3 (lea_rdi ++ byte 0xe8 ∷ field4) ∷ []
x86_64_originals kinds.TlsLdToLocalExecNoPlt =
    original 3 (lea_rdi ++ byte 0xff ∷ byte 0x15 ∷ field4) ∷ []
x86_64_originals kinds.TlsLdToLocalExec64 = large
x86_64_originals (kinds.TlsDescToLocalExec n) = lea_of_descriptor n
x86_64_originals kinds.TlsDescToInitialExec =
    with_rex rex_w 0x8d ∷ with_rex2 rex2_w 0x8d ∷ []
-- `call *x@tlscall(%rax)`
x86_64_originals kinds.SkipTlsDescCall = original 0 (byte 0xff ∷ byte 0x10 ∷ []) ∷ []

-- the rewrite can be applied, and what is there is an instruction or a sequence that it is for
abbrev pub x86_64_matches : RewriteKind → List ℕ → ℕ → Type 0
x86_64_matches kind section o =
    CanRewrite (x86_64_rewrite kind) section o
    × IsTrue (is_one_at (x86_64_originals kind) section o)

-- ---- the relocation that is skipped

-- where that of the sequence's call is, from the offset on: the call, or the `movabs` before it,
-- has its field there
abbrev pub x86_64_skipped : RewriteKind → Option ℕ
x86_64_skipped kinds.TlsGdToLocalExec = Some 8
x86_64_skipped kinds.TlsGdToLocalExecLarge = Some 6
x86_64_skipped kinds.TlsLdToLocalExec = Some 5
x86_64_skipped kinds.TlsLdToLocalExecNoPlt = Some 6
x86_64_skipped kinds.TlsLdToLocalExec64 = Some 6
x86_64_skipped kinds.TlsGdToInitialExec = Some 8
x86_64_skipped kind = None

-- `n` bytes after its first field a sequence has another one, after the byte of an opcode
abbrev pub HasFieldAt : ℕ → Original → Type 0
HasFieldAt n r =
    (opcode : ℕ) × (rest : List (ℕ × ℕ))
    × (drop (r.back + n - 1) r.bytes ≡ byte opcode ∷ field4 ++ rest)

abbrev pub HaveFieldAt : ℕ → List Original → Type 0
HaveFieldAt n [] = ⊤
HaveFieldAt n (r ∷ rs) = HasFieldAt n r × HaveFieldAt n rs

-- The types that assemblers give the call of `__tls_get_addr`, or the `movabs` of its address.
abbrev pub x86_64_may_be_skipped : X86_64Relocation → Bool
x86_64_may_be_skipped r.R_X86_64_PLT32 = true
x86_64_may_be_skipped r.R_X86_64_PC32 = true
x86_64_may_be_skipped r.R_X86_64_GOTPCREL = true
x86_64_may_be_skipped r.R_X86_64_GOTPCRELX = true
x86_64_may_be_skipped r.R_X86_64_PLTOFF64 = true
x86_64_may_be_skipped name = false

-- x86-64: the entries by which a rewrite is chosen (x86-64 psABI, "Optimize GOTPCRELX Relocations";
-- "ELF Handling For Thread-Local Storage", "x86-64").

abbrev pub X86Entry : Type 0
X86Entry = Entry RewriteKind X86_64Relocation

-- ---- what rewrites require

-- the field's value counts from its end
abbrev pub from_end_of_field : Condition X86_64Relocation
from_end_of_field = addend (neg_ℤ (pos 4))

-- The operand becomes the symbol's address, that of a definition or 0.
abbrev pub of_address : Condition X86_64Relocation → List (Condition X86_64Relocation)
of_address reach = fixed_address ∷ from_end_of_field ∷ reach ∷ []

abbrev pub address_by : RewriteKind → X86_64Relocation → Condition X86_64Relocation
    → List X86Entry
address_by kind after reach =
    entry kind after (bound ∷ of_address reach)
    ∷ entry kind after (weak_zero ∷ of_address reach) ∷ []

-- or the distance to it
abbrev pub distance_by : RewriteKind → X86Entry
distance_by kind =
    entry kind r.R_X86_64_PC32
    (bound ∷ fixed_distance ∷ from_end_of_field ∷ in_reach_if_known r.R_X86_64_PC32 0 ∷ [])

abbrev pub local_exec_by : RewriteKind → X86Entry
local_exec_by kind =
    entry kind r.R_X86_64_TPOFF32
    (bound ∷ executable ∷ from_end_of_field ∷ in_reach_if_known r.R_X86_64_TPOFF32 0 ∷ [])

-- The entries of a sequence also require that all of it can be rewritten. Of general-dynamic and
-- local-dynamic TLS: where the rewrite skips a relocation there is that of a call of
-- `__tls_get_addr`. Of descriptors: each relocation of the symbol's descriptors in the object fits.
abbrev pub sequence_to_local_exec_by : RewriteKind → X86Entry
sequence_to_local_exec_by kind =
    entry kind r.R_X86_64_TPOFF32
    (bound ∷ executable ∷ group_fits ∷ from_end_of_field ∷ in_reach_if_known r.R_X86_64_TPOFF32 0
    ∷ [])

abbrev pub sequence_to_initial_exec_by : RewriteKind → X86Entry
sequence_to_initial_exec_by kind =
    entry kind r.R_X86_64_GOTTPOFF
    (executable ∷ group_fits ∷ from_end_of_field ∷ in_reach_if_known r.R_X86_64_GOTTPOFF 0 ∷ [])

-- nothing is relocated any more
abbrev pub unrelocated_by : RewriteKind → X86Entry
unrelocated_by kind = entry kind r.R_X86_64_NONE (executable ∷ group_fits ∷ [])

-- The same of a call for the module's TLS block. With another addend it is not for that.
abbrev pub module_by : RewriteKind → X86Entry
module_by kind = entry kind r.R_X86_64_NONE (executable ∷ group_fits ∷ from_end_of_field ∷ [])

-- an offset in the module's TLS block becomes one from the thread pointer
abbrev pub from_thread_pointer : X86_64Relocation → X86Entry
from_thread_pointer after =
    entry kinds.NoOp after (executable ∷ local_exec_base ∷ in_reach_if_known after 0 ∷ [])

-- ---- the tables, by n, the count of the instruction's bytes before the field

-- The entries, and the instructions that they are for, where their rewrites are for more.
pub record Table : Type 0 where
  pub instructions : List Original
  pub entries : List X86Entry

abbrev pub table : List Original → List X86Entry → Table
table instructions entries = record { instructions = instructions; entries = entries }

-- those that the rewrites are for
abbrev pub any_entry : List X86Entry → Table
any_entry entries = table (original 0 [] ∷ []) entries

-- `mov`, with any prefix or none
abbrev pub mov_of : ℕ → RewriteKind
mov_of n = if n == 2 then kinds.MovIndirectToAbsolute else kinds.RexMovIndirectToAbsolute n

-- `mov` also takes a distance, so it takes only an address that is known
abbrev pub mov_table : ℕ → Table
mov_table n =
    table (legacy n 0x8b)
    (address_by (mov_of n) (immediate_of n) (in_reach (immediate_of n) 0)
    ++ distance_by kinds.MovIndirectToLea ∷ [])

-- `mov` of a GOT entry that no relocation marks for more: only a distance
abbrev pub load_table : ℕ → Table
load_table opcode =
    if opcode == 0x8b
    then table (legacy 3 0x8b) (distance_by kinds.MovIndirectToLea ∷ [])
    else any_entry []

abbrev pub operation_table : ℕ → RewriteKind → Table
operation_table n kind =
    any_entry (address_by kind (immediate_of n) (in_reach_if_known (immediate_of n) 0))

-- the operations by their opcodes
abbrev pub got_table : ℕ → ℕ → Table
got_table n opcode =
    if opcode == 0x8b then mov_table n
    else (if opcode == 0x03 then operation_table n (kinds.RexAddIndirectToAbsolute n)
    else (if opcode == 0x2b then operation_table n (kinds.RexSubIndirectToAbsolute n)
    else (if opcode == 0x3b then operation_table n (kinds.RexCmpIndirectToAbsolute n)
    else (if opcode == 0x13 then operation_table n (kinds.RexAdcIndirectToAbsolute n)
    else (if opcode == 0x23 then operation_table n (kinds.RexAndIndirectToAbsolute n)
    else (if opcode == 0x0b then operation_table n (kinds.RexOrIndirectToAbsolute n)
    else (if opcode == 0x1b then operation_table n (kinds.RexSbbIndirectToAbsolute n)
    else (if opcode == 0x33 then operation_table n (kinds.RexXorIndirectToAbsolute n)
    else (if opcode == 0x85 then operation_table n (kinds.RexTestIndirectToAbsolute n)
    else any_entry [])))))))))

-- `call *` and `jmp *`
abbrev pub branch_table : Table
branch_table =
    any_entry
    (distance_by kinds.CallIndirectToRelative ∷ distance_by kinds.JmpIndirectToRelative ∷ [])

abbrev pub initial_exec_table : ℕ → ℕ → Table
initial_exec_table n opcode =
    if opcode == 0x8b then any_entry (local_exec_by (kinds.RexMovIndirectToAbsolute n) ∷ [])
    else (if opcode == 0x03 then any_entry (local_exec_by (kinds.RexAddIndirectToAbsolute n) ∷ [])
    else any_entry [])

abbrev pub general_dynamic_table : Table
general_dynamic_table =
    any_entry
    (sequence_to_local_exec_by kinds.TlsGdToLocalExec
    ∷ sequence_to_local_exec_by kinds.TlsGdToLocalExecLarge
    ∷ sequence_to_initial_exec_by kinds.TlsGdToInitialExec ∷ [])

abbrev pub local_dynamic_table : Table
local_dynamic_table =
    any_entry
    (module_by kinds.TlsLdToLocalExec ∷ module_by kinds.TlsLdToLocalExecNoPlt
    ∷ module_by kinds.TlsLdToLocalExec64 ∷ [])

abbrev pub descriptor_table : ℕ → Table
descriptor_table n =
    table (lea_of_descriptor n)
    (sequence_to_local_exec_by (kinds.TlsDescToLocalExec n)
    ∷ sequence_to_initial_exec_by kinds.TlsDescToInitialExec ∷ [])

-- By the relocation's name and an opcode. No instruction has five bytes before its field, and no
-- `lea` has six, so R_X86_64_CODE_5_GOTPCRELX and the like have no entries.
abbrev pub x86_64_table : X86_64Relocation → ℕ → Table
x86_64_table r.R_X86_64_GOTPCREL opcode = load_table opcode
x86_64_table r.R_X86_64_GOTPCRELX opcode =
    if opcode == 0xff then branch_table else got_table 2 opcode
x86_64_table r.R_X86_64_REX_GOTPCRELX opcode = got_table 3 opcode
x86_64_table r.R_X86_64_CODE_4_GOTPCRELX opcode = got_table 4 opcode
x86_64_table r.R_X86_64_CODE_6_GOTPCRELX opcode = got_table 6 opcode
x86_64_table r.R_X86_64_GOTTPOFF opcode = initial_exec_table 3 opcode
x86_64_table r.R_X86_64_CODE_4_GOTTPOFF opcode = initial_exec_table 4 opcode
x86_64_table r.R_X86_64_CODE_6_GOTTPOFF opcode = initial_exec_table 6 opcode
x86_64_table r.R_X86_64_TLSGD opcode = general_dynamic_table
x86_64_table r.R_X86_64_TLSLD opcode = local_dynamic_table
x86_64_table r.R_X86_64_DTPOFF32 opcode =
    any_entry (from_thread_pointer r.R_X86_64_TPOFF32 ∷ [])
x86_64_table r.R_X86_64_DTPOFF64 opcode =
    any_entry (from_thread_pointer r.R_X86_64_TPOFF64 ∷ [])
x86_64_table r.R_X86_64_GOTPC32_TLSDESC opcode = descriptor_table 3
x86_64_table r.R_X86_64_CODE_4_GOTPC32_TLSDESC opcode = descriptor_table 4
x86_64_table r.R_X86_64_TLSDESC_CALL opcode = any_entry (unrelocated_by kinds.SkipTlsDescCall ∷ [])
x86_64_table name opcode = any_entry []

-- ---- the choice

-- An EVEX prefix may begin six bytes before an offset. The last of its four bytes may look like
-- REX.
abbrev pub may_have_evex : List ℕ → ℕ → Bool
may_have_evex section o = nat_le 6 o && slice_index section (o - 6) == 0x62

-- The opcode is two bytes before the field. R_X86_64_GOTPCREL is at any instruction, and with EVEX
-- an opcode is of another one: 0x8b is no `mov`. So it is 0 there, for which no table has entries.
abbrev pub opcode_at : X86_64Relocation → List ℕ → ℕ → ℕ
opcode_at r.R_X86_64_GOTPCREL section o =
    if may_have_evex section o then 0 else slice_index section (o - 2)
opcode_at name section o = slice_index section (o - 2)

-- What is required with a rewrite: one of some instructions is there, and the rewrite matches.
abbrev pub HasPattern : List Original → RewriteKind → List ℕ → ℕ → Type 0
HasPattern instructions kind section o =
    IsTrue (is_one_at instructions section o) × x86_64_matches kind section o

abbrev pub x86_64_after : RewriteKind → ℕ → Operands → Operands
x86_64_after kind = operands_after (x86_64_rewrite kind)

abbrev pub IsByTable : Table → X86_64Relocation → List ℕ → ℕ → LinkFacts
    → Choice RewriteKind X86_64Relocation → Type 0
IsByTable t name section o facts chosen =
    IsFirst (Applies (HasPattern t.instructions) x86_64_row x86_64_after section o facts) t.entries
    (choice kinds.NoOp name) chosen

abbrev pub IsX86Choice : X86_64Relocation → List ℕ → ℕ → LinkFacts
    → Choice RewriteKind X86_64Relocation → Type 0
IsX86Choice name section o facts chosen =
    IsByTable (x86_64_table name (opcode_at name section o)) name section o facts chosen

-- ---- the rewrites of the crate `linker-utils`

-- the rewrite of the same name
abbrev pub x86_64_rewrite_kind : RelaxationKind → RewriteKind
x86_64_rewrite_kind originals.MovIndirectToLea = kinds.MovIndirectToLea
x86_64_rewrite_kind originals.MovIndirectToAbsolute = kinds.MovIndirectToAbsolute
x86_64_rewrite_kind (originals.RexMovIndirectToAbsolute n) = kinds.RexMovIndirectToAbsolute n
x86_64_rewrite_kind (originals.RexAddIndirectToAbsolute n) = kinds.RexAddIndirectToAbsolute n
x86_64_rewrite_kind (originals.RexSubIndirectToAbsolute n) = kinds.RexSubIndirectToAbsolute n
x86_64_rewrite_kind (originals.RexCmpIndirectToAbsolute n) = kinds.RexCmpIndirectToAbsolute n
x86_64_rewrite_kind originals.CallIndirectToRelative = kinds.CallIndirectToRelative
x86_64_rewrite_kind originals.JmpIndirectToRelative = kinds.JmpIndirectToRelative
x86_64_rewrite_kind originals.NoOp = kinds.NoOp
x86_64_rewrite_kind originals.TlsGdToLocalExec = kinds.TlsGdToLocalExec
x86_64_rewrite_kind originals.TlsGdToLocalExecLarge = kinds.TlsGdToLocalExecLarge
x86_64_rewrite_kind originals.TlsLdToLocalExec = kinds.TlsLdToLocalExec
x86_64_rewrite_kind originals.TlsLdToLocalExecNoPlt = kinds.TlsLdToLocalExecNoPlt
x86_64_rewrite_kind originals.TlsLdToLocalExec64 = kinds.TlsLdToLocalExec64
x86_64_rewrite_kind originals.TlsGdToInitialExec = kinds.TlsGdToInitialExec
x86_64_rewrite_kind (originals.TlsDescToLocalExec n) = kinds.TlsDescToLocalExec n
x86_64_rewrite_kind originals.TlsDescToInitialExec = kinds.TlsDescToInitialExec
x86_64_rewrite_kind originals.SkipTlsDescCall = kinds.SkipTlsDescCall
