-- What the rewrites of PowerPC64 leave (64-bit ELF V2 ABI for Power, "TLS Linkage Optimizations"
-- and "TOC Optimizations"; Power ISA, "Instruction Formats"). Bits are numbered from the lowest, 0.
use Rattle.linker_utils.specs.Imports.{Applies, Bool, Choice, Condition, Entry, HasWord, IsFirst}
use Rattle.linker_utils.specs.Imports.{IsTrue, LinkFacts, List, None, Normal, Option}
use Rattle.linker_utils.specs.Imports.{Ppc64Relocation, RelocationModifier, Rewrite}
use Rattle.linker_utils.specs.Imports.{SkipNextRelocation, Some, [], addend, bound, changed_toc}
use Rattle.linker_utils.specs.Imports.{choice, drop, entry, executable, false, field, fixed_address}
use Rattle.linker_utils.specs.Imports.{fixed_distance, from_le_bytes, group_fits, in_reach}
use Rattle.linker_utils.specs.Imports.{in_reach_if_known, marked, nat_lt, not, pos, ppc64_row}
use Rattle.linker_utils.specs.Imports.{private_base, replaces, to_le_bytes, true, w32, w64, ℕ, ℤ, ⊤}
use Rattle.std.specs.Prelude.{◌+◌, ◌-◌, ◌*◌, ◌^◌, ◌==◌, if◌then◌else◌, ◌∷◌, ◌&&◌, ◌||◌, ◌%◌, ◌≡◌}
use Rattle.std.specs.Prelude.{◌⊎◌, ◌++◌}
use Rattle.linker_utils.specs.declared.ppc64.relaxation_kind.RelaxationKind.{RelaxationKind}
use Rattle.linker_utils.specs.declared.ppc64.relaxation_kind.RelaxationKind.TheVariants as originals
use Rattle.linker_utils.specs.declared.ppc64.rewrites.RewriteKind.{RewriteKind}
use Rattle.linker_utils.specs.declared.ppc64.rewrites.RewriteKind.TheVariants as kinds
use Rattle.linker_elf.specs.declared.ppc64.relocations.Ppc64Relocation.TheVariants as r

-- ---- the parts of an instruction

-- the primary opcode
abbrev pub opcode_of : ℕ → ℕ
opcode_of word = field word 26 32

-- the target register, or the source of a store
abbrev pub rt_of : ℕ → ℕ
rt_of word = field word 21 26

-- the base register
abbrev pub ra_of : ℕ → ℕ
ra_of word = field word 16 21

-- the second source register
abbrev pub rb_of : ℕ → ℕ
rb_of word = field word 11 16

-- target and base register, in their places
abbrev pub registers_of : ℕ → ℕ
registers_of word = field word 16 26 * 2 ^ 16

-- the upper half of the extended opcode of an indexed access, which says what is accessed
abbrev pub access_of : ℕ → ℕ
access_of word = field word 6 11

-- ---- words

abbrev pub nop : ℕ
nop = 0x60000000

-- `addis rT,13,0`
abbrev pub addis_of_thread : ℕ → ℕ
addis_of_thread rt = 0x3c0d0000 + rt * 2 ^ 21

-- `addi rT,0,0`
abbrev pub li_of : ℕ → ℕ
li_of rt = 0x38000000 + rt * 2 ^ 21

-- `addi rT,13,n`
abbrev pub addi_of_thread : ℕ → ℕ → ℕ
addi_of_thread n rt = 0x380d0000 + rt * 2 ^ 21 + n

-- the second word of `pld rT,0(0)`
abbrev pub ld_of : ℕ → ℕ
ld_of rt = 0xe4000000 + rt * 2 ^ 21

-- `mr rT,rA`
abbrev pub move_of : ℕ → ℕ → ℕ
move_of rt ra = 0x7c000378 + ra * 2 ^ 21 + rt * 2 ^ 16 + ra * 2 ^ 11

-- the instruction with another base
abbrev pub over_base : ℕ → ℕ → ℕ
over_base ra word = field word 21 32 * 2 ^ 21 + ra * 2 ^ 16 + field word 0 16

-- the same access, of bytes or words, by a displacement of 16 bits: `lwzx` is `lwz`
abbrev pub by_displacement : ℕ → ℕ
by_displacement word = (32 + access_of word) * 2 ^ 26 + registers_of word

-- `ldx`, `stdx` and `lwax` by a displacement in whole words
abbrev pub by_word_displacement : ℕ → ℕ
by_word_displacement word =
    (if access_of word == 4 then 62 else 58) * 2 ^ 26 + registers_of word
    + (if access_of word == 10 then 2 else 0)

-- `mr` in place of an addition to its first source, or `nop` where that is the target
abbrev pub to_move : ℕ → ℕ
to_move word =
    if rt_of word == ra_of word then nop else move_of (rt_of word) (ra_of word)

-- any of these accesses by a displacement of 0
abbrev pub direct : ℕ → ℕ
direct word =
    if field word 0 6 == 0x2e then by_displacement word else by_word_displacement word

-- ---- rewrites

abbrev pub rewrites_word : (ℕ → ℕ) → Rewrite
rewrites_word new = replaces 0 4 (λ window. to_le_bytes w32 (new (from_le_bytes w32 window)))

-- the same of the instruction whose second byte is at the offset, where marks of prefixed code are
abbrev pub rewrites_marked : (ℕ → ℕ) → Rewrite
rewrites_marked new = replaces 1 4 (λ window. to_le_bytes w32 (new (from_le_bytes w32 window)))

-- two instructions, as one number
abbrev pub two_words : ℕ → ℕ → List ℕ
two_words first second = to_le_bytes w64 (first + second * 2 ^ 32)

-- a rewrite of a call and of the `nop` after it, to `nop` and an instruction at which the offset is
-- then
abbrev pub rewrites_call : ℕ → Rewrite
rewrites_call new =
    record {
      back = 0;
      len = 8;
      admits = λ _. true;
      bytes = λ _. two_words nop new;
      offset = λ o. o + 4;
      addend = λ a. a;
    }

-- `addi 2,2,0`, whose relocation then has the addend 0
abbrev pub addi_of_toc : Rewrite
addi_of_toc = record (rewrites_word (λ _. 0x38420000)) { addend = λ _. pos 0 }

-- the target register of a prefixed instruction
abbrev pub prefixed_rt : List ℕ → ℕ
prefixed_rt window = rt_of (from_le_bytes w32 (drop 4 window))

-- `paddi rT,0,0,1` in place of `pld rT`
abbrev pub paddi : List ℕ → List ℕ
paddi window = two_words 0x06100000 (li_of (prefixed_rt window))

-- `paddi rT,13,n`, which isn't relative to the instruction
abbrev pub paddi_of_thread : ℕ → List ℕ → List ℕ
paddi_of_thread n window = two_words 0x06000000 (addi_of_thread n (prefixed_rt window))

-- `pld rT,0,1`
abbrev pub pld : List ℕ → List ℕ
pld window = two_words 0x04100000 (ld_of (prefixed_rt window))

-- the call, and `ld 2,24(1)`
abbrev pub restores_toc : List ℕ → List ℕ
restores_toc window = two_words (from_le_bytes w32 window) 0xe8410018

abbrev pub ppc64_rewrite : RewriteKind → Option Rewrite
ppc64_rewrite kinds.NoOp = None
ppc64_rewrite kinds.AddisToNop = Some (rewrites_word (λ _. nop))
ppc64_rewrite kinds.BaseToToc = Some (rewrites_word (over_base 2))
ppc64_rewrite kinds.LdToAddi = Some (rewrites_word (λ word. 0x38000000 + registers_of word))
ppc64_rewrite kinds.PldToPaddi = Some (replaces 0 8 paddi)
ppc64_rewrite kinds.LdToAddisThread = Some (rewrites_word (λ word. addis_of_thread (rt_of word)))
ppc64_rewrite kinds.AddToAddi = Some (rewrites_word (λ word. 0x38000000 + registers_of word))
ppc64_rewrite kinds.IndexedToD = Some (rewrites_word by_displacement)
ppc64_rewrite kinds.IndexedToDs = Some (rewrites_word by_word_displacement)
ppc64_rewrite kinds.AddiToAddisThread = Some (rewrites_word (λ word. addis_of_thread (rt_of word)))
ppc64_rewrite kinds.AddiToLd = Some (rewrites_word (λ word. 0xe8000000 + registers_of word))
ppc64_rewrite kinds.CallToAddi = Some (rewrites_call 0x38630000)
ppc64_rewrite kinds.CallToAdd = Some (rewrites_call 0x7c636a14)
ppc64_rewrite kinds.CallToAddi4096 = Some (rewrites_call 0x38631000)
ppc64_rewrite kinds.NopToRestoreToc = Some (replaces 0 8 restores_toc)
ppc64_rewrite kinds.KeepAddis = None
ppc64_rewrite kinds.AddisToLis = Some (rewrites_word (λ _. 0x3c400000))
ppc64_rewrite kinds.AddiAfterLis = Some addi_of_toc
ppc64_rewrite kinds.AddisThreadToNop = Some (rewrites_word (λ _. nop))
ppc64_rewrite kinds.BaseToThread = Some (rewrites_word (over_base 13))
ppc64_rewrite kinds.PldToPaddiThread = Some (replaces 0 8 (paddi_of_thread 0))
ppc64_rewrite kinds.AddToMove = Some (rewrites_marked to_move)
ppc64_rewrite kinds.IndexedToDirect = Some (rewrites_marked direct)
ppc64_rewrite kinds.PaddiToPaddiThread = Some (replaces 0 8 (paddi_of_thread 0))
ppc64_rewrite kinds.PaddiToPld = Some (replaces 0 8 pld)
ppc64_rewrite kinds.PaddiToPaddi4096 = Some (replaces 0 8 (paddi_of_thread 0x1000))
ppc64_rewrite kinds.BranchToNop = Some (rewrites_word (λ _. nop))
ppc64_rewrite kinds.BranchToAdd = Some (rewrites_word (λ _. 0x7c636a14))

-- The relocation of the call itself is skipped where the call is gone.
abbrev pub ppc64_modifier : RewriteKind → RelocationModifier
ppc64_modifier kinds.CallToAddi = SkipNextRelocation
ppc64_modifier kinds.CallToAdd = SkipNextRelocation
ppc64_modifier kinds.CallToAddi4096 = SkipNextRelocation
ppc64_modifier kinds.BranchToNop = SkipNextRelocation
ppc64_modifier kinds.BranchToAdd = SkipNextRelocation
ppc64_modifier kind = Normal

-- the rewrites by their numbers from 0 up
abbrev pub ppc64_rewrites : List RewriteKind
ppc64_rewrites =
    kinds.NoOp ∷ kinds.AddisToNop ∷ kinds.BaseToToc ∷ kinds.LdToAddi ∷ kinds.PldToPaddi ∷
    kinds.LdToAddisThread ∷ kinds.AddToAddi ∷ kinds.IndexedToD ∷ kinds.IndexedToDs ∷
    kinds.AddiToAddisThread ∷ kinds.AddiToLd ∷ kinds.CallToAddi ∷ kinds.CallToAdd ∷
    kinds.CallToAddi4096 ∷ kinds.NopToRestoreToc ∷ kinds.KeepAddis ∷ kinds.AddisToLis ∷
    kinds.AddiAfterLis ∷ kinds.AddisThreadToNop ∷ kinds.BaseToThread ∷ kinds.PldToPaddiThread ∷
    kinds.AddToMove ∷ kinds.IndexedToDirect ∷ kinds.PaddiToPaddiThread ∷ kinds.PaddiToPld ∷
    kinds.PaddiToPaddi4096 ∷ kinds.BranchToNop ∷ kinds.BranchToAdd ∷ []

-- The instructions that each rewrite of PowerPC64 is meant for (Power ISA, "Fixed-Point Facility"
-- and "Floating-Point Facility"; 64-bit ELF V2 ABI for Power, "TLS Linkage Optimizations" and "TOC
-- Optimizations"). As a base, register 0 is the number 0.

-- ---- instructions by their bits

-- `addis rT,rA`, over a given register
abbrev pub is_addis_over : ℕ → ℕ → Bool
is_addis_over ra word = opcode_of word == 15 && ra_of word == ra

-- `addis rT,2`
abbrev pub is_addis_of_toc : ℕ → Bool
is_addis_of_toc = is_addis_over 2

-- `addis 2,12` and `addi 2,2`, at the entry of a function, whose address register 12 has
abbrev pub is_addis_of_entry : ℕ → Bool
is_addis_of_entry word = field word 16 32 == 0x3c4c

abbrev pub is_addi_of_toc : ℕ → Bool
is_addi_of_toc word = field word 16 32 == 0x3842

-- `addi rT,rA`
abbrev pub is_addi : ℕ → Bool
is_addi word = opcode_of word == 14 && not (ra_of word == 0)

-- `ld rT,x(rA)`
abbrev pub is_ld : ℕ → Bool
is_ld word = opcode_of word == 58 && field word 0 2 == 0 && not (ra_of word == 0)

-- The numbers of the accesses without update: of `lwz`, `lbz`, `stw`, `stb`, `lhz`, `lha`, `sth`,
-- `lfs`, `lfd`, `stfs` and `stfd` the opcode less 32, and of `lwzx` and so on the same.
abbrev pub is_access : ℕ → Bool
is_access n = n % 2 == 0 && nat_lt n 23 && not (n == 14)

-- those of `stw`, `stb` and `sth`
abbrev pub is_store : ℕ → Bool
is_store n = n == 4 || n == 6 || n == 12

-- `ldx`, `stdx` and `lwax`
abbrev pub is_word_access : ℕ → Bool
is_word_access n = n == 0 || n == 4 || n == 10

-- an instruction stores its source register only if that isn't the base too
abbrev pub keeps_base : Bool → ℕ → Bool
keeps_base stores word = not (stores && rt_of word == ra_of word)

-- such an access by a displacement
abbrev pub is_d_access : ℕ → Bool
is_d_access word =
    field word 31 32 == 1 && is_access (field word 26 31)
    && keeps_base (is_store (field word 26 31)) word

-- `ld` and `lwa`, or `std`
abbrev pub is_ds_access : ℕ → Bool
is_ds_access word =
    opcode_of word == 58 && (field word 0 2 == 0 || field word 0 2 == 2)
    || opcode_of word == 62 && field word 0 2 == 0 && keeps_base true word

-- `lq`; `lxsd` and `lxssp`; `lxv`, `stxv`, `stxsd` and `stxssp`
abbrev pub is_vector_access : ℕ → Bool
is_vector_access word =
    opcode_of word == 56 || opcode_of word == 57 && nat_lt 1 (field word 0 2)
    || opcode_of word == 61 && not (field word 0 2 == 0)

-- an instruction that reads its base register, which isn't 0, as the base alone, and leaves it
abbrev pub is_over_base : ℕ → Bool
is_over_base word =
    not (ra_of word == 0)
    && (opcode_of word == 14 || is_d_access word || is_ds_access word || is_vector_access word)

-- The second source register is 13, the thread pointer.
abbrev pub is_over_thread : ℕ → Bool
is_over_thread word = opcode_of word == 31 && field word 11 16 == 13 && not (ra_of word == 0)

-- `add rT,rA,13`
abbrev pub is_add_of_thread : ℕ → Bool
is_add_of_thread word = is_over_thread word && field word 0 11 == 0x214

-- `lwzx rT,rA,13` and so on
abbrev pub is_indexed : ℕ → Bool
is_indexed word =
    is_over_thread word && field word 0 6 == 0x2e && is_access (access_of word)
    && keeps_base (is_store (access_of word)) word

-- `ldx rT,rA,13` and so on
abbrev pub is_indexed_word : ℕ → Bool
is_indexed_word word =
    is_over_thread word && field word 0 6 == 0x2a && is_word_access (access_of word)
    && keeps_base (access_of word == 4) word

-- any of these accesses
abbrev pub is_indexed_any : ℕ → Bool
is_indexed_any word = is_indexed word || is_indexed_word word

-- `pld rT`, relative to the instruction, by its two words
abbrev pub is_pld : ℕ → ℕ → Bool
is_pld prefix word = field prefix 18 32 == 0x104 && opcode_of word == 57 && ra_of word == 0

-- `paddi rT,0`, relative to the instruction
abbrev pub is_pla : ℕ → ℕ → Bool
is_pla prefix word = field prefix 18 32 == 0x184 && opcode_of word == 14 && ra_of word == 0

-- `bl`
abbrev pub is_bl : ℕ → Bool
is_bl word = opcode_of word == 18 && field word 0 2 == 1

-- `bl`, and `nop` after it
abbrev pub is_call : ℕ → ℕ → Bool
is_call word next = opcode_of word == 18 && field word 0 2 == 1 && next == nop

-- ---- where they are

abbrev pub HasTest : (ℕ → Bool) → List ℕ → ℕ → Type 0
HasTest test section o = HasWord section o (λ word. IsTrue (test word))

-- the same, where instructions stand: prefixed ones have marks between these places
abbrev pub HasAligned : (ℕ → Bool) → List ℕ → ℕ → Type 0
HasAligned test section o = (o % 4 ≡ 0) × HasTest test section o

-- the same, where the second byte of an instruction is
abbrev pub HasMarked : (ℕ → Bool) → List ℕ → ℕ → Type 0
HasMarked test section o = (o % 4 ≡ 1) × HasTest test section (o - 1)

-- two words one after the other
abbrev pub HasTwo : (ℕ → ℕ → Bool) → List ℕ → ℕ → Type 0
HasTwo test section o =
    HasWord section o (λ first. HasWord section (o + 4) (λ second. IsTrue (test first second)))

-- What a rewrite is meant for is at an offset of the section.
abbrev pub ppc64_matches : RewriteKind → List ℕ → ℕ → Type 0
ppc64_matches kinds.NoOp = λ section o. ⊤
ppc64_matches kinds.AddisToNop = HasTest is_addis_of_toc
ppc64_matches kinds.BaseToToc = HasTest is_over_base
ppc64_matches kinds.LdToAddi = HasTest is_ld
ppc64_matches kinds.PldToPaddi = HasTwo is_pld
ppc64_matches kinds.LdToAddisThread = HasTest (λ word. is_ld word && not (rt_of word == 0))
ppc64_matches kinds.AddToAddi = HasAligned is_add_of_thread
ppc64_matches kinds.IndexedToD = HasAligned is_indexed
ppc64_matches kinds.IndexedToDs = HasAligned is_indexed_word
ppc64_matches kinds.AddiToAddisThread = HasTest is_addi
ppc64_matches kinds.AddiToLd = HasTest is_addi
ppc64_matches kinds.CallToAddi = HasTwo is_call
ppc64_matches kinds.CallToAdd = HasTwo is_call
ppc64_matches kinds.CallToAddi4096 = HasTwo is_call
ppc64_matches kinds.NopToRestoreToc = HasTwo is_call
ppc64_matches kinds.KeepAddis = HasTest is_addis_of_toc
ppc64_matches kinds.AddisToLis = HasTest is_addis_of_entry
ppc64_matches kinds.AddiAfterLis = HasTest is_addi_of_toc
ppc64_matches kinds.AddisThreadToNop = HasTest (is_addis_over 13)
ppc64_matches kinds.BaseToThread = HasTest is_over_base
ppc64_matches kinds.PldToPaddiThread = HasTwo is_pld
ppc64_matches kinds.AddToMove = HasMarked is_add_of_thread
ppc64_matches kinds.IndexedToDirect = HasMarked is_indexed_any
ppc64_matches kinds.PaddiToPaddiThread = HasTwo is_pla
ppc64_matches kinds.PaddiToPld = HasTwo is_pla
ppc64_matches kinds.PaddiToPaddi4096 = HasTwo is_pla
ppc64_matches kinds.BranchToNop = HasTest is_bl
ppc64_matches kinds.BranchToAdd = HasTest is_bl

-- Which rewrite of PowerPC64 is chosen (64-bit ELF V2 ABI for Power, "TOC Optimizations", "TLS
-- Linkage Optimizations" and "The TOC Pointer Register"). No condition depends on the place of a
-- rewrite that moves it.

abbrev pub Conditions : Type 0
Conditions = List (Condition Ppc64Relocation)

-- ---- conditions

-- The high part of the distance from the TOC pointer is 0.
abbrev pub without_high_part : Conditions
without_high_part = private_base ∷ in_reach r.R_PPC64_TOC16 0 ∷ []

-- The high part of the offset from the thread pointer is 0.
abbrev pub without_high_offset : Conditions
without_high_offset =
    bound ∷ executable ∷ private_base ∷ group_fits ∷ in_reach r.R_PPC64_TPREL16 0 ∷ []

-- the address by its distance from the TOC pointer, and not by its entry
abbrev pub to_toc_distance : Conditions
to_toc_distance = bound ∷ fixed_distance ∷ in_reach_if_known r.R_PPC64_TOC16_HA 0 ∷ []

-- the address by its distance from the instruction
abbrev pub to_distance : Conditions
to_distance = bound ∷ fixed_distance ∷ in_reach_if_known r.R_PPC64_PCREL34 0 ∷ []

-- the offset from the thread pointer in the instructions
abbrev pub to_local_exec : Conditions
to_local_exec =
    bound ∷ executable ∷ group_fits ∷ in_reach_if_known r.R_PPC64_TPREL16_HA 0 ∷ []

-- the same of an access of whole words
abbrev pub to_local_exec_words : Conditions
to_local_exec_words =
    bound ∷ executable ∷ group_fits ∷ in_reach_if_known r.R_PPC64_TPREL16_HA 0
    ∷ in_reach_if_known r.R_PPC64_TPREL16_LO_DS 0 ∷ []

-- the offset from the thread pointer in the GOT
abbrev pub to_initial_exec : Conditions
to_initial_exec =
    executable ∷ group_fits ∷ in_reach_if_known r.R_PPC64_GOT_TPREL16_HA 0 ∷ []

-- the same in an entry near the TOC pointer
abbrev pub to_near_initial_exec : Conditions
to_near_initial_exec =
    executable ∷ group_fits ∷ in_reach_if_known r.R_PPC64_GOT_TPREL16_DS 0 ∷ []

-- the module's block from the thread pointer
abbrev pub to_module : Conditions
to_module = executable ∷ group_fits ∷ []

-- the offset from the thread pointer in a prefixed instruction
abbrev pub to_prefixed_local_exec : Conditions
to_prefixed_local_exec =
    bound ∷ executable ∷ group_fits ∷ in_reach_if_known r.R_PPC64_TPREL34 0 ∷ []

-- the same in the GOT, at any distance from the instruction
abbrev pub to_prefixed_initial_exec : Conditions
to_prefixed_initial_exec = executable ∷ group_fits ∷ []

-- The same at the mark of a call. There the fact of a mark says that the call itself has
-- R_PPC64_REL24_NOTOC, so that it is of prefixed code, which has the address complete before it.
abbrev pub called_to_local_exec : Conditions
called_to_local_exec =
    bound ∷ executable ∷ marked ∷ group_fits ∷ in_reach_if_known r.R_PPC64_TPREL34 0 ∷ []

abbrev pub called_to_initial_exec : Conditions
called_to_initial_exec = executable ∷ marked ∷ group_fits ∷ []

abbrev pub called_to_module : Conditions
called_to_module = executable ∷ marked ∷ group_fits ∷ []

-- the address in place of the distance from a function's entry, by the addend of the instruction
abbrev pub to_address : ℤ → Conditions
to_address a =
    bound ∷ fixed_address ∷ group_fits ∷ addend a ∷ in_reach_if_known r.R_PPC64_ADDR16_HA 0 ∷ []

-- ---- the table

abbrev pub ppc64_entries : Ppc64Relocation → List (Entry RewriteKind Ppc64Relocation)
ppc64_entries r.R_PPC64_TOC16_HA =
    entry kinds.AddisToNop r.R_PPC64_NONE without_high_part ∷ []
ppc64_entries r.R_PPC64_TOC16_LO =
    entry kinds.BaseToToc r.R_PPC64_TOC16 without_high_part ∷ []
ppc64_entries r.R_PPC64_TOC16_LO_DS =
    entry kinds.BaseToToc r.R_PPC64_TOC16_DS without_high_part ∷ []
ppc64_entries r.R_PPC64_GOT16_HA =
    entry kinds.KeepAddis r.R_PPC64_TOC16_HA to_toc_distance ∷ []
ppc64_entries r.R_PPC64_GOT16_LO_DS = entry kinds.LdToAddi r.R_PPC64_TOC16_LO to_toc_distance ∷ []
ppc64_entries r.R_PPC64_GOT_PCREL34 = entry kinds.PldToPaddi r.R_PPC64_PCREL34 to_distance ∷ []
ppc64_entries r.R_PPC64_GOT_TPREL16_HA = entry kinds.AddisToNop r.R_PPC64_NONE to_local_exec ∷ []
ppc64_entries r.R_PPC64_GOT_TPREL16_LO_DS =
    entry kinds.LdToAddisThread r.R_PPC64_TPREL16_HA to_local_exec ∷ []
ppc64_entries r.R_PPC64_GOT_TPREL16_DS =
    entry kinds.LdToAddisThread r.R_PPC64_TPREL16_HA to_local_exec ∷ []
ppc64_entries r.R_PPC64_GOT_TPREL_PCREL34 =
    entry kinds.PldToPaddiThread r.R_PPC64_TPREL34 to_prefixed_local_exec ∷ []
ppc64_entries r.R_PPC64_TLS =
    entry kinds.AddToAddi r.R_PPC64_TPREL16_LO to_local_exec ∷
    entry kinds.IndexedToD r.R_PPC64_TPREL16_LO to_local_exec ∷
    entry kinds.IndexedToDs r.R_PPC64_TPREL16_LO_DS to_local_exec_words ∷
    entry kinds.AddToMove r.R_PPC64_NONE to_prefixed_local_exec ∷
    entry kinds.IndexedToDirect r.R_PPC64_NONE to_prefixed_local_exec ∷ []
ppc64_entries r.R_PPC64_GOT_TLSGD16_HA =
    entry kinds.AddisToNop r.R_PPC64_NONE to_local_exec ∷
    entry kinds.KeepAddis r.R_PPC64_GOT_TPREL16_HA to_initial_exec ∷ []
ppc64_entries r.R_PPC64_GOT_TLSGD16_LO =
    entry kinds.AddiToAddisThread r.R_PPC64_TPREL16_HA to_local_exec ∷
    entry kinds.AddiToLd r.R_PPC64_GOT_TPREL16_LO_DS to_initial_exec ∷ []
ppc64_entries r.R_PPC64_GOT_TLSGD16 =
    entry kinds.AddiToAddisThread r.R_PPC64_TPREL16_HA to_local_exec ∷
    entry kinds.AddiToLd r.R_PPC64_GOT_TPREL16_DS to_near_initial_exec ∷ []
ppc64_entries r.R_PPC64_GOT_TLSGD_PCREL34 =
    entry kinds.PaddiToPaddiThread r.R_PPC64_TPREL34 to_prefixed_local_exec ∷
    entry kinds.PaddiToPld r.R_PPC64_GOT_TPREL_PCREL34 to_prefixed_initial_exec ∷ []
ppc64_entries r.R_PPC64_TLSGD =
    entry kinds.BranchToNop r.R_PPC64_NONE called_to_local_exec ∷
    entry kinds.BranchToAdd r.R_PPC64_NONE called_to_initial_exec ∷
    entry kinds.CallToAddi r.R_PPC64_TPREL16_LO to_local_exec ∷
    entry kinds.CallToAdd r.R_PPC64_NONE to_initial_exec ∷ []
ppc64_entries r.R_PPC64_GOT_TLSLD16_HA =
    entry kinds.AddisToNop r.R_PPC64_NONE to_module ∷ []
ppc64_entries r.R_PPC64_GOT_TLSLD16_LO =
    entry kinds.AddiToAddisThread r.R_PPC64_NONE to_module ∷ []
ppc64_entries r.R_PPC64_GOT_TLSLD16 =
    entry kinds.AddiToAddisThread r.R_PPC64_NONE to_module ∷ []
ppc64_entries r.R_PPC64_GOT_TLSLD_PCREL34 =
    entry kinds.PaddiToPaddi4096 r.R_PPC64_NONE to_module ∷ []
ppc64_entries r.R_PPC64_TLSLD =
    entry kinds.BranchToNop r.R_PPC64_NONE called_to_module ∷
    entry kinds.CallToAddi4096 r.R_PPC64_NONE to_module ∷ []
ppc64_entries r.R_PPC64_REL24 =
    entry kinds.NopToRestoreToc r.R_PPC64_REL24 (changed_toc ∷ []) ∷ []
ppc64_entries r.R_PPC64_REL16_HA =
    entry kinds.AddisToLis r.R_PPC64_ADDR16_HA (to_address (pos 0)) ∷ []
ppc64_entries r.R_PPC64_REL16_LO =
    entry kinds.AddiAfterLis r.R_PPC64_ADDR16_LO (to_address (pos 4)) ∷ []
ppc64_entries r.R_PPC64_TPREL16_HA =
    entry kinds.AddisThreadToNop r.R_PPC64_NONE without_high_offset ∷ []
ppc64_entries r.R_PPC64_TPREL16_LO =
    entry kinds.BaseToThread r.R_PPC64_TPREL16 without_high_offset ∷ []
ppc64_entries r.R_PPC64_TPREL16_LO_DS =
    entry kinds.BaseToThread r.R_PPC64_TPREL16_DS without_high_offset ∷ []
ppc64_entries name = []

-- ---- which entry is chosen

-- what the rewrite is meant for is at the offset, and the conditions hold
abbrev pub Ppc64Applies : List ℕ → ℕ → LinkFacts → Entry RewriteKind Ppc64Relocation → Type 0
Ppc64Applies = Applies ppc64_matches ppc64_row (λ kind o operands. operands)

-- `NoOp` and the same relocation where no entry applies
abbrev pub IsPpc64Choice : Ppc64Relocation → List ℕ → ℕ → LinkFacts
    → Choice RewriteKind Ppc64Relocation → Type 0
IsPpc64Choice name section o facts chosen =
    IsFirst (Ppc64Applies section o facts) (ppc64_entries name) (choice kinds.NoOp name) chosen

-- ---- all relocations of a sequence

abbrev pub Ppc64Choice : Type 0
Ppc64Choice = Choice RewriteKind Ppc64Relocation

-- the facts of a relocation at another place
abbrev pub facts_at : ℕ → LinkFacts → LinkFacts
facts_at place facts =
    record facts { operands = record facts.operands { place = place } }

-- two choices are those of one line
abbrev pub IsAmong : Ppc64Choice × Ppc64Choice → List (Ppc64Choice × Ppc64Choice) → Type 0
IsAmong x [] = ⊥
IsAmong x (y ∷ ys) = (x ≡ y) ⊎ IsAmong x ys

-- The instructions at two offsets are some that the rewrites of each line are meant for.
abbrev pub AreMeant : List (Ppc64Choice × Ppc64Choice) → List ℕ → ℕ → ℕ → Type 0
AreMeant [] section o p = ⊤
AreMeant (x ∷ xs) section o p =
    ppc64_matches x.0.kind section o × ppc64_matches x.1.kind section p
    × AreMeant xs section o p

-- Two relocations of one sequence, wherever its instructions are, with the same facts but for the
-- place: both choices are those of one line, or both relocations are left.
abbrev pub AreChosenAlike : Ppc64Relocation → Ppc64Relocation → List (Ppc64Choice × Ppc64Choice)
    → Type 0
AreChosenAlike first second lines =
    (section : List ℕ) (o p place : ℕ) (facts : LinkFacts) (a b : Ppc64Choice)
    → AreMeant lines section o p
    → IsPpc64Choice first section o facts a
    → IsPpc64Choice second section p (facts_at place facts) b
    → IsAmong (a, b) (lines ++ (choice kinds.NoOp first, choice kinds.NoOp second) ∷ [])

-- the same of the mark of a call, which is one by R_PPC64_REL24_NOTOC or isn't
abbrev pub IsCalledAlike : Bool → Ppc64Relocation → Ppc64Relocation
    → List (Ppc64Choice × Ppc64Choice) → Type 0
IsCalledAlike prefixed first mark lines =
    (section : List ℕ) (o p place : ℕ) (facts : LinkFacts) (a b : Ppc64Choice)
    → facts.is_relaxable ≡ prefixed
    → AreMeant lines section o p
    → IsPpc64Choice first section o facts a
    → IsPpc64Choice mark section p (facts_at place facts) b
    → IsAmong (a, b) (lines ++ (choice kinds.NoOp first, choice kinds.NoOp mark) ∷ [])

abbrev pub to_nop : Ppc64Choice
to_nop = choice kinds.AddisToNop r.R_PPC64_NONE

abbrev pub TocPairsAreChosenAlike : Type 0
TocPairsAreChosenAlike =
    AreChosenAlike r.R_PPC64_TOC16_HA r.R_PPC64_TOC16_LO
    ((to_nop, choice kinds.BaseToToc r.R_PPC64_TOC16) ∷ [])
    × AreChosenAlike r.R_PPC64_TOC16_HA r.R_PPC64_TOC16_LO_DS
    ((to_nop, choice kinds.BaseToToc r.R_PPC64_TOC16_DS) ∷ [])

-- the same of an offset from the thread pointer
abbrev pub ThreadPairsAreChosenAlike : Type 0
ThreadPairsAreChosenAlike =
    AreChosenAlike r.R_PPC64_TPREL16_HA r.R_PPC64_TPREL16_LO
    ((
      choice kinds.AddisThreadToNop r.R_PPC64_NONE,
      choice kinds.BaseToThread r.R_PPC64_TPREL16,
    ) ∷ [])
    × AreChosenAlike r.R_PPC64_TPREL16_HA r.R_PPC64_TPREL16_LO_DS
    ((
      choice kinds.AddisThreadToNop r.R_PPC64_NONE,
      choice kinds.BaseToThread r.R_PPC64_TPREL16_DS,
    ) ∷ [])

abbrev pub GotPairIsChosenAlike : Type 0
GotPairIsChosenAlike =
    AreChosenAlike r.R_PPC64_GOT16_HA r.R_PPC64_GOT16_LO_DS
    ((choice kinds.KeepAddis r.R_PPC64_TOC16_HA, choice kinds.LdToAddi r.R_PPC64_TOC16_LO) ∷ [])

-- the two halves of the entry's address
abbrev pub InitialExecPairIsChosenAlike : Type 0
InitialExecPairIsChosenAlike =
    AreChosenAlike r.R_PPC64_GOT_TPREL16_HA r.R_PPC64_GOT_TPREL16_LO_DS
    ((to_nop, choice kinds.LdToAddisThread r.R_PPC64_TPREL16_HA) ∷ [])

-- a prefixed load of the entry with what adds the thread pointer, also with an access of any size
abbrev pub PrefixedInitialExecIsChosenAlike : Type 0
PrefixedInitialExecIsChosenAlike =
    AreChosenAlike r.R_PPC64_GOT_TPREL_PCREL34 r.R_PPC64_TLS
    ((
      choice kinds.PldToPaddiThread r.R_PPC64_TPREL34,
      choice kinds.AddToMove r.R_PPC64_NONE,
    ) ∷ [])
    × AreChosenAlike r.R_PPC64_GOT_TPREL_PCREL34 r.R_PPC64_TLS
    ((
      choice kinds.PldToPaddiThread r.R_PPC64_TPREL34,
      choice kinds.IndexedToDirect r.R_PPC64_NONE,
    ) ∷ [])

-- the choices of the two halves of an argument and of its call, for local-exec and for initial-exec
abbrev pub GeneralDynamicIsChosenAlike : Type 0
GeneralDynamicIsChosenAlike =
    AreChosenAlike r.R_PPC64_GOT_TLSGD16_HA r.R_PPC64_GOT_TLSGD16_LO
    ((to_nop, choice kinds.AddiToAddisThread r.R_PPC64_TPREL16_HA) ∷ (
      choice kinds.KeepAddis r.R_PPC64_GOT_TPREL16_HA,
      choice kinds.AddiToLd r.R_PPC64_GOT_TPREL16_LO_DS,
    ) ∷ [])
    × IsCalledAlike false r.R_PPC64_GOT_TLSGD16_HA r.R_PPC64_TLSGD
    ((to_nop, choice kinds.CallToAddi r.R_PPC64_TPREL16_LO) ∷
    (choice kinds.KeepAddis r.R_PPC64_GOT_TPREL16_HA, choice kinds.CallToAdd r.R_PPC64_NONE)
    ∷ [])
    × IsCalledAlike true r.R_PPC64_GOT_TLSGD_PCREL34 r.R_PPC64_TLSGD
    ((
      choice kinds.PaddiToPaddiThread r.R_PPC64_TPREL34,
      choice kinds.BranchToNop r.R_PPC64_NONE,
    ) ∷ (
      choice kinds.PaddiToPld r.R_PPC64_GOT_TPREL_PCREL34,
      choice kinds.BranchToAdd r.R_PPC64_NONE,
    ) ∷ [])

abbrev pub LocalDynamicIsChosenAlike : Type 0
LocalDynamicIsChosenAlike =
    AreChosenAlike r.R_PPC64_GOT_TLSLD16_HA r.R_PPC64_GOT_TLSLD16_LO
    ((to_nop, choice kinds.AddiToAddisThread r.R_PPC64_NONE) ∷ [])
    × IsCalledAlike false r.R_PPC64_GOT_TLSLD16_HA r.R_PPC64_TLSLD
    ((to_nop, choice kinds.CallToAddi4096 r.R_PPC64_NONE) ∷ [])
    × IsCalledAlike false r.R_PPC64_GOT_TLSLD16 r.R_PPC64_TLSLD
    ((
      choice kinds.AddiToAddisThread r.R_PPC64_NONE,
      choice kinds.CallToAddi4096 r.R_PPC64_NONE,
    ) ∷ [])
    × IsCalledAlike true r.R_PPC64_GOT_TLSLD_PCREL34 r.R_PPC64_TLSLD
    ((
      choice kinds.PaddiToPaddi4096 r.R_PPC64_NONE,
      choice kinds.BranchToNop r.R_PPC64_NONE,
    ) ∷ [])

-- ---- the relocation that is skipped

-- where that of the call itself is, from the offset of R_PPC64_TLSGD or R_PPC64_TLSLD on
abbrev pub ppc64_skipped : RewriteKind → Option ℕ
ppc64_skipped kinds.CallToAddi = Some 0
ppc64_skipped kinds.CallToAdd = Some 0
ppc64_skipped kinds.CallToAddi4096 = Some 0
ppc64_skipped kinds.BranchToNop = Some 0
ppc64_skipped kinds.BranchToAdd = Some 0
ppc64_skipped kind = None

-- The types of a `bl`.
abbrev pub ppc64_may_be_skipped : Ppc64Relocation → Bool
ppc64_may_be_skipped r.R_PPC64_REL24 = true
ppc64_may_be_skipped r.R_PPC64_REL24_NOTOC = true
ppc64_may_be_skipped name = false

-- ---- the rewrites of the crate `linker-utils`

-- the rewrite of the same name
abbrev pub ppc64_rewrite_kind : RelaxationKind → RewriteKind
ppc64_rewrite_kind originals.NoOp = kinds.NoOp
