-- The rewrites of AArch64, and the moves of a number of 64 bits (Arm Architecture Reference Manual
-- for A-profile, DDI 0487).
use Rattle.linker_utils.specs.Imports.{AArch64Relocation, Applies, Bool, Choice, Condition, Entry}
use Rattle.linker_utils.specs.Imports.{HasWord, IsFirst, IsTrue, LinkFacts, List, None, Normal}
use Rattle.linker_utils.specs.Imports.{Option, OtherRelocation, RelocationModifier, Rewrite, Some}
use Rattle.linker_utils.specs.Imports.{[], bit_and, bound, choice, drop, entry, executable}
use Rattle.linker_utils.specs.Imports.{facts_on, field, fixed_distance, from_le_bytes, group_fits}
use Rattle.linker_utils.specs.Imports.{in_reach, in_reach_if_known, length, neg_ℤ, negsuc, pos}
use Rattle.linker_utils.specs.Imports.{replaces, to_le_bytes, true, w32, w64, weak_zero, ℕ, ⊤}
use Rattle.std.specs.Prelude.{◌∷◌, ◌+◌, ◌-◌, ◌*◌, ◌/◌, ◌^◌, ◌&&◌, ◌==◌, if◌then◌else◌, ◌++◌, ◌≡◌}
use Rattle.std.specs.Prelude.{◌≢◌, ◌≤◌, ◌⊎◌}
use Rattle.linker_elf.specs.AArch64.{opcode_of, shift_of, movz_opcode, movk_opcode}
use Rattle.linker_utils.specs.declared.aarch64.rewrites.RewriteKind.{RewriteKind}
use Rattle.linker_elf.specs.AArch64Relocations.{aarch64_row}
use Rattle.linker_elf.specs.declared.aarch64.relocations.AArch64Relocation.TheVariants as r
use Rattle.linker_utils.specs.declared.aarch64.rewrites.RewriteKind.TheVariants as kinds

-- the destination register
abbrev pub rd_of : ℕ → ℕ
rd_of word = field word 0 5

-- the first source register
abbrev pub rn_of : ℕ → ℕ
rn_of word = field word 5 10

-- a rewrite of the instructions that pass a test
abbrev pub rewrites_where : (ℕ → Bool) → (ℕ → ℕ) → Rewrite
rewrites_where test new =
    record {
      back = 0;
      len = 4;
      admits = λ window. test (from_le_bytes w32 window);
      bytes = λ window. to_le_bytes w32 (new (from_le_bytes w32 window));
      offset = λ o. o;
      addend = λ a. a;
    }

abbrev pub rewrites_word : (ℕ → ℕ) → Rewrite
rewrites_word new = rewrites_where (λ _. true) new

abbrev pub nop : ℕ
nop = 0xd503201f

-- `ldr` of 64 bits with an unsigned offset
abbrev pub is_ldr64 : ℕ → Bool
is_ldr64 word = word / 2 ^ 22 == 0x3e5

-- `nop`, and `adr` with the destination register of the first instruction before
abbrev pub nop_adr : List ℕ → List ℕ
nop_adr window = to_le_bytes w64 (nop + (0x10000000 + rd_of (from_le_bytes w32 window)) * 2 ^ 32)

abbrev pub aarch64_rewrite : RewriteKind → Option Rewrite
aarch64_rewrite kinds.NoOp = None
aarch64_rewrite kinds.ReplaceWithNop = Some (rewrites_word (λ _. nop))
aarch64_rewrite kinds.MovzX0Lsl16 = Some (rewrites_word (λ _. 0xd2a00000))
aarch64_rewrite kinds.MovkX0 = Some (rewrites_word (λ _. 0xf2800000))
aarch64_rewrite kinds.MovzXnLsl16 = Some (rewrites_word (λ word. 0xd2a00000 + rd_of word))
aarch64_rewrite kinds.MovkXn =
    Some (rewrites_where (λ word. rn_of word == rd_of word) (λ word. 0xf2800000 + rd_of word))
aarch64_rewrite kinds.AdrpToAdr = Some (rewrites_word (λ word. bit_and word 0x7fffffff))
aarch64_rewrite kinds.AdrpX0 = Some (rewrites_word (λ _. 0x90000000))
aarch64_rewrite kinds.LdrX0 = Some (rewrites_word (λ _. 0xf9400000))
aarch64_rewrite kinds.AddToAdr = Some (rewrites_word (λ word. bit_and word 0x76ffffff))
aarch64_rewrite kinds.LdrToAdr = Some (rewrites_word (λ word. bit_and word 0x76ffffff))
aarch64_rewrite kinds.LdrToAdd =
    Some (rewrites_where is_ldr64 (λ word. 0x91000000 + field word 0 21))
aarch64_rewrite kinds.AdrpAddToNopAdr = Some (replaces 4 8 nop_adr)

abbrev pub aarch64_modifier : RewriteKind → RelocationModifier
aarch64_modifier kind = Normal

-- the relocation of another instruction that a rewrite changes too: of the `adrp`, 4 bytes before,
-- that becomes `nop`
abbrev pub aarch64_other : RewriteKind → Option (OtherRelocation AArch64Relocation)
aarch64_other kinds.AdrpAddToNopAdr =
    Some record { offset = negsuc 3; relocation = r.R_AARCH64_NONE }
aarch64_other kind = None

-- A rewrite changes the instruction at its offset alone, or also the one before it, and then that
-- one's relocation is the other.
abbrev pub AreChanged : Option Rewrite → Option (OtherRelocation AArch64Relocation) → Type 0
AreChanged None other = other ≡ None
AreChanged (Some rewrite) None = (rewrite.back ≡ 0) × (rewrite.len ≡ 4)
AreChanged (Some rewrite) (Some other) =
    (rewrite.back ≡ 4) × (rewrite.len ≡ 8) × (other.offset ≡ neg_ℤ (pos rewrite.back))

-- the rewrites by their numbers from 0 up
abbrev pub aarch64_rewrites : List RewriteKind
aarch64_rewrites =
    kinds.NoOp ∷ kinds.ReplaceWithNop ∷ kinds.MovzX0Lsl16 ∷
    kinds.MovkX0 ∷ kinds.MovzXnLsl16 ∷ kinds.MovkXn ∷
    kinds.AdrpToAdr ∷ kinds.AdrpX0 ∷ kinds.LdrX0 ∷ kinds.AddToAdr ∷
    kinds.LdrToAdr ∷ kinds.LdrToAdd ∷ kinds.AdrpAddToNopAdr ∷ []

-- ---- the moves of a number of 64 bits

-- a move of 16 bits into register rd, with an opcode and a shift
abbrev pub mov_word : ℕ → ℕ → ℕ → ℕ
mov_word opcode rd bits = opcode + bits * 2 ^ 5 + rd

-- MOVZ of the lowest 16 bits of v, then MOVK of the next, of those after them and of the highest
abbrev pub mov_words : ℕ → ℕ → List ℕ
mov_words rd v =
    to_le_bytes w32 (mov_word 0xd2800000 rd (field v 0 16))
    ++ to_le_bytes w32 (mov_word 0xf2a00000 rd (field v 16 32))
    ++ to_le_bytes w32 (mov_word 0xf2c00000 rd (field v 32 48))
    ++ to_le_bytes w32 (mov_word 0xf2e00000 rd (field v 48 64))

abbrev pub is_move : ℕ → ℕ → ℕ → Bool
is_move opcode rd word = opcode_of word == opcode && rd_of word == rd

-- the 16 bits of a move
abbrev pub imm_of : ℕ → ℕ
imm_of word = field word 5 21

-- v with other bits in place of the 16 from bit `shift` up
abbrev pub with_bits : ℕ → ℕ → ℕ → ℕ
with_bits v shift bits = v - field v shift (shift + 16) * 2 ^ shift + bits * 2 ^ shift

-- what MOVK leaves of v
abbrev pub movk : ℕ → ℕ → ℕ
movk v word = with_bits v (shift_of word) (imm_of word)

-- what the four moves leave in register rd, if they are MOVZ and three MOVK into it
abbrev pub moved4 : ℕ → ℕ → ℕ → ℕ → ℕ → Option ℕ
moved4 rd a b c d =
    if is_move movz_opcode rd a
    && (is_move movk_opcode rd b && (is_move movk_opcode rd c && is_move movk_opcode rd d))
    then Some (movk (movk (movk (imm_of a * 2 ^ shift_of a) b) c) d) else None

-- the same of the four instructions that the bytes begin with
abbrev pub mov4 : ℕ → List ℕ → Option ℕ
mov4 rd bytes =
    moved4 rd (from_le_bytes w32 bytes) (from_le_bytes w32 (drop 4 bytes))
    (from_le_bytes w32 (drop 8 bytes)) (from_le_bytes w32 (drop 12 bytes))

-- The instructions that each rewrite of AArch64 is meant for (Arm Architecture Reference Manual for
-- A-profile, DDI 0487, C6.2; ELF for the Arm 64-bit Architecture, "Relocation optimization" and the
-- sequences of thread-local storage).

-- `adrp xD`
abbrev pub IsAdrp : ℕ → Type 0
IsAdrp word = bit_and word 0x9f000000 ≡ 0x90000000

-- `add xD, xN, #imm`, whose immediate isn't shifted
abbrev pub IsAdd64 : ℕ → Type 0
IsAdd64 word = bit_and word 0xffc00000 ≡ 0x91000000

-- `ldr xD, [xN, #imm]`, whose offset is unsigned
abbrev pub IsLdr64 : ℕ → Type 0
IsLdr64 word = IsTrue (is_ldr64 word)

-- The source register is the destination register. The number 31 is no such register: as a source
-- of `add` and `ldr` and as the destination of `add` it is the stack pointer, and as the
-- destination of `ldr`, `adrp`, `adr` and the moves the zero register.
pub record IsIntoOwnSource (word : ℕ) : Type 0 where
  pub same : rn_of word ≡ rd_of word
  pub not_31 : rd_of word ≢ 31

-- `adrp xN`, and an instruction from xN into xN
pub record AreOfOneRegister (adrp word : ℕ) : Type 0 where
  pub first : IsAdrp adrp
  pub into_own_source : IsIntoOwnSource word
  pub register : rd_of adrp ≡ rd_of word

-- Such an instruction with P is at the offset, and its `adrp` 4 bytes before it.
abbrev pub FollowsAdrp : (ℕ → Type 0) → List ℕ → ℕ → Type 0
FollowsAdrp P section o =
    (4 ≤ o)
    × HasWord section (o - 4)
    (λ adrp. HasWord section o (λ word. P word × AreOfOneRegister adrp word))

-- `adrp xN`, and `add xN, xN, #imm` or `ldr xN, [xN, #imm]`
abbrev pub IsAdrpPair : List ℕ → ℕ → Type 0
IsAdrpPair section o = FollowsAdrp (λ word. IsAdd64 word ⊎ IsLdr64 word) section o

-- What a rewrite is meant for is at an offset of the section. MOVZ and MOVK of x0, `adrp x0` and
-- `ldr x0` take the place of the `adrp x0` and the `ldr xD, [x0]` of a TLS descriptor; MOVZ and
-- MOVK of xN that of the `adrp xN` and the `ldr xN, [xN]` of initial-exec.
abbrev pub aarch64_matches : RewriteKind → List ℕ → ℕ → Type 0
aarch64_matches kinds.NoOp section o = ⊤
aarch64_matches kinds.ReplaceWithNop section o = HasWord section o (λ _. ⊤)
aarch64_matches kinds.MovzX0Lsl16 section o =
    HasWord section o (λ word. IsAdrp word × (rd_of word ≡ 0))
aarch64_matches kinds.MovkX0 section o = HasWord section o (λ word. IsLdr64 word × (rn_of word ≡ 0))
aarch64_matches kinds.MovzXnLsl16 section o = HasWord section o IsAdrp
aarch64_matches kinds.MovkXn section o =
    HasWord section o (λ word. IsLdr64 word × IsIntoOwnSource word)
aarch64_matches kinds.AdrpToAdr section o = HasWord section o IsAdrp
aarch64_matches kinds.AdrpX0 section o = HasWord section o (λ word. IsAdrp word × (rd_of word ≡ 0))
aarch64_matches kinds.LdrX0 section o = HasWord section o (λ word. IsLdr64 word × (rn_of word ≡ 0))
aarch64_matches kinds.AddToAdr section o =
    HasWord section o (λ word. IsAdd64 word × (rd_of word ≢ 31))
aarch64_matches kinds.LdrToAdr section o = HasWord section o IsLdr64
aarch64_matches kinds.LdrToAdd section o =
    HasWord section o (λ word. IsLdr64 word × (rd_of word ≢ 31))
aarch64_matches kinds.AdrpAddToNopAdr section o = FollowsAdrp IsAdd64 section o

-- AArch64: the rewrite that a linker chooses for a relocation (ELF for the Arm 64-bit Architecture,
-- "Relocation optimization" and the sequences of thread-local storage; a branch to an undefined
-- weak symbol goes on after itself). No rewrite moves the place or changes the addend: the
-- contract of `operands_after` in `choices` says so.

-- ---- the instruction that a relocation's name requires

-- `adrp xN`, and at the offset `ldr xN, [xN, #imm]`: they load an entry of the GOT
abbrev pub IsEntryLoad : List ℕ → ℕ → Type 0
IsEntryLoad section o = FollowsAdrp IsLdr64 section o

-- `adrp x0`, `ldr xT, [x0, #imm]`, `add x0, x0, #imm` and `blr xT`, where T is neither 0 nor 31
pub record AreOfDescriptor (adrp ldr add blr : ℕ) : Type 0 where
  pub adrp_opcode : IsAdrp adrp
  pub adrp_into_x0 : rd_of adrp ≡ 0
  pub ldr_opcode : IsLdr64 ldr
  pub ldr_from_x0 : rn_of ldr ≡ 0
  pub not_into_x0 : rd_of ldr ≢ 0
  pub not_31 : rd_of ldr ≢ 31
  pub add_opcode : IsAdd64 add
  pub add_from_x0 : rn_of add ≡ 0
  pub add_into_x0 : rd_of add ≡ 0
  pub calls : blr ≡ 0xd63f0000 + rd_of ldr * 2 ^ 5

abbrev pub word_at : List ℕ → ℕ → ℕ
word_at section o = from_le_bytes w32 (drop o section)

-- the sequence of a TLS descriptor, of which the first instruction is at the offset
pub record IsDescriptorSequence (section : List ℕ) (o : ℕ) : Type 0 where
  pub within : o + 16 ≤ length section
  pub instructions :
      AreOfDescriptor (word_at section o) (word_at section (o + 4)) (word_at section (o + 8))
      (word_at section (o + 12))

-- the same, of which the first instruction is n bytes before the offset
abbrev pub IsOfDescriptor : ℕ → List ℕ → ℕ → Type 0
IsOfDescriptor back section o = (back ≤ o) × IsDescriptorSequence section (o - back)

-- `b`
abbrev pub IsBranch : ℕ → Type 0
IsBranch word = word / 2 ^ 26 ≡ 0x05

-- `bl`
abbrev pub IsCall : ℕ → Type 0
IsCall word = word / 2 ^ 26 ≡ 0x25

-- what is required beside what the rewrite is meant for
abbrev pub HasPattern : AArch64Relocation → List ℕ → ℕ → Type 0
HasPattern r.R_AARCH64_ADR_GOT_PAGE section o = IsEntryLoad section (o + 4)
HasPattern r.R_AARCH64_LD64_GOT_LO12_NC section o = IsEntryLoad section o
HasPattern r.R_AARCH64_TLSDESC_ADR_PAGE21 section o = IsOfDescriptor 0 section o
HasPattern r.R_AARCH64_TLSDESC_LD64_LO12 section o = IsOfDescriptor 4 section o
HasPattern r.R_AARCH64_TLSDESC_ADD_LO12 section o = IsOfDescriptor 8 section o
HasPattern r.R_AARCH64_TLSDESC_CALL section o = IsOfDescriptor 12 section o
HasPattern r.R_AARCH64_CALL26 section o = HasWord section o IsCall
HasPattern r.R_AARCH64_JUMP26 section o = HasWord section o IsBranch
HasPattern name section o = ⊤

-- ---- the table

-- The address itself in place of that of the GOT entry: `adrp` is n bytes before.
abbrev pub to_address : ℕ → List (Condition AArch64Relocation)
to_address back =
    bound ∷ fixed_distance ∷ in_reach_if_known r.R_AARCH64_ADR_PREL_PG_HI21 back ∷ []

-- by `adr` alone, which reaches 1 MiB
abbrev pub to_adr : List (Condition AArch64Relocation)
to_adr = fixed_distance ∷ in_reach r.R_AARCH64_ADR_PREL_LO21 0 ∷ []

-- the offset from the thread pointer in the instructions
abbrev pub to_local_exec : List (Condition AArch64Relocation)
to_local_exec = bound ∷ executable ∷ in_reach_if_known r.R_AARCH64_TLSLE_MOVW_TPREL_G1 0 ∷ []

-- the same by halves that may stand apart
abbrev pub halves_to_local_exec : List (Condition AArch64Relocation)
halves_to_local_exec =
    bound ∷ executable ∷ group_fits ∷ in_reach_if_known r.R_AARCH64_TLSLE_MOVW_TPREL_G1 0 ∷ []

-- the offset from the thread pointer in the GOT: `adrp` is n bytes before
abbrev pub to_initial_exec : ℕ → List (Condition AArch64Relocation)
to_initial_exec back =
    executable ∷ in_reach_if_known r.R_AARCH64_TLSIE_ADR_GOTTPREL_PAGE21 back ∷ []

abbrev pub AArch64Entry : Type 0
AArch64Entry = Entry RewriteKind AArch64Relocation

abbrev pub AArch64Choice : Type 0
AArch64Choice = Choice RewriteKind AArch64Relocation

-- a choice for local-exec, and one for initial-exec
abbrev pub descriptor_entries : ℕ → AArch64Choice → AArch64Choice → List AArch64Entry
descriptor_entries back local initial =
    entry local.kind local.relocation to_local_exec
    ∷ entry initial.kind initial.relocation (to_initial_exec back) ∷ []

abbrev pub erased : AArch64Choice
erased = choice kinds.ReplaceWithNop r.R_AARCH64_NONE

abbrev pub aarch64_entries : AArch64Relocation → List AArch64Entry
aarch64_entries r.R_AARCH64_ADR_GOT_PAGE =
    entry kinds.NoOp r.R_AARCH64_ADR_PREL_PG_HI21 (to_address 0) ∷ []
aarch64_entries r.R_AARCH64_LD64_GOT_LO12_NC =
    entry kinds.LdrToAdd r.R_AARCH64_ADD_ABS_LO12_NC (to_address 4) ∷ []
aarch64_entries r.R_AARCH64_ADD_ABS_LO12_NC =
    entry kinds.AdrpAddToNopAdr r.R_AARCH64_ADR_PREL_LO21 to_adr ∷ []
aarch64_entries r.R_AARCH64_TLSIE_ADR_GOTTPREL_PAGE21 =
    entry kinds.MovzXnLsl16 r.R_AARCH64_TLSLE_MOVW_TPREL_G1 halves_to_local_exec ∷ []
aarch64_entries r.R_AARCH64_TLSIE_LD64_GOTTPREL_LO12_NC =
    entry kinds.MovkXn r.R_AARCH64_TLSLE_MOVW_TPREL_G0_NC halves_to_local_exec ∷ []
aarch64_entries r.R_AARCH64_TLSDESC_ADR_PAGE21 =
    descriptor_entries 0 (choice kinds.MovzX0Lsl16 r.R_AARCH64_TLSLE_MOVW_TPREL_G1)
    (choice kinds.AdrpX0 r.R_AARCH64_TLSIE_ADR_GOTTPREL_PAGE21)
aarch64_entries r.R_AARCH64_TLSDESC_LD64_LO12 =
    descriptor_entries 4 (choice kinds.MovkX0 r.R_AARCH64_TLSLE_MOVW_TPREL_G0_NC)
    (choice kinds.LdrX0 r.R_AARCH64_TLSIE_LD64_GOTTPREL_LO12_NC)
aarch64_entries r.R_AARCH64_TLSDESC_ADD_LO12 = descriptor_entries 8 erased erased
aarch64_entries r.R_AARCH64_TLSDESC_CALL = descriptor_entries 12 erased erased
aarch64_entries r.R_AARCH64_CALL26 =
    entry kinds.ReplaceWithNop r.R_AARCH64_NONE (weak_zero ∷ []) ∷ []
aarch64_entries r.R_AARCH64_JUMP26 =
    entry kinds.ReplaceWithNop r.R_AARCH64_NONE (weak_zero ∷ []) ∷ []
aarch64_entries name = []

-- ---- the choice

-- what the rewrite is meant for and what the relocation requires is at the offset, and the
-- conditions hold
abbrev pub AArch64Applies : AArch64Relocation → List ℕ → ℕ → LinkFacts → AArch64Entry → Type 0
AArch64Applies name =
    Applies (λ kind section o. aarch64_matches kind section o × HasPattern name section o)
    aarch64_row (λ kind o operands. operands)

-- that of the first entry that applies, and else to leave the instruction and the relocation
abbrev pub IsAArch64Choice : AArch64Relocation → List ℕ → ℕ → LinkFacts → AArch64Choice → Type 0
IsAArch64Choice name section o facts chosen =
    IsFirst (AArch64Applies name section o facts) (aarch64_entries name) (choice kinds.NoOp name)
    chosen

-- ---- all relocations of a pair or of a sequence

-- Of the two relocations of a pair both are rewritten, or neither is.
abbrev pub PairIsChosenAlike : AArch64Relocation → AArch64Relocation → AArch64Choice
    → AArch64Choice → Type 0
PairIsChosenAlike first second to_first to_second =
    (section : List ℕ) (o : ℕ) (facts : LinkFacts) (a b : AArch64Choice)
    → IsAArch64Choice first section o facts a
    → IsAArch64Choice second section (o + 4) (facts_on 4 facts) b
    → ((a ≡ to_first) × (b ≡ to_second))
    ⊎ ((a ≡ choice kinds.NoOp first) × (b ≡ choice kinds.NoOp second))

abbrev pub GotPairIsChosenAlike : Type 0
GotPairIsChosenAlike =
    PairIsChosenAlike r.R_AARCH64_ADR_GOT_PAGE r.R_AARCH64_LD64_GOT_LO12_NC
    (choice kinds.NoOp r.R_AARCH64_ADR_PREL_PG_HI21)
    (choice kinds.LdrToAdd r.R_AARCH64_ADD_ABS_LO12_NC)

-- A high and a low half of initial-exec, wherever both are, with the same facts but for the place:
-- where each is an instruction that its rewrite is meant for, both are rewritten, or neither is.
abbrev pub InitialExecIsChosenAlike : Type 0
InitialExecIsChosenAlike =
    (section other : List ℕ) (o p n : ℕ) (facts : LinkFacts) (a b : AArch64Choice)
    → aarch64_matches kinds.MovzXnLsl16 section o → aarch64_matches kinds.MovkXn other p
    → IsAArch64Choice r.R_AARCH64_TLSIE_ADR_GOTTPREL_PAGE21 section o facts a
    → IsAArch64Choice r.R_AARCH64_TLSIE_LD64_GOTTPREL_LO12_NC other p (facts_on n facts) b
    → ((a ≡ choice kinds.MovzXnLsl16 r.R_AARCH64_TLSLE_MOVW_TPREL_G1)
    × (b ≡ choice kinds.MovkXn r.R_AARCH64_TLSLE_MOVW_TPREL_G0_NC))
    ⊎ ((a ≡ choice kinds.NoOp r.R_AARCH64_TLSIE_ADR_GOTTPREL_PAGE21)
    × (b ≡ choice kinds.NoOp r.R_AARCH64_TLSIE_LD64_GOTTPREL_LO12_NC))

-- Of the four relocations of a TLS descriptor all are rewritten for local-exec, or all for
-- initial-exec, or none is.
abbrev pub DescriptorIsChosenAlike : Type 0
DescriptorIsChosenAlike =
    (section : List ℕ) (o : ℕ) (facts : LinkFacts) (a b c d : AArch64Choice)
    → IsAArch64Choice r.R_AARCH64_TLSDESC_ADR_PAGE21 section o facts a
    → IsAArch64Choice r.R_AARCH64_TLSDESC_LD64_LO12 section (o + 4) (facts_on 4 facts) b
    → IsAArch64Choice r.R_AARCH64_TLSDESC_ADD_LO12 section (o + 8) (facts_on 8 facts) c
    → IsAArch64Choice r.R_AARCH64_TLSDESC_CALL section (o + 12) (facts_on 12 facts) d
    → ((a ≡ choice kinds.MovzX0Lsl16 r.R_AARCH64_TLSLE_MOVW_TPREL_G1)
    × (b ≡ choice kinds.MovkX0 r.R_AARCH64_TLSLE_MOVW_TPREL_G0_NC)
    × (c ≡ erased) × (d ≡ erased))
    ⊎ (((a ≡ choice kinds.AdrpX0 r.R_AARCH64_TLSIE_ADR_GOTTPREL_PAGE21)
    × (b ≡ choice kinds.LdrX0 r.R_AARCH64_TLSIE_LD64_GOTTPREL_LO12_NC)
    × (c ≡ erased) × (d ≡ erased))
    ⊎ ((a ≡ choice kinds.NoOp r.R_AARCH64_TLSDESC_ADR_PAGE21)
    × (b ≡ choice kinds.NoOp r.R_AARCH64_TLSDESC_LD64_LO12)
    × (c ≡ choice kinds.NoOp r.R_AARCH64_TLSDESC_ADD_LO12)
    × (d ≡ choice kinds.NoOp r.R_AARCH64_TLSDESC_CALL)))
