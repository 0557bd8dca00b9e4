-- The rewrites of RISC-V (RISC-V Instruction Set Manual, volume I; RISC-V ELF psABI, "Linker
-- Relaxation").
use Rattle.linker_utils.specs.Imports.{Applies, Bool, Choice, Condition, DeletedBytes, Entry}
use Rattle.linker_utils.specs.Imports.{HasWord, IsFirst, IsTrue, LinkFacts, List, None, Normal}
use Rattle.linker_utils.specs.Imports.{Option, RelocationModifier, Rewrite, RiscVRelocation}
use Rattle.linker_utils.specs.Imports.{RowInfo, SkipNextRelocation, Some, Written, [], addend}
use Rattle.linker_utils.specs.Imports.{bound, cast_signed, choice, class32, compressible, drop}
use Rattle.linker_utils.specs.Imports.{entry, executable, facts_on, false, field, fixed_address}
use Rattle.linker_utils.specs.Imports.{fixed_distance, from_le_bytes, got_high_part, in_reach}
use Rattle.linker_utils.specs.Imports.{in_reach_if_known, int_div_euclid, label_marked, length}
use Rattle.linker_utils.specs.Imports.{low_12, low_12_bounds, marked, nat_lt, negsuc, not, pos}
use Rattle.linker_utils.specs.Imports.{replaces, riscv_relocation, signed, to_le_bytes, true, w16}
use Rattle.linker_utils.specs.Imports.{w32, w64, within, without_plt, ℕ, ℤ, ⊤}
use Rattle.std.specs.Prelude.{◌≡◌, ◌+◌, ◌*◌, ◌≤ℤ◌, ◌≢◌, ◌-◌, ◌%◌, ◌^◌, ◌∷◌, ◌<ℤ◌, ◌+ℤ◌, ◌≤◌, ◌==◌}
use Rattle.std.specs.Prelude.{◌&&◌, ◌||◌, ◌⊎◌, ◌++◌}
use Rattle.linker_elf.specs.RiscV.{riscv_form}
use Rattle.linker_elf.specs.declared.riscv64.forms.RiscVInstruction.{RiscVInstruction}
use Rattle.linker_utils.specs.declared.riscv64.relaxation_kind.RelaxationKind.{RelaxationKind}
use Rattle.linker_utils.specs.declared.riscv64.relaxation_kind.RelaxationKind.TheVariants as originals
use Rattle.linker_utils.specs.declared.riscv64.rewrites.RewriteKind.{RewriteKind}
use Rattle.linker_riscv64.specs.RiscVCalls.{IsCallPair, IsPlainCall, word_at}
use Rattle.linker_riscv64.specs.RiscVFields.{opcode_of, funct3_of, rd_of, stores_base}
use Rattle.linker_elf.specs.declared.riscv64.relocations.RiscVRelocation.TheVariants as r
use Rattle.linker_utils.specs.declared.riscv64.rewrites.RewriteKind.TheVariants as kinds

-- `jal` of distance 0, with the destination register of the word before: bits 7 to 11
abbrev pub call_to_jal : List ℕ → List ℕ
call_to_jal window = to_le_bytes w32 (0x6f + field (from_le_bytes w32 window) 7 12 * 128)

-- `jal x0` of distance 0
abbrev pub tail_to_jal : List ℕ → List ℕ
tail_to_jal window = 0x6f ∷ 0x00 ∷ 0x00 ∷ 0x00 ∷ []

-- `c.j` of distance 0
abbrev pub tail_to_cj : List ℕ → List ℕ
tail_to_cj window = 0x01 ∷ 0xa0 ∷ []

-- `c.jal` of distance 0
abbrev pub call_to_cjal : List ℕ → List ℕ
call_to_cjal window = 0x01 ∷ 0x20 ∷ []

-- two `c.nop`
abbrev pub two_nops : List ℕ → List ℕ
two_nops window = 0x01 ∷ 0x00 ∷ 0x01 ∷ 0x00 ∷ []

-- `c.lui` of immediate 0, with the destination register of the half before: bits 7 to 11
abbrev pub hi20_to_clui : List ℕ → List ℕ
hi20_to_clui window = to_le_bytes w16 (0x6001 + field (from_le_bytes w16 window) 7 12 * 128)

-- `c.li` of 0, with the destination register of the half before: bits 7 to 11
abbrev pub clui_to_cli : List ℕ → List ℕ
clui_to_cli window = to_le_bytes w16 (0x4001 + field (from_le_bytes w16 window) 7 12 * 128)

-- the word with bits 15 to 19 cleared
abbrev pub rs1_to_zero : List ℕ → List ℕ
rs1_to_zero window =
    let word = from_le_bytes w32 window in to_le_bytes w32 (word - field word 15 20 * 2 ^ 15)

-- the thread pointer's number, and that of `a0`
abbrev pub tp : ℕ
tp = 4

abbrev pub a0 : ℕ
a0 = 10

-- a rewrite of an instruction's word
abbrev pub rewrites_word : (ℕ → ℕ) → Rewrite
rewrites_word new = replaces 0 4 (λ window. to_le_bytes w32 (new (from_le_bytes w32 window)))

-- the word with another first source register, bits 15 to 19
abbrev pub with_rs1 : ℕ → ℕ → ℕ
with_rs1 register word = word - field word 15 20 * 2 ^ 15 + register * 2 ^ 15

-- `addi`, with the registers and the immediate of a load
abbrev pub load_to_addi : ℕ → ℕ
load_to_addi word = 0x13 + field word 7 12 * 2 ^ 7 + field word 15 32 * 2 ^ 15

-- an instruction of an opcode, with the destination register of a word and else zeros
abbrev pub of_destination : ℕ → ℕ → ℕ
of_destination opcode word = opcode + field word 7 12 * 2 ^ 7

abbrev pub riscv_rewrite : RewriteKind → Option Rewrite
riscv_rewrite kinds.NoOp = None
riscv_rewrite kinds.ReplaceWithNop = Some (replaces 0 4 two_nops)
riscv_rewrite kinds.CallToJal = Some (replaces 0 4 call_to_jal)
riscv_rewrite kinds.Hi20ToCLui = Some (replaces 0 2 hi20_to_clui)
riscv_rewrite kinds.Hi20Delete = None
riscv_rewrite kinds.Lo12Rs1ToZero = Some (replaces 0 4 rs1_to_zero)
riscv_rewrite kinds.TailToJal = Some (replaces 0 4 tail_to_jal)
riscv_rewrite kinds.TailToCJ = Some (replaces 0 2 tail_to_cj)
riscv_rewrite kinds.Delete = None
-- `addi x0, x0, 0`
riscv_rewrite kinds.ReplaceWithLongNop = Some (rewrites_word (λ _. 0x13))
riscv_rewrite kinds.BaseToTp = Some (rewrites_word (with_rs1 tp))
-- `lui a0, 0` and `auipc a0, 0`
riscv_rewrite kinds.AddiToLui = Some (rewrites_word (λ _. 0x537))
riscv_rewrite kinds.AddiToAuipc = Some (rewrites_word (λ _. 0x517))
-- `addi a0, a0, 0`, `addi a0, x0, 0` and `ld a0, 0(a0)`
riscv_rewrite kinds.CallToAddi = Some (rewrites_word (λ _. 0x50513))
riscv_rewrite kinds.CallToAddiZero = Some (rewrites_word (λ _. 0x513))
riscv_rewrite kinds.CallToLd = Some (rewrites_word (λ _. 0x53503))
riscv_rewrite kinds.LdToAddi = Some (rewrites_word load_to_addi)
riscv_rewrite kinds.CLuiToCLi = Some (replaces 0 2 clui_to_cli)
-- `lui rd, 0` and `addi rd, x0, 0`
riscv_rewrite kinds.AuipcToLui = Some (rewrites_word (of_destination 0x37))
riscv_rewrite kinds.LdToAddiZero = Some (rewrites_word (of_destination 0x13))
riscv_rewrite kinds.CallToCJal = Some (replaces 0 2 call_to_cjal)

abbrev pub riscv_modifier : RewriteKind → RelocationModifier
riscv_modifier kinds.NoOp = Normal
riscv_modifier kinds.ReplaceWithNop = Normal
riscv_modifier kinds.CallToJal = SkipNextRelocation
riscv_modifier kinds.Hi20ToCLui = Normal
riscv_modifier kinds.Hi20Delete = SkipNextRelocation
riscv_modifier kinds.Lo12Rs1ToZero = Normal
riscv_modifier kinds.TailToJal = SkipNextRelocation
riscv_modifier kinds.TailToCJ = SkipNextRelocation
riscv_modifier kinds.CallToCJal = SkipNextRelocation
riscv_modifier kind = Normal

-- where the mark `R_RISCV_RELAX` is that is skipped, from the offset on
abbrev pub riscv_skipped : RewriteKind → Option ℕ
riscv_skipped kinds.CallToJal = Some 0
riscv_skipped kinds.Hi20Delete = Some 0
riscv_skipped kinds.TailToJal = Some 0
riscv_skipped kinds.TailToCJ = Some 0
riscv_skipped kinds.CallToCJal = Some 0
riscv_skipped kind = None

abbrev pub riscv_may_be_skipped : RiscVRelocation → Bool
riscv_may_be_skipped r.R_RISCV_RELAX = true
riscv_may_be_skipped name = false

abbrev pub deleted_from : ℕ → ℕ → Option DeletedBytes
deleted_from start count = Some record { start = start; count = count }

-- what is deleted after a rewrite: the `jalr` of a call, all of a call but the `c.j` or the
-- `c.jal`, the second half of a `lui`, a whole `lui`, and another instruction
abbrev pub riscv_deleted : RewriteKind → Option DeletedBytes
riscv_deleted kinds.NoOp = None
riscv_deleted kinds.ReplaceWithNop = None
riscv_deleted kinds.CallToJal = deleted_from 4 4
riscv_deleted kinds.Hi20ToCLui = deleted_from 2 2
riscv_deleted kinds.Hi20Delete = deleted_from 0 4
riscv_deleted kinds.Lo12Rs1ToZero = None
riscv_deleted kinds.TailToJal = deleted_from 4 4
riscv_deleted kinds.TailToCJ = deleted_from 2 6
riscv_deleted kinds.CallToCJal = deleted_from 2 6
riscv_deleted kinds.Delete = deleted_from 0 4
riscv_deleted kind = None

-- the rewrites by their numbers from 0 up
abbrev pub riscv_rewrites : List RewriteKind
riscv_rewrites =
    kinds.NoOp ∷ kinds.ReplaceWithNop ∷ kinds.CallToJal ∷ kinds.Hi20ToCLui ∷
    kinds.Hi20Delete ∷ kinds.Lo12Rs1ToZero ∷ kinds.TailToJal ∷
    kinds.TailToCJ ∷ kinds.Delete ∷ kinds.ReplaceWithLongNop ∷ kinds.BaseToTp ∷
    kinds.AddiToLui ∷ kinds.AddiToAuipc ∷ kinds.CallToAddi ∷ kinds.CallToAddiZero ∷
    kinds.CallToLd ∷ kinds.LdToAddi ∷ kinds.CLuiToCLi ∷ kinds.AuipcToLui ∷
    kinds.LdToAddiZero ∷ kinds.CallToCJal ∷ []

-- bits 12 to 31 of the value plus 0x800
abbrev pub hi20 : ℕ → ℕ
hi20 v = field ((v + 0x800) % 2 ^ 64) 12 32

-- the low 12 bits, in two's complement
abbrev pub lo12 : ℕ → ℤ
lo12 v = signed 12 (v % 2 ^ 12)

-- from -2 ^ 31 up, below 2 ^ 31
abbrev pub IsSigned32 : ℤ → Type 0
IsSigned32 z = (negsuc 2147483647 ≤ℤ z) × (z <ℤ pos 2147483648)

-- the value plus 0x800, in two's complement, divided by 4096 and rounded down
abbrev pub rounded_high : ℕ → ℤ
rounded_high v = int_div_euclid (cast_signed w64 ((v + 0x800) % 2 ^ 64)) (pos 4096)

-- from -32 to 31 and not 0
abbrev pub FitsClui : ℕ → Type 0
FitsClui v = (negsuc 31 ≤ℤ rounded_high v) × (rounded_high v ≤ℤ pos 31) × (rounded_high v ≢ pos 0)

-- the form's immediate, once written, and the signed low 12 bits make the value, in two's
-- complement
abbrev pub HoldsHigh : RiscVInstruction → ℕ → Type 0
HoldsHigh form v =
    (neg : Bool) (before after : ℕ) → Written (riscv_form form) v neg before after
    → (riscv_form form).machine after +ℤ lo12 v ≡ signed 64 v

-- The instructions that each rewrite of RISC-V is meant for (RISC-V unprivileged ISA, "RV32/64G
-- Instruction Set Listings" and "Integer Constant-Generation Instructions"; RISC-V ELF psABI,
-- "Linker Relaxation").

-- The instruction adds a signed immediate of 12 bits to its first source register, by its opcode
-- and function: `addi`, `addiw` and `jalr`; `lb`, `lh`, `lw`, `ld`, `lbu`, `lhu` and `lwu`; `sb`,
-- `sh`, `sw` and `sd`; `flh`, `flw`, `fld` and `flq`, and `fsh`, `fsw`, `fsd` and `fsq`.
abbrev pub adds_low12 : ℕ → ℕ → Bool
adds_low12 opcode funct3 =
    (opcode == 0x13 || opcode == 0x1b || opcode == 0x67) && funct3 == 0
    || opcode == 0x03 && nat_lt funct3 7
    || opcode == 0x23 && nat_lt funct3 4
    || (opcode == 0x07 || opcode == 0x27) && nat_lt 0 funct3 && nat_lt funct3 5

-- The instruction adds such an immediate, and another register than its base can be the base: it
-- doesn't store that.
abbrev pub IsLowOverOther : ℕ → Type 0
IsLowOverOther word =
    IsTrue (adds_low12 (opcode_of word) (funct3_of word)) × IsTrue (not (stores_base word))

-- `lui rd`
abbrev pub IsLui : ℕ → Type 0
IsLui word = opcode_of word ≡ 0x37

-- `auipc rd`
abbrev pub IsAuipc : ℕ → Type 0
IsAuipc word = opcode_of word ≡ 0x17

-- `ld rd, rs1`
abbrev pub IsLd : ℕ → Type 0
IsLd word = (opcode_of word ≡ 0x03) × (funct3_of word ≡ 3)

-- `add rd, rs1, tp`: bits 20 and up are the second source register, x4, and 7 bits that are 0.
abbrev pub IsAddTp : ℕ → Type 0
IsAddTp word = (opcode_of word ≡ 0x33) × (funct3_of word ≡ 0) × (field word 20 32 ≡ 4)

-- `addi a0, rs1`: `a0` is register 10.
abbrev pub IsAddiToA0 : ℕ → Type 0
IsAddiToA0 word = (opcode_of word ≡ 0x13) × (funct3_of word ≡ 0) × (rd_of word ≡ 10)

-- `jalr t0, 0(rs1)`, the call of a TLS descriptor's function: `t0` is register 5.
abbrev pub IsCallOfDescriptor : ℕ → Type 0
IsCallOfDescriptor word =
    (opcode_of word ≡ 0x67) × (funct3_of word ≡ 0) × (rd_of word ≡ 5) × (field word 20 32 ≡ 0)

-- the instruction of 2 bytes at an offset
abbrev pub half_at : List ℕ → ℕ → ℕ
half_at section o = from_le_bytes w16 (drop o section)

-- `c.lui rd`: bits 0 and 1 are 1 and 0, and the function, bits 13 to 15, is 3. With x2 it would be
-- `c.addi16sp`, and with x0 a hint.
abbrev pub IsClui : ℕ → Type 0
IsClui half =
    (field half 0 2 ≡ 1) × (field half 13 16 ≡ 3) × (rd_of half ≢ 0) × (rd_of half ≢ 2)

-- At the offset there are `auipc` of a register other than x0, which is always 0, and a `jalr` from
-- that register that links a given one: x0 in a tail call.
pub record IsCallLinking (register : ℕ) (section : List ℕ) (o : ℕ) : Type 0 where
  pub inside : o + 8 ≤ length section
  pub pair : IsCallPair (word_at section o) (word_at section (o + 4))
  pub base : rd_of (word_at section o) ≢ 0
  pub links : rd_of (word_at section (o + 4)) ≡ register

-- What a rewrite is meant for is at an offset of the section.
abbrev pub riscv_matches : RewriteKind → List ℕ → ℕ → Type 0
riscv_matches kinds.NoOp section o = ⊤
riscv_matches kinds.ReplaceWithNop section o = HasWord section o (λ _. ⊤)
riscv_matches kinds.CallToJal section o = IsPlainCall section o × (rd_of (word_at section o) ≢ 0)
riscv_matches kinds.Hi20ToCLui section o =
    HasWord section o (λ word. (opcode_of word ≡ 0x37) × (rd_of word ≢ 0) × (rd_of word ≢ 2))
riscv_matches kinds.Hi20Delete section o = HasWord section o (λ word. opcode_of word ≡ 0x37)
riscv_matches kinds.Lo12Rs1ToZero section o =
    HasWord section o (λ word. IsTrue (adds_low12 (opcode_of word) (funct3_of word)))
riscv_matches kinds.TailToJal section o = IsCallLinking 0 section o
riscv_matches kinds.TailToCJ section o = IsCallLinking 0 section o
riscv_matches kinds.Delete section o = HasWord section o (λ _. ⊤)
riscv_matches kinds.ReplaceWithLongNop section o = HasWord section o (λ _. ⊤)
riscv_matches kinds.BaseToTp section o =
    HasWord section o (λ word. IsTrue (adds_low12 (opcode_of word) (funct3_of word)))
riscv_matches kinds.AddiToLui section o = HasWord section o IsAddiToA0
riscv_matches kinds.AddiToAuipc section o = HasWord section o IsAddiToA0
riscv_matches kinds.CallToAddi section o = HasWord section o IsCallOfDescriptor
riscv_matches kinds.CallToAddiZero section o = HasWord section o IsCallOfDescriptor
riscv_matches kinds.CallToLd section o = HasWord section o IsCallOfDescriptor
riscv_matches kinds.LdToAddi section o = HasWord section o IsLd
riscv_matches kinds.CLuiToCLi section o = (o + 2 ≤ length section) × IsClui (half_at section o)
riscv_matches kinds.AuipcToLui section o = HasWord section o IsAuipc
riscv_matches kinds.LdToAddiZero section o = HasWord section o IsLd
riscv_matches kinds.CallToCJal section o = IsCallLinking 1 section o

-- Which rewrite of RISC-V is chosen (RISC-V ELF psABI, "Linker Relaxation": "Function Call
-- Relaxation", "Compressed Function Call Relaxation", "Compressed Tail Call Relaxation", "LUI
-- Relaxation", "Local-Exec TLS Relaxation", "TLS Descriptors -> Initial Exec Relaxation", "TLS
-- Descriptors -> Local Exec Relaxation" and the relaxation of GOT loads).

abbrev pub RiscVEntry : Type 0
RiscVEntry = Entry RewriteKind RiscVRelocation

abbrev pub RiscVChoice : Type 0
RiscVChoice = Choice RewriteKind RiscVRelocation

-- the row of a name
abbrev pub riscv_row_of : RiscVRelocation → Option RowInfo
riscv_row_of name = (riscv_relocation name).row

-- ---- conditions

abbrev pub Conditions : Type 0
Conditions = List (Condition RiscVRelocation)

-- a `jal` reaches the symbol
abbrev pub by_jump : Conditions
by_jump = fixed_distance ∷ marked ∷ without_plt ∷ in_reach r.R_RISCV_JAL 0 ∷ []

-- a `c.j` reaches it
abbrev pub by_short_jump : Conditions
by_short_jump =
    fixed_distance ∷ compressible ∷ marked ∷ without_plt ∷ in_reach r.R_RISCV_RVC_JUMP 0 ∷ []

-- a `c.jal` does, which RV32 has
abbrev pub by_short_call : Conditions
by_short_call = class32 ∷ by_short_jump

-- 12 signed bits hold the address
abbrev pub with_low_part : Conditions
with_low_part = fixed_address ∷ low_12 ∷ []

-- and instructions may be deleted
abbrev pub by_low_part : Conditions
by_low_part = fixed_address ∷ marked ∷ low_12 ∷ []

-- a `c.lui` holds the high part
abbrev pub by_short_high_part : Conditions
by_short_high_part =
    fixed_address ∷ compressible ∷ marked ∷ in_reach r.R_RISCV_RVC_LUI 0 ∷ []

-- 12 signed bits hold the offset from the thread pointer
abbrev pub by_low_offset : Conditions
by_low_offset = marked ∷ within r.R_RISCV_TPREL_LO12_I low_12_bounds 0 ∷ []

-- the symbol's definition in this output, in place of its GOT entry or its descriptor, where some
-- facts hold and some conditions on values
abbrev pub without_entry : Conditions → Conditions → Conditions
without_entry facts values = bound ∷ facts ++ addend (pos 0) ∷ values

-- The offset from the thread pointer in place of a descriptor, where some facts hold too: in two
-- instructions, in one, and in the GOT.
abbrev pub to_local_exec : Conditions → Conditions
to_local_exec facts =
    without_entry (executable ∷ facts) (in_reach_if_known r.R_RISCV_TPREL_HI20 0 ∷ [])

abbrev pub to_short_local_exec : Conditions → Conditions
to_short_local_exec facts =
    without_entry (executable ∷ facts) (in_reach_if_known r.R_RISCV_TPREL_HI20 0
    ∷ within r.R_RISCV_TPREL_LO12_I low_12_bounds 0 ∷ [])

abbrev pub to_initial_exec : Conditions → Conditions
to_initial_exec facts = executable ∷ facts ++ in_reach_if_known r.R_RISCV_TLS_GOT_HI20 0 ∷ []

-- the distance to the symbol in place of its GOT entry, where some facts hold too
abbrev pub without_got : Conditions → Conditions
without_got facts =
    without_entry (fixed_distance ∷ label_marked ∷ facts)
    (in_reach_if_known r.R_RISCV_PCREL_HI20 0 ∷ [])

-- the symbol's address in place of its GOT entry, where some facts hold too, and where 12 signed
-- bits hold it and instructions may be deleted
abbrev pub without_got_of_fixed : Conditions → Conditions
without_got_of_fixed facts =
    without_entry (fixed_address ∷ label_marked ∷ facts) (in_reach r.R_RISCV_HI20 0 ∷ [])

abbrev pub without_got_of_low : Conditions → Conditions
without_got_of_low facts =
    without_entry (fixed_address ∷ marked ∷ label_marked ∷ facts) (low_12 ∷ [])

-- ---- the table

-- An instruction that is left out: it is deleted where that may be, and else becomes `nop`.
abbrev pub left_out : (Conditions → Conditions) → List RiscVEntry → List RiscVEntry
left_out conditions entries =
    entry kinds.Delete r.R_RISCV_NONE (conditions (marked ∷ []))
    ∷ entry kinds.ReplaceWithLongNop r.R_RISCV_NONE (conditions []) ∷ entries

-- the `auipc` and the `ld` of a descriptor
abbrev pub start_of_descriptor : List RiscVEntry
start_of_descriptor = left_out to_local_exec (left_out to_initial_exec [])

abbrev pub call_entries : List RiscVEntry
call_entries =
    entry kinds.TailToCJ r.R_RISCV_RVC_JUMP by_short_jump
    ∷ entry kinds.CallToCJal r.R_RISCV_RVC_JUMP by_short_call
    ∷ entry kinds.TailToJal r.R_RISCV_JAL by_jump
    ∷ entry kinds.CallToJal r.R_RISCV_JAL by_jump ∷ []

abbrev pub riscv_entries : RiscVRelocation → List RiscVEntry
riscv_entries r.R_RISCV_CALL = call_entries
riscv_entries r.R_RISCV_CALL_PLT = call_entries
riscv_entries r.R_RISCV_HI20 =
    entry kinds.Hi20Delete r.R_RISCV_NONE by_low_part
    ∷ entry kinds.Hi20ToCLui r.R_RISCV_RVC_LUI by_short_high_part ∷ []
riscv_entries r.R_RISCV_RVC_LUI = entry kinds.CLuiToCLi r.R_RISCV_NONE with_low_part ∷ []
riscv_entries r.R_RISCV_LO12_I = entry kinds.Lo12Rs1ToZero r.R_RISCV_LO12_I by_low_part ∷ []
riscv_entries r.R_RISCV_LO12_S = entry kinds.Lo12Rs1ToZero r.R_RISCV_LO12_S by_low_part ∷ []
riscv_entries r.R_RISCV_TPREL_HI20 = entry kinds.Delete r.R_RISCV_NONE by_low_offset ∷ []
riscv_entries r.R_RISCV_TPREL_ADD = entry kinds.Delete r.R_RISCV_NONE by_low_offset ∷ []
riscv_entries r.R_RISCV_TPREL_LO12_I =
    entry kinds.BaseToTp r.R_RISCV_TPREL_LO12_I by_low_offset ∷ []
riscv_entries r.R_RISCV_TPREL_LO12_S =
    entry kinds.BaseToTp r.R_RISCV_TPREL_LO12_S by_low_offset ∷ []
riscv_entries r.R_RISCV_TLSDESC_HI20 = start_of_descriptor
riscv_entries r.R_RISCV_TLSDESC_LOAD_LO12 = start_of_descriptor
riscv_entries r.R_RISCV_TLSDESC_ADD_LO12 =
    left_out to_short_local_exec
    (entry kinds.AddiToLui r.R_RISCV_TPREL_HI20 (to_local_exec [])
    ∷ entry kinds.AddiToAuipc r.R_RISCV_TLS_GOT_HI20 (to_initial_exec []) ∷ [])
riscv_entries r.R_RISCV_TLSDESC_CALL =
    entry kinds.CallToAddiZero r.R_RISCV_TPREL_LO12_I (to_short_local_exec [])
    ∷ entry kinds.CallToAddi r.R_RISCV_TPREL_LO12_I (to_local_exec [])
    ∷ entry kinds.CallToLd r.R_RISCV_PCREL_LO12_I (to_initial_exec []) ∷ []
riscv_entries r.R_RISCV_GOT_HI20 =
    entry kinds.Delete r.R_RISCV_NONE (without_got_of_low [])
    ∷ entry kinds.NoOp r.R_RISCV_PCREL_HI20 (without_got [])
    ∷ entry kinds.AuipcToLui r.R_RISCV_HI20 (without_got_of_fixed []) ∷ []
riscv_entries r.R_RISCV_PCREL_LO12_I =
    entry kinds.LdToAddiZero r.R_RISCV_LO12_I (without_got_of_low (got_high_part ∷ []))
    ∷ entry kinds.LdToAddi r.R_RISCV_PCREL_LO12_I (without_got (got_high_part ∷ []))
    ∷ entry kinds.LdToAddi r.R_RISCV_LO12_I (without_got_of_fixed (got_high_part ∷ [])) ∷ []
riscv_entries name = []

-- ---- which entry is chosen

-- the instruction that a relocation requires: of most what the rewrite is meant for
abbrev pub HasPattern : RiscVRelocation → RewriteKind → List ℕ → ℕ → Type 0
HasPattern r.R_RISCV_TPREL_HI20 = λ kind section o. HasWord section o IsLui
HasPattern r.R_RISCV_TPREL_ADD = λ kind section o. HasWord section o IsAddTp
HasPattern r.R_RISCV_TPREL_LO12_S = λ kind section o. HasWord section o IsLowOverOther
HasPattern r.R_RISCV_TLSDESC_HI20 = λ kind section o. HasWord section o IsAuipc
HasPattern r.R_RISCV_TLSDESC_LOAD_LO12 = λ kind section o. HasWord section o IsLd
HasPattern r.R_RISCV_TLSDESC_ADD_LO12 = λ kind section o. HasWord section o IsAddiToA0
HasPattern r.R_RISCV_TLSDESC_CALL = λ kind section o. HasWord section o IsCallOfDescriptor
HasPattern r.R_RISCV_GOT_HI20 = λ kind section o. HasWord section o IsAuipc
HasPattern name = riscv_matches

-- What is required is at the offset, and the conditions hold. No rewrite of RISC-V moves the
-- offset or the addend.
abbrev pub AppliesToRiscV : (RewriteKind → List ℕ → ℕ → Type 0) → List ℕ → ℕ → LinkFacts
    → RiscVEntry → Type 0
AppliesToRiscV Asked = Applies Asked riscv_row_of (λ kind o operands. operands)

-- `NoOp` and the same relocation where no entry applies
abbrev pub IsRiscVChoice : RiscVRelocation → List ℕ → ℕ → LinkFacts → RiscVChoice → Type 0
IsRiscVChoice name section o facts chosen =
    IsFirst (AppliesToRiscV (HasPattern name) section o facts) (riscv_entries name)
    (choice kinds.NoOp name) chosen

-- ---- the relocations of a pair or of a sequence

abbrev pub IsAmong : RiscVChoice × RiscVChoice → List (RiscVChoice × RiscVChoice) → Type 0
IsAmong x [] = ⊥
IsAmong x (y ∷ ys) = (x ≡ y) ⊎ IsAmong x ys

-- At both offsets are instructions that the relocations require with the rewrites of each line.
abbrev pub HavePatterns : RiscVRelocation → RiscVRelocation → List (RiscVChoice × RiscVChoice)
    → List ℕ → ℕ → ℕ → Type 0
HavePatterns first second [] section o p = ⊤
HavePatterns first second (x ∷ xs) section o p =
    HasPattern first x.0.kind section o × HasPattern second x.1.kind section p
    × HavePatterns first second xs section o p

-- Two relocations of one sequence, wherever its instructions are, with the same facts: both choices
-- are those of one line, or both relocations are left.
abbrev pub AreChosenAlike : RiscVRelocation → RiscVRelocation → List (RiscVChoice × RiscVChoice)
    → LinkFacts → Type 0
AreChosenAlike first second lines facts =
    (section : List ℕ) (o p : ℕ) (a b : RiscVChoice) → HavePatterns first second lines section o p
    → IsRiscVChoice first section o facts a → IsRiscVChoice second section p facts b
    → IsAmong (a, b) (lines ++ (choice kinds.NoOp first, choice kinds.NoOp second) ∷ [])

abbrev pub deleted : RiscVChoice
deleted = choice kinds.Delete r.R_RISCV_NONE

abbrev pub nop : RiscVChoice
nop = choice kinds.ReplaceWithLongNop r.R_RISCV_NONE

-- the choices for the `jalr` of a descriptor: for local-exec in one instruction and in two, and for
-- initial-exec
abbrev pub from_zero : RiscVChoice
from_zero = choice kinds.CallToAddiZero r.R_RISCV_TPREL_LO12_I

abbrev pub from_high : RiscVChoice
from_high = choice kinds.CallToAddi r.R_RISCV_TPREL_LO12_I

abbrev pub from_got : RiscVChoice
from_got = choice kinds.CallToLd r.R_RISCV_PCREL_LO12_I

-- the four relocations of a TLS descriptor
abbrev pub DescriptorIsChosenAlike : Type 0
DescriptorIsChosenAlike =
    (facts : LinkFacts) → AreChosenAlike r.R_RISCV_TLSDESC_HI20 r.R_RISCV_TLSDESC_LOAD_LO12
    ((deleted, deleted) ∷ (nop, nop) ∷ (deleted, deleted) ∷ (nop, nop) ∷ []) facts
    × AreChosenAlike r.R_RISCV_TLSDESC_HI20 r.R_RISCV_TLSDESC_CALL
    ((deleted, from_zero) ∷ (nop, from_zero) ∷ (deleted, from_high) ∷ (nop, from_high)
    ∷ (deleted, from_got) ∷ (nop, from_got) ∷ []) facts
    × AreChosenAlike r.R_RISCV_TLSDESC_ADD_LO12 r.R_RISCV_TLSDESC_CALL
    ((deleted, from_zero) ∷ (nop, from_zero)
    ∷ (choice kinds.AddiToLui r.R_RISCV_TPREL_HI20, from_high)
    ∷ (choice kinds.AddiToAuipc r.R_RISCV_TLS_GOT_HI20, from_got) ∷ []) facts

-- the `auipc` of a GOT entry and the `ld` whose high part that is
abbrev pub GotPairIsChosenAlike : Type 0
GotPairIsChosenAlike =
    (facts : LinkFacts) → facts.has_got_high_part ≡ true
    → AreChosenAlike r.R_RISCV_GOT_HI20 r.R_RISCV_PCREL_LO12_I
    ((deleted, choice kinds.LdToAddiZero r.R_RISCV_LO12_I)
    ∷ (choice kinds.NoOp r.R_RISCV_PCREL_HI20, choice kinds.LdToAddi r.R_RISCV_PCREL_LO12_I)
    ∷ (choice kinds.AuipcToLui r.R_RISCV_HI20, choice kinds.LdToAddi r.R_RISCV_LO12_I) ∷ [])
    facts

-- A `lui` and what reads it, wherever both are, with the same facts but for the place: where each
-- is an instruction that its relocation requires with the rewrites of the first line, both choices
-- are those of one line, or both relocations are left.
abbrev pub OfLuiAreChosenAlike : RiscVRelocation → RiscVRelocation → RiscVChoice × RiscVChoice
    → List (RiscVChoice × RiscVChoice) → Type 0
OfLuiAreChosenAlike first second line lines =
    (section : List ℕ) (o p n : ℕ) (facts : LinkFacts) (a b : RiscVChoice)
    → HavePatterns first second (line ∷ []) section o p → IsRiscVChoice first section o facts a
    → IsRiscVChoice second section p (facts_on n facts) b
    → IsAmong (a, b) (line ∷ lines ++ (choice kinds.NoOp first, choice kinds.NoOp second) ∷ [])

-- the `lui` of an address and a low part of it, which is left where the `lui` becomes a `c.lui`
abbrev pub LowPartIsChosenAlike : RiscVRelocation → Type 0
LowPartIsChosenAlike low =
    OfLuiAreChosenAlike r.R_RISCV_HI20 low
    (choice kinds.Hi20Delete r.R_RISCV_NONE, choice kinds.Lo12Rs1ToZero low)
    ((choice kinds.Hi20ToCLui r.R_RISCV_RVC_LUI, choice kinds.NoOp low) ∷ [])

abbrev pub AbsoluteIsChosenAlike : Type 0
AbsoluteIsChosenAlike =
    LowPartIsChosenAlike r.R_RISCV_LO12_I × LowPartIsChosenAlike r.R_RISCV_LO12_S

-- the `lui` of an offset from the thread pointer with its `add` and with a low part of it
abbrev pub ThreadOffsetIsChosenAlike : Type 0
ThreadOffsetIsChosenAlike =
    OfLuiAreChosenAlike r.R_RISCV_TPREL_HI20 r.R_RISCV_TPREL_ADD (deleted, deleted) []
    × OfLuiAreChosenAlike r.R_RISCV_TPREL_HI20 r.R_RISCV_TPREL_LO12_I
    (deleted, choice kinds.BaseToTp r.R_RISCV_TPREL_LO12_I) []
    × OfLuiAreChosenAlike r.R_RISCV_TPREL_HI20 r.R_RISCV_TPREL_LO12_S
    (deleted, choice kinds.BaseToTp r.R_RISCV_TPREL_LO12_S) []

-- ---- the rewrites of the crate `linker-utils`

-- the rewrite of the same name
abbrev pub riscv_rewrite_kind : RelaxationKind → RewriteKind
riscv_rewrite_kind originals.NoOp = kinds.NoOp
riscv_rewrite_kind originals.ReplaceWithNop = kinds.ReplaceWithNop
riscv_rewrite_kind originals.CallToJal = kinds.CallToJal
riscv_rewrite_kind originals.Hi20ToCLui = kinds.Hi20ToCLui
riscv_rewrite_kind originals.Hi20Delete = kinds.Hi20Delete
riscv_rewrite_kind originals.Lo12Rs1ToZero = kinds.Lo12Rs1ToZero
