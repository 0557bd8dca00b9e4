-- RISC-V's groups.
use Rattle.linker_laws.proofs.Imports.{Absolute, AbsoluteAddresses, Action, Agree, AreAddresses, AreBytes, AreOf, Bool, CjType, CluiType, DescriptorAddresses, EntryAddresses, GotRelative, GotTpOff, Group, Hart, IType, Instruction, IsApplied, IsCallPair, IsLoadFromGot, IsLow12, IsSomeAnd, IsTrue, IsWithin, JType, Kind, Kinds, Law, List, LoadFromGot, LowPartOf, Operands, Option, OthersAgree, PltRelative, Program, Relative, RelativeAddresses, RelativeRiscVLow12, RelocationKind, RowInfo, SType, Some, State, ThreadAddresses, TlsDesc, TpOff, UType, UiType, [], action_at, action_of, add-one, adds, adds_word, after_rewrite, anything, ap, ap₂, arith, auipc, cast_signed, continued, difference_64, drop, drop-take, entry_and_addend, even, false, field, from_le_bytes, go_to, goes_to, i_type, if◌then◌else◌, int_rem_euclid, ints, jal, jumps, le_refl, left, length, load_number, loaded, loads, loads_float, low_12_bounds, low_row, lui, moved, ne_eqb, of_entry, of_half, of_link, of_word, offset_row, option_map, pair_row, place_sum, plt_address, pos, put, refl, rewritten, riscv_form, riscv_places, rs1_of, rs2_of, run, s_type, same, signed, stores, stores_float, subst, suc, suc-add, sum, sum_64, sums, sym, symbol_address, t0, take, take-take, thread_offset, true, upper, upper_from, uses, w16, w32, w64, with_action, with_integer, with_register, word_of, word_of_front, wrapped, zero, ℕ, ℤ, ⊤, ◌%◌, ◌*◌, ◌+ℤ◌, ◌+◌, ◌-ℤ◌, ◌-◌, ◌<◌, ◌==◌, ◌^◌, ◌∙◌, ◌∷◌, ◌≡◌, ◌≢◌, ◌≤◌}
use Rattle.linker_riscv64.specs.RiscVFields.{funct3_of, opcode_of, rd_of}
use Rattle.linker_utils.specs.RiscVRewrites.{IsAddTp, tp, rewrites_word, with_rs1, a0, adds_low12, call_to_jal, clui_to_cli, half_at, hi20_to_clui, IsLui, load_to_addi, of_destination, riscv_matches, tail_to_cj, tail_to_jal}
use Rattle.linker_laws.specs.RiscVGroups.{AreBefore, AreDeleted, Code, Has, Stands, bytes_at, instruction_at, link, machine, seen}
use Rattle.linker_laws.specs.RiscVMachine.{add, executed, register, step, used}
use Rattle.linker_laws.proofs.AArch64Moves.{distance_is}
use Rattle.linker_laws.proofs.AArch64Steps.{in_two_steps}
use Rattle.linker_laws.proofs.Agreement.{agree_open, agree_put, agree_put_old, group_of, last_counts, one_written, others_agree, unchanged, value_group}
use Rattle.linker_laws.proofs.CoveredRuns.{holds_of, run_first, run_on}
use Rattle.linker_laws.proofs.RiscVDescriptors.{load_word, lui_word, sum_word, upper_long, upper_word, call_word, low_long as low_long_word, made_word, ten, whole_number}
use Rattle.linker_laws.proofs.RiscVHighParts.{IsFormulaOf, absolute_is, high_20, is_zero, low_12_number, near, no_high_part, of_address, of_offset, same_immediates, short_decodes, short_low, short_register, short_stands, upper_stands}
use Rattle.linker_laws.proofs.RiscVJumps.{high_decodes, high_long, jump_leads, low_decodes, low_long, pair_base, pair_leads, pair_link, pair_register, same_destination, same_opcode, short_jump_function, short_jump_leads, short_jump_low}
use Rattle.linker_laws.proofs.RiscVLowParts.{IsBased, clear_0, clear_7, clear_12, clear_15, clear_20, i_kept, i_stands, is_action, low_sum, over_tp, over_zero, s_kept, s_stands, some_action, word_there}
use Rattle.linker_laws.proofs.RiscVMachine.{address_is, fetched_half, fetched_word, is_cj, is_jal, is_long, is_sum, moved_twice, other, written}
use Rattle.linker_laws.proofs.Sums.{lifted_is, sum_below, sum_on, eight}
use Rattle.linker_laws.proofs.Words.{half_of_bytes, put_there, word_below, word_of_bytes}
use Rattle.linker_utils.proofs.RiscVRewrites.{half_of_front}
use Rattle.linker_utils.specs.declared.riscv64.rewrites.RewriteKind.{RewriteKind}
use Rattle.linker_elf.specs.declared.riscv64.relocations.RiscVRelocation.TheVariants as names
use Rattle.linker_laws.specs.RiscVGroups as groups
use Rattle.linker_utils.specs.declared.riscv64.rewrites.RewriteKind.TheVariants as kinds

-- ---- states

-- an integer register is written, and an address is next
pub wrote : (s : State) (rd v next : ℕ) → rd < 32
    → left s (goes_to next (with_integer rd v (seen s))) ≡ put rd v next s
wrote s rd v next small = λ i. record s { pc = next; registers = λ r. one_written s.registers rd v r small i }

pub below_32 : (word : ℕ) → rd_of word < 32
below_32 word = omega arith

-- ---- steps

-- the instruction of a word, and of a half, that stands at the pc
pub word_goes : (others : List ℕ → Program) (code : ℕ → ℕ) (s : State) (at : ℕ) (bytes : List ℕ)
    (i : Instruction) → s.pc ≡ at → Stands 4 code at bytes → field (word_of bytes) 0 2 ≡ 3
    → of_word (word_of bytes) ≡ Some i → machine others code s ≡ Some (left s (executed 4 i (seen s)))
word_goes others code s at bytes i here stands long is =
    let next = bytes_at 4 code at in
    let w : from_le_bytes w32 next ≡ word_of bytes = ap (from_le_bytes w32) stands ∙ word_of_front bytes in
    let first : code at % 4 ≡ 3 = omega (arith, w, long) in
    ap (λ b. continued others b s (step b (seen s)))
    (ap (instruction_at code) here ∙ ap (λ n. bytes_at (if n == 3 then 4 else 2) code at) first)
    ∙ ap (λ f. continued others next s (option_map (λ j. executed j.0 j.1 (seen s)) f))
    (fetched_word next i (ap (λ n. field n 0 2) w ∙ long) (le_refl 4) (ap of_word w ∙ is))

pub half_goes : (others : List ℕ → Program) (code : ℕ → ℕ) (s : State) (at : ℕ) (bytes : List ℕ)
    (i : Instruction) → s.pc ≡ at → Stands 2 code at bytes
    → field (from_le_bytes w16 bytes) 0 2 ≡ 1 → of_half (from_le_bytes w16 bytes) ≡ Some i
    → machine others code s ≡ Some (left s (executed 2 i (seen s)))
half_goes others code s at bytes i here stands low is =
    let next = bytes_at 2 code at in
    let w : from_le_bytes w16 next ≡ from_le_bytes w16 bytes =
    ap (from_le_bytes w16) stands ∙ half_of_front bytes in
    let first : code at % 4 ≡ 1 = omega (arith, w, low) in
    ap (λ b. continued others b s (step b (seen s)))
    (ap (instruction_at code) here ∙ ap (λ n. bytes_at (if n == 3 then 4 else 2) code at) first)
    ∙ ap (λ f. continued others next s (option_map (λ j. executed j.0 j.1 (seen s)) f))
    (fetched_half next i (ap (λ n. field n 0 2) w ∙ low) (le_refl 2) (ap of_half w ∙ is))

-- one that writes an integer register
pub puts : (p : Program) (s : State) (n : ℕ) (i : Instruction) (rd v next : ℕ) → rd < 32
    → p s ≡ Some (left s (executed n i (seen s)))
    → executed n i (seen s) ≡ goes_to next (with_integer rd v (seen s)) → p s ≡ Some (put rd v next s)
puts p s n i rd v next small goes leaves =
    goes ∙ ap Some (ap (left s) leaves ∙ wrote s rd v next small)

-- one instruction is a run
pub once : (p : Program) (s t : State) → p s ≡ Some t → run 1 p s ≡ Some t
once p s t goes = run_first 0 p s t (Some t) goes refl

-- instructions to which a relocation was applied, by their bytes before and after
module _ (others : List ℕ → Program) (code : ℕ → ℕ) (s : State) (kind : RelocationKind) (o : Operands)
    (before after : List ℕ) (at next rd : ℕ) (here : s.pc ≡ at) (goes_on : sum_64 at 4 ≡ next)
    (stands : Stands 4 code at after) (register_is : rd_of (word_of before) ≡ rd) where
  small : rd < 32
  small = subst (λ r. r < 32) register_is (below_32 (word_of before))

  writes : (i : Instruction) (v v' : ℕ) → field (word_of after) 0 2 ≡ 3 → of_word (word_of after) ≡ Some i
      → executed 4 i (seen s) ≡ goes_to (sum_64 s.pc 4) (with_integer rd v' (seen s)) → v' ≡ v
      → machine others code s ≡ Some (put rd v next s)
  writes i v v' long is leaves equal =
      puts (machine others code) s 4 i rd v next small (word_goes others code s at after i here stands long is)
      (leaves ∙ ap₂ (λ p v. goes_to (sum_64 p 4) (with_integer rd v (seen s))) here equal
      ∙ ap (λ n. goes_to n (with_integer rd v (seen s))) goes_on)

  lui_goes : (v : ℕ) → IsApplied (pair_row kind 32 UType) o before after → opcode_of (word_of before) ≡ 0x37
      → upper after ≡ v → machine others code s ≡ Some (put rd v next s)
  lui_goes v a op =
      writes _ v (upper after) (upper_long kind o before after a 0x37 refl op)
      (lui_word kind o before after a rd op register_is) refl

  auipc_goes : IsApplied (pair_row kind 32 UType) o before after → opcode_of (word_of before) ≡ 0x17
      → machine others code s ≡ Some (put rd (upper_from at after) next s)
  auipc_goes a op =
      writes _ (upper_from at after) (upper_from s.pc after) (upper_long kind o before after a 0x17 refl op)
      (upper_word kind o before after a rd op register_is) refl (ap (λ p. upper_from p after) here)

  abbrev added : ℕ → ℕ
  added rs1 = moved (register (seen s) rs1) ((riscv_form IType).machine (word_of after))

  sum_goes : (rs1 v : ℕ) → IsApplied (pair_row kind 32 IType) o before after → opcode_of (word_of before) ≡ 0x13
      → funct3_of (word_of before) ≡ 0 → rs1_of (word_of before) ≡ rs1 → added rs1 ≡ v
      → machine others code s ≡ Some (put rd v next s)
  sum_goes rs1 v a op f from =
      writes _ v (added rs1) (low_long_word kind o before after a 0x13 refl op)
      (sum_word kind o before after a rd rs1 op f register_is from) refl

  load_goes : (rs1 v : ℕ) → IsApplied (pair_row kind 32 IType) o before after → opcode_of (word_of before) ≡ 0x03
      → funct3_of (word_of before) ≡ 3 → rs1_of (word_of before) ≡ rs1
      → load_number 3 (loaded 8 s.memory (added rs1)) ≡ v → machine others code s ≡ Some (put rd v next s)
  load_goes rs1 v a op f from =
      writes _ v (load_number 3 (loaded 8 s.memory (added rs1))) (low_long_word kind o before after a 0x03 refl op)
      (load_word kind o before after a rd rs1 op f register_is from) refl

-- ---- deleted instructions

pub nothing_left : (c : Code) (k : Kinds) (s : State) (rd v : ℕ) → AreDeleted c 4 s
    → machine c.others c.old s ≡ Some (put rd v (s.pc + 4) s)
    → Group (of_link (link c)) 0 k s (with_register rd anything k) (put rd v (s.pc + 4) s)
nothing_left c k s rd v d goes =
    record {
      more = 0;
      old_goes = once (machine c.others c.old) s (put rd v (s.pc + 4) s) goes;
      new_goes = λ t agree.
          agree_put_old (link c) k s t rd anything v (s.pc + 4) agree d.small (agree.pc ∙ d.moved) tt;
      forward = λ none. omega arith;
    }

lui_goes_away : (kind : RelocationKind) (number : Operands → ℕ) → IsFormulaOf kind number
    → (c : Code) (x : Operands) (k : Kinds) (s : State) (bytes : List ℕ) → AreDeleted c 4 s
    → IsLui (word_of bytes) → IsWithin (Some low_12_bounds) (cast_signed w64 (number x))
    → Has 4 c.old s.pc (Some (pair_row kind 32 UType)) x bytes
    → Group (of_link (link c)) 0 k s (with_register (rd_of (word_of bytes)) anything k)
    (put (rd_of (word_of bytes)) 0 (s.pc + 4) s)
lui_goes_away kind number of c x k s bytes d is low h =
    let rd = rd_of (word_of bytes) in
    let n = number x in
    let below = of.1 x in
    let a = h.applied.applied in
    let small = d.small in
    let none : upper h.relocated ≡ 0 =
    ap (λ m. wrapped (signed 32 m)) (upper_stands kind x n bytes h.relocated a below (of.0 UType x)
    ∙ no_high_part n below (low_12_number n below low)) in
    let next : sum_64 s.pc 4 ≡ s.pc + 4 = omega (arith, small) in
    nothing_left c k s rd 0 d
    (lui_goes c.others c.old s kind x bytes h.relocated s.pc _ rd refl next h.stands refl 0 a is none)

pub are_high_parts : groups.DeletedLui kinds.Hi20Delete names.R_RISCV_HI20 IsLow12
are_high_parts bytes m is c x k s d = lui_goes_away Absolute symbol_address of_address c x k s bytes d is

pub are_high_offsets : groups.DeletedLui kinds.Delete names.R_RISCV_TPREL_HI20 groups.IsLowOffset
are_high_offsets bytes m is c x k s d = lui_goes_away TpOff thread_offset of_offset c x k s bytes d is

pub are_sums : (add : List ℕ) → IsAddTp (word_of add) → groups.SumGoes (λ c. AreDeleted c 4) add
are_sums bytes is c k s d none wide stands =
    let word = word_of bytes in
    let rd = rd_of word in
    let i : Instruction = add rd (rs1_of word) (rs2_of word) in
    let upper_bits = is.2 in
    let small = d.small in
    let function_7 : field word 25 32 ≡ 0 = omega (arith, upper_bits) in
    let tp_is : rs2_of word ≡ 4 = omega (arith, upper_bits) in
    let number : sum_64 (register (seen s) (rs1_of word)) (register (seen s) (rs2_of word)) ≡ s.registers 4 =
    ap₂ (λ a r. sum_64 a (register (seen s) r)) none tp_is
    ∙ (let e : sum_64 0 (s.registers 4) ≡ s.registers 4 = omega (arith, wide) in e) in
    let next : sum_64 s.pc 4 ≡ s.pc + 4 = omega (arith, small) in
    nothing_left c k s rd (s.registers 4) d
    (puts (machine c.others c.old) s 4 i rd (s.registers 4) (s.pc + 4) (below_32 word)
    (word_goes c.others c.old s s.pc bytes i refl stands (is_long word 0x33 is.0 refl)
    (is_sum word is.0 is.1 function_7))
    (ap₂ (λ v n. goes_to n (with_integer rd v (seen s))) number next))

-- ---- `c.lui`

clui_made : (bytes : List ℕ) → 4 ≤ length bytes
    → from_le_bytes w16 (after_rewrite kinds.Hi20ToCLui bytes 0) ≡ 0x6001 + rd_of (word_of bytes) * 128
clui_made bytes inside =
    ap (from_le_bytes w16) (put_there bytes 0 2 hi20_to_clui (omega arith))
    ∙ half_of_bytes (0x6001 + field (from_le_bytes w16 (take 2 bytes)) 7 12 * 128) (drop 2 bytes) (omega arith)
    ∙ ap (λ w. 0x6001 + field w 7 12 * 128) (half_of_front bytes)
    ∙ (let e : 0x6001 + field (from_le_bytes w16 bytes) 7 12 * 128
    ≡ 0x6001 + field (from_le_bytes w32 bytes) 7 12 * 128 = omega arith in e)

pub are_luis_to_clui : groups.LuiBecomesClui
are_luis_to_clui c x y k s bytes at m one high old new =
    let rd = rd_of (word_of bytes) in
    let before' = after_rewrite kinds.Hi20ToCLui bytes 0 in
    let n = symbol_address y in
    let high' : ¬ IsLow12 y =
    λ low. high (subst (λ a. IsWithin (Some low_12_bounds) (cast_signed w64 a)) (sym one) low) in
    let is = m.1.0 in
    let a = old.applied.applied in
    let a' = new.applied.applied in
    let len' = new.applied.len in
    let there = clui_made bytes m.0 in
    let low_bits : field (from_le_bytes w16 before') 0 2 ≡ 1 = omega (arith, there) in
    let function : field (from_le_bytes w16 before') 13 16 ≡ 3 = omega (arith, there) in
    let register' : rd_of (from_le_bytes w16 before') ≡ rd = omega (arith, there) in
    let some : rd_of (from_le_bytes w16 before') ≢ 0 = λ e. m.1.1 (sym register' ∙ e) in
    let not_sp : rd_of (from_le_bytes w16 before') ≢ 2 = λ e. m.1.2 (sym register' ∙ e) in
    let i = (riscv_form UType).machine (word_of old.relocated) in
    let rd' = rd_of (from_le_bytes w16 new.relocated) in
    let i' = signed 18 (place_sum (riscv_places CluiType) (from_le_bytes w16 new.relocated)) in
    let v : wrapped i ≡ wrapped i' = same_immediates n _ _ (sum_below y.symbol _)
    (near y before' new.relocated a' len' low_bits function some not_sp high')
    (upper_stands Absolute x (symbol_address x) bytes old.relocated a (sum_below x.symbol _) (absolute_is UType x)
    ∙ ap high_20 one)
    (short_stands y before' new.relocated a' len' low_bits function some not_sp high') in
    let same_rd : rd' ≡ rd =
    short_register y before' new.relocated a' len' low_bits function some not_sp high' ∙ register' in
    value_group (link c) 0 0 k _ s _ rd (wrapped i) (sum_64 x.place 4) (sum_below x.place 4)
    (once (machine c.others c.old) s (put rd (wrapped i) (sum_64 x.place 4) s)
    (lui_goes c.others c.old s Absolute x bytes old.relocated x.place _ rd at.at refl old.stands refl (wrapped i) a is refl))
    (unchanged _ _)
    (λ t agree.
    let here = agree.pc ∙ ap c.moved at.at ∙ sym at.place in
    once (machine c.others c.new) t (put rd (wrapped i) (c.moved (sum_64 x.place 4)) t)
    (puts (machine c.others c.new) t 2 (lui rd' i') rd (wrapped i) (c.moved (sum_64 x.place 4))
    (below_32 (word_of bytes))
    (half_goes c.others c.new t y.place new.relocated (lui rd' i') here new.stands
    (short_low y before' new.relocated a' len' low_bits function some not_sp high')
    (short_decodes y before' new.relocated a' len' low_bits function some not_sp high'))
    (ap₂ (λ r v. goes_to (sum_64 t.pc 2) (with_integer r v (seen t))) same_rd (sym v)
    ∙ ap (λ n. goes_to n (with_integer rd (wrapped i) (seen t)))
    (ap (λ p. sum_64 p 2) here ∙ at.next))))

-- ---- `c.li` of 0

cli_made : (bytes : List ℕ)
    → from_le_bytes w16 (after_rewrite kinds.CLuiToCLi bytes 0) ≡ 0x4001 + rd_of (half_at bytes 0) * 128
cli_made bytes =
    ap (from_le_bytes w16) (put_there bytes 0 2 clui_to_cli (omega arith))
    ∙ half_of_bytes (0x4001 + field (from_le_bytes w16 (take 2 bytes)) 7 12 * 128) (drop 2 bytes) (omega arith)
    ∙ ap (λ w. 0x4001 + field w 7 12 * 128) (half_of_front bytes)

pub are_cluis_to_cli : groups.CluiBecomesCli
are_cluis_to_cli c x y k s bytes clui at m is one low old stands =
    let rd = rd_of (word_of bytes) in
    let rd' = rd_of (half_at clui 0) in
    let n = symbol_address x in
    let below = sum_below x.symbol _ in
    let new = after_rewrite kinds.CLuiToCLi clui 0 in
    let a = old.applied.applied in
    let i = (riscv_form UType).machine (word_of old.relocated) in
    let there = cli_made clui in
    let low_bits : field (from_le_bytes w16 new) 0 2 ≡ 1 = omega (arith, there) in
    let zero : Instruction = sums adds rd' 0 0 (pos 0) in
    let none : wrapped i ≡ 0 =
    ap (λ m. wrapped (signed 32 m)) (upper_stands Absolute x n bytes old.relocated a below (absolute_is UType x)
    ∙ no_high_part n below (low_12_number n below low)) in
    value_group (link c) 0 0 k _ s _ rd 0 (sum_64 x.place 4) (sum_below x.place 4)
    (once (machine c.others c.old) s (put rd 0 (sum_64 x.place 4) s)
    (lui_goes c.others c.old s Absolute x bytes old.relocated x.place _ rd at.at refl old.stands refl 0 a is none))
    (unchanged _ _)
    (λ t agree.
    let here = agree.pc ∙ ap c.moved at.at ∙ sym at.place in
    once (machine c.others c.new) t (put rd 0 (c.moved (sum_64 x.place 4)) t)
    (puts (machine c.others c.new) t 2 zero rd 0 (c.moved (sum_64 x.place 4)) (below_32 (word_of bytes))
    (half_goes c.others c.new t y.place new zero here stands low_bits
    (is_zero (from_le_bytes w16 new) rd' there (omega arith) m.1.2))
    (ap₂ (λ r n. goes_to n (with_integer r 0 (seen t))) (sym one) (ap (λ p. sum_64 p 2) here ∙ at.next))))

-- ---- low parts

-- Both use the same sum.
low_group : (c : Code) (a : Action) (x y : Operands) (k k' : Kinds) (s : State) (word m b rs1 rd0 rs20 : ℕ)
    (i i' : ℤ) (bytes bytes' : List ℕ) → AreBefore c 4 4 x y s
    → Stands 4 c.old x.place bytes → Stands 4 c.new y.place bytes'
    → field (word_of bytes) 0 2 ≡ 3 → field (word_of bytes') 0 2 ≡ 3
    → of_word (word_of bytes) ≡ Some (sums a rd0 rs1 rs20 i)
    → of_word (word_of bytes') ≡ Some (sums a rd0 b rs20 i')
    → ((h : Hart) → used 4 a rd0 rs20 m h ≡ used 4 a (rd_of word) (rs2_of word) m h)
    → moved (register (seen s) rs1) i ≡ m
    → ((t : State) → Agree (link c) k s t → moved (register (seen t) b) i' ≡ m)
    → ((t : State) → Agree (link c) k s t → Agree (link c) k' (uses a word m s) (uses a word m t))
    → Group (of_link (link c)) 1 k s k' (uses a word m s)
low_group c a x y k k' s word m b rs1 rd0 rs20 i i' bytes bytes' at here here' low low' is is' one_use sum sum' keeps =
    group_of (link c) 0 0
    (once (machine c.others c.old) s (uses a word m s)
    (word_goes c.others c.old s x.place bytes (sums a rd0 rs1 rs20 i) at.at here low is
    ∙ ap (λ m. Some (left s (used 4 a rd0 rs20 m (seen s)))) sum
    ∙ ap (λ h. Some (left s h)) (one_use (seen s))))
    (λ t agree.
    holds_of (run 1 (machine c.others c.new) t) (Agree (link c) k' (uses a word m s)) (uses a word m t)
    (once (machine c.others c.new) t (uses a word m t)
    (word_goes c.others c.new t y.place bytes' (sums a rd0 b rs20 i')
    (agree.pc ∙ ap c.moved at.at ∙ sym at.place) here' low' is'
    ∙ ap (λ m. Some (left t (used 4 a rd0 rs20 m (seen t)))) (sum' t agree)
    ∙ ap (λ h. Some (left t h)) (one_use (seen t))))
    (keeps t agree))

-- the relocation of a low part, by its kind
abbrev pub row_of : RelocationKind → Action → Option RowInfo
row_of kind (stores f) = Some (pair_row kind 32 SType)
row_of kind (stores_float f) = Some (pair_row kind 32 SType)
row_of kind a = Some (pair_row kind 32 IType)

-- the low part of a number
abbrev pub low_of : ℕ → ℤ
low_of n = signed 12 (n % 2 ^ 32 % 4096)

-- Relocations of two kinds of numbers are applied to an instruction and to one over another base.
module _ (kind kind' : RelocationKind) (number number' : Operands → ℕ) (of : IsFormulaOf kind number)
    (of' : IsFormulaOf kind' number') (b : ℕ) (small : b < 32) (low made : List ℕ)
    (there : word_of made ≡ with_rs1 b (word_of low)) (long : opcode_of (word_of low) % 4 ≡ 3) where
  abbrev IsAction : Action → Type 0
  IsAction a = action_of (opcode_of (word_of low)) (funct3_of (word_of low)) ≡ Some a

  long_word : (w : ℕ) → field w 0 7 ≡ opcode_of (word_of low) → field w 0 2 ≡ 3
  long_word w e = omega (arith, e, long)

  of_action : (a : Action) → IsAction a → (w : ℕ) → field w 0 7 ≡ opcode_of (word_of low)
      → field w 12 15 ≡ funct3_of (word_of low) → of_word w ≡ with_action w (Some a)
  of_action a is w e f =
      is_action w a (ap (λ n. action_of n (funct3_of w)) e ∙ ap (action_of (opcode_of (word_of low))) f ∙ is)

  abbrev IsGroup : Action → Option RowInfo → Option RowInfo → Type 0
  IsGroup a row row' =
      (c : Code) (x y : Operands) (k k' : Kinds) (s : State) (m : ℕ)
      → AreBefore c 4 4 (record x { place = s.pc }) y s → Has 4 c.old s.pc row x low → Has 4 c.new y.place row' y made
      → moved (register (seen s) (rs1_of (word_of low))) (low_of (number x)) ≡ m
      → ((t : State) → Agree (link c) k s t → moved (register (seen t) b) (low_of (number' y)) ≡ m)
      → ((t : State) → Agree (link c) k s t
      → Agree (link c) k' (uses a (word_of low) m s) (uses a (word_of low) m t))
      → Group (of_link (link c)) 1 k s k' (uses a (word_of low) m s)

  i_group : (a : Action) → IsAction a → ((w : ℕ) → with_action w (Some a) ≡ i_type a w)
      → ((h : Hart) (m : ℕ) → used 4 a (rd_of (word_of low)) 0 m h
      ≡ used 4 a (rd_of (word_of low)) (rs2_of (word_of low)) m h)
      → IsGroup a (Some (pair_row kind 32 IType)) (Some (pair_row kind' 32 IType))
  i_group a is form one_use c x y k k' s m at old new sum sum' keeps =
      let word = word_of low in
      let w = word_of old.relocated in
      let w' = word_of new.relocated in
      let kept = i_kept kind x (number x) low old.relocated old.applied.applied (of.1 x) (of.0 IType x) in
      let kept' = i_kept kind' y (number' y) made new.relocated new.applied.applied (of'.1 y) (of'.0 IType y) in
      let opcode' : field w' 0 7 ≡ field word 0 7
      = kept' 0 7 refl ∙ ap (λ v. field v 0 7) there ∙ clear_0 word b in
      let function' : field w' 12 15 ≡ field word 12 15
      = kept' 12 3 refl ∙ ap (λ v. field v 12 15) there ∙ clear_12 word b in
      low_group c a (record x { place = s.pc }) y k k' s word m b (rs1_of word) (rd_of word) 0 (low_of (number x))
      (low_of (number' y)) old.relocated new.relocated at old.stands new.stands (long_word w (kept 0 7 refl))
      (long_word w' opcode')
      (of_action a is w (kept 0 7 refl) (kept 12 3 refl) ∙ form w
      ∙ ap₂ (λ d r. Some (sums a d r 0 ((riscv_form IType).machine w))) (kept 7 5 refl) (kept 15 5 refl)
      ∙ ap (λ v. Some (sums a (rd_of word) (rs1_of word) 0 (signed 12 v)))
      (i_stands kind x (number x) low old.relocated old.applied.applied (of.1 x) (of.0 IType x)))
      (of_action a is w' opcode' function' ∙ form w'
      ∙ ap₂ (λ d r. Some (sums a d r 0 ((riscv_form IType).machine w')))
      (kept' 7 5 refl ∙ ap (λ v. field v 7 12) there ∙ clear_7 word b)
      (kept' 15 5 refl ∙ ap (λ v. field v 15 20) there ∙ clear_15 word b small)
      ∙ ap (λ v. Some (sums a (rd_of word) b 0 (signed 12 v)))
      (i_stands kind' y (number' y) made new.relocated new.applied.applied (of'.1 y) (of'.0 IType y)))
      (λ h. one_use h m) sum sum' keeps

  s_group : (a : Action) → IsAction a → ((w : ℕ) → with_action w (Some a) ≡ s_type a w)
      → ((h : Hart) (m : ℕ) → used 4 a 0 (rs2_of (word_of low)) m h
      ≡ used 4 a (rd_of (word_of low)) (rs2_of (word_of low)) m h)
      → IsGroup a (Some (pair_row kind 32 SType)) (Some (pair_row kind' 32 SType))
  s_group a is form one_use c x y k k' s m at old new sum sum' keeps =
      let word = word_of low in
      let w = word_of old.relocated in
      let w' = word_of new.relocated in
      let kept = s_kept kind x (number x) low old.relocated old.applied.applied (of.1 x) (of.0 SType x) in
      let kept' = s_kept kind' y (number' y) made new.relocated new.applied.applied (of'.1 y) (of'.0 SType y) in
      let opcode' : field w' 0 7 ≡ field word 0 7
      = kept' 0 7 refl ∙ ap (λ v. field v 0 7) there ∙ clear_0 word b in
      let function' : field w' 12 15 ≡ field word 12 15
      = kept' 12 3 refl ∙ ap (λ v. field v 12 15) there ∙ clear_12 word b in
      low_group c a (record x { place = s.pc }) y k k' s word m b (rs1_of word) 0 (rs2_of word) (low_of (number x))
      (low_of (number' y)) old.relocated new.relocated at old.stands new.stands (long_word w (kept 0 7 refl))
      (long_word w' opcode')
      (of_action a is w (kept 0 7 refl) (kept 12 3 refl) ∙ form w
      ∙ ap₂ (λ r q. Some (sums a 0 r q ((riscv_form SType).machine w))) (kept 15 5 refl) (kept 20 5 refl)
      ∙ ap (λ v. Some (sums a 0 (rs1_of word) (rs2_of word) (signed 12 v)))
      (s_stands kind x (number x) low old.relocated old.applied.applied (of.1 x) (of.0 SType x)))
      (of_action a is w' opcode' function' ∙ form w'
      ∙ ap₂ (λ r q. Some (sums a 0 r q ((riscv_form SType).machine w')))
      (kept' 15 5 refl ∙ ap (λ v. field v 15 20) there ∙ clear_15 word b small)
      (kept' 20 5 refl ∙ ap (λ v. field v 20 25) there ∙ clear_20 word b small)
      ∙ ap (λ v. Some (sums a 0 b (rs2_of word) (signed 12 v)))
      (s_stands kind' y (number' y) made new.relocated new.applied.applied (of'.1 y) (of'.0 SType y)))
      (λ h. one_use h m) sum sum' keeps

  pub based_group : (a : Action) → IsAction a → IsGroup a (row_of kind a) (row_of kind' a)
  based_group adds is = i_group adds is (λ w. refl) (λ h m. refl)
  based_group adds_word is = i_group adds_word is (λ w. refl) (λ h m. refl)
  based_group jumps is = i_group jumps is (λ w. refl) (λ h m. refl)
  based_group (loads f) is = i_group (loads f) is (λ w. refl) (λ h m. refl)
  based_group (stores f) is = s_group (stores f) is (λ w. refl) (λ h m. refl)
  based_group (loads_float f) is = i_group (loads_float f) is (λ w. refl) (λ h m. refl)
  based_group (stores_float f) is = s_group (stores_float f) is (λ w. refl) (λ h m. refl)

-- Both numbers are one of 12 bits, and old's base has what new's has.
low_parts_of : (kind : RelocationKind) (number : Operands → ℕ) → IsFormulaOf kind number
    → (row : Action → Option RowInfo) → ((a : Action) → row a ≡ row_of kind a)
    → (rewrite : RewriteKind) (b : ℕ) → b < 32 → IsBased rewrite b → (base : State → ℕ)
    → (IsKnown : Kinds → Type 0)
    → ((c : Code) (k : Kinds) (s t : State) → IsKnown k → Agree (link c) k s t → register (seen t) b ≡ base s)
    → (low : List ℕ) → 4 ≤ length low → IsTrue (adds_low12 (opcode_of (word_of low)) (funct3_of (word_of low)))
    → IsSomeAnd (action_at low 0) (LowPartOf rewrite row number base IsKnown low)
low_parts_of kind number of row rows rewrite b small based base IsKnown same_base low inside is =
    let some = some_action (opcode_of (word_of low)) (funct3_of (word_of low)) is in
    let a = some.0 in
    let made = after_rewrite rewrite low 0 in
    subst (λ r. IsSomeAnd r (LowPartOf rewrite row number base IsKnown low)) (sym some.1)
    (λ c x y k k' s at one within has known old new keeps.
    let n = number x in
    let old' = subst (λ r. Has 4 c.old x.place r x low) (rows a) old in
    let new' = subst (λ r. Has 4 c.new y.place r y made) (rows a) new in
    let sum : (v : ℕ) → moved v (low_of n) ≡ sum_64 v n =
    λ v. low_sum v n (n % 2 ^ 32 % 4096) (of.1 x) (low_12_number n (of.1 x) within) refl in
    based_group kind kind number number of of b small low made (based low 0 inside old'.applied.old_bytes) some.2 a
    some.1 c x y k k' s (sum_64 (base s) n)
    (record {
      at = refl;
      small = subst (λ p. p < 2 ^ 64) (sym at.at) at.small;
      place = at.place ∙ ap c.moved (sym at.at);
      next = at.next ∙ ap (λ p. c.moved (sum_64 p 4)) (sym at.at);
    })
    (subst (λ p. Has 4 c.old p (row_of kind a) x low) (sym at.at) old') new'
    (ap (λ r. moved r (low_of n)) has ∙ sum (base s))
    (λ t agree. ap₂ (λ r n. moved r (low_of n)) (same_base c k s t known agree) (sym one) ∙ sum (base s)) keeps)

pub absolute_rows : (a : Action) → low_row a ≡ row_of Absolute a
absolute_rows adds = refl
absolute_rows adds_word = refl
absolute_rows jumps = refl
absolute_rows (loads f) = refl
absolute_rows (stores f) = refl
absolute_rows (loads_float f) = refl
absolute_rows (stores_float f) = refl

offset_rows : (a : Action) → offset_row a ≡ row_of TpOff a
offset_rows adds = refl
offset_rows adds_word = refl
offset_rows jumps = refl
offset_rows (loads f) = refl
offset_rows (stores f) = refl
offset_rows (loads_float f) = refl
offset_rows (stores_float f) = refl

pub are_low_parts : groups.LowPart kinds.Lo12Rs1ToZero low_row symbol_address (λ s. 0) (λ k. ⊤)
are_low_parts low m =
    low_parts_of Absolute symbol_address of_address low_row absolute_rows kinds.Lo12Rs1ToZero 0 (omega arith) over_zero
    (λ s. 0) (λ k. ⊤) (λ c k s t known agree. refl) low m.0 m.1

pub are_low_offsets : groups.LowPart kinds.BaseToTp offset_row thread_offset (λ s. s.registers tp) (λ k. k.registers tp ≡ same)
are_low_offsets low m =
    low_parts_of TpOff thread_offset of_offset offset_row offset_rows kinds.BaseToTp 4 (omega arith) over_tp
    (λ s. s.registers 4) (λ k. k.registers 4 ≡ same)
    (λ c k s t known agree.
    sym (subst (λ kind. AreOf (link c) 8 kind (s.registers 4) (t.registers 4)) known (agree.registers 4)))
    low m.0 m.1

-- ---- calls

-- the words of 8 bytes
first_stands : (code : ℕ → ℕ) (at : ℕ) (bytes : List ℕ) → Stands 8 code at bytes → Stands 4 code at bytes
first_stands code at bytes stands = ap (take 4) stands ∙ take-take 4 8 bytes (omega arith)

second_stands : (code : ℕ → ℕ) (at : ℕ) (bytes : List ℕ) → Stands 8 code at bytes
    → Stands 4 code (sum_64 at 4) (drop 4 bytes)
second_stands code at bytes stands =
    ap (bytes_at 4 code) (let e : sum_64 at 4 ≡ sum_64 (sum_64 (sum_64 (sum_64 at 1) 1) 1) 1 = omega arith in e)
    ∙ ap (drop 4) stands ∙ drop-take 4 4 bytes

-- the address of a place, in old and in new
pub counts : (a b : ℕ) → a ≡ b → b < 2 ^ 64
    → int_rem_euclid ((pos 0 +ℤ pos (sum (a ∷ []))) -ℤ pos (sum [])) (pos (2 ^ 64)) ≡ pos b
counts a b e small =
    ap (λ n. int_rem_euclid ((pos 0 +ℤ pos (sum (n ∷ []))) -ℤ pos (sum [])) (pos (2 ^ 64))) e
    ∙ lifted_is ((pos 0 +ℤ pos (sum (b ∷ []))) -ℤ pos (sum [])) 0 b (omega (arith, ints))
    ∙ ap pos (let e : b % 2 ^ 64 ≡ b = omega arith in e)

-- one run of `auipc` and `jalr`
module _ (others : List ℕ → Program) (code : ℕ → ℕ) (x : Operands) (s : State) (call : List ℕ)
    (sx : AreAddresses x) (at : s.pc ≡ x.place)
    (pair : IsCallPair (word_of call) (word_of (drop 4 call))) (some : rd_of (word_of call) ≢ 0)
    (has : Has 8 code x.place (Some (pair_row PltRelative 64 UiType)) x call) where
  abbrev after_auipc : State
  after_auipc = put (rd_of (word_of call)) (upper_from x.place has.relocated) (sum_64 x.place 4) s

  first_goes : machine others code s ≡ Some after_auipc
  first_goes =
      let w = word_of has.relocated in
      let a = has.applied in
      let u = (riscv_form UType).machine w in
      let register' : rd_of w ≡ rd_of (word_of call) =
      pair_register x call has.relocated a.applied a.old_bytes a.bytes a.len pair in
      puts (machine others code) s 4 (auipc (rd_of w) u) (rd_of (word_of call))
      (upper_from x.place has.relocated) (sum_64 x.place 4) (below_32 (word_of call))
      (word_goes others code s x.place has.relocated (auipc (rd_of w) u) at
      (first_stands code x.place has.relocated has.stands)
      (low_long x call has.relocated a.applied a.old_bytes a.bytes a.len pair)
      (low_decodes x call has.relocated a.applied a.old_bytes a.bytes a.len pair))
      (ap₂ (λ r p. goes_to (sum_64 p 4) (with_integer r (moved p u) (seen s))) register' at)

  second_goes : machine others code after_auipc
      ≡ Some (put (rd_of (word_of (drop 4 call))) (sum_64 x.place 8) (even plt_address x) after_auipc)
  second_goes =
      let a = has.applied in
      let t = after_auipc in
      let w = word_of (drop 4 has.relocated) in
      let i = (riscv_form IType).machine w in
      let link_is : rd_of w ≡ rd_of (word_of (drop 4 call)) =
      pair_link x call has.relocated a.applied a.old_bytes a.bytes a.len pair in
      let base_is : register (seen t) (rs1_of w) ≡ upper_from x.place has.relocated =
      ap (register (seen t)) (pair_base x call has.relocated a.applied a.old_bytes a.bytes a.len pair)
      ∙ written (rd_of (word_of call)) (upper_from x.place has.relocated) (seen s) some in
      puts (machine others code) t 4 (sums jumps (rd_of w) (rs1_of w) 0 i) (rd_of (word_of (drop 4 call)))
      (sum_64 x.place 8) (even plt_address x) (below_32 (word_of (drop 4 call)))
      (word_goes others code t (sum_64 x.place 4) (drop 4 has.relocated) (sums jumps (rd_of w) (rs1_of w) 0 i) refl
      (second_stands code x.place has.relocated has.stands)
      (high_long x call has.relocated a.applied a.old_bytes a.bytes a.len pair)
      (high_decodes x call has.relocated a.applied a.old_bytes a.bytes a.len pair))
      (ap₂ (λ m r. goes_to (moved m i - moved m i % 2) (with_integer r (sum_64 (sum_64 x.place 4) 4) (seen t)))
      base_is link_is
      ∙ ap₂ (λ m r. goes_to m (with_integer (rd_of (word_of (drop 4 call))) r (seen t)))
      (pair_leads x call has.relocated a.applied a.old_bytes a.bytes a.len pair sx) (eight x.place))

  pair_goes : run 2 (machine others code) s
      ≡ Some (put (rd_of (word_of (drop 4 call))) (sum_64 x.place 8) (even plt_address x) after_auipc)
  pair_goes =
      run_first 1 (machine others code) s after_auipc _ first_goes
      (once (machine others code) after_auipc _ second_goes)

module _ (c : Code) (x y : Operands) (k : Kinds) (s : State) (call : List ℕ) (n : ℕ)
    (sx : AreAddresses x) (at : AreBefore c 8 n x y s) (target : ℕ)
    (leads : target ≡ c.moved (even plt_address x))
    (pair : IsCallPair (word_of call) (word_of (drop 4 call))) (some : rd_of (word_of call) ≢ 0)
    (old : Has 8 c.old x.place (Some (pair_row PltRelative 64 UiType)) x call) where
  abbrev base : ℕ
  base = rd_of (word_of call)

  abbrev l : ℕ
  l = rd_of (word_of (drop 4 call))

  abbrev v : ℕ
  v = upper_from x.place old.relocated

  -- new calls from a state that agrees but for the pc
  call_group : (m : ℕ)
      → ((t : State) → t.pc ≡ y.place → Agree (link c) k s t → (u : State)
      × Agree (link c) (with_register base anything k) (put base v s.pc s) u
      × (run (suc m) (machine c.others c.new) t ≡ Some (put l (sum_64 y.place n) target u)))
      → groups.IsCall c (suc m) x k s call old.relocated
  call_group m goes =
      group_of (link c) m 1 (pair_goes c.others c.old x s call sx at.at pair some old) (λ t agree.
      let new = goes t (agree.pc ∙ ap c.moved at.at ∙ sym at.place) agree in
      holds_of (run (suc m) (machine c.others c.new) t) _ (put l (sum_64 y.place n) target new.0) new.2
      (agree_put (link c) (with_register base anything k) (put base v s.pc s) new.0 l
      (groups.of_place (sum_64 x.place 8)) (sum_64 x.place 8) (sum_64 y.place n) (even plt_address x) target
      new.1 (even_below (plt_address x) (sum_below x.plt_entry _)) leads (
        counts (sum_64 x.place 8) (sum_64 x.place 8) refl (sum_below x.place 8),
        counts (c.moved (sum_64 x.place 8)) (sum_64 y.place n) (sym at.next) (sum_below y.place n),
      )))
    where
      even_below : (a : ℕ) → a < 2 ^ 64 → a - a % 2 < 2 ^ 64
      even_below a small = omega arith

  pub jump_group : ((t : State) → t.pc ≡ y.place
      → machine c.others c.new t ≡ Some (put l (sum_64 y.place n) target t))
      → groups.IsCall c 1 x k s call old.relocated
  jump_group goes =
      call_group 0 (λ t here agree. (
        t,
        agree_put_old (link c) k s t base anything v s.pc agree agree.small agree.pc tt,
        once (machine c.others c.new) t (put l (sum_64 y.place n) target t) (goes t here),
      ))

-- `jal` and `c.j`
pub jal_goes : (others : List ℕ → Program) (code : ℕ → ℕ) (at r target : ℕ) (bytes : List ℕ)
    → Stands 4 code at bytes → opcode_of (word_of bytes) ≡ 0x6f → rd_of (word_of bytes) ≡ r
    → moved at ((riscv_form JType).machine (word_of bytes)) ≡ target → (t : State) → t.pc ≡ at
    → machine others code t ≡ Some (put r (sum_64 at 4) target t)
jal_goes others code at r target bytes stands op rd leads t here =
    let w = word_of bytes in
    let j = (riscv_form JType).machine w in
    puts (machine others code) t 4 (jal (rd_of w) j) r (sum_64 at 4) target (subst (λ r. r < 32) rd (below_32 w))
    (word_goes others code t at bytes (jal (rd_of w) j) here stands (is_long w 0x6f op refl) (is_jal w op))
    (ap₂ (λ p r. goes_to (moved p j) (with_integer r (sum_64 p 4) (seen t))) here rd
    ∙ ap (λ m. goes_to m (with_integer r (sum_64 at 4) (seen t))) leads)

pub cj_goes : (others : List ℕ → Program) (code : ℕ → ℕ) (at r target : ℕ) (bytes : List ℕ)
    → Stands 2 code at bytes → field (from_le_bytes w16 bytes) 0 2 ≡ 1
    → field (from_le_bytes w16 bytes) 13 16 ≡ 5 → r ≡ 0
    → moved at ((riscv_form CjType).machine (from_le_bytes w16 bytes)) ≡ target → (t : State) → t.pc ≡ at
    → machine others code t ≡ Some (put r (sum_64 at 2) target t)
cj_goes others code at r target bytes stands quadrant function none leads t here =
    let half = from_le_bytes w16 bytes in
    let j = (riscv_form CjType).machine half in
    puts (machine others code) t 2 (jal 0 j) r (sum_64 at 2) target (omega (arith, none))
    (half_goes others code t at bytes (jal 0 j) here stands quadrant (is_cj half quadrant function))
    (ap₂ (λ p r. goes_to (moved p j) (with_integer r (sum_64 p 2) (seen t))) here (sym none)
    ∙ ap (λ m. goes_to m (with_integer r (sum_64 at 2) (seen t))) leads)

jal_group : groups.CallTo names.R_RISCV_CALL 4 names.R_RISCV_JAL groups.IsJal
jal_group y call jump sy pair some is c x k s sx at target old new =
    let r = rd_of (word_of (drop 4 call)) in
    let a = new.applied in
    let op : opcode_of (word_of jump) ≡ 0x6f = omega (arith, is) in
    let rd' : rd_of (word_of jump) ≡ r = omega (arith, is) in
    jump_group c x y k s call 4 sx at (symbol_address y) target pair some old
    (jal_goes c.others c.new y.place r (symbol_address y) new.relocated new.stands
    (same_opcode y jump new.relocated a.applied a.len ∙ op)
    (same_destination y jump new.relocated a.applied a.len ∙ rd')
    (jump_leads y jump new.relocated a.applied a.len sy))

cj_group : groups.CallTo names.R_RISCV_CALL 2 names.R_RISCV_RVC_JUMP groups.IsCj
cj_group y call jump sy pair some is c x k s sx at target old new =
    let a = new.applied in
    let there = is.1 in
    let low_bits : field (from_le_bytes w16 jump) 0 2 ≡ 1 = omega (arith, there) in
    let function : field (from_le_bytes w16 jump) 13 16 ≡ 5 = omega (arith, there) in
    jump_group c x y k s call 2 sx at (symbol_address y) target pair some old
    (cj_goes c.others c.new y.place (rd_of (word_of (drop 4 call))) (symbol_address y) new.relocated new.stands
    (short_jump_low y jump new.relocated a.applied a.len low_bits function)
    (short_jump_function y jump new.relocated a.applied a.len low_bits function) is.0
    (short_jump_leads y jump new.relocated a.applied a.len low_bits function sy))

long_group : groups.CallStays names.R_RISCV_CALL
long_group y call sy pair some c x k s sx at target old new =
    let base = rd_of (word_of call) in
    let v = upper_from x.place old.relocated in
    let v' = upper_from y.place new.relocated in
    call_group c x y k s call 8 sx at (even plt_address y) target pair some old 1
    (λ t here agree. (
      put base v' t.pc t,
      agree_put (link c) k s t base anything v v' s.pc t.pc agree agree.small agree.pc tt,
      pair_goes c.others c.new y t call sy here pair some new,
    ))

pub are_calls : groups.CallTo names.R_RISCV_CALL 4 names.R_RISCV_JAL groups.IsJal
    × groups.CallTo names.R_RISCV_CALL_PLT 4 names.R_RISCV_JAL groups.IsJal
are_calls = (jal_group, jal_group)

pub are_short_tail_calls : groups.CallTo names.R_RISCV_CALL 2 names.R_RISCV_RVC_JUMP groups.IsCj
    × groups.CallTo names.R_RISCV_CALL_PLT 2 names.R_RISCV_RVC_JUMP groups.IsCj
are_short_tail_calls = (cj_group, cj_group)

pub are_long_calls : groups.CallStays names.R_RISCV_CALL × groups.CallStays names.R_RISCV_CALL_PLT
are_long_calls = (long_group, long_group)

pub are_rewritten_calls : groups.CallsAreRewritten
are_rewritten_calls call = (
  λ m.
      let window = take 4 call in
      ap (from_le_bytes w32) (put_there call 0 4 call_to_jal (omega arith))
      ∙ word_of_bytes (0x6f + field (from_le_bytes w32 window) 7 12 * 128) (drop 4 call) (omega arith)
      ∙ ap (λ w. 0x6f + field w 7 12 * 128) (word_of_front call)
      ∙ ap (λ r. 0x6f + r * 128) (sym m.0.2),
  λ m.
      ap (from_le_bytes w32) (put_there call 0 4 tail_to_jal (omega arith))
      ∙ sym (ap (λ r. 0x6f + r * 2 ^ 7) m.links),
  λ m. (m.links, ap (from_le_bytes w16) (put_there call 0 2 tail_to_cj (omega arith))),
)

-- ---- loads from the GOT

-- Old has the address in rY.
pair_loads : EntryAddresses Law → (c : Code) (x : Operands) (s : State) (auipc_bytes ld : List ℕ) → s.pc ≡ x.place
    → IsLoadFromGot (word_of auipc_bytes) (word_of ld) → (load : LoadFromGot c x s auipc_bytes ld)
    → run 2 (machine c.others c.old) s
    ≡ Some (put (rd_of (word_of ld)) (symbol_address x) (sum_64 x.place 8)
    (put (rd_of (word_of auipc_bytes)) (upper_from x.place load.high.relocated) (sum_64 x.place 4) s))
pair_loads entries c x s auipc_bytes ld at is load =
    let old = load.high in
    let old_ld = load.low in
    let x1 = rd_of (word_of auipc_bytes) in
    let y1 = rd_of (word_of ld) in
    let a1 = old.applied.applied in
    let a2 = old_ld.applied.applied in
    let u = (riscv_form UType).machine (word_of old.relocated) in
    let i = (riscv_form IType).machine (word_of old_ld.relocated) in
    let v = upper_from x.place old.relocated in
    let loads_from : moved v i ≡ entry_and_addend x =
    moved_twice x.place u i
    ∙ address_is _ _ (entries.0.0 x load.small x.place auipc_bytes old.relocated a1 tt x.place ld old_ld.relocated a2 tt) in
    let p = machine c.others c.old in
    let s1 = put x1 v (sum_64 x.place 4) s in
    let value : load_number 3 (loaded 8 s.memory (moved (register (seen s1) x1) i)) ≡ symbol_address x =
    ap (λ n. load_number 3 (loaded 8 s.memory (moved n i))) (written x1 v (seen s) is.not_zero)
    ∙ ap (λ n. load_number 3 (loaded 8 s.memory n)) loads_from ∙ ap (load_number 3) load.entry
    ∙ whole_number (symbol_address x) (sum_below x.symbol _) in
    run_first 1 p s s1 _
    (auipc_goes c.others c.old s GotRelative x auipc_bytes old.relocated x.place _ x1 at refl old.stands refl a1 is.first)
    (once p s1 (put y1 (symbol_address x) (sum_64 x.place 8) s1)
    (load_goes c.others c.old s1 RelativeRiscVLow12 (of_entry x) ld old_ld.relocated (sum_64 x.place 4) _ y1 refl
    (eight x.place) old_ld.stands refl x1 (symbol_address x) a2 is.second.0 is.second.1 is.base value))

-- So it has in new, from a state that agrees but for the pc.
load_group : EntryAddresses Law → (n : ℕ) (c : Code) (x y : Operands) (k : Kinds) (kind : Kind) (s : State)
    (auipc_bytes ld : List ℕ) → IsLoadFromGot (word_of auipc_bytes) (word_of ld) → AreBefore c 8 (4 * suc n) x y s
    → (load : LoadFromGot c x s auipc_bytes ld) → AreOf (link c) 8 kind (symbol_address x) (symbol_address y)
    → let x1 = rd_of (word_of auipc_bytes) in
    let y1 = rd_of (word_of ld) in
    let v = upper_from x.place load.high.relocated in
    ((t : State) → t.pc ≡ y.place → Agree (link c) k s t → (u : State)
    × Agree (link c) (with_register x1 anything k) (put x1 v s.pc s) u
    × (run (suc n) (machine c.others c.new) t ≡ Some (put y1 (symbol_address y) (sum_64 y.place (4 * suc n)) u)))
    → Group (of_link (link c)) (suc n) k s (with_register y1 kind (with_register x1 anything k))
    (put y1 (symbol_address x) (sum_64 x.place 8) (put x1 v (sum_64 x.place 4) s))
load_group entries n c x y k kind s auipc_bytes ld is at load are goes =
    let x1 = rd_of (word_of auipc_bytes) in
    let y1 = rd_of (word_of ld) in
    let v = upper_from x.place load.high.relocated in
    let after = sum_64 y.place (4 * suc n) in
    group_of (link c) n 1 (pair_loads entries c x s auipc_bytes ld at.at is load) (λ t agree.
    let new = goes t (agree.pc ∙ ap c.moved at.at ∙ sym at.place) agree in
    holds_of (run (suc n) (machine c.others c.new) t) _ (put y1 (symbol_address y) after new.0) new.2
    (agree_put (link c) (with_register x1 anything k) (put x1 v s.pc s) new.0 y1 kind (symbol_address x) (symbol_address y)
    (sum_64 x.place 8) after new.1 (sum_below x.place 8) at.next are))

-- the `addi` of a `ld`
abbrev IsAddiOf : ℕ → ℕ → ℕ → Type 0
IsAddiOf rs1 ld word =
    (opcode_of word ≡ 0x13) × (funct3_of word ≡ 0) × (rd_of word ≡ rd_of ld) × (rs1_of word ≡ rs1)

addi_made : (ld : List ℕ) → AreBytes ld → 4 ≤ length ld
    → IsAddiOf (rs1_of (word_of ld)) (word_of ld) (word_of (after_rewrite kinds.LdToAddi ld 0))
addi_made ld bytes inside =
    let below : word_of ld < 2 ^ 32 = word_below ld bytes inside in
    let made : word_of (after_rewrite kinds.LdToAddi ld 0) ≡ load_to_addi (word_of ld) =
    word_there ld 0 load_to_addi inside (let e : load_to_addi (word_of ld) < 2 ^ 32 = omega (arith, below) in e) in (
      ap opcode_of made ∙ (let e : opcode_of (load_to_addi (word_of ld)) ≡ 0x13 = omega arith in e),
      ap funct3_of made ∙ (let e : funct3_of (load_to_addi (word_of ld)) ≡ 0 = omega arith in e),
      ap rd_of made ∙ (let e : rd_of (load_to_addi (word_of ld)) ≡ rd_of (word_of ld) = omega arith in e),
      ap rs1_of made ∙ (let e : rs1_of (load_to_addi (word_of ld)) ≡ rs1_of (word_of ld) = omega arith in e),
    )

destination_made : (op : ℕ) (bytes : List ℕ) → op < 128 → 4 ≤ length bytes
    → word_of (rewritten (Some (rewrites_word (of_destination op))) bytes 0) ≡ of_destination op (word_of bytes)
destination_made op bytes small inside =
    word_there bytes 0 (of_destination op) inside
    (let e : of_destination op (word_of bytes) < 2 ^ 32 = omega (arith, small) in e)

pub are_loads : EntryAddresses Law → RelativeAddresses → groups.GotToAddress
are_loads entries relative auipc_bytes ld inside is c x y k kind s at load are sy new =
    let x1 = rd_of (word_of auipc_bytes) in
    let y1 = rd_of (word_of ld) in
    let before' = after_rewrite kinds.LdToAddi ld 0 in
    let a1 = new.0.applied.applied in
    let a2 = new.1.applied.applied in
    let u = (riscv_form UType).machine (word_of new.0.relocated) in
    let i = (riscv_form IType).machine (word_of new.1.relocated) in
    let v = upper_from x.place load.high.relocated in
    let v' = upper_from y.place new.0.relocated in
    let addi = addi_made ld load.low.applied.old_bytes inside in
    let leads : moved v' i ≡ symbol_address y =
    moved_twice y.place u i
    ∙ address_is _ _ (relative.0 y sy y.place auipc_bytes new.0.relocated a1 tt y.place before' new.1.relocated a2 tt) in
    let q = machine c.others c.new in
    load_group entries 1 c x y k kind s auipc_bytes ld is at load are (λ t here agree.
    let t1 = put x1 v' (sum_64 y.place 4) t in (
      put x1 v' t.pc t,
      agree_put (link c) k s t x1 anything v v' s.pc t.pc agree agree.small agree.pc tt,
      run_first 1 q t t1 _
          (auipc_goes c.others c.new t Relative y auipc_bytes new.0.relocated y.place _ x1 here refl new.0.stands refl a1 is.first)
          (once q t1 (put y1 (symbol_address y) (sum_64 y.place 8) t1)
          (sum_goes c.others c.new t1 RelativeRiscVLow12 y before' new.1.relocated (sum_64 y.place 4) _ y1 refl
          (eight y.place) new.1.stands addi.2 x1 (symbol_address y) a2 addi.0 addi.1 (addi.3 ∙ is.base)
          (ap (λ n. moved n i) (written x1 v' (seen t) is.not_zero) ∙ leads))),
    ))

pub are_fixed_addresses : EntryAddresses Law → AbsoluteAddresses Law → groups.GotToFixedAddress
are_fixed_addresses entries absolute auipc_bytes ld auipc_inside inside is c x y k kind s at load are sy new =
    let x1 = rd_of (word_of auipc_bytes) in
    let y1 = rd_of (word_of ld) in
    let before = after_rewrite kinds.AuipcToLui auipc_bytes 0 in
    let before' = after_rewrite kinds.LdToAddi ld 0 in
    let a1 = new.0.applied.applied in
    let a2 = new.1.applied.applied in
    let u = (riscv_form UType).machine (word_of new.0.relocated) in
    let i = (riscv_form IType).machine (word_of new.1.relocated) in
    let v = upper_from x.place load.high.relocated in
    let below = sum_below y.symbol _ in
    let made = destination_made 0x37 auipc_bytes (omega arith) auipc_inside in
    let op : opcode_of (word_of before) ≡ 0x37 =
    ap opcode_of made ∙ (let e : opcode_of (of_destination 0x37 (word_of auipc_bytes)) ≡ 0x37 = omega arith in e) in
    let rd : rd_of (word_of before) ≡ x1 =
    ap rd_of made ∙ (let e : rd_of (of_destination 0x37 (word_of auipc_bytes)) ≡ rd_of (word_of auipc_bytes) = omega arith in e) in
    let addi = addi_made ld load.low.applied.old_bytes inside in
    let value : moved (wrapped u) i ≡ symbol_address y =
    in_two_steps u i
    ∙ distance_is (u +ℤ i) 0 (symbol_address y) (omega arith) below
    (absolute.0.0 y sy y.place before new.0.relocated a1 tt y.place before' new.1.relocated a2 tt)
    ∙ (let e : difference_64 (symbol_address y) 0 ≡ symbol_address y = omega (arith, below) in e) in
    let q = machine c.others c.new in
    load_group entries 1 c x y k kind s auipc_bytes ld is at load are (λ t here agree.
    let t1 = put x1 (wrapped u) (sum_64 y.place 4) t in (
      put x1 (wrapped u) t.pc t,
      agree_put (link c) k s t x1 anything v (wrapped u) s.pc t.pc agree agree.small agree.pc tt,
      run_first 1 q t t1 _
          (lui_goes c.others c.new t Absolute y before new.0.relocated y.place _ x1 here refl new.0.stands rd (wrapped u) a1 op refl)
          (once q t1 (put y1 (symbol_address y) (sum_64 y.place 8) t1)
          (sum_goes c.others c.new t1 Absolute y before' new.1.relocated (sum_64 y.place 4) _ y1 refl
          (eight y.place) new.1.stands addi.2 x1 (symbol_address y) a2 addi.0 addi.1 (addi.3 ∙ is.base)
          (ap (λ n. moved n i) (written x1 (wrapped u) (seen t) is.not_zero) ∙ value))),
    ))

pub are_low_addresses : EntryAddresses Law → groups.GotToLowAddress
are_low_addresses entries auipc_bytes ld inside is c x y k kind s at load are is_low new =
    let x1 = rd_of (word_of auipc_bytes) in
    let y1 = rd_of (word_of ld) in
    let before = after_rewrite kinds.LdToAddiZero ld 0 in
    let a = new.applied.applied in
    let i = (riscv_form IType).machine (word_of new.relocated) in
    let v = upper_from x.place load.high.relocated in
    let o = symbol_address y in
    let below = sum_below y.symbol _ in
    let made = destination_made 0x13 ld (omega arith) inside in
    let w = word_of ld in
    let op : opcode_of (word_of before) ≡ 0x13 =
    ap opcode_of made ∙ (let e : opcode_of (of_destination 0x13 w) ≡ 0x13 = omega arith in e) in
    let f : funct3_of (word_of before) ≡ 0 =
    ap funct3_of made ∙ (let e : funct3_of (of_destination 0x13 w) ≡ 0 = omega arith in e) in
    let rd : rd_of (word_of before) ≡ y1 =
    ap rd_of made ∙ (let e : rd_of (of_destination 0x13 w) ≡ rd_of w = omega arith in e) in
    let rs1 : rs1_of (word_of before) ≡ 0 =
    ap rs1_of made ∙ (let e : rs1_of (of_destination 0x13 w) ≡ 0 = omega arith in e) in
    let value : moved 0 i ≡ o =
    ap (λ p. moved 0 (signed 12 p)) (i_stands Absolute y o before new.relocated a below (of_address.0 IType y))
    ∙ low_sum 0 o (o % 2 ^ 32 % 4096) below (low_12_number o below is_low) refl
    ∙ (let e : sum_64 0 o ≡ o = omega (arith, below) in e) in
    let q = machine c.others c.new in
    load_group entries 0 c x y k kind s auipc_bytes ld is at load are (λ t here agree. (
      t,
      agree_put_old (link c) k s t x1 anything v s.pc agree agree.small agree.pc tt,
      once q t (put y1 o (sum_64 y.place 4) t)
          (sum_goes c.others c.new t Absolute y before new.relocated y.place _ y1 here refl new.stands rd 0 o a op f rs1 value),
    ))

-- ---- TLS descriptors

-- The sequence ends at the function.
descriptor_goes : DescriptorAddresses Law → (c : Code) (x : Operands) (offset : ℕ) (k : Kinds) (s : State)
    (k' : Kinds) (s' : State) (auipc_bytes ld addi jalr : List ℕ)
    → (d : groups.Descriptor c x offset k s k' s' auipc_bytes ld addi jalr)
    → run 4 (machine c.others c.old) s
    ≡ Some (groups.called x (rd_of (word_of auipc_bytes)) (upper_from x.place d.high.relocated) (rd_of (word_of ld)) s)
descriptor_goes descriptors c x offset k s k' s' auipc_bytes ld addi jalr d =
    let ws = d.instructions in
    let p = machine c.others c.old in
    let X = rd_of (word_of auipc_bytes) in
    let Y = rd_of (word_of ld) in
    let a1 = d.high.applied.applied in
    let a2 = d.low.applied.applied in
    let a3 = d.sum.applied.applied in
    let u = (riscv_form UType).machine (word_of d.high.relocated) in
    let i = (riscv_form IType).machine (word_of d.low.relocated) in
    let j = (riscv_form IType).machine (word_of d.sum.relocated) in
    let v = upper_from x.place d.high.relocated in
    let entry = entry_and_addend x in
    let f = loaded 8 s.memory entry in
    let wide = d.function in
    let is_even = d.even in
    let loads_from : moved v i ≡ entry =
    moved_twice x.place u i
    ∙ address_is _ _ (descriptors.0 x d.small x.place auipc_bytes d.high.relocated a1 tt x.place ld d.low.relocated a2 tt) in
    let passes : moved v j ≡ entry =
    moved_twice x.place u j
    ∙ address_is _ _ (descriptors.1 x d.small x.place auipc_bytes d.high.relocated a1 tt x.place addi d.sum.relocated a3 tt) in
    let s1 = put X v (sum_64 x.place 4) s in
    let s2 = put Y f (sum_64 x.place 8) s1 in
    let s3 = put a0 entry (sum_64 x.place 12) s2 in
    let s4 = put t0 (sum_64 x.place 16) f s3 in
    let base1 : register (seen s1) X ≡ v = written X v (seen s) ws.base_not_zero in
    let loaded_is : load_number 3 (loaded 8 s.memory (moved (register (seen s1) X) i)) ≡ f =
    ap (λ n. load_number 3 (loaded 8 s.memory n)) (ap (λ n. moved n i) base1 ∙ loads_from)
    ∙ whole_number f wide in
    let base2 : register (seen s2) X ≡ v =
    other Y f (seen s1) X (ne_eqb X Y (λ e. ws.apart (sym e))) ∙ base1 in
    let function3 : register (seen s3) Y ≡ f =
    other a0 entry (seen s2) Y (ne_eqb Y a0 ws.function_not_a0) ∙ written Y f (seen s1) ws.function_not_zero in
    let target : moved f (pos 0) - moved f (pos 0) % 2 ≡ f =
    ap (λ n. n - n % 2) (let e : moved f (pos 0) ≡ f = omega (arith, ints, wide) in e)
    ∙ (let e : f - f % 2 ≡ f = omega (arith, is_even) in e) in
    let w4 = ws.fourth in
    run_first 3 p s s1 _
    (auipc_goes c.others c.old s TlsDesc x auipc_bytes d.high.relocated x.place _ X d.at refl d.high.stands refl a1 ws.first)
    (run_first 2 p s1 s2 _
    (load_goes c.others c.old s1 TlsDesc x ld d.low.relocated (sum_64 x.place 4) _ Y refl (eight x.place) d.low.stands refl
    X f a2 ws.second.0 ws.second.1 ws.base_of_ld loaded_is)
    (run_first 1 p s2 s3 _
    (sum_goes c.others c.old s2 TlsDesc x addi d.sum.relocated (sum_64 x.place 8) _ a0 refl (sum_on x.place 8 4) d.sum.stands
    ws.third.2 X entry a3 ws.third.0 ws.third.1 ws.base_of_addi (ap (λ n. moved n j) base2 ∙ passes))
    (once p s3 s4
    (puts p s3 4 (sums jumps t0 Y 0 (pos 0)) t0 (sum_64 x.place 16) f (omega arith)
    (word_goes c.others c.old s3 (sum_64 x.place 12) jalr (sums jumps t0 Y 0 (pos 0)) refl d.call
    (is_long (word_of jalr) 0x67 w4.0 refl)
    (call_word (word_of jalr) Y w4.0 w4.1 w4.2 ws.base_of_jalr w4.3))
    (ap (λ n. goes_to (moved n (pos 0) - moved n (pos 0) % 2)
    (with_integer t0 (sum_64 (sum_64 x.place 12) 4) (seen s3))) function3
    ∙ ap₂ (λ n r. goes_to n (with_integer t0 r (seen s3))) target (sum_on x.place 12 4))))))

-- nops do nothing: x0 keeps nothing
nop_goes : (c : Code) (t : State) (at : ℕ) (instruction : List ℕ) → t.pc ≡ at
    → riscv_matches kinds.ReplaceWithLongNop instruction 0
    → Stands 4 c.new at (after_rewrite kinds.ReplaceWithLongNop instruction 0)
    → machine c.others c.new t ≡ Some (put 0 0 (sum_64 at 4) t)
unfolding place_sum
nop_goes c t at instruction here m stands =
    let bytes = after_rewrite kinds.ReplaceWithLongNop instruction 0 in
    let w = word_there instruction 0 (λ _. 0x13) m.0 (omega arith) in
    puts (machine c.others c.new) t 4 (sums adds 0 0 0 (pos 0)) 0 0 (sum_64 at 4) (omega arith)
    (word_goes c.others c.new t at bytes (sums adds 0 0 0 (pos 0)) here stands (ap (λ n. field n 0 2) w)
    (ap of_word w))
    (ap (λ p. goes_to (sum_64 p 4) (with_integer 0 0 (seen t))) here)

-- new runs n nops, and agrees but for its pc and register 0
pub record Passes (c : Code) (n start : ℕ) (k : Kinds) (s t : State) : Type 0 where
  pub end : State
  pub runs : run n (machine c.others c.new) t ≡ Some end
  pub at : end.pc ≡ sum_64 start (4 * n)
  pub memory : end.memory ≡ t.memory
  pub agree : Agree (link c) (with_register 0 anything k) s (go_to (c.moved s.pc) end)

passes : (c : Code) (n : ℕ) (x : Operands) (k : Kinds) (s t : State) → s.pc ≡ x.place
    → c.moved x.place < 2 ^ 64
    → ((i : ℕ) → i < n → (instruction : List ℕ) × riscv_matches kinds.ReplaceWithLongNop instruction 0
    × Stands 4 c.new (sum_64 (c.moved x.place) (4 * i)) (after_rewrite kinds.ReplaceWithLongNop instruction 0))
    → Agree (link c) k s t → Passes c n (c.moved x.place) k s t
passes c zero x k s t at small nops agree =
    record {
      end = t;
      runs = refl;
      at = agree.pc ∙ ap c.moved at
          ∙ (let e : c.moved x.place ≡ sum_64 (c.moved x.place) (4 * 0) = omega (arith, small) in e);
      memory = refl;
      agree = record {
        small = agree.small;
        pc = refl;
        registers = λ m. kept (m == 0) (k.registers m) (s.registers m) (t.registers m) (agree.registers m);
        memory = agree.memory;
        outside = agree.outside;
      };
    }
  where
    kept : (b : Bool) (kind : Kind) (x y : ℕ) → AreOf (link c) 8 kind x y
        → AreOf (link c) 8 (if b then anything else kind) x y
    kept true kind x y are = tt
    kept false kind x y are = are
passes c (suc n) x k s t at small nops agree =
    let start = c.moved x.place in
    let p = passes c n x k s t at small (λ i below. nops i (omega arith)) agree in
    let u = p.end in
    let nop = nops n (omega arith) in
    let after = put 0 0 (sum_64 (sum_64 start (4 * n)) 4) u in
    record {
      end = after;
      runs =
          subst (λ m. run m (machine c.others c.new) t ≡ Some after) (add-one n)
          (run_on n 1 (machine c.others c.new) t u (Some after) p.runs
          (once (machine c.others c.new) u after
          (nop_goes c u (sum_64 start (4 * n)) nop.0 p.at nop.1 nop.2)));
      at = let e : sum_64 (sum_64 start (4 * n)) 4 ≡ sum_64 start (4 * suc n) = omega arith in e;
      memory = p.memory;
      agree = record {
        small = p.agree.small;
        pc = refl;
        registers = λ m. kept (m == 0) (k.registers m) (s.registers m) (u.registers m) (p.agree.registers m);
        memory = p.agree.memory;
        outside = p.agree.outside;
      };
    }
  where
    kept : (b : Bool) (kind : Kind) (x y : ℕ) → AreOf (link c) 8 (if b then anything else kind) x y
        → AreOf (link c) 8 (if b then anything else kind) x (if b then 0 else y)
    kept true kind x y are = tt
    kept false kind x y are = are

-- The function returns after the sequence, and new leaves the same in a0.
descriptor_group : DescriptorAddresses Law → (c : Code) (n m offset at : ℕ) (x : Operands) (k k' : Kinds)
    (s s' : State) (auipc_bytes ld addi jalr : List ℕ)
    → groups.Descriptor c x offset k s k' s' auipc_bytes ld addi jalr → groups.AreNops c n (suc m) x at
    → ((t u : State) → Agree (link c) k s t → u.memory ≡ t.memory → u.pc ≡ at
    → run (suc m) (machine c.others c.new) u ≡ Some (put a0 offset (sum_64 at (4 * suc m)) u))
    → Group (of_link (link c)) (n + suc m) k s k' s'
descriptor_group descriptors c n m offset at x k k' s s' auipc_bytes ld addi jalr d nops leaves =
    record {
      more = 3 + d.executes;
      old_goes =
          subst (λ n. run n (machine c.others c.old) s ≡ Some s') (suc-add 3 d.executes)
          (run_on 4 d.executes (machine c.others c.old) s _ (Some s')
          (descriptor_goes descriptors c x offset k s k' s' auipc_bytes ld addi jalr d) d.returns);
      new_goes = λ t agree.
          let p = passes c n x k s t d.at nops.small nops.nops agree in
          let next = sum_64 at (4 * suc m) in
          holds_of (run (n + suc m) (machine c.others c.new) t) (Agree (link c) k' s') (put a0 offset next p.end)
          (run_on n (suc m) (machine c.others c.new) t p.end (Some (put a0 offset next p.end)) p.runs
          (leaves t p.end agree p.memory (p.at ∙ sym nops.place)))
          (agree_open (link c) (with_register a0 same (with_register 0 anything k)) k'
          (put a0 offset (sum_64 x.place 16) s) s' (put a0 offset next p.end)
          (agree_put (link c) (with_register 0 anything k) s (go_to (c.moved s.pc) p.end) a0 same offset offset
          (sum_64 x.place 16) next p.agree (sum_below x.place 16) nops.next refl) d.changes);
      forward = λ none. absurd (omega (arith, none));
    }

pub are_to_local_exec : DescriptorAddresses Law → ThreadAddresses Law → groups.DescriptorToLocalExec
are_to_local_exec descriptors thread auipc_bytes ld addi jalr long_addi long_jalr c n at x y k k' s s' d one sy nops new =
    let high = new.0 in
    let low = new.1 in
    let u = (riscv_form UType).machine (word_of high.relocated) in
    let l = (riscv_form IType).machine (word_of low.relocated) in
    let before = after_rewrite kinds.AddiToLui addi 0 in
    let before' = after_rewrite kinds.CallToAddi jalr 0 in
    let a1 = high.applied.applied in
    let a2 = low.applied.applied in
    let w1 = made_word 0x537 addi long_addi (omega arith) in
    let w2 = made_word 0x50513 jalr long_jalr (omega arith) in
    let offset = thread_offset x in
    let value : moved (wrapped u) l ≡ offset =
    in_two_steps u l
    ∙ distance_is (u +ℤ l) y.tls_base (symbol_address y) sy.tls_base (sum_below y.symbol _)
    (thread.0 y sy y.place before high.relocated a1 tt y.place before' low.relocated a2 tt)
    ∙ sym one in
    let q = machine c.others c.new in
    descriptor_group descriptors c n 1 offset at x k k' s s' auipc_bytes ld addi jalr d nops
    (λ before_nops t agree memory here.
    let t1 = put 10 (wrapped u) (sum_64 at 4) t in
    run_first 1 q t t1 _
    (lui_goes c.others c.new t TpOff y before high.relocated at _ 10 here refl high.stands (ap rd_of w1) (wrapped u) a1
    (ap opcode_of w1) refl)
    (once q t1 (put 10 offset (sum_64 at 8) t1)
    (sum_goes c.others c.new t1 TpOff y before' low.relocated (sum_64 at 4) _ 10 refl (eight at) low.stands (ap rd_of w2) 10
    offset a2 (ap opcode_of w2) (ap funct3_of w2) (ap rs1_of w2)
    (ap (λ n. moved n l) (written 10 (wrapped u) (seen t) ten) ∙ value))
    ∙ ap Some (last_counts 10 (wrapped u) offset (sum_64 at 4) (sum_64 at 8) t)))

pub are_to_short_local_exec : DescriptorAddresses Law → groups.DescriptorToShortLocalExec
are_to_short_local_exec descriptors auipc_bytes ld addi jalr long_jalr c n at x y k k' s s' d one is_low nops low =
    let l = (riscv_form IType).machine (word_of low.relocated) in
    let before' = after_rewrite kinds.CallToAddiZero jalr 0 in
    let a2 = low.applied.applied in
    let w2 = made_word 0x513 jalr long_jalr (omega arith) in
    let o = thread_offset y in
    let wide = of_offset.1 y in
    let value : moved 0 l ≡ thread_offset x =
    ap (λ p. moved 0 (signed 12 p)) (i_stands TpOff y o before' low.relocated a2 wide (of_offset.0 IType y))
    ∙ low_sum 0 o (o % 2 ^ 32 % 4096) wide (low_12_number o wide is_low) refl
    ∙ (let e : sum_64 0 o ≡ o = omega (arith, wide) in e) ∙ sym one in
    let q = machine c.others c.new in
    descriptor_group descriptors c n 0 (thread_offset x) at x k k' s s' auipc_bytes ld addi jalr d nops
    (λ before_nops t agree memory here.
    once q t (put 10 (thread_offset x) (sum_64 at 4) t)
    (sum_goes c.others c.new t TpOff y before' low.relocated at _ 10 here refl low.stands (ap rd_of w2) 0
    (thread_offset x) a2 (ap opcode_of w2) (ap funct3_of w2) (ap rs1_of w2) value))

pub are_to_initial_exec : DescriptorAddresses Law → EntryAddresses Law → groups.DescriptorToInitialExec
are_to_initial_exec descriptors entries c n offset x y k k' s s' auipc_bytes ld addi jalr d sy wide holds nops long_addi long_jalr high low =
    let u = (riscv_form UType).machine (word_of high.relocated) in
    let l = (riscv_form IType).machine (word_of low.relocated) in
    let before = after_rewrite kinds.AddiToAuipc addi 0 in
    let before' = after_rewrite kinds.CallToLd jalr 0 in
    let a1 = high.applied.applied in
    let a2 = low.applied.applied in
    let w1 = made_word 0x517 addi long_addi (omega arith) in
    let w2 = made_word 0x53503 jalr long_jalr (omega arith) in
    let v = upper_from y.place high.relocated in
    let leads : moved v l ≡ entry_and_addend y =
    moved_twice y.place u l
    ∙ address_is _ _ (entries.1.0 y sy y.place before high.relocated a1 tt y.place before' low.relocated a2 tt) in
    let q = machine c.others c.new in
    descriptor_group descriptors c n 1 offset y.place x k k' s s' auipc_bytes ld addi jalr d nops
    (λ before_nops t agree memory here.
    let t1 = put 10 v (sum_64 y.place 4) t in
    run_first 1 q t t1 _
    (auipc_goes c.others c.new t GotTpOff y before high.relocated y.place _ 10 here refl high.stands (ap rd_of w1) a1
    (ap opcode_of w1))
    (once q t1 (put 10 offset (sum_64 y.place 8) t1)
    (load_goes c.others c.new t1 RelativeRiscVLow12 (of_entry y) before' low.relocated (sum_64 y.place 4) _ 10 refl
    (eight y.place) low.stands (ap rd_of w2) 10 offset a2 (ap opcode_of w2) (ap funct3_of w2) (ap rs1_of w2)
    (ap (λ n. load_number 3 (loaded 8 t.memory n)) (ap (λ n. moved n l) (written 10 v (seen t) ten) ∙ leads)
    ∙ ap (λ m. load_number 3 (loaded 8 m (entry_and_addend y))) memory
    ∙ ap (load_number 3) (holds before_nops agree) ∙ whole_number offset wide))
    ∙ ap Some (last_counts 10 v offset (sum_64 y.place 4) (sum_64 y.place 8) t)))

-- ---- other instructions

pub are_others : (c : Code) → OthersAgree (λ code at. groups.does c.others (instruction_at code at)) (link c)
are_others c =
    others_agree (λ code at. groups.does c.others (instruction_at code at)) (link c) (λ code s. refl)
