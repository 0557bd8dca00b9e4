-- LoongArch: what the instructions of the rewrites do (LoongArch Reference Manual, volume 1). Any
-- address can be read and written, and code is apart from memory.
use Rattle.std.specs.Prelude.{ℕ, pos, ◌+ℤ◌, ◌*ℤ◌, ◌*◌, ◌/◌, ◌%◌, ◌^◌, ◌==◌, List, [], ◌∷◌, Option}
use Rattle.std.specs.Prelude.{Some, None, IsSomeAnd, ◌≡◌, Bool, false, bit_or, bit_and}
use Rattle.std.specs.Prelude.{if◌then◌else◌, ◌-◌, slice_get, ◌≢◌, ◌||◌}
use Rattle.linker_laws.specs.Imports.{Branch26, Shift5, field, loongarch_form, pcalau12i, signed}
use Rattle.linker_laws.specs.Imports.{sum_64, unwrap_or}
use Rattle.linker_utils.specs.LoongArchRewrites.{adds_low12, rd_of, rj_of}
use Rattle.linker_laws.specs.Machine.{Memory, extended, loaded, stored, word_of, wrapped}

-- ---- the state

pub record Floats : Type 0 where
  -- the vector registers of 256 bits by their numbers: their low 64 bits are the floating-point
  -- registers, and their low 128 bits the registers of `vld` and `vst`
  pub numbers : ℕ → ℕ
  -- What a register with a number has after a load of n bytes. "FLD.{S/D}" and "VLD" say
  -- nothing of the bits above.
  pub widened : ℕ → ℕ → ℕ → ℕ

abbrev pub with_float : ℕ → ℕ → Floats → Floats
with_float r v f = record f { numbers = λ m. if m == r then v else f.numbers m }

pub record State : Type 0 where
  -- the integer registers by their numbers
  pub registers : ℕ → ℕ
  pub floats : Floats
  -- the address of the next instruction
  pub pc : ℕ
  pub memory : Memory

-- `zero` is 0 whatever is written to it.
abbrev pub read : ℕ → State → ℕ
read n s = if n == 0 then 0 else s.registers n

abbrev pub with_register : ℕ → ℕ → State → State
with_register n v s = record s { registers = λ m. if m == n then v else s.registers m }

abbrev pub write : ℕ → ℕ → State → State
write n v s = if n == 0 then s else with_register n v s

abbrev pub write_float : ℕ → ℕ → State → State
write_float r v s = record s { floats = with_float r v s.floats }

abbrev pub store : ℕ → ℕ → ℕ → State → State
store bytes number address s = record s { memory = stored bytes number address s.memory }

abbrev pub next_pc : State → ℕ
next_pc s = sum_64 s.pc 4

abbrev pub go_to : ℕ → State → State
go_to address s = record s { pc = address }

-- on to the next instruction
abbrev pub go_on : State → State
go_on s = go_to (next_pc s) s

-- ---- what an instruction does with a sum

-- What is done with the sum of the source register and the immediate. Loads and stores have a
-- number of bytes.
pub data Action : Type 0 where
  -- `addi.d`; `addi.w`, whose sum has 32 bits
  adds : Action
  adds_word : Action
  loads : ℕ → Action
  loads_signed : ℕ → Action
  stores : ℕ → Action
  -- of floating-point and vector registers
  loads_float : ℕ → Action
  stores_float : ℕ → Action
  -- `preld`, which changes no register and no memory
  preloads : Action

-- the loads and stores of the upper 10 bits 0x0a0 to 0x0b3 of a word
abbrev pub accesses : List Action
accesses =
    loads_signed 1 ∷ loads_signed 2 ∷ loads_signed 4 ∷ loads 8 ∷ stores 1 ∷ stores 2 ∷ stores 4
    ∷ stores 8 ∷ loads 1 ∷ loads 2 ∷ loads 4 ∷ preloads ∷ loads_float 4 ∷ stores_float 4
    ∷ loads_float 8 ∷ stores_float 8 ∷ loads_float 16 ∷ stores_float 16 ∷ loads_float 32
    ∷ stores_float 32 ∷ []

-- by these bits, of those that `adds_low12` names
abbrev pub action_of : ℕ → Action
action_of opcode =
    if opcode == 0x00a then adds_word else (
    if opcode == 0x00b then adds else unwrap_or (slice_get accesses (opcode - 0x0a0)) preloads)

-- what is done with a sum and register r
abbrev pub used : Action → ℕ → ℕ → State → State
used adds r sum s = write r sum s
used adds_word r sum s = write r (extended 32 (sum % 2 ^ 32)) s
used (loads n) r sum s = write r (loaded n s.memory sum) s
used (loads_signed n) r sum s = write r (extended (8 * n) (loaded n s.memory sum)) s
used (stores n) r sum s = store n (read r s) sum s
used (loads_float n) r sum s =
    write_float r (s.floats.widened n (s.floats.numbers r) (loaded n s.memory sum)) s
used (stores_float n) r sum s = store n (s.floats.numbers r) sum s
used preloads r sum s = s

-- ---- which instruction a word is

pub data Instruction : Type 0 where
  pcalau_12 : Instruction
  pcadd_2 : Instruction
  pcaddu_18 : Instruction
  lu12i_w : Instruction
  sums : Action → Instruction
  ori : Instruction
  andi : Instruction
  jirl : Instruction
  b : Instruction
  bl : Instruction
  add_d : Instruction
  other : Instruction

-- `pcalau12i`, `pcaddi`, `pcaddu18i`, `lu12i.w`; those that `adds_low12` names; `ori`, `andi`;
-- `jirl`, `b`, `bl`; `add.d`
abbrev pub decode : ℕ → Instruction
decode word =
    if word / 2 ^ 25 == 0x0d then pcalau_12 else (
    if word / 2 ^ 25 == 0x0c then pcadd_2 else (
    if word / 2 ^ 25 == 0x0f then pcaddu_18 else (
    if word / 2 ^ 25 == 0x0a then lu12i_w else (
    if adds_low12 (word / 2 ^ 22) then sums (action_of (word / 2 ^ 22)) else (
    if word / 2 ^ 22 == 0x00e then ori else (
    if word / 2 ^ 22 == 0x00d then andi else (
    if word / 2 ^ 26 == 0x13 then jirl else (
    if word / 2 ^ 26 == 0x14 then b else (
    if word / 2 ^ 26 == 0x15 then bl else (
    if word / 2 ^ 15 == 0x21 then add_d else other))))))))))

-- ---- what it does

-- "PCALAU12I": the immediate, in pages, is added to the address, and the low 12 bits are cleared.
abbrev pub page_address : ℕ → State → ℕ
page_address word s = wrapped (pcalau12i s.pc word)

-- "PCADDI": the immediate is in units of 4 bytes.
abbrev pub near_address : ℕ → State → ℕ
near_address word s = wrapped (pos s.pc +ℤ ((loongarch_form Shift5).machine word *ℤ pos 4))

-- "PCADDU18I": in units of 2^18 bytes
abbrev pub far_address : ℕ → State → ℕ
far_address word s = wrapped (pos s.pc +ℤ (signed 20 (field word 5 25) *ℤ pos (2 ^ 18)))

-- "LU12I.W": in units of 2^12, of 32 bits in two's complement
abbrev pub high_part : ℕ → ℕ
high_part word = wrapped (signed 20 (field word 5 25) *ℤ pos 4096)

-- "ADDI.{W/D}", and the address of a load or a store: the immediate is signed.
abbrev pub sum_of : ℕ → State → ℕ
sum_of word s = wrapped (pos (read (rj_of word) s) +ℤ signed 12 (field word 10 22))

-- "ORI", "ANDI": the immediate has no sign.
abbrev pub ored : ℕ → State → ℕ
ored word s = bit_or (read (rj_of word) s) (field word 10 22)

-- "JIRL": the immediate, in units of 4 bytes, is added to a register.
abbrev pub register_target : ℕ → State → ℕ
register_target word s =
    wrapped (pos (read (rj_of word) s) +ℤ (signed 16 (field word 10 26) *ℤ pos 4))

-- "B", "BL": in units of 4 bytes
abbrev pub branch_target : ℕ → State → ℕ
branch_target word s = wrapped (pos s.pc +ℤ ((loongarch_form Branch26).machine word *ℤ pos 4))

-- "ADD.D"
abbrev pub added : ℕ → State → ℕ
added word s = sum_64 (read (rj_of word) s) (read (field word 10 15) s)

-- The state after an instruction. "JIRL" reads its register before it writes the link.
abbrev pub execute : Instruction → ℕ → State → Option State
execute pcalau_12 word s = Some (go_on (write (rd_of word) (page_address word s) s))
execute pcadd_2 word s = Some (go_on (write (rd_of word) (near_address word s) s))
execute pcaddu_18 word s = Some (go_on (write (rd_of word) (far_address word s) s))
execute lu12i_w word s = Some (go_on (write (rd_of word) (high_part word) s))
execute (sums action) word s = Some (go_on (used action (rd_of word) (sum_of word s) s))
execute ori word s = Some (go_on (write (rd_of word) (ored word s) s))
execute andi word s =
    Some (go_on (write (rd_of word) (bit_and (read (rj_of word) s) (field word 10 22)) s))
execute jirl word s = Some (go_to (register_target word s) (write (rd_of word) (next_pc s) s))
execute b word s = Some (go_to (branch_target word s) s)
execute bl word s = Some (go_to (branch_target word s) (write 1 (next_pc s) s))
execute add_d word s = Some (go_on (write (rd_of word) (added word s) s))
execute other word s = None

abbrev pub step : ℕ → State → Option State
step word s = execute (decode word) word s

-- ---- sequences

-- what a run is after its first instruction, if that goes on to the next
abbrev pub continue : ℕ → (State → Option State) → Option State → Option State
continue next rest None = None
continue next rest (Some s) = if s.pc == next then rest s else None

-- Words that stand one after the other from the state's address up are executed, each after the one
-- before it, and then the last, which may go anywhere.
abbrev pub run : List ℕ → State → Option State
run [] s = Some s
run (word ∷ []) s = step word s
run (word ∷ words) s = continue (next_pc s) (run words) (step word s)

-- ---- states that are alike

-- The states differ in no more than their addresses and some registers.
pub record AreAlikeBut (differing : ℕ → Bool) (s t : State) : Type 0 where
  pub registers : (n : ℕ) → differing n ≡ false → read n s ≡ read n t
  pub floats : s.floats ≡ t.floats
  pub memory : s.memory ≡ t.memory

-- The old code runs from one state and the new code from another, and P holds of the ends.
abbrev pub EndSo : List ℕ → State → List ℕ → State → (State → State → Type 0) → Type 0
EndSo old s new t P = IsSomeAnd (run old s) (λ u. IsSomeAnd (run new t) (λ v. P u v))

abbrev pub no_register : ℕ → Bool
no_register n = false

-- the words of two instructions
abbrev pub pair : List ℕ → List ℕ → List ℕ
pair first second = word_of first ∷ word_of second ∷ []

-- A register has its own number in each.
pub record HaveMade (n number new_number at new_at : ℕ) (s t : State) : Type 0 where
  pub alike : AreAlikeBut (λ m. m == n) s t
  pub made : read n s ≡ number
  pub new_made : read n t ≡ new_number
  pub next : s.pc ≡ at
  pub new_next : t.pc ≡ new_at

-- Each state is at the target of its layout. They are alike but for the register of the `pcaddu18i`
-- and the link register, which has the address after the call.
pub record HaveCalled (link base back new_back target new_target : ℕ) (s t : State) : Type 0 where
  pub alike : AreAlikeBut (λ m. m == link || m == base) s t
  pub links : link ≢ 0 → read link s ≡ back
  pub new_links : link ≢ 0 → read link t ≡ new_back
  pub at_target : s.pc ≡ target
  pub at_new_target : t.pc ≡ new_target
