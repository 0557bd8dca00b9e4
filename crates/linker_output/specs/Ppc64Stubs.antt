-- PowerPC64: stubs go to their targets (Power ISA, version 3.1, book I, "Branch Facility" and "Move
-- To/From System Register Instructions").
use Rattle.std.specs.Prelude.{◌≡◌, ◌==◌, ◌&&◌, ◌||◌, ◌+◌, ◌-◌, ◌*◌, ◌%◌, ◌^◌, ◌<◌, ℕ, List}
use Rattle.std.specs.Prelude.{false, Bool, Option, Some, None, IsSomeAnd, if◌then◌else◌, drop, pos}
use Rattle.std.specs.Prelude.{take}
use Rattle.linker_output.specs.Imports.{Formats, Ppc64, State, base, go_on, go_to, loaded, moved}
use Rattle.linker_output.specs.Imports.{next_pc, opcode_of, rt_of, step, step_prefixed, store}
use Rattle.linker_output.specs.Imports.{sum_64, word_of, write}
use Rattle.linker_laws.specs.Ppc64Groups.{prefixed_of}
use Rattle.linker_output.specs.LazyRuns.{words, continue_by, run_by}
use Rattle.linker_output.specs.Ppc64Output.{ppc64_output}
use Rattle.linker_output.specs.Stubs.{IsStub, StubCode}

-- ---- instructions of the link and the count register

-- the state of the machine, with the count register
pub record Counted : Type 0 where
  pub state : State
  pub count : ℕ

abbrev pub with_state : State → Counted → Counted
with_state s c = record c { state = s }

-- "Move From Special Purpose Register" and "Move To Special Purpose Register": `mflr`, `mtlr`,
-- `mtctr`
abbrev pub is_mflr : ℕ → Bool
is_mflr word = word == 0x7c0802a6 + rt_of word * 2 ^ 21

abbrev pub is_mtlr : ℕ → Bool
is_mtlr word = word == 0x7c0803a6 + rt_of word * 2 ^ 21

abbrev pub is_mtctr : ℕ → Bool
is_mtctr word = word == 0x7c0903a6 + rt_of word * 2 ^ 21

abbrev pub moved_from_link : ℕ → State → State
moved_from_link r s = go_on (write r s.link s)

abbrev pub moved_to_link : ℕ → State → State
moved_to_link r s = go_on (record s { link = s.registers r })

-- "Branch Conditional" by `bcl 20, 31, .+4`, to the next instruction
abbrev pub linked : State → State
linked s = go_on (record s { link = next_pc s })

-- "Branch Conditional to Count Register", always
abbrev pub at_count : Counted → Counted
at_count c = with_state (go_to (c.count - c.count % 4) c.state) c

abbrev pub lifted : Counted → Option State → Option Counted
lifted c None = None
lifted c (Some s) = Some (with_state s c)

abbrev pub stepped : Formats → ℕ → ℕ → Counted → Option Counted
stepped f opcode word c =
    if opcode == 31 && is_mflr word then Some (with_state (moved_from_link (rt_of word) c.state) c)
    else (if opcode == 31 && is_mtlr word
    then Some (with_state (moved_to_link (rt_of word) c.state) c)
    else (if opcode == 31 && is_mtctr word
    then Some (record { state = go_on c.state; count = c.state.registers (rt_of word) })
    else (if opcode == 16 && word == 0x429f0005 then Some (with_state (linked c.state) c)
    else (if opcode == 19 && word == 0x4e800420 then Some (at_count c)
    else lifted c (step f word c.state)))))

abbrev pub step_counted : Formats → ℕ → Counted → Option Counted
step_counted f word c = stepped f (opcode_of word) word c

-- what instructions make of the state, each executed after the one before it
abbrev pub run : Formats → List ℕ → Counted → Option Counted
run f code c = run_by (λ c. c.state.pc) (step_counted f) code c

-- ---- the laws

-- the word at an offset of code
abbrev pub at : ℕ → List ℕ → ℕ
at offset code = word_of (drop offset code)

-- It goes to the target, which r12 has, and changes only r0, r12 and the count register.
pub record GoesTo (target : ℕ) (c d : Counted) : Type 0 where
  pub pc : d.state.pc ≡ target
  pub r12 : d.state.registers 12 ≡ target
  pub registers : (n : ℕ) → (n == 0 || n == 12) ≡ false
      → d.state.registers n ≡ c.state.registers n
  pub floats : d.state.floats ≡ c.state.floats
  pub link : d.state.link ≡ c.state.link
  pub memory : d.state.memory ≡ c.state.memory

-- The word has the address of a function, a multiple of 4.
abbrev pub Loads : Type 0
Loads =
    (place word target : ℕ) → place < 2 ^ 64 → word < 2 ^ 64 → target < 2 ^ 64 → target % 4 ≡ 0
    → (code : List ℕ) → IsStub Ppc64 ppc64_output.load_stub place word code
    → (f : Formats) (c : Counted) → c.state.pc ≡ sum_64 place 4
    → loaded 8 c.state.memory word ≡ target
    → IsSomeAnd (run f (words 8 (drop 4 code)) c) (GoesTo target c)

abbrev pub Jumps : Type 0
Jumps =
    (place target : ℕ) → place < 2 ^ 64 → target < 2 ^ 64 → target % 4 ≡ 0
    → (code : List ℕ)
    → IsSomeAnd ppc64_output.jump_stub (λ stub. IsStub Ppc64 stub place target code)
    → (f : Formats) (c : Counted) → c.state.pc ≡ sum_64 place 4
    → IsSomeAnd (run f (words 8 (drop 4 code)) c) (GoesTo target c)

-- The first instruction, where calls enter whose `nop` became `ld 2,24(1)`, stores the TOC pointer
-- there and goes on to the entry.
abbrev pub StoresToc : Option StubCode → Type 0
StoresToc stub =
    (place target : ℕ) (code : List ℕ) → IsSomeAnd stub (λ s. IsStub Ppc64 s place target code)
    → (f : Formats) (s : State)
    → step f (at 0 code) s ≡ Some (go_on (store 8 (s.registers 2) (moved (base 1 s) (pos 24)) s))

abbrev pub FirstStoresToc : Type 0
FirstStoresToc = StoresToc (Some ppc64_output.load_stub) × StoresToc ppc64_output.toc_load_stub

-- ---- stubs by the TOC pointer, which r2 has

-- the word has the address of a function, and a call enters at an offset
abbrev pub GoesByToc : Option StubCode → ℕ → Type 0
GoesByToc stub entry =
    (toc word target : ℕ) → toc < 2 ^ 64 → word < 2 ^ 64 → target < 2 ^ 64 → target % 4 ≡ 0
    → (code : List ℕ) → IsSomeAnd stub (λ s. IsStub Ppc64 s toc word code)
    → (f : Formats) (c : Counted) → c.state.registers 2 ≡ toc
    → loaded 8 c.state.memory word ≡ target
    → IsSomeAnd (run f (words 4 (drop entry code)) c) (GoesTo target c)

abbrev pub TocLoads : Type 0
TocLoads = GoesByToc ppc64_output.toc_load_stub 4

abbrev pub TocReaches : Type 0
TocReaches = GoesByToc ppc64_output.toc_far_stub 0

-- ---- stubs by a prefixed instruction

-- it is executed, and then the two instructions after it
abbrev pub run_prefixed : Formats → List ℕ → Counted → Option Counted
run_prefixed f code c =
    continue_by (λ c. c.state.pc) (sum_64 c.state.pc 8) (run f (words 2 (drop 8 code)))
    (lifted c (step_prefixed f (prefixed_of (take 8 code)) c.state))

abbrev pub PrefixedLoads : Type 0
PrefixedLoads =
    (place word target : ℕ) → place < 2 ^ 64 → word < 2 ^ 64 → target % 4 ≡ 0
    → (code : List ℕ)
    → IsSomeAnd ppc64_output.prefixed_load_stub (λ stub. IsStub Ppc64 stub place word code)
    → (f : Formats) (c : Counted) → c.state.pc ≡ place → loaded 8 c.state.memory word ≡ target
    → IsSomeAnd (run_prefixed f code c) (GoesTo target c)

abbrev pub PrefixedJumps : Type 0
PrefixedJumps =
    (place target : ℕ) → place < 2 ^ 64 → target < 2 ^ 64 → target % 4 ≡ 0
    → (code : List ℕ)
    → IsSomeAnd ppc64_output.prefixed_jump_stub (λ stub. IsStub Ppc64 stub place target code)
    → (f : Formats) (c : Counted) → c.state.pc ≡ place
    → IsSomeAnd (run_prefixed f code c) (GoesTo target c)
