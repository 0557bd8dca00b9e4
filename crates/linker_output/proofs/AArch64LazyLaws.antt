-- AArch64's lazy PLT.
use Rattle.linker_output.proofs.Imports.{AArch64, Bool, IsAddress, IsAdrOf, IsInstructionOf, IsSomeAnd, LazyEntry, LazyField, LazyPiece, List, Operands, RelativeAddresses, Some, Word, [], aarch64_entry, aarch64_header, aarch64_landing_entry, aarch64_landing_header, aarch64_loads, aarch64_name, aarch64_row, aarch64_wide_entry, add_after, adds_up, adrp_after, ap, arith, cast_unsigned, code_of_words, cond, cond-false, cond-true, difference_64, drop, eqb, false, field, field_of, from_le_bytes, header_places, if◌then◌else◌, ints, ldr_after, le-ltb, loads, nat_lt, negsuc, of_registers, operands_at, or_else, or_parts, padded, page_and_offset, pos, refl, stored, subst, sum_64, sum_zero, sym, take, true, w64, word_of, words, wrapped_is, ℕ, ◌*◌, ◌++◌, ◌+ℤ◌, ◌+◌, ◌-◌, ◌<◌, ◌==◌, ◌^◌, ◌||◌, ◌∙◌, ◌∷◌, ◌≡◌, ◌≤◌}
use Rattle.linker_laws.specs.AArch64Machine.{adrp_address, added, load_64, add, ldr, go_to, in_64_bits, State, loaded, go_on}
use Rattle.linker_laws.proofs.AArch64Steps.{step_add, set}
use Rattle.linker_elf.specs.AArch64.{aarch64_form}
use Rattle.linker_elf.specs.declared.aarch64.forms.AArch64Instruction.TheVariants.{LdSt, Add}
use Rattle.linker_elf.specs.declared.aarch64.relocations.AArch64Relocation.TheVariants as r
use Rattle.linker_laws.specs.AArch64Machine as machine
use Rattle.linker_output.proofs.LazyRuns.{run_more, one_word, are_addresses_at}
use Rattle.linker_output.proofs.StubWords.{applies, no_addend}
use Rattle.linker_output.specs.AArch64LazyPlt.{step, further, run, pair_stored, pair_address, GoesTo, Asks, IsOffStack}
use Rattle.linker_output.specs.AArch64LazyPlt as laws
use Rattle.linker_output.specs.LazyPlt.{IsCode}
use Rattle.linker_output.specs.LazyPlts as plts

-- ---- `adrp x16`, `ldr x17, [x16]`, `add x16, x16`, `br x17`

of_machine : (x : ℕ) (s t : State) → machine.step x s ≡ Some t → step x s ≡ Some t
of_machine x s t is = ap (λ v. or_else v (further x s)) is

kept : (b c : Bool) (u v w m : ℕ) → (b || c) ≡ false → cond b w (cond c v (cond b u m)) ≡ m
kept true c u v w m e = cc
kept false true u v w m e = cc
kept false false u v w m e = refl

module _ (o : Operands) (s : State) (x y z target : ℕ) (first : IsAdrOf 1 16 x) (second : IsInstructionOf ldr 17 16 y) (third : IsInstructionOf add 16 16 z)
    (at : s.pc ≡ o.place) (loads_from : IsAddress (page_and_offset LdSt 8 o x y) target)
    (adds_to : IsAddress (page_and_offset Add 1 o x z) target) where
  one : State
  one = set 16 (adrp_address x s) s

  two : State
  two = set 17 (loaded y one) one

  three : State
  three = set 16 (added z two) two

  pub four : State
  four = go_to (three.registers 17) three

  pub runs : run (x ∷ y ∷ z ∷ 0xd61f0220 ∷ []) s ≡ Some four
  unfolding one two three four
  runs =
      let l = loads o 16 17 x y target s first second (omega arith) (omega arith) at loads_from in
      run_more (λ s. s.pc) step x y (z ∷ 0xd61f0220 ∷ []) s one (Some four) (of_machine x s one l.first) refl
      (run_more (λ s. s.pc) step y z (0xd61f0220 ∷ []) one two (Some four) (of_machine y one two l.second) refl
      (run_more (λ s. s.pc) step z 0xd61f0220 [] two three (Some four) (of_machine z two three (step_add z 16 two third.decodes third.rd_is)) refl refl))

  pub x17_is : four.registers 17 ≡ load_64 s.memory target
  unfolding one two three four
  x17_is = (loads o 16 17 x y target s first second (omega arith) (omega arith) at loads_from).value_is

  pub x16_is : four.registers 16 ≡ target
  unfolding one two three four
  x16_is =
      ap (λ n. in_64_bits (pos (two.registers n) +ℤ (aarch64_form Add).machine z)) third.rn_is
      ∙ adds_up o x z target s at adds_to

  pub others_are : (n : ℕ) → (n == 16 || n == 17) ≡ false → four.registers n ≡ s.registers n
  unfolding one two three four
  others_are n e = kept (eqb n 16) (eqb n 17) (adrp_address x s) (loaded y one) (added z two) (s.registers n) e

-- ---- the pieces, and `br x17`

-- the word at the target is loaded and gone to
record Ends (target : ℕ) (memory registers : ℕ → ℕ) (pointer : ℕ) (t : State) : Type 0 where
  pub pc : t.pc ≡ load_64 memory target
  pub x16 : t.registers 16 ≡ target
  pub x17 : t.registers 17 ≡ load_64 memory target
  pub others : (n : ℕ) → (n == 16 || n == 17) ≡ false → t.registers n ≡ registers n
  pub in_memory : t.memory ≡ memory
  pub thread : t.thread_pointer ≡ pointer

abbrev field_at : ℕ → ℕ → LazyField
field_at origin addend =
    record {
      field = field_of 0 (aarch64_name r.R_AARCH64_ADR_PREL_PG_HI21);
      target = Word;
      origin = origin;
      addend = pos addend;
    }

abbrev reached : LazyEntry → ℕ → ℕ
reached places addend = sum_64 places.word (cast_unsigned w64 (pos addend))

-- a piece of code that begins with `br x17`
abbrev Branches : List LazyPiece → LazyEntry → Type 0
Branches pieces places = (rest : List ℕ) → IsCode AArch64 pieces places rest → words 1 rest ≡ 0xd61f0220 ∷ []

goes : RelativeAddresses → (places : LazyEntry) (origin addend : ℕ) (others : List LazyPiece) → places.word < 2 ^ 64
    → Branches others places → (code : List ℕ) → IsCode AArch64 (aarch64_loads origin addend others) places code
    → (s : State) → s.pc ≡ sum_64 places.address origin
    → (t : State) × (run (words 4 code) s ≡ Some t) × Ends (reached places addend) s.memory s.registers s.thread_pointer t
unfolding one two three four
goes relative places origin addend others below last code is s at =
    let o = operands_at (field_at origin addend) places in
    let p2 = is.3 in
    let p3 = p2.3 in
    let adrp_x16 = padded (code_of_words (0x90000010 ∷ [])) in
    let ldr_x17 = padded (code_of_words (0xf9400211 ∷ [])) in
    let add_x16 = padded (code_of_words (0x91000210 ∷ [])) in
    let a = applies aarch64_name aarch64_row r.R_AARCH64_ADR_PREL_PG_HI21 (field_of 0 (aarch64_name r.R_AARCH64_ADR_PREL_PG_HI21)) o adrp_x16 is.0 tt refl is.2.1 in
    let b = applies aarch64_name aarch64_row r.R_AARCH64_LDST64_ABS_LO12_NC (field_of 0 (aarch64_name r.R_AARCH64_LDST64_ABS_LO12_NC)) o ldr_x17 p2.0 tt refl p2.2.1 in
    let c = applies aarch64_name aarch64_row r.R_AARCH64_ADD_ABS_LO12_NC (field_of 0 (aarch64_name r.R_AARCH64_ADD_ABS_LO12_NC)) o add_x16 p3.0 tt refl p3.2.1 in
    let x = word_of is.0 in
    let y = word_of p2.0 in
    let z = word_of p3.0 in
    let addresses = are_addresses_at (field_at origin addend) places below in
    let first : IsAdrOf 1 16 x = adrp_after _ _ adrp_x16 is.0 a.applied.written refl in
    let second : IsInstructionOf ldr 17 16 y = of_registers refl refl (ldr_after _ _ ldr_x17 p2.0 b.applied.written refl) in
    let third : IsInstructionOf add 16 16 z = of_registers refl refl (add_after _ _ add_x16 p3.0 c.applied.written refl) in
    let to = reached places addend in
    let l : IsAddress (page_and_offset LdSt 8 o x y) to = relative.0.4 o addresses o.place adrp_x16 is.0 a.applied tt o.place ldr_x17 p2.0 b.applied tt in
    let m : IsAddress (page_and_offset Add 1 o x z) to = relative.0.0 o addresses o.place adrp_x16 is.0 a.applied tt o.place add_x16 p3.0 c.applied tt in
    let all : words 4 code ≡ x ∷ y ∷ z ∷ 0xd61f0220 ∷ [] =
    one_word is.0 is.1 code is.2.0 3 x (y ∷ z ∷ 0xd61f0220 ∷ []) is.4 refl
    (one_word p2.0 p2.1 is.1 p2.2.0 2 y (z ∷ 0xd61f0220 ∷ []) p2.4 refl
    (one_word p3.0 p3.1 p2.1 p3.2.0 1 z (0xd61f0220 ∷ []) p3.4 refl (last p3.1 p3.3))) in (
      four o s x y z to first second third at l m,
      ap (λ ws. run ws s) all ∙ runs o s x y z to first second third at l m,
      record {
        pc = x17_is o s x y z to first second third at l m;
        x16 = x16_is o s x y z to first second third at l m;
        x17 = x17_is o s x y z to first second third at l m;
        others = others_are o s x y z to first second third at l m;
        in_memory = refl;
        thread = refl;
      },
    )

-- ---- entries

abbrev EntersAt : ℕ → List LazyPiece → Type 0
EntersAt count pieces =
    (entry : LazyEntry) → entry.address < 2 ^ 64 → entry.word < 2 ^ 64
    → (code : List ℕ) → IsCode AArch64 pieces entry code → (s : State) → s.pc ≡ entry.address
    → (t : State) × (run (words count code) s ≡ Some t) × GoesTo entry (load_64 s.memory entry.word) s t

to_word : (entry : LazyEntry) → entry.word < 2 ^ 64 → (s t : State)
    → Ends (reached entry 0) s.memory s.registers s.thread_pointer t → GoesTo entry (load_64 s.memory entry.word) s t
to_word entry below s t e =
    let same = no_addend entry.word below in
    record {
      pc = e.pc ∙ ap (load_64 s.memory) same;
      x16 = e.x16 ∙ same;
      x17 = e.x17 ∙ ap (load_64 s.memory) same;
      registers = e.others;
      memory = e.in_memory;
      thread_pointer = e.thread;
    }

-- the pieces alone, and after `bti c`
loads_first : RelativeAddresses → (others : List LazyPiece) → ((entry : LazyEntry) → Branches others entry)
    → EntersAt 4 (aarch64_loads 0 0 others)
loads_first relative others last entry inside below code is s at =
    let e = goes relative entry 0 0 others below (last entry) code is s (at ∙ sym (sum_zero entry.address inside)) in
    (e.0, e.1, to_word entry below s e.0 e.2)

loads_second : RelativeAddresses → (others : List LazyPiece) → ((entry : LazyEntry) → Branches others entry)
    → EntersAt 5 (plts.one 0xd503245f ∷ aarch64_loads 4 0 others)
loads_second relative others last entry inside below code is s at =
    let e = goes relative entry 4 0 others below (last entry) is.1 is.3 (go_on s) (ap (λ p. sum_64 p 4) at) in
    let all : words 5 code ≡ 0xd503245f ∷ words 4 is.1 =
    ap (words 5) (is.4 ∙ ap (λ p. take 4 p ++ is.1) is.2.1) in (
      e.0,
      ap (λ ws. run ws s) all
          ∙ run_more (λ s. s.pc) step 0xd503245f (word_of is.1) (words 3 (drop 4 is.1)) s (go_on s) (Some e.0) refl refl e.1,
      to_word entry below s e.0 e.2,
    )

-- `br x17` in 4 bytes, and with `nop` in 8
branches : (entry : LazyEntry) → Branches (plts.one 0xd61f0220 ∷ []) entry
branches entry rest p = ap (words 1) (p.4 ∙ ap (λ q. take 4 q ++ p.1) p.2.1)

branches_wide : (others : List LazyPiece) (entry : LazyEntry) → Branches (plts.two 0xd61f0220 0xd503201f ∷ others) entry
branches_wide others entry rest p = ap (words 1) (p.4 ∙ ap (λ q. take 8 q ++ p.1) p.2.1)

abbrev one_nop : List LazyPiece
one_nop = plts.one 0xd503201f ∷ []

abbrev of_all : RelativeAddresses → EntersAt 4 aarch64_entry × EntersAt 4 aarch64_wide_entry × EntersAt 5 aarch64_landing_entry
of_all relative = (
  loads_first relative (plts.one 0xd61f0220 ∷ []) branches,
  loads_first relative (plts.two 0xd61f0220 0xd503201f ∷ one_nop) (branches_wide one_nop),
  loads_second relative (plts.two 0xd61f0220 0xd503201f ∷ []) (branches_wide []),
)

so : (count : ℕ) (pieces : List LazyPiece) → EntersAt count pieces → laws.EntersBy count pieces
so count pieces enters entry inside below code is s at =
    let e = enters entry inside below code is s at in
    subst (λ end. IsSomeAnd end (GoesTo entry (load_64 s.memory entry.word) s)) (sym e.1) e.2

pub enters : RelativeAddresses → laws.Enters
enters relative = so 4 aarch64_entry (of_all relative).0

pub landing_enters : RelativeAddresses → laws.LandingEnters
landing_enters relative = (so 4 aarch64_wide_entry (of_all relative).1, so 5 aarch64_landing_entry (of_all relative).2)

-- ---- bytes on the stack

stored_at : (number address : ℕ) (memory : ℕ → ℕ) (i at : ℕ) → difference_64 at address ≡ i → nat_lt i 8 ≡ true
    → stored 8 number address memory at ≡ field number (8 * i) (8 * i + 8)
stored_at number address memory i at is small =
    ap (λ k. if nat_lt k 8 then field number (8 * k) (8 * k + 8) else memory at) is
    ∙ cond-true (nat_lt i 8) (field number (8 * i) (8 * i + 8)) (memory at) small

not_stored : (number address : ℕ) (memory : ℕ → ℕ) (at : ℕ) → nat_lt (difference_64 at address) 8 ≡ false
    → stored 8 number address memory at ≡ memory at
not_stored number address memory at is = cond-false (nat_lt (difference_64 at address) 8) _ (memory at) is

whole : (n : ℕ) → n < 2 ^ 64
    → from_le_bytes w64
    (field n 0 8 ∷ field n 8 16 ∷ field n 16 24 ∷ field n 24 32 ∷ field n 32 40 ∷ field n 40 48 ∷ field n 48 56 ∷ field n 56 64 ∷ [])
    ≡ n
whole n small = omega arith

loads_stored : (number address : ℕ) (memory : ℕ → ℕ) → number < 2 ^ 64 → address < 2 ^ 64
    → load_64 (stored 8 number address memory) address ≡ number
loads_stored number address memory small inside =
    let m = stored 8 number address memory in
    let b0 : m address ≡ field number 0 8 = stored_at number address memory 0 address (omega arith) refl in
    let b1 : m (sum_64 address 1) ≡ field number 8 16 = stored_at number address memory 1 (sum_64 address 1) (omega arith) refl in
    let b2 : m (sum_64 address 2) ≡ field number 16 24 = stored_at number address memory 2 (sum_64 address 2) (omega arith) refl in
    let b3 : m (sum_64 address 3) ≡ field number 24 32 = stored_at number address memory 3 (sum_64 address 3) (omega arith) refl in
    let b4 : m (sum_64 address 4) ≡ field number 32 40 = stored_at number address memory 4 (sum_64 address 4) (omega arith) refl in
    let b5 : m (sum_64 address 5) ≡ field number 40 48 = stored_at number address memory 5 (sum_64 address 5) (omega arith) refl in
    let b6 : m (sum_64 address 6) ≡ field number 48 56 = stored_at number address memory 6 (sum_64 address 6) (omega arith) refl in
    let b7 : m (sum_64 address 7) ≡ field number 56 64 = stored_at number address memory 7 (sum_64 address 7) (omega arith) refl in
    let all : m address ∷ m (sum_64 address 1) ∷ m (sum_64 address 2) ∷ m (sum_64 address 3) ∷ m (sum_64 address 4) ∷ m (sum_64 address 5) ∷ m (sum_64 address 6) ∷ m (sum_64 address 7) ∷ []
    ≡ field number 0 8 ∷ field number 8 16 ∷ field number 16 24 ∷ field number 24 32 ∷ field number 32 40 ∷ field number 40 48 ∷ field number 48 56 ∷ field number 56 64 ∷ [] = cc in
    ap (from_le_bytes w64) all ∙ whole number small

-- a word whose bytes are the same
same_loaded : (m n : ℕ → ℕ) (word : ℕ) → word < 2 ^ 64 → ((i : ℕ) → i < 8 → m (sum_64 word i) ≡ n (sum_64 word i))
    → load_64 m word ≡ load_64 n word
same_loaded m n word inside same =
    let zero : sum_64 word 0 ≡ word = omega (arith, inside) in
    let b0 : m word ≡ n word = subst (λ a. m a ≡ n a) zero (same 0 (omega arith)) in
    let b1 = same 1 (omega arith) in
    let b2 = same 2 (omega arith) in
    let b3 = same 3 (omega arith) in
    let b4 = same 4 (omega arith) in
    let b5 = same 5 (omega arith) in
    let b6 = same 6 (omega arith) in
    let b7 = same 7 (omega arith) in
    let all : m word ∷ m (sum_64 word 1) ∷ m (sum_64 word 2) ∷ m (sum_64 word 3) ∷ m (sum_64 word 4) ∷ m (sum_64 word 5) ∷ m (sum_64 word 6) ∷ m (sum_64 word 7) ∷ []
    ≡ n word ∷ n (sum_64 word 1) ∷ n (sum_64 word 2) ∷ n (sum_64 word 3) ∷ n (sum_64 word 4) ∷ n (sum_64 word 5) ∷ n (sum_64 word 6) ∷ n (sum_64 word 7) ∷ [] = cc in
    ap (from_le_bytes w64) all

-- two numbers, one after the other
module _ (first second bottom : ℕ) (memory : ℕ → ℕ) (inside : bottom < 2 ^ 64) where
  abbrev inner : ℕ → ℕ
  inner = stored 8 first bottom memory

  abbrev pub both : ℕ → ℕ
  both = stored 8 second (sum_64 bottom 8) inner

  pub off : (a : ℕ) → 16 ≤ difference_64 a bottom → both a ≡ memory a
  off a most =
      not_stored second (sum_64 bottom 8) inner a (le-ltb _ 8 (omega (arith, most, inside)))
      ∙ not_stored first bottom memory a (le-ltb _ 8 (omega (arith, most)))

  pub below : first < 2 ^ 64 → load_64 both bottom ≡ first
  below small =
      same_loaded both inner bottom inside
      (λ i less. not_stored second (sum_64 bottom 8) inner (sum_64 bottom i) (le-ltb _ 8 (omega (arith, inside, less))))
      ∙ loads_stored first bottom memory small inside

  pub above : second < 2 ^ 64 → load_64 both (sum_64 bottom 8) ≡ second
  above small = loads_stored second (sum_64 bottom 8) inner small (omega arith)

  pub apart : (word : ℕ) → word < 2 ^ 64 → ((i : ℕ) → i < 8 → 16 ≤ difference_64 (sum_64 word i) bottom)
      → load_64 both word ≡ load_64 memory word
  apart word small not_there = same_loaded both memory word small (λ i less. off (sum_64 word i) (not_there i less))

-- ---- the header

below_stack : (top : ℕ) → in_64_bits (pos top +ℤ negsuc 15) ≡ difference_64 top 16
below_stack top = wrapped_is (pos top +ℤ negsuc 15) 1 (top + (2 ^ 64 - 16)) (omega (arith, ints))

not_base : (n v m : ℕ) → (n == 31) ≡ false → cond (eqb n 31) v m ≡ m
not_base n v m e = cond-false (eqb n 31) v m e

-- a state in which the header is entered, in what isn't its address
record Comes (entry : LazyEntry) (s t : State) : Type 0 where
  pub x16 : t.registers 16 ≡ entry.word
  pub others : (n : ℕ) → (n == 16 || n == 17) ≡ false → t.registers n ≡ s.registers n
  pub in_memory : t.memory ≡ s.memory
  pub thread : t.thread_pointer ≡ s.thread_pointer

asks : RelativeAddresses → (entry : LazyEntry) (first origin : ℕ) (others : List LazyPiece)
    → entry.word < 2 ^ 64 → first < 2 ^ 64 → Branches others (header_places entry.header first)
    → (code : List ℕ) → IsCode AArch64 (aarch64_loads origin 16 others) (header_places entry.header first) code
    → (s t : State) → Comes entry s t → sum_64 t.pc 4 ≡ sum_64 entry.header origin
    → s.registers 30 < 2 ^ 64 → IsOffStack (sum_64 first 16) s
    → (end : State) × (run (0xa9bf7bf0 ∷ words 4 code) t ≡ Some end) × Asks entry (sum_64 first 16) s end
asks relative entry first origin others below_word bounded last code is s t gone at small not_there =
    let h : State = go_on (pair_stored 0xa9bf7bf0 t) in
    let e = goes relative (header_places entry.header first) origin 16 others bounded last code is h at in
    let end = e.0 in
    let g = e.2 in
    let third = sum_64 first 16 in
    let bottom = difference_64 (t.registers 31) 16 in
    let address = pair_address 0xa9bf7bf0 t in
    let under : address ≡ bottom = below_stack (t.registers 31) in
    let same_bottom : bottom ≡ difference_64 (s.registers 31) 16 = ap (λ n. difference_64 n 16) (gone.others 31 refl) in
    let stored_both : h.memory ≡ both (t.registers 16) (t.registers 30) bottom t.memory (omega arith) =
    ap (λ b. stored 8 (t.registers 30) (sum_64 b 8) (stored 8 (t.registers 16) b t.memory)) under in
    let in_memory : end.memory ≡ both (t.registers 16) (t.registers 30) bottom t.memory (omega arith) =
    g.in_memory ∙ stored_both in
    let stack : end.registers 31 ≡ bottom = g.others 31 refl ∙ under in (
      end,
      run_more (λ s. s.pc) step 0xa9bf7bf0 (word_of code) (words 3 (drop 4 code)) t h (Some end) refl refl e.1,
      record {
        pc =
            g.pc ∙ ap (λ m. load_64 m third) stored_both
            ∙ apart (t.registers 16) (t.registers 30) bottom t.memory (omega arith) third (omega arith)
            (λ i less. subst (λ b. 16 ≤ difference_64 (sum_64 third i) b) (sym same_bottom) (not_there i less))
            ∙ ap (λ m. load_64 m third) gone.in_memory;
        x16 = g.x16;
        stack = stack ∙ same_bottom;
        registers = λ n e.
            g.others n (or_parts (n == 16 || n == 17) (n == 31) e).0
            ∙ not_base n address (t.registers n) (or_parts (n == 16 || n == 17) (n == 31) e).1
            ∙ gone.others n (or_parts (n == 16 || n == 17) (n == 31) e).0;
        word =
            ap (load_64 end.memory) stack ∙ ap (λ m. load_64 m bottom) in_memory
            ∙ below (t.registers 16) (t.registers 30) bottom t.memory (omega arith) (subst (λ n. n < 2 ^ 64) (sym gone.x16) below_word)
            ∙ gone.x16;
        link =
            ap (λ a. load_64 end.memory (sum_64 a 8)) stack ∙ ap (λ m. load_64 m (sum_64 bottom 8)) in_memory
            ∙ above (t.registers 16) (t.registers 30) bottom t.memory (omega arith) (subst (λ n. n < 2 ^ 64) (sym (gone.others 30 refl)) small)
            ∙ gone.others 30 refl;
        memory = λ a most.
            ap (λ m. m a) in_memory
            ∙ off (t.registers 16) (t.registers 30) bottom t.memory (omega arith) a (subst (λ b. 16 ≤ difference_64 a b) stack most)
            ∙ ap (λ m. m a) gone.in_memory;
        thread_pointer = g.thread ∙ gone.thread;
      },
    )

abbrev AsksAt : ℕ → List LazyPiece → Type 0
AsksAt count pieces =
    (entry : LazyEntry) (first : ℕ) → entry.word < 2 ^ 64 → first < 2 ^ 64
    → (code : List ℕ) → IsCode AArch64 pieces (header_places entry.header first) code
    → (s t : State) → Comes entry s t → t.pc ≡ entry.header → s.registers 30 < 2 ^ 64 → IsOffStack (sum_64 first 16) s
    → (end : State) × (run (words count code) t ≡ Some end) × Asks entry (sum_64 first 16) s end

header_asks : RelativeAddresses → AsksAt 5 aarch64_header
header_asks relative entry first below_word bounded code is s t gone at small not_there =
    let nops = plts.two 0xd503201f 0xd503201f ∷ [] in
    let e =
    asks relative entry first 4 (plts.two 0xd61f0220 0xd503201f ∷ nops) below_word bounded
    (branches_wide nops (header_places entry.header first)) is.1 is.3 s t gone (ap (λ p. sum_64 p 4) at) small not_there in
    let all : words 5 code ≡ 0xa9bf7bf0 ∷ words 4 is.1 =
    ap (words 5) (is.4 ∙ ap (λ p. take 4 p ++ is.1) is.2.1) in
    (e.0, ap (λ ws. run ws t) all ∙ e.1, e.2)

landing_asks : RelativeAddresses → AsksAt 6 aarch64_landing_header
landing_asks relative entry first below_word bounded code is s t gone at small not_there =
    let on : sum_64 (sum_64 entry.header 4) 4 ≡ sum_64 entry.header 8 = omega arith in
    let came : Comes entry s (go_on t) =
    record { x16 = gone.x16; others = gone.others; in_memory = gone.in_memory; thread = gone.thread } in
    let e =
    asks relative entry first 8 (plts.two 0xd61f0220 0xd503201f ∷ one_nop) below_word bounded
    (branches_wide one_nop (header_places entry.header first)) is.1 is.3 s (go_on t) came
    (ap (λ p. sum_64 (sum_64 p 4) 4) at ∙ on) small not_there in
    let all : words 6 code ≡ 0xd503245f ∷ 0xa9bf7bf0 ∷ words 4 is.1 =
    ap (words 6) (is.4 ∙ ap (λ p. take 8 p ++ is.1) is.2.1) in (
      e.0,
      ap (λ ws. run ws t) all
          ∙ run_more (λ s. s.pc) step 0xd503245f 0xa9bf7bf0 (words 4 is.1) t (go_on t) (Some e.0) refl refl e.1,
      e.2,
    )

both_resolve : (count : ℕ) (entries : List LazyPiece) → EntersAt count entries → (header_count : ℕ) (headers : List LazyPiece)
    → AsksAt header_count headers → laws.ResolvesBy count entries header_count headers
both_resolve count entries enter header_count headers ask entry first inside below_word bounded within code is header is_header s at to_header small not_there =
    let e = enter entry inside below_word code is s at in
    let here = e.2.pc ∙ to_header in
    let came : Comes entry s e.0 =
    record { x16 = e.2.x16; others = e.2.registers; in_memory = e.2.memory; thread = e.2.thread_pointer } in
    let a = ask entry first below_word bounded header is_header s e.0 came here small not_there in
    subst (λ end. IsSomeAnd end (λ t. (t.pc ≡ entry.header)
    × IsSomeAnd (run (words header_count header) t) (Asks entry (sum_64 first 16) s))) (sym e.1)
    (here, subst (λ end. IsSomeAnd end (Asks entry (sum_64 first 16) s)) (sym a.1) a.2)

pub resolves : RelativeAddresses → laws.Resolves
resolves relative = both_resolve 4 aarch64_entry (of_all relative).0 5 aarch64_header (header_asks relative)

pub landing_resolves : RelativeAddresses → laws.LandingResolves
landing_resolves relative = (
  both_resolve 4 aarch64_wide_entry (of_all relative).1 6 aarch64_landing_header (landing_asks relative),
  both_resolve 5 aarch64_landing_entry (of_all relative).2 6 aarch64_landing_header (landing_asks relative),
)
