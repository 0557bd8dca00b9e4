-- AArch64's groups that become `adr`.
use Rattle.linker_laws.proofs.Imports.{Add, AreAddresses, Code, Has, IsAdd64, IsAddress, IsIntoOwnSource, IsPair, Kinds, LdSt, List, OfPages, Operands, Program, Some, Stands, State, aarch64_form, added, and_le_r, ap, arith, bit_and, bit_at, drop, eqb-true, executed, field, following, go_to, in_64_bits, ints, link, load_64, loaded, machine, nop, page, pos, put, rd_of, refl, run, seen, step, sum_64, sym, symbol_address, word_of, write_x, ℕ, ◌%◌, ◌*ℤ◌, ◌+ℤ◌, ◌+◌, ◌/◌, ◌<◌, ◌^◌, ◌∙◌, ◌≡◌, ◌≢◌}
use Rattle.linker_laws.specs.AArch64Groups.{Leaves, IsRelocated, IsRewritten}
use Rattle.linker_elf.specs.declared.aarch64.relocations.AArch64Relocation.TheVariants as names
use Rattle.linker_laws.specs.AArch64Groups as groups
use Rattle.linker_laws.specs.AArch64Machine.{execute, go_on}
use Rattle.linker_laws.specs.AArch64Machine as aarch64_machine
use Rattle.linker_laws.specs.AArch64RelocationLaws as relocation_laws
use Rattle.linker_laws.proofs.AArch64Groups.{below_32, load_goes, nop_goes, sets, sets_at, sets_twice}
use Rattle.linker_laws.proofs.AArch64Near.{near_after, near_here, small_after}
use Rattle.linker_laws.proofs.AArch64Pages.{add_is, ldst_is, offset_reads}
use Rattle.linker_laws.proofs.AArch64Pairs.{adds_pair, adr_is, pair_made, word_is, word_made}
use Rattle.linker_laws.proofs.AArch64Steps.{address_is, set, step_add, step_adr, step_ldr}
use Rattle.linker_laws.proofs.AArch64Words.{IsAdrOf, IsMadeAdr, add_after, adr_after, adr_of_adrp, adr_of_page, adr_of_register, adrp_after, decodes_adr, ldr_after, masked_field, of_registers}
use Rattle.linker_laws.proofs.Agreement.{agree_go, group_of, unchanged, value_group}
use Rattle.linker_laws.proofs.CoveredRuns.{holds_of, run_first}
use Rattle.linker_laws.proofs.Instructions.{unbiased}
use Rattle.linker_laws.proofs.Sums.{lifted_is, once, sum_below, eight, page_parts}
use Rattle.linker_utils.specs.declared.aarch64.rewrites.RewriteKind.TheVariants as kinds

-- a word under a mask
below_mask : (x m : ℕ) → m < 2 ^ 32 → bit_and x m < 2 ^ 32
below_mask x m small = let less = and_le_r x m in omega arith

-- ---- `adr`

-- a word that was made `adr`
made_adr : (x y n : ℕ) (made : List ℕ) → word_of made ≡ y → IsMadeAdr x y → rd_of x ≡ n
    → IsAdrOf 0 n (word_of made)
made_adr x y n made word was rd =
    record {
      opcode = ap (λ w. field w 24 29) word ∙ was.opcode;
      top = ap (λ w. bit_at w 31) word ∙ was.top;
      rd_is = ap rd_of word ∙ was.rd_is ∙ rd;
    }

adr_steps : relocation_laws.Literals → (o : Operands) (t : aarch64_machine.State) (n : ℕ)
    (made adr : List ℕ) → AreAddresses o → t.pc ≡ o.place → n ≢ 31 → IsAdrOf 0 n (word_of made)
    → IsRelocated names.R_AARCH64_ADR_PREL_LO21 o made adr
    → step (word_of adr) t ≡ Some (set n (symbol_address o) t)
adr_steps literals o t n made adr small at named is a =
    let y = word_of adr in
    let after = adr_after 0 _ _ made adr a.written is.opcode is.top in
    step_adr y n t (decodes_adr y after.opcode after.top) (after.rd_is ∙ is.rd_is) named
    ∙ ap (λ v. Some (set n v t))
    (adr_is o y (symbol_address o) t at (literals.0 o small o.place made adr a tt))

-- ---- two instructions

-- `adrp xN` and `add xN, xN`
sum_goes : (others : ℕ → Program) (code : ℕ → ℕ) (o : Operands) (s : State) (adrp1 add : List ℕ)
    → s.pc ≡ o.place → IsAdrOf 1 (rd_of (word_of add)) (word_of adrp1) → Stands code o adrp1
    → IsAdd64 (word_of add) → IsIntoOwnSource (word_of add)
    → (d : Has code names.R_AARCH64_ADD_ABS_LO12_NC (following 4 o) add)
    → IsAddress (relocation_laws.page_and_offset Add 1 o (word_of adrp1) (word_of d.relocated))
    (symbol_address o)
    → run 2 (machine others code) s
    ≡ Some (put (rd_of (word_of add)) (symbol_address o) (sum_64 o.place 8) s)
sum_goes others code o s adrp1 add at first stands is own d leads =
    let n = rd_of (word_of add) in
    let a = adds_pair o n (word_of adrp1) (word_of d.relocated) (symbol_address o) (seen s) first
    (of_registers refl own.same (add_after _ _ add d.relocated d.applied.written
    (masked_field (word_of add) 0xffc00000 0x91000000 22 32 is refl))) own.not_31 at leads in
    sets_twice others code s o.place (word_of adrp1) (word_of d.relocated) n _ _ (symbol_address o) at
    (below_32 (word_of add)) stands d.stands a.first a.second a.value_is

-- `nop` and `adr xN`
second_goes : relocation_laws.Literals → (others : ℕ → Program) (code : ℕ → ℕ) (o : Operands)
    (t : State) (n word : ℕ) (made : List ℕ) → AreAddresses o → t.pc ≡ o.place → n ≢ 31
    → loaded 4 code o.place ≡ word → word ≡ nop → IsAdrOf 0 n (word_of made)
    → Has code names.R_AARCH64_ADR_PREL_LO21 (following 4 o) made
    → run 2 (machine others code) t ≡ Some (put n (symbol_address o) (sum_64 o.place 8) t)
second_goes literals others code o t n word made small at named stands is_nop is has =
    let u = go_to (sum_64 t.pc 4) t in
    let there = ap (λ a. sum_64 a 4) at in
    run_first 1 (machine others code) t u _ (nop_goes others code t o.place word at stands is_nop)
    (run_first 0 (machine others code) u (put n (symbol_address o) (sum_64 u.pc 4) u) _
    (sets others code u (word_of has.relocated) n (symbol_address o)
    (ap (loaded 4 code) there ∙ has.stands)
    (adr_steps literals (following 4 o) (seen u) n made has.relocated (small_after 4 o small) there named
    is has.applied))
    (ap (λ a. Some (put n (symbol_address o) a t)) (ap (λ a. sum_64 (sum_64 a 4) 4) at ∙ eight o.place)))

-- `adr xN` and `nop`
first_goes : relocation_laws.Literals → (others : ℕ → Program) (code : ℕ → ℕ) (o : Operands)
    (t : State) (n word : ℕ) (made : List ℕ) → AreAddresses o → t.pc ≡ o.place → n ≢ 31
    → IsAdrOf 0 n (word_of made) → Has code names.R_AARCH64_ADR_PREL_LO21 o made
    → loaded 4 code (sum_64 o.place 4) ≡ word → word ≡ nop
    → run 2 (machine others code) t ≡ Some (put n (symbol_address o) (sum_64 o.place 8) t)
first_goes literals others code o t n word made small at named is has stands is_nop =
    let u = put n (symbol_address o) (sum_64 t.pc 4) t in
    run_first 1 (machine others code) t u _
    (sets others code t (word_of has.relocated) n (symbol_address o) (ap (loaded 4 code) at ∙ has.stands)
    (adr_steps literals o (seen t) n made has.relocated small at named is has.applied))
    (run_first 0 (machine others code) u (go_to (sum_64 u.pc 4) u) _
    (nop_goes others code u (sum_64 o.place 4) word (ap (λ a. sum_64 a 4) at) stands is_nop)
    (ap (λ a. Some (put n (symbol_address o) a t)) (ap (λ a. sum_64 (sum_64 a 4) 4) at ∙ eight o.place)))

-- The second was made `adr`.
record IsSecond (n : ℕ) (made : List ℕ) : Type 0 where
  pub first : word_of made ≡ nop
  pub second : IsAdrOf 0 n (word_of (drop 4 made))

made_second : (n : ℕ) (both made : List ℕ) → IsRewritten kinds.AdrpAddToNopAdr both made
    → rd_of (word_of both) ≡ n → IsSecond n made
made_second n both made is_made rd =
    let words = pair_made (λ x. 0x10000000 + rd_of x) both made (omega arith) is_made in
    let word : word_of (drop 4 made) ≡ 0x10000000 + rd_of (word_of both) = words.second in
    let op : field (word_of (drop 4 made)) 24 29 ≡ 0x10 = omega arith in
    let top : bit_at (word_of (drop 4 made)) 31 ≡ 0 = omega arith in
    let same : rd_of (word_of (drop 4 made)) ≡ rd_of (word_of both) = omega arith in
    record {
      first = words.first;
      second = record { opcode = op; top = top; rd_is = same ∙ rd };
    }

-- by the words of the pair
nop_and_adr_by : relocation_laws.Literals → (c : Code) (o : Operands) (k : Kinds) (s : State)
    (both made adrp1 : List ℕ) → IsPair IsAdd64 o (seen s) both (drop 4 both)
    → IsRewritten kinds.AdrpAddToNopAdr both made
    → IsAdrOf 1 (rd_of (word_of (drop 4 both))) (word_of adrp1) → Stands c.old o adrp1
    → (d : Has c.old names.R_AARCH64_ADD_ABS_LO12_NC (following 4 o) (drop 4 both))
    → IsAddress (relocation_laws.page_and_offset Add 1 o (word_of adrp1) (word_of d.relocated))
    (symbol_address o)
    → Stands c.new o made → Has c.new names.R_AARCH64_ADR_PREL_LO21 (following 4 o) (drop 4 made)
    → Leaves 2 c o k s (rd_of (word_of (drop 4 both))) (symbol_address o)
nop_and_adr_by literals c o k s both made adrp1 p is_made first stands d leads new adr =
    let one = p.one_register in
    let words = made_second (rd_of (word_of (drop 4 both))) both made is_made one.register in
    value_group (link c) 1 1 k _ s _ (rd_of (word_of (drop 4 both))) (symbol_address o)
    (sum_64 o.place 8) (sum_below o.place 8)
    (sum_goes c.others c.old o s adrp1 (drop 4 both) p.at first stands p.second_is one.into_own_source d
    leads)
    (unchanged _ _)
    (λ t agree.
    second_goes literals c.others c.new o t _ (word_of made) (drop 4 made) p.small (agree.pc ∙ p.at)
    one.into_own_source.not_31 new words.first words.second adr)

pub are_nop_and_adr : relocation_laws.RelativeAddresses → relocation_laws.Literals
    → OfPages groups.NopAndAdr
are_nop_and_adr relative literals = (
  λ c o k s both made p is_made a d new adr.
      let one = p.one_register in
      nop_and_adr_by literals c o k s both made a.relocated p is_made
      (adr_of_register one.register (adrp_after _ _ both a.relocated a.applied.written one.first))
      a.stands d (relative.0.0 o p.small o.place both a.relocated a.applied tt (sum_64 o.place 4)
      (drop 4 both) d.relocated d.applied tt) new adr,
  λ c o k s both made p is_made a d new adr.
      let one = p.one_register in
      let fits = near_after o p.small a.applied.value adr.applied.value a.applied.value_is
      adr.applied.value_is adr.applied.accepted.reached.0 in
      nop_and_adr_by literals c o k s both made a.relocated p is_made
      (adr_of_register one.register (adrp_after _ _ both a.relocated a.applied.written one.first))
      a.stands d (relative.1.0 o p.small o.place both a.relocated a.applied fits (sum_64 o.place 4)
      (drop 4 both) d.relocated d.applied tt) new adr,
)

pub are_load_to_nop_and_adr : relocation_laws.EntryAddresses → relocation_laws.Literals
    → groups.LoadToNopAndAdr
are_load_to_nop_and_adr entries literals c o k s adrp ldr both made p holds same is_made adrp1 ldr1 new
    adr =
    let one = p.one_register in
    let n = rd_of (word_of ldr) in
    let words = made_second n both made is_made (ap rd_of same ∙ one.register) in
    value_group (link c) 1 1 k _ s _ n (symbol_address o) (sum_64 o.place 8) (sum_below o.place 8)
    (load_goes entries c.others c.old o s adrp ldr p holds adrp1 ldr1)
    (unchanged _ _)
    (λ t agree.
    second_goes literals c.others c.new o t n (word_of made) (drop 4 made) p.small (agree.pc ∙ p.at)
    one.into_own_source.not_31 new words.first words.second adr)

adr_and_nop_by : relocation_laws.Literals → (c : Code) (o : Operands) (k : Kinds) (s : State)
    (adrp add made after adrp1 : List ℕ) → IsPair IsAdd64 o (seen s) adrp add
    → IsRewritten kinds.AdrpToAdr adrp made → IsRewritten kinds.ReplaceWithNop add after
    → IsAdrOf 1 (rd_of (word_of add)) (word_of adrp1) → Stands c.old o adrp1
    → (d : Has c.old names.R_AARCH64_ADD_ABS_LO12_NC (following 4 o) add)
    → IsAddress (relocation_laws.page_and_offset Add 1 o (word_of adrp1) (word_of d.relocated))
    (symbol_address o)
    → Has c.new names.R_AARCH64_ADR_PREL_LO21 o made → Stands c.new (following 4 o) after
    → Leaves 2 c o k s (rd_of (word_of add)) (symbol_address o)
adr_and_nop_by literals c o k s adrp add made after adrp1 p is_made is_nop first stands d leads adr new =
    let one = p.one_register in
    let word = word_made (λ x. bit_and x 0x7fffffff) adrp made
    (below_mask (word_of adrp) 0x7fffffff (omega arith)) is_made in
    let was = adr_of_adrp (word_of adrp)
    (masked_field (word_of adrp) 0x9f000000 0x90000000 24 29 one.first refl) in
    value_group (link c) 1 1 k _ s _ (rd_of (word_of add)) (symbol_address o) (sum_64 o.place 8)
    (sum_below o.place 8)
    (sum_goes c.others c.old o s adrp1 add p.at first stands p.second_is one.into_own_source d leads)
    (unchanged _ _)
    (λ t agree.
    first_goes literals c.others c.new o t _ (word_of after) made p.small (agree.pc ∙ p.at)
    one.into_own_source.not_31 (made_adr (word_of adrp) _ _ made word was one.register) adr new
    (word_is nop after (omega arith) is_nop))

pub are_adr_and_nop : relocation_laws.RelativeAddresses → relocation_laws.Literals
    → OfPages groups.AdrAndNop
are_adr_and_nop relative literals = (
  λ c o k s adrp add made after p is_made is_nop a d adr new.
      let one = p.one_register in
      adr_and_nop_by literals c o k s adrp add made after a.relocated p is_made is_nop
      (adr_of_register one.register (adrp_after _ _ adrp a.relocated a.applied.written one.first))
      a.stands d (relative.0.0 o p.small o.place adrp a.relocated a.applied tt (sum_64 o.place 4) add
      d.relocated d.applied tt) adr new,
  λ c o k s adrp add made after p is_made is_nop a d adr new.
      let one = p.one_register in
      let fits = near_here o p.small a.applied.value adr.applied.value a.applied.value_is
      adr.applied.value_is adr.applied.accepted.reached.0 in
      adr_and_nop_by literals c o k s adrp add made after a.relocated p is_made is_nop
      (adr_of_register one.register (adrp_after _ _ adrp a.relocated a.applied.written one.first))
      a.stands d (relative.1.0 o p.small o.place adrp a.relocated a.applied fits (sum_64 o.place 4) add
      d.relocated d.applied tt) adr new,
)

-- ---- one instruction

-- the address, by its page and the rest
page_and_rest : (o : Operands) (add after : List ℕ)
    → IsRelocated names.R_AARCH64_ADD_ABS_LO12_NC o add after
    → in_64_bits (pos (page (symbol_address o)) +ℤ (aarch64_form Add).machine (word_of after))
    ≡ symbol_address o
page_and_rest o add after a =
    let g = symbol_address o in
    let t = sum_64 g 0 in
    let small : g < 2 ^ 64 = sum_below o.symbol _ in
    let l = offset_reads Add add_is _ 0 _ _ _ _ _ o add after a t (sum_below g 0) (omega arith) refl in
    let z = pos (page g) +ℤ pos (t % 2 ^ 12) in
    ap (λ k. in_64_bits (pos (page g) +ℤ k)) (sym (once ((aarch64_form Add).machine (word_of after))) ∙ l)
    ∙ address_is z _ (lifted_is z 0 (page g + t % 2 ^ 12) (omega (arith, ints)))
    ∙ ap (λ t. (page g + t % 2 ^ 12) % 2 ^ 64) (unbiased g small) ∙ page_parts g small

-- the entry's address
entry_and_rest : (o : Operands) → AreAddresses o → (ldr after : List ℕ)
    → IsRelocated names.R_AARCH64_LD64_GOT_LO12_NC o ldr after
    → in_64_bits (pos (page o.got_entry) +ℤ ((aarch64_form LdSt).machine (word_of after) *ℤ pos 8))
    ≡ o.got_entry
entry_and_rest o small ldr after a =
    let t = sum_64 (sum_64 o.got_entry 0) 0 in
    let same : t ≡ o.got_entry =
    unbiased (sum_64 o.got_entry 0) (sum_below o.got_entry 0) ∙ unbiased o.got_entry small.got_entry in
    let l = offset_reads LdSt ldst_is _ 3 _ _ _ _ _ o ldr after a t (sum_below _ 0) (omega arith) refl in
    let z = pos (page o.got_entry) +ℤ pos (t % 2 ^ 12) in
    ap (λ k. in_64_bits (pos (page o.got_entry) +ℤ k)) l
    ∙ address_is z _ (lifted_is z 0 (page o.got_entry + t % 2 ^ 12) (omega (arith, ints)))
    ∙ ap (λ t. (page o.got_entry + t % 2 ^ 12) % 2 ^ 64) same ∙ page_parts o.got_entry small.got_entry

pub are_add_to_adr : relocation_laws.Literals → groups.AddToAdr
are_add_to_adr literals c o k s add made small at is named has is_made old new =
    let d = rd_of (word_of add) in
    let x = word_of old.relocated in
    let op : field (word_of add) 22 32 ≡ 0x244 =
    masked_field (word_of add) 0xffc00000 0x91000000 22 32 is refl in
    let after = add_after _ _ add old.relocated old.applied.written op in
    let word = word_made (λ w. bit_and w 0x76ffffff) add made
    (below_mask (word_of add) 0x76ffffff (omega arith)) is_made in
    let was = adr_of_page (word_of add) (omega arith) (omega arith) (omega arith) in
    let sum : added x (seen s) ≡ symbol_address o =
    ap (λ r. in_64_bits (pos (s.registers r) +ℤ (aarch64_form Add).machine x)) after.rn_is
    ∙ ap (λ p. in_64_bits (pos p +ℤ (aarch64_form Add).machine x)) has
    ∙ page_and_rest o add old.relocated old.applied in
    value_group (link c) 0 0 k _ s _ d (symbol_address o) (sum_64 o.place 4) (sum_below o.place 4)
    (sets_at c.others c.old s o.place x d (symbol_address o) at old.stands
    (step_add x d (seen s) after.decodes after.rd_is ∙ ap (λ v. Some (set d v (seen s))) sum))
    (unchanged _ _)
    (λ t agree.
    sets_at c.others c.new t o.place (word_of new.relocated) d (symbol_address o) (agree.pc ∙ at)
    new.stands (adr_steps literals o (seen t) d made new.relocated small (agree.pc ∙ at) named
    (made_adr (word_of add) _ _ made word was refl) new.applied))

pub are_ldr_to_adr : relocation_laws.Literals → groups.LdrToAdr
are_ldr_to_adr literals c o k s ldr made small at is has holds is_made old new =
    let d = rd_of (word_of ldr) in
    let x = word_of old.relocated in
    let y = word_of new.relocated in
    let op : word_of ldr / 2 ^ 22 ≡ 0x3e5 = eqb-true _ _ is in
    let after = ldr_after _ _ ldr old.relocated old.applied.written is in
    let word = word_made (λ w. bit_and w 0x76ffffff) ldr made
    (below_mask (word_of ldr) 0x76ffffff (omega arith)) is_made in
    let was = adr_of_page (word_of ldr) (omega arith) (omega arith) (omega arith) in
    let adr = made_adr (word_of ldr) _ d made word was refl in
    let value : aarch64_machine.loaded x (seen s) ≡ symbol_address o =
    ap (λ r. load_64 s.memory (in_64_bits (pos (s.registers r)
    +ℤ ((aarch64_form LdSt).machine x *ℤ pos 8)))) after.rn_is
    ∙ ap (λ p. load_64 s.memory (in_64_bits (pos p +ℤ ((aarch64_form LdSt).machine x *ℤ pos 8)))) has
    ∙ ap (load_64 s.memory) (entry_and_rest o small ldr old.relocated old.applied) ∙ holds in
    let next = sum_64 o.place 4 in (
      λ named. value_group (link c) 0 0 k _ s _ d (symbol_address o) next (sum_below o.place 4)
          (sets_at c.others c.old s o.place x d (symbol_address o) at old.stands
          (step_ldr x d (seen s) after.decodes after.rd_is named
          ∙ ap (λ v. Some (set d v (seen s))) value))
          (unchanged _ _)
          (λ t agree.
          sets_at c.others c.new t o.place y d (symbol_address o) (agree.pc ∙ at) new.stands
          (adr_steps literals o (seen t) d made new.relocated small (agree.pc ∙ at) named adr
          new.applied)),
      λ zero_register. group_of (link c) 0 0
          (goes c.others c.old s x (aarch64_machine.loaded x (seen s)) at old.stands
          (ap (λ i. execute i x (seen s)) after.decodes
          ∙ ap (λ r. Some (go_on (write_x r (aarch64_machine.loaded x (seen s)) (seen s))))
          (after.rd_is ∙ zero_register)))
          (λ t agree.
          let a = adr_after 0 _ _ made new.relocated new.applied.written adr.opcode adr.top in
          let v = aarch64_machine.adr_address y (seen t) in
          holds_of (run 1 (machine c.others c.new) t) _ (go_to next t)
          (goes c.others c.new t y v (agree.pc ∙ at) new.stands
          (ap (λ i. execute i y (seen t)) (decodes_adr y a.opcode a.top)
          ∙ ap (λ r. Some (go_on (write_x r v (seen t)))) (a.rd_is ∙ adr.rd_is ∙ zero_register)))
          (agree_go (link c) k s t next next agree (sum_below o.place 4) refl)),
    )
  where
    -- an instruction that writes XZR
    goes : (others : ℕ → Program) (code : ℕ → ℕ) (t : State) (word v : ℕ) → t.pc ≡ o.place
        → loaded 4 code o.place ≡ word
        → step word (seen t) ≡ Some (go_on (write_x 31 v (seen t)))
        → run 1 (machine others code) t ≡ Some (go_to (sum_64 o.place 4) t)
    goes others code t word v at stands steps =
        run_first 0 (machine others code) t (go_to (sum_64 t.pc 4) t) _
        (ap (λ w. executed others w t (step w (seen t))) (ap (loaded 4 code) at ∙ stands)
        ∙ ap (executed others word t) steps)
        (ap (λ a. Some (go_to (sum_64 a 4) t)) at)
