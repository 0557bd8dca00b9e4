-- The worked programs of AArch64.
use Rattle.linker_laws.proofs.Imports.{Agree, AreOfOneRegister, AreStored, Bool, ChangesOpen, Code, Covered, Descriptor, Group, Groups, Has, IsAdd64, IsLdr64, IsPair, IsSomeAnd, Kind, Kinds, List, None, Operands, Other, Some, Stands, State, [], anything, ap, arith, called, cond-false, ends, false, following, from_le_bytes, go_to, group, half, if◌then◌else◌, inl, inr, link, lit<, load_64, machine, of_byte, of_link, other, place_sum, pos, put, refl, run, same, seen, subst, sym, true, w64, with_register, word_of, ℕ, ◌*◌, ◌+◌, ◌-◌, ◌<◌, ◌==◌, ◌∙◌, ◌∷◌, ◌≡◌, ◌⊎◌}
use Rattle.linker_laws.specs.AArch64Groups.{does, IsRelocated}
use Rattle.linker_elf.specs.declared.aarch64.relocations.AArch64Relocation.TheVariants as names
use Rattle.linker_elf.specs.declared.aarch64.relocations.AArch64Relocation.{AArch64Relocation}
use Rattle.linker_laws.specs.AArch64GroupsWorked.{IsAddress, IsOffset, IsPassed, IsRun, IsWorked, code, entries, first_adr, is_entry, known, new_halves, new_load, new_moves, old_branches, old_descriptor, old_halves, old_load, old_sum, others, second_adr, starting, words}
use Rattle.linker_laws.proofs.Agreement.{agree_put}
use Rattle.linker_laws.proofs.CoveredRuns.{holds_of}
use Rattle.linker_laws.proofs.Relocated.{applied, small}

-- ---- relocations that are applied

abbrev operands : ℕ → ℕ → ℕ → ℕ → Operands
operands symbol place got_entry tls_base =
    record {
      symbol = symbol;
      addend = pos 0;
      place = place;
      got_entry = got_entry;
      got_base = 0;
      plt_entry = 0;
      symbol_size = 0;
      tls_base = tls_base;
      has_got_entry = true;
      has_plt_entry = false;
      has_tls_base = true;
    }

abbrev load : Operands
load = operands 0x420120 0x400000 0x411010 0

abbrev high : Operands
high = operands 0x432344 0x400008 0x411018 0x420000

abbrev low : Operands
low = operands 0x432344 0x400010 0x411018 0x420000

abbrev thread : Operands
thread = operands 0x432344 0x400000 0x411010 0x420000

abbrev jump : Operands
jump = record (operands 0 0x400000 0 0) { plt_entry = 0x400004; has_plt_entry = true }

abbrev link_jump : Operands
link_jump = record (operands 0 0x400004 0 0) { plt_entry = 0x400008; has_plt_entry = true }

entry_page : IsRelocated names.R_AARCH64_ADR_GOT_PAGE load
    (0x0 ∷ 0x0 ∷ 0x0 ∷ 0x90 ∷ []) (0x80 ∷ 0x0 ∷ 0x0 ∷ 0xb0 ∷ [])
entry_page = applied (pos 0x11000) 0x90000000 refl (refl, tt, λ e. refl) refl (lit< tt) tt refl refl

entry_low : IsRelocated names.R_AARCH64_LD64_GOT_LO12_NC (following 4 load)
    (0x0 ∷ 0x0 ∷ 0x40 ∷ 0xf9 ∷ []) (0x0 ∷ 0x8 ∷ 0x40 ∷ 0xf9 ∷ [])
entry_low = applied (pos 0x411010) 0xf9400000 refl (refl, tt, λ e. refl) refl (lit< tt) tt refl refl

symbol_page : IsRelocated names.R_AARCH64_ADR_PREL_PG_HI21 load
    (0x0 ∷ 0x0 ∷ 0x0 ∷ 0x90 ∷ []) (0x0 ∷ 0x1 ∷ 0x0 ∷ 0x90 ∷ [])
symbol_page = applied (pos 0x20000) 0x90000000 refl (refl, tt, λ e. refl) refl (lit< tt) tt refl refl

symbol_low : IsRelocated names.R_AARCH64_ADD_ABS_LO12_NC (following 4 load)
    (0x0 ∷ 0x0 ∷ 0x0 ∷ 0x91 ∷ []) (0x0 ∷ 0x80 ∷ 0x4 ∷ 0x91 ∷ [])
symbol_low = applied (pos 0x420120) 0x91000000 refl (refl, tt, λ e. refl) refl (lit< tt) tt refl refl

near_second : IsRelocated names.R_AARCH64_ADR_PREL_LO21 (following 4 load)
    (0x0 ∷ 0x0 ∷ 0x0 ∷ 0x10 ∷ []) (0xe0 ∷ 0x8 ∷ 0x10 ∷ 0x10 ∷ [])
near_second = applied (pos 0x2011c) 0x10000000 refl (refl, tt, λ e. refl) refl (lit< tt) tt refl refl

-- ---- programs

-- Both agree at the beginning.
starts : (old new : List ℕ) (first : ℕ) → Agree (link (code old new)) known (starting first) (starting 0)
starts old new first =
    record {
      small = lit< tt;
      pc = refl;
      registers = λ r. refl;
      memory = λ a below. by a (is_entry 0x411010 a) refl;
      outside = refl;
    }
  where
    by : (a : ℕ) (b : Bool) → is_entry 0x411010 a ≡ b
        → AreStored (link (code old new)) (of_byte (if b then anything else same)) (entries first) (entries 0) a
    by a true e = tt
    by a false e =
        let here : a - 0 ≡ a = omega arith in
        let out = ap (is_entry 0x411010) here ∙ e in
        ap (λ n. n + 0) (cond-false _ _ _ out ∙ sym (cond-false _ _ _ out))

-- Both stop where they come to no instruction.
runs : (old new : List ℕ) (first q m n : ℕ) (Ends : (ℕ → ℕ) → Type 0) (k : Kinds) (s : State)
    → Covered (of_link (link (code old new))) q n known (starting first) k s
    → machine others (words old) s ≡ None
    → ((t : State) → machine others (words new) (go_to s.pc t) ≡ None)
    → IsSomeAnd (run m (machine others (words old)) (starting first)) (λ s. Ends s.registers)
    → IsSomeAnd (run n (machine others (words new)) (starting 0)) (λ s. Ends s.registers)
    → IsRun old new first q m n Ends
runs old new first q m n Ends k s covered old_stops none old_ends new_ends =
    record {
      kinds = k;
      state = s;
      agree = starts old new first;
      covered = covered;
      stops = record {
        old_stops = old_stops;
        new_stops = λ t agree. ap (λ a. machine others (words new) (go_to a t)) agree.pc ∙ none t;
      };
      old_ends = old_ends;
      new_ends = new_ends;
    }

has : {code : ℕ → ℕ} {name : AArch64Relocation} {o : Operands} {before : List ℕ} (after : List ℕ)
    → IsRelocated name o before after → Stands code o after → Has code name o before
has after applied stands = record { relocated = after; applied = applied; stands = stands }

-- what a register holds after m instructions
abbrev Holds : List ℕ → ℕ → ℕ → ℕ → ℕ → Type 0
Holds code first m r v =
    IsSomeAnd (run m (machine others (words code)) (starting first)) (λ s. s.registers r ≡ v)

-- ---- a load, and halves

abbrev adrp_x0 : List ℕ
adrp_x0 = 0 ∷ 0 ∷ 0 ∷ 0x90 ∷ []

abbrev ldr_x0 : List ℕ
ldr_x0 = 0 ∷ 0 ∷ 0x40 ∷ 0xf9 ∷ []

abbrev add_x0 : List ℕ
add_x0 = 0 ∷ 0 ∷ 0 ∷ 0x91 ∷ []

abbrev adr_x0 : List ℕ
adr_x0 = 0 ∷ 0 ∷ 0 ∷ 0x10 ∷ []

abbrev nop : List ℕ
nop = 0x1f ∷ 0x20 ∷ 0x03 ∷ 0xd5 ∷ []

abbrev c1 : Code
c1 = code old_halves new_halves

abbrev s0 : State
s0 = starting 0x420120

abbrev s1 : State
s1 = put 0 0x420120 0x400008 s0

abbrev s2 : State
s2 = put 1 0x411000 0x40000c s1

abbrev s3 : State
s3 = put 2 0x411000 0x400010 s2

abbrev s4 : State
s4 = put 2 0x12344 0x400014 s3

abbrev k1 : Kinds
k1 = with_register 0 same known

abbrev k2 : Kinds
k2 = with_register 1 (half 0) k1

abbrev k3 : Kinds
k3 = with_register 2 (half 0) k2

abbrev k4 : Kinds
k4 = with_register 2 same k3

abbrev pair_of_sum : List ℕ
pair_of_sum = 0 ∷ 0 ∷ 0 ∷ 0x90 ∷ 0 ∷ 0 ∷ 0 ∷ 0x91 ∷ []

abbrev nop_adr : List ℕ
nop_adr = 0x1f ∷ 0x20 ∷ 0x03 ∷ 0xd5 ∷ 0 ∷ 0 ∷ 0 ∷ 0x10 ∷ []

pair : (Is : ℕ → Type 0) (first second : List ℕ) → AreOfOneRegister (word_of first) (word_of second)
    → Is (word_of second) → IsPair Is load (seen s0) first second
pair Is first second one is = record { small = small load refl; at = refl; one_register = one; second_is = is }

load_is : IsPair IsLdr64 load (seen s0) adrp_x0 ldr_x0
load_is =
    pair IsLdr64 adrp_x0 ldr_x0 (record {
      first = refl;
      into_own_source = record { same = refl; not_31 = λ e. omega arith };
      register = refl;
    }) refl

sum_of_one : AreOfOneRegister 0x90000000 0x91000000
sum_of_one =
    record {
      first = refl;
      into_own_source = record { same = refl; not_31 = λ e. omega arith };
      register = refl;
    }

p1 : Groups → Group (of_link (link c1)) 2 known s0 k1 s1
p1 g =
    g.loads c1 load known s0 adrp_x0 ldr_x0 add_x0
    load_is refl refl (has _ entry_page refl) (has _ entry_low refl)
    (has _ symbol_page refl) (has _ symbol_low refl)

p2 : Groups → Group (of_link (link c1)) 1 k1 s1 k2 s2
p2 g =
    g.high_halves c1 0 high k1 s1 (1 ∷ 0 ∷ 0 ∷ 0x90 ∷ []) (1 ∷ 0 ∷ 0xa0 ∷ 0xd2 ∷ [])
    (small high refl) refl refl refl refl
    (λ e. omega arith) refl
    (has (0x81 ∷ 0 ∷ 0 ∷ 0xb0 ∷ []) (applied (pos 0x11000) 0x90000001 refl (refl, tt, λ e. refl) refl (lit< tt) tt refl refl) refl)
    (has (0x21 ∷ 0 ∷ 0xa0 ∷ 0xd2 ∷ []) (applied (pos 0x12344) 0xd2a00001 refl (refl, tt, λ e. refl) refl (lit< tt) tt refl refl) refl)

p3 : Groups → Other (of_link (link c1)) k2 s2 k3 s3
p3 g =
    g.others c1 k2 k3 s2 s3 refl refl
    (λ t agree. subst (λ o. IsSomeAnd o (Agree (link c1) k3 s3))
    (sym (ap (λ a. does others c1.old 0x40000c (go_to a t)) agree.pc))
    (agree_put (link c1) k2 s2 t 2 (half 0) 0x411000 (t.registers 1) 0x400010 0x400010 agree
    (lit< tt) refl (agree.registers 1)))

p4 : Groups → Group (of_link (link c1)) 1 k3 s3 k4 s4
p4 g =
    g.low_halves c1 0 low k3 s3 (0x42 ∷ 0 ∷ 0x40 ∷ 0xf9 ∷ []) (2 ∷ 0 ∷ 0x80 ∷ 0xf2 ∷ [])
    (small low refl) refl refl refl refl
    (record { same = refl; not_31 = λ e. omega arith }) refl refl refl refl
    (has (0x42 ∷ 0xc ∷ 0x40 ∷ 0xf9 ∷ []) (applied (pos 0x411018) 0xf9400042 refl (refl, tt, λ e. refl) refl (lit< tt) tt refl refl) refl)
    (has (0x82 ∷ 0x68 ∷ 0x84 ∷ 0xf2 ∷ []) (applied (pos 0x12344) 0xf2800002 refl (refl, tt, λ e. refl) refl (lit< tt) tt refl refl) refl)

halves_end :
    Holds old_halves 0x420120 5 0 0x420120 × Holds old_halves 0x420120 5 2 0x12344
    × Holds new_halves 0 5 0 0x420120 × Holds new_halves 0 5 2 0x12344
unfolding place_sum
halves_end = (refl, refl, refl, refl)

halves : Groups → IsRun old_halves new_halves 0x420120 4 5 5 (λ r. (r 0 ≡ 0x420120) × (r 2 ≡ 0x12344))
halves g =
    runs old_halves new_halves 0x420120 4 5 5 (λ r. (r 0 ≡ 0x420120) × (r 2 ≡ 0x12344)) k4 s4
    (group 3 2 3 _ _ _ _ _ _ (p1 g) (group 2 1 2 _ _ _ _ _ _ (p2 g) (other 1 1 _ _ _ _ _ _ (p3 g)
    (group 0 1 0 _ _ _ _ _ _ (p4 g) (ends _ _))))) refl (λ t. refl) (halves_end.0, halves_end.1)
    (halves_end.2, halves_end.3)

-- ---- addresses

abbrev there : State
there = put 0 0x420120 0x400008 s0

addresses_end :
    Holds old_sum 0x420120 2 0 0x420120 × Holds old_load 0x420120 2 0 0x420120
    × Holds (second_adr 0xd503201f) 0 2 0 0x420120 × Holds first_adr 0 2 0 0x420120
    × Holds (second_adr 0x90000100) 0 2 0 0x420120 × Holds (second_adr 0xb0000080) 0 2 0 0x420120
unfolding place_sum
addresses_end = (refl, refl, refl, refl, refl, refl)

nop_and_adr : Groups → IsAddress old_sum (second_adr 0xd503201f) 1
nop_and_adr g =
    let c = code old_sum (second_adr 0xd503201f) in
    runs old_sum (second_adr 0xd503201f) 0x420120 1 2 2 (λ r. r 0 ≡ 0x420120) k1 there
    (group 0 2 0 _ _ _ _ _ _ (g.nop_and_adr.0 c load known s0 pair_of_sum nop_adr (pair IsAdd64 pair_of_sum add_x0 sum_of_one refl)
    refl (has (0 ∷ 0x1 ∷ 0 ∷ 0x90 ∷ 0 ∷ 0 ∷ 0 ∷ 0x91 ∷ []) (applied (pos 0x20000) 0x90000000 refl (refl, tt, λ e. refl) refl (lit< tt) tt refl refl) refl) (has _ symbol_low refl) refl (has _ near_second refl)) (ends _ _)) refl (λ t. refl) addresses_end.0 addresses_end.2

load_to_nop_and_adr : Groups → IsAddress old_load (second_adr 0xd503201f) 1
load_to_nop_and_adr g =
    let c = code old_load (second_adr 0xd503201f) in
    runs old_load (second_adr 0xd503201f) 0x420120 1 2 2 (λ r. r 0 ≡ 0x420120) k1 there
    (group 0 2 0 _ _ _ _ _ _ (g.load_to_nop_and_adr c load known s0 adrp_x0 ldr_x0 pair_of_sum
    nop_adr load_is refl refl refl (has _ entry_page refl) (has _ entry_low refl)
    refl (has _ near_second refl)) (ends _ _)) refl (λ t. refl) addresses_end.1
    addresses_end.2

adr_and_nop : Groups → IsAddress old_sum first_adr 1
adr_and_nop g =
    runs old_sum first_adr 0x420120 1 2 2 (λ r. r 0 ≡ 0x420120) k1 there
    (group 0 2 0 _ _ _ _ _ _ (g.adr_and_nop.0 (code old_sum first_adr) load known s0 adrp_x0
    add_x0 adr_x0 nop (pair IsAdd64 adrp_x0 add_x0 sum_of_one refl) refl refl (has _ symbol_page refl) (has _ symbol_low refl) (has (0 ∷ 0x9 ∷ 0x10 ∷ 0x10 ∷ []) (applied (pos 0x20120) 0x10000000 refl (refl, tt, λ e. refl) refl (lit< tt) tt refl refl) refl) refl) (ends _ _)) refl (λ t. refl) addresses_end.0
    addresses_end.3

-- the `adrp` of both, by old's code
page_is : (t : State) → t.pc ≡ 0x400000
    → does others (words old_sum) 0x400000 t ≡ Some (put 0 0x420000 0x400004 t)
unfolding place_sum
page_is t at = ap (λ a. does others (words old_sum) 0x400000 (go_to a t)) at

entry_page_is : (t : State) → t.pc ≡ 0x400000
    → does others (words old_load) 0x400000 t ≡ Some (put 0 0x411000 0x400004 t)
unfolding place_sum
entry_page_is t at = ap (λ a. does others (words old_load) 0x400000 (go_to a t)) at

other_adrp : Groups → (old new : List ℕ) (v : ℕ)
    → does others (words old) 0x400000 ≡ does others (words new) 0x400000
    → ((t : State) → t.pc ≡ 0x400000 → does others (words old) 0x400000 t ≡ Some (put 0 v 0x400004 t))
    → Other (of_link (link (code old new))) known s0 k1 (put 0 v 0x400004 s0)
other_adrp g old new v alike goes =
    g.others (code old new) known k1 s0 (put 0 v 0x400004 s0) alike (goes s0 refl)
    (λ t agree.
    holds_of (does others (words old) 0x400000 t) (Agree (link (code old new)) k1 (put 0 v 0x400004 s0))
    (put 0 v 0x400004 t) (goes t agree.pc)
    (agree_put (link (code old new)) known s0 t 0 same v v 0x400004 0x400004 agree (lit< tt) refl refl))

abbrev after_one : Operands
after_one = following 4 load

add_to_adr : Groups → IsAddress old_sum (second_adr 0x90000100) 2
add_to_adr g =
    let u = put 0 0x420000 0x400004 s0 in
    runs old_sum (second_adr 0x90000100) 0x420120 2 2 2 (λ r. r 0 ≡ 0x420120) (with_register 0 same k1) (put 0 0x420120 0x400008 u)
    (other 1 1 _ _ _ _ _ _ (other_adrp g old_sum (second_adr 0x90000100) 0x420000 refl page_is)
    (group 0 1 0 _ _ _ _ _ _ (g.add_to_adr (code old_sum (second_adr 0x90000100)) after_one k1 u
    add_x0 adr_x0 (small after_one refl) refl refl (λ e. omega arith) refl refl (has _ symbol_low refl) (has _ near_second refl)) (ends _ _))) refl (λ t. refl)
    addresses_end.0 addresses_end.4

ldr_to_adr : Groups → IsAddress old_load (second_adr 0xb0000080) 2
ldr_to_adr g =
    let u = put 0 0x411000 0x400004 s0 in
    runs old_load (second_adr 0xb0000080) 0x420120 2 2 2 (λ r. r 0 ≡ 0x420120) (with_register 0 same k1) (put 0 0x420120 0x400008 u)
    (other 1 1 _ _ _ _ _ _ (other_adrp g old_load (second_adr 0xb0000080) 0x411000 refl
    entry_page_is) (group 0 1 0 _ _ _ _ _ _ ((g.ldr_to_adr (code old_load (second_adr
    0xb0000080)) after_one k1 u ldr_x0 (0 ∷ 0 ∷ 0x40 ∷ 0x70 ∷ []) (small after_one refl) refl refl refl
    refl refl (has _ entry_low refl)
    (has (0xe0 ∷ 0x8 ∷ 0x10 ∷ 0x10 ∷ []) (applied (pos 0x2011c) 0x10000000 refl (refl, tt, λ e. refl) refl (lit< tt) tt refl refl) refl)).0
    (λ e. omega arith)) (ends _ _))) refl (λ t. refl) addresses_end.1 addresses_end.5

-- ---- descriptors

abbrev d0 : State
d0 = starting 0x400014

abbrev ldr_x1 : List ℕ
ldr_x1 = 1 ∷ 0 ∷ 0x40 ∷ 0xf9 ∷ []

abbrev blr_x1 : List ℕ
blr_x1 = 0x20 ∷ 0 ∷ 0x3f ∷ 0xd6 ∷ []

-- where the function returns
abbrev returned : State
returned = put 0 0x12344 0x400010 (called thread 1 d0)

abbrev open_then : Kinds
open_then = with_register 30 anything (with_register 1 anything k1)

executes_two : (new : List ℕ)
    → run 2 (machine others (code old_descriptor new).old) (called thread 1 d0) ≡ Some returned
unfolding place_sum
executes_two new = refl

changes : ChangesOpen k1 (put 0 0x12344 0x400010 d0) open_then returned
changes =
    record {
      pc = refl;
      registers = λ r. by (r == 30) (r == 1) (r == 0) (k1.registers r) 0x400010 0x411010
          (load_64 d0.memory 0x411010) r;
      memory = λ a below. inr (refl, refl);
      outside = refl;
    }
  where
    by : (link scratch first : Bool) (k : Kind) (x y z r : ℕ)
        → ((if link then anything else (if scratch then anything else k)) ≡ anything)
        ⊎ (((if link then anything else (if scratch then anything else k)) ≡ k)
        × ((if first then 0x12344 else (
        if link then x else (if first then y else (if scratch then z else r))))
        ≡ (if first then 0x12344 else r)))
    by true scratch first k x y z r = inl refl
    by false true first k x y z r = inl refl
    by false false true k x y z r = inr (refl, refl)
    by false false false k x y z r = inr (refl, refl)

the_descriptor : (new : List ℕ)
    → Descriptor (code old_descriptor new) thread 0x12344 known d0 open_then returned adrp_x0 ldr_x1
    add_x0 blr_x1
the_descriptor new =
    record {
      small = small thread refl;
      at = refl;
      instructions = record {
        adrp_opcode = refl;
        adrp_into_x0 = refl;
        ldr_opcode = refl;
        ldr_from_x0 = refl;
        not_into_x0 = λ e. omega arith;
        not_31 = λ e. omega arith;
        add_opcode = refl;
        add_from_x0 = refl;
        add_into_x0 = refl;
        calls = refl;
      };
      page = has (0x80 ∷ 0x0 ∷ 0x0 ∷ 0xb0 ∷ []) (applied (pos 0x11000) 0x90000000 refl (refl, tt, λ e. refl) refl (lit< tt) tt refl refl) refl;
      low = has (0x1 ∷ 0x8 ∷ 0x40 ∷ 0xf9 ∷ []) (applied (pos 0x411010) 0xf9400001 refl (refl, tt, λ e. refl) refl (lit< tt) tt refl refl) refl;
      sum = has (0x0 ∷ 0x40 ∷ 0x0 ∷ 0x91 ∷ []) (applied (pos 0x411010) 0x91000000 refl (refl, tt, λ e. refl) refl (lit< tt) tt refl refl) refl;
      call = refl;
      executes = 2;
      returns = executes_two new;
      changes = changes;
    }

offsets_end :
    Holds old_descriptor 0x400014 6 0 0x12344 × Holds new_moves 0 4 0 0x12344
    × Holds new_load 0 4 0 0x12344
unfolding place_sum
offsets_end = (refl, refl, refl)

abbrev c_moves : Code
c_moves = code old_descriptor new_moves

abbrev c_load : Code
c_load = code old_descriptor new_load

to_moves : Groups → Group (of_link (link c_moves)) 4 known d0 open_then returned
to_moves g =
    g.descriptor_to_local_exec c_moves thread known open_then d0 returned adrp_x0 ldr_x1 add_x0 blr_x1
    (0 ∷ 0 ∷ 0xa0 ∷ 0xd2 ∷ []) (0 ∷ 0 ∷ 0x80 ∷ 0xf2 ∷ []) nop nop (the_descriptor new_moves)
    (record { first_made = refl; second_made = refl; first = refl; second = refl }) refl refl
    (has (0x20 ∷ 0 ∷ 0xa0 ∷ 0xd2 ∷ []) (applied (pos 0x12344) 0xd2a00000 refl (refl, tt, λ e. refl) refl (lit< tt) tt refl refl) refl)
    (has (0x80 ∷ 0x68 ∷ 0x84 ∷ 0xf2 ∷ []) (applied (pos 0x12344) 0xf2800000 refl (refl, tt, λ e. refl) refl (lit< tt) tt refl refl) refl)

-- new's entry has the offset
holds_offset : (t : State) → Agree (link c_load) known d0 t → load_64 t.memory 0x411018 ≡ 0x12344
holds_offset t agree =
    let e0 = byte (d0.memory 0x411018) (t.memory 0x411018) (agree.memory 0x411018 (lit< tt)) in
    let e1 = byte (d0.memory 0x411019) (t.memory 0x411019) (agree.memory 0x411019 (lit< tt)) in
    let e2 = byte (d0.memory 0x41101a) (t.memory 0x41101a) (agree.memory 0x41101a (lit< tt)) in
    let e3 = byte (d0.memory 0x41101b) (t.memory 0x41101b) (agree.memory 0x41101b (lit< tt)) in
    let e4 = byte (d0.memory 0x41101c) (t.memory 0x41101c) (agree.memory 0x41101c (lit< tt)) in
    let e5 = byte (d0.memory 0x41101d) (t.memory 0x41101d) (agree.memory 0x41101d (lit< tt)) in
    let e6 = byte (d0.memory 0x41101e) (t.memory 0x41101e) (agree.memory 0x41101e (lit< tt)) in
    let e7 = byte (d0.memory 0x41101f) (t.memory 0x41101f) (agree.memory 0x41101f (lit< tt)) in
    λ i. from_le_bytes w64 (e0 i ∷ e1 i ∷ e2 i ∷ e3 i ∷ e4 i ∷ e5 i ∷ e6 i ∷ e7 i ∷ [])
  where
    byte : (x y : ℕ) → x + 256 * 0 ≡ y + 256 * 0 → y ≡ x
    byte x y e = omega arith

to_load : Groups → Group (of_link (link c_load)) 4 known d0 open_then returned
to_load g =
    g.descriptor_to_initial_exec c_load thread 0x12344 0x411018 known open_then d0 returned adrp_x0 ldr_x1
    add_x0 blr_x1 adrp_x0 ldr_x0 nop nop (the_descriptor new_load)
    (record { first_made = refl; second_made = refl; first = refl; second = refl }) (lit< tt) holds_offset
    refl refl
    (has (0x80 ∷ 0 ∷ 0 ∷ 0xb0 ∷ []) (applied (pos 0x11000) 0x90000000 refl (refl, tt, λ e. refl) refl (lit< tt) tt refl refl) refl)
    (has (0 ∷ 0xc ∷ 0x40 ∷ 0xf9 ∷ []) (applied (pos 0x411018) 0xf9400000 refl (refl, tt, λ e. refl) refl (lit< tt) tt refl refl) refl)

offset_run : (new : List ℕ) → Group (of_link (link (code old_descriptor new))) 4 known d0 open_then returned
    → ((t : State) → machine others (words new) (go_to 0x400010 t) ≡ None)
    → Holds new 0 4 0 0x12344 → IsOffset new
offset_run new one none holds =
    runs old_descriptor new 0x400014 1 6 4 (λ r. r 0 ≡ 0x12344) open_then returned
    (group 0 4 0 _ _ _ _ _ _ one (ends _ _)) refl none offsets_end.0 holds

-- ---- branches

abbrev passed : List ℕ
passed = 0xd503201f ∷ 0xd503201f ∷ []

branches_end : Holds old_branches 0 2 0 0 × Holds passed 0 2 0 0
unfolding place_sum
branches_end = (refl, refl)

branches : Groups → IsPassed
branches g =
    let c = code old_branches passed in
    let s = starting 0 in
    let u = go_to 0x400004 s in
    runs old_branches passed 0 2 2 2 (λ r. r 0 ≡ 0) (with_register 30 anything known) (put 30 0x400008 0x400008 u)
    (group 1 1 1 _ _ _ _ _ _ (g.branches.0 c jump known s (0 ∷ 0 ∷ 0 ∷ 0x14 ∷ []) nop (small jump refl) refl refl refl refl
    (has (0x1 ∷ 0 ∷ 0 ∷ 0x14 ∷ []) (applied (pos 0x4) 0x14000000 refl (refl, tt, λ e. refl) refl (lit< tt) tt refl refl) refl)
    refl) (group 0 1 0 _ _ _ _ _ _ (g.branches.1 c link_jump known u (0 ∷
    0 ∷ 0 ∷ 0x94 ∷ []) nop (small link_jump refl) refl refl refl refl
    (has (0x1 ∷ 0 ∷ 0 ∷ 0x94 ∷ []) (applied (pos 0x4) 0x94000000 refl (refl, tt, λ e. refl) refl (lit< tt) tt refl refl) refl)
    refl) (ends _ _))) refl (λ t.
    refl) branches_end.0 branches_end.1

pub is_worked : Groups → IsWorked
is_worked g =
    record {
      halves = halves g;
      nop_and_adr = nop_and_adr g;
      load_to_nop_and_adr = load_to_nop_and_adr g;
      adr_and_nop = adr_and_nop g;
      add_to_adr = add_to_adr g;
      ldr_to_adr = ldr_to_adr g;
      descriptor_to_local_exec = offset_run new_moves (to_moves g) (λ t. refl) offsets_end.1;
      descriptor_to_initial_exec = offset_run new_load (to_load g) (λ t. refl) offsets_end.2;
      branches = branches g;
    }
