-- LoongArch: calls and addresses in the final bytes of a packed section, and what is deleted of it.
use Rattle.linker_final.proofs.Imports.{AbsoluteLowPart, All-drop, All-take, AnyForm, AreAddresses, AreBytes, AreDeleted as IsGone, BitMasking, BitRange, Bool, Branch26, InstructionWritten, IsAddress, IsApplied, IsBefore, IsPacked, IsSiteOf, IsSomeAnd, IsWritten, List, LoongArch64, LoongArch64Relocation, Ok, Operands, Packed, Relocated, RowInfo, Shift10, SiteBecomes, Some, State, Symbol, ValueIsWithin, [], ap, architecture_of, arith, drop, drop-drop, entry_and_addend, eqb, false, field, following, has_value, if◌then◌else◌, inl, inr, is_jirl, length, length-drop, loaded, loongarch_form, loongarch_row, names_label, ne_eqb, not, offset_at, operands_in, operands_small, or_parts, pcalau12i, place_of, plt_address, pos, refl, relocation_in, signed, site_after, site_bytes, site_len, site_offset, site_place, site_target, slice_get, subst, sum_64, sym, symbol_address, take, true, value_of, window_len, word_below, word_of, word_of_front, wrapped, ℕ, ℤ, ⊤, ◌*ℤ◌, ◌+ℤ◌, ◌+◌, ◌/◌, ◌<◌, ◌==◌, ◌^◌, ◌∙◌, ◌∷◌, ◌≡◌, ◌≢◌, ◌≤◌}
use Rattle.linker_laws.specs.LoongArchGroups.{Fits32, Groups, IsRelocated, IsRewritten, LoadsEntry, AreDeleted, Code}
use Rattle.linker_final.specs.LoongArchSection.{AddressesAreMade, CallsTheSame, HighPartIsLeftOut, IsPairOf, LoadedAddressesAreMade, LongAddressesStay, LongLoadedAddressesStay, StaysAs, operands_at, words_in, LongCallsStay, SumIsLeftOut}
use Rattle.linker_laws.specs.LoongArchMachine.{HaveCalled, HaveMade, no_register, pair}
use Rattle.linker_utils.specs.LoongArchRewrites.{IsAddi, IsCall, rj_of, signed_32, AreOfOneRegister, IsLd, rd_of, word_at}
use Rattle.linker_elf.proofs.Relocated.{plain_written}
use Rattle.linker_elf.specs.declared.elf.AnyForm.TheVariants.{LoongArch64 as of_loongarch}
use Rattle.linker_final.proofs.PackedBytes.{instructions, valued, no_place, place_after, places_inside, site_becomes, site_inside, site_length, site_small, stay_inside, the_row}
use Rattle.linker_final.proofs.Written.{back_of_pair, front_of_pair, window_length}
use Rattle.linker_laws.proofs.AArch64Pairs.{word_made}
use Rattle.linker_laws.proofs.AArch64Steps.{address_is}
use Rattle.linker_laws.proofs.LoongArchCalls.{call_is, decodes_b, decodes_bl, decodes_far, decodes_jirl, new_first, new_second, target_is}
use Rattle.linker_laws.proofs.LoongArchPairs.{Loads, adds, loads, nears}
use Rattle.linker_laws.proofs.LoongArchSteps.{ends_so, loaded_of, read_back, run_pair, set}
use Rattle.linker_laws.proofs.LoongArchWords.{high_after, low_after}
use Rattle.linker_laws.specs.LoongArchMachine.{AreAlikeBut, EndSo, State as Processor, branch_target, execute, far_address, go_to, near_address, next_pc, page_address, read, register_target, run, step, sum_of, with_register, write}
use Rattle.linker_runs.specs.LoongArchSites.{IsBranch, IsCall36At, IsFarCall, IsPcaddi, IsPcalaAt, LoongArchBecomes, destination}
use Rattle.linker_runs.specs.LoongArchSites.LoongArchBecomes.{address, call, far_address as far_pair, far_call, jump}
use Rattle.linker_runs.specs.Sites.{operands_of}
use Rattle.linker_runs.specs.declared.relaxation.Site.{Site as sites}
use Rattle.linker_elf.specs.declared.loongarch64.relocations.LoongArch64Relocation.TheVariants as names
use Rattle.linker_laws.specs.LoongArchRelocationLaws as relocation_laws
use Rattle.linker_utils.specs.declared.loongarch64.rewrites.RewriteKind.TheVariants as kinds
use Rattle.linker_elf.specs.declared.elf.architecture.Architecture.TheVariants as architectures

-- new has nothing of the bytes
gone_in : (p : Packed) (o : ℕ) (c : Code) (s : State) → IsGone p o 4 → IsBefore p o c.moved s.pc → AreDeleted c 4 s
gone_in p o c s gone before =
    record { small = before.small; moved = before.place ∙ sym (no_place p o 4 gone) ∙ sym before.next }

pub high_part : Groups → HighPartIsLeftOut
high_part groups p is machine o gone word c x k s before =
    groups.high_offsets (take 4 (drop o p.section.bytes)) word c x k s (gone_in p o c s gone before)

pub sums : Groups → SumIsLeftOut
sums groups p is machine o gone word c k s before =
    groups.sums (take 4 (drop o p.section.bytes)) word c k s (gone_in p o c s gone before)

-- ---- registers

write_back : (n v : ℕ) (s : Processor) → n ≢ 0 → read n (write n v s) ≡ v
write_back n v s some = cc (ne_eqb n 0 some, read_back n v n s refl some)

-- the others stay, and what is no register
write_is : {A : Type 0} (f : Processor → A) (n v : ℕ) (s : Processor) → f (with_register n v s) ≡ f s → f (write n v s) ≡ f s
write_is f n v s same = both (n == 0)
  where
    both : (zero : Bool) → f (if zero then s else with_register n v s) ≡ f s
    both true = refl
    both false = same

set_others : (n v m : ℕ) (s : Processor) → (m == n) ≡ false → read m (set n v s) ≡ read m s
set_others n v m s other = cc

write_others : (n v m : ℕ) (s : Processor) → (m == n) ≡ false → read m (write n v s) ≡ read m s
write_others n v m s other = write_is (read m) n v s (set_others n v m s other)

-- ---- one run

-- A run of words calls what is at the target.
pub record Called (words : List ℕ) (link base back target : ℕ) (s : Processor) : Type 0 where
  pub end : Processor
  pub runs : run words s ≡ Some end
  pub keeps : (m : ℕ) → (m == link) ≡ false → (m == base) ≡ false → read m end ≡ read m s
  pub floats : end.floats ≡ s.floats
  pub memory : end.memory ≡ s.memory
  pub links : link ≢ 0 → read link end ≡ back
  pub at_target : end.pc ≡ target

pub both_call : (old new : List ℕ) (link base back new_back target new_target : ℕ) (s t : Processor)
    → AreAlikeBut no_register s t → Called old link base back target s
    → Called new link base new_back new_target t
    → EndSo old s new t (HaveCalled link base back new_back target new_target)
both_call old new link base back new_back target new_target s t alike one other =
    ends_so old new s t one.end other.end (HaveCalled link base back new_back target new_target)
    one.runs other.runs
    (record {
      alike = record {
        registers = λ m e.
            let parts = or_parts (m == link) (m == base) e in
            one.keeps m parts.0 parts.1 ∙ alike.registers m refl ∙ sym (other.keeps m parts.0 parts.1);
        floats = one.floats ∙ alike.floats ∙ sym other.floats;
        memory = one.memory ∙ alike.memory ∙ sym other.memory;
      };
      links = one.links;
      new_links = other.links;
      at_target = one.at_target;
      at_new_target = other.at_target;
    })

-- A run of words makes an address, and goes on after them.
pub record Made (words : List ℕ) (n value following : ℕ) (s : Processor) : Type 0 where
  pub end : Processor
  pub runs : run words s ≡ Some end
  pub keeps : (m : ℕ) → (m == n) ≡ false → read m end ≡ read m s
  pub floats : end.floats ≡ s.floats
  pub memory : end.memory ≡ s.memory
  pub made : read n end ≡ value
  pub next : end.pc ≡ following

pub both_make : (old new : List ℕ) (n value new_value following new_after : ℕ) (s t : Processor)
    → AreAlikeBut no_register s t → Made old n value following s → Made new n new_value new_after t
    → EndSo old s new t (HaveMade n value new_value following new_after)
both_make old new n value new_value following new_after s t alike one other =
    ends_so old new s t one.end other.end (HaveMade n value new_value following new_after) one.runs other.runs
    (record {
      alike = record {
        registers = λ m e. one.keeps m e ∙ alike.registers m refl ∙ sym (other.keeps m e);
        floats = one.floats ∙ alike.floats ∙ sym other.floats;
        memory = one.memory ∙ alike.memory ∙ sym other.memory;
      };
      made = one.made;
      new_made = other.made;
      next = one.next;
      new_next = other.next;
    })

-- ---- `pcaddu18i` and `jirl`

far : relocation_laws.Calls → (link : ℕ) (x : Operands) (before code : List ℕ) → IsCall link before 0
    → Relocated (loongarch_row names.R_LARCH_CALL36) x before code → AreAddresses x
    → (s : Processor) → s.pc ≡ x.place
    → Called (pair code (drop 4 code)) link (rd_of (word_of before)) (sum_64 x.place 8) (plt_address x) s
far calls link x before code is r small s at =
    let n = rd_of (word_of before) in
    let named = is.base_not_zero in
    let c = call_is link x before code is r in
    let p = word_of code in
    let q = word_of (drop 4 code) in
    let u = set n (far_address p s) s in
    let first : step p s ≡ Some u = rw (decodes_far p c.far, c.far_rd, ne_eqb n 0 named) in
    let second : step q u ≡ Some (go_to (register_target q u) (write link (next_pc u) u)) =
    ap (λ i. execute i q u) (decodes_jirl q c.jumps) ∙ ap (λ m. Some (go_to (register_target q u) (write m (next_pc u) u))) c.links in
    record {
      end = go_to (register_target q u) (write link (next_pc u) u);
      runs = run_pair p q s u _ first refl second;
      keeps = λ m e f. write_others link (next_pc u) m u e ∙ set_others n (far_address p s) m s f;
      floats = write_is (λ (x : Processor). x.floats) link (next_pc u) u refl;
      memory = write_is (λ (x : Processor). x.memory) link (next_pc u) u refl;
      links = λ some. write_back link (next_pc u) u some ∙ ap (λ a. sum_64 (sum_64 a 4) 4) at
          ∙ (let e : sum_64 (sum_64 x.place 4) 4 ≡ sum_64 x.place 8 = omega arith in e);
      at_target = target_is x n p q s code (new_first link x before code is r) (new_second link x before code is r) refl refl c.base named at (calls x small x.place before code r.applied tt);
    }

-- ---- `b` and `bl`

module _ (code : List ℕ) (bytes : AreBytes code) (len : length code ≡ 4) (place target : ℕ) where
  below : word_of code < 2 ^ 32
  below = word_below code bytes (omega (arith, len))

  near_jump : IsBranch 0x14 (word_of code) place target → (base back : ℕ) (t : Processor) → t.pc ≡ place
      → Called (word_of code ∷ []) 0 base back target t
  near_jump is base back t at =
      let word = word_of code in
      record {
        end = go_to (branch_target word t) t;
        runs = ap (λ i. execute i word t) (decodes_b word (omega (arith, below, is.opcode_is)));
        keeps = λ m e f. refl;
        floats = refl;
        memory = refl;
        links = λ some. absurd (some refl);
        at_target = ap (λ a. wrapped (pos a +ℤ ((loongarch_form Branch26).machine word *ℤ pos 4))) at ∙ address_is _ _ is.goes;
      }

  near_call : IsBranch 0x15 (word_of code) place target → (base : ℕ) (t : Processor) → t.pc ≡ place
      → Called (word_of code ∷ []) 1 base (sum_64 place 4) target t
  near_call is base t at =
      let word = word_of code in
      record {
        end = go_to (branch_target word t) (write 1 (next_pc t) t);
        runs = ap (λ i. execute i word t) (decodes_bl word (omega (arith, below, is.opcode_is)));
        keeps = λ m e f. write_others 1 (next_pc t) m t e;
        floats = refl;
        memory = refl;
        links = λ some. ap (λ a. sum_64 a 4) at;
        at_target = ap (λ a. wrapped (pos a +ℤ ((loongarch_form Branch26).machine word *ℤ pos 4))) at ∙ address_is _ _ is.goes;
      }

  -- `pcaddi`
  near_pcaddi : (n : ℕ) → n ≢ 0 → IsPcaddi (word_of code) n place target → (t : Processor) → t.pc ≡ place
      → Made (word_of code ∷ []) n target (sum_64 place 4) t
  near_pcaddi n some is t at =
      let word = word_of code in
      let m = nears (operands_of place target) n word target t
      (record { opcode = omega (arith, below, is.opcode); rd_is = is.register_is }) some at is.computes in
      record {
        end = set n (near_address word t) t;
        runs = m.only;
        keeps = λ q e. set_others n (near_address word t) q t e;
        floats = refl;
        memory = refl;
        made = read_back n (near_address word t) n t refl some ∙ m.value_is;
        next = ap (λ a. sum_64 a 4) at;
      }

-- ---- `pcalau12i` and what adds the low part

-- `addi.d` is no `jirl`, and gets the 12 bits
pub no_jirl : (word : ℕ) → IsAddi word → is_jirl word ≡ false
no_jirl word op = let opcode : field word 26 32 ≡ 0 = omega arith in ap (λ q. eqb q 19) opcode

low_written : (v : ℤ) (before after : List ℕ) → IsAddi (word_of before)
    → IsWritten (BitMasking (record { start = 0; end = 12 }) (of_loongarch Shift10)) AbsoluteLowPart v before after
    → InstructionWritten (of_loongarch Shift10) (record { start = 0; end = 12 }) v before after
low_written v before after op w =
    plain_written (of_loongarch Shift10) AbsoluteLowPart (record { start = 0; end = 12 }) v before after refl
    (no_jirl (word_of before) op) w

-- two instructions that set a register, the second one to a value
two_set : (x : Operands) (n v w value : ℕ) (high low : List ℕ) (s : Processor) → n ≢ 0 → s.pc ≡ x.place
    → step (word_of high) s ≡ Some (set n v s) → step (word_of low) (set n v s) ≡ Some (set n w (set n v s)) → w ≡ value
    → Made (pair high low) n value (sum_64 x.place 8) s
two_set x n v w value high low s some at first second value_is =
    let u = set n v s in
    record {
      end = set n w u;
      runs = run_pair (word_of high) (word_of low) s u _ first refl second;
      keeps = λ m e. set_others n w m u e ∙ set_others n v m s e;
      floats = refl;
      memory = refl;
      made = read_back n w n u refl some ∙ value_is;
      next = ap (λ a. sum_64 (sum_64 a 4) 4) at
          ∙ (let e : sum_64 (sum_64 x.place 4) 4 ≡ sum_64 x.place 8 = omega arith in e);
    }

pub load_run : (x : Operands) (n value : ℕ) (high low : List ℕ) (s : Processor) → n ≢ 0 → s.pc ≡ x.place
    → Loads n (word_of high) (word_of low) (loaded 8 s.memory (entry_and_addend x)) s
    → loaded 8 s.memory (entry_and_addend x) ≡ value → Made (pair high low) n value (sum_64 x.place 8) s
load_run x n value high low s some at is holds =
    two_set x n (page_address (word_of high) s) (loaded_of (word_of low) (set n (page_address (word_of high) s) s)) value
    high low s some at is.first is.second (is.value_is ∙ holds)

-- The pair with its relocations applied makes the address that its words lead to.
pub sum_run : (x y : Operands) (n target : ℕ) (old_high old_low high low : List ℕ)
    → AreOfOneRegister (word_of old_high) (word_of old_low) → IsAddi (word_of old_low)
    → rd_of (word_of old_low) ≡ n
    → IsSomeAnd (loongarch_row names.R_LARCH_PCALA_HI20) (λ row. IsApplied row x old_high high)
    → IsSomeAnd (loongarch_row names.R_LARCH_PCALA_LO12) (λ row. IsApplied row y old_low low)
    → IsAddress (pcalau12i x.place (word_of high) +ℤ signed 12 (field (word_of low) 10 22)) target
    → (s : Processor) → s.pc ≡ x.place → Made (pair high low) n target (sum_64 x.place 8) s
sum_run x y n target old_high old_low high low one op rd a d leads s at =
    let some : n ≢ 0 = λ none. one.into_own_source.not_zero (rd ∙ none) in
    let sum = adds x n (word_of high) (word_of low) target s
    (high_after 12 0x0d n _ old_high high a.written one.first (one.register ∙ rd))
    (low_after 0x00b n n _ old_low low (low_written d.value old_low low op d.written) op rd (one.into_own_source.same ∙ rd))
    some at leads in
    two_set x n (page_address (word_of high) s) (sum_of (word_of low) (set n (page_address (word_of high) s) s)) target
    high low s some at sum.first sum.second sum.value_is

-- ---- what the words of a window are

pub second_at : (section : List ℕ) (o : ℕ) → word_of (drop 4 (drop o section)) ≡ word_at section (o + 4)
second_at section o = ap word_of (drop-drop 4 o section)

-- the words of a pair in windows of 4 bytes
pub of_front : (section : List ℕ) (o : ℕ) → IsPcalaAt section o
    → AreOfOneRegister (word_of (take 4 (drop o section))) (word_of (take 4 (drop (o + 4) section)))
of_front section o is =
    rw (word_of_front (drop o section)) (subst (AreOfOneRegister (word_at section o)) (sym (word_of_front (drop (o + 4) section))) is.one_register)

-- a call that begins bytes with the same words
call_of : (link : ℕ) (section : List ℕ) (o : ℕ) (bytes : List ℕ) → 8 ≤ length bytes
    → word_of bytes ≡ word_at section o → word_of (drop 4 bytes) ≡ word_at section (o + 4)
    → IsCall link section o → IsCall link bytes 0
call_of link section o bytes long first second is =
    record {
      within = omega (arith, long);
      first = subst (λ w. w / 2 ^ 25 ≡ 0x0f) (sym first) is.first;
      base_not_zero = λ none. is.base_not_zero (ap rd_of (sym first) ∙ none);
      second = subst (λ w. w / 2 ^ 26 ≡ 0x13) (sym second) is.second;
      base = ap rj_of second ∙ is.base ∙ ap rd_of (sym first);
      links = ap rd_of second ∙ is.links;
    }

-- ---- sites

module _ (calls : relocation_laws.Calls) (section : List ℕ) (o : ℕ) (bytes : AreBytes section)
    (inside : o + 8 ≤ length section) where
  abbrev base : ℕ
  base = rd_of (word_at section o)

  abbrev link : ℕ
  link = destination section o

  -- a call with its relocation applied to bytes that begin with its words
  linked : (l : ℕ) → IsCall l section o → (before : List ℕ) → 8 ≤ length before
      → word_of before ≡ word_at section o → word_of (drop 4 before) ≡ word_at section (o + 4)
      → (x : Operands) (code : List ℕ) → Relocated (loongarch_row names.R_LARCH_CALL36) x before code
      → AreAddresses x → (s : Processor) → s.pc ≡ x.place
      → Called (pair code (drop 4 code)) link base (sum_64 x.place 8) (plt_address x) s
  linked l is before long first second x code r small s at =
      rw (is.links, ← (ap rd_of first))
      (far calls l x before code (call_of l section o before long first second is) r small s at)

  pub either : IsCall36At section o → (before : List ℕ) → 8 ≤ length before
      → word_of before ≡ word_at section o → word_of (drop 4 before) ≡ word_at section (o + 4)
      → (x : Operands) (code : List ℕ) → Relocated (loongarch_row names.R_LARCH_CALL36) x before code
      → AreAddresses x → (s : Processor) → s.pc ≡ x.place
      → Called (pair code (drop 4 code)) link base (sum_64 x.place 8) (plt_address x) s
  either (inl is) = linked 1 is
  either (inr is) = linked 0 is

  -- the object's call
  pub from_there : IsCall36At section o → (x : Operands) (code : List ℕ)
      → Relocated (loongarch_row names.R_LARCH_CALL36) x (drop o section) code → AreAddresses x
      → (s : Processor) → s.pc ≡ x.place
      → Called (pair code (drop 4 code)) link base (sum_64 x.place 8) (plt_address x) s
  from_there is =
      either is (drop o section) (omega (arith, length-drop o section, inside)) refl (second_at section o)

  -- that of 8 bytes which go to a target
  of_window : (place target : ℕ) (code : List ℕ) → place < 2 ^ 64 → target < 2 ^ 64 → AreBytes code
      → length code ≡ 8 → IsCall36At section o → IsFarCall section o place target code
      → (t : Processor) → t.pc ≡ place
      → Called (pair code (drop 4 code)) link base (sum_64 place 8) target t
  of_window place target code small reach new len is goes t at =
      let there = drop o section in
      let y = operands_of place target in
      let wide = window_length o 8 section inside in
      let same : plt_address y ≡ target = omega (arith, reach) in
      subst (λ n. Called (pair code (drop 4 code)) link base (sum_64 place 8) n t) same
      (either is (take 8 there) (omega (arith, wide)) (front_of_pair there) (back_of_pair there ∙ second_at section o) y code
      (record {
        applied = goes.relocated;
        len = len ∙ sym wide;
        old_bytes = All-take (λ byte. byte < 2 ^ 8) 8 there (All-drop (λ byte. byte < 2 ^ 8) o section bytes);
        bytes = new;
      }) (operands_small place target small reach) t at)

  no_pair : IsPcalaAt section o → IsCall36At section o → ⊥
  no_pair pcala (inl is) = omega (arith, pcala.one_register.first, is.first)
  no_pair pcala (inr is) = omega (arith, pcala.one_register.first, is.first)

  -- what a call becomes
  becomes_call : (place target : ℕ) (code : List ℕ) → place < 2 ^ 64 → target < 2 ^ 64
      → AreBytes code → IsCall36At section o → LoongArchBecomes section o place target code
      → (t : Processor) → t.pc ≡ place
      → Called (words_in (length code) code) link base (sum_64 place (length code)) target t
  becomes_call place target code small reach new is (jump links len branch) t at =
      rw (len, links.links) (near_jump code new len place target branch base (sum_64 place 4) t at)
  becomes_call place target code small reach new is (call links len branch) t at =
      rw (len, links.links) (near_call code new len place target branch base t at)
  becomes_call place target code small reach new is (far_call here len goes) t at =
      rw len (of_window place target code small reach new len is goes t at)
  becomes_call place target code small reach new is (address pcala len near) t at = absurd (no_pair pcala is)
  becomes_call place target code small reach new is (far_pair pcala len both) t at = absurd (no_pair pcala is)

  -- what an address becomes
  becomes_address : (place target : ℕ) (code : List ℕ) → AreBytes code → IsPcalaAt section o
      → LoongArchBecomes section o place target code → (t : Processor) → t.pc ≡ place
      → Made (words_in (length code) code) link target (sum_64 place (length code)) t
  becomes_address place target code new pcala (jump links len branch) t at = absurd (no_pair pcala (inr links))
  becomes_address place target code new pcala (call links len branch) t at = absurd (no_pair pcala (inl links))
  becomes_address place target code new pcala (far_call here len goes) t at = absurd (no_pair pcala here)
  becomes_address place target code new pcala (address is len near) t at =
      rw len (near_pcaddi code new len place target link is.one_register.into_own_source.not_zero near t at)
  becomes_address place target code new pcala (far_pair is len both) t at =
      let second = word_of_front (drop (o + 4) section) in
      rw (len, ← (word_of_front code))
      (sum_run (operands_of place target) (operands_of (sum_64 place 4) target) link target
      (take 4 (drop o section)) (take 4 (drop (o + 4) section)) (take 4 code) (drop 4 code)
      (of_front section o is)
      (subst IsAddi (sym second) is.second) (ap rd_of second) both.high both.low both.computes t at)

-- ---- what the object's pairs make

module _ (relative : relocation_laws.RelativeAddresses) (section : List ℕ) (o : ℕ)
    (at : IsPcalaAt section o) (x : Operands) (small : AreAddresses x) where
  abbrev high_there : List ℕ
  high_there = take 4 (drop o section)

  abbrev low_there : List ℕ
  low_there = take 4 (drop (o + 4) section)

  pub by_addi : (pcala addi : List ℕ) → Fits32 names.R_LARCH_PCALA_HI20 x
      → IsRelocated names.R_LARCH_PCALA_HI20 x high_there pcala
      → IsRelocated names.R_LARCH_PCALA_LO12 (following 4 x) low_there addi → (s : Processor) → s.pc ≡ x.place
      → Made (pair pcala addi) (destination section o) (symbol_address x) (sum_64 x.place 8) s
  by_addi pcala addi fits high low s hs =
      let second = word_of_front (drop (o + 4) section) in
      let op : IsAddi (word_of low_there) = subst IsAddi (sym second) at.second in
      sum_run x (following 4 x) (destination section o) (symbol_address x) high_there low_there pcala addi
      (of_front section o at) op (ap rd_of second) high low
      (relative.0 x small x.place high_there pcala high (subst (ValueIsWithin signed_32) high.value_is fits) (sum_64 x.place 4) low_there addi low (ap not (no_jirl (word_of low_there) op)))
      s hs

  -- an `ld.d` of which `LdToAddi` made the `addi.d`
  pub by_ld : (ld pcala_of ld_of : List ℕ) → IsLd (word_of ld) → IsRewritten kinds.LdToAddi ld low_there
      → LoadsEntry names.R_LARCH_GOT_PC_HI20 names.R_LARCH_GOT_PC_LO12 x high_there ld pcala_of ld_of
      → (s : Processor) → loaded 8 s.memory (entry_and_addend x) ≡ symbol_address x → s.pc ≡ x.place
      → Made (pair pcala_of ld_of) (destination section o) (symbol_address x) (sum_64 x.place 8) s
  by_ld ld pcala_of ld_of load made old s holds hs =
      let n = destination section o in
      let second = word_of_front (drop (o + 4) section) in
      let one = of_front section o at in
      let word = word_made (λ w. 0x02c00000 + field w 0 22) ld low_there (omega arith) made in
      let rd : rd_of (word_of ld) ≡ n = (let e : rd_of (word_of ld) ≡ rd_of (word_of low_there) = omega (arith, word) in e) ∙ ap rd_of second in
      let rj : rj_of (word_of ld) ≡ n =
      (let e : rj_of (word_of ld) ≡ rj_of (word_of low_there) = omega (arith, word) in e) ∙ one.into_own_source.same ∙ ap rd_of second in
      let some : n ≢ 0 = λ none. one.into_own_source.not_zero (ap rd_of second ∙ none) in
      let l = loads x n (word_of pcala_of) (word_of ld_of) (entry_and_addend x) s
      (high_after 12 0x0d n _ high_there pcala_of old.first.written one.first (one.register ∙ ap rd_of second))
      (low_after 0x0a3 n n _ ld ld_of old.second.written load rd rj) some hs
      (relative.1 x small x.place high_there pcala_of old.first (subst (ValueIsWithin signed_32) old.first.value_is old.fits) (sum_64 x.place 4) ld ld_of old.second tt) in
      load_run x n (symbol_address x) pcala_of ld_of s some hs l holds

-- ---- the laws

pub calls : relocation_laws.Calls → CallsTheSame
calls law p is machine i here of at x small original relocated s t hs ht alike =
    let section = p.section.bytes in
    let o = site_offset p here in
    let code = site_bytes p here in
    let place = site_place p here in
    let target = site_target p here in
    let link = destination section o in
    let base = rd_of (word_at section o) in
    let inside = site_inside p i here of in
    let final : LoongArchBecomes section o place target code =
    subst (λ m. SiteBecomes m p.section here code) machine (site_becomes p is i here of) in
    both_call (pair original (drop 4 original)) (words_in (site_len p here) code) link base
    (sum_64 x.place 8) (site_after p here) (plt_address x) target s t alike
    (from_there law section o is.section_bytes inside at x original relocated small s hs)
    (subst (λ n. Called (words_in n code) link base (sum_64 place n) target t) (site_length p is i here of)
    (becomes_call law section o is.section_bytes inside place target code (omega arith) (omega arith)
    (site_small p is here) at final t ht))

-- what a site makes in the final section
module _ (law : relocation_laws.Calls) (p : Packed) (is : IsPacked p) (machine : p.machine ≡ LoongArch64)
    (i : ℕ) (here : sites) (of : IsSiteOf p i here)
    (at : IsPcalaAt p.section.bytes (site_offset p here)) where
  made_there : (t : Processor) → t.pc ≡ site_place p here
      → Made (words_in (site_len p here) (site_bytes p here)) (destination p.section.bytes (site_offset p here))
      (site_target p here) (site_after p here) t
  made_there t ht =
      let section = p.section.bytes in
      let o = site_offset p here in
      let code = site_bytes p here in
      let place = site_place p here in
      let target = site_target p here in
      let final : LoongArchBecomes section o place target code =
      subst (λ m. SiteBecomes m p.section here code) machine (site_becomes p is i here of) in
      subst (λ n. Made (words_in n code) (destination section o) target (sum_64 place n) t) (site_length p is i here of)
      (becomes_address law section o is.section_bytes (site_inside p i here of) place target code
      (site_small p is here) at final t ht)

pub addresses : relocation_laws.Calls → relocation_laws.RelativeAddresses → AddressesAreMade
addresses law relative p is machine i here of at x small pcala addi fits high low s t hs ht alike =
    let section = p.section.bytes in
    let o = site_offset p here in
    both_make (pair pcala addi) (words_in (site_len p here) (site_bytes p here)) (destination section o)
    (symbol_address x) (site_target p here) (sum_64 x.place 8) (site_after p here) s t alike
    (by_addi relative section o at x small pcala addi fits high low s hs)
    (made_there law p is machine i here of at t ht)

pub loaded_addresses : relocation_laws.Calls → relocation_laws.RelativeAddresses → LoadedAddressesAreMade
loaded_addresses law relative p is machine i here of at x small ld pcala_of ld_of load made old s t holds hs ht alike =
    let section = p.section.bytes in
    let o = site_offset p here in
    both_make (pair pcala_of ld_of) (words_in (site_len p here) (site_bytes p here)) (destination section o)
    (symbol_address x) (site_target p here) (sum_64 x.place 8) (site_after p here) s t alike
    (by_ld relative section o at x small ld pcala_of ld_of load made old s holds hs)
    (made_there law p is machine i here of at t ht)

-- ---- calls and addresses that stay

abbrev call_row : RowInfo
call_row = the_row (loongarch_row names.R_LARCH_CALL36)

abbrev high_row : RowInfo
high_row = the_row (loongarch_row names.R_LARCH_PCALA_HI20)

abbrev low_row : RowInfo
low_row = the_row (loongarch_row names.R_LARCH_PCALA_LO12)

-- The relocation of an instruction that stays is applied to it.
module _ (p : Packed) (is : IsPacked p) (machine : p.machine ≡ LoongArch64) (i : ℕ)
    (name : LoongArch64Relocation) (n : ℕ) (stays : StaysAs p i name n) (row : RowInfo)
    (bits : BitRange) (insn : AnyForm) (row_is : loongarch_row name ≡ Some row)
    (size : row.size ≡ BitMasking bits insn) (wide : window_len row ≡ n)
    (has : has_value row.kind ≡ true) (unlabelled : names_label row.size row.kind ≡ false) (symbol : Symbol)
    (symbol_is : slice_get p.symbols (relocation_in p.relocations_after i).symbol ≡ Some symbol)
    (y : Operands)
    (taken : operands_in architectures.LoongArch64 p.addresses row (relocation_in p.relocations_after i) (Some symbol) ≡ Ok y)
    (is_some : IsSomeAnd (value_of row y) (λ _. ⊤)) where
  applied : IsApplied row y (take n (drop (offset_at p.relocations i) p.section.bytes))
      (take n (drop (place_of p (offset_at p.relocations i)) p.final))
  applied =
      rw (← wide) (instructions p is i row y
      (valued p i stays.within architectures.LoongArch64 (ap architecture_of machine) row
      (record { name = name; is_name = stays.is_name; value_is = sym row_is }) bits insn size has unlabelled symbol symbol_is y taken is_some)
      (λ k below. stays.stays k (rw (← wide) below)))

pub long_calls : relocation_laws.Calls → LongCallsStay
long_calls law p is machine i stays at symbol symbol_is small x small_x original relocated s t hs ht alike =
    let section = p.section.bytes in
    let o = offset_at p.relocations i in
    let y = operands_at p i call_row symbol in
    let there = drop o section in
    let code = take 8 (drop (place_of p o) p.final) in
    let inside = stay_inside p is o 8 (omega arith) stays.stays in
    let fits = places_inside p is o 8 (omega arith) stays.stays in
    let wide = window_length o 8 section inside in
    both_call (pair original (drop 4 original)) (pair code (drop 4 code)) (destination section o) (rd_of (word_at section o))
    (sum_64 x.place 8) (sum_64 y.place 8) (plt_address x) (plt_address y) s t alike
    (from_there law section o is.section_bytes inside at x original relocated small_x s hs)
    (either law section o is.section_bytes inside at (take 8 there) (omega (arith, wide)) (front_of_pair there)
    (back_of_pair there ∙ second_at section o) y code
    (record {
      applied = applied p is machine i names.R_LARCH_CALL36 8 stays call_row _ _ refl refl refl refl refl symbol symbol_is y refl tt;
      len = window_length (place_of p o) 8 p.final (omega (arith, fits, is.written.same_length)) ∙ sym wide;
      old_bytes = All-take (λ byte. byte < 2 ^ 8) 8 there (All-drop (λ byte. byte < 2 ^ 8) o section is.section_bytes);
      bytes = All-take (λ byte. byte < 2 ^ 8) 8 (drop (place_of p o) p.final) (All-drop (λ byte. byte < 2 ^ 8) (place_of p o) p.final is.final_bytes);
    }) small t ht)

-- ---- pairs

module _ (relative : relocation_laws.RelativeAddresses) (p : Packed) (is : IsPacked p)
    (machine : p.machine ≡ LoongArch64) (i j : ℕ) (of : IsPairOf p i j) (symbol : Symbol)
    (symbol_is : slice_get p.symbols (relocation_in p.relocations_after i).symbol ≡ Some symbol)
    (small : AreAddresses (operands_at p i high_row symbol))
    (fits : Fits32 names.R_LARCH_PCALA_HI20 (operands_at p i high_row symbol)) where
  abbrev y : Operands
  y = operands_at p i high_row symbol

  -- where the second instruction goes
  next_place : place_of p ((offset_at p.relocations i) + 4) ≡ place_of p (offset_at p.relocations i) + 4
  next_place = place_after p is (offset_at p.relocations i) 4 (omega arith) of.high.stays

  low_place : sum_64 p.addresses.section (offset_at p.relocations_after j) ≡ sum_64 y.place 4
  low_place =
      let first = (is.moved i of.high.within).offset (omega (arith, (of.high.stays 0 (omega arith)).inside)) in
      let second = (is.moved j of.low.within).offset (omega (arith, (of.low.stays 0 (omega arith)).inside)) in
      omega (arith, first, second, next_place, ap (place_of p) of.next)

  low_applied : IsApplied low_row (following 4 y) (take 4 (drop ((offset_at p.relocations i) + 4) p.section.bytes))
      (take 4 (drop (place_of p (offset_at p.relocations i) + 4) p.final))
  low_applied =
      let own = applied p is machine j names.R_LARCH_PCALA_LO12 4 of.low low_row _ _ refl refl refl refl refl symbol
      (ap (slice_get p.symbols) of.same_symbol ∙ symbol_is) (operands_at p j low_row symbol) refl tt in
      let there : IsApplied low_row (operands_at p j low_row symbol) (take 4 (drop ((offset_at p.relocations i) + 4) p.section.bytes)) (take 4 (drop (place_of p ((offset_at p.relocations i) + 4)) p.final)) =
      rw (← of.next) own in
      rw (← next_place, ← low_place, ← of.same_addend) there

  final_pair : (t : Processor) → t.pc ≡ y.place
      → Made (pair (take 4 (drop (place_of p (offset_at p.relocations i)) p.final)) (take 4 (drop (place_of p (offset_at p.relocations i) + 4) p.final)))
      (destination p.section.bytes (offset_at p.relocations i)) (symbol_address y) (sum_64 y.place 8) t
  final_pair t ht =
      by_addi relative p.section.bytes (offset_at p.relocations i) of.pair y small (take 4 (drop (place_of p (offset_at p.relocations i)) p.final))
      (take 4 (drop (place_of p (offset_at p.relocations i) + 4) p.final)) fits
      (applied p is machine i names.R_LARCH_PCALA_HI20 4 of.high high_row _ _ refl refl refl refl refl symbol symbol_is y refl tt)
      low_applied t ht

pub long_addresses : relocation_laws.RelativeAddresses → LongAddressesStay
long_addresses relative p is machine i j of symbol symbol_is small fits x small_x pcala addi fits_x high low s t hs ht alike =
    let section = p.section.bytes in
    let o = offset_at p.relocations i in
    let y = operands_at p i high_row symbol in
    both_make (pair pcala addi) (pair (take 4 (drop (place_of p o) p.final)) (take 4 (drop (place_of p o + 4) p.final)))
    (destination section o) (symbol_address x) (symbol_address y) (sum_64 x.place 8) (sum_64 y.place 8) s t alike
    (by_addi relative section o of.pair x small_x pcala addi fits_x high low s hs)
    (final_pair relative p is machine i j of symbol symbol_is small fits t ht)

pub long_loaded_addresses : relocation_laws.RelativeAddresses → LongLoadedAddressesStay
long_loaded_addresses relative p is machine i j of symbol symbol_is small fits x small_x ld pcala_of ld_of load made old s t holds hs ht alike =
    let section = p.section.bytes in
    let o = offset_at p.relocations i in
    let y = operands_at p i high_row symbol in
    both_make (pair pcala_of ld_of) (pair (take 4 (drop (place_of p o) p.final)) (take 4 (drop (place_of p o + 4) p.final)))
    (destination section o) (symbol_address x) (symbol_address y) (sum_64 x.place 8) (sum_64 y.place 8) s t alike
    (by_ld relative section o of.pair x small_x ld pcala_of ld_of load made old s holds hs)
    (final_pair relative p is machine i j of symbol symbol_is small fits t ht)
