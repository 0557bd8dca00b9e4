-- RISC-V: calls in the final bytes of a packed section, and what is deleted of it.
use Rattle.linker_final.proofs.Imports.{All-drop, All-take, AreAddresses, AreBytes, AreDeleted as IsGone, CallStays, DeletedLui, HasWord, IsApplied, IsBefore, IsCallPair, IsLow12, IsLowOffset, IsLui, IsSomeAnd, List, Operands, Packed, RiscV, RiscVRelocation, Site, SiteBecomes, Some, State, address_is, ap, arith, call, cj_goes, drop, drop-drop, eqb-true, even, field, from_le_bytes, if◌then◌else◌, inl, inr, jal_goes, jump, jump_group, length, length-drop, link_register, offset_at, operands_small, operands_with, place_of, plt_address, rd_of, refl, relocation_in, riscv_matches, riscv_relocation, short_jump, site_bytes, site_len, site_offset, site_place, site_target, subst, sym, take, take_all, w16, w32, word_at, ℕ, ◌%◌, ◌+◌, ◌-◌, ◌<◌, ◌^◌, ◌∙◌, ◌≡◌, ◌≢◌, ◌≤◌}
use Rattle.linker_final.specs.RiscVSection.{CallIsAlike, HighPartsAreLeftOut, IsOfCall, LongCallsStay, LuiIsLeftOut, SitesCallTheSame, SumIsLeftOut, call_row, instructions_in, landing}
use Rattle.linker_laws.specs.RiscVGroups.{Code, Groups, AreDeleted}
use Rattle.linker_final.proofs.PackedBytes.{instructions, valued, no_place, places_inside, site_becomes, site_inside, site_length, site_small, stay_inside}
use Rattle.linker_final.proofs.Written.{back_of_pair, front_of_pair, window_length}
use Rattle.linker_riscv64.specs.declared.calls.LinkRegister.TheVariants.{OfJalr}
use Rattle.linker_runs.specs.Origins.{HasItsInstructions}
use Rattle.linker_runs.specs.RiscVItems.{IsCallAt}
use Rattle.linker_runs.specs.RiscVSites.{RiscVBecomes}
use Rattle.linker_runs.specs.Sites.{operands_of}
use Rattle.linker_utils.specs.declared.riscv64.rewrites.RewriteKind.{RewriteKind}
use Rattle.linker_runs.specs.Machines.{RiscV64}
use Rattle.linker_elf.specs.declared.riscv64.relocations.RiscVRelocation.TheVariants as names
use Rattle.linker_utils.specs.declared.riscv64.rewrites.RewriteKind.TheVariants as kinds

-- both relocations of calls have one row
of_either : (P : RiscVRelocation → Type 0) (name : RiscVRelocation) → IsOfCall name
    → P names.R_RISCV_CALL → P names.R_RISCV_CALL_PLT → P name
of_either P name (inl e) first second = subst P (sym e) first
of_either P name (inr e) first second = subst P (sym e) second

-- ---- the words of a call

module _ (groups : Groups) (section : List ℕ) (o : ℕ) (bytes : AreBytes section)
    (is : IsCallAt section o) (inside : o + 8 ≤ length section) where
  abbrev window : List ℕ
  window = take 8 (drop o section)

  second_is : from_le_bytes w32 (drop 4 window) ≡ word_at section (o + 4)
  second_is = back_of_pair (drop o section) ∙ ap (from_le_bytes w32) (drop-drop 4 o section)

  pair : IsCallPair (from_le_bytes w32 window) (from_le_bytes w32 (drop 4 window))
  pair = rw (front_of_pair (drop o section), second_is) is.pair

  some : rd_of (from_le_bytes w32 window) ≢ 0
  some none = is.not_zero (ap rd_of (sym (front_of_pair (drop o section))) ∙ none)

  -- where both instructions stay
  long : (y : Operands) (target : ℕ) (final : List ℕ) → AreAddresses y → target ≡ even plt_address y
      → IsSomeAnd (riscv_relocation names.R_RISCV_CALL_PLT).row (λ row. IsApplied row y window (take 8 final))
      → AreBytes (take 8 final) → length (take 8 final) ≡ 8 → (name : RiscVRelocation) → IsOfCall name
      → CallIsAlike window y 8 2 target (take 8 final) name
  long y target final sy is_target applied new len name of =
      of_either (CallIsAlike window y 8 2 target (take 8 final)) name of (by groups.long_calls.0)
      (by groups.long_calls.1)
    where
      by : CallStays names.R_RISCV_CALL_PLT → CallIsAlike window y 8 2 target (take 8 final) names.R_RISCV_CALL_PLT
      by stays c x k s sx at leads old stands =
          stays y window sy pair some c x k s sx at (sym is_target ∙ leads) old
          (record {
            relocated = take 8 final;
            applied = record {
              applied = applied;
              len = len ∙ sym (window_length o 8 section inside);
              old_bytes = All-take (λ b. b < 2 ^ 8) 8 (drop o section) (All-drop (λ b. b < 2 ^ 8) o section bytes);
              bytes = new;
            };
            stands = stands;
          })

  -- what a site becomes
  becomes : (place target n : ℕ) (final : List ℕ) → place < 2 ^ 64 → target < 2 ^ 64 → AreBytes final
      → length final ≡ n → RiscVBecomes RiscV64 section o place target final → (name : RiscVRelocation) → IsOfCall name
      → CallIsAlike window (operands_of place target) n (instructions_in n) (landing n target) final name
  becomes place target n final small reach new same (short_jump len none cj) name of =
      subst (λ m. CallIsAlike window (operands_of place target) m (instructions_in m) (landing m target) final name)
      (sym len ∙ same)
      (of_either (CallIsAlike window (operands_of place target) 2 1 target final) name of goes goes)
    where
      goes : CallIsAlike window (operands_of place target) 2 1 target final names.R_RISCV_CALL
      goes c x k s sx at leads old stands =
          jump_group c x (operands_of place target) k s window 2 sx at target leads pair some old
          (cj_goes c.others c.new place _ target final stands cj.quadrant (subst (λ b. field (from_le_bytes w16 final) 13 16 ≡ (if b then 5 else 1)) none cj.function) (ap rd_of second_is ∙ eqb-true (link_register OfJalr section o) 0 none)
          (address_is _ target cj.goes))
  becomes place target n final small reach new same (jump len jal) name of =
      subst (λ m. CallIsAlike window (operands_of place target) m (instructions_in m) (landing m target) final name)
      (sym len ∙ same)
      (of_either (CallIsAlike window (operands_of place target) 4 1 target final) name of goes goes)
    where
      goes : CallIsAlike window (operands_of place target) 4 1 target final names.R_RISCV_CALL
      goes c x k s sx at leads old stands =
          jump_group c x (operands_of place target) k s window 4 sx at target leads pair some old
          (jal_goes c.others c.new place _ target final stands jal.opcode (jal.links ∙ sym (ap rd_of second_is))
          (address_is _ target jal.goes))
  becomes place target n final small reach new same (call len far) name of =
      let y = operands_of place target in
      let plt : target ≡ plt_address y = omega (arith, reach) in
      let whole : take 8 final ≡ final = take_all 8 final (omega (arith, len)) in
      subst (λ m. CallIsAlike window y m (instructions_in m) (landing m target) final name) (sym len ∙ same)
      (subst (λ f. CallIsAlike window y 8 2 (target - target % 2) f name) whole
      (long y (target - target % 2) final (operands_small place target small reach) (ap (λ t. t - t % 2) plt)
      (subst (λ f. IsSomeAnd (riscv_relocation names.R_RISCV_CALL_PLT).row (λ row. IsApplied row y window f))
      (sym whole) far.relocated)
      (All-take (λ b. b < 2 ^ 8) 8 final new) (ap length whole ∙ len) name of))

-- ---- calls of sites

pub sites : Groups → SitesCallTheSame
sites groups p is riscv i site of name of_call =
    let s = p.section in
    let o = site_offset p site in
    let code = site_bytes p site in
    let final : RiscVBecomes RiscV64 s.bytes o (site_place p site) (site_target p site) code =
    subst (λ m. SiteBecomes m s site code) riscv (site_becomes p is i site of) in
    let has = subst (λ m. HasItsInstructions m s.bytes s.base (Site site)) riscv of.there in
    becomes groups s.bytes o is.section_bytes has.3.0 (site_inside p i site of) (site_place p site)
    (site_target p site) (site_len p site) code (omega arith) (omega arith) (site_small p is site)
    (site_length p is i site of) final name of_call

-- ---- calls that stay

pub long_calls : Groups → LongCallsStay
long_calls groups p is riscv i name stays symbol symbol_is small other_name of =
    let o = offset_at p.relocations i in
    let r = relocation_in p.relocations_after i in
    let y = operands_with RiscV p.addresses call_row symbol r 0 in
    let row_is = of_either (λ n. (riscv_relocation n).row ≡ Some call_row) name stays.of_call refl refl in
    let applied = instructions p is i call_row y
    (valued p i stays.within RiscV riscv call_row (record { name = name; is_name = stays.is_name; value_is = sym row_is }) _ _
    refl refl refl symbol symbol_is y refl tt) stays.stays in
    let inside = stay_inside p is o 8 (omega arith) stays.stays in
    let final = drop (place_of p o) p.final in
    long groups p.section.bytes o is.section_bytes stays.call inside y (even plt_address y) final small refl applied
    (All-take (λ b. b < 2 ^ 8) 8 final (All-drop (λ b. b < 2 ^ 8) (place_of p o) p.final is.final_bytes))
    (window_length (place_of p o) 8 p.final (omega (arith, places_inside p is o 8 (omega arith) stays.stays, is.written.same_length))) other_name of

-- ---- instructions that are deleted

-- new has nothing of the bytes
gone_in : (p : Packed) (o : ℕ) (c : Code) (s : State) → IsGone p o 4 → IsBefore p o c.moved s.pc → AreDeleted c 4 s
gone_in p o c s gone before =
    record { small = before.small; moved = before.place ∙ sym (no_place p o 4 gone) ∙ sym before.next }

-- a `lui` of a number of 12 bits
left_out : (kind : RewriteKind) (name : RiscVRelocation) (IsLow : Operands → Type 0)
    → ((section : List ℕ) (o : ℕ) → HasWord section o IsLui → riscv_matches kind (drop o section) 0)
    → DeletedLui kind name IsLow → LuiIsLeftOut name IsLow
left_out kind name IsLow matches group p is riscv o word gone c x k s before low has =
    group (drop o p.section.bytes) (matches p.section.bytes o word) word.1 c x k s (gone_in p o c s gone before) low has

inside : (section : List ℕ) (o : ℕ) → o + 4 ≤ length section → 4 ≤ length (drop o section)
inside section o long = omega (arith, long, length-drop o section)

pub high_parts : Groups → HighPartsAreLeftOut
high_parts groups = (
  left_out kinds.Hi20Delete names.R_RISCV_HI20 IsLow12 (λ section o word. (inside section o word.0, word.1))
      groups.no_high_parts,
  left_out kinds.Delete names.R_RISCV_TPREL_HI20 IsLowOffset (λ section o word. (inside section o word.0, tt))
      groups.high_offsets,
)

pub sums : Groups → SumIsLeftOut
sums groups p is riscv o word gone c k s before none below stands =
    groups.sums (drop o p.section.bytes) word.1 c k s (gone_in p o c s gone before) none below stands
