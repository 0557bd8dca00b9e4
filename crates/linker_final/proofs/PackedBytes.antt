-- The final bytes of a section that was packed.
use Rattle.linker_final.proofs.Imports.{Addresses, Adds, Aligned, AlignmentsHold, All-drop, All-from_get_or, All-take, AnyForm, Architecture, AreBytes, AreDeleted, AreRelaxedAndPacked, BType, BitMasking, BitRange, Branch21, Branch26, CbType, CjType, DeletedBytesAreGone, Goes, HasValue, HoldsIn, InstructionsAreRelocated, IsAddress, IsAligned, IsApplied, IsInside, IsKeptInstruction, IsOfRun, IsPacked, IsRewrittenAndPacked, IsRow, IsSiteOf, IsSkipped, IsSomeAnd, IsTrue, IsUnwritten, Item, ItemBecomes, ItemsAreDeleted, JType, KeptBytesStay, Linked, List, LoongArch64, LoongArch64Relocation, LoongArchBranchesGo, Machine, MatchOption, None, Ok, Operands, Option, Packed, PaddingIsNops, PlacesAreRelocated, PlacesHaveAddresses, RecordsDeletions, Rela, RiscVBranchesGo, RiscVRelocation, RowInfo, Run, SectionsAreAligned, Shift10, Shift5, Site, SiteBecomes, Some, StayTogether, Stays, Symbol, UntouchedBytes, UntouchedInstruction, address_at, address_of, ap, architecture_of, arith, bytes_row, cases_Bool, cases_lt, count, deletions_of_run, div-add-mod', drop, false, final_number, get_or, has_value, here, inl, inr, instruction_at, is_fixed, kept_len, length, loongarch_form, loongarch_row, mod-mul-add, names_label, nops, offset_at, operands_in, operands_with, packed_of, packed_offset, padding_at, padding_len, place, place_of, plt_address, pos, refl, relocation_in, riscv_form, riscv_row, site_bytes, site_len, site_offset, slice_get, some_window, subst, suc, sum_64, sym, symbol_address, take, true, value_of, window_len, zero, ℕ, ℤ, ⊤, ◌%◌, ◌*ℤ◌, ◌*◌, ◌+ℤ◌, ◌+◌, ◌-◌, ◌/◌, ◌<◌, ◌^◌, ◌∙◌, ◌≡◌, ◌≢◌, ◌≤◌, ◌⊎◌}
use Rattle.linker_runs.specs.Relaxing.{IsSound, end_of, freed_before, item_at, needed, choice_of, offset_of}
use Rattle.linker_runs.specs.Packing.{Section}
use Rattle.linker_base.proofs.Rank.{rank-le, rank-mono, rank_all_kept, rank_gone, rank_kept, selected_once}
use Rattle.linker_base.specs.Deletions.{IsValid, is_kept, rank}
use Rattle.linker_base.specs.Listed.{AreValidDeltas}
use Rattle.linker_base.specs.declared.relaxation.RelaxDelta.{RelaxDelta}
use Rattle.linker_elf.specs.declared.elf.RelocationKind.TheVariants.{None as NoValue}
use Rattle.linker_final.proofs.Written.{none_written, IsOfInstruction, applied as applied_there, applied_to_window as applied, later_as_many, later_bytes, later_keep, later_length, rela, rela_at, same_windows, some_value, window_length, windows, with_operands}
use Rattle.linker_final.specs.declared.packed.RunSection.{RunSection}
use Rattle.linker_runs.proofs.First.{first_bytes}
use Rattle.linker_runs.proofs.Layouts.{freed_fits}
use Rattle.linker_runs.proofs.Multiples.{needed_fills, no_rest}
use Rattle.linker_runs.proofs.Translations.{translations_exact}
use Rattle.linker_runs.specs.Choosing.{AreItems, IsExact, IsExactItem, IsRelaxation}
use Rattle.linker_runs.specs.declared.packing.Machine.TheVariants.{RiscV}
use Rattle.linker_runs.specs.declared.relaxation.Alignment.{Alignment}
use Rattle.linker_runs.specs.declared.relaxation.Site.{Site as sites}
use Rattle.std.proofs.Math.Nat.{mod-eq_of_lt, mod-lt, mod_self}
use Rattle.linker_final.specs.Packed as packed
use Rattle.linker_elf.specs.declared.loongarch64.relocations.LoongArch64Relocation.TheVariants as loongarch_names
use Rattle.linker_elf.specs.declared.riscv64.relocations.RiscVRelocation.TheVariants as riscv_names
use Rattle.linker_laws.specs.LoongArchRelocationLaws as loongarch_laws
use Rattle.linker_laws.specs.RiscVRelocationLaws as riscv_laws

-- ---- lists

-- what slices have
pub are_bytes : (bytes : List ℕ) → ((i : ℕ) → get_or bytes i 0 < 2 ^ 8) → AreBytes bytes
are_bytes bytes small = All-from_get_or (λ b. b < 2 ^ 8) bytes 0 (λ i below. small i)

-- ---- single bytes

packed_byte : (p : Packed) → IsPacked p → (o : ℕ) → Stays p o
    → get_or p.packed (place_of p o) 0 ≡ get_or p.section.bytes o 0
packed_byte p is o stays = is.run.kept o stays.inside stays.kept stays.own

pub kept_bytes : KeptBytesStay
kept_bytes p is o stays free =
    none_written is.written (place_of p o) (free (place_of p o) (omega arith) (omega arith))
    ∙ packed_byte p is o stays

-- ---- parts of the section

-- what no field has stays as it is packed
pub packed_there : (p : Packed) → IsPacked p → (start len : ℕ)
    → IsUnwritten p start len → take len (drop start p.final) ≡ take len (drop start p.packed)
packed_there p is start len free =
    same_windows start len p.final p.packed (sym is.written.same_length)
    (λ at from less. none_written is.written at (free at from less))

-- an item's bytes that stay lie in the packed section
pub item_inside : (p : Packed) → IsPacked p → (item : Item) → IsInside p.section item
    → packed_offset p.section (offset_of item) + kept_len p.section.deletions item ≤ length p.packed
item_inside p is item inside =
    let s = p.section in
    let d = s.deletions in
    let b = rank-mono d (offset_of item) (end_of item) (omega arith) in
    omega (arith, rank-mono d s.base (offset_of item) inside.0, b, rank-mono d (end_of item) (s.base + length s.bytes) inside.1, is.run.len)

-- ---- bytes that stay together

module _ (p : Packed) (is : IsPacked p) (o n : ℕ) (some : 0 < n) (stay : StayTogether p o n) where
  -- they go next to each other
  next_place : (k : ℕ) → k < n → place_of p (o + k) ≡ place_of p o + k
  next_place k below =
      let d = p.section.deletions in
      let b = p.section.base in
      let all = rank_all_kept d (b + o) k (λ m low.
      subst (λ q. IsTrue (is_kept d q)) (let e : b + (o + m) ≡ b + o + m = omega arith in e) (stay m (omega (arith, low, below))).kept) in
      let e = ap (rank d) (let far : b + (o + k) ≡ b + o + k = omega arith in far) in
      omega (arith, all, rank-mono d b (b + o) (omega arith), e)

  -- and what is after them goes after them
  pub place_after : place_of p (o + n) ≡ place_of p o + n
  place_after =
      let d = p.section.deletions in
      let b = p.section.base in
      let counted = rank_kept d (b + (o + (n - 1))) (stay (n - 1) (omega (arith, some))).kept in
      let e = ap (rank d) (let far : b + (o + n) ≡ suc (b + (o + (n - 1))) = omega (arith, some) in far) in
      omega (arith, next_place (n - 1) (omega (arith, some)), counted, rank-mono d b (b + (o + (n - 1))) (omega arith), e, some)

  pub stay_inside : o + n ≤ length p.section.bytes
  stay_inside = omega (arith, some, (stay (n - 1) (omega (arith, some))).inside)

  pub places_inside : place_of p o + n ≤ length p.packed
  places_inside =
      let d = p.section.deletions in
      let b = p.section.base in
      let last = stay (n - 1) (omega (arith, some)) in
      let mono = rank-mono d (suc (b + (o + (n - 1)))) (b + length p.section.bytes) (omega (arith, last.inside)) in
      let low = rank-mono d b (b + (o + (n - 1))) (omega arith) in
      omega (arith, some, next_place (n - 1) (omega (arith, some)), rank_kept d (b + (o + (n - 1))) last.kept, mono, low, is.run.len)

  pub same_there : take n (drop (place_of p o) p.packed) ≡ take n (drop o p.section.bytes)
  same_there =
      let lx = window_length (place_of p o) n p.packed places_inside in
      let ly = window_length o n p.section.bytes stay_inside in
      cc (windows (place_of p o) o n p.packed p.section.bytes (omega (arith, lx, ly)) (λ k less. ap (λ m. get_or p.packed m 0) (sym (next_place k less)) ∙ packed_byte p is (o + k) (stay k less)))

-- ---- padding

pub padding : PaddingIsNops
padding p is i alignment below here inside free =
    let item = Aligned alignment in
    let d = p.section.deletions in
    let kept = kept_len d item in
    let place = packed_offset p.section (offset_of item) in
    let written = subst (λ x. is_fixed x ≡ false
    → ItemBecomes p.machine p.section x (take (kept_len d x) (drop (packed_offset p.section (offset_of x)) p.packed)))
    here (is.run.written i below) refl in
    packed_there p is place kept free
    ∙ (written ∙ ap (nops p.machine) (window_length place kept p.packed (item_inside p is item inside)))

-- ---- places

module _ (p : Packed) where
  abbrev s : Section
  s = p.section

  -- a place is that of one of the first bytes
  find : (place n : ℕ) → rank s.deletions s.base + place < rank s.deletions (s.base + n)
      → (o : ℕ) × (o < n) × IsTrue (is_kept s.deletions (s.base + o))
      × (rank s.deletions (s.base + o) ≡ rank s.deletions s.base + place)
  find place zero below =
      let e : s.base + 0 ≡ s.base = omega arith in
      absurd (let f = ap (rank s.deletions) e in omega (arith, below, f))
  find place (suc n) below =
      let d = s.deletions in
      let next = ap (rank d) (let e : s.base + suc n ≡ suc (s.base + n) = omega arith in e) in
      elim (cases_lt (rank d s.base + place) (rank d (s.base + n))) [
        | inl less ↦ let f = find place n less in (f.0, let l = f.1 in omega (arith, l), f.2, f.3)
        | inr most ↦ elim (cases_Bool (is_kept d (s.base + n))) [
          | inl kept ↦
              (n, omega arith, kept, omega (arith, rank_kept d (s.base + n) kept, most, below, next))
          | inr gone ↦
              absurd (omega (arith, rank_gone d (s.base + n) gone, most, below, next))
        ]
      ]

pub deleted_bytes : DeletedBytesAreGone
deleted_bytes p is = (
  λ place below.
      let s = p.section in
      let d = s.deletions in
      let found = find p place (length s.bytes) (omega (arith, below, is.run.len, is.written.same_length)) in
      let o = found.0 in
      let ranked = found.3 in (
        o,
        record {
          inside = found.1;
          kept = found.2;
          there = omega (arith, ranked);
          alone = λ other stays there.
              let once = selected_once d (rank d s.base + place) (s.base + other) (s.base + o)
              (record { kept = stays; ranked = omega (arith, rank-mono d s.base (s.base + other) (omega arith), there) })
              (record { kept = found.2; ranked = ranked }) in
              omega (arith, once);
        },
      ),
  λ o below stays.
      let s = p.section in
      let d = s.deletions in
      let high = rank-mono d (suc (s.base + o)) (s.base + length s.bytes) (omega (arith, below)) in
      omega (arith, rank_kept d (s.base + o) stays, rank-mono d s.base (s.base + o) (omega arith), high, is.run.len, is.written.same_length),
)

pub addresses : PlacesHaveAddresses
addresses p is o =
    let s = p.section in
    omega (arith, is.address, rank-mono s.deletions s.base (s.base + o) (omega arith))

-- what is deleted takes no place
pub no_place : (p : Packed) (o n : ℕ) → AreDeleted p o n → address_at p (o + n) ≡ address_at p o
no_place p o zero gone = ap (address_at p) (let e : o + 0 ≡ o = omega arith in e)
no_place p o (suc n) gone =
    let s = p.section in
    let e : s.base + (o + suc n) ≡ suc (s.base + (o + n)) = omega arith in
    ap (λ r. sum_64 s.start r) (ap (rank s.deletions) e ∙ (rank_gone s.deletions (s.base + (o + n)) (gone n (omega arith))))
    ∙ no_place p o n (λ k below. gone k (omega (arith, below)))

pub deleted_items : ItemsAreDeleted
deleted_items p item from none k below =
    let d = p.section.deletions in
    let q = p.section.base + (offset_of item - p.section.base + k) in
    let there : q ≡ offset_of item + k = omega (arith, from) in
    elim (cases_Bool (is_kept d q)) [
      | inl kept ↦
          let high = rank-mono d (suc q) (end_of item) (omega (arith, there, below)) in
          absurd (omega (arith, rank_kept d q kept, rank-mono d (offset_of item) q (omega (arith, there)), high, none))
      | inr gone ↦ gone
    ]

-- ---- relocated instructions that stay

pub places : PlacesAreRelocated
places p is i row operands of inside =
    let has : IsSomeAnd (value_of row operands) (λ _. ⊤) = rw of.value_is tt in
    let there = applied (architecture_of p.machine) p.addresses p.relocations_after p.symbols p.packed p.final
    is.written i of.within row of.bits of.insn of.size of.has of.unlabelled of.is_row operands of.taken has in
    rw (← ((is.moved i of.within).offset inside)) there

pub instructions : InstructionsAreRelocated
instructions p is i row operands of stays =
    let o = offset_at p.relocations i in
    let some : 0 < window_len row = rw of.size (some_window of.insn) in
    rw (← (same_there p is o (window_len row) some stays)) (places p is i row operands of (omega (arith, (stays 0 some).inside)))

-- ---- sites

-- in the section before
pub site_inside : (p : Packed) (i : ℕ) (here : sites) → IsSiteOf p i here
    → site_offset p here + 8 ≤ length p.section.bytes
site_inside p i here of = omega (arith, of.there.1, of.there.2)

module _ (p : Packed) (is : IsPacked p) where
  pub site_small : (here : sites) → AreBytes (site_bytes p here)
  site_small here =
      All-take (λ b. b < 2 ^ 8) (site_len p here) (drop (packed_offset p.section here.offset) p.final)
      (All-drop (λ b. b < 2 ^ 8) (packed_offset p.section here.offset) p.final is.final_bytes)

  module _ (i : ℕ) (here : sites) (of : IsSiteOf p i here) where
    pub site_length : length (site_bytes p here) ≡ site_len p here
    site_length =
        let fits = item_inside p is (Site here) (of.there.1, omega (arith, of.there.2, of.there.0)) in
        window_length (packed_offset p.section here.offset) (site_len p here) p.final (omega (arith, fits, is.written.same_length))

    pub site_becomes : SiteBecomes p.machine p.section here (site_bytes p here)
    site_becomes =
        let s = p.section in
        let made = subst (λ y. is_fixed y ≡ false
        → ItemBecomes p.machine s y (take (kept_len s.deletions y) (drop (packed_offset s (offset_of y)) p.packed)))
        of.item (is.run.written i of.below) of.short in
        subst (SiteBecomes p.machine s here) (sym (packed_there p is (packed_offset s here.offset) (site_len p here) of.unwritten)) made

-- ---- instructions that were rewritten, and stay

-- an instruction that stays, in which no relocation has a field
pub unwritten_there : (l : Linked) (p : Packed) → IsRewrittenAndPacked l p → (i o : ℕ) → UntouchedBytes l i o 4
    → StayTogether p o 4 → IsUnwritten p (place_of p o) 4
    → instruction_at p.final (place_of p o) ≡ instruction_at l.rewritten o
unwritten_there l p joined i o left stay free =
    let is = joined.packed in
    cc (
      packed_there p is (place_of p o) 4 free,
      same_there p is o 4 (omega arith) stay,
      joined.bytes,
      later_bytes l joined.later i o 4 left,
    )

module _ (l : Linked) (p : Packed) (joined : IsRewrittenAndPacked l p) (i : ℕ) (below : i < count l)
    (code symbol : ℕ) (addend : ℤ)
    (after_is : relocation_in l.relocations_after i ≡ rela (relocation_in l.relocations i).offset code symbol addend)
    (kept : IsKeptInstruction p i) (left : UntouchedInstruction l i) where
  abbrev after : Rela
  after = relocation_in p.relocations_after i

  pub within : i < packed.count p
  within =
      rw (joined.packed.as_many ∙ (ap length joined.relocations_are ∙ (later_as_many l joined.later ∙ joined.as_many))) below

  before_is : relocation_in p.relocations i ≡ rela (rela_at l i).offset code symbol addend
  before_is =
      cc (joined.relocations_are, later_keep l joined.later i (rela_at l i).offset 4 left (subst (λ n. i < n / 24) (sym joined.as_many) below))

  -- the relocation in the packed section
  pub r_type_is : after.r_type ≡ code
  r_type_is = kept.r_type ∙ ap (λ (x : Rela). x.r_type) before_is

  offset_is : offset_at p.relocations i ≡ (rela_at l i).offset
  offset_is = ap (λ (x : Rela). x.offset) before_is

  pub place_is : offset_at p.relocations_after i ≡ place_of p (rela_at l i).offset
  place_is = (joined.packed.moved i within).offset (omega (arith, (kept.bytes 0 (omega arith)).inside)) ∙ ap (place_of p) offset_is

  stay : StayTogether p (rela_at l i).offset 4
  stay = subst (λ n. StayTogether p n 4) offset_is kept.bytes

  -- its instruction, and where it is
  pub rewritten_inside : (rela_at l i).offset + 4 ≤ length l.rewritten
  rewritten_inside =
      omega (arith, stay_inside p joined.packed (rela_at l i).offset 4 (omega arith) stay, ap length joined.bytes, later_length l joined.later)

  pub final_inside : place_of p (rela_at l i).offset + 4 ≤ length p.final
  final_inside =
      omega (arith, places_inside p joined.packed (rela_at l i).offset 4 (omega arith) stay, joined.packed.written.same_length)

  pub same_kept : instruction_at p.packed (place_of p (rela_at l i).offset) ≡ instruction_at l.rewritten (rela_at l i).offset
  same_kept =
      cc (same_there p joined.packed (rela_at l i).offset 4 (omega arith) stay, joined.bytes, later_bytes l joined.later i (rela_at l i).offset 4 left)

  -- what is written there, is written to what was rewritten
  kept_there : (row : RowInfo) (y : Operands)
      → IsApplied row y (instruction_at p.packed (offset_at p.relocations_after i)) (instruction_at p.final (offset_at p.relocations_after i))
      → IsApplied row y (instruction_at l.rewritten (rela_at l i).offset) (instruction_at p.final (place_of p (rela_at l i).offset))
  kept_there row y there = rw (← same_kept, ← place_is) there

  -- so is the value of its own symbol
  pub own_there : (row : RowInfo) (of : IsOfInstruction 4 row)
      → IsRow (architecture_of p.machine) after.r_type (Some row)
      → (architecture : Architecture) → architecture_of p.machine ≡ architecture → (here : Symbol) (got : ℕ)
      → operands_in architecture p.addresses row after (Some here) ≡ Ok (operands_with architecture p.addresses row here after got)
      → slice_get p.symbols after.symbol ≡ Some here → (y : Operands)
      → value_of row y ≡ value_of row (operands_with architecture p.addresses row here after got)
      → IsApplied row y (instruction_at l.rewritten (rela_at l i).offset) (instruction_at p.final (place_of p (rela_at l i).offset))
  own_there row of is_row architecture is here got taken is_here y same =
      let mine = operands_with architecture p.addresses row here after got in
      with_operands row mine y _ _ same
      (kept_there row mine
      (applied_there (architecture_of p.machine) p.addresses p.relocations_after p.symbols p.packed p.final joined.packed.written
      i within 4 (omega arith) row of is_row mine
      (rw is (ap (operands_in architecture p.addresses row after) is_here ∙ taken))))

-- ---- what an alignment needs

-- is needed, and fewer bytes don't do
needed_least : (power address n : ℕ) → 0 < power → n < needed power address → (address + n) % power ≢ 0
needed_least power address n some fewer none =
    let r = address % power in
    let below = mod-lt address some in
    elim (cases_lt 0 r) [
      | inl rest ↦
          let need : needed power address ≡ power - r = mod-eq_of_lt (omega (arith, rest, below)) in
          let split : address + n ≡ address / power * power + (r + n) = omega (arith, div-add-mod' address power) in
          let is : (address + n) % power ≡ r + n = ap (λ m. m % power) split
          ∙ mod-mul-add (address / power) power (r + n) (omega (arith, fewer, need, below)) in
          omega (arith, none, is, rest)
      | inr nothing ↦
          let at : r ≡ 0 = omega (arith, nothing) in
          let need : needed power address ≡ 0 = ap (λ m. (power - m) % power) at
          ∙ ap (λ m. m % power) (let e : power - 0 ≡ power = omega arith in e) ∙ mod_self power in
          omega (arith, fewer, need)
    ]

needed_multiple : (power address : ℕ) → 0 < power → (address + needed power address) % power ≡ 0
needed_multiple power address some =
    ap (λ n. n % power) (let e : address + needed power address ≡ needed power address + address = omega arith in e)
    ∙ no_rest power (needed power address + address) (needed_fills power address some)

aligned : (power address padding : ℕ) → 0 < power → padding ≡ needed power address
    → IsAligned power address padding
aligned power address padding some e =
    record {
      multiple = ap (λ n. (address + n) % power) e ∙ needed_multiple power address some;
      least = λ n fewer. needed_least power address n some (omega (arith, fewer, e));
    }

-- what `relax` keeps of an alignment is what it requires
by_limit : (power address padding : ℕ) (limit : Option ℕ) → 0 < power
    → MatchOption limit (padding ≡ needed power address)
    (λ most. (needed power address ≤ most → padding ≡ needed power address)
    × (most < needed power address → padding ≡ 0))
    → MatchOption limit (IsAligned power address padding)
    (λ most. (IsAligned power address padding × (padding ≤ most)) ⊎ IsSkipped power address padding most)
by_limit power address padding None some exact = aligned power address padding some exact
by_limit power address padding (Some most) some exact =
    elim (cases_lt most (needed power address)) [
      | inl more ↦
          inr (record {
            none = exact.1 more;
            far = λ n few. needed_least power address n some (omega (arith, few, more));
          })
      | inr few ↦
          let e = exact.0 few in
          inl (aligned power address padding some e, omega (arith, few, e))
    ]

-- ---- one alignment of the run

module _ (p : Packed) (is : IsPacked p) (run : Run) (of : IsOfRun p run) (i : ℕ) (alignment : Alignment)
    (below : i < length run.items) (here : item_at run.items i ≡ Aligned alignment) where
  abbrev freed : ℕ
  freed = freed_before p.section.start run.items (choice_of run.shapes) i

  fits : p.section.start + end_of (Aligned alignment) < 2 ^ 64
  fits = subst (λ x. p.section.start + end_of x < 2 ^ 64) here (of.accepted.in_order.ends i below)

  translated : rank p.section.deletions alignment.offset ≡ alignment.offset - freed
  translated =
      subst (λ d. rank d alignment.offset ≡ alignment.offset - freed) (sym of.lost)
      (subst (λ x. rank (deletions_of_run run.items run.kept) (offset_of x) ≡ offset_of x - freed) here
      (translations_exact p.section.start run.items run.shapes run.kept run.freed of.accepted of.relaxed i below).0)

  kept : padding_len p alignment ≡ get_or run.kept i 0
  kept =
      subst (λ d. kept_len d (Aligned alignment) ≡ get_or run.kept i 0) (sym of.lost)
      (subst (λ x. kept_len (deletions_of_run run.items run.kept) x ≡ get_or run.kept i 0) here
      (first_bytes p.section.start run.items run.shapes run.kept run.freed of.accepted of.relaxed i below).0)

  begins : padding_at p alignment ≡ p.section.start + alignment.offset - freed
  begins =
      omega (arith, ap (sum_64 p.section.start) translated, subst (λ x. freed ≤ offset_of x) here (freed_fits p.section.start run.items (choice_of run.shapes) of.accepted.in_order i below), fits)

  exact : IsExact alignment (needed alignment.alignment (padding_at p alignment)) (padding_len p alignment)
  exact =
      subst (λ a. IsExact alignment (needed alignment.alignment a) (padding_len p alignment)) (sym begins)
      (subst (IsExact alignment (needed alignment.alignment (p.section.start + alignment.offset - freed))) (sym kept)
      (subst (λ x. IsExactItem x p.section.start freed (get_or run.kept i 0)) here (of.relaxed.aligned i below)))

  holds : HoldsIn p alignment
  holds =
      let s = p.section in
      let low = rank-mono s.deletions alignment.offset (end_of (Aligned alignment)) (omega arith) in
      record {
        holds = by_limit alignment.alignment (padding_at p alignment) (padding_len p alignment) alignment.max_skip
            (subst IsSound here (of.accepted.in_order.sound i below)) exact;
        next = let high = rank-le s.deletions (end_of (Aligned alignment)) in omega (arith, low, high, fits);
        inside = λ leads.
            let first = rank-mono s.deletions s.base (end_of (Aligned alignment)) leads.lower in
            let last = rank-mono s.deletions (end_of (Aligned alignment)) (s.base + length s.bytes) leads.upper in
            omega (arith, first, last, is.run.len, is.written.same_length);
        there = λ leads.
            let lower = leads.lower in
            let e : s.base + (end_of (Aligned alignment) - s.base) ≡ end_of (Aligned alignment) = omega (arith, lower) in
            rw (← e) (addresses p is (end_of (Aligned alignment) - s.base));
        next_there = λ lower.
            let first = rank-mono s.deletions s.base alignment.offset lower in omega (arith, low, first);
      }

pub alignments : AlignmentsHold
alignments = holds

-- ---- the first byte of a section

unlimited : (power address padding : ℕ) (limit : Option ℕ) → limit ≡ None
    → MatchOption limit (IsAligned power address padding)
    (λ most. (IsAligned power address padding × (padding ≤ most)) ⊎ IsSkipped power address padding most)
    → IsAligned power address padding
unlimited power address padding None e is = is
unlimited power address padding (Some most) e is = absurd (cc)

pub sections : SectionsAreAligned
sections p is run of i alignment below here no_limit ends =
    let in_final = holds p is run of i alignment below here in
    let full = unlimited alignment.alignment (padding_at p alignment) (padding_len p alignment) alignment.max_skip no_limit in_final.holds in
    let begin : p.addresses.section ≡ padding_at p alignment + padding_len p alignment =
    is.address ∙ ap (address_of p.section) (sym ends) ∙ in_final.next in
    ap (λ n. n % alignment.alignment) begin ∙ full.multiple

-- ---- both calls

-- what the deltas of deletions are
pub listed_deltas : (lost : List (ℕ × ℕ)) (deltas : List RelaxDelta) → IsValid lost
    → RecordsDeletions lost deltas → AreValidDeltas deltas
listed_deltas lost deltas valid listing =
    let same = sym listing.same in
    record { valid = subst IsValid same valid; listing = subst (λ ds. RecordsDeletions ds deltas) same listing }

pub packed_run : (s : RunSection) (items : List Item) (start : ℕ) (before after : List ℕ) (places : Addresses) (symbols : List Symbol)
    (shapes stays gone : List ℕ) (deletions : List (ℕ × ℕ)) → AreItems start items → IsRelaxation start items shapes stays gone
    → deletions ≡ deletions_of_run items stays → (final : List ℕ)
    → ((packed : List ℕ) × IsPacked (packed_of s deletions start packed before after places symbols final))
    → AreRelaxedAndPacked s items start before after places symbols final
packed_run s items start before after places symbols shapes stays gone deletions are relaxed of_run final made =
    record {
      run = record { items = items; shapes = shapes; kept = stays; freed = gone };
      of_items = refl;
      packed = made.0;
      is_packed = subst (λ d. IsPacked (packed_of s d start made.0 before after places symbols final)) of_run made.1;
      of_run = record { accepted = are; relaxed = relaxed; lost = refl };
    }

-- ---- relocations that are written

-- one with a row and a symbol has the value of its formula
pub valued : (p : Packed) (i : ℕ) → i < packed.count p → (architecture : Architecture) → architecture_of p.machine ≡ architecture
    → (row : RowInfo) → IsRow architecture (relocation_in p.relocations_after i).r_type (Some row)
    → (bits : BitRange) (insn : AnyForm) → row.size ≡ BitMasking bits insn → has_value row.kind ≡ true
    → names_label row.size row.kind ≡ false → (symbol : Symbol)
    → slice_get p.symbols (relocation_in p.relocations_after i).symbol ≡ Some symbol → (y : Operands)
    → operands_in architecture p.addresses row (relocation_in p.relocations_after i) (Some symbol) ≡ Ok y
    → IsSomeAnd (value_of row y) (λ _. ⊤) → HasValue p i row y
valued p i below architecture is row is_row bits insn size has unlabelled symbol symbol_is y taken some =
    let value = some_value (value_of row y) some in
    record {
      within = below;
      is_row = rw is is_row;
      bits = bits;
      insn = insn;
      size = size;
      has = has;
      unlabelled = unlabelled;
      taken = rw is (ap (operands_in architecture p.addresses row (relocation_in p.relocations_after i)) symbol_is ∙ taken);
      value = value.0;
      value_is = value.1;
    }

-- ---- branches that stay

-- by a row of an instruction that takes no entry
goes : (machine : Machine) (row : RowInfo) (bits : BitRange) (insn : AnyForm)
    (reads : ℕ → ℤ) (unit : ℕ) (target : Operands → ℕ)
    → row.size ≡ BitMasking bits insn → has_value row.kind ≡ true → names_label row.size row.kind ≡ false
    → ((a : Addresses) (symbol : Symbol) (r : Rela) → operands_in (architecture_of machine) a row r (Some symbol)
    ≡ Ok (operands_with (architecture_of machine) a row symbol r 0))
    → ((y : Operands) → IsSomeAnd (value_of row y) (λ _. ⊤))
    → Adds (here (Some row)) place reads unit target → Goes machine (Some row) reads unit target
goes machine row bits insn reads unit target size has unlabelled taken is_some law p is machine_is i of symbol symbol_is small =
    let r = relocation_in p.relocations_after i in
    let o = offset_at p.relocations i in
    let n = window_len row in
    let y = operands_with (architecture_of machine) p.addresses row symbol r 0 in
    let applied = places p is i row y
    (valued p i of.within (architecture_of machine) (ap architecture_of machine_is) row
    (subst (λ a. IsRow a r.r_type (Some row)) (ap architecture_of machine_is) of.is_row) bits insn size has unlabelled symbol symbol_is y
    (taken p.addresses symbol r) (is_some y)) of.inside in
    let placed : sum_64 p.addresses.section r.offset ≡ address_at p o =
    ap (sum_64 p.addresses.section) ((is.moved i of.within).offset of.inside) ∙ addresses p is o in
    subst (λ a. IsAddress (pos a +ℤ (reads (final_number p i row) *ℤ pos unit)) (target y)) placed
    (law y small 0 (take n (drop (place_of p o) p.packed)) (take n (drop (place_of p o) p.final)) applied tt)

abbrev pub the_row : Option RowInfo → RowInfo
the_row (Some row) = row
the_row None = bytes_row NoValue 0

abbrev riscv : RiscVRelocation → RowInfo
riscv name = the_row (riscv_row name)

abbrev loongarch : LoongArch64Relocation → RowInfo
loongarch name = the_row (loongarch_row name)

pub riscv_branches : riscv_laws.Jumps → RiscVBranchesGo
riscv_branches law = (
  λ isa. goes (RiscV isa) (riscv riscv_names.R_RISCV_JAL) _ _ (riscv_form JType).machine 1 symbol_address refl refl refl (λ a symbol r. refl) (λ y. tt) law.0,
  λ isa. goes (RiscV isa) (riscv riscv_names.R_RISCV_BRANCH) _ _ (riscv_form BType).machine 1 symbol_address refl refl refl (λ a symbol r. refl) (λ y. tt) law.1,
  λ isa. goes (RiscV isa) (riscv riscv_names.R_RISCV_RVC_JUMP) _ _ (riscv_form CjType).machine 1 symbol_address refl refl refl (λ a symbol r. refl) (λ y. tt) law.2,
  λ isa. goes (RiscV isa) (riscv riscv_names.R_RISCV_RVC_BRANCH) _ _ (riscv_form CbType).machine 1 symbol_address refl refl refl (λ a symbol r. refl) (λ y. tt) law.3,
)

pub loongarch_branches : loongarch_laws.Branches → LoongArchBranchesGo
loongarch_branches law = (
  goes LoongArch64 (loongarch loongarch_names.R_LARCH_B16) _ _ (loongarch_form Shift10).machine 4 symbol_address refl refl refl (λ a symbol r. refl) (λ y. tt) law.0,
  goes LoongArch64 (loongarch loongarch_names.R_LARCH_B21) _ _ (loongarch_form Branch21).machine 4 symbol_address refl refl refl (λ a symbol r. refl) (λ y. tt) law.1,
  goes LoongArch64 (loongarch loongarch_names.R_LARCH_B26) _ _ (loongarch_form Branch26).machine 4 plt_address refl refl refl (λ a symbol r. refl) (λ y. tt) law.2,
  goes LoongArch64 (loongarch loongarch_names.R_LARCH_PCREL20_S2) _ _ (loongarch_form Shift5).machine 4 symbol_address refl refl refl (λ a symbol r. refl) (λ y. tt) law.3,
)
