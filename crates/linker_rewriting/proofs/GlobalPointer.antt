-- Parts of addresses near the global pointer: what is noted, decided and turned, relocation by
-- relocation, and that all parts of a symbol are rewritten, or none is.
use Rattle.linker_rewriting.proofs.Imports.{Addresses, ArePartsDecided, ArePartsRejected, ArePartsWhole, ArePartsWholeAcross, Bool, CanBeMade, Contradiction, Decision, IsAscending, IsLabelled, IsMember, IsMemberBy, IsPartDecided, IsRewritten, IsSubject, IsTrue, IsWithin, Kept, List, Matches, MeansSymbolsUnsurveyed, None, NotSurveyed, Option, Overlaps, Rela, RelaxContext, RewritingError, Some, Symbol, TooShort, WordUnchangedBy, ap, arith, base_of, based_section, below_more, decided_by, decision_at, false, fits, if◌then◌else◌, is_beyond, is_expected, is_marked_at, is_placed, is_placed_by, is_reached, is_some, kept_by, leb-true, length, low_r_type, nat_le, not, offset_of_label, part_decision, part_end, part_of, part_start, refl, relative_high, relocation_in, section_based, slice_get, subst, suc, sym, true, true≢false, word_stays, ℕ, ◌&&◌, ◌+◌, ◌<◌, ◌↔◌, ◌∙◌, ◌≡◌, ◌≢◌, ◌≤◌}
use Rattle.linker_base.proofs.Tests.{and_first, and_second}
use Rattle.linker_rewriting.proofs.LabelGroups.{one_high_from, some_one}
use Rattle.linker_rewriting.specs.declared.global_pointer.Part.{Part}
use Rattle.linker_rewriting.specs.declared.global_pointer.Part.TheVariants.{High, Low, Labelled}

-- ---- one member

one_labelled : (addresses : Addresses) (values : List Symbol) (bytes : List ℕ) (r : Rela)
    (x y : Option Rela) → IsAscending bytes → IsLabelled addresses values bytes r x
    → IsLabelled addresses values bytes r y → x ≡ y
one_labelled addresses values bytes r None None up a b = refl
one_labelled addresses values bytes r None (Some y) up a b =
    let there = b up in
    absurd (let e : None ≡ Some (there.0) = one_high_from bytes relative_high (offset_of_label addresses (slice_get values r.symbol)) None (Some (there.0)) (a up) (there.1) in cc)
one_labelled addresses values bytes r (Some x) None up a b =
    let there = a up in
    absurd (let e : None ≡ Some (there.0) = one_high_from bytes relative_high (offset_of_label addresses (slice_get values r.symbol)) None (Some (there.0)) (b up) (there.1) in cc)
one_labelled addresses values bytes r (Some x) (Some y) up a b =
    let one = a up in
    let other = b up in
    let same : Some (one.0) ≡ Some (other.0) = one_high_from bytes relative_high (offset_of_label addresses (slice_get values r.symbol)) (Some (one.0)) (Some (other.0)) (one.1) (other.1) in
    let index : one.0 ≡ other.0 = cc in
    ap (λ z. Some z) (one.2 ∙ (ap (λ n. relocation_in bytes n) index ∙ sym (other.2)))

one_subject : (addresses : Addresses) (values : List Symbol) (bytes : List ℕ) (r : Rela)
    (part : Part) (x y : Option Rela) → IsAscending bytes
    → IsSubject addresses values bytes r part x → IsSubject addresses values bytes r part y → x ≡ y
one_subject addresses values bytes r (High opcode) x y up a b = a ∙ sym b
one_subject addresses values bytes r (Low r_type) x y up a b = a ∙ sym b
one_subject addresses values bytes r (Labelled r_type) x y up a b =
    one_labelled addresses values bytes r x y up a b

same_member : (x y : Part × Rela) → x.0 ≡ y.0 → x.1 ≡ y.1 → Some x ≡ Some y
same_member (a, b) (c, d) first second = ap (λ p. Some (p, b)) first ∙ ap (λ p. Some (c, p)) second

one_member_by : (addresses : Addresses) (values : List Symbol) (bytes : List ℕ) (r : Rela)
    (part : Option Part) (x y : Option (Part × Rela)) → IsAscending bytes
    → IsMemberBy addresses values bytes r part x → IsMemberBy addresses values bytes r part y → x ≡ y
one_member_by addresses values bytes r None x y up a b = a ∙ sym b
one_member_by addresses values bytes r (Some part) None None up a b = refl
one_member_by addresses values bytes r (Some part) None (Some y) up a b =
    absurd (let e : None ≡ Some (y.1) = one_subject addresses values bytes r part None (Some (y.1)) up a (b.1) in cc)
one_member_by addresses values bytes r (Some part) (Some x) None up a b =
    absurd (let e : None ≡ Some (x.1) = one_subject addresses values bytes r part None (Some (x.1)) up b (a.1) in cc)
one_member_by addresses values bytes r (Some part) (Some x) (Some y) up a b =
    same_member x y (a.0 ∙ sym (b.0))
    (some_one (x.1) (y.1) (one_subject addresses values bytes r part (Some (x.1)) (Some (y.1)) up (a.1) (b.1)))

one_member : (s : RelaxContext) (bytes : List ℕ) (r : Rela) (x y : Option (Part × Rela))
    → IsAscending bytes → IsMember s bytes r x → IsMember s bytes r y → x ≡ y
one_member s bytes r x y up a b =
    one_member_by s.addresses s.values bytes r (part_of s.architecture r.r_type) x y up a b

-- ---- tests

-- what fits has an expected instruction
pub expected : (s : RelaxContext) (gp : ℕ) (a : Bool) (bytes section : List ℕ) (n : ℕ) (r : Rela)
    (member : Part × Rela) → fits s gp a bytes section n r member ≡ true
    → is_expected section r (member.0) (member.1) ≡ true
expected s gp a bytes section n r member is =
    and_second (is_reached s gp (member.1)) _
    (and_second (is_marked_at s.architecture bytes n r) _
    (and_second s.output.is_fixed _ (and_second s.output.is_executable _
    (and_second (not (is_beyond bytes r.offset n)) _ (and_second a _ is)))))

module _ (section : List ℕ) (r : Rela) where
  -- it can be made
  pub part_made : (part : Part) (subject : Rela) → is_expected section r part subject ≡ true
      → CanBeMade (part_decision part subject) section r.offset
  part_made (High opcode) subject is = (tt, and_first _ _ is)
  part_made (Low r_type) subject is = (tt, refl)
  part_made (Labelled r_type) subject is = (tt, refl)

  pub part_matches : (part : Part) (subject : Rela) → is_expected section r part subject ≡ true
      → Matches (part_decision part subject) section r.offset
  part_matches (High opcode) subject is =
      (leb-true (r.offset + 4) (length section) (and_first _ _ is), tt)
  part_matches (Low r_type) subject is = tt
  part_matches (Labelled r_type) subject is = tt

  part_inside : (part : Part) (subject : Rela) → is_expected section r part subject ≡ true
      → part_end (part_decision part subject) r.offset ≤ length section
  part_inside (High opcode) subject is = leb-true (r.offset + 4) (length section) (and_first _ _ is)
  part_inside (Low r_type) subject is = leb-true (r.offset + 4) (length section) (and_first _ _ is)
  part_inside (Labelled r_type) subject is = leb-true (r.offset + 4) (length section) (and_first _ _ is)

  pub part_ends : (part : Part) (subject : Rela) → is_expected section r part subject ≡ true
      → (limit : ℕ) → r.offset ≤ limit → length section ≤ limit
      → part_end (part_decision part subject) r.offset ≤ limit
  part_ends part subject is limit low long =
      let e = part_inside part subject is in omega (arith, e, long)

-- ---- apart

pub part_bytes : (part : Part) (subject : Rela) (o : ℕ) → IsWithin part_start part_end o (part_decision part subject)
part_bytes (High opcode) subject o some = (omega arith, omega arith)
part_bytes (Low r_type) subject o some = absurd (omega (arith, some))
part_bytes (Labelled r_type) subject o some = absurd (omega (arith, some))

-- ---- decided

-- by the member that was found
pub of_member : (s : RelaxContext) (gp : ℕ) (kept : List Bool) (bytes section : List ℕ) (n : ℕ) (r : Rela)
    (a : Bool) (found member : Option (Part × Rela)) (d : Option Decision)
    → (IsTrue a ↔ IsAscending bytes) → found ≡ member → IsMember s bytes r found
    → d ≡ decided_by s gp a kept bytes section n r member
    → IsPartDecided s gp kept bytes section n r d
of_member s gp kept bytes section n r a found member d ascending same is decided =
    record {
      ascends = a;
      is_ascending = ascending;
      member = member;
      is_member = subst (IsMember s bytes r) same is;
      decided = decided;
    }

-- of a member whose symbol stays
pub part_kept : (s : RelaxContext) (gp : ℕ) (a : Bool) (kept : List Bool) (bytes section : List ℕ) (n : ℕ)
    (r : Rela) (member : Part × Rela) → word_stays kept (member.1).symbol ≡ true
    → Some Kept ≡ decided_by s gp a kept bytes section n r (Some member)
part_kept s gp a kept bytes section n r member stays =
    let fit : Option Decision = if fits s gp a bytes section n r member then Some (part_decision (member.0) (member.1)) else None in
    subst (λ b. Some Kept ≡ (if b then Some Kept else fit)) (sym stays) refl

-- of one whose symbol doesn't
pub part_decided : (s : RelaxContext) (gp : ℕ) (a : Bool) (kept : List Bool) (bytes section : List ℕ) (n : ℕ)
    (r : Rela) (member : Part × Rela) (d : Decision) → word_stays kept (member.1).symbol ≡ false
    → fits s gp a bytes section n r member ≡ true → d ≡ part_decision (member.0) (member.1)
    → Some d ≡ decided_by s gp a kept bytes section n r (Some member)
part_decided s gp a kept bytes section n r member d unkept fit is =
    let made = part_decision (member.0) (member.1) in
    subst (λ b. Some d ≡ (if b then Some Kept else (if fits s gp a bytes section n r member then Some made else None))) (sym unkept)
    (subst (λ b. Some d ≡ (if b then Some made else None)) (sym fit) (ap (λ x. Some x) is))

pub part_undecided : (s : RelaxContext) (gp : ℕ) (a : Bool) (kept : List Bool) (bytes section : List ℕ) (n : ℕ)
    (r : Rela) (member : Part × Rela) → word_stays kept (member.1).symbol ≡ false
    → fits s gp a bytes section n r member ≡ false
    → None ≡ decided_by s gp a kept bytes section n r (Some member)
part_undecided s gp a kept bytes section n r member unkept fit =
    let made = part_decision (member.0) (member.1) in
    subst (λ b. None ≡ (if b then Some Kept else (if fits s gp a bytes section n r member then Some made else None))) (sym unkept)
    (subst (λ b. None ≡ (if b then Some made else None)) (sym fit) refl)

-- ---- turned

-- those of the relocations with an index below k are what they become
pub record AreTurned (F : ℕ → Rela → Rela) (first now : List ℕ) (limit k : ℕ) : Type 0 where
  pub below : (n : ℕ) → n < k → relocation_in now n ≡ F n (relocation_in first n)
  pub above : (n : ℕ) → k ≤ n → n < limit → relocation_in now n ≡ relocation_in first n
  pub same_len : length now ≡ length first

pub turned_next : (F : ℕ → Rela → Rela) (first before after : List ℕ) (limit k : ℕ) (r turned : Rela)
    → AreTurned F first before limit k → k < limit → r ≡ relocation_in before k
    → turned ≡ F k r → relocation_in after k ≡ turned
    → ((n : ℕ) → n < limit → n ≢ k → relocation_in after n ≡ relocation_in before n)
    → length after ≡ length before → AreTurned F first after limit (k + 1)
turned_next F first before after limit k r turned are less r_is turned_is set others same =
    record {
      below = below_more (λ n. relocation_in after n ≡ F n (relocation_in first n)) k
          (λ n below. others n (omega (arith, less, below)) (λ e. absurd (omega (arith, e, below))) ∙ are.below n below)
          (set ∙ (turned_is ∙ ap (F k) (r_is ∙ are.above k (omega arith) less)));
      above = λ n from below. others n below (λ e. absurd (omega (arith, e, from))) ∙ are.above n (omega (arith, from)) below;
      same_len = same ∙ are.same_len;
    }

-- ---- whole symbols

not_stayed : (stays fit : Bool) (made d : Decision)
    → Some d ≡ (if stays then Some Kept else (if fit then Some made else None))
    → IsRewritten d → stays ≡ false
not_stayed true fit made d is rewritten =
    absurd (subst IsRewritten (some_one d Kept is) rewritten)
not_stayed false fit made d is rewritten = refl

made_too : (stays fit : Bool) (made d : Decision)
    → Some d ≡ (if stays then Some Kept else (if fit then Some made else None))
    → stays ≡ false → IsRewritten made → IsRewritten d
made_too true fit made d is unkept rewritten = absurd (true≢false unkept)
made_too false true made d is unkept rewritten =
    subst IsRewritten (sym (some_one d made is)) rewritten
made_too false false made d is unkept rewritten = absurd (let e : Some d ≡ None = is in cc)

part_rewritten : (part : Part) (subject : Rela) → IsRewritten (part_decision part subject)
part_rewritten (High opcode) subject = tt
part_rewritten (Low r_type) subject = tt
part_rewritten (Labelled r_type) subject = tt

decided_as : (s : RelaxContext) (gp : ℕ) (kept : List Bool) (bytes section : List ℕ) (n : ℕ) (r : Rela)
    (decision : Option Decision) (member : Option (Part × Rela)) → IsAscending bytes
    → (is : IsPartDecided s gp kept bytes section n r decision) → IsMember s bytes r member
    → decision ≡ decided_by s gp is.ascends kept bytes section n r member
decided_as s gp kept bytes section n r decision member up is is_member =
    subst (λ m. decision ≡ decided_by s gp is.ascends kept bytes section n r m)
    (one_member s bytes r is.member member up is.is_member is_member) is.decided

pub whole_across : ArePartsWholeAcross
whole_across s other gp kept bytes section others_bytes others_section decisions others limit others_limit decided others_decided up others_up i j part other_part subject other_subject li lj is other_is same rewritten =
    let ri = relocation_in bytes i in
    let rj = relocation_in others_bytes j in
    let one = decided i li in
    let two = others_decided j lj in
    let unkept : word_stays kept subject.symbol ≡ false =
    not_stayed (word_stays kept subject.symbol) (fits s gp one.ascends bytes section i ri (part, subject))
    (part_decision part subject) (decision_at decisions i)
    (decided_as s gp kept bytes section i ri (Some (decision_at decisions i)) (Some (part, subject)) up one is) rewritten in
    made_too (word_stays kept other_subject.symbol) (fits other gp two.ascends others_bytes others_section j rj (other_part, other_subject))
    (part_decision other_part other_subject) (decision_at others j)
    (decided_as other gp kept others_bytes others_section j rj (Some (decision_at others j)) (Some (other_part, other_subject)) others_up two other_is)
    (subst (λ n. word_stays kept n ≡ false) same unkept) (part_rewritten other_part other_subject)

pub whole : (s : RelaxContext) (gp : ℕ) (kept : List Bool) (bytes section : List ℕ)
    (decisions : List Decision) (limit : ℕ)
    → ArePartsDecided s gp kept bytes section decisions limit → ArePartsWhole s bytes decisions limit
whole s gp kept bytes section decisions limit decided =
    whole_across s s gp kept bytes section bytes section decisions decisions limit limit decided decided

-- ---- surveyed sections

undecided : (stays fit : Bool) (made : Decision)
    → None ≡ (if stays then Some Kept else (if fit then Some made else None))
    → (stays ≡ false) × (fit ≡ false)
undecided true fit made is = absurd (let e : None ≡ Some Kept = is in cc)
undecided false true made is = absurd (let e : None ≡ Some made = is in cc)
undecided false false made is = (refl, refl)

not_noted : (s : RelaxContext) (gp : ℕ) (kept : List Bool) (bytes section : List ℕ) (n : ℕ) (r : Rela)
    (a : Bool) (member : Option (Part × Rela)) (symbol : Option ℕ)
    → None ≡ decided_by s gp a kept bytes section n r member
    → symbol ≡ kept_by s gp a bytes section n r member → WordUnchangedBy kept symbol → ⊥
not_noted s gp kept bytes section n r a None symbol undecided_is keeps stays =
    absurd (let e : None ≡ Some Kept = undecided_is in cc)
not_noted s gp kept bytes section n r a (Some member) symbol undecided_is keeps stays =
    let fit = fits s gp a bytes section n r member in
    let is = undecided (word_stays kept (member.1).symbol) fit (part_decision (member.0) (member.1)) undecided_is in
    let that : symbol ≡ Some (member.1).symbol =
    subst (λ f. symbol ≡ (if f then None else Some (member.1).symbol)) (is.1) keeps in
    let noted : word_stays kept (member.1).symbol ≡ true = subst (WordUnchangedBy kept) that stays in
    true≢false (sym noted ∙ is.0)

pub means_unsurveyed : (s : RelaxContext) (gp : ℕ) (kept : List Bool) (bytes section : List ℕ)
    (decisions : List Decision) (room : ℕ) (error : RewritingError)
    → ArePartsRejected s gp kept bytes section decisions room error
    → MeansSymbolsUnsurveyed s gp bytes section kept error
means_unsurveyed s gp kept bytes section decisions room TooShort is = tt
means_unsurveyed s gp kept bytes section decisions room (NotSurveyed n) is =
    λ up noted. let r = relocation_in bytes n in let this = is.2 in let here = noted n (is.0) in
    let keeping = here.is_keeping in
    let flag : keeping.ascends ≡ this.ascends =
    keeping.is_ascending.1 up ∙ sym (this.is_ascending.1 up) in
    not_noted s gp kept bytes section n r this.ascends this.member here.word this.decided
    (subst (λ m. here.word ≡ kept_by s gp this.ascends bytes section n r m)
    (one_member s bytes r keeping.member this.member up keeping.is_member this.is_member)
    (subst (λ a. here.word ≡ kept_by s gp a bytes section n r keeping.member) flag keeping.keeps))
    here.stays
means_unsurveyed s gp kept bytes section decisions room (Overlaps n) is = tt
means_unsurveyed s gp kept bytes section decisions room (Contradiction symbol) is = tt

-- ---- bases

same_placed_by : (s t : List ℕ) (r : Rela) (r_type : Option ℕ) (base : Option (ℕ × ℕ))
    → length s ≡ length t → is_placed_by s r r_type base ≡ is_placed_by t r r_type base
same_placed_by s t r None base same = refl
same_placed_by s t r (Some r_type) base same = ap (λ n. nat_le (r.offset + 4) n && is_some base) same

pub same_placed : (addresses : Addresses) (values : List Symbol) (gp : ℕ) (s t : List ℕ) (r : Rela)
    → length s ≡ length t → is_placed addresses values gp s r ≡ is_placed addresses values gp t r
same_placed addresses values gp s t r same =
    same_placed_by s t r (low_r_type r.r_type) (base_of addresses values gp r) same

pub based_next : (addresses : Addresses) (values : List Symbol) (gp : ℕ) (bytes section : List ℕ)
    (k : ℕ) → section_based addresses values gp bytes section (k + 1)
    ≡ based_section addresses values gp (section_based addresses values gp bytes section k)
    (relocation_in bytes k)
based_next addresses values gp bytes section k =
    let e : suc k ≡ k + 1 = omega arith in
    subst (λ n. section_based addresses values gp bytes section n ≡ based_section addresses values gp (section_based addresses values gp bytes section k) (relocation_in bytes k)) e refl
