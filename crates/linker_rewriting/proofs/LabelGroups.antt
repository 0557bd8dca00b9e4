-- Groups of one label: each relocation has one high part, and what is noted is right.
use Rattle.linker_rewriting.proofs.Imports.{AArch64, AArch64Relocation, Architecture, AreHighsNoted, AreLabelsNoted, Bool, Choice, Consumed, Decision, FirstOfPair, GotToPcRel, Grouped, HasLacking, IfGroupMatches, Independent, IsAscending, IsHighAt, IsHighFrom, IsHighIn, IsInLabel, IsLabelCandidate, IsLabelDecision, IsLabelNote, IsLacking, IsNoteAt, IsNoteOf, Kept, LabelFits, LabelStays, Labelled, Lacks, List, LoongArch64, LoongArch64Relocation, None, NotRelaxable, Option, Phase, Ppc64, Ppc64Relocation, PreLayout, Rela, RelaxContext, Relaxation, RiscV, Scope, ShortPcRel, Some, TlsLocalExec, X86_64, X86_64Relocation, aarch64_scope_in, and_parts, ap, arith, cases_Bool, cases_eq, cases_lt, cond-true, decision_at, eq-eqb, eqb-true, false, get_or-set_other, get_or-set_same, has_labels, high_r_type, inl, inr, is_beyond, is_high, is_high_in, is_labelled, is_note, label_decision, label_facts, label_offset, le-leb, leb-true, length, length-set, loongarch_scope_in, nat_le, not, offset_at, offset_of_label, ppc64_scope_in, refl, relocation_in, rewritten_by, searched, slice_get, slice_set, subst, sym, takes_symbol, true, true≢false, x86_64_scope_in, ℕ, ◌&&◌, ◌+◌, ◌-◌, ◌/◌, ◌<◌, ◌==◌, ◌∙◌, ◌≡◌, ◌≤◌, ◌⊎◌}
use Rattle.std.proofs.Math.Bool.{and-false}
use Rattle.linker_elf.specs.declared.aarch64.relocations.AArch64Relocation.TheVariants as aarch64
use Rattle.linker_elf.specs.declared.loongarch64.relocations.LoongArch64Relocation.TheVariants as loongarch64
use Rattle.linker_elf.specs.declared.ppc64.relocations.Ppc64Relocation.TheVariants as ppc64
use Rattle.linker_elf.specs.declared.x86_64.relocations.X86_64Relocation.TheVariants as x86_64
use Rattle.linker_rewriting.proofs.Unique.{one_scope, one_candidate_with}

-- ---- one high part

isnt : {A : Type 0} → true ≡ false → A
isnt is = absurd (true≢false is)

one_high_at : (bytes : List ℕ) (r_type at : ℕ) (x y : Option ℕ) → IsHighAt bytes r_type at x
    → IsHighAt bytes r_type at y → x ≡ y
one_high_at bytes r_type at None None a b = refl
one_high_at bytes r_type at None (Some h) a b = isnt (sym (b.1) ∙ a h (b.0))
one_high_at bytes r_type at (Some g) None a b = isnt (sym (a.1) ∙ b g (a.0))
one_high_at bytes r_type at (Some g) (Some h) a b =
    elim (cases_lt g h) [
      | inl less ↦ isnt (sym (a.1) ∙ b.2 g less)
      | inr le ↦ elim (cases_lt h g) [
        | inl less ↦ isnt (sym (b.1) ∙ a.2 h less)
        | inr ge ↦ ap Some (omega (arith, le, ge))
      ]
    ]

pub one_high_from : (bytes : List ℕ) (r_type : ℕ) (at x y : Option ℕ) → IsHighFrom bytes r_type at x
    → IsHighFrom bytes r_type at y → x ≡ y
one_high_from bytes r_type None x y a b = a ∙ sym b
one_high_from bytes r_type (Some at) x y a b = one_high_at bytes r_type at x y a b

pub one_high : (s : RelaxContext) (bytes : List ℕ) (r : Rela) (x y : Option ℕ) → IsHighIn s bytes r x
    → IsHighIn s bytes r y → x ≡ y
one_high s bytes r x y =
    one_high_from bytes (high_r_type s.phase) (label_offset s.phase s.addresses s.values r) x y

pub some_one : {A : Type 0} (x y : A) → Some x ≡ Some y → x ≡ y
some_one x y is = cc

pub one_index : (s : RelaxContext) (bytes : List ℕ) (r : Rela) (g h : ℕ) → IsHighIn s bytes r (Some g)
    → IsHighIn s bytes r (Some h) → g ≡ h
one_index s bytes r g h a b = some_one g h (one_high s bytes r (Some g) (Some h) a b)

pub not_none : (s : RelaxContext) (bytes : List ℕ) (r : Rela) (h : ℕ) → IsHighIn s bytes r (Some h)
    → IsHighIn s bytes r None → ⊥
not_none s bytes r h a b =
    let e : Some h ≡ None = one_high s bytes r (Some h) None a b in cc

-- a high part is its own
own_from : (bytes : List ℕ) (r_type h : ℕ) (at : Option ℕ) → IsHighFrom bytes r_type at (Some h)
    → (((relocation_in bytes h).r_type == r_type) ≡ true)
    × IsHighAt bytes r_type (relocation_in bytes h).offset (Some h)
own_from bytes r_type h None is = absurd (let e : Some h ≡ None = is in cc)
own_from bytes r_type h (Some at) is =
    let there = and_parts (is_high r_type at (relocation_in bytes h)) (not (is_beyond bytes at h)) (is.1) in
    let parts = and_parts ((relocation_in bytes h).offset == at) ((relocation_in bytes h).r_type == r_type) (there.0) in (
      parts.1,
      subst (λ a. IsHighAt bytes r_type a (Some h))
          (sym (eqb-true (relocation_in bytes h).offset at (parts.0))) is,
    )

own_high : (s : RelaxContext) (bytes : List ℕ) (r : Rela) (h : ℕ) → IsHighIn s bytes r (Some h)
    → IsHighIn s bytes (relocation_in bytes h) (Some h)
own_high s bytes r h is =
    let own = own_from bytes (high_r_type s.phase) h (label_offset s.phase s.addresses s.values r) is in
    subst (λ at. IsHighFrom bytes (high_r_type s.phase) at (Some h))
    (sym (cond-true ((relocation_in bytes h).r_type == high_r_type s.phase) (Some (relocation_in bytes h).offset)
    (offset_of_label s.addresses (slice_get s.values (relocation_in bytes h).symbol)) (own.0)))
    (own.1)

high_within_from : (bytes : List ℕ) (r_type h : ℕ) (at : Option ℕ) → IsHighFrom bytes r_type at (Some h)
    → h < length bytes / 24
high_within_from bytes r_type h None is = absurd (let e : Some h ≡ None = is in cc)
high_within_from bytes r_type h (Some at) is = is.0

pub high_within : (s : RelaxContext) (bytes : List ℕ) (r : Rela) (h : ℕ) → IsHighIn s bytes r (Some h)
    → h < length bytes / 24
high_within s bytes r h =
    high_within_from bytes (high_r_type s.phase) h (label_offset s.phase s.addresses s.values r)

-- ---- the search

pub isnt_r_type : (r_type at : ℕ) (r : Rela) → (r.r_type ≡ r_type → ⊥) → is_high r_type at r ≡ false
isnt_r_type r_type at r ne =
    elim (cases_Bool (r.r_type == r_type)) [
      | inl same ↦ absurd (ne (eqb-true r.r_type r_type same))
      | inr differs ↦ ap (λ b. (r.offset == at) && b) differs ∙ and-false (r.offset == at)
    ]

pub isnt_there : (r_type at : ℕ) (r : Rela) → (r.offset ≡ at → ⊥) → is_high r_type at r ≡ false
isnt_there r_type at r ne =
    elim (cases_Bool (r.offset == at)) [
      | inl same ↦ absurd (ne (eqb-true r.offset at same))
      | inr differs ↦ ap (λ b. b && (r.r_type == r_type)) differs
    ]

is_there : (r_type at : ℕ) (r : Rela) → r.offset ≡ at → r.r_type ≡ r_type → is_high r_type at r ≡ true
is_there r_type at r offset_is r_type_is =
    ap (λ b. b && (r.r_type == r_type)) (eq-eqb r.offset at offset_is) ∙ eq-eqb r.r_type r_type r_type_is

-- none so far
abbrev pub NoneIn : List ℕ → ℕ → ℕ → ℕ → ℕ → Type 0
NoneIn bytes r_type at first limit =
    (n : ℕ) → first ≤ n → n < limit → is_high r_type at (relocation_in bytes n) ≡ false

pub none_below : (bytes : List ℕ) (r_type at first limit : ℕ)
    → ((n : ℕ) → n < first → offset_at bytes n < at) → NoneIn bytes r_type at first limit
    → (n : ℕ) → n < limit → is_high r_type at (relocation_in bytes n) ≡ false
none_below bytes r_type at first limit before none n less =
    elim (cases_lt n first) [
      | inl below ↦ isnt_there r_type at (relocation_in bytes n) (λ e. let b = before n below in absurd (omega (arith, b, e)))
      | inr from ↦ none n from less
    ]

both : (a b : Bool) → a ≡ true → b ≡ true → (a && b) ≡ true
both a b x y = ap (λ c. c && b) x ∙ y

-- what isn't one isn't one that is searched
isnt_searched : (bytes : List ℕ) (r_type at n : ℕ) → is_high r_type at (relocation_in bytes n) ≡ false
    → is_high_in bytes r_type at n ≡ false
isnt_searched bytes r_type at n is = ap (λ b. b && not (is_beyond bytes at n)) is

-- what is so near the first relocation at an offset is searched
near_first : (bytes : List ℕ) (at first index : ℕ)
    → ((n : ℕ) → n < first → offset_at bytes n < at) → index < first + searched
    → is_beyond bytes at index ≡ false
near_first bytes at first index before near =
    elim (cases_Bool (is_beyond bytes at index)) [
      | inl beyond ↦
          let parts = and_parts (nat_le searched index) ((relocation_in bytes (index - searched)).offset == at) beyond in
          let following : searched ≤ index = leb-true searched index (parts.0) in
          let less : index - searched < first = omega (arith, following, near) in
          let below = before (index - searched) less in
          let is : offset_at bytes (index - searched) ≡ at = eqb-true (relocation_in bytes (index - searched)).offset at (parts.1) in
          absurd (omega (arith, below, is))
      | inr isnt ↦ isnt
    ]

pub found : (bytes : List ℕ) (r_type at first index : ℕ) (r : Rela)
    → ((n : ℕ) → n < first → offset_at bytes n < at) → NoneIn bytes r_type at first index
    → index < length bytes / 24 → index < first + searched → r ≡ relocation_in bytes index
    → r.offset ≡ at → r.r_type ≡ r_type → IsHighAt bytes r_type at (Some index)
found bytes r_type at first index r before none within near same offset_is r_type_is = (
  within,
  both (is_high r_type at (relocation_in bytes index)) (not (is_beyond bytes at index))
      (subst (λ x. is_high r_type at x ≡ true) same (is_there r_type at r offset_is r_type_is))
      (ap not (near_first bytes at first index before near)),
  λ n less. isnt_searched bytes r_type at n (none_below bytes r_type at first index before none n less),
)

-- what has as many others at its offset before it as are searched is beyond them
beyond : (bytes : List ℕ) (at first n : ℕ) → IsAscending bytes
    → ((n : ℕ) → first ≤ n → n < length bytes / 24 → at ≤ offset_at bytes n)
    → first + searched ≤ n → n < length bytes / 24 → offset_at bytes n ≡ at
    → is_beyond bytes at n ≡ true
beyond bytes at first n ascending following far within there =
    let deep : searched ≤ n = omega (arith, far) in
    let from : first ≤ n - searched = omega (arith, far) in
    let less : n - searched < length bytes / 24 = omega (arith, within) in
    let low = following (n - searched) from less in
    let up = ascending (n - searched) n (omega arith) within in
    both (nat_le searched n) ((relocation_in bytes (n - searched)).offset == at)
    (le-leb searched n deep) (eq-eqb (relocation_in bytes (n - searched)).offset at (omega (arith, low, up, there)))

-- none is among those that are searched
pub none_searched : (bytes : List ℕ) (r_type at first limit : ℕ) → IsAscending bytes
    → ((n : ℕ) → n < first → offset_at bytes n < at)
    → ((n : ℕ) → first ≤ n → n < length bytes / 24 → at ≤ offset_at bytes n)
    → NoneIn bytes r_type at first limit
    → (length bytes / 24 ≤ limit) ⊎ (first + searched ≤ limit)
    → IsHighAt bytes r_type at None
none_searched bytes r_type at first limit ascending before following none far n less =
    elim (cases_lt n limit) [
      | inl below ↦ isnt_searched bytes r_type at n (none_below bytes r_type at first limit before none n below)
      | inr on ↦ elim far [
        | inl all ↦ absurd (omega (arith, all, on, less))
        | inr end ↦ elim (cases_Bool (is_high r_type at (relocation_in bytes n))) [
          | inr isnt ↦ isnt_searched bytes r_type at n isnt
          | inl is ↦
              let there = and_parts ((relocation_in bytes n).offset == at) ((relocation_in bytes n).r_type == r_type) is in
              let at_is : offset_at bytes n ≡ at = eqb-true (relocation_in bytes n).offset at (there.0) in
              ap (λ b. is_high r_type at (relocation_in bytes n) && not b)
              (beyond bytes at first n ascending following (omega (arith, end, on)) less at_is)
              ∙ and-false (is_high r_type at (relocation_in bytes n))
        ]
      ]
    ]

pub none_at : (bytes : List ℕ) (r_type at first index : ℕ) → IsAscending bytes
    → ((n : ℕ) → n < first → offset_at bytes n < at)
    → ((n : ℕ) → first ≤ n → n < length bytes / 24 → at ≤ offset_at bytes n)
    → NoneIn bytes r_type at first index → first ≤ index → index < length bytes / 24
    → ((relocation_in bytes index).offset ≡ at → ⊥)
    → IsHighAt bytes r_type at None
none_at bytes r_type at first index ascending before following none from within other n less =
    isnt_searched bytes r_type at n (elim (cases_lt n index) [
      | inl below ↦ none_below bytes r_type at first index before none n below
      | inr on ↦ isnt_there r_type at (relocation_in bytes n)
          (λ e. let b = following index from within in
          let up = ascending index n on less in
          other (omega (arith, b, up, e)))
    ])

-- ---- one candidate

pub one_in_label : (architecture : Architecture) (phase : Phase) (r_type : ℕ) (x y : Bool)
    → IsInLabel architecture phase r_type x → IsInLabel architecture phase r_type y → x ≡ y
one_in_label architecture phase r_type x y a b =
    a.2 ∙ (ap is_labelled (one_scope architecture phase r_type (a.0) (b.0) (a.1) (b.1)) ∙ sym (b.2))

pub labelled : (scope : Scope) → true ≡ is_labelled scope → scope ≡ Labelled
labelled Labelled is = refl
labelled NotRelaxable is = isnt is
labelled Independent is = isnt is
labelled (Grouped group) is = isnt is
labelled (IfGroupMatches group) is = isnt is
labelled FirstOfPair is = isnt is

pub one_label_candidate : (s : RelaxContext) (bytes section : List ℕ) (n : ℕ) (r : Rela) (high : ℕ)
    (x y : Option (Choice Relaxation ℕ)) → IsLabelCandidate s bytes section n r high x
    → IsLabelCandidate s bytes section n r high y → x ≡ y
one_label_candidate s bytes section n r high x y =
    one_candidate_with s bytes section n r (label_facts s bytes n r high) x y

pub some_or_none : (s : RelaxContext) (bytes section : List ℕ) (n : ℕ) (r : Rela) (high : ℕ)
    (x : Choice Relaxation ℕ) → IsLabelCandidate s bytes section n r high (Some x)
    → IsLabelCandidate s bytes section n r high None → ⊥
some_or_none s bytes section n r high x a b =
    let e : Some x ≡ None = one_label_candidate s bytes section n r high (Some x) None a b in cc

-- ---- what one relocation lacks

pub unlabelled_lacks : (s : RelaxContext) (bytes section : List ℕ) (n : ℕ) (r : Rela)
    → IsInLabel s.architecture s.phase r.r_type false → IsLacking s bytes section n r None
unlabelled_lacks s bytes section n r isnt_in high lacks =
    isnt (one_in_label s.architecture s.phase r.r_type true false (lacks.0) isnt_in)

pub rewritten_lacks : (s : RelaxContext) (bytes section : List ℕ) (n : ℕ) (r : Rela) (high : ℕ)
    (x : Choice Relaxation ℕ) → IsHighIn s bytes r (Some high)
    → IsLabelCandidate s bytes section n r high (Some x) → IsLacking s bytes section n r None
rewritten_lacks s bytes section n r high x is some other lacks =
    let same : other ≡ high = one_index s bytes r other high (lacks.1) is in
    some_or_none s bytes section n r high x some
    (subst (λ h. IsLabelCandidate s bytes section n r h None) same (lacks.2))

-- ---- notes at high parts

pub same_noted : (s : RelaxContext) (bytes section : List ℕ) (decisions : List Decision) (k : ℕ)
    → AreHighsNoted s bytes section decisions k
    → IsLacking s bytes section k (relocation_in bytes k) None
    → AreHighsNoted s bytes section decisions (k + 1)
same_noted s bytes section decisions k noted lacks =
    record {
      sound = λ high less is. let was = noted.sound high less is in (was.0, omega (arith, was.1), was.2);
      complete = λ high has. elim (cases_lt (has.0) k) [
        | inl below ↦ noted.complete high (has.0, below, has.2)
        | inr from ↦
            let less = has.1 in
            let here : has.0 ≡ k = omega (arith, from, less) in
            absurd (lacks high (subst (λ n. Lacks s bytes section n (relocation_in bytes n) high) here (has.2)))
      ];
    }

pub more_noted : (s : RelaxContext) (bytes section : List ℕ) (old : List Decision) (k high : ℕ)
    → AreHighsNoted s bytes section old k
    → Lacks s bytes section k (relocation_in bytes k) high → high < length old
    → AreHighsNoted s bytes section (slice_set old high Consumed) (k + 1)
more_noted s bytes section old k high noted lacks within =
    let new : List Decision = slice_set old high Consumed in
    let here : is_note (decision_at new high) ≡ true = ap is_note (get_or-set_same old high Consumed Kept within) in
    let other : (h : ℕ) → (h ≡ high → ⊥) → decision_at new h ≡ decision_at old h =
    λ h ne. get_or-set_other old high h Consumed Kept ne in
    record {
      sound = λ h less is. elim (cases_eq h high) [
        | inl same ↦ (
          k,
          omega arith,
          subst (λ x. Lacks s bytes section k (relocation_in bytes k) x) (sym same) lacks,
        )
        | inr ne ↦ let was = noted.sound h less (sym (ap is_note (other h ne)) ∙ is) in (was.0, omega (arith, was.1), was.2)
      ];
      complete = λ h has. elim (cases_eq h high) [
        | inl same ↦ subst (λ x. is_note (decision_at new x) ≡ true) (sym same) here
        | inr ne ↦ elim (cases_lt (has.0) k) [
          | inl below ↦ ap is_note (other h ne) ∙ noted.complete h (has.0, below, has.2)
          | inr from ↦
              let less = has.1 in
              let at : has.0 ≡ k = omega (arith, from, less) in
              let too = subst (λ n. Lacks s bytes section n (relocation_in bytes n) h) at (has.2) in
              absurd (ne (one_index s bytes (relocation_in bytes k) h high (too.1) (lacks.1)))
        ]
      ];
    }

-- ---- notes at all of a label

pub record AreCopied (s : RelaxContext) (bytes section : List ℕ) (first now : List Decision) (k : ℕ)
    : Type 0 where
  pub same_len : length now ≡ length first
  pub done : (n : ℕ) → n < k → IsInLabel s.architecture s.phase (relocation_in bytes n).r_type true
      → IsLabelNote s bytes section (relocation_in bytes n) (is_note (decision_at now n))
  pub highs : (n high : ℕ) → IsHighIn s bytes (relocation_in bytes n) (Some high)
      → decision_at now high ≡ decision_at first high

pub same_copied : (s : RelaxContext) (bytes section : List ℕ) (first now : List Decision) (k : ℕ)
    → AreCopied s bytes section first now k
    → IsInLabel s.architecture s.phase (relocation_in bytes k).r_type false
    → AreCopied s bytes section first now (k + 1)
same_copied s bytes section first now k copied outside =
    record {
      same_len = copied.same_len;
      done = λ n less in_label. elim (cases_lt n k) [
        | inl below ↦ copied.done n below in_label
        | inr from ↦
            let here : n ≡ k = omega (arith, from, less) in
            isnt (one_in_label s.architecture s.phase (relocation_in bytes k).r_type true false
            (subst (λ m. IsInLabel s.architecture s.phase (relocation_in bytes m).r_type true) here in_label) outside)
      ];
      highs = copied.highs;
    }

note_by : (s : RelaxContext) (bytes section : List ℕ) (first : List Decision) (r : Rela) (high : ℕ)
    (note : Bool) → IsAscending bytes → AreHighsNoted s bytes section first (length bytes / 24)
    → IsHighIn s bytes r (Some high) → is_note (decision_at first high) ≡ note
    → IsLabelNote s bytes section r note
note_by s bytes section first r high true ascending noted is reads =
    inr (inr (high, is, noted.sound high (high_within s bytes r high is) reads))
note_by s bytes section first r high false ascending noted is reads = (
  high,
  is,
  (ascending, λ has. isnt (sym (noted.complete high has) ∙ reads)),
)

note_right : (s : RelaxContext) (bytes section : List ℕ) (first now : List Decision) (r : Rela)
    (note : Decision) (high : Option ℕ) → IsAscending bytes
    → AreHighsNoted s bytes section first (length bytes / 24)
    → ((h : ℕ) → IsHighIn s bytes r (Some h) → decision_at now h ≡ decision_at first h)
    → IsHighIn s bytes r high → IsNoteAt now high note
    → IsLabelNote s bytes section r (is_note note)
note_right s bytes section first now r note None ascending noted same none is =
    subst (λ d. IsLabelNote s bytes section r (is_note d)) (sym is) (inr (inl none))
note_right s bytes section first now r note (Some h) ascending noted same high is =
    note_by s bytes section first r h (is_note note) ascending noted high
    (ap is_note (sym (is ∙ same h high)))

pub more_copied : (s : RelaxContext) (bytes section : List ℕ) (first now : List Decision) (k : ℕ)
    (note : Decision) → AreCopied s bytes section first now k → k < length now → IsAscending bytes
    → AreHighsNoted s bytes section first (length bytes / 24)
    → IsNoteOf s.phase s.addresses s.values bytes now (relocation_in bytes k) note
    → AreCopied s bytes section first (slice_set now k note) (k + 1)
more_copied s bytes section first now k note copied within ascending noted is =
    let new : List Decision = slice_set now k note in
    let here : decision_at new k ≡ note = get_or-set_same now k note Kept within in
    let other : (n : ℕ) → (n ≡ k → ⊥) → decision_at new n ≡ decision_at now n =
    λ n ne. get_or-set_other now k n note Kept ne in
    record {
      same_len = length-set now k note ∙ copied.same_len;
      done = λ n less in_label. elim (cases_lt n k) [
        | inl below ↦
            subst (λ d. IsLabelNote s bytes section (relocation_in bytes n) (is_note d))
            (sym (other n (λ e. absurd (omega (arith, e, below))))) (copied.done n below in_label)
        | inr from ↦
            let at : k ≡ n = omega (arith, from, less) in
            subst (λ m. IsLabelNote s bytes section (relocation_in bytes m) (is_note (decision_at new m))) at
            (subst (λ d. IsLabelNote s bytes section (relocation_in bytes k) (is_note d)) (sym here)
            (note_right s bytes section first now (relocation_in bytes k) note (is.0) ascending noted
            (λ h high. copied.highs k h high) (is.1) (is.2)))
      ];
      highs = λ n high of. elim (cases_eq high k) [
        | inl same ↦
            let own : IsHighIn s bytes (relocation_in bytes k) (Some k) =
            subst (λ h. IsHighIn s bytes (relocation_in bytes h) (Some h)) same
            (own_high s bytes (relocation_in bytes n) high of) in
            let read : note ≡ decision_at now k =
            subst (λ x. IsNoteAt now x note) (one_high s bytes (relocation_in bytes k) (is.0) (Some k) (is.1) own) (is.2) in
            subst (λ h. decision_at new h ≡ decision_at first h) (sym same)
            (here ∙ (read ∙ copied.highs k k own))
        | inr ne ↦ other high ne ∙ copied.highs n high of
      ];
    }

-- ---- architectures without labels

pub aarch64_none : (phase : Phase) (name : AArch64Relocation) → is_labelled (aarch64_scope_in phase name) ≡ false
aarch64_none PreLayout aarch64.R_AARCH64_CALL26 = refl
aarch64_none TlsLocalExec name = refl
aarch64_none GotToPcRel aarch64.R_AARCH64_ADR_GOT_PAGE = refl
aarch64_none ShortPcRel aarch64.R_AARCH64_ADR_PREL_PG_HI21 = refl
aarch64_none phase name = refl

loongarch_none : (phase : Phase) (name : LoongArch64Relocation) → is_labelled (loongarch_scope_in phase name) ≡ false
loongarch_none PreLayout loongarch64.R_LARCH_GOT_PC_HI20 = refl
loongarch_none TlsLocalExec loongarch64.R_LARCH_TLS_LE_HI20_R = refl
loongarch_none phase name = refl

pub ppc64_none : (phase : Phase) (name : Ppc64Relocation) → is_labelled (ppc64_scope_in phase name) ≡ false
ppc64_none PreLayout ppc64.R_PPC64_REL24 = refl
ppc64_none TlsLocalExec ppc64.R_PPC64_TPREL16_HA = refl
ppc64_none ShortPcRel ppc64.R_PPC64_TOC16_HA = refl
ppc64_none phase name = refl

pub x86_64_none : (phase : Phase) (name : X86_64Relocation) → is_labelled (x86_64_scope_in phase name) ≡ false
x86_64_none PreLayout x86_64.R_X86_64_GOTPCREL = refl
x86_64_none phase name = refl

no_label : (architecture : Architecture) (phase : Phase) (r_type : ℕ)
    → has_labels architecture phase ≡ false → IsInLabel architecture phase r_type true → ⊥
no_label RiscV TlsLocalExec r_type is in_label = isnt is
no_label RiscV GotToPcRel r_type is in_label = isnt is
no_label RiscV PreLayout r_type is in_label = isnt (in_label.2 ∙ ap is_labelled (in_label.1).value_is)
no_label RiscV ShortPcRel r_type is in_label = isnt (in_label.2 ∙ ap is_labelled (in_label.1).value_is)
no_label AArch64 phase r_type is in_label =
    isnt (in_label.2 ∙ (ap is_labelled (in_label.1).value_is ∙ aarch64_none phase (in_label.1).name))
no_label LoongArch64 phase r_type is in_label =
    isnt (in_label.2 ∙ (ap is_labelled (in_label.1).value_is ∙ loongarch_none phase (in_label.1).name))
no_label Ppc64 phase r_type is in_label =
    isnt (in_label.2 ∙ (ap is_labelled (in_label.1).value_is ∙ ppc64_none phase (in_label.1).name))
no_label X86_64 phase r_type is in_label =
    isnt (in_label.2 ∙ (ap is_labelled (in_label.1).value_is ∙ x86_64_none phase (in_label.1).name))

pub no_labels : (s : RelaxContext) (bytes section : List ℕ) (decisions : List Decision)
    → has_labels s.architecture s.phase ≡ false → AreLabelsNoted s bytes section decisions 0
no_labels s bytes section decisions is n from less in_label =
    absurd (no_label s.architecture s.phase (relocation_in bytes n).r_type is in_label)

-- ---- decisions

pub stays_or_fits : (s : RelaxContext) (bytes section : List ℕ) (r : Rela) (high : ℕ)
    → LabelStays s bytes section r → IsHighIn s bytes r (Some high)
    → LabelFits s bytes section high → ⊥
stays_or_fits s bytes section r high stays is fits =
    elim stays [
      | inl unsorted ↦ unsorted (fits.0)
      | inr other ↦ elim other [
        | inl none ↦ not_none s bytes r high is none
        | inr has ↦ fits.1 (subst (HasLacking s bytes section (length bytes / 24))
            (one_index s bytes r (has.0) high (has.1) is) (has.2))
      ]
    ]

pub one_label_decision : (s : RelaxContext) (bytes section : List ℕ) (n : ℕ) (r : Rela) (x y : Decision)
    → IsLabelDecision s bytes section n r x → IsLabelDecision s bytes section n r y → x ≡ y
one_label_decision s bytes section n r x y a b =
    elim a [
      | inl stays ↦ elim b [
        | inl too ↦ stays.1 ∙ sym (too.1)
        | inr fits ↦ absurd (stays_or_fits s bytes section r (fits.0) (stays.0) (fits.1) (fits.2))
      ]
      | inr fits ↦ elim b [
        | inl stays ↦ absurd (stays_or_fits s bytes section r (fits.0) (stays.0) (fits.1) (fits.2))
        | inr too ↦
            let same : too.0 ≡ fits.0 = one_index s bytes r (too.0) (fits.0) (too.1) (fits.1) in
            let one : Some (fits.3) ≡ Some (too.3) =
            one_label_candidate s bytes section n r (fits.0) (Some (fits.3)) (Some (too.3)) (fits.4)
            (subst (λ h. IsLabelCandidate s bytes section n r h (Some (too.3))) same (too.4)) in
            let chosen : fits.3 ≡ too.3 = cc in
            fits.5 ∙ (ap (λ c. label_decision s.phase c (relocation_in bytes (fits.0))) chosen
            ∙ (ap (λ h. label_decision s.phase (too.3) (relocation_in bytes h)) (sym same) ∙ sym (too.5)))
      ]
    ]

-- all of a label can be rewritten: this one too
pub fits_here : (s : RelaxContext) (bytes section : List ℕ) (n : ℕ) (r : Rela) (high : ℕ)
    → r ≡ relocation_in bytes n → n < length bytes / 24
    → IsInLabel s.architecture s.phase r.r_type true → IsHighIn s bytes r (Some high)
    → LabelFits s bytes section high → IsLabelCandidate s bytes section n r high None → ⊥
fits_here s bytes section n r high same within in_label is fits none =
    fits.1 (n, within, subst (λ x. Lacks s bytes section n x high) same (in_label, is, none))

-- as noted, and as the search finds
pub rewritten_label : (s : RelaxContext) (bytes section : List ℕ) (n : ℕ) (r : Rela) (high : ℕ)
    (chosen : Choice Relaxation ℕ) (part : Rela) (d : Decision)
    → IsLabelNote s bytes section r false
    → (IsAscending bytes → IsHighIn s bytes r (Some high))
    → IsLabelCandidate s bytes section n r high (Some chosen) → part ≡ relocation_in bytes high
    → d ≡ label_decision s.phase chosen part → IsLabelDecision s bytes section n r d
rewritten_label s bytes section n r high chosen part d noted is candidate same decided =
    let here = is (noted.2.0) in
    inr (
      high,
      here,
      subst (LabelFits s bytes section) (one_index s bytes r (noted.0) high (noted.1) here) (noted.2),
      chosen,
      candidate,
      decided ∙ ap (label_decision s.phase chosen) same,
    )

pub never_kept : (s : RelaxContext) (bytes section : List ℕ) (n : ℕ) (r : Rela) (high : ℕ)
    → IsLabelNote s bytes section r false
    → (IsAscending bytes → IsHighIn s bytes r (Some high))
    → IsLabelCandidate s bytes section n r high None → r ≡ relocation_in bytes n
    → n < length bytes / 24 → IsInLabel s.architecture s.phase r.r_type true → ⊥
never_kept s bytes section n r high noted is none same within in_label =
    let here = is (noted.2.0) in
    fits_here s bytes section n r high same within in_label here
    (subst (LabelFits s bytes section) (one_index s bytes r (noted.0) high (noted.1) here) (noted.2)) none

-- what holds with another symbol and without holds of a label's decision
pub either_label : (P : Decision → Type 0) (phase : Phase) (chosen : Choice Relaxation ℕ) (high : Rela)
    → P (rewritten_by true chosen high) → P (rewritten_by false chosen high)
    → P (label_decision phase chosen high)
either_label P phase chosen high other own = either (takes_symbol phase chosen.relocation)
  where
    either : (takes : Bool) → P (rewritten_by takes chosen high)
    either true = other
    either false = own

-- a group that doesn't stay has a high part
pub noted_high : (s : RelaxContext) (bytes section : List ℕ) (r : Rela) → IsLabelNote s bytes section r false
    → (IsAscending bytes → IsHighIn s bytes r None) → ⊥
noted_high s bytes section r note none =
    let fits = note.2 in not_none s bytes r (note.0) (note.1) (none (fits.0))
