-- What stands at each place of a section, and runs of its code, of any architecture; and what the
-- calls leave.
use Rattle.linker_final.proofs.Imports.{Addresses, Architecture, AreCalled, AreDecidedIn, AreInTurn, AreLeft, AreListed, ArePhases, AreWritten, Bool, Choice, Comparison, Decision, EachPlace, ElfName, HasRewritten, IsBesideAll, IsFollowed, IsLinked, IsLinkedAs, IsOfCalls, IsOfEntry, IsOfOne, IsPackedRun, IsPhase, IsPhaseIn, IsRewrittenAs, IsScopeIn, Item, Kept, Kinds, Known, Knows, Labelled, Linked, List, Machine, Next, Phase, Place, RelaxContext, Relaxation, RewritesAreGroups, Rewriting, RewritingPhase, Rewritten, RewrittenWithSymbol, RunsAreFollowed, Scope, Section, Simulates, State, Subject, Symbol, UnrelaxableGroups, [], ap, arith, begins, by_group, cases_eq, cases_lt, chosen_or_labelled, code_at, comparison, count, count_of, decision_at, deletions_by, drop, elsewhere, false, get_or, inl, inr, length, linked_by, offset_of, pairs_in, refl, relocation_in, rewriting_phase, section_of, subst, suc, sym, take, true, unchanged, uncovered, within, zero, ℕ, ⊤, ◌+◌, ◌-◌, ◌<◌, ◌^◌, ◌∙◌, ◌∷◌, ◌≡◌, ◌≢◌, ◌≤◌, ◌⊎◌}
use Rattle.linker_elf.specs.Choices.{Entry}
use Rattle.linker_final.specs.Final.{rewritten}
use Rattle.linker_final.proofs.PackedBytes.{are_bytes}
use Rattle.linker_rewriting.specs.declared.decisions.Deletion.{Deletion}
use Rattle.linker_runs.specs.Moved.{AreMoved}

-- all below a limit, or what one of them shows
pub each_or : {Q : Type 0} (P : ℕ → Type 0) (m : ℕ) → ((i : ℕ) → i < m → P i ⊎ Q)
    → ((i : ℕ) → i < m → P i) ⊎ Q
each_or P zero one = inl (λ i less. absurd (omega (arith, less)))
each_or P (suc m) one =
    elim (each_or P m (λ i less. one i (omega (arith, less)))) [
      | inl all ↦ elim (one m (omega arith)) [
        | inl last ↦ inl (λ i less. elim (cases_lt i m) [
          | inl before ↦ all i before
          | inr past ↦ let e : m ≡ i = omega (arith, less, past) in subst P e last
        ])
        | inr shown ↦ inr shown
      ]
      | inr shown ↦ inr shown
    ]

-- ---- phases

-- what the calls left, from some phase on
each_linked : (Ensured : Linked → Type 0) (phases : List RewritingPhase) (relocations section : List ℕ) (x : Section)
    → AreInTurn Ensured phases relocations section x.relocations_last x.last x.addresses x.symbols x.final
    → (l : Linked) → IsPhaseIn phases x l → Ensured l
each_linked Ensured [] relocations section x are l is = absurd is
each_linked Ensured (p ∷ later) relocations section x are l (inl is) = subst Ensured (sym is) (are.1)
each_linked Ensured (p ∷ later) relocations section x are l (inr is) =
    each_linked Ensured later p.relocations_after p.rewritten x (are.2) l is

pub record IsOf (x : Section) (l : Linked) : Type 0 where
  pub final : l.final ≡ x.final
  pub addresses : l.addresses ≡ x.addresses
  pub symbols : l.symbols ≡ x.symbols

pub is_of : (phases : List RewritingPhase) (x : Section) (l : Linked) → IsPhaseIn phases x l → IsOf x l
is_of [] x l is = absurd is
is_of (p ∷ later) x l (inl is) =
    record {
      final = ap (λ (m : Linked). m.final) is;
      addresses = ap (λ (m : Linked). m.addresses) is;
      symbols = ap (λ (m : Linked). m.symbols) is;
    }
is_of (p ∷ later) x l (inr is) = is_of later x l is

pub final_in : (Has : Addresses → List ℕ → Type 0) (x : Section) (l : Linked) → IsPhase x l → Has x.addresses x.final
    → Has l.addresses l.final
final_in Has x l is final =
    let of = is_of x.phases x l is in
    subst (Has l.addresses) (sym of.final) (subst (λ a. Has a x.final) (sym of.addresses) final)

-- where relocations have no labels
pub without_label : {architecture : Architecture} (l : Linked)
    → AreDecidedIn l.context l.kept l.relocations l.section l.decisions (count l) → l.context.architecture ≡ architecture
    → ((phase : Phase) (code : ℕ) (scope : Scope) → IsScopeIn architecture phase code scope → scope ≡ Labelled → ⊥)
    → (i : ℕ) (chosen : Choice Relaxation ℕ) (subject : Subject) → i < count l
    → decision_at l.decisions i ≡ RewrittenWithSymbol chosen subject → ⊥
without_label l decided same unlabelled i chosen subject below is =
    let code = (relocation_in l.relocations i).r_type in
    elim (chosen_or_labelled l.context l.kept l.relocations l.section l.decisions (count l) i (RewrittenWithSymbol chosen subject) chosen decided below is refl) [
      | inl alone ↦ let e : RewrittenWithSymbol chosen subject ≡ Rewritten chosen = alone.is in cc
      | inr label ↦ unlabelled l.context.phase code Labelled
          (subst (λ x. IsScopeIn x l.context.phase code Labelled) same label.scope_is) refl
    ]

-- ---- entries of tables

-- what each entry of a table shows
abbrev pub Cases : {K N : Type 0} → Type 0 → (Entry K N → Type 0) → List (Entry K N) → Type 0
Cases Q Is [] = ⊤
Cases Q Is (e ∷ es) = (Is e → Q) × Cases Q Is es

pub by_cases : {K N Q : Type 0} (elf : N → ElfName) (relaxation : K → Relaxation) (IsMeant : Entry K N → Type 0)
    (chosen : Choice Relaxation ℕ) (es : List (Entry K N)) → IsOfOne elf relaxation IsMeant es chosen
    → Cases Q (λ e. IsOfEntry elf relaxation IsMeant e chosen) es → Q
by_cases elf relaxation IsMeant chosen [] nothing cases = absurd nothing
by_cases elf relaxation IsMeant chosen (e ∷ es) (inl this) cases = (cases.0) this
by_cases elf relaxation IsMeant chosen (e ∷ es) (inr other) cases = by_cases elf relaxation IsMeant chosen es other (cases.1)

-- ---- instructions of 4 bytes

kept_or_not : (d : Decision) → (d ≡ Kept) ⊎ (d ≢ Kept)
kept_or_not Kept = inl refl
kept_or_not d = inr (λ e. cc)

-- a byte is of none whose relocation doesn't stay, or what one shows of which it is
pub beside_or : {Q : Type 0} (l : Linked) (b : ℕ)
    → ((i : ℕ) → i < count l → decision_at l.decisions i ≢ Kept → offset_of l i ≤ b → b < offset_of l i + 4 → Q)
    → IsBesideAll l b ⊎ Q
beside_or l b each =
    each_or (λ i. decision_at l.decisions i ≢ Kept → (b < offset_of l i) ⊎ (offset_of l i + 4 ≤ b)) (count l) (λ i below.
    elim (cases_lt b (offset_of l i)) [
      | inl before ↦ inl (λ changed. inl before)
      | inr from ↦ elim (cases_lt b (offset_of l i + 4)) [
        | inl less ↦ elim (kept_or_not (decision_at l.decisions i)) [
          | inl stays ↦ inl (λ changed. absurd (changed stays))
          | inr changed ↦ inr (each i below changed from less)
        ]
        | inr past ↦ inl (λ changed. inr past)
      ]
    ])

-- ---- an architecture

-- in a phase the relocation at an index is rewritten
pub record IsRewrittenAt (r : Rewriting) (l : Linked) (i : ℕ) : Type 0 where
  pub ensured : r.Ensured l
  pub architecture : l.context.architecture ≡ r.architecture
  pub below : i < count l
  pub chosen : Choice Relaxation ℕ
  pub decided : decision_at l.decisions i ≡ Rewritten chosen

-- a byte is of instructions that are rewritten together
pub record IsIn (r : Rewriting) (l : Linked) (b : ℕ) : Type 0 where
  pub g : r.Rewrites l
  pub first : (r.span l g).0 ≤ b
  pub last : b < (r.span l g).1

abbrev pub AreIn : Rewriting → Type 0
AreIn r =
    (l : Linked) → r.Ensured l → l.context.architecture ≡ r.architecture → (b : ℕ) → r.Stays l b ⊎ IsIn r l b

module _ (r : Rewriting) where
  pub is_linked : (x : Section) → AreCalled r x → (l : Linked) → IsPhase x l → r.Ensured l
  is_linked x called = each_linked r.Ensured x.phases x.relocations x.section x called.linked

  -- ---- what stands at a place

  module _ (are_in : AreIn r) (x : Section) (called : AreCalled r x) (at n : ℕ) where
    -- in a phase an instruction stays, or it doesn't
    place_of : (l : Linked) → IsPhase x l → AreLeft r at n l ⊎ Place r x at n
    place_of l is =
        elim (each_or (λ j. r.Stays l (at + j)) n (λ j less. by j less (are_in l (is_linked x called l is) (called.architecture l is) (at + j)))) [
          | inl all ↦ inl (λ b from less.
              let e : at + (b - at) ≡ b = omega (arith, from) in
              subst (r.Stays l) e (all (b - at) (omega (arith, from, less))))
          | inr place ↦ inr place
        ]
      where
        by : (j : ℕ) → j < n → r.Stays l (at + j) ⊎ IsIn r l (at + j) → r.Stays l (at + j) ⊎ Place r x at n
        by j less (inl stays) = inl stays
        by j less (inr w) =
            elim (cases_eq at (r.span l w.g).0) [
              | inl e ↦ inr (begins l is w.g e)
              | inr differs ↦ inr (within l is w.g (omega (arith, w.first, less)) (omega (arith, w.last)))
            ]

    -- in all of some phases it stays, or it doesn't in one
    place_in : (phases : List RewritingPhase) → ((l : Linked) → IsPhaseIn phases x l → IsPhase x l)
        → ((l : Linked) → IsPhaseIn phases x l → AreLeft r at n l) ⊎ Place r x at n
    place_in [] are = inl (λ l is. absurd is)
    place_in (p ∷ later) are =
        elim (place_of (linked_by p later x.relocations_last x.last x.addresses x.symbols x.final) (are _ (inl refl))) [
          | inl none ↦ elim (place_in later (λ m is. are m (inr is))) [
            | inl all ↦ inl (λ m is. elim is [
              | inl first ↦ subst (AreLeft r at n) (sym first) none
              | inr other ↦ all m other
            ])
            | inr one ↦ inr one
          ]
          | inr one ↦ inr one
        ]

  pub each_place : AreIn r → EachPlace r
  each_place are_in x called at n =
      elim (place_in are_in x called at n x.phases (λ l is. is)) [
        | inl all ↦ unchanged all
        | inr one ↦ one
      ]

  -- ---- runs

  abbrev is_covered : (c : Comparison) (k : c.Known) (s : State) → Next c k s → Bool
  is_covered c k s uncovered = false
  is_covered c k s next = true

  module _ (groups : RewritesAreGroups r) (x : Section) (called : AreCalled r x) (c : r.Code) where
    -- what follows is known
    next_of : (k : Kinds) (s : State) → Known r x c k s → Next (comparison r c) k s
    next_of k s (rewritten l is g n k' s' begins_so) =
        by_group n k' s' (groups x c called l is k s g n k' s' begins_so)
    next_of k s (elsewhere next) = next

    unknown : (k : Kinds) (s : State) (known : Known r x c k s) → next_of k s known ≡ uncovered
        → known ≡ elsewhere uncovered
    unfolding next_of
    unknown k s (rewritten l phase g n k' s' begins_so) is =
        absurd (let e : true ≡ false = ap (is_covered (comparison r c) k s) is in cc)
    unknown k s (elsewhere next) is = ap elsewhere is

    followed : Simulates (comparison r c) → (k : Kinds) (s : State) (knows : Knows r x c k s) (m : ℕ)
        → IsFollowed r x c k s knows m
    followed simulates k s knows m =
        let w = simulates.covers k s (λ q n k' s' covered. next_of k' s' (knows q n k' s' covered)) m in
        record {
          q = w.q;
          n = w.n;
          kinds_then = w.known;
          state = w.state;
          covered = w.covered;
          far = elim w.far [
            | inl enough ↦ inl enough
            | inr short ↦ elim short [
              | inl stops ↦ inr (inl stops)
              | inr nothing ↦ inr (inr (unknown w.known w.state (knows w.q w.n w.known w.state w.covered) nothing))
            ]
          ];
          agrees = λ t agree. simulates.follows w.q w.n k w.known s w.state t w.covered agree;
        }

  pub runs_are_followed : RewritesAreGroups r → ((c : r.Code) → Simulates (comparison r c)) → RunsAreFollowed r
  runs_are_followed groups simulates x c called k s knows m = followed groups x called c (simulates c) k s knows m

-- ---- what a call of a phase leaves

pub has_rewritten : (s : RelaxContext) (kept : List UnrelaxableGroups) (before section : List ℕ) (ds : List Decision)
    (after bytes : List ℕ) → IsRewrittenAs s kept before after section bytes ds
    → length after ≡ length before → length bytes ≡ length section
    → HasRewritten (rewriting_phase s kept before section ds after bytes)
has_rewritten s kept before section ds after bytes made as_many same_length =
    record {
      made = record {
        decided = made.decided;
        relocations = made.relocations;
        done = made.done;
        others = made.others;
        same_length = same_length;
      };
      as_many = as_many;
    }

-- by what is known of slices
pub linked_by_slices : (l : Linked) → HasRewritten l.phase
    → ArePhases l.later l.relocations_after l.rewritten l.relocations_last l.last
    → AreWritten l.context.architecture l.addresses l.relocations_last l.symbols l.last l.final
    → ((i : ℕ) → get_or l.relocations i 0 < 2 ^ 8) → ((i : ℕ) → get_or l.section i 0 < 2 ^ 8)
    → ((i : ℕ) → get_or l.final i 0 < 2 ^ 8) → IsLinked l
linked_by_slices l first later written relocations section final =
    record {
      first = first;
      later = later;
      written = written;
      relocation_bytes = are_bytes l.relocations relocations;
      section_bytes = are_bytes l.section section;
      final_bytes = are_bytes l.final final;
    }

pub listed_so : (p : RewritingPhase) (before after : List Deletion) (len : ℕ)
    → take len (pairs_in after) ≡ deletions_by p.relocations p.decisions (count_of p)
    → drop len after ≡ drop len before → AreListed p before after
listed_so p before after len listed others = record { len = len; listed = listed; others = others }

-- ---- programs that the calls link

abbrev pub of_calls : (r : Rewriting) (phase : Phase) (addresses : Addresses) (symbols : List Symbol)
    (relocations object final : List ℕ) (old new : ℕ → ℕ) → ((l : Linked) → IsLinked l → r.Ensured l)
    → AreWritten r.architecture addresses relocations symbols object (code_at old addresses.section (length object))
    → final ≡ code_at new addresses.section (length final)
    → IsLinkedAs r.architecture phase addresses symbols relocations object final
    → IsOfCalls r object relocations old new
of_calls r phase addresses symbols relocations object final old new ensured written new_is by =
    let are = by.linked in
    let x : Section = record {
      phases = by.first ∷ by.second ∷ [];
      relocations = relocations;
      section = object;
      relocations_last = by.relocations_last;
      last = by.last;
      addresses = addresses;
      symbols = symbols;
      final = final;
    } in
    record {
      section = x;
      is_object = refl;
      are_relocations = refl;
      called = record {
        linked = (are.0, ensured _ are.1, (are.2.0, ensured _ are.2.1, tt));
        architecture = λ l is. elim is [
          | inl first ↦ ap (λ (l : Linked). l.context.architecture) first ∙ by.first_is.architecture_is
          | inr later ↦ elim later [
            | inl second ↦ ap (λ (l : Linked). l.context.architecture) second ∙ by.second_is.architecture_is
            | inr none ↦ absurd none
          ]
        ];
      };
      old_is = written;
      new_is = new_is;
    }

-- the same with equal deletions, and over equal bytes
pub packed_with : (machine : Machine) (section : List ℕ) (base start : ℕ) (items : List Item) (d e : List (ℕ × ℕ)) (packed : List ℕ)
    → d ≡ e → IsPackedRun machine (section_of section base d start) items packed
    → IsPackedRun machine (section_of section base e start) items packed
packed_with machine section base start items d e packed is =
    subst (λ d. IsPackedRun machine (section_of section base d start) items packed) is

pub moved_with : (machine : Machine) (section : List ℕ) (base start : ℕ) (items : List Item) (d e : List (ℕ × ℕ)) (before after : List ℕ)
    → d ≡ e → AreMoved machine (section_of section base d start) items before after
    → AreMoved machine (section_of section base e start) items before after
moved_with machine section base start items d e before after is =
    subst (λ d. AreMoved machine (section_of section base d start) items before after) is

pub written_over : (architecture : Architecture) (addresses : Addresses) (relocations : List ℕ) (symbols : List Symbol)
    (xs ys final : List ℕ) → xs ≡ ys → AreWritten architecture addresses relocations symbols xs final
    → AreWritten architecture addresses relocations symbols ys final
written_over architecture addresses relocations symbols xs ys final is =
    subst (λ bytes. AreWritten architecture addresses relocations symbols bytes final) is
