-- The lines of an input take its section through the same states, but for the bytes of the section.
use Rattle.linkfix.proofs.Imports.{All, All-contains, AreApart, AreBySite, BeginWithLines, Call as JumpFailed, CallError, CallFailsWith, CanJump, Contains, Contains-permutation, Executes, ExecutesLine, ExecutesLines, IsApart, IsFarFrom, IsFirstRejected, IsPermutation-sym, IsPermutation-trans, IsRejected, List, OddDistance, OfAuipc, OutOfSection, Rejects, RejectsLine, ReportedError, SectionState, SiteDeleted, Some, TooFar, Vec, [], all_pairs_head, all_pairs_tail, ap, arith, decoded_hex, drop_through, first_line, get_or, inl, inr, length, refl, subst, sym, take, words_of, ℕ, ⊎_elim, ◌++◌, ◌∙◌, ◌∷◌, ◌≡◌, ◌≢◌, ◌⊎◌}
use Rattle.std.specs.Global.{Global}
use Rattle.linker_utils.specs.Deletions.{AreDisjoint, HasInput, IsSortedUnion}
use Rattle.linker_base.proofs.Unions.{union_once, contains_cases, contains_head, contains_tail}
use Rattle.linkfix.specs.CommandSyntax.{IsWrittenAs}
use Rattle.linkfix.specs.Laws.{RejectedInputsAreNotExecuted}
use Rattle.linkfix.specs.declared.commands.Command.{Command}
use Rattle.linkfix.specs.declared.commands.Command.TheVariants.{Call, Delete, Pack, Show, ToInput, ToOutput}

-- ---- calls by site

record HaveSame (xs ys : List (ℕ × ℕ)) : Type 0 where
  there : (d : ℕ × ℕ) → Contains xs d → Contains ys d
  back : (d : ℕ × ℕ) → Contains ys d → Contains xs d

-- lists by ascending site that have the same calls are equal
same_apart : (xs ys : List (ℕ × ℕ)) → AreApart xs → AreApart ys → HaveSame xs ys → xs ≡ ys
same_apart [] [] up rise have = refl
same_apart [] (y ∷ ys) up rise have = let found = have.back y (contains_head y ys) in absurd (omega (arith, found.1))
same_apart (x ∷ xs) [] up rise have = let found = have.there x (contains_head x xs) in absurd (omega (arith, found.1))
same_apart (x ∷ xs) (y ∷ ys) up rise have =
    let above = all_pairs_head IsApart x xs up in
    let over = all_pairs_head IsApart y ys rise in
    let first : x ≡ y = ⊎_elim
    (λ (later : Contains ys x). ⊎_elim
    (λ (after : Contains xs y). absurd (omega (arith, All-contains (IsApart y) ys x over later, All-contains (IsApart x) xs y above after)))
    (λ same. same)
    (contains_cases x y xs (have.back y (contains_head y ys))))
    (λ same. sym same)
    (contains_cases y x ys (have.there x (contains_head x xs))) in
    let rest = same_apart xs ys (all_pairs_tail IsApart x xs up) (all_pairs_tail IsApart y ys rise) (record {
      there = λ d held. ⊎_elim (λ later. later) (λ (same : y ≡ d). absurd (omega (arith, All-contains (IsApart x) xs d above held, ap (λ (e : ℕ × ℕ). e.0) (first ∙ same)))) (contains_cases y d ys (have.there d (contains_tail x d xs held)));
      back = λ d held. ⊎_elim (λ later. later) (λ (same : x ≡ d). absurd (omega (arith, All-contains (IsApart y) ys d over held, ap (λ (e : ℕ × ℕ). e.0) (sym first ∙ same)))) (contains_cases x d xs (have.back d (contains_tail y d ys held)));
    }) in
    cc

by_site_once : (all a b : List (ℕ × ℕ)) → AreBySite all a → AreBySite all b → a ≡ b
by_site_once all a b one other =
    let same = IsPermutation-trans a all b (IsPermutation-sym all a one.same) other.same in
    same_apart a b one.apart other.apart (record {
      there = λ d held. Contains-permutation a b d same held;
      back = λ d held. Contains-permutation b a d (IsPermutation-sym a b same) held;
    })

-- ---- commands

-- the first letter of the first word
abbrev first_letter : List (List ℕ) → ℕ
first_letter [] = 0
first_letter ([] ∷ words) = 0
first_letter ((c ∷ cs) ∷ words) = c

-- words are those of one command alone
written_once : (a b : Command) (words : List (List ℕ)) → IsWrittenAs a words → IsWrittenAs b words → a ≡ b
written_once (Delete o n) (Delete p m) words w v = cc (w.2, v.2, w.3.1, v.3.1, w.4.0.1, v.4.0.1)
written_once (ToOutput i) (ToOutput j) words w v = cc (w.1, v.1, w.2.1, v.2.1)
written_once (ToInput i) (ToInput j) words w v = cc (w.1, v.1, w.2.1, v.2.1)
written_once (Call s t) (Call u r) words w v = cc (w.2, v.2, w.3.1, v.3.1, w.4.1, v.4.1)
written_once Show Show words w v = refl
written_once Pack Pack words w v = refl
written_once Show Pack words w v = absurd (omega (arith, ap first_letter (sym w ∙ v)))
written_once Pack Show words w v = absurd (omega (arith, ap first_letter (sym w ∙ v)))
written_once a b words w v = cc

not_blank : (command : Command) (words : List (List ℕ)) → IsWrittenAs command words → words ≢ []
not_blank (Delete o n) words w none = cc (w.2, none)
not_blank (ToOutput i) words w none = cc (w.1, none)
not_blank (ToInput i) words w none = cc (w.1, none)
not_blank (Call s t) words w none = cc (w.2, none)
not_blank Show words w none = cc (w, none)
not_blank Pack words w none = cc (w, none)

-- ---- states that differ in bytes alone

record IsSame (a b : SectionState) : Type 0 where
  len : length a.section.items ≡ length b.section.items
  deltas : a.deltas ≡ b.deltas
  calls : a.calls ≡ b.calls

unchanged : (a b a1 b1 : SectionState) → IsSame a b → a1 ≡ a → b1 ≡ b → IsSame a1 b1
unchanged a b a1 b1 same x y = subst (λ s. IsSame s b1) (sym x) (subst (IsSame a) (sym y) same)

executes_same : (command : Command) (a b a1 b1 : SectionState) (p q : List ℕ) → IsSame a b → Executes command a a1 p → Executes command b b1 q → IsSame a1 b1
executes_same (Delete o n) a b a1 b1 p q same x y = record {
  len = ap (λ (v : Vec ℕ Global). length v.items) x.1 ∙ same.len ∙ sym (ap (λ (v : Vec ℕ Global). length v.items) y.1);
  deltas = union_once (b.deltas ++ (o, n) ∷ []) a1.deltas b1.deltas (subst (λ ds. IsSortedUnion (ds ++ (o, n) ∷ []) a1.deltas) same.deltas x.3) y.3;
  calls = x.2 ∙ same.calls ∙ sym y.2;
}
executes_same (ToOutput i) a b a1 b1 p q same x y = unchanged a b a1 b1 same x.1 y.1
executes_same (ToInput o) a b a1 b1 p q same x y = unchanged a b a1 b1 same x.3 y.3
executes_same (Call s t) a b a1 b1 p q same x y = record {
  len = x.3 ∙ same.len ∙ sym y.3;
  deltas = x.1 ∙ same.deltas ∙ sym y.1;
  calls = by_site_once (b.calls ++ (s, t) ∷ []) a1.calls b1.calls (subst (λ cs. AreBySite (cs ++ (s, t) ∷ []) a1.calls) same.calls x.2) y.2;
}
executes_same Show a b a1 b1 p q same x y = unchanged a b a1 b1 same x.1 y.1
executes_same Pack a b a1 b1 p q same x y = unchanged a b a1 b1 same x.3 y.3

-- what is rejected in one is rejected in the other

module _ (x y : List ℕ) (len : length x ≡ length y) (ds : List (ℕ × ℕ)) where
  fails_same : (cause : CallError) (s t : ℕ) → CallFailsWith cause x ds s t → CallFailsWith cause y ds s t
  fails_same OutOfSection s t fails = λ inside. fails (omega (arith, inside.0), omega (arith, inside.1))
  fails_same SiteDeleted s t fails = ((omega (arith, fails.0.0), omega (arith, fails.0.1)), fails.1)
  fails_same OddDistance s t fails = ((omega (arith, fails.0.0), omega (arith, fails.0.1)), fails.1, fails.2)
  fails_same TooFar s t fails = ((omega (arith, fails.0.0), omega (arith, fails.0.1)), fails.1, fails.2, fails.3)

  jumps_same : (call : ℕ × ℕ) → CanJump OfAuipc ds x call → CanJump OfAuipc ds y call
  jumps_same call can = record { inside = (omega (arith, can.inside.0), omega (arith, can.inside.1)); kept = can.kept; names = tt; even = can.even; near = can.near }

  rejected_same : (call : ℕ × ℕ) (cause : CallError) → IsRejected OfAuipc ds x call (JumpFailed cause) → IsRejected OfAuipc ds y call (JumpFailed cause)
  rejected_same call OutOfSection r = λ inside. r (omega (arith, inside.0), omega (arith, inside.1))
  rejected_same call SiteDeleted r = ((omega (arith, r.0.0), omega (arith, r.0.1)), r.1)
  rejected_same call OddDistance r = ((omega (arith, r.0.0), omega (arith, r.0.1)), r.1, r.2, r.3)
  rejected_same call TooFar r = ((omega (arith, r.0.0), omega (arith, r.0.1)), r.1, r.2, r.3, r.4)

  first_same : (calls : List (ℕ × ℕ)) (at : ℕ) (cause : CallError) → IsFirstRejected OfAuipc ds x calls at (JumpFailed cause) → IsFirstRejected OfAuipc ds y calls at (JumpFailed cause)
  first_same calls at cause first = record {
    within = first.within;
    before = λ k d within. jumps_same (get_or (take at calls) k d) (first.before k d within);
    here = λ call. rejected_same _ cause (first.here call);
  }

rejects_same : (command : Command) (a b : SectionState) (error : ReportedError) → IsSame a b → Rejects command a error → Rejects command b error
rejects_same (Delete o n) a b error same r = (r.0, subst (λ ds. ¬ AreDisjoint (ds ++ (o, n) ∷ [])) same.deltas r.1)
rejects_same (ToOutput i) a b error same r = r
rejects_same (ToInput o) a b error same r = (r.0, subst (λ ds. ¬ HasInput ds o) same.deltas r.1)
rejects_same (Call s t) a b error same (inl bad) = inl (bad.0, subst (λ cs. ¬ All (IsFarFrom s) cs) same.calls bad.1)
rejects_same (Call s t) a b error same (inr r) =
    inr (
      subst (All (IsFarFrom s)) same.calls r.0,
      r.1,
      r.2,
      subst (λ ds. CallFailsWith r.1 b.section.items ds s t) same.deltas (fails_same a.section.items b.section.items same.len a.deltas r.1 s t r.3),
    )
rejects_same Show a b error same r = r
rejects_same Pack a b error same r = (
  r.0,
  r.1,
  r.2,
  subst (λ cs. IsFirstRejected OfAuipc b.deltas b.section.items cs r.0 (JumpFailed r.1)) same.calls
      (subst (λ ds. IsFirstRejected OfAuipc ds b.section.items a.calls r.0 (JumpFailed r.1)) same.deltas
      (first_same a.section.items b.section.items same.len a.deltas a.calls r.0 r.1 r.3)),
)

-- ---- lines

line_same : (line : List ℕ) (a b a1 b1 : SectionState) (p q : List ℕ) → IsSame a b → ExecutesLine line a a1 p → ExecutesLine line b b1 q → IsSame a1 b1
line_same line a b a1 b1 p q same (inl x) (inl y) = unchanged a b a1 b1 same x.1 y.1
line_same line a b a1 b1 p q same (inl x) (inr y) = absurd (not_blank y.0 (words_of line) y.1 x.0)
line_same line a b a1 b1 p q same (inr x) (inl y) = absurd (not_blank x.0 (words_of line) x.1 y.0)
line_same line a b a1 b1 p q same (inr x) (inr y) =
    executes_same y.0 a b a1 b1 x.3 y.3 same (subst (λ c. Executes c a a1 x.3) (written_once x.0 y.0 (words_of line) x.1 y.1) x.4) y.4

line_refused : (line : List ℕ) (a b b1 : SectionState) (p : List ℕ) (error : ReportedError) → IsSame a b → RejectsLine line a error → ¬ ExecutesLine line b b1 p
line_refused line a b b1 p error same (inl bad) (inl blank) = bad.1 blank.0
line_refused line a b b1 p error same (inl bad) (inr done) = bad.2 done.0 done.1
line_refused line a b b1 p error same (inr r) (inl blank) = not_blank r.0 (words_of line) r.1 blank.0
line_refused line a b b1 p error same (inr r) (inr done) =
    done.2 error (rejects_same done.0 a b error same (subst (λ c. Rejects c a error) (written_once r.0 done.0 (words_of line) r.1 done.1) r.2))

-- what all lines do goes through what the first of them do
goes_through : (lines others : List (List ℕ)) (bytes rest : List ℕ) (a b a1 b1 : SectionState) (p q : List ℕ) → IsSame a b
    → BeginWithLines lines bytes rest → ExecutesLines lines a a1 p → BeginWithLines others bytes [] → ExecutesLines others b b1 q
    → (later : List (List ℕ)) × (b2 : SectionState) × IsSame a1 b2 × BeginWithLines later rest [] × (r : List ℕ) × ExecutesLines later b2 b1 r
goes_through [] others bytes rest a b a1 b1 p q same begin run ends goes =
    (others, b, subst (λ s. IsSame s b) (sym run.0) same, subst (λ xs. BeginWithLines others xs []) (sym begin) ends, q, goes)
goes_through (l ∷ ls) [] bytes rest a b a1 b1 p q same begin run ends goes = absurd (begin.0 (sym ends))
goes_through (l ∷ ls) (m ∷ ms) bytes rest a b a1 b1 p q same begin run ends goes =
    let line : l ≡ m = begin.1 ∙ sym ends.1 in
    let next = line_same m a b run.0 goes.0 run.1 goes.1 same (subst (λ t. ExecutesLine t a run.0 run.1) line run.2) goes.2 in
    goes_through ls ms (drop_through 10 bytes) rest run.0 goes.0 a1 b1 run.3 goes.3 next begin.2 run.4 ends.2 goes.4

rest_refused : (later : List (List ℕ)) (rest : List ℕ) (a b b1 : SectionState) (r : List ℕ) (error : ReportedError) → IsSame a b → rest ≢ []
    → RejectsLine (first_line rest) a error → BeginWithLines later rest [] → ¬ ExecutesLines later b b1 r
rest_refused [] rest a b b1 r error same some rejects ends goes = some (sym ends)
rest_refused (m ∷ ms) rest a b b1 r error same some rejects ends goes =
    line_refused (first_line rest) a b goes.0 goes.1 error same rejects (subst (λ l. ExecutesLine l b goes.0 goes.1) ends.1 goes.2)

begin_same : (input : List ℕ) (a b : SectionState) → decoded_hex (first_line input) ≡ Some a.section.items → decoded_hex (first_line input) ≡ Some b.section.items
    → a.deltas ≡ [] → b.deltas ≡ [] → a.calls ≡ [] → b.calls ≡ [] → IsSame a b
begin_same input a b x y da db ca cb =
    let items : a.section.items ≡ b.section.items = cc (x, y) in record { len = ap length items; deltas = da ∙ sym db; calls = ca ∙ sym cb }

pub rejected_inputs : RejectedInputsAreNotExecuted
rejected_inputs input printed output error (inl (none, inl memory)) other executed = other memory
rejected_inputs input printed output error (inl (none, inr bad)) other executed = cc (bad.1, executed.1.1)
rejected_inputs input printed output error (inr (state, rest, runs, inl memory)) other executed = other memory
rejected_inputs input printed output error (inr (state, rest, runs, inr (some, rejects))) other (after, whole) =
    let same = begin_same input runs.0 whole.0 runs.1 whole.1 runs.2 whole.2 runs.3 whole.3 in
    let w = goes_through runs.4 whole.4 (drop_through 10 input) rest runs.0 whole.0 state after printed output same runs.5 runs.6 whole.5 whole.6 in
    rest_refused w.0 rest state w.1 after w.4 error w.2 some rejects w.3 w.5
