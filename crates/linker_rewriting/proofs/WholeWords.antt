-- Of a word all loads are rewritten, or none is.
use Rattle.linker_rewriting.proofs.Imports.{AreLoadsDecided, AreLoadsRejected, Bool, Contradiction, Decision, HasLoadRewrite, IsAscending, IsDecisionBy, IsKeepingWord, IsLoad, IsLoadCandidate, IsLoadDecision, IsRewritten, IsWordDecision, List, MeansWordsUnsurveyed, None, NotSurveyed, Option, Overlaps, Rela, RelaxContext, RewritingError, Some, TooShort, WordUnchangedBy, WordsAreWhole, WordsAreWholeAcross, ap, false, inl, inr, link_facts, refl, relocation_in, subst, sym, true, true≢false, word_offset, word_r_type, word_stays, ℕ, ◌∙◌, ◌≡◌}
use Rattle.linker_rewriting.proofs.LabelGroups.{one_high_from, some_one}
use Rattle.linker_rewriting.proofs.Unique.{one_candidate_with}

-- ---- one load

second_same : (x y : ℕ × ℕ) → Some x ≡ Some y → x.1 ≡ y.1
second_same x y is = ap (λ p. p.1) (some_one x y is)

same_pair : (x y : ℕ × ℕ) → x.0 ≡ y.0 → x.1 ≡ y.1 → Some x ≡ Some y
same_pair (a, b) (c, d) first second = ap (λ p. Some (p, b)) first ∙ ap (λ p. Some (c, p)) second

one_word : (s : RelaxContext) (start : ℕ) (words : List ℕ) (r : Rela) (x y : Option (ℕ × ℕ))
    → IsAscending words → IsLoad s start words r x → IsLoad s start words r y → x ≡ y
one_word s start words r None None up a b = refl
one_word s start words r None (Some load) up (inl none) b =
    absurd (let e : None ≡ Some (load.0) = sym none ∙ b.0 in cc)
one_word s start words r None (Some load) up (inr none) b =
    absurd (let e : None ≡ Some (load.1) = one_high_from words word_r_type (word_offset s.addresses s.values start r) None (Some (load.1)) (none up) (b.1 up) in cc)
one_word s start words r (Some load) None up a (inl none) =
    absurd (let e : None ≡ Some (load.0) = sym none ∙ a.0 in cc)
one_word s start words r (Some load) None up a (inr none) =
    absurd (let e : None ≡ Some (load.1) = one_high_from words word_r_type (word_offset s.addresses s.values start r) None (Some (load.1)) (none up) (a.1 up) in cc)
one_word s start words r (Some load) (Some other) up a b =
    let entry : Some (load.0) ≡ Some (other.0) = sym (a.0) ∙ b.0 in
    let word : Some (load.1) ≡ Some (other.1) =
    one_high_from words word_r_type (word_offset s.addresses s.values start r) (Some (load.1)) (Some (other.1)) (a.1 up) (b.1 up) in
    same_pair load other (some_one (load.0) (other.0) entry) (some_one (load.1) (other.1) word)

-- ---- whole words

-- what a load becomes
by_load : (s : RelaxContext) (start : ℕ) (words : List ℕ) (kept : List Bool) (bytes section : List ℕ)
    (n : ℕ) (r : Rela) (decision : Decision) (load : ℕ × ℕ) → IsAscending words
    → IsLoadDecision s start words kept bytes section n r decision
    → IsLoad s start words r (Some load)
    → IsWordDecision s words bytes section n r load (word_stays kept (load.1)) decision
by_load s start words kept bytes section n r decision load up decided is =
    subst (λ x. IsDecisionBy s words kept bytes section n r x decision)
    (one_word s start words r (decided.0) (Some load) up (decided.1) is) (decided.2)

not_stayed : (s : RelaxContext) (words bytes section : List ℕ) (n : ℕ) (r : Rela) (load : ℕ × ℕ)
    (stays : Bool) (decision : Decision)
    → IsWordDecision s words bytes section n r load stays decision → IsRewritten decision
    → stays ≡ false
not_stayed s words bytes section n r load false decision is rewritten = refl
not_stayed s words bytes section n r load true decision is rewritten =
    absurd (subst IsRewritten is rewritten)

rewritten_too : (s : RelaxContext) (words bytes section : List ℕ) (n : ℕ) (r : Rela) (load : ℕ × ℕ)
    (stays : Bool) (decision : Decision)
    → IsWordDecision s words bytes section n r load stays decision → stays ≡ false
    → IsRewritten decision
rewritten_too s words bytes section n r load false decision is unkept =
    subst IsRewritten (sym (is.2)) tt
rewritten_too s words bytes section n r load true decision is unkept =
    absurd (true≢false unkept)

pub whole_across : WordsAreWholeAcross
whole_across s other start words kept bytes section others_bytes others_section decisions others limit others_limit decided others_decided up i j entry other_entry word li lj is other_is rewritten =
    let ri = relocation_in bytes i in
    let rj = relocation_in others_bytes j in
    let stays = not_stayed s words bytes section i ri (entry, word) (word_stays kept word) _
    (by_load s start words kept bytes section i ri _ (entry, word) up (decided i li) is) rewritten in
    rewritten_too other words others_bytes others_section j rj (other_entry, word) (word_stays kept word) _
    (by_load other start words kept others_bytes others_section j rj _ (other_entry, word) up (others_decided j lj) other_is)
    stays

pub whole : (s : RelaxContext) (start : ℕ) (words : List ℕ) (kept : List Bool) (bytes section : List ℕ)
    (decisions : List Decision) (limit : ℕ)
    → AreLoadsDecided s start words kept bytes section decisions limit
    → WordsAreWhole s start words bytes decisions limit
whole s start words kept bytes section decisions limit decided =
    whole_across s s start words kept bytes section bytes section decisions decisions limit limit decided decided

-- ---- surveyed sections

noted_stays : (s : RelaxContext) (start : ℕ) (words : List ℕ) (kept : List Bool) (bytes section : List ℕ)
    (n : ℕ) (r : Rela) (load : ℕ × ℕ) (word : Option ℕ) → IsAscending words
    → IsLoad s start words r (Some load) → word_stays kept (load.1) ≡ false
    → IsLoadCandidate s words bytes section n r load None
    → IsKeepingWord s start words bytes section n r word → WordUnchangedBy kept word → ⊥
noted_stays s start words kept bytes section n r load (Some word) up is stays none keeping noted =
    let same : Some (keeping.0, word) ≡ Some load =
    one_word s start words r (Some (keeping.0, word)) (Some load) up (keeping.1) is in
    true≢false (sym noted ∙ ap (λ w. word_stays kept w) (second_same (keeping.0, word) load same) ∙ stays)
noted_stays s start words kept bytes section n r load None up is stays none keeping noted =
    let has = subst (HasLoadRewrite s words bytes section n r)
    (one_word s start words r (keeping.0) (Some load) up (keeping.1) is) (keeping.2) in
    let e : Some (has.0) ≡ None =
    one_candidate_with s bytes section n (record r { r_type = load.0 })
    (link_facts s r (relocation_in words (load.1)) false)
    (Some (has.0)) None (has.1) none in cc

pub means_unsurveyed : (s : RelaxContext) (start : ℕ) (words : List ℕ) (kept : List Bool)
    (bytes section : List ℕ) (decisions : List Decision) (error : RewritingError)
    → AreLoadsRejected s start words kept bytes section decisions error
    → MeansWordsUnsurveyed s start words bytes section kept error
means_unsurveyed s start words kept bytes section decisions TooShort is = tt
means_unsurveyed s start words kept bytes section decisions (NotSurveyed n) is =
    λ up noted. let this = is.2 in let here = noted n (is.0) in
    noted_stays s start words kept bytes section n (relocation_in bytes n) (this.0) here.word up (this.1) (this.2) (this.3) here.is_keeping here.stays
means_unsurveyed s start words kept bytes section decisions (Overlaps n) is = tt
means_unsurveyed s start words kept bytes section decisions (Contradiction symbol) is = tt
