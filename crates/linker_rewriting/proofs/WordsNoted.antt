-- The words that stay, noted relocation by relocation.
use Rattle.linker_rewriting.proofs.Imports.{AreSurveyedBy, Bool, IsNotedBy, List, None, Option, Some, WordUnchangedBy, arith, below_more, inl, inr, refl, subst, sym, true, word_stays, ℕ, ◌+◌, ◌↔◌, ◌≡◌, ◌⊎◌}
use Rattle.linker_rewriting.specs.Inner.Passed.{IsThatWord}

-- what is noted of one relocation
abbrev pub AreWordsKeptToo : List Bool → List Bool → Option ℕ → Type 0
AreWordsKeptToo before after word =
    (w : ℕ) → (word_stays after w ≡ true) ↔ ((word_stays before w ≡ true) ⊎ IsThatWord word w)

stays_on : (before after : List Bool) (word : Option ℕ)
    → ((w : ℕ) → word_stays before w ≡ true → word_stays after w ≡ true)
    → WordUnchangedBy before word → WordUnchangedBy after word
stays_on before after None on stays = tt
stays_on before after (Some word) on stays = on word stays

stays_now : (before after : List Bool) (word : Option ℕ) → AreWordsKeptToo before after word
    → WordUnchangedBy after word
stays_now before after None same = tt
stays_now before after (Some word) same = (same word).1 (inr refl)

that_word : (Keeps : ℕ → Option ℕ → Type 0) (n : ℕ) (word : Option ℕ) (w : ℕ) → Keeps n word
    → IsThatWord word w → Keeps n (Some w)
that_word Keeps n None w keeping is = absurd is
that_word Keeps n (Some word) w keeping is = subst (λ x. Keeps n (Some x)) (sym is) keeping

pub more_words : (Keeps : ℕ → Option ℕ → Type 0) (before mid after : List Bool) (k : ℕ)
    (word : Option ℕ) → AreSurveyedBy Keeps before mid k → Keeps k word
    → AreWordsKeptToo mid after word → AreSurveyedBy Keeps before after (k + 1)
more_words Keeps before mid after k word surveyed keeping same =
    let on : (w : ℕ) → word_stays mid w ≡ true → word_stays after w ≡ true =
    λ w stays. (same w).1 (inl stays) in
    record {
      noted = below_more (λ n. IsNotedBy Keeps after n) k
          (λ n less. let was = surveyed.noted n less in record {
            word = was.word;
            is_keeping = was.is_keeping;
            stays = stays_on mid after was.word on was.stays;
          })
          (record { word = word; is_keeping = keeping; stays = stays_now mid after word same });
      stayed = λ w stays. on w (surveyed.stayed w stays);
      caused = λ w stays. elim ((same w).0 stays) [
        | inl in_mid ↦ elim (surveyed.caused w in_mid) [
          | inl in_before ↦ inl in_before
          | inr cause ↦ inr (cause.0, omega (arith, cause.1), cause.2)
        ]
        | inr is ↦ inr (k, omega arith, that_word Keeps k word w keeping is)
      ];
    }
