-- The relocations of a sequence are chosen alike: each by the same conditions, which no place
-- enters.
use Rattle.linker_utils.proofs.Imports.{Bool, Entry, GeneralDynamicIsChosenAlike, HasMarked, InitialExecPairIsChosenAlike, IsFirst, IsTrue, LinkFacts, List, LocalDynamicIsChosenAlike, Ppc64Applies, Ppc64Choice, Ppc64Relocation, PrefixedInitialExecIsChosenAlike, RewriteKind, ThreadPairsAreChosenAlike, TocPairsAreChosenAlike, [], access_of, and_parts, ap, arith, choice, drop, entry, eqb-true, facts_at, false, field, from_le_bytes, inl, inr, is_access, is_add_of_thread, is_indexed, is_indexed_any, is_indexed_word, is_over_thread, is_store, is_word_access, keeps_base, or_cases, ppc64_entries, slice_index_or, sym, true, w32, ℕ, ◌%◌, ◌&&◌, ◌+◌, ◌-◌, ◌==◌, ◌↔◌, ◌∙◌, ◌∷◌, ◌≡◌}
use Rattle.linker_utils.specs.Ppc64Rewrites.{IsAmong, GotPairIsChosenAlike}
use Rattle.linker_elf.specs.declared.ppc64.relocations.Ppc64Relocation.TheVariants as r
use Rattle.linker_utils.specs.declared.ppc64.rewrites.RewriteKind.TheVariants as kinds

abbrev Ppc64Entry : Type 0
Ppc64Entry = Entry RewriteKind Ppc64Relocation

abbrev applies : List ℕ → ℕ → LinkFacts → Ppc64Entry → Type 0
applies = Ppc64Applies

abbrev two : Ppc64Choice → Ppc64Choice → Ppc64Choice × Ppc64Choice
two a b = (a, b)

both : {a b x y : Ppc64Choice} → a ≡ x → b ≡ y → two a b ≡ two x y
both {a} {b} {x} {y} e f = ap (λ t. two t b) e ∙ ap (two x) f

one_alike : (A B : Ppc64Entry → Type 0) (d e : Ppc64Entry) (m n a b : Ppc64Choice)
    → IsFirst A (d ∷ []) m a → IsFirst B (e ∷ []) n b → (A d ↔ B e)
    → IsAmong (a, b) ((choice d.kind d.relocation, choice e.kind e.relocation) ∷ (m, n) ∷ [])
one_alike A B d e m n a b (inl h) (inl k) f = inl (both h.1 k.1)
one_alike A B d e m n a b (inl h) (inr k) f = absurd (k.0 (f.0 h.0))
one_alike A B d e m n a b (inr h) (inl k) f = absurd (h.0 (f.1 k.0))
one_alike A B d e m n a b (inr h) (inr k) f = inr (inl (both h.1 k.1))

two_alike : (A B : Ppc64Entry → Type 0) (d d' e e' : Ppc64Entry) (m n a b : Ppc64Choice)
    → IsFirst A (d ∷ d' ∷ []) m a → IsFirst B (e ∷ e' ∷ []) n b → (A d ↔ B e) → (A d' ↔ B e')
    → IsAmong (a, b) ((choice d.kind d.relocation, choice e.kind e.relocation) ∷ (choice d'.kind d'.relocation, choice e'.kind e'.relocation) ∷ (m, n) ∷ [])
two_alike A B d d' e e' m n a b (inl h) (inl k) f g = inl (both h.1 k.1)
two_alike A B d d' e e' m n a b (inl h) (inr k) f g = absurd (k.0 (f.0 h.0))
two_alike A B d d' e e' m n a b (inr h) (inl k) f g = absurd (h.0 (f.1 k.0))
two_alike A B d d' e e' m n a b (inr h) (inr k) f g = inr (one_alike A B d' e' m n a b h.1 k.1 g)

-- an entry that doesn't apply is passed over
skip : (B : Ppc64Entry → Type 0) (e : Ppc64Entry) (es : List Ppc64Entry) (n b : Ppc64Choice)
    → (B e → ⊥) → IsFirst B (e ∷ es) n b → IsFirst B es n b
skip B e es n b passed (inl k) = absurd (passed (k.0))
skip B e es n b passed (inr k) = k.1

-- and so is one after another that applies where it does
trim_one : (B : Ppc64Entry → Type 0) (e f : Ppc64Entry) (n b : Ppc64Choice)
    → (B f → B e) → IsFirst B (e ∷ f ∷ []) n b → IsFirst B (e ∷ []) n b
trim_one B e f n b p (inl k) = inl k
trim_one B e f n b p (inr (passed, inl g)) = absurd (passed (p (g.0)))
trim_one B e f n b p (inr (passed, inr g)) = inr (passed, g.1)

trim_two : (B : Ppc64Entry → Type 0) (e f f' : Ppc64Entry) (n b : Ppc64Choice)
    → (B f → B e) → (B f' → B e) → IsFirst B (e ∷ f ∷ f' ∷ []) n b → IsFirst B (e ∷ []) n b
trim_two B e f f' n b p q (inl k) = inl k
trim_two B e f f' n b p q (inr (passed, inl g)) = absurd (passed (p (g.0)))
trim_two B e f f' n b p q (inr (passed, inr g)) = trim_one B e f' n b q (inr (passed, g.1))

trim_after : (B : Ppc64Entry → Type 0) (e e' f f' : Ppc64Entry) (n b : Ppc64Choice)
    → (B f → B e') → (B f' → B e') → IsFirst B (e ∷ e' ∷ f ∷ f' ∷ []) n b
    → IsFirst B (e ∷ e' ∷ []) n b
trim_after B e e' f f' n b p q (inl k) = inl k
trim_after B e e' f f' n b p q (inr k) = inr (k.0, trim_two B e' f f' n b p q (k.1))

isnt : {A : Type 0} (x : Bool) → x ≡ false → x ≡ true → A
isnt x off on = absurd (let e : false ≡ true = sym off ∙ on in cc)

-- an entry of a relocation
abbrev at : ℕ → Ppc64Relocation → Ppc64Entry
at i name = slice_index_or (ppc64_entries name) i (entry kinds.NoOp name [])

pub toc_pairs : TocPairsAreChosenAlike
toc_pairs = (
  λ section o p place facts a b meant f g.
      one_alike (applies section o facts) (applies section p (facts_at place facts)) (at 0 r.R_PPC64_TOC16_HA) (at 0 r.R_PPC64_TOC16_LO) _ _ a b f g
      (λ h. (meant.1, h.1), λ h. (meant.0, h.1)),
  λ section o p place facts a b meant f g.
      one_alike (applies section o facts) (applies section p (facts_at place facts)) (at 0 r.R_PPC64_TOC16_HA) (at 0 r.R_PPC64_TOC16_LO_DS) _ _ a b f g
      (λ h. (meant.1, h.1), λ h. (meant.0, h.1)),
)

pub thread_pairs : ThreadPairsAreChosenAlike
thread_pairs = (
  λ section o p place facts a b meant f g.
      one_alike (applies section o facts) (applies section p (facts_at place facts)) (at 0 r.R_PPC64_TPREL16_HA) (at 0 r.R_PPC64_TPREL16_LO) _ _ a b f g
      (λ h. (meant.1, h.1), λ h. (meant.0, h.1)),
  λ section o p place facts a b meant f g.
      one_alike (applies section o facts) (applies section p (facts_at place facts)) (at 0 r.R_PPC64_TPREL16_HA) (at 0 r.R_PPC64_TPREL16_LO_DS) _ _ a b f g
      (λ h. (meant.1, h.1), λ h. (meant.0, h.1)),
)

pub got_pair : GotPairIsChosenAlike
got_pair = λ section o p place facts a b meant f g.
    one_alike (applies section o facts) (applies section p (facts_at place facts)) (at 0 r.R_PPC64_GOT16_HA) (at 0 r.R_PPC64_GOT16_LO_DS) _ _ a b f g
    (λ h. (meant.1, h.1), λ h. (meant.0, h.1))

pub initial_exec_pair : InitialExecPairIsChosenAlike
initial_exec_pair = λ section o p place facts a b meant f g.
    one_alike (applies section o facts) (applies section p (facts_at place facts)) (at 0 r.R_PPC64_GOT_TPREL16_HA) (at 0 r.R_PPC64_GOT_TPREL16_LO_DS) _ _ a b f g
    (λ h. (meant.1, h.1), λ h. (meant.0, h.1))

-- those after one, and the choice of none
abbrev following : ℕ → Ppc64Relocation → List Ppc64Entry
following i name = drop (i + 1) (ppc64_entries name)

abbrev left : Ppc64Relocation → Ppc64Choice
left name = choice kinds.NoOp name

-- no offset is both that of an instruction and that of its second byte
unaligned : (o : ℕ) → o % 4 ≡ 1 → o % 4 ≡ 0 → ⊥
unaligned o marked aligned = omega (arith, marked, aligned)

-- an addition is no access
add_bits : (word : ℕ) → IsTrue (is_add_of_thread word) → field word 0 11 ≡ 0x214
add_bits word is =
    eqb-true (field word 0 11) 0x214 ((and_parts (is_over_thread word) (field word 0 11 == 0x214) is).1)

indexed_bits : (word : ℕ) → IsTrue (is_indexed word) → field word 0 6 ≡ 0x2e
indexed_bits word is =
    let over = is_over_thread word in
    let six = field word 0 6 == 0x2e in
    let access = is_access (access_of word) in
    let a = and_parts (over && six && access) (keeps_base (is_store (access_of word)) word) is in
    let b = and_parts (over && six) access (a.0) in
    eqb-true (field word 0 6) 0x2e ((and_parts over six (b.0)).1)

indexed_word_bits : (word : ℕ) → IsTrue (is_indexed_word word) → field word 0 6 ≡ 0x2a
indexed_word_bits word is =
    let over = is_over_thread word in
    let six = field word 0 6 == 0x2a in
    let access = is_word_access (access_of word) in
    let a = and_parts (over && six && access) (keeps_base (access_of word == 4) word) is in
    let b = and_parts (over && six) access (a.0) in
    eqb-true (field word 0 6) 0x2a ((and_parts over six (b.0)).1)

low_six : (word n : ℕ) → field word 0 11 ≡ 0x214 → field word 0 6 ≡ n → n ≡ 0x14
low_six word n is six = omega (arith, is, six)

no_access : (section : List ℕ) (p : ℕ) → HasMarked is_add_of_thread section p → HasMarked is_indexed_any section p → ⊥
no_access section p add access =
    let word = from_le_bytes w32 (drop (p - 1) section) in
    let is = add_bits word (add.1.1) in
    elim (or_cases (is_indexed word) (is_indexed_word word) (access.1.1)) [
      | inl one ↦
          let e : 0x2e ≡ 0x14 = low_six word 0x2e is (indexed_bits word one) in omega (arith, e)
      | inr other ↦
          let e : 0x2a ≡ 0x14 = low_six word 0x2a is (indexed_word_bits word other) in omega (arith, e)
    ]

pub prefixed_initial_exec : PrefixedInitialExecIsChosenAlike
prefixed_initial_exec = (
  λ section o p place facts a b meant f g.
      let B = applies section p (facts_at place facts) in
      let e = at 3 r.R_PPC64_TLS in
      one_alike (applies section o facts) B (at 0 r.R_PPC64_GOT_TPREL_PCREL34) e _ _ a b f
      (trim_one B e (at 4 r.R_PPC64_TLS) (left r.R_PPC64_TLS) b (λ h. (meant.1, h.1))
      (skip B (at 2 r.R_PPC64_TLS) (following 2 r.R_PPC64_TLS) (left r.R_PPC64_TLS) b (λ h. unaligned p (meant.1.0) (h.0.0))
      (skip B (at 1 r.R_PPC64_TLS) (following 1 r.R_PPC64_TLS) (left r.R_PPC64_TLS) b (λ h. unaligned p (meant.1.0) (h.0.0))
      (skip B (at 0 r.R_PPC64_TLS) (following 0 r.R_PPC64_TLS) (left r.R_PPC64_TLS) b (λ h. unaligned p (meant.1.0) (h.0.0)) g))))
      (λ h. (meant.1, h.1), λ h. (meant.0, h.1)),
  λ section o p place facts a b meant f g.
      let B = applies section p (facts_at place facts) in
      one_alike (applies section o facts) B (at 0 r.R_PPC64_GOT_TPREL_PCREL34) (at 4 r.R_PPC64_TLS) _ _ a b f
      (skip B (at 3 r.R_PPC64_TLS) (following 3 r.R_PPC64_TLS) (left r.R_PPC64_TLS) b (λ h. no_access section p (h.0) (meant.1))
      (skip B (at 2 r.R_PPC64_TLS) (following 2 r.R_PPC64_TLS) (left r.R_PPC64_TLS) b (λ h. unaligned p (meant.1.0) (h.0.0))
      (skip B (at 1 r.R_PPC64_TLS) (following 1 r.R_PPC64_TLS) (left r.R_PPC64_TLS) b (λ h. unaligned p (meant.1.0) (h.0.0))
      (skip B (at 0 r.R_PPC64_TLS) (following 0 r.R_PPC64_TLS) (left r.R_PPC64_TLS) b (λ h. unaligned p (meant.1.0) (h.0.0)) g))))
      (λ h. (meant.1, h.1), λ h. (meant.0, h.1)),
)

pub general_dynamic : GeneralDynamicIsChosenAlike
general_dynamic = (
  λ section o p place facts a b meant f g.
      two_alike (applies section o facts) (applies section p (facts_at place facts)) (at 0 r.R_PPC64_GOT_TLSGD16_HA) (at 1 r.R_PPC64_GOT_TLSGD16_HA) (at 0 r.R_PPC64_GOT_TLSGD16_LO) (at 1 r.R_PPC64_GOT_TLSGD16_LO) _ _ a b f g
      (λ h. (meant.1, h.1), λ h. (meant.0, h.1))
      (λ h. (meant.2.1, h.1), λ h. (meant.2.0, h.1)),
  λ section o p place facts a b unmarked meant f g.
      let B = applies section p (facts_at place facts) in
      two_alike (applies section o facts) B (at 0 r.R_PPC64_GOT_TLSGD16_HA) (at 1 r.R_PPC64_GOT_TLSGD16_HA) (at 2 r.R_PPC64_TLSGD) (at 3 r.R_PPC64_TLSGD) _ _ a b f
      (skip B (at 1 r.R_PPC64_TLSGD) (following 1 r.R_PPC64_TLSGD) (left r.R_PPC64_TLSGD) b (λ h. isnt facts.is_relaxable unmarked (h.1.1.0))
      (skip B (at 0 r.R_PPC64_TLSGD) (following 0 r.R_PPC64_TLSGD) (left r.R_PPC64_TLSGD) b (λ h. isnt facts.is_relaxable unmarked (h.1.1.1.0)) g))
      (λ h. (meant.1, h.1), λ h. (meant.0, h.1))
      (λ h. (meant.2.1, h.1), λ h. (meant.2.0, h.1)),
  λ section o p place facts a b marked meant f g.
      let B = applies section p (facts_at place facts) in
      two_alike (applies section o facts) B (at 0 r.R_PPC64_GOT_TLSGD_PCREL34) (at 1 r.R_PPC64_GOT_TLSGD_PCREL34) (at 0 r.R_PPC64_TLSGD) (at 1 r.R_PPC64_TLSGD) _ _ a b f
      (trim_after B (at 0 r.R_PPC64_TLSGD) (at 1 r.R_PPC64_TLSGD) (at 2 r.R_PPC64_TLSGD) (at 3 r.R_PPC64_TLSGD) (left r.R_PPC64_TLSGD) b
      (λ h. (meant.2.1, (h.1.1.0, (marked, (h.1.1.1.0, tt)))))
      (λ h. (meant.2.1, (h.1.0, (marked, (h.1.1.0, tt))))) g) (
        λ h. (meant.1, (h.1.0, (h.1.1.0, (marked, h.1.1.1)))),
        λ h. (meant.0, (h.1.0, (h.1.1.0, h.1.1.1.1))),
      ) (
        λ h. (meant.2.1, (h.1.0, (marked, h.1.1))),
        λ h. (meant.2.0, (h.1.0, h.1.1.1)),
      ),
)

pub local_dynamic : LocalDynamicIsChosenAlike
local_dynamic = (
  λ section o p place facts a b meant f g.
      one_alike (applies section o facts) (applies section p (facts_at place facts)) (at 0 r.R_PPC64_GOT_TLSLD16_HA) (at 0 r.R_PPC64_GOT_TLSLD16_LO) _ _ a b f g
      (λ h. (meant.1, h.1), λ h. (meant.0, h.1)),
  λ section o p place facts a b unmarked meant f g.
      let B = applies section p (facts_at place facts) in
      one_alike (applies section o facts) B (at 0 r.R_PPC64_GOT_TLSLD16_HA) (at 1 r.R_PPC64_TLSLD) _ _ a b f
      (skip B (at 0 r.R_PPC64_TLSLD) (following 0 r.R_PPC64_TLSLD) (left r.R_PPC64_TLSLD) b (λ h. isnt facts.is_relaxable unmarked (h.1.1.0)) g)
      (λ h. (meant.1, h.1), λ h. (meant.0, h.1)),
  λ section o p place facts a b unmarked meant f g.
      let B = applies section p (facts_at place facts) in
      one_alike (applies section o facts) B (at 0 r.R_PPC64_GOT_TLSLD16) (at 1 r.R_PPC64_TLSLD) _ _ a b f
      (skip B (at 0 r.R_PPC64_TLSLD) (following 0 r.R_PPC64_TLSLD) (left r.R_PPC64_TLSLD) b (λ h. isnt facts.is_relaxable unmarked (h.1.1.0)) g)
      (λ h. (meant.1, h.1), λ h. (meant.0, h.1)),
  λ section o p place facts a b marked meant f g.
      let B = applies section p (facts_at place facts) in
      one_alike (applies section o facts) B (at 0 r.R_PPC64_GOT_TLSLD_PCREL34) (at 0 r.R_PPC64_TLSLD) _ _ a b f
      (trim_one B (at 0 r.R_PPC64_TLSLD) (at 1 r.R_PPC64_TLSLD) (left r.R_PPC64_TLSLD) b
      (λ h. (meant.1, (h.1.0, (marked, h.1.1)))) g)
      (λ h. (meant.1, (h.1.0, (marked, h.1.1))), λ h. (meant.0, (h.1.0, h.1.1.1))),
)
