-- The relocations of a sequence are chosen alike: each by the same conditions.
use Rattle.linker_utils.proofs.Imports.{AbsoluteIsChosenAlike, AllHold, AppliesToRiscV, AreChosenAlike, IsFirst, LinkFacts, List, RiscVChoice, RiscVEntry, RiscVRelocation, [], ap, choice, deleted, entry, facts_on, from_got, from_high, from_zero, inl, inr, riscv_entries, riscv_row_of, slice_index_or, start_of_descriptor, ℕ, ◌↔◌, ◌∙◌, ◌∷◌, ◌≡◌}
use Rattle.linker_utils.specs.RiscVRewrites.{HasPattern, to_local_exec, to_short_local_exec, IsAmong, nop, DescriptorIsChosenAlike, GotPairIsChosenAlike, ThreadOffsetIsChosenAlike}
use Rattle.linker_elf.specs.declared.riscv64.relocations.RiscVRelocation.TheVariants as r
use Rattle.linker_utils.specs.declared.riscv64.rewrites.RewriteKind.TheVariants as kinds
use Rattle.linker_utils.specs.declared.riscv64.rewrites.RewriteKind.{RewriteKind}

abbrev two : RiscVChoice → RiscVChoice → RiscVChoice × RiscVChoice
two a b = (a, b)

both : {a b x y : RiscVChoice} → a ≡ x → b ≡ y → two a b ≡ two x y
both {a} {b} {x} {y} e f = ap (λ t. two t b) e ∙ ap (two x) f

abbrev holds : LinkFacts → RiscVEntry → Type 0
holds facts e = AllHold riscv_row_of facts.operands facts e.conditions

-- where the instruction is there, only the conditions count
by_conditions : (Asked : RewriteKind → List ℕ → ℕ → Type 0) (s : List ℕ) (o : ℕ) (facts : LinkFacts) (es : List RiscVEntry) (m a : RiscVChoice)
    → ((kind : RewriteKind) → Asked kind s o)
    → IsFirst (AppliesToRiscV Asked s o facts) es m a → IsFirst (holds facts) es m a
by_conditions Asked s o facts [] m a pattern e = e
by_conditions Asked s o facts (e ∷ es) m a pattern (inl h) = inl (h.0.1, h.1)
by_conditions Asked s o facts (e ∷ es) m a pattern (inr h) =
    inr (λ c. h.0 (pattern e.kind, c), by_conditions Asked s o facts es m a pattern h.1)

-- an offset that one instruction holds is one that two hold
short_is_local : (facts : LinkFacts) → AllHold riscv_row_of facts.operands facts (to_short_local_exec []) → AllHold riscv_row_of facts.operands facts (to_local_exec [])
short_is_local facts h = (h.0, (h.1.0, (h.1.1.0, (h.1.1.1.0, tt))))

-- ---- TLS descriptors

high_and_load : (facts : LinkFacts) → AreChosenAlike r.R_RISCV_TLSDESC_HI20 r.R_RISCV_TLSDESC_LOAD_LO12 ((deleted, deleted) ∷ (nop, nop) ∷ (deleted, deleted) ∷ (nop, nop) ∷ []) facts
high_and_load facts section o p a b there f g =
    cases (by_conditions (HasPattern r.R_RISCV_TLSDESC_HI20) section o facts start_of_descriptor (choice kinds.NoOp r.R_RISCV_TLSDESC_HI20) a (λ kind. there.0) f)
    (by_conditions (HasPattern r.R_RISCV_TLSDESC_LOAD_LO12) section p facts start_of_descriptor (choice kinds.NoOp r.R_RISCV_TLSDESC_LOAD_LO12) b (λ kind. there.1) g)
  where
    cases : IsFirst (holds facts) start_of_descriptor (choice kinds.NoOp r.R_RISCV_TLSDESC_HI20) a
        → IsFirst (holds facts) start_of_descriptor (choice kinds.NoOp r.R_RISCV_TLSDESC_LOAD_LO12) b
        → IsAmong (a, b) ((deleted, deleted) ∷ (nop, nop) ∷ (deleted, deleted) ∷ (nop, nop) ∷ (choice kinds.NoOp r.R_RISCV_TLSDESC_HI20, choice kinds.NoOp r.R_RISCV_TLSDESC_LOAD_LO12) ∷ [])
    cases (inl h) (inl k) = inl (both h.1 k.1)
    cases (inl h) (inr k) = absurd (k.0 h.0)
    cases (inr h) (inl k) = absurd (h.0 k.0)
    cases (inr (n, inl h)) (inr (m, inl k)) = inr (inl (both h.1 k.1))
    cases (inr (n, inl h)) (inr (m, inr k)) = absurd (k.0 h.0)
    cases (inr (n, inr h)) (inr (m, inl k)) = absurd (h.0 k.0)
    cases (inr (n, inr (n2, inl h))) (inr (m, inr (m2, inl k))) = inr (inr (inl (both h.1 k.1)))
    cases (inr (n, inr (n2, inl h))) (inr (m, inr (m2, inr k))) = absurd (k.0 h.0)
    cases (inr (n, inr (n2, inr h))) (inr (m, inr (m2, inl k))) = absurd (h.0 k.0)
    cases (inr (n, inr (n2, inr (n3, inl h)))) (inr (m, inr (m2, inr (m3, inl k)))) = inr (inr (inr (inl (both h.1 k.1))))
    cases (inr (n, inr (n2, inr (n3, inl h)))) (inr (m, inr (m2, inr (m3, inr k)))) = absurd (k.0 h.0)
    cases (inr (n, inr (n2, inr (n3, inr h)))) (inr (m, inr (m2, inr (m3, inl k)))) = absurd (h.0 k.0)
    cases (inr (n, inr (n2, inr (n3, inr h)))) (inr (m, inr (m2, inr (m3, inr k)))) = inr (inr (inr (inr (inl (both h.1 k.1)))))

abbrev sum_entries : List RiscVEntry
sum_entries = riscv_entries r.R_RISCV_TLSDESC_ADD_LO12

abbrev call_entries : List RiscVEntry
call_entries = riscv_entries r.R_RISCV_TLSDESC_CALL

high_and_call : (facts : LinkFacts) → AreChosenAlike r.R_RISCV_TLSDESC_HI20 r.R_RISCV_TLSDESC_CALL
    ((deleted, from_zero) ∷ (nop, from_zero) ∷ (deleted, from_high) ∷ (nop, from_high) ∷ (deleted, from_got) ∷ (nop, from_got) ∷ []) facts
high_and_call facts section o p a b there f g =
    cases (by_conditions (HasPattern r.R_RISCV_TLSDESC_HI20) section o facts start_of_descriptor (choice kinds.NoOp r.R_RISCV_TLSDESC_HI20) a (λ kind. there.0) f)
    (by_conditions (HasPattern r.R_RISCV_TLSDESC_CALL) section p facts call_entries (choice kinds.NoOp r.R_RISCV_TLSDESC_CALL) b (λ kind. there.1) g)
  where
    cases : IsFirst (holds facts) start_of_descriptor (choice kinds.NoOp r.R_RISCV_TLSDESC_HI20) a
        → IsFirst (holds facts) call_entries (choice kinds.NoOp r.R_RISCV_TLSDESC_CALL) b
        → IsAmong (a, b) ((deleted, from_zero) ∷ (nop, from_zero) ∷ (deleted, from_high) ∷ (nop, from_high) ∷ (deleted, from_got) ∷ (nop, from_got) ∷ (choice kinds.NoOp r.R_RISCV_TLSDESC_HI20, choice kinds.NoOp r.R_RISCV_TLSDESC_CALL) ∷ [])
    cases (inl h) (inl k) = inl (both h.1 k.1)
    cases (inr (n, inl h)) (inl k) = inr (inl (both h.1 k.1))
    cases (inr (n, inr h)) (inl k) = absurd (h.0 (short_is_local facts k.0))
    cases (inl h) (inr (m, inl k)) = inr (inr (inl (both h.1 k.1)))
    cases (inr (n, inl h)) (inr (m, inl k)) = inr (inr (inr (inl (both h.1 k.1))))
    cases (inr (n, inr h)) (inr (m, inl k)) = absurd (h.0 k.0)
    cases (inl h) (inr (m, inr k)) = absurd (k.0 (h.0.0, (h.0.1.0, h.0.1.1.1)))
    cases (inr (n, inl h)) (inr (m, inr k)) = absurd (k.0 h.0)
    cases (inr (n, inr (n2, inl h))) (inr (m, inr (m2, inl k))) = inr (inr (inr (inr (inl (both h.1 k.1)))))
    cases (inr (n, inr (n2, inr (n3, inl h)))) (inr (m, inr (m2, inl k))) = inr (inr (inr (inr (inr (inl (both h.1 k.1))))))
    cases (inr (n, inr (n2, inr (n3, inr h)))) (inr (m, inr (m2, inl k))) = absurd (h.0 k.0)
    cases (inr (n, inr (n2, inl h))) (inr (m, inr (m2, inr k))) = absurd (k.0 (h.0.0, h.0.1.1))
    cases (inr (n, inr (n2, inr (n3, inl h)))) (inr (m, inr (m2, inr k))) = absurd (k.0 h.0)
    cases (inr (n, inr (n2, inr (n3, inr h)))) (inr (m, inr (m2, inr k))) = inr (inr (inr (inr (inr (inr (inl (both h.1 k.1)))))))

sum_and_call : (facts : LinkFacts) → AreChosenAlike r.R_RISCV_TLSDESC_ADD_LO12 r.R_RISCV_TLSDESC_CALL
    ((deleted, from_zero) ∷ (nop, from_zero) ∷ (choice kinds.AddiToLui r.R_RISCV_TPREL_HI20, from_high) ∷ (choice kinds.AddiToAuipc r.R_RISCV_TLS_GOT_HI20, from_got) ∷ []) facts
sum_and_call facts section o p a b there f g =
    cases (by_conditions (HasPattern r.R_RISCV_TLSDESC_ADD_LO12) section o facts sum_entries (choice kinds.NoOp r.R_RISCV_TLSDESC_ADD_LO12) a (λ kind. there.0) f)
    (by_conditions (HasPattern r.R_RISCV_TLSDESC_CALL) section p facts call_entries (choice kinds.NoOp r.R_RISCV_TLSDESC_CALL) b (λ kind. there.1) g)
  where
    cases : IsFirst (holds facts) sum_entries (choice kinds.NoOp r.R_RISCV_TLSDESC_ADD_LO12) a
        → IsFirst (holds facts) call_entries (choice kinds.NoOp r.R_RISCV_TLSDESC_CALL) b
        → IsAmong (a, b) ((deleted, from_zero) ∷ (nop, from_zero) ∷ (choice kinds.AddiToLui r.R_RISCV_TPREL_HI20, from_high) ∷ (choice kinds.AddiToAuipc r.R_RISCV_TLS_GOT_HI20, from_got) ∷ (choice kinds.NoOp r.R_RISCV_TLSDESC_ADD_LO12, choice kinds.NoOp r.R_RISCV_TLSDESC_CALL) ∷ [])
    cases (inl h) (inl k) = inl (both h.1 k.1)
    cases (inl h) (inr k) = absurd (k.0 (h.0.0, (h.0.1.0, h.0.1.1.1)))
    cases (inr (n, inl h)) (inl k) = inr (inl (both h.1 k.1))
    cases (inr (n, inl h)) (inr k) = absurd (k.0 h.0)
    cases (inr (n, inr h)) (inl k) = absurd (h.0 k.0)
    cases (inr (n, inr (n2, inl h))) (inr (m, inl k)) = inr (inr (inl (both h.1 k.1)))
    cases (inr (n, inr (n2, inl h))) (inr (m, inr k)) = absurd (k.0 h.0)
    cases (inr (n, inr (n2, inr h))) (inr (m, inl k)) = absurd (h.0 k.0)
    cases (inr (n, inr (n2, inr (n3, inl h)))) (inr (m, inr (m2, inl k))) = inr (inr (inr (inl (both h.1 k.1))))
    cases (inr (n, inr (n2, inr (n3, inl h)))) (inr (m, inr (m2, inr k))) = absurd (k.0 h.0)
    cases (inr (n, inr (n2, inr (n3, inr h)))) (inr (m, inr (m2, inl k))) = absurd (h.0 k.0)
    cases (inr (n, inr (n2, inr (n3, inr h)))) (inr (m, inr (m2, inr k))) = inr (inr (inr (inr (inl (both h.1 k.1)))))

pub descriptor : DescriptorIsChosenAlike
descriptor facts = (high_and_load facts, high_and_call facts, sum_and_call facts)

-- ---- a load from the GOT

pub got_pair : GotPairIsChosenAlike
got_pair facts low section o p a b there f g =
    cases f g
  where
    cases : IsFirst (AppliesToRiscV (HasPattern r.R_RISCV_GOT_HI20) section o facts) (riscv_entries r.R_RISCV_GOT_HI20) (choice kinds.NoOp r.R_RISCV_GOT_HI20) a
        → IsFirst (AppliesToRiscV (HasPattern r.R_RISCV_PCREL_LO12_I) section p facts) (riscv_entries r.R_RISCV_PCREL_LO12_I) (choice kinds.NoOp r.R_RISCV_PCREL_LO12_I) b
        → IsAmong (a, b)
        ((deleted, choice kinds.LdToAddiZero r.R_RISCV_LO12_I) ∷ (choice kinds.NoOp r.R_RISCV_PCREL_HI20, choice kinds.LdToAddi r.R_RISCV_PCREL_LO12_I)
        ∷ (choice kinds.AuipcToLui r.R_RISCV_HI20, choice kinds.LdToAddi r.R_RISCV_LO12_I) ∷ (choice kinds.NoOp r.R_RISCV_GOT_HI20, choice kinds.NoOp r.R_RISCV_PCREL_LO12_I) ∷ [])
    cases (inl h) (inl k) = inl (both h.1 k.1)
    cases (inl h) (inr k) = absurd (k.0 (there.1, (h.0.1.0, (h.0.1.1.0, (h.0.1.1.1.0, (h.0.1.1.1.1.0, (low, h.0.1.1.1.1.1)))))))
    cases (inr h) (inl k) = absurd (h.0 (there.0, (k.0.1.0, (k.0.1.1.0, (k.0.1.1.1.0, (k.0.1.1.1.1.0, k.0.1.1.1.1.1.1))))))
    cases (inr (n, inl h)) (inr (m, inl k)) = inr (inl (both h.1 k.1))
    cases (inr (n, inl h)) (inr (m, inr k)) = absurd (k.0 (there.1, (h.0.1.0, (h.0.1.1.0, (h.0.1.1.1.0, (low, h.0.1.1.1.1))))))
    cases (inr (n, inr h)) (inr (m, inl k)) = absurd (h.0 (there.0, (k.0.1.0, (k.0.1.1.0, (k.0.1.1.1.0, k.0.1.1.1.1.1)))))
    cases (inr (n, inr (n2, inl h))) (inr (m, inr (m2, inl k))) = inr (inr (inl (both h.1 k.1)))
    cases (inr (n, inr (n2, inl h))) (inr (m, inr (m2, inr k))) = absurd (k.0 (there.1, (h.0.1.0, (h.0.1.1.0, (h.0.1.1.1.0, (low, h.0.1.1.1.1))))))
    cases (inr (n, inr (n2, inr h))) (inr (m, inr (m2, inl k))) = absurd (h.0 (there.0, (k.0.1.0, (k.0.1.1.0, (k.0.1.1.1.0, k.0.1.1.1.1.1)))))
    cases (inr (n, inr (n2, inr h))) (inr (m, inr (m2, inr k))) = inr (inr (inr (inl (both h.1 k.1))))

-- ---- a `lui` and what reads it

-- `d` applies where `e` does
one_alike : (A B : RiscVEntry → Type 0) (d e : RiscVEntry) (m n a b : RiscVChoice)
    → IsFirst A (d ∷ []) m a → IsFirst B (e ∷ []) n b → (A d ↔ B e)
    → IsAmong (a, b) ((choice d.kind d.relocation, choice e.kind e.relocation) ∷ (m, n) ∷ [])
one_alike A B d e m n a b (inl h) (inl k) f = inl (both h.1 k.1)
one_alike A B d e m n a b (inl h) (inr k) f = absurd (k.0 (f.0 h.0))
one_alike A B d e m n a b (inr h) (inl k) f = absurd (h.0 (f.1 k.0))
one_alike A B d e m n a b (inr h) (inr k) f = inr (inl (both h.1 k.1))

-- and where it doesn't, another entry may
first_alike : (A B : RiscVEntry → Type 0) (d d' e : RiscVEntry) (m n a b : RiscVChoice)
    → IsFirst A (d ∷ d' ∷ []) m a → IsFirst B (e ∷ []) n b → (A d ↔ B e)
    → IsAmong (a, b) ((choice d.kind d.relocation, choice e.kind e.relocation) ∷ (choice d'.kind d'.relocation, n) ∷ (m, n) ∷ [])
first_alike A B d d' e m n a b (inl h) (inl k) f = inl (both h.1 k.1)
first_alike A B d d' e m n a b (inl h) (inr k) f = absurd (k.0 (f.0 h.0))
first_alike A B d d' e m n a b (inr h) (inl k) f = absurd (h.0 (f.1 k.0))
first_alike A B d d' e m n a b (inr (_, inl h)) (inr k) f = inr (inl (both h.1 k.1))
first_alike A B d d' e m n a b (inr (_, inr h)) (inr k) f = inr (inr (inl (both h.1 k.1)))

abbrev at : RiscVRelocation → List ℕ → ℕ → LinkFacts → RiscVEntry → Type 0
at name = AppliesToRiscV (HasPattern name)

-- an entry of a relocation
abbrev nth : ℕ → RiscVRelocation → RiscVEntry
nth i name = slice_index_or (riscv_entries name) i (entry kinds.NoOp name [])

-- Only the instructions differ: no place enters the conditions.
pub absolute : AbsoluteIsChosenAlike
absolute = (
  λ section o p n facts a b there f g.
      first_alike (at r.R_RISCV_HI20 section o facts) (at r.R_RISCV_LO12_I section p (facts_on n facts))
      (nth 0 r.R_RISCV_HI20) (nth 1 r.R_RISCV_HI20) (nth 0 r.R_RISCV_LO12_I) _ _ a b f g
      (λ h. (there.1, h.1), λ h. (there.0, h.1)),
  λ section o p n facts a b there f g.
      first_alike (at r.R_RISCV_HI20 section o facts) (at r.R_RISCV_LO12_S section p (facts_on n facts))
      (nth 0 r.R_RISCV_HI20) (nth 1 r.R_RISCV_HI20) (nth 0 r.R_RISCV_LO12_S) _ _ a b f g
      (λ h. (there.1, h.1), λ h. (there.0, h.1)),
)

pub thread_offset : ThreadOffsetIsChosenAlike
thread_offset = (
  λ section o p n facts a b there f g.
      one_alike (at r.R_RISCV_TPREL_HI20 section o facts) (at r.R_RISCV_TPREL_ADD section p (facts_on n facts))
      (nth 0 r.R_RISCV_TPREL_HI20) (nth 0 r.R_RISCV_TPREL_ADD) _ _ a b f g
      (λ h. (there.1, h.1), λ h. (there.0, h.1)),
  λ section o p n facts a b there f g.
      one_alike (at r.R_RISCV_TPREL_HI20 section o facts) (at r.R_RISCV_TPREL_LO12_I section p (facts_on n facts))
      (nth 0 r.R_RISCV_TPREL_HI20) (nth 0 r.R_RISCV_TPREL_LO12_I) _ _ a b f g
      (λ h. (there.1, h.1), λ h. (there.0, h.1)),
  λ section o p n facts a b there f g.
      one_alike (at r.R_RISCV_TPREL_HI20 section o facts) (at r.R_RISCV_TPREL_LO12_S section p (facts_on n facts))
      (nth 0 r.R_RISCV_TPREL_HI20) (nth 0 r.R_RISCV_TPREL_LO12_S) _ _ a b f g
      (λ h. (there.1, h.1), λ h. (there.0, h.1)),
)
