-- What decisions delete, listed one after the other.
use Rattle.linker_rewriting.proofs.Imports.{AllCanBeMade, CanBeMade, Consumed, Decision, DeletedBytes, Kept, List, None, Option, Rewritten, RewrittenWithSymbol, Some, [], ap, append-nil, arith, decision_at, deleted_end, deleted_of, deletes_within, deletion_by, deletions_by, inl, inr, leb-true, length, length-append, length-set, length-take-le, refl, relaxation_deleted, relocation_in, slice_set, subst, suc, sym, take, take_more_set, true, zero, ℕ, ◌++◌, ◌+◌, ◌<◌, ◌∙◌, ◌∷◌, ◌≡◌, ◌≤◌, ◌⊎◌}

pub record AreListed (bytes : List ℕ) (decisions : List Decision) (old now : List (ℕ × ℕ))
    (len k : ℕ) : Type 0 where
  pub listed : take len now ≡ deletions_by bytes decisions k
  pub within : len ≤ length now
  pub same_len : length now ≡ length old

deletions_next : (bytes : List ℕ) (decisions : List Decision) (k : ℕ)
    → deletions_by bytes decisions (k + 1)
    ≡ deletions_by bytes decisions k
    ++ deletion_by (relocation_in bytes k).offset (deleted_of (decision_at decisions k))
deletions_next bytes decisions k =
    let e : suc k ≡ k + 1 = omega arith in
    subst (λ n. deletions_by bytes decisions n ≡ deletions_by bytes decisions k ++ deletion_by (relocation_in bytes k).offset (deleted_of (decision_at decisions k))) e refl

-- one that deletes nothing
pub nothing_more : (bytes : List ℕ) (decisions : List Decision) (old now : List (ℕ × ℕ))
    (len k : ℕ) → AreListed bytes decisions old now len k → deleted_of (decision_at decisions k) ≡ None
    → AreListed bytes decisions old now len (k + 1)
nothing_more bytes decisions old now len k are none =
    record {
      listed = are.listed ∙ (sym (append-nil (deletions_by bytes decisions k))
          ∙ sym (deletions_next bytes decisions k
          ∙ ap (λ d. deletions_by bytes decisions k ++ deletion_by (relocation_in bytes k).offset d) none));
      within = are.within;
      same_len = are.same_len;
    }

-- one more
pub one_more : (bytes : List ℕ) (decisions : List Decision) (old now : List (ℕ × ℕ))
    (len k : ℕ) (deleted : DeletedBytes) (offset : ℕ) → AreListed bytes decisions old now len k
    → deleted_of (decision_at decisions k) ≡ Some deleted → len < length now
    → offset ≡ (relocation_in bytes k).offset
    → AreListed bytes decisions old (slice_set now len (offset + deleted.start, deleted.count))
    (len + 1) (k + 1)
one_more bytes decisions old now len k deleted offset are is less there =
    let x : ℕ × ℕ = (offset + deleted.start, deleted.count) in
    let set = length-set now len x in
    record {
      listed = take_more_set now len x less
          ∙ (ap (λ l. l ++ (x ∷ [])) are.listed
          ∙ (ap (λ o. deletions_by bytes decisions k ++ ((o + deleted.start, deleted.count) ∷ [])) there
          ∙ sym (deletions_next bytes decisions k
          ∙ ap (λ d. deletions_by bytes decisions k ++ deletion_by (relocation_in bytes k).offset d) is)));
      within = omega (arith, set);
      same_len = set ∙ are.same_len;
    }

last_or_before : (k m : ℕ) → k ≤ suc m → (k ≡ suc m) ⊎ (k ≤ m)
last_or_before k m le = grind arith

-- there are no fewer up to a later one
deletions_grow : (bytes : List ℕ) (decisions : List Decision) (k m : ℕ) → k ≤ m
    → length (deletions_by bytes decisions k) ≤ length (deletions_by bytes decisions m)
deletions_grow bytes decisions k zero le =
    let e : k ≡ 0 = omega arith in
    subst (λ n. length (deletions_by bytes decisions n) ≤ 0) (sym e) (omega arith)
deletions_grow bytes decisions k (suc m) le =
    elim (last_or_before k m le) [
      | inl same ↦ subst (λ n. length (deletions_by bytes decisions n) ≤ length (deletions_by bytes decisions (suc m))) (sym same) (omega arith)
      | inr before ↦
          let ih = deletions_grow bytes decisions k m before in
          let more = length-append (deletions_by bytes decisions m) (deletion_by (relocation_in bytes m).offset (deleted_of (decision_at decisions m))) in
          omega (arith, ih, more)
    ]

-- where there is no room for one more
pub no_room : (bytes : List ℕ) (decisions : List Decision) (old now : List (ℕ × ℕ))
    (len k limit : ℕ) (deleted : DeletedBytes) → AreListed bytes decisions old now len k
    → length now ≤ len → k < limit → deleted_of (decision_at decisions k) ≡ Some deleted
    → length old < length (deletions_by bytes decisions limit)
no_room bytes decisions old now len k limit deleted are full less there =
    let so_far : length (deletions_by bytes decisions k) ≡ len =
    sym (ap length are.listed) ∙ length-take-le len now are.within in
    let one = ap length (deletions_next bytes decisions k
    ∙ ap (λ d. deletions_by bytes decisions k ++ deletion_by (relocation_in bytes k).offset d) there) in
    let sum = length-append (deletions_by bytes decisions k) (((relocation_in bytes k).offset + deleted.start, deleted.count) ∷ []) in
    let grow = deletions_grow bytes decisions (k + 1) limit (omega arith) in
    let same = are.same_len in
    let within = are.within in
    omega (arith, one, sum, grow, same, within, so_far, full)

-- ---- what is deleted is in the section

end_fits : (section : List ℕ) (o max : ℕ) (deleted : Option DeletedBytes)
    → deletes_within section o deleted ≡ true → length section ≤ max → deleted_end o deleted ≤ max
end_fits section o max None within le = omega arith
end_fits section o max (Some deleted) within le =
    let e : o + (deleted.start + deleted.count) ≤ length section = leb-true (o + (deleted.start + deleted.count)) (length section) within in
    omega (arith, e)

one_fits : (d : Decision) (section : List ℕ) (o max : ℕ) → CanBeMade d section o
    → length section ≤ max → deleted_end o (deleted_of d) ≤ max
one_fits Kept section o max can le = omega arith
one_fits Consumed section o max can le = omega arith
one_fits (Rewritten chosen) section o max can le =
    end_fits section o max (relaxation_deleted chosen.kind) (can.1) le
one_fits (RewrittenWithSymbol chosen subject) section o max can le =
    end_fits section o max (relaxation_deleted chosen.kind) (can.1) le

pub all_fit : (bytes section : List ℕ) (decisions : List Decision) (limit max : ℕ)
    → AllCanBeMade bytes section decisions limit → length section ≤ max → (n : ℕ) → n < limit
    → deleted_end (relocation_in bytes n).offset (deleted_of (decision_at decisions n)) ≤ max
all_fit bytes section decisions limit max can le n less =
    one_fits (decision_at decisions n) section (relocation_in bytes n).offset max (can n less) le
