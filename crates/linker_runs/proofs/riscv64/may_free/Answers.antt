use Rattle.linker_runs.proofs.Imports.{AreEnoughAt, IsNextAlignment, IsNextPowerOfTwo, IsTrue, List, MayFree, Relocation, ap, arith, cases_order, length-map, map, nat_eq, pos, relocation_at, rules, subst, sym, ℕ, ⊎_elim, ◌%◌, ◌+◌, ◌-◌, ◌<◌, ◌∙◌, ◌≡◌, ◌⊎◌}
use Rattle.linker_runs.proofs.Addresses.{next_unique}
use Rattle.linker_runs.proofs.riscv64.may_free.Goals as goal

-- there is one next alignment
same_next : (relocations : List Relocation) (i j k : ℕ) → IsNextAlignment relocations i j → IsNextAlignment relocations i k → j ≡ k
same_next relocations i j k a b =
    ⊎_elim (λ (same : j ≡ k). same)
    (λ (apart : (j < k) ⊎ (k < j)). ⊎_elim
    (λ (below : j < k). absurd (b.first j a.following below (a.aligns (omega (arith, a.within, b.within)))))
    (λ (above : k < j). absurd (a.first k b.following above (b.aligns (omega (arith, a.within, b.within)))))
    apart)
    (cases_order j k)

-- and one number that makes its nops enough
same_enough : (nops v w : ℕ) → AreEnoughAt nops v → AreEnoughAt nops w → v ≡ w
same_enough nops v w a b =
    next_unique (b.power - nops) v w (subst (λ p. IsNextPowerOfTwo (p - nops) v) (next_unique (nops + 1) a.power b.power a.aligned b.aligned) a.least) b.least

-- where the next alignment has its nops
frees_all : (relocations : List Relocation) (i next freed addend v : ℕ) → IsNextAlignment relocations i next → (relocation_at relocations next).addend ≡ pos addend → AreEnoughAt addend v → freed % v ≡ 0 → MayFree freed relocations i
frees_all relocations i next freed addend v is stated enough none j nops w other within has least =
    let said : pos nops ≡ pos addend = sym has ∙ ap (λ n. (relocation_at relocations n).addend) (same_next relocations i j next other is) ∙ stated in
    let nops_is : nops ≡ addend = cc in
    ap (λ x. freed % x) (same_enough addend w v (subst (λ n. AreEnoughAt n w) nops_is least) enough) ∙ none

pub returns-then-next-relocations : goal.returns-then-next-relocations
returns-then-next-relocations g c = (
  λ _ j nops w other within has least. (let same = same_next (map g.R.AsRelocation.relocation c.args.relocations.now) c.args.index j c.args.next other c.requires in absurd (omega (arith, length-map c.args.relocations.now g.R.AsRelocation.relocation))),
  λ _. search rules,
)

pub returns-in-Some : goal.returns-in-Some
returns-in-Some g c =
    let next = c.args.next in
    let nops = c.in-Some.nops in
    let v = c.enough_at.result in
    let enough = c.enough_at.ensures.enough in
    let stated = ap (λ r. r.addend) (sym c.relocation_at.ensures) ∙ c.in-Some.ensures.some.0 in (
      λ test. frees_all (map g.R.AsRelocation.relocation c.args.relocations.now) c.args.index next c.args.freed nops v c.requires stated enough (divided test),
      λ may. divides (may next nops v c.requires (omega (arith, length-map c.args.relocations.now g.R.AsRelocation.relocation)) stated enough),
    )
  where
    divided : IsTrue (nat_eq (c.args.freed % c.enough_at.result) 0) → c.args.freed % c.enough_at.result ≡ 0
    divided test = search rules

    divides : c.args.freed % c.enough_at.result ≡ 0 → IsTrue (nat_eq (c.args.freed % c.enough_at.result) 0)
    divides none = search rules

pub returns-in-None : goal.returns-in-None
returns-in-None g c =
    let relocations = (map g.R.AsRelocation.relocation c.args.relocations.now) in (
      λ _ j nops w other within has least.
          absurd (c.in-None.ensures.none nops (ap (λ r. r.addend) c.relocation_at.ensures ∙ sym (ap (λ n. (relocation_at relocations n).addend) (same_next relocations c.args.index j c.args.next other c.requires)) ∙ has)),
      λ _. search rules,
    )
