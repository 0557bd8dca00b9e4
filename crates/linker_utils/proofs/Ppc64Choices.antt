-- What is chosen on PowerPC64 matches, and can be rewritten.
use Rattle.linker_utils.proofs.Imports.{CanRewrite, Choice, IsPpc64Choice, LinkFacts, List, Ppc64Applies, Ppc64Relocation, RewriteKind, Some, arith, choice, direct, holds_of_first, length, ppc64_entries, ppc64_matches, ppc64_rewrite, refl, rewrites_marked, rules, to_move, ℕ, ◌%◌, ◌+◌, ◌-◌, ◌≡◌, ◌≤◌}
use Rattle.linker_utils.specs.declared.ppc64.rewrites.RewriteKind.TheVariants as kinds

marked_rewrite : (section : List ℕ) (o : ℕ) (new : ℕ → ℕ) → o % 4 ≡ 1 → o - 1 + 4 ≤ length section
    → CanRewrite (Some (rewrites_marked new)) section o
marked_rewrite section o new marked within =
    record { starts = omega (arith, marked); ends = within; admitted = refl }

can_rewrite : (kind : RewriteKind) (section : List ℕ) (o : ℕ) → ppc64_matches kind section o
    → CanRewrite (ppc64_rewrite kind) section o
can_rewrite kinds.NoOp section o matches = tt
can_rewrite kinds.AddToMove section o matches = marked_rewrite section o to_move (matches.0) (matches.1.0)
can_rewrite kinds.IndexedToDirect section o matches = marked_rewrite section o direct (matches.0) (matches.1.0)
can_rewrite kind section o matches = search rules

pub chosen_matches : (name : Ppc64Relocation) (section : List ℕ) (o : ℕ) (facts : LinkFacts) (c : Choice RewriteKind Ppc64Relocation)
    → IsPpc64Choice name section o facts c → ppc64_matches c.kind section o
chosen_matches name section o facts c =
    holds_of_first (Ppc64Applies section o facts) (λ x. ppc64_matches x.kind section o) (ppc64_entries name) (choice kinds.NoOp name) c
    (λ e a. a.0) tt

pub chosen_rewritable : (name : Ppc64Relocation) (section : List ℕ) (o : ℕ) (facts : LinkFacts) (c : Choice RewriteKind Ppc64Relocation)
    → IsPpc64Choice name section o facts c → CanRewrite (ppc64_rewrite c.kind) section o
chosen_rewritable name section o facts c is = can_rewrite c.kind section o (chosen_matches name section o facts c is)
