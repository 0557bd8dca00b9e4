-- What is chosen on x86-64 matches.
use Rattle.linker_utils.proofs.Imports.{Applies, Choice, IsByTable, LinkFacts, List, Table, X86_64Relocation, choice, holds_of_first, rules, x86_64_after, x86_64_matches, x86_64_row, ℕ}
use Rattle.linker_utils.specs.X86Rewrites.{HasPattern}
use Rattle.linker_utils.specs.declared.x86_64.rewrites.RewriteKind.{RewriteKind}
use Rattle.linker_utils.specs.declared.x86_64.rewrites.RewriteKind.TheVariants as kinds

no_op_matches : (section : List ℕ) (o : ℕ) → x86_64_matches kinds.NoOp section o
no_op_matches section o = search rules

pub chosen_matches : (t : Table) (name : X86_64Relocation) (section : List ℕ) (o : ℕ) (facts : LinkFacts) (c : Choice RewriteKind X86_64Relocation)
    → IsByTable t name section o facts c → x86_64_matches c.kind section o
chosen_matches t name section o facts c =
    holds_of_first (Applies (HasPattern t.instructions) x86_64_row x86_64_after section o facts) (λ x. x86_64_matches x.kind section o) t.entries (choice kinds.NoOp name) c
    (λ e a. a.0.1) (no_op_matches section o)
