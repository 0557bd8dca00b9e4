use Rattle.linker_rewriting.proofs.Imports.{Some, ap, arith, decision_at, decision_in, deleted_end, deleted_of, drop-set-lt, drop_more_same, length, length-map, map, map-set, pair_of, pairs_in, relocation_in, subst, sym, ◌+◌, ◌/◌, ◌<◌, ◌∙◌, ◌≡◌, ◌≤◌}
use Rattle.linker_rewriting.specs.declared.decisions.Deletion.{Deletion}
use Rattle.linker_rewriting.proofs.Listing.{AreListed, nothing_more, one_more, no_room}
use Rattle.linker_rewriting.proofs.Untouched.{none_deleted}
use Rattle.linker_rewriting.proofs.sections.list_deletions.Goals as goal

pub returns-then-deleted-len-clause-short : goal.returns-then-deleted-len-clause-short
returns-then-deleted-len-clause-short c =
    let a = c.args in
    let f = decision_in in
    let k = c.loop-index.index in
    let less = subst (λ n. k < n) c.relocations_len-index-end.ensures c.loop-index-test.true in
    let at = sym c.decision_in.ensures in
    let full : length (pairs_in c.loop-index.deleted) ≤ c.loop-index.len =
    (let e = length-map c.loop-index.deleted pair_of in let n = c.if-deleted-len.true in omega (arith, e, n)) in
    let same = length-map a.deleted.now pair_of in
    let short = no_room a.relocations.now (map f a.decisions.now) (pairs_in a.deleted.now) (pairs_in c.loop-index.deleted) c.loop-index.len k
    (length a.relocations.now / 24) c.in-Some.bytes c.loop-index.invariant.listed full less
    (ap deleted_of at ∙ sym c.deleted.ensures ∙ c.in-Some.is) in
    omega (arith, same, short)

pub loop-index-preserved-in_default : goal.loop-index-preserved-in_default
loop-index-preserved-in_default c =
    let a = c.args in
    let f = decision_in in
    let k = c.loop-index.index in
    let at = sym c.decision_in.ensures in
    record {
      listed = nothing_more a.relocations.now (map f a.decisions.now) (pairs_in a.deleted.now) (pairs_in c.loop-index.deleted) c.loop-index.len k
          c.loop-index.invariant.listed (ap deleted_of at ∙ sym c.deleted.ensures ∙ c.in_default.is);
      left = c.loop-index.invariant.left;
    }

pub overflow_add-deleted : goal.overflow_add-deleted
overflow_add-deleted c =
    let a = c.args in
    let f = decision_in in
    let k = c.loop-index.index in
    let less = subst (λ n. k < n) c.relocations_len-index-end.ensures c.loop-index-test.true in
    let at = sym c.decision_in.ensures in
    let is : deleted_of (decision_at (map f a.decisions.now) k) ≡ Some c.in-Some.bytes =
    ap deleted_of at ∙ sym c.deleted.ensures ∙ c.in-Some.is in
    let fit = c.requires.fit k less in
    let same = ap (deleted_end (relocation_in a.relocations.now k).offset) is in
    let e = ap (λ r. r.offset) c.relocation_in-relocation.ensures in
    omega (arith, fit, same, e)

pub loop-index-preserved : goal.loop-index-preserved
loop-index-preserved c =
    let a = c.args in
    let f = decision_in in
    let k = c.loop-index.index in
    let len = c.loop-index.len in
    let now = c.loop-index.deleted in
    let at = sym c.decision_in.ensures in
    let is : deleted_of (decision_at (map f a.decisions.now) k) ≡ Some c.in-Some.bytes =
    ap deleted_of at ∙ sym c.deleted.ensures ∙ c.in-Some.is in
    let room : len < length (pairs_in now) = (let e = length-map now pair_of in let n = c.if-deleted-len.false in omega (arith, e, n)) in
    let y : Deletion = record { offset = c.relocation_in-relocation.result.offset + c.in-Some.bytes.start; bytes = c.in-Some.bytes.count } in
    record {
      listed = subst (λ l. AreListed a.relocations.now (map f a.decisions.now) (pairs_in a.deleted.now) l (len + 1) (k + 1))
          (sym (map-set pair_of now len y))
          (one_more a.relocations.now (map f a.decisions.now) (pairs_in a.deleted.now) (pairs_in now) len k c.in-Some.bytes
          c.relocation_in-relocation.result.offset c.loop-index.invariant.listed is room
          (ap (λ r. r.offset) c.relocation_in-relocation.ensures));
      left = drop-set-lt (len + 1) now len y (omega arith) ∙ drop_more_same now a.deleted.now len c.loop-index.invariant.left;
    }

pub returns-then-not-changes-clause-listed : goal.returns-then-not-changes-clause-listed
returns-then-not-changes-clause-listed c =
    let a = c.args in
    sym (none_deleted a.relocations.now (map decision_in a.decisions.now)
    (length a.relocations.now / 24) (c.requires.left c.if-not-changes.true))
