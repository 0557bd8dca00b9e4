use Rattle.linker_runs.proofs.Imports.{CodeCause, Err, IfErr, IfOk, IsPosition, ItemError, List, LoongArch64, LoongArchAccepts, LoongArchBecomes, LoongArchCause, Machine, NotItsInstructions, Ok, OnOk, Result, RiscVAccepts, RiscVBecomes, RiscVCause, Section, SiteAccepts, SiteBecomes, SiteCause, address_of, ap, code_bytes, deletions_of, rank, section_of, subst, sym, ℕ, ◌%◌, ◌+◌, ◌-◌, ◌^◌, ◌∙◌, ◌≡◌}
use Rattle.std.proofs.lemmas.Result.{IfErr-weaker}
use Rattle.linker_base.specs.declared.packing.Position.{Position}
use Rattle.linker_base.specs.declared.relaxation.RelaxDelta.{RelaxDelta}
use Rattle.linker_runs.specs.declared.relaxation.Site.{Site}
use Rattle.linker_runs.proofs.packing.code_of_site.Goals as goal

-- what holds of the addresses that the code has taken holds of those of the site and its target
at_site : (P : ℕ → ℕ → Type 0) (deltas : List RelaxDelta) (start o t : ℕ) (at there : Position) → at.input_offset ≡ o → there.input_offset ≡ t → IsPosition deltas at → IsPosition deltas there
    → P ((start + at.output_offset) % 2 ^ 64) ((start + there.output_offset) % 2 ^ 64)
    → P ((start + rank (deletions_of deltas) o) % 2 ^ 64) ((start + rank (deletions_of deltas) t) % 2 ^ 64)
at_site P deltas start o t at there e f is is' p =
    let ds = deletions_of deltas in
    subst (λ n. P ((start + rank ds o) % 2 ^ 64) ((start + n) % 2 ^ 64)) (is'.output ∙ ap (rank ds) f)
    (subst (λ n. P ((start + n) % 2 ^ 64) ((start + there.output_offset) % 2 ^ 64)) (is.output ∙ ap (rank ds) e) p)

on_ok : {T E : Type 0} (r : Result T E) (P Q : Type 0) → (P → Q) → OnOk r P → OnOk r Q
on_ok (Ok x) P Q f p = f p
on_ok (Err e) P Q f p = p

with_len : (machine : Machine) (s : Section) (site : Site) (kept : ℕ) → site.len ≡ 8 → (error : ItemError)
    → CodeCause machine s.bytes (site.offset - s.base) kept (address_of s site.offset) (address_of s site.target) error
    → SiteCause machine s site kept error
with_len machine s site kept len NotItsInstructions cause = λ same. cause
with_len machine s site kept len error cause = (len, cause)

pub returns-in-RiscV-clause-becomes : goal.returns-in-RiscV-clause-becomes
returns-in-RiscV-clause-becomes c = λ valid position.
    let s = section_of c.args.section.now c.args.base (deletions_of c.args.deltas.now) c.args.start in
    let site = c.args.site.now in
    let r = c.code_of.result in
    let becomes = λ (m : Machine) (place target : ℕ). IfOk r (λ code. RiscVBecomes m s.bytes (site.offset - s.base) place target (code_bytes code)) in
    subst (λ m. becomes m (address_of s site.offset) (address_of s site.target) → IfOk r (λ code. SiteBecomes m s site (code_bytes code))) (sym c.in-RiscV.is) (λ h. h)
    (at_site (becomes c.args.machine) c.args.deltas.now c.args.start site.offset site.target c.args.at.now c.position_of.result c.requires.at c.position_of.ensures.offset position (c.position_of.ensures.position valid) c.code_of.ensures.becomes)

pub returns-in-RiscV-clause-accepts : goal.returns-in-RiscV-clause-accepts
returns-in-RiscV-clause-accepts c = λ valid position.
    let s = section_of c.args.section.now c.args.base (deletions_of c.args.deltas.now) c.args.start in
    let site = c.args.site.now in
    let r = c.code_of.result in
    let accepts = λ (m : Machine) (place target : ℕ). RiscVAccepts m s.bytes (site.offset - s.base) c.args.kept place target in
    on_ok r (accepts c.args.machine (address_of s site.offset) (address_of s site.target)) (SiteAccepts c.args.machine s site c.args.kept)
    (subst (λ m. accepts m (address_of s site.offset) (address_of s site.target) → SiteAccepts m s site c.args.kept) (sym c.in-RiscV.is) (λ h. (c.if-site-ne8.false, h)))
    (at_site (λ place target. OnOk r (accepts c.args.machine place target)) c.args.deltas.now c.args.start site.offset site.target c.args.at.now c.position_of.result c.requires.at c.position_of.ensures.offset position (c.position_of.ensures.position valid) c.code_of.ensures.accepts)

pub returns-in-RiscV-clause-rejected : goal.returns-in-RiscV-clause-rejected
returns-in-RiscV-clause-rejected c = λ valid position.
    let s = section_of c.args.section.now c.args.base (deletions_of c.args.deltas.now) c.args.start in
    let site = c.args.site.now in
    let r = c.code_of.result in
    let causes = λ (m : Machine) (place target : ℕ) (error : ItemError). RiscVCause m s.bytes (site.offset - s.base) c.args.kept place target error in
    let code_cause = subst (λ m. (error : ItemError) → causes m (address_of s site.offset) (address_of s site.target) error
    → CodeCause m s.bytes (site.offset - s.base) c.args.kept (address_of s site.offset) (address_of s site.target) error) (sym c.in-RiscV.is) (λ error h. h) in
    IfErr-weaker r (causes c.args.machine (address_of s site.offset) (address_of s site.target)) (SiteCause c.args.machine s site c.args.kept)
    (λ error h. with_len c.args.machine s site c.args.kept c.if-site-ne8.false error (code_cause error h))
    (at_site (λ place target. IfErr r (causes c.args.machine place target)) c.args.deltas.now c.args.start site.offset site.target c.args.at.now c.position_of.result c.requires.at c.position_of.ensures.offset position (c.position_of.ensures.position valid) c.code_of.ensures.rejected)

pub returns-in-LoongArch64-clause-becomes : goal.returns-in-LoongArch64-clause-becomes
returns-in-LoongArch64-clause-becomes c = λ valid position.
    let s = section_of c.args.section.now c.args.base (deletions_of c.args.deltas.now) c.args.start in
    let site = c.args.site.now in
    let r = c.code_of-in-LoongArch64.result in
    subst (λ m. IfOk r (λ code. SiteBecomes m s site (code_bytes code))) (sym c.in-LoongArch64.is)
    (at_site (λ place target. IfOk r (λ code. LoongArchBecomes s.bytes (site.offset - s.base) place target (code_bytes code))) c.args.deltas.now c.args.start site.offset site.target c.args.at.now c.position_of.result c.requires.at c.position_of.ensures.offset position (c.position_of.ensures.position valid) c.code_of-in-LoongArch64.ensures.becomes)

pub returns-in-LoongArch64-clause-accepts : goal.returns-in-LoongArch64-clause-accepts
returns-in-LoongArch64-clause-accepts c = λ valid position.
    let s = section_of c.args.section.now c.args.base (deletions_of c.args.deltas.now) c.args.start in
    let site = c.args.site.now in
    let r = c.code_of-in-LoongArch64.result in
    let accepts = λ (place target : ℕ). LoongArchAccepts s.bytes (site.offset - s.base) c.args.kept place target in
    subst (λ m. OnOk r (SiteAccepts m s site c.args.kept)) (sym c.in-LoongArch64.is)
    (on_ok r (accepts (address_of s site.offset) (address_of s site.target)) ((site.len ≡ 8) × accepts (address_of s site.offset) (address_of s site.target)) (λ h. (c.if-site-ne8.false, h))
    (at_site (λ place target. OnOk r (accepts place target)) c.args.deltas.now c.args.start site.offset site.target c.args.at.now c.position_of.result c.requires.at c.position_of.ensures.offset position (c.position_of.ensures.position valid) c.code_of-in-LoongArch64.ensures.accepts))

pub returns-in-LoongArch64-clause-rejected : goal.returns-in-LoongArch64-clause-rejected
returns-in-LoongArch64-clause-rejected c = λ valid position.
    let s = section_of c.args.section.now c.args.base (deletions_of c.args.deltas.now) c.args.start in
    let site = c.args.site.now in
    let r = c.code_of-in-LoongArch64.result in
    let causes = λ (place target : ℕ) (error : ItemError). LoongArchCause s.bytes (site.offset - s.base) c.args.kept place target error in
    subst (λ m. IfErr r (SiteCause m s site c.args.kept)) (sym c.in-LoongArch64.is)
    (IfErr-weaker r (causes (address_of s site.offset) (address_of s site.target)) (SiteCause LoongArch64 s site c.args.kept) (with_len LoongArch64 s site c.args.kept c.if-site-ne8.false)
    (at_site (λ place target. IfErr r (causes place target)) c.args.deltas.now c.args.start site.offset site.target c.args.at.now c.position_of.result c.requires.at c.position_of.ensures.offset position (c.position_of.ensures.position valid) c.code_of-in-LoongArch64.ensures.rejected))
