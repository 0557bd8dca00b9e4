-- A value that is written to the bytes from an offset on.
use Rattle.linker_section.proofs.Imports.{Err, HasLength, HoldsOffset, IfErr, IsWrittenAt, List, Ok, OnOk, RejectsValue, RelocateError, Result, RowInfo, WritesRow, ap, arith, drop, inl, length, take, take-append-drop, ℕ, ℤ, ◌++◌, ◌∙◌, ◌≡◌, ◌≤◌}

pub written_at : (row : RowInfo) (v : ℤ) (offset : ℕ) (before after rest : List ℕ)
    (result : Result Unit RelocateError) → offset ≤ length before → HasLength row offset before
    → HoldsOffset row v offset before
    → after ≡ take offset before ++ rest → length after ≡ length before
    → OnOk result (WritesRow row v (drop offset before) rest)
    → IfErr result (RejectsValue row v (drop offset before) rest)
    → IsWrittenAt row v offset before after result
written_at row v offset before after rest (Ok u) inside shown held around len ok err =
    record { inside = inside; rest = rest; around = around; same_length = len; length_shown = shown; holds = held inside ok.accepted.long; written = ok }
written_at row v offset before after rest (Err error) inside shown held around len ok err = (
  inl (record {
    outside = λ past. absurd (omega arith);
    inside = λ _. err.0;
  }),
  around ∙ (ap (λ bytes. take offset before ++ bytes) (err.1) ∙ take-append-drop offset before),
)
