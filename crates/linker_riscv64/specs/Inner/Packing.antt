-- What holds while a section is packed.
use Rattle.std.specs.Prelude.{◌≡◌, ℕ, ◌<◌, List, length, IsTrue, slice_index}
use Rattle.std.specs.Prelude.{slice_index_or}
use Rattle.linker_base.specs.Deletions.{is_kept, rank}
use Rattle.linker_riscv64.specs.RiscVCalls.{word_at, output_distance, link_register, IsJal}
use Rattle.linker_riscv64.specs.RiscVCalls.{IsSiteKept}
use Rattle.linker_riscv64.specs.Packing.{IsApart, IsNotAt}
use Rattle.linker_riscv64.specs.declared.calls.Jump.{Jump}
use Rattle.linker_riscv64.specs.declared.calls.LinkRegister.{LinkRegister}

-- the jump that a call becomes whose site is kept
pub record IsJumpOf (deletions : List (ℕ × ℕ)) (site target : ℕ) (jump : Jump) : Type 0 where
  pub kept : IsSiteKept deletions site
  pub output_offset : jump.output_offset ≡ rank deletions site
  pub distance : jump.distance ≡ output_distance deletions site target

-- all is packed, and the first calls are jumps
pub record IsPackedTo (link : LinkRegister) (deletions : List (ℕ × ℕ)) (section : List ℕ)
    (calls : List (ℕ × ℕ)) (upto : ℕ) (packed : List ℕ) : Type 0 where
  pub kept : (p : ℕ) → p < length section → IsTrue (is_kept deletions p)
      → ((i : ℕ) (call : ℕ × ℕ) → i < upto → IsNotAt p (slice_index_or calls i call))
      → slice_index packed (rank deletions p) ≡ slice_index section p
  pub jumps : (i : ℕ) (call : ℕ × ℕ) → i < upto
      → IsJal (word_at packed (rank deletions (slice_index_or calls i call).0))
      (link_register link section (slice_index_or calls i call).0)
      (output_distance deletions (slice_index_or calls i call).0 (slice_index_or calls i call).1)

-- the first calls are apart
abbrev pub AreApartTo : List (ℕ × ℕ) → ℕ → Type 0
AreApartTo calls upto = (i j : ℕ) (call : ℕ × ℕ) → i < j → j < upto
    → IsApart (slice_index_or calls i call) (slice_index_or calls j call)
