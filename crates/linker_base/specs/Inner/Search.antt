-- What a search reads, tests and finds.
use Rattle.std.specs.Prelude.{◌≡◌, ℕ, ◌+◌, ◌*◌, ◌<◌, ◌≤◌, Bool, true, false, nat_lt, nat_le, nat_eq}
use Rattle.std.specs.Prelude.{if◌then◌else◌, List, length, slice_index_or}
use Rattle.linker_base.specs.declared.relaxation.RelaxDelta.{RelaxDelta}
use Rattle.linker_base.specs.declared.relaxation.blocks.BlockHead.{BlockHead}
use Rattle.linker_base.specs.declared.relaxation.search.Level.{Level}
use Rattle.linker_base.specs.declared.relaxation.search.Level.TheVariants.{Heads, Deltas}
use Rattle.linker_base.specs.declared.relaxation.search.Test.{Test}
use Rattle.linker_base.specs.declared.relaxation.search.Test.TheVariants.{BeginsBelow, IsPlacedUpTo}
use Rattle.linker_base.specs.Blocks.{View, blocks_of, head_of}

-- what a read past the end gives
abbrev pub no_delta : RelaxDelta
no_delta = record { input_offset = 0; cumulative_deleted = 0; bytes_deleted = 0 }

abbrev pub no_head : BlockHead
no_head = record { input_offset = 0; output_offset = 0 }

-- what is searched: deltas, and what stands for the heads of their blocks
pub record Subject : Type 0 where
  pub deltas : List RelaxDelta
  pub head : ℕ → BlockHead

-- what is searched, and how many of its heads and deltas were read
pub record Probed : Type 0 where
  pub subject : Subject
  pub probes : ℕ

-- at most n are read, and nothing changes
pub record OnlyProbes (most : ℕ) (before after : Probed) : Type 0 where
  pub same : after.subject ≡ before.subject
  pub counted : after.probes ≤ before.probes + most

-- deltas with the head of each of their blocks
abbrev pub list_subject : List RelaxDelta → Subject
list_subject deltas =
    record { deltas = deltas; head = λ block. head_of (slice_index_or deltas (64 * block) no_delta) }

-- deltas with heads of their blocks; where there are none, with those of the deltas
abbrev pub view_subject : View → Subject
view_subject view = record {
  deltas = view.deltas;
  head = λ block. if nat_eq (length view.heads) 0
      then head_of (slice_index_or view.deltas (64 * block) no_delta)
      else slice_index_or view.heads block no_head;
}

-- how many heads or deltas there are
abbrev pub size_of : Subject → Level → ℕ
size_of subject Heads = blocks_of (length subject.deltas)
size_of subject Deltas = length subject.deltas

-- a head, or the head of a block that begins with the delta
abbrev pub read_at : Subject → Level → ℕ → BlockHead
read_at subject Heads at = subject.head at
read_at subject Deltas at = head_of (slice_index_or subject.deltas at no_delta)

-- whether a head passes
abbrev pub passes_test : Test → BlockHead → Bool
passes_test (BeginsBelow offset) head = nat_lt head.input_offset offset
passes_test (IsPlacedUpTo offset) head = nat_le head.output_offset offset

-- whether the head or delta at an index passes
abbrev pub passing : Subject → Level → Test → ℕ → Bool
passing subject level test at = passes_test test (read_at subject level at)

-- none that passes comes after one that fails
abbrev pub IsPartitioned : Subject → Level → Test → Type 0
IsPartitioned subject level test = (i j : ℕ) → i ≤ j → j < size_of subject level
    → passing subject level test j ≡ true → passing subject level test i ≡ true

-- those below the point pass, and those from it on fail
pub record IsPointOf (subject : Subject) (level : Level) (test : Test) (point : ℕ) : Type 0 where
  pub before : (k : ℕ) → k < point → passing subject level test k ≡ true
  pub after : (k : ℕ) → point ≤ k → k < size_of subject level
      → passing subject level test k ≡ false

-- there is one point, and it is one of n indexes from the first on
pub record IsNarrowed (subject : Subject) (level : Level) (test : Test) (first count : ℕ)
    : Type 0 where
  pub parted : IsPartitioned subject level test
  pub before : (k : ℕ) → k < first → passing subject level test k ≡ true
  pub after : (k : ℕ) → first + count ≤ k + 1 → k < size_of subject level
      → passing subject level test k ≡ false

-- a head passes where the first delta of its block does
abbrev pub HeadsAgree : Subject → Test → Type 0
HeadsAgree subject test = (b : ℕ) → b < size_of subject Heads
    → passing subject Heads test b ≡ passing subject Deltas test (64 * b)
