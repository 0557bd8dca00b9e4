-- A write of a row that is accepted does what the row says.
use Rattle.linker_elf.proofs.Imports.{FitsSigned, IsAccepted, IsWritten, List, RowInfo, WritesRow, w64, ℕ, ℤ}
use Rattle.linker_elf.proofs.Halves.{row_holds}
use Rattle.linker_elf.proofs.Relocated.{row_reads, row_reads_in_reach}
use Rattle.linker_elf.proofs.WrittenNumbers.{row_number}

pub writes_row : (row : RowInfo) (v : ℤ) (before after : List ℕ) → FitsSigned w64 v
    → IsAccepted row v before → IsWritten row.size row.kind v before after
    → WritesRow row v before after
writes_row row v before after small accepted written =
    record {
      accepted = accepted;
      written = written;
      number = row_number row v before after small accepted.supported written;
      machine = λ is_signed agrees. row_reads is_signed row v before after small accepted written agrees;
      reached = λ is_signed agrees. row_reads_in_reach is_signed row v before after small accepted written agrees;
      pairs = row_holds row v before after small accepted written;
    }
