-- What can be written over the first 8 bytes can be written over all, and else for the same cause.
use Rattle.linker_output.proofs.Imports.{IsAccepted, IsCause, List, RelocateError, RowInfo, arith, is_supported, length, length-take-le, min, size_len, sym, take, take-take, true, window_len, ℕ, ℤ, ◌≡◌, ◌≤◌}
use Rattle.linker_elf.specs.declared.elf.relocate.RelocateError.TheVariants.{OutOfReach, Unsupported, Misaligned, TooShort}
use Rattle.linker_section.proofs.Fronts.{HaveSameWindow, same_window, accepted_same, multiple_same, reached_same}
use Rattle.linker_section.proofs.Local.{small_size}
use Rattle.linker_elf.proofs.Relocated.{supported_size}

small : (row : RowInfo) → is_supported row ≡ true → window_len row ≤ 8
small row supported = small_size row.size row.kind (supported_size row supported)

front_window : (row : RowInfo) (n : ℕ) (bytes : List ℕ) → window_len row ≤ n
    → HaveSameWindow row.size (take n bytes) bytes
front_window row n bytes le =
    same_window row.size (take n bytes) bytes (take-take (size_len row.size) n bytes le)

back_window : (row : RowInfo) (n : ℕ) (bytes : List ℕ) → window_len row ≤ n
    → HaveSameWindow row.size bytes (take n bytes)
back_window row n bytes le =
    same_window row.size bytes (take n bytes) (sym (take-take (size_len row.size) n bytes le))

-- the first n bytes, which are all of them or at least 8
pub accepted_of_front : (row : RowInfo) (v : ℤ) (bytes : List ℕ) (n : ℕ)
    → n ≡ min (length bytes) 8 → IsAccepted row v (take n bytes) → IsAccepted row v bytes
accepted_of_front row v bytes n is accepted =
    let len : length (take n bytes) ≡ n = length-take-le n bytes (omega arith) in
    accepted_same row v (take n bytes) bytes (front_window row n bytes (omega (arith, accepted.long))) (omega (arith, accepted.long)) accepted

pub cause_of_front : (row : RowInfo) (v : ℤ) (bytes : List ℕ) (n : ℕ)
    (error : RelocateError) → n ≡ min (length bytes) 8 → IsCause row v (take n bytes) error
    → IsCause row v bytes error
cause_of_front row v bytes n Unsupported is cause = cause
cause_of_front row v bytes n TooShort is cause =
    let len : length (take n bytes) ≡ n = length-take-le n bytes (omega arith) in
    let most = small row (cause.0) in
    let short = cause.1 in (cause.0, omega arith)
cause_of_front row v bytes n Misaligned is cause =
    let len : length (take n bytes) ≡ n = length-take-le n bytes (omega arith) in
    let long = cause.1 in
    let fits : window_len row ≤ n = omega arith in
    (cause.0, omega arith, λ all. cause.2 (multiple_same row v bytes (take n bytes) (back_window row n bytes fits) all))
cause_of_front row v bytes n OutOfReach is cause =
    let len : length (take n bytes) ≡ n = length-take-le n bytes (omega arith) in
    let fits : window_len row ≤ n = omega (arith, cause.1) in (
      cause.0,
      omega (arith, cause.1),
      multiple_same row v (take n bytes) bytes (front_window row n bytes fits) (cause.2),
      λ all. cause.3 (reached_same row v bytes (take n bytes) (back_window row n bytes fits) all),
    )
