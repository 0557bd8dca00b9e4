-- Local-dynamic TLS: the argument of the call, and offsets in a module's block.
use Rattle.linker_laws.proofs.Imports.{AreAddresses, BlockOffsets, IsApplied, IsBefore, List, Operands, [], ap, arith, cast_unsigned, difference_64, extended, number_of_bytes, sum_64, symbol_address, w64, ℕ, ◌<◌, ◌^◌, ◌∙◌, ◌∷◌, ◌≡◌}
use Rattle.linker_laws.proofs.Relocated.{addresses as are_addresses}
use Rattle.linker_laws.specs.X86Machine.{State}
use Rattle.linker_laws.proofs.X86Fields.{tls_module_field, tls_module_row, block_field, thread_field, long_block_field, long_thread_field}
use Rattle.linker_laws.proofs.X86Loads.{from_next}

-- ---- the call

pub argument : (section : List ℕ) (o : ℕ) (operands : Operands) (s : State) (bytes rest : List ℕ)
    → IsBefore 3 section o operands s → IsApplied tls_module_row operands bytes rest
    → sum_64 (sum_64 s.ip 7) (extended (number_of_bytes 4 rest)) ≡ operands.got_entry
argument section o operands s bytes rest before applied =
    from_next 3 s.ip operands.place (extended (number_of_bytes 4 rest)) operands.got_entry
    (omega arith) before.addresses.place before.addresses.got_entry before.ip
    (tls_module_field operands before.addresses bytes rest applied
    ∙ ap (λ a. sum_64 operands.got_entry (cast_unsigned w64 a)) before.addend)

abbrev pub load_bytes : List ℕ
load_bytes = 0x64 ∷ 0x48 ∷ 0x8b ∷ 0x04 ∷ 0x25 ∷ 0 ∷ 0 ∷ 0 ∷ 0 ∷ []

-- `data16 data16 data16 cs nopw 0(%rax,%rax,1)`
abbrev pub nop_bytes : List ℕ
nop_bytes =
    0x66 ∷ 0x66 ∷ 0x66 ∷ 0x66 ∷ 0x2e ∷ 0x0f ∷ 0x1f ∷ 0x84 ∷ 0 ∷ 0 ∷ 0 ∷ 0 ∷ 0 ∷ []

-- ---- offsets

with_base : (o : Operands) (base : ℕ) → AreAddresses o → base < 2 ^ 64
    → AreAddresses (record o { tls_base = base })
with_base o base addresses small =
    are_addresses _ addresses.symbol addresses.place addresses.got_entry addresses.got_base addresses.plt_entry small

-- offsets from where the block begins, and from where the thread pointer points
same_sum : (image pointed x y a block pointer : ℕ) → image < 2 ^ 64 → pointed < 2 ^ 64
    → block ≡ sum_64 pointer (difference_64 image pointed)
    → sum_64 image x ≡ a → sum_64 pointed y ≡ a → sum_64 block x ≡ sum_64 pointer y
same_sum image pointed x y a block pointer small small' is leads leads' = omega arith

pub block_offsets : BlockOffsets
block_offsets = (
  λ image pointed block pointer small small' is operands bytes rest rest' addresses first second.
      same_sum image pointed (extended (number_of_bytes 4 rest)) (extended (number_of_bytes 4 rest'))
      (symbol_address operands) block pointer small small' is
      (block_field (record operands { tls_base = image }) (with_base operands image addresses small)
      bytes rest first)
      (thread_field (record operands { tls_base = pointed })
      (with_base operands pointed addresses small') bytes rest' second),
  λ image pointed block pointer small small' is operands bytes rest rest' addresses first second.
      same_sum image pointed (number_of_bytes 8 rest) (number_of_bytes 8 rest')
      (symbol_address operands) block pointer small small' is
      (long_block_field (record operands { tls_base = image })
      (with_base operands image addresses small) bytes rest first)
      (long_thread_field (record operands { tls_base = pointed })
      (with_base operands pointed addresses small') bytes rest' second),
)
