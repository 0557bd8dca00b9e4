-- RV32: instructions of which the premises of its laws hold, by computation.
use Rattle.linker_final.proofs.Imports.{IsApplied, IsSomeAnd, List, Operands, RiscVRelocation, [], false, length, lit<, lit≤, negsuc, place_sum, pos, refl, riscv_row, true, ℕ, ◌∷◌, ◌≡◌}
use Rattle.linker_final.specs.RiscV32.{CallIsMade, CallsAreMade, PairIsApplied, short_call}
use Rattle.linker_laws.proofs.Relocated.{all_small, applied, are_bytes, small}
use Rattle.linker_elf.specs.declared.riscv64.relocations.RiscVRelocation.TheVariants as names

-- of a symbol, with the addend of the file
abbrev operands : ℕ → Operands
operands symbol =
    record {
      symbol = symbol;
      addend = pos 0;
      place = 0;
      got_entry = 0;
      got_base = 0;
      plt_entry = symbol;
      symbol_size = 0;
      tls_base = 0;
      has_got_entry = false;
      has_plt_entry = false;
      has_tls_base = false;
    }

pub pair_is_applied : PairIsApplied
unfolding place_sum
pair_is_applied =
    record {
      o = operands 0x80001000;
      addend = negsuc 0xffffffff;
      addresses = small (operands 0x80001000) refl;
      same = refl;
      other = λ e. cc;
      applied = (
        (
          0,
          0x37 ∷ 0x05 ∷ 0x00 ∷ 0x00 ∷ [],
          0x37 ∷ 0x15 ∷ 0x00 ∷ 0x80 ∷ [],
          applied (negsuc 0x7fffefff) 0x537 refl (refl, tt, λ e. refl) refl (lit< tt) tt refl refl,
        ),
        (
          (
            0,
            0x13 ∷ 0x05 ∷ 0x05 ∷ 0x00 ∷ [],
            0x13 ∷ 0x05 ∷ 0x05 ∷ 0x00 ∷ [],
            applied (negsuc 0x7fffefff) 0x50513 refl (refl, tt, λ e. refl) refl (lit< tt) tt refl refl,
          ),
          tt,
        ),
      );
    }

abbrev call : List ℕ
call = 0x97 ∷ 0x00 ∷ 0x00 ∷ 0x00 ∷ 0xe7 ∷ 0x80 ∷ 0x00 ∷ 0x00 ∷ []

abbrev code : List ℕ
code = 0x97 ∷ 0x00 ∷ 0x00 ∷ 0x00 ∷ 0xe7 ∷ 0x80 ∷ 0x00 ∷ 0xf0 ∷ []

is_made : (name : RiscVRelocation) (made : List ℕ → List ℕ) (code : List ℕ)
    → IsSomeAnd (riscv_row name) (λ row.
    IsApplied row (record (operands 0xffffff00) { addend = negsuc 0xffffffff }) (made call) code)
    → length code ≡ length (made call) → all_small (made call) ≡ true → all_small code ≡ true
    → CallIsMade name made
is_made name made code applied len small_before small_after =
    record {
      o = operands 0xffffff00;
      call = call;
      code = code;
      is_made = record {
        addend = negsuc 0xffffffff;
        addresses = small (operands 0xffffff00) refl;
        same = refl;
        matches = record {
          inside = lit≤ tt;
          pair = record { auipc_opcode = refl; jalr_opcode = refl; jalr_function = refl; base = refl };
          base = λ e. cc;
          links = refl;
        };
        relocated = record {
          applied = applied;
          len = len;
          old_bytes = are_bytes (made call) small_before;
          bytes = are_bytes code small_after;
        };
      };
      other = λ e. cc;
    }

pub calls_are_made : CallsAreMade
unfolding place_sum
calls_are_made = (
  is_made names.R_RISCV_CALL (λ call. call) code
      (applied (negsuc 255) 0x80e700000097 refl (refl, tt, λ e. refl) refl (lit< tt) tt refl refl) refl refl refl,
  is_made names.R_RISCV_CALL_PLT (λ call. call) code
      (applied (negsuc 255) 0x80e700000097 refl (refl, tt, λ e. refl) refl (lit< tt) tt refl refl) refl refl refl,
  is_made names.R_RISCV_RVC_JUMP short_call (0x01 ∷ 0x37 ∷ 0x00 ∷ 0x00 ∷ 0xe7 ∷ 0x80 ∷ 0x00 ∷ 0x00 ∷ [])
      (applied (negsuc 255) 0x2001 refl (refl, tt, λ e. refl) refl (lit< tt) tt refl refl) refl refl refl,
)
