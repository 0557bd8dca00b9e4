-- The worked program of RISC-V.
use Rattle.linker_laws.proofs.Imports.{Agree, HasRoom, IsApplied, IsSomeAnd, Kinds, List, Operands, Option, Other, RowInfo, Some, State, [], adds, after_rewrite, all_same, anything, ap, arith, as_stored, as_sum, difference_64, ends, false, goes_to, group, inr, ints, left, length, lit<, lit≤, moved as plus, nat_tests, of_link, of_place, other, place_sum, pos, put, refl, run, same, stores, subst, sum_64, sym, true, unsigned_abs, uses, with_integer, with_register, with_stored, words, ℕ, ◌%◌, ◌+◌, ◌-◌, ◌<◌, ◌^◌, ◌∷◌, ◌≡◌, ◌≤◌}
use Rattle.linker_laws.specs.RiscVGroups.{Groups, Has, Stands, link, machine, seen}
use Rattle.linker_laws.specs.RiscVGroupsWorked.{EndsAt, IsWorked, code, moved, new, old, others, starting}
use Rattle.linker_utils.specs.declared.riscv64.rewrites.RewriteKind.TheVariants as kinds
use Rattle.linker_laws.proofs.Relocated.{small, all_small, are_bytes, applied}
use Rattle.linker_laws.proofs.Agreement.{agree_put, runs}
use Rattle.linker_laws.proofs.RiscVGroups.{wrote}

-- ---- bytes

has : (n : ℕ) (bytes_of : ℕ → ℕ) (at : ℕ) (row : Option RowInfo) (o : Operands) (before after : List ℕ)
    → IsSomeAnd row (λ row. IsApplied row o before after) → length after ≡ length before
    → all_small before ≡ true → all_small after ≡ true → Stands n bytes_of at after → Has n bytes_of at row o before
has n bytes_of at row o before after applied len small small' stands =
    record {
      relocated = after;
      applied = record {
        applied = applied;
        len = len;
        old_bytes = are_bytes before small;
        bytes = are_bytes after small';
      };
      stands = stands;
    }

-- ---- operands

abbrev operands : ℕ → ℕ → Operands
operands symbol place =
    record {
      symbol = symbol;
      addend = pos 0;
      place = place;
      got_entry = 0x12010;
      got_base = 0;
      plt_entry = 0;
      symbol_size = 0;
      tls_base = 0;
      has_got_entry = true;
      has_plt_entry = false;
      has_tls_base = false;
    }

abbrev high : Operands
high = operands 0x120 0x10000

abbrev load : Operands
load = operands 0x13000 0x1000c

abbrev sum_at : Operands
sum_at = operands 0x13000 0x10008

abbrev calling : Operands
calling = record (operands 0 0x10014) { plt_entry = 0x10020 }

abbrev jumping : Operands
jumping = operands 0x10018 0x10010

-- ---- instructions

abbrev lui : List ℕ
lui = 0xb7 ∷ 0x07 ∷ 0x00 ∷ 0x00 ∷ []

abbrev addi : List ℕ
addi = 0x13 ∷ 0x85 ∷ 0x07 ∷ 0x00 ∷ []

abbrev sd : List ℕ
sd = 0x23 ∷ 0xb0 ∷ 0xa7 ∷ 0x00 ∷ []

abbrev auipc : List ℕ
auipc = 0x97 ∷ 0x05 ∷ 0x00 ∷ 0x00 ∷ []

abbrev ld : List ℕ
ld = 0x83 ∷ 0xb5 ∷ 0x05 ∷ 0x00 ∷ []

abbrev call : List ℕ
call = 0x97 ∷ 0x00 ∷ 0x00 ∷ 0x00 ∷ 0xe7 ∷ 0x80 ∷ 0x00 ∷ 0x00 ∷ []

-- ---- runs

starts : Agree (link code) all_same starting starting
starts =
    record {
      small = lit< tt;
      pc = refl;
      registers = λ r. refl;
      memory = λ a below. ap (λ n. n + 0) (by (a - 0));
      outside = refl;
    }
  where
    by : (a : ℕ) → starting.memory a ≡ starting.memory (moved a)
    by a = grind (arith, nat_tests)

-- what is known after two groups, and before the return
abbrev k2 : Kinds
k2 = with_register 10 same (with_register 15 anything all_same)

abbrev k5 : Kinds
k5 =
    with_register 1 (of_place 0x1001c) (with_register 1 anything
    (with_register 11 same (with_register 11 anything (with_stored 8 0x128 k2))))

abbrev s5 : State
s5 =
    put 1 0x1001c 0x10020 (put 1 0x10014 0x10018 (put 11 0x13000 0x10014 (put 11 0x1200c 0x10010
    (uses (stores 3) 0xa7b023 0x128 (uses adds 0x78513 0x120 (put 15 0 0x10004 starting))))))

abbrev s6 : State
s6 = put 0 0x10024 0x1001c s5

abbrev k6 : Kinds
k6 = with_register 0 anything k5

room : HasRoom code k2 8 0x128
room =
    record {
      small = lit< tt;
      moved = refl;
      apart = λ a below d. inr (
        (let e : 8 ≤ difference_64 (a - 0) 0x128 = omega (arith, d) in e, tt),
        (apart_there (a - 0) (omega (arith, below)) (omega (arith, d)), tt),
      );
    }
  where
    apart_there : (a : ℕ) → a < 2 ^ 64 → 8 ≤ difference_64 a 0x128 → 8 ≤ difference_64 (moved a) 0x128
    apart_there a below d = grind (arith, nat_tests)

p6 : Groups → Other (of_link (link code)) k5 s5 k6 s6
unfolding place_sum
p6 g =
    g.others code k5 k6 s5 s6 refl (ap Some (wrote s5 0 0x10024 0x1001c (lit< tt)))
    (λ t agree.
    let back : t.registers 1 ≡ 0x10014 = ap unsigned_abs (sym (agree.registers 1).1) in
    let after = sum_64 t.pc 4 in
    subst (λ m. Agree (link code) k6 s6 (left t (goes_to (plus m (pos 0) - plus m (pos 0) % 2) (with_integer 0 after (seen t)))))
    (sym back)
    (subst (λ u. Agree (link code) k6 s6 u) (sym (wrote t 0 after 0x10014 (lit< tt)))
    (agree_put (link code) k5 s5 t 0 anything 0x10024 after 0x1001c 0x10014 agree (lit< tt) refl tt)))

old_end : IsSomeAnd (run 8 (machine others (words old)) starting) (EndsAt 0x1001c)
unfolding place_sum
old_end = (refl, refl, refl, refl, refl)

new_end : IsSomeAnd (run 6 (machine others (words new)) starting) (EndsAt 0x10014)
unfolding place_sum
new_end = (refl, refl, refl, refl, refl)

pub is_worked : Groups → IsWorked
unfolding place_sum has
is_worked g =
    runs (link code) starts
    (group 5 0 6 _ _ _ _ _ _
    (g.no_high_parts lui (lit≤ tt, refl) refl code high _ _ (record { small = lit< tt; moved = refl })
    (omega (arith, ints), omega (arith, ints))
    (has _ _ _ _ _ lui lui
    (applied (pos 0x120) 0x7b7 refl (refl, tt, λ e. refl) refl (lit< tt) tt refl refl) refl refl refl refl))
    (group 4 1 5 _ _ _ _ _ _
    (g.low_parts addi (lit≤ tt, refl) code (operands 0x120 0x10004) high _ _ _
    (record { at = refl; small = lit< tt; place = refl; next = refl }) refl
    (omega (arith, ints), omega (arith, ints)) refl tt
    (has _ _ _ _ _ addi (0x13 ∷ 0x85 ∷ 0x07 ∷ 0x12 ∷ [])
    (applied (pos 0x120) 0x78513 refl (refl, tt, λ e. refl) refl (lit< tt) tt refl refl) refl refl refl refl)
    (has _ _ _ _ _ (0x13 ∷ 0x05 ∷ 0x00 ∷ 0x00 ∷ []) (0x13 ∷ 0x05 ∷ 0x00 ∷ 0x12 ∷ [])
    (applied (pos 0x120) 0x513 refl (refl, tt, λ e. refl) refl (lit< tt) tt refl refl) refl refl refl refl)
    (g.accesses code adds 0x78513 0x120 _ _ _ refl as_sum))
    (group 3 1 4 _ _ _ _ _ _
    (g.low_parts sd (lit≤ tt, refl) code (operands 0x128 0x10008) (operands 0x128 0x10004) _ _ _
    (record { at = refl; small = lit< tt; place = refl; next = refl }) refl
    (omega (arith, ints), omega (arith, ints)) refl tt
    (has _ _ _ _ _ sd (0x23 ∷ 0xb4 ∷ 0xa7 ∷ 0x12 ∷ [])
    (applied (pos 0x128) 0xa7b023 refl (refl, tt, λ e. refl) refl (lit< tt) tt refl refl) refl refl refl refl)
    (has _ _ _ _ _ (0x23 ∷ 0x30 ∷ 0xa0 ∷ 0x00 ∷ []) (0x23 ∷ 0x34 ∷ 0xa0 ∷ 0x12 ∷ [])
    (applied (pos 0x128) 0xa03023 refl (refl, tt, λ e. refl) refl (lit< tt) tt refl refl) refl refl refl refl)
    (g.accesses code (stores 3) 0xa7b023 0x128 _ _ _ refl (as_stored 3 (inr refl) room)))
    (group 2 2 2 _ _ _ _ _ _
    (g.got auipc ld (lit≤ tt)
    (record { first = refl; second = (refl, refl); base = refl; not_zero = λ e. omega arith })
    code load sum_at _ same _ (record { at = refl; small = lit< tt; place = refl; next = refl })
    (record {
      small = small load refl;
      entry = refl;
      high = has _ _ _ _ _ auipc (0x97 ∷ 0x25 ∷ 0x00 ∷ 0x00 ∷ [])
          (applied (pos 0x2004) 0x597 refl (refl, tt, λ e. refl) refl (lit< tt) tt refl refl) refl refl refl refl;
      low = has _ _ _ _ _ ld (0x83 ∷ 0xb5 ∷ 0x45 ∷ 0x00 ∷ [])
          (applied (pos 0x2004) 0x5b583 refl (refl, tt, λ e. refl) refl (lit< tt) tt refl refl) refl refl refl refl;
    })
    refl (small sum_at refl) (
      has _ _ _ _ _ auipc (0x97 ∷ 0x35 ∷ 0x00 ∷ 0x00 ∷ [])
          (applied (pos 0x2ff8) 0x597 refl (refl, tt, λ e. refl) refl (lit< tt) tt refl refl) refl refl refl refl,
      has _ _ _ _ _ (0x93 ∷ 0x85 ∷ 0x05 ∷ 0x00 ∷ []) (0x93 ∷ 0x85 ∷ 0x85 ∷ 0xff ∷ [])
          (applied (pos 0x2ff8) 0x58593 refl (refl, tt, λ e. refl) refl (lit< tt) tt refl refl) refl refl refl refl,
    ))
    (group 1 1 1 _ _ _ _ _ _
    (g.calls.1 jumping call (after_rewrite kinds.CallToJal call 0) (small jumping refl)
    (record { auipc_opcode = refl; jalr_opcode = refl; jalr_function = refl; base = refl }) (λ e. omega arith) refl
    code calling _ _ (small calling refl) (record { at = refl; small = lit< tt; place = refl; next = refl }) refl
    (has _ _ _ _ _ call (0x97 ∷ 0x00 ∷ 0x00 ∷ 0x00 ∷ 0xe7 ∷ 0x80 ∷ 0xc0 ∷ 0x00 ∷ [])
    (applied (pos 0xc) 0x80e700000097 refl (refl, tt, λ e. refl) refl (lit< tt) tt refl refl) refl refl refl refl)
    (has _ _ _ _ _ (0xef ∷ 0x00 ∷ 0x00 ∷ 0x00 ∷ 0xe7 ∷ 0x80 ∷ 0x00 ∷ 0x00 ∷ [])
    (0xef ∷ 0x00 ∷ 0x80 ∷ 0x00 ∷ 0xe7 ∷ 0x80 ∷ 0x00 ∷ 0x00 ∷ [])
    (applied (pos 0x8) 0xef refl (refl, tt, λ e. refl) refl (lit< tt) tt refl refl) refl refl refl refl))
    (other 0 0 _ _ _ _ _ _ (p6 g) (ends _ _)))))))
    refl (λ t. refl) old_end new_end
