-- The worked program of LoongArch.
use Rattle.linker_laws.proofs.Imports.{Agree, IsSomeAnd, List, LoongArch64Relocation, Operands, [], all_same, and_parts, ap, arith, ends, eqb-true, false, group, ints, lit<, nat_tests, place_sum, pos, refl, run, same, true, words, ℕ, ◌+◌, ◌-◌, ◌<◌, ◌==◌, ◌∷◌, ◌≡◌}
use Rattle.linker_laws.specs.LoongArchGroups.{IsRelocated}
use Rattle.linker_laws.proofs.Agreement.{runs}
use Rattle.linker_laws.specs.LoongArchGroups.{Has, Stands, Groups, link, machine}
use Rattle.linker_laws.specs.LoongArchGroupsWorked.{EndsAt, IsWorked, code, moved, new, old, starting}
use Rattle.linker_laws.proofs.Relocated.{small, applied}

-- ---- operands

abbrev operands : ℕ → ℕ → Operands
operands symbol place =
    record {
      symbol = symbol;
      addend = pos 0;
      place = place;
      got_entry = 0x12010;
      got_base = 0;
      plt_entry = 0;
      symbol_size = 0;
      tls_base = 0;
      has_got_entry = true;
      has_plt_entry = false;
      has_tls_base = true;
    }

abbrev pair : Operands
pair = operands 0x13120 0x10000

abbrev short : Operands
short = operands 0x120 0x10008

abbrev high : Operands
high = operands 0x54344 0x1000c

abbrev new_high : Operands
new_high = operands 0x54344 0x10004

abbrev low : Operands
low = operands 0x54344 0x10010

abbrev new_low : Operands
new_low = operands 0x54344 0x10008

has : {code : ℕ → ℕ} {name : LoongArch64Relocation} {o : Operands} {before : List ℕ} (after : List ℕ)
    → IsRelocated name o before after → Stands code o.place after → Has code name o before
has after applied stands = record { relocated = after; applied = applied; stands = stands }

-- ---- runs

starts : Agree (link code) all_same starting starting
starts =
    record {
      small = lit< tt;
      pc = refl;
      registers = λ r. refl;
      memory = λ a below. ap (λ n. n + 0) (by (a - 0));
      outside = refl;
    }
  where
    by : (a : ℕ) → starting.memory a ≡ starting.memory (moved a)
    by a = grind (arith, nat_tests)

old_end : IsSomeAnd (run 5 (machine code.processor (words old)) starting) (EndsAt 0x10014)
unfolding place_sum
old_end = (refl, refl, refl)

new_end : IsSomeAnd (run 3 (machine code.processor (words new)) starting) (EndsAt 0x1000c)
unfolding place_sum
new_end = (refl, refl, refl)

pub is_worked : Groups → IsWorked
is_worked g =
    runs (link code) starts
    (group 3 1 2 _ _ _ _ _ _
    (g.address code pair pair _ _ (0x04 ∷ 0x00 ∷ 0x00 ∷ 0x1a ∷ []) (0x84 ∷ 0x00 ∷ 0xc0 ∷ 0x02 ∷ [])
    (0x04 ∷ 0x00 ∷ 0x00 ∷ 0x18 ∷ [])
    (record {
      one_register = record {
        first = refl;
        into_own_source = record { same = refl; not_zero = λ e. omega arith };
        register = refl;
      };
      second_is = refl;
    })
    (record {
      small = small pair refl;
      fits = (omega (arith, ints), omega (arith, ints));
      high = has (0x64 ∷ 0x00 ∷ 0x00 ∷ 0x1a ∷ [])
          (applied (pos 0x3000) 0x1a000004 refl (refl, tt, λ e. refl) refl (lit< tt) tt refl refl) refl;
      low = has (0x84 ∷ 0x80 ∷ 0xc4 ∷ 0x02 ∷ [])
          (applied (pos 0x13120) 0x02c00084 refl (refl, tt, λ e. refl) refl (lit< tt) tt refl refl) refl;
    })
    refl (small pair refl) (has (0x04 ∷ 0x89 ∷ 0x01 ∷ 0x18 ∷ [])
    (applied (pos 0x3120) 0x18000004 refl (refl, tt, λ e. refl) refl (lit< tt) tt refl refl) refl)
    same (record { at = refl; place = refl; next = refl }) refl)
    (group 2 0 2 _ _ _ _ _ _
    (g.high_offsets (0x05 ∷ 0x00 ∷ 0x00 ∷ 0x14 ∷ []) refl code short _ _ (record { small = lit< tt; moved = refl })
    (small short refl) refl (omega (arith, ints), omega (arith, ints))
    (has (0x05 ∷ 0x00 ∷ 0x00 ∷ 0x14 ∷ [])
    (applied (pos 0x920) 0x14000005 refl (refl, tt, λ e. refl) refl (lit< tt) tt refl refl) refl))
    (group 1 1 1 _ _ _ _ _ _
    (g.high_halves high new_high (0x06 ∷ 0x00 ∷ 0x00 ∷ 0x1a ∷ []) (0x06 ∷ 0x00 ∷ 0x00 ∷ 0x14 ∷ [])
    (0x86 ∷ 0x0a ∷ 0x00 ∷ 0x14 ∷ []) refl refl
    (applied (pos 0x54344) 0x14000006 refl (refl, tt, λ e. refl) refl (lit< tt) tt refl refl) code 0 _ _
    (small high refl) (record { at = refl; place = refl; next = refl }) (refl, refl)
    (omega (arith, ints), omega (arith, ints)) (omega (arith, ints), omega (arith, ints))
    (has (0x46 ∷ 0x00 ∷ 0x00 ∷ 0x1a ∷ [])
    (applied (pos 0x2000) 0x1a000006 refl (refl, tt, λ e. refl) refl (lit< tt) tt refl refl) refl) refl)
    (group 0 1 0 _ _ _ _ _ _
    (g.low_halves low new_low (0xc7 ∷ 0x00 ∷ 0xc0 ∷ 0x28 ∷ []) (0xc7 ∷ 0x00 ∷ 0x80 ∷ 0x03 ∷ [])
    (0xc7 ∷ 0x10 ∷ 0x8d ∷ 0x03 ∷ []) refl refl
    (applied (pos 0x54344) 0x038000c7 refl (refl, tt, λ e. refl) refl (lit< tt) tt refl refl) code _ _
    (small low refl) (record { at = refl; place = refl; next = refl }) refl refl refl
    (λ t agree. eqb-true (t.registers 6) 0x54000 (and_parts true (t.registers 6 == 0x54000) (agree.registers 6)).1)
    (has (0xc7 ∷ 0x40 ∷ 0xc0 ∷ 0x28 ∷ [])
    (applied (pos 0x12010) 0x28c000c7 refl (refl, tt, λ e. refl) refl (lit< tt) tt refl refl) refl) refl)
    (ends _ _)))))
    refl (λ t. refl) old_end new_end
