-- The worked program of PowerPC64.
use Rattle.linker_laws.proofs.Imports.{Agree, D, Ds, Group, IsRelocated, IsSomeAnd, Kinds, List, LowHalfLeads, Operands, Ppc64Relocation, State, [], all_same, and_parts, anything, ap, ends, entry_from_toc, eqb-true, false, from_thread, from_toc, group, half, is_add_of_thread, is_addi, lit<, loaded, of_link, place_sum, pos, put, refl, run, same, subst, sym, true, with_register, word_of, words, ℕ, ◌==◌, ◌∷◌, ◌≡◌}
use Rattle.linker_elf.specs.declared.ppc64.relocations.Ppc64Relocation.TheVariants as names
use Rattle.linker_laws.specs.Ppc64Groups.{Groups, Leaves, Low, NewLeads, execute, high_part, instruction_at, link, machine, used, Has, adds}
use Rattle.linker_laws.specs.Ppc64GroupsWorked.{IsWorked, code, new, old, starting}
use Rattle.linker_utils.specs.declared.ppc64.rewrites.RewriteKind.TheVariants as kinds
use Rattle.linker_laws.proofs.Relocated.{applied, small}
use Rattle.linker_laws.proofs.Ppc64Groups.{sum_keeps}

-- ---- operands

abbrev operands : ℕ → Operands
operands symbol =
    record {
      symbol = symbol;
      addend = pos 0;
      place = 0x10000;
      got_entry = 0x20010;
      got_base = 0x20000;
      plt_entry = 0;
      symbol_size = 0;
      tls_base = 0;
      has_got_entry = true;
      has_plt_entry = false;
      has_tls_base = true;
    }

abbrev near : Operands
near = operands 0x20120

abbrev variable : Operands
variable = operands 0x54344

-- ---- bytes

abbrev addis : List ℕ
addis = 0x00 ∷ 0x00 ∷ 0x62 ∷ 0x3c ∷ []

abbrev addi : List ℕ
addi = 0x00 ∷ 0x00 ∷ 0x63 ∷ 0x38 ∷ []

abbrev over : List ℕ
over = 0x00 ∷ 0x00 ∷ 0x62 ∷ 0x38 ∷ []

abbrev high : List ℕ
high = 0x00 ∷ 0x00 ∷ 0x82 ∷ 0x3c ∷ []

abbrev load : List ℕ
load = 0x00 ∷ 0x00 ∷ 0x84 ∷ 0xe8 ∷ []

abbrev load_of : List ℕ
load_of = 0x10 ∷ 0x00 ∷ 0x84 ∷ 0xe8 ∷ []

abbrev high_13 : List ℕ
high_13 = 0x00 ∷ 0x00 ∷ 0x8d ∷ 0x3c ∷ []

abbrev high_13_of : List ℕ
high_13_of = 0x05 ∷ 0x00 ∷ 0x8d ∷ 0x3c ∷ []

abbrev add : List ℕ
add = 0x14 ∷ 0x6a ∷ 0xa4 ∷ 0x7c ∷ []

abbrev direct : List ℕ
direct = 0x00 ∷ 0x00 ∷ 0xa4 ∷ 0x38 ∷ []

abbrev nop : List ℕ
nop = 0x00 ∷ 0x00 ∷ 0x00 ∷ 0x60 ∷ []

abbrev has : {code : ℕ → ℕ} {at : ℕ} {name : Ppc64Relocation} {o : Operands} {before : List ℕ} (after : List ℕ)
    → IsRelocated name o before after → loaded 4 code at ≡ word_of after → Has 1 code at name o before
has after applied stands = record { relocated = after; applied = applied; stands = (stands, tt) }

-- ---- runs

starts : Agree (link code) all_same starting starting
starts =
    record {
      small = lit< tt;
      pc = refl;
      registers = λ r. refl;
      memory = λ a below. refl;
      outside = refl;
    }

abbrev s1 : State
s1 = put 3 (high_part addis starting) 0x10004 starting

abbrev s2 : State
s2 = used code.processor (adds is_addi) 0x38630000 0x20120 s1

abbrev s3 : State
s3 = put 4 (high_part high s2) 0x1000c s2

abbrev s4 : State
s4 = put 4 0x54344 0x10010 s3

abbrev s5 : State
s5 = used code.processor (adds is_add_of_thread) 0x7ca46a14 0x54351 s4

abbrev k1 : Kinds
k1 = with_register 3 anything all_same

abbrev k2 : Kinds
k2 = with_register 3 same k1

abbrev k3 : Kinds
k3 = with_register 4 anything k2

abbrev k4 : Kinds
k4 = with_register 4 (half 0) k3

abbrev k5 : Kinds
k5 = with_register 5 same k4

made_high : 0x5000d ≡ high_part high_13_of s3
unfolding place_sum
made_high = refl

old_end : IsSomeAnd (run 5 (machine code.processor (words old)) starting)
    (λ s. (s.pc ≡ 0x10014) × (s.registers 3 ≡ 0x20120) × (s.registers 5 ≡ 0x54351))
unfolding place_sum
old_end = (refl, refl, refl)

new_end : IsSomeAnd (run 5 (machine code.processor (words new)) starting)
    (λ s. (s.pc ≡ 0x10014) × (s.registers 3 ≡ 0x20120) × (s.registers 5 ≡ 0x54351))
unfolding place_sum
new_end = (refl, refl, refl)

module _ (g : Groups) where
  -- near the TOC pointer
  toc : (Low names.R_PPC64_TOC16_LO D from_toc near (high_part addis starting) (starting.registers 2)
      × Low names.R_PPC64_TOC16_LO_DS Ds from_toc near (high_part addis starting) (starting.registers 2))
      × Leaves 4 code all_same starting 3 anything (high_part addis starting)
  toc =
      g.rewrites names.R_PPC64_TOC16_HA kinds.AddisToNop addis nop refl refl code near all_same starting (small near refl)
      (has addis (applied (pos 0x8120) 0x3c620000 refl (refl, tt, λ e. refl) refl (lit< tt) tt refl refl) refl) (refl, tt)

  p2 : Group (of_link (link code)) 1 k1 s1 k2 s2
  p2 =
      (g.rewrites names.R_PPC64_TOC16_LO kinds.BaseToToc addi over refl).0 code near k1 s1 (small near refl) refl refl (toc.0).0
      (has (0x20 ∷ 0x01 ∷ 0x63 ∷ 0x38 ∷ []) (applied (pos 0x120) 0x38630000 refl (refl, tt, λ e. refl) refl (lit< tt) tt refl refl) refl)
      (has (0x20 ∷ 0x01 ∷ 0x62 ∷ 0x38 ∷ []) (applied (pos 0x120) 0x38620000 refl (refl, tt, λ e. refl) refl (lit< tt) tt refl refl) refl) k2
      (λ t agree. sum_keeps code k1 s1 t is_addi 0x38630000 0x20120 agree)

  -- of initial-exec
  entry : Low names.R_PPC64_GOT_TPREL16_LO_DS Ds entry_from_toc variable (high_part high s2) (s2.registers 2)
      × Leaves 4 code k2 s2 4 anything (high_part high s2)
  entry =
      g.rewrites names.R_PPC64_GOT_TPREL16_HA kinds.AddisToNop high nop refl refl code variable k2 s2 (small variable refl)
      (has high (applied (pos 0x8010) 0x3c820000 refl (refl, tt, λ e. refl) refl (lit< tt) tt refl refl) refl) (refl, tt)

  offset : LowHalfLeads variable (code.new_half 0) (from_thread variable (s3.registers 13))
      × Leaves 4 code k3 s3 4 (half 0) 0x54344
  offset =
      g.rewrites names.R_PPC64_GOT_TPREL16_LO_DS kinds.LdToAddisThread load high_13 refl refl code variable k3 s3 (small variable refl)
      (record { at = 0x20010; leads = entry.0; holds = refl })
      (has load_of (applied (pos 0x10) 0xe8840000 refl (refl, (λ e. refl), λ e. refl) refl (lit< tt) tt refl refl) refl) 0 refl
      (has high_13_of (applied (pos 0x5c344) 0x3c8d0000 refl (refl, tt, λ e. refl) refl (lit< tt) tt refl refl) refl) (refl, made_high)

  leads : NewLeads code variable k4 s4 4
  leads t agree =
      subst (λ n. LowHalfLeads variable n (from_thread variable 13))
      (sym (eqb-true (t.registers 4) 0x5000d (and_parts true (t.registers 4 == 0x5000d) (agree.registers 4)).1)) offset.0

  p5 : Group (of_link (link code)) 1 k4 s4 k5 s5
  p5 =
      g.rewrites names.R_PPC64_TLS kinds.AddToAddi add direct refl refl code variable k4 s4 refl leads (refl, tt)
      (has (0x44 ∷ 0x43 ∷ 0xa4 ∷ 0x38 ∷ []) (applied (pos 0x54344) 0x38a40000 refl (refl, tt, λ e. refl) refl (lit< tt) tt refl refl) refl) k5
      (λ t agree. sum_keeps code k4 s4 t is_add_of_thread 0x7ca46a14 0x54351 agree)

  pub is_worked : IsWorked
  is_worked =
      record {
        kinds = k5;
        state = s5;
        agree = starts;
        covered =
            group 4 1 4 _ _ _ _ _ _ toc.1 (group 3 1 3 _ _ _ _ _ _ p2 (group 2 1 2 _ _ _ _ _ _ entry.1
            (group 1 1 1 _ _ _ _ _ _ offset.1 (group 0 1 0 _ _ _ _ _ _ p5 (ends k5 s5)))));
        stops = record {
          old_stops = refl;
          new_stops = λ t agree. ap (λ a. execute code.processor (instruction_at (words new) a) t) agree.pc;
        };
        old_ends = old_end;
        new_ends = new_end;
      }
