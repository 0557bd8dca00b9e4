-- Pairs of LoongArch's instructions, and `pcaddi`.
use Rattle.linker_laws.proofs.Imports.{AbsoluteLowPart, BitMasking, InstructionWritten, IsAddress, IsWritten, List, LoongArch64, Operands, Shift10, Shift5, Some, [], ap, arith, cases_lt, cast_negative, cast_signed, eqb, false, field, inl, inr, ints, is_jirl, loaded, loongarch_form, pcalau12i, plain_written, pos, refl, signed, subst, to_z_pos, w64, word_of, wrapped, ℕ, ℤ, ◌*ℤ◌, ◌+ℤ◌, ◌+◌, ◌/◌, ◌<ℤ◌, ◌<◌, ◌^◌, ◌∙◌, ◌∷◌, ◌≡◌, ◌≢◌, ◌≤ℤ◌}
use Rattle.linker_utils.specs.LoongArchRewrites.{rj_of, rd_of}
use Rattle.linker_utils.specs.declared.loongarch64.rewrites.RewriteKind.TheVariants as kinds
use Rattle.linker_laws.specs.LoongArchGroups as laws
use Rattle.linker_laws.specs.LoongArchMachine.{State, step, run, page_address, near_address, sum_of}
use Rattle.linker_laws.proofs.AArch64Pairs.{word_made}
use Rattle.linker_laws.proofs.AArch64Steps.{address_is}
use Rattle.linker_laws.proofs.LoongArchSteps.{set, step_page, step_near, step_sum, step_load, loaded_of, sum_is}
use Rattle.linker_laws.proofs.LoongArchWords.{decodes_page, decodes_near, decodes_sum, decodes_load, IsHigh, IsLow}

-- ---- `pcalau12i` and what adds the low part

-- `pcalau12i rd` and `ld.d rd, rd` leave a value in register n.
pub record Loads (n x y value : ℕ) (s : State) : Type 0 where
  pub first : step x s ≡ Some (set n (page_address x s) s)
  pub second : step y (set n (page_address x s) s) ≡ Some (set n (loaded_of y (set n (page_address x s) s)) (set n (page_address x s) s))
  pub value_is : loaded_of y (set n (page_address x s) s) ≡ value

low_sum : (o : Operands) (n x y target : ℕ) (s : State) → rj_of y ≡ n → n ≢ 0 → s.pc ≡ o.place
    → IsAddress (pcalau12i o.place x +ℤ signed 12 (field y 10 22)) target
    → sum_of y (set n (page_address x s) s) ≡ target
low_sum o n x y target s rj named at leads =
    sum_is y n (pcalau12i s.pc x) s rj named
    ∙ ap (λ p. wrapped (pcalau12i p x +ℤ signed 12 (field y 10 22))) at
    ∙ address_is _ _ leads

pub loads : (o : Operands) (n x y entry : ℕ) (s : State) → IsHigh 0x0d n x → IsLow 0x0a3 n n y → n ≢ 0 → s.pc ≡ o.place
    → IsAddress (pcalau12i o.place x +ℤ signed 12 (field y 10 22)) entry → Loads n x y (loaded 8 s.memory entry) s
loads o n x y entry s first second named at leads =
    let t = set n (page_address x s) s in
    record {
      first = step_page x n s (decodes_page x first.opcode) first.rd_is named;
      second = step_load y n t (decodes_load y second.opcode) second.rd_is named;
      value_is = ap (loaded 8 s.memory) (low_sum o n x y entry s second.rj_is named at leads);
    }

-- `pcalau12i rd` and `addi.d rd, rd`
pub record Adds (n x y value : ℕ) (s : State) : Type 0 where
  pub first : step x s ≡ Some (set n (page_address x s) s)
  pub second : step y (set n (page_address x s) s) ≡ Some (set n (sum_of y (set n (page_address x s) s)) (set n (page_address x s) s))
  pub value_is : sum_of y (set n (page_address x s) s) ≡ value

pub adds : (o : Operands) (n x y target : ℕ) (s : State) → IsHigh 0x0d n x → IsLow 0x00b n n y → n ≢ 0 → s.pc ≡ o.place
    → IsAddress (pcalau12i o.place x +ℤ signed 12 (field y 10 22)) target → Adds n x y target s
adds o n x y target s first second named at leads =
    let t = set n (page_address x s) s in
    record {
      first = step_page x n s (decodes_page x first.opcode) first.rd_is named;
      second = step_sum y n t (decodes_sum y second.opcode) second.rd_is named;
      value_is = low_sum o n x y target s second.rj_is named at leads;
    }

-- `addi.d` is no `jirl`, and gets the 12 bits
pub no_jirl : (word : ℕ) → word / 2 ^ 22 ≡ 0x00b → is_jirl word ≡ false
no_jirl word op = let opcode : field word 26 32 ≡ 0 = omega arith in ap (λ q. eqb q 19) opcode

pub low_written : (v : ℤ) (before after : List ℕ) → word_of before / 2 ^ 22 ≡ 0x00b
    → IsWritten (BitMasking (record { start = 0; end = 12 }) (LoongArch64 Shift10)) AbsoluteLowPart v before after
    → InstructionWritten (LoongArch64 Shift10) (record { start = 0; end = 12 }) v before after
low_written v before after op w =
    plain_written (LoongArch64 Shift10) AbsoluteLowPart (record { start = 0; end = 12 }) v before after refl
    (no_jirl (word_of before) op) w

-- a number that is from 0 up and below 4096 in two's complement too
pub small_number : (n : ℕ) → n < 2 ^ 64 → (pos 0 ≤ℤ cast_signed w64 n) × (cast_signed w64 n <ℤ pos (2 ^ 12)) → n < 2 ^ 12
small_number n wide h =
    elim (cases_lt n (2 ^ 63)) [
      | inl low ↦ let g = subst (λ z. z <ℤ pos (2 ^ 12)) (to_z_pos w64 n low) h.1 in omega (arith, ints)
      | inr up ↦ let g = subst (λ z. pos 0 ≤ℤ z) (cast_negative n wide up) h.0 in absurd (omega (arith, ints))
    ]

-- ---- by `pcaddi`

-- what `pcaddi` leaves, in the new layout
pub record Nears (n x value : ℕ) (t : State) : Type 0 where
  pub only : run (x ∷ []) t ≡ Some (set n (near_address x t) t)
  pub value_is : near_address x t ≡ value

pub nears : (y : Operands) (n x target : ℕ) (t : State) → IsHigh 0x0c n x → n ≢ 0 → t.pc ≡ y.place
    → IsAddress (pos y.place +ℤ ((loongarch_form Shift5).machine x *ℤ pos 4)) target → Nears n x target t
nears y n x target t is named at leads =
    record {
      only = step_near x n t (decodes_near x is.opcode) is.rd_is named;
      value_is = ap (λ p. wrapped (pos p +ℤ ((loongarch_form Shift5).machine x *ℤ pos 4))) at ∙ address_is _ _ leads;
    }

-- what the `pcaddi` is that a `pcalau12i` becomes
pub record IsPcaddi (n : ℕ) (word : ℕ) : Type 0 where
  pub opcode : word / 2 ^ 25 ≡ 0x0c
  pub rd_is : rd_of word ≡ n

pub pcaddi_of : (pcala pcaddi : List ℕ) → laws.IsRewritten kinds.PcalaToPcaddi pcala pcaddi → IsPcaddi (rd_of (word_of pcala)) (word_of pcaddi)
pcaddi_of pcala pcaddi made =
    let word = word_made (λ w. 0x18000000 + rd_of w) pcala pcaddi (omega arith) made in
    record { opcode = omega arith; rd_is = omega arith }
