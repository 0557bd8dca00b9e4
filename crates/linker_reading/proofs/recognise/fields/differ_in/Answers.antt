use Rattle.linker_reading.proofs.Imports.{IsTrue, ap, arith, bit_and, bit_at, bit_not, bit_xor, eq-eqb, eqb-true, false, is_in, is_in_one, nat_eq, sym, take_all, w64, ℕ, ◌%◌, ◌*◌, ◌+◌, ◌-◌, ◌/◌, ◌<◌, ◌==◌, ◌||◌, ◌∙◌, ◌≡◌}
use Rattle.linker_reading.proofs.Masked.{one_more, none_apart, all_same}
use Rattle.linker_reading.proofs.recognise.fields.differ_in.Goals as goal

pub loop-other-preserved : goal.loop-other-preserved
loop-other-preserved c i j h k =
    one_more (is_in c.args.field.now (c.args.byte + i) j) c.args.others.now c.loop-other.other-index (record { offset = 0; bits = 0 }) (c.args.byte + i) j (8 * i + j)
    c.loop-other.ignored c.from_byte-ignored-in-loop-other.result c.loop-other-test.true (c.loop-other.invariant i j h k) (c.from_byte-ignored-in-loop-other.ensures i j h k)

pub returns : goal.returns
returns c = (
  (λ t i j h k is. none_apart c.args.a c.args.b c.loop-other.ignored c.ranges.a.fits c.ranges.b.fits c.loop-other.auto.ignored-fits.fits (number t) (8 * i + j)
      (omega (arith, h, k)) (is_ignored i j (omega (arith, h)) k ∙ is)),
  (λ same. eq-eqb _ 0 (of_number (all_same c.args.a c.args.b c.loop-other.ignored c.ranges.a.fits c.ranges.b.fits c.loop-other.auto.ignored-fits.fits
      (λ w h is. at w h is (same (w / 8) (w % 8) (omega (arith, h)) (omega arith)))))),
)
  where
    is_ignored : (i j : ℕ) → i < 8 → j < 8
        → (bit_at c.loop-other.ignored (8 * i + j) == 1) ≡ (is_in c.args.field.now (c.args.byte + i) j || is_in_one c.args.others.now (c.args.byte + i) j)
    is_ignored i j h k = c.loop-other.invariant i j h k
        ∙ ap (λ fields. is_in c.args.field.now (c.args.byte + i) j || is_in_one fields (c.args.byte + i) j) (take_all c.loop-other.other-index c.args.others.now c.loop-other-test.false)

    split : (w : ℕ) → 8 * (w / 8) + w % 8 ≡ w
    split w = omega arith

    at : (w : ℕ) → w < 32 → (bit_at c.loop-other.ignored w == 1) ≡ false
        → ((is_in c.args.field.now (c.args.byte + w / 8) (w % 8) || is_in_one c.args.others.now (c.args.byte + w / 8) (w % 8)) ≡ false
        → bit_at c.args.a (8 * (w / 8) + w % 8) ≡ bit_at c.args.b (8 * (w / 8) + w % 8))
        → bit_at c.args.a w ≡ bit_at c.args.b w
    at w h is same = ap (bit_at c.args.a) (sym (split w))
        ∙ same (sym (is_ignored (w / 8) (w % 8) (omega (arith, h)) (omega arith)) ∙ ap (λ n. bit_at c.loop-other.ignored n == 1) (split w) ∙ is)
        ∙ ap (bit_at c.args.b) (split w)

    number : IsTrue (nat_eq (bit_and c.from.result (18446744073709551615 - c.loop-other.ignored)) 0) → bit_and (bit_xor c.args.a c.args.b) (bit_not w64 c.loop-other.ignored) ≡ 0
    number t = ap (λ n. bit_and n (bit_not w64 c.loop-other.ignored)) (sym c.from.ensures) ∙ eqb-true (bit_and c.from.result (18446744073709551615 - c.loop-other.ignored)) 0 t

    of_number : bit_and (bit_xor c.args.a c.args.b) (bit_not w64 c.loop-other.ignored) ≡ 0 → bit_and c.from.result (18446744073709551615 - c.loop-other.ignored) ≡ 0
    of_number e = ap (λ n. bit_and n (bit_not w64 c.loop-other.ignored)) c.from.ensures ∙ e
