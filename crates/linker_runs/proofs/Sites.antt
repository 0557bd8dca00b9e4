-- Relocations of instructions: what they keep, where their operands are, and which are in reach.
use Rattle.linker_runs.proofs.Imports.{AreAddresses, Bool, Form, IsInReach, IsOutOfReach, IsSomeAnd, None, Option, Some, Template, Written, agree_below, agree_below_at, ap, arith, bit_at, false, field, ints, is_placed, operands_of, pos, true, ℕ, ℤ, ◌*ℤ◌, ◌+ℤ◌, ◌+◌, ◌-◌, ◌<◌, ◌^◌, ◌∙◌, ◌≡◌}
use Rattle.linker_base.proofs.Fields.{same_fields}

-- ---- what a write keeps

-- of a window, of which places are cleared first
module _ (form : Form) (v : ℕ) (neg : Bool) (before clear after : ℕ)
    (clears : (i : ℕ) → bit_at clear i ≡ bit_at before i)
    (written : Written form v neg clear after)
    (same : form.base neg clear ≡ clear) where
  kept_bit : (i : ℕ) → is_placed (form.places clear) i ≡ false → bit_at after i ≡ bit_at before i
  kept_bit i outside = written.kept i outside ∙ ap (λ x. bit_at x i) same ∙ clears i

  -- n bits from bit s up, of which none is placed
  pub kept_field : (s n : ℕ)
      → agree_below (λ i. is_placed (form.places clear) (s + i)) (λ _. false) n ≡ true
      → field after s (s + n) ≡ field before s (s + n)
  kept_field s n outside =
      same_fields after before s (s + n)
      (λ i from below. kept_bit i
      (ap (is_placed (form.places clear)) (let e : i ≡ s + (i - s) = omega arith in e)
      ∙ agree_below_at (λ j. is_placed (form.places clear) (s + j)) (λ _. false) n
      (i - s) outside (omega arith)))

-- ---- addresses

pub operands_small : (place target : ℕ) → place < 2 ^ 64 → target < 2 ^ 64 → AreAddresses (operands_of place target)
operands_small place target p t = record { symbol = t; place = p; got_entry = omega arith; got_base = omega arith; plt_entry = t; tls_base = omega arith }

pub unit_sum : (a b : ℤ) → a +ℤ (b *ℤ pos 1) ≡ a +ℤ b
unit_sum a b = omega (arith, ints)

-- ---- reach

pub both_some : {T : Type 0} (o : Option T) (P Q : T → Type 0) → IsSomeAnd o P → IsSomeAnd o Q → ((x : T) → P x → Q x → ⊥) → ⊥
both_some None P Q p q h = p
both_some (Some x) P Q p q h = h x p q

pub in_reach : (template : Template) (place target : ℕ) → IsInReach template place target → IsOutOfReach template place target → ⊥
in_reach template place target a b = both_some template.row _ _ a b (λ row p q. q p.1.value p.1.value_is p.1.accepted)
