-- PowerPC64: addresses from the TOC pointer.
use Rattle.linker_laws.proofs.Imports.{Ds, and_parts, ap, cond, eqb-true, false≢true, field, is_add_of_thread, is_ld, is_over_thread, not, opcode_of, ppc64_form, ppc64_reads, ra_of, rb_of, refl, rt_of, sym, true, ℕ, ◌%◌, ◌&&◌, ◌-◌, ◌==◌, ◌||◌, ◌∙◌, ◌≡◌, ◌≢◌}
use Rattle.linker_laws.proofs.Ppc64Words.{HasParts}

pub some_of : (n : ℕ) → not (n == 0) ≡ true → n ≢ 0
some_of n h e = false≢true (sym (ap (λ k. not (k == 0)) e) ∙ h)

pub record IsLd (x : ℕ) : Type 0 where
  pub parts : HasParts 58 (rt_of x) (ra_of x) x
  pub low : field x 0 2 ≡ 0
  pub over_some : ra_of x ≢ 0

pub ld_parts : (x : ℕ) → is_ld x ≡ true → IsLd x
ld_parts x h =
    let first = and_parts (opcode_of x == 58 && field x 0 2 == 0) (not (ra_of x == 0)) h in
    let second = and_parts (opcode_of x == 58) (field x 0 2 == 0) first.0 in
    record {
      parts = record { opcode_is = eqb-true _ _ second.0; rt_is = refl; ra_is = refl };
      low = eqb-true _ _ second.1;
      over_some = some_of (ra_of x) first.1;
    }

pub record IsAdd (x : ℕ) : Type 0 where
  pub opcode_is : opcode_of x ≡ 31
  pub rb_is : rb_of x ≡ 13
  pub low : field x 0 11 ≡ 0x214
  pub over_some : ra_of x ≢ 0

pub add_parts : (x : ℕ) → is_add_of_thread x ≡ true → IsAdd x
add_parts x h =
    let first = and_parts (is_over_thread x) (field x 0 11 == 0x214) h in
    let second = and_parts (opcode_of x == 31 && field x 11 16 == 13) (not (ra_of x == 0)) first.0 in
    let third = and_parts (opcode_of x == 31) (field x 11 16 == 13) second.0 in
    record {
      opcode_is = eqb-true _ _ third.0;
      rb_is = eqb-true _ _ third.1;
      low = eqb-true _ _ first.1;
      over_some = some_of (ra_of x) second.1;
    }

-- parts of a word that another one has
pub same_parts : {op rt ra op2 rt2 ra2 word : ℕ} → op ≡ op2 → rt ≡ rt2 → ra ≡ ra2
    → HasParts op rt ra word → HasParts op2 rt2 ra2 word
same_parts p q r is =
    record { opcode_is = is.opcode_is ∙ p; rt_is = is.rt_is ∙ q; ra_is = is.ra_is ∙ r }

-- `ld` isn't of DQ-form
pub reads_ds : (x : ℕ) → opcode_of x ≡ 58 → ppc64_reads Ds x ≡ (ppc64_form Ds).machine x
reads_ds x op =
    ap (λ n. cond (n == 56 || (n == 6 || n == 61 && field x 0 2 == 1))
    ((ppc64_form Ds).machine (x - x % 16)) ((ppc64_form Ds).machine x)) op
