-- What relocated fields come to, as numbers modulo 2 ^ 64.
use Rattle.linker_laws.proofs.Imports.{AreAddresses, IsAddress, IsApplied, List, Operands, RelocationKind, RowInfo, Some, ap, arith, cast_rem, cast_signed, entry_and_addend, extended, inl, inr, int_rem_euclid, ints, number_of_bytes, pos, reach_of, reaches, refl, signed, signed_cases, sum_64, sym, symbol_address, true, twos_complement, unsigned, unsigned_abs, value_of, w64, ℕ, ℤ, ◌%◌, ◌*ℤ◌, ◌*◌, ◌+ℤ◌, ◌+◌, ◌-◌, ◌^◌, ◌∙◌, ◌≡◌}
use Rattle.linker_elf.specs.Rows.{bytes_row, signed_row, unsigned_row}
use Rattle.linker_elf.specs.declared.elf.RelocationKind.TheVariants as values
use Rattle.linker_laws.proofs.Fields.{IsValue, field_adds, whole_field_adds}
use Rattle.linker_laws.proofs.Instructions.{IsNumber, symbol_from_place, symbol_from_tls, symbol_itself, entry_and_addend_from_place}
use Rattle.linker_laws.proofs.Sums.{lifted_is}

-- 32 bits in two's complement are some number, less 2 ^ 64
record IsLifted (f : ℕ) : Type 0 where
  pub number : ℕ
  pub is : signed 32 f +ℤ pos (2 ^ 64) ≡ pos number
  pub low : number % 2 ^ 32 ≡ f % 2 ^ 32

lifted : (f : ℕ) → IsLifted f
lifted f =
    elim (signed_cases 32 f) [
      | inl a ↦
          let is = a.1 in
          record {
            number = f + 2 ^ 64;
            is = ap (λ z. z +ℤ pos (2 ^ 64)) a.1 ∙ omega (arith, ints);
            low = omega arith;
          }
      | inr a ↦
          let high = a.0 in
          record {
            number = f + (2 ^ 64 - 2 ^ 32);
            is = ap (λ z. z +ℤ pos (2 ^ 64)) a.1 ∙ omega (arith, ints);
            low = omega arith;
          }
    ]

-- an address as the machine computes it
pub computed : (p f t : ℕ) → IsAddress (pos p +ℤ (signed 32 f *ℤ pos 1)) t
    → sum_64 p (extended f) ≡ t
computed p f t h =
    let l = lifted f in
    let is = l.is in
    let there : (p + l.number) % 2 ^ 64 ≡ t =
    ap unsigned_abs (sym (lifted_is (pos p +ℤ (signed 32 f *ℤ pos 1)) 1 (p + l.number)
    (added (signed 32 f) p l.number l.is)) ∙ h) in
    let rem = cast_rem (signed 32 f) l.number l.is in
    omega arith
  where
    added : (z : ℤ) (p n : ℕ) → z +ℤ pos (2 ^ 64) ≡ pos n
        → (pos p +ℤ (z *ℤ pos 1)) +ℤ pos (1 * 2 ^ 64) ≡ pos (p + n)
    added z p n e = omega (arith, ints)

-- sign-extended, the low 32 bits are the same
pub extended_low : (f : ℕ) → extended f % 2 ^ 32 ≡ f % 2 ^ 32
extended_low f =
    let l = lifted f in
    let low = l.low in
    let rem = cast_rem (signed 32 f) l.number l.is in
    omega arith

-- the same of a number that isn't sign-extended
number_is : (p f t : ℕ) → IsAddress (pos p +ℤ (pos f *ℤ pos 1)) t → sum_64 p f ≡ t
number_is p f t h =
    ap unsigned_abs (ap (λ z. int_rem_euclid z (pos (2 ^ 64)))
    (let e : pos (p + f) ≡ pos p +ℤ (pos f *ℤ pos 1) = omega (arith, ints) in e) ∙ h)

from_zero : (f : ℕ) → f % 2 ^ 64 ≡ sum_64 0 f
from_zero f = omega arith

-- ---- fields

-- the rows of GOTPCRELX, GOTTPOFF, TLSGD, TLSLD, GOTPC32_TLSDESC, PC32, TPOFF32, DTPOFF32, TPOFF64,
-- DTPOFF64, 32S and 32
abbrev pub got_row : RowInfo
got_row = signed_row 32 (bytes_row values.GotRelative 4)

abbrev pub tls_got_row : RowInfo
tls_got_row = signed_row 32 (bytes_row values.GotTpOff 4)

abbrev pub tls_pair_row : RowInfo
tls_pair_row = signed_row 32 (bytes_row values.TlsGd 4)

abbrev pub tls_module_row : RowInfo
tls_module_row = signed_row 32 (bytes_row values.TlsLd 4)

abbrev pub descriptor_row : RowInfo
descriptor_row = signed_row 32 (bytes_row values.TlsDesc 4)

abbrev pub place_row : RowInfo
place_row = signed_row 32 (bytes_row values.Relative 4)

abbrev pub thread_row : RowInfo
thread_row = signed_row 32 (bytes_row values.TpOff 4)

abbrev pub block_row : RowInfo
block_row = signed_row 32 (bytes_row values.DtpOff 4)

abbrev pub long_thread_row : RowInfo
long_thread_row = bytes_row values.TpOff 8

abbrev pub long_block_row : RowInfo
long_block_row = bytes_row values.DtpOff 8

abbrev pub signed_immediate : RowInfo
signed_immediate = signed_row 32 (bytes_row values.Absolute 4)

abbrev pub unsigned_immediate : RowInfo
unsigned_immediate = unsigned_row 32 (bytes_row values.Absolute 4)

module _ (o : Operands) (addresses : AreAddresses o) (before after : List ℕ) where
  abbrev Leads : RowInfo → ℕ → ℕ → Type 0
  Leads row begin target =
      IsApplied row o before after → sum_64 begin (extended (number_of_bytes 4 after)) ≡ target

  -- 4 bytes in two's complement, by their formula
  leads : {begin target number : Operands → ℕ} → IsNumber begin target number → (kind : RelocationKind)
      → IsValue kind → {b : ℤ × ℤ} → reach_of (signed_row 32 (bytes_row kind 4)) ≡ Some b
      → reaches twos_complement 32 0 32 (Some b) ≡ true
      → ((o : Operands) → value_of (signed_row 32 (bytes_row kind 4)) o ≡ Some (cast_signed w64 (number o)))
      → Leads (signed_row 32 (bytes_row kind 4)) (begin o) (target o)
  leads {begin} {target} formula kind whole within reads is applied =
      computed (begin o) (number_of_bytes 4 after) (target o)
      (field_adds formula twos_complement whole within reads is o addresses 0 before after applied tt)

  pub entry_field : Leads got_row o.place (entry_and_addend o)
  entry_field = leads entry_and_addend_from_place values.GotRelative (λ v old. refl) refl refl (λ o. refl)

  pub tls_entry_field : Leads tls_got_row o.place (entry_and_addend o)
  tls_entry_field = leads entry_and_addend_from_place values.GotTpOff (λ v old. refl) refl refl (λ o. refl)

  pub tls_pair_field : Leads tls_pair_row o.place (entry_and_addend o)
  tls_pair_field = leads entry_and_addend_from_place values.TlsGd (λ v old. refl) refl refl (λ o. refl)

  pub tls_module_field : Leads tls_module_row o.place (entry_and_addend o)
  tls_module_field = leads entry_and_addend_from_place values.TlsLd (λ v old. refl) refl refl (λ o. refl)

  pub descriptor_field : Leads descriptor_row o.place (entry_and_addend o)
  descriptor_field = leads entry_and_addend_from_place values.TlsDesc (λ v old. refl) refl refl (λ o. refl)

  pub place_field : Leads place_row o.place (symbol_address o)
  place_field = leads symbol_from_place values.Relative (λ v old. refl) refl refl (λ o. refl)

  pub thread_field : Leads thread_row o.tls_base (symbol_address o)
  thread_field = leads symbol_from_tls values.TpOff (λ v old. refl) refl refl (λ o. refl)

  pub block_field : Leads block_row o.tls_base (symbol_address o)
  block_field = leads symbol_from_tls values.DtpOff (λ v old. refl) refl refl (λ o. refl)

  pub signed_field : Leads signed_immediate 0 (symbol_address o)
  signed_field = leads symbol_itself values.Absolute (λ v old. refl) refl refl (λ o. refl)

  abbrev LongLeads : RowInfo → Type 0
  LongLeads row = IsApplied row o before after → sum_64 o.tls_base (number_of_bytes 8 after) ≡ symbol_address o

  pub long_thread_field : LongLeads long_thread_row
  long_thread_field applied =
      number_is o.tls_base _ _ (whole_field_adds symbol_from_tls (λ v old. refl) (λ o. refl) o addresses 0 before after applied tt)

  pub long_block_field : LongLeads long_block_row
  long_block_field applied =
      number_is o.tls_base _ _ (whole_field_adds symbol_from_tls (λ v old. refl) (λ o. refl) o addresses 0 before after applied tt)

  pub unsigned_field : IsApplied unsigned_immediate o before after → number_of_bytes 4 after % 2 ^ 64 ≡ symbol_address o
  unsigned_field applied =
      from_zero (number_of_bytes 4 after)
      ∙ number_is 0 _ _ (field_adds symbol_itself unsigned (λ v old. refl) refl refl (λ o. refl) o addresses 0 before after applied tt)
