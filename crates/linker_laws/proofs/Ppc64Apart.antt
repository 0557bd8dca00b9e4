-- PowerPC64: instructions that stand apart, each in two runs, and those of thread-local sequences.
use Rattle.linker_laws.proofs.Imports.{AreAddresses, D, Ds, IsRelocated, List, Operands, Ppc64Relocation, Some, addis_of_thread, ap, arith, cond-false, consecutive_bits_sum, eqb, ints, moved, ne_eqb, opcode_of, place_sum, pos, ppc64_form, ra_of, refl, replaced, rt_of, signed, sum_64, symbol_address, thread_offset, word_of, ℕ, ℤ, ◌%◌, ◌*ℤ◌, ◌*◌, ◌+ℤ◌, ◌+◌, ◌/◌, ◌<◌, ◌^◌, ◌∙◌, ◌≡◌, ◌≢◌}
use Rattle.linker_elf.specs.declared.ppc64.relocations.Ppc64Relocation.TheVariants as names
use Rattle.linker_laws.specs.Ppc64RelocationLaws as relocation_laws
use Rattle.linker_laws.specs.Ppc64Groups as groups
use Rattle.linker_laws.specs.Ppc64Machine.{State, Formats, base, step, go_on}
use Rattle.linker_laws.proofs.Ppc64Words.{HasParts, sum_from}
use Rattle.linker_laws.proofs.Sums.{sum_below, wrapped_is}

-- ---- what instructions do with an address

-- One does so, and goes on.
abbrev pub Does : Formats → (State → State) → ℕ → State → Type 0
Does f does x s = step f x s ≡ Some (go_on (does s))

pub base_some : (r : ℕ) (s : State) → r ≢ 0 → base r s ≡ s.registers r
base_some r s some = cond-false (eqb r 0) 0 (s.registers r) (ne_eqb r 0 some)

-- ---- high halves

-- a relocation that keeps what isn't the field of a D-form
abbrev pub Keeps : Ppc64Relocation → Type 0
Keeps name =
    (o : Operands) (before after : List ℕ) → IsRelocated name o before after
    → HasParts (opcode_of (word_of before)) (rt_of (word_of before)) (ra_of (word_of before)) (word_of after)

abbrev pub IsBase : ℕ → Type 0
IsBase r = (s : State) → base r s ≡ s.registers r

-- From what a relocated `addis` makes low halves lead to an address.
abbrev pub High : Ppc64Relocation → (Operands → ℕ → ℕ) → (Operands → ℕ → ℕ → Type 0) → Type 0
High name address Low =
    (o : Operands) → AreAddresses o → (n : ℕ) (addis after : List ℕ) → IsRelocated name o addis after
    → Low o (moved n ((ppc64_form D).machine (word_of after) *ℤ pos (2 ^ 16))) (address o n)

pub toc_leads : relocation_laws.TocAddresses
    → High names.R_PPC64_TOC16_HA groups.from_toc
    (λ o n a. groups.Leads names.R_PPC64_TOC16_LO D o n a × groups.Leads names.R_PPC64_TOC16_LO_DS Ds o n a)
toc_leads toc o small n addis after a = (
  λ there insn over l. sum_from o.got_base (symbol_address o) n _ _ small.got_base (sum_below o.symbol _)
      (toc.0 o small o.place addis after a tt there insn over l tt),
  λ there insn over l. sum_from o.got_base (symbol_address o) n _ _ small.got_base (sum_below o.symbol _)
      (toc.1 o small o.place addis after a tt there insn over l tt),
)

pub got_leads : relocation_laws.GotAddresses
    → High names.R_PPC64_GOT16_HA groups.entry_from_toc (groups.Leads names.R_PPC64_GOT16_LO_DS Ds)
got_leads got o small n addis after a there insn over l =
    sum_from o.got_base o.got_entry n _ _ small.got_base small.got_entry
    (got.0 o small o.place addis after a tt there insn over l tt)

pub offset_leads : relocation_laws.EntryAddresses
    → High names.R_PPC64_GOT_TPREL16_HA groups.entry_from_toc (groups.Leads names.R_PPC64_GOT_TPREL16_LO_DS Ds)
offset_leads entries o small n addis after a there insn over l =
    sum_from o.got_base o.got_entry n _ _ small.got_base small.got_entry
    (entries.0 o small o.place addis after a tt there insn over l tt)

pub general_leads : relocation_laws.EntryAddresses
    → High names.R_PPC64_GOT_TLSGD16_HA groups.entry_from_toc (groups.Leads names.R_PPC64_GOT_TLSGD16_LO D)
general_leads entries o small n addis after a there insn over l =
    sum_from o.got_base o.got_entry n _ _ small.got_base small.got_entry
    (entries.1 o small o.place addis after a tt there insn over l tt)

pub module_leads : relocation_laws.EntryAddresses
    → High names.R_PPC64_GOT_TLSLD16_HA groups.entry_from_toc (groups.Leads names.R_PPC64_GOT_TLSLD16_LO D)
module_leads entries o small n addis after a there insn over l =
    sum_from o.got_base o.got_entry n _ _ small.got_base small.got_entry
    (entries.2 o small o.place addis after a tt there insn over l tt)

-- ---- `addis rT,13`

-- the low halves lead to the variable from what it leaves
pub thread_halves : relocation_laws.ThreadAddresses → (o : Operands) → AreAddresses o → (n : ℕ) (addis after : List ℕ)
    → groups.IsRelocated names.R_PPC64_TPREL16_HA o addis after
    → groups.LowHalfLeads o (moved n ((ppc64_form D).machine (word_of after) *ℤ pos (2 ^ 16))) (sum_64 (thread_offset o) n)
thread_halves thread o small n addis after a = (
  λ there insn over d. sum_from o.tls_base (symbol_address o) n _ _ small.tls_base (sum_below o.symbol _)
      (thread.0 o small o.place addis after a tt there insn over d tt),
  λ there insn over d. sum_from o.tls_base (symbol_address o) n _ _ small.tls_base (sum_below o.symbol _)
      (thread.1 o small o.place addis after a tt there insn over d tt),
)

pub addis_13_parts : (r word : ℕ) → r < 32 → word ≡ addis_of_thread r → HasParts 15 r 13 word
addis_13_parts r word small is =
    record { opcode_is = omega arith; rt_is = omega arith; ra_is = omega arith }

-- ---- local-dynamic to local-exec

-- the immediate of `addis rT,13,0`
pub no_immediate : (r word : ℕ) → r < 32 → word ≡ addis_of_thread r → (ppc64_form D).machine word ≡ pos 0
no_immediate r word small is =
    let none : word / 2 ^ 0 % 2 ^ 16 * 2 ^ 0 ≡ 0 = omega arith in
    ap (signed 16) (consecutive_bits_sum replaced 16 0 0 0 word refl ∙ none)

pub nothing_added : (t : ℕ) (m : ℤ) → m ≡ pos 0 → moved t (m *ℤ pos (2 ^ 16)) ≡ sum_64 t 0
nothing_added t m none =
    ap (λ z. moved t (z *ℤ pos (2 ^ 16))) none ∙ wrapped_is (pos t +ℤ pos 0) 0 (t + 0) (omega (arith, ints))

pub adds_4096 : (n : ℕ) → moved n ((ppc64_form D).machine 0x38631000) ≡ sum_64 n 0x1000
unfolding place_sum
adds_4096 n = wrapped_is (pos n +ℤ pos 0x1000) 0 (n + 0x1000) (omega (arith, ints))
