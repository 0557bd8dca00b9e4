-- The bits of kept facts tell the facts.
use Rattle.linker_rewriting.proofs.Imports.{Addresses, Bool, KeptFactsTell, OutputFacts, Phase, Symbol, SymbolFacts, TlsLocalExec, ap, arith, bit_if, facts_of, false, kept_bits, placed_facts, refl, sym, true, ℕ, ℤ, ◌*◌, ◌+◌, ◌/◌, ◌<◌, ◌^◌, ◌∙◌, ◌≡◌}
use Rattle.linker_rewriting.specs.declared.kept.FactsSnapshot.{FactsSnapshot}

-- a bit's number
digit : Bool → ℕ
digit true = 1
digit false = 0

is_small : (b : Bool) → digit b < 2
unfolding digit
is_small true = omega arith
is_small false = omega arith

same_bit : (b c : Bool) → digit b ≡ digit c → b ≡ c
unfolding digit
same_bit true true same = refl
same_bit false false same = refl
same_bit true false same = absurd (omega (arith, same))
same_bit false true same = absurd (omega (arith, same))

weighed : (worth : ℕ) (b : Bool) → bit_if worth b ≡ worth * digit b
unfolding digit
weighed worth true = omega arith
weighed worth false = omega arith

-- numbers whose lowest bits are `b` and `c`
record AreSplit (b c : Bool) (n m : ℕ) : Type 0 where
  pub bit : b ≡ c
  pub rest : n ≡ m

split : (b c : Bool) (n m : ℕ) → digit b + 2 * n ≡ digit c + 2 * m → AreSplit b c n m
split b c n m same =
    let small = is_small b in let small_too = is_small c in
    record {
      bit = same_bit b c (omega (arith, same, small, small_too));
      rest = omega (arith, same, small, small_too);
    }

-- what choices read
record AreSame (output other : OutputFacts) (symbol another : SymbolFacts) : Type 0 where
  pub has_near_symbols : output.has_near_symbols ≡ other.has_near_symbols
  pub is_fixed : output.is_fixed ≡ other.is_fixed
  pub is_executable : output.is_executable ≡ other.is_executable
  pub toc : symbol.other / 32 ≡ another.other / 32
  pub is_tls_get_addr : symbol.is_tls_get_addr ≡ another.is_tls_get_addr
  pub is_undefined_weak : symbol.is_undefined_weak ≡ another.is_undefined_weak
  pub is_absolute : symbol.is_absolute ≡ another.is_absolute
  pub is_ifunc : symbol.is_ifunc ≡ another.is_ifunc
  pub is_local : symbol.is_local ≡ another.is_local

-- the bits of an output, from bit 8 on
output_digits : OutputFacts → ℕ
output_digits output =
    digit output.is_executable + 2 * (digit output.is_fixed + 2 * (digit output.has_near_symbols + 2 * 16))

digits : OutputFacts → SymbolFacts → ℕ
digits output symbol =
    digit symbol.is_local + 2 * (digit symbol.is_ifunc + 2 * (digit symbol.is_absolute
    + 2 * (digit symbol.is_undefined_weak + 2 * (digit symbol.is_tls_get_addr
    + 2 * (symbol.other / 32 + 8 * output_digits output)))))

are_digits : (output : OutputFacts) (symbol : SymbolFacts) → kept_bits output symbol ≡ digits output symbol
unfolding digits output_digits
are_digits output symbol =
    let h = weighed (2 ^ 10) output.has_near_symbols in
    let a = weighed (2 ^ 9) output.is_fixed in
    let b = weighed (2 ^ 8) output.is_executable in
    let c = weighed 16 symbol.is_tls_get_addr in
    let d = weighed 8 symbol.is_undefined_weak in
    let e = weighed 4 symbol.is_absolute in
    let f = weighed 2 symbol.is_ifunc in
    let g = weighed 1 symbol.is_local in
    omega (arith, h, a, b, c, d, e, f, g)

same_facts : (output other : OutputFacts) (symbol another : SymbolFacts)
    → symbol.other < 2 ^ 8 → another.other < 2 ^ 8
    → kept_bits output symbol ≡ kept_bits other another → AreSame output other symbol another
unfolding digits output_digits
same_facts output other symbol another small small_too same =
    let local = split _ _ _ _ (sym (are_digits output symbol) ∙ (same ∙ are_digits other another)) in
    let ifunc = split _ _ _ _ local.rest in
    let absolute = split _ _ _ _ ifunc.rest in
    let weak = split _ _ _ _ absolute.rest in
    let get_addr = split _ _ _ _ weak.rest in
    let whole : symbol.other / 32 + 8 * output_digits output ≡ another.other / 32 + 8 * output_digits other =
    get_addr.rest in
    let rest : output_digits output ≡ output_digits other = omega (arith, whole, small, small_too) in
    let executable = split _ _ _ _ rest in
    let fixed = split _ _ _ _ executable.rest in
    let near = split _ _ 16 16 fixed.rest in
    record {
      has_near_symbols = near.bit;
      is_fixed = fixed.bit;
      is_executable = executable.bit;
      toc = omega (arith, whole, small, small_too);
      is_tls_get_addr = get_addr.bit;
      is_undefined_weak = weak.bit;
      is_absolute = absolute.bit;
      is_ifunc = ifunc.bit;
      is_local = local.bit;
    }

early : (output other : OutputFacts) (symbol another : SymbolFacts)
    → AreSame output other symbol another → (addend : ℤ) (marked : Bool)
    → facts_of output symbol addend marked ≡ facts_of other another addend marked
early output other symbol another is addend marked =
    let e0 = is.is_fixed in let e1 = is.is_executable in let e2 = is.toc in let e3 = is.is_tls_get_addr in let e4 = is.is_undefined_weak in let e5 = is.is_absolute in let e6 = is.is_ifunc in let e7 = is.is_local in let e8 = is.has_near_symbols in cc

placed : (phase : Phase) (addresses : Addresses) (value : Symbol) (offset : ℕ) (addend : ℤ)
    (marked : Bool) (output other : OutputFacts) (symbol another : SymbolFacts)
    → AreSame output other symbol another
    → placed_facts phase output addresses symbol value offset addend marked
    ≡ placed_facts phase other addresses another value offset addend marked
placed TlsLocalExec addresses value offset addend marked output other symbol another is =
    let e0 = is.is_fixed in let e1 = is.is_executable in let e2 = is.toc in let e3 = is.is_tls_get_addr in let e4 = is.is_undefined_weak in let e5 = is.is_absolute in let e6 = is.is_ifunc in let e7 = is.is_local in let e8 = is.has_near_symbols in cc
placed phase addresses value offset addend marked output other symbol another is =
    let e0 = is.is_fixed in let e1 = is.is_executable in let e2 = is.toc in let e3 = is.is_tls_get_addr in let e4 = is.is_undefined_weak in let e5 = is.is_absolute in let e6 = is.is_ifunc in let e7 = is.is_local in let e8 = is.has_near_symbols in cc

pub tell : KeptFactsTell
tell output other symbol another small small_too same =
    let is = same_facts output other symbol another small small_too (ap (λ (k : FactsSnapshot). k.bits) same) in
    record {
      early = early output other symbol another is;
      placed = λ phase addresses value offset addend marked. placed phase addresses value offset addend marked output other symbol another is;
      tls_get_addr = is.is_tls_get_addr;
    }
