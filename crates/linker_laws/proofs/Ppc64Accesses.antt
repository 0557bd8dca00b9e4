-- PowerPC64: loads and stores, by their words.
use Rattle.linker_laws.proofs.Ppc64Addresses.{some_of, reads_ds}
use Rattle.linker_laws.specs.Ppc64Machine.{State, Formats, Access, loads, loads_signed, stores, accessed, access_with, decode, access, step, execute, by_opcode, base, go_on, word_access, of_58, of_62, word_access_with}
use Rattle.linker_laws.proofs.Imports.{Bool, D, Ds, Some, access_number, access_of, and_parts, ap, arith, by_word_displacement, cond, cond-false, cond-true, ds_access, eqb-true, false, field, if◌then◌else◌, inl, inr, is_access, is_d_access, is_ds_access, is_indexed, is_indexed_word, is_over_base, is_over_thread, is_store, is_word_access, keeps_base, lt-ltb, ltb-true, moved, nat_lt, ne_eqb, not, opcode_of, or_cases, ppc64_form, ppc64_reads, ra_of, rb_of, refl, registers_of, rt_of, sum_64, sym, true, ℕ, ◌%◌, ◌&&◌, ◌*◌, ◌+◌, ◌-◌, ◌<◌, ◌==◌, ◌^◌, ◌||◌, ◌∙◌, ◌≡◌, ◌≢◌}

-- ---- the accesses by their numbers

pub decode_access : (x n : ℕ) → opcode_of x ≡ 32 + n → is_access n ≡ true
    → decode x ≡ access (access_with n)
decode_access x n op is =
    let first = and_parts (n % 2 == 0 && nat_lt n 23) (not (n == 14)) is in
    let second = and_parts (n % 2 == 0) (nat_lt n 23) first.0 in
    let below : n < 23 = ltb-true n 23 second.1 in
    let number : opcode_of x - 32 ≡ n = omega arith in
    let big : 31 < opcode_of x = omega arith in
    cond-false _ _ _ (ne_eqb (opcode_of x) 14 (λ e. omega arith))
    ∙ cond-false _ _ _ (ne_eqb (opcode_of x) 15 (λ e. omega arith))
    ∙ cond-false _ _ _ (ne_eqb (opcode_of x) 18 (λ e. omega arith))
    ∙ cond-false _ _ _ (ne_eqb (opcode_of x) 24 (λ e. omega arith))
    ∙ cond-false _ _ _ (ne_eqb (opcode_of x) 31 (λ e. omega arith))
    ∙ cond-false _ _ _ (ne_eqb (opcode_of x) 58 (λ e. omega arith))
    ∙ cond-false _ _ _ (ne_eqb (opcode_of x) 62 (λ e. omega arith))
    ∙ cond-true _ _ _ (ap (λ b. b && is_access (opcode_of x - 32)) (lt-ltb 31 (opcode_of x) big) ∙ ap is_access number ∙ is)
    ∙ ap (λ k. access (access_with k)) number

-- ---- steps

pub step_access : (f : Formats) (x n r b : ℕ) (s : State) → opcode_of x ≡ 32 + n → is_access n ≡ true
    → rt_of x ≡ r → ra_of x ≡ b
    → step f x s
    ≡ Some (go_on (accessed f (access_with n) r (moved (base b s) ((ppc64_form D).machine x)) s))
step_access f x n r b s op is rt ra =
    ap (λ i. execute f i x s) (decode_access x n op is)
    ∙ ap (λ k. Some (go_on (accessed f (access_with n) k (moved (base (ra_of x) s) ((ppc64_form D).machine x)) s))) rt
    ∙ ap (λ k. Some (go_on (accessed f (access_with n) r (moved (base k s) ((ppc64_form D).machine x)) s))) ra

pub step_indexed : (f : Formats) (x b : ℕ) (s : State) → opcode_of x ≡ 31 → field x 0 6 ≡ 0x2e
    → is_access (access_of x) ≡ true → rb_of x ≡ b
    → step f x s
    ≡ Some (go_on (accessed f (access_with (access_of x)) (rt_of x)
    (sum_64 (base (ra_of x) s) (s.registers b)) s))
step_indexed f x b s op low is rb =
    ap (λ k. execute f (by_opcode k x) x s) op
    ∙ ap (λ i. execute f i x s)
    (cond-false _ _ _ (ne_eqb (field x 0 11) 0x214 (λ e. omega arith))
    ∙ cond-true _ _ _ (ap (λ k. k == 0x2e && is_access (access_of x)) low ∙ is))
    ∙ ap (λ k. Some (go_on (accessed f (access_with (access_of x)) (rt_of x)
    (sum_64 (base (ra_of x) s) (s.registers k)) s))) rb

-- ---- by a displacement

-- an access by a displacement over a register
pub record IsDAccess (x : ℕ) : Type 0 where
  pub opcode_is : opcode_of x ≡ 32 + access_number x
  pub known : is_access (access_number x) ≡ true
  pub over_some : ra_of x ≢ 0

pub d_access_parts : (x : ℕ) → is_over_base is_d_access x ≡ true → IsDAccess x
d_access_parts x h =
    let first = and_parts (is_d_access x) (not (ra_of x == 0)) h in
    let second = and_parts (field x 31 32 == 1 && is_access (field x 26 31))
    (keeps_base (is_store (field x 26 31)) x) first.0 in
    let third = and_parts (field x 31 32 == 1) (is_access (field x 26 31)) second.0 in
    let top : field x 31 32 ≡ 1 = eqb-true _ _ third.0 in
    record {
      opcode_is = omega arith;
      known = third.1;
      over_some = some_of (ra_of x) first.1;
    }

-- ---- by a sum

-- an access by a sum with the thread pointer
pub record IsIndexed (x : ℕ) : Type 0 where
  pub opcode_is : opcode_of x ≡ 31
  pub rb_is : rb_of x ≡ 13
  pub low : field x 0 6 ≡ 0x2e
  pub known : is_access (access_of x) ≡ true
  pub over_some : ra_of x ≢ 0

pub indexed_parts : (x : ℕ) → is_indexed x ≡ true → IsIndexed x
indexed_parts x h =
    let first = and_parts (is_over_thread x && field x 0 6 == 0x2e && is_access (access_of x))
    (keeps_base (is_store (access_of x)) x) h in
    let second = and_parts (is_over_thread x && field x 0 6 == 0x2e) (is_access (access_of x)) first.0 in
    let third = and_parts (is_over_thread x) (field x 0 6 == 0x2e) second.0 in
    let fourth = and_parts (opcode_of x == 31 && field x 11 16 == 13) (not (ra_of x == 0)) third.0 in
    let fifth = and_parts (opcode_of x == 31) (field x 11 16 == 13) fourth.0 in
    record {
      opcode_is = eqb-true _ _ fifth.0;
      rb_is = eqb-true _ _ fifth.1;
      low = eqb-true _ _ third.1;
      known = second.1;
      over_some = some_of (ra_of x) fourth.1;
    }

-- ---- of whole words

-- `ld`, `lwa` or `std`, whatever its displacement
pub record IsDs (x : ℕ) : Type 0 where
  pub decodes : (y : ℕ) → opcode_of y ≡ opcode_of x → field y 0 2 ≡ field x 0 2
      → decode y ≡ word_access (ds_access x)
  pub reads : (y : ℕ) → opcode_of y ≡ opcode_of x → ppc64_reads Ds y ≡ (ppc64_form Ds).machine y

loads_58 : (x k : ℕ) → opcode_of x ≡ 58 → field x 0 2 ≡ k
    → ds_access x ≡ (if k == 0 then loads 8 else loads_signed 4)
loads_58 x k op low =
    ap (λ n. if n == 62 then stores 8 else (if field x 0 2 == 0 then loads 8 else loads_signed 4)) op
    ∙ ap (λ n. if n == 0 then loads 8 else loads_signed 4) low

pub reads_62 : (x : ℕ) → opcode_of x ≡ 62 → ppc64_reads Ds x ≡ (ppc64_form Ds).machine x
reads_62 x op =
    ap (λ n. cond (n == 56 || (n == 6 || n == 61 && field x 0 2 == 1))
    ((ppc64_form Ds).machine (x - x % 16)) ((ppc64_form Ds).machine x)) op

of_58_with : (x k : ℕ) (a : Access) → opcode_of x ≡ 58 → field x 0 2 ≡ k → of_58 k ≡ word_access a
    → (if k == 0 then loads 8 else loads_signed 4) ≡ a → IsDs x
of_58_with x k a op low is same =
    record {
      decodes = λ y o l.
          ap (λ n. by_opcode n y) (o ∙ op) ∙ ap of_58 (l ∙ low) ∙ is ∙ ap word_access (sym (loads_58 x k op low ∙ same));
      reads = λ y o. reads_ds y (o ∙ op);
    }

pub ds_parts : (x : ℕ) → is_ds_access x ≡ true → IsDs x
ds_parts x h = elim (or_cases (opcode_of x == 58 && (field x 0 2 == 0 || field x 0 2 == 2))
    (opcode_of x == 62 && field x 0 2 == 0 && keeps_base true x) h) [
      | inl load ↦
          let parts = and_parts (opcode_of x == 58) (field x 0 2 == 0 || field x 0 2 == 2) load in
          elim (or_cases (field x 0 2 == 0) (field x 0 2 == 2) parts.1) [
            | inl zero ↦ of_58_with x 0 (loads 8) (eqb-true _ _ parts.0) (eqb-true _ _ zero) refl refl
            | inr two ↦ of_58_with x 2 (loads_signed 4) (eqb-true _ _ parts.0) (eqb-true _ _ two) refl refl
          ]
      | inr st ↦
          let parts = and_parts (opcode_of x == 62 && field x 0 2 == 0) (keeps_base true x) st in
          let more = and_parts (opcode_of x == 62) (field x 0 2 == 0) parts.0 in
          let op : opcode_of x ≡ 62 = eqb-true _ _ more.0 in
          let low : field x 0 2 ≡ 0 = eqb-true _ _ more.1 in
          record {
            decodes = λ y o l.
                ap (λ n. by_opcode n y) (o ∙ op) ∙ ap of_62 (l ∙ low)
                ∙ ap word_access (sym (ap (λ n. if n == 62 then stores 8 else (
                if field x 0 2 == 0 then loads 8 else loads_signed 4)) op));
            reads = λ y o. reads_62 y (o ∙ op);
          }
    ]

pub step_word : (f : Formats) (x r b : ℕ) (a : Access) (s : State) → decode x ≡ word_access a
    → rt_of x ≡ r → ra_of x ≡ b
    → step f x s ≡ Some (go_on (accessed f a r (moved (base b s) ((ppc64_form Ds).machine x)) s))
step_word f x r b a s is rt ra =
    ap (λ i. execute f i x s) is
    ∙ ap (λ k. Some (go_on (accessed f a k (moved (base (ra_of x) s) ((ppc64_form Ds).machine x)) s))) rt
    ∙ ap (λ k. Some (go_on (accessed f a r (moved (base k s) ((ppc64_form Ds).machine x)) s))) ra

pub record IsIndexedWord (x : ℕ) : Type 0 where
  pub opcode_is : opcode_of x ≡ 31
  pub rb_is : rb_of x ≡ 13
  pub low : field x 0 6 ≡ 0x2a
  pub known : is_word_access (access_of x) ≡ true
  pub over_some : ra_of x ≢ 0

pub indexed_word_parts : (x : ℕ) → is_indexed_word x ≡ true → IsIndexedWord x
indexed_word_parts x h =
    let first = and_parts (is_over_thread x && field x 0 6 == 0x2a && is_word_access (access_of x))
    (keeps_base (access_of x == 4) x) h in
    let second = and_parts (is_over_thread x && field x 0 6 == 0x2a) (is_word_access (access_of x)) first.0 in
    let third = and_parts (is_over_thread x) (field x 0 6 == 0x2a) second.0 in
    let fourth = and_parts (opcode_of x == 31 && field x 11 16 == 13) (not (ra_of x == 0)) third.0 in
    let fifth = and_parts (opcode_of x == 31) (field x 11 16 == 13) fourth.0 in
    record {
      opcode_is = eqb-true _ _ fifth.0;
      rb_is = eqb-true _ _ fifth.1;
      low = eqb-true _ _ third.1;
      known = second.1;
      over_some = some_of (ra_of x) fourth.1;
    }

-- What an indexed access w has become, whatever its displacement.
pub record IsDirect (w d : ℕ) : Type 0 where
  pub decodes : (y : ℕ) → opcode_of y ≡ opcode_of d → field y 0 2 ≡ field d 0 2
      → decode y ≡ word_access (word_access_with (access_of w))
  pub reads : (y : ℕ) → opcode_of y ≡ opcode_of d → ppc64_reads Ds y ≡ (ppc64_form Ds).machine y
  pub rt_is : rt_of d ≡ rt_of w
  pub ra_is : ra_of d ≡ ra_of w

loads_directly : (w d k n : ℕ) (a : Access) → d ≡ 58 * 2 ^ 26 + registers_of w + k → k < 4
    → of_58 k ≡ word_access a → access_of w ≡ n → word_access_with n ≡ a → IsDirect w d
loads_directly w d k n a is small known number same =
    let op : opcode_of d ≡ 58 = omega arith in
    let low : field d 0 2 ≡ k = omega arith in
    record {
      decodes = λ y o l.
          ap (λ m. by_opcode m y) (o ∙ op) ∙ ap of_58 (l ∙ low) ∙ known
          ∙ ap word_access (sym (ap word_access_with number ∙ same));
      reads = λ y o. reads_ds y (o ∙ op);
      rt_is = omega arith;
      ra_is = omega arith;
    }

stores_directly : (w d : ℕ) → d ≡ 62 * 2 ^ 26 + registers_of w → access_of w ≡ 4 → IsDirect w d
stores_directly w d is number =
    let op : opcode_of d ≡ 62 = omega arith in
    let low : field d 0 2 ≡ 0 = omega arith in
    record {
      decodes = λ y o l.
          ap (λ m. by_opcode m y) (o ∙ op) ∙ ap of_62 (l ∙ low)
          ∙ ap (λ m. word_access (word_access_with m)) (sym number);
      reads = λ y o. reads_62 y (o ∙ op);
      rt_is = omega arith;
      ra_is = omega arith;
    }

pub is_direct : (w d : ℕ) → is_word_access (access_of w) ≡ true → d ≡ by_word_displacement w → IsDirect w d
is_direct w d known is = elim (or_cases (access_of w == 0 || access_of w == 4) (access_of w == 10) known) [
  | inl some ↦ elim (or_cases (access_of w == 0) (access_of w == 4) some) [
    | inl zero ↦
        let e : access_of w ≡ 0 = eqb-true _ _ zero in
        loads_directly w d 0 0 (loads 8)
        (is ∙ ap (λ m. (if m == 4 then 62 else 58) * 2 ^ 26 + registers_of w + (if m == 10 then 2 else 0)) e)
        (omega arith) refl e refl
    | inr four ↦
        let e : access_of w ≡ 4 = eqb-true _ _ four in
        let whole : d ≡ 62 * 2 ^ 26 + registers_of w + 0 =
        is ∙ ap (λ m. (if m == 4 then 62 else 58) * 2 ^ 26 + registers_of w + (if m == 10 then 2 else 0)) e in
        stores_directly w d (omega arith) e
  ]
  | inr ten ↦
      let e : access_of w ≡ 10 = eqb-true _ _ ten in
      loads_directly w d 2 10 (loads_signed 4)
      (is ∙ ap (λ m. (if m == 4 then 62 else 58) * 2 ^ 26 + registers_of w + (if m == 10 then 2 else 0)) e)
      (omega arith) refl e refl
]

pub step_indexed_word : (f : Formats) (x b : ℕ) (s : State) → opcode_of x ≡ 31 → field x 0 6 ≡ 0x2a
    → is_word_access (access_of x) ≡ true → rb_of x ≡ b
    → step f x s
    ≡ Some (go_on (accessed f (word_access_with (access_of x)) (rt_of x)
    (sum_64 (base (ra_of x) s) (s.registers b)) s))
step_indexed_word f x b s op low is rb =
    ap (λ k. execute f (by_opcode k x) x s) op
    ∙ ap (λ i. execute f i x s)
    (cond-false _ _ _ (ne_eqb (field x 0 11) 0x214 (λ e. omega arith))
    ∙ cond-false _ _ _ (ap (λ k. k == 0x2e && is_access (access_of x)) low)
    ∙ cond-true _ _ _ (ap (λ k. k == 0x2a && is_word_access (access_of x)) low ∙ is))
    ∙ ap (λ k. Some (go_on (accessed f (word_access_with (access_of x)) (rt_of x)
    (sum_64 (base (ra_of x) s) (s.registers k)) s))) rb

pub below : (w : ℕ) (a b : Bool)
    → (if a then 62 else 58) * 2 ^ 26 + registers_of w + (if b then 2 else 0) < 2 ^ 32
below w true true = omega arith
below w true false = omega arith
below w false true = omega arith
below w false false = omega arith
