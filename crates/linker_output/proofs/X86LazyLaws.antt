-- x86-64's lazy PLT.
use Rattle.linker_output.proofs.Imports.{Bool, Header, Index, IsSomeAnd, LazyEntry, LazyField, LazyPiece, List, Operands, Option, Some, Word, X86_64, [], ap, arith, byte_at, cast_unsigned, cond, cond-false, cond-true, difference_64, drop, drop-drop, eqb, false, field_of, fixed, header_places, if◌then◌else◌, le-ltb, length, nat_lt, negsuc, number_of_bytes, operands_at, padded, place_field, pos, refl, signed_field, subst, suc, sum_64, sym, take, true, w64, x86_64_entry, x86_64_landing_entry, x86_64_name, x86_64_onward, x86_64_row, zero, ℕ, ℤ, ◌%◌, ◌*◌, ◌++◌, ◌+◌, ◌<◌, ◌==◌, ◌^◌, ◌∙◌, ◌∷◌, ◌≡◌, ◌≤◌}
use Rattle.linker_laws.specs.X86Machine.{load, extended, store_8, with_register, State}
use Rattle.linker_elf.specs.declared.x86_64.relocations.X86_64Relocation.TheVariants as r
use Rattle.linker_output.proofs.LazyRuns.{following, are_addresses_at}
use Rattle.linker_output.proofs.StubWords.{applies}
use Rattle.linker_output.specs.LazyPlt.{IsCode}
use Rattle.linker_output.specs.X86LazyPlt.{step, run, and_then, pushed, Asks, IsOffStack}
use Rattle.linker_output.specs.X86LazyPlt as laws
use Rattle.linker_output.specs.declared.lazy_plt.LazyTarget.{LazyTarget}

-- ---- steps, by the bytes of pieces

-- `jmp *d(%rip)`, `push d(%rip)`
pub by_word : (b others : List ℕ) (s : State) → length b ≡ 8 → take 2 b ≡ 0xff ∷ 0x25 ∷ []
    → step (take 6 b ++ others) s
    ≡ Some (record s { ip = load 8 s (sum_64 (sum_64 s.ip 6) (extended (number_of_bytes 4 (drop 2 b)))) })
by_word (a ∷ b ∷ c ∷ d ∷ e ∷ f ∷ rest) others s len is = ap (λ l. step (l ++ (c ∷ d ∷ e ∷ f ∷ others)) s) is
by_word short others s len is = absurd (omega arith)

pushes_word : (b others : List ℕ) (s : State) → length b ≡ 8 → take 2 b ≡ 0xff ∷ 0x35 ∷ []
    → step (take 6 b ++ others) s
    ≡ Some (pushed (load 8 s (sum_64 (sum_64 s.ip 6) (extended (number_of_bytes 4 (drop 2 b))))) (sum_64 s.ip 6) s)
pushes_word (a ∷ b ∷ c ∷ d ∷ e ∷ f ∷ rest) others s len is = ap (λ l. step (l ++ (c ∷ d ∷ e ∷ f ∷ others)) s) is
pushes_word short others s len is = absurd (omega arith)

-- `push number`, `jmp`
pushes : (b others : List ℕ) (s : State) → length b ≡ 8 → take 1 b ≡ 0x68 ∷ []
    → step (take 5 b ++ others) s ≡ Some (pushed (extended (number_of_bytes 4 (drop 1 b))) (sum_64 s.ip 5) s)
pushes (a ∷ b ∷ c ∷ d ∷ e ∷ rest) others s len is = ap (λ l. step (l ++ (b ∷ c ∷ d ∷ e ∷ others)) s) is
pushes short others s len is = absurd (omega arith)

jumps : (b others : List ℕ) (s : State) → length b ≡ 8 → take 1 b ≡ 0xe9 ∷ []
    → step (take 5 b ++ others) s
    ≡ Some (record s { ip = sum_64 (sum_64 s.ip 5) (extended (number_of_bytes 4 (drop 1 b))) })
jumps (a ∷ b ∷ c ∷ d ∷ e ∷ rest) others s len is = ap (λ l. step (l ++ (b ∷ c ∷ d ∷ e ∷ others)) s) is
jumps short others s len is = absurd (omega arith)

pub run_step : (n : ℕ) (code : List ℕ) (start k : ℕ) (s : State) (t : Option State) → difference_64 s.ip start ≡ k
    → step (drop k code) s ≡ t → run (suc n) code start s ≡ and_then (run n code start) t
run_step n code start k s t at is =
    ap (λ j. and_then (run n code start) (step (drop j code) s)) at ∙ ap (and_then (run n code start)) is

-- ---- what fields lead to

abbrev operands : LazyTarget → ℕ → ℤ → LazyEntry → Operands
operands target origin addend entry =
    operands_at
    (record {
      field = field_of 2 (x86_64_name r.R_X86_64_PC32);
      target = target;
      origin = origin;
      addend = addend;
    })
    entry

-- the word, from the next instruction
pub word_from_next : (ip d word : ℕ) → ip < 2 ^ 64 → word < 2 ^ 64
    → sum_64 (sum_64 ip 2) d ≡ sum_64 word (cast_unsigned w64 (negsuc 3)) → sum_64 (sum_64 ip 6) d ≡ word
word_from_next ip d word small below leads = omega arith

header_from_next : (address k ip d header : ℕ) → address < 2 ^ 64 → header < 2 ^ 64 → ip ≡ sum_64 (sum_64 address k) 5
    → sum_64 (sum_64 address (k + 6)) d ≡ sum_64 header (cast_unsigned w64 (negsuc 3)) → sum_64 (sum_64 ip 5) d ≡ header
header_from_next address k ip d header small below at leads = omega arith

second_from_next : (ip d first : ℕ) → ip < 2 ^ 64 → first < 2 ^ 64
    → sum_64 (sum_64 ip 2) d ≡ sum_64 first (cast_unsigned w64 (pos 4)) → sum_64 (sum_64 ip 6) d ≡ sum_64 first 8
second_from_next ip d first small below leads = omega arith

third_from_next : (header ip d first : ℕ) → header < 2 ^ 64 → first < 2 ^ 64 → ip ≡ sum_64 header 6
    → sum_64 (sum_64 header 8) d ≡ sum_64 first (cast_unsigned w64 (pos 12)) → sum_64 (sum_64 ip 6) d ≡ sum_64 first 16
third_from_next header ip d first small below at leads = omega arith

-- ---- an entry

pub enters : (entry : LazyEntry) → entry.address < 2 ^ 64 → entry.word < 2 ^ 64
    → (code : List ℕ) → IsCode X86_64 x86_64_entry entry code
    → (s : State) → s.ip ≡ entry.address
    → step code s ≡ Some (record s { ip = load 8 s entry.word })
enters entry inside below code is s at =
    let o = operands Word 2 (negsuc 3) entry in
    let jmp = padded (0xff ∷ 0x25 ∷ 0 ∷ 0 ∷ 0 ∷ 0 ∷ []) in
    let field = applies x86_64_name x86_64_row r.R_X86_64_PC32 (field_of 2 (x86_64_name r.R_X86_64_PC32)) o jmp is.0 tt refl is.2.1 in
    let addresses = are_addresses_at (record { field = field_of 2 (x86_64_name r.R_X86_64_PC32); target = Word; origin = 2; addend = negsuc 3 }) entry below in
    let d = extended (number_of_bytes 4 (drop 2 is.0)) in
    let leads : sum_64 (sum_64 s.ip 6) d ≡ entry.word =
    ap (λ p. sum_64 (sum_64 p 6) d) at
    ∙ word_from_next entry.address d entry.word inside below (place_field o addresses (drop 2 jmp) (drop 2 is.0) field.applied) in
    ap (λ c. step c s) is.4 ∙ by_word is.0 is.1 s is.2.0 field.kept
    ∙ ap (λ a. Some (record s { ip = load 8 s a })) leads

-- ---- bytes on the stack

-- 8 bytes as a number
abbrev sum_of_8 : ℕ → ℕ → ℕ → ℕ → ℕ → ℕ → ℕ → ℕ → ℕ
sum_of_8 a b c d e f g h =
    a % 2 ^ 8 + 2 ^ 8 * (b % 2 ^ 8 + 2 ^ 8 * (c % 2 ^ 8 + 2 ^ 8 * (d % 2 ^ 8 + 2 ^ 8 * (e % 2 ^ 8 + 2 ^ 8 * (f % 2 ^ 8
    + 2 ^ 8 * (g % 2 ^ 8 + 2 ^ 8 * (h % 2 ^ 8 + 2 ^ 8 * 0)))))))

small_sum : (a b c d e f g h : ℕ) → sum_of_8 a b c d e f g h < 2 ^ 64
small_sum a b c d e f g h = omega arith

small_load : (s : State) (a : ℕ) → load 8 s a < 2 ^ 64
small_load s a = small_sum _ _ _ _ _ _ _ _

loads_so : (s t : State) (a : ℕ) → ((i : ℕ) → i < 8 → s.memory ((a + i) % 2 ^ 64) ≡ t.memory ((a + i) % 2 ^ 64))
    → load 8 s a ≡ load 8 t a
loads_so s t a same = same_load 8 s t a same
  where
    same_load : (n : ℕ) (s t : State) (a : ℕ) → ((i : ℕ) → i < n → s.memory ((a + i) % 2 ^ 64) ≡ t.memory ((a + i) % 2 ^ 64))
        → load n s a ≡ load n t a
    same_load zero s t a same = refl
    same_load (suc n) s t a same =
        let none : a + 0 ≡ a = omega arith in
        let first : s.memory (a % 2 ^ 64) ≡ t.memory (a % 2 ^ 64) =
        subst (λ b. s.memory (b % 2 ^ 64) ≡ t.memory (b % 2 ^ 64)) none (same 0 (omega arith)) in
        let rest = same_load n s t (a + 1) (λ i less.
        (let more : a + (i + 1) ≡ a + 1 + i = omega arith in
        subst (λ b. s.memory (b % 2 ^ 64) ≡ t.memory (b % 2 ^ 64)) more (same (i + 1) (omega (arith, less))))) in
        ap (λ m. m % 2 ^ 8 + 2 ^ 8 * load n s (a + 1)) first
        ∙ ap (λ l. t.memory (a % 2 ^ 64) % 2 ^ 8 + 2 ^ 8 * l) rest

stored_at : (number top : ℕ) (memory : ℕ → ℕ) (i a : ℕ) → difference_64 a top ≡ i → nat_lt i 8 ≡ true
    → store_8 top number memory a ≡ byte_at i number
stored_at number top memory i a is small =
    ap (λ k. if nat_lt k 8 then byte_at k number else memory a) is
    ∙ cond-true (nat_lt i 8) (byte_at i number) (memory a) small

not_stored : (number top : ℕ) (memory : ℕ → ℕ) (a : ℕ) → 8 ≤ difference_64 a top
    → store_8 top number memory a ≡ memory a
not_stored number top memory a most =
    cond-false (nat_lt (difference_64 a top) 8) _ (memory a) (le-ltb (difference_64 a top) 8 most)

whole : (n : ℕ) → sum_of_8 (byte_at 0 n) (byte_at 1 n) (byte_at 2 n) (byte_at 3 n) (byte_at 4 n) (byte_at 5 n) (byte_at 6 n) (byte_at 7 n) ≡ n % 2 ^ 64
whole n = omega arith

loads_stored : (s : State) (number top : ℕ) (memory : ℕ → ℕ) → top < 2 ^ 64 → s.memory ≡ store_8 top number memory
    → load 8 s top ≡ number % 2 ^ 64
loads_stored s number top memory inside is =
    let at : (i a : ℕ) → difference_64 (a % 2 ^ 64) top ≡ i → nat_lt i 8 ≡ true → s.memory (a % 2 ^ 64) ≡ byte_at i number =
    λ i a d small. ap (λ f. f (a % 2 ^ 64)) is ∙ stored_at number top memory i (a % 2 ^ 64) d small in
    let a1 = top + 1 in
    let a2 = a1 + 1 in
    let a3 = a2 + 1 in
    let a4 = a3 + 1 in
    let a5 = a4 + 1 in
    let a6 = a5 + 1 in
    let a7 = a6 + 1 in
    ap (λ v. sum_of_8 v (s.memory (a1 % 2 ^ 64)) (s.memory (a2 % 2 ^ 64)) (s.memory (a3 % 2 ^ 64)) (s.memory (a4 % 2 ^ 64)) (s.memory (a5 % 2 ^ 64)) (s.memory (a6 % 2 ^ 64)) (s.memory (a7 % 2 ^ 64))) (at 0 top (omega arith) refl)
    ∙ ap (λ v. sum_of_8 (byte_at 0 number) v (s.memory (a2 % 2 ^ 64)) (s.memory (a3 % 2 ^ 64)) (s.memory (a4 % 2 ^ 64)) (s.memory (a5 % 2 ^ 64)) (s.memory (a6 % 2 ^ 64)) (s.memory (a7 % 2 ^ 64))) (at 1 a1 (omega arith) refl)
    ∙ ap (λ v. sum_of_8 (byte_at 0 number) (byte_at 1 number) v (s.memory (a3 % 2 ^ 64)) (s.memory (a4 % 2 ^ 64)) (s.memory (a5 % 2 ^ 64)) (s.memory (a6 % 2 ^ 64)) (s.memory (a7 % 2 ^ 64))) (at 2 a2 (omega arith) refl)
    ∙ ap (λ v. sum_of_8 (byte_at 0 number) (byte_at 1 number) (byte_at 2 number) v (s.memory (a4 % 2 ^ 64)) (s.memory (a5 % 2 ^ 64)) (s.memory (a6 % 2 ^ 64)) (s.memory (a7 % 2 ^ 64))) (at 3 a3 (omega arith) refl)
    ∙ ap (λ v. sum_of_8 (byte_at 0 number) (byte_at 1 number) (byte_at 2 number) (byte_at 3 number) v (s.memory (a5 % 2 ^ 64)) (s.memory (a6 % 2 ^ 64)) (s.memory (a7 % 2 ^ 64))) (at 4 a4 (omega arith) refl)
    ∙ ap (λ v. sum_of_8 (byte_at 0 number) (byte_at 1 number) (byte_at 2 number) (byte_at 3 number) (byte_at 4 number) v (s.memory (a6 % 2 ^ 64)) (s.memory (a7 % 2 ^ 64))) (at 5 a5 (omega arith) refl)
    ∙ ap (λ v. sum_of_8 (byte_at 0 number) (byte_at 1 number) (byte_at 2 number) (byte_at 3 number) (byte_at 4 number) (byte_at 5 number) v (s.memory (a7 % 2 ^ 64))) (at 6 a6 (omega arith) refl)
    ∙ ap (λ v. sum_of_8 (byte_at 0 number) (byte_at 1 number) (byte_at 2 number) (byte_at 3 number) (byte_at 4 number) (byte_at 5 number) (byte_at 6 number) v) (at 7 a7 (omega arith) refl)
    ∙ whole number

-- two numbers pushed one after the other
module _ (s : State) (n m : ℕ) where
  abbrev top : ℕ
  top = difference_64 (s.register 4) 8

  abbrev bottom : ℕ
  bottom = difference_64 top 8

  abbrev once : ℕ → ℕ
  once = store_8 top n s.memory

  abbrev twice : ℕ → ℕ
  twice = store_8 bottom m once

  bottom_is : bottom ≡ difference_64 (s.register 4) 16
  bottom_is = omega arith

  top_is : sum_64 bottom 8 ≡ top
  top_is = omega arith

  off_once : (a : ℕ) → 16 ≤ difference_64 a bottom → once a ≡ s.memory a
  off_once a most = not_stored n top s.memory a (omega (arith, most))

  off : (a : ℕ) → 16 ≤ difference_64 a bottom → twice a ≡ s.memory a
  off a most = not_stored m bottom once a (omega (arith, most)) ∙ off_once a most

  word_once : (t : State) (word : ℕ) → t.memory ≡ once → IsOffStack word s → load 8 t word ≡ load 8 s word
  word_once t word is not_there =
      loads_so t s word (λ i less. ap (λ f. f ((word + i) % 2 ^ 64)) is
      ∙ off_once ((word + i) % 2 ^ 64) (subst (λ b. 16 ≤ difference_64 ((word + i) % 2 ^ 64) b) (sym bottom_is) (not_there i less)))

  word_twice : (t : State) (word : ℕ) → t.memory ≡ twice → IsOffStack word s → load 8 t word ≡ load 8 s word
  word_twice t word is not_there =
      loads_so t s word (λ i less. ap (λ f. f ((word + i) % 2 ^ 64)) is
      ∙ off ((word + i) % 2 ^ 64) (subst (λ b. 16 ≤ difference_64 ((word + i) % 2 ^ 64) b) (sym bottom_is) (not_there i less)))

  last_pushed : (t : State) → t.memory ≡ twice → load 8 t bottom ≡ m % 2 ^ 64
  last_pushed t is = loads_stored t m bottom once (omega arith) is

  first_pushed : (t : State) → t.memory ≡ twice → load 8 t top ≡ n % 2 ^ 64
  first_pushed t is =
      let u : State = record t { memory = once } in
      loads_so t u top (λ i less. ap (λ f. f ((top + i) % 2 ^ 64)) is ∙ not_stored m bottom once ((top + i) % 2 ^ 64) (omega (arith, less)))
      ∙ loads_stored u n top s.memory (omega arith) refl

-- ---- an entry that goes to the header

-- what has come of it there
record IsPushed (entry : LazyEntry) (s t : State) : Type 0 where
  pub number : ℕ
  pub number_is : number % 2 ^ 64 ≡ entry.index
  pub ip : t.ip ≡ entry.header
  pub register : t.register ≡ with_register 4 (difference_64 (s.register 4) 8) s.register
  pub memory : t.memory ≡ store_8 (difference_64 (s.register 4) 8) number s.memory
  pub flags : t.flags ≡ s.flags
  pub fs : t.fs ≡ s.fs

to_header : (entry : LazyEntry) (k : ℕ) (others : List LazyPiece) → k ≤ 6 → entry.address < 2 ^ 64
    → entry.header < 2 ^ 64 → entry.index < 2 ^ 64
    → (code rest : List ℕ) → drop k code ≡ rest → IsCode X86_64 (x86_64_onward k others) entry rest
    → (s : State) (ip : ℕ) → s.ip ≡ entry.address → step code s ≡ Some (record s { ip = ip }) → ip ≡ sum_64 entry.address k
    → (t : State) × (run 3 code entry.address s ≡ Some t) × IsPushed entry s t
to_header entry k others most inside within small code rest from is s ip at first holds =
    let start = entry.address in
    let p2 = is.3 in
    let push = padded (0x68 ∷ 0 ∷ 0 ∷ 0 ∷ 0 ∷ []) in
    let jmp = padded (0xe9 ∷ 0 ∷ 0 ∷ 0 ∷ 0 ∷ []) in
    let f : LazyField = record { field = field_of 1 (x86_64_name r.R_X86_64_32S); target = Index; origin = 0; addend = pos 0 } in
    let g : LazyField = record { field = field_of 1 (x86_64_name r.R_X86_64_PC32); target = Header; origin = k + 6; addend = negsuc 3 } in
    let a = applies x86_64_name x86_64_row r.R_X86_64_32S (field_of 1 (x86_64_name r.R_X86_64_32S)) (operands_at f entry) push is.0 tt refl is.2.1 in
    let b = applies x86_64_name x86_64_row r.R_X86_64_PC32 (field_of 1 (x86_64_name r.R_X86_64_PC32)) (operands_at g entry) jmp p2.0 tt refl p2.2.1 in
    let n = extended (number_of_bytes 4 (drop 1 is.0)) in
    let d = extended (number_of_bytes 4 (drop 1 p2.0)) in
    let number : sum_64 0 n ≡ sum_64 entry.index (cast_unsigned w64 (pos 0)) =
    signed_field (operands_at f entry) (are_addresses_at f entry small) (drop 1 push) (drop 1 is.0) a.applied in
    let target : sum_64 (sum_64 entry.address (k + 6)) d ≡ sum_64 entry.header (cast_unsigned w64 (negsuc 3)) =
    place_field (operands_at g entry) (are_addresses_at g entry within) (drop 1 jmp) (drop 1 p2.0) b.applied in
    let s1 : State = record s { ip = ip } in
    let s2 : State = pushed n (sum_64 s1.ip 5) s1 in
    let s3 : State = record s2 { ip = sum_64 (sum_64 s2.ip 5) d } in
    let at2 : s2.ip ≡ sum_64 (sum_64 entry.address k) 5 = ap (λ p. sum_64 p 5) holds in
    let none : difference_64 s.ip start ≡ 0 = ap (λ p. difference_64 p start) at ∙ omega (arith, inside) in
    let after_one : difference_64 s1.ip start ≡ k = ap (λ p. difference_64 p start) holds ∙ omega (arith, inside, most) in
    let after_two : difference_64 s2.ip start ≡ k + 5 = ap (λ p. difference_64 p start) at2 ∙ omega (arith, inside, most) in
    let last : drop (k + 5) code ≡ is.1 =
    sym (drop-drop 5 k code) ∙ ap (drop 5) from ∙ following is.0 is.1 rest is.2.0 5 (omega arith) is.4 in
    let second : step (drop k code) s1 ≡ Some s2 =
    ap (λ c. step c s1) (from ∙ is.4) ∙ pushes is.0 is.1 s1 is.2.0 a.kept in
    let third : step (drop (k + 5) code) s2 ≡ Some s3 =
    ap (λ c. step c s2) (last ∙ p2.4) ∙ jumps p2.0 p2.1 s2 p2.2.0 b.kept in (
      s3,
      run_step 2 code start 0 s (Some s1) none first ∙ run_step 1 code start k s1 (Some s2) after_one second
          ∙ run_step 0 code start (k + 5) s2 (Some s3) after_two third,
      record {
        number = n;
        number_is = omega (arith, number, small);
        ip = header_from_next entry.address k s2.ip d entry.header inside within at2 target;
        register = refl;
        memory = refl;
        flags = refl;
        fs = refl;
      },
    )

abbrev Pushes : List LazyPiece → (LazyEntry → State → Type 0) → Type 0
Pushes pieces LeadsOn =
    (entry : LazyEntry) → entry.address < 2 ^ 64 → entry.word < 2 ^ 64 → entry.header < 2 ^ 64 → entry.index < 2 ^ 64
    → (code : List ℕ) → IsCode X86_64 pieces entry code → (s : State) → s.ip ≡ entry.address → LeadsOn entry s
    → (t : State) × (run 3 code entry.address s ≡ Some t) × IsPushed entry s t

plain_pushes : Pushes x86_64_entry (λ entry s. load 8 s entry.word ≡ sum_64 entry.address 6)
plain_pushes entry inside below within small code is s at holds =
    to_header entry 6 [] (omega arith) inside within small code is.1
    (following is.0 is.1 code is.2.0 6 (omega arith) is.4) is.3 s (load 8 s entry.word) at
    (enters entry inside below code is s at) holds

landing_pushes : Pushes x86_64_landing_entry (λ entry s. Unit {0})
landing_pushes entry inside below within small code is s at any =
    to_header entry 4 (fixed (0x66 ∷ 0x90 ∷ []) ∷ []) (omega arith) inside within small code is.1
    (following is.0 is.1 code is.2.0 4 (omega arith) is.4) is.3 s (sum_64 s.ip 4) at
    (ap (λ c. step c s) (is.4 ∙ ap (λ b. take 4 b ++ is.1) is.2.1)) (ap (λ p. sum_64 p 4) at)

-- ---- the header

not_stack : (k u v m : ℕ) → (k == 4) ≡ false → cond (eqb k 4) u (cond (eqb k 4) v m) ≡ m
not_stack k u v m e = by_test (eqb k 4) u v m e
  where
    by_test : (b : Bool) (u v m : ℕ) → b ≡ false → cond b u (cond b v m) ≡ m
    by_test true u v m e = cc
    by_test false u v m e = refl

resolves_by : (pieces : List LazyPiece) (LeadsOn : LazyEntry → State → Type 0) → Pushes pieces LeadsOn
    → laws.ResolvesBy pieces LeadsOn
resolves_by pieces LeadsOn push_on entry first inside below bounded within small code is header is_header s at holds not_second not_third =
    let e = push_on entry inside below within small code is s at holds in
    let t = e.0 in
    let gone = e.2 in
    let places = header_places entry.header first in
    let start = entry.header in
    let p2 = is_header.3 in
    let push = padded (0xff ∷ 0x35 ∷ 0 ∷ 0 ∷ 0 ∷ 0 ∷ []) in
    let jmp = padded (0xff ∷ 0x25 ∷ 0 ∷ 0 ∷ 0 ∷ 0 ∷ []) in
    let f : LazyField = record { field = field_of 2 (x86_64_name r.R_X86_64_PC32); target = Word; origin = 2; addend = pos 4 } in
    let g : LazyField = record { field = field_of 2 (x86_64_name r.R_X86_64_PC32); target = Word; origin = 8; addend = pos 12 } in
    let a = applies x86_64_name x86_64_row r.R_X86_64_PC32 (field_of 2 (x86_64_name r.R_X86_64_PC32)) (operands_at f places) push is_header.0 tt refl is_header.2.1 in
    let b = applies x86_64_name x86_64_row r.R_X86_64_PC32 (field_of 2 (x86_64_name r.R_X86_64_PC32)) (operands_at g places) jmp p2.0 tt refl p2.2.1 in
    let d = extended (number_of_bytes 4 (drop 2 is_header.0)) in
    let d2 = extended (number_of_bytes 4 (drop 2 p2.0)) in
    let second_word : sum_64 (sum_64 start 2) d ≡ sum_64 first (cast_unsigned w64 (pos 4)) =
    place_field (operands_at f places) (are_addresses_at f places bounded) (drop 2 push) (drop 2 is_header.0) a.applied in
    let third_word : sum_64 (sum_64 start 8) d2 ≡ sum_64 first (cast_unsigned w64 (pos 12)) =
    place_field (operands_at g places) (are_addresses_at g places bounded) (drop 2 jmp) (drop 2 p2.0) b.applied in
    let m = load 8 t (sum_64 (sum_64 t.ip 6) d) in
    let u : State = pushed m (sum_64 t.ip 6) t in
    let v : State = record u { ip = load 8 u (sum_64 (sum_64 u.ip 6) d2) } in
    let none : difference_64 t.ip start ≡ 0 = ap (λ p. difference_64 p start) gone.ip ∙ omega (arith, within) in
    let at_6 : u.ip ≡ sum_64 start 6 = ap (λ p. sum_64 p 6) gone.ip in
    let six : difference_64 u.ip start ≡ 6 = ap (λ p. difference_64 p start) at_6 ∙ omega (arith, within) in
    let one : step (drop 0 header) t ≡ Some u =
    ap (λ c. step c t) is_header.4 ∙ pushes_word is_header.0 is_header.1 t is_header.2.0 a.kept in
    let two : step (drop 6 header) u ≡ Some v =
    ap (λ c. step c u) (following is_header.0 is_header.1 header is_header.2.0 6 (omega arith) is_header.4 ∙ p2.4)
    ∙ by_word p2.0 p2.1 u p2.2.0 b.kept in
    let ran : run 2 header start t ≡ Some v =
    run_step 1 header start 0 t (Some u) none one ∙ run_step 0 header start 6 u (Some v) six two in
    let n = gone.number in
    let second : sum_64 (sum_64 t.ip 6) d ≡ sum_64 first 8 =
    ap (λ p. sum_64 (sum_64 p 6) d) gone.ip ∙ second_from_next start d first within bounded second_word in
    let third : sum_64 (sum_64 u.ip 6) d2 ≡ sum_64 first 16 =
    third_from_next start u.ip d2 first within bounded at_6 third_word in
    let object : m ≡ load 8 s (sum_64 first 8) =
    ap (load 8 t) second ∙ word_once s n m t (sum_64 first 8) gone.memory not_second in
    let stack : t.register 4 ≡ difference_64 (s.register 4) 8 = ap (λ f. f 4) gone.register in
    let lower : v.register 4 ≡ bottom s n m = ap (λ p. difference_64 p 8) stack in
    let in_memory : v.memory ≡ twice s n m =
    ap (λ p. store_8 (difference_64 p 8) m t.memory) stack ∙ ap (store_8 (bottom s n m) m) gone.memory in
    let asked : Asks entry.index first s v =
    record {
      ip =
          ap (load 8 u) third
          ∙ word_twice s n m u (sum_64 first 16) in_memory not_third;
      stack = lower ∙ bottom_is s n m;
      registers = λ k e.
          ap (λ f. if k == 4 then difference_64 (t.register 4) 8 else f k) gone.register
          ∙ not_stack k (difference_64 (t.register 4) 8) (difference_64 (s.register 4) 8) (s.register k) e;
      object =
          ap (load 8 v) lower ∙ last_pushed s n m v in_memory
          ∙ (let bound = small_load t (sum_64 (sum_64 t.ip 6) d) in let e : m % 2 ^ 64 ≡ m = omega (arith, bound) in e)
          ∙ object;
      index =
          ap (λ p. load 8 v (sum_64 p 8)) lower ∙ ap (load 8 v) (top_is s n m)
          ∙ first_pushed s n m v in_memory ∙ gone.number_is;
      memory = λ a most.
          ap (λ f. f a) in_memory
          ∙ off s n m a (subst (λ b. 16 ≤ difference_64 a b) lower most);
      flags = gone.flags;
      fs = gone.fs;
    } in
    subst (λ end. IsSomeAnd end (λ t. (t.ip ≡ entry.header)
    × IsSomeAnd (run 2 header entry.header t) (Asks entry.index first s))) (sym e.1)
    (gone.ip, subst (λ end. IsSomeAnd end (Asks entry.index first s)) (sym ran) asked)

pub resolves : laws.Resolves
resolves = resolves_by x86_64_entry (λ entry s. load 8 s entry.word ≡ sum_64 entry.address 6) plain_pushes

pub landing_resolves : laws.LandingResolves
landing_resolves = resolves_by x86_64_landing_entry (λ entry s. Unit {0}) landing_pushes
