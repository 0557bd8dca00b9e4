-- PowerPC64's lazy PLT.
use Rattle.linker_output.proofs.Imports.{Bool, Branch24, Branches, Counted, Header, InstructionWritten, IsSomeAnd, LazyField, List, Some, Word, [], address_is, ap, arith, at_count, bits_to, cast_unsigned, code_of_words, cond, cond-true, difference_64, drop, eqb, false, field, field_kept, field_of, from_le_bytes, header_places, ints, length, length-take, lifted, linked, loaded, moved, moved_from_link, moved_to_link, negsuc, number_of_bytes, opcode_of, operands_at, or_else, padded, place_sum, pos, ppc64_form, ppc64_name, ppc64_row, refl, replicate, step_counted, subst, sum_64, sum_zero, sym, take, take_at, times_one, true, w64, with_state, word_of, words, wrapped, wrapped_is, ℕ, ℤ, ◌%◌, ◌&&◌, ◌*ℤ◌, ◌*◌, ◌++◌, ◌+ℤ◌, ◌+◌, ◌-◌, ◌<◌, ◌==◌, ◌^◌, ◌||◌, ◌∙◌, ◌∷◌, ◌≡◌}
use Rattle.linker_laws.specs.Ppc64Machine.{Formats, write, go_on, go_to}
use Rattle.linker_base.specs.declared.bit_misc.BitRange.{BitRange}
use Rattle.linker_elf.specs.declared.elf.AnyForm.TheVariants.{Ppc64}
use Rattle.linker_elf.specs.declared.ppc64.relocations.Ppc64Relocation.TheVariants as r
use Rattle.linker_laws.specs.Ppc64RelocationLaws.{Fields}
use Rattle.linker_output.proofs.LazyRuns.{run_more, one_word, are_addresses_at, eight_on, no_move}
use Rattle.linker_output.proofs.StubWords.{applies, no_addend}
use Rattle.linker_output.specs.Ppc64LazyPlt.{step, run, is_b, rotated, Asks}
use Rattle.linker_output.specs.Ppc64LazyPlt as laws

-- ---- `b`

record IsBranch (word : ℕ) : Type 0 where
  pub opcode_is : opcode_of word ≡ 18
  pub low : field word 0 2 ≡ 0

branch_after : (bits : BitRange) (v : ℤ) (before after : List ℕ)
    → InstructionWritten (Ppc64 Branch24) bits v before after → IsBranch (word_of before) → IsBranch (word_of after)
branch_after bits v before after w is =
    record {
      opcode_is = field_kept [] (bits_to 2 25 2) _ _ _ _ _ w.clears w.written 26 32 refl refl ∙ is.opcode_is;
      low = field_kept [] (bits_to 2 25 2) _ _ _ _ _ w.clears w.written 0 2 refl refl ∙ is.low;
    }

is_branch : (word : ℕ) → IsBranch word → is_b word ≡ true
is_branch word is = ap (λ o. o == 18 && field word 0 2 == 0) is.opcode_is ∙ ap (λ n. n == 0) is.low

branches : (f : Formats) (word : ℕ) (c : Counted) → IsBranch word
    → step f word c ≡ Some (with_state (go_to (moved c.state.pc ((ppc64_form Branch24).machine word)) c.state) c)
branches f word c is =
    ap (λ v. or_else (lifted c v) (step_counted f word c)) (cond-true (is_b word) _ _ (is_branch word is))

-- ---- the header's instructions

-- r12 and r0, and what is loaded
abbrev after_4 : Counted → Counted
after_4 c =
    let a = with_state (moved_from_link 0 c.state) c in
    let b = with_state (linked a.state) a in
    let d = with_state (moved_from_link 11 b.state) b in
    with_state (moved_to_link 0 d.state) d

abbrev writes : ℕ → ℕ → Counted → Counted
writes n v c = with_state (go_on (write n v c.state)) c

module _ (f : Formats) (c : Counted) where
  c4 : Counted
  c4 = after_4 c

  c5 : Counted
  c5 = writes 12 (difference_64 (c4.state.registers 12) (c4.state.registers 11)) c4

  c6 : Counted
  c6 = writes 0 (moved (c5.state.registers 12) (negsuc 51)) c5

  c7 : Counted
  c7 = writes 0 (rotated 62 (c6.state.registers 0) % 2 ^ 62) c6

  c8 : Counted
  c8 = writes 12 (loaded 8 c7.state.memory (moved (c7.state.registers 11) (pos 44))) c7

  c9 : Counted
  c9 = writes 11 (sum_64 (c8.state.registers 12) (c8.state.registers 11)) c8

  c10 : Counted
  c10 = writes 12 (loaded 8 c9.state.memory (moved (c9.state.registers 11) (pos 0))) c9

  c11 : Counted
  c11 = writes 11 (loaded 8 c10.state.memory (moved (c10.state.registers 11) (pos 8))) c10

  c12 : Counted
  c12 = record { state = go_on c11.state; count = c11.state.registers 12 }

  pub c13 : Counted
  c13 = at_count c12

  pub runs : run f
      (0x7c0802a6 ∷ 0x429f0005 ∷ 0x7d6802a6 ∷ 0x7c0803a6 ∷ 0x7d8b6050 ∷ 0x380cffcc ∷ 0x7800f082 ∷ 0xe98b002c ∷ 0x7d6c5a14 ∷ 0xe98b0000 ∷ 0xe96b0008 ∷ 0x7d8903a6 ∷ 0x4e800420 ∷ []) c
      ≡ Some c13
  unfolding c4 c5 c6 c7 c8 c9 c10 c11 c12 c13 place_sum
  runs =
      let a = with_state (moved_from_link 0 c.state) c in
      let b = with_state (linked a.state) a in
      let d = with_state (moved_from_link 11 b.state) b in
      run_more (λ c. c.state.pc) (step f) 0x7c0802a6 0x429f0005 (0x7d6802a6 ∷ 0x7c0803a6 ∷ 0x7d8b6050 ∷ 0x380cffcc ∷ 0x7800f082 ∷ 0xe98b002c ∷ 0x7d6c5a14 ∷ 0xe98b0000 ∷ 0xe96b0008 ∷ 0x7d8903a6 ∷ 0x4e800420 ∷ []) c a (Some c13) refl refl
      (run_more (λ c. c.state.pc) (step f) 0x429f0005 0x7d6802a6 (0x7c0803a6 ∷ 0x7d8b6050 ∷ 0x380cffcc ∷ 0x7800f082 ∷ 0xe98b002c ∷ 0x7d6c5a14 ∷ 0xe98b0000 ∷ 0xe96b0008 ∷ 0x7d8903a6 ∷ 0x4e800420 ∷ []) a b (Some c13) refl refl
      (run_more (λ c. c.state.pc) (step f) 0x7d6802a6 0x7c0803a6 (0x7d8b6050 ∷ 0x380cffcc ∷ 0x7800f082 ∷ 0xe98b002c ∷ 0x7d6c5a14 ∷ 0xe98b0000 ∷ 0xe96b0008 ∷ 0x7d8903a6 ∷ 0x4e800420 ∷ []) b d (Some c13) refl refl
      (run_more (λ c. c.state.pc) (step f) 0x7c0803a6 0x7d8b6050 (0x380cffcc ∷ 0x7800f082 ∷ 0xe98b002c ∷ 0x7d6c5a14 ∷ 0xe98b0000 ∷ 0xe96b0008 ∷ 0x7d8903a6 ∷ 0x4e800420 ∷ []) d c4 (Some c13) refl refl
      (run_more (λ c. c.state.pc) (step f) 0x7d8b6050 0x380cffcc (0x7800f082 ∷ 0xe98b002c ∷ 0x7d6c5a14 ∷ 0xe98b0000 ∷ 0xe96b0008 ∷ 0x7d8903a6 ∷ 0x4e800420 ∷ []) c4 c5 (Some c13) refl refl
      (run_more (λ c. c.state.pc) (step f) 0x380cffcc 0x7800f082 (0xe98b002c ∷ 0x7d6c5a14 ∷ 0xe98b0000 ∷ 0xe96b0008 ∷ 0x7d8903a6 ∷ 0x4e800420 ∷ []) c5 c6 (Some c13) refl refl
      (run_more (λ c. c.state.pc) (step f) 0x7800f082 0xe98b002c (0x7d6c5a14 ∷ 0xe98b0000 ∷ 0xe96b0008 ∷ 0x7d8903a6 ∷ 0x4e800420 ∷ []) c6 c7 (Some c13) refl refl
      (run_more (λ c. c.state.pc) (step f) 0xe98b002c 0x7d6c5a14 (0xe98b0000 ∷ 0xe96b0008 ∷ 0x7d8903a6 ∷ 0x4e800420 ∷ []) c7 c8 (Some c13) refl refl
      (run_more (λ c. c.state.pc) (step f) 0x7d6c5a14 0xe98b0000 (0xe96b0008 ∷ 0x7d8903a6 ∷ 0x4e800420 ∷ []) c8 c9 (Some c13) refl refl
      (run_more (λ c. c.state.pc) (step f) 0xe98b0000 0xe96b0008 (0x7d8903a6 ∷ 0x4e800420 ∷ []) c9 c10 (Some c13) refl refl
      (run_more (λ c. c.state.pc) (step f) 0xe96b0008 0x7d8903a6 (0x4e800420 ∷ []) c10 c11 (Some c13) refl refl
      (run_more (λ c. c.state.pc) (step f) 0x7d8903a6 0x4e800420 [] c11 c12 (Some c13) refl refl refl)))))))))))

  -- the address after `bcl`
  abbrev here : ℕ
  here = sum_64 (sum_64 c.state.pc 4) 4

  -- where the words are
  abbrev words_at : ℕ
  words_at = sum_64 (loaded 8 c.state.memory (moved here (pos 44))) here

  others : (n : ℕ) → ((n == 0 || n == 11) || n == 12) ≡ false → c13.state.registers n ≡ c.state.registers n
  unfolding c4 c5 c6 c7 c8 c9 c10 c11 c12 c13
  others n e = kept (eqb n 0) (eqb n 11) (eqb n 12) _ _ _ _ _ _ _ _ _ (c.state.registers n) e
    where
      kept : (a b d : Bool) (i j k l m n o p q r : ℕ) → ((a || b) || d) ≡ false
          → cond b i (cond d j (cond b k (cond d l (cond a m (cond a n (cond d o (cond b p (cond a q r)))))))) ≡ r
      kept true b d i j k l m n o p q r e = cc
      kept false true d i j k l m n o p q r e = cc
      kept false false true i j k l m n o p q r e = cc
      kept false false false i j k l m n o p q r e = refl

-- ---- numbers

index_is : (header index address : ℕ) → header < 2 ^ 64 → index < 2 ^ 61 → address ≡ sum_64 header (60 + 4 * index)
    → rotated 62 (moved (difference_64 address (sum_64 (sum_64 header 4) 4)) (negsuc 51)) % 2 ^ 62 ≡ index
index_is header index address inside small is =
    let distance : difference_64 address (sum_64 (sum_64 header 4) 4) ≡ 52 + 4 * index = omega (arith, inside, small, is) in
    let less : moved (52 + 4 * index) (negsuc 51) ≡ 4 * index =
    wrapped_is (pos (52 + 4 * index) +ℤ negsuc 51) 0 (4 * index) (omega (arith, ints)) ∙ omega (arith, small) in
    ap (λ n. rotated 62 (moved n (negsuc 51)) % 2 ^ 62) distance ∙ ap (λ n. rotated 62 n % 2 ^ 62) less ∙ omega (arith, small)

at_44 : (n : ℕ) → n < 2 ^ 64 → moved n (pos 44) ≡ sum_64 n 44
at_44 n small = omega (arith, ints, small)

on_52 : (header : ℕ) → sum_64 (sum_64 (sum_64 header 4) 4) 44 ≡ sum_64 header 52
on_52 header = omega arith

-- from the third instruction, by the number after the code
words_are : (header number first : ℕ) → first < 2 ^ 64
    → (sum_64 header 8 + number) % 2 ^ 64 ≡ sum_64 first (cast_unsigned w64 (pos 0)) % 2 ^ 64
    → sum_64 number (sum_64 (sum_64 header 4) 4) ≡ first
words_are header number first small is = omega arith

eight_bytes : (b others : List ℕ) → length b ≡ 8 → number_of_bytes 8 (take 8 b ++ others) ≡ number_of_bytes 8 b
eight_bytes b others len =
    ap (λ l. from_le_bytes w64 (l ++ replicate 0 0)) (take_at (take 8 b) others 8 (length-take 8 b ∙ omega (arith, len)))

-- ---- the law

pub resolves : Branches → Fields → laws.Resolves
unfolding c4 c5 c6 c7 c8 c9 c10 c11 c12 c13
resolves single fields entry first inside bounded within aligned small placed code is header is_header resolver object
    even f c at here_12 distance holds next =
    let places = header_places entry.header first in
    let branch : LazyField = record { field = field_of 0 (ppc64_name r.R_PPC64_REL24); target = Header; origin = 0; addend = pos 0 } in
    let quad : LazyField = record { field = field_of 0 (ppc64_name r.R_PPC64_REL64); target = Word; origin = 8; addend = pos 0 } in
    let o = operands_at branch entry in
    let o2 = operands_at quad places in
    let b = padded (code_of_words (0x48000000 ∷ [])) in
    let zeros = padded (0 ∷ 0 ∷ 0 ∷ 0 ∷ 0 ∷ 0 ∷ 0 ∷ 0 ∷ []) in
    let p2 = is_header.3 in
    let p3 = p2.3 in
    let p4 = p3.3 in
    let p5 = p4.3 in
    let p6 = p5.3 in
    let p7 = p6.3 in
    let p8 = p7.3 in
    let one = applies ppc64_name ppc64_row r.R_PPC64_REL24 (field_of 0 (ppc64_name r.R_PPC64_REL24)) o b is.0 tt refl is.2.1 in
    let two = applies ppc64_name ppc64_row r.R_PPC64_REL64 (field_of 0 (ppc64_name r.R_PPC64_REL64)) o2 zeros p8.0 tt refl p8.2.1 in
    let x = word_of is.0 in
    let to : moved c.state.pc ((ppc64_form Branch24).machine x) ≡ entry.header =
    times_one c.state.pc ((ppc64_form Branch24).machine x)
    ∙ ap (λ p. wrapped (pos p +ℤ ((ppc64_form Branch24).machine x *ℤ pos 1))) (at ∙ sym (sum_zero entry.address inside))
    ∙ address_is _ _ (single.0 o (are_addresses_at branch entry within) o.place b is.0 one.applied tt)
    ∙ no_addend entry.header within in
    let d : Counted = with_state (go_to (moved c.state.pc ((ppc64_form Branch24).machine x)) c.state) c in
    let entered : run f (words 1 code) c ≡ Some d =
    ap (λ ws. run f ws c) (one_word is.0 is.1 code is.2.0 0 x [] is.4 refl refl) ∙ branches f x c (branch_after _ _ b is.0 one.applied.written (record { opcode_is = refl; low = refl })) in
    let n = number_of_bytes 8 p8.0 in
    let bytes : header ≡ code_of_words (0x7c0802a6 ∷ 0x429f0005 ∷ 0x7d6802a6 ∷ 0x7c0803a6 ∷ 0x7d8b6050 ∷ 0x380cffcc ∷ 0x7800f082 ∷ 0xe98b002c ∷ 0x7d6c5a14 ∷ 0xe98b0000 ∷ 0xe96b0008 ∷ 0x7d8903a6 ∷ 0x4e800420 ∷ []) ++ p7.1 =
    is_header.4 ∙ ap (λ p. take 8 p ++ is_header.1) is_header.2.1 ∙ ap (λ l. code_of_words (0x7c0802a6 ∷ 0x429f0005 ∷ []) ++ l)
    (p2.4 ∙ ap (λ p. take 8 p ++ p2.1) p2.2.1 ∙ ap (λ l. code_of_words (0x7d6802a6 ∷ 0x7c0803a6 ∷ []) ++ l)
    (p3.4 ∙ ap (λ p. take 8 p ++ p3.1) p3.2.1 ∙ ap (λ l. code_of_words (0x7d8b6050 ∷ 0x380cffcc ∷ []) ++ l)
    (p4.4 ∙ ap (λ p. take 8 p ++ p4.1) p4.2.1 ∙ ap (λ l. code_of_words (0x7800f082 ∷ 0xe98b002c ∷ []) ++ l)
    (p5.4 ∙ ap (λ p. take 8 p ++ p5.1) p5.2.1 ∙ ap (λ l. code_of_words (0x7d6c5a14 ∷ 0xe98b0000 ∷ []) ++ l)
    (p6.4 ∙ ap (λ p. take 8 p ++ p6.1) p6.2.1 ∙ ap (λ l. code_of_words (0xe96b0008 ∷ 0x7d8903a6 ∷ []) ++ l)
    (p7.4 ∙ ap (λ p. take 4 p ++ p7.1) p7.2.1)))))) in
    let quad_at : number_of_bytes 8 (drop 52 header) ≡ n =
    ap (λ c. number_of_bytes 8 (drop 52 c)) bytes ∙ ap (number_of_bytes 8) p8.4 ∙ eight_bytes p8.0 p8.1 p8.2.0 in
    let far : (sum_64 entry.header 8 + n) % 2 ^ 64 ≡ sum_64 first (cast_unsigned w64 (pos 0)) % 2 ^ 64 =
    fields.3 o2 (are_addresses_at quad places bounded) zeros p8.0 two.applied in
    let loads : loaded 8 c.state.memory (moved (sum_64 (sum_64 d.state.pc 4) 4) (pos 44)) ≡ n =
    ap (λ p. loaded 8 c.state.memory (moved (sum_64 (sum_64 p 4) 4) (pos 44))) to
    ∙ ap (loaded 8 c.state.memory) (at_44 (sum_64 (sum_64 entry.header 4) 4) (omega arith) ∙ on_52 entry.header)
    ∙ distance ∙ quad_at in
    let there : words_at f d ≡ first =
    ap (λ v. sum_64 v (sum_64 (sum_64 d.state.pc 4) 4)) loads ∙ ap (λ p. sum_64 n (sum_64 (sum_64 p 4) 4)) to
    ∙ words_are entry.header n first bounded far in
    let found : (c13 f d).state.registers 12 ≡ resolver =
    ap (λ a. loaded 8 c.state.memory (moved a (pos 0))) there
    ∙ ap (loaded 8 c.state.memory) (no_move first bounded) ∙ holds in
    let asked : Asks entry.index resolver object c (c13 f d) =
    record {
      pc = ap (λ n. n - n % 4) found ∙ omega (arith, even);
      r0 =
          ap (λ v. rotated 62 (moved (difference_64 v (sum_64 (sum_64 d.state.pc 4) 4)) (negsuc 51)) % 2 ^ 62) here_12
          ∙ ap (λ p. rotated 62 (moved (difference_64 entry.address (sum_64 (sum_64 p 4) 4)) (negsuc 51)) % 2 ^ 62) to
          ∙ index_is entry.header entry.index entry.address within small placed;
      r11 =
          ap (λ a. loaded 8 c.state.memory (moved a (pos 8))) there
          ∙ ap (loaded 8 c.state.memory) (eight_on first bounded) ∙ next;
      r12 = found;
      registers = others f d;
      floats = refl;
      link = refl;
      memory = refl;
    } in
    subst (λ end. IsSomeAnd end (λ d. (d.state.pc ≡ entry.header)
    × IsSomeAnd (run f (words 13 header) d) (Asks entry.index resolver object c))) (sym entered)
    (to, subst (λ end. IsSomeAnd end (Asks entry.index resolver object c)) (sym (ap (λ h. run f (words 13 h) d) bytes ∙ runs f d)) asked)
