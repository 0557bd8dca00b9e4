-- Calls of LoongArch, by two instructions and by one.
use Rattle.linker_laws.proofs.Imports.{All-drop, Branch26, Call36, InstructionWritten, IsAddress, List, LoongArch64, Operands, Relocated, ap, arith, bits_to, call36_high, call36_low, drop, field, from_le_bytes, ints, length-drop, loongarch_row, nat_tests, ored_cleared, plt_address, pos, reach, refl, signed, w64, word_of, wrapped, ℕ, ℤ, ◌*ℤ◌, ◌++◌, ◌+ℤ◌, ◌/◌, ◌<◌, ◌^◌, ◌∙◌, ◌≡◌, ◌≢◌}
use Rattle.linker_utils.specs.LoongArchRewrites.{IsCall, rj_of, rd_of}
use Rattle.linker_elf.specs.declared.loongarch64.relocations.LoongArch64Relocation.TheVariants as names
use Rattle.linker_laws.specs.LoongArchMachine.{pair}
use Rattle.linker_laws.specs.LoongArchMachine.{State, decode, far_address, register_target, pcaddu_18, jirl, b, bl}
use Rattle.linker_laws.proofs.AArch64Steps.{address_is, in_two_steps}
use Rattle.linker_laws.proofs.AArch64Words.{field_kept, top_kept}
use Rattle.linker_laws.proofs.Words.{two_words, word_below}
use Rattle.linker_laws.proofs.LoongArchSteps.{set, read_back}

-- ---- which instruction a word is

pub decodes_far : (x : ℕ) → x / 2 ^ 25 ≡ 0x0f → decode x ≡ pcaddu_18
decodes_far x op = grind (arith, nat_tests)

pub decodes_jirl : (x : ℕ) → x / 2 ^ 26 ≡ 0x13 → decode x ≡ jirl
decodes_jirl x op = grind (arith, nat_tests)

pub decodes_b : (x : ℕ) → x / 2 ^ 26 ≡ 0x14 → decode x ≡ b
decodes_b x op = grind (arith, nat_tests)

pub decodes_bl : (x : ℕ) → x / 2 ^ 26 ≡ 0x15 → decode x ≡ bl
decodes_bl x op = grind (arith, nat_tests)

-- ---- the words of a pair

-- the two words after a relocation
pub record IsCallOf (n link : ℕ) (first second : ℕ) : Type 0 where
  pub far : first / 2 ^ 25 ≡ 0x0f
  pub far_rd : rd_of first ≡ n
  pub jumps : second / 2 ^ 26 ≡ 0x13
  pub base : rj_of second ≡ n
  pub links : rd_of second ≡ link

call_after : (link : ℕ) (v : ℤ) (before after : List ℕ) → word_of before < 2 ^ 32 → word_of after < 2 ^ 32
    → word_of (drop 4 before) < 2 ^ 32 → word_of (drop 4 after) < 2 ^ 32 → InstructionWritten (LoongArch64 Call36) (record { start = 2; end = 38 }) v before after
    → IsCall link before 0 → IsCallOf (rd_of (word_of before)) link (word_of after) (word_of (drop 4 after))
call_after link v before after small small2 small3 small4 w is =
    let kept = field_kept (ored_cleared (call36_high ++ call36_low)) (call36_high ++ call36_low) _ _ _ _ _ w.clears w.written in
    let old = two_words before in
    let new = two_words after in
    let a = kept 25 32 refl refl in
    let c = kept 0 5 refl refl in
    let d = kept 58 64 refl refl in
    let e = kept 37 42 refl refl in
    let f = kept 32 37 refl refl in
    let g = is.first in
    let h = is.second in
    let i = is.base in
    let j = is.links in
    record { far = omega arith; far_rd = omega arith; jumps = omega arith; base = omega arith; links = omega arith }

pub branch_after : (v : ℤ) (before after : List ℕ) → InstructionWritten (LoongArch64 Branch26) (record { start = 2; end = 28 }) v before after
    → word_of after / 2 ^ 26 ≡ word_of before / 2 ^ 26
branch_after v before after w =
    let places = bits_to 0 15 10 ++ bits_to 16 25 0 in
    top_kept (ored_cleared places) places _ _ _ _ _ w.clears w.written 26 refl refl

-- ---- the state at the target

-- where `pcaddu18i` and `jirl` go
pub target_is : (x : Operands) (n p q : ℕ) (s : State) (bytes : List ℕ) → word_of bytes < 2 ^ 32 → word_of (drop 4 bytes) < 2 ^ 32 → p ≡ word_of bytes → q ≡ word_of (drop 4 bytes) → rj_of q ≡ n → n ≢ 0 → s.pc ≡ x.place
    → IsAddress (pos x.place +ℤ (reach (from_le_bytes w64 bytes) *ℤ pos 1)) (plt_address x)
    → register_target q (set n (far_address p s) s) ≡ plt_address x
target_is x n p q s bytes small small2 first second rj named at leads =
    let pair = from_le_bytes w64 bytes in
    let both = two_words bytes in
    let high : field p 5 25 ≡ field pair 5 25 = omega arith in
    let low : field q 10 26 ≡ field pair 42 58 = omega arith in
    let sum : (k l : ℤ) → (pos x.place +ℤ (k *ℤ pos (2 ^ 18))) +ℤ (l *ℤ pos 4) ≡ pos x.place +ℤ (((k *ℤ pos (2 ^ 18)) +ℤ (l *ℤ pos 4)) *ℤ pos 1) = λ k l. omega (arith, ints) in
    ap (λ v. wrapped (pos v +ℤ (signed 16 (field q 10 26) *ℤ pos 4))) (read_back n (far_address p s) (rj_of q) s rj named)
    ∙ in_two_steps (pos s.pc +ℤ (signed 20 (field p 5 25) *ℤ pos (2 ^ 18))) (signed 16 (field q 10 26) *ℤ pos 4)
    ∙ ap (λ a. wrapped ((pos a +ℤ (signed 20 (field p 5 25) *ℤ pos (2 ^ 18))) +ℤ (signed 16 (field q 10 26) *ℤ pos 4))) at
    ∙ ap (λ f. wrapped ((pos x.place +ℤ (signed 20 f *ℤ pos (2 ^ 18))) +ℤ (signed 16 (field q 10 26) *ℤ pos 4))) high
    ∙ ap (λ f. wrapped ((pos x.place +ℤ (signed 20 (field pair 5 25) *ℤ pos (2 ^ 18))) +ℤ (signed 16 f *ℤ pos 4))) low
    ∙ ap wrapped (sum (signed 20 (field pair 5 25)) (signed 16 (field pair 42 58)))
    ∙ address_is _ _ leads

-- the words of a call, before and after its relocation
module _ (link : ℕ) (x : Operands) (call call1 : List ℕ) (is : IsCall link call 0)
    (r : Relocated (loongarch_row names.R_LARCH_CALL36) x call call1) where
  old_first : word_of call < 2 ^ 32
  old_first = let within = is.within in word_below call r.old_bytes (omega arith)

  old_second : word_of (drop 4 call) < 2 ^ 32
  old_second =
      let within = is.within in
      word_below (drop 4 call) (All-drop (λ byte. byte < 2 ^ 8) 4 call r.old_bytes) (let e = length-drop 4 call in omega arith)

  pub new_first : word_of call1 < 2 ^ 32
  new_first = let within = is.within in let same = r.len in word_below call1 r.bytes (omega arith)

  pub new_second : word_of (drop 4 call1) < 2 ^ 32
  new_second =
      let within = is.within in
      let same = r.len in
      word_below (drop 4 call1) (All-drop (λ byte. byte < 2 ^ 8) 4 call1 r.bytes) (let e = length-drop 4 call1 in omega arith)

  pub call_is : IsCallOf (rd_of (word_of call)) link (word_of call1) (word_of (drop 4 call1))
  call_is = call_after link _ call call1 old_first new_first old_second new_second r.applied.written is
