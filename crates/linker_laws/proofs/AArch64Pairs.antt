-- `adrp` with an instruction that has the offset in the page.
use Rattle.linker_laws.proofs.Imports.{Add, Adr, IsAddress, LdSt, List, Operands, Some, aarch64_form, add, added, adr_address, adrp_address, ap, arith, drop, from_le_bytes, from_le_bytes-to_le_bytes_4, in_64_bits, ldr, load_64, nop, page, page_and_offset, pos, rn_of, step, sym, take, to_le_bytes, w32, w64, word_of, word_of_front, ℕ, ◌*ℤ◌, ◌*◌, ◌+ℤ◌, ◌+◌, ◌<◌, ◌^◌, ◌∙◌, ◌≡◌, ◌≢◌}
use Rattle.linker_laws.proofs.Sums.{once}
use Rattle.linker_laws.specs.AArch64Machine.{State, loaded}
use Rattle.linker_laws.proofs.AArch64Steps.{set, step_adrp, step_ldr, step_add, in_two_steps, loaded_from, address_is, read_back}
use Rattle.linker_laws.proofs.Words.{back_word, front_pair}
use Rattle.linker_laws.proofs.AArch64Words.{IsAdrOf, IsInstructionOf, decodes_adrp}

-- ---- words of bytes

-- the words of `nop` and of what stands after it
first_word : (r : ℕ) → r < 2 ^ 32 → word_of (to_le_bytes w64 (nop + r * 2 ^ 32)) ≡ nop
first_word r small = omega arith

second_word : (r : ℕ) → r < 2 ^ 32 → word_of (drop 4 (to_le_bytes w64 (nop + r * 2 ^ 32))) ≡ r
second_word r small = omega arith

-- the words of a pair that was made `nop` and an instruction
pub record PairMade (f : ℕ → ℕ) (before after : List ℕ) : Type 0 where
  pub first : word_of after ≡ nop
  pub second : word_of (drop 4 after) ≡ f (word_of before)

pub pair_made : (f : ℕ → ℕ) (before after : List ℕ) → f (word_of before) < 2 ^ 32
    → take 8 after ≡ to_le_bytes w64 (nop + f (word_of (take 8 before)) * 2 ^ 32)
    → PairMade f before after
pair_made f before after small is =
    let made = is ∙ ap (λ x. to_le_bytes w64 (nop + f x * 2 ^ 32)) (front_pair before) in
    record {
      first = sym (front_pair after) ∙ ap word_of made ∙ first_word (f (word_of before)) small;
      second =
          sym (back_word after) ∙ ap (λ b. word_of (drop 4 b)) made
          ∙ second_word (f (word_of before)) small;
    }

-- the word of a rewritten instruction
pub word_is : (n : ℕ) (bytes : List ℕ) → n < 2 ^ 32 → take 4 bytes ≡ to_le_bytes w32 n
    → word_of bytes ≡ n
word_is n bytes small is =
    sym (word_of_front bytes) ∙ ap (from_le_bytes w32) is ∙ from_le_bytes-to_le_bytes_4 n small

pub word_made : (f : ℕ → ℕ) (before after : List ℕ) → f (word_of before) < 2 ^ 32
    → take 4 after ≡ to_le_bytes w32 (f (word_of (take 4 before)))
    → word_of after ≡ f (word_of before)
word_made f before after small is =
    word_is (f (word_of before)) after small
    (is ∙ ap (λ x. to_le_bytes w32 (f x)) (word_of_front before))

-- what `ldr` of register n, which `adrp` has written, loads
pub entry_loaded : (o : Operands) (n x y entry : ℕ) (s : State) → rn_of y ≡ n → s.pc ≡ o.place
    → IsAddress (page_and_offset LdSt 8 o x y) entry
    → loaded y (set n (adrp_address x s) s) ≡ load_64 s.memory entry
entry_loaded o n x y entry s rn at leads =
    loaded_from y n (pos (page s.pc) +ℤ ((aarch64_form Adr).machine x *ℤ pos 4096)) s rn
    ∙ ap (λ p. load_64 s.memory
    (in_64_bits ((pos (page p) +ℤ ((aarch64_form Adr).machine x *ℤ pos 4096))
    +ℤ ((aarch64_form LdSt).machine y *ℤ pos 8)))) at
    ∙ ap (load_64 s.memory) (address_is _ _ leads)

-- `adrp xN` and `ldr xD, [xN]` leave a value in register d.
pub record Loads (n d x y value : ℕ) (s : State) : Type 0 where
  pub first : step x s ≡ Some (set n (adrp_address x s) s)
  pub second : step y (set n (adrp_address x s) s)
      ≡ Some (set d (loaded y (set n (adrp_address x s) s)) (set n (adrp_address x s) s))
  pub value_is : loaded y (set n (adrp_address x s) s) ≡ value

pub loads : (o : Operands) (n d x y entry : ℕ) (s : State) → IsAdrOf 1 n x → IsInstructionOf ldr d n y
    → n ≢ 31 → d ≢ 31 → s.pc ≡ o.place → IsAddress (page_and_offset LdSt 8 o x y) entry
    → Loads n d x y (load_64 s.memory entry) s
loads o n d x y entry s first second named named2 at leads =
    let t = set n (adrp_address x s) s in
    record {
      first = step_adrp x n s (decodes_adrp x first.opcode first.top) first.rd_is named;
      second = step_ldr y d t second.decodes second.rd_is named2;
      value_is = entry_loaded o n x y entry s second.rn_is at leads;
    }

-- what an ADD of register n, which `adrp` has written, comes to
pub adds_up : (o : Operands) (x y target : ℕ) (s : State) → s.pc ≡ o.place
    → IsAddress (page_and_offset Add 1 o x y) target
    → in_64_bits (pos (adrp_address x s) +ℤ (aarch64_form Add).machine y) ≡ target
adds_up o x y target s at leads =
    let a = pos (page s.pc) +ℤ ((aarch64_form Adr).machine x *ℤ pos 4096) in
    in_two_steps a ((aarch64_form Add).machine y)
    ∙ ap (λ p. in_64_bits ((pos (page p) +ℤ ((aarch64_form Adr).machine x *ℤ pos 4096))
    +ℤ (aarch64_form Add).machine y)) at
    ∙ ap (λ z. in_64_bits ((pos (page o.place) +ℤ ((aarch64_form Adr).machine x *ℤ pos 4096)) +ℤ z))
    (sym (once ((aarch64_form Add).machine y)))
    ∙ address_is _ _ leads

pub page_added : (o : Operands) (n x y target : ℕ) (s : State) → rn_of y ≡ n → s.pc ≡ o.place
    → IsAddress (page_and_offset Add 1 o x y) target
    → added y (set n (adrp_address x s) s) ≡ target
page_added o n x y target s rn at leads =
    ap (λ v. in_64_bits (pos v +ℤ (aarch64_form Add).machine y))
    (read_back n (adrp_address x s) _ s rn)
    ∙ adds_up o x y target s at leads

-- `adrp xN` and `add xN, xN` leave a value in register n.
pub record Adds (n x y value : ℕ) (s : State) : Type 0 where
  pub first : step x s ≡ Some (set n (adrp_address x s) s)
  pub second : step y (set n (adrp_address x s) s)
      ≡ Some (set n (added y (set n (adrp_address x s) s)) (set n (adrp_address x s) s))
  pub value_is : added y (set n (adrp_address x s) s) ≡ value

pub adds_pair : (o : Operands) (n x y target : ℕ) (s : State) → IsAdrOf 1 n x → IsInstructionOf add n n y
    → n ≢ 31 → s.pc ≡ o.place → IsAddress (page_and_offset Add 1 o x y) target
    → Adds n x y target s
adds_pair o n x y target s first second named at leads =
    let t = set n (adrp_address x s) s in
    record {
      first = step_adrp x n s (decodes_adrp x first.opcode first.top) first.rd_is named;
      second = step_add y n t second.decodes second.rd_is;
      value_is = page_added o n x y target s second.rn_is at leads;
    }

-- what `adr` comes to
pub adr_is : (o : Operands) (y target : ℕ) (s : State) → s.pc ≡ o.place
    → IsAddress (pos o.place +ℤ ((aarch64_form Adr).machine y *ℤ pos 1)) target
    → adr_address y s ≡ target
adr_is o y target s at leads =
    ap (λ q. in_64_bits (pos q +ℤ (aarch64_form Adr).machine y)) at
    ∙ ap (λ z. in_64_bits (pos o.place +ℤ z)) (sym (once ((aarch64_form Adr).machine y)))
    ∙ address_is _ _ leads
