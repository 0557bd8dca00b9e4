-- The code before and after each rewrite, from the instruction's first byte.
use Rattle.linker_laws.proofs.Imports.{IsTrue, JmpIndirectToRelative, List, Original, Rewrite, Some, [], absolute, and_parts, ap, arith, begins, drop, evex_operand, is_at, is_one_at, leb-true, length, length-drop, operand, or-false, prefixed_operand, puts, replaces, rewritten, sym, take, true, ℕ, ◌++◌, ◌+◌, ◌-◌, ◌<◌, ◌∙◌, ◌∷◌, ◌≡◌, ◌≤◌}
use Rattle.linker_utils.specs.X86Rewrites as x86
use Rattle.linker_laws.proofs.X86Sections.{original_code, rewritten_code}

-- an instruction of one pattern
pub pattern_there : (r : Original) (section : List ℕ) (o : ℕ)
    → IsTrue (is_one_at (r ∷ []) section o)
    → (r.back ≤ o) × (begins r.bytes (drop (o - r.back) section) ≡ true)
pattern_there r section o h =
    let both = and_parts _ _ (sym (or-false (is_at r section o)) ∙ h) in
    (leb-true r.back o both.0, both.1)

-- the offset is in the section
pub inside : (section rest : List ℕ) (o b : ℕ) → 0 < b → b ≤ o → drop (o - b) section ≡ rest
    → b ≤ length rest → o ≤ length section
inside section rest o b some room is long =
    let h = length-drop (o - b) section in
    let same = ap length is in
    omega arith

module _ (section original relaxed rest rest' : List ℕ) (o : ℕ)
    (whole : original ≡ take o section ++ rest) where
  -- the code from n bytes before an offset, where the section's is known from b bytes before it
  codes : (b n : ℕ) (known : List ℕ) → b ≤ o → drop (o - b) section ≡ known → 0 < b → n ≤ b
      → b ≤ length known → (r : Rewrite) (at k : ℕ) → r.back ≤ b → at ≡ o - b + k
      → relaxed ≡ take at (rewritten (Some r) section o) ++ rest'
      → (drop (o - n) original ≡ drop (b - n) (take b known ++ rest))
      × (drop (o - n) relaxed ≡ drop (b - n) (take k (take (b - r.back) known
      ++ r.bytes (take r.len (drop (b - r.back) known)) ++ drop (b - r.back + r.len) known) ++ rest'))
  codes b n known room is some first enough r at k within e whole' =
      let long = inside section known o b some room is enough in (
        ap (drop (o - n)) whole ∙ original_code section rest o b n room long first
            ∙ ap (λ d. drop (b - n) (take b d ++ rest)) is,
        ap (drop (o - n)) whole' ∙ rewritten_code section rest' o b n room long first r at k within e
            ∙ ap (λ d. drop (b - n) (take k (take (b - r.back) d
            ++ r.bytes (take r.len (drop (b - r.back) d)) ++ drop (b - r.back + r.len) d) ++ rest')) is,
      )

  -- `mov` made `lea`
  pub lea_codes : (opcode m : ℕ) (d : List ℕ) → 2 ≤ o
      → drop (o - 2) section ≡ opcode ∷ m ∷ d
      → relaxed ≡ take o (rewritten (Some (replaces 2 1 (λ _. 0x8d ∷ []))) section o) ++ rest'
      → (drop (o - 2) original ≡ opcode ∷ m ∷ rest) × (drop (o - 2) relaxed ≡ 0x8d ∷ m ∷ rest')
  lea_codes opcode m d room is whole' =
      codes 2 2 (opcode ∷ m ∷ d) room is (omega arith) (omega arith) (omega arith)
      (replaces 2 1 (λ _. 0x8d ∷ [])) o 2 (omega arith) (omega arith) whole'

  pub rex_lea_codes : (p opcode m opcode' : ℕ) (d : List ℕ) → 3 ≤ o
      → drop (o - 3) section ≡ p ∷ opcode ∷ m ∷ d
      → relaxed ≡ take o (rewritten (Some (replaces 2 1 (λ _. opcode' ∷ []))) section o) ++ rest'
      → (drop (o - 3) original ≡ p ∷ opcode ∷ m ∷ rest)
      × (drop (o - 3) relaxed ≡ p ∷ opcode' ∷ m ∷ rest')
  rex_lea_codes p opcode m opcode' d room is whole' =
      codes 3 3 (p ∷ opcode ∷ m ∷ d) room is (omega arith) (omega arith) (omega arith)
      (replaces 2 1 (λ _. opcode' ∷ [])) o 3 (omega arith) (omega arith) whole'

  -- an operation on an immediate
  pub immediate_codes : (opcode m opcode' k : ℕ) (d : List ℕ) → 2 ≤ o
      → drop (o - 2) section ≡ opcode ∷ m ∷ d
      → relaxed ≡ take o (rewritten (Some (absolute 2 (operand opcode' k))) section o) ++ rest'
      → (drop (o - 2) original ≡ opcode ∷ m ∷ rest)
      × (drop (o - 2) relaxed ≡ opcode' ∷ x86.modrm_reg_to_rm k m ∷ rest')
  immediate_codes opcode m opcode' k d room is whole' =
      codes 2 2 (opcode ∷ m ∷ d) room is (omega arith) (omega arith) (omega arith)
      (absolute 2 (operand opcode' k)) o 2 (omega arith) (omega arith) whole'

  -- the same by a rewrite that has the byte before the instruction in its window
  pub wide_codes : (x opcode m opcode' k : ℕ) (d : List ℕ) → 3 ≤ o
      → drop (o - 3) section ≡ x ∷ opcode ∷ m ∷ d
      → relaxed ≡ take o (rewritten (Some (absolute 3 (prefixed_operand 2 opcode' k))) section o)
      ++ rest'
      → (drop (o - 2) original ≡ opcode ∷ m ∷ rest)
      × (drop (o - 2) relaxed ≡ opcode' ∷ x86.modrm_reg_to_rm k m ∷ rest')
  wide_codes x opcode m opcode' k d room is whole' =
      codes 3 2 (x ∷ opcode ∷ m ∷ d) room is (omega arith) (omega arith) (omega arith)
      (absolute 3 (prefixed_operand 2 opcode' k)) o 3 (omega arith) (omega arith) whole'

  pub rex_immediate_codes : (p opcode m opcode' k : ℕ) (d : List ℕ) → 3 ≤ o
      → drop (o - 3) section ≡ p ∷ opcode ∷ m ∷ d
      → relaxed ≡ take o (rewritten (Some (absolute 3 (prefixed_operand 3 opcode' k))) section o)
      ++ rest'
      → (drop (o - 3) original ≡ p ∷ opcode ∷ m ∷ rest)
      × (drop (o - 3) relaxed ≡ x86.rex_r_to_b p ∷ opcode' ∷ x86.modrm_reg_to_rm k m ∷ rest')
  rex_immediate_codes p opcode m opcode' k d room is whole' =
      codes 3 3 (p ∷ opcode ∷ m ∷ d) room is (omega arith) (omega arith) (omega arith)
      (absolute 3 (prefixed_operand 3 opcode' k)) o 3 (omega arith) (omega arith) whole'

  -- the same after REX2
  pub rex2_lea_codes : (p opcode m opcode' : ℕ) (d : List ℕ) → 4 ≤ o
      → drop (o - 4) section ≡ 0xd5 ∷ p ∷ opcode ∷ m ∷ d
      → relaxed ≡ take o (rewritten (Some (replaces 2 1 (λ _. opcode' ∷ []))) section o) ++ rest'
      → (drop (o - 4) original ≡ 0xd5 ∷ p ∷ opcode ∷ m ∷ rest)
      × (drop (o - 4) relaxed ≡ 0xd5 ∷ p ∷ opcode' ∷ m ∷ rest')
  rex2_lea_codes p opcode m opcode' d room is whole' =
      codes 4 4 (0xd5 ∷ p ∷ opcode ∷ m ∷ d) room is (omega arith) (omega arith) (omega arith)
      (replaces 2 1 (λ _. opcode' ∷ [])) o 4 (omega arith) (omega arith) whole'

  pub rex2_immediate_codes : (p opcode m opcode' k : ℕ) (d : List ℕ) → 4 ≤ o
      → drop (o - 4) section ≡ 0xd5 ∷ p ∷ opcode ∷ m ∷ d
      → relaxed ≡ take o (rewritten (Some (absolute 3 (prefixed_operand 4 opcode' k))) section o)
      ++ rest'
      → (drop (o - 4) original ≡ 0xd5 ∷ p ∷ opcode ∷ m ∷ rest)
      × (drop (o - 4) relaxed ≡ 0xd5 ∷ x86.rex2_r_to_b p ∷ opcode' ∷ x86.modrm_reg_to_rm k m ∷ rest')
  rex2_immediate_codes p opcode m opcode' k d room is whole' =
      codes 4 4 (0xd5 ∷ p ∷ opcode ∷ m ∷ d) room is (omega arith) (omega arith) (omega arith)
      (absolute 3 (prefixed_operand 4 opcode' k)) o 4 (omega arith) (omega arith) whole'

  -- the same after EVEX
  pub evex_codes : (p w v opcode m opcode' k : ℕ) (d : List ℕ) → 6 ≤ o
      → drop (o - 6) section ≡ 0x62 ∷ p ∷ w ∷ v ∷ opcode ∷ m ∷ d
      → relaxed ≡ take o (rewritten (Some (absolute 5 (evex_operand opcode' k))) section o) ++ rest'
      → (drop (o - 6) original ≡ 0x62 ∷ p ∷ w ∷ v ∷ opcode ∷ m ∷ rest)
      × (drop (o - 6) relaxed
      ≡ 0x62 ∷ x86.evex_reg_to_rm p ∷ w ∷ v ∷ opcode' ∷ x86.modrm_reg_to_rm k m ∷ rest')
  evex_codes p w v opcode m opcode' k d room is whole' =
      codes 6 6 (0x62 ∷ p ∷ w ∷ v ∷ opcode ∷ m ∷ d) room is (omega arith) (omega arith) (omega arith)
      (absolute 5 (evex_operand opcode' k)) o 6 (omega arith) (omega arith) whole'

  -- branches
  pub call_codes : (opcode m : ℕ) (d : List ℕ) → 2 ≤ o
      → drop (o - 2) section ≡ opcode ∷ m ∷ d
      → relaxed ≡ take o (rewritten (Some (replaces 2 2 (λ _. 0x67 ∷ 0xe8 ∷ []))) section o)
      ++ rest'
      → (drop (o - 2) original ≡ opcode ∷ m ∷ rest) × (drop (o - 2) relaxed ≡ 0x67 ∷ 0xe8 ∷ rest')
  call_codes opcode m d room is whole' =
      codes 2 2 (opcode ∷ m ∷ d) room is (omega arith) (omega arith) (omega arith)
      (replaces 2 2 (λ _. 0x67 ∷ 0xe8 ∷ [])) o 2 (omega arith) (omega arith) whole'

  pub jump_codes : (opcode m : ℕ) (d : List ℕ) → 2 ≤ o
      → drop (o - 2) section ≡ opcode ∷ m ∷ d
      → relaxed ≡ take (o - 1) (rewritten (x86.x86_64_rewrite JmpIndirectToRelative) section o)
      ++ rest'
      → (drop (o - 2) original ≡ opcode ∷ m ∷ rest) × (drop (o - 2) relaxed ≡ 0xe9 ∷ rest')
  jump_codes opcode m d room is whole' =
      codes 2 2 (opcode ∷ m ∷ d) room is (omega arith) (omega arith) (omega arith)
      (puts 2 6 (0xe9 ∷ 0 ∷ 0 ∷ 0 ∷ 0 ∷ 0x90 ∷ []) (λ o. o - 1) (λ a. a)) (o - 1) 1 (omega arith) (omega arith) whole'
