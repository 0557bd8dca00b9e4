-- What a call's pair and the jumps do, once their relocations are applied.
use Rattle.linker_laws.proofs.Imports.{AreAddresses, AreBytes, CjType, IType, IsApplied, IsCallPair, JType, List, Operands, PltRelative, Some, UType, UiType, agree_below, ap, arith, auipc, drop, even, false, field, from_le_bytes, is_placed, jump_row, jumps, length, moved, negsuc, of_word, pair_row, plt_address, pos, refl, riscv_form, riscv_places, rs1_of, sums, sym, symbol_address, true, w16, w32, w64, ℕ, ◌%◌, ◌*◌, ◌+ℤ◌, ◌+◌, ◌-◌, ◌<◌, ◌^◌, ◌∙◌, ◌≡◌, ◌≤◌}
use Rattle.linker_riscv64.specs.RiscVFields.{funct3_of, opcode_of, rd_of}
use Rattle.linker_laws.proofs.Instructions.{adds, plt_from_place, symbol_from_place}
use Rattle.linker_laws.proofs.RiscV.{calls}
use Rattle.linker_laws.proofs.Words.{two_words, word_below, kept_field}
use Rattle.linker_laws.proofs.RiscVMachine.{moved_twice, cleared_sum, address_is, times_one, is_long, is_auipc, is_jalr, ui_of_words}

-- ---- the pair

module _ (x : Operands) (before code : List ℕ)
    (applied : IsApplied (pair_row PltRelative 64 UiType) x before code)
    (old : AreBytes before) (new : AreBytes code) (len : length code ≡ length before)
    (pair : IsCallPair (from_le_bytes w32 before) (from_le_bytes w32 (drop 4 before))) where
  low_word : ℕ
  low_word = from_le_bytes w32 code

  high_word : ℕ
  high_word = from_le_bytes w32 (drop 4 code)

  long_before : 8 ≤ length before
  long_before = applied.accepted.long

  long : 8 ≤ length code
  long = omega (arith, long_before, len)

  old_below : from_le_bytes w32 before < 2 ^ 32
  old_below = word_below before old (omega (arith, long_before))

  low_below : low_word < 2 ^ 32
  unfolding low_word
  low_below = word_below code new (omega (arith, long))

  keeps : (s n : ℕ)
      → agree_below (λ i. is_placed (riscv_places UiType) (s + i)) (λ _. false) n ≡ true
      → field (low_word + high_word * 2 ^ 32) s (s + n)
      ≡ field (from_le_bytes w32 before + from_le_bytes w32 (drop 4 before) * 2 ^ 32) s (s + n)
  unfolding low_word high_word
  keeps s n check =
      ap (λ w. field w s (s + n)) (sym (two_words code))
      ∙ kept_field UiType (record { start = 0; end = 64 }) applied.value before code applied.written
      (λ b w. refl) s n check
      ∙ ap (λ w. field w s (s + n)) (two_words before)

  opcode : opcode_of low_word ≡ 0x17
  opcode =
      let k = keeps 0 7 refl in
      let e = pair.auipc_opcode in
      omega (arith, k, e)

  same_register : rd_of low_word ≡ rd_of (from_le_bytes w32 before)
  same_register = let k = keeps 7 5 refl in omega (arith, k)

  jalr_opcode : opcode_of high_word ≡ 0x67
  jalr_opcode =
      let k = keeps 32 7 refl in
      let e = pair.jalr_opcode in
      omega (arith, k, e, low_below, old_below)

  jalr_function : funct3_of high_word ≡ 0
  jalr_function =
      let k = keeps 44 3 refl in
      let e = pair.jalr_function in
      omega (arith, k, e, low_below, old_below)

  same_link : rd_of high_word ≡ rd_of (from_le_bytes w32 (drop 4 before))
  same_link = let k = keeps 39 5 refl in omega (arith, k, low_below, old_below)

  base : rs1_of high_word ≡ rd_of low_word
  base =
      let k = keeps 47 5 refl in
      let e = pair.base in
      omega (arith, k, e, low_below, old_below, same_register)

  -- the words are those, and lead to the target
  pub low_long : field (from_le_bytes w32 code) 0 2 ≡ 3
  unfolding low_word
  low_long = is_long low_word 0x17 opcode refl

  pub high_long : field (from_le_bytes w32 (drop 4 code)) 0 2 ≡ 3
  unfolding high_word
  high_long = is_long high_word 0x67 jalr_opcode refl

  pub low_decodes : of_word (from_le_bytes w32 code)
      ≡ Some (auipc (rd_of (from_le_bytes w32 code)) ((riscv_form UType).machine (from_le_bytes w32 code)))
  unfolding low_word
  low_decodes = is_auipc low_word opcode

  pub high_decodes : of_word (from_le_bytes w32 (drop 4 code))
      ≡ Some (sums jumps (rd_of (from_le_bytes w32 (drop 4 code))) (rs1_of (from_le_bytes w32 (drop 4 code))) 0
      ((riscv_form IType).machine (from_le_bytes w32 (drop 4 code))))
  unfolding high_word
  high_decodes = is_jalr high_word jalr_opcode jalr_function

  pub pair_register : rd_of (from_le_bytes w32 code) ≡ rd_of (from_le_bytes w32 before)
  unfolding low_word
  pair_register = same_register

  pub pair_link : rd_of (from_le_bytes w32 (drop 4 code)) ≡ rd_of (from_le_bytes w32 (drop 4 before))
  unfolding high_word
  pair_link = same_link

  pub pair_base : rs1_of (from_le_bytes w32 (drop 4 code)) ≡ rd_of (from_le_bytes w32 before)
  unfolding low_word high_word
  pair_base = base ∙ same_register

  pub pair_leads : AreAddresses x
      → let sum = moved (moved x.place ((riscv_form UType).machine (from_le_bytes w32 code)))
      ((riscv_form IType).machine (from_le_bytes w32 (drop 4 code))) in
      sum - sum % 2 ≡ even plt_address x
  unfolding low_word high_word
  pair_leads small =
      let u = (riscv_form UType).machine low_word in
      let i = (riscv_form IType).machine high_word in
      let sum : (riscv_form UiType).machine (from_le_bytes w64 code) ≡ u +ℤ i =
      ap (riscv_form UiType).machine (two_words code) ∙ ui_of_words low_word high_word low_below in
      ap (λ n. n - n % 2) (moved_twice x.place u i ∙ ap (moved x.place) (sym sum))
      ∙ cleared_sum (pos x.place +ℤ (riscv_form UiType).machine (from_le_bytes w64 code))
      (even plt_address x) (calls plt_from_place (λ o. refl) x small x.place before code applied tt)

-- ---- jumps

module _ (y : Operands) (before code : List ℕ)
    (applied : IsApplied (jump_row 32 JType (negsuc 1048575, pos 1048575)) y before code)
    (len : length code ≡ length before) where
  pub same_opcode : opcode_of (from_le_bytes w32 code) ≡ opcode_of (from_le_bytes w32 before)
  same_opcode =
      kept_field JType (record { start = 0; end = 32 }) applied.value before code applied.written
      (λ b w. refl) 0 7 refl

  pub same_destination : rd_of (from_le_bytes w32 code) ≡ rd_of (from_le_bytes w32 before)
  same_destination =
      kept_field JType (record { start = 0; end = 32 }) applied.value before code applied.written
      (λ b w. refl) 7 5 refl

  pub jump_leads : AreAddresses y
      → moved y.place ((riscv_form JType).machine (from_le_bytes w32 code)) ≡ symbol_address y
  jump_leads small =
      times_one y.place ((riscv_form JType).machine (from_le_bytes w32 code))
      ∙ address_is _ (symbol_address y)
      (adds symbol_from_place refl refl (λ o. refl) y small y.place before code applied tt)

module _ (y : Operands) (before code : List ℕ)
    (applied : IsApplied (jump_row 16 CjType (negsuc 2047, pos 2047)) y before code)
    (len : length code ≡ length before)
    (is_short : field (from_le_bytes w16 before) 0 2 ≡ 1)
    {number : ℕ} (function : field (from_le_bytes w16 before) 13 16 ≡ number) where
  pub short_jump_low : field (from_le_bytes w16 code) 0 2 ≡ 1
  short_jump_low =
      kept_field CjType (record { start = 0; end = 16 }) applied.value before code applied.written
      (λ b w. refl) 0 2 refl ∙ is_short

  pub short_jump_function : field (from_le_bytes w16 code) 13 16 ≡ number
  short_jump_function =
      kept_field CjType (record { start = 0; end = 16 }) applied.value before code applied.written
      (λ b w. refl) 13 3 refl ∙ function

  pub short_jump_leads : AreAddresses y
      → moved y.place ((riscv_form CjType).machine (from_le_bytes w16 code)) ≡ symbol_address y
  short_jump_leads small =
      times_one y.place ((riscv_form CjType).machine (from_le_bytes w16 code))
      ∙ address_is _ (symbol_address y)
      (adds symbol_from_place refl refl (λ o. refl) y small y.place before code applied tt)
