-- Four moves load a number of 64 bits.
use Rattle.linker_utils.proofs.Imports.{List, None, Some, and_from, ap, arith, cond-true, eq-eqb, eqb, field, from_le_bytes, from_le_bytes-to_le_bytes_4, imm_of, is_move, mov4, mov_word, mov_words, moved4, movk, rd_of, to_le_bytes, true, w32, with_bits, ℕ, ◌%◌, ◌&&◌, ◌*◌, ◌++◌, ◌<◌, ◌^◌, ◌∙◌, ◌≡◌, ◌≤◌}
use Rattle.linker_elf.specs.AArch64.{opcode_of, shift_of, movz_opcode, movk_opcode}

move_is : (opcode rd word : ℕ) → opcode_of word ≡ opcode → rd_of word ≡ rd → is_move opcode rd word ≡ true
move_is opcode rd word o r = and_from (eqb (opcode_of word) opcode) (eqb (rd_of word) rd) (eq-eqb (opcode_of word) opcode o) (eq-eqb (rd_of word) rd r)

movk_is : (v word shift bits : ℕ) → shift_of word ≡ shift → imm_of word ≡ bits → movk v word ≡ with_bits v shift bits
movk_is v word shift bits s b = ap (λ k. with_bits v k (imm_of word)) s ∙ ap (with_bits v shift) b

module _ (rd v : ℕ) (small : rd ≤ 30) (fits : v < 2 ^ 64) where
  a : ℕ
  a = mov_word 0xd2800000 rd (field v 0 16)

  b : ℕ
  b = mov_word 0xf2a00000 rd (field v 16 32)

  c : ℕ
  c = mov_word 0xf2c00000 rd (field v 32 48)

  d : ℕ
  d = mov_word 0xf2e00000 rd (field v 48 64)

  a_move : is_move movz_opcode rd a ≡ true
  unfolding a
  a_move = move_is movz_opcode rd a (omega arith) (omega arith)

  b_move : is_move movk_opcode rd b ≡ true
  unfolding b
  b_move = move_is movk_opcode rd b (omega arith) (omega arith)

  c_move : is_move movk_opcode rd c ≡ true
  unfolding c
  c_move = move_is movk_opcode rd c (omega arith) (omega arith)

  d_move : is_move movk_opcode rd d ≡ true
  unfolding d
  d_move = move_is movk_opcode rd d (omega arith) (omega arith)

  first : imm_of a * 2 ^ shift_of a ≡ v % 2 ^ 16
  unfolding a
  first =
      let shift : shift_of a ≡ 0 = omega arith in
      let bits : imm_of a ≡ v % 2 ^ 16 = omega arith in
      ap (λ k. imm_of a * 2 ^ k) shift ∙ ap (λ i. i * 2 ^ 0) bits ∙ omega arith

  second : movk (v % 2 ^ 16) b ≡ v % 2 ^ 32
  unfolding b
  second = movk_is (v % 2 ^ 16) b 16 (field v 16 32) (omega arith) (omega arith) ∙ omega arith

  third : movk (v % 2 ^ 32) c ≡ v % 2 ^ 48
  unfolding c
  third = movk_is (v % 2 ^ 32) c 32 (field v 32 48) (omega arith) (omega arith) ∙ omega arith

  fourth : movk (v % 2 ^ 48) d ≡ v
  unfolding d
  fourth = movk_is (v % 2 ^ 48) d 48 (field v 48 64) (omega arith) (omega arith) ∙ omega arith

  four_moved : moved4 rd a b c d ≡ Some v
  four_moved =
      cond-true (is_move movz_opcode rd a && (is_move movk_opcode rd b && (is_move movk_opcode rd c && is_move movk_opcode rd d)))
      (Some (movk (movk (movk (imm_of a * 2 ^ shift_of a) b) c) d)) None
      (and_from (is_move movz_opcode rd a) (is_move movk_opcode rd b && (is_move movk_opcode rd c && is_move movk_opcode rd d)) a_move
      (and_from (is_move movk_opcode rd b) (is_move movk_opcode rd c && is_move movk_opcode rd d) b_move
      (and_from (is_move movk_opcode rd c) (is_move movk_opcode rd d) c_move d_move)))
      ∙ ap (λ x. Some (movk (movk (movk x b) c) d)) first
      ∙ ap (λ x. Some (movk (movk x c) d)) second
      ∙ ap (λ x. Some (movk x d)) third
      ∙ ap Some fourth

  pub moves_load : (s rest : List ℕ) → s ≡ mov_words rd v ++ rest → mov4 rd s ≡ Some v
  unfolding a b c d
  moves_load s rest e =
      ap (mov4 rd) e
      ∙ ap (λ w. moved4 rd w (from_le_bytes w32 (to_le_bytes w32 b)) (from_le_bytes w32 (to_le_bytes w32 c)) (from_le_bytes w32 (to_le_bytes w32 d))) (from_le_bytes-to_le_bytes_4 a (omega arith))
      ∙ ap (λ w. moved4 rd a w (from_le_bytes w32 (to_le_bytes w32 c)) (from_le_bytes w32 (to_le_bytes w32 d))) (from_le_bytes-to_le_bytes_4 b (omega arith))
      ∙ ap (λ w. moved4 rd a b w (from_le_bytes w32 (to_le_bytes w32 d))) (from_le_bytes-to_le_bytes_4 c (omega arith))
      ∙ ap (λ w. moved4 rd a b c w) (from_le_bytes-to_le_bytes_4 d (omega arith))
      ∙ four_moved
