-- TLS sequences of the large code model.
use Rattle.linker_laws.proofs.Imports.{All, IsTrue, List, Original, [], ap, arith, cast_unsigned, drop, drop-drop, false, field4, inl, inr, is_at, is_one_at, large, large_call, lea_rdi, low_bytes, or-false, or_cases, original, pos, puts, rewritten, sym, take, w64, x86_64_rewrite, ℕ, ℤ, ◌++◌, ◌+◌, ◌-◌, ◌<◌, ◌^◌, ◌||◌, ◌∙◌, ◌∷◌, ◌≡◌, ◌≤◌}
use Rattle.linker_utils.specs.declared.x86_64.rewrites.RewriteKind.TheVariants as kinds
use Rattle.linker_laws.proofs.X86Codes.{inside}
use Rattle.linker_laws.proofs.X86Sections.{original_code, rewritten_code, code_after}
use Rattle.linker_laws.proofs.X86Threads.{Codes, starts_with, load_bytes, plain_lea_bytes}

abbrev by_rbx : Original
by_rbx = original 3 (lea_rdi ++ large_call 0x48 0xd8)

abbrev by_r15 : Original
by_r15 = original 3 (lea_rdi ++ large_call 0x4c 0xf8)

pub begins_with_lea : (section : List ℕ) (o : ℕ) → All (λ b. b < 2 ^ 8) section
    → IsTrue (is_one_at large section o)
    → (3 ≤ o) × ((rest : List ℕ) × (drop (o - 3) section ≡ plain_lea_bytes ++ rest))
begins_with_lea section o bytes h =
    elim (or_cases (is_at by_rbx section o) (is_at by_r15 section o || false) h) [
      | inl one ↦
          starts_with 3 plain_lea_bytes (field4 ++ large_call 0x48 0xd8) section o bytes one
      | inr other ↦
          starts_with 3 plain_lea_bytes (field4 ++ large_call 0x4c 0xf8) section o bytes
          (sym (or-false (is_at by_r15 section o)) ∙ other)
    ]

-- `nopw 0(%rax,%rax,1)`
abbrev pub nop_bytes : List ℕ
nop_bytes = 0x66 ∷ 0x0f ∷ 0x1f ∷ 0x44 ∷ 0 ∷ 0 ∷ []

abbrev put_bytes : List ℕ
put_bytes = load_bytes 0x8d 0x80 ++ 0 ∷ 0 ∷ 0 ∷ 0 ∷ nop_bytes

-- after the field of 4 bytes
following : (section d : List ℕ) (o : ℕ) → 3 ≤ o → drop (o - 3) section ≡ plain_lea_bytes ++ d
    → drop 4 (drop (o + 9) (rewritten (x86_64_rewrite kinds.TlsGdToLocalExecLarge) section o))
    ≡ nop_bytes ++ drop 22 (drop (o - 3) section)
following section d o room is =
    let long = inside section (plain_lea_bytes ++ d) o 3 (omega arith) room is (omega arith) in
    let after = rewritten (x86_64_rewrite kinds.TlsGdToLocalExecLarge) section o in
    drop-drop 4 (o + 9) after
    ∙ ap (λ i. drop i after) (let e : o + 9 + 4 ≡ o - 3 + 16 = omega arith in e)
    ∙ sym (drop-drop 16 (o - 3) after)
    ∙ ap (drop 16) (code_after section [] o 3 3 room long (omega arith)
    (puts 3 22 put_bytes (λ o. o + 9) (λ _. pos 0)) (omega arith))

-- the field, and what follows it
abbrev pub field_and_nop : List ℕ → ℕ → ℤ → List ℕ
field_and_nop section o value =
    low_bytes 4 (cast_unsigned w64 value) ++ nop_bytes ++ drop 22 (drop (o - 3) section)

-- by how the rewritten field was written
module _ (section : List ℕ) (o : ℕ) (value : ℤ) (rest' : List ℕ)
    (shape : (3 ≤ o) × ((rest : List ℕ) × (drop (o - 3) section ≡ plain_lea_bytes ++ rest)))
    (written : rest' ≡ low_bytes 4 (cast_unsigned w64 value)
    ++ drop 4 (drop (o + 9) (rewritten (x86_64_rewrite kinds.TlsGdToLocalExecLarge) section o))) where
  pub splits : rest' ≡ field_and_nop section o value
  splits =
      written ∙ ap (λ xs. low_bytes 4 (cast_unsigned w64 value) ++ xs)
      (following section shape.1.0 o shape.0 shape.1.1)

  pub code : (old new rest : List ℕ) → old ≡ take o section ++ rest
      → new ≡ take (o + 9) (rewritten (x86_64_rewrite kinds.TlsGdToLocalExecLarge) section o) ++ rest'
      → Codes old new (o - 3) (plain_lea_bytes ++ rest)
      (load_bytes 0x8d 0x80 ++ field_and_nop section o value)
  code old new rest was is =
      let room = shape.0 in
      let long = inside section (plain_lea_bytes ++ shape.1.0) o 3 (omega arith) room shape.1.1
      (omega arith) in
      record {
        first =
            ap (drop (o - 3)) was ∙ original_code section rest o 3 3 room long (omega arith)
            ∙ ap (λ xs. drop (3 - 3) (take 3 xs ++ rest)) shape.1.1;
        second =
            ap (drop (o - 3)) is
            ∙ rewritten_code section rest' o 3 3 room long (omega arith)
            (puts 3 22 put_bytes (λ o. o + 9) (λ _. pos 0)) (o + 9) 12 (omega arith) (omega arith)
            ∙ ap (λ xs. load_bytes 0x8d 0x80 ++ xs) splits;
      }
