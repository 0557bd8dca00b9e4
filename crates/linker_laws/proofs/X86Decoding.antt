-- How instructions are decoded before and after a rewrite.
use Rattle.linker_laws.proofs.Imports.{IsBefore, IsSomeAnd, IsTrue, List, None, Operands, Operation, Option, Original, Prefix, Some, X86_64Relocation, [], ap, ap₂, arith, bit_at, cond-false, cond-true, decode, decode_modrm, decode_opcode, decode_relative, drop, eqb, execute, from_le_bytes, get_or, immediate, immediate_operation, is_one_at, is_register, is_relative, is_rex, length, load, number_of_bytes, offset_after, on_immediate, operands_after, operate, refl, reg_of, register, replicate, rewritten, rex2_prefix, rex_prefix, sets_flags, sized, subst, suc, suc-add, sum_64, take, true, w64, x86_64_matches, x86_64_relocation_after, x86_64_rewrite, zero, ℕ, ◌++◌, ◌+◌, ◌-◌, ◌∙◌, ◌∷◌, ◌≡◌}
use Rattle.linker_utils.specs.X86Rewrites as x86
use Rattle.linker_laws.specs.X86Machine.{Instruction, State}
use Rattle.linker_laws.specs.X86Groups.{IsRelocated}
use Rattle.linker_laws.proofs.X86Bytes.{IsMoved}
use Rattle.linker_utils.specs.declared.x86_64.rewrites.RewriteKind.{RewriteKind}

-- by the ModRM byte of a relative address
pub from_relative : (p : Prefix) (opcode m : ℕ) (rest : List ℕ) → is_relative m ≡ true
    → decode_modrm p opcode (m ∷ rest) ≡ decode_relative p opcode m rest
from_relative p opcode m rest h = cond-true (is_relative m) _ _ h

-- by that of a register and an immediate
pub from_immediate : (p : Prefix) (opcode k extension m : ℕ) (op : Operation) (rest : List ℕ)
    → IsMoved k extension m → immediate_operation opcode extension ≡ Some op
    → decode_modrm p opcode (x86.modrm_reg_to_rm k m ∷ rest)
    ≡ sized p 6 (operate op p.bits (register (reg_of m + p.rm)) (immediate (number_of_bytes 4 rest)))
from_immediate p opcode k extension m op rest moved is =
    let b = x86.modrm_reg_to_rm k m in
    cond-false (is_relative b) _ _ moved.not_relative
    ∙ cond-true (is_register b) _ _ moved.is
    ∙ ap (λ e. on_immediate p b (immediate_operation opcode e) rest) moved.extension
    ∙ ap (λ op. on_immediate p b op rest) is
    ∙ ap (λ r. sized p 6 (operate op p.bits (register (r + p.rm))
    (immediate (number_of_bytes 4 rest)))) moved.moved

-- after a REX byte
pub after_rex_byte : (p : ℕ) (rest : List ℕ) → is_rex p ≡ true
    → decode (p ∷ rest) ≡ decode_opcode (rex_prefix p) rest
after_rex_byte p rest h = cond-true (is_rex p) _ _ h

-- after d5 and a byte with M0 0
pub after_rex2_byte : (p : ℕ) (rest : List ℕ) → eqb (bit_at p 7) 0 ≡ true
    → decode (0xd5 ∷ p ∷ rest) ≡ decode_opcode (rex2_prefix p) rest
after_rex2_byte p rest h = cond-true (eqb (bit_at p 7) 0) _ _ h

-- ---- code before and after

-- Bytes are some, and others that begin with the same field.
pub record IsBegun (first rest bytes : List ℕ) : Type 0 where
  pub after : List ℕ
  pub is : bytes ≡ first ++ after
  pub field : number_of_bytes 4 after ≡ number_of_bytes 4 rest

pub begun : (first rest bytes : List ℕ)
    → take (length first + 4) bytes ≡ take (length first + 4) (first ++ rest)
    → IsBegun first rest bytes
begun [] rest bytes e =
    record {
      after = bytes;
      is = refl;
      field = ap (λ xs. from_le_bytes w64 (xs ++ replicate 4 0)) e;
    }
begun (b ∷ first) rest [] e =
    absurd (none (subst (λ m. take m [] ≡ take m (b ∷ first ++ rest)) (suc-add (length first) 4) e))
  where
    none : [] ≡ b ∷ take (length first + 4) (first ++ rest) → ⊥
    none e = let long = ap length e in omega arith
begun (b ∷ first) rest (c ∷ bytes) e =
    let e' = subst (λ m. take m (c ∷ bytes) ≡ take m (b ∷ first ++ rest)) (suc-add (length first) 4)
    e in
    let more = begun first rest bytes (ap (drop 1) e') in
    record {
      after = more.after;
      is = ap₂ (λ x xs. x ∷ xs) (ap (λ xs. get_or xs 0 0) e') more.is;
      field = more.field;
    }

-- one byte fewer
pub fewer : (m : ℕ) (xs ys : List ℕ) → take (suc m) xs ≡ take (suc m) ys → take m xs ≡ take m ys
fewer zero xs ys e = refl
fewer (suc m) [] [] e = refl
fewer (suc m) [] (y ∷ ys) e = let long = ap length e in absurd (omega arith)
fewer (suc m) (x ∷ xs) [] e = let long = ap length e in absurd (omega arith)
fewer (suc m) (x ∷ xs) (y ∷ ys) e =
    ap₂ (λ x xs. x ∷ xs) (ap (λ xs. get_or xs 0 0) e) (fewer m xs ys (ap (drop 1) e))

-- What an instruction of m bytes does, another one of m bytes does, without memory. It goes on.
pub record Replaces (m : ℕ) (old new : List ℕ) (s : State) : Type 0 where
  pub instruction : Instruction
  pub instruction' : Instruction
  pub was : decode old ≡ Some (record { instruction = instruction; size = m })
  pub is : decode new ≡ Some (record { instruction = instruction'; size = m })
  pub same : execute instruction (sum_64 s.ip m) s ≡ execute instruction' (sum_64 s.ip m) s
  pub flags : sets_flags instruction ≡ sets_flags instruction'
  pub alone : (memory : ℕ → ℕ)
      → execute instruction' (sum_64 s.ip m) (record s { memory = memory })
      ≡ record (execute instruction' (sum_64 s.ip m) s) { memory = memory }
  pub goes_on : (execute instruction' (sum_64 s.ip m) s).ip ≡ sum_64 s.ip m

-- Code does so that begins with the bytes of both, up to the field n bytes after the first.
abbrev pub AreReplaced : ℕ → List ℕ → List ℕ → State → Type 0
AreReplaced n before after s =
    (old new : List ℕ) → take (n + 4) old ≡ take (n + 4) before
    → take (n + 4) new ≡ take (n + 4) after → Replaces (n + 4) old new s

-- ---- the laws

pub map_some : {T : Type 0} (o : Option T) (P Q : T → Type 0) → ((x : T) → P x → Q x)
    → IsSomeAnd o P → IsSomeAnd o Q
map_some None P Q f h = h
map_some (Some x) P Q f h = f x h

-- What holds of code before and after, of operands and of a state, wherever a law's premises hold.
abbrev pub Rewrites : ℕ → List Original → X86_64Relocation → RewriteKind → (Operands → ℕ)
    → (List ℕ → List ℕ → Operands → State → Type 0) → Type 0
Rewrites n instructions name kind held Holds =
    IsSomeAnd (x86_64_relocation_after kind name) (λ after.
    (section original relaxed : List ℕ) (o : ℕ) (operands : Operands) (s : State)
    → IsBefore n section o operands s
    → IsTrue (is_one_at instructions section o)
    → x86_64_matches kind section o
    → load 8 s operands.got_entry ≡ held operands
    → IsRelocated name operands o section original
    → IsRelocated after (operands_after (x86_64_rewrite kind) o operands)
    (offset_after (x86_64_rewrite kind) o) (rewritten (x86_64_rewrite kind) section o) relaxed
    → Holds (drop (o - n) original) (drop (o - n) relaxed) operands s)

abbrev pub Replaced : ℕ → List Original → X86_64Relocation → RewriteKind → (Operands → ℕ) → Type 0
Replaced n instructions name kind held =
    Rewrites n instructions name kind held (λ before after operands s. AreReplaced n before after s)
