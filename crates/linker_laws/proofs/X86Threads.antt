-- General-dynamic and local-exec TLS.
use Rattle.linker_laws.proofs.Imports.{All, All-drop, HasThreadPointer, IsApplied, IsBefore, IsTrue, List, Operands, Original, Some, [], and_parts, ap, arith, begins, byte, cast_unsigned, difference_64, drop, extended, false, field4, general_dynamic, inl, inr, is_at, is_one_at, lea_rdi, leb, leb-true, load, map, number_of_bytes, or-false, or_cases, original, pos, puts, rewritten, sum_64, sym, take, true, w64, ℕ, ℤ, ◌%◌, ◌&&◌, ◌++◌, ◌+◌, ◌-◌, ◌<◌, ◌^◌, ◌||◌, ◌∙◌, ◌∷◌, ◌≡◌, ◌≤◌}
use Rattle.linker_laws.specs.X86Groups.{thread_offset}
use Rattle.linker_laws.specs.X86Machine.{State}
use Rattle.linker_laws.proofs.X86Bytes.{begin_with}
use Rattle.linker_laws.proofs.X86Codes.{inside}
use Rattle.linker_laws.proofs.X86Fields.{tls_pair_field, tls_pair_row, thread_field, thread_row}
use Rattle.linker_laws.proofs.X86Immediates.{offset_is}
use Rattle.linker_laws.proofs.X86Loads.{from_next, at_place}
use Rattle.linker_laws.proofs.X86Sections.{original_code, rewritten_code}
use Rattle.linker_laws.proofs.Sums.{sum_zero}

-- `mov %fs:0, %rax`, and an instruction that begins so
abbrev pub load_bytes : ℕ → ℕ → List ℕ
load_bytes opcode modrm =
    0x64 ∷ 0x48 ∷ 0x8b ∷ 0x04 ∷ 0x25 ∷ 0 ∷ 0 ∷ 0 ∷ 0 ∷ 0x48 ∷ opcode ∷ modrm ∷ []

-- `lea x(%rip), %rdi`
abbrev pub plain_lea_bytes : List ℕ
plain_lea_bytes = 0x48 ∷ 0x8d ∷ 0x3d ∷ []

abbrev pub lea_bytes : List ℕ
lea_bytes = 0x66 ∷ plain_lea_bytes

abbrev by_plt : Original
by_plt =
    original 4 (byte 0x66 ∷ lea_rdi ++ byte 0x66 ∷ byte 0x66 ∷ byte 0x48 ∷ byte 0xe8 ∷ field4)

abbrev by_got : Original
by_got =
    original 4 (byte 0x66 ∷ lea_rdi ++ byte 0x66 ∷ byte 0x48 ∷ byte 0xff ∷ byte 0x15 ∷ field4)

-- a sequence that begins with some bytes
pub starts_with : (back : ℕ) (lead : List ℕ) (ps : List (ℕ × ℕ)) (section : List ℕ) (o : ℕ)
    → All (λ b. b < 2 ^ 8) section
    → (leb back o && begins (map byte lead ++ ps) (drop (o - back) section)) ≡ true
    → (back ≤ o) × ((rest : List ℕ) × (drop (o - back) section ≡ lead ++ rest))
starts_with back lead ps section o bytes h =
    let both = and_parts _ _ h in (
      leb-true back o both.0,
      begin_with lead ps (drop (o - back) section)
          (All-drop (λ b. b < 2 ^ 8) (o - back) section bytes) both.1,
    )

pub begins_with_lea : (section : List ℕ) (o : ℕ) → All (λ b. b < 2 ^ 8) section
    → IsTrue (is_one_at general_dynamic section o)
    → (4 ≤ o) × ((rest : List ℕ) × (drop (o - 4) section ≡ lea_bytes ++ rest))
begins_with_lea section o bytes h =
    elim (or_cases (is_at by_plt section o) (is_at by_got section o || false) h) [
      | inl one ↦
          starts_with 4 lea_bytes
          (field4 ++ byte 0x66 ∷ byte 0x66 ∷ byte 0x48 ∷ byte 0xe8 ∷ field4) section o bytes one
      | inr other ↦
          starts_with 4 lea_bytes
          (field4 ++ byte 0x66 ∷ byte 0x48 ∷ byte 0xff ∷ byte 0x15 ∷ field4) section o bytes
          (sym (or-false (is_at by_got section o)) ∙ other)
    ]

pub itself : (a : ℕ) → a < 2 ^ 64 → a % 2 ^ 64 ≡ a
itself a small = omega arith

pub offset_from : (fs x offset : ℕ) → x % 2 ^ 64 ≡ offset → sum_64 fs x % 2 ^ 64 ≡ sum_64 fs offset
offset_from fs x offset is = omega arith

pub pointer : (s : State) → HasThreadPointer s → load 8 s (sum_64 s.fs (extended 0)) ≡ s.fs
pointer s thread = ap (load 8 s) (sum_zero s.fs thread.small) ∙ thread.word

-- the code before and after
pub record Codes (old new : List ℕ) (at : ℕ) (lead bytes : List ℕ) : Type 0 where
  pub first : drop at old ≡ lead
  pub second : drop at new ≡ bytes

pub codes : (section old new rest rest' : List ℕ) (o opcode modrm : ℕ) (addend : ℤ → ℤ)
    → All (λ b. b < 2 ^ 8) section → IsTrue (is_one_at general_dynamic section o)
    → old ≡ take o section ++ rest
    → new ≡ take (o + 8)
    (rewritten (Some (puts 4 12 (load_bytes opcode modrm) (λ o. o + 8) addend)) section o) ++ rest'
    → Codes old new (o - 4) (lea_bytes ++ rest) (load_bytes opcode modrm ++ rest')
codes section old new rest rest' o opcode modrm addend bytes matches was is =
    let shape = begins_with_lea section o bytes matches in
    let d = shape.1.0 in
    let room = shape.0 in
    let long = inside section (lea_bytes ++ d) o 4 (omega arith) room shape.1.1 (omega arith) in
    record {
      first =
          ap (drop (o - 4)) was ∙ original_code section rest o 4 4 room long (omega arith)
          ∙ ap (λ xs. drop (4 - 4) (take 4 xs ++ rest)) shape.1.1;
      second =
          ap (drop (o - 4)) is
          ∙ rewritten_code section rest' o 4 4 room long (omega arith)
          (puts 4 12 (load_bytes opcode modrm) (λ o. o + 8) addend) (o + 8) 12 (omega arith)
          (omega arith);
    }

-- the argument of the call
pub argument : (n : ℕ) → n < 8 → (section : List ℕ) (o : ℕ) (operands : Operands) (s : State)
    (bytes rest : List ℕ) → IsBefore n section o operands s
    → IsApplied tls_pair_row operands bytes rest
    → sum_64 (sum_64 s.ip (n + 4)) (extended (number_of_bytes 4 rest)) ≡ operands.got_entry
argument n short section o operands s bytes rest before applied =
    from_next n s.ip operands.place (extended (number_of_bytes 4 rest)) operands.got_entry
    short before.addresses.place before.addresses.got_entry before.ip
    (tls_pair_field operands before.addresses bytes rest applied
    ∙ ap (λ a. sum_64 operands.got_entry (cast_unsigned w64 a)) before.addend)

-- the offset from the thread pointer, in the field of a `lea` with no addend at another offset
pub offset_field : (n : ℕ) (section : List ℕ) (o p : ℕ) (operands : Operands) (s : State)
    (bytes rest : List ℕ) → IsBefore n section o operands s → p < 2 ^ 64
    → IsApplied thread_row (record operands { place = p; addend = pos 0 }) bytes rest
    → extended (number_of_bytes 4 rest) % 2 ^ 64 ≡ thread_offset operands
offset_field n section o p operands s bytes rest before small applied =
    offset_is (extended (number_of_bytes 4 rest)) operands.symbol operands.tls_base
    before.addresses.symbol before.addresses.tls_base
    (thread_field (record operands { place = p; addend = pos 0 })
    (at_place operands p (pos 0) before.addresses small) bytes rest applied
    ∙ sum_zero operands.symbol before.addresses.symbol)

-- from the place of a field 8 bytes on, of the second instruction
pub from_second : (ip place o e t : ℕ) → 4 ≤ o → o < 2 ^ 64 → place < 2 ^ 64 → t < 2 ^ 64
    → ip ≡ difference_64 place 4
    → sum_64 (difference_64 (sum_64 place (o + 8)) o) e ≡ sum_64 t (2 ^ 64 - 4)
    → sum_64 (sum_64 (sum_64 ip 9) 7) e ≡ t
from_second ip place o e t room offset small target begins leads = omega arith

pub added : (a b fs offset : ℕ) → fs < 2 ^ 64 → a ≡ fs → b ≡ offset
    → (a % 2 ^ 64 + b + 0) % 2 ^ 64 ≡ sum_64 fs offset
added a b fs offset small first second = omega arith
