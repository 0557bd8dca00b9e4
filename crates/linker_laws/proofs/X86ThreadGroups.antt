-- x86-64's groups of general- and local-dynamic TLS.
use Rattle.linker_laws.proofs.Imports.{ADD, AddsOffset, Agree, ThreadCall, ⊤, AreAddresses, AreOf, AreStored, GeneralDynamic, Group, HasPointer, HasThreadPointer, IsApplied, IsBefore, IsRelocatedBy, Kind, Kinds, Link, List, LocalDynamic, ModuleCall, Operands, Some, State, [], anything, ap, ap₂, arith, byte, bytes_at, cases_Bool, cast_unsigned, cond-false, decode, difference_64, drop, eq-eqb, execute, extended, field4, get_or, go_to, half, inl, inr, is_at, is_flag, lea, lea_from, lea_rdi, length, lit≤, load, load_thread, number_of_bytes, of_link, operate, or-false, original as original_at, pos, put, puts, refl, register, relative, rewritten, run, same, subst, suc, sum_64, sym, take, w64, with_register, x86_64_rewrite, zero, ℕ, ◌%◌, ◌++◌, ◌+◌, ◌-◌, ◌<◌, ◌==◌, ◌^◌, ◌∙◌, ◌∷◌, ◌≡◌, ◌≤◌, ◌⊎◌}
use Rattle.linker_laws.specs.X86Groups.{Code, Returns, Stands, left, link, machine, seen, thread_offset}
use Rattle.linker_laws.specs.X86Machine.{nop}
use Rattle.linker_laws.proofs.Agreement.{agree_open, agree_put, both_true, group_of, last_counts}
use Rattle.linker_laws.proofs.CoveredRuns.{holds_of, run_first, run_on}
use Rattle.linker_laws.proofs.Relocated.{addresses as are_addresses}
use Rattle.linker_laws.proofs.Sums.{difference_below, sum_on, sum_below}
use Rattle.linker_laws.proofs.X86Codes.{inside}
use Rattle.linker_laws.proofs.X86Decoding.{IsBegun, begun}
use Rattle.linker_laws.proofs.X86Fields.{tls_entry_field, tls_module_row, tls_pair_row}
use Rattle.linker_laws.proofs.X86Groups.{goes, one_on, starts, take_bytes}
use Rattle.linker_laws.proofs.X86LargeThreads as larges
use Rattle.linker_laws.proofs.X86LocalDynamic as dynamic
use Rattle.linker_laws.proofs.X86Sections.{code_after, original_code}
use Rattle.linker_laws.proofs.X86Threads.{added, argument, begins_with_lea, codes, from_second, itself, lea_bytes, load_bytes, offset_field, offset_from, plain_lea_bytes, pointer, starts_with}
use Rattle.linker_utils.specs.declared.x86_64.rewrites.RewriteKind.TheVariants as kinds

-- ---- bytes of code

abbrev plus : ℕ → ℕ → ℕ
plus zero n = n
plus (suc m) n = suc (plus m n)

-- n bytes on
abbrev steps : ℕ → ℕ → ℕ
steps zero a = a
steps (suc n) a = steps n (sum_64 a 1)

steps_are : (n a : ℕ) → a < 2 ^ 64 → steps n a ≡ sum_64 a n
steps_are zero a small = omega arith
steps_are (suc n) a small = steps_are n (sum_64 a 1) (sum_below a 1) ∙ one_on a n

skip : (m n : ℕ) (code : ℕ → ℕ) (a : ℕ) → drop m (bytes_at (plus m n) code a) ≡ bytes_at n code (steps m a)
skip zero n code a = refl
skip (suc m) n code a = skip m n code (sum_64 a 1)

-- what stands n bytes on
on : (m n : ℕ) (code : ℕ → ℕ) (a : ℕ) (bytes : List ℕ) → n ≤ 15 → a < 2 ^ 64
    → bytes_at (plus m n) code a ≡ bytes → take n (bytes_at 15 code (sum_64 a m)) ≡ drop m bytes
on m n code a bytes few small stands =
    take_bytes n 15 code (sum_64 a m) few ∙ ap (bytes_at n code) (sym (steps_are m a small))
    ∙ sym (skip m n code a) ∙ ap (drop m) stands

-- bytes that begin with some
opened : (first bytes : List ℕ) → take (length first) bytes ≡ first → (rest : List ℕ) × (bytes ≡ first ++ rest)
opened [] bytes e = (bytes, refl)
opened (b ∷ first) [] e = let long = ap length e in absurd (omega arith)
opened (b ∷ first) (c ∷ bytes) e =
    let more = opened first bytes (ap (drop 1) e) in
    (more.0, ap₂ (λ x xs. x ∷ xs) (ap (λ xs. get_or xs 0 0) e) more.1)

-- ---- states

-- new alone changes registers that may be anything
agree_new : (l : Link) (k : Kinds) (s t u : State) → Agree l k s t → u.pc ≡ t.pc → u.memory ≡ t.memory
    → u.outside ≡ t.outside
    → ((r : ℕ) → (k.registers r ≡ anything) ⊎ (u.registers r ≡ t.registers r)) → Agree l k s u
agree_new l k s t u agree pc memory outside registers =
    record {
      small = agree.small;
      pc = pc ∙ agree.pc;
      registers = λ r. elim (registers r) [
        | inl free ↦ subst (λ kind. AreOf l 8 kind (s.registers r) (u.registers r)) (sym free) tt
        | inr kept ↦ subst (AreOf l 8 (k.registers r) (s.registers r)) (sym kept) (agree.registers r)
      ];
      memory = λ a below.
          subst (λ m. AreStored l (k.memory a) s.memory m a) (sym memory) (agree.memory a below);
      outside = agree.outside ∙ sym outside;
    }

-- ---- groups

-- The `lea` of the GOT entry stands in old.
record IsArgument (c : Code) (o : Operands) (m : ℕ) (s : State) : Type 0 where
  pub f : ℕ
  pub is : decode (bytes_at 15 c.old s.pc) ≡ Some (record { instruction = lea 64 7 f; size = m })
  pub leads : sum_64 (sum_64 s.pc m) (extended f) % 2 ^ 64 ≡ o.got_entry

-- Whatever state of new agrees, its instructions leave one that differs from `put` by what may be
-- anything.
record Leaves (c : Code) (n count : ℕ) (k' : Kinds) (number : ℕ) (s t : State) : Type 0 where
  pub state : State
  pub goes_there : run count (machine c.others c.new) t ≡ Some state
  pub pc : state.pc ≡ sum_64 s.pc n
  pub memory : state.memory ≡ t.memory
  pub outside : state.outside ≡ t.outside
  pub registers : (r : ℕ)
      → (k'.registers r ≡ anything)
      ⊎ (state.registers r ≡ (put 0 number (sum_64 s.pc n) t).registers r)

call_group : (c : Code) (o : Operands) (m n more : ℕ) (kind : Kind) (address number : ℕ) (k k' : Kinds)
    (s s' : State) → IsArgument c o m s → Returns c o m n kind address k s k' s'
    → AreOf (link c) 8 kind address number
    → ((t : State) → Agree (link c) k s t → Leaves c n (suc more) k' number s t)
    → Group (of_link (link c)) (suc more) k s k' s'
call_group c o m n more kind address number k k' s s' argument returns are leaves =
    let next = sum_64 s.pc n in
    group_of (link c) more returns.executes
    (run_first returns.executes (machine c.others c.old) s (put 7 o.got_entry (sum_64 s.pc m) s)
    (Some s')
    (goes c.others (bytes_at 15 c.old s.pc) s
    (record { instruction = lea 64 7 argument.f; size = m }) argument.is
    ∙ ap (λ x. Some (put 7 x (sum_64 s.pc m) s)) argument.leads) returns.returns)
    (λ t agree.
    let l = leaves t agree in
    holds_of (run (suc more) (machine c.others c.new) t) (Agree (link c) k' s') l.state l.goes_there
    (agree_new (link c) k' s' (put 0 number next t) l.state
    (agree_open (link c) (with_register 0 kind k) k' (put 0 address next s) s' (put 0 number next t)
    (agree_put (link c) k s t 0 kind address number next next agree (sum_below s.pc n) refl are)
    returns.changes) l.pc l.memory l.outside l.registers))

-- `mov %fs:0, %rax` of a number of bytes
moves : (c : Code) (t : State) (a m : ℕ) → t.pc ≡ a
    → decode (bytes_at 15 c.new a) ≡ Some (record { instruction = load_thread 0 0; size = m })
    → HasThreadPointer (seen t)
    → machine c.others c.new t ≡ Some (put 0 (t.registers 38) (sum_64 a m) t)
moves c t a m at is thread =
    ap (λ a. machine c.others c.new (record t { pc = a })) at
    ∙ goes c.others (bytes_at 15 c.new a) (record t { pc = a })
    (record { instruction = load_thread 0 0; size = m }) is
    ∙ ap (λ x. Some (put 0 x (sum_64 a m) t)) (pointer (seen t) thread)

-- ---- local-dynamic

-- the rewrite puts some bytes
module _ (section original : List ℕ) (o : ℕ)
    (shape : (3 ≤ o) × ((rest : List ℕ) × (drop (o - 3) section ≡ plain_lea_bytes ++ rest))) where
  long : o ≤ length section
  long = inside section (plain_lea_bytes ++ shape.1.0) o 3 (omega arith) shape.0 shape.1.1 (omega arith)

  lea_code : (rest : List ℕ) → original ≡ take o section ++ rest
      → drop (o - 3) original ≡ plain_lea_bytes ++ rest
  lea_code rest whole =
      ap (drop (o - 3)) whole ∙ original_code section rest o 3 3 shape.0 long (omega arith)
      ∙ ap (λ xs. drop (3 - 3) (take 3 xs ++ rest)) shape.1.1

  put_code : (len : ℕ) (bytes : List ℕ) (offset : ℕ → ℕ)
      → drop (o - 3) (rewritten (Some (puts 3 len bytes offset (λ a. a))) section o)
      ≡ bytes ++ drop (3 - 3 + len) (drop (o - 3) section)
  put_code len bytes offset =
      code_after section [] o 3 3 shape.0 long (omega arith) (puts 3 len bytes offset (λ a. a))
      (omega arith)

  -- the `lea` after its relocation
  plain_argument : (c : Code) (operands : Operands) (s : State) → operands.got_entry < 2 ^ 64
      → (rest : List ℕ) → original ≡ take o section ++ rest
      → sum_64 (sum_64 s.pc 7) (extended (number_of_bytes 4 rest)) ≡ operands.got_entry
      → Stands c.old s.pc 7 (drop (o - 3) original) → IsArgument c operands 7 s
  plain_argument c operands s small rest whole leads stands =
      let b = begun plain_lea_bytes rest (bytes_at 15 c.old s.pc)
      (starts 7 c.old s.pc (drop (o - 3) original) (lit≤ tt) stands
      ∙ ap (take 7) (lea_code rest whole)) in
      record {
        f = number_of_bytes 4 b.after;
        is = ap decode b.is;
        leads =
            ap (λ f. sum_64 (sum_64 s.pc 7) (extended f) % 2 ^ 64) b.field
            ∙ ap (λ a. a % 2 ^ 64) leads ∙ itself operands.got_entry small;
      }

  module_argument : (c : Code) (operands : Operands) (s : State) → IsBefore 3 section o operands (seen s)
      → IsRelocatedBy tls_module_row operands o section original
      → Stands c.old s.pc 7 (drop (o - 3) original) → IsArgument c operands 7 s
  module_argument c operands s before was =
      plain_argument c operands s before.addresses.got_entry was.rest was.whole
      (dynamic.argument section o operands (seen s) (drop o section) was.rest before was.applied)

are_halves : (c : Code) (h : ℕ) → AreOf (link c) 8 (half h) (c.old_half h) (c.new_half h)
are_halves c h =
    both_true (c.old_half h == c.old_half h) (c.new_half h == c.new_half h) (eq-eqb _ _ refl)
    (eq-eqb _ _ refl)

-- new's thread pointer in RAX
has_pointer : (c : Code) (h n : ℕ) (k' : Kinds) (s t : State) → s.registers 38 ≡ c.new_half h
    → t.registers 38 ≡ s.registers 38 → (r : ℕ)
    → (k'.registers r ≡ anything)
    ⊎ ((put 0 (t.registers 38) n t).registers r ≡ (put 0 (c.new_half h) n t).registers r)
has_pointer c h n k' s t is equal r = inr (ap (λ x. (put 0 x n t).registers r) (equal ∙ is))

by_mov : (c : Code) (h n : ℕ) (k k' : Kinds) (s : State) (bytes : List ℕ) → n ≤ 15
    → take n (bytes_at 15 c.new s.pc) ≡ bytes → n ≡ length bytes
    → ((rest : List ℕ)
    → decode (bytes ++ rest) ≡ Some (record { instruction = load_thread 0 0; size = n }))
    → HasPointer c k s → s.registers 38 ≡ c.new_half h
    → (t : State) → Agree (link c) k s t → Leaves c n 1 k' (c.new_half h) s t
by_mov c h n k k' s bytes few stands size decoded pointer is t agree =
    let next = sum_64 s.pc n in
    let whole = opened bytes (bytes_at 15 c.new s.pc)
    (ap (λ n. take n (bytes_at 15 c.new s.pc)) (sym size) ∙ stands) in
    let has = pointer t agree in
    record {
      state = put 0 (t.registers 38) next t;
      goes_there =
          run_first 0 (machine c.others c.new) t (put 0 (t.registers 38) next t) _
          (moves c t s.pc n agree.pc (ap decode whole.1 ∙ decoded whole.0) has.0) refl;
      pc = refl;
      memory = refl;
      outside = refl;
      registers = has_pointer c h next k' s t is has.1;
    }

by_plt : ModuleCall 12 1 kinds.TlsLdToLocalExec
by_plt = (
  refl,
  λ c s section original o operands before matches was at at' h k k' s' pointer is returns.
      let pattern = original_at 3 (lea_rdi ++ byte 0xe8 ∷ field4) in
      let bytes = 0x66 ∷ 0x66 ∷ 0x66 ∷ dynamic.load_bytes in
      let shape = starts_with 3 plain_lea_bytes (field4 ++ byte 0xe8 ∷ field4) section o before.bytes
      (sym (or-false (is_at pattern section o)) ∙ matches.1) in
      call_group c operands 7 12 0 (half h) (c.old_half h) (c.new_half h) k k' s s'
      (module_argument section original o shape c operands s before was at) returns (are_halves c h)
      (by_mov c h 12 k k' s bytes (lit≤ tt)
      (starts 12 c.new s.pc _ (lit≤ tt) at'
      ∙ ap (take 12) (put_code section original o shape 12 bytes (λ o. o + 5))) refl (λ rest. refl) pointer is),
)

by_got : ModuleCall 13 1 kinds.TlsLdToLocalExecNoPlt
by_got = (
  refl,
  λ c s section original o operands before matches was at at' h k k' s' pointer is returns.
      let pattern = original_at 3 (lea_rdi ++ byte 0xff ∷ byte 0x15 ∷ field4) in
      let bytes = 0x66 ∷ 0x66 ∷ 0x66 ∷ 0x66 ∷ dynamic.load_bytes in
      let shape = starts_with 3 plain_lea_bytes (field4 ++ byte 0xff ∷ byte 0x15 ∷ field4) section o
      before.bytes (sym (or-false (is_at pattern section o)) ∙ matches.1) in
      call_group c operands 7 13 0 (half h) (c.old_half h) (c.new_half h) k k' s s'
      (module_argument section original o shape c operands s before was at) returns (are_halves c h)
      (by_mov c h 13 k k' s bytes (lit≤ tt)
      (starts 13 c.new s.pc _ (lit≤ tt) at'
      ∙ ap (take 13) (put_code section original o shape 13 bytes (λ o. o + 5))) refl (λ rest. refl) pointer is),
)

in_large_model : ModuleCall 22 2 kinds.TlsLdToLocalExec64
in_large_model = (
  refl,
  λ c s section original o operands before matches was at at' h k k' s' pointer is returns.
      let bytes = dynamic.nop_bytes ++ dynamic.load_bytes in
      let shape = larges.begins_with_lea section o before.bytes matches.1 in
      let stands = at' ∙ ap (take 22) (put_code section original o shape 22 bytes (λ o. o + 15)) in
      let first = opened dynamic.nop_bytes (bytes_at 15 c.new s.pc)
      (take_bytes 13 15 c.new s.pc (lit≤ tt) ∙ ap (take 13) stands) in
      call_group c operands 7 22 1 (half h) (c.old_half h) (c.new_half h) k k' s s'
      (module_argument section original o shape c operands s before was at) returns (are_halves c h)
      (λ t agree.
      let has = pointer t agree in
      let t1 = go_to (sum_64 s.pc 13) t in
      let second = opened dynamic.load_bytes (bytes_at 15 c.new (sum_64 s.pc 13))
      (on 13 9 c.new s.pc bytes (lit≤ tt) agree.small stands) in
      record {
        state = put 0 (t.registers 38) (sum_64 s.pc 22) t;
        goes_there =
            run_first 1 (machine c.others c.new) t t1 _
            (ap (λ a. machine c.others c.new (record t { pc = a })) agree.pc
            ∙ goes c.others (bytes_at 15 c.new s.pc) (record t { pc = s.pc })
            (record { instruction = nop; size = 13 }) (ap decode first.1))
            (run_first 0 (machine c.others c.new) t1 _ _
            (moves c t1 (sum_64 s.pc 13) 9 refl (ap decode second.1)
            (record { small = has.0.small; word = has.0.word }))
            (ap (λ a. Some (put 0 (t.registers 38) a t)) (sum_on s.pc 13 9)));
        pc = refl;
        memory = refl;
        outside = refl;
        registers = has_pointer c h (sum_64 s.pc 22) k' s t is has.1;
      }),
)

pub are_module_calls : LocalDynamic
are_module_calls = (by_plt, by_got, in_large_model)

-- ---- general-dynamic

-- the `lea` with a prefix
general_argument : (section old rest bytes : List ℕ) (o : ℕ) (c : Code) (operands : Operands) (s : State)
    → drop (o - 4) old ≡ lea_bytes ++ rest → IsBefore 4 section o operands (seen s)
    → Stands c.old s.pc 8 (drop (o - 4) old) → IsApplied tls_pair_row operands bytes rest
    → IsArgument c operands 8 s
general_argument section old rest bytes o c operands s found before at applied =
    let b = begun lea_bytes rest (bytes_at 15 c.old s.pc)
    (starts 8 c.old s.pc (drop (o - 4) old) (lit≤ tt) at ∙ ap (take 8) found) in
    record {
      f = number_of_bytes 4 b.after;
      is = ap decode b.is;
      leads =
          ap (λ f. sum_64 (sum_64 s.pc 8) (extended f) % 2 ^ 64) b.field
          ∙ ap (λ a. a % 2 ^ 64)
          (argument 4 (omega arith) section o operands (seen s) bytes rest before applied)
          ∙ itself operands.got_entry before.addresses.got_entry;
    }

-- the code of new
module _ (opcode modrm : ℕ) (rest : List ℕ) (c : Code) (s : State)
    (stands : bytes_at 16 c.new s.pc ≡ take 16 (load_bytes opcode modrm ++ rest)) where
  -- the first instruction
  moved : (t : State) → t.pc ≡ s.pc → HasThreadPointer (seen t)
      → machine c.others c.new t ≡ Some (put 0 (t.registers 38) (sum_64 s.pc 9) t)
  moved t here thread =
      let first = opened dynamic.load_bytes (bytes_at 15 c.new s.pc)
      (take_bytes 9 15 c.new s.pc (lit≤ tt) ∙ ap (take 9) stands) in
      moves c t s.pc 9 here (ap decode first.1) thread

  -- the bytes of the second
  second : s.pc < 2 ^ 64 → IsBegun (0x48 ∷ opcode ∷ modrm ∷ []) rest (bytes_at 15 c.new (sum_64 s.pc 9))
  second small =
      begun (0x48 ∷ opcode ∷ modrm ∷ []) rest (bytes_at 15 c.new (sum_64 s.pc 9))
      (on 9 7 c.new s.pc (take 16 (load_bytes opcode modrm ++ rest)) (lit≤ tt) small stands)

-- `mov` and `lea` in new
to_variable : (offset : ℕ) (rest : List ℕ) (c : Code) (s t : State)
    → bytes_at 16 c.new s.pc ≡ take 16 (load_bytes 0x8d 0x80 ++ rest)
    → extended (number_of_bytes 4 rest) % 2 ^ 64 ≡ offset → s.pc < 2 ^ 64 → t.pc ≡ s.pc
    → HasThreadPointer (seen t) → t.registers 38 ≡ s.registers 38
    → run 2 (machine c.others c.new) t
    ≡ Some (put 0 (sum_64 (s.registers 38) offset) (sum_64 s.pc 16) t)
to_variable offset rest c s t stands leads small here thread equal =
    let fs = t.registers 38 in
    let t1 = put 0 fs (sum_64 s.pc 9) t in
    let b = second 0x8d 0x80 rest c s stands small in
    let f' = number_of_bytes 4 b.after in
    run_first 1 (machine c.others c.new) t t1 _ (moved 0x8d 0x80 rest c s stands t here thread)
    (run_first 0 (machine c.others c.new) t1 _ _
    (goes c.others (bytes_at 15 c.new (sum_64 s.pc 9)) t1
    (record { instruction = lea_from 64 0 0 f'; size = 7 }) (ap decode b.is))
    (ap Some (last_counts 0 fs (sum_64 fs (extended f') % 2 ^ 64) (sum_64 s.pc 9)
    (sum_64 (sum_64 s.pc 9) 7) t)
    ∙ ap₂ (λ x a. Some (put 0 x a t))
    (offset_from fs (extended f') offset (ap (λ f. extended f % 2 ^ 64) b.field ∙ leads)
    ∙ ap (λ fs. sum_64 fs offset) equal) (sum_on s.pc 9 7)))

to_local_exec : ThreadCall 4 16 2 kinds.TlsGdToLocalExec (λ operands. operands) (λ c k s k' o. ⊤)
to_local_exec c s section old new o operands before there matches was is at at' k k' s' pointer any returns =
    let offset = thread_offset operands in
    let address = sum_64 (s.registers 38) offset in
    let found = codes section old new was.rest is.rest o 0x8d 0x80 (λ _. pos 0) before.bytes matches.1
    was.whole is.whole in
    let leads = offset_field 4 section o (difference_64 (sum_64 operands.place (o + 8)) o) operands
    (seen s) (drop (o + 8) (rewritten (x86_64_rewrite kinds.TlsGdToLocalExec) section o)) is.rest before
    (difference_below (sum_64 operands.place (o + 8)) o) is.applied in
    let next = sum_64 s.pc 16 in
    call_group c operands 8 16 1 same address address k k' s s'
    (general_argument section old was.rest (drop o section) o c operands s found.first before at was.applied)
    returns refl
    (λ t agree.
    let has = pointer t agree in
    record {
      state = put 0 address next t;
      goes_there =
          to_variable offset is.rest c s t (at' ∙ ap (take 16) found.second) leads agree.small agree.pc has.0
          has.1;
      pc = refl;
      memory = refl;
      outside = refl;
      registers = λ r. inr refl;
    })

-- and a NOP
to_local_exec_large : ThreadCall 3 22 3 kinds.TlsGdToLocalExecLarge (λ operands. operands) (λ c k s k' o. ⊤)
to_local_exec_large c s section old new o operands before there matches was is at at' k k' s' pointer any
    returns =
    let offset = thread_offset operands in
    let address = sum_64 (s.registers 38) offset in
    let shape = larges.begins_with_lea section o before.bytes matches.1 in
    let found = larges.code section o is.applied.value is.rest shape is.applied.written old new was.rest
    was.whole is.whole in
    let rest = larges.field_and_nop section o is.applied.value in
    let leads = ap (λ xs. extended (number_of_bytes 4 xs) % 2 ^ 64)
    (sym (larges.splits section o is.applied.value is.rest shape is.applied.written))
    ∙ offset_field 3 section o (difference_64 (sum_64 operands.place (o + 9)) o) operands (seen s)
    (drop (o + 9) (rewritten (x86_64_rewrite kinds.TlsGdToLocalExecLarge) section o)) is.rest before
    (difference_below (sum_64 operands.place (o + 9)) o) is.applied in
    let next = sum_64 s.pc 22 in
    let stands = at' ∙ ap (take 22) found.second in
    let argument = plain_argument section old o shape c operands s before.addresses.got_entry was.rest
    was.whole
    (argument 3 (omega arith) section o operands (seen s) (drop o section) was.rest before was.applied) at in
    call_group c operands 7 22 2 same address address k k' s s' argument returns refl
    (λ t agree.
    let has = pointer t agree in
    let t2 = put 0 address (sum_64 s.pc 16) t in
    let third = opened larges.nop_bytes (bytes_at 15 c.new (sum_64 s.pc 16))
    (on 16 6 c.new s.pc (take 22 (load_bytes 0x8d 0x80 ++ rest)) (lit≤ tt) agree.small stands) in
    record {
      state = put 0 address next t;
      goes_there =
          run_on 2 1 (machine c.others c.new) t t2 (Some (put 0 address next t))
          (to_variable offset rest c s t (ap (take 16) stands) leads agree.small agree.pc has.0 has.1)
          (run_first 0 (machine c.others c.new) t2 _ _
          (goes c.others (bytes_at 15 c.new (sum_64 s.pc 16)) t2
          (record { instruction = nop; size = 6 }) (ap decode third.1))
          (ap (λ a. Some (put 0 address a t)) (sum_on s.pc 16 6)));
      pc = refl;
      memory = refl;
      outside = refl;
      registers = λ r. inr refl;
    })

to_initial_exec : (entry : ℕ) → entry < 2 ^ 64
    → ThreadCall 4 16 2 kinds.TlsGdToInitialExec (λ operands. record operands { got_entry = entry }) (AddsOffset entry)
to_initial_exec entry small c s section old new o operands before there matches was is at at' k k' s' pointer
    holds returns =
    let offset = thread_offset operands in
    let found = codes section old new was.rest is.rest o 0x03 0x05 (λ a. a) before.bytes matches.1
    was.whole is.whole in
    let p = difference_64 (sum_64 operands.place (o + 8)) o in
    let operands' : Operands =
    record operands { place = p; addend = operands.addend; got_entry = entry } in
    let b = before.addresses in
    let addresses' : AreAddresses operands' = are_addresses _ b.symbol (difference_below (sum_64 operands.place (o + 8)) o)
    small b.got_base b.plt_entry b.tls_base in
    let leads = from_second s.pc operands.place o (extended (number_of_bytes 4 is.rest)) entry
    (begins_with_lea section o before.bytes matches.1).0 before.offset before.addresses.place small
    before.ip
    (tls_entry_field operands' addresses'
    (drop (o + 8) (rewritten (x86_64_rewrite kinds.TlsGdToInitialExec) section o)) is.rest
    is.applied
    ∙ ap (λ a. sum_64 entry (cast_unsigned w64 a)) before.addend) in
    let next = sum_64 s.pc 16 in
    call_group c operands 8 16 1 same (sum_64 (s.registers 38) offset) (sum_64 (s.registers 38) offset) k k' s s'
    (general_argument section old was.rest (drop o section) o c operands s found.first before at was.applied)
    returns refl
    (λ t agree.
    let has = pointer t agree in
    let fs = t.registers 38 in
    let t1 = put 0 fs (sum_64 s.pc 9) t in
    let after = sum_64 (sum_64 s.pc 9) 7 in
    let stands = at' ∙ ap (take 16) found.second in
    let b = second 0x03 0x05 is.rest c s stands agree.small in
    let f' = number_of_bytes 4 b.after in
    let add = operate ADD 64 (register 0) (relative f') in
    let value = added fs (load 8 (seen t) (sum_64 after (extended f'))) fs offset has.0.small refl
    (ap (λ f. load 8 (seen t) (sum_64 after (extended f))) b.field ∙ ap (load 8 (seen t)) leads
    ∙ holds.0 t agree)
    ∙ ap (λ fs. sum_64 fs offset) has.1 in
    record {
      state = left add t1 (execute add after (seen t1));
      goes_there =
          run_first 1 (machine c.others c.new) t t1 _
          (moved 0x03 0x05 is.rest c s stands t agree.pc has.0)
          (run_first 0 (machine c.others c.new) t1 _ _
          (goes c.others (bytes_at 15 c.new (sum_64 s.pc 9)) t1
          (record { instruction = add; size = 7 }) (ap decode b.is)) refl);
      pc = sum_on s.pc 9 7;
      memory = refl;
      outside = refl;
      registers = λ r. elim (cases_Bool (is_flag r)) [
        | inl flag ↦ inl (holds.1 r flag)
        | inr other ↦ inr
            (cond-false (is_flag r) _ _ other
            ∙ ap (λ x. (put 0 x next t1).registers r) value
            ∙ ap (λ t. t.registers r)
            (last_counts 0 fs (sum_64 (s.registers 38) offset) (sum_64 s.pc 9) next t))
      ];
    })

pub are_thread_calls : GeneralDynamic
are_thread_calls = (to_local_exec, to_initial_exec, to_local_exec_large)
