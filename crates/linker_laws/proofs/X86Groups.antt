-- x86-64's groups.
use Rattle.linker_laws.proofs.Imports.{Agree, AreOf, AreStored, Bool, CallOfDescriptor, Decoded, Group, IsApart, IsJump, IsKnownAfter, IsLea, IsSomeAnd, KeepsRegisters, Kind, Kinds, LeaOfDescriptor, LeaToEntry, LeaToOffset, List, LoadsNumber, MOV, MakesOffset, Memory, Operands, Original, Program, Reads, SkipTlsDescCall, Some, State, TlsDescToInitialExec, TlsDescToLocalExec, X86_64Relocation, [], and_parts, ap, ap₂, arith, bit_of, byte_at, bytes_at, call, cond-false, cond-true, decode, difference_64, direct, does, drop, eq-eqb, eqb-true, execute, false, flag, get_or, go_to, half, if◌then◌else◌, indirect, inl, inr, is_flag, jump, le-ltb, lea, length, lit≤, load, lt-ltb, nat_lt, of_link, operate, put, refl, reg_after_rex, reg_after_rex2, register, rewritten, same, store_8, subst, suc, sum_64, sym, take, through, true, with_register, x86_64_relocation_after, x86_64_rewrite, zero, ℕ, ◌&&◌, ◌*◌, ◌+◌, ◌-◌, ◌<◌, ◌==◌, ◌^◌, ◌∙◌, ◌∷◌, ◌≡◌, ◌≤◌}
use Rattle.linker_laws.specs.Machine as shared
use Rattle.linker_laws.specs.X86Groups.{Code, IsCall, Stands, called, executed, left, link, machine, seen, thread_offset}
use Rattle.linker_laws.specs.X86Machine as x86_machine
use Rattle.linker_laws.specs.X86Machine.{nop}
use Rattle.linker_elf.specs.declared.x86_64.relocations.X86_64Relocation.TheVariants as names
use Rattle.linker_utils.specs.declared.x86_64.rewrites.RewriteKind.{RewriteKind}
use Rattle.linker_laws.proofs.Agreement.{agree_go, agree_open, agree_put, agree_put_old, both_true, group_of}
use Rattle.linker_laws.proofs.CoveredRuns.{holds_of, once, run_first}
use Rattle.linker_laws.proofs.X86Branches.{Leads}
use Rattle.linker_laws.proofs.X86Decoding.{Replaced, Replaces, map_some}
use Rattle.linker_laws.proofs.X86Descriptors.{AreLea, LeaOf}
use Rattle.linker_laws.proofs.X86Descriptors as leas
use Rattle.linker_laws.proofs.Sums.{sum_below}

-- ---- bytes of code

pub take_bytes : (m k : ℕ) (code : ℕ → ℕ) (a : ℕ) → m ≤ k → take m (bytes_at k code a) ≡ bytes_at m code a
take_bytes zero k code a few = refl
take_bytes (suc m) zero code a few = absurd (omega arith)
take_bytes (suc m) (suc k) code a few =
    ap (λ xs. code a ∷ xs) (take_bytes m k code (sum_64 a 1) (omega arith))

pub starts : (m : ℕ) (code : ℕ → ℕ) (a : ℕ) (bytes : List ℕ) → m ≤ 15 → Stands code a m bytes
    → take m (bytes_at 15 code a) ≡ take m bytes
starts m code a bytes few stands = take_bytes m 15 code a few ∙ stands

pub goes : (others : List ℕ → Program) (bytes : List ℕ) (s : State) (d : Decoded) → decode bytes ≡ Some d
    → does others bytes s
    ≡ Some (left d.instruction s (execute d.instruction (sum_64 s.pc d.size) (seen s)))
goes others bytes s d is = ap (executed others bytes s) is

-- ---- one instruction for another

-- old's state with new's registers
abbrev between : State → State → State
between s t = record s { registers = t.registers }

module _ (c : Code) (m : ℕ) (s : State)
    (facts : (t : State)
    → Replaces m (bytes_at 15 c.old s.pc) (bytes_at 15 c.new s.pc) (seen (between s t))) where
  abbrev next : ℕ
  next = sum_64 s.pc m

  abbrev s' : State
  s' = left (facts s).instruction s (execute (facts s).instruction next (seen s))

  old_goes : machine c.others c.old s ≡ Some s'
  old_goes =
      let f = facts s in
      goes c.others (bytes_at 15 c.old s.pc) s (record { instruction = f.instruction; size = m }) f.was

  -- it goes on, and leaves memory as it was
  at_next : s'.pc ≡ next
  at_next = let f = facts s in ap (λ u. u.ip) f.same ∙ f.goes_on

  memory_stays : s'.memory ≡ s.memory
  memory_stays = let f = facts s in ap (λ u. u.memory) (f.same ∙ f.alone s.memory)

  module _ (k : Kinds) (known : ℕ → Kind) (keeps : KeepsRegisters c k s known s') (t : State)
      (agree : Agree (link c) k s t) where
    abbrev at : State
    at = record t { pc = s.pc }

    abbrev v : State
    v =
        left (facts t).instruction' at
        (record (execute (facts t).instruction' next (seen (between s t))) { memory = t.memory })

    new_goes : machine c.others c.new t ≡ Some v
    new_goes =
        let g = facts t in
        ap (λ a. machine c.others c.new (record t { pc = a })) agree.pc
        ∙ goes c.others (bytes_at 15 c.new s.pc) at
        (record { instruction = g.instruction'; size = m }) g.is
        ∙ ap (λ u. Some (left g.instruction' at u)) (g.alone t.memory)

    -- the registers after both
    same_registers : (r : ℕ)
        → (left (facts t).instruction (between s t)
        (execute (facts t).instruction next (seen (between s t)))).registers r ≡ v.registers r
    same_registers r =
        let g = facts t in
        ap₂ (λ b u. if b && is_flag r then bit_of (flag u.flags r) else u.register r) g.flags g.same

    agree_after : Agree (link c) (record k { registers = known }) s' v
    agree_after =
        let g = facts t in
        let kept = subst (λ o. IsSomeAnd o
        (λ u. (r : ℕ) → AreOf (link c) 8 (known r) (s'.registers r) (u.registers r)))
        (goes c.others (bytes_at 15 c.old s.pc) (between s t)
        (record { instruction = g.instruction; size = m }) g.was) (keeps t agree) in
        record {
          small = subst (λ p. p < 2 ^ 64) (sym at_next) (sum_below s.pc m);
          pc = g.goes_on ∙ sym at_next;
          registers = λ r. subst (AreOf (link c) 8 (known r) (s'.registers r)) (same_registers r)
              (kept r);
          memory = λ a small. subst (λ memory. AreStored (link c) (k.memory a) memory t.memory a)
              (sym memory_stays) (agree.memory a small);
          outside = agree.outside;
        }

  one_group : IsSomeAnd (machine c.others c.old s) (λ s'.
      (k : Kinds) (known : ℕ → Kind) → KeepsRegisters c k s known s'
      → Group (of_link (link c)) 1 k s (record k { registers = known }) s')
  one_group =
      holds_of (machine c.others c.old s) _ s' old_goes (λ k known keeps. group_of (link c) 0 0
      (run_first 0 (machine c.others c.old) s s' (Some s') old_goes refl) (λ t agree.
      once (machine c.others c.new) t (Agree (link c) (record k { registers = known }) s')
      (holds_of (machine c.others c.new t) _ (v k known keeps t agree)
      (new_goes k known keeps t agree) (agree_after k known keeps t agree))))

pub one_for_another : (n : ℕ) (instructions : List Original) (name : X86_64Relocation) (kind : RewriteKind)
    (held : Operands → ℕ) → n + 4 ≤ 15 → Replaced n instructions name kind held
    → Reads n instructions name kind held
one_for_another n instructions name kind held few replaced =
    map_some (x86_64_relocation_after kind name) _ _
    (λ after replaces c s section original relaxed o operands before there matches was is at at' holds.
    one_group c (n + 4) s
    (λ t. replaces section original relaxed o operands (seen (between s t))
    (record {
      bytes = before.bytes;
      offset = before.offset;
      addresses = before.addresses;
      addend = before.addend;
      ip = before.ip;
    })
    there matches holds was is (bytes_at 15 c.old s.pc) (bytes_at 15 c.new s.pc)
    (starts (n + 4) c.old s.pc (drop (o - n) original) few at)
    (starts (n + 4) c.new s.pc (drop (o - n) relaxed) few at'))) replaced

-- ---- branches

same_start : (first top : ℕ) → difference_64 (sum_64 first 0) top ≡ difference_64 first top
same_start first top = omega arith

pub one_on : (first i : ℕ) → sum_64 (sum_64 first 1) i ≡ sum_64 first (suc i)
one_on first i = omega arith

-- a number that has none of the bytes
still_there : (n first top next : ℕ) (memory : Memory) → IsApart n first top
    → shared.loaded n (store_8 top next memory) first ≡ shared.loaded n memory first
still_there zero first top next memory apart = refl
still_there (suc n) first top next memory apart =
    ap₂ (λ x y. x + 256 * y)
    (cond-false (nat_lt (difference_64 first top) 8) _ _
    (le-ltb (difference_64 first top) 8
    (subst (λ d. 8 ≤ d) (same_start first top) (apart 0 (omega arith)))))
    (still_there n (sum_64 first 1) top next memory
    (λ i small. subst (λ a. 8 ≤ difference_64 a top) (sym (one_on first i)) (apart (suc i) (omega arith))))

-- the numbers of memory after both have pushed an address
module _ (c : Code) (k k' : Kinds) (s t : State) (top next a : ℕ)
    (agree : AreStored (link c) (k.memory a) s.memory t.memory a) where
  pushed : IsKnownAfter top (k.memory a) (k'.memory a) a
      → AreStored (link c) (k'.memory a) (store_8 top next s.memory) (store_8 top next t.memory) a
  pushed (inl here) =
      subst (λ stored. AreStored (link c) stored (store_8 top next s.memory)
      (store_8 top next t.memory) a) (sym here.1)
      (ap (λ x. x + 256 * 0) (written s.memory ∙ sym (written t.memory)))
    where
      same_address : a ≡ a - 0
      same_address = omega arith

      written : (memory : Memory)
          → store_8 top next memory (a - 0) ≡ byte_at (difference_64 (a - 0) top) next
      written memory =
          cond-true (nat_lt (difference_64 (a - 0) top) 8) _ _
          (lt-ltb (difference_64 (a - 0) top) 8
          (subst (λ b. difference_64 b top < 8) same_address here.0))
  pushed (inr (inl free)) =
      subst (λ kind. AreOf (link c) (k'.memory a).bytes kind
      (shared.loaded (k'.memory a).bytes (store_8 top next s.memory) (a - (k'.memory a).below))
      (shared.loaded (k'.memory a).bytes (store_8 top next t.memory) (a - (k'.memory a).below)))
      (sym free) tt
  pushed (inr (inr (kept, apart))) =
      subst (λ stored. AreStored (link c) stored (store_8 top next s.memory)
      (store_8 top next t.memory) a) (sym kept)
      (subst (λ x. AreOf (link c) (k.memory a).bytes (k.memory a).kind x
      (shared.loaded (k.memory a).bytes (store_8 top next t.memory) (a - (k.memory a).below)))
      (sym (still_there (k.memory a).bytes (a - (k.memory a).below) top next s.memory apart))
      (subst (AreOf (link c) (k.memory a).bytes (k.memory a).kind
      (shared.loaded (k.memory a).bytes s.memory (a - (k.memory a).below)))
      (sym (still_there (k.memory a).bytes (a - (k.memory a).below) top next t.memory apart)) agree))

-- what is known of the stack pointer already
still_same : (k : Kinds) → k.registers 4 ≡ same → (r : ℕ)
    → (with_register 4 same k).registers r ≡ k.registers r
still_same k is r = by (r == 4) refl
  where
    by : (b : Bool) → (r == 4) ≡ b → (if b then same else k.registers r) ≡ k.registers r
    by true e = sym (ap k.registers (eqb-true _ _ e) ∙ is)
    by false e = refl

pub is_call : (c : Code) (o : Operands) (s : State) → o.symbol < 2 ^ 64
    → (load 8 (seen s) o.got_entry ≡ o.symbol
    → Leads call 6 (bytes_at 15 c.old s.pc) (bytes_at 15 c.new s.pc) o.symbol (seen s)) → IsCall c o s
is_call c o s small by holds k k' stack registers memory =
    let l = by holds in
    let next = sum_64 s.pc 6 in
    let s' = called o.symbol next s in
    group_of (link c) 0 0
    (run_first 0 (machine c.others c.old) s s' (Some s')
    (goes c.others (bytes_at 15 c.old s.pc) s
    (record { instruction = call (indirect l.from); size = 6 }) l.was
    ∙ ap (λ p. Some (called p next s)) l.loads) refl)
    (λ t agree.
    let t' = called o.symbol next t in
    let equal : s.registers 4 ≡ t.registers 4 =
    subst (λ kind. AreOf (link c) 8 kind (s.registers 4) (t.registers 4)) stack
    (agree.registers 4) in
    let put = agree_put (link c) k s t 4 same (difference_64 (s.registers 4) 8)
    (difference_64 (t.registers 4) 8) o.symbol o.symbol agree small refl
    (ap (λ r. difference_64 r 8) equal) in
    once (machine c.others c.new) t (Agree (link c) k' s')
    (holds_of (machine c.others c.new t) _ t'
    (ap (λ a. machine c.others c.new (record t { pc = a })) agree.pc
    ∙ goes c.others (bytes_at 15 c.new s.pc) (record t { pc = s.pc })
    (record { instruction = call (direct l.to); size = 6 }) l.is
    ∙ ap (λ p. Some (called p next t)) l.leads)
    (record {
      small = small;
      pc = refl;
      registers = λ r.
          subst (λ kind. AreOf (link c) 8 kind (s'.registers r) (t'.registers r))
          (still_same k stack r ∙ ap (λ f. f r) (sym registers)) (put.registers r);
      memory = λ a below.
          subst (λ x. AreStored (link c) (k'.memory a) s'.memory
          (store_8 (difference_64 x 8) next t.memory) a) equal
          (pushed c k k' s t (difference_64 (s.registers 4) 8) next a (agree.memory a below)
          (memory a below));
      outside = agree.outside;
    })))

pub is_jump : (c : Code) (o : Operands) (s : State) → o.symbol < 2 ^ 64
    → (load 8 (seen s) o.got_entry ≡ o.symbol
    → Leads jump 5 (bytes_at 15 c.old s.pc) (bytes_at 15 c.new s.pc) o.symbol (seen s)) → IsJump c o s
is_jump c o s small by holds k =
    let l = by holds in
    let s' = go_to o.symbol s in
    group_of (link c) 0 0
    (run_first 0 (machine c.others c.old) s s' (Some s')
    (goes c.others (bytes_at 15 c.old s.pc) s
    (record { instruction = jump (indirect l.from); size = 6 }) l.was
    ∙ ap (λ p. Some (go_to p s)) l.loads) refl)
    (λ t agree.
    once (machine c.others c.new) t (Agree (link c) k s')
    (holds_of (machine c.others c.new t) _ (go_to o.symbol t)
    (ap (λ a. machine c.others c.new (record t { pc = a })) agree.pc
    ∙ goes c.others (bytes_at 15 c.new s.pc) (record t { pc = s.pc })
    (record { instruction = jump (direct l.to); size = 5 }) l.is
    ∙ ap (λ p. Some (go_to p t)) l.leads)
    (agree_go (link c) k s t o.symbol o.symbol agree small refl)))

-- ---- descriptors

is_lea : (n : ℕ) (register_of : List ℕ → ℕ) (Makes : Code → Kinds → State → Operands → ℕ → Type 0)
    (c : Code) (o : Operands) (s : State) (number : x86_machine.State → ℕ)
    → AreLea (n + 4) (bytes_at 15 c.old s.pc) (bytes_at 15 c.new s.pc) register_of o (seen s) number
    → ((k : Kinds) (made : ℕ) → Makes c k s o made → (t : State) → Agree (link c) k s t
    → number (seen (record t { pc = s.pc })) ≡ made)
    → IsLea n register_of Makes c o s
is_lea n register_of Makes c o s number l made h k descriptor makes =
    let next = sum_64 s.pc (n + 4) in
    subst (λ r. Group (of_link (link c)) 1 k s (with_register r (half h) k) (put r o.got_entry next s))
    (sym l.in_code)
    (group_of (link c) 0 0
    (run_first 0 (machine c.others c.old) s (put l.r o.got_entry next s) _
    (goes c.others (bytes_at 15 c.old s.pc) s
    (record { instruction = lea 64 l.r l.f; size = n + 4 }) l.was
    ∙ ap (λ x. Some (put l.r x next s)) l.leads) refl)
    (λ t agree.
    let at = record t { pc = s.pc } in
    once (machine c.others c.new) t (Agree (link c) (with_register l.r (half h) k)
    (put l.r o.got_entry next s))
    (holds_of (machine c.others c.new t) _ (put l.r (number (seen at)) next t)
    (ap (λ a. machine c.others c.new (record t { pc = a })) agree.pc
    ∙ goes c.others (bytes_at 15 c.new s.pc) at
    (record { instruction = operate MOV 64 (register l.r) l.from; size = n + 4 }) l.is
    ∙ ap (λ x. Some (put l.r x next t)) (l.value (seen at) refl))
    (agree_put (link c) k s t l.r (half h) o.got_entry (number (seen at)) next next agree
    (sum_below s.pc (n + 4)) refl
    (both_true (o.got_entry == c.old_half h) (number (seen at) == c.new_half h)
    (eq-eqb _ _ (sym descriptor)) (eq-eqb _ _ (made k (c.new_half h) makes t agree)))))))

to_offset : (n : ℕ) (name : X86_64Relocation) (register_of : List ℕ → ℕ) → n + 4 ≤ 15
    → LeaOf n name register_of (TlsDescToLocalExec n) (λ operands. operands) (λ o t. thread_offset o)
    → LeaToOffset n name register_of
to_offset n name register_of few law =
    map_some (x86_64_relocation_after (TlsDescToLocalExec n) name) _ _
    (λ after facts c s section original relaxed o operands before there matches was is at at'.
    is_lea n register_of MakesOffset c operands s (λ t. thread_offset operands)
    (facts section original relaxed o operands (seen s) before there matches was is
    (bytes_at 15 c.old s.pc) (bytes_at 15 c.new s.pc)
    (starts (n + 4) c.old s.pc (drop (o - n) original) few at)
    (starts (n + 4) c.new s.pc (drop (o - n) relaxed) few at'))
    (λ k number is t agree. is)) law

to_entry : (n : ℕ) (name : X86_64Relocation) (register_of : List ℕ → ℕ) → n + 4 ≤ 15
    → ((entry : ℕ) → entry < 2 ^ 64
    → LeaOf n name register_of TlsDescToInitialExec (λ operands. record operands { got_entry = entry })
    (λ o t. load 8 t entry))
    → LeaToEntry n name register_of
to_entry n name register_of few law entry small =
    map_some (x86_64_relocation_after TlsDescToInitialExec name) _ _
    (λ after facts c s section original relaxed o operands before there matches was is at at'.
    is_lea n register_of (LoadsNumber entry) c operands s (λ t. load 8 t entry)
    (facts section original relaxed o operands (seen s) before there matches was is
    (bytes_at 15 c.old s.pc) (bytes_at 15 c.new s.pc)
    (starts (n + 4) c.old s.pc (drop (o - n) original) few at)
    (starts (n + 4) c.new s.pc (drop (o - n) relaxed) few at'))
    (λ k number holds t agree. holds t agree)) (law entry small)

pub are_leas : LeaOfDescriptor
are_leas = (
  to_offset 3 names.R_X86_64_GOTPC32_TLSDESC reg_after_rex (lit≤ tt) leas.to_offset,
  to_entry 3 names.R_X86_64_GOTPC32_TLSDESC reg_after_rex (lit≤ tt) leas.to_entry,
  to_offset 4 names.R_X86_64_CODE_4_GOTPC32_TLSDESC reg_after_rex2 (lit≤ tt) leas.rex2_to_offset,
  to_entry 4 names.R_X86_64_CODE_4_GOTPC32_TLSDESC reg_after_rex2 (lit≤ tt) leas.rex2_to_entry,
)

pub are_descriptor_calls : CallOfDescriptor
are_descriptor_calls c s calls at bytes matches old new h executes k k' s' has returns changes =
    let next = sum_64 s.pc 2 in
    let was = begins_with 0xff 0x10 (bytes_at 15 c.old s.pc) (drop at calls)
    (starts 2 c.old s.pc (drop at calls) (lit≤ tt) old) (leas.call_code calls at bytes matches) in
    let is = begins_with 0x66 0x90 (bytes_at 15 c.new s.pc)
    (drop at (rewritten (x86_64_rewrite SkipTlsDescCall) calls at))
    (starts 2 c.new s.pc (drop at (rewritten (x86_64_rewrite SkipTlsDescCall) calls at)) (lit≤ tt) new)
    (drop (at + 2) calls, leas.nop_code calls at matches) in
    group_of (link c) 0 executes
    (run_first executes (machine c.others c.old) s
    (called (load 8 (seen s) (s.registers 0)) next s) (Some s')
    (goes c.others (bytes_at 15 c.old s.pc) s
    (record { instruction = call (through 0); size = 2 }) (ap decode was.1)) returns)
    (λ t agree.
    let number : t.registers 0 ≡ c.new_half h =
    eqb-true _ _ (and_parts (s.registers 0 == c.old_half h) (t.registers 0 == c.new_half h)
    (subst (λ kind. AreOf (link c) 8 kind (s.registers 0) (t.registers 0)) has
    (agree.registers 0))).1 in
    once (machine c.others c.new) t (Agree (link c) k' s')
    (holds_of (machine c.others c.new t) _ (go_to next t)
    (ap (λ a. machine c.others c.new (record t { pc = a })) agree.pc
    ∙ goes c.others (bytes_at 15 c.new s.pc) (record t { pc = s.pc })
    (record { instruction = nop; size = 2 }) (ap decode is.1))
    (agree_open (link c) (with_register 0 same k) k' (put 0 (c.new_half h) next s) s' (go_to next t)
    (agree_put_old (link c) k (go_to next s) (go_to next t) 0 same (c.new_half h) next
    (agree_go (link c) k s t next next agree (sum_below s.pc 2) refl) (sum_below s.pc 2) refl
    (sym number)) changes)))
  where
    begins_with : (x y : ℕ) (code before : List ℕ) → take 2 code ≡ take 2 before
        → (rest : List ℕ) × (before ≡ x ∷ y ∷ rest) → (rest : List ℕ) × (code ≡ x ∷ y ∷ rest)
    begins_with x y code before e f = first_two code (e ∙ ap (take 2) f.1)
      where
        first_two : (code : List ℕ) → take 2 code ≡ x ∷ y ∷ [] → (rest : List ℕ) × (code ≡ x ∷ y ∷ rest)
        first_two [] e = let long = ap length e in absurd (omega arith)
        first_two (a ∷ []) e = let long = ap length e in absurd (omega arith)
        first_two (a ∷ b ∷ rest) e =
            (rest, ap₂ (λ a b. a ∷ b ∷ rest) (ap (λ xs. get_or xs 0 0) e) (ap (λ xs. get_or xs 1 0) e))
