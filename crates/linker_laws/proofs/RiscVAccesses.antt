-- RISC-V: what loads, stores and sums leave of states that agree.
use Rattle.linker_laws.proofs.Imports.{Agree, AreApart, AreOf, AreStored, BeginsAt, HasRoom, Kind, Kinds, Memory, State, anything, ap, ap₂, arith, as_loaded, as_loaded_float, as_stored, as_stored_float, as_sum, as_target, as_whole, as_word, boxed, bytes_of, cases_lt, code, cond-false, cond-true, difference_64, goes_to, half, if◌then◌else◌, inl, inr, int_rem_euclid, le-ltb, left, load_number, loaded, lt-ltb, nat_lt, nat_tests, pos, put, refl, rem_below, rs2_of, same, stored, subst, suc, sum_64, sym, true≢false, with_float, with_integer, with_register, with_stored, zero, ℕ, ℤ, ◌%◌, ◌*◌, ◌+◌, ◌-◌, ◌<◌, ◌==◌, ◌^◌, ◌∙◌, ◌≡◌, ◌≤◌, ◌⊎◌}
use Rattle.linker_laws.specs.Machine.{extended}
use Rattle.linker_laws.specs.RiscVGroups as groups
use Rattle.linker_laws.specs.RiscVGroups.{Code, link, seen}
use Rattle.linker_laws.specs.RiscVMachine.{register}
use Rattle.linker_laws.proofs.Agreement.{agree_put, both_parts}
use Rattle.linker_laws.proofs.RiscVDescriptors.{whole_number}
use Rattle.linker_laws.proofs.RiscVGroups.{below_32, counts, wrote}
use Rattle.linker_laws.proofs.Sums.{sum_below}
use Rattle.linker_riscv64.specs.RiscVFields.{rd_of}

-- ---- states

-- a floating-point register is written
wrote_float : (s : State) (rd v next : ℕ)
    → left s (goes_to next (with_float rd v (seen s))) ≡ put (32 + rd) v next s
wrote_float s rd v next = λ i. record s { pc = next; registers = λ r. by s.registers r i }
  where
    by : (f : ℕ → ℕ) (r : ℕ) → (if nat_lt r 32 then f r else (if (r - 32) == rd then v else f (32 + (r - 32))))
        ≡ (if r == 32 + rd then v else f r)
    by f r = grind (arith, nat_tests)

-- memory is written
wrote_memory : (s : State) (m : Memory) (next : ℕ)
    → left s (goes_to next (record (seen s) { memory = m })) ≡ record s { pc = next; memory = m }
wrote_memory s m next = λ i. record s { pc = next; memory = m; registers = λ r. both_parts s.registers r i }

-- ---- memory

-- stored bytes are the same, whatever memory was before
stored_same : (m n v address a : ℕ) (memory memory' : Memory) → address + n < 2 ^ 64 → address ≤ a
    → a + m ≤ address + n
    → loaded m (stored n v address memory) a ≡ loaded m (stored n v address memory') a
stored_same zero n v address a memory memory' small lower upper = refl
stored_same (suc m) n v address a memory memory' small lower upper =
    let inside : difference_64 a address < n = omega (arith, small, lower, upper) in
    let is = lt-ltb (difference_64 a address) n inside in
    let next : a + 1 ≡ sum_64 a 1 = omega (arith, small, upper) in
    ap₂ (λ b r. b + 256 * r)
    (cond-true (nat_lt (difference_64 a address) n) _ (memory a) is
    ∙ sym (cond-true (nat_lt (difference_64 a address) n) _ (memory' a) is))
    (subst (λ b. loaded m (stored n v address memory) b ≡ loaded m (stored n v address memory') b) next
    (stored_same m n v address (a + 1) memory memory' small (omega (arith, lower)) (omega (arith, upper))))

-- others stay
others_stay : (m n v address a : ℕ) (memory : Memory) → AreApart m a n address
    → loaded m (stored n v address memory) a ≡ loaded m memory a
others_stay zero n v address a memory apart = refl
others_stay (suc m) n v address a memory apart =
    ap₂ (λ b r. b + 256 * r)
    (cond-false (nat_lt (difference_64 a address) n) _ (memory a) (le-ltb (difference_64 a address) n apart.0))
    (others_stay m n v address (sum_64 a 1) memory apart.1)

-- ---- what agrees then

module _ (c : Code) (k : Kinds) (s t : State) (agree : Agree (link c) k s t)
    (goes_on : c.moved (sum_64 s.pc 4) ≡ sum_64 (c.moved s.pc) 4) where
  next : sum_64 t.pc 4 ≡ c.moved (sum_64 s.pc 4)
  next = ap (λ p. sum_64 p 4) agree.pc ∙ sym goes_on

  puts_both : (r : ℕ) (kind : Kind) (v v' to to' : ℕ) (u u' : State) → u ≡ put r v to s → u' ≡ put r v' to' t
      → to < 2 ^ 64 → to' ≡ c.moved to → AreOf (link c) 8 kind v v' → Agree (link c) (with_register r kind k) u u'
  puts_both r kind v v' to to' u u' is is' small at are =
      subst (λ u. Agree (link c) (with_register r kind k) u u') (sym is)
      (subst (λ u. Agree (link c) (with_register r kind k) (put r v to s) u) (sym is')
      (agree_put (link c) k s t r kind v v' to to' agree small at are))

  puts_integer : (rd : ℕ) (kind : Kind) (v v' : ℕ) → rd < 32 → AreOf (link c) 8 kind v v'
      → Agree (link c) (with_register rd kind k) (left s (goes_to (sum_64 s.pc 4) (with_integer rd v (seen s))))
      (left t (goes_to (sum_64 t.pc 4) (with_integer rd v' (seen t))))
  puts_integer rd kind v v' small =
      puts_both rd kind v v' _ _ _ _ (wrote s rd v (sum_64 s.pc 4) small) (wrote t rd v' (sum_64 t.pc 4) small)
      (sum_below s.pc 4) next

  -- the number at an address
  loads_same : (n address : ℕ) (kind : Kind) → BeginsAt c k n address kind
      → AreOf (link c) n kind (loaded n s.memory address) (loaded n t.memory address)
  loads_same n address kind at =
      let small = at.small in
      let first : address - 0 ≡ address = omega arith in
      subst (λ b. AreOf (link c) n kind (loaded n s.memory address) (loaded n t.memory b)) at.moved
      (subst (λ a. AreOf (link c) n kind (loaded n s.memory a) (loaded n t.memory (c.moved a))) first
      (subst (λ number. AreStored (link c) number s.memory t.memory address) at.known
      (agree.memory address (omega (arith, small)))))

  stores_same : (n v v' address : ℕ) → v ≡ v' → HasRoom c k n address
      → Agree (link c) (with_stored n address k)
      (left s (goes_to (sum_64 s.pc 4) (record (seen s) { memory = stored n v address s.memory })))
      (left t (goes_to (sum_64 t.pc 4) (record (seen t) { memory = stored n v' address t.memory })))
  stores_same n v v' address are room =
      subst (λ u. Agree (link c) (with_stored n address k) u
      (left t (goes_to (sum_64 t.pc 4) (record (seen t) { memory = stored n v' address t.memory }))))
      (sym (wrote_memory s (stored n v address s.memory) (sum_64 s.pc 4)))
      (subst (λ u. Agree (link c) (with_stored n address k)
      (record s { pc = sum_64 s.pc 4; memory = stored n v address s.memory }) u)
      (sym (wrote_memory t (stored n v' address t.memory) (sum_64 t.pc 4)))
      (record {
        small = sum_below s.pc 4;
        pc = next;
        registers = agree.registers;
        memory = λ a below. by a below (cases_lt (difference_64 a address) n);
        outside = agree.outside;
      }))
    where
      inside : (a : ℕ) → a < 2 ^ 64 → difference_64 a address < n
          → loaded n (stored n v address s.memory) (a - difference_64 a address)
          ≡ loaded n (stored n v' address t.memory) (c.moved (a - difference_64 a address))
      inside a below d =
          let small = room.small in
          let first : address ≡ a - difference_64 a address = omega (arith, small, below, d) in
          subst (λ b. loaded n (stored n v address s.memory) b ≡ loaded n (stored n v' address t.memory) (c.moved b)) first
          (stored_same n n v address address s.memory t.memory small (omega arith) (omega arith)
          ∙ ap₂ (λ w b. loaded n (stored n w address t.memory) b) are (sym room.moved))

      by : (a : ℕ) → a < 2 ^ 64 → (difference_64 a address < n) ⊎ (n ≤ difference_64 a address)
          → AreStored (link c) ((with_stored n address k).memory a) (stored n v address s.memory)
          (stored n v' address t.memory) a
      by a below (inl d) =
          subst (λ st. AreStored (link c) st (stored n v address s.memory) (stored n v' address t.memory) a)
          (sym (cond-true (nat_lt (difference_64 a address) n)
          (record { kind = same; bytes = n; below = difference_64 a address }) (k.memory a)
          (lt-ltb (difference_64 a address) n d)))
          (inside a below d)
      by a below (inr d) =
          let number = k.memory a in
          let first = a - number.below in
          subst (λ st. AreStored (link c) st (stored n v address s.memory) (stored n v' address t.memory) a)
          (sym (cond-false (nat_lt (difference_64 a address) n)
          (record { kind = same; bytes = n; below = difference_64 a address }) (k.memory a)
          (le-ltb (difference_64 a address) n d)))
          (elim (room.apart a below d) [
            | inl free ↦ subst (λ kind. AreOf (link c) number.bytes kind
                (loaded number.bytes (stored n v address s.memory) first)
                (loaded number.bytes (stored n v' address t.memory) (c.moved first))) (sym free) tt
            | inr apart ↦ subst (λ x. AreOf (link c) number.bytes number.kind x
                (loaded number.bytes (stored n v' address t.memory) (c.moved first)))
                (sym (others_stay number.bytes n v address first s.memory apart.0))
                (subst (λ y. AreOf (link c) number.bytes number.kind (loaded number.bytes s.memory first) y)
                (sym (others_stay number.bytes n v' address (c.moved first) t.memory apart.1))
                (agree.memory a below))
          ])

-- 8 bytes are a whole number
whole_of : (c : Code) (kind : Kind) (x y : ℕ) → AreOf (link c) 8 kind x y
    → AreOf (link c) 8 kind (extended 64 x) (extended 64 y)
whole_of c same x y are = ap (extended 64) are
whole_of c (code n) x y are = (counted_whole _ x are.0, counted_whole _ y are.1)
  where
    counted_whole : (z : ℤ) (x : ℕ) → int_rem_euclid z (pos (2 ^ 64)) ≡ pos x
        → int_rem_euclid z (pos (2 ^ 64)) ≡ pos (extended 64 x)
    counted_whole z x e = e ∙ ap pos (sym (whole_number x (rem_below z x 64 (sym e))))
whole_of c (half h) x y are = absurd (true≢false (sym are))
whole_of c anything x y are = tt

pub are_accesses : groups.AccessesAgree
are_accesses c action word sum k s k' goes_on as_sum t agree =
    puts_integer c k s t agree goes_on (rd_of word) same sum sum (below_32 word) refl
are_accesses c action word sum k s k' goes_on as_word t agree =
    puts_integer c k s t agree goes_on (rd_of word) same _ _ (below_32 word) refl
are_accesses c action word sum k s k' goes_on (as_target small still) t agree =
    let rd = rd_of word in
    let to = sum - sum % 2 in
    let back = sum_64 s.pc 4 in
    let back' = sum_64 t.pc 4 in
    puts_both c k s t agree goes_on rd (groups.of_place back) back back' to to _ _ (wrote s rd back to (below_32 word))
    (wrote t rd back' to (below_32 word)) (omega (arith, small)) (sym still) (
      counts back back refl (sum_below s.pc 4),
      counts (c.moved back) back' (sym (next c k s t agree goes_on)) (sum_below t.pc 4),
    )
are_accesses c action word sum k s k' goes_on (as_loaded f at) t agree =
    puts_integer c k s t agree goes_on (rd_of word) same _ _ (below_32 word)
    (ap (load_number f) (loads_same c k s t agree goes_on (bytes_of f) sum same at))
are_accesses c action word sum k s k' goes_on (as_whole kind at) t agree =
    puts_integer c k s t agree goes_on (rd_of word) kind _ _ (below_32 word)
    (whole_of c kind _ _ (loads_same c k s t agree goes_on 8 sum kind at))
are_accesses c action word sum k s k' goes_on (as_loaded_float f at) t agree =
    puts_both c k s t agree goes_on (32 + rd_of word) same _ _ _ _ _ _ (wrote_float s (rd_of word) _ (sum_64 s.pc 4))
    (wrote_float t (rd_of word) _ (sum_64 t.pc 4)) (sum_below s.pc 4) (next c k s t agree goes_on)
    (ap (boxed (2 ^ f)) (loads_same c k s t agree goes_on (2 ^ f) sum same at))
are_accesses c action word sum k s k' goes_on (as_stored f known room) t agree =
    stores_same c k s t agree goes_on (bytes_of f) (register (seen s) (rs2_of word)) (register (seen t) (rs2_of word)) sum
    (elim known [
      | inl none ↦ ap (register (seen s)) none ∙ sym (ap (register (seen t)) none)
      | inr known ↦ ap (λ n. if rs2_of word == 0 then 0 else n)
          (subst (λ kind. AreOf (link c) 8 kind (s.registers (rs2_of word)) (t.registers (rs2_of word))) known
          (agree.registers (rs2_of word)))
    ]) room
are_accesses c action word sum k s k' goes_on (as_stored_float f known room) t agree =
    stores_same c k s t agree goes_on (2 ^ f) (s.registers (32 + rs2_of word)) (t.registers (32 + rs2_of word)) sum
    (subst (λ kind. AreOf (link c) 8 kind (s.registers (32 + rs2_of word)) (t.registers (32 + rs2_of word))) known
    (agree.registers (32 + rs2_of word))) room
