-- States and kinds after a change.
use Rattle.std.specs.Prelude.{ℕ, ◌==◌, if◌then◌else◌, ◌≡◌, ◌<◌, ◌^◌, ◌-◌, ◌⊎◌, Some, IsSomeAnd}
use Rattle.linker_laws.specs.Machine.{loaded}
use Rattle.linker_laws.specs.Simulation.{State, Program, Link, Kind, Kinds, Stored, Agree, Other}
use Rattle.linker_laws.specs.Simulation.{anything, of_link}

-- an address is next
abbrev pub go_to : ℕ → State → State
go_to next s = record s { pc = next }

-- register r has number x, and an address is next
abbrev pub put : ℕ → ℕ → ℕ → State → State
put r x next s =
    record s { pc = next; registers = λ m. if m == r then x else s.registers m }

-- the number in register r is of a kind
abbrev pub with_register : ℕ → Kind → Kinds → Kinds
with_register r kind k = record k { registers = λ m. if m == r then kind else k.registers m }

-- A stored number is of its kind still, or may be anything.
abbrev pub IsKept : Stored → Stored → ℕ → State → State → Type 0
IsKept k k' a s s' =
    let first = a - k.below in
    (k'.kind ≡ anything)
    ⊎ ((k' ≡ k) × (loaded k.bytes s'.memory first ≡ loaded k.bytes s.memory first))

-- Old alone changes nothing but what may be anything then.
pub record ChangesOpen (k : Kinds) (s : State) (k' : Kinds) (s' : State) : Type 0 where
  pub pc : s'.pc ≡ s.pc
  pub registers : (r : ℕ) → (k'.registers r ≡ anything)
      ⊎ ((k'.registers r ≡ k.registers r) × (s'.registers r ≡ s.registers r))
  pub memory : (a : ℕ) → a < 2 ^ 64 → IsKept (k.memory a) (k'.memory a) a s s'
  pub outside : s'.outside ≡ s.outside

-- Another instruction is the same in both: what a machine does with the code there is. By old's
-- code alone, whatever state agrees before it, it leaves one that agrees after it.
abbrev pub OthersAgree : ((ℕ → ℕ) → ℕ → Program) → Link → Type 0
OthersAgree does l =
    (k k' : Kinds) (s s' : State) → does l.old s.pc ≡ does l.new (l.moved s.pc)
    → does l.old s.pc s ≡ Some s'
    → ((t : State) → Agree l k s t → IsSomeAnd (does l.old s.pc t) (Agree l k' s'))
    → Other (of_link l) k s k' s'
