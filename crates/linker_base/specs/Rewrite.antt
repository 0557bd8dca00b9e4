-- Rewrites of instructions: the window of bytes that a rewrite changes, what it needs there, and
-- what it leaves.
use Rattle.std.specs.Prelude.{ℕ, ◌+◌, ◌-◌, ◌≤◌, Bool, true, IsTrue, List, ◌++◌, length, take, drop}
use Rattle.std.specs.Prelude.{Option, None, Some, ℤ, ⊤}

-- A rewrite at an offset o of a section.
pub record Rewrite : Type 0 where
  -- its window is the `len` bytes from o - back
  pub back : ℕ
  pub len : ℕ
  -- the windows that it rewrites
  pub admits : List ℕ → Bool
  -- the window after, by the window before
  pub bytes : List ℕ → List ℕ
  -- the offset after
  pub offset : ℕ → ℕ
  -- the addend after
  pub addend : ℤ → ℤ

-- a rewrite that takes every window, and leaves the offset and the addend as they are
abbrev pub replaces : ℕ → ℕ → (List ℕ → List ℕ) → Rewrite
replaces back len bytes =
    record {
      back = back;
      len = len;
      admits = λ _. true;
      bytes = bytes;
      offset = λ o. o;
      addend = λ a. a;
    }

abbrev pub rewrite_window : Rewrite → List ℕ → ℕ → List ℕ
rewrite_window r section o = take r.len (drop (o - r.back) section)

-- the window lies in the section and is one that the rewrite takes
pub record IsRewritable (r : Rewrite) (section : List ℕ) (o : ℕ) : Type 0 where
  pub starts : r.back ≤ o
  pub ends : o - r.back + r.len ≤ length section
  pub admitted : IsTrue (r.admits (rewrite_window r section o))

-- a rewrite of none changes nothing, at any offset
abbrev pub CanRewrite : Option Rewrite → List ℕ → ℕ → Type 0
CanRewrite None section o = ⊤
CanRewrite (Some r) section o = IsRewritable r section o

-- the section after
abbrev pub rewritten : Option Rewrite → List ℕ → ℕ → List ℕ
rewritten None section o = section
rewritten (Some r) section o =
    take (o - r.back) section ++ r.bytes (rewrite_window r section o)
    ++ drop (o - r.back + r.len) section

abbrev pub offset_after : Option Rewrite → ℕ → ℕ
offset_after None o = o
offset_after (Some r) o = r.offset o

abbrev pub addend_after : Option Rewrite → ℤ → ℤ
addend_after None a = a
addend_after (Some r) a = r.addend a
