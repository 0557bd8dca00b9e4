-- A section of which one window is rewritten: what that window has then, and that all else stays.
use Rattle.linker_section.proofs.Imports.{List, [], ap, append_assoc, arith, drop, drop-append-le, drop-drop, drop-take, drop_at, get_or, get_or-drop, get_or-take, get_or_append_left, inl, inr, length, length-append, length-drop, length-take-le, refl, suc, sym, take, take-append-drop, take-append-le, take-take, take_at, zero, ℕ, ◌++◌, ◌+◌, ◌-◌, ◌<◌, ◌∙◌, ◌∷◌, ◌≡◌, ◌≤◌, ◌⊎◌}

-- a section with other bytes in a window
pub record IsReplaced (start len : ℕ) (bytes before after : List ℕ) : Type 0 where
  pub inside : start + len ≤ length before
  pub same_len : length after ≡ length before
  pub made : after ≡ take start before ++ bytes ++ drop (start + len) before

front : {start len : ℕ} {bytes before after : List ℕ} → IsReplaced start len bytes before after
    → length (take start before) ≡ start
front {start} {len} {bytes} {before} r = length-take-le start before (let i = r.inside in omega arith)

split : {start len : ℕ} {bytes before after : List ℕ} → IsReplaced start len bytes before after
    → after ≡ take start before ++ (bytes ++ drop (start + len) before)
split {start} {len} {bytes} {before} r =
    r.made ∙ append_assoc (take start before) bytes (drop (start + len) before)

pub bytes_len : {start len : ℕ} {bytes before after : List ℕ}
    → IsReplaced start len bytes before after → length bytes ≡ len
bytes_len {start} {len} {bytes} {before} {after} r =
    let a = length-append (take start before) (bytes ++ drop (start + len) before) in
    omega (arith, ap length (split r), length-append bytes (drop (start + len) before), length-drop (start + len) before, front r, r.inside, r.same_len)

pub after_start : {start len : ℕ} {bytes before after : List ℕ}
    → IsReplaced start len bytes before after
    → drop start after ≡ bytes ++ drop (start + len) before
after_start {start} {len} {bytes} {before} r =
    ap (drop start) (split r)
    ∙ drop_at (take start before) (bytes ++ drop (start + len) before) start (front r)

pub in_window : {start len : ℕ} {bytes before after : List ℕ}
    → IsReplaced start len bytes before after → take len (drop start after) ≡ bytes
in_window {start} {len} {bytes} {before} r =
    ap (take len) (after_start r) ∙ take_at bytes (drop (start + len) before) len (bytes_len r)

pub below_window : {start len : ℕ} {bytes before after : List ℕ}
    → IsReplaced start len bytes before after → (t m : ℕ) → t + m ≤ start
    → take m (drop t after) ≡ take m (drop t before)
below_window {start} {len} {bytes} {before} {after} r t m le =
    let f = front r in
    let rest = bytes ++ drop (start + len) before in
    let d : drop t after ≡ drop t (take start before) ++ rest =
    ap (drop t) (split r) ∙ drop-append-le t (take start before) rest (omega arith) in
    let l = length-drop t (take start before) in
    let cut : take m (drop t (take start before) ++ rest) ≡ take m (drop t (take start before)) =
    take-append-le m (drop t (take start before)) rest (omega arith) in
    let whole : t + (start - t) ≡ start = omega arith in
    let inner : drop t (take start before) ≡ take (start - t) (drop t before) =
    ap (λ n. drop t (take n before)) (sym whole) ∙ drop-take t (start - t) before in
    ap (take m) d ∙ (cut ∙ (ap (take m) inner ∙ take-take m (start - t) (drop t before) (omega arith)))

pub above_window : {start len : ℕ} {bytes before after : List ℕ}
    → IsReplaced start len bytes before after → (t : ℕ) → start + len ≤ t
    → drop t after ≡ drop t before
above_window {start} {len} {bytes} {before} {after} r t le =
    let whole : (start + len) + (t - (start + len)) ≡ t = omega arith in
    let end : drop (start + len) after ≡ drop (start + len) before =
    sym (drop-drop len start after)
    ∙ (ap (drop len) (after_start r) ∙ drop_at bytes (drop (start + len) before) len (bytes_len r)) in
    ap (λ n. drop n after) (sym whole)
    ∙ (sym (drop-drop (t - (start + len)) (start + len) after)
    ∙ (ap (drop (t - (start + len))) end
    ∙ (drop-drop (t - (start + len)) (start + len) before ∙ ap (λ n. drop n before) whole)))

pub outside_window : {start len : ℕ} {bytes before after : List ℕ}
    → IsReplaced start len bytes before after → (at : ℕ) → (at < start) ⊎ (start + len ≤ at)
    → get_or after at 0 ≡ get_or before at 0
outside_window {start} {len} {bytes} {before} {after} r at (inl below) =
    ap (λ xs. get_or xs at 0) (split r)
    ∙ (get_or_append_left (take start before) (bytes ++ drop (start + len) before) 0 at (omega (arith, front r))
    ∙ get_or-take start before at 0 below)
outside_window {start} {len} {bytes} {before} {after} r at (inr above) =
    let zero : at + 0 ≡ at = omega arith in
    ap (λ n. get_or after n 0) (sym zero)
    ∙ (sym (get_or-drop at after 0 0)
    ∙ (ap (λ xs. get_or xs 0 0) (above_window r at above) ∙ (get_or-drop at before 0 0 ∙ ap (λ n. get_or before n 0) zero)))

no_bytes : (bytes : List ℕ) → length bytes ≡ 0 → bytes ≡ []
no_bytes [] none = refl
no_bytes (x ∷ xs) none = absurd (omega arith)

pub zero_or_more : (n : ℕ) → (n ≡ 0) ⊎ (0 < n)
zero_or_more zero = inl refl
zero_or_more (suc n) = inr (omega arith)

-- with a window of no bytes nothing changes
pub none_replaced : {start len : ℕ} {bytes before after : List ℕ}
    → IsReplaced start len bytes before after → len ≡ 0 → after ≡ before
none_replaced {start} {len} {bytes} {before} {after} r none =
    let rest : drop (start + len) before ≡ drop start before =
    ap (λ n. drop n before) (omega arith) in
    split r ∙ (ap (λ xs. take start before ++ (xs ++ drop (start + len) before)) (no_bytes bytes (bytes_len r ∙ none))
    ∙ (ap (λ xs. take start before ++ xs) rest ∙ take-append-drop start before))

-- what one rewrite does to a section: nothing, or one window has other bytes
abbrev pub IsStep : ℕ → ℕ → List ℕ → List ℕ → Type 0
IsStep start len before after =
    (after ≡ before) ⊎ ((0 < len) × ((bytes : List ℕ) × IsReplaced start len bytes before after))

pub step_of : {start len : ℕ} {bytes before after : List ℕ}
    → IsReplaced start len bytes before after → IsStep start len before after
step_of {start} {len} {bytes} r =
    elim (zero_or_more len) [
      | inl none ↦ inl (none_replaced r none)
      | inr some ↦ inr (some, (bytes, r))
    ]

-- a window before it stays
pub step_below : (start len : ℕ) (before after : List ℕ) (t m : ℕ)
    → IsStep start len before after → (0 < m → 0 < len → t + m ≤ start)
    → take m (drop t after) ≡ take m (drop t before)
step_below start len before after t m (inl same) below = ap (λ xs. take m (drop t xs)) same
step_below start len before after t m (inr step) below =
    elim (zero_or_more m) [
      | inl none ↦ ap (λ n. take n (drop t after)) none ∙ sym (ap (λ n. take n (drop t before)) none)
      | inr some ↦ below_window (step.1.1) t m (below some (step.0))
    ]

-- what is after it stays
pub step_above : (start len : ℕ) (before after : List ℕ) (t : ℕ)
    → IsStep start len before after → (0 < len → start + len ≤ t)
    → drop t after ≡ drop t before
step_above start len before after t (inl same) above = ap (drop t) same
step_above start len before after t (inr step) above = above_window (step.1.1) t (above (step.0))

-- and so does each byte outside
pub step_outside : (start len : ℕ) (before after : List ℕ) (at : ℕ)
    → IsStep start len before after → (at < start) ⊎ (start + len ≤ at)
    → get_or after at 0 ≡ get_or before at 0
step_outside start len before after at (inl same) outside = ap (λ xs. get_or xs at 0) same
step_outside start len before after at (inr step) outside = outside_window (step.1.1) at outside
