use Rattle.linker_section.proofs.Imports.{List, ap, append_assoc, arith, drop, drop-drop, inl, inr, length, length-append, length-drop, length-take-le, relocation_in, relocation_of, rules, sym, take, ℕ, ◌*◌, ◌++◌, ◌+◌, ◌-◌, ◌<◌, ◌∙◌, ◌≡◌, ◌≢◌, ◌≤◌, ◌⊎◌}
use Rattle.linker_section.proofs.Windows.{IsReplaced, in_window, below_window, above_window}
use Rattle.linker_section.proofs.relocations.set_relocation.Goals as goal
use borrow.Rule.Slice.PartMut.{put_mid}

replaced : (at k : ℕ) (xs ys : List ℕ) → k ≡ 24 → at + 24 ≤ length xs → length ys ≡ 24
    → IsReplaced at 24 ys xs (put_mid at k xs ys)
replaced at k xs ys is inside len =
    let tail : drop k (drop at xs) ≡ drop (at + 24) xs =
    drop-drop k at xs ∙ ap (λ n. drop (at + n) xs) is in
    record {
      inside = inside;
      same_len =
          let a = length-append (take at xs) (ys ++ drop k (drop at xs)) in
          omega (arith, length-append ys (drop k (drop at xs)), ap length tail, length-drop (at + 24) xs, length-take-le at xs (omega arith));
      made = ap (λ rest. take at xs ++ (ys ++ rest)) tail
          ∙ sym (append_assoc (take at xs) ys (drop (at + 24) xs));
    }

apart : (n m : ℕ) → n ≢ m → (n < m) ⊎ (m < n)
apart n m ne = grind arith

other : (index n : ℕ) (xs ys entry : List ℕ) → IsReplaced (index * 24) 24 entry xs ys → n ≢ index
    → relocation_in ys n ≡ relocation_in xs n
other index n xs ys entry r ne =
    elim (apart n index ne) [
      | inl less ↦ ap relocation_of (below_window r (n * 24) 24 (omega (arith, less)))
      | inr more ↦ ap (λ s. relocation_of (take 24 s)) (above_window r (n * 24) (omega (arith, more)))
    ]

pub returns : goal.returns
returns c =
    let at = c.args.index * 24 in
    let r : IsReplaced at 24 c.write_relocation.new.entry c.args.relocations.now
    (put_mid at (at + 24 - at) c.args.relocations.now c.write_relocation.new.entry) =
    replaced at (at + 24 - at) c.args.relocations.now c.write_relocation.new.entry (omega arith)
    (let h = c.requires in omega arith) (search rules) in
    record {
      set = ap relocation_of (in_window r) ∙ c.write_relocation.ensures;
      others = λ n _ ne. other c.args.index n c.args.relocations.now _ _ r ne;
    }
