-- What a write to the end of a section, from an offset on, leaves.
use Rattle.std.proofs.Common.{◌≡◌, ℕ, ◌-◌, ◌≤◌, Bool, List, ◌++◌, length, take, drop, sym, ◌∙◌, ap, subst, arith}
use Rattle.std.specs.Int.{byte_len}
use Rattle.std.proofs.lemmas.List.{append-nil, drop_all, drop_at, take_rest, length-take, length-drop, drop-drop}
use Rattle.std.proofs.lemmas.Slice.{take-put_mid_below}
use borrow.Rule.Slice.PartMut.{put_mid}
use Rattle.linker_utils.specs.Form.{Form, window_of, Written, MachineReads, WriteKeepsOtherBits}
use Rattle.vectors.specs.Poke.{IsPoked, window_at}

module _ (o : ℕ) (s sub : List ℕ) (inside : o ≤ length s) where
  whole : take (length s - o) (drop o s) ≡ drop o s
  whole = take_rest s o

  after : put_mid o (length s - o) s sub ≡ take o s ++ sub
  after =
      ap (λ ys. take o s ++ (sub ++ ys)) (drop_all (length s - o) (drop o s) (omega (arith, length-drop o s)))
      ∙ ap (λ ys. take o s ++ ys) (append-nil sub)

  at_offset : drop o (put_mid o (length s - o) s sub) ≡ sub
  at_offset = ap (drop o) after ∙ drop_at (take o s) sub o (length-take o s ∙ omega arith)

  -- what is known of the bytes from the offset on
  from_offset : (P : List ℕ → List ℕ → Type 0) → P (take (length s - o) (drop o s)) sub → P (drop o s) (drop o (put_mid o (length s - o) s sub))
  from_offset P h =
      subst (λ b. P b (drop o (put_mid o (length s - o) s sub))) whole (subst (P (take (length s - o) (drop o s))) (sym at_offset) h)

  pub poked : (form : Form) (v : ℕ) (neg : Bool) → WriteKeepsOtherBits form
      → Written form v neg (window_of form (take (length s - o) (drop o s))) (window_of form sub)
      → MachineReads form v neg (window_of form (take (length s - o) (drop o s))) (window_of form sub)
      → drop (byte_len form.window) sub ≡ drop (byte_len form.window) (take (length s - o) (drop o s))
      → IsPoked form v neg o s (put_mid o (length s - o) s sub)
  poked form v neg keeps laid reads rest =
      let n = byte_len form.window in
      let made = put_mid o (length s - o) s sub in
      let written : Written form v neg (window_at form s o) (window_at form made o) =
      from_offset (λ a b. Written form v neg (window_of form a) (window_of form b)) laid in
      record {
        written = written;
        machine = from_offset (λ a b. MachineReads form v neg (window_of form a) (window_of form b)) reads;
        others = keeps v neg (window_at form s o) (window_at form made o) written;
        front = take-put_mid_below o (length s - o) s sub o (omega arith) inside;
        rest = ap (λ k. drop k made) (omega arith) ∙ sym (drop-drop n o made) ∙ ap (drop n) at_offset ∙ rest ∙ ap (drop n) whole ∙ drop-drop n o s ∙ ap (λ k. drop k s) (omega arith);
      }
