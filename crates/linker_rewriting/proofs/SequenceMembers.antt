-- Members of sequences, one by one.
use Rattle.linker_rewriting.proofs.Imports.{AArch64, Architecture, Bool, IsWhole, List, LoongArch64, Member, None, Option, Ppc64, Rela, RiscV, Some, Tie, X86_64, [], add-one, and_parts, ap, are_members, arith, cases_lt, cond, cond-false, cond-true, drop, drop-cons, eqb-true, false, get_or, inl, inr, is_among, is_member, is_place, is_tied, is_typed, is_whole, is_whole_in, le-leb, le-ltb, leb-true, length, lt-ltb, ltb, nat_le, pos, refl, relocation_at, relocation_in, subst, sym, true, ℕ, ◌&&◌, ◌+◌, ◌-◌, ◌/◌, ◌<◌, ◌==◌, ◌∙◌, ◌∷◌, ◌≡◌, ◌≤◌}
use Rattle.linker_rewriting.specs.declared.sequences.Tie.TheVariants.{Subject, Symbol, Mark}
use Rattle.std.specs.Ordering.{int_eq}
use Rattle.std.proofs.lemmas.Bool.Decides.{Decides-int_eq}

-- ---- a loop's index

pub members_left : (ms : List Member) (bytes : List ℕ) (first offset : ℕ) (r : Rela) (k : ℕ) (d : Member)
    (found : Option Rela) (is : Bool) → k < length ms → found ≡ relocation_at bytes (first + k)
    → is ≡ is_member (get_or ms k d) offset r found
    → are_members (drop k ms) bytes first k offset r
    ≡ (is && are_members (drop (k + 1) ms) bytes first (k + 1) offset r)
members_left ms bytes first offset r k d found is less found_is is_so =
    let e : are_members (drop k ms) bytes first k offset r
    ≡ (is_member (get_or ms k d) offset r (relocation_at bytes (first + k))
    && are_members (drop (k + 1) ms) bytes first (k + 1) offset r) =
    rw (drop-cons ms k d, add-one) refl in
    e
    ∙ ap (λ x. x && are_members (drop (k + 1) ms) bytes first (k + 1) offset r)
    (ap (is_member (get_or ms k d) offset r) (sym found_is) ∙ sym is_so)

pub places_left : (all ms : List Member) (bytes : List ℕ) (n : ℕ) (r : Rela) (k : ℕ) (d : Member) (is : Bool)
    → k < length ms → is ≡ is_place (get_or ms k d) r.r_type
    → is_whole_in all (drop k ms) k bytes n r
    ≡ cond is (is_among all k (get_or ms k d).distance bytes n r)
    (is_whole_in all (drop (k + 1) ms) (k + 1) bytes n r)
places_left all ms bytes n r k d is less is_so =
    let e : is_whole_in all (drop k ms) k bytes n r
    ≡ cond (is_place (get_or ms k d) r.r_type) (is_among all k (get_or ms k d).distance bytes n r)
    (is_whole_in all (drop (k + 1) ms) (k + 1) bytes n r) =
    rw (drop-cons ms k d, add-one) refl in
    e
    ∙ ap (λ x. cond x (is_among all k (get_or ms k d).distance bytes n r) (is_whole_in all (drop (k + 1) ms) (k + 1) bytes n r)) (sym is_so)

abbrev pub no_member : Member
no_member = record { r_type = 0; distance = 0; tie = Subject }

-- ---- what a member is

pub there : (bytes : List ℕ) (n : ℕ) → n < length bytes / 24
    → relocation_at bytes n ≡ Some (relocation_in bytes n)
there bytes n within =
    cond-true (ltb n (length bytes / 24)) (Some (relocation_in bytes n)) None
    (lt-ltb n (length bytes / 24) within)

abbrev pub IsOf : Rela → Rela → Type 0
IsOf one found = (found.symbol ≡ one.symbol) × (found.addend ≡ one.addend)

same_subject : (one found : Rela) → ((found.symbol == one.symbol) && int_eq found.addend one.addend) ≡ true
    → IsOf one found
same_subject one found is =
    let a = and_parts (found.symbol == one.symbol) (int_eq found.addend one.addend) is in
    (eqb-true found.symbol one.symbol (a.0), (Decides-int_eq found.addend one.addend).0 (a.1))

of_tie : (tie : Tie) (one found : Rela) → is_tied tie one found ≡ true → is_typed tie ≡ true → IsOf one found
of_tie Subject one found is typed = same_subject one found is
of_tie Symbol one found is typed =
    same_subject one found
    (and_parts ((found.symbol == one.symbol) && int_eq found.addend one.addend) (int_eq one.addend (pos 0)) is).0
of_tie Mark one found is typed = absurd (let e : false ≡ true = typed in cc)

-- the relocation with an index is a member of a sequence at an offset
pub record IsThere (m : Member) (offset : ℕ) (one : Rela) (bytes : List ℕ) (i : ℕ) : Type 0 where
  pub below : i < length bytes / 24
  pub offset_is : (relocation_in bytes i).offset ≡ offset + m.distance
  pub r_type_is : (relocation_in bytes i).r_type ≡ m.r_type
  pub of : is_typed m.tie ≡ true → IsOf one (relocation_in bytes i)

member_there : (m : Member) (offset : ℕ) (one : Rela) (bytes : List ℕ) (i : ℕ)
    → is_member m offset one (relocation_at bytes i) ≡ true → IsThere m offset one bytes i
member_there m offset one bytes i is =
    let found = relocation_in bytes i in
    elim (cases_lt i (length bytes / 24)) [
      | inl below ↦
          let a = and_parts (found.offset == offset + m.distance) ((found.r_type == m.r_type) && is_tied m.tie one found)
          (subst (λ x. is_member m offset one x ≡ true) (there bytes i below) is) in
          let b = and_parts (found.r_type == m.r_type) (is_tied m.tie one found) (a.1) in
          record {
            below = below;
            offset_is = eqb-true found.offset (offset + m.distance) (a.0);
            r_type_is = eqb-true found.r_type m.r_type (b.0);
            of = of_tie m.tie one found (b.1);
          }
      | inr past ↦
          let none : relocation_at bytes i ≡ None =
          cond-false (ltb i (length bytes / 24)) (Some found) None (le-ltb i (length bytes / 24) past) in
          absurd (let e : false ≡ true = subst (λ x. is_member m offset one x ≡ true) none is in cc)
    ]

abbrev pub AreThere : List Member → ℕ → Rela → List ℕ → ℕ → ℕ → Type 0
AreThere [] offset one bytes first place = Unit {0}
AreThere (m ∷ ms) offset one bytes first place =
    IsThere m offset one bytes (first + place) × AreThere ms offset one bytes first (place + 1)

pub are_there : (ms : List Member) (offset : ℕ) (one : Rela) (bytes : List ℕ) (first place : ℕ)
    → are_members ms bytes first place offset one ≡ true → AreThere ms offset one bytes first place
are_there [] offset one bytes first place is = tt
are_there (m ∷ ms) offset one bytes first place is =
    let a = and_parts (is_member m offset one (relocation_at bytes (first + place))) (are_members ms bytes first (place + 1) offset one) is in (
      member_there m offset one bytes (first + place) (a.0),
      are_there ms offset one bytes first (place + 1) (a.1),
    )

pub at_first : (m : Member) (offset : ℕ) (one : Rela) (bytes : List ℕ) (first : ℕ)
    → IsThere m offset one bytes (first + 0) → IsThere m offset one bytes first
at_first m offset one bytes first = subst (IsThere m offset one bytes) (let e : first + 0 ≡ first = omega arith in e)

-- ---- the sequence that one is among

pub whole_so : (architecture : Architecture) (bytes : List ℕ) (n : ℕ) (r : Rela) (whole : Bool)
    → whole ≡ is_whole architecture bytes n r → IsWhole architecture bytes n r whole
whole_so AArch64 bytes n r whole is = is
whole_so LoongArch64 bytes n r whole is = is
whole_so RiscV bytes n r whole is = is
whole_so Ppc64 bytes n r whole is = is
whole_so X86_64 bytes n r whole is = is

pub among_is : (all : List Member) (place distance : ℕ) (bytes : List ℕ) (n first offset : ℕ) (r : Rela)
    → place ≤ n → distance ≤ r.offset → n - place ≡ first → r.offset - distance ≡ offset
    → are_members all bytes first 0 offset r ≡ true → is_among all place distance bytes n r ≡ true
among_is all place distance bytes n first offset r le low is_first is_offset is =
    ap (λ b. b && (nat_le distance r.offset && are_members all bytes (n - place) 0 (r.offset - distance) r)) (le-leb place n le)
    ∙ (ap (λ b. b && are_members all bytes (n - place) 0 (r.offset - distance) r) (le-leb distance r.offset low)
    ∙ (ap (λ k. are_members all bytes k 0 (r.offset - distance) r) is_first
    ∙ (ap (λ k. are_members all bytes first 0 k r) is_offset ∙ is)))

pub among : (all : List Member) (place distance : ℕ) (bytes : List ℕ) (n : ℕ) (r : Rela)
    → (is_among all place distance bytes n r && true) ≡ true
    → (place ≤ n) × (are_members all bytes (n - place) 0 (r.offset - distance) r ≡ true)
among all place distance bytes n r is =
    let four : Bool = are_members all bytes (n - place) 0 (r.offset - distance) r in
    let a = and_parts (is_among all place distance bytes n r) true is in
    let b = and_parts (nat_le place n) (nat_le distance r.offset && four) (a.0) in
    (leb-true place n (b.0), (and_parts (nat_le distance r.offset) four (b.1)).1)
