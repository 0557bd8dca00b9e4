-- A note that was written is read as the properties that were written.
use Rattle.linker_output.proofs.Imports.{All, Any, AnyOfAll, Architecture, AreSlim, Err, IsSlim, Largest, List, None, Ok, Option, Present, Property, PropertyError, PropertyRule, Reading, Result, Same, Some, WritesNote, [], ap, append_assoc, arith, before, bytes_of, drop, drop_at, false, fits, from_le_bytes, from_le_bytes-to_le_bytes_8, if◌then◌else◌, is_header, length, length-append, nat_lt, nat_tests, note_words, properties_of, property_at, property_words, read, refl, rule_of, size_of, start, subst, suc, sym, take, take_at, to_le_bytes, true, value_words, visit, visit_note, w64, with_words, word_at, words_by, ℕ, ◌%◌, ◌&&◌, ◌*◌, ◌++◌, ◌+◌, ◌-◌, ◌/◌, ◌<◌, ◌==◌, ◌^◌, ◌∙◌, ◌∷◌, ◌≡◌, ◌≤◌}
use Rattle.linker_output.specs.Properties.{words_from, padded}
use Rattle.linker_output.specs.declared.properties.PropertyError.TheVariants.{TooLarge, NotAscending}
use Rattle.linker_output.proofs.WrittenProperties.{length_bytes, bytes_append, word_count, with_header}
use Rattle.linker_output.proofs.ReadProperties.{on_step, at_end}

-- ---- words

front_word : (w : ℕ) (rest : List ℕ) → w < 2 ^ 64 → from_le_bytes w64 (to_le_bytes w64 w ++ rest) ≡ w
front_word w rest small = from_le_bytes-to_le_bytes_8 w small

-- the word after others
word_after : (pre post : List ℕ) (w at : ℕ) → w < 2 ^ 64 → at ≡ 8 * length pre
    → word_at (bytes_of (pre ++ w ∷ post)) at ≡ w
unfolding bytes_of
word_after pre post w at small e =
    ap (λ n. from_le_bytes w64 (drop n (bytes_of (pre ++ w ∷ post)))) e
    ∙ ap (λ bs. from_le_bytes w64 (drop (8 * length pre) bs)) (bytes_append pre (w ∷ post))
    ∙ ap (from_le_bytes w64) (drop_at (bytes_of pre) (to_le_bytes w64 w ++ bytes_of post) (8 * length pre) (length_bytes pre))
    ∙ front_word w (bytes_of post) small

-- ---- a property

-- what is written of a property before what is written of others
inv_by : (rule : Option PropertyRule) (p : Property) (rest : Result (List ℕ) PropertyError) (ws : List ℕ)
    → words_by rule p rest ≡ Ok ws
    → (r : PropertyRule) × (xs : List ℕ) × (rule ≡ Some r) × (fits r p ≡ true) × (rest ≡ Ok xs) × (ws ≡ property_words r p ++ xs)
inv_by None p rest ws e = absurd (cc)
inv_by (Some r) p (Err x) ws e =
    elim (fits r p) as (λ t. (if t then with_words (property_words r p) (Err x) else Err (TooLarge p.kind)) ≡ Ok ws
    → (q : PropertyRule) × (xs : List ℕ) × (Some r ≡ Some q) × (fits q p ≡ true) × (◌≡◌ {A = Result (List ℕ) PropertyError} (Err x) (Ok xs)) × (ws ≡ property_words q p ++ xs))
    [ true ↦ λ h. absurd (cc) | false ↦ λ h. absurd (cc) ] e
inv_by (Some r) p (Ok xs) ws e =
    elim (fits r p) as (λ t. t ≡ fits r p → (if t then with_words (property_words r p) (Ok xs) else Err (TooLarge p.kind)) ≡ Ok ws
    → (q : PropertyRule) × (ys : List ℕ) × (Some r ≡ Some q) × (fits q p ≡ true) × (◌≡◌ {A = Result (List ℕ) PropertyError} (Ok xs) (Ok ys)) × (ws ≡ property_words q p ++ ys))
    [ true ↦ λ q h. (r, xs, refl, sym q, refl, cc) | false ↦ λ q h. absurd (cc) ] refl e

inv_from : (a : Architecture) (least index : ℕ) (p : Property) (ps : List Property) (ws : List ℕ)
    → words_from a least index (p ∷ ps) ≡ Ok ws
    → (least ≤ p.kind) × (words_by (rule_of a p.kind) p (words_from a (p.kind + 1) (index + 1) ps) ≡ Ok ws)
inv_from a least index p ps ws e =
    let by = words_by (rule_of a p.kind) p (words_from a (p.kind + 1) (index + 1) ps) in
    elim (nat_lt p.kind least) as (λ t. t ≡ nat_lt p.kind least → (if t then Err (NotAscending index) else by) ≡ Ok ws
    → (least ≤ p.kind) × (by ≡ Ok ws))
    [ true ↦ λ q h. absurd (cc) | false ↦ λ q h. (grind (arith, nat_tests), h) ] refl e

padded_is : (rule : PropertyRule) (p : Property) → padded (size_of rule) ≡ 8 * length (value_words rule p)
padded_is All p = refl
padded_is other p = refl

-- a property of the size of its type, where there is room
visit_is : (a : Architecture) (s : List ℕ) (v : Reading) (kind size : ℕ) (rule : PropertyRule)
    → word_at s v.next % 2 ^ 32 ≡ kind → word_at s v.next / 2 ^ 32 ≡ size
    → v.next + 8 + padded size ≤ v.end → v.least ≤ kind → rule_of a kind ≡ Some rule → size ≡ size_of rule
    → visit a s v ≡ Ok (record { next = v.next + 8 + padded size; end = v.end; least = kind + 1; property = Some (property_at rule s (v.next + 8) kind) })
visit_is a s v kind size rule k z room least known same =
    let t0 : (v.next == v.end) ≡ false = grind (arith, nat_tests) in
    let t1 : nat_lt (v.end - v.next) 8 ≡ false = grind (arith, nat_tests) in
    let t2 : nat_lt (v.end - v.next - 8) (padded size) ≡ false = grind (arith, nat_tests) in
    let t3 : nat_lt kind v.least ≡ false = grind (arith, nat_tests) in
    let t4 : (size == size_of rule) ≡ true = grind (arith, nat_tests) in
    rw (t0, k, z, t1, t2, t3, known, t4) refl

of_parts : (p : Property) (v w : ℕ) → v ≡ p.value → w ≡ p.version
    → record { kind = p.kind; value = v; version = w } ≡ p
of_parts p v w e f = rw (e, f) refl

-- of a value of 4 bytes
of_four : (p : Property) (word : ℕ) → word ≡ p.value → p.value < 2 ^ 32 → p.version ≡ 0
    → record { kind = p.kind; value = word % 2 ^ 32; version = 0 } ≡ p
of_four p word e small none = of_parts p (word % 2 ^ 32) 0 (omega arith) (sym none)

four_fit : (p : Property) → (nat_lt p.value (2 ^ 32) && (p.version == 0)) ≡ true → (p.value < 2 ^ 32) × (p.version ≡ 0)
four_fit p fit = (grind (arith, nat_tests), grind (arith, nat_tests))

property_is : (rule : PropertyRule) (s : List ℕ) (at : ℕ) (p : Property) → fits rule p ≡ true
    → (0 < length (value_words rule p) → word_at s at ≡ p.value)
    → (1 < length (value_words rule p) → word_at s (at + 8) ≡ p.version)
    → property_at rule s at p.kind ≡ p
property_is All s at p fit one two =
    let f = four_fit p fit in of_four p (word_at s at) (one (omega arith)) f.0 f.1
property_is Any s at p fit one two =
    let f = four_fit p fit in of_four p (word_at s at) (one (omega arith)) f.0 f.1
property_is AnyOfAll s at p fit one two =
    let f = four_fit p fit in of_four p (word_at s at) (one (omega arith)) f.0 f.1
property_is Largest s at p fit one two =
    of_parts p (word_at s at) 0 (one (omega arith)) (grind (arith, nat_tests))
property_is Present s at p fit one two =
    of_parts p 0 0 (grind (arith, nat_tests)) (grind (arith, nat_tests))
property_is Same s at p fit one two =
    of_parts p (word_at s at) (word_at s (at + 8)) (one (omega arith)) (two (omega arith))

-- a value's words after others
value_first : (rule : PropertyRule) (p : Property) (pre rest : List ℕ) (at : ℕ) → IsSlim p → at ≡ 8 * length pre
    → 0 < length (value_words rule p) → word_at (bytes_of (pre ++ (value_words rule p ++ rest))) at ≡ p.value
value_first Present p pre rest at slim e some = absurd (omega arith)
value_first Same p pre rest at slim e some = word_after pre (p.version ∷ rest) p.value at slim.value e
value_first other p pre rest at slim e some = word_after pre rest p.value at slim.value e

value_at : (rule : PropertyRule) (p : Property) (pre rest : List ℕ) (head at : ℕ) → IsSlim p → at ≡ 8 * length pre + 8
    → 0 < length (value_words rule p)
    → word_at (bytes_of (pre ++ head ∷ (value_words rule p ++ rest))) at ≡ p.value
value_at rule p pre rest head at slim e some =
    subst (λ ws. word_at (bytes_of ws) at ≡ p.value) (append_assoc pre (head ∷ []) (value_words rule p ++ rest))
    (value_first rule p (pre ++ head ∷ []) rest at slim (omega (arith, length-append pre (head ∷ []))) some)

version_at : (rule : PropertyRule) (p : Property) (pre rest : List ℕ) (head at : ℕ) → IsSlim p → at ≡ 8 * length pre + 16
    → 1 < length (value_words rule p)
    → word_at (bytes_of (pre ++ head ∷ (value_words rule p ++ rest))) at ≡ p.version
version_at Same p pre rest head at slim e some =
    subst (λ ws. word_at (bytes_of ws) at ≡ p.version) (append_assoc pre (head ∷ p.value ∷ []) (p.version ∷ rest))
    (word_after (pre ++ head ∷ p.value ∷ []) rest p.version at slim.version (omega (arith, length-append pre (head ∷ p.value ∷ []))))
version_at other p pre rest head at slim e some = absurd (omega arith)

low : (k n : ℕ) → k < 2 ^ 32 → (k + 2 ^ 32 * n) % 2 ^ 32 ≡ k
low k n small = omega arith

high : (k n : ℕ) → k < 2 ^ 32 → (k + 2 ^ 32 * n) / 2 ^ 32 ≡ n
high k n small = omega arith

size_small : (rule : PropertyRule) → size_of rule ≤ 16
size_small All = omega arith
size_small other = omega arith

head_small : (k n : ℕ) → k < 2 ^ 32 → n ≤ 16 → k + 2 ^ 32 * n < 2 ^ 64
head_small k n one two = omega arith

visited : (a : Architecture) (rule : PropertyRule) (p : Property) (pre rest : List ℕ) (v : Reading)
    → IsSlim p → rule_of a p.kind ≡ Some rule → fits rule p ≡ true → v.least ≤ p.kind
    → v.next ≡ 8 * length pre → v.end ≡ 8 * length (pre ++ (property_words rule p ++ rest))
    → visit a (bytes_of (pre ++ (property_words rule p ++ rest))) v
    ≡ Ok (record { next = 8 * length (pre ++ property_words rule p); end = v.end; least = p.kind + 1; property = Some p })
visited a rule p pre rest v slim known fit least at end =
    let head = p.kind + 2 ^ 32 * size_of rule in
    let s = bytes_of (pre ++ (property_words rule p ++ rest)) in
    let w : word_at s v.next ≡ head = word_after pre (value_words rule p ++ rest) head v.next (head_small p.kind (size_of rule) slim.kind (size_small rule)) at in
    let k : word_at s v.next % 2 ^ 32 ≡ p.kind = ap (λ n. n % 2 ^ 32) w ∙ low p.kind (size_of rule) slim.kind in
    let pad = padded_is rule p in
    let l1 = length-append pre (property_words rule p ++ rest) in
    let l2 = length-append (property_words rule p) rest in
    let room : v.next + 8 + padded (size_of rule) ≤ v.end = omega (arith, pad, l1, l2, at, end) in
    let next : v.next + 8 + padded (size_of rule) ≡ 8 * length (pre ++ property_words rule p) = omega (arith, pad, length-append pre (property_words rule p), at) in
    let q : property_at rule s (v.next + 8) p.kind ≡ p =
    property_is rule s (v.next + 8) p fit
    (λ some. value_at rule p pre rest head (v.next + 8) slim (omega (arith, at)) some)
    (λ some. version_at rule p pre rest head (v.next + 8 + 8) slim (omega (arith, at)) some) in
    (visit_is a s v p.kind (size_of rule) rule k (ap (λ n. n / 2 ^ 32) w ∙ high p.kind (size_of rule) slim.kind) room least known refl) ∙ ap (λ n. Ok (record { next = n; end = v.end; least = p.kind + 1; property = Some (property_at rule s (v.next + 8) p.kind) })) next
    ∙ ap (λ it. Ok (record { next = 8 * length (pre ++ property_words rule p); end = v.end; least = p.kind + 1; property = Some it })) q

-- ---- all properties

sixteen : (n : ℕ) → 8 * suc (suc n) ≡ 16 + 8 * n
sixteen n = omega arith

read_step : (a : Architecture) (rule : PropertyRule) (p : Property) (ps : List Property) (pre rest : List ℕ) (v : Reading)
    → IsSlim p → rule_of a p.kind ≡ Some rule → fits rule p ≡ true → v.least ≤ p.kind
    → v.next ≡ 8 * length pre → v.end ≡ 8 * length (pre ++ (property_words rule p ++ rest))
    → ((w : Reading) → w.least ≡ p.kind + 1 → w.next ≡ 8 * length (pre ++ property_words rule p)
    → w.end ≡ 8 * length ((pre ++ property_words rule p) ++ rest)
    → read (length (bytes_of ((pre ++ property_words rule p) ++ rest))) a (bytes_of ((pre ++ property_words rule p) ++ rest)) w ≡ Ok ps)
    → read (length (bytes_of (pre ++ (property_words rule p ++ rest)))) a (bytes_of (pre ++ (property_words rule p ++ rest))) v ≡ Ok (p ∷ ps)
read_step a rule p ps pre rest v slim known fit least at end others =
    let ws = property_words rule p in
    let s = bytes_of (pre ++ (ws ++ rest)) in
    let w : Reading = record { next = 8 * length (pre ++ ws); end = v.end; least = p.kind + 1; property = Some p } in
    let len = length_bytes (pre ++ (ws ++ rest)) in
    let l1 = length-append pre (ws ++ rest) in
    let l2 = length-append ws rest in
    let lt : v.next < length s = omega (arith, len, l1, l2, at) in
    let within : v.end ≤ length s = omega (arith, len, end) in
    let same = append_assoc pre ws rest in
    let ih : read (length s) a s w ≡ Ok ps =
    subst (λ xs. read (length (bytes_of xs)) a (bytes_of xs) w ≡ Ok ps) same (others w refl refl (end ∙ ap (λ xs. 8 * length xs) (sym same))) in
    (on_step a s v w (omega (arith, len, end, lt)) within lt (visited a rule p pre rest v slim known fit least at end)) ∙ ap (before (Some p)) ih

pub read_on : (a : Architecture) (ps : List Property) (pre ws : List ℕ) (least index : ℕ) (v : Reading)
    → AreSlim ps → words_from a least index ps ≡ Ok ws → v.least ≡ least
    → v.next ≡ 8 * length pre → v.end ≡ 8 * length (pre ++ ws)
    → read (length (bytes_of (pre ++ ws))) a (bytes_of (pre ++ ws)) v ≡ Ok ps
read_on a [] pre ws least index v slim e lv at end =
    let none : ws ≡ [] = cc in
    let len = length_bytes (pre ++ ws) in
    let l1 = length-append pre ws in
    at_end (length (bytes_of (pre ++ ws))) a (bytes_of (pre ++ ws)) v (omega (arith, len, l1, ap length none, at))
read_on a (p ∷ ps) pre ws least index v slim e lv at end =
    let f = inv_from a least index p ps ws e in
    let g = inv_by (rule_of a p.kind) p (words_from a (p.kind + 1) (index + 1) ps) ws f.1 in
    subst (λ xs. read (length (bytes_of (pre ++ xs))) a (bytes_of (pre ++ xs)) v ≡ Ok (p ∷ ps)) (sym g.5)
    (read_step a g.0 p ps pre g.1 v slim.0 g.2 g.3 (omega (arith, lv, f.0)) at (end ∙ ap (λ xs. 8 * length (pre ++ xs)) g.5)
    (λ w l n m. read_on a ps (pre ++ property_words g.0 p) g.1 (p.kind + 1) (index + 1) w slim.1 g.4 l n m))

pub few_words : (a : Architecture) (ps : List Property) (ws : List ℕ) (least index : ℕ)
    → words_from a least index ps ≡ Ok ws → length ws ≤ 3 * length ps
few_words a [] ws least index e = let none : ws ≡ [] = cc in let l = ap length none in omega arith
few_words a (p ∷ ps) ws least index e =
    let g = inv_by (rule_of a p.kind) p (words_from a (p.kind + 1) (index + 1) ps) ws (inv_from a least index p ps ws e).1 in
    omega (arith, few_words a ps g.1 (p.kind + 1) (index + 1) g.4, ap length g.5, length-append (property_words g.0 p) g.1, word_count g.0 p)

-- ---- the header

note_visited : (s : List ℕ) (size : ℕ) → length s ≡ 16 + size → word_at s 0 ≡ 4 + 2 ^ 32 * size
    → word_at s 8 ≡ 0x00554e4700000005
    → visit_note s start ≡ Ok (record { next = 16; end = 16 + size; least = 0; property = None })
note_visited s size len one two =
    let k : word_at s 0 % 2 ^ 32 ≡ 4 = ap (λ n. n % 2 ^ 32) one ∙ low 4 size (omega arith) in
    let z : word_at s 0 / 2 ^ 32 ≡ size = ap (λ n. n / 2 ^ 32) one ∙ high 4 size (omega arith) in
    let t1 : nat_lt (length s - 0) 16 ≡ false = grind (arith, nat_tests) in
    let t2 : is_header s 0 ≡ true = rw (k, two) refl in
    let t3 : nat_lt (length s - 0 - 16) size ≡ false = grind (arith, nat_tests) in
    rw (t1, t2, z, t3) refl

read_header : (a : Architecture) (ps : List Property) (ws : List ℕ) → AreSlim ps → words_from a 0 0 ps ≡ Ok ws
    → 8 * length ws < 2 ^ 32
    → properties_of a (bytes_of ((4 + 2 ^ 32 * (8 * length ws)) ∷ 0x00554e4700000005 ∷ ws)) ≡ Ok ps
read_header a ps ws slim e small =
    let h = 4 + 2 ^ 32 * (8 * length ws) in
    let n : ℕ = 0x00554e4700000005 in
    let s = bytes_of (h ∷ n ∷ ws) in
    let len : length s ≡ 16 + 8 * length ws = length_bytes (h ∷ n ∷ ws) ∙ sixteen (length ws) in
    let w : Reading = record { next = 16; end = 16 + 8 * length ws; least = 0; property = None } in
    let vis : visit a s start ≡ Ok w = note_visited s (8 * length ws) len (word_after [] (n ∷ ws) h 0 (omega arith) refl) (word_after (h ∷ []) ws n 8 (omega arith) refl) in
    (on_step a s start w (omega arith) (omega arith) (omega (arith, len)) vis) ∙ read_on a ps (h ∷ n ∷ []) ws 0 0 w slim e refl refl (sym (sixteen (length ws)))

pub read_back : (a : Architecture) (ps : List Property) (old new : List ℕ) (len : ℕ) → AreSlim ps → length ps < 2 ^ 27
    → WritesNote a ps old new len → properties_of a (take len new) ≡ Ok ps
unfolding bytes_of read
read_back a [] old new len slim few w =
    let none : w.words ≡ [] = (let e = w.sound in cc) in
    rw (w.len_is ∙ ap (λ ws. 8 * length (note_words ws)) none) refl
read_back a (p ∷ ps) old new len slim few w =
    let h = with_header a (p ∷ ps) w.words (λ e. absurd (cc)) w.sound in
    let bytes : length (bytes_of (note_words w.words)) ≡ len = length_bytes (note_words w.words) ∙ sym w.len_is in
    let front : take len new ≡ bytes_of (note_words w.words) = ap (take len) w.written ∙ take_at (bytes_of (note_words w.words)) (drop len old) len bytes in
    ap (properties_of a) (front ∙ ap bytes_of h) ∙ read_header a (p ∷ ps) w.words slim w.sound (omega (arith, few_words a (p ∷ ps) w.words 0 0 w.sound))

pub nothing_back : (a : Architecture) (ps : List Property) → length ps ≡ 0 → properties_of a [] ≡ Ok ps
unfolding read
nothing_back a [] none = refl
nothing_back a (p ∷ ps) none = absurd (omega arith)
