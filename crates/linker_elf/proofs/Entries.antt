-- Which values depend on the address of an entry: an entry 2 ^ 40 further on moves the value by as
-- much, modulo 2 ^ 64.
use Rattle.linker_elf.proofs.Imports.{BitMasking, Bool, ByteSize, DependsOn, Ignores, IsGotAnswer, IsPltAnswer, Operands, RelocationKind, RowInfo, RowSize, Some, ap, arith, bias_number, bit_at, cast_signed, cast_unsigned, difference_64, entry_addend, entry_term, false, formula, high_correction, high_distance, if◌then◌else◌, inr, is_branch, is_of_high_part, masks_entry, names_got_entry, names_plt_entry, of_z-to_z, page, page_if, plt_term, read_signed, refl, relative_term, sum_64, sym, true, w64, with_got_entry, with_plt_entry, ℕ, ◌%◌, ◌+◌, ◌-◌, ◌<◌, ◌==◌, ◌^◌, ◌∙◌, ◌≡◌, ◌≢◌}
use Rattle.linker_elf.specs.declared.elf.RelocationKind.TheVariants as kinds

-- ---- moved numbers

abbrev moved : ℕ → ℕ
moved x = (x + 2 ^ 40) % 2 ^ 64

sum_moved : (x a : ℕ) → sum_64 (moved x) a ≡ moved (sum_64 x a)
sum_moved x a = omega arith

difference_moved : (x k : ℕ) → (moved x + k) % 2 ^ 64 ≡ moved ((x + k) % 2 ^ 64)
difference_moved x k = omega arith

page_moved : (x : ℕ) → x < 2 ^ 64 → page (moved x) ≡ moved (page x)
page_moved x h = omega arith

page_if_moved : (m : Bool) (x : ℕ) → x < 2 ^ 64 → page_if m (moved x) ≡ moved (page_if m x)
page_if_moved true x h = page_moved x h
page_if_moved false x h = refl

pub page_if_below : (m : Bool) (x : ℕ) → x < 2 ^ 64 → page_if m x < 2 ^ 64
page_if_below true x h = omega arith
page_if_below false x h = h

pub sum_below : (x a : ℕ) → sum_64 x a < 2 ^ 64
sum_below x a = omega arith

is_moved : (x : ℕ) → x < 2 ^ 64 → moved x ≢ x
is_moved x h e = absurd (omega arith)

bit_moved : (s : ℕ) → bit_at (moved s) 11 ≡ bit_at s 11
bit_moved s = omega arith

rounded_moved : (s c : ℕ) → (moved s + 2 ^ 31 + c) % 2 ^ 64 ≡ moved ((s + 2 ^ 31 + c) % 2 ^ 64)
rounded_moved s c = omega arith

high_moved : (s pc : ℕ) → high_distance (moved s) pc ≡ moved (high_distance s pc)
high_moved s pc =
    let k = 2 ^ 64 - page ((pc + (2 ^ 64 - 8)) % 2 ^ 64) in
    let c = high_correction s in
    let n = (s + 2 ^ 31 + c) % 2 ^ 64 in
    let same : high_correction (moved s) ≡ c = ap (λ b. if b == 1 then 2 ^ 64 + 2 ^ 12 - 2 ^ 32 else 0) (bit_moved s) in
    let small : n < 2 ^ 64 = omega arith in
    ap (λ d. (page ((moved s + 2 ^ 31 + d) % 2 ^ 64) + k) % 2 ^ 64) same
    ∙ ap (λ x. (page x + k) % 2 ^ 64) (rounded_moved s c)
    ∙ ap (λ x. (x + k) % 2 ^ 64) (page_moved n small)
    ∙ difference_moved (page n) k

-- ---- values

unsigned_of : (x : ℕ) → x < 2 ^ 64 → (y : ℕ) → y < 2 ^ 64 → read_signed (Some x) ≡ read_signed (Some y) → x ≡ y
unsigned_of x p y q e =
    let same : cast_signed w64 x ≡ cast_signed w64 y = cc in
    sym (of_z-to_z w64 x p) ∙ ap (cast_unsigned w64) same ∙ of_z-to_z w64 y q

differs : (x y : ℕ) → y < 2 ^ 64 → x ≡ moved y → read_signed (Some x) ≢ read_signed (Some y)
differs x y small is e =
    let below : x < 2 ^ 64 = omega arith in
    is_moved y small (sym is ∙ unsigned_of x below y small e)

entry_moved : (row : RowInfo) (o : Operands)
    → entry_term row (with_got_entry (moved o.got_entry) o) ≡ moved (entry_term row o)
entry_moved row o =
    let a = entry_addend row.size o.addend in
    let b = bias_number row.bias in
    ap (λ x. page_if (masks_entry row.mask) (sum_64 x b)) (sum_moved o.got_entry a)
    ∙ ap (page_if (masks_entry row.mask)) (sum_moved (sum_64 o.got_entry a) b)
    ∙ page_if_moved (masks_entry row.mask) (sum_64 (sum_64 o.got_entry a) b) (sum_below (sum_64 o.got_entry a) b)

entry_below : (row : RowInfo) (o : Operands) → entry_term row o < 2 ^ 64
entry_below row o =
    page_if_below (masks_entry row.mask) _
    (sum_below (sum_64 o.got_entry (entry_addend row.size o.addend)) (bias_number row.bias))

plt_moved : (row : RowInfo) (o : Operands)
    → plt_term row (with_plt_entry (moved o.plt_entry) o) ≡ moved (plt_term row o)
plt_moved row o =
    let a = cast_unsigned w64 o.addend in
    let b = bias_number row.bias in
    ap (λ x. sum_64 x b) (sum_moved o.plt_entry a) ∙ sum_moved (sum_64 o.plt_entry a) b

-- a distance from what doesn't move
distance_differs : (x y p : ℕ) → x ≡ moved y
    → read_signed (Some (difference_64 x p)) ≢ read_signed (Some (difference_64 y p))
distance_differs x y p is =
    let below : difference_64 y p < 2 ^ 64 = omega arith in
    differs _ _ below (ap (λ z. difference_64 z p) is ∙ difference_moved y (2 ^ 64 - p))

high_differs : (x y p : ℕ) → x ≡ moved y
    → read_signed (Some (high_distance x p)) ≢ read_signed (Some (high_distance y p))
high_differs x y p is =
    let below : high_distance y p < 2 ^ 64 = omega arith in
    differs _ _ below (ap (λ z. high_distance z p) is ∙ high_moved y p)

-- ---- GOT entries

got_differs : (kind : RelocationKind) (row : RowInfo) (o : Operands) → names_got_entry kind ≡ true
    → read_signed (formula kind row (with_got_entry (moved o.got_entry) o)) ≢ read_signed (formula kind row o)
got_differs kinds.GotRelative row o h = distance_differs _ _ _ (entry_moved row o)
got_differs kinds.GotRelativeLoongArch64 row o h = high_differs _ _ _ (entry_moved row o)
got_differs kinds.GotRelGotBase row o h = distance_differs _ _ _ (entry_moved row o)
got_differs kinds.Got row o h = differs _ _ (entry_below row o) (entry_moved row o)
got_differs kinds.TlsGd row o h = distance_differs _ _ _ (entry_moved row o)
got_differs kinds.TlsGdGot row o h = differs _ _ (entry_below row o) (entry_moved row o)
got_differs kinds.TlsGdGotBase row o h = distance_differs _ _ _ (entry_moved row o)
got_differs kinds.TlsLd row o h = distance_differs _ _ _ (entry_moved row o)
got_differs kinds.TlsLdGot row o h = differs _ _ (entry_below row o) (entry_moved row o)
got_differs kinds.TlsLdGotBase row o h = distance_differs _ _ _ (entry_moved row o)
got_differs kinds.GotTpOff row o h = distance_differs _ _ _ (entry_moved row o)
got_differs kinds.GotTpOffGot row o h = differs _ _ (entry_below row o) (entry_moved row o)
got_differs kinds.GotTpOffGotBase row o h = distance_differs _ _ _ (entry_moved row o)
got_differs kinds.GotTpOffLoongArch64 row o h = high_differs _ _ _ (entry_moved row o)
got_differs kinds.TlsDesc row o h = distance_differs _ _ _ (entry_moved row o)
got_differs kinds.TlsDescGot row o h = differs _ _ (entry_below row o) (entry_moved row o)
got_differs kinds.TlsDescGotBase row o h = distance_differs _ _ _ (entry_moved row o)
got_differs kinds.TlsDescLoongArch64 row o h = high_differs _ _ _ (entry_moved row o)
got_differs kind row o h = cc

pub depends_on_got : (row : RowInfo) → names_got_entry row.kind ≡ true → DependsOn with_got_entry row
depends_on_got row h o = (moved o.got_entry, got_differs row.kind row o h)

relative_ignores_got : (size : RowSize) (row : RowInfo) (o : Operands) (address : ℕ)
    → relative_term size row (with_got_entry address o) ≡ relative_term size row o
relative_ignores_got (ByteSize n) row o address = refl
relative_ignores_got (BitMasking bits insn) row o address = refl

got_same : (kind : RelocationKind) (row : RowInfo) (o : Operands) (address : ℕ) → names_got_entry kind ≡ false
    → read_signed (formula kind row (with_got_entry address o)) ≡ read_signed (formula kind row o)
got_same kinds.Relative row o address h = ap (λ n. read_signed (Some n)) (relative_ignores_got row.size row o address)
got_same kinds.GotRelative row o address h = cc
got_same kinds.GotRelativeLoongArch64 row o address h = cc
got_same kinds.GotRelGotBase row o address h = cc
got_same kinds.Got row o address h = cc
got_same kinds.TlsGd row o address h = cc
got_same kinds.TlsGdGot row o address h = cc
got_same kinds.TlsGdGotBase row o address h = cc
got_same kinds.TlsLd row o address h = cc
got_same kinds.TlsLdGot row o address h = cc
got_same kinds.TlsLdGotBase row o address h = cc
got_same kinds.GotTpOff row o address h = cc
got_same kinds.GotTpOffGot row o address h = cc
got_same kinds.GotTpOffGotBase row o address h = cc
got_same kinds.GotTpOffLoongArch64 row o address h = cc
got_same kinds.TlsDesc row o address h = cc
got_same kinds.TlsDescGot row o address h = cc
got_same kinds.TlsDescGotBase row o address h = cc
got_same kinds.TlsDescLoongArch64 row o address h = cc
got_same kind row o address h = refl

pub ignores_got : (row : RowInfo) → names_got_entry row.kind ≡ false → Ignores with_got_entry row
ignores_got row h o address = got_same row.kind row o address h

-- ---- PLT entries

plt_differs : (kind : RelocationKind) (row : RowInfo) (o : Operands) → names_plt_entry kind ≡ true
    → read_signed (formula kind row (with_plt_entry (moved o.plt_entry) o)) ≢ read_signed (formula kind row o)
plt_differs kinds.PltRelGotBase row o h = distance_differs _ _ _ (plt_moved row o)
plt_differs kinds.PltRelative row o h = distance_differs _ _ _ (plt_moved row o)
plt_differs kind row o h = cc

pub depends_on_plt : (row : RowInfo) → names_plt_entry row.kind ≡ true → DependsOn with_plt_entry row
depends_on_plt row h o = (moved o.plt_entry, plt_differs row.kind row o h)

relative_ignores_plt : (size : RowSize) (row : RowInfo) (o : Operands) (address : ℕ)
    → relative_term size row (with_plt_entry address o) ≡ relative_term size row o
relative_ignores_plt (ByteSize n) row o address = refl
relative_ignores_plt (BitMasking bits insn) row o address = refl

plt_same : (kind : RelocationKind) (row : RowInfo) (o : Operands) (address : ℕ) → names_plt_entry kind ≡ false
    → read_signed (formula kind row (with_plt_entry address o)) ≡ read_signed (formula kind row o)
plt_same kinds.Relative row o address h = ap (λ n. read_signed (Some n)) (relative_ignores_plt row.size row o address)
plt_same kinds.PltRelGotBase row o address h = cc
plt_same kinds.PltRelative row o address h = cc
plt_same kind row o address h = refl

pub ignores_plt : (row : RowInfo) → names_plt_entry row.kind ≡ false → Ignores with_plt_entry row
ignores_plt row h o address = plt_same row.kind row o address h

-- ---- answers

pub got_answer : (row : RowInfo) (answer : Bool) → is_of_high_part row.size ≡ false → answer ≡ names_got_entry row.kind
    → IsGotAnswer row answer
got_answer row true low is = (low, depends_on_got row (sym is))
got_answer row false low is = inr (ignores_got row (sym is))

pub plt_answer : (row : RowInfo) (answer : Bool) → is_branch row.size ≡ false → answer ≡ names_plt_entry row.kind
    → IsPltAnswer row answer
plt_answer row true branch is = inr (depends_on_plt row (sym is))
plt_answer row false branch is = (branch, ignores_plt row (sym is))
