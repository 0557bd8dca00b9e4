-- How branches go to their targets: directly, or by a stub.
use Rattle.std.specs.Prelude.{◌==◌, ℕ, false, nat_lt, length, if◌then◌else◌, IsTrue, Option, Result}
use Rattle.std.specs.Prelude.{◌≡◌, ◌≢◌, ◌↔◌, ◌&&◌, ◌||◌, ◌/◌, ℤ, List, Bool, true, drop, Some, None}
use Rattle.std.specs.Prelude.{◌%◌, ◌^◌, ◌≤◌, [], ◌∷◌, not, Ok, Err, ⊤, MatchOption}
use Rattle.linker_output.specs.Imports.{Architecture, Branch24, HasTwo, IsAccepted, IsRow, Jump}
use Rattle.linker_output.specs.Imports.{JumpCall, Load, OutOfReach, RelocateError, RowInfo}
use Rattle.linker_output.specs.Imports.{StubKind, cast_unsigned, ppc64_name, r_type_of, sum_64, w64}
use Rattle.linker_section.specs.Needed.{may_use_stub}
use Rattle.linker_elf.specs.declared.elf.AnyForm.TheVariants.{AArch64, LoongArch64, Ppc64}
use Rattle.linker_elf.specs.declared.elf.RowSize.{RowSize}
use Rattle.linker_elf.specs.declared.elf.RowSize.TheVariants.{BitMasking}
use Rattle.linker_elf.specs.declared.loongarch64.forms.LoongArch64Instruction.TheVariants.{Branch26}
use Rattle.linker_elf.specs.declared.ppc64.relocations.Ppc64Relocation.TheVariants as ppc64
use Rattle.linker_output.specs.Stubs.{StubCode}
use Rattle.linker_output.specs.View.{Description}
use Rattle.linker_output.specs.declared.routes.Route.{Route}
use Rattle.linker_output.specs.declared.routes.Route.TheVariants.{Direct, Stub as ByStub}
use Rattle.linker_output.specs.declared.routes.RouteError.{RouteError}
use Rattle.linker_output.specs.declared.routes.RouteError.TheVariants as errors
use Rattle.linker_section.specs.Conditions.{changes_toc}
use Rattle.linker_section.specs.Sections.{IsRejected}
use Rattle.linker_section.specs.Values.{IsValue, is_relative, local_entry}
use Rattle.linker_section.specs.declared.facts.Addresses.{Addresses}
use Rattle.linker_section.specs.declared.facts.Symbol.{Symbol}
use Rattle.linker_section.specs.declared.relocations.Rela.{Rela}
use Rattle.linker_section.specs.declared.values.ValueError.{ValueError}
use Rattle.linker_elf.specs.declared.elf.architecture.Architecture.TheVariants as architectures

-- ---- branches

-- Branches that may go by a stub to a target that they don't reach: of the forms of
-- `R_AARCH64_CALL26`, `R_LARCH_B26` and `R_PPC64_REL24`. At others a register that a stub changes
-- may be in use, or they reach as far as a stub.
abbrev pub has_call_form : RowSize → Bool
has_call_form (BitMasking bits (AArch64 JumpCall)) = true
has_call_form (BitMasking bits (LoongArch64 Branch26)) = true
has_call_form (BitMasking bits (Ppc64 Branch24)) = true
has_call_form size = false

abbrev pub may_go_by_stub : RowInfo → Bool
may_go_by_stub row = is_relative row.kind && has_call_form row.size

-- PowerPC64's branches of code that has a TOC pointer, and of code that has none (64-Bit ELF V2
-- ABI, "Relocation Types")
abbrev pub has_toc : Architecture → ℕ → Bool
has_toc architectures.Ppc64 r_type =
    r_type == r_type_of (ppc64_name ppc64.R_PPC64_REL24)
    || r_type == r_type_of (ppc64_name ppc64.R_PPC64_REL14)
has_toc architecture r_type = false

abbrev pub has_no_toc : Architecture → ℕ → Bool
has_no_toc architectures.Ppc64 r_type = r_type == r_type_of (ppc64_name ppc64.R_PPC64_REL24_NOTOC)
has_no_toc architecture r_type = false

-- ---- the function that a branch goes to (64-Bit ELF V2 ABI, "Symbol Values")

-- The function may leave another TOC pointer, and the caller needs its own.
abbrev pub loses_toc : Architecture → ℕ → Symbol → Bool
loses_toc architecture r_type symbol = has_toc architecture r_type && changes_toc symbol

-- The function of the output has a local entry point, where it takes the TOC pointer of its caller,
-- which has none: it has to be entered at the global one, with its address in r12.
abbrev pub lacks_toc : Architecture → ℕ → Symbol → Bool
lacks_toc architecture r_type symbol =
    has_no_toc architecture r_type
    && (symbol.stub == 0 && (not symbol.is_undefined_weak && nat_lt 1 (symbol.other / 32)))

-- where a stub goes for a branch: to the local entry point for code with the same TOC pointer
abbrev pub after_global : Architecture → ℕ → Symbol → ℕ
after_global architecture r_type symbol =
    if has_toc architecture r_type then local_entry symbol.other else 0

abbrev pub callee_of : Architecture → ℕ → Symbol → ℕ
callee_of architecture r_type symbol =
    if symbol.stub == 0 then sum_64 symbol.address (after_global architecture r_type symbol)
    else symbol.stub

-- with the addend
abbrev pub stub_target : Architecture → Symbol → Rela → ℕ
stub_target architecture symbol r =
    sum_64 (callee_of architecture r.r_type symbol) (cast_unsigned w64 r.addend)

-- ---- room to restore the TOC pointer

-- `bl`, and after it `nop` or `ld 2,24(1)`, which such a `nop` becomes
abbrev pub can_restore : ℕ → ℕ → Bool
can_restore call next =
    call / 2 ^ 26 == 18 && call % 4 == 1 && (next == 0x60000000 || next == 0xe8410018)

abbrev pub HasRoom : List ℕ → ℕ → Type 0
HasRoom section offset = HasTwo can_restore section offset

-- ---- routes

-- By a stub: at its entry, and where the caller's TOC pointer is to be kept, at its first
-- instruction, if the caller can restore it.
abbrev pub by_stub : StubKind → ℕ → Bool → Bool → ℕ → Result Route RouteError
by_stub kind entry false has_room target = Ok (ByStub kind entry target)
by_stub kind entry true true target = Ok (ByStub kind 0 target)
by_stub kind entry true false target = Err errors.NoRoom

abbrev pub by_jump : Option StubCode → Bool → Bool → ℕ → Result Route RouteError
by_jump None loses has_room target = Err errors.NoStub
by_jump (Some stub) loses has_room target = by_stub Jump stub.entry loses has_room target

-- why a branch can't be written directly; none if it can
abbrev pub IsObstacle : RowInfo → ℤ → ℕ → List ℕ → Option RelocateError → Type 0
IsObstacle row v offset section None =
    (offset ≤ length section) × IsAccepted row v (drop offset section)
IsObstacle row v offset section (Some error) = IsRejected row v offset section error

-- Directly where the branch can be written. By a stub where it doesn't reach its target, and may go
-- by one. Nothing leads to what nothing defines.
abbrev pub is_served : RowInfo → Symbol → Bool
is_served row symbol =
    may_go_by_stub row && (not (symbol.stub == 0) || not symbol.is_undefined_weak)

abbrev pub by_reach : Description → RowInfo → Symbol → Rela → Option RelocateError
    → Result Route RouteError
by_reach target row symbol r None = Ok Direct
by_reach target row symbol r (Some OutOfReach) =
    if is_served row symbol then
    by_jump target.jump_stub false false (stub_target target.instructions symbol r)
    else Err (errors.Write OutOfReach)
by_reach target row symbol r (Some error) = Err (errors.Write error)

-- by a stub also where the callee wouldn't get, or the caller wouldn't keep, the TOC pointer
abbrev pub route_by : Description → RowInfo → Symbol → Rela → Bool → Option RelocateError
    → Result Route RouteError
route_by target row symbol r has_room obstacle =
    if loses_toc target.instructions r.r_type symbol
    || lacks_toc target.instructions r.r_type symbol then
    by_jump target.jump_stub (loses_toc target.instructions r.r_type symbol) has_room
    (stub_target target.instructions symbol r)
    else by_reach target row symbol r obstacle

-- ---- routes of relocations

-- no stub may serve as the target of a row's relocations
abbrev pub IsUnserved : Option RowInfo → Type 0
IsUnserved None = ⊤
IsUnserved (Some row) = may_use_stub row.size row.kind ≡ false

-- the row of an `r_type`, if a stub may serve as its target
abbrev pub IsServedRow : Architecture → ℕ → Option RowInfo → Type 0
IsServedRow architecture r_type None =
    (row : Option RowInfo) × IsRow architecture r_type row × IsUnserved row
IsServedRow architecture r_type (Some row) =
    IsRow architecture r_type (Some row) × (may_use_stub row.size row.kind ≡ true)

-- the value of a relocation of a symbol
abbrev pub IsValueOf : Architecture → Addresses → Symbol → Rela
    → Result (Option ℤ) ValueError → Type 0
IsValueOf architecture addresses symbol r result =
    IsValue architecture addresses [] (symbol ∷ []) (record r { symbol = 0 }) result

abbrev pub IsRouteOf : Description → Symbol → Rela → List ℕ → RowInfo
    → Result (Option ℤ) ValueError → Result Route RouteError → Type 0
IsRouteOf target symbol r section row (Err error) result = result ≡ Err (errors.Value error)
IsRouteOf target symbol r section row (Ok None) result = result ≡ Err errors.NotABranch
IsRouteOf target symbol r section row (Ok (Some v)) result =
    (has_room : Bool) × (IsTrue has_room ↔ HasRoom section r.offset)
    × (obstacle : Option RelocateError) × IsObstacle row v r.offset section obstacle
    × (result ≡ route_by target row symbol r has_room obstacle)

abbrev pub IsRoute : Description → Addresses → Symbol → Rela → List ℕ
    → Result Route RouteError → Type 0
IsRoute target addresses symbol r section result =
    (row : Option RowInfo) × IsServedRow target.instructions r.r_type row
    × MatchOption row (result ≡ Err errors.NotABranch)
    (λ row. (value : Result (Option ℤ) ValueError)
    × IsValueOf target.instructions addresses symbol r value
    × IsRouteOf target symbol r section row value result)

-- ---- routes to the address in a word

-- by a stub, which keeps the caller's TOC pointer
abbrev pub by_word : Description → Rela → ℕ → Bool → Result Route RouteError
by_word target r word has_room =
    by_stub Load target.load_stub.entry (has_toc target.instructions r.r_type) has_room word

abbrev pub IsWordRoute : Description → Rela → ℕ → List ℕ → Result Route RouteError → Type 0
IsWordRoute target r word section result =
    (row : Option RowInfo) × IsServedRow target.instructions r.r_type row
    × MatchOption row (result ≡ Err errors.NotABranch)
    (λ row. (has_room : Bool) × (IsTrue has_room ↔ HasRoom section r.offset)
    × (result ≡ by_word target r word has_room))

-- ---- the law of stubs

-- A branch to the entry of a stub is direct exactly where it can be written, whatever function the
-- stub leads to.
abbrev pub StubsServe : Type 0
StubsServe =
    (target : Description) (row : RowInfo) (symbol : Symbol) (r : Rela) (stub : ℕ)
    → stub ≢ 0 → (has_room : Bool) (obstacle : Option RelocateError)
    → route_by target row (record symbol { stub = stub }) r has_room obstacle
    ≡ by_reach target row (record symbol { stub = stub }) r obstacle
