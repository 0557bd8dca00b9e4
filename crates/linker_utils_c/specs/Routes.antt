-- Routes of branches, in numbers.
use Rattle.std.specs.Prelude.{◌≡◌, ℕ, List, Option, Result, Ok, Err, slice_get}
use Rattle.linker_output.specs.Routes.{IsRoute, IsWordRoute}
use Rattle.linker_output.specs.View.{Description}
use Rattle.linker_output.specs.declared.routes.Route.{Route}
use Rattle.linker_output.specs.declared.routes.Route.TheVariants as routes
use Rattle.linker_output.specs.declared.routes.RouteError.{RouteError}
use Rattle.linker_output.specs.declared.routes.RouteError.TheVariants as errors
use Rattle.linker_utils_c.specs.Imports.{Addresses, Far, FarRelative, Jump, LandingLoad, Load}
use Rattle.linker_utils_c.specs.Imports.{NoRoom, NoSymbol, NotABranch, PrefixedJump, PrefixedLoad}
use Rattle.linker_utils_c.specs.Imports.{Rela, Status, StubKind, Success, Symbol, TocFar, TocLoad}
use Rattle.linker_utils_c.specs.Imports.{TooShort, UnknownStub}
use Rattle.linker_utils_c.specs.Relocate.{write_status}
use Rattle.linker_utils_c.specs.Sections.{value_status}
use Rattle.linker_utils_c.specs.Status.{code, IfFound}
use Rattle.linker_utils_c.specs.declared.routes.RouteNumbers.{RouteNumbers}

-- the number of a kind of stubs
abbrev pub kind_number : StubKind → ℕ
kind_number Load = 0
kind_number Jump = 1
kind_number Far = 2
kind_number FarRelative = 3
kind_number LandingLoad = 4
kind_number TocLoad = 5
kind_number TocFar = 6
kind_number PrefixedLoad = 7
kind_number PrefixedJump = 8

abbrev pub route_in : Route → RouteNumbers
route_in routes.Direct = record { target = 0; entry = 0; kind = 0; is_by_stub = 0 }
route_in (routes.Stub kind entry target) =
    record { target = target; entry = entry; kind = kind_number kind; is_by_stub = 1 }

abbrev pub route_status : RouteError → Status
route_status errors.NotABranch = NotABranch
route_status (errors.Value error) = value_status error
route_status errors.NoRoom = NoRoom
route_status errors.NoStub = UnknownStub
route_status (errors.Write error) = write_status (Err error)

abbrev pub IsRouteReturned : Result Route RouteError → ℕ → RouteNumbers → RouteNumbers → Type 0
IsRouteReturned (Ok route) status old new = (status ≡ code Success) × (new ≡ route_in route)
IsRouteReturned (Err error) status old new = (status ≡ code (route_status error)) × (new ≡ old)

-- that of the relocation at an index, if there is one there, and its symbol in the table
abbrev pub IsRouteAt : Description → Addresses → List Symbol → Option Rela → List ℕ → ℕ
    → RouteNumbers → RouteNumbers → Type 0
IsRouteAt target addresses symbols found section status old new =
    IfFound found TooShort (new ≡ old) status (λ r.
    IfFound (slice_get symbols r.symbol) NoSymbol (new ≡ old) status (λ symbol.
    (route : Result Route RouteError) × IsRoute target addresses symbol r section route
    × IsRouteReturned route status old new))

abbrev pub IsWordRouteAt : Description → ℕ → Option Rela → List ℕ → ℕ → RouteNumbers → RouteNumbers
    → Type 0
IsWordRouteAt target word found section status old new =
    IfFound found TooShort (new ≡ old) status (λ r.
    (route : Result Route RouteError) × IsWordRoute target r word section route
    × IsRouteReturned route status old new)
