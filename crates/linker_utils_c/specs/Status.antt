-- The statuses that C sees as numbers.
use Rattle.std.specs.Prelude.{◌≡◌, ◌⊎◌, ℕ, ◌<◌, ◌≤◌, List, [], ◌∷◌, length}
use Rattle.std.specs.Prelude.{Option, MatchOption}
use Rattle.linker_utils_c.specs.Imports.{Architecture, Status, architecture_of}
use Rattle.linker_utils_c.specs.declared.status.Status.TheVariants as statuses

abbrev pub code : Status → ℕ
code statuses.Success = 0
code statuses.UnknownArchitecture = 1
code statuses.UnknownForm = 2
code statuses.UnknownRewrite = 3
code statuses.UnknownRelocation = 4
code statuses.TooShort = 5
code statuses.DoesNotFit = 6
code statuses.CannotApply = 7
code statuses.BadRegister = 8
code statuses.OutOfSection = 9
code statuses.SiteDeleted = 10
code statuses.OddDistance = 12
code statuses.TooFar = 13
code statuses.InvalidDeletions = 14
code statuses.NotMergeable = 15
code statuses.TooLarge = 17
code statuses.NotAscending = 18
code statuses.DifferentLengths = 19
code statuses.OutOfMemory = 20
code statuses.Uleb128Ended = 21
code statuses.Uleb128TooLarge = 22
code statuses.UnknownLinkRegister = 23
code statuses.CallsNotApart = 24
code statuses.NotACall = 25
code statuses.CallsNotShrinkable = 26
code statuses.Misaligned = 27
code statuses.OutOfReach = 28
code statuses.NoValue = 29
code statuses.Unsupported = 30
code statuses.DoesNotMatch = 31
code statuses.UnknownShapes = 32
code statuses.MalformedRelocation = 33
code statuses.ItemsOverlap = 34
code statuses.EndsTooHigh = 35
code statuses.TooManyShapes = 36
code statuses.ShapeTooLong = 37
code statuses.ShapesNotAscending = 38
code statuses.BadGranularity = 39
code statuses.BadReach = 40
code statuses.BadAlignment = 41
code statuses.UnevenShape = 42
code statuses.AlignmentBelowGranularity = 43
code statuses.UnevenEnd = 44
code statuses.TooFewNops = 45
code statuses.UnevenNops = 46
code statuses.TargetInside = 47
code statuses.HoldsNoValue = 48
code statuses.BadFieldValue = 49
code statuses.NoAddress = 50
code statuses.NotHalves = 51
code statuses.WindowTooLong = 52
code statuses.ItemOutOfSection = 53
code statuses.NotItsFirstBytes = 54
code statuses.NotItsInstructions = 55
code statuses.NoShape = 56
code statuses.TargetOutOfReach = 57
code statuses.LeavesOtherBytes = 58
code statuses.MayBeMisaligned = 59
code statuses.DeletedOutside = 60
code statuses.NoSymbol = 61
code statuses.NoEntry = 62
code statuses.NoHighPart = 63
code statuses.Overlaps = 64
code statuses.ShortMemory = 65
code statuses.NotSurveyed = 66
code statuses.UnknownEntryClass = 67
code statuses.DifferentFlags = 68
code statuses.NotProvided = 69
code statuses.UnknownStub = 70
code statuses.UnknownPhase = 71
code statuses.NotABranch = 72
code statuses.NoRoom = 73
code statuses.StubWithoutLength = 74
code statuses.NoTarget = 75
code statuses.CodeTooLong = 76
code statuses.NoBoundary = 77
code statuses.StubTooFar = 78
code statuses.FactsChanged = 79
code statuses.NotAligned = 80
code statuses.NeedsStub = 81
code statuses.OtherLength = 82
code statuses.FactsContradict = 83
code statuses.NoTlsBase = 84
code statuses.UnalignedAddress = 85
code statuses.NotProperties = 86
code statuses.CutOff = 87
code statuses.WrongSize = 88
code statuses.DifferentValues = 89
code statuses.UnknownProperty = 90

-- the status is one of these
abbrev pub IsOneOf : List Status → ℕ → Type 0
IsOneOf [] status = ⊥
IsOneOf (first ∷ others) status = (status ≡ code first) ⊎ IsOneOf others status

-- the status says whether there are as many bytes
pub record HasRoom (len : ℕ) (bytes : List ℕ) (status : ℕ) : Type 0 where
  pub short : length bytes < len → status ≡ code statuses.TooShort
  pub long : len ≤ length bytes → status ≡ code statuses.Success

-- ---- what is found

-- the status says that there is none, and nothing changes; else P of what is found
abbrev pub IfFound : {A : Type 0} → Option A → Status → Type 0 → ℕ → (A → Type 0) → Type 0
IfFound found absent Unchanged status P =
    MatchOption found ((status ≡ code absent) × Unchanged) P

-- P of the architecture that has the number (e_machine), if one has it
abbrev pub OfMachine : ℕ → Type 0 → ℕ → (Architecture → Type 0) → Type 0
OfMachine machine Unchanged status P =
    IfFound (architecture_of machine) statuses.UnknownArchitecture Unchanged status P

-- P of what is found and of what is given
abbrev pub IsGivenBy : {A B : Type 0} → (A → B → Type 0) → Option A → Status → B → B → ℕ → Type 0
IsGivenBy P found absent old new status =
    IfFound found absent (new ≡ old) status (λ a. (status ≡ code statuses.Success) × P a new)

-- what is found is given
abbrev pub IsGiven : {A : Type 0} → Option A → Status → A → A → ℕ → Type 0
IsGiven found absent old new status = IsGivenBy (λ a given. given ≡ a) found absent old new status
