-- The last line of the output of a run that ends with an error.
use Rattle.std.specs.Prelude.{ℕ, List, codes}
use Rattle.linker_utils.specs.CallError.TheVariants.{OutOfSection, SiteDeleted, OddDistance, TooFar}
use Rattle.linkfix.specs.declared.program.ReportedError.{ReportedError}
use Rattle.linkfix.specs.declared.program.ReportedError.TheVariants.{BadSection, BadLine}
use Rattle.linkfix.specs.declared.program.ReportedError.TheVariants.{BadDeletion, TooLarge, BadCall}
use Rattle.linkfix.specs.declared.program.ReportedError.TheVariants.{Call, OutOfMemory}

abbrev pub error_line : ReportedError → List ℕ
error_line BadSection = codes "bad section\n"
error_line BadLine = codes "bad line\n"
error_line BadDeletion = codes "bad deletion\n"
error_line TooLarge = codes "too large\n"
error_line BadCall = codes "bad call\n"
error_line (Call OutOfSection) = codes "OutOfSection\n"
error_line (Call SiteDeleted) = codes "SiteDeleted\n"
error_line (Call OddDistance) = codes "OddDistance\n"
error_line (Call TooFar) = codes "TooFar\n"
error_line OutOfMemory = codes "out of memory\n"
