-- The line that is printed for an executed command.
use Rattle.std.specs.Prelude.{ℕ, List, codes}
use Rattle.std.specs.String.{string_bytes}
use Rattle.linkfix.specs.declared.program.CommandResult.{CommandResult}
use Rattle.linkfix.specs.declared.program.CommandResult.TheVariants.{Done, Line}

abbrev pub result_line : CommandResult → List ℕ
result_line Done = codes "ok\n"
result_line (Line line) = string_bytes line
