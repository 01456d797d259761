-- How a program that gave up says so.
use Rattle.std.specs.Prelude.{Result, Ok, Err, List, ℕ, codes}
use Rattle.program_streams.specs.declared.Failure.{Failure}
use Rattle.program_streams.specs.declared.Failure.TheVariants.{Reading, Writing}

-- what is told of a failure
abbrev pub told_of : Failure → List ℕ
told_of Reading = codes "standard input can't be read"
told_of Writing = codes "standard output can't be written"

-- the exit status: 0, or 1 after a failure
abbrev pub exit_status_of : Result (Unit {0}) Failure → ℕ
exit_status_of (Ok done) = 0
exit_status_of (Err failure) = 1
