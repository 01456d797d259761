-- The outcome of a call as one number, for callers in C.
use Rattle.std.specs.Prelude.{ℕ, ◌/◌, ◌%◌, ◌^◌}
use Rattle.call_tests.specs.Outcomes.{Outcome}

-- the outcome that a number stands for: the status in its upper half, the number of frames run in its lower
abbrev pub outcome_of : ℕ → Outcome
outcome_of number = record { status = number / 2 ^ 32; count = number % 2 ^ 32 }
