-- What a call comes to, as hosts see it: a status and a count of frames.
use Rattle.std.specs.Prelude.{ℕ, Result, Ok, Err}
use Rattle.call_tests.specs.declared.CallError.{CallError}
use Rattle.call_tests.specs.declared.CallError.TheVariants.{PoolLength, CommandsLength, RoomShort, NotSound}

-- the status of a call, and the number of frames run
pub record Outcome : Type 0 where
  pub status : ℕ
  pub count : ℕ

-- the status that tells an error
abbrev pub number_of_error : CallError → ℕ
number_of_error PoolLength = 101
number_of_error CommandsLength = 102
number_of_error RoomShort = 103
number_of_error NotSound = 104

-- the status of a call with this result: 0 where nothing refuses it
abbrev pub call_status : {A : Type 0} → Result A CallError → ℕ
call_status (Ok done) = 0
call_status (Err error) = number_of_error error

-- the outcome of a call that runs so many frames, or is refused and runs none
abbrev pub call_outcome : Result ℕ CallError → Outcome
call_outcome (Ok count) = record { status = 0; count = count }
call_outcome (Err error) = record { status = number_of_error error; count = 0 }
