-- What a command's form alone decides.
use Rattle.std.specs.Prelude.{◌≡◌, List, ℕ, Result, MatchResult}
use Rattle.protocol.specs.Numbers.{number_of_reason}
use Rattle.protocol.specs.declared.Command.{Command}
use Rattle.protocol.specs.declared.numbers.Reason.{Reason}
use Rattle.frame_status.specs.Statuses.{status_in, WellFormed}
use Rattle.frame_status.specs.declared.request.Request.{Request}

-- the command is well formed and is what the request asks for, or its status is the same on every pool
abbrev pub FormStatus : Command → Result Request Reason → Type 0
FormStatus c r =
    MatchResult r (λ request. (request.command ≡ c) × WellFormed c) (λ reason. (p : List ℕ) → number_of_reason reason ≡ status_in p c)
