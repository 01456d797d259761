-- The numbers of operations and reasons: the codes and the statuses of the two tables.
use Rattle.std.specs.Prelude.{false, ◌≡◌, ℕ, Result, MatchResult}
use Rattle.protocol.specs.Commands.{
  open_code,
  close_code,
  insert_code,
  delete_code,
  access_code,
  rank_code,
  select_code,
  length_code,
  unpromised_code,
}
use Rattle.protocol.specs.Refusals.{listed}
use Rattle.protocol.specs.State.{lists}
use Rattle.protocol.specs.declared.numbers.Operation.{Operation}
use Rattle.protocol.specs.declared.numbers.Operation.TheVariants.{
  Open,
  Close,
  Insert,
  Delete,
  Access,
  Rank,
  Select,
  Length,
  Unpromised,
}
use Rattle.protocol.specs.declared.numbers.Reason.{Reason}
use Rattle.protocol.specs.declared.numbers.Reason.TheVariants.{
  UnknownCode,
  NameNotAllowed,
  UnusedNotZero,
  AlreadyOpen,
  NotOpen,
  AlphabetNotAllowed,
  NoShares,
  SymbolOutside,
  PlaceOutside,
  OrdinalOutside,
  Full,
  SharesExceeded,
}

-- the code of an operation
abbrev pub code_of : Operation → ℕ
code_of Open = open_code
code_of Close = close_code
code_of Insert = insert_code
code_of Delete = delete_code
code_of Access = access_code
code_of Rank = rank_code
code_of Select = select_code
code_of Length = length_code
code_of Unpromised = unpromised_code

-- the status that tells a reason
abbrev pub number_of_reason : Reason → ℕ
number_of_reason UnknownCode = 1
number_of_reason NameNotAllowed = 2
number_of_reason UnusedNotZero = 3
number_of_reason AlreadyOpen = 4
number_of_reason NotOpen = 5
number_of_reason AlphabetNotAllowed = 6
number_of_reason NoShares = 7
number_of_reason SymbolOutside = 8
number_of_reason PlaceOutside = 9
number_of_reason OrdinalOutside = 10
number_of_reason Full = 11
number_of_reason SharesExceeded = 12

-- the operation with a code of the table; any other code is unknown
abbrev pub OfCode : ℕ → Result Operation Reason → Type 0
OfCode code r = MatchResult r (λ op. code_of op ≡ code) (λ reason. (reason ≡ UnknownCode) × (listed lists code ≡ false))
