-- The numbers of reasons, and of no refusal.
use Prim.Native.Nat.{◌≤◌}
use lib.Dec.{lit≤}
use Rattle.protocol.specs.Numbers.{number_of_reason}
use Rattle.protocol.specs.declared.numbers.Reason.{Reason}
use Rattle.protocol.specs.declared.numbers.Reason.TheVariants.{
  UnknownCode,
  NameNotAllowed,
  UnusedNotZero,
  AlreadyOpen,
  NotOpen,
  AlphabetNotAllowed,
  NoShares,
  SymbolOutside,
  PlaceOutside,
  OrdinalOutside,
  Full,
  SharesExceeded,
}

-- no reason's number is 0, which tells that there is none
pub numbers-from-one : (reason : Reason) → 1 ≤ number_of_reason reason
numbers-from-one UnknownCode = lit≤ tt
numbers-from-one NameNotAllowed = lit≤ tt
numbers-from-one UnusedNotZero = lit≤ tt
numbers-from-one AlreadyOpen = lit≤ tt
numbers-from-one NotOpen = lit≤ tt
numbers-from-one AlphabetNotAllowed = lit≤ tt
numbers-from-one NoShares = lit≤ tt
numbers-from-one SymbolOutside = lit≤ tt
numbers-from-one PlaceOutside = lit≤ tt
numbers-from-one OrdinalOutside = lit≤ tt
numbers-from-one Full = lit≤ tt
numbers-from-one SharesExceeded = lit≤ tt
