-- `text_hex::read::number` meets its contract. The loop's invariant: reading on from a place with the number so far gives the whole number.
-- The number so far is at most the whole one, which fits.
use mathlib.Core.Path.{◌≡◌}
use lib.ListN.{drop}
use Rattle.text_hex.specs.Digits.{number_after, number_of_digits}
use Rattle.text_hex.proofs.read.number.Given as goal

abbrev pub invariant-loop-digit : goal.invariant-loop-digit
invariant-loop-digit l = number_after l.number (drop l.digit-index l.digits) ≡ number_of_digits l.digits
