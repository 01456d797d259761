-- `text_hex::digit::last_digit` meets its contract: the table is computed to be the list of the rule's values at all sixteen digits.
use Prim.Native.Nat.{◌%◌}
use borrow.Author.Rules.{rules}
use Rattle.text_hex.specs.Digits.{digit_of}
use Rattle.text_hex.proofs.Rules.{values-at}
use Rattle.text_hex.proofs.digit.last_digit.Goals as goal

pub returns : goal.returns
unfolding digit_of
returns c = values-at digit_of 16 (c.args.number % 16) (search rules)
