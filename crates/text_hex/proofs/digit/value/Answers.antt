-- `text_hex::digit::value` meets its contract: the table is computed to be the list of the rule's values at all 256 bytes.
use borrow.Author.Rules.{rules}
use Rattle.text_hex.specs.Digits.{value_of}
use Rattle.text_hex.proofs.Rules.{values-at}
use Rattle.text_hex.proofs.digit.value.Goals as goal

pub returns : goal.returns
unfolding value_of
returns c = values-at value_of 256 c.args.byte (search rules)
