-- `text_hex::read::byte_at` meets its contract: the part of the line that it reads is the two digits, whose number is below 256.
use borrow.Author.Rules.{rules}
use Rattle.text_hex.proofs.Lines.{all-digits-part, part-is, part-short, byte_fits}
use Rattle.text_hex.proofs.read.byte_at.Goals as goal

pub number-requires : goal.number-requires
number-requires c = search (part-is, part-short, all-digits-part, rules)

pub overflow_cast-result : goal.overflow_cast-result
overflow_cast-result c = search byte_fits
