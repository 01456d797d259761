-- `text_hex::write::write_line` meets its contract: the one number that it writes has the frame's digits, and the line feed stands behind.
use borrow.Author.Rules.{rules}
use Rattle.text_hex.proofs.Written.{line-put}
use Rattle.text_hex.proofs.write.write_line.Goals as goal

pub returns : goal.returns
returns c = search (line-put, rules)
