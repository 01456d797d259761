-- `protocol::Answer::encode` meets its contract: an answer's bytes are four of its fields and its number's four.
use borrow.Author.Rules.{rules}
use Rattle.protocol.specs.Frames.{bytes_of_answer}
use Rattle.protocol.proofs.Answer.encode.Goals as goal

pub returns : goal.returns
unfolding bytes_of_answer
returns c = search rules
