-- `protocol::Command::decode` meets its contract: the eight bytes' frame is read as a command.
use borrow.Author.Rules.{rules}
use Rattle.protocol.specs.Frames.{command_of}
use Rattle.protocol.proofs.Command.decode.Goals as goal

pub returns : goal.returns
unfolding command_of
returns c = search rules
