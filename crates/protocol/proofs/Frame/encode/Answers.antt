-- `protocol::Frame::encode` meets its contract: eight stores from `at` on put the eight bytes there.
use Rattle.protocol.proofs.Frames.{eight-put}
use Rattle.protocol.proofs.Frame.encode.Goals as goal

pub returns : goal.returns
returns c = rw c.bytes.ensures (eight-put c.args.out.now c.args.at _ _ _ _ _ _ _ _ c.requires)
