-- `marks::write_frames` meets its contract: a file of which nothing has been read follows nothing.
use Rattle.std.proofs.Common.{rules, []}
use Rattle.std.proofs.lemmas.Result.{on_ok_weaker}
use Rattle.marks.proofs.write_frames.Goals as goal

pub returns : goal.returns
returns g c = on_ok_weaker c.pass.result (λ whole. whole (c.start.ensures.follows _ [] (search rules))) c.pass.ensures
