use borrow.Author.Rules.{rules}
use Rattle.call_run.proofs.Frames.{none-run, one-run, all-run}
use Rattle.call_run.proofs.run_frames.Goals as goal

pub loop-k-init : goal.loop-k-init
loop-k-init c = search none-run

pub loop-k-preserved : goal.loop-k-preserved
loop-k-preserved c = search (one-run, rules)

pub returns : goal.returns
returns c = search all-run
