use Rattle.program_batches.proofs.Completed.{place-there, answer-there, completing-more, completing-all}
use Rattle.program_batches.proofs.complete.Goals as goal

pub put_answer-left-requires : goal.put_answer-left-requires
put_answer-left-requires c = (search place-there, search answer-there)

pub loop-line-preserved : goal.loop-line-preserved
loop-line-preserved c = search completing-more

pub returns : goal.returns
returns c = search completing-all
