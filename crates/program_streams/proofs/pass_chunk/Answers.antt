use Rattle.std.proofs.Common.{rules}
use Rattle.std.proofs.lemmas.List.{take_rest}
use Rattle.program_streams.proofs.Passing.{passed-more}
use Rattle.program_streams.proofs.pass_chunk.Goals as goal

pub loop-rest-preserved : goal.loop-rest-preserved
loop-rest-preserved g c =
    let step = c.take_in-step in (
      search rules,
      passed-more _ _ _ step.result.taken c.loop-rest.invariant.1 (take_rest c.loop-rest.rest.now step.result.taken)
          (λ input written f. (_, step.ensures.followed input written f, c.in_ok-write_out.ensures)),
    )
