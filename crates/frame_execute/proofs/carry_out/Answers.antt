-- `frame_execute::carry_out` meets its contract: a refusal and the query that names no name step to the same pool.
use Rattle.std.proofs.lemmas.Result.{err_from_is_err_and}
use Rattle.frame_execute.proofs.Steps.{refused-steps, unpromised-steps}
use Rattle.frame_execute.proofs.carry_out.Goals as goal

pub returns-in_err-request : goal.returns-in_err-request
returns-in_err-request c =
    let p = err_from_is_err_and c.from_residual.result c.from_residual.ensures.1 in
    let refuses = c.in_err-request.ensures c.args.pool.now in
    rw (p.1, p.2) (search refused-steps)

pub returns-in-Unpromised : goal.returns-in-Unpromised
returns-in-Unpromised c = search (unpromised-steps, c.in_ok-request.ensures)
