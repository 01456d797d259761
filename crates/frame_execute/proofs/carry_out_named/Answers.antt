-- `frame_execute::carry_out_named` meets its contract: a refusal and a query step to the same pool, a change to the one that it leaves.
use Rattle.std.proofs.lemmas.Result.{err_from_is_err_and}
use Rattle.frame_execute.proofs.Steps.{refused-steps, late-code, asked-steps}
use Rattle.frame_execute.proofs.carry_out_named.Goals as goal

pub returns-in_err-status_of : goal.returns-in_err-status_of
returns-in_err-status_of c =
    let p = err_from_is_err_and c.from_residual.result c.from_residual.ensures.1 in
    rw (p.1, p.2) (search (refused-steps, c.in_err-status_of.ensures))

pub returns-in_default : goal.returns-in_default
returns-in_default c = search (asked-steps, late-code)
