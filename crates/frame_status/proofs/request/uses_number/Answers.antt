-- `frame_status::request::uses_number` meets its contract: the table says so of these operations and of no others.
use Rattle.frame_status.proofs.Codes.{number-used, number-unused}
use Rattle.frame_status.proofs.request.uses_number.Goals as goal
use Rattle.frame_status.proofs.request.uses_number.Goals.{in-Close, in_default}

pub returns : goal.returns
returns c =
    elim c.match-matches.branch [
      | in-Close w ↦ rw w.matches-is (number-unused _ w.in-Close.is)
      | in_default w ↦ rw w.matches-is (number-used _ w.in_default.not-Close w.in_default.not-Length w.in_default.not-Unpromised)
    ]
