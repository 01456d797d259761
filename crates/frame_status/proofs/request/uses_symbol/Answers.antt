-- `frame_status::request::uses_symbol` meets its contract: the table says so of these operations and of no others.
use Rattle.frame_status.proofs.Codes.{symbol-used, symbol-unused}
use Rattle.frame_status.proofs.request.uses_symbol.Goals as goal

pub returns-in-Open : goal.returns-in-Open
returns-in-Open c = search symbol-used

pub returns-in_default : goal.returns-in_default
returns-in_default c = search symbol-unused
