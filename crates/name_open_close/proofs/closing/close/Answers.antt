-- `name_open_close::closing::close` meets its contract: the record is a closed name's, and the name's blocks are free.
use Rattle.name_open_close.proofs.ClosedNames.{closed-updated}
use Rattle.name_open_close.proofs.closing.close.Goals as goal

pub returns : goal.returns
returns c = search closed-updated
