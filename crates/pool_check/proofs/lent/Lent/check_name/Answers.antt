-- `pool_check::lent::Lent::check_name` meets its contract, for a closed name and for an open one.
use Rattle.pool_check.proofs.Naming.{closed-walked, open-walked}
use Rattle.pool_check.proofs.lent.Lent.check_name.Goals as goal

pub returns-then-found-eq-KIND_CLOSED : goal.returns-then-found-eq-KIND_CLOSED
returns-then-found-eq-KIND_CLOSED c = search closed-walked

pub returns-else-found-eq-KIND_CLOSED : goal.returns-else-found-eq-KIND_CLOSED
returns-else-found-eq-KIND_CLOSED c = search open-walked
