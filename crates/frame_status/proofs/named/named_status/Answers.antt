-- `frame_status::named::named_status` meets its contract: the name is closed, or the operation's own tests decide.
use borrow.Author.Rules.{rules}
use Rattle.frame_status.proofs.Statuses.{naming-closed, naming-asks, naming-status, naming-passes}
use Rattle.frame_status.proofs.named.named_status.Goals as goal

pub returns-then-found-eq-KIND_CLOSED : goal.returns-then-found-eq-KIND_CLOSED
returns-then-found-eq-KIND_CLOSED c = search naming-closed

pub selection_status-requires : goal.selection_status-requires
selection_status-requires c = (search naming-asks, search rules)

pub returns-in-Insert : goal.returns-in-Insert
returns-in-Insert c = search naming-status

pub returns-in-Delete : goal.returns-in-Delete
returns-in-Delete c = search naming-status

pub returns-in-Rank : goal.returns-in-Rank
returns-in-Rank c = search naming-status

pub returns-in_default : goal.returns-in_default
returns-in_default c = search naming-passes
