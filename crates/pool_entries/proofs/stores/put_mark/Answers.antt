-- `pool_entries::stores::put_mark` meets its contract, by the law of its two stores.
use Rattle.pool_entries.proofs.Entries.{mark-put}
use Rattle.pool_entries.proofs.stores.put_mark.Goals as goal

pub returns : goal.returns
returns c = search mark-put
