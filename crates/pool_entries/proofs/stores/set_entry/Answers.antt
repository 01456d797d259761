-- `pool_entries::stores::set_entry` meets its contract: link, marks and counts make the entry.
use Rattle.pool_entries.proofs.Entries.{entry-put}
use Rattle.pool_entries.proofs.stores.set_entry.Goals as goal

pub returns : goal.returns
returns c = search entry-put
