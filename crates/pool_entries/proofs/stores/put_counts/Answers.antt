use Rattle.pool_entries.proofs.Entries.{counts-more}
use Rattle.pool_entries.proofs.stores.put_counts.Goals as goal

pub loop-c-preserved : goal.loop-c-preserved
loop-c-preserved c = search counts-more
