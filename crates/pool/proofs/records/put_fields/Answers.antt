-- `pool::records::put_fields` meets its contract, by the law of its six stores.
use Rattle.pool.proofs.Written.{fields-put}
use Rattle.pool.proofs.records.put_fields.Goals as goal

pub returns : goal.returns
returns c = search fields-put
