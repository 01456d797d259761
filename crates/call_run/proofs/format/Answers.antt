-- `call_run::format` meets its contract: refused by the length, or cleared and the layout's number put.
use Rattle.call_run.proofs.Formatting.{format-refused, byte-there, format-done}
use Rattle.call_run.proofs.format.Goals as goal

pub returns-then-not-length_allowed : goal.returns-then-not-length_allowed
returns-then-not-length_allowed c = search format-refused

pub put_byte-requires : goal.put_byte-requires
put_byte-requires c = search byte-there

pub returns : goal.returns
returns c = search format-done
