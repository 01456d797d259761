-- `name_open_close::opening::open` meets its contract: the block taken is the name's root.
use Rattle.name_open_close.proofs.OpenedNames.{block-there, opened-updated}
use Rattle.name_open_close.proofs.opening.open.Goals as goal

pub take_block-root-requires : goal.take_block-root-requires
take_block-root-requires c = search block-there

pub returns : goal.returns
returns c = search opened-updated
