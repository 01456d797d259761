-- `pool_blocks::leaf::cut_leaf` meets its contract, by the law of entries cut off.
use borrow.Author.Rules.{rules}
use Rattle.pool_blocks.proofs.Leaves.{entries-within, leaf-cut}
use Rattle.pool_blocks.proofs.leaf.cut_leaf.Goals as goal

pub cut_off-requires : goal.cut_off-requires
cut_off-requires c = search (entries-within, rules)

pub returns : goal.returns
returns c = search leaf-cut
