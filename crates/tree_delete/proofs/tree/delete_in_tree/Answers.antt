-- `tree_delete::tree::delete_in_tree` meets its contract: the root stays, or its only child takes its place.
use Rattle.tree_delete.proofs.RootShrinks.{root-leaf, root_kept, root-gone}
use borrow.Author.Rules.{rules}
use native.Mathlib.Omega.{arith}
use Rattle.tree_delete.proofs.tree.delete_in_tree.Goals.{then-level-eq0-via-then-level-eq0, then-level-eq0-via-else-level-eq0+then-entry_count-gt1}
use Rattle.tree_delete.proofs.tree.delete_in_tree.Goals as goal

pub returns-then-level-eq0 : goal.returns-then-level-eq0
returns-then-level-eq0 c =
    elim c.then-level-eq0.branch [
      | then-level-eq0-via-then-level-eq0 w ↦ root-leaf _ _ _ _ _ _ _ _ c.delete_in-mark.ensures w.if-level-eq0.true
      | then-level-eq0-via-else-level-eq0+then-entry_count-gt1 w ↦ root_kept _ _ _ _ _ _ _ _ c.delete_in-mark.ensures w.if-level-eq0.false (omega (arith, w.entry_count.ensures.is))
    ]

pub returns : goal.returns
returns c = root-gone _ _ _ _ _ _ _ _ (search) (search) (search) (search rules) _ (search) _ c.give_back.ensures
