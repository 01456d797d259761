-- The depth that an answer tells, and the rule for it (RULES, Depth).
use Rattle.std.specs.Prelude.{◌≢◌, ◌≡◌, ℕ, suc, ◌≤◌, ◌<◌, length}
use Rattle.geometry.specs.Layout.{most_height}
use Rattle.protocol.specs.Commands.{access_code}
use Rattle.protocol.specs.Respond.{respond}
use Rattle.protocol.specs.State.{State, opened, part_of}
use Rattle.protocol.specs.declared.Command.{Command}
use Rattle.shape.specs.Depth.{DepthRule}
use Rattle.shape.specs.Paths.{depth_t}
use Rattle.shape.specs.Trees.{Tree, marks_t}
use Rattle.machine.specs.Machine.{trees}

-- a depth told for a place of a tree: the blocks from the root to the leaf that bears the place, by the rule, and within a byte
pub record DepthTold (tree : Tree) (place depth : ℕ) : Type 0 where
  pub own : depth ≡ depth_t place tree
  pub rule : DepthRule (length (marks_t tree)) depth
  pub high : depth ≤ suc most_height
  pub fits : depth < 256

-- a successful access tells the depth of its place in its name's tree
abbrev pub AccessTellsDepth : State Tree → Command → Type 0
AccessTellsDepth s c = (alphabet q : ℕ) (tree : Tree) → c.code ≡ access_code → part_of s c.name ≡ opened alphabet q tree
    → (respond trees s c).answer.status ≡ 0 → DepthTold tree c.number (respond trees s c).answer.depth

-- no other command's answer tells one
abbrev pub OthersTellNoDepth : State Tree → Command → Type 0
OthersTellNoDepth s c = c.code ≢ access_code → (respond trees s c).answer.depth ≡ 0
