-- What the queries answer, of a block's tree and of a record's.
use Rattle.std.specs.Prelude.{◌≡◌, List, ℕ, ◌+◌, length}
use Rattle.geometry.specs.declared.Record.{Record}
use Rattle.pool.specs.Trees.{shape_at, path_at}
use Rattle.sequence.specs.Definition1.{access}
use Rattle.shape.specs.Depth.{DepthRule}
use Rattle.shape.specs.Nested.{flat}
use Rattle.shape.specs.Paths.{depth_t}
use Rattle.shape.specs.Trees.{marks_t}
use Rattle.tree_query.specs.Records.{tree_by}
use Rattle.tree_query.specs.declared.Found.{Found}

-- the mark at place i below a block of level h; so many blocks were entered before, and with the way down to it so many
pub record FoundIn (p : List ℕ) (h b i mark before entered : ℕ) : Type 0 where
  pub is : mark ≡ access (flat h (shape_at p h b)) i
  pub blocks : entered ≡ before + length (path_at p h i b)

-- the mark at place i of a record's tree, and its depth
pub record FoundOf (p : List ℕ) (r : Record) (i : ℕ) (found : Found) : Type 0 where
  pub mark : found.mark ≡ access (marks_t (tree_by p r)) i
  pub path : found.blocks ≡ length (path_at p r.height i r.root)
  pub depth : found.blocks ≡ depth_t i (tree_by p r)
  pub rule : DepthRule (length (marks_t (tree_by p r))) found.blocks
