-- What a query asks of the tree that it goes down: blocks of the pool that aren't too full, and entries that tell their children's marks.
use Rattle.std.specs.Prelude.{List, ℕ, zero, suc, ◌<◌}
use Rattle.pool.specs.Blocks.{entries, link}
use Rattle.pool.specs.Sound.{SoundBlock, Tells}
use Rattle.shape.specs.Fill.{root_least}

-- the tree at a block of level h can be asked: a leaf, or a branch of two children or more, each of which can be asked in turn
abbrev pub Good : List ℕ → ℕ → ℕ → Type 0
Good p zero b = SoundBlock p (root_least zero) zero b
Good p (suc h) b = SoundBlock p (root_least (suc h)) (suc h) b × ((k : ℕ) → k < entries p b → Good p h (link p b k) × Tells p h b k)
