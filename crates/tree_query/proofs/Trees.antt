-- Which trees can be asked: those of a sound pool, each child by what its parent says of it.
use mathlib.Core.List.{List}
use Prim.Native.Nat.{ℕ, zero, suc, ◌≤◌}
use native.Mathlib.Omega.{arith}
use Rattle.pool.specs.Blocks.{link}
use Rattle.pool.specs.Names.{record_of}
use Rattle.pool.specs.Sound.{SoundBlock, SoundBelow, OpenName}
use Rattle.shape.specs.Fill.{root_least}
use Rattle.shape.specs.Sizes.{one_to_a_byte, least}
use Rattle.shape.proofs.Filled.{root-least}
use Rattle.shape.proofs.Instances.{one_to_a_byte-proper}
use Rattle.tree_query.specs.Good.{Good}

module _ (p : List ℕ) where
  fewer : (few fewest h b : ℕ) → few ≤ fewest → SoundBlock p fewest h b → SoundBlock p few h b
  fewer few fewest h b low block = record { inside = block.inside; form = block.form; enough = omega (arith, block.enough); fits = block.fits }

  -- a sound tree can be asked
  pub sound-good : (alphabet fewest h b : ℕ) → root_least h ≤ fewest → SoundBlock p fewest h b → SoundBelow p alphabet h b → Good p h b
  sound-good alphabet fewest zero b low block below = fewer (root_least zero) fewest zero b low block
  sound-good alphabet fewest (suc h) b low block below = (
    fewer (root_least (suc h)) fewest (suc h) b low block,
    λ k inside. (
      sound-good alphabet (least one_to_a_byte h) h (link p b k) (root-least one_to_a_byte one_to_a_byte-proper h) (below k inside).0 (below k inside).1,
      (below k inside).2,
    ),
  )

  -- and so can an open name's
  pub open-good : (name : ℕ) → OpenName p name → Good p (record_of p name).height (record_of p name).root
  open-good name opened =
      sound-good (record_of p name).alphabet (root_least (record_of p name).height) (record_of p name).height (record_of p name).root (omega arith) opened.root opened.below
