-- What a sound tree is: filled as the theory of the tree asks, of marks below the alphabet, in blocks of the pool.
-- By level, each child by what its parent says of it.
use mathlib.Core.List.{List}
use Prim.Native.Nat.{ℕ, zero, suc, ◌≤◌, ◌<◌}
use native.Mathlib.Omega.{arith}
use Rattle.lists.proofs.Froms.{all_from}
use Rattle.lists.proofs.Joins.{all-joined, joined-map}
use Rattle.lists.proofs.Mapped.{all-mapped}
use Rattle.lists.specs.Items.{AllBelow, All}
use Rattle.shape.specs.Fill.{FilledFrom, Filled, root_least}
use Rattle.shape.specs.Nested.{flat}
use Rattle.shape.specs.Sizes.{one_to_a_byte, least}
use Rattle.shape.proofs.Filled.{root-least}
use Rattle.shape.proofs.Instances.{one_to_a_byte-proper}
use Rattle.pool.specs.Blocks.{entries, link, children}
use Rattle.pool.specs.Bytes.{shares}
use Rattle.pool.specs.Sound.{SoundBlock, SoundBelow}
use Rattle.pool.specs.Trees.{shape_at, blocks_at}
use Rattle.pool.proofs.Ways.{Readable}
use Rattle.pool.proofs.Blocks.{length-leaf}
use Rattle.pool.proofs.Trees.{length-shape}

module _ (p : List ℕ) where
  module _ (alphabet : ℕ) where
    -- all children of a sound branch are what each sound tree of the level below is
    sound-children : (Q : ℕ → Type 0) (h b : ℕ) → ((c : ℕ) → SoundBlock p (least one_to_a_byte h) h c → SoundBelow p alphabet h c → Q c)
        → SoundBelow p alphabet (suc h) b → All Q (children p b)
    sound-children Q h b q s = all_from Q (link p b) 0 (entries p b)
        (λ k _ l. let child = s k (omega arith) in q (link p b k) child.0 child.1)

    pub sound-filled : (fewest h b : ℕ) → SoundBlock p fewest h b → SoundBelow p alphabet h b → FilledFrom one_to_a_byte fewest h (shape_at p h b)
    sound-filled fewest zero b block below = (omega (arith, length-leaf p b fewest block, block), tt)
    sound-filled fewest (suc h) b block below = (
      omega (arith, length-shape p h b, block),
      all-mapped (Filled one_to_a_byte h) (shape_at p h) (children p b) (sound-children (λ c. Filled one_to_a_byte h (shape_at p h c)) h b (sound-filled (least one_to_a_byte h) h) below),
    )

    pub sound-marks : (h b : ℕ) → SoundBelow p alphabet h b → AllBelow alphabet (flat h (shape_at p h b))
    sound-marks zero b below = below
    sound-marks (suc h) b below =
        rw joined-map
        (all-joined (λ x. x < alphabet) (λ c. flat h (shape_at p h c)) (children p b)
        (sound-children (λ c. AllBelow alphabet (flat h (shape_at p h c))) h b (λ c _ s. sound-marks h c s) below))

    pub sound-readable : (fewest h b : ℕ) → root_least h ≤ fewest → SoundBlock p fewest h b → SoundBelow p alphabet h b → Readable p h b
    sound-readable fewest zero b low block below = block.fits
    sound-readable fewest (suc h) b low block below = (
      omega (arith, block),
      λ k l. sound-readable (least one_to_a_byte h) h (link p b k) (root-least one_to_a_byte one_to_a_byte-proper h) (below k l).0 (below k l).1,
    )

    pub sound-inside : (fewest h b : ℕ) → SoundBlock p fewest h b → SoundBelow p alphabet h b → All (λ c. c < shares p) (blocks_at p h b)
    sound-inside fewest zero b block below = (block.inside, tt)
    sound-inside fewest (suc h) b block below = (
      block.inside,
      all-joined (λ c. c < shares p) (blocks_at p h) (children p b)
          (sound-children (λ c. All (λ d. d < shares p) (blocks_at p h c)) h b (sound-inside (least one_to_a_byte h) h) below),
    )
