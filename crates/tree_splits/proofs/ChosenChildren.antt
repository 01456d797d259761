-- The child of a sound branch that takes a place, whatever is done there: its entry tells its marks, and its blocks are the branch's too.
use mathlib.Core.Path.{◌≡◌}
use mathlib.Core.List.{List, ◌∷◌}
use Prim.Native.Nat.{ℕ, suc, ◌+◌, ◌-◌, ◌≤◌, ◌<◌}
use native.Mathlib.Omega.{arith}
use lib.ListN.{length, take, drop, length-append}
use Rattle.geometry.specs.Limits.{most_alphabet}
use Rattle.lists.proofs.Sums.{sum_below-one}
use Rattle.lists.specs.Sums.{total}
use Rattle.sequence.specs.Definition1.{is_mark, count}
use Rattle.shape.proofs.Filled.{root-least}
use Rattle.shape.proofs.Instances.{one_to_a_byte-proper}
use Rattle.shape.specs.Fill.{root_least}
use Rattle.shape.specs.Level.{Takes}
use Rattle.shape.specs.Nested.{marks_in}
use Rattle.shape.specs.Sizes.{one_to_a_byte}
use Rattle.pool.specs.Blocks.{entries, link, marks_below}
use Rattle.pool.specs.Sound.{SoundBlock, SoundBelow}
use Rattle.pool.specs.Trees.{shape_at, blocks_at, path_at}
use Rattle.pool.proofs.Trees.{told-all, count-blocks}
use Rattle.pool_entries.proofs.SeatedChildren.{seated-takes, seated-total, seated-path}
use Rattle.pool_entries.specs.Seats.{Seated}
use Rattle.pool_entries.specs.declared.Seat.{Seat}
use Rattle.tree_splits.proofs.SoundBlocks.{block-least}

-- the blocks below a child are the branch's too, and the branch is none of them
pub child-blocks : (p : List ℕ) (h b j : ℕ) → j < entries p b → (x : ℕ) → is_mark x b + count x (blocks_at p h (link p b j)) ≤ count x (blocks_at p (suc h) b)
child-blocks p h b j inside x = omega (arith, count-blocks p h b x, sum_below-one (entries p b) (λ k. count x (blocks_at p h (link p b k))) j inside)

module _ (p : List ℕ) (h b : ℕ) (below : SoundBelow p most_alphabet (suc h) b) where
  pub child-told : (k : ℕ) → k < entries p b → marks_below p b k ≡ marks_in h (shape_at p h (link p b k))
  child-told k inside = (below k inside).2.marks

  module _ (i : ℕ) (s : Seat) (seated : Seated (marks_below p b) (entries p b) i s) where
    pub child-takes : Takes (marks_in h) i (take s.k (shape_at p (suc h) b)) (shape_at p h (link p b s.k)) (drop (suc s.k) (shape_at p (suc h) b))
    child-takes = seated-takes p h b length length-append (marks_below p b) child-told i s seated

    pub before-total : total (marks_in h) (take s.k (shape_at p (suc h) b)) ≡ s.before
    before-total = seated-total p h b length length-append (marks_below p b) child-told i s seated

    -- the path goes on in the child
    pub child-path : path_at p (suc h) i b ≡ b ∷ path_at p h (i - s.before) (link p b s.k)
    child-path = seated-path p h b (marks_below p b) child-told i s seated

    -- it has no more marks than the branch, and is sound as a root too
    pub child-short : marks_in h (shape_at p h (link p b s.k)) ≤ marks_in (suc h) (shape_at p (suc h) b)
    child-short =
        omega (
          arith,
          child-told s.k seated.inside,
          sum_below-one (entries p b) (marks_below p b) s.k seated.inside,
          told-all p h b length length-append (marks_below p b) child-told,
        )

    pub child-root : SoundBlock p (root_least h) h (link p b s.k)
    child-root =
        let block = (below s.k seated.inside).0 in
        block-least (omega (arith, block.enough, root-least one_to_a_byte one_to_a_byte-proper h)) block
