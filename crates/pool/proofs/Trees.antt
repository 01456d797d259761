-- A branch and its children: child k is item k of the shape, between those before and those after it; the blocks are the branch's own
-- and the children's. All of it is the list of the children, cut at k.
use mathlib.Core.Path.{◌≡◌, refl, sym, ap, ◌∙◌}
use mathlib.Core.List.{List, [], ◌∷◌, ◌++◌, map}
use Prim.Native.Nat.{ℕ, zero, suc, ◌+◌, ◌-◌, ◌≤◌, ◌<◌}
use native.Mathlib.Omega.{arith}
use lib.ListN.{length, get_or, take, drop, length-map, length-append, length-take, length-drop}
use lib.Seq.{split_at}
use Rattle.lists.proofs.Froms.{length_from, get_or-from-start, take-from, drop-from, from_all, map-from, total-from, joined-from}
use Rattle.lists.proofs.Joins.{joined-all, joined-map}
use Rattle.lists.proofs.Measures.{Additive}
use Rattle.lists.proofs.Sums.{total-joined, total-map, total-same, sum_below-same}
use Rattle.lists.specs.Froms.{from}
use Rattle.lists.specs.Items.{All}
use Rattle.lists.specs.Sums.{sum_below, total}
use Rattle.sequence.specs.Definition1.{is_mark, count}
use Rattle.sequence.proofs.Counts.{count-additive}
use Rattle.shape.specs.Blocks.{blocks}
use Rattle.shape.specs.Level.{Takes}
use Rattle.shape.specs.Nested.{Node, flat}
use Rattle.pool.specs.Blocks.{entries, link, children}
use Rattle.pool.specs.Trees.{shape_at, blocks_at}

module _ (p : List ℕ) where
  -- the tree has as many blocks as its shape has nodes
  pub length-blocks_at : (h b : ℕ) → length (blocks_at p h b) ≡ blocks h (shape_at p h b)
  length-blocks_at zero b = refl
  length-blocks_at (suc h) b =
      ap suc
      (sym (total-joined length length-append (blocks_at p h) (children p b))
      ∙ total-same (λ c. length (blocks_at p h c)) (λ c. blocks h (shape_at p h c)) (children p b) (length-blocks_at h)
      ∙ sym (total-map (blocks h) (shape_at p h) (children p b)))

  -- what holds of all blocks holds of the first, which is the tree's own
  pub blocks-root : (P : ℕ → Type 0) (h b : ℕ) → All P (blocks_at p h b) → P b
  blocks-root P zero b s = s.0
  blocks-root P (suc h) b s = s.0

  module _ (h b : ℕ) where
    pub length-shape : length (shape_at p (suc h) b) ≡ entries p b
    length-shape = length-map (children p b) (shape_at p h) ∙ length_from (link p b) 0 (entries p b)

    -- the shape as a list of what stands at each child
    shape-from : shape_at p (suc h) b ≡ from (λ k. shape_at p h (link p b k)) 0 (entries p b)
    shape-from = map-from (shape_at p h) (link p b) 0 (entries p b)

    module _ (k : ℕ) (inside : k < entries p b) where
      pub child-shape : get_or (shape_at p (suc h) b) k [] ≡ shape_at p h (link p b k)
      child-shape = ap (λ xs. get_or xs k []) shape-from ∙ get_or-from-start (λ j. shape_at p h (link p b j)) (entries p b) k [] inside

      pub shape-around : shape_at p (suc h) b ≡ take k (shape_at p (suc h) b) ++ shape_at p h (link p b k) ∷ drop (suc k) (shape_at p (suc h) b)
      shape-around =
          split_at (shape_at p (suc h) b) k [] (omega (arith, length-shape))
          ∙ ap (λ x. take k (shape_at p (suc h) b) ++ x ∷ drop (suc k) (shape_at p (suc h) b)) child-shape

      pub blocks-child : (P : ℕ → Type 0) → All P (blocks_at p (suc h) b) → All P (blocks_at p h (link p b k))
      blocks-child P s = from_all (λ c. All P (blocks_at p h c)) (link p b) (entries p b) k inside (joined-all P (blocks_at p h) (children p b) s.1)

    pub shape-before : (k : ℕ) → k ≤ entries p b → take k (shape_at p (suc h) b) ≡ map (shape_at p h) (from (link p b) 0 k)
    shape-before k le =
        ap (take k) shape-from ∙ take-from (λ j. shape_at p h (link p b j)) (entries p b) k le ∙ sym (map-from (shape_at p h) (link p b) 0 k)

    pub shape-after : (k : ℕ) → k ≤ entries p b → drop k (shape_at p (suc h) b) ≡ map (shape_at p h) (from (link p b) k (entries p b - k))
    shape-after k le =
        ap (drop k) shape-from ∙ drop-from (λ j. shape_at p h (link p b j)) (entries p b) k le ∙ sym (map-from (shape_at p h) (link p b) k (entries p b - k))

    -- how often a number stands among the blocks
    pub count-blocks : (c : ℕ) → count c (blocks_at p (suc h) b) ≡ is_mark c b + sum_below (entries p b) (λ k. count c (blocks_at p h (link p b k)))
    unfolding count
    count-blocks c = ap (λ n. is_mark c b + n) (joined-from (count c) (count-additive c) (blocks_at p h) (link p b) (entries p b))

-- A branch whose entries tell a measure of their children's marks: m is what they tell.
module _ (p : List ℕ) (h b : ℕ) (μ : List ℕ → ℕ) (additive : Additive μ) (m : ℕ → ℕ) (told : (k : ℕ) → k < entries p b → m k ≡ μ (flat h (shape_at p h (link p b k)))) where
  pub told-before : (k : ℕ) → k ≤ entries p b → sum_below k m ≡ total (λ y. μ (flat h y)) (take k (shape_at p (suc h) b))
  told-before k le =
      sum_below-same k m (λ j. μ (flat h (shape_at p h (link p b j)))) (λ j l. told j (omega arith))
      ∙ sym (total-from (λ c. μ (flat h (shape_at p h c))) (link p b) k) ∙ sym (total-map (λ y. μ (flat h y)) (shape_at p h) (from (link p b) 0 k))
      ∙ ap (total (λ y. μ (flat h y))) (sym (shape-before p h b k le))

  pub told-all : sum_below (entries p b) m ≡ μ (flat (suc h) (shape_at p (suc h) b))
  told-all =
      sum_below-same (entries p b) m (λ j. μ (flat h (shape_at p h (link p b j)))) told
      ∙ sym (joined-from μ additive (λ c. flat h (shape_at p h c)) (link p b) (entries p b))
      ∙ ap μ (sym (joined-map (flat h) (shape_at p h) (children p b)))

  -- the child that takes i, found by what the entries tell
  pub told-takes : (i k : ℕ) → k < entries p b → (0 < k → sum_below k m < i) → (suc k < entries p b → i ≤ sum_below k m + m k)
      → Takes (λ y. μ (flat h y)) i (take k (shape_at p (suc h) b)) (shape_at p h (link p b k)) (drop (suc k) (shape_at p (suc h) b))
  told-takes i k inside past reach =
      let x : Node (suc h) = shape_at p (suc h) b in
      record {
        past = λ (l : 0 < length (take k x)). omega (arith, past (omega (arith, length-take k x)), told-before k (omega arith));
        reach = λ (l : 0 < length (drop (suc k) x)). omega (arith, reach (omega (arith, length-drop (suc k) x, length-shape p h b)), told-before k (omega arith), told k inside);
      }
