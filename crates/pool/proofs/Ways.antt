-- The way down: a path of the shape names a child at each level, so the blocks entered are blocks of the tree, one for each level,
-- and the last of them bears the leaf that the path leads to.
use mathlib.Core.Path.{◌≡◌, refl, sym, ap, subst, ◌∙◌}
use mathlib.Core.List.{List, [], ◌∷◌}
use Prim.Native.Nat.{ℕ, zero, suc, ◌≤◌, ◌<◌}
use native.Mathlib.Omega.{arith}
use lib.ListN.{length, get_or, length-append}
use Rattle.geometry.specs.Layout.{most_leaf, most_branch}
use Rattle.lists.specs.Items.{All}
use Rattle.sequence.specs.Definition1.{count}
use Rattle.sequence.proofs.Counts.{standing-all}
use Rattle.shape.specs.Fill.{Within}
use Rattle.shape.specs.Level.{seat, rest, chosen}
use Rattle.shape.specs.Nested.{Node, flat}
use Rattle.shape.specs.Paths.{path, leaf_at}
use Rattle.shape.proofs.Height.{length-path}
use Rattle.shape.proofs.Seat.{by-taker, seat-takes}
use Rattle.pool.specs.Blocks.{entries, leaf_marks, link}
use Rattle.pool.specs.Trees.{shape_at, blocks_at, Way, entered, path_at}
use Rattle.pool.proofs.Trees.{length-shape, child-shape, blocks-child}

-- every block of the tree has no more entries than fit, and a branch has a child
abbrev pub Readable : List ℕ → ℕ → ℕ → Type 0
Readable p zero b = entries p b ≤ most_leaf
Readable p (suc h) b = Within 1 most_branch (entries p b) × ((k : ℕ) → k < entries p b → Readable p h (link p b k))

seat-below : {A : Type 0} (f : A → ℕ) (i : ℕ) (xs : List A) → 0 < length xs → seat f i xs < length xs
seat-below f i xs some =
    by-taker f i xs (λ ys. seat f i ys < length ys) (λ before x after t. omega (arith, seat-takes f i before x after t, length-append before (x ∷ after))) some

module _ (p : List ℕ) where
  pub length-entered : (b : ℕ) (ks : List ℕ) → length (entered p b ks) ≡ suc (length ks)
  length-entered b [] = refl
  length-entered b (k ∷ ks) = ap suc (length-entered (link p b k) ks)

  pub length-path_at : (h i b : ℕ) → length (path_at p h i b) ≡ suc h
  length-path_at h i b = length-entered b (path length h i (shape_at p h b)) ∙ ap suc (length-path length h i (shape_at p h b))

  -- a path of the shape, by any measure, is a way down
  pub path-way : (g : List ℕ → ℕ) (h j b : ℕ) → Readable p h b → Way p h b (path g h j (shape_at p h b))
  unfolding path chosen
  path-way g zero j b r = tt
  path-way g (suc h) j b r =
      let f : Node h → ℕ = λ y. g (flat h y) in
      let x : Node (suc h) = shape_at p (suc h) b in
      let k : ℕ = seat f j x in
      let inside : k < entries p b = omega (arith, length-shape p h b, seat-below f j x (omega (arith, r.0, length-shape p h b))) in
      (inside, subst (λ y. Way p h (link p b k) (path g h (rest f j x) y)) (sym (child-shape p h b k inside)) (path-way g h (rest f j x) (link p b k) (r.1 k inside)))

  -- what holds of all blocks of the tree holds of those entered
  pub entered_all : (P : ℕ → Type 0) (h b : ℕ) (ks : List ℕ) → Way p h b ks → All P (blocks_at p h b) → All P (entered p b ks)
  entered_all P zero b [] w s = s
  entered_all P zero b (k ∷ ks) w s = absurd w
  entered_all P (suc h) b [] w s = absurd w
  entered_all P (suc h) b (k ∷ ks) w s = (s.0, entered_all P h (link p b k) ks w.1 (blocks-child p h b k w.0 P s))

  -- so each of them is one of the tree's
  pub path-among : (h i b : ℕ) → Readable p h b → All (λ c. 1 ≤ count c (blocks_at p h b)) (path_at p h i b)
  path-among h i b r =
      entered_all (λ c. 1 ≤ count c (blocks_at p h b)) h b (path length h i (shape_at p h b)) (path-way length h i b r)
      (standing-all (λ c. 1 ≤ count c (blocks_at p h b)) (blocks_at p h b) (λ c l. l))

  way-ends : (h b : ℕ) (ks : List ℕ) → Way p h b ks → leaf_at h ks (shape_at p h b) ≡ leaf_marks p (get_or (entered p b ks) h 0)
  unfolding leaf_at
  way-ends zero b [] w = refl
  way-ends zero b (k ∷ ks) w = absurd w
  way-ends (suc h) b [] w = absurd w
  way-ends (suc h) b (k ∷ ks) w = ap (leaf_at h ks) (child-shape p h b k w.0) ∙ way-ends h (link p b k) ks w.1

  -- the last of them, number h from 0, is the leaf that bears place i
  pub path-ends : (h i b : ℕ) → Readable p h b → leaf_at h (path length h i (shape_at p h b)) (shape_at p h b) ≡ leaf_marks p (get_or (path_at p h i b) h 0)
  path-ends h i b r = way-ends h b (path length h i (shape_at p h b)) (path-way length h i b r)
