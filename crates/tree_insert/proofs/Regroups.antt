-- A branch whose entries were regrouped, and its half where it was split: their shapes, blocks and soundness, from all entries together.
use mathlib.Core.Path.{◌≡◌, refl, sym, ap, subst, ◌∙◌}
use mathlib.Core.List.{List, [], ◌∷◌, map}
use Prim.Native.Nat.{ℕ, suc, ◌+◌, ◌≤◌, ◌<◌}
use native.Mathlib.Omega.{arith}
use lib.ListN.{length, length-map}
use Rattle.std.specs.Prelude.{Option}
use Rattle.geometry.specs.Layout.{form_marks, most_branch}
use Rattle.geometry.specs.Limits.{most_alphabet}
use Rattle.lists.proofs.Items.{all_both}
use Rattle.lists.proofs.Joins.{joined-append}
use Rattle.lists.proofs.Mapped.{all-unmapped}
use Rattle.lists.specs.Items.{All}
use Rattle.lists.specs.Joins.{joined}
use Rattle.sequence.proofs.Counts.{count-additive}
use Rattle.sequence.specs.Definition1.{count}
use Rattle.shape.proofs.Chop.{joined-chop}
use Rattle.shape.specs.Fill.{Within}
use Rattle.shape.specs.Level.{chop}
use Rattle.pool.specs.Blocks.{form_of}
use Rattle.pool.specs.Bytes.{shares}
use Rattle.pool.specs.Sound.{SoundBlock, SoundBelow}
use Rattle.pool.specs.Trees.{shape_at, blocks_at}
use Rattle.pool_blocks.proofs.Branches.{entries-length}
use Rattle.pool_blocks.specs.Contents.{entry_list}
use Rattle.tree_splits.specs.Grafts.{Regrouped}
use Rattle.tree_splits.specs.Inserts.{roots, least_after}
use Rattle.tree_splits.proofs.GoodEntries.{GoodEntry, shape_in, blocks_in, good-below, shape-entries, blocks-entries}
use Rattle.tree_splits.proofs.KeptLists.{KeptList}
use Rattle.tree_splits.proofs.Pieces.{map-chop, all-chop, chop-sizes}
use Rattle.tree_insert.proofs.Siblings.{length-roots}

module _ (t : List ℕ) (h : ℕ) where
  branch-shapes : (ys : List ℕ) → map (shape_at t (suc h)) ys ≡ map (map (shape_in t h)) (map (entry_list t) ys)
  branch-shapes [] = refl
  branch-shapes (y ∷ ys) = ap (λ x. x ∷ map (shape_at t (suc h)) ys) (shape-entries t h y) ∙ ap (λ xs. map (shape_in t h) (entry_list t y) ∷ xs) (branch-shapes ys)

  branch-blocks : (x : ℕ) (ys : List ℕ) → count x (joined (blocks_at t (suc h)) ys) ≡ count x ys + count x (joined (joined (blocks_in t h)) (map (entry_list t) ys))
  unfolding count
  branch-blocks x [] = refl
  branch-blocks x (y ∷ ys) =
      omega (
        arith,
        count-additive x (blocks_at t (suc h) y) (joined (blocks_at t (suc h)) ys),
        ap (count x) (blocks-entries t h y),
        count-additive x (joined (blocks_in t h) (entry_list t y)) (joined (joined (blocks_in t h)) (map (entry_list t) ys)),
        branch-blocks x ys,
      )

module _ (h b holder : ℕ) (r : Option ℕ) (all : List (List ℕ)) (q t m n : List ℕ) (regrouped : Regrouped b holder r all q t m n) (kept : KeptList q t h all) where
  pub regrouped-shapes : map (shape_at t (suc h)) (roots r b) ≡ chop most_branch (map (shape_in q h) all)
  regrouped-shapes =
      branch-shapes t h (roots r b) ∙ ap (map (map (shape_in t h))) regrouped.lists ∙ map-chop (shape_in t h) most_branch all
      ∙ ap (chop most_branch) kept.shapes

  pub regrouped-blocks : (x : ℕ) → count x (joined (blocks_at t (suc h)) (roots r b)) ≡ count x (roots r b) + count x (joined (blocks_in q h) all)
  regrouped-blocks x =
      let e : joined (joined (blocks_in t h)) (map (entry_list t) (roots r b)) ≡ joined (blocks_in q h) all =
      ap (joined (joined (blocks_in t h))) regrouped.lists ∙ joined-chop most_branch all (joined (blocks_in t h)) (joined-append (blocks_in t h)) ∙ kept.blocks in
      omega (arith, branch-blocks t h x (roots r b), ap (count x) e)

  module _ (fewest : ℕ) (low : fewest ≤ length all) (high : length all ≤ most_branch + 1) where
    sizes : All (λ y. Within (least_after r (suc h) fewest) most_branch (length (entry_list t y))) (roots r b)
    sizes =
        all-unmapped (entry_list t) (λ es. Within (least_after r (suc h) fewest) most_branch (length es)) (roots r b)
        (subst (All (λ es. Within (least_after r (suc h) fewest) most_branch (length es))) (sym regrouped.lists)
        (chop-sizes h fewest r all low high
        (ap length (sym regrouped.lists) ∙ length-map (roots r b) (entry_list t) ∙ length-roots r b)))

    goods : All (λ y. All (GoodEntry t h) (entry_list t y)) (roots r b)
    goods =
        all-unmapped (entry_list t) (All (GoodEntry t h)) (roots r b)
        (subst (All (All (GoodEntry t h))) (sym regrouped.lists) (all-chop (GoodEntry t h) most_branch all kept.good))

    pub regrouped-sound : All (λ y. SoundBlock t (least_after r (suc h) fewest) (suc h) y × SoundBelow t most_alphabet (suc h) y) (roots r b)
    regrouped-sound =
        all_both (λ y. (y < shares t) × (form_of t y ≡ form_marks)) (λ y. Within (least_after r (suc h) fewest) most_branch (length (entry_list t y)) × All (GoodEntry t h) (entry_list t y))
        (λ y. SoundBlock t (least_after r (suc h) fewest) (suc h) y × SoundBelow t most_alphabet (suc h) y)
        (λ y a w. (
          record {
            inside = a.0;
            form = a.1;
            enough = omega (arith, w.0.enough, entries-length t y);
            fits = omega (arith, w.0.fits, entries-length t y);
          },
          good-below t h y w.1,
        ))
        (roots r b)
        (all_both (λ y. y < shares t) (λ y. form_of t y ≡ form_marks) (λ y. (y < shares t) × (form_of t y ≡ form_marks)) (λ y a f. (a, f)) (roots r b) regrouped.inside regrouped.forms)
        (all_both (λ y. Within (least_after r (suc h) fewest) most_branch (length (entry_list t y))) (λ y. All (GoodEntry t h) (entry_list t y))
        (λ y. Within (least_after r (suc h) fewest) most_branch (length (entry_list t y)) × All (GoodEntry t h) (entry_list t y)) (λ y w g. (w, g)) (roots r b) sizes goods)
