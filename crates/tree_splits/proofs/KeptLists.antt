-- Entries whose children's trees keep their bytes: all of them stay good, and their shapes and blocks stay.
use mathlib.Core.Path.{◌≡◌}
use mathlib.Core.List.{List, map}
use Prim.Native.Nat.{ℕ, ◌≤◌}
use lib.ListN.{length}
use Rattle.lists.proofs.Items.{all_both}
use Rattle.lists.proofs.Joins.{joined-all, joined_same}
use Rattle.lists.proofs.Mapped.{map_same}
use Rattle.lists.specs.Items.{All}
use Rattle.lists.specs.Joins.{joined}
use Rattle.sequence.specs.Definition1.{count}
use Rattle.sequence.proofs.Counts.{standing-all}
use Rattle.pool.specs.Changes.{SameBlock}
use Rattle.pool.specs.Untouched.{SameBlocks}
use Rattle.tree_splits.proofs.GoodEntries.{GoodEntry, shape_in, blocks_in, shape_same, blocks-same, good-kept}

pub record KeptList (p q : List ℕ) (h : ℕ) (es : List (List ℕ)) : Type 0 where
  pub good : All (GoodEntry q h) es
  pub shapes : map (shape_in q h) es ≡ map (shape_in p h) es
  pub blocks : joined (blocks_in q h) es ≡ joined (blocks_in p h) es

pub kept-list : (p q : List ℕ) → length q ≡ length p → (h : ℕ) (es : List (List ℕ)) → All (GoodEntry p h) es
    → ((x : ℕ) → 1 ≤ count x (joined (blocks_in p h) es) → SameBlock x p q)
    → KeptList p q h es
kept-list p q long h es good same =
    let each : All (λ e. SameBlocks (blocks_in p h e) p q) es =
    joined-all (λ x. SameBlock x p q) (blocks_in p h) es (standing-all (λ x. SameBlock x p q) (joined (blocks_in p h) es) same) in
    record {
      good = all_both (GoodEntry p h) (λ e. SameBlocks (blocks_in p h e) p q) (GoodEntry q h) (λ e g s. good-kept p q long h e g s) es good each;
      shapes =
          map_same (shape_in q h) (shape_in p h) es
          (all_both (GoodEntry p h) (λ e. SameBlocks (blocks_in p h e) p q) (λ e. shape_in q h e ≡ shape_in p h e) (λ e g s. shape_same p q long h e g s) es good each);
      blocks =
          joined_same (blocks_in q h) (blocks_in p h) es
          (all_both (GoodEntry p h) (λ e. SameBlocks (blocks_in p h e) p q) (λ e. blocks_in q h e ≡ blocks_in p h e) (λ e g s. blocks-same p q long h e g s) es good each);
    }
