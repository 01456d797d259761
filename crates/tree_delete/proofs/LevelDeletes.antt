-- A delete by level, as the code tells levels apart: at a leaf a mark is taken out, at a branch the child's delete is taken up.
use mathlib.Core.Path.{◌≡◌, refl}
use mathlib.Core.List.{List}
use Prim.Native.Nat.{ℕ, ◌-◌, ◌≤◌}
use native.Mathlib.Omega.{arith}
use lib.ListN.{length}
use Rattle.geometry.specs.Limits.{most_alphabet}
use Rattle.sequence.proofs.Edits.{all_below-delete}
use Rattle.shape.specs.Trees.{delete_node}
use Rattle.pool.specs.Blocks.{entries, leaf_marks, link, marks_below}
use Rattle.pool.proofs.Changes.{only_wider}
use Rattle.pool_blocks.specs.Leaves.{MarkDeleted}
use Rattle.pool_entries.proofs.Levels.{at_leaf, at-branch}
use Rattle.pool_entries.specs.Summaries.{Is}
use Rattle.pool_entries.specs.Seats.{Seated}
use Rattle.pool_entries.specs.declared.Seat.{Seat}
use Rattle.pool_holders.proofs.Frees.{freed-none}
use Rattle.tree_splits.proofs.SoundBlocks.{block_written}
use Rattle.tree_delete.specs.Mends.{SettleReady, Mended}
use Rattle.tree_delete.specs.Removals.{DeleteReady, Deleted}
use Rattle.tree_delete.proofs.ChildDeletes.{child-ready, settle-ready, level-deleted}
use Rattle.tree_delete.proofs.PairMends.{own_block}

-- A leaf.
module _ (p m : List ℕ) (level b i : ℕ) (leaf : level ≡ 0) where
  pub leaf_last : DeleteReady p m level b i → i ≤ length (leaf_marks p b)
  leaf_last = at_leaf (λ l. DeleteReady p m l b i → i ≤ length (leaf_marks p b)) level leaf (λ ready. ready.last)

  leaf-deleted-at : (r : ℕ) (q : List ℕ) → DeleteReady p m 0 b i → MarkDeleted b i r p q → Deleted 0 b i r p q m m
  unfolding delete_node
  leaf-deleted-at r q ready del =
      record {
        taken = del.taken;
        tree =
            record {
              shape = del.marks;
              block = block_written ready.block del.only.long del.form del.many (omega arith) (omega (arith, ready.block.fits));
              below = rw del.marks (all_below-delete most_alphabet i (leaf_marks p b) ready.below);
              blocks = λ x. refl;
              only = only_wider _ (λ x e. rw e (own_block p 0 b)) del.only;
              freed = freed-none m;
            };
      }

  pub leaf-deleted : (r : ℕ) (q : List ℕ) → DeleteReady p m level b i → MarkDeleted b i r p q → Deleted level b i r p q m m
  leaf-deleted r q = at_leaf (λ l. DeleteReady p m l b i → MarkDeleted b i r p q → Deleted l b i r p q m m) level leaf (leaf-deleted-at r q)

-- A branch.
module _ (p m : List ℕ) (level b i : ℕ) (branch : level ≡ 0 → ⊥) where
  module _ (s : Seat) (seated : Seated (marks_below p b) (entries p b) i s) where
    module _ (child : ℕ) (at : Is (link p b s.k) child) where
      pub below-ready : DeleteReady p m level b i → DeleteReady p m (level - 1) child (i - s.before)
      below-ready =
          at-branch (λ l d. DeleteReady p m l b i → DeleteReady p m d child (i - s.before)) level branch
          (λ h ready. rw at.is (child-ready p m h b i ready s seated))

      module _ (r : ℕ) (q n : List ℕ) where
        pub taken-below : DeleteReady p m level b i → Deleted (level - 1) child (i - s.before) r p q m n → SettleReady q n (level - 1) b s.k r
        taken-below =
            at-branch (λ l d. DeleteReady p m l b i → Deleted d child (i - s.before) r p q m n → SettleReady q n d b s.k r) level branch
            (λ h ready del. settle-ready p m h b i ready s seated r q n (rw at.is at del))

        pub branch-deleted : (t o : List ℕ) → DeleteReady p m level b i → Deleted (level - 1) child (i - s.before) r p q m n → Mended (level - 1) b q t n o → Deleted level b i r p t m o
        branch-deleted t o =
            at-branch (λ l d. DeleteReady p m l b i → Deleted d child (i - s.before) r p q m n → Mended d b q t n o → Deleted l b i r p t m o) level branch
            (λ h ready del mended. level-deleted p m h b i ready s seated r q n (rw at.is at del) t o mended)
