-- Entries whose children's trees a change leaves alone: they stay good, and their shapes and blocks are as before.
use mathlib.Core.List.{List}
use Prim.Native.Nat.{ℕ, ◌≤◌}
use Rattle.lists.proofs.Items.{all_map}
use Rattle.lists.specs.Items.{All}
use Rattle.lists.specs.Joins.{joined}
use Rattle.sequence.specs.Definition1.{count}
use Rattle.pool.specs.Changes.{Only}
use Rattle.pool_blocks.specs.Contents.{link_in}
use Rattle.tree_splits.specs.Entries.{TrueEntry, SoundChild}
use Rattle.tree_splits.proofs.GoodEntries.{GoodEntry, blocks_in}
use Rattle.tree_splits.proofs.KeptLists.{KeptList, kept-list}
use Rattle.tree_delete.specs.Mends.{AllGood}

-- good entries, as the laws of `tree_splits` say it
pub all-good : (p : List ℕ) (h : ℕ) (es : List (List ℕ)) → AllGood p h es → All (GoodEntry p h) es
all-good p h es good = all_map (λ e. SoundChild p h (link_in e) × TrueEntry p h e) (GoodEntry p h) (λ e g. record { sound = g.0; true = g.1 }) es good

module _ {These : ℕ → Type 0} (p q : List ℕ) (only : Only These p q) (h : ℕ) (es : List (List ℕ)) (good : All (GoodEntry p h) es)
    (apart : (x : ℕ) → 1 ≤ count x (joined (blocks_in p h) es) → These x → ⊥) where
  pub kept-entries : KeptList p q h es
  kept-entries = kept-list p q only.long h es good (λ x among. only.others x (apart x among))
