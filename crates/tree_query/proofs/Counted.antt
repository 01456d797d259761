-- How many marks c an open name has: what a root that is a leaf counts up to its last place, and what the entries of any other root say.
use mathlib.Core.Path.{◌≡◌, refl, ap, ◌∙◌}
use mathlib.Core.List.{List}
use Prim.Native.Nat.{ℕ, zero, suc, ◌≤◌, ◌<◌}
use Rattle.geometry.specs.Layout.{least_branch, most_branch}
use Rattle.geometry.specs.Limits.{most_alphabet}
use Rattle.geometry.specs.declared.Record.{Record}
use Rattle.pool.proofs.Summaries.{own-count}
use Rattle.pool.specs.Blocks.{entries}
use Rattle.pool.specs.Sound.{SoundBlock, SoundBelow}
use Rattle.pool.specs.Trees.{shape_at, own_count}
use Rattle.sequence.proofs.Ranks.{rank-length}
use Rattle.sequence.specs.Definition1.{count, rank}
use Rattle.shape.specs.Fill.{root_least}
use Rattle.shape.specs.Nested.{flat}
use Rattle.shape.specs.Trees.{marks_t}
use Rattle.tree_query.specs.Records.{OfOpenName, tree_by}
use Rattle.tree_query.proofs.Records.{record-length}

-- A branch.
branch-size : (p : List ℕ) (h b : ℕ) → (h ≡ 0 → ⊥) → SoundBlock p (root_least h) h b → (least_branch ≤ entries p b) × (entries p b ≤ most_branch)
branch-size p zero b branch block = absurd (branch refl)
branch-size p (suc h) b branch block = (block.enough, block.fits)

branch-own : (p : List ℕ) (alphabet h b c : ℕ) → (h ≡ 0 → ⊥) → c < most_alphabet → SoundBelow p alphabet h b
    → own_count p 1 b c ≡ count c (flat h (shape_at p h b))
branch-own p alphabet zero b c branch low below = absurd (branch refl)
branch-own p alphabet (suc h) b c branch low below = own-count p alphabet (suc h) b c low below

-- A name, by its record.
module _ (p : List ℕ) (r : Record) (o : OfOpenName p r) (c : ℕ) (low : c < most_alphabet) where
  pub leaf-counted : (n : ℕ) → n ≡ rank c (flat r.height (shape_at p r.height r.root)) r.length → n ≡ count c (marks_t (tree_by p r))
  leaf-counted n ranked =
      ranked ∙ ap (rank c (marks_t (tree_by p r))) (record-length p r o) ∙ rank-length c (marks_t (tree_by p r))

  module _ (branch : r.height ≡ 0 → ⊥) where
    root-says : own_count p 1 r.root c ≡ count c (marks_t (tree_by p r))
    root-says = branch-own p r.alphabet r.height r.root c branch low (rw o.is o.opened.below)

    root-block : SoundBlock p (root_least r.height) r.height r.root
    root-block = rw o.is o.opened.root

    pub branch-most : entries p r.root ≤ most_branch
    branch-most = (branch-size p r.height r.root branch root-block).1

    pub branch-counted : (n : ℕ) → n ≡ own_count p 1 r.root c → n ≡ count c (marks_t (tree_by p r))
    branch-counted n says = says ∙ root-says
