-- A sound block: with another least number of entries, written anew, and at a level that the code tested, where it is the leaf or the branch that
-- the functions on blocks ask for.
use mathlib.Core.Path.{◌≡◌, ◌∙◌}
use mathlib.Core.List.{List}
use Prim.Native.Nat.{ℕ, ◌≤◌}
use native.Mathlib.Omega.{arith}
use lib.ListN.{length}
use Rattle.geometry.specs.Layout.{most_leaf, most_branch}
use Rattle.shape.specs.Sizes.{one_to_a_byte, most}
use Rattle.pool.specs.Blocks.{form_of, entries}
use Rattle.pool.specs.Sound.{SoundBlock}
use Rattle.pool_blocks.specs.Contents.{LeafAt, BranchAt}
use Rattle.pool_entries.proofs.Levels.{at_leaf, at-branch}

-- as many entries as it has are enough
pub block-least : {p : List ℕ} {few fewest h b : ℕ} → fewest ≤ entries p b → SoundBlock p few h b → SoundBlock p fewest h b
block-least enough block = record { inside = block.inside; form = block.form; enough = enough; fits = block.fits }

-- it has so many entries now, and its form is as before
pub block_written : {p q : List ℕ} {few fewest h b many : ℕ} → SoundBlock p few h b → length q ≡ length p → form_of q b ≡ form_of p b → entries q b ≡ many
    → fewest ≤ many → many ≤ most one_to_a_byte h → SoundBlock q fewest h b
block_written block long form size enough fits =
    record { inside = omega (arith, block.inside, long); form = form ∙ block.form; enough = omega (arith, size, enough); fits = omega (arith, size, fits) }

module _ (p : List ℕ) (few level b : ℕ) (block : SoundBlock p few level b) where
  pub leaf-at : level ≡ 0 → LeafAt p b
  leaf-at leaf = record { inside = block.inside; fits = at_leaf (λ l. SoundBlock p few l b → entries p b ≤ most_leaf) level leaf (λ block. block.fits) block }

  pub branch-most : (level ≡ 0 → ⊥) → entries p b ≤ most_branch
  branch-most branch = at-branch (λ l d. SoundBlock p few l b → entries p b ≤ most_branch) level branch (λ h block. block.fits) block

  pub branch-at : (level ≡ 0 → ⊥) → BranchAt p b
  branch-at branch = record { inside = block.inside; fits = branch-most branch }
