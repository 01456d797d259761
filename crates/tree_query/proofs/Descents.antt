-- The descent as the code makes it, at a level that it tested: what the calls ask, and what their answers make.
use mathlib.Core.Path.{◌≡◌, refl, sym, ap, ◌∙◌}
use mathlib.Core.List.{List}
use Prim.Native.Nat.{ℕ, suc, ◌+◌, ◌-◌, ◌*◌, ◌^◌, ◌≤◌, ◌<◌}
use native.Mathlib.Omega.{arith}
use lib.ListN.{length, length-append}
use Rattle.lists.proofs.Sums.{sum_below-one}
use Rattle.lists.specs.Sums.{sum_below}
use Rattle.lists.proofs.Measures.{Additive}
use Rattle.pool.proofs.Trees.{told-all}
use Rattle.pool_blocks.specs.Contents.{LeafAt}
use Rattle.pool_entries.proofs.Levels.{at_leaf, at-branch}
use Rattle.pool_entries.proofs.SeatedChildren.{seated-range, seated-path}
use Rattle.pool_entries.specs.Summaries.{Is, words_at}
use Rattle.geometry.specs.Layout.{entry_marks_at, entry_counts_at, word_size, least_branch, most_branch}
use Rattle.geometry.specs.Limits.{most_alphabet}
use Rattle.pool.specs.Blocks.{entries, leaf_marks, link}
use Rattle.pool.specs.Sound.{SoundBlock}
use Rattle.pool.specs.Trees.{shape_at}
use Rattle.pool.specs.Words.{word_limit}
use Rattle.sequence.specs.Definition1.{count, access, rank, select}
use Rattle.sequence.proofs.Counts.{count-additive}
use Rattle.sequence.proofs.Ranks.{rank-le-place}
use Rattle.sequence.proofs.Selects.{select-le-length}
use Rattle.shape.specs.Nested.{flat, marks_in}
use Rattle.shape.specs.Paths.{path}
use Rattle.tree_query.specs.Answers.{FoundIn}
use Rattle.tree_query.specs.Good.{Good}
use Rattle.pool_entries.specs.Seats.{Seated}
use Rattle.pool_entries.specs.declared.Seat.{Seat}
use Rattle.tree_query.proofs.Steps.{told-marks, told-count, access-step, rank_step, select-step}

-- a leaf
module _ (p : List ℕ) (level b : ℕ) (leaf : level ≡ 0) where
  pub leaf-at : Good p level b → LeafAt p b
  leaf-at = at_leaf (λ l. Good p l b → LeafAt p b) level leaf (λ good. record { inside = good.inside; fits = good.fits })

  pub leaf-place : (i : ℕ) → i ≤ marks_in level (shape_at p level b) → i ≤ length (leaf_marks p b)
  leaf-place i = at_leaf (λ l. i ≤ marks_in l (shape_at p l b) → i ≤ length (leaf_marks p b)) level leaf (λ place. place)

  pub leaf-found : (i mark before : ℕ) → mark ≡ access (leaf_marks p b) i → FoundIn p level b i mark before (before + 1)
  unfolding path
  leaf-found i mark before is = at_leaf (λ l. FoundIn p l b i mark before (before + 1)) level leaf (record { is = is; blocks = refl })

  -- its marks are the tree's
  pub leaf-flat : flat level (shape_at p level b) ≡ leaf_marks p b
  leaf-flat = at_leaf (λ l. flat l (shape_at p l b) ≡ leaf_marks p b) level leaf refl

-- a branch; its level comes by the measure t, as `Good` hides it from a search
module _ (t : ℕ) (p : List ℕ) (level b : ℕ) (at : level ≡ t) (good : Good p level b) (branch : level ≡ 0 → ⊥) where
  branch-at : SoundBlock p least_branch 1 b
  branch-at =
      at-branch (λ l d. Good p l b → SoundBlock p least_branch 1 b) level branch
      (λ h good. record { inside = good.0.inside; form = good.0.form; enough = good.0.enough; fits = good.0.fits }) good

  pub branch-least : least_branch ≤ entries p b
  branch-least = branch-at.enough

  pub branch-most : entries p b ≤ most_branch
  branch-most = branch-at.fits

-- the child that was chosen
module _ (p : List ℕ) (level b : ℕ) (good : Good p level b) (branch : level ≡ 0 → ⊥) where
  module _ (m : ℕ → ℕ) (i : ℕ) (r : Seat) (seated : Seated m (entries p b) i r) where
    module _ (child : ℕ) (linked : Is (link p b r.k) child) where
      pub child-good : Good p (level - 1) child
      child-good = at-branch (λ l d. Good p l b → Good p d child) level branch (λ h good. rw linked.is (good.1 r.k seated.inside).0) good

      -- it has no more marks than the branch
      pub child-few : (most : ℕ) → marks_in level (shape_at p level b) < most → marks_in (level - 1) (shape_at p (level - 1) child) < most
      child-few most =
          at-branch (λ l d. Good p l b → marks_in l (shape_at p l b) < most → marks_in d (shape_at p d child) < most) level branch
          (λ h good few.
          let words : ℕ → ℕ = words_at p b entry_marks_at in
          rw linked.is (omega (
            arith,
            few,
            told-all p h b length length-append words (told-marks p h b good),
            told-marks p h b good r.k seated.inside,
            sum_below-one (entries p b) words r.k seated.inside,
          ))) good

  -- By a measure that the entries tell at an offset: what is left of i is the child's, and so is the answer, behind what was passed.
  module _ (μ : List ℕ → ℕ) (additive : Additive μ) (offset : ℕ)
      (tells : (h : ℕ) → Good p (suc h) b → (k : ℕ) → k < entries p b → words_at p b offset k ≡ μ (flat h (shape_at p h (link p b k))))
      (i : ℕ) (r : Seat) (seated : Seated (words_at p b offset) (entries p b) i r) (child : ℕ) (linked : Is (link p b r.k) child)
      (within : i ≤ μ (flat level (shape_at p level b))) where
    left : i - r.before ≤ μ (flat (level - 1) (shape_at p (level - 1) child))
    left =
        at-branch (λ l d. Good p l b → i ≤ μ (flat l (shape_at p l b)) → i - r.before ≤ μ (flat d (shape_at p d child))) level branch
        (λ h good within. rw linked.is (seated-range p h b μ additive (words_at p b offset) (tells h good) i r seated within).fits) good within

    answered : (answer : List ℕ → ℕ → ℕ) (behind : ℕ → ℕ)
        → ((h : ℕ) → Good p (suc h) b → i ≤ μ (flat (suc h) (shape_at p (suc h) b))
        → answer (flat (suc h) (shape_at p (suc h) b)) i ≡ behind (answer (flat h (shape_at p h (link p b r.k))) (i - r.before)))
        → (below : ℕ) → below ≡ answer (flat (level - 1) (shape_at p (level - 1) child)) (i - r.before)
        → behind below ≡ answer (flat level (shape_at p level b)) i
    answered answer behind step below =
        at-branch
        (λ l d. Good p l b → i ≤ μ (flat l (shape_at p l b)) → below ≡ answer (flat d (shape_at p d child)) (i - r.before)
        → behind below ≡ answer (flat l (shape_at p l b)) i) level branch
        (λ h good within is. ap behind (rw linked.is at is) ∙ sym (step h good within)) good within

  -- by marks
  module _ (i : ℕ) (r : Seat) (seated : Seated (words_at p b entry_marks_at) (entries p b) i r) (child : ℕ) (linked : Is (link p b r.k) child)
      (place : i ≤ marks_in level (shape_at p level b)) where
    pub place-left : i - r.before ≤ marks_in (level - 1) (shape_at p (level - 1) child)
    place-left = left length length-append entry_marks_at (λ h good. told-marks p h b good) i r seated child linked place

    pub found_below : (mark before entered : ℕ) → 1 ≤ i → FoundIn p (level - 1) child (i - r.before) mark (before + 1) entered → FoundIn p level b i mark before entered
    found_below mark before entered one =
        at-branch
        (λ l d. Good p l b → i ≤ marks_in l (shape_at p l b) → FoundIn p d child (i - r.before) mark (before + 1) entered
        → FoundIn p l b i mark before entered) level branch
        (λ h good place below.
        let there : FoundIn p h (link p b r.k) (i - r.before) mark (before + 1) entered = rw linked.is at below in
        record {
          is = there.is ∙ sym (access-step p h b good i r seated place one);
          blocks = omega (arith, there.blocks, ap length (seated-path p h b (words_at p b entry_marks_at) (told-marks p h b good) i r seated));
        }) good place

    module _ (c : ℕ) (low : c < most_alphabet) (passed : ℕ) (summed : passed ≡ sum_below r.k (words_at p b (entry_counts_at + word_size * c))) (below : ℕ)
        (ranked : below ≡ rank c (flat (level - 1) (shape_at p (level - 1) child)) (i - r.before)) where
      pub ranked-below : passed + below ≡ rank c (flat level (shape_at p level b)) i
      ranked-below =
          answered length length-append entry_marks_at (λ h good. told-marks p h b good) i r seated child linked place (rank c) (λ n. passed + n)
          (λ h good place. rw summed (rank_step p h b good i r seated place c low)) below ranked

      -- a rank is no more than its place
      pub ranked-fits : i < 2 ^ 64 → passed + below < 2 ^ 64
      ranked-fits small = omega (arith, ranked-below, rank-le-place c (flat level (shape_at p level b)) i)

  -- by the count of c
  module _ (c : ℕ) (low : c < most_alphabet) (j : ℕ) (r : Seat) (seated : Seated (words_at p b (entry_counts_at + word_size * c)) (entries p b) j r)
      (child : ℕ) (linked : Is (link p b r.k) child) (number : j ≤ count c (flat level (shape_at p level b))) where
    pub number-left : j - r.before ≤ count c (flat (level - 1) (shape_at p (level - 1) child))
    number-left = left (count c) (count-additive c) (entry_counts_at + word_size * c) (λ h good. told-count p h b good c low) j r seated child linked number

    module _ (one : 1 ≤ j) (passed : ℕ) (summed : passed ≡ sum_below r.k (words_at p b entry_marks_at)) (below : ℕ)
        (selected : below ≡ select c (flat (level - 1) (shape_at p (level - 1) child)) (j - r.before)) where
      pub selected-below : passed + below ≡ select c (flat level (shape_at p level b)) j
      selected-below =
          answered (count c) (count-additive c) (entry_counts_at + word_size * c) (λ h good. told-count p h b good c low) j r seated child linked number (select c) (λ n. passed + n)
          (λ h good number. rw summed (select-step p h b good c low j r seated one number)) below selected

      -- a place is no more than the marks
      pub selected-fits : marks_in level (shape_at p level b) < word_limit → passed + below < 2 ^ 64
      selected-fits few = omega (arith, selected-below, select-le-length c (flat level (shape_at p level b)) j)
