-- One step down, at a branch of level suc h: the child that was chosen by what the entries tell takes the place, so the answer is the child's
-- at what is left of the place, behind what the children before it add.
use mathlib.Core.Path.{◌≡◌, sym, ap, ap₂, ◌∙◌}
use mathlib.Core.List.{List, ◌∷◌, ◌++◌}
use Prim.Native.Nat.{ℕ, suc, ◌+◌, ◌-◌, ◌*◌, ◌≤◌, ◌<◌}
use native.Mathlib.Nat.{add_assoc}
use native.Mathlib.Omega.{arith}
use lib.ListN.{length, take, drop, length-append}
use Rattle.lists.specs.Sums.{sum_below, total}
use Rattle.lists.proofs.Measures.{Additive}
use Rattle.pool.proofs.Trees.{shape-around, told-before}
use Rattle.pool_entries.proofs.SeatedChildren.{seated-takes, seated-total}
use Rattle.pool_entries.specs.Summaries.{words_at}
use Rattle.geometry.specs.Layout.{entry_marks_at, entry_counts_at, word_size}
use Rattle.geometry.specs.Limits.{most_alphabet}
use Rattle.pool.specs.Blocks.{entries, link}
use Rattle.pool.specs.Trees.{shape_at}
use Rattle.sequence.specs.Definition1.{count, access, rank, select}
use Rattle.shape.specs.Level.{Takes}
use Rattle.shape.specs.Nested.{Node, flat, marks_in}
use Rattle.sequence.proofs.Counts.{count-additive}
use Rattle.shape.specs.Nested.{Node, flat, marks_in}
use Rattle.shape.proofs.Steps.{access-takes, rank-takes, select-takes}
use Rattle.tree_query.specs.Good.{Good}
use Rattle.pool_entries.specs.Seats.{Seated}
use Rattle.pool_entries.specs.declared.Seat.{Seat}

module _ (p : List ℕ) (h b : ℕ) (good : Good p (suc h) b) where
  pub told-marks : (k : ℕ) → k < entries p b → words_at p b entry_marks_at k ≡ marks_in h (shape_at p h (link p b k))
  told-marks k inside = (good.1 k inside).1.marks

  pub told-count : (c : ℕ) → c < most_alphabet → (k : ℕ) → k < entries p b → words_at p b (entry_counts_at + word_size * c) k ≡ count c (flat h (shape_at p h (link p b k)))
  told-count c low k inside = rw (← add_assoc) ((good.1 k inside).1.counts c low)

-- The child's answer, behind what the children before it add by another measure.
module _ (p : List ℕ) (h b : ℕ) (μ ν : List ℕ → ℕ) (additive : Additive μ) (additiveν : Additive ν) (m n : ℕ → ℕ)
    (tells : (k : ℕ) → k < entries p b → m k ≡ μ (flat h (shape_at p h (link p b k))))
    (tellsν : (k : ℕ) → k < entries p b → n k ≡ ν (flat h (shape_at p h (link p b k))))
    (i : ℕ) (r : Seat) (seated : Seated m (entries p b) i r) (within : i ≤ μ (flat (suc h) (shape_at p (suc h) b)))
    (answer : List ℕ → ℕ → ℕ) (behind : ℕ → ℕ → ℕ) where
  one-step : ((before : List (Node h)) (x : Node h) (after : List (Node h)) → Takes (λ y. μ (flat h y)) i before x after → i ≤ μ (flat (suc h) (before ++ x ∷ after))
      → answer (flat (suc h) (before ++ x ∷ after)) i ≡ behind (total (λ y. ν (flat h y)) before) (answer (flat h x) (i - total (λ y. μ (flat h y)) before)))
      → answer (flat (suc h) (shape_at p (suc h) b)) i ≡ behind (sum_below r.k n) (answer (flat h (shape_at p h (link p b r.k))) (i - r.before))
  one-step takes =
      let xs : Node (suc h) = shape_at p (suc h) b in
      let x : Node h = shape_at p h (link p b r.k) in
      let around = shape-around p h b r.k seated.inside in
      ap (λ (y : Node (suc h)). answer (flat (suc h) y) i) around
      ∙ takes (take r.k xs) x (drop (suc r.k) xs) (seated-takes p h b μ additive m tells i r seated) (rw around at within)
      ∙ ap₂ (λ (u v : ℕ). behind u (answer (flat h x) (i - v)))
      (sym (told-before p h b ν additiveν n tellsν r.k (omega (arith, seated.inside))))
      (seated-total p h b μ additive m tells i r seated)

module _ (p : List ℕ) (h b : ℕ) (good : Good p (suc h) b) where
  -- by marks: access and rank
  module _ (i : ℕ) (r : Seat) (seated : Seated (words_at p b entry_marks_at) (entries p b) i r) (place : i ≤ marks_in (suc h) (shape_at p (suc h) b)) where
    pub access-step : 1 ≤ i → access (flat (suc h) (shape_at p (suc h) b)) i ≡ access (flat h (shape_at p h (link p b r.k))) (i - r.before)
    access-step one =
        let told = told-marks p h b good in
        one-step p h b length length length-append length-append _ _ told told i r seated place access (λ m n. n)
        (λ before x after t within. access-takes h i before x after t within one)

    -- the c of the children before it and those of the child
    pub rank_step : (c : ℕ) → c < most_alphabet
        → rank c (flat (suc h) (shape_at p (suc h) b)) i ≡ sum_below r.k (words_at p b (entry_counts_at + word_size * c)) + rank c (flat h (shape_at p h (link p b r.k))) (i - r.before)
    rank_step c low =
        one-step p h b length (count c) length-append (count-additive c) _ _ (told-marks p h b good) (told-count p h b good c low) i r seated place (rank c) (λ m n. m + n)
        (λ before x after t within. rank-takes h i before x after t within c)

  -- by the count of c: select, behind the marks of the children before it
  module _ (c : ℕ) (low : c < most_alphabet) (j : ℕ) (r : Seat) (seated : Seated (words_at p b (entry_counts_at + word_size * c)) (entries p b) j r) where
    pub select-step : 1 ≤ j → j ≤ count c (flat (suc h) (shape_at p (suc h) b))
        → select c (flat (suc h) (shape_at p (suc h) b)) j ≡ sum_below r.k (words_at p b entry_marks_at) + select c (flat h (shape_at p h (link p b r.k))) (j - r.before)
    select-step one within =
        one-step p h b (count c) length (count-additive c) length-append _ _ (told-count p h b good c low) (told-marks p h b good) j r seated within (select c) (λ m n. m + n)
        (λ before x after t within. select-takes c h j before x after t one within)
