-- One step down, as code makes it: at the children before, the child that takes the place and the children after.
use mathlib.Core.Path.{◌≡◌, sym, ap, ap₂, ◌∙◌}
use mathlib.Core.Bool.{cond, ◌&&◌}
use mathlib.Core.List.{List, [], ◌∷◌, ◌++◌}
use Prim.Native.Nat.{ℕ, suc, ◌+◌, ◌-◌, ◌≤◌, min}
use native.Mathlib.Omega.{arith}
use lib.Dec.{leb}
use lib.ListN.{length, take, length-append}
use Rattle.lists.proofs.Joins.{joined-append}
use Rattle.lists.proofs.Measures.{Additive, measure-middle}
use Rattle.lists.proofs.Sums.{total-joined}
use Rattle.lists.specs.Joins.{joined}
use Rattle.lists.specs.Sums.{total}
use Rattle.sequence.specs.Definition1.{count, access, rank, select}
use Rattle.sequence.proofs.Counts.{count-additive}
use Rattle.sequence.proofs.Seams.{access-middle, select-middle}
use Rattle.shape.specs.Nested.{Node, flat, marks_in}
use Rattle.shape.specs.Sizes.{Sizes, least, most}
use Rattle.shape.specs.Level.{Takes, chop, mend}
use Rattle.shape.specs.Trees.{insert_node, delete_node}
use Rattle.shape.specs.Fill.{Within}
use Rattle.shape.specs.Blocks.{divides, splits}
use Rattle.shape.proofs.Seat.{rest-takes, chosen-takes, in_child-takes, takes-past, takes-within}

-- Edits. An insert behind a child's last mark goes to the front of the next child, and to the end of a child only where it is the last.
module _ (s : Sizes) (h i : ℕ) (before : List (Node h)) (x : Node h) (after : List (Node h)) (t : Takes (marks_in h) i before x after) where
  pub insert_node-takes : (c : ℕ) → insert_node s c (suc h) i (before ++ x ∷ after) ≡ chop (most s (suc h)) (before ++ (insert_node s c h (i - total (marks_in h) before) x ++ after))
  unfolding insert_node
  insert_node-takes c = ap (chop (most s (suc h))) (in_child-takes (marks_in h) (insert_node s c h) i before x after t)

  pub delete_node-takes : delete_node s (suc h) i (before ++ x ∷ after) ≡ mend (least s h) (most s h) (before ++ delete_node s h (i - total (marks_in h) before) x ∷ after)
  unfolding delete_node
  delete_node-takes = ap (mend (least s h) (most s h)) (in_child-takes (marks_in h) (λ j y. delete_node s h j y ∷ []) i before x after t)

  pub divides-takes : divides s (suc h) i (before ++ x ∷ after) ≡ (divides s h (i - total (marks_in h) before) x && leb (most s (suc h)) (length (before ++ x ∷ after)))
  unfolding divides
  divides-takes = ap₂ (λ j y. divides s h j y && leb (most s (suc h)) (length (before ++ x ∷ after))) (rest-takes (marks_in h) i before x after t) (chosen-takes (marks_in h) i before x after t)

  pub splits-takes : splits s (suc h) i (before ++ x ∷ after) ≡ splits s h (i - total (marks_in h) before) x + cond (divides s (suc h) i (before ++ x ∷ after)) 1 0
  unfolding splits
  splits-takes = ap₂ (λ j y. splits s h j y + cond (divides s (suc h) i (before ++ x ∷ after)) 1 0) (rest-takes (marks_in h) i before x after t) (chosen-takes (marks_in h) i before x after t)

-- Queries. What is left of j is in the child's range.
module _ (g : List ℕ → ℕ) (additive : Additive g) (h j : ℕ) (before : List (Node h)) (x : Node h) (after : List (Node h)) (t : Takes (λ y. g (flat h y)) j before x after) where
  pub takes-range : j ≤ g (flat (suc h) (before ++ x ∷ after)) → Within (min j 1) (g (flat h x)) (j - total (λ y. g (flat h y)) before)
  takes-range within =
      omega (arith, takes-past (flat h) g additive j before x after t, takes-within (flat h) g additive j before x after t within, total-joined g additive (flat h) before)

module _ (h i : ℕ) (before : List (Node h)) (x : Node h) (after : List (Node h)) (t : Takes (marks_in h) i before x after) (place : i ≤ marks_in (suc h) (before ++ x ∷ after)) where
  pub access-takes : 1 ≤ i → access (flat (suc h) (before ++ x ∷ after)) i ≡ access (flat h x) (i - total (marks_in h) before)
  access-takes one =
      let past : length (joined (flat h) before) ≤ i - 1 = takes-past (flat h) length length-append i before x after t in
      ap (λ xs. access xs i) (joined-append (flat h) before (x ∷ after))
      ∙ access-middle (joined (flat h) before) (flat h x) (joined (flat h) after) i (omega arith) (takes-within (flat h) length length-append i before x after t place)
      ∙ ap (λ n. access (flat h x) (i - n)) (sym (total-joined length length-append (flat h) before))

  pub measure-takes : (g : List ℕ → ℕ) → Additive g
      → g (take i (flat (suc h) (before ++ x ∷ after))) ≡ total (λ y. g (flat h y)) before + g (take (i - total (marks_in h) before) (flat h x))
  measure-takes g additive =
      let past : length (joined (flat h) before) ≤ i - 1 = takes-past (flat h) length length-append i before x after t in
      ap (λ xs. g (take i xs)) (joined-append (flat h) before (x ∷ after))
      ∙ measure-middle g additive (joined (flat h) before) (flat h x) (joined (flat h) after) i (omega arith) (takes-within (flat h) length length-append i before x after t place)
      ∙ ap₂ (λ m n. m + g (take (i - n) (flat h x))) (sym (total-joined g additive (flat h) before)) (sym (total-joined length length-append (flat h) before))

  pub rank-takes : (c : ℕ) → rank c (flat (suc h) (before ++ x ∷ after)) i ≡ total (λ y. count c (flat h y)) before + rank c (flat h x) (i - total (marks_in h) before)
  unfolding rank
  rank-takes c = measure-takes (count c) (count-additive c)

pub select-takes : (c h j : ℕ) (before : List (Node h)) (x : Node h) (after : List (Node h)) → Takes (λ y. count c (flat h y)) j before x after
    → 1 ≤ j → j ≤ count c (flat (suc h) (before ++ x ∷ after))
    → select c (flat (suc h) (before ++ x ∷ after)) j ≡ total (marks_in h) before + select c (flat h x) (j - total (λ y. count c (flat h y)) before)
select-takes c h j before x after t one within =
    let past : count c (joined (flat h) before) ≤ j - 1 = takes-past (flat h) (count c) (count-additive c) j before x after t in
    ap (λ xs. select c xs j) (joined-append (flat h) before (x ∷ after))
    ∙ select-middle (joined (flat h) before) (flat h x) (joined (flat h) after) c j (omega arith) (takes-within (flat h) (count c) (count-additive c) j before x after t within)
    ∙ ap₂ (λ m n. m + select c (flat h x) (j - n)) (sym (total-joined length length-append (flat h) before)) (sym (total-joined (count c) (count-additive c) (flat h) before))
