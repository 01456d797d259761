-- The child that was chosen by what the entries tell takes the place: so what is left of the place is in its range, and the way down goes on
-- from it.
use mathlib.Core.Path.{◌≡◌, sym, ap, ap₂, ◌∙◌}
use mathlib.Core.List.{List, ◌∷◌}
use Prim.Native.Nat.{ℕ, suc, ◌-◌, ◌≤◌, ◌<◌, min}
use native.Mathlib.Omega.{arith}
use lib.ListN.{length, take, drop, length-append, length-take}
use Rattle.lists.proofs.Measures.{Additive}
use Rattle.lists.specs.Sums.{total}
use Rattle.pool.specs.Blocks.{entries, link}
use Rattle.pool.specs.Trees.{shape_at, path_at, entered}
use Rattle.shape.specs.Fill.{Within}
use Rattle.shape.specs.Level.{Takes, seat, rest, chosen}
use Rattle.shape.specs.Nested.{Node, flat, marks_in}
use Rattle.shape.specs.Paths.{path}
use Rattle.shape.proofs.Seat.{seat-takes, rest-takes, chosen-takes}
use Rattle.shape.proofs.Steps.{takes-range}
use Rattle.pool.proofs.Trees.{length-shape, shape-around, told-before, told-takes}
use Rattle.pool_entries.specs.Seats.{Seated}
use Rattle.pool_entries.specs.declared.Seat.{Seat}

-- By any measure that the entries tell.
module _ (p : List ℕ) (h b : ℕ) (μ : List ℕ → ℕ) (additive : Additive μ) (m : ℕ → ℕ) (told : (k : ℕ) → k < entries p b → m k ≡ μ (flat h (shape_at p h (link p b k))))
    (i : ℕ) (r : Seat) (seated : Seated m (entries p b) i r) where
  -- the chosen child takes i
  pub seated-takes : Takes (λ y. μ (flat h y)) i (take r.k (shape_at p (suc h) b)) (shape_at p h (link p b r.k)) (drop (suc r.k) (shape_at p (suc h) b))
  seated-takes =
      told-takes p h b μ additive m told i r.k seated.inside (λ some. omega (arith, seated.past some, seated.sum)) (λ more. omega (arith, seated.reach more, seated.sum))

  -- what stands before it
  pub seated-total : total (λ y. μ (flat h y)) (take r.k (shape_at p (suc h) b)) ≡ r.before
  seated-total = sym (seated.sum ∙ told-before p h b μ additive m told r.k (omega (arith, seated.inside)))

  -- what is left of i is in its range
  pub seated-range : i ≤ μ (flat (suc h) (shape_at p (suc h) b)) → Within (min i 1) (μ (flat h (shape_at p h (link p b r.k)))) (i - r.before)
  seated-range within =
      let range = takes-range μ additive h i (take r.k (shape_at p (suc h) b)) (shape_at p h (link p b r.k)) (drop (suc r.k) (shape_at p (suc h) b)) seated-takes
      (rw (shape-around p h b r.k seated.inside) at within) in
      record { enough = omega (arith, range.enough, seated-total); fits = omega (arith, range.fits, seated-total) }

-- By marks: the way down enters this block, and goes on from the chosen child.
pub seated-path : (p : List ℕ) (h b : ℕ) (m : ℕ → ℕ) → ((k : ℕ) → k < entries p b → m k ≡ marks_in h (shape_at p h (link p b k)))
    → (i : ℕ) (r : Seat) → Seated m (entries p b) i r → path_at p (suc h) i b ≡ b ∷ path_at p h (i - r.before) (link p b r.k)
unfolding path
seated-path p h b m told i r seated =
    let xs : Node (suc h) = shape_at p (suc h) b in
    let before : List (Node h) = take r.k xs in
    let x : Node h = shape_at p h (link p b r.k) in
    let after : List (Node h) = drop (suc r.k) xs in
    let takes = seated-takes p h b length length-append m told i r seated in
    let around = shape-around p h b r.k seated.inside in
    let number : seat (marks_in h) i xs ≡ r.k
    = ap (seat (marks_in h) i) around ∙ seat-takes (marks_in h) i before x after takes ∙ omega (arith, length-take r.k xs, length-shape p h b, seated.inside) in
    let left : rest (marks_in h) i xs ≡ i - r.before
    = ap (rest (marks_in h) i) around ∙ rest-takes (marks_in h) i before x after takes
    ∙ ap (λ (n : ℕ). i - n) (seated-total p h b length length-append m told i r seated) in
    let child : chosen (marks_in h) i xs ≡ x = ap (chosen (marks_in h) i) around ∙ chosen-takes (marks_in h) i before x after takes in
    ap (λ (k : ℕ). b ∷ entered p (link p b k) (path length h (rest (marks_in h) i xs) (chosen (marks_in h) i xs))) number
    ∙ ap₂ (λ (n : ℕ) (y : Node h). b ∷ entered p (link p b r.k) (path length h n y)) left child
