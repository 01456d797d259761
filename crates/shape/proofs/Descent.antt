-- Going down by any additive measure comes to the leaf that takes the place.
use mathlib.Core.Path.{◌≡◌, sym, subst, ◌∙◌}
use mathlib.Core.List.{List, [], ◌∷◌, ◌++◌, append_assoc, append-nil}
use Prim.Native.Nat.{ℕ, zero, suc, ◌+◌, ◌-◌, ◌≤◌}
use native.Mathlib.Omega.{arith}
use lib.ListN.{length}
use lib.Seq.{take-append_seam, get_or-append_seam}
use Rattle.lists.proofs.Cuts.{drop-suc-seam}
use Rattle.lists.proofs.Joins.{joined-append}
use Rattle.lists.proofs.Measures.{Additive, measure-nil}
use Rattle.lists.proofs.Sums.{total-joined}
use Rattle.lists.specs.Joins.{joined}
use Rattle.lists.specs.Sums.{total}
use Rattle.shape.specs.Nested.{Node, flat}
use Rattle.shape.specs.Level.{Takes, seat, rest, chosen}
use Rattle.shape.specs.Paths.{Leads, path, leaf_at, left_of, right_of}
use Rattle.shape.proofs.Nested.{flat-nil}
use Rattle.shape.proofs.Seat.{by-taker, seat-takes, rest-takes, chosen-takes, takes-past, takes-within}

-- One level, at the children before, the child and the children after.
module _ (h : ℕ) (before : List (Node h)) (x : Node h) (after : List (Node h)) (p : List ℕ) where
  left_of-level : left_of (suc h) (length before ∷ p) (before ++ x ∷ after) ≡ joined (flat h) before ++ left_of h p x
  unfolding left_of
  left_of-level = rw (take-append_seam, get_or-append_seam)

  leaf_at-level : leaf_at (suc h) (length before ∷ p) (before ++ x ∷ after) ≡ leaf_at h p x
  unfolding leaf_at
  leaf_at-level = rw get_or-append_seam

  right_of-level : right_of (suc h) (length before ∷ p) (before ++ x ∷ after) ≡ right_of h p x ++ joined (flat h) after
  unfolding right_of
  right_of-level = rw (get_or-append_seam, drop-suc-seam)

pub path-takes : (g : List ℕ → ℕ) (h j : ℕ) (before : List (Node h)) (x : Node h) (after : List (Node h)) → Takes (λ y. g (flat h y)) j before x after
    → path g (suc h) j (before ++ x ∷ after) ≡ length before ∷ path g h (j - total (λ y. g (flat h y)) before) x
unfolding path
path-takes g h j before x after t =
    rw (seat-takes (λ y. g (flat h y)) j before x after t, rest-takes (λ y. g (flat h y)) j before x after t, chosen-takes (λ y. g (flat h y)) j before x after t)

module _ (g : List ℕ → ℕ) (additive : Additive g) where
  leads-level : (h j : ℕ) (before : List (Node h)) (x : Node h) (after : List (Node h)) (p : List ℕ) → Takes (λ y. g (flat h y)) j before x after
      → Leads g h (j - total (λ y. g (flat h y)) before) p x → Leads g (suc h) j (length before ∷ p) (before ++ x ∷ after)
  leads-level h j before x after p t l =
      let sum : total (λ y. g (flat h y)) before ≡ g (joined (flat h) before) = total-joined g additive (flat h) before in
      let all : g (joined (flat h) before ++ left_of h p x) ≡ g (joined (flat h) before) + g (left_of h p x) = additive (joined (flat h) before) (left_of h p x) in
      let past : g (left_of h p x) ≤ j - total (λ y. g (flat h y)) before - 1 = l.past in
      record {
        marks = rw (left_of-level h before x after p, leaf_at-level h before x after p, right_of-level h before x after p, joined-append (flat h) before (x ∷ after), l.marks) (simp append_assoc);
        past = rw (left_of-level h before x after p) (omega (arith, takes-past (flat h) g additive j before x after t));
        within = λ (m : j ≤ g (joined (flat h) (before ++ x ∷ after))).
            rw (left_of-level h before x after p, leaf_at-level h before x after p)
            (omega (
              arith,
              takes-past (flat h) g additive j before x after t,
              l.within (omega (arith, takes-within (flat h) g additive j before x after t m)),
            ));
      }

  leads_empty : (h j : ℕ) (p : List ℕ) → Leads g h (j - 0) p [] → Leads g (suc h) j (0 ∷ p) []
  unfolding left_of leaf_at right_of
  leads_empty h j p l = record {
    marks = rw append-nil (sym (flat-nil h) ∙ l.marks);
    past = omega (arith, l.past);
    within = λ (m : j ≤ g []). omega (arith, measure-nil g additive, l.past);
  }

  pub path-leads : (h j : ℕ) (x : Node h) → Leads g h j (path g h j x) x
  unfolding path left_of leaf_at right_of seat rest chosen
  path-leads zero j x = record { marks = sym (append-nil x); past = omega (arith, measure-nil g additive); within = λ (m : j ≤ g x). omega arith }
  path-leads (suc h) j [] = leads_empty h j (path g h (j - 0) []) (path-leads h (j - 0) [])
  path-leads (suc h) j (y ∷ ys) =
      by-taker (λ z. g (flat h z)) j (y ∷ ys) (λ xs. Leads g (suc h) j (path g (suc h) j xs) xs)
      (λ before x after t. subst (λ p. Leads g (suc h) j p (before ++ x ∷ after)) (sym (path-takes g h j before x after t))
      (leads-level h j before x after (path g h (j - total (λ z. g (flat h z)) before) x) t (path-leads h (j - total (λ z. g (flat h z)) before) x)))
      (omega arith)
