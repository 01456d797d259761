-- A node chopped into one or two. Both sides of the test are looked at; halves joined again are the whole.
use mathlib.Core.Path.{◌≡◌, sym, ap, ◌∙◌}
use mathlib.Core.List.{List, [], ◌∷◌, ◌++◌, append-nil}
use Prim.Native.Nat.{ℕ, ◌≤◌, ◌<◌}
use native.Mathlib.Omega.{arith}
use lib.ListN.{length, take, drop, take-append-drop}
use Rattle.lists.proofs.Measures.{Additive}
use Rattle.lists.specs.Joins.{joined}
use Rattle.lists.specs.Sums.{total}
use Rattle.shape.specs.Level.{middle, halves, chop}
use Rattle.shape.specs.Fill.{Within}
use Rattle.shape.proofs.Choice.{by-leb, cond-le, cond-lt}

module _ {A : Type 0} (xs : List A) where
  pub joined-halves : (f : List A → List ℕ) → ((ys zs : List A) → f (ys ++ zs) ≡ f ys ++ f zs) → joined f (halves xs) ≡ f xs
  unfolding halves
  joined-halves f appends =
      ap (λ ys. f (take (middle xs) xs) ++ ys) (append-nil (f (drop (middle xs) xs)))
      ∙ sym (appends (take (middle xs) xs) (drop (middle xs) xs)) ∙ ap f (take-append-drop (middle xs) xs)

  pub total-halves : (f : List A → ℕ) → Additive f → total f (halves xs) ≡ f xs
  unfolding halves
  total-halves f additive = omega (arith, additive (take (middle xs) xs) (drop (middle xs) xs), ap f (take-append-drop (middle xs) xs))

module _ {A : Type 0} (most : ℕ) (xs : List A) where
  -- a node that fits stays whole
  pub chop-fits : length xs ≤ most → chop most xs ≡ xs ∷ []
  unfolding chop
  chop-fits h = cond-le (length xs) most _ _ h

  -- one that does not becomes its halves
  pub chop-halves : most < length xs → chop most xs ≡ halves xs
  unfolding chop
  chop-halves h = cond-lt (length xs) most _ _ h

  -- what holds of the whole alone, and of the halves, holds of the pieces
  pub by-chop : (P : List (List A) → Type 0) → (length xs ≤ most → P (xs ∷ [])) → (most < length xs → P (halves xs)) → P (chop most xs)
  unfolding chop
  by-chop P whole two = by-leb P (length xs) most _ _ whole two

  -- no mark is lost or moved
  pub joined-chop : (f : List A → List ℕ) → ((ys zs : List A) → f (ys ++ zs) ≡ f ys ++ f zs) → joined f (chop most xs) ≡ f xs
  joined-chop f appends = by-chop (λ ps. joined f ps ≡ f xs) (λ _. append-nil (f xs)) (λ _. joined-halves xs f appends)

  -- a sum over the entries is the sum over the pieces
  pub total-chop : (f : List A → ℕ) → Additive f → total f (chop most xs) ≡ f xs
  total-chop f additive = by-chop (λ ps. total f ps ≡ f xs) (λ _. omega arith) (λ _. total-halves xs f additive)

  pub chop-one-or-two : Within 1 2 (length (chop most xs))
  unfolding halves
  chop-one-or-two = by-chop (λ ps. Within 1 2 (length ps)) (λ _. omega arith) (λ _. omega arith)
