-- A full leaf split by an insert, as code does it in place: cut first, then insert into the half that takes the place.
use mathlib.Core.Path.{◌≡◌, ap, ap₂, ◌∙◌}
use mathlib.Core.List.{List, [], ◌∷◌}
use Prim.Native.Nat.{ℕ, zero, ◌+◌, ◌-◌, ◌≤◌, ◌<◌}
use native.Mathlib.Omega.{arith}
use lib.ListN.{length, take, drop}
use Rattle.sequence.specs.Definition1.{insert}
use Rattle.sequence.proofs.Edits.{length-insert, take-insert-before, take-insert-after, drop-insert-before, drop-insert-after}
use Rattle.shape.specs.Sizes.{Sizes, Proper, most}
use Rattle.shape.specs.Level.{middle, halves}
use Rattle.shape.specs.Trees.{insert_node}
use Rattle.shape.proofs.Chop.{chop-halves}

-- The two pieces of a full leaf, each with the least entries.
module _ (s : Sizes) (proper : Proper s) (c i : ℕ) (xs : List ℕ) (full : length xs ≡ s.leaf_most) where
  full-halves : insert_node s c zero i xs ≡ take s.leaf_least (insert c i xs) ∷ drop s.leaf_least (insert c i xs) ∷ []
  unfolding insert_node halves
  full-halves =
      let long : length (insert c i xs) ≡ length xs + 1 = length-insert c i xs in
      let e : middle (insert c i xs) ≡ s.leaf_least = omega (arith, proper.leaf_halves) in
      chop-halves (most s zero) (insert c i xs) (omega arith) ∙ ap (λ m. take m (insert c i xs) ∷ drop m (insert c i xs) ∷ []) e

  pub full-leaf-low : 1 ≤ i → i ≤ s.leaf_least → insert_node s c zero i xs ≡ insert c i (take (s.leaf_least - 1) xs) ∷ drop (s.leaf_least - 1) xs ∷ []
  full-leaf-low one low =
      let within : i ≤ length xs + 1 = omega (arith, proper) in
      full-halves ∙ ap₂ (λ a b. a ∷ b ∷ []) (take-insert-after c i xs one within s.leaf_least low) (drop-insert-after c i xs one within s.leaf_least low)

  pub full-leaf-high : s.leaf_least < i → insert_node s c zero i xs ≡ take s.leaf_least xs ∷ insert c (i - s.leaf_least) (drop s.leaf_least xs) ∷ []
  full-leaf-high high =
      let within : s.leaf_least ≤ length xs = omega (arith, proper) in
      full-halves ∙ ap₂ (λ a b. a ∷ b ∷ []) (take-insert-before c i s.leaf_least xs high within) (drop-insert-before c i s.leaf_least xs high within)
