-- The pieces that a node is chopped into, item by item.
use mathlib.Core.Path.{◌≡◌, sym, ap, ap₂, ◌∙◌}
use mathlib.Core.Bool.{Bool, true, false, cond, ◌&&◌}
use mathlib.Core.List.{List, [], ◌∷◌, map}
use Prim.Native.Nat.{ℕ, suc, ◌+◌, ◌/◌, ◌≤◌, ◌<◌}
use native.Mathlib.Omega.{arith}
use lib.Dec.{leb}
use lib.ListN.{length, length-map, length-take, length-drop}
use Rattle.std.specs.Prelude.{Option, None, Some}
use Rattle.geometry.specs.Layout.{least_branch, most_branch}
use Rattle.lists.proofs.Items.{all_take, all_drop}
use Rattle.lists.proofs.Mapped.{map-drop, map-take}
use Rattle.lists.specs.Items.{All}
use Rattle.shape.proofs.Choice.{by-leb}
use Rattle.shape.proofs.Chop.{by-chop, chop-fits, chop-halves}
use Rattle.shape.specs.Fill.{Within}
use Rattle.shape.specs.Level.{middle, halves, chop}
use Rattle.tree_splits.specs.Inserts.{added, least_after}

module _ {A B : Type 0} (f : A → B) where
  map-halves : (xs : List A) → map (map f) (halves xs) ≡ halves (map f xs)
  unfolding halves
  map-halves xs =
      let e : middle (map f xs) ≡ middle xs = ap (λ n. n / 2) (length-map xs f) in
      rw e (ap₂ (λ x y. x ∷ y ∷ []) (map-take f (middle xs) xs) (map-drop f (middle xs) xs))

  -- each item of the pieces mapped
  pub map-chop : (most : ℕ) (xs : List A) → map (map f) (chop most xs) ≡ chop most (map f xs)
  map-chop most xs =
      by-chop most xs (λ ps. map (map f) ps ≡ chop most (map f xs))
      (λ (fits : length xs ≤ most). sym (chop-fits most (map f xs) (omega (arith, length-map xs f))))
      (λ (more : most < length xs). map-halves xs ∙ sym (chop-halves most (map f xs) (omega (arith, length-map xs f))))

module _ {A : Type 0} where
  pub all-chop : (P : A → Type 0) (most : ℕ) (xs : List A) → All P xs → All (All P) (chop most xs)
  unfolding halves
  all-chop P most xs p =
      by-chop most xs (λ ps. All (All P) ps) (λ _. (p, tt)) (λ _. (all_take P (middle xs) xs p, (all_drop P (middle xs) xs p, tt)))

  -- how long the pieces of a branch are that got one entry more at most
  pub chop-sizes : (h fewest : ℕ) (g : Option ℕ) (xs : List A) → fewest ≤ length xs → length xs ≤ most_branch + 1 → length (chop most_branch xs) ≡ suc (added g)
      → All (λ ys. Within (least_after g (suc h) fewest) most_branch (length ys)) (chop most_branch xs)
  unfolding halves
  chop-sizes h fewest (Some new) xs low high two =
      by-chop most_branch xs (λ ps. length ps ≡ 2 → All (λ ys. Within least_branch most_branch (length ys)) ps)
      (λ fits (e : 1 ≡ 2). absurd (omega arith))
      (λ more e. (omega (arith, length-take (middle xs) xs), (omega (arith, length-drop (middle xs) xs), tt))) two
  chop-sizes h fewest None xs low high one =
      by-chop most_branch xs (λ ps. length ps ≡ 1 → All (λ ys. Within fewest most_branch (length ys)) ps)
      (λ fits e. (omega arith, tt))
      (λ more (e : 2 ≡ 1). absurd (omega arith)) one

-- a branch that gets one entry more where its child is split has room for it, or there is a free block
pub room-step : (g : Option ℕ) (d : Bool) (many free : ℕ) → many ≤ most_branch → added g ≡ cond d 1 0 → cond (d && leb most_branch many) 1 0 ≤ free
    → many + added g ≤ most_branch + free
room-step g true many free fits e room =
    by-leb (λ (z : ℕ). z ≤ free → many + added g ≤ most_branch + free) most_branch many 1 0 (λ full r. omega arith) (λ less r. omega arith) room
room-step g false many free fits e room = omega arith
