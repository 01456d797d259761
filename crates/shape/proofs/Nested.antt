-- The marks of a node, where it is empty or put together.
use mathlib.Core.Path.{◌≡◌, refl}
use mathlib.Core.List.{[], ◌++◌}
use Prim.Native.Nat.{ℕ, zero, suc}
use Rattle.lists.proofs.Joins.{joined-append}
use Rattle.shape.specs.Nested.{Node, flat}

pub flat-nil : (h : ℕ) → flat h [] ≡ []
flat-nil zero = refl
flat-nil (suc h) = refl

pub flat_append : (h : ℕ) (xs ys : Node h) → flat h (xs ++ ys) ≡ flat h xs ++ flat h ys
flat_append zero xs ys = refl
flat_append (suc h) xs ys = joined-append (flat h) xs ys
