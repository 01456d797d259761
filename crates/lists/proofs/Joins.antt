-- Lists joined, item by item. Go down the list.
use mathlib.Core.Path.{◌≡◌, refl, sym, ap, ap₂, ◌∙◌}
use mathlib.Core.List.{List, [], ◌∷◌, ◌++◌, map, append_assoc}
use Prim.Native.Nat.{ℕ}
use Rattle.lists.specs.Items.{All}
use Rattle.lists.specs.Joins.{joined}
use Rattle.lists.proofs.Items.{all_append, all_left, all_right}

module _ {A : Type 0} where
  pub joined-append : (f : A → List ℕ) (xs ys : List A) → joined f (xs ++ ys) ≡ joined f xs ++ joined f ys
  joined-append f [] ys = refl
  joined-append f (x ∷ xs) ys = ap (λ zs. f x ++ zs) (joined-append f xs ys) ∙ sym (append_assoc (f x) (joined f xs) (joined f ys))

  pub joined_same : (f g : A → List ℕ) (xs : List A) → All (λ x. f x ≡ g x) xs → joined f xs ≡ joined g xs
  joined_same f g [] p = refl
  joined_same f g (x ∷ xs) p = ap₂ (λ a b. a ++ b) p.0 (joined_same f g xs p.1)

  -- what holds of all that the items give holds of each item's list, and the other way round
  pub all-joined : (P : ℕ → Type 0) (f : A → List ℕ) (xs : List A) → All (λ x. All P (f x)) xs → All P (joined f xs)
  all-joined P f [] p = tt
  all-joined P f (x ∷ xs) p = all_append P (f x) (joined f xs) p.0 (all-joined P f xs p.1)

  pub joined-all : (P : ℕ → Type 0) (f : A → List ℕ) (xs : List A) → All P (joined f xs) → All (λ x. All P (f x)) xs
  joined-all P f [] p = tt
  joined-all P f (x ∷ xs) p = (all_left P (f x) (joined f xs) p, joined-all P f xs (all_right P (f x) (joined f xs) p))

pub joined-map : {A B : Type 0} (f : B → List ℕ) (g : A → B) (xs : List A) → joined f (map g xs) ≡ joined (λ x. f (g x)) xs
joined-map f g [] = refl
joined-map f g (x ∷ xs) = ap (λ ys. f (g x) ++ ys) (joined-map f g xs)
