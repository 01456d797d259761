-- A short child mended with its neighbour, the second if it is the first child, else the one before it. Go down the list by twos.
use mathlib.Core.Path.{◌≡◌, refl, ap, ◌∙◌}
use mathlib.Core.List.{List, [], ◌∷◌, ◌++◌, append_assoc}
use Prim.Native.Nat.{ℕ, ◌≤◌, ◌<◌}
use native.Mathlib.Omega.{arith}
use lib.ListN.{length}
use Rattle.lists.proofs.Joins.{joined-append}
use Rattle.lists.specs.Items.{All}
use Rattle.lists.specs.Joins.{joined}
use Rattle.shape.specs.Level.{chop, shorter, mend}
use Rattle.shape.proofs.Choice.{by-leb, cond-le, cond-lt}
use Rattle.shape.proofs.Chop.{joined-chop}

module _ {A : Type 0} (least most : ℕ) where
  pub mend-none : (xs : List (List A)) → All (λ x. least ≤ length x) xs → mend least most xs ≡ xs
  unfolding mend
  mend-none [] p = refl
  mend-none (x ∷ []) p = refl
  mend-none (x ∷ y ∷ ys) p =
      cond-le least (shorter x y) _ _ (omega (arith, p.0, p.1.0)) ∙ ap {B = List (List A)} (λ zs. x ∷ zs) (mend-none (y ∷ ys) p.1)

  -- the first child is short, and has no left neighbour
  pub mend-first : (x y : List A) (after : List (List A)) → length x < least → mend least most (x ∷ y ∷ after) ≡ chop most (x ++ y) ++ after
  unfolding mend
  mend-first x y after h = cond-lt least (shorter x y) _ _ (omega arith)

  -- a child with a left neighbour is short
  pub mend-left : (before : List (List A)) (x y : List A) (after : List (List A)) → All (λ z. least ≤ length z) before → least ≤ length x → length y < least
      → mend least most (before ++ x ∷ y ∷ after) ≡ before ++ (chop most (x ++ y) ++ after)
  unfolding mend
  mend-left [] x y after p hx hy = cond-lt least (shorter x y) _ _ (omega arith)
  mend-left (b ∷ []) x y after p hx hy =
      cond-le least (shorter b x) _ _ (omega (arith, p.0)) ∙ ap {B = List (List A)} (λ zs. b ∷ zs) (mend-left [] x y after tt hx hy)
  mend-left (b ∷ c ∷ before) x y after p hx hy =
      cond-le least (shorter b c) _ _ (omega (arith, p.0, p.1.0)) ∙ ap {B = List (List A)} (λ zs. b ∷ zs) (mend-left (c ∷ before) x y after p.1 hx hy)

  -- no mark is lost or moved
  pub joined-mend : (f : List A → List ℕ) → ((ys zs : List A) → f (ys ++ zs) ≡ f ys ++ f zs) → (xs : List (List A)) → joined f (mend least most xs) ≡ joined f xs
  unfolding mend
  joined-mend f appends [] = refl
  joined-mend f appends (x ∷ []) = refl
  joined-mend f appends (x ∷ y ∷ ys) =
      by-leb (λ zs. joined f zs ≡ f x ++ (f y ++ joined f ys)) least (shorter x y) _ _
      (λ _. ap (λ zs. f x ++ zs) (joined-mend f appends (y ∷ ys)))
      (λ _. joined-append f (chop most (x ++ y)) ys ∙ ap (λ zs. zs ++ joined f ys) (joined-chop most (x ++ y) f appends ∙ appends x y) ∙ append_assoc (f x) (f y) (joined f ys))
