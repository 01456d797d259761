-- Measures of lists that add up over a seam: how many items, how many c. What holds of both is stated once, over any such measure.
use mathlib.Core.Path.{◌≡◌, sym, ap, ◌∙◌}
use mathlib.Core.List.{List, [], ◌∷◌, ◌++◌}
use Prim.Native.Nat.{ℕ, suc, ◌+◌, ◌-◌, ◌≤◌, ◌<◌}
use native.Mathlib.Nat.{add-sub_of_le}
use native.Mathlib.Omega.{arith}
use lib.ListN.{length, get_or, take, drop, take-append-drop}
use lib.Seq.{take-suc, take-append-le, take-append-add, take-add, drop-drop}

-- μ of two lists joined is the sum of both; so is length, by length-append
abbrev pub Additive : {A : Type 0} → (List A → ℕ) → Type 0
Additive {A} μ = (xs ys : List A) → μ (xs ++ ys) ≡ μ xs + μ ys

module _ (μ : List ℕ → ℕ) (additive : Additive μ) where
  pub measure-nil : μ [] ≡ 0
  measure-nil = omega (arith, additive [] [])

  pub measure-parts : (i : ℕ) (xs : List ℕ) → μ (take i xs) + μ (drop i xs) ≡ μ xs
  measure-parts i xs = sym (additive (take i xs) (drop i xs)) ∙ ap μ (take-append-drop i xs)

  pub measure-take-le : (i : ℕ) (xs : List ℕ) → μ (take i xs) ≤ μ xs
  measure-take-le i xs = omega (arith, measure-parts i xs)

  -- the first b marks are the first a and the stretch from there to b
  pub measure-stretch : (xs : List ℕ) (a b : ℕ) → a ≤ b → μ (take b xs) ≡ μ (take a xs) + μ (take (b - a) (drop a xs))
  measure-stretch xs a b h =
      ap (λ (k : ℕ). μ (take k xs)) (sym (add-sub_of_le h)) ∙ ap μ (take-add a (b - a) xs)
      ∙ additive (take a xs) (take (b - a) (drop a xs))

  -- a stretch from a to e, cut at b
  pub measure-stretches : (xs : List ℕ) (a b e : ℕ) → a ≤ b → b ≤ e
      → μ (take (e - a) (drop a xs)) ≡ μ (take (b - a) (drop a xs)) + μ (take (e - b) (drop b xs))
  measure-stretches xs a b e h k =
      let to-b : a + (b - a) ≡ b = omega arith in
      let rest : e - a - (b - a) ≡ e - b = omega arith in
      rw (rest, drop-drop, to-b) at (measure-stretch (drop a xs) (b - a) (e - a) (omega arith))

  pub measure-monotone : (xs : List ℕ) (a b : ℕ) → a ≤ b → μ (take a xs) ≤ μ (take b xs)
  measure-monotone xs a b h = omega (arith, measure-stretch xs a b h)

  -- one place more
  pub measure-step : (xs : List ℕ) (i : ℕ) → i < length xs → μ (take (suc i) xs) ≡ μ (take i xs) + μ (get_or xs i 0 ∷ [])
  measure-step xs i h = ap μ (take-suc xs i 0 h) ∙ additive (take i xs) (get_or xs i 0 ∷ [])

  -- the first i marks across a seam
  pub measure-left : (xs ys : List ℕ) (i : ℕ) → i ≤ length xs → μ (take i (xs ++ ys)) ≡ μ (take i xs)
  measure-left xs ys i h = ap μ (take-append-le i xs ys h)

  pub measure-right : (xs ys : List ℕ) (i : ℕ) → length xs ≤ i → μ (take i (xs ++ ys)) ≡ μ xs + μ (take (i - length xs) ys)
  measure-right xs ys i h =
      ap (λ (k : ℕ). μ (take k (xs ++ ys))) (sym (add-sub_of_le h)) ∙ ap μ (take-append-add xs ys (i - length xs))
      ∙ additive xs (take (i - length xs) ys)

  -- and in the middle list of three
  pub measure-middle : (xs ys zs : List ℕ) (i : ℕ) → length xs ≤ i → i ≤ length xs + length ys
      → μ (take i (xs ++ (ys ++ zs))) ≡ μ xs + μ (take (i - length xs) ys)
  measure-middle xs ys zs i past reach =
      omega (arith, measure-right xs (ys ++ zs) i past, measure-left ys zs (i - length xs) (omega arith))
