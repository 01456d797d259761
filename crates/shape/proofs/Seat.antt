-- Which child takes a place. The definition is followed item by item: i stops at the first, or goes on less what the first counts.
use mathlib.Core.Path.{◌≡◌, refl, ap, ◌∙◌}
use mathlib.Core.List.{List, [], ◌∷◌, ◌++◌}
use mathlib.Core.Logic.{⊎_elim}
use Prim.Native.Nat.{ℕ, suc, ◌+◌, ◌-◌, ◌≤◌, ◌<◌}
use native.Mathlib.Nat.{eq-zero-or-pos}
use native.Mathlib.Omega.{arith}
use lib.ListN.{length}
use lib.Seq.{take-append_seam, get_or-append_seam}
use Rattle.lists.proofs.Cuts.{drop-suc-seam}
use Rattle.lists.proofs.Measures.{Additive, measure-nil}
use Rattle.lists.proofs.Sums.{total-append, total-joined}
use Rattle.lists.specs.Joins.{joined}
use Rattle.lists.specs.Sums.{total}
use Rattle.shape.specs.Level.{Takes, seat, rest, chosen, in_child}
use Rattle.shape.proofs.Choice.{cond-le, cond-lt}

module _ {A : Type 0} (f : A → ℕ) where
  -- one item more in front, which does not take i
  takes-next : (i : ℕ) (b : A) (before : List A) (x : A) (after : List A) → f b < i → Takes f (i - f b) before x after → Takes f i (b ∷ before) x after
  takes-next i b [] x after h t = record { past = omega arith; reach = λ l. omega (arith, t.reach l) }
  takes-next i b (c ∷ before) x after h t = record { past = λ _. omega (arith, t.past (omega arith)); reach = λ l. omega (arith, t.reach l) }

  takes-rest : (i : ℕ) (b : A) (before : List A) (x : A) (after : List A) → Takes f i (b ∷ before) x after → Takes f (i - f b) before x after
  takes-rest i b before x after t = record { past = λ _. omega (arith, t.past (omega arith)); reach = λ l. omega (arith, t.past (omega arith), t.reach l) }

  -- every list that is not empty has one item that takes i
  pub by-taker : (i : ℕ) (xs : List A) (P : List A → Type 0)
      → ((before : List A) (x : A) (after : List A) → Takes f i before x after → P (before ++ x ∷ after)) → 0 < length xs → P xs
  by-taker i [] P at h = absurd (omega arith)
  by-taker i (x ∷ []) P at h = at [] x [] (record { past = omega arith; reach = omega arith })
  by-taker i (x ∷ y ∷ ys) P at h =
      ⊎_elim (λ (low : i - f x ≡ 0). at [] x (y ∷ ys) (record { past = omega arith; reach = λ _. omega arith }))
      (λ (high : 0 < i - f x). by-taker (i - f x) (y ∷ ys) (λ zs. P (x ∷ zs)) (λ b z a t. at (x ∷ b) z a (takes-next i x b z a (omega arith) t)) (omega arith))
      (eq-zero-or-pos (i - f x))

  -- and seat is its number
  pub seat-takes : (i : ℕ) (before : List A) (x : A) (after : List A) → Takes f i before x after → seat f i (before ++ x ∷ after) ≡ length before
  unfolding seat
  seat-takes i [] x [] t = refl
  seat-takes i [] x (y ∷ ys) t = cond-le _ (f x) _ _ (omega (arith, t.reach (omega arith)))
  seat-takes i (b ∷ []) x after t =
      cond-lt i (f b) _ _ (omega (arith, t.past (omega arith))) ∙ ap suc (seat-takes (i - f b) [] x after (takes-rest i b [] x after t))
  seat-takes i (b ∷ c ∷ before) x after t =
      cond-lt i (f b) _ _ (omega (arith, t.past (omega arith))) ∙ ap suc (seat-takes (i - f b) (c ∷ before) x after (takes-rest i b (c ∷ before) x after t))

  pub rest-takes : (i : ℕ) (before : List A) (x : A) (after : List A) → Takes f i before x after → rest f i (before ++ x ∷ after) ≡ i - total f before
  unfolding rest
  rest-takes i before x after t = rw (seat-takes i before x after t, take-append_seam)

module _ {A : Type 0} (f : List A → ℕ) where
  pub chosen-takes : (i : ℕ) (before : List (List A)) (x : List A) (after : List (List A)) → Takes f i before x after → chosen f i (before ++ x ∷ after) ≡ x
  unfolding chosen
  chosen-takes i before x after t = rw (seat-takes f i before x after t, get_or-append_seam)

  -- an edit in the child that takes i, between the children before and after
  pub in_child-takes : (edit : ℕ → List A → List (List A)) (i : ℕ) (before : List (List A)) (x : List A) (after : List (List A)) → Takes f i before x after
      → in_child f edit i (before ++ x ∷ after) ≡ before ++ (edit (i - total f before) x ++ after)
  unfolding in_child
  in_child-takes edit i before x after t =
      rw (rest-takes f i before x after t, chosen-takes i before x after t, seat-takes f i before x after t, take-append_seam)
      (ap (λ zs. before ++ (edit (i - total f before) x ++ zs)) (drop-suc-seam before x after))

-- The same by the marks of the items, for any additive measure.
module _ {A : Type 0} (f : A → List ℕ) (g : List ℕ → ℕ) (additive : Additive g) where
  pub takes-past : (i : ℕ) (before : List A) (x : A) (after : List A) → Takes (λ y. g (f y)) i before x after → g (joined f before) ≤ i - 1
  takes-past i [] x after t = omega (arith, measure-nil g additive)
  takes-past i (b ∷ before) x after t = omega (arith, t.past (omega arith), total-joined g additive f (b ∷ before))

  pub takes-reach : (i : ℕ) (before : List A) (x : A) (after : List A) → Takes (λ y. g (f y)) i before x after
      → 0 < g (joined f after) → i ≤ g (joined f before) + g (f x)
  takes-reach i before x [] t h = absurd (omega (arith, measure-nil g additive))
  takes-reach i before x (a ∷ after) t h = omega (arith, t.reach (omega arith), total-joined g additive f before)

  pub takes-within : (i : ℕ) (before : List A) (x : A) (after : List A) → Takes (λ y. g (f y)) i before x after
      → i ≤ g (joined f (before ++ x ∷ after)) → i ≤ g (joined f before) + g (f x)
  takes-within i before x [] t h = omega (arith, total-joined g additive f (before ++ x ∷ []), total-append (λ y. g (f y)) before (x ∷ []), total-joined g additive f before)
  takes-within i before x (a ∷ after) t h = omega (arith, t.reach (omega arith), total-joined g additive f before)
