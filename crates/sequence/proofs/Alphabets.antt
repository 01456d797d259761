-- Marks below σ, and sums over the σ symbols: the counts of all symbols add up to the length, and their ranks to the place.
use mathlib.Core.Path.{◌≡◌, refl, ◌∙◌}
use mathlib.Core.List.{List, [], ◌∷◌}
use mathlib.Core.Logic.{◌⊎◌, inl, inr, ⊎_elim}
use Prim.Native.Nat.{ℕ, zero, suc, ◌-◌, ◌≤◌, ◌<◌}
use native.Mathlib.Nat.{eq-zero-or-pos}
use native.Mathlib.Omega.{arith}
use lib.ListN.{length, take}
use lib.Seq.{length-take-le}
use Rattle.lists.proofs.Items.{all_below-get_or, all_take}
use Rattle.lists.proofs.Sums.{sum_below-add, sum_below-zero}
use Rattle.lists.specs.Items.{AllBelow}
use Rattle.lists.specs.Sums.{sum_below}
use Rattle.sequence.specs.Definition1.{is_mark, count, access, rank}
use Rattle.sequence.proofs.Counts.{is_mark-cases, is_mark-other}

below_or_not : (x σ : ℕ) → (x < σ) ⊎ (σ ≤ x)
below_or_not x σ = ⊎_elim (λ e. inr (omega arith)) (λ h. inl (omega arith)) (eq-zero-or-pos (σ - x))

-- a mark is none of the symbols below it
pub sum_below-is_mark-none : (σ x : ℕ) → σ ≤ x → sum_below σ (λ c. is_mark c x) ≡ 0
unfolding sum_below
sum_below-is_mark-none zero x h = refl
sum_below-is_mark-none (suc σ) x h = omega (arith, sum_below-is_mark-none σ x (omega arith), is_mark-other σ x (omega arith))

-- and one of those above
pub sum_below-is_mark-one : (σ x : ℕ) → x < σ → sum_below σ (λ c. is_mark c x) ≡ 1
unfolding sum_below
sum_below-is_mark-one zero x h = absurd (omega arith)
sum_below-is_mark-one (suc σ) x h =
    ⊎_elim (λ w. omega (arith, w.1, sum_below-is_mark-none σ x (omega (arith, w.0))))
    (λ w. omega (arith, w.1, sum_below-is_mark-one σ x (omega (arith, w.0)))) (is_mark-cases σ x)

pub sum_below-is_mark-le-one : (σ x : ℕ) → sum_below σ (λ c. is_mark c x) ≤ 1
sum_below-is_mark-le-one σ x =
    ⊎_elim (λ h. omega (arith, sum_below-is_mark-one σ x h)) (λ h. omega (arith, sum_below-is_mark-none σ x h)) (below_or_not x σ)

pub counts-add-up : (σ : ℕ) (xs : List ℕ) → AllBelow σ xs → sum_below σ (λ c. count c xs) ≡ length xs
unfolding count
counts-add-up σ [] b = sum_below-zero σ
counts-add-up σ (x ∷ xs) b =
    omega (arith, sum_below-add σ (λ c. is_mark c x) (λ c. count c xs), sum_below-is_mark-one σ x b.0, counts-add-up σ xs b.1)

pub all_below-access : (σ : ℕ) (xs : List ℕ) (i : ℕ) → AllBelow σ xs → 1 ≤ i → i ≤ length xs → access xs i < σ
unfolding access
all_below-access σ xs i b p h = all_below-get_or σ xs b (i - 1) (omega arith)

pub ranks-add-up : (σ : ℕ) (xs : List ℕ) (i : ℕ) → AllBelow σ xs → i ≤ length xs → sum_below σ (λ c. rank c xs i) ≡ i
unfolding rank
ranks-add-up σ xs i b h = counts-add-up σ (take i xs) (all_take (λ x. x < σ) i xs b) ∙ length-take-le i xs h

pub counts-at-most : (σ : ℕ) (xs : List ℕ) → sum_below σ (λ c. count c xs) ≤ length xs
unfolding count
counts-at-most σ [] = omega (arith, sum_below-zero σ)
counts-at-most σ (x ∷ xs) =
    omega (arith, sum_below-add σ (λ c. is_mark c x) (λ c. count c xs), sum_below-is_mark-le-one σ x, counts-at-most σ xs)

-- where the counts add up to the length, every mark is below σ
pub all_below-of-counts : (σ : ℕ) (xs : List ℕ) → sum_below σ (λ c. count c xs) ≡ length xs → AllBelow σ xs
unfolding count
all_below-of-counts σ [] e = tt
all_below-of-counts σ (x ∷ xs) e =
    let sum = sum_below-add σ (λ c. is_mark c x) (λ c. count c xs) in
    let low : x < σ = ⊎_elim (λ h. h) (λ h. absurd (omega (arith, sum, sum_below-is_mark-none σ x h, counts-at-most σ xs))) (below_or_not x σ) in
    (low, all_below-of-counts σ xs (omega (arith, sum, sum_below-is_mark-one σ x low)))
