-- What a block says of its marks, at a level that the code tested; and an entry compared with it, one symbol after the other.
use mathlib.Core.List.{List}
use mathlib.Core.Logic.{⊎_elim}
use mathlib.Core.Path.{◌≡◌, refl, sym, ap, ◌∙◌}
use Prim.Native.Nat.{ℕ, zero, suc, ◌+◌, ◌≤◌, ◌<◌}
use native.Mathlib.Nat.{eq-or-lt_of_le}
use native.Mathlib.Omega.{arith}
use Rattle.lists.proofs.Sums.{sum-none, sum_more, sum-all}
use Rattle.lists.specs.Sums.{sum_below}
use Rattle.pool_entries.proofs.Summaries.{branch-size}
use Rattle.pool_entries.specs.Summaries.{Is}
use Rattle.geometry.specs.Layout.{least_branch, most_branch}
use Rattle.pool.specs.Blocks.{entries, marks_below, count_below}
use Rattle.pool.specs.Trees.{own_marks, own_count}
use Rattle.shape.specs.Sizes.{one_to_a_byte, most}

-- so many entries fit a branch
pub few-children : (p : List ℕ) (h b many : ℕ) → Is (entries p b) many → entries p b ≤ most one_to_a_byte h → (h ≡ 0 → ⊥) → many ≤ most_branch
few-children p h b many size fits branch = omega (arith, size.is, branch-size p h b branch fits)

-- a leaf
pub leaf-marks : (p : List ℕ) (h b many : ℕ) → h ≡ 0 → Is (entries p b) many → many ≡ own_marks p h b
leaf-marks p zero b many leaf size = size.is
leaf-marks p (suc h) b many leaf size = absurd (omega arith)

-- a branch
pub branch-marks : (p : List ℕ) (h b many k sum : ℕ) → (h ≡ 0 → ⊥) → Is (entries p b) many → sum ≡ sum_below k (marks_below p b) → k ≤ many
    → many ≤ k
    → sum ≡ own_marks p h b
branch-marks p zero b many k sum branch size so low end = absurd (branch refl)
branch-marks p (suc h) b many k sum branch size so low end =
    sum-all (marks_below p b) many k sum so low end ∙ ap (λ (n : ℕ). sum_below n (marks_below p b)) size.is

module _ (p : List ℕ) (b c many first second : ℕ) (size : many ≡ entries p b) (one : Is (count_below p b 0 c) first) (two : Is (count_below p b 1 c) second) where
  abbrev of_c : ℕ → ℕ
  of_c k = count_below p b k c

  sum-two : first + second ≡ sum_below 2 of_c
  sum-two =
      let alone : 0 + first ≡ sum_below 1 of_c = sum_more of_c 0 0 first (sum-none of_c) one.is in
      sum_more of_c 1 first second (omega arith) two.is

  pub count-two : many ≡ least_branch → first + second ≡ own_count p 1 b c
  count-two few = let e : 2 ≡ entries p b = omega arith in sum-two ∙ ap (λ (n : ℕ). sum_below n of_c) e

  pub count-three : (third : ℕ) → Is (count_below p b 2 c) third → (many ≡ least_branch → ⊥) → least_branch ≤ many → many ≤ most_branch
      → first + second + third ≡ own_count p 1 b c
  count-three third three more low high =
      let e : 3 ≡ entries p b = ⊎_elim (λ (few : least_branch ≡ many). absurd (more (sym few))) (λ (l : least_branch < many). omega arith) (eq-or-lt_of_le low) in
      sum_more of_c 2 (first + second) third sum-two three.is ∙ ap (λ (n : ℕ). sum_below n of_c) e

-- the entry says what the block says, as to its marks and the symbols below c
abbrev pub RepeatsTo : List ℕ → ℕ → ℕ → ℕ → ℕ → ℕ → Type 0
RepeatsTo p h b k child c =
    (marks_below p b k ≡ own_marks p h child) × ((d : ℕ) → d < c → count_below p b k d ≡ own_count p h child d)
