-- Rank and select undo one another.
use mathlib.Core.Path.{◌≡◌, refl, sym, ap, ◌∙◌}
use mathlib.Core.List.{List, [], ◌∷◌}
use mathlib.Core.Logic.{⊎_elim}
use Prim.Native.Nat.{ℕ, zero, suc, ◌+◌, ◌-◌, ◌≤◌, ◌<◌}
use native.Mathlib.Nat.{eq-zero-or-pos}
use native.Mathlib.Numerals.{add-one, one-add}
use native.Mathlib.Omega.{arith}
use lib.ListN.{length, get_or, drop}
use lib.Seq.{drop-cons}
use Rattle.sequence.specs.Definition1.{is_mark, count, access, rank, select}
use Rattle.sequence.proofs.Counts.{is_mark-same, is_mark-cases, is_mark-le-one}

pub select-zero : (c : ℕ) (xs : List ℕ) → select c xs 0 ≡ 0
unfolding select
select-zero c [] = refl
select-zero c (x ∷ xs) = refl

-- the j-th c, where the first mark is x
pub select-cons : (c x : ℕ) (xs : List ℕ) (j : ℕ) → 1 ≤ j → select c (x ∷ xs) j ≡ suc (select c xs (j - is_mark c x))
unfolding select
select-cons c x xs zero h = absurd (omega arith)
select-cons c x xs (suc j) h = refl

pub access-cons : (x : ℕ) (xs : List ℕ) (i : ℕ) → 1 ≤ i → access (x ∷ xs) (suc i) ≡ access xs i
unfolding access
access-cons x xs i p =
    let e : suc i - 1 ≡ suc (i - 1) = omega arith in
    ap (λ (k : ℕ). get_or (x ∷ xs) k 0) e

pub select-le-length : (c : ℕ) (xs : List ℕ) (j : ℕ) → select c xs j ≤ length xs
unfolding select
select-le-length c [] j = omega arith
select-le-length c (x ∷ xs) zero = omega arith
select-le-length c (x ∷ xs) (suc j) = omega (arith, select-le-length c xs (suc j - is_mark c x))

-- where there is no j-th c
pub select-past : (c : ℕ) (xs : List ℕ) (j : ℕ) → count c xs < j → select c xs j ≡ length xs
unfolding select count
select-past c [] j h = refl
select-past c (x ∷ xs) zero h = absurd (omega arith)
select-past c (x ∷ xs) (suc j) h = ap suc (select-past c xs (suc j - is_mark c x) (omega arith))

pub select-positive : (c : ℕ) (xs : List ℕ) (j : ℕ) → 1 ≤ j → j ≤ count c xs → 1 ≤ select c xs j
unfolding select count
select-positive c [] j p h = absurd (omega arith)
select-positive c (x ∷ xs) zero p h = absurd (omega arith)
select-positive c (x ∷ xs) (suc j) p h = omega arith

pub rank-select : (c : ℕ) (xs : List ℕ) (j : ℕ) → j ≤ count c xs → rank c xs (select c xs j) ≡ j
unfolding rank select count
rank-select c [] j h = omega arith
rank-select c (x ∷ xs) zero h = refl
rank-select c (x ∷ xs) (suc j) h =
    omega (arith, is_mark-le-one c x, rank-select c xs (suc j - is_mark c x) (omega arith))

-- what is sought is the first mark where nothing is left after it
first_found : (c x : ℕ) (xs : List ℕ) (j : ℕ) → 1 ≤ j → j - is_mark c x ≡ 0 → access (x ∷ xs) (suc (select c xs (j - is_mark c x))) ≡ c
unfolding access
first_found c x xs j p e = rw (e, select-zero) (⊎_elim (λ w. w.0) (λ w. absurd (omega (arith, w.1))) (is_mark-cases c x))

pub access-select : (c : ℕ) (xs : List ℕ) (j : ℕ) → 1 ≤ j → j ≤ count c xs → access xs (select c xs j) ≡ c
unfolding count
access-select c [] j p h = absurd (omega arith)
access-select c (x ∷ xs) j p h =
    let left = j - is_mark c x in
    let later : 1 ≤ left → access (x ∷ xs) (suc (select c xs left)) ≡ c =
    λ q. access-cons x xs (select c xs left) (select-positive c xs left q (omega arith)) ∙ access-select c xs left q (omega arith) in
    rw (select-cons c x xs j p) (⊎_elim (first_found c x xs j p) later (eq-zero-or-pos left))

-- only the 0-th has place 0
ordinal-positive : (c : ℕ) (xs : List ℕ) (j : ℕ) → 1 ≤ select c xs j → 1 ≤ j
ordinal-positive c xs zero h = omega (arith, select-zero c xs)
ordinal-positive c xs (suc j) h = omega arith

pub select-rank : (c : ℕ) (xs : List ℕ) (i : ℕ) → 1 ≤ i → i ≤ length xs → access xs i ≡ c → select c xs (rank c xs i) ≡ i
unfolding rank count access
select-rank c [] i p h e = absurd (omega arith)
select-rank c (x ∷ xs) zero p h e = absurd (omega arith)
select-rank c (x ∷ xs) (suc zero) p h e =
    let one : is_mark c x ≡ 1 = is_mark-same c x e in
    rw (one, select-cons c x xs 1 p, one, select-zero)
select-rank c (x ∷ xs) (suc (suc i)) p h e =
    let r = rank c xs (suc i) in
    let there : access xs (suc i) ≡ c = sym (access-cons x xs (suc i) (omega arith)) ∙ e in
    let ih : select c xs r ≡ suc i = select-rank c xs (suc i) (omega arith) (omega arith) there in
    let positive : 1 ≤ r = ordinal-positive c xs r (omega arith) in
    let back : is_mark c x + r - is_mark c x ≡ r = omega arith in
    select-cons c x xs (is_mark c x + r) (omega arith) ∙ ap (λ (k : ℕ). suc (select c xs k)) back ∙ ap suc ih

-- what is left to find after the mark at i (from 0), of j that are left before it
pub select-step : (c : ℕ) (xs : List ℕ) (i j k : ℕ) → i < length xs → 1 ≤ j → k ≡ j - is_mark c (get_or xs i 0)
    → select c (drop i xs) j ≡ 1 + select c (drop (i + 1) xs) k
select-step c xs i j k h p e =
    ap (λ (ys : List ℕ). select c ys j) (drop-cons xs i 0 h)
    ∙ select-cons c (get_or xs i 0) (drop (suc i) xs) j p
    ∙ rw (← e, add-one, one-add)
