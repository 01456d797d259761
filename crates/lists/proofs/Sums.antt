-- Sums over the items of a list: go down the list. Sums over the numbers below n: by induction on n, as they are defined.
use mathlib.Core.Path.{◌≡◌, refl, sym, ap, ap₂, ◌∙◌}
use mathlib.Core.List.{List, [], ◌∷◌, map}
use mathlib.Core.Logic.{⊎_elim}
use Prim.Native.Nat.{ℕ, zero, suc, ◌+◌, ◌-◌, ◌*◌, ◌≤◌, ◌<◌}
use native.Mathlib.Nat.{zero-add, add_assoc, eq-zero-or-pos, eq-or-lt_of_le, le_of_suc-le-suc}
use native.Mathlib.Numerals.{add-one}
use native.Mathlib.Omega.{arith}
use lib.ListN.{length}
use Rattle.lists.specs.Items.{All}
use Rattle.lists.specs.Joins.{joined}
use Rattle.lists.specs.Sums.{total, sum_below}
use Rattle.lists.proofs.Measures.{Additive, measure-nil}

module _ {A : Type 0} where
  pub total-append : (f : A → ℕ) → Additive (total f)
  total-append f [] ys = sym (zero-add (total f ys))
  total-append f (x ∷ xs) ys = ap (λ n. f x + n) (total-append f xs ys) ∙ sym (add_assoc (f x) (total f xs) (total f ys))

  -- a sum of numbers that differ by one each
  pub total-suc : (f : A → ℕ) (xs : List A) → total (λ x. suc (f x)) xs ≡ length xs + total f xs
  total-suc f [] = refl
  total-suc f (x ∷ xs) = let rest : total (λ x. suc (f x)) xs ≡ length xs + total f xs = total-suc f xs in omega arith

  pub total-one : (xs : List A) → total (λ _. 1) xs ≡ length xs
  total-one [] = refl
  total-one (x ∷ xs) = omega (arith, total-one xs)

  -- what holds of each item, up to a factor, holds of the sums
  pub total-scaled : (k : ℕ) (f g : A → ℕ) (xs : List A) → All (λ x. k * f x ≤ g x) xs → k * total f xs ≤ total g xs
  total-scaled k f g [] p = omega arith
  total-scaled k f g (x ∷ xs) p = omega (arith, p.0, total-scaled k f g xs p.1)

  pub total-same : (f g : A → ℕ) (xs : List A) → ((x : A) → f x ≡ g x) → total f xs ≡ total g xs
  total-same f g [] e = refl
  total-same f g (x ∷ xs) e = ap₂ (λ a b. a + b) (e x) (total-same f g xs e)

pub total-map : {A B : Type 0} (f : B → ℕ) (g : A → B) (xs : List A) → total f (map g xs) ≡ total (λ x. f (g x)) xs
total-map f g [] = refl
total-map f g (x ∷ xs) = ap (λ n. f (g x) + n) (total-map f g xs)

module _ (g : List ℕ → ℕ) (additive : Additive g) where
  -- the sum of a measure over the items is the measure of all their marks
  pub total-joined : {A : Type 0} (f : A → List ℕ) (xs : List A) → total (λ x. g (f x)) xs ≡ g (joined f xs)
  total-joined f [] = sym (measure-nil g additive)
  total-joined f (x ∷ xs) = ap (λ n. g (f x) + n) (total-joined f xs) ∙ sym (additive (f x) (joined f xs))

pub sum_below-zero : (σ : ℕ) → sum_below σ (λ c. 0) ≡ 0
unfolding sum_below
sum_below-zero zero = refl
sum_below-zero (suc σ) = omega (arith, sum_below-zero σ)

pub sum_below-add : (σ : ℕ) (f g : ℕ → ℕ) → sum_below σ (λ c. f c + g c) ≡ sum_below σ f + sum_below σ g
unfolding sum_below
sum_below-add zero f g = refl
sum_below-add (suc σ) f g = omega (arith, sum_below-add σ f g)

pub sum_below-same : (n : ℕ) (f g : ℕ → ℕ) → ((i : ℕ) → i < n → f i ≡ g i) → sum_below n f ≡ sum_below n g
unfolding sum_below
sum_below-same zero f g e = refl
sum_below-same (suc n) f g e = ap₂ (λ a b. a + b) (sum_below-same n f g (λ i h. e i (omega arith))) (e n (omega arith))

pub sum_below-ones : (n : ℕ) → sum_below n (λ i. 1) ≡ n
unfolding sum_below
sum_below-ones zero = refl
sum_below-ones (suc n) = omega (arith, sum_below-ones n)

-- one of the numbers adds at most the sum
pub sum_below-one : (n : ℕ) (f : ℕ → ℕ) (i : ℕ) → i < n → f i ≤ sum_below n f
unfolding sum_below
sum_below-one zero f i h = absurd (omega arith)
sum_below-one (suc n) f i h =
    ⊎_elim (λ e. omega (arith, ap f e)) (λ l. omega (arith, sum_below-one n f i l)) (eq-or-lt_of_le (le_of_suc-le-suc h))

-- and so do two of them
pub sum_below-two : (n : ℕ) (f : ℕ → ℕ) (i j : ℕ) → i < n → j < n → (i ≡ j → ⊥) → f i + f j ≤ sum_below n f
unfolding sum_below
sum_below-two zero f i j l m other = absurd (omega arith)
sum_below-two (suc n) f i j l m other =
    ⊎_elim (λ (e : i ≡ n). omega (arith, ap f e, sum_below-one n f j (omega arith)))
    (λ (k : i < n). ⊎_elim (λ (e : j ≡ n). omega (arith, ap f e, sum_below-one n f i k)) (λ (o : j < n). omega (arith, sum_below-two n f i j k o other)) (eq-or-lt_of_le (le_of_suc-le-suc m)))
    (eq-or-lt_of_le (le_of_suc-le-suc l))

-- where a sum isn't 0, one of its numbers isn't
pub sum_below-some : {A : Type 0} (n : ℕ) (f : ℕ → ℕ) → 1 ≤ sum_below n f → ((i : ℕ) → i < n → 1 ≤ f i → A) → A
unfolding sum_below
sum_below-some zero f some found = absurd (omega arith)
sum_below-some (suc n) f some found =
    ⊎_elim (λ (none : f n ≡ 0). sum_below-some n f (omega arith) (λ i low here. found i (omega arith) here))
    (λ (here : 0 < f n). found n (omega arith) here) (eq-zero-or-pos (f n))

-- where one number alone changes what it adds
pub sum_below-change : (n : ℕ) (f g : ℕ → ℕ) (x : ℕ) → x < n → ((i : ℕ) → i < n → (i ≡ x → ⊥) → f i ≡ g i) → sum_below n f + g x ≡ sum_below n g + f x
unfolding sum_below
sum_below-change zero f g x l e = absurd (omega arith)
sum_below-change (suc n) f g x l e =
    ⊎_elim (λ (last : x ≡ n). omega (arith, ap f last, ap g last, sum_below-same n f g (λ i k. e i (omega arith) (λ (same : i ≡ x). omega arith))))
    (λ (k : x < n). omega (arith, e n (omega arith) (λ (same : n ≡ x). omega arith), sum_below-change n f g x k (λ i m. e i (omega arith))))
    (eq-or-lt_of_le (le_of_suc-le-suc l))

-- a sum of differences
pub sum_below-less : (n : ℕ) (f g : ℕ → ℕ) → ((i : ℕ) → i < n → g i ≤ f i) → sum_below n (λ i. f i - g i) + sum_below n g ≡ sum_below n f
unfolding sum_below
sum_below-less zero f g l = refl
sum_below-less (suc n) f g l = omega (arith, sum_below-less n f g (λ i h. l i (omega arith)), l n (omega arith))

-- sums of numbers that are no larger, one by one
sum_below-le : (f g : ℕ → ℕ) (n : ℕ) → ((c : ℕ) → c < n → f c ≤ g c) → sum_below n f ≤ sum_below n g
unfolding sum_below
sum_below-le f g zero low = omega arith
sum_below-le f g (suc n) low = omega (arith, sum_below-le f g n (λ c l. low c (omega arith)), low n (omega arith))

-- where the sums are as large, so is each number
pub sum_below-tight : (f g : ℕ → ℕ) (n : ℕ) → ((c : ℕ) → c < n → f c ≤ g c) → sum_below n g ≤ sum_below n f → (c : ℕ) → c < n → f c ≡ g c
unfolding sum_below
sum_below-tight f g zero low over c l = absurd (omega arith)
sum_below-tight f g (suc n) low over c l =
    let rest : sum_below n f ≤ sum_below n g = sum_below-le f g n (λ d m. low d (omega arith)) in
    let last : f n ≤ g n = low n (omega arith) in
    ⊎_elim (λ (e : c ≡ n). rw e (omega arith)) (λ (m : c < n). sum_below-tight f g n (λ d o. low d (omega arith)) (omega arith) c m) (eq-or-lt_of_le (le_of_suc-le-suc l))

-- numbers past m that are 0 add nothing
pub sum_below-short : (f : ℕ → ℕ) (m n : ℕ) → m ≤ n → ((c : ℕ) → m ≤ c → c < n → f c ≡ 0) → sum_below m f ≡ sum_below n f
unfolding sum_below
sum_below-short f m zero low none = let e : m ≡ 0 = omega arith in rw e refl
sum_below-short f m (suc n) low none =
    ⊎_elim (λ (e : m ≡ suc n). rw e refl)
    (λ (l : m < suc n). omega (arith, sum_below-short f m n (omega arith) (λ c a o. none c a (omega arith)), none n (omega arith) (omega arith))) (eq-or-lt_of_le low)

-- a sum grows with its numbers
pub sum_below-grows : (f : ℕ → ℕ) (m n : ℕ) → m ≤ n → sum_below m f ≤ sum_below n f
unfolding sum_below
sum_below-grows f m zero low = let e : m ≡ 0 = omega arith in rw e (omega arith)
sum_below-grows f m (suc n) low =
    ⊎_elim (λ (e : m ≡ suc n). rw e (omega arith)) (λ (l : m < suc n). omega (arith, sum_below-grows f m n (omega arith))) (eq-or-lt_of_le low)

-- A sum that code adds up: none, one more, and at the end all.
pub sum-none : (f : ℕ → ℕ) → 0 ≡ sum_below 0 f
unfolding sum_below
sum-none f = refl

-- one number more
pub sum_more : (f : ℕ → ℕ) (k sum value : ℕ) → sum ≡ sum_below k f → value ≡ f k → sum + value ≡ sum_below (k + 1) f
unfolding sum_below
sum_more f k sum value so here = rw add-one (ap₂ (λ (x y : ℕ). x + y) so here)

pub sum-all : (f : ℕ → ℕ) (many k sum : ℕ) → sum ≡ sum_below k f → k ≤ many → many ≤ k → sum ≡ sum_below many f
sum-all f many k sum so few end = let e : many ≡ k = omega arith in rw e so

-- none to three numbers, each by itself
module _ (f : ℕ → ℕ) (k : ℕ) where
  pub sum-of-none : (sum : ℕ) → sum ≡ 0 → k ≤ 0 → sum ≡ sum_below k f
  unfolding sum_below
  sum-of-none sum so end = let e : k ≡ 0 = omega arith in rw e so

  module _ (first : ℕ) (one : first ≡ f 0) where
    pub sum-of-one : (sum : ℕ) → sum ≡ first → 0 < k → k ≤ 1 → sum ≡ sum_below k f
    unfolding sum_below
    sum-of-one sum so some end = let e : k ≡ 1 = omega arith in rw e (omega arith)

    module _ (second : ℕ) (two : second ≡ f 1) where
      pub sum-of-two : 1 < k → k ≤ 2 → first + second ≡ sum_below k f
      unfolding sum_below
      sum-of-two some end = let e : k ≡ 2 = omega arith in rw e (omega arith)

      pub sum-of-three : (third : ℕ) → third ≡ f 2 → 2 < k → k ≤ 3 → first + second + third ≡ sum_below k f
      unfolding sum_below
      sum-of-three third three some end = let e : k ≡ 3 = omega arith in rw e (omega arith)
