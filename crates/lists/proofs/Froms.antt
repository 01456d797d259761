-- What a function gives for so many numbers, as a list: go down the list, and let the start move on.
use mathlib.Core.Path.{◌≡◌, refl, sym, ap, ap₂, ◌∙◌}
use mathlib.Core.List.{List, [], ◌∷◌, ◌++◌, map}
use Prim.Native.Nat.{ℕ, zero, suc, ◌+◌, ◌-◌, ◌≤◌, ◌<◌}
use native.Mathlib.Nat.{add-zero, zero-add}
use native.Mathlib.Decide.{ℕ_discrete}
use native.Mathlib.Omega.{arith}
use lib.ListN.{length, get_or, take, drop, set, length-set}
use lib.Seq.{take_at, drop_at, ext_get_or, get_or-set_same, get_or-set_other}
use Rattle.lists.specs.Items.{All}
use Rattle.lists.specs.Froms.{from}
use Rattle.lists.specs.Joins.{joined}
use Rattle.lists.specs.Sums.{total, sum_below}
use Rattle.lists.proofs.Items.{all_right}
use Rattle.lists.proofs.Measures.{Additive}
use Rattle.lists.proofs.Sums.{total-append, total-joined}

module _ {A : Type 0} where
  pub length_from : (f : ℕ → A) (k n : ℕ) → length (from f k n) ≡ n
  unfolding from
  length_from f k zero = refl
  length_from f k (suc n) = ap suc (length_from f (suc k) n)

  get_or-from : (f : ℕ → A) (k n i : ℕ) (d : A) → i < n → get_or (from f k n) i d ≡ f (k + i)
  unfolding from
  get_or-from f k zero i d h = absurd (omega arith)
  get_or-from f k (suc n) zero d h = ap f (sym (add-zero k))
  get_or-from f k (suc n) (suc i) d h = let e : suc k + i ≡ k + suc i = omega arith in get_or-from f (suc k) n i d (omega arith) ∙ ap f e

  pub get_or-from-start : (f : ℕ → A) (n i : ℕ) (d : A) → i < n → get_or (from f 0 n) i d ≡ f i
  get_or-from-start f n i d h = get_or-from f 0 n i d h ∙ ap f (zero-add i)

  pub from-append : (f : ℕ → A) (k m n : ℕ) → from f k (m + n) ≡ from f k m ++ from f (k + m) n
  unfolding from
  from-append f k zero n = rw (zero-add, add-zero)
  from-append f k (suc m) n =
      let e : suc m + n ≡ suc (m + n) = omega arith in
      let s : suc k + m ≡ k + suc m = omega arith in
      ap (from f k) e ∙ ap (λ xs. f k ∷ xs) (from-append f (suc k) m n ∙ ap (λ j. from f (suc k) m ++ from f j n) s)

  -- one number more
  pub from-snoc : (f : ℕ → A) (k n : ℕ) → from f k (suc n) ≡ from f k n ++ f (k + n) ∷ []
  unfolding from
  from-snoc f k n = let e : suc n ≡ n + 1 = omega arith in ap (from f k) e ∙ from-append f k n 1

  -- around number i
  from-around : (f : ℕ → A) (n i : ℕ) → i < n → from f 0 n ≡ from f 0 i ++ f i ∷ from f (suc i) (n - suc i)
  unfolding from
  from-around f n i h =
      let e : n ≡ i + suc (n - suc i) = omega arith in
      ap (from f 0) e ∙ from-append f 0 i (suc (n - suc i)) ∙ ap (λ j. from f 0 i ++ from f j (suc (n - suc i))) (zero-add i)

  pub take-from : (f : ℕ → A) (n i : ℕ) → i ≤ n → take i (from f 0 n) ≡ from f 0 i
  take-from f n i h =
      let e : n ≡ i + (n - i) = omega arith in
      ap (λ m. take i (from f 0 m)) e ∙ ap (take i) (from-append f 0 i (n - i)) ∙ take_at (from f 0 i) (from f (0 + i) (n - i)) i (length_from f 0 i)

  pub drop-from : (f : ℕ → A) (n i : ℕ) → i ≤ n → drop i (from f 0 n) ≡ from f i (n - i)
  drop-from f n i h =
      let e : n ≡ i + (n - i) = omega arith in
      ap (λ m. drop i (from f 0 m)) e ∙ ap (drop i) (from-append f 0 i (n - i)) ∙ drop_at (from f 0 i) (from f (0 + i) (n - i)) i (length_from f 0 i)
      ∙ ap (λ j. from f j (n - i)) (zero-add i)

  -- functions that agree on these numbers give the same list
  pub from-same : (f g : ℕ → A) (k n : ℕ) → ((i : ℕ) → k ≤ i → i < k + n → f i ≡ g i) → from f k n ≡ from g k n
  unfolding from
  from-same f g k zero e = refl
  from-same f g k (suc n) e =
      ap₂ (λ x xs. x ∷ xs) (e k (omega arith) (omega arith)) (from-same f g (suc k) n (λ i l h. e i (omega arith) (omega arith)))

  -- functions that agree but for one number
  pub from-set : (f g : ℕ → A) (n x : ℕ) → x < n → ((i : ℕ) → i < n → (i ≡ x → ⊥) → g i ≡ f i) → from g 0 n ≡ set (from f 0 n) x (g x)
  from-set f g n x low e =
      ext_get_or (g x) (from g 0 n) (set (from f 0 n) x (g x)) (length_from g 0 n ∙ sym (length-set (from f 0 n) x (g x) ∙ length_from f 0 n))
      (λ i h. let l : i < n = omega (arith, length_from g 0 n) in get_or-from-start g n i (g x) l ∙ at i l (ℕ_discrete i x))
    where
      at : (i : ℕ) → i < n → Dec (i ≡ x) → g i ≡ get_or (set (from f 0 n) x (g x)) i (g x)
      at i l (yes here) = rw here (sym (get_or-set_same (from f 0 n) x (g x) (g x) (omega (arith, length_from f 0 n))))
      at i l (no other) = e i l other ∙ sym (get_or-set_other (from f 0 n) x i (g x) (g x) other ∙ get_or-from-start f n i (g x) l)

  -- what holds of each holds of all the list, and the other way round
  pub all_from : (P : A → Type 0) (f : ℕ → A) (k n : ℕ) → ((i : ℕ) → k ≤ i → i < k + n → P (f i)) → All P (from f k n)
  unfolding from
  all_from P f k zero p = tt
  all_from P f k (suc n) p = (p k (omega arith) (omega arith), all_from P f (suc k) n (λ i l h. p i (omega arith) (omega arith)))

  pub from_all : (P : A → Type 0) (f : ℕ → A) (n i : ℕ) → i < n → All P (from f 0 n) → P (f i)
  from_all P f n i h p = (all_right P (from f 0 i) (f i ∷ from f (suc i) (n - suc i)) (rw (from-around f n i h) at p)).0

pub map-from : {A B : Type 0} (g : A → B) (f : ℕ → A) (k n : ℕ) → map g (from f k n) ≡ from (λ i. g (f i)) k n
unfolding from
map-from g f k zero = refl
map-from g f k (suc n) = ap (λ xs. g (f k) ∷ xs) (map-from g f (suc k) n)

-- a sum over the list is the sum over the numbers
pub total-from : {A : Type 0} (g : A → ℕ) (f : ℕ → A) (n : ℕ) → total g (from f 0 n) ≡ sum_below n (λ i. g (f i))
unfolding from sum_below
total-from g f zero = refl
total-from g f (suc n) =
    ap (total g) (from-snoc f 0 n) ∙ total-append g (from f 0 n) (f (0 + n) ∷ [])
    ∙ ap₂ (λ a b. a + b) (total-from g f n) (add-zero (g (f (0 + n))) ∙ ap (λ i. g (f i)) (zero-add n))

-- and the measure of the lists that it gives joined
pub joined-from : (μ : List ℕ → ℕ) → Additive μ → {A : Type 0} (g : A → List ℕ) (f : ℕ → A) (n : ℕ)
    → μ (joined g (from f 0 n)) ≡ sum_below n (λ i. μ (g (f i)))
joined-from μ additive g f n = sym (total-joined μ additive g (from f 0 n)) ∙ total-from (λ x. μ (g x)) f n
