-- What a test picks: a fact about the picked value is shown on both sides of the test. Go by the test's two outcomes.
use mathlib.Core.Path.{◌≡◌, refl}
use mathlib.Core.Bool.{Bool, true, false, not, cond}
use Prim.Native.Nat.{ℕ, ◌≤◌, ◌<◌}
use native.Mathlib.Omega.{arith}
use lib.Dec.{T, leb, leb→le, nleb→lt}

module _ {A : Type 0} where
  pub by-leb : (P : A → Type 0) (m n : ℕ) (x y : A) → (m ≤ n → P x) → (n < m → P y) → P (cond (leb m n) x y)
  by-leb P m n x y low high = go (leb m n) (leb→le m n) (nleb→lt m n)
    where
      go : (b : Bool) → (T b → m ≤ n) → (T (not b) → n < m) → P (cond b x y)
      go true p q = low (p tt)
      go false p q = high (q tt)

  pub cond-le : (m n : ℕ) (x y : A) → m ≤ n → cond (leb m n) x y ≡ x
  cond-le m n x y h = by-leb (λ z. z ≡ x) m n x y (λ _. refl) (λ (k : n < m). absurd (omega arith))

  pub cond-lt : (m n : ℕ) (x y : A) → n < m → cond (leb m n) x y ≡ y
  cond-lt m n x y h = by-leb (λ z. z ≡ y) m n x y (λ (k : m ≤ n). absurd (omega arith)) (λ _. refl)
