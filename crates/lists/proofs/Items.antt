-- Facts over all items, where a list is put together, cut or looked into.
use mathlib.Core.List.{List, [], ◌∷◌, ◌++◌}
use Prim.Native.Nat.{ℕ, zero, suc, ◌<◌}
use native.Mathlib.Omega.{arith}
use lib.ListN.{length, get_or, take, drop, take-append-drop}
use Rattle.lists.specs.Items.{All, AllBelow}

module _ {A : Type 0} where
  pub all_map : (P Q : A → Type 0) → ((x : A) → P x → Q x) → (xs : List A) → All P xs → All Q xs
  all_map P Q f [] p = tt
  all_map P Q f (x ∷ xs) p = (f x p.0, all_map P Q f xs p.1)

  -- what two facts about each item show
  pub all_both : (P Q R : A → Type 0) → ((x : A) → P x → Q x → R x) → (xs : List A) → All P xs → All Q xs → All R xs
  all_both P Q R f [] p q = tt
  all_both P Q R f (x ∷ xs) p q = (f x p.0 q.0, all_both P Q R f xs p.1 q.1)

  pub all_append : (P : A → Type 0) (xs ys : List A) → All P xs → All P ys → All P (xs ++ ys)
  all_append P [] ys p q = q
  all_append P (x ∷ xs) ys p q = (p.0, all_append P xs ys p.1 q)

  pub all_left : (P : A → Type 0) (xs ys : List A) → All P (xs ++ ys) → All P xs
  all_left P [] ys p = tt
  all_left P (x ∷ xs) ys p = (p.0, all_left P xs ys p.1)

  pub all_right : (P : A → Type 0) (xs ys : List A) → All P (xs ++ ys) → All P ys
  all_right P [] ys p = p
  all_right P (x ∷ xs) ys p = all_right P xs ys p.1

  pub all_take : (P : A → Type 0) (i : ℕ) (xs : List A) → All P xs → All P (take i xs)
  all_take P i xs p = all_left P (take i xs) (drop i xs) (rw take-append-drop p)

  pub all_drop : (P : A → Type 0) (i : ℕ) (xs : List A) → All P xs → All P (drop i xs)
  all_drop P i xs p = all_right P (take i xs) (drop i xs) (rw take-append-drop p)

-- number by number, at indices from 0
pub all_below-get_or : (σ : ℕ) (xs : List ℕ) → AllBelow σ xs → (k : ℕ) → k < length xs → get_or xs k 0 < σ
all_below-get_or σ [] b k h = absurd (omega arith)
all_below-get_or σ (x ∷ xs) b zero h = b.0
all_below-get_or σ (x ∷ xs) b (suc k) h = all_below-get_or σ xs b.1 k (omega arith)

pub all_below-from-get_or : (σ : ℕ) (xs : List ℕ) → ((k : ℕ) → k < length xs → get_or xs k 0 < σ) → AllBelow σ xs
all_below-from-get_or σ [] b = tt
all_below-from-get_or σ (x ∷ xs) b = (b 0 (omega arith), all_below-from-get_or σ xs (λ k h. b (suc k) (omega arith)))
