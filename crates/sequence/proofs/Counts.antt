-- One mark compared with a symbol, and the count of a symbol.
use mathlib.Core.Path.{◌≡◌, refl, sym, ap}
use mathlib.Core.Bool.{Bool, true, false, cond}
use mathlib.Core.List.{List, [], ◌∷◌}
use mathlib.Core.Logic.{◌⊎◌, inl, inr, ⊎_elim}
use Prim.Native.Nat.{ℕ, ◌≤◌}
use native.Mathlib.Nat.{zero-add, add-zero}
use native.Mathlib.Omega.{arith}
use lib.Dec.{eqb}
use lib.ListN.{length, take, length-take}
use borrow.Author.Tests.{eq-eqb, ne_eqb, eqb-true, eqb-false}
use Rattle.lists.proofs.Measures.{Additive}
use Rattle.lists.specs.Items.{All}
use Rattle.sequence.specs.Definition1.{is_mark, count}

pub is_mark-same : (c x : ℕ) → x ≡ c → is_mark c x ≡ 1
is_mark-same c x e = ap (λ (b : Bool). cond {A = ℕ} b 1 0) (eq-eqb x c e)

pub is_mark-other : (c x : ℕ) → (x ≡ c → ⊥) → is_mark c x ≡ 0
is_mark-other c x d = ap (λ (b : Bool). cond {A = ℕ} b 1 0) (ne_eqb x c d)

-- a mark is c, or it isn't
pub is_mark-cases : (c x : ℕ) → ((x ≡ c) × (is_mark c x ≡ 1)) ⊎ ((x ≡ c → ⊥) × (is_mark c x ≡ 0))
is_mark-cases c x = go (eqb x c) refl
  where
    go : (b : Bool) → eqb x c ≡ b → ((x ≡ c) × (is_mark c x ≡ 1)) ⊎ ((x ≡ c → ⊥) × (is_mark c x ≡ 0))
    go true e = inl (eqb-true x c e, is_mark-same c x (eqb-true x c e))
    go false e = inr (eqb-false x c e, is_mark-other c x (eqb-false x c e))

pub cond-le-one : (b : Bool) → cond {A = ℕ} b 1 0 ≤ 1
cond-le-one true = omega arith
cond-le-one false = omega arith

pub is_mark-le-one : (c x : ℕ) → is_mark c x ≤ 1
is_mark-le-one c x = cond-le-one (eqb x c)

pub count-one : (c x : ℕ) → count c (x ∷ []) ≡ is_mark c x
unfolding count
count-one c x = add-zero (is_mark c x)

pub count-le-length : (c : ℕ) (xs : List ℕ) → count c xs ≤ length xs
unfolding count
count-le-length c [] = omega arith
count-le-length c (x ∷ xs) = omega (arith, is_mark-le-one c x, count-le-length c xs)

pub count-take-le : (c n : ℕ) (xs : List ℕ) → count c (take n xs) ≤ n
count-take-le c n xs = omega (arith, count-le-length c (take n xs), length-take n xs)

pub count-additive : (c : ℕ) → Additive (count c)
unfolding count
count-additive c [] ys = sym (zero-add (count c ys))
count-additive c (x ∷ xs) ys = omega (arith, count-additive c xs ys)

-- A number stands in a list where its count isn't 0.
module _ (P : ℕ → Type 0) where
  -- what holds of all the list holds of each number that stands in it, and the other way round
  pub all-standing : (xs : List ℕ) (b : ℕ) → 1 ≤ count b xs → All P xs → P b
  unfolding count
  all-standing [] b h p = absurd (omega arith)
  all-standing (x ∷ xs) b h p =
      ⊎_elim (λ w. rw w.0 at p.0) (λ w. all-standing xs b (omega (arith, w.1)) p.1) (is_mark-cases b x)

  pub standing-all : (xs : List ℕ) → ((b : ℕ) → 1 ≤ count b xs → P b) → All P xs
  unfolding count
  standing-all [] p = tt
  standing-all (x ∷ xs) p = (p x (omega (arith, is_mark-same x x refl)), standing-all xs (λ b h. p b (omega arith)))
