-- A level that the code tested: what holds at a leaf's, or at any branch's with the level below it; and the least and the most entries there.
use mathlib.Core.Path.{◌≡◌, refl, sym, subst}
use Prim.Native.Nat.{ℕ, zero, suc, ◌-◌, ◌<◌}
use native.Mathlib.Omega.{arith}
use Rattle.geometry.specs.Layout.{most_leaf, least_branch, most_branch}
use Rattle.shape.specs.Sizes.{one_to_a_byte, least, most}

pub at_leaf : (P : ℕ → Type 0) (level : ℕ) → level ≡ 0 → P 0 → P level
at_leaf P level leaf p = subst P (sym leaf) p

pub at-branch : (P : ℕ → ℕ → Type 0) (level : ℕ) → (level ≡ 0 → ⊥) → ((h : ℕ) → P (suc h) h) → P level (level - 1)
at-branch P zero branch p = absurd (branch refl)
at-branch P (suc h) branch p = let e : h ≡ suc h - 1 = omega arith in subst (P (suc h)) e (p h)

-- the level below a branch's is lower
pub level-falls : (level t : ℕ) → level ≡ t → (level ≡ 0 → ⊥) → level - 1 < t
level-falls level t is branch = at-branch (λ l d. l ≡ t → d < t) level branch (λ h e. omega arith) is

-- a leaf
pub most-leaf : (h : ℕ) → h ≡ 0 → most_leaf ≡ most one_to_a_byte h
most-leaf h leaf = at_leaf (λ l. most_leaf ≡ most one_to_a_byte l) h leaf refl

-- a branch
pub least-branch : (h : ℕ) → (h ≡ 0 → ⊥) → least_branch ≡ least one_to_a_byte h
least-branch h branch = at-branch (λ l d. least_branch ≡ least one_to_a_byte l) h branch (λ d. refl)

pub most-branch : (h : ℕ) → (h ≡ 0 → ⊥) → most_branch ≡ most one_to_a_byte h
most-branch h branch = at-branch (λ l d. most_branch ≡ most one_to_a_byte l) h branch (λ d. refl)
