-- Answers that decide a statement exactly.
use mathlib.Core.Bool.{Bool, true, false, false≢true}
use mathlib.Core.Path.{◌≡◌, refl, sym, ◌∙◌}
use Prim.Native.Nat.{ℕ, ◌≤◌}
use lib.Dec.{eqb, leb}
use borrow.Author.Tests.{eq-eqb, eqb-true, le-leb, leb-true}
use Rattle.pool_check.specs.Says.{Says}

-- false is not true
pub never : {A : Type 0} → false ≡ true → A
never e = absurd (false≢true e)

pub not-both : (r : Bool) → r ≡ true → r ≡ false → ⊥
not-both r so not = false≢true (sym not ∙ so)

module _ {A : Type 0} where
  pub say-yes : A → Says true A
  say-yes a = record { sound = λ e. a; complete = λ a'. refl }

  pub say-no : (A → ⊥) → Says false A
  say-no not = record { sound = λ e. never e; complete = λ a. absurd (not a) }

  -- what was answered false does not hold
  pub denied : {r : Bool} → Says r A → r ≡ false → A → ⊥
  denied {r} says not a = not-both r (says.complete a) not

-- the same answer to a statement that holds just where the first does
pub say-same : {A B : Type 0} {r : Bool} → (A → B) → (B → A) → Says r A → Says r B
say-same to back says = record { sound = λ e. to (says.sound e); complete = λ b. says.complete (back b) }

-- whether two numbers are equal
pub say-equal : (m n : ℕ) → Says (eqb m n) (m ≡ n)
say-equal m n = record { sound = eqb-true m n; complete = eq-eqb m n }

-- whether a number is at most another
pub say-at-most : (m n : ℕ) → Says (leb m n) (m ≤ n)
say-at-most m n = record { sound = leb-true m n; complete = le-leb m n }
