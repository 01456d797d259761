-- The order of refusals: where the statuses of a list ascend, the first row that applies has the lowest status that applies.
-- By induction on the list, with the outcome of its first row's test at hand.
use mathlib.Core.Bool.{Bool, true, false, cond, true≢false}
use mathlib.Core.List.{List, [], ◌∷◌, ◌++◌}
use mathlib.Core.Logic.{◌≢◌, inl, inr, ⊎_elim}
use mathlib.Core.Path.{◌≡◌, refl, sym, ◌∙◌}
use Prim.Native.Nat.{ℕ, ◌≤◌, ◌<◌}
use native.Mathlib.Omega.{arith}
use Rattle.protocol.specs.Refusals.{Refusal, applies, first_of, NoneApplies, SomeApplies, Lowest}
use Rattle.protocol.specs.State.{Part}
use Rattle.protocol.specs.declared.Command.{Command}

-- the statuses ascend from above a least one
abbrev pub Ascending : {A : Type 0} → ℕ → List (Refusal A) → Type 0
Ascending least [] = Unit {0}
Ascending least (r ∷ rs) = (least < r.status) × Ascending r.status rs

module _ {A : Type 0} (free : ℕ) (part : Part A) (c : Command) where
  -- what the first row's test decides
  by_first : (P : ℕ → Type 0) (r : Refusal A) (rs : List (Refusal A))
      → (applies r free part c ≡ true → P r.status)
      → (applies r free part c ≡ false → P (first_of rs free part c))
      → P (first_of (r ∷ rs) free part c)
  by_first P r rs holds fails = go (applies r free part c) refl
    where
      go : (t : Bool) → applies r free part c ≡ t → P (cond t r.status (first_of rs free part c))
      go true e = holds e
      go false e = fails e

  -- a status that applies is above the least
  applies-above : (least : ℕ) (rs : List (Refusal A)) (status : ℕ) → Ascending least rs → SomeApplies rs free part c status → least < status
  applies-above least [] status up found = absurd found
  applies-above least (r ∷ rs) status up found =
      ⊎_elim
      (λ here. omega (arith, here.0))
      (λ later. omega (arith, applies-above r.status rs status up.1 later))
      found

  -- the first status is 0 or above the least
  first_above : (least : ℕ) (rs : List (Refusal A)) → Ascending least rs → (first_of rs free part c ≢ 0) → least < first_of rs free part c
  first_above least [] up = λ some. absurd (some refl)
  first_above least (r ∷ rs) up =
      by_first (λ status. status ≢ 0 → least < status) r rs
      (λ holds some. up.0)
      (λ fails some. omega (arith, first_above r.status rs up.1 some))

  -- the status that is given applies
  pub first-applies : (rs : List (Refusal A)) → first_of rs free part c ≢ 0 → SomeApplies rs free part c (first_of rs free part c)
  first-applies [] = λ some. absurd (some refl)
  first-applies (r ∷ rs) =
      by_first (λ status. status ≢ 0 → SomeApplies (r ∷ rs) free part c status) r rs
      (λ holds some. inl (refl, holds))
      (λ fails some. inr (first-applies rs some))

  -- no lower one does
  pub first-is-lowest : (least : ℕ) (rs : List (Refusal A)) → Ascending least rs → (other : ℕ) → SomeApplies rs free part c other → first_of rs free part c ≤ other
  first-is-lowest least [] up other found = absurd found
  first-is-lowest least (r ∷ rs) up other found =
      by_first (λ status. status ≤ other) r rs
      (λ holds. ⊎_elim (λ here. omega (arith, here.0)) (λ later. omega (arith, applies-above r.status rs other up.1 later)) found)
      (λ fails. ⊎_elim (λ here. absurd (true≢false (sym here.1 ∙ fails))) (λ later. first-is-lowest r.status rs up.1 other later) found)

  -- 0 is given only where none applies
  pub zero-only-if-none : (least : ℕ) (rs : List (Refusal A)) → Ascending least rs → first_of rs free part c ≡ 0 → NoneApplies rs free part c
  zero-only-if-none least [] up = λ none. tt
  zero-only-if-none least (r ∷ rs) up =
      by_first (λ status. status ≡ 0 → NoneApplies (r ∷ rs) free part c) r rs
      (λ holds none. absurd (omega arith))
      (λ fails none. (fails, zero-only-if-none r.status rs up.1 none))

  -- and wherever none applies
  pub zero-if-none : (rs : List (Refusal A)) → NoneApplies rs free part c → first_of rs free part c ≡ 0
  zero-if-none [] none = refl
  zero-if-none (r ∷ rs) none = rw none.0 (zero-if-none rs none.1)

  -- the number that an ascending list gives is the lowest that applies, and 0 exactly when none applies
  pub first-gives-lowest : (rs : List (Refusal A)) → Ascending 0 rs → Lowest rs free part c (first_of rs free part c)
  first-gives-lowest rs up =
      record {
        given = first-applies rs;
        lowest = first-is-lowest 0 rs up;
        none = zero-only-if-none 0 rs up;
        zero = zero-if-none rs;
      }

  -- a row's status is given exactly when the row applies and none before it does
  pub given-only-if : (least : ℕ) (before : List (Refusal A)) (r : Refusal A) (after : List (Refusal A)) → Ascending least (before ++ r ∷ after)
      → first_of (before ++ r ∷ after) free part c ≡ r.status → NoneApplies before free part c × (applies r free part c ≡ true)
  given-only-if least [] r after up =
      by_first (λ status. status ≡ r.status → Unit {0} × (applies r free part c ≡ true)) r after
      (λ holds is. (tt, holds))
      (λ fails is. absurd (omega (arith, first_above r.status after up.1 (λ none. omega arith))))
  given-only-if least (b ∷ bs) r after up =
      by_first (λ status. status ≡ r.status → NoneApplies (b ∷ bs) free part c × (applies r free part c ≡ true)) b (bs ++ r ∷ after)
      (λ holds is. absurd (omega (arith, status-above b.status bs up.1)))
      (λ fails is.
      let later = given-only-if b.status bs r after up.1 is in
      ((fails, later.0), later.1))
    where
      status-above : (low : ℕ) (xs : List (Refusal A)) → Ascending low (xs ++ r ∷ after) → low < r.status
      status-above low [] up' = up'.0
      status-above low (x ∷ xs) up' = omega (arith, status-above x.status xs up'.1)

  pub given-if : (before : List (Refusal A)) (r : Refusal A) (after : List (Refusal A)) → NoneApplies before free part c → applies r free part c ≡ true
      → first_of (before ++ r ∷ after) free part c ≡ r.status
  given-if [] r after none holds = rw holds
  given-if (b ∷ bs) r after none holds = rw none.0 (given-if bs r after none.1 holds)
