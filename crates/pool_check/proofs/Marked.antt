-- What a map says after blocks were met, and what it means that each of them was new: no block twice, and none that the map had before.
use mathlib.Core.List.{List, [], ◌∷◌}
use mathlib.Core.Logic.{⊎_elim}
use mathlib.Core.Path.{◌≡◌, refl, sym, ◌∙◌}
use Prim.Native.Nat.{ℕ, ◌≤◌, ◌<◌}
use native.Mathlib.Nat.{eq-zero-or-pos}
use native.Mathlib.Omega.{arith}
use lib.ListN.{length, get_or, set, length-set}
use lib.Seq.{get_or-set_same, get_or-set_other}
use Rattle.lists.specs.Items.{AllBelow}
use Rattle.pool.specs.Sound.{Distinct}
use Rattle.sequence.proofs.Counts.{is_mark-cases, is_mark-same}
use Rattle.sequence.specs.Definition1.{count}
use Rattle.pool_check.specs.Walks.{meet, New}

module _ (tag : ℕ) where
  pub meet-length : (m bs : List ℕ) → length (meet tag m bs) ≡ length m
  meet-length m [] = refl
  meet-length m (x ∷ bs) = meet-length (set m x tag) bs ∙ length-set m x tag

  -- a block that isn't among them, and one that is
  pub meet-other : (m bs : List ℕ) (b : ℕ) → count b bs ≡ 0 → get_or (meet tag m bs) b 0 ≡ get_or m b 0
  unfolding count
  meet-other m [] b none = refl
  meet-other m (x ∷ bs) b none =
      meet-other (set m x tag) bs b (omega arith)
      ∙ ⊎_elim (λ w. absurd (omega (arith, w.1))) (λ w. get_or-set_other m x b tag 0 (λ (e : b ≡ x). w.0 (sym e))) (is_mark-cases b x)

  pub meet-same : (m bs : List ℕ) (b : ℕ) → b < length m → 1 ≤ count b bs → get_or (meet tag m bs) b 0 ≡ tag
  unfolding count
  meet-same m [] b inside some = absurd (omega arith)
  meet-same m (x ∷ bs) b inside some =
      ⊎_elim
      (λ (none : count b bs ≡ 0). meet-other (set m x tag) bs b none
      ∙ ⊎_elim (λ w. rw w.0 (get_or-set_same m b tag 0 inside)) (λ w. absurd (omega (arith, w.1))) (is_mark-cases b x))
      (λ (more : 0 < count b bs). meet-same (set m x tag) bs b (omega (arith, length-set m x tag)) more) (eq-zero-or-pos (count b bs))

  -- new blocks are not in the map
  pub new-clear : (m bs : List ℕ) → New tag m bs → (b : ℕ) → 1 ≤ count b bs → get_or m b 0 ≡ 0
  unfolding count
  new-clear m [] new b some = absurd (omega arith)
  new-clear m (x ∷ bs) new b some =
      ⊎_elim (λ w. rw w.0 at new.0)
      (λ w. sym (get_or-set_other m x b tag 0 (λ (e : b ≡ x). w.0 (sym e))) ∙ new-clear (set m x tag) bs new.1 b (omega (arith, w.1))) (is_mark-cases b x)

  -- and none of them stands twice
  pub new-distinct : (m bs : List ℕ) → 1 ≤ tag → AllBelow (length m) bs → New tag m bs → Distinct bs
  unfolding count
  new-distinct m [] low inside new b = omega arith
  new-distinct m (x ∷ bs) low inside new b =
      let rest : count b bs ≤ 1 = new-distinct (set m x tag) bs low (rw length-set inside.1) new.1 b in
      ⊎_elim
      (λ w. ⊎_elim (λ (none : count b bs ≡ 0). omega (arith, w.1))
      (λ (more : 0 < count b bs).
      let at_x : x < length m = inside.0 in
      let here : get_or (set m b tag) b 0 ≡ tag = get_or-set_same m b tag 0 (rw w.0 at at_x) in
      let clear : get_or (set m b tag) b 0 ≡ 0 = new-clear (set m b tag) bs (rw w.0 at new.1) b more in
      absurd (omega arith)) (eq-zero-or-pos (count b bs)))
      (λ w. omega (arith, w.1, rest)) (is_mark-cases b x)

  -- the other way round
  pub distinct-new : (m bs : List ℕ) → Distinct bs → ((b : ℕ) → 1 ≤ count b bs → get_or m b 0 ≡ 0) → New tag m bs
  unfolding count
  distinct-new m [] once clear = tt
  distinct-new m (x ∷ bs) once clear = (
    clear x (omega (arith, is_mark-same x x refl)),
    distinct-new (set m x tag) bs (λ b. omega (arith, once b))
        (λ b some.
        let other : b ≡ x → ⊥ = λ (e : b ≡ x). omega (arith, once b, is_mark-same b x (sym e)) in
        get_or-set_other m x b tag 0 other ∙ clear b (omega arith)),
  )
