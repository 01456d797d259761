-- Blocks taken from the map: what is found is free, and entering it takes one from the free ones and nothing else.
use mathlib.Core.Path.{◌≡◌, refl, sym, ap, ◌∙◌}
use mathlib.Core.List.{List, [], ◌∷◌}
use mathlib.Core.Logic.{inl, inr, ⊎_elim}
use Prim.Native.Nat.{ℕ, zero, suc, ◌+◌, ◌-◌, ◌≤◌, ◌<◌}
use native.Mathlib.Omega.{arith}
use lib.ListN.{length, get_or, set, length-set}
use lib.Seq.{get_or-set_same, get_or-set_other}
use Rattle.sequence.specs.Definition1.{is_mark, count, access, select}
use Rattle.sequence.proofs.Counts.{is_mark-same, is_mark-other, is_mark-cases, is_mark-le-one}
use Rattle.sequence.proofs.Selects.{select-le-length, select-positive, access-select}
use Rattle.pool_holders.specs.Maps.{is_free, free_in, BlockTaken, Entered}

-- the first free block is found
module _ (m : List ℕ) (place : ℕ) (some : 1 ≤ free_in m) (is : place ≡ select 0 m 1) where
  pub found-place : 1 ≤ place
  found-place = omega (arith, select-positive 0 m 1 (omega arith) some)

  pub found_inside : place - 1 < length m
  found_inside = omega (arith, found-place, select-le-length 0 m 1)

  pub found-taken : (holder : ℕ) → BlockTaken holder (place - 1) m (set m (place - 1) holder)
  unfolding access
  found-taken holder =
      record {
        inside = found_inside;
        free = ap (λ (n : ℕ). get_or m (n - 1) 0) is ∙ access-select 0 m 1 (omega arith) some;
        entered = refl;
      }

-- a place that is free is no longer, and all others are as before
count_set : (m : List ℕ) (b holder : ℕ) → b < length m → get_or m b 0 ≡ 0 → 0 < holder → count 0 m ≡ count 0 (set m b holder) + 1
unfolding count
count_set [] b holder inside free named = absurd (omega arith)
count_set (x ∷ m) zero holder inside free named =
    let none : holder ≡ 0 → ⊥ = λ e. omega arith in
    omega (arith, is_mark-same 0 x free, is_mark-other 0 holder none)
count_set (x ∷ m) (suc b) holder inside free named = omega (arith, count_set m b holder (omega arith) free named)

module _ (holder b : ℕ) (m n : List ℕ) (named : 0 < holder) (taken : BlockTaken holder b m n) where
  pub taken-one : free_in m ≡ free_in n + 1
  taken-one = rw taken.entered (count_set m b holder taken.inside taken.free named)

  pub taken-long : length n ≡ length m
  taken-long = ap length taken.entered ∙ length-set m b holder

  pub taken_free : is_free m b ≡ 1
  unfolding is_free
  taken_free = is_mark-same 0 (get_or m b 0) taken.free

  -- one block is no longer free
  pub taken-blocks : (x : ℕ) → is_free n x + is_mark x b ≡ is_free m x
  unfolding is_free
  taken-blocks x =
      ⊎_elim
      (λ w.
      let at : get_or n x 0 ≡ holder = ap (λ (y : ℕ). get_or n y 0) (sym w.0) ∙ ap (λ (l : List ℕ). get_or l b 0) taken.entered ∙ get_or-set_same m b holder 0 taken.inside in
      let none : get_or n x 0 ≡ 0 → ⊥ = λ e. omega arith in
      let was : get_or m x 0 ≡ 0 = ap (λ (y : ℕ). get_or m y 0) (sym w.0) ∙ taken.free in
      omega (arith, w.1, is_mark-other 0 (get_or n x 0) none, is_mark-same 0 (get_or m x 0) was))
      (λ w.
      let at : get_or n x 0 ≡ get_or m x 0 = ap (λ (l : List ℕ). get_or l x 0) taken.entered ∙ get_or-set_other m b x holder 0 (λ e. w.0 (sym e)) in
      omega (arith, w.1, ap (is_mark 0) at))
      (is_mark-cases x b)

  pub taken-entered : Entered holder m n
  taken-entered =
      record {
        long = taken-long;
        each = λ x.
            ⊎_elim
            (λ w. inr (
              ap (λ (y : ℕ). get_or m y 0) w.0 ∙ taken.free,
              ap (λ (y : ℕ). get_or n y 0) w.0 ∙ ap (λ (l : List ℕ). get_or l b 0) taken.entered ∙ get_or-set_same m b holder 0 taken.inside,
            ))
            (λ w. inl (ap (λ (l : List ℕ). get_or l x 0) taken.entered ∙ get_or-set_other m b x holder 0 w.0))
            (is_mark-cases b x);
      }

pub entered-none : (holder : ℕ) (m : List ℕ) → Entered holder m m
entered-none holder m = record { long = refl; each = λ x. inl refl }

pub entered-then : (holder : ℕ) (l m n : List ℕ) → Entered holder l m → Entered holder m n → Entered holder l n
entered-then holder l m n f g =
    record {
      long = g.long ∙ f.long;
      each = λ x.
          ⊎_elim
          (λ same. ⊎_elim (λ before. inl (same ∙ before)) (λ w. inr (w.0, same ∙ w.1)) (f.each x))
          (λ w. ⊎_elim (λ before. inr (sym before ∙ w.0, w.1)) (λ v. inr (v.0, w.1)) (f.each x))
          (g.each x);
    }

-- no block becomes free
pub entered-falls : (holder : ℕ) (m n : List ℕ) → Entered holder m n → (x : ℕ) → is_free n x ≤ is_free m x
unfolding is_free
entered-falls holder m n e x =
    ⊎_elim (λ same. omega (arith, ap (is_mark 0) same))
    (λ w. omega (arith, is_mark-same 0 (get_or m x 0) w.0, is_mark-le-one 0 (get_or n x 0)))
    (e.each x)
