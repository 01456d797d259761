-- Blocks given back to the map: each is free then, and the rest of the map is as before.
use mathlib.Core.Path.{◌≡◌, refl, sym, ap, ◌∙◌}
use mathlib.Core.List.{List}
use mathlib.Core.Logic.{inl, inr, ⊎_elim}
use Prim.Native.Nat.{ℕ, ◌+◌, ◌≤◌}
use native.Mathlib.Omega.{arith}
use lib.ListN.{length, get_or, length-set}
use lib.Seq.{get_or-set_same, get_or-set_other}
use Rattle.sequence.proofs.Counts.{is_mark-same, is_mark-cases, is_mark-le-one}
use Rattle.sequence.specs.Definition1.{is_mark}
use Rattle.pool_holders.specs.Maps.{is_free, GivenBack, Freed}

module _ (block : ℕ) (m n : List ℕ) (given : GivenBack block m n) where
  at_block : get_or n block 0 ≡ 0
  at_block = ap (λ (l : List ℕ). get_or l block 0) given.freed ∙ get_or-set_same m block 0 0 given.inside

  elsewhere : (x : ℕ) → (x ≡ block → ⊥) → get_or n x 0 ≡ get_or m x 0
  elsewhere x other = ap (λ (l : List ℕ). get_or l x 0) given.freed ∙ get_or-set_other m block x 0 0 other

  -- one block more is free, if it was held
  pub given-blocks : is_free m block ≡ 0 → (x : ℕ) → is_free n x ≡ is_free m x + is_mark x block
  unfolding is_free
  given-blocks held x =
      ⊎_elim
      (λ w.
      let now : get_or n x 0 ≡ 0 = ap (λ (y : ℕ). get_or n y 0) (sym w.0) ∙ at_block in
      let was : is_mark 0 (get_or m x 0) ≡ 0 = ap (λ (y : ℕ). is_mark 0 (get_or m y 0)) (sym w.0) ∙ held in
      omega (arith, w.1, is_mark-same 0 (get_or n x 0) now))
      (λ w. omega (arith, w.1, ap (is_mark 0) (elsewhere x (λ e. w.0 (sym e)))))
      (is_mark-cases x block)

  pub given-freed : Freed m n
  given-freed =
      record {
        long = ap length given.freed ∙ length-set m block 0;
        each = λ x.
            ⊎_elim (λ w. inr (ap (λ (y : ℕ). get_or n y 0) w.0 ∙ at_block)) (λ w. inl (elsewhere x w.0)) (is_mark-cases block x);
      }

pub freed-none : (m : List ℕ) → Freed m m
freed-none m = record { long = refl; each = λ x. inl refl }

pub freed-then : (l m n : List ℕ) → Freed l m → Freed m n → Freed l n
freed-then l m n f g =
    record {
      long = g.long ∙ f.long;
      each = λ x. ⊎_elim (λ same. ⊎_elim (λ before. inl (same ∙ before)) (λ zero. inr (same ∙ zero)) (f.each x)) (λ zero. inr zero) (g.each x);
    }

-- no block is taken
pub freed-grows : (m n : List ℕ) → Freed m n → (x : ℕ) → is_free m x ≤ is_free n x
unfolding is_free
freed-grows m n f x =
    ⊎_elim (λ same. omega (arith, ap (is_mark 0) same))
    (λ zero. omega (arith, is_mark-same 0 (get_or n x 0) zero, is_mark-le-one 0 (get_or m x 0)))
    (f.each x)
