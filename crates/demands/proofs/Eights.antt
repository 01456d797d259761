-- Frames of eight bytes, one behind the other and cut again: each stands where those before it end.
use mathlib.Core.Path.{◌≡◌, refl, sym, ap, ap₂, ◌∙◌}
use mathlib.Core.List.{List, [], ◌∷◌, ◌++◌, map, append_assoc}
use Prim.Native.Nat.{ℕ, suc, ◌*◌, ◌/◌}
use native.Mathlib.Omega.{arith}
use lib.ListN.{length, take, drop, length-append}
use lib.Seq.{take_at, drop_at}
use Rattle.geometry.specs.Limits.{frame_size}
use Rattle.lists.specs.Froms.{from}
use Rattle.lists.specs.Joins.{joined}
use Rattle.call_run.specs.Runs.{eights}

module _ {A : Type 0} (f : A → List ℕ) (eight : (x : A) → length (f x) ≡ frame_size) where
  pub length-of-frames : (xs : List A) → length (joined f xs) ≡ frame_size * length xs
  length-of-frames [] = refl
  length-of-frames (x ∷ xs) = omega (arith, length-append (f x) (joined f xs), eight x, length-of-frames xs)

  -- from the frame number n on, where so many stand before
  cut-from : (before : List ℕ) (n : ℕ) (xs : List A) → length before ≡ frame_size * n
      → from (λ k. take frame_size (drop (frame_size * k) (before ++ joined f xs))) n (length xs) ≡ map f xs
  unfolding from
  cut-from before n [] long = refl
  cut-from before n (x ∷ xs) long =
      ap₂ (λ frame frames. frame ∷ frames)
      (ap (take frame_size) (drop_at before (f x ++ joined f xs) (frame_size * n) long) ∙ take_at (f x) (joined f xs) frame_size (eight x))
      (ap (λ bytes. from (λ k. take frame_size (drop (frame_size * k) bytes)) (suc n) (length xs)) (sym (append_assoc before (f x) (joined f xs)))
      ∙ cut-from (before ++ f x) (suc n) xs (omega (arith, length-append before (f x), eight x)))

  pub cut-frames : (xs : List A) → eights (joined f xs) ≡ map f xs
  unfolding eights
  cut-frames xs =
      let many : length (joined f xs) / frame_size ≡ length xs = omega (arith, length-of-frames xs) in
      rw many (cut-from [] 0 xs refl)
