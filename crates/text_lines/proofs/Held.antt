-- A line that is held: what its kept bytes tell of it, and whether it is a line that no line feed ends.
use mathlib.Core.Bool.{Bool}
use mathlib.Core.Path.{◌≡◌, refl, ap, ◌∙◌}
use mathlib.Core.List.{List, [], ◌∷◌, ◌++◌, append-nil}
use Prim.Native.Nat.{ℕ, ◌≤◌, ◌<◌, min}
use native.Mathlib.Decide.{dec_le}
use native.Mathlib.Omega.{arith}
use lib.ListN.{length, take}
use lib.Seq.{take_all}
use Rattle.text_lines.specs.declared.Gathered.{Gathered}
use Rattle.text_lines.specs.Lines.{ended, left, last_line, lines_of, Holds}

-- What a held line tells. The kept bytes stand for it in whatever doesn't look past the buffer's end.
module _ {A : Type 0} (f : List ℕ → A) (line : List ℕ) (s : Gathered) (keep : List ℕ) (h : Holds line s keep)
    (none-past : length keep < length line → f (take (length keep) line) ≡ f line) where
  front-tells : Dec (length line ≤ length keep) → f (take (min (length keep) (length line)) line) ≡ f line
  front-tells (yes short) =
      let all : length line ≤ min (length keep) (length line) = omega arith in
      ap f (take_all (min (length keep) (length line)) line all)
  front-tells (no long) =
      let cut : min (length keep) (length line) ≡ length keep = omega (arith, long) in
      rw cut (none-past (omega (arith, long)))

  pub kept-tells : f (take s.kept keep) ≡ f line
  kept-tells = ap f h.bytes ∙ ap (λ k. f (take k line)) h.kept ∙ front-tells (dec_le (length line) (length keep))

nil-of-length : (line : List ℕ) → length line ≡ 0 → line ≡ []
nil-of-length [] e = refl
nil-of-length (b ∷ bs) e = absurd (omega arith)

no-last-line : (line : List ℕ) (s : Gathered) (keep : List ℕ) → Holds line s keep → s.length ≡ 0 → last_line line ≡ []
no-last-line line s keep h e = ap last_line (nil-of-length line (omega arith))

last_line_lem : (line : List ℕ) (s : Gathered) (keep : List ℕ) → Holds line s keep → (s.length ≡ 0 → ⊥) → last_line line ≡ line ∷ []
last_line_lem [] s keep h some = absurd (some (omega arith))
last_line_lem (b ∷ bs) s keep h some = refl

-- the length tells whether the input has a line more than those that end in it
module _ (r : Bool) (input : List ℕ) (s : Gathered) (keep : List ℕ) (h : Holds (left [] input) s keep) where
  pub lines-all-ended : s.length ≡ 0 → lines_of r input ≡ ended r [] input
  unfolding lines_of
  lines-all-ended none = ap (λ l. ended r [] input ++ l) (no-last-line (left [] input) s keep h none) ∙ append-nil (ended r [] input)

  pub lines-one-open : (s.length ≡ 0 → ⊥) → lines_of r input ≡ ended r [] input ++ (left [] input ∷ [])
  unfolding lines_of
  lines-one-open some = ap (λ l. ended r [] input ++ l) (last_line_lem (left [] input) s keep h some)
