-- The columns past the last one that is read make no difference to the mark.
use mathlib.Core.Path.{◌≡◌, ap}
use mathlib.Core.List.{List}
use Prim.Native.Nat.{ℕ, ◌≤◌}
use lib.ListN.{take}
use lib.Seq.{take-take}
use Rattle.geometry.specs.Limits.{last_column}
use Rattle.text_fixed_form.specs.Mark.{mark_of, first_that_fits, rules}

-- a line cut behind the last column that is read keeps its mark
pub mark-of-kept : (line : List ℕ) (k : ℕ) → last_column ≤ k → mark_of (take k line) ≡ mark_of line
unfolding mark_of
mark-of-kept line k h = ap (λ (columns : List ℕ). first_that_fits (rules columns)) (take-take last_column k line h)
