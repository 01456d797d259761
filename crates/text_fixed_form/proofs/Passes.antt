-- One step of a pass over the columns of a line, for the test that stops at the first that isn't blank.
use mathlib.Core.Bool.{true, false}
use mathlib.Core.Path.{◌≡◌}
use mathlib.Core.List.{List}
use Prim.Native.Nat.{ℕ, ◌+◌, ◌≤◌, ◌<◌}
use borrow.Author.Tests.{eq-eqb, ne_eqb}
use lib.ListN.{length, get_or, drop, drop_of_length-le}
use Rattle.lists.proofs.Cuts.{drop-next}
use Rattle.text_fixed_form.specs.Mark.{blank, all_blank}

module _ (line : List ℕ) (i : ℕ) where
  -- past the last column
  pub all-blank-end : length line ≤ i → all_blank (drop i line) ≡ true
  unfolding all_blank
  all-blank-end h = rw (drop_of_length-le line h)

  -- at a blank the rest decides
  pub all-blank-next : i < length line → get_or line i 0 ≡ blank → all_blank (drop i line) ≡ all_blank (drop (i + 1) line)
  unfolding all_blank
  all-blank-next h e = rw (drop-next line i h, eq-eqb _ _ e)

  -- another byte decides
  pub all-blank-stop : i < length line → (get_or line i 0 ≡ blank → ⊥) → all_blank (drop i line) ≡ false
  unfolding all_blank
  all-blank-stop h e = rw (drop-next line i h, ne_eqb _ _ e)
