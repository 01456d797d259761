-- A table's rule, proved at all of its entries at once: the table is computed to be the list of the rule's values, and this
-- law gives the rule at each entry. By induction on the number of entries.
use mathlib.Core.Path.{◌≡◌, ap, ◌∙◌, sym}
use mathlib.Core.List.{List, [], ◌∷◌}
use Prim.Native.Nat.{ℕ, zero, suc, ◌+◌, ◌<◌}
use native.Mathlib.Nat.{add-zero, zero-add, add-suc, suc-add, le_of_suc-le-suc, not-suc-le-zero}
use lib.ListN.{get_or}

-- the values of a rule at `many` places from `first` on
abbrev pub values_from : (ℕ → ℕ) → ℕ → ℕ → List ℕ
values_from rule first zero = []
values_from rule first (suc many) = rule first ∷ values_from rule (suc first) many

values-from-at : (rule : ℕ → ℕ) (first many place : ℕ) → place < many → get_or (values_from rule first many) place 0 ≡ rule (first + place)
values-from-at rule first zero place below = absurd (not-suc-le-zero below)
values-from-at rule first (suc many) zero below = ap rule (sym (add-zero first))
values-from-at rule first (suc many) (suc place) below =
    values-from-at rule (suc first) many place (le_of_suc-le-suc below) ∙ ap rule (suc-add first place ∙ sym (add-suc first place))

-- what stands at a place of the table of a rule
pub values-at : (rule : ℕ → ℕ) (many place : ℕ) → place < many → get_or (values_from rule 0 many) place 0 ≡ rule place
values-at rule many place below = values-from-at rule 0 many place below ∙ ap rule (zero-add place)
