-- The list of what a function gives for numbers in a row.
use Rattle.std.specs.Prelude.{List, [], ◌∷◌, ℕ, zero, suc}

-- what f gives for so many numbers, from k on
unfoldable pub from : {A : Type 0} → (ℕ → A) → ℕ → ℕ → List A
from f k zero = []
from f k (suc many) = f k ∷ from f (suc k) many
