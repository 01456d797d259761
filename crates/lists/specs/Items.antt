-- What holds of every item of a list.
use Rattle.std.specs.Prelude.{List, [], ◌∷◌, ℕ, ◌<◌}

-- P holds of each
abbrev pub All : {A : Type 0} → (A → Type 0) → List A → Type 0
All P [] = Unit {0}
All P (x ∷ xs) = P x × All P xs

-- each of the numbers is below σ
abbrev pub AllBelow : ℕ → List ℕ → Type 0
AllBelow σ xs = All (λ x. x < σ) xs
