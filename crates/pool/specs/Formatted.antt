-- A formatted pool.
use Rattle.std.specs.Prelude.{List, ◌∷◌, ℕ, ◌-◌, replicate}
use Rattle.geometry.specs.Layout.{layout_number}

-- so many bytes, the layout's number first and zeros behind it
unfoldable pub formatted : ℕ → List ℕ
formatted bytes = layout_number ∷ replicate (bytes - 1) 0
