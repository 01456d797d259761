-- What holds of each row of the table of commands holds of the row of a command.
use mathlib.Core.Bool.{Bool, true, false, cond}
use mathlib.Core.List.{List, [], ◌∷◌, map}
use mathlib.Core.Path.{◌≡◌, refl, sym, subst}
use Prim.Native.Nat.{ℕ}
use borrow.Author.Tests.{eqb-true}
use lib.Dec.{eqb}
use Rattle.protocol.specs.Commands.{Row, row, row_of, answers_value}
use Rattle.protocol.specs.declared.Command.{Command}

-- the command with another code
abbrev pub with_code : ℕ → Command → Command
with_code code c = record { code = code; name = c.name; symbol = c.symbol; fourth = c.fourth; number = c.number }

module _ {A : Type 0} (P : ℕ → Row A → Type 0) where
  -- each row has the property, with its code
  abbrev pub EachRow : List (Row A) → Type 0
  EachRow [] = Unit {0}
  EachRow (r ∷ rs) = P r.code r × EachRow rs

  pub by_row : (code : ℕ) (rs : List (Row A)) → EachRow rs → P code (row_of code []) → P code (row_of code rs)
  by_row code [] each unlisted = unlisted
  by_row code (r ∷ rs) each unlisted = go (eqb code r.code) refl (by_row code rs each.1 unlisted)
    where
      go : (t : Bool) → eqb code r.code ≡ t → P code (row_of code rs) → P code (cond t r (row_of code rs))
      go true is later = subst (λ code'. P code' r) (sym (eqb-true code r.code is)) each.0
      go false other later = later

-- a row without its effect, for tables that differ in nothing else
abbrev pub columns_of : {A : Type 0} → Row A → Row (Unit {0})
columns_of r = row r.code r.uses_symbol r.uses_number r.in_range (λ free part c. answers_value 0 part)

pub columns-of-row : {A : Type 0} (code : ℕ) (rs : List (Row A)) → columns_of (row_of code rs) ≡ row_of code (map columns_of rs)
columns-of-row code [] = refl
columns-of-row code (r ∷ rs) = go (eqb code r.code) (columns-of-row code rs)
  where
    go : (t : Bool) → columns_of (row_of code rs) ≡ row_of code (map columns_of rs)
        → columns_of (cond t r (row_of code rs)) ≡ cond t (columns_of r) (row_of code (map columns_of rs))
    go true later = refl
    go false later = later

module _ {A B : Type 0} (P : ℕ → Row A → Row B → Type 0) where
  -- two tables have the same codes, and row by row the property
  abbrev pub EachPair : List (Row A) → List (Row B) → Type 0
  EachPair [] [] = Unit {0}
  EachPair [] (r' ∷ rs') = ⊥
  EachPair (r ∷ rs) [] = ⊥
  EachPair (r ∷ rs) (r' ∷ rs') = (r.code ≡ r'.code) × P r.code r r' × EachPair rs rs'

  pub by-pair : (code : ℕ) (rs : List (Row A)) (rs' : List (Row B)) → EachPair rs rs' → P code (row_of code []) (row_of code [])
      → P code (row_of code rs) (row_of code rs')
  by-pair code [] [] each unlisted = unlisted
  by-pair code [] (r' ∷ rs') each unlisted = absurd each
  by-pair code (r ∷ rs) [] each unlisted = absurd each
  by-pair code (r ∷ rs) (r' ∷ rs') each unlisted =
      subst (λ code'. P code (row_of code (r ∷ rs)) (cond (eqb code code') r' (row_of code rs'))) each.0
      (go (eqb code r.code) refl (by-pair code rs rs' each.2 unlisted))
    where
      go : (t : Bool) → eqb code r.code ≡ t → P code (row_of code rs) (row_of code rs')
          → P code (cond t r (row_of code rs)) (cond t r' (row_of code rs'))
      go true is later = subst (λ code'. P code' r r') (sym (eqb-true code r.code is)) each.1
      go false other later = later
