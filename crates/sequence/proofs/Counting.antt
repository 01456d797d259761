-- What the loops over marks know at each turn: how many of those passed are a symbol, and where in the rest a mark is sought.
use mathlib.Core.Path.{◌≡◌, refl, ap, ◌∙◌}
use mathlib.Core.Bool.{Bool, true, false, cond}
use mathlib.Core.List.{List, ◌++◌}
use Prim.Native.Nat.{ℕ, ◌+◌, ◌-◌, ◌≤◌, ◌<◌}
use native.Mathlib.Numerals.{add-one}
use native.Mathlib.Omega.{arith}
use lib.Dec.{eqb}
use lib.ListN.{length, get_or, take, drop, length-drop}
use mir.Syntax.{w8, w64}
use mir.Val.{Fits, bool_byte}
use Rattle.lists.proofs.Measures.{measure-step}
use Rattle.sequence.specs.Definition1.{is_mark, count, rank, select}
use Rattle.sequence.proofs.Counts.{count-one, count-additive, count-take-le, count-le-length, is_mark-same, is_mark-other}
use Rattle.sequence.proofs.Ranks.{rank-le-place, rank-past}
use Rattle.sequence.proofs.Selects.{select-zero, select-step, select-le-length}

-- the outcome of a test as a number
byte-cond : (b : Bool) → bool_byte b ≡ cond {A = ℕ} b 1 0
byte-cond true = refl
byte-cond false = refl

-- marks counted one at a time, where they are at most 255
module _ (c : ℕ) (xs : List ℕ) (i met one : ℕ) (so_far : met ≡ rank c xs i) (below : i < length xs)
    (is : one ≡ bool_byte (eqb (get_or xs i 0) c)) where
  pub counted_more : met + one ≡ rank c xs (i + 1)
  unfolding rank
  counted_more =
      rw add-one
      (omega (arith, byte-cond (eqb (get_or xs i 0) c), count-one c (get_or xs i 0), measure-step (count c) (count-additive c) xs i below))

  pub counted-fits : length xs ≤ 255 → Fits w8 (met + one)
  counted-fits short = record { fits = omega (arith, counted_more, rank-le-place c xs (i + 1)) }

-- the whole
pub counted-all : (c : ℕ) (xs : List ℕ) (i met r : ℕ) → r ≡ met → met ≡ rank c xs i → length xs ≤ i → r ≡ count c xs
counted-all c xs i met r is so_far end = is ∙ so_far ∙ rank-past c xs i end

-- marks counted a piece at a time: what was met and what is in the rest are all of them
module _ (c all met more : ℕ) (rest piece rest' : List ℕ) (so_far : met + count c rest ≡ all) (cut : rest ≡ piece ++ rest')
    (is : more ≡ count c piece) where
  pub pieces-more : met + more + count c rest' ≡ all
  pieces-more = omega (arith, ap (count c) cut, count-additive c piece rest')

  pub piece-fits : (to : ℕ) → all ≤ to → Fits w64 to → Fits w64 (met + more)
  piece-fits to few long = record { fits = omega (arith, pieces-more) }

pub pieces-all : (c all met : ℕ) (rest : List ℕ) → met + count c rest ≡ all → length rest ≡ 0 → met ≡ all
pieces-all c all met rest so_far none = omega (arith, count-le-length c rest)

-- and those of a stretch are no more than its end says
pub stretch-few : (c from to : ℕ) (xs : List ℕ) → count c (take (to - from) (drop from xs)) ≤ to
stretch-few c from to xs = omega (arith, count-take-le c (to - from) (drop from xs))

-- the j-th c stands `place` marks on from the `left`-th in the rest
module _ (c : ℕ) (xs : List ℕ) (j place left : ℕ) (so_far : select c xs j ≡ place + select c (drop place xs) left) where
  -- one mark more
  sought-more : (next : ℕ) → place < length xs → (left ≡ 0 → ⊥) → next ≡ left - is_mark c (get_or xs place 0)
      → select c xs j ≡ place + 1 + select c (drop (place + 1) xs) next
  sought-more next below some is = omega (arith, select-step c xs place left next below (omega (arith, some)) is)

  pub sought-same : place < length xs → (left ≡ 0 → ⊥) → get_or xs place 0 ≡ c
      → select c xs j ≡ place + 1 + select c (drop (place + 1) xs) (left - 1)
  sought-same below some same = sought-more (left - 1) below some (omega (arith, is_mark-same c (get_or xs place 0) same))

  pub sought-other : place < length xs → (left ≡ 0 → ⊥) → (get_or xs place 0 ≡ c → ⊥)
      → select c xs j ≡ place + 1 + select c (drop (place + 1) xs) left
  sought-other below some other = sought-more left below some (omega (arith, is_mark-other c (get_or xs place 0) other))

  -- none is left to meet
  pub sought-met : left ≡ 0 → place ≡ select c xs j
  sought-met none = omega (arith, so_far, ap (select c (drop place xs)) none, select-zero c (drop place xs))

  -- or no mark
  pub sought-past : length xs ≤ place → place ≤ length xs → length xs ≡ select c xs j
  sought-past over within = omega (arith, so_far, select-le-length c (drop place xs) left, length-drop place xs)
