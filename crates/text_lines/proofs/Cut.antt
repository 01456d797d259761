-- The lines that end in an input, and the bytes left after it, where the input is cut in two or its line feeds are known.
use mathlib.Core.Bool.{Bool, true, false, cond}
use mathlib.Core.Path.{◌≡◌, refl, ap, ◌∙◌}
use mathlib.Core.List.{List, [], ◌∷◌, ◌++◌, append_assoc, append-nil}
use Prim.Native.Nat.{ℕ}
use lib.Dec.{eqb}
use borrow.Author.Tests.{ne_eqb}
use Rattle.text_lines.specs.Lines.{line_feed, trim, ended, left, Plain}

-- the bytes left after two inputs, one after the other
pub left-append : (g xs ys : List ℕ) → left g (xs ++ ys) ≡ left (left g xs) ys
unfolding left
left-append g [] ys = refl
left-append g (b ∷ bs) ys = go (eqb b line_feed) (left-append [] bs ys) (left-append (g ++ (b ∷ [])) bs ys)
  where
    go : (t : Bool) →
        left [] (bs ++ ys) ≡ left (left [] bs) ys →
        left (g ++ (b ∷ [])) (bs ++ ys) ≡ left (left (g ++ (b ∷ [])) bs) ys →
        cond t (left [] (bs ++ ys)) (left (g ++ (b ∷ [])) (bs ++ ys)) ≡ left (cond t (left [] bs) (left (g ++ (b ∷ [])) bs)) ys
    go true p q = p
    go false p q = q

-- the lines that end in two inputs, one after the other
pub ended-append : (r : Bool) (g xs ys : List ℕ) → ended r g (xs ++ ys) ≡ ended r g xs ++ ended r (left g xs) ys
unfolding ended left
ended-append r g [] ys = refl
ended-append r g (b ∷ bs) ys = go (eqb b line_feed) (ended-append r [] bs ys) (ended-append r (g ++ (b ∷ [])) bs ys)
  where
    go : (t : Bool) →
        ended r [] (bs ++ ys) ≡ ended r [] bs ++ ended r (left [] bs) ys →
        ended r (g ++ (b ∷ [])) (bs ++ ys) ≡ ended r (g ++ (b ∷ [])) bs ++ ended r (left (g ++ (b ∷ [])) bs) ys →
        cond t (trim r g ∷ ended r [] (bs ++ ys)) (ended r (g ++ (b ∷ [])) (bs ++ ys))
        ≡ cond t (trim r g ∷ ended r [] bs) (ended r (g ++ (b ∷ [])) bs) ++ ended r (cond t (left [] bs) (left (g ++ (b ∷ [])) bs)) ys
    go true p q = ap (λ (l : List (List ℕ)). trim r g ∷ l) p
    go false p q = q

-- no line ends in a piece without a line feed
pub ended-plain : (r : Bool) (g piece : List ℕ) → Plain piece → ended r g piece ≡ []
unfolding ended
ended-plain r g [] p = refl
ended-plain r g (b ∷ bs) p = rw (ne_eqb b line_feed p.0) (ended-plain r (g ++ (b ∷ [])) bs p.1)

-- and all of it is left
pub left-plain : (g piece : List ℕ) → Plain piece → left g piece ≡ g ++ piece
unfolding left
left-plain g [] p = rw append-nil
left-plain g (b ∷ bs) p =
    rw (ne_eqb b line_feed p.0) (left-plain (g ++ (b ∷ [])) bs p.1 ∙ append_assoc g (b ∷ []) bs)

-- a piece with its line feed is one line
pub ended-line : (r : Bool) (g piece : List ℕ) → Plain piece → ended r g (piece ++ (line_feed ∷ [])) ≡ trim r (g ++ piece) ∷ []
unfolding ended
ended-line r g piece p =
    rw (ended-append r g piece (line_feed ∷ []), ended-plain r g piece p, left-plain g piece p)

-- and nothing is left
pub left-line : (g piece : List ℕ) → Plain piece → left g (piece ++ (line_feed ∷ [])) ≡ []
unfolding left
left-line g piece p = left-append g piece (line_feed ∷ [])
