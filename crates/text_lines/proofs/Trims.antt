-- What a final carriage return makes of the bytes of a line.
use mathlib.Core.Bool.{Bool, true, false, ◌&&◌, false≢true}
use mathlib.Core.Path.{◌≡◌, refl, ap, sym, ◌∙◌}
use mathlib.Core.List.{List, [], ◌∷◌, ◌++◌}
use Prim.Native.Nat.{ℕ, suc, ◌-◌}
use native.Mathlib.Omega.{arith}
use lib.Dec.{eqb}
use lib.ListN.{length, get_or, take, length-append}
use lib.Seq.{get_or-append_seam, take-append_seam, take-suc, take_all}
use borrow.Author.Tests.{eqb-true, eq-eqb, ne_eqb}
use Rattle.std.proofs.lemmas.Bool.{and_parts}
use Rattle.text_lines.specs.Lines.{carriage_return, trims, trim}

-- the last place of a list that has one byte more
last-place : (g : List ℕ) (b : ℕ) → length (g ++ (b ∷ [])) - 1 ≡ length g
last-place g b = rw length-append (omega arith)

-- a byte is trimmed off if it is a carriage return and the rule is on
pub trims-snoc : (r : Bool) (g : List ℕ) (b : ℕ) → trims r (g ++ (b ∷ [])) ≡ r && eqb b carriage_return
unfolding trims
trims-snoc r g b = rw (last-place g b, get_or-append_seam g b [] 0)

-- what is left where it is trimmed off
pub trim-snoc-return : (r : Bool) (g : List ℕ) (b : ℕ) → r && eqb b carriage_return ≡ true → trim r (g ++ (b ∷ [])) ≡ g
unfolding trim
trim-snoc-return r g b e = rw (trims-snoc r g b, e) (ap (λ (n : ℕ). take n (g ++ (b ∷ []))) (last-place g b) ∙ take-append_seam g (b ∷ []))

-- and where it isn't
pub trim-snoc-other : (r : Bool) (g : List ℕ) (b : ℕ) → r && eqb b carriage_return ≡ false → trim r (g ++ (b ∷ [])) ≡ g ++ (b ∷ [])
unfolding trim
trim-snoc-other r g b e = rw (trims-snoc r g b, e)

-- bytes of which nothing is trimmed off
pub trim-none : (r : Bool) (g : List ℕ) → trims r g ≡ false → trim r g ≡ g
unfolding trim
trim-none r g e = rw e

-- bytes whose last one is a carriage return
last-return : (g : List ℕ) → get_or g (length g - 1) 0 ≡ carriage_return → take (length g - 1) g ++ (carriage_return ∷ []) ≡ g
last-return [] e = absurd (omega arith)
last-return (b ∷ bs) e =
    ap (λ (x : ℕ). take (length (b ∷ bs) - 1) (b ∷ bs) ++ (x ∷ [])) (sym e)
    ∙ sym (take-suc (b ∷ bs) (length (b ∷ bs) - 1) 0 (omega arith))
    ∙ take_all (suc (length (b ∷ bs) - 1)) (b ∷ bs) (omega arith)

-- bytes of which a carriage return is trimmed off
pub trim-some : (r : Bool) (g : List ℕ) → trims r g ≡ true → trim r g ++ (carriage_return ∷ []) ≡ g
unfolding trim trims
trim-some r g e = rw e (last-return g (eqb-true _ _ (and_parts r _ e).1))

-- of no bytes nothing is trimmed off
pub trims-nil : (r : Bool) → trims r [] ≡ false
unfolding trims
trims-nil true = refl
trims-nil false = refl

-- the test of a byte: it waits if the rule is on and it is a carriage return
pub waits-return : (r : Bool) (b : ℕ) → r ≡ true → b ≡ carriage_return → r && eqb b carriage_return ≡ true
waits-return r b on same = rw on (eq-eqb b carriage_return same)

-- with the rule off none waits
pub rule-off : (r : Bool) (b : ℕ) → r ≡ false → r && eqb b carriage_return ≡ false
rule-off r b off = rw off

-- and no other byte does
pub other_byte : (r : Bool) (b : ℕ) → (b ≡ carriage_return → ⊥) → r && eqb b carriage_return ≡ false
other_byte true b h = ne_eqb b carriage_return h
other_byte false b h = refl
