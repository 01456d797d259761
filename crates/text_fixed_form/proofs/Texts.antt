-- One step of the comparison of a word with the text of a line's columns: some letters of the word are left, and i columns passed.
use mathlib.Core.Bool.{true, false, ◌&&◌}
use mathlib.Core.Path.{◌≡◌, refl, sym, ap, ◌∙◌}
use mathlib.Core.List.{List, [], ◌∷◌}
use Prim.Native.Nat.{ℕ, ◌+◌, ◌≤◌, ◌<◌}
use native.Mathlib.Omega.{arith}
use borrow.Author.Tests.{eq-eqb, ne_eqb}
use lib.Dec.{eqb}
use lib.ListN.{length, get_or, drop, drop_of_length-le}
use Rattle.lists.proofs.Cuts.{drop-next}
use Rattle.text_fixed_form.specs.Mark.{blank, without_blanks, upper_case, text, begins}

-- the text from a column on: past a blank, and at any other byte
text-blank : (line : List ℕ) (i : ℕ) → i < length line → get_or line i 0 ≡ blank → text (drop i line) ≡ text (drop (i + 1) line)
unfolding without_blanks
text-blank line i h e = rw (drop-next line i h, eq-eqb _ _ e)

text-filled : (line : List ℕ) (i : ℕ) → i < length line → (get_or line i 0 ≡ blank → ⊥)
    → text (drop i line) ≡ upper_case (get_or line i 0) ∷ text (drop (i + 1) line)
unfolding without_blanks
text-filled line i h e = rw (drop-next line i h, ne_eqb _ _ e)

-- what is left of a word: nothing, or a letter and the rest
begins-nothing : (left rest : List ℕ) → length left < 1 → begins left rest ≡ true
unfolding begins
begins-nothing [] rest none = refl
begins-nothing (letter ∷ left) rest none = absurd (omega arith)

begins-with : (left rest : List ℕ) (byte : ℕ) → 1 ≤ length left → begins left (byte ∷ rest) ≡ (eqb byte (get_or left 0 0) && begins (drop 1 left) rest)
unfolding begins
begins-with [] rest byte some = absurd (omega arith)
begins-with (letter ∷ left) rest byte some = refl

begins-at-end : (left : List ℕ) → begins left [] ≡ eqb (length left) 0
unfolding begins
begins-at-end [] = refl
begins-at-end (letter ∷ left) = sym (ne_eqb (length (letter ∷ left)) 0 (λ e. omega arith))

-- what is left of the word, compared with what is left of the text, decides
module _ (word line left : List ℕ) (i : ℕ) (so_far : begins word (text line) ≡ begins left (text (drop i line))) where
  -- past the last column
  pub compare-end : length line ≤ i → eqb (length left) 0 ≡ begins word (text line)
  unfolding without_blanks
  compare-end h = sym (so_far ∙ rw (drop_of_length-le line h) (begins-at-end left))

  -- past the word's last letter
  pub compare-whole : length left < 1 → true ≡ begins word (text line)
  compare-whole none = sym (so_far ∙ begins-nothing left _ none)

  -- a blank adds nothing to the text
  pub compare-blank : i < length line → get_or line i 0 ≡ blank → begins word (text line) ≡ begins left (text (drop (i + 1) line))
  compare-blank h e = so_far ∙ ap (begins left) (text-blank line i h e)

  module _ (h : i < length line) (filled : get_or line i 0 ≡ blank → ⊥) (some : 1 ≤ length left)
      (upper : ℕ) (is : upper ≡ upper_case (get_or line i 0)) where
    compared : begins word (text line) ≡ (eqb upper (get_or left 0 0) && begins (drop 1 left) (text (drop (i + 1) line)))
    compared = so_far ∙ ap (begins left) (text-filled line i h filled) ∙ rw (← is) (begins-with left _ upper some)

    -- any other byte, in upper case, is the word's next letter
    pub compare-next : upper ≡ get_or left 0 0 → begins word (text line) ≡ begins (drop 1 left) (text (drop (i + 1) line))
    compare-next e = compared ∙ rw (eq-eqb _ _ e)

    -- or it isn't
    pub compare-stop : (upper ≡ get_or left 0 0 → ⊥) → false ≡ begins word (text line)
    compare-stop e = sym (compared ∙ rw (ne_eqb _ _ e))
