-- The lines of a small input, by the definition: a, carriage return, line feed, line feed, b, carriage return.
use mathlib.Core.Bool.{true, false}
use mathlib.Core.Path.{◌≡◌, refl}
use mathlib.Core.List.{[], ◌∷◌}
use Rattle.text_lines.specs.Lines.{trims, trim, ended, left, lines_of}

-- with the rule the first line is a, the second is empty, and the last keeps its carriage return
with-rule : lines_of true (97 ∷ 13 ∷ 10 ∷ 10 ∷ 98 ∷ 13 ∷ []) ≡ (97 ∷ []) ∷ [] ∷ (98 ∷ 13 ∷ []) ∷ []
unfolding trims trim ended left lines_of
with-rule = refl

-- without it the first line keeps its carriage return too
without-rule : lines_of false (97 ∷ 13 ∷ 10 ∷ 10 ∷ 98 ∷ 13 ∷ []) ≡ (97 ∷ 13 ∷ []) ∷ [] ∷ (98 ∷ 13 ∷ []) ∷ []
unfolding trims trim ended left lines_of
without-rule = refl

-- only one carriage return belongs to the line's end, and a line feed at the very end opens no line
one-return : lines_of true (13 ∷ 13 ∷ 10 ∷ []) ≡ (13 ∷ []) ∷ []
unfolding trims trim ended left lines_of
one-return = refl
