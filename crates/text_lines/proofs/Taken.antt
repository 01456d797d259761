-- What a gathering says of the lines where its bytes come behind others: one line more and nothing left where they end a line, and else
-- as many lines and all of them left. Both parts go by what was taken: a piece without a line feed, and what ended it.
use mathlib.Core.Bool.{Bool, true, false}
use mathlib.Core.Path.{◌≡◌, ap, ◌∙◌}
use mathlib.Core.List.{List, [], ◌∷◌, ◌++◌, append-nil}
use Prim.Native.Nat.{ℕ}
use lib.ListN.{take}
use Rattle.text_lines.specs.declared.Gathered.{Gathered}
use Rattle.text_lines.specs.declared.Gathering.{Gathering}
use Rattle.text_lines.specs.Lines.{trim, ended, left, piece, end_bytes, taken_of, is_whole, Gathers}
use Rattle.text_lines.proofs.Cut.{ended-append, left-append, ended-plain, left-plain, ended-line, left-line}

module _ (r : Bool) (bytes : List ℕ) (before : Gathered) (keep keep' : List ℕ) (result : Gathering) (gathers : Gathers r bytes before keep keep' result)
    (gathered front : List ℕ) where
  -- the bytes that were taken, as the piece and what ended it
  taken-by : (ends : Bool) → is_whole result ≡ ends → take (taken_of bytes result) bytes ≡ piece bytes result ++ end_bytes ends
  taken-by ends is = gathers.taken ∙ ap (λ e. piece bytes result ++ end_bytes e) is

  -- they end a line
  pub line-more : is_whole result ≡ true
      → ended r gathered (front ++ take (taken_of bytes result) bytes) ≡ ended r gathered front ++ (trim r (left gathered front ++ piece bytes result) ∷ [])
  line-more ends =
      ended-append r gathered front (take (taken_of bytes result) bytes)
      ∙ ap (λ l. ended r gathered front ++ l)
      (ap (ended r (left gathered front)) (taken-by true ends) ∙ ended-line r (left gathered front) (piece bytes result) gathers.plain)

  pub nothing_left : is_whole result ≡ true → left gathered (front ++ take (taken_of bytes result) bytes) ≡ []
  nothing_left ends =
      left-append gathered front (take (taken_of bytes result) bytes)
      ∙ ap (left (left gathered front)) (taken-by true ends)
      ∙ left-line (left gathered front) (piece bytes result) gathers.plain

  -- they don't
  all_plain : is_whole result ≡ false → take (taken_of bytes result) bytes ≡ piece bytes result
  all_plain goes_on = taken-by false goes_on ∙ append-nil (piece bytes result)

  pub no-line-more : is_whole result ≡ false → ended r gathered (front ++ take (taken_of bytes result) bytes) ≡ ended r gathered front
  no-line-more goes_on =
      ended-append r gathered front (take (taken_of bytes result) bytes)
      ∙ ap (λ l. ended r gathered front ++ l)
      (ap (ended r (left gathered front)) (all_plain goes_on) ∙ ended-plain r (left gathered front) (piece bytes result) gathers.plain)
      ∙ append-nil (ended r gathered front)

  pub more_left : is_whole result ≡ false → left gathered (front ++ take (taken_of bytes result) bytes) ≡ left gathered front ++ piece bytes result
  more_left goes_on =
      left-append gathered front (take (taken_of bytes result) bytes)
      ∙ ap (left (left gathered front)) (all_plain goes_on)
      ∙ left-plain (left gathered front) (piece bytes result) gathers.plain
