-- One line more: its frame stands behind those of the lines before it, or it has none, where the limit is reached. By induction on the
-- lines, and by whether there are fewer than the limit.
use mathlib.Core.Path.{◌≡◌, sym, ap, ◌∙◌}
use mathlib.Core.Bool.{cond}
use mathlib.Core.List.{List, [], ◌∷◌, ◌++◌, append-nil, append_assoc}
use Prim.Native.Nat.{ℕ, suc, ◌+◌, ◌≤◌, ◌<◌, min}
use native.Mathlib.Decide.{dec_lt}
use native.Mathlib.Nat.{add-zero}
use native.Mathlib.Omega.{arith}
use borrow.Author.Tests.{lt-ltb, le-ltb}
use lib.Dec.{ltb}
use lib.ListN.{length, take, length-append}
use lib.Seq.{take_all, take-append-le}
use Rattle.text_fixed_form.specs.Mark.{mark_of}
use Rattle.text_fixed_form.proofs.LastColumn.{mark-of-kept}
use Rattle.geometry.specs.Limits.{most_marks, last_column}
use Rattle.text_hex.specs.Lines.{line_of}
use Rattle.text_lines.specs.Lines.{Holds}
use Rattle.text_lines.specs.declared.Gathered.{Gathered}
use Rattle.text_lines.proofs.Held.{kept-tells}
use Rattle.protocol.specs.Frames.{frame_of_command}
use Rattle.program_insertions.specs.Frames.{insertion, frame_at, frames_from, frames_of_lines, frame_after}

frames-from-snoc : (place : ℕ) (lines : List (List ℕ)) (line : List ℕ)
    → frames_from place (lines ++ (line ∷ [])) ≡ frames_from place lines ++ frame_at (place + length lines) line
unfolding frames_from
frames-from-snoc place [] line = rw (append-nil, add-zero)
frames-from-snoc place (first ∷ lines) line =
    let next : place + 1 + length lines ≡ place + suc (length lines) = omega arith in
    ap (λ l. frame_at place first ++ l) (frames-from-snoc (place + 1) lines line)
    ∙ sym (append_assoc (frame_at place first) (frames_from (place + 1) lines) (frame_at (place + 1 + length lines) line))
    ∙ ap (λ k. frame_at place first ++ frames_from (place + 1) lines ++ frame_at k line) next

-- over any limit: one line more has its frame behind the others', and past the limit none
module _ (limit : ℕ) where
  up_to : (lines : List (List ℕ)) (line : List ℕ) → Dec (length lines < limit)
      → frames_from 1 (take limit (lines ++ (line ∷ [])))
      ≡ frames_from 1 (take limit lines) ++ cond (ltb (length lines) limit) (frame_at (length lines + 1) line) []
  up_to lines line (yes below) =
      let place : 1 + length lines ≡ length lines + 1 = omega arith in
      rw (
        lt-ltb (length lines) limit below,
        take_all limit (lines ++ (line ∷ [])) (simp length-append (omega arith)),
        take_all limit lines (omega arith),
      )
      (frames-from-snoc 1 lines line ∙ ap (λ k. frames_from 1 lines ++ frame_at k line) place)
  up_to lines line (no over) =
      rw (
        le-ltb (length lines) limit (omega (arith, over)),
        take-append-le limit lines (line ∷ []) (omega (arith, over)),
        append-nil,
      )

  min-up-to : (lines : ℕ) (frame : ℕ → List ℕ) → Dec (lines < limit)
      → cond (ltb (min limit lines) limit) (frame (min limit lines + 1)) [] ≡ cond (ltb lines limit) (frame (lines + 1)) []
  min-up-to lines frame (yes below) =
      let same : min limit lines ≡ lines = omega arith in
      ap (λ k. cond (ltb k limit) (frame (k + 1)) []) same
  min-up-to lines frame (no over) = rw (le-ltb lines limit (omega (arith, over)), le-ltb (min limit lines) limit (omega (arith, over)))

-- one line more has its frame behind the others'
pub frames-of-one-more : (lines : List (List ℕ)) (line : List ℕ)
    → frames_of_lines (lines ++ (line ∷ [])) ≡ frames_of_lines lines ++ frame_after (length lines) line
unfolding frames_of_lines frame_after
frames-of-one-more lines line = up_to most_marks lines line (dec_lt (length lines) most_marks)

-- past the limit it makes no difference how many lines came
pub frame-after-limit : (lines : ℕ) (line : List ℕ) → frame_after (min most_marks lines) line ≡ frame_after lines line
unfolding frame_after
frame-after-limit lines line = min-up-to most_marks lines (λ place. frame_at place line) (dec_lt lines most_marks)

-- the kept columns have the line's frame, since the buffer has room for every column that is read
pub frame-of-line-held : (lines : ℕ) (line : List ℕ) (s : Gathered) (keep : List ℕ) → Holds line s keep → last_column ≤ length keep
    → frame_after lines (take s.kept keep) ≡ frame_after lines line
unfolding frame_after frame_at
frame-of-line-held lines line s keep holds columns =
    ap (λ m. cond (ltb lines most_marks) (line_of (frame_of_command (insertion (lines + 1) m))) [])
    (kept-tells mark_of line s keep holds (λ longer. mark-of-kept line (length keep) columns))
