-- Drafts with their answers. The places that a batch's drafts keep are those of its frames, in order. The loop that puts the answers there
-- goes line by line: what stands before, and what will be made of the rest, are always the whole.
use mathlib.Core.Bool.{true, false}
use mathlib.Core.Path.{◌≡◌, refl, sym, ap, ◌∙◌}
use mathlib.Core.List.{List, [], ◌∷◌, ◌++◌, append_assoc, append-nil}
use Prim.Native.Nat.{ℕ, suc, ◌+◌, ◌-◌, ◌*◌, ◌≤◌, ◌<◌}
use native.Mathlib.Nat.{add-zero}
use native.Mathlib.Decide.{ℕ_discrete}
use native.Mathlib.Omega.{arith}
use borrow.Author.Tests.{eq-eqb, ne_eqb}
use lib.Dec.{eqb}
use lib.ListN.{length, get_or, take, drop, length-take, length-drop}
use lib.Seq.{take_all, take_at, drop_at, take-add, drop-drop, get_or-drop, paste}
use Rattle.std.proofs.Common.{Ok, Err}
use Rattle.geometry.specs.Limits.{frame_size}
use Rattle.lists.specs.Joins.{joined}
use Rattle.text_hex.specs.Digits.{digit_of, digits_of}
use Rattle.text_hex.specs.Lines.{Reading, line_of, line_size, digits_of_frame}
use Rattle.text_hex.proofs.Fronts.{front-with, back-with, long-with}
use Rattle.text_hex.proofs.Written.{length-of-line}
use Rattle.protocol.specs.Frames.{answer_of_bytes, frame_of_answer, frame_of_bytes}
use Rattle.protocol.specs.declared.Frame.{Frame}
use Rattle.program_batches.specs.Answers.{bad_answer, line_of_answer, line_of_bytes}
use Rattle.program_batches.specs.Batch.{zeros, draft_of, kept_byte, kept_in, completed, PutsAnswer, Completes}
use Rattle.program_batches.proofs.Framed.{commands_read}

-- a line in front of others
pub take-line : (frame : Frame) (rest : List ℕ) → take line_size (line_of frame ++ rest) ≡ line_of frame
take-line frame rest = take_at (line_of frame) rest line_size (length-of-line frame)

pub drop-line : (frame : Frame) (rest : List ℕ) → drop line_size (line_of frame ++ rest) ≡ rest
drop-line frame rest = drop_at (line_of frame) rest line_size (length-of-line frame)

-- zeros keep a place, a bad line's answer doesn't
pub zeros-keep : (rest : List ℕ) → eqb (get_or (line_of zeros ++ rest) 0 0) kept_byte ≡ true
unfolding line_of digits_of_frame digits_of digit_of
zeros-keep rest = refl

pub bad-keeps-none : (rest : List ℕ) → eqb (get_or (line_of_answer bad_answer ++ rest) 0 0) kept_byte ≡ false
unfolding line_of digits_of_frame digits_of digit_of
bad-keeps-none rest = refl

-- one place for each frame
pub kept-in-drafts : (rs : List Reading) (rest : List ℕ) → kept_in (length rs) (joined draft_of rs ++ rest) ≡ length (commands_read rs)
unfolding kept_in
kept-in-drafts [] rest = refl
kept-in-drafts (Ok frame ∷ rs) rest =
    rw (append_assoc (line_of zeros) (joined draft_of rs) rest, zeros-keep (joined draft_of rs ++ rest), drop-line zeros (joined draft_of rs ++ rest))
    (omega (arith, kept-in-drafts rs rest))
kept-in-drafts (Err bad ∷ rs) rest =
    rw (append_assoc (line_of_answer bad_answer) (joined draft_of rs) rest, bad-keeps-none (joined draft_of rs ++ rest), drop-line (frame_of_answer bad_answer) (joined draft_of rs ++ rest))
    (omega (arith, kept-in-drafts rs rest))

length-of-bytes : (bytes : List ℕ) → length (line_of_bytes bytes) ≡ line_size
unfolding line_of_bytes
length-of-bytes bytes = length-of-line (frame_of_answer (answer_of_bytes bytes))

-- an answer was read and put at a place that was kept
pub answer-put : (at : ℕ) (out out' left answer rest : List ℕ) (frame : Frame) → get_or out at 0 ≡ kept_byte → answer ≡ take frame_size left → rest ≡ drop frame_size left
    → frame_size ≤ length left → frame ≡ frame_of_bytes (take frame_size answer) → out' ≡ paste out at (line_of frame) line_size
    → PutsAnswer at out out' left rest
unfolding line_of_bytes answer_of_bytes
answer-put at out out' left answer rest frame kept first others enough is put =
    let read : frame ≡ frame_of_bytes (take frame_size left) =
    is ∙ ap frame_of_bytes (ap (take frame_size) first ∙ take_all frame_size (take frame_size left) (omega (arith, length-take frame_size left)))
    in
    record {
      kept = λ _. (others, put ∙ ap (λ (f : Frame). paste out at (line_of f) line_size) read);
      other = λ other. absurd (other kept);
    }

-- one line more of a draft
module _ (lines : ℕ) (draft answers : List ℕ) where
  kept-first : eqb (get_or draft 0 0) kept_byte ≡ true → kept_in (suc lines) draft ≡ 1 + kept_in lines (drop line_size draft)
  unfolding kept_in
  kept-first kept = rw kept

  kept-not-first : eqb (get_or draft 0 0) kept_byte ≡ false → kept_in (suc lines) draft ≡ 0 + kept_in lines (drop line_size draft)
  unfolding kept_in
  kept-not-first other = rw other

  completed-first : eqb (get_or draft 0 0) kept_byte ≡ true
      → completed (suc lines) draft answers
      ≡ line_of_bytes (take frame_size answers) ++ completed lines (drop line_size draft) (drop frame_size answers)
  unfolding completed
  completed-first kept = rw kept

  completed-not-first : eqb (get_or draft 0 0) kept_byte ≡ false
      → completed (suc lines) draft answers ≡ take line_size draft ++ completed lines (drop line_size draft) answers
  unfolding completed
  completed-not-first other = rw other

-- The loop: after so many lines, with these bytes of answers left.
pub record Completing (lines : ℕ) (before out answers : List ℕ) (line : ℕ) (left : List ℕ) : Type 0 where
  pub few : line ≤ lines
  pub long : length out ≡ length before
  pub enough : frame_size * kept_in (lines - line) (drop (line_size * line) out) ≤ length left
  pub whole : take (line_size * line) out ++ completed (lines - line) (drop (line_size * line) out) left ≡ completed lines before answers

module _ (lines : ℕ) (before out answers : List ℕ) (line : ℕ) (left : List ℕ) (room : line_size * lines ≤ length before)
    (so_far : Completing lines before out answers line left) (below : line < lines) where
  one_left : lines - line ≡ suc (lines - (line + 1))
  one_left = omega arith

  first-here : get_or (drop (line_size * line) out) 0 0 ≡ get_or out (line_size * line) 0
  first-here = get_or-drop (line_size * line) out 0 0 ∙ ap (λ i. get_or out i 0) (add-zero (line_size * line))

  next_place : line_size * line + line_size ≡ line_size * (line + 1)
  next_place = omega arith

  enough-with : (first : ℕ) → kept_in (suc (lines - (line + 1))) (drop (line_size * line) out) ≡ first + kept_in (lines - (line + 1)) (drop line_size (drop (line_size * line) out))
      → frame_size * (first + kept_in (lines - (line + 1)) (drop line_size (drop (line_size * line) out))) ≤ length left
  enough-with first is = omega (arith, so_far.enough, ap (λ n. kept_in n (drop (line_size * line) out)) one_left, is)

  -- the place is there
  pub place-there : line_size * line + line_size ≤ length out
  place-there = omega (arith, so_far.long)

  -- where it is kept, an answer is there
  pub answer-there : get_or out (line_size * line) 0 ≡ kept_byte → frame_size ≤ length left
  answer-there kept =
      omega (arith, enough-with 1 (kept-first (lines - (line + 1)) (drop (line_size * line) out) left (eq-eqb _ _ (first-here ∙ kept))))

  -- what was to be made of the rest
  whole_with : (rest : List ℕ) → completed (suc (lines - (line + 1))) (drop (line_size * line) out) left ≡ rest
      → take (line_size * line) out ++ rest ≡ completed lines before answers
  whole_with rest is =
      ap (λ l. take (line_size * line) out ++ l) (sym is ∙ ap (λ n. completed n (drop (line_size * line) out) left) (sym one_left))
      ∙ so_far.whole

  module _ (out' rest : List ℕ) (puts : PutsAnswer (line_size * line) out out' left rest) where
    kept_step : get_or out (line_size * line) 0 ≡ kept_byte → Completing lines before out' answers (line + 1) rest
    kept_step kept =
        let at : ℕ = line_size * line in
        let put : List ℕ = line_of_bytes (take frame_size left) in
        let is : out' ≡ paste out at put line_size = (puts.kept kept).1 in
        let long : length put ≡ line_size = length-of-bytes (take frame_size left) in
        let fits : line_size * (line + 1) ≤ length out = omega (arith, place-there) in
        let test : eqb (get_or (drop at out) 0 0) kept_byte ≡ true = eq-eqb _ _ (first-here ∙ kept) in
        let front : take (line_size * (line + 1)) out' ≡ take at out ++ put =
        front-with out out' put at line_size (line_size * (line + 1)) next_place long fits is
        in
        let back : drop (line_size * (line + 1)) out' ≡ drop line_size (drop at out) =
        back-with out out' put at line_size (line_size * (line + 1)) next_place long fits is
        ∙ ap (λ k. drop k out) (sym next_place)
        ∙ sym (drop-drop line_size at out)
        in
        let rest-is : rest ≡ drop frame_size left = (puts.kept kept).0 in
        record {
          few = omega arith;
          long = long-with out out' put at line_size (line_size * (line + 1)) next_place long fits is ∙ so_far.long;
          enough = rw (back, rest-is) (omega (arith, length-drop frame_size left, enough-with 1 (kept-first (lines - (line + 1)) (drop at out) left test)));
          whole =
              rw (front, back, rest-is, append_assoc (take at out) put (completed (lines - (line + 1)) (drop line_size (drop at out)) (drop frame_size left)))
              (whole_with (put ++ completed (lines - (line + 1)) (drop line_size (drop at out)) (drop frame_size left))
              (completed-first (lines - (line + 1)) (drop at out) left test));
        }

    other_step : (get_or out (line_size * line) 0 ≡ kept_byte → ⊥) → Completing lines before out' answers (line + 1) rest
    other_step other =
        let at : ℕ = line_size * line in
        let is : out' ≡ out = (puts.other other).1 in
        let test : eqb (get_or (drop at out) 0 0) kept_byte ≡ false = ne_eqb _ _ (λ kept. other (sym first-here ∙ kept)) in
        let front : take (line_size * (line + 1)) out' ≡ take at out ++ take line_size (drop at out) =
        ap (λ k. take k out') (sym next_place) ∙ ap (take (at + line_size)) is ∙ take-add at line_size out
        in
        let back : drop (line_size * (line + 1)) out' ≡ drop line_size (drop at out) =
        ap (λ k. drop k out') (sym next_place) ∙ ap (drop (at + line_size)) is ∙ sym (drop-drop line_size at out)
        in
        let rest-is : rest ≡ left = (puts.other other).0 in
        record {
          few = omega arith;
          long = ap length is ∙ so_far.long;
          enough = rw (back, rest-is) (omega (arith, enough-with 0 (kept-not-first (lines - (line + 1)) (drop at out) left test)));
          whole =
              rw (front, back, rest-is, append_assoc (take at out) (take line_size (drop at out)) (completed (lines - (line + 1)) (drop line_size (drop at out)) left))
              (whole_with (take line_size (drop at out) ++ completed (lines - (line + 1)) (drop line_size (drop at out)) left)
              (completed-not-first (lines - (line + 1)) (drop at out) left test));
        }

    by_place : Dec (get_or out (line_size * line) 0 ≡ kept_byte) → Completing lines before out' answers (line + 1) rest
    by_place (yes kept) = kept_step kept
    by_place (no other) = other_step other

    -- one line more
    pub completing-more : Completing lines before out' answers (line + 1) rest
    completing-more = by_place (ℕ_discrete (get_or out (line_size * line) 0) kept_byte)

-- all lines
pub completing-all : (lines : ℕ) (before out answers : List ℕ) (line : ℕ) (left : List ℕ) → Completing lines before out answers line left → lines ≤ line
    → Completes lines before out answers
unfolding completed
completing-all lines before out answers line left so_far all =
    let none : lines - line ≡ 0 = omega arith in
    let same : line ≡ lines = omega arith in
    record {
      long = so_far.long;
      whole =
          ap (λ k. take (line_size * k) out) (sym same)
          ∙ sym (append-nil (take (line_size * line) out))
          ∙ ap (λ n. take (line_size * line) out ++ completed n (drop (line_size * line) out) left) (sym none)
          ∙ so_far.whole;
    }
