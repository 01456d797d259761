-- What each step leaves of `FileFollows`. A line that ends brings its frame, by the laws on one line more; bytes that end none are
-- gathered. A step's frames stand at the front of what was left of the output, behind those of the steps before.
use mathlib.Core.Bool.{Bool, true, false}
use mathlib.Core.Path.{◌≡◌, refl, sym, ap, ap₂, ◌∙◌}
use mathlib.Core.List.{List, [], ◌∷◌, ◌++◌, append-nil, append_assoc}
use Prim.Native.Nat.{ℕ, zero, suc, ◌+◌, ◌-◌, ◌≤◌, ◌<◌, min}
use native.Mathlib.Omega.{arith}
use lib.ListN.{length, take, drop, length-append, length-drop}
use borrow.Author.Tests.{lt-ltb, le-ltb}
use borrow.Rule.Slice.PartMut.{mid_of, post_of, put_mid, same_len_mid, take_put}
use lib.Seq.{take-add, take-append-le, drop-drop, drop_at, length-take-le, paste}
use Rattle.geometry.specs.Limits.{most_marks, last_column}
use Rattle.std.proofs.Common.{false-eqb, true-eqb}
use Rattle.std.specs.Prelude.{◌==◌}
use Rattle.lists.proofs.Cuts.{cut-length, rest-is}
use Rattle.text_fixed_form.specs.Mark.{mark_of}
use Rattle.text_hex.specs.Lines.{line_of, line_size}
use Rattle.text_hex.proofs.Fronts.{front-with, long-with}
use Rattle.text_hex.proofs.Written.{length-of-line}
use Rattle.text_lines.specs.Lines.{Stands, Holds, Gathers, Finishes, ended, left, trim, piece}
use Rattle.text_lines.specs.declared.Gathered.{Gathered}
use Rattle.text_lines.specs.declared.Gathering.TheVariants.{Whole, Unfinished}
use Rattle.text_lines.proofs.Held.{lines-all-ended, lines-one-open}
use Rattle.text_lines.proofs.Taken.{line-more, nothing_left, no-line-more, more_left}
use Rattle.protocol.specs.Frames.{frame_of_command}
use Rattle.protocol.specs.declared.Frame.{Frame}
use Rattle.program_insertions.specs.Frames.{insertion, frame_at, frames_of_file, frames_from, frames_of_lines, frame_after}
use Rattle.program_insertions.specs.Stream.{FileFollows, FileStarts, FileTakesIn, GoesOn, PutsFrame, FileEnds}
use Rattle.program_insertions.specs.declared.Progress.{Progress}
use Rattle.program_streams.specs.declared.Taken.{Taken}
use Rattle.program_insertions.proofs.Frames.{frames-of-one-more, frame-after-limit, frame-of-line-held}

-- the frames with one line more, where the frame of what is kept of it has been put
frames-with : (lines : List (List ℕ)) (line earlier out out' : List ℕ) (many filled result : ℕ) (s : Gathered) (keep : List ℕ)
    → Holds line s keep → last_column ≤ length keep → many ≡ min most_marks (length lines)
    → frames_of_lines lines ≡ earlier ++ take filled out → PutsFrame (take s.kept keep) many out out' filled result
    → frames_of_lines (lines ++ (line ∷ [])) ≡ earlier ++ take result out'
frames-with lines line earlier out out' many filled result s keep holds columns is before put =
    frames-of-one-more lines line
    ∙ ap (λ l. l ++ frame_after (length lines) line) before
    ∙ append_assoc earlier (take filled out) (frame_after (length lines) line)
    ∙ ap (λ l. earlier ++ l)
    (ap (λ l. take filled out ++ l)
    (sym (frame-after-limit (length lines) line)
    ∙ ap (λ k. frame_after k line) (sym is)
    ∙ sym (frame-of-line-held many line s keep holds columns))
    ∙ sym put.frame)

module _ (bytes : List ℕ) (before : Progress) (keep keep' out out' : List ℕ) (filled : ℕ) where
  -- a line has ended: its frame has been put
  module _ (taken : ℕ) (line : Gathered) (gathers : Gathers true bytes before.line keep keep' (Whole taken line)) where
    pub line_taken : (start : Gathered) (front : List ℕ) (result lines : ℕ)
        → ((returns : Bool) (kept : List ℕ) → Stands returns [] start kept) → front ≡ take line.kept keep' → PutsFrame front before.lines out out' filled result → lines ≡ min most_marks (before.lines + 1)
        → GoesOn bytes before (record { line = start; lines = lines }) keep keep' out out' filled
        (record { taken = taken; filled = result })
    line_taken start front result lines file-starts is_front put is =
        record {
          takes = record {
            within = gathers.within;
            same = gathers.same;
            long = put.long;
            room = λ room. put.room;
            follows = follows;
          };
          onward = λ room some. gathers.onward some;
        }
      where
        follows : (input earlier : List ℕ) → FileFollows input earlier before keep out filled
            → FileFollows (input ++ take taken bytes) earlier (record { line = start; lines = lines }) keep' out' result
        follows input earlier f =
            let text : List ℕ = trim true (left [] input ++ piece bytes (Whole taken line)) in
            let columns : last_column ≤ length keep' = omega (arith, gathers.same, f.columns) in
            let more = line-more true bytes before.line keep keep' (Whole taken line) gathers [] input refl in
            let held : Holds text line keep' = (gathers.stands (left [] input) f.line).line in
            record {
              line = rw (nothing_left true bytes before.line keep keep' (Whole taken line) gathers [] input refl) (file-starts true keep');
              columns = columns;
              lines = rw (more, length-append) (omega (arith, f.lines));
              room = put.room;
              frames =
                  ap frames_of_lines more
                  ∙ frames-with (ended true [] input) text earlier out out' before.lines filled result line keep' held columns f.lines f.frames
                  (rw is_front at put);
            }

  -- no line has ended
  module _ (line : Gathered) (gathers : Gathers true bytes before.line keep keep' (Unfinished line)) where
    pub none-taken : GoesOn bytes before (record { line = line; lines = before.lines }) keep keep' out out filled
        (record { taken = length bytes; filled = filled })
    none-taken =
        record {
          takes = record {
            within = gathers.within;
            same = gathers.same;
            long = refl;
            room = λ room. room;
            follows = follows;
          };
          onward = λ room some. gathers.onward some;
        }
      where
        follows : (input earlier : List ℕ) → FileFollows input earlier before keep out filled
            → FileFollows (input ++ take (length bytes) bytes) earlier (record { line = line; lines = before.lines }) keep' out filled
        follows input earlier f =
            record {
              line =
                  rw (more_left true bytes before.line keep keep' (Unfinished line) gathers [] input refl)
                  (gathers.stands (left [] input) f.line);
              columns = omega (arith, gathers.same, f.columns);
              lines = rw (no-line-more true bytes before.line keep keep' (Unfinished line) gathers [] input refl) f.lines;
              room = f.room;
              frames =
                  ap frames_of_lines (no-line-more true bytes before.line keep keep' (Unfinished line) gathers [] input refl)
                  ∙ f.frames;
            }

-- nothing has been read
pub file-starts : (line : Gathered) → ((returns : Bool) (keep : List ℕ) → Stands returns [] line keep)
    → FileStarts (record { line = line; lines = 0 })
unfolding frames_of_lines frames_from ended left
file-starts line stands =
    record {
      follows =
          λ keep out columns.
          record { line = stands true keep; columns = columns; lines = refl; room = omega arith; frames = refl };
    }

-- The loop: what has been taken of a chunk so far follows, and nothing is filled where nothing was taken.
pub record TakenSoFar (chunk rest : List ℕ) (before after : Progress) (keep keep' out out' : List ℕ) (filled : ℕ) : Type 0 where
  pub taken : ℕ
  pub left : rest ≡ drop taken chunk
  pub takes : FileTakesIn chunk before after keep keep' out out' 0 (record { taken = taken; filled = filled })
  pub none : taken ≡ 0 → filled ≡ 0
  pub room : filled ≤ length out'

-- no byte has been taken yet
pub taken_none : (chunk : List ℕ) (before : Progress) (keep out : List ℕ) → TakenSoFar chunk chunk before before keep keep out out 0
taken_none chunk before keep out =
    record {
      taken = 0;
      left = refl;
      takes = record {
        within = omega arith;
        same = refl;
        long = refl;
        room = λ room. room;
        follows = λ input earlier f. rw append-nil f;
      };
      none = λ nothing. refl;
      room = omega arith;
    }

-- where nothing was taken, the chunk is empty or there was no room at first
started : (taken filled rest whole room : ℕ) → (taken ≡ 0 → filled ≡ 0) → (0 < rest → room - filled < line_size) → rest ≡ whole - taken
    → line_size ≤ room → 0 < whole → 0 < taken
started zero filled rest whole room none full left enough some = absurd (omega (arith, none refl, full (omega arith)))
started (suc taken) filled rest whole room none full left enough some = omega arith

module _ (chunk rest : List ℕ) (before between : Progress) (keep keep₁ out out₁ : List ℕ) (filled : ℕ)
    (so_far : TakenSoFar chunk rest before between keep keep₁ out out₁ filled) where
  -- a step more, where bytes and room were left: its frames stand behind those that were there
  module _ (empty : Bool) (after : Progress) (keep₂ room₂ : List ℕ) (step : Taken)
      (part : GoesOn rest between after keep₁ keep₂ (mid_of filled (length out₁ - filled) out₁) room₂ 0 step)
      (is : empty ≡ (length rest == 0)) (some : empty ≡ false) (room : line_size ≤ length out₁ - filled) where
    abbrev room₁ : List ℕ
    room₁ = mid_of filled (length out₁ - filled) out₁

    abbrev out₂ : List ℕ
    out₂ = put_mid filled (length out₁ - filled) out₁ room₂

    front : take (filled + step.filled) out₂ ≡ take filled out₁ ++ take step.filled room₂
    front =
        take-add filled step.filled out₂
        ∙ ap₂ (λ xs ys. xs ++ take step.filled ys) (take_put filled (length out₁ - filled) out₁ room₂ so_far.room)
        (drop_at (take filled out₁) (room₂ ++ post_of filled (length out₁ - filled) out₁) filled (length-take-le filled out₁ so_far.room))
        ∙ ap (λ ys. take filled out₁ ++ ys)
        (take-append-le step.filled room₂ (post_of filled (length out₁ - filled) out₁) (part.takes.room (omega arith)))

    pub taken_more : TakenSoFar chunk (take (length rest - step.taken) (drop step.taken rest)) before after keep keep₂ out out₂
        (filled + step.filled)
    taken_more =
        let next : FileTakesIn (drop so_far.taken chunk) between after keep₁ keep₂ room₁ room₂ 0 step = rw so_far.left at part.takes in
        let long : length room₁ ≡ length out₁ - filled = cut-length out₁ filled (length out₁ - filled) (omega (arith, so_far.room)) in
        let more : 0 < step.taken = part.onward (omega arith) (omega (arith, false-eqb (length rest) 0 (sym some ∙ is))) in
        let same : length out₂ ≡ length out₁ = same_len_mid filled (length out₁ - filled) out₁ room₂ next.long in
        let within : filled + step.filled ≤ length out₂ = omega (arith, next.long, next.room (omega arith), so_far.room) in
        record {
          taken = so_far.taken + step.taken;
          left = rest-is rest step.taken ∙ ap (drop step.taken) so_far.left ∙ drop-drop step.taken so_far.taken chunk;
          takes = record {
            within = omega (arith, so_far.takes.within, next.within, length-drop so_far.taken chunk);
            same = next.same ∙ so_far.takes.same;
            long = same ∙ so_far.takes.long;
            room = λ _. within;
            follows =
                λ input earlier f.
                rw (
                  take-add so_far.taken step.taken chunk,
                  ← append_assoc input (take so_far.taken chunk) (take step.taken (drop so_far.taken chunk)),
                )
                (follows (input ++ take so_far.taken chunk) earlier next within (so_far.takes.follows input earlier f));
          };
          none = λ nothing. absurd (omega (arith, more));
          room = within;
        }
      where
        follows : (input earlier : List ℕ) → FileTakesIn (drop so_far.taken chunk) between after keep₁ keep₂ room₁ room₂ 0 step
            → filled + step.filled ≤ length out₂ → FileFollows input earlier between keep₁ out₁ filled
            → FileFollows (input ++ take step.taken (drop so_far.taken chunk)) earlier after keep₂ out₂ (filled + step.filled)
        follows input earlier next within f =
            let old : FileFollows input (earlier ++ take filled out₁) between keep₁ room₁ 0 =
            record {
              line = f.line;
              columns = f.columns;
              lines = f.lines;
              room = omega arith;
              frames = f.frames ∙ sym (append-nil (earlier ++ take filled out₁));
            }
            in
            let new = next.follows input (earlier ++ take filled out₁) old in
            record {
              line = new.line;
              columns = new.columns;
              lines = new.lines;
              room = within;
              frames = new.frames ∙ append_assoc earlier (take filled out₁) (take step.filled room₂) ∙ ap (λ xs. earlier ++ xs) (sym front);
            }

  -- the chunk is at its end, or there is no room for a frame more
  taken_all : (taken : ℕ) → taken ≡ length chunk - length rest → (0 < length rest → length out₁ - filled < line_size)
      → GoesOn chunk before between keep keep₁ out out₁ 0 (record { taken = taken; filled = filled })
  taken_all taken is full =
      let behind : length rest ≡ length chunk - so_far.taken = ap length so_far.left ∙ length-drop so_far.taken chunk in
      let same : taken ≡ so_far.taken = omega (arith, so_far.takes.within) in
      record {
        takes = rw same so_far.takes;
        onward =
            λ room some.
            let enough : line_size ≤ length out₁ = omega (arith, so_far.takes.long) in
            rw same (started so_far.taken filled (length rest) (length chunk) (length out₁) so_far.none full behind enough some);
      }

  pub chunk-used : (empty : Bool) → empty ≡ (length rest == 0) → empty ≡ true
      → GoesOn chunk before between keep keep₁ out out₁ 0 (record { taken = length chunk - length rest; filled = filled })
  chunk-used empty is none =
      taken_all (length chunk - length rest) refl (λ some. absurd (omega (arith, true-eqb (length rest) 0 (sym none ∙ is))))

  pub room-used : length out₁ - filled < line_size
      → GoesOn chunk before between keep keep₁ out out₁ 0 (record { taken = length chunk - length rest; filled = filled })
  room-used full = taken_all (length chunk - length rest) refl (λ some. full)

-- the frame of a line below the limit has been written at the front
pub frame-put : (line : List ℕ) (lines : ℕ) (out out' : List ℕ) (mark : ℕ) (frame : Frame) → line_size ≤ length out → lines < most_marks
    → mark ≡ mark_of line → frame ≡ frame_of_command (insertion (lines + 1) mark) → out' ≡ paste out 0 (line_of frame) line_size
    → PutsFrame line lines out out' 0 line_size
unfolding frame_after frame_at
frame-put line lines out out' mark frame room below is inserts put =
    let long : length (line_of frame) ≡ line_size = length-of-line frame in
    let same : length out' ≡ length out = long-with out out' (line_of frame) 0 line_size line_size refl long room put in
    record {
      long = same;
      room = omega arith;
      frame =
          front-with out out' (line_of frame) 0 line_size line_size refl long room put
          ∙ rw (lt-ltb lines most_marks below, inserts, is);
    }

-- past the limit nothing is written
pub no-frame-put : (line : List ℕ) (lines : ℕ) (out : List ℕ) → most_marks ≤ lines → PutsFrame line lines out out 0 0
unfolding frame_after
no-frame-put line lines out over = record { long = refl; room = omega arith; frame = rw (le-ltb lines most_marks over) }

module _ (before : Progress) (keep keep' out out' : List ℕ) (last : Gathered) (finishes : Finishes before.line keep keep' last) where
  -- the input ends with a line feed, or is empty
  pub ends-whole : last.length ≡ 0 → FileEnds before keep keep' out out 0
  unfolding frames_of_file
  ends-whole none =
      record {
        same = finishes.same;
        long = refl;
        room = omega arith;
        frames =
            λ input earlier f.
            ap frames_of_lines (lines-all-ended true input last keep' (finishes.line true (left [] input) f.line) none) ∙ f.frames;
      }

  -- a last line has no line feed
  pub ends_open : (front : List ℕ) (result : ℕ) → (last.length ≡ 0 → ⊥) → front ≡ take last.kept keep'
      → PutsFrame front before.lines out out' 0 result → FileEnds before keep keep' out out' result
  unfolding frames_of_file
  ends_open front result some is_front put =
      record {
        same = finishes.same;
        long = put.long;
        room = put.room;
        frames =
            λ input earlier f.
            let held : Holds (left [] input) last keep' = finishes.line true (left [] input) f.line in
            ap frames_of_lines (lines-one-open true input last keep' held some)
            ∙ frames-with (ended true [] input) (left [] input) earlier out out' before.lines 0 result last keep' held
            (omega (arith, finishes.same, f.columns)) f.lines f.frames (rw is_front at put);
      }
