-- From chunk to chunk: the lines of a call, put behind the lines before them, are the session so far. At the end the last line is taken in
-- as if its line feed had come.
use mathlib.Core.Bool.{Bool, false}
use mathlib.Core.Logic.{⊎_elim}
use mathlib.Core.Path.{◌≡◌, refl, sym, ap, ap₂, ◌∙◌}
use mathlib.Core.List.{List, [], ◌∷◌, ◌++◌, map, map-append, append-nil}
use Prim.Native.Nat.{ℕ, ◌-◌, ◌*◌, ◌/◌, ◌≤◌}
use native.Mathlib.Omega.{arith}
use lib.ListN.{length, take}
use Rattle.geometry.specs.Limits.{frame_size, longest_commands, directory_size, block_size}
use Rattle.lists.specs.Joins.{joined}
use Rattle.protocol.specs.State.{fresh_state}
use Rattle.shape.specs.Trees.{Tree}
use Rattle.pool.specs.Formatted.{formatted}
use Rattle.pool.specs.Meaning.{meaning}
use Rattle.pool.specs.Sound.{LengthAllowed}
use Rattle.pool.proofs.Formatted.{length-formatted, formatted-sound, formatted-meaning}
use Rattle.call_run.specs.Calls.{Formats}
use Rattle.call_run.proofs.Outcomes.{length-cases}
use Rattle.text_lines.specs.Lines.{Stands, line_feed, trims, trim, ended, left, lines_of}
use Rattle.text_lines.specs.declared.Gathered.{Gathered}
use Rattle.text_lines.proofs.Cut.{ended-append, left-append}
use Rattle.text_lines.proofs.Held.{lines-all-ended, lines-one-open}
use Rattle.text_hex.specs.Lines.{Reading, frame_of, line_size}
use Rattle.program_batches.specs.Answers.{line_of_answer}
use Rattle.program_batches.specs.Batch.{BatchRead}
use Rattle.program_batches.specs.declared.Batch.{Batch}
use Rattle.program_sessions.specs.Call.{Asks, AnswersLines}
use Rattle.program_sessions.specs.Session.{answers_to_lines, state_after_lines, at_start, written_for, session_of}
use Rattle.program_sessions.specs.Stream.{read_from, SessionFollows, SessionStarts, SessionTakesIn, SessionEnds}
use Rattle.program_streams.specs.declared.Taken.{Taken}
use Rattle.program_sessions.proofs.Call.{asks-lines}
use Rattle.program_sessions.proofs.Session.{state-append, written-append}

-- the lines of a call, written behind what was written before
written-with : (input written front : List ℕ) (before : Gathered) (keep p : List ℕ) (more : List Reading) → SessionFollows input written before keep p
    → front ≡ joined line_of_answer (answers_to_lines (meaning p) more) → written ++ front ≡ written_for (read_from input ++ more)
written-with input written front before keep p more f is =
    ap₂ (λ w l. w ++ l) f.lines (is ∙ ap (λ s. joined line_of_answer (answers_to_lines s more)) f.meant)
    ∙ sym (written-append (read_from input) more)

-- a chunk's lines were read into buffers for the commands of one call
module _ (chunk : List ℕ) (before : Gathered) (keep keep' out out₁ zeros commands : List ℕ) (batch : Batch)
    (read : BatchRead chunk before keep keep' out out₁ zeros commands batch) (enough : longest_commands ≤ length zeros)
    (few : length zeros ≤ longest_commands) where
  pub asks-batch : Asks (take (frame_size * batch.frames) commands) out₁ batch.lines
  asks-batch =
      let r = read.reads in
      asks-lines r.lines commands out₁ batch.lines batch.frames r.many r.drafts r.bytes r.room r.room_for_frames
      (omega (arith, read.same_commands))

  -- and answered
  pub chunk-taken : (p q out₂ : List ℕ) (filled : ℕ) → filled ≡ line_size * batch.lines
      → AnswersLines p q (take (frame_size * batch.frames) commands) out₁ out₂ batch.lines
      → SessionTakesIn chunk before batch.line keep keep' p q out out₂ (record { taken = batch.taken; filled = filled })
  chunk-taken p q out₂ filled is done =
      record {
        within = read.reads.within;
        onward = λ line some. read.onward line (omega arith) some;
        room = omega (arith, read.reads.room, done.long);
        same = read.reads.same;
        same_pool = done.same_pool;
        long = done.long ∙ read.same_out;
        refused = done.refused;
        follows = follows;
      }
    where
      follows : (input written : List ℕ) → SessionFollows input written before keep p
          → SessionFollows (input ++ take batch.taken chunk) (written ++ take filled out₂) batch.line keep' q
      follows input written f =
          let r = read.reads in
          let taken : List ℕ = take batch.taken chunk in
          let more : List Reading = map frame_of r.lines in
          let all_read : read_from (input ++ taken) ≡ read_from input ++ more =
          ap (map frame_of) (ended-append false [] input taken)
          ∙ map-append frame_of (ended false [] input) (ended false (left [] input) taken)
          ∙ ap (λ rs. read_from input ++ rs) (sym (r.are (left [] input) f.line f.room))
          in
          let front : take filled out₂ ≡ joined line_of_answer (answers_to_lines (meaning p) more) =
          ap (λ n. take n out₂) is ∙ done.answers r.lines r.bytes r.many r.drafts f.sound
          in
          record {
            line = rw (left-append [] input taken) (r.rest (left [] input) f.line);
            room = omega (arith, r.same, f.room);
            sound = done.sound f.sound;
            meant =
                done.state r.lines r.bytes f.sound
                ∙ ap (λ s. state_after_lines s more) f.meant
                ∙ sym (state-append (read_from input) more at_start)
                ∙ ap (state_after_lines at_start) (sym all_read);
            lines = written-with input written (take filled out₂) before keep p more f front ∙ ap written_for (sym all_read);
          }

-- the input is over, and ended with a line feed or is empty
pub ends-whole : (before : Gathered) (keep p out : List ℕ) → before.length ≡ 0 → SessionEnds before keep keep p p out out 0
unfolding session_of trim trims
ends-whole before keep p out none =
    record {
      room = omega arith;
      same = refl;
      same_pool = refl;
      long = refl;
      refused = λ unsound. refl;
      over =
          λ room input written f.
          let all_read : map frame_of (lines_of false input) ≡ read_from input =
          ap (map frame_of) (lines-all-ended false input before keep f.line.line none)
          in
          record {
            sound = f.sound;
            meant = f.meant ∙ ap (state_after_lines at_start) (sym all_read);
            whole = ap written_for all_read ∙ sym f.lines ∙ sym (append-nil written);
          };
    }

-- the input is over, and a line feed was taken in for the one that its last line lacks
pub ends_open : (before after : Gathered) (keep keep' p q out out' : List ℕ) (taken : Taken) → (before.length ≡ 0 → ⊥)
    → SessionTakesIn (line_feed ∷ []) before after keep keep' p q out out' taken → SessionEnds before keep keep' p q out out' taken.filled
unfolding session_of ended trim trims
ends_open before after keep keep' p q out out' taken some takes =
    record {
      room = takes.room;
      same = takes.same;
      same_pool = takes.same_pool;
      long = takes.long;
      refused = takes.refused;
      over =
          λ room input written f.
          let one : taken.taken ≡ 1 = omega (arith, takes.within, takes.onward room (omega arith)) in
          let then : SessionFollows (input ++ (line_feed ∷ [])) (written ++ take taken.filled out') after keep' q =
          rw one at (takes.follows input written f)
          in
          let all_read : map frame_of (lines_of false input) ≡ read_from (input ++ (line_feed ∷ [])) =
          ap (map frame_of) (lines-one-open false input before keep f.line.line some ∙ sym (ended-append false [] input (line_feed ∷ [])))
          in
          record {
            sound = then.sound;
            meant = then.meant ∙ ap (state_after_lines at_start) (sym all_read);
            whole = ap written_for all_read ∙ sym then.lines;
          };
    }

-- the pool is formatted or as it was, and nothing has been read
pub session-starts : (p q : List ℕ) (status : ℕ) (line : Gathered) → Formats p status q
    → ((returns : Bool) (keep : List ℕ) → Stands returns [] line keep) → SessionStarts p q line
unfolding ended left state_after_lines written_for answers_to_lines
session-starts p q status line formats stands =
    record {
      status = status;
      formats = formats;
      same_pool =
          ⊎_elim (λ allowed. ap length (formats.allowed allowed).1 ∙ length-formatted (length p) allowed)
          (λ other. ap length (formats.refused other).1)
          (length-cases (length p));
      nothing = stands;
      follows =
          λ is keep enough.
          let allowed : LengthAllowed (length p) = record { whole = rw is refl; shortest = omega arith; longest = omega arith } in
          let formatted-now : q ≡ formatted (length p) = (formats.allowed allowed).1 in
          record {
            line = stands false keep;
            room = enough;
            sound = rw formatted-now (formatted-sound (length p) allowed);
            meant =
                ap meaning formatted-now
                ∙ formatted-meaning (length p) allowed
                ∙ ap (λ n. fresh_state {A = Tree} ((n - directory_size) / block_size)) is;
            lines = refl;
          };
    }
