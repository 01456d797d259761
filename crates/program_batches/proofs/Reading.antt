-- What each step of reading a chunk leaves. A line that ends is put: its draft and its command, if it has one, stand behind those of the
-- lines before it, and it is the next line of the input. Bytes that end no line are gathered.
use mathlib.Core.Bool.{Bool, false}
use mathlib.Core.Path.{◌≡◌, refl, sym, ap, ap₂, ◌∙◌}
use mathlib.Core.List.{List, [], ◌∷◌, ◌++◌, map, map-append, append-nil}
use Prim.Native.Nat.{ℕ, ◌+◌, ◌-◌, ◌*◌, ◌≤◌, ◌<◌}
use native.Mathlib.Omega.{arith}
use lib.ListN.{length, take, drop, length-append, length-take, length-drop}
use lib.Seq.{take-add, paste}
use Rattle.std.proofs.Common.{Ok}
use Rattle.geometry.specs.Limits.{frame_size}
use Rattle.lists.proofs.Cuts.{rest-is}
use Rattle.lists.proofs.Joins.{joined-append}
use Rattle.lists.specs.Joins.{joined}
use Rattle.text_hex.specs.Lines.{Reading, no_frame, frame_of, line_of, line_size}
use Rattle.text_hex.proofs.Lines.{frame-of-other-length}
use Rattle.text_hex.proofs.Fronts.{front-with, long-with}
use Rattle.text_hex.proofs.Written.{length-of-line}
use Rattle.text_lines.specs.Lines.{Stands, Holds, Gathers, ended, left, trim, piece}
use Rattle.text_lines.specs.declared.Gathered.{Gathered}
use Rattle.text_lines.specs.declared.Gathering.TheVariants.{Whole, Unfinished}
use Rattle.text_lines.proofs.Held.{kept-tells}
use Rattle.text_lines.proofs.Taken.{line-more, nothing_left, no-line-more, more_left}
use Rattle.protocol.specs.Frames.{bytes_of_frame, frame_of_answer}
use Rattle.protocol.specs.declared.Frame.{Frame}
use Rattle.program_batches.specs.Answers.{bad_answer, line_of_answer}
use Rattle.program_batches.specs.Batch.{zeros, draft_of, bytes_of, PutsLine, ReadsLines, ReadsOn, RoomForLine}
use Rattle.program_batches.specs.declared.Batch.{Batch}

-- the kept bytes read as the line, where one byte more than the digits of a frame is kept: a line that was cut is too long to be one
frame-of-held : (line : List ℕ) (s : Gathered) (keep : List ℕ) → Holds line s keep → line_size ≤ length keep
    → frame_of (take s.kept keep) ≡ frame_of line
frame-of-held line s keep holds enough =
    kept-tells frame_of line s keep holds
    (λ longer.
    sym (frame-of-other-length (take (length keep) line) (λ is. omega (arith, length-take (length keep) line)))
    ∙ frame-of-other-length line (λ is. omega arith))

module _ (line : List ℕ) (lines frames : ℕ) (out out' commands commands' : List ℕ) (room : line_size * (lines + 1) ≤ length out)
    (room-for-frame : frame_size * (frames + 1) ≤ length commands) (reading : Reading) (reads : reading ≡ frame_of line) where
  -- a bad line was answered
  pub bad-put : reading ≡ no_frame → out' ≡ paste out (line_size * lines) (line_of_answer bad_answer) line_size
      → PutsLine line lines frames out out' commands commands frames
  bad-put bad put =
      let is : frame_of line ≡ no_frame = sym reads ∙ bad in
      let long : length (line_of_answer bad_answer) ≡ line_size = length-of-line (frame_of_answer bad_answer) in
      record {
        draft = rw is (front-with out out' (line_of_answer bad_answer) (line_size * lines) line_size (line_size * (lines + 1)) (omega arith) long room put);
        command = rw is (sym (append-nil (take (frame_size * frames) commands)));
        room = omega arith;
        one = omega arith;
        same_out = long-with out out' (line_of_answer bad_answer) (line_size * lines) line_size (line_size * (lines + 1)) (omega arith) long room put;
        same_commands = refl;
      }

  -- a frame has its place and joined the commands
  pub frame-put : (frame : Frame) → reading ≡ Ok frame → out' ≡ paste out (line_size * lines) (line_of zeros) line_size
      → commands' ≡ paste commands (frame_size * frames) (bytes_of_frame frame) frame_size
      → PutsLine line lines frames out out' commands commands' (frames + 1)
  frame-put frame spells put joins =
      let is : frame_of line ≡ Ok frame = sym reads ∙ spells in
      let bytes : List ℕ = bytes_of_frame frame in
      let same : length commands' ≡ length commands =
      long-with commands commands' bytes (frame_size * frames) frame_size (frame_size * (frames + 1)) (omega arith) refl room-for-frame joins
      in
      record {
        draft = rw is (front-with out out' (line_of zeros) (line_size * lines) line_size (line_size * (lines + 1)) (omega arith) (length-of-line zeros) room put);
        command = rw is (front-with commands commands' bytes (frame_size * frames) frame_size (frame_size * (frames + 1)) (omega arith) refl room-for-frame joins);
        room = omega arith;
        one = omega arith;
        same_out = long-with out out' (line_of zeros) (line_size * lines) line_size (line_size * (lines + 1)) (omega arith) (length-of-line zeros) room put;
        same_commands = same;
      }

-- one line more, joined
joined-more : (f : Reading → List ℕ) (lines : List (List ℕ)) (line : List ℕ)
    → joined f (map frame_of (lines ++ (line ∷ []))) ≡ joined f (map frame_of lines) ++ f (frame_of line)
joined-more f lines line =
    ap (joined f) (map-append frame_of lines (line ∷ []))
    ∙ joined-append f (map frame_of lines) (frame_of line ∷ [])
    ∙ ap (λ l. joined f (map frame_of lines) ++ l) (append-nil (f (frame_of line)))

-- nothing has been read
reads_none : (chunk : List ℕ) (before : Gathered) (keep out commands : List ℕ)
    → ReadsLines chunk before keep keep out commands (record { taken = 0; lines = 0; frames = 0; line = before })
unfolding ended left
reads_none chunk before keep out commands =
    record {
      lines = [];
      many = refl;
      drafts = refl;
      bytes = refl;
      room = omega arith;
      room_for_frames = omega arith;
      within = omega arith;
      few = omega arith;
      few_frames = omega arith;
      same = refl;
      are = λ gathered stands enough. refl;
      rest = λ gathered stands. stands;
    }

module _ (chunk : List ℕ) (batch : Batch) (keep keep' out out' commands commands' : List ℕ) (room : RoomForLine chunk batch out commands) where
  -- a line has ended and was put
  module _ (taken : ℕ) (line : Gathered)
      (part : Gathers false (take (length chunk - batch.taken) (drop batch.taken chunk)) batch.line keep keep' (Whole taken line)) where
    gathers : Gathers false (drop batch.taken chunk) batch.line keep keep' (Whole taken line)
    gathers = rw (rest-is chunk batch.taken) at part

    some : 0 < taken
    some = gathers.onward (omega (arith, room.within, length-drop batch.taken chunk))

    pub line_taken : (start : Gathered) (front : List ℕ) (frames : ℕ) → ((returns : Bool) (kept : List ℕ) → Stands returns [] start kept)
        → front ≡ take line.kept keep' → PutsLine front batch.lines batch.frames out out' commands commands' frames
        → ReadsOn chunk batch keep keep' out out' commands commands' (record { taken = batch.taken + taken; lines = batch.lines + 1; frames = frames; line = start })
    line_taken start front frames starts is_front puts =
        record { reads = reads; onward = omega (arith, some); same_out = puts.same_out; same_commands = puts.same_commands }
      where
        reads : (before : Gathered) (keep₀ : List ℕ) → ReadsLines chunk before keep₀ keep out commands batch
            → ReadsLines chunk before keep₀ keep' out' commands' (record { taken = batch.taken + taken; lines = batch.lines + 1; frames = frames; line = start })
        reads before keep₀ r =
            record {
              lines = r.lines ++ (front ∷ []);
              many = rw length-append (omega (arith, r.many));
              drafts = puts.draft ∙ ap (λ l. l ++ draft_of (frame_of front)) r.drafts ∙ sym (joined-more draft_of r.lines front);
              bytes = puts.command ∙ ap (λ l. l ++ bytes_of (frame_of front)) r.bytes ∙ sym (joined-more bytes_of r.lines front);
              room = omega (arith, room.line, puts.same_out);
              room_for_frames = puts.room;
              within = omega (arith, room.within, gathers.within, length-drop batch.taken chunk);
              few = omega (arith, some, r.few);
              few_frames = omega (arith, puts.one, r.few_frames);
              same = gathers.same ∙ r.same;
              are = are;
              rest =
                  λ gathered stands.
                  rw (take-add batch.taken taken chunk, nothing_left false (drop batch.taken chunk) batch.line keep keep' (Whole taken line) gathers gathered (take batch.taken chunk) refl)
                  (starts false keep');
            }
          where
            are : (gathered : List ℕ) → Stands false gathered before keep₀ → line_size ≤ length keep₀
                → map frame_of (r.lines ++ (front ∷ [])) ≡ map frame_of (ended false gathered (take (batch.taken + taken) chunk))
            are gathered stands enough =
                let before-it : List ℕ = left gathered (take batch.taken chunk) in
                let text : List ℕ = trim false (before-it ++ piece (drop batch.taken chunk) (Whole taken line)) in
                let held : Holds text line keep' = (gathers.stands before-it (r.rest gathered stands)).line in
                let reads_so : frame_of front ≡ frame_of text =
                ap frame_of is_front ∙ frame-of-held text line keep' held (omega (arith, gathers.same, r.same))
                in
                map-append frame_of r.lines (front ∷ [])
                ∙ ap₂ (λ rs l. rs ++ (l ∷ [])) (r.are gathered stands enough) reads_so
                ∙ sym (map-append frame_of (ended false gathered (take batch.taken chunk)) (text ∷ []))
                ∙ ap (map frame_of)
                (sym (line-more false (drop batch.taken chunk) batch.line keep keep' (Whole taken line) gathers gathered (take batch.taken chunk) refl)
                ∙ ap (ended false gathered) (sym (take-add batch.taken taken chunk)))

  -- no line has ended
  module _ (line : Gathered)
      (part : Gathers false (take (length chunk - batch.taken) (drop batch.taken chunk)) batch.line keep keep' (Unfinished line)) where
    gathers-all : Gathers false (drop batch.taken chunk) batch.line keep keep' (Unfinished line)
    gathers-all = rw (rest-is chunk batch.taken) at part

    whole-chunk : take (length chunk) chunk ≡ take batch.taken chunk ++ take (length (drop batch.taken chunk)) (drop batch.taken chunk)
    whole-chunk =
        let ends : length chunk ≡ batch.taken + length (drop batch.taken chunk) = omega (arith, room.within, length-drop batch.taken chunk) in
        ap (λ k. take k chunk) ends ∙ take-add batch.taken (length (drop batch.taken chunk)) chunk

    pub none-taken : ReadsOn chunk batch keep keep' out out commands commands (record { taken = length chunk; lines = batch.lines; frames = batch.frames; line = line })
    none-taken =
        record {
          reads =
              λ before keep₀ r.
              record {
                lines = r.lines;
                many = r.many;
                drafts = r.drafts;
                bytes = r.bytes;
                room = r.room;
                room_for_frames = r.room_for_frames;
                within = omega arith;
                few = omega (arith, r.few, room.within);
                few_frames = r.few_frames;
                same = gathers-all.same ∙ r.same;
                are =
                    λ gathered stands enough.
                    r.are gathered stands enough
                    ∙ ap (map frame_of)
                    (sym (no-line-more false (drop batch.taken chunk) batch.line keep keep' (Unfinished line) gathers-all gathered (take batch.taken chunk) refl)
                    ∙ ap (ended false gathered) (sym whole-chunk));
                rest =
                    λ gathered stands.
                    rw (whole-chunk, more_left false (drop batch.taken chunk) batch.line keep keep' (Unfinished line) gathers-all gathered (take batch.taken chunk) refl)
                    (gathers-all.stands (left gathered (take batch.taken chunk)) (r.rest gathered stands));
              };
          onward = room.within;
          same_out = refl;
          same_commands = refl;
        }

-- The loop: what has been read of a chunk so far, into buffers that keep their lengths.
pub record ReadSoFar (chunk : List ℕ) (before : Gathered) (keep keep' out out' commands commands' : List ℕ) (batch : Batch) : Type 0 where
  pub reads : ReadsLines chunk before keep keep' out' commands' batch
  pub same_out : length out' ≡ length out
  pub same_commands : length commands' ≡ length commands

pub read_none : (chunk : List ℕ) (before : Gathered) (keep out commands : List ℕ)
    → ReadSoFar chunk before keep keep out out commands commands (record { taken = 0; lines = 0; frames = 0; line = before })
read_none chunk before keep out commands = record { reads = reads_none chunk before keep out commands; same_out = refl; same_commands = refl }
