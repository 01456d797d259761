-- The lines of one call: a bad line is answered at once, a frame joins the commands and a line of zeros keeps its answer's place.
use Rattle.std.specs.Prelude.{false, cond, ◌≡◌, List, [], ◌++◌, map, ℕ, zero, suc, ◌+◌, ◌*◌, ◌≤◌, ◌<◌, eqb, length, get_or, take, drop}
use Rattle.std.specs.Prelude.{Ok, Err}
use Rattle.std.proofs.Math.Seq.{paste}
use Rattle.geometry.specs.Limits.{frame_size}
use Rattle.lists.specs.Joins.{joined}
use Rattle.text_hex.specs.Lines.{Reading, frame_of, line_of, line_size}
use Rattle.text_lines.specs.Lines.{Stands, ended, left}
use Rattle.text_lines.specs.declared.Gathered.{Gathered}
use Rattle.protocol.specs.Frames.{bytes_of_frame}
use Rattle.protocol.specs.declared.Frame.{Frame}
use Rattle.program_batches.specs.Answers.{bad_answer, line_of_answer, line_of_bytes}
use Rattle.program_batches.specs.declared.Batch.{Batch}

-- the frame of zeros
abbrev pub zeros : Frame
zeros = record { first = 0; second = 0; third = 0; fourth = 0; number = 0 }

-- what is written for a line before the call: a line of zeros, or a bad line's answer
abbrev pub draft_of : Reading → List ℕ
draft_of (Ok frame) = line_of zeros
draft_of (Err bad) = line_of_answer bad_answer

-- the byte that a line of zeros begins with
abbrev pub kept_byte : ℕ
kept_byte = 48

-- the bytes that a line adds to the commands
abbrev pub bytes_of : Reading → List ℕ
bytes_of (Ok frame) = bytes_of_frame frame
bytes_of (Err bad) = []

-- a line's draft stands behind those of the lines before it, and its command, if it has one, behind theirs
pub record PutsLine (line : List ℕ) (lines frames : ℕ) (out out' commands commands' : List ℕ) (result : ℕ) : Type 0 where
  pub draft : take (line_size * (lines + 1)) out' ≡ take (line_size * lines) out ++ draft_of (frame_of line)
  pub command : take (frame_size * result) commands' ≡ take (frame_size * frames) commands ++ bytes_of (frame_of line)
  pub room : frame_size * result ≤ length commands'
  pub one : result ≤ frames + 1
  pub same_out : length out' ≡ length out
  pub same_commands : length commands' ≡ length commands

-- the lines that were read from the front of a chunk, their drafts and their commands
pub record ReadsLines (chunk : List ℕ) (before : Gathered) (keep keep' out commands : List ℕ) (result : Batch) : Type 0 where
  pub lines : List (List ℕ)
  pub many : result.lines ≡ length lines
  pub drafts : take (line_size * result.lines) out ≡ joined draft_of (map frame_of lines)
  pub bytes : take (frame_size * result.frames) commands ≡ joined bytes_of (map frame_of lines)
  pub room : line_size * result.lines ≤ length out
  pub room_for_frames : frame_size * result.frames ≤ length commands
  pub within : result.taken ≤ length chunk
  pub few : result.lines ≤ result.taken
  pub few_frames : result.frames ≤ result.lines
  pub same : length keep' ≡ length keep
  -- which lines they are, and what is left of the next, whatever bytes of the first came before the chunk
  pub are : (gathered : List ℕ) → Stands false gathered before keep → line_size ≤ length keep
      → map frame_of lines ≡ map frame_of (ended false gathered (take result.taken chunk))
  pub rest : (gathered : List ℕ) → Stands false gathered before keep
      → Stands false (left gathered (take result.taken chunk)) result.line keep'

-- the same, and where there is room for a line, something was taken
pub record BatchRead (chunk : List ℕ) (before : Gathered) (keep keep' out out' commands commands' : List ℕ) (result : Batch) : Type 0 where
  pub reads : ReadsLines chunk before keep keep' out' commands' result
  pub onward : line_size ≤ length out → frame_size ≤ length commands → 0 < length chunk → 0 < result.taken
  pub same_out : length out' ≡ length out
  pub same_commands : length commands' ≡ length commands

-- bytes are left in the chunk, and there is room for one line more
pub record RoomForLine (chunk : List ℕ) (batch : Batch) (out commands : List ℕ) : Type 0 where
  pub within : batch.taken < length chunk
  pub line : line_size * (batch.lines + 1) ≤ length out
  pub frame : frame_size * (batch.frames + 1) ≤ length commands

-- one step more, of a byte at least
pub record ReadsOn (chunk : List ℕ) (batch : Batch) (keep keep' out out' commands commands' : List ℕ) (result : Batch) : Type 0 where
  pub reads : (before : Gathered) (keep₀ : List ℕ) → ReadsLines chunk before keep₀ keep out commands batch
      → ReadsLines chunk before keep₀ keep' out' commands' result
  pub onward : batch.taken < result.taken
  pub same_out : length out' ≡ length out
  pub same_commands : length commands' ≡ length commands

-- how many of the first lines of a draft keep a place
unfoldable pub kept_in : ℕ → List ℕ → ℕ
kept_in zero draft = 0
kept_in (suc lines) draft = cond (eqb (get_or draft 0 0) kept_byte) 1 0 + kept_in lines (drop line_size draft)

-- the first lines of a draft with the answers, in order, at the places that were kept for them
unfoldable pub completed : ℕ → List ℕ → List ℕ → List ℕ
completed zero draft answers = []
completed (suc lines) draft answers =
    cond (eqb (get_or draft 0 0) kept_byte)
    (line_of_bytes (take frame_size answers) ++ completed lines (drop line_size draft) (drop frame_size answers))
    (take line_size draft ++ completed lines (drop line_size draft) answers)

-- one place: where it was kept, the first eight bytes of the answers that are left stand there as a line, and the others are left
pub record PutsAnswer (at : ℕ) (out out' left rest : List ℕ) : Type 0 where
  pub kept : get_or out at 0 ≡ kept_byte
      → (rest ≡ drop frame_size left) × (out' ≡ paste out at (line_of_bytes (take frame_size left)) line_size)
  pub other : (get_or out at 0 ≡ kept_byte → ⊥) → (rest ≡ left) × (out' ≡ out)

-- all places
pub record Completes (lines : ℕ) (out out' answers : List ℕ) : Type 0 where
  pub long : length out' ≡ length out
  pub whole : take (line_size * lines) out' ≡ completed lines out answers
