-- What the state of a file that is being read stands for, and what each step does to it.
use Rattle.std.specs.Prelude.{true, ◌≡◌, List, [], ◌++◌, ℕ, ◌+◌, ◌≤◌, ◌<◌, min, length, take}
use Rattle.geometry.specs.Limits.{most_marks, last_column}
use Rattle.text_hex.specs.Lines.{line_size}
use Rattle.text_lines.specs.Lines.{Stands, ended, left}
use Rattle.program_insertions.specs.Frames.{frames_of_file, frames_of_lines, frame_after}
use Rattle.program_insertions.specs.declared.Progress.{Progress}
use Rattle.program_streams.specs.declared.Taken.{Taken}

-- after this input the state is so: `keep` holds the unfinished line's columns, and of the frames of the lines that have ended `earlier`
-- have been written and the others stand at the front of `out`
pub record FileFollows (input earlier : List ℕ) (state : Progress) (keep out : List ℕ) (filled : ℕ) : Type 0 where
  pub line : Stands true (left [] input) state.line keep
  pub columns : last_column ≤ length keep
  pub lines : state.lines ≡ min most_marks (length (ended true [] input))
  pub room : filled ≤ length out
  pub frames : frames_of_lines (ended true [] input) ≡ earlier ++ take filled out

-- the state of a file of which nothing has been read
pub record FileStarts (state : Progress) : Type 0 where
  pub follows : (keep out : List ℕ) → last_column ≤ length keep → FileFollows [] [] state keep out 0

-- bytes were taken from the front of a chunk, and the state and the output follow the input with them
pub record FileTakesIn (chunk : List ℕ) (before after : Progress) (keep keep' out out' : List ℕ) (filled : ℕ) (result : Taken) :
    Type 0 where
  pub within : result.taken ≤ length chunk
  pub same : length keep' ≡ length keep
  pub long : length out' ≡ length out
  pub room : filled ≤ length out → result.filled ≤ length out'
  pub follows : (input earlier : List ℕ) → FileFollows input earlier before keep out filled
      → FileFollows (input ++ take result.taken chunk) earlier after keep' out' result.filled

-- and where there is room for a frame, something is taken
pub record GoesOn (chunk : List ℕ) (before after : Progress) (keep keep' out out' : List ℕ) (filled : ℕ) (result : Taken) : Type 0 where
  pub takes : FileTakesIn chunk before after keep keep' out out' filled result
  pub onward : filled + line_size ≤ length out → 0 < length chunk → 0 < result.taken

-- the frame of a line after so many others stands behind what was filled
pub record PutsFrame (line : List ℕ) (lines : ℕ) (out out' : List ℕ) (filled result : ℕ) : Type 0 where
  pub long : length out' ≡ length out
  pub room : result ≤ length out'
  pub frame : take result out' ≡ take filled out ++ frame_after lines line

-- the input is over, and the rest of its frames stands at the front of the output
pub record FileEnds (before : Progress) (keep keep' out out' : List ℕ) (result : ℕ) : Type 0 where
  pub same : length keep' ≡ length keep
  pub long : length out' ≡ length out
  pub room : result ≤ length out'
  pub frames : (input earlier : List ℕ) → FileFollows input earlier before keep out 0 → frames_of_file input ≡ earlier ++ take result out'
