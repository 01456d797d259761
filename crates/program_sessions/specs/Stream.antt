-- What the state between two chunks stands for, and what each call of the program does to it.
use Rattle.std.specs.Prelude.{Bool, false, ◌≡◌, List, [], ◌++◌, map, ℕ, ◌≤◌, ◌<◌, length, take}
use Rattle.geometry.specs.Limits.{program_pool}
use Rattle.text_hex.specs.Lines.{Reading, frame_of, line_size}
use Rattle.call_run.specs.Calls.{Formats}
use Rattle.text_lines.specs.Lines.{Stands, ended, left, lines_of}
use Rattle.text_lines.specs.declared.Gathered.{Gathered}
use Rattle.pool.specs.Meaning.{meaning}
use Rattle.pool.specs.Sound.{Sound}
use Rattle.program_sessions.specs.Session.{at_start, state_after_lines, written_for, session_of}
use Rattle.program_streams.specs.declared.Taken.{Taken}

-- the lines that have ended in an input, each a frame or bad
abbrev pub read_from : List ℕ → List Reading
read_from input = map frame_of (ended false [] input)

-- after this input, with this much written: `keep` holds the unfinished line's first bytes, and the pool stands for the state after
-- the frames of all lines that have ended
pub record SessionFollows (input written : List ℕ) (state : Gathered) (keep pool : List ℕ) : Type 0 where
  pub line : Stands false (left [] input) state keep
  pub room : line_size ≤ length keep
  pub sound : Sound pool
  pub meant : meaning pool ≡ state_after_lines at_start (read_from input)
  pub lines : written ≡ written_for (read_from input)

-- after the whole input, with all this written: the session is whole, and the pool stands for the state after the frames of all lines
pub record Over (input written pool : List ℕ) : Type 0 where
  pub sound : Sound pool
  pub meant : meaning pool ≡ state_after_lines at_start (map frame_of (lines_of false input))
  pub whole : session_of input ≡ written

-- nothing has been read, and the pool is what format leaves of it
pub record SessionStarts (p q : List ℕ) (result : Gathered) : Type 0 where
  -- what format gives: 0, or 101 and the pool as it was
  pub status : ℕ
  pub formats : Formats p status q
  pub same_pool : length q ≡ length p
  pub nothing : (returns : Bool) (keep : List ℕ) → Stands returns [] result keep
  pub follows : length p ≡ program_pool → (keep : List ℕ) → line_size ≤ length keep → SessionFollows [] [] result keep q

-- bytes were taken from the front of a chunk, and with the lines at the front of out what is written follows the input
pub record SessionTakesIn (chunk : List ℕ) (before after : Gathered) (keep keep' p q out out' : List ℕ) (result : Taken) : Type 0 where
  pub within : result.taken ≤ length chunk
  pub onward : line_size ≤ length out → 0 < length chunk → 0 < result.taken
  pub room : result.filled ≤ length out'
  pub same : length keep' ≡ length keep
  pub same_pool : length q ≡ length p
  pub long : length out' ≡ length out
  -- a pool that isn't sound stays as it was
  pub refused : (Sound p → ⊥) → q ≡ p
  pub follows : (input written : List ℕ) → SessionFollows input written before keep p
      → SessionFollows (input ++ take result.taken chunk) (written ++ take result.filled out') after keep' q

-- the input is over, and with the line at the front of out, if there is one, the session is whole where out has room for it
pub record SessionEnds (before : Gathered) (keep keep' p q out out' : List ℕ) (result : ℕ) : Type 0 where
  pub room : result ≤ length out'
  pub same : length keep' ≡ length keep
  pub same_pool : length q ≡ length p
  pub long : length out' ≡ length out
  pub refused : (Sound p → ⊥) → q ≡ p
  pub over : line_size ≤ length out → (input written : List ℕ) → SessionFollows input written before keep p
      → Over input (written ++ take result out') q
