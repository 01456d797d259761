-- The lines of a stream of bytes, and what the state of one that is being read says of them.
use Rattle.std.specs.Prelude.{Bool, true, false, cond, ◌&&◌, ◌≡◌, List, [], ◌∷◌, ◌++◌, length, get_or, take}
use Rattle.std.specs.Prelude.{ℕ, ◌-◌, ◌^◌, ◌≤◌, ◌<◌, min, eqb}
use Rattle.lists.specs.Items.{All}
use Rattle.lists.specs.Joins.{joined}
use Rattle.text_lines.specs.declared.Gathered.{Gathered}
use Rattle.text_lines.specs.declared.Gathering.{Gathering}
use Rattle.text_lines.specs.declared.Gathering.TheVariants.{Whole, Unfinished}

-- the byte that ends a line
abbrev pub line_feed : ℕ
line_feed = 10

-- the byte that belongs to the line's end, under the rule, where it stands just before the line feed
abbrev pub carriage_return : ℕ
carriage_return = 13

-- whether the rule is on and the last of the bytes is a carriage return
unfoldable pub trims : Bool → List ℕ → Bool
trims returns bytes = returns && eqb (get_or bytes (length bytes - 1) 0) carriage_return

-- the bytes without one final carriage return, under the rule; else the bytes as they are
unfoldable pub trim : Bool → List ℕ → List ℕ
trim returns bytes = cond (trims returns bytes) (take (length bytes - 1) bytes) bytes

-- the lines that end in the input, where `gathered` are the bytes that came since the last line feed
unfoldable pub ended : Bool → List ℕ → List ℕ → List (List ℕ)
ended returns gathered [] = []
ended returns gathered (b ∷ bs) =
    cond (eqb b line_feed) (trim returns gathered ∷ ended returns [] bs) (ended returns (gathered ++ (b ∷ [])) bs)

-- the bytes that have come since the last line feed when the input is over
unfoldable pub left : List ℕ → List ℕ → List ℕ
left gathered [] = gathered
left gathered (b ∷ bs) = cond (eqb b line_feed) (left [] bs) (left (gathered ++ (b ∷ [])) bs)

-- the line that no line feed ends: there is none if no bytes are left, and a final carriage return is a byte of it
abbrev pub last_line : List ℕ → List (List ℕ)
last_line [] = []
last_line (b ∷ bs) = (b ∷ bs) ∷ []

-- the lines of the whole input
unfoldable pub lines_of : Bool → List ℕ → List (List ℕ)
lines_of returns input = ended returns [] input ++ last_line (left [] input)

-- the chunks put together
unfoldable pub joined_chunks : List (List ℕ) → List ℕ
joined_chunks chunks = joined (λ chunk. chunk) chunks

-- the lines that the chunks give one after the other, where `gathered` are the bytes that came since the last line feed
unfoldable pub lines_of_chunks : Bool → List ℕ → List (List ℕ) → List (List ℕ)
lines_of_chunks returns gathered [] = last_line gathered
lines_of_chunks returns gathered (chunk ∷ chunks) =
    ended returns gathered chunk ++ lines_of_chunks returns (left gathered chunk) chunks

-- no line feed is among the bytes
abbrev pub Plain : List ℕ → Type 0
Plain bytes = All (λ b. b ≡ line_feed → ⊥) bytes

-- the largest length that a state tells: a longer line counts as this long
abbrev pub most_length : ℕ
most_length = 2 ^ 64 - 1

-- the state and the front of the buffer tell this line: its first bytes, as many as fit, and how long it is
pub record Holds (line : List ℕ) (s : Gathered) (keep : List ℕ) : Type 0 where
  pub kept : s.kept ≡ min (length keep) (length line)
  pub bytes : take s.kept keep ≡ take s.kept line
  pub long : s.length ≡ min most_length (length line)

-- the state after these bytes of a line: the line if it ended here is held, and a carriage return that would belong to the end waits
pub record Stands (returns : Bool) (gathered : List ℕ) (s : Gathered) (keep : List ℕ) : Type 0 where
  pub line : Holds (trim returns gathered) s keep
  pub waits : s.waits ≡ trims returns gathered

-- one more byte is held, and none waits
pub record Adds (byte : ℕ) (before : Gathered) (keep keep' : List ℕ) (result : Gathered) : Type 0 where
  pub same : length keep' ≡ length keep
  pub line : (line : List ℕ) → Holds line before keep → Holds (line ++ (byte ∷ [])) result keep'
  pub waits : result.waits ≡ false

-- the input is over: what came since the last line feed is held, a final carriage return too, and none waits
pub record Finishes (before : Gathered) (keep keep' : List ℕ) (result : Gathered) : Type 0 where
  pub same : length keep' ≡ length keep
  pub line : (returns : Bool) (gathered : List ℕ) → Stands returns gathered before keep → Holds gathered result keep'
  pub waits : result.waits ≡ false

-- the state has gone on by a byte that is no line feed
pub record Accepts (byte : ℕ) (returns : Bool) (before : Gathered) (keep keep' : List ℕ) (result : Gathered) : Type 0 where
  pub same : length keep' ≡ length keep
  pub stands : (gathered : List ℕ) → Stands returns gathered before keep → Stands returns (gathered ++ (byte ∷ [])) result keep'

-- how many of the bytes were taken: all of them where no line feed was met
abbrev pub taken_of : List ℕ → Gathering → ℕ
taken_of bytes (Whole taken line) = taken
taken_of bytes (Unfinished line) = length bytes

-- whether the last of them was a line feed, so that the line is whole
abbrev pub is_whole : Gathering → Bool
is_whole (Whole taken line) = true
is_whole (Unfinished line) = false

-- the line after them
abbrev pub line_after : Gathering → Gathered
line_after (Whole taken line) = line
line_after (Unfinished line) = line

-- the line's bytes among those that were taken: all but the line feed, if one was taken
abbrev pub piece : List ℕ → Gathering → List ℕ
piece bytes result = take (cond (is_whole result) (taken_of bytes result - 1) (taken_of bytes result)) bytes

-- the bytes taken after the piece: the line feed, or none
abbrev pub end_bytes : Bool → List ℕ
end_bytes ended = cond ended (line_feed ∷ []) []

-- bytes were taken from the front, up to and with the first line feed, or all where there is none; the state has gone on by them
pub record Gathers (returns : Bool) (bytes : List ℕ) (before : Gathered) (keep keep' : List ℕ) (result : Gathering) : Type 0 where
  -- what was taken is a piece without a line feed, and then a line feed exactly if the line ended
  pub plain : Plain (piece bytes result)
  pub taken : take (taken_of bytes result) bytes ≡ piece bytes result ++ end_bytes (is_whole result)
  -- where it didn't, all was taken
  pub all : is_whole result ≡ false → taken_of bytes result ≡ length bytes
  pub within : taken_of bytes result ≤ length bytes
  -- a caller's loop goes on
  pub onward : 0 < length bytes → 0 < taken_of bytes result
  pub same : length keep' ≡ length keep
  -- the state stands for the piece too, whatever bytes of the line came before it
  pub stands : (gathered : List ℕ) → Stands returns gathered before keep
      → Stands returns (gathered ++ piece bytes result) (line_after result) keep'
