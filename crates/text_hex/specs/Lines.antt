-- Frames and answers as lines of hexadecimal digits.
use Rattle.std.specs.Prelude.{Bool, cond, ◌&&◌, List, [], ◌∷◌, ◌++◌, ℕ, ◌+◌, ◌*◌, eqb, length, take, drop, Result, Ok, Err}
use Rattle.geometry.specs.Limits.{frame_size}
use Rattle.protocol.specs.declared.Frame.{Frame}
use Rattle.text_hex.specs.Digits.{all_digits, number_of_digits, digits_of}
use Rattle.text_hex.specs.declared.read.Bad.{Bad}

-- digits of a line: two for each byte of a frame
abbrev pub line_digits : ℕ
line_digits = 2 * frame_size

-- the line is exactly sixteen hexadecimal digits
abbrev pub is_frame : List ℕ → Bool
is_frame line = eqb (length line) line_digits && all_digits line

-- the frame that sixteen digits spell: four bytes of two digits each, then the number
unfoldable pub spelled : List ℕ → Frame
spelled line =
    record {
      first = number_of_digits (take 2 line);
      second = number_of_digits (take 2 (drop 2 line));
      third = number_of_digits (take 2 (drop 4 line));
      fourth = number_of_digits (take 2 (drop 6 line));
      number = number_of_digits (take 8 (drop 8 line));
    }

-- what a line holds: a frame, or it is bad
abbrev pub Reading : Type 0
Reading = Result Frame Bad

-- what a bad line holds
abbrev pub no_frame : Reading
no_frame = Err (record {})

-- a line holds a frame exactly if it is sixteen hexadecimal digits
unfoldable pub frame_of : List ℕ → Reading
frame_of line = cond (is_frame line) (Ok (spelled line)) no_frame

-- the numbers of each case: a frame's own, and those of the answer FF00000000000000 that a bad line gets
abbrev pub numbers_of : Reading → List ℕ
numbers_of (Ok frame) = frame.first ∷ frame.second ∷ frame.third ∷ frame.fourth ∷ frame.number ∷ []
numbers_of (Err bad) = 255 ∷ 0 ∷ 0 ∷ 0 ∷ 0 ∷ []

-- the sixteen digits of a frame
unfoldable pub digits_of_frame : Frame → List ℕ
digits_of_frame frame =
    digits_of 2 frame.first ++
    (digits_of 2 frame.second ++ (digits_of 2 frame.third ++ (digits_of 2 frame.fourth ++ digits_of 8 frame.number)))

-- bytes of a written line
abbrev pub line_size : ℕ
line_size = line_digits + 1

-- a written line: the sixteen digits and a line feed
unfoldable pub line_of : Frame → List ℕ
line_of frame = digits_of_frame frame ++ (10 ∷ [])
