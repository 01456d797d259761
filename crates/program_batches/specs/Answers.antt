-- Answers as lines of digits.
use Rattle.std.specs.Prelude.{List, ℕ, get_or}
use Rattle.text_hex.specs.Lines.{no_frame, numbers_of, line_of}
use Rattle.protocol.specs.Frames.{answer_of_bytes, frame_of_answer}
use Rattle.protocol.specs.declared.Answer.{Answer}

-- the answer that has these numbers
abbrev pub answer_of_numbers : List ℕ → Answer
answer_of_numbers numbers =
    record {
      status = get_or numbers 0 0;
      name = get_or numbers 1 0;
      symbol = get_or numbers 2 0;
      depth = get_or numbers 3 0;
      value = get_or numbers 4 0;
    }

-- the answer to a bad line: FF00000000000000
abbrev pub bad_answer : Answer
bad_answer = answer_of_numbers (numbers_of no_frame)

-- an answer as a line: sixteen digits and a line feed
abbrev pub line_of_answer : Answer → List ℕ
line_of_answer a = line_of (frame_of_answer a)

-- the line of eight bytes
unfoldable pub line_of_bytes : List ℕ → List ℕ
line_of_bytes bytes = line_of_answer (answer_of_bytes bytes)
