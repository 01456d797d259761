-- Frames as records and as eight bytes. A number's four bytes stand high byte first.
use Rattle.std.specs.Prelude.{List, [], ◌∷◌, ℕ, ◌+◌, ◌*◌, ◌/◌, ◌%◌, ◌^◌, ◌<◌, get_or}
use Rattle.protocol.specs.declared.Answer.{Answer}
use Rattle.protocol.specs.declared.Command.{Command}
use Rattle.protocol.specs.declared.Frame.{Frame}

-- the number that four bytes stand for
abbrev pub number_of : ℕ → ℕ → ℕ → ℕ → ℕ
number_of a b c d = ((a * 256 + b) * 256 + c) * 256 + d

-- the frame that eight bytes stand for
abbrev pub frame_of_bytes : List ℕ → Frame
frame_of_bytes bytes =
    record {
      first = get_or bytes 0 0;
      second = get_or bytes 1 0;
      third = get_or bytes 2 0;
      fourth = get_or bytes 3 0;
      number = number_of (get_or bytes 4 0) (get_or bytes 5 0) (get_or bytes 6 0) (get_or bytes 7 0);
    }

-- the eight bytes of a frame
abbrev pub bytes_of_frame : Frame → List ℕ
bytes_of_frame f =
    f.first
    ∷ f.second
    ∷ f.third
    ∷ f.fourth
    ∷ f.number / 16777216 % 256
    ∷ f.number / 65536 % 256
    ∷ f.number / 256 % 256
    ∷ f.number % 256
    ∷ []

-- a frame as a command: code, name, symbol, a fourth byte, number
abbrev pub command_in : Frame → Command
command_in f = record { code = f.first; name = f.second; symbol = f.third; fourth = f.fourth; number = f.number }

abbrev pub frame_of_command : Command → Frame
frame_of_command c = record { first = c.code; second = c.name; third = c.symbol; fourth = c.fourth; number = c.number }

-- a frame as an answer: status, name as received, symbol, depth, value
abbrev pub answer_in : Frame → Answer
answer_in f = record { status = f.first; name = f.second; symbol = f.third; depth = f.fourth; value = f.number }

abbrev pub frame_of_answer : Answer → Frame
frame_of_answer a = record { first = a.status; second = a.name; third = a.symbol; fourth = a.depth; number = a.value }

-- the command that eight bytes stand for
unfoldable pub command_of : List ℕ → Command
command_of bytes = command_in (frame_of_bytes bytes)

-- the answer that eight bytes stand for
unfoldable pub answer_of_bytes : List ℕ → Answer
answer_of_bytes bytes = answer_in (frame_of_bytes bytes)

-- the eight bytes of a command
unfoldable pub bytes_of_command : Command → List ℕ
bytes_of_command c = bytes_of_frame (frame_of_command c)

-- the eight bytes of an answer
unfoldable pub bytes_of_answer : Answer → List ℕ
bytes_of_answer a = bytes_of_frame (frame_of_answer a)

-- the fields of a command fit their bytes
pub record Fitting (c : Command) : Type 0 where
  pub code : c.code < 256
  pub name : c.name < 256
  pub symbol : c.symbol < 256
  pub fourth : c.fourth < 256
  pub number : c.number < 2 ^ 32
