-- The insert frames of a Fortran file, over the whole input: what the second program writes.
use Rattle.std.specs.Prelude.{true, cond, List, [], ◌∷◌, ◌++◌, ℕ, ◌+◌, ltb, take}
use Rattle.text_fixed_form.specs.Mark.{mark_of}
use Rattle.geometry.specs.Limits.{most_marks}
use Rattle.text_hex.specs.Lines.{line_of}
use Rattle.text_lines.specs.Lines.{lines_of}
use Rattle.protocol.specs.Commands.{insert_code}
use Rattle.protocol.specs.Frames.{frame_of_command}
use Rattle.protocol.specs.declared.Command.{Command}

-- the name that the marks go to
abbrev pub file : ℕ
file = 0

-- the insertion of a mark at a place
abbrev pub insertion : ℕ → ℕ → Command
insertion place mark = record { code = insert_code; name = file; symbol = mark; fourth = 0; number = place }

-- the insert frame of a line's mark at a place, as a line of digits
unfoldable pub frame_at : ℕ → List ℕ → List ℕ
frame_at place line = line_of (frame_of_command (insertion place (mark_of line)))

-- the frames of lines, the first at this place
unfoldable pub frames_from : ℕ → List (List ℕ) → List ℕ
frames_from place [] = []
frames_from place (line ∷ lines) = frame_at place line ++ frames_from (place + 1) lines

-- the frames of the first lines, as many as one name can hold marks
unfoldable pub frames_of_lines : List (List ℕ) → List ℕ
frames_of_lines lines = frames_from 1 (take most_marks lines)

-- the frames of a whole file; a carriage return before a line feed belongs to the line's end
unfoldable pub frames_of_file : List ℕ → List ℕ
frames_of_file input = frames_of_lines (lines_of true input)

-- the frame of a line after so many others, of which those past the limit have none
unfoldable pub frame_after : ℕ → List ℕ → List ℕ
frame_after lines line = cond (ltb lines most_marks) (frame_at (lines + 1) line) []
