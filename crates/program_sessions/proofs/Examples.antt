-- The definition computes: the stored session of the first program, to the byte, and lines that are no frame.
use mathlib.Core.List.{[], ◌∷◌}
use mathlib.Core.Path.{◌≡◌, refl}
use Rattle.lists.specs.Joins.{joined}
use Rattle.program_batches.specs.Answers.{bad_answer, line_of_answer, line_of_bytes}
use Rattle.text_hex.specs.Digits.{value_of, digit_of, digits_of}
use Rattle.text_hex.specs.Lines.{frame_of, spelled, line_of, digits_of_frame}
use Rattle.text_lines.specs.Lines.{trims, trim, ended, left, lines_of}
use Rattle.machine.specs.Sessions.{input, output}
use Rattle.protocol.specs.Commands.{rows}
use Rattle.protocol.specs.Frames.{answer_of_bytes}
use Rattle.protocol.specs.Refusals.{refusals, status_of}
use Rattle.protocol.specs.Respond.{reply, respond}
use Rattle.sequence.specs.Definition1.{count, access, rank, select, insert}
use Rattle.shape.specs.Level.{halves, chop}
use Rattle.shape.specs.Paths.{path}
use Rattle.shape.specs.Trees.{insert_node, grown, insert_t}
use Rattle.program_sessions.specs.Session.{answers_to_lines, written_for, session_of}

-- its input and output, whole
pub example-session : session_of (joined line_of_bytes input) ≡ joined line_of_bytes output
unfolding session_of written_for answers_to_lines lines_of ended left trim trims frame_of spelled value_of line_of_bytes line_of digits_of_frame digits_of digit_of input output answer_of_bytes respond reply status_of refusals rows count access rank select insert insert_t insert_node grown chop halves path
example-session = refl

pub empty-input : session_of [] ≡ []
unfolding session_of written_for answers_to_lines lines_of ended left
empty-input = refl

-- an empty line, a carriage return as a line, and one in a last line without its line feed
pub bad-lines : session_of (10 ∷ 13 ∷ 10 ∷ 13 ∷ []) ≡ joined line_of_answer (bad_answer ∷ bad_answer ∷ bad_answer ∷ [])
unfolding session_of written_for answers_to_lines lines_of ended left trim trims frame_of
bad-lines = refl
