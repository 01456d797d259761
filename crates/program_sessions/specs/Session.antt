-- A session of the first program, over its whole input: which lines are bad, which frames run, and what is written.
use Rattle.std.specs.Prelude.{false, List, [], ◌∷◌, map, ℕ, ◌-◌, ◌/◌, Ok, Err}
use Rattle.lists.specs.Joins.{joined}
use Rattle.program_batches.specs.Answers.{bad_answer, line_of_answer}
use Rattle.geometry.specs.Limits.{program_pool, directory_size, block_size}
use Rattle.text_hex.specs.Lines.{Reading, frame_of}
use Rattle.text_lines.specs.Lines.{lines_of}
use Rattle.machine.specs.Machine.{trees}
use Rattle.protocol.specs.Frames.{command_in}
use Rattle.protocol.specs.Respond.{Response, respond}
use Rattle.protocol.specs.State.{State, fresh_state}
use Rattle.protocol.specs.declared.Answer.{Answer}
use Rattle.shape.specs.Trees.{Tree}

-- what a line is answered, and the state after it: a frame is run, a bad line isn't
abbrev pub response_to : State Tree → Reading → Response Tree
response_to s (Ok frame) = respond trees s (command_in frame)
response_to s (Err bad) = record { answer = bad_answer; state = s }

-- the answers to lines in order, each from the state that the one before it left
unfoldable pub answers_to_lines : State Tree → List Reading → List Answer
answers_to_lines s [] = []
answers_to_lines s (r ∷ rs) = (response_to s r).answer ∷ answers_to_lines (response_to s r).state rs

-- the state after lines in order
unfoldable pub state_after_lines : State Tree → List Reading → State Tree
state_after_lines s [] = s
state_after_lines s (r ∷ rs) = state_after_lines (response_to s r).state rs

-- the state of the program's pool, formatted
abbrev pub at_start : State Tree
at_start = fresh_state ((program_pool - directory_size) / block_size)

-- what is written for lines, from the start
unfoldable pub written_for : List Reading → List ℕ
written_for rs = joined line_of_answer (answers_to_lines at_start rs)

-- a whole session: what is written for an input. A carriage return is a byte of its line
unfoldable pub session_of : List ℕ → List ℕ
session_of input = written_for (map frame_of (lines_of false input))
