-- The machine computes: the stored session of the first program, and a tree that grows to two levels and comes back to one.
use mathlib.Core.List.{[], ◌∷◌}
use mathlib.Core.Path.{◌≡◌, refl}
use Rattle.protocol.specs.Commands.{rows}
use Rattle.protocol.specs.Frames.{command_of, bytes_of_answer}
use Rattle.protocol.specs.Refusals.{refusals, status_of}
use Rattle.protocol.specs.Respond.{reply, respond, answers_to}
use Rattle.sequence.specs.Definition1.{count, access, rank, select, insert, delete}
use Rattle.shape.specs.Level.{halves, chop, mend, seat, rest, chosen, in_child}
use Rattle.shape.specs.Paths.{path}
use Rattle.shape.specs.Trees.{insert_node, delete_node, grown, shrunk, insert_t, delete_t}
use Rattle.machine.specs.Sessions.{input, output, ran, growing, last_depths}

pub example-runs : ran input ≡ output
unfolding ran input output command_of bytes_of_answer answers_to respond reply status_of refusals rows count access rank select insert insert_t insert_node grown chop halves path
example-runs = refl

pub depth-grows-and-shrinks : last_depths growing ≡ 2 ∷ 0 ∷ 1 ∷ []
unfolding last_depths growing answers_to respond reply status_of refusals rows access insert delete insert_t insert_node grown chop halves path delete_t delete_node shrunk mend in_child seat rest chosen
depth-grows-and-shrinks = refl
