-- Lines one behind the other: the state and the answers after some lines and more; and bad lines change nothing, so that the state is
-- what the machine makes of the frames alone. By induction on the lines.
use mathlib.Core.Path.{◌≡◌, refl, ap, ◌∙◌}
use mathlib.Core.List.{List, [], ◌∷◌, ◌++◌}
use Rattle.std.proofs.Common.{Ok, Err}
use Rattle.lists.proofs.Joins.{joined-append}
use Rattle.lists.specs.Joins.{joined}
use Rattle.protocol.specs.Respond.{state_after, respond}
use Rattle.protocol.specs.State.{State}
use Rattle.shape.specs.Trees.{Tree}
use Rattle.machine.specs.Machine.{trees}
use Rattle.protocol.specs.Frames.{command_in}
use Rattle.text_hex.specs.Lines.{Reading}
use Rattle.program_batches.specs.Answers.{line_of_answer}
use Rattle.program_batches.proofs.Framed.{commands_read}
use Rattle.program_sessions.specs.Session.{response_to, answers_to_lines, state_after_lines, at_start, written_for}

-- bad lines change nothing
pub state-after-lines : (rs : List Reading) (s : State Tree) → state_after_lines s rs ≡ state_after trees s (commands_read rs)
unfolding state_after_lines state_after
state-after-lines [] s = refl
state-after-lines (Ok frame ∷ rs) s = state-after-lines rs (respond trees s (command_in frame)).state
state-after-lines (Err bad ∷ rs) s = state-after-lines rs s

-- lines behind others
pub state-append : (rs more : List Reading) (s : State Tree) → state_after_lines s (rs ++ more) ≡ state_after_lines (state_after_lines s rs) more
unfolding state_after_lines
state-append [] more s = refl
state-append (r ∷ rs) more s = state-append rs more (response_to s r).state

answers-append : (rs more : List Reading) (s : State Tree)
    → answers_to_lines s (rs ++ more) ≡ answers_to_lines s rs ++ answers_to_lines (state_after_lines s rs) more
unfolding state_after_lines answers_to_lines
answers-append [] more s = refl
answers-append (r ∷ rs) more s = ap (λ l. (response_to s r).answer ∷ l) (answers-append rs more (response_to s r).state)

pub written-append : (rs more : List Reading)
    → written_for (rs ++ more) ≡ written_for rs ++ joined line_of_answer (answers_to_lines (state_after_lines at_start rs) more)
unfolding written_for
written-append rs more =
    ap (joined line_of_answer) (answers-append rs more at_start)
    ∙ joined-append line_of_answer (answers_to_lines at_start rs) (answers_to_lines (state_after_lines at_start rs) more)
