-- Commands cut into several lists, one for each call.
use mathlib.Core.List.{List, [], ◌∷◌, ◌++◌, flatten}
use Rattle.std.specs.Prelude.{◌≡◌}
use Rattle.protocol.specs.Respond.{answers_to, state_after}
use Rattle.protocol.specs.State.{State}
use Rattle.protocol.specs.declared.Answer.{Answer}
use Rattle.protocol.specs.declared.Command.{Command}
use Rattle.shape.specs.Trees.{Tree}
use Rattle.machine.specs.Machine.{trees}

-- the answers to all calls, each from the state that the one before it left
unfoldable pub answers_to_calls : State Tree → List (List Command) → List Answer
answers_to_calls s [] = []
answers_to_calls s (cs ∷ calls) = answers_to trees s cs ++ answers_to_calls (state_after trees s cs) calls

-- the state after all calls
unfoldable pub state_after_calls : State Tree → List (List Command) → State Tree
state_after_calls s [] = s
state_after_calls s (cs ∷ calls) = state_after_calls (state_after trees s cs) calls

-- the calls give what one call with all their commands gives
pub record OneOrSeveral (s : State Tree) (calls : List (List Command)) : Type 0 where
  pub answers : answers_to_calls s calls ≡ answers_to trees s (flatten calls)
  pub state : state_after_calls s calls ≡ state_after trees s (flatten calls)
