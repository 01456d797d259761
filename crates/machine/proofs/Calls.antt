-- Commands in one list or cut into several: the same answers and the same state.
use mathlib.Core.List.{List, [], ◌∷◌, ◌++◌, flatten}
use mathlib.Core.Path.{refl, sym, ap, ◌∙◌}
use Rattle.protocol.proofs.Respond.{answers-append, state-after-append}
use Rattle.protocol.specs.Respond.{answers_to, state_after}
use Rattle.protocol.specs.State.{State}
use Rattle.protocol.specs.declared.Command.{Command}
use Rattle.shape.specs.Trees.{Tree}
use Rattle.machine.specs.Calls.{answers_to_calls, state_after_calls, OneOrSeveral}
use Rattle.machine.specs.Machine.{trees}

pub one-or-several : (calls : List (List Command)) (s : State Tree) → OneOrSeveral s calls
unfolding answers_to_calls state_after_calls flatten answers_to state_after
one-or-several [] s = record { answers = refl; state = refl }
one-or-several (cs ∷ calls) s =
    let later = one-or-several calls (state_after trees s cs) in
    record {
      answers = ap (λ l. answers_to trees s cs ++ l) later.answers ∙ sym (answers-append trees s cs (flatten calls));
      state = later.state ∙ sym (state-after-append trees s cs (flatten calls));
    }
