-- A tree's edits are Definition 1's on its marks, so the machine answers and goes on as the one on lists does, but for the depth.
use mathlib.Core.List.{List}
use mathlib.Core.Path.{◌≡◌, refl}
use Rattle.protocol.proofs.Agreement.{respond-on-lists, answers-on-lists, state-after-on-lists}
use Rattle.protocol.specs.Respond.{respond, without_depth}
use Rattle.protocol.specs.State.{State, lists, as_lists}
use Rattle.protocol.specs.Valid.{Faithful}
use Rattle.protocol.specs.declared.Command.{Command}
use Rattle.shape.proofs.Marks.{insert_t-marks, delete_t-marks}
use Rattle.shape.specs.Trees.{Tree}
use Rattle.machine.specs.Machine.{trees, ImageOnLists}

pub trees-are-faithful : Faithful trees
trees-are-faithful =
    record {
      empty = refl;
      insert = λ mark place tree low high. insert_t-marks _ mark place tree;
      delete = λ place tree low high. delete_t-marks _ place tree;
    }

module _ (s : State Tree) where
  pub image-on-lists : (cs : List Command) → ImageOnLists s cs
  image-on-lists cs =
      record { answers = answers-on-lists trees trees-are-faithful s cs; state = state-after-on-lists trees trees-are-faithful s cs }

  -- command by command
  pub image-of-respond : (c : Command)
      → respond lists (as_lists trees s) c
      ≡ record { answer = without_depth (respond trees s c).answer; state = as_lists trees (respond trees s c).state }
  image-of-respond c = respond-on-lists trees trees-are-faithful s c
