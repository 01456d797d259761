-- The index as one computing machine: protocol's `respond`, `answers_to` and `state_after`, with each open name's marks in a tree.
use Rattle.std.specs.Prelude.{List, map, ◌≡◌, ℕ}
use Rattle.protocol.specs.Respond.{answers_to, state_after, without_depth}
use Rattle.protocol.specs.State.{Store, Part, State, closed, opened, part_of, lists, as_lists}
use Rattle.protocol.specs.declared.Command.{Command}
use Rattle.shape.specs.Fill.{FilledT}
use Rattle.shape.specs.Paths.{depth_t}
use Rattle.shape.specs.Sizes.{one_to_a_byte}
use Rattle.shape.specs.Trees.{Tree, empty_t, marks_t, insert_t, delete_t}

-- marks kept in a tree, one to a byte: the empty leaf at an opening, and a place as deep as the path to it is long
abbrev pub trees : Store Tree
trees =
    record {
      empty = empty_t;
      marks = marks_t;
      insert = insert_t one_to_a_byte;
      delete = delete_t one_to_a_byte;
      depth = depth_t;
    }

-- the machine's image on lists is the machine on lists, answer for answer but for the depth, state for state
pub record ImageOnLists (s : State Tree) (cs : List Command) : Type 0 where
  pub answers : answers_to lists (as_lists trees s) cs ≡ map without_depth (answers_to trees s cs)
  pub state : state_after lists (as_lists trees s) cs ≡ as_lists trees (state_after trees s cs)

-- an open name's tree is filled; a closed one has none
abbrev pub FilledPart : Part Tree → Type 0
FilledPart closed = Unit {0}
FilledPart (opened alphabet q tree) = FilledT one_to_a_byte tree

-- every open name's tree is filled
abbrev pub FilledState : State Tree → Type 0
FilledState s = (name : ℕ) → FilledPart (part_of s name)
