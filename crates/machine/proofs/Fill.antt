-- What every state keeps that comes about: it is valid, and every tree is filled.
use mathlib.Core.List.{List, [], ◌∷◌}
use Prim.Native.Nat.{ℕ}
use Rattle.geometry.specs.Limits.{names}
use Rattle.protocol.proofs.Commands.{by_row}
use Rattle.protocol.proofs.Valid.{each-after-set, by-status, formatted-is-closed, formatted-is-valid, commands-keep-valid}
use Rattle.protocol.specs.Commands.{edited, rows, row_for}
use Rattle.protocol.specs.Respond.{reply, respond, state_after}
use Rattle.protocol.specs.State.{Part, State, closed, opened, fresh_state, part_of, unpromised}
use Rattle.protocol.specs.Valid.{Valid}
use Rattle.protocol.specs.declared.Command.{Command}
use Rattle.shape.proofs.Filled.{empty_t-filled, insert_t-filled, delete_t-filled}
use Rattle.shape.proofs.Instances.{one_to_a_byte-proper}
use Rattle.shape.specs.Fill.{FilledT}
use Rattle.shape.specs.Sizes.{one_to_a_byte}
use Rattle.shape.specs.Trees.{Tree}
use Rattle.machine.specs.Machine.{trees, FilledPart, FilledState}
use Rattle.machine.proofs.Machine.{trees-are-faithful}

edited-keeps-fill : (edit : Tree → Tree) (part : Part Tree) → ((tree : Tree) → FilledT one_to_a_byte tree → FilledT one_to_a_byte (edit tree))
    → FilledPart part → FilledPart (edited edit part)
edited-keeps-fill edit closed keeps filled = tt
edited-keeps-fill edit (opened alphabet q tree) keeps filled = keeps tree filled

module _ (free : ℕ) (part : Part Tree) (c : Command) (filled : FilledPart part) where
  effect-keeps-fill : FilledPart ((row_for trees c).effect free part c).part
  unfolding rows
  effect-keeps-fill =
      let insert = insert_t-filled one_to_a_byte one_to_a_byte-proper c.symbol c.number in
      let delete = delete_t-filled one_to_a_byte one_to_a_byte-proper c.number in
      by_row (λ code r. FilledPart (r.effect free part c).part) c.code (rows trees) (
        empty_t-filled one_to_a_byte one_to_a_byte-proper,
        (
          tt,
          (
            edited-keeps-fill (trees.insert c.symbol c.number) part insert filled,
            (edited-keeps-fill (trees.delete c.number) part delete filled, (filled, (filled, (filled, (filled, (filled, tt)))))),
          ),
        ),
      )
      filled

  -- a reply leaves a filled tree filled
  pub reply-keeps-fill : FilledPart (reply trees free part c).part
  reply-keeps-fill = by-status trees trees-are-faithful free part c FilledPart filled (λ accepted. effect-keeps-fill)

-- trees stay filled
pub fill-stays : (s : State Tree) (c : Command) → FilledState s → FilledState (respond trees s c).state
unfolding respond
fill-stays s c filled =
    let part = part_of s c.name in
    each-after-set FilledPart s.parts c.name (reply trees (unpromised s) part c).part
    (reply-keeps-fill (unpromised s) part c (filled c.name))
    filled

pub fill-stays-after : (s : State Tree) (cs : List Command) → FilledState s → FilledState (state_after trees s cs)
unfolding state_after
fill-stays-after s [] filled = filled
fill-stays-after s (c ∷ cs) filled = fill-stays-after (respond trees s c).state cs (fill-stays s c filled)

-- valid states stay valid
pub validity-stays-after : (s : State Tree) (cs : List Command) → Valid trees s → Valid trees (state_after trees s cs)
validity-stays-after = commands-keep-valid trees trees-are-faithful

-- a formatted pool is both
pub formatted-is-valid-and-filled : (shares : ℕ) → Valid trees (fresh_state shares) × FilledState (fresh_state shares)
formatted-is-valid-and-filled shares = (formatted-is-valid trees shares, λ name. rw (formatted-is-closed names name) tt)
