-- The table of edges holds: each history is run and its command answered by computation.
use mathlib.Core.Path.{◌≡◌, refl}
use mathlib.Core.List.{map}
use Rattle.sequence.specs.Definition1.{count, access, rank, select, insert, delete}
use Rattle.protocol.specs.Commands.{rows}
use Rattle.protocol.specs.Refusals.{refusals, status_of}
use Rattle.protocol.specs.Respond.{reply, respond, state_after}
use Rattle.protocol.specs.Edges.{edges, answered}

-- every command of the table gets the answer that it must get
pub edges-hold : map answered edges ≡ map (λ e. e.expected) edges
unfolding answered edges count access rank select insert delete rows refusals status_of reply respond state_after
edges-hold = refl
