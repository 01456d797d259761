-- `program_streams::pass` meets its contract. The loop's invariant: what has been read was passed on, and each turn read a byte at least,
-- so that the turns don't run out before a known input does.
use Rattle.std.proofs.Common.{◌≤◌, length}
use Rattle.program_streams.proofs.Passing.{PassedAll}
use Rattle.program_streams.proofs.pass.Given as goal

abbrev pub invariant-loop-turn : goal.invariant-loop-turn
invariant-loop-turn g l =
    (g.F.Filter.room ≤ length l.out)
    × PassedAll g.F.Filter.follows (g.R.Read.remaining l.initial.input) (g.R.Read.remaining l.input) l.initial.filter l.filter
    (g.W.Write.contents l.initial.output) (g.W.Write.contents l.output) l._turn
