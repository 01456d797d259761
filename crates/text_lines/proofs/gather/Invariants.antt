-- `text_lines::gather` meets its contract. The invariant: no line feed is among the bytes passed, and the state has gone on by them.
-- At a line feed and at the end this is the contract.
use Rattle.text_lines.proofs.Passed.{Passed}
use Rattle.text_lines.proofs.gather.Given as goal

abbrev pub invariant-loop-i : goal.invariant-loop-i
invariant-loop-i l = Passed l.returns l.bytes l.initial.line l.initial.keep l.i l.line l.keep
