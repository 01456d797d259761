-- `begins` meets its contract. The loop's invariant: what is left of the word, compared with the columns that are left of the line, decides
-- the answer.
use mathlib.Core.Path.{◌≡◌}
use lib.ListN.{drop}
use Rattle.text_fixed_form.specs.Mark.{begins, text}
use Rattle.text_fixed_form.proofs.words.begins.Given as goal

abbrev pub invariant-loop-byte : goal.invariant-loop-byte
invariant-loop-byte l = begins l.word (text l.line) ≡ begins l.left (text (drop l.byte-index l.line))
