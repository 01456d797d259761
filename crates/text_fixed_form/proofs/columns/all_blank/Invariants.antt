-- `all_blank` meets its contract. The loop's invariant: the columns that are left decide the answer.
use mathlib.Core.Path.{◌≡◌}
use lib.ListN.{drop}
use Rattle.text_fixed_form.specs.Mark.{all_blank}
use Rattle.text_fixed_form.proofs.columns.all_blank.Given as goal

abbrev pub invariant-loop-byte : goal.invariant-loop-byte
invariant-loop-byte l = all_blank l.line ≡ all_blank (drop l.byte-index l.line)
