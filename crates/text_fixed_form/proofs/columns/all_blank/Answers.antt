use borrow.Author.Rules.{rules}
use mathlib.Core.Path.{sym, ◌∙◌}
use Rattle.text_fixed_form.proofs.Passes.{all-blank-end, all-blank-next, all-blank-stop}
use Rattle.text_fixed_form.proofs.columns.all_blank.Goals as goal

pub returns-then-byte-ne-BLANK : goal.returns-then-byte-ne-BLANK
returns-then-byte-ne-BLANK c = search (all-blank-stop, sym, ◌∙◌)

pub loop-byte-preserved : goal.loop-byte-preserved
loop-byte-preserved c = search (all-blank-next, ◌∙◌, rules)

pub returns : goal.returns
returns c = search (all-blank-end, sym, ◌∙◌)
