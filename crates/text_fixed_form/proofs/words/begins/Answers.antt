use mathlib.Core.Path.{◌∙◌}
use borrow.Author.Rules.{rules}
use Rattle.lists.proofs.Cuts.{rest-is}
use Rattle.text_fixed_form.proofs.Texts.{compare-end, compare-whole, compare-blank, compare-next, compare-stop}
use Rattle.text_fixed_form.proofs.words.begins.Goals as goal
use Rattle.text_fixed_form.proofs.words.begins.Goals.{then-byte-ne-BLANK+in-len1-up+else-upper_case-letter, else-byte-ne-BLANK}

pub returns-in_default : goal.returns-in_default
returns-in_default c = search compare-whole

pub returns-then-upper_case-letter : goal.returns-then-upper_case-letter
returns-then-upper_case-letter c = search compare-stop

pub loop-byte-preserved : goal.loop-byte-preserved
loop-byte-preserved c =
    elim c.if-byte-ne-BLANK.branch [
      | then-byte-ne-BLANK+in-len1-up+else-upper_case-letter w ↦
          let next = compare-next _ _ _ _ c.loop-byte.invariant c.loop-byte-test.true w.if-byte-ne-BLANK.true w.in-len1-up.len_at_least _ w.upper_case.ensures w.if-upper_case-letter.false in
          cc (next, rest-is c.loop-byte.left.now 1)
      | else-byte-ne-BLANK w ↦ search (compare-blank, rules)
    ]

pub returns : goal.returns
returns c = search (compare-end, ◌∙◌)
