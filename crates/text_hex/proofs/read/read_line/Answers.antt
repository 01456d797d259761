-- `text_hex::read::read_line` meets its contract: each way out is a case of `frame_of`, and each field is the number of its digits.
use mathlib.Core.Path.{sym, ◌∙◌}
use borrow.Author.Tests.{not-true}
use Rattle.text_hex.proofs.Lines.{frame-of-other-length, frame-of-no-digits, frame-read}
use Rattle.text_hex.proofs.read.read_line.Goals as goal
use Rattle.text_hex.proofs.read.read_line.Goals.{then-line-ne-LINE_DIGITS-via-then-line-ne-LINE_DIGITS, then-line-ne-LINE_DIGITS-via-else-line-ne-LINE_DIGITS+then-not-are_digits}

pub returns-then-line-ne-LINE_DIGITS : goal.returns-then-line-ne-LINE_DIGITS
returns-then-line-ne-LINE_DIGITS c =
    elim c.then-line-ne-LINE_DIGITS.branch [
      | then-line-ne-LINE_DIGITS-via-then-line-ne-LINE_DIGITS w ↦ search frame-of-other-length
      | then-line-ne-LINE_DIGITS-via-else-line-ne-LINE_DIGITS+then-not-are_digits w ↦ search (frame-of-no-digits, not-true, sym, ◌∙◌)
    ]

pub returns : goal.returns
returns c = search frame-read
