-- `text_lines::finish` holds all bytes of the line: the carriage return that waits is added, and where none waits the line is held already.
use Rattle.text_lines.proofs.Standing.{finishes-return, finishes-plain}
use Rattle.text_lines.proofs.finish.Goals as goal

pub returns-then-before : goal.returns-then-before
returns-then-before c = search finishes-return

pub returns-else-before : goal.returns-else-before
returns-else-before c = search finishes-plain
