-- `text_lines::accept` goes on by a byte: what waited is a byte of the line now, and the new byte waits if both tests hold, or is added.
use Rattle.text_lines.proofs.Trims.{waits-return, rule-off, other_byte}
use Rattle.text_lines.proofs.Standing.{accepts-return, accepts-other}
use Rattle.text_lines.proofs.accept.Goals as goal
use Rattle.text_lines.proofs.accept.Goals.{else-returns-via-then-returns+else-byte-eq-CARRIAGE_RETURN, else-returns-via-else-returns}

pub returns-then-byte-eq-CARRIAGE_RETURN : goal.returns-then-byte-eq-CARRIAGE_RETURN
returns-then-byte-eq-CARRIAGE_RETURN c = search (accepts-return, waits-return)

pub returns-else-returns : goal.returns-else-returns
returns-else-returns c =
    elim c.else-returns.branch [ else-returns-via-then-returns+else-byte-eq-CARRIAGE_RETURN w ↦ search (accepts-other, other_byte) | else-returns-via-else-returns w ↦ search (accepts-other, rule-off) ]
