use Rattle.text_lines.proofs.Passed.{passed-more, gathers-line}
use Rattle.text_lines.proofs.gather.Goals as goal

pub returns-then-byte-eq-LINE_FEED : goal.returns-then-byte-eq-LINE_FEED
returns-then-byte-eq-LINE_FEED c = search gathers-line

pub loop-i-preserved : goal.loop-i-preserved
loop-i-preserved c = search passed-more
