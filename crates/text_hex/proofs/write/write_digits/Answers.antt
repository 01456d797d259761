use Rattle.text_hex.proofs.Written.{putting-more, put_all}
use Rattle.text_hex.proofs.write.write_digits.Goals as goal

pub loop-left-preserved : goal.loop-left-preserved
loop-left-preserved c = search putting-more

pub returns : goal.returns
returns c = search put_all
