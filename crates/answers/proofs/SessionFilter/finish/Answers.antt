-- `answers::Session::finish` meets the contract of a filter: what is written is then the whole session.
use Rattle.answers.proofs.SessionFilter.finish.Goals as goal

pub returns-clause-whole : goal.returns-clause-whole
returns-clause-whole c = λ input written follows. (c.finish.ensures.over c.requires input written follows).whole
