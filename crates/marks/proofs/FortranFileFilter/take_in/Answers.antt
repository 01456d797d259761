-- `marks::FortranFile::take_in` meets the contract of a filter: the frames that stand in the output count as written.
use Rattle.marks.proofs.Written.{frames-written}
use Rattle.marks.proofs.FortranFileFilter.take_in.Goals as goal

pub returns-clause-followed : goal.returns-clause-followed
returns-clause-followed c = search frames-written
