-- A command that nothing refuses, and the machine's answer to it.
use Rattle.std.specs.Prelude.{List, ◌≡◌, ℕ}
use Rattle.geometry.specs.declared.Record.{Record}
use Rattle.machine.specs.Machine.{trees}
use Rattle.pool.specs.Meaning.{meaning}
use Rattle.pool.specs.Names.{record_of}
use Rattle.pool.specs.Sound.{Sound}
use Rattle.protocol.specs.Respond.{respond}
use Rattle.protocol.specs.declared.Answer.{Answer}
use Rattle.protocol.specs.declared.Command.{Command}
use Rattle.frame_status.specs.Statuses.{status_in}

-- a command that nothing refuses, and the record of its name
pub record Accepted (p : List ℕ) (c : Command) (found : Record) : Type 0 where
  pub sound : Sound p
  pub status : status_in p c ≡ 0
  pub read : found ≡ record_of p c.name

-- the machine's answer to a command
abbrev pub answer_of : List ℕ → Command → Answer
answer_of p c = (respond trees (meaning p) c).answer
