-- The machine's status of a command, by what a pool means, and what is known of the command where later tests are made.
use Rattle.std.specs.Prelude.{true, List, ◌≢◌, ◌≡◌, ℕ, Result, Ok, Err}
use Rattle.geometry.specs.declared.Record.{Record}
use Rattle.machine.specs.Machine.{trees}
use Rattle.pool.specs.Meaning.{meaning}
use Rattle.pool.specs.Names.{record_of}
use Rattle.pool.specs.Sound.{OpenName, Sound}
use Rattle.protocol.specs.Commands.{unpromised_code}
use Rattle.protocol.specs.Numbers.{number_of_reason}
use Rattle.protocol.specs.Refusals.{status_of, listed, is_name_allowed, is_unused_zero}
use Rattle.protocol.specs.State.{part_of, unpromised}
use Rattle.protocol.specs.declared.Command.{Command}
use Rattle.protocol.specs.declared.numbers.Reason.{Reason}

-- the machine's status of a command, by what the pool means
abbrev pub status_in : List ℕ → Command → ℕ
status_in p c = status_of trees (unpromised (meaning p)) (part_of (meaning p) c.name) c

-- the statuses 1 to 3 don't apply to the command
pub record WellFormed (c : Command) : Type 0 where
  pub known : listed trees c.code ≡ true
  pub name : is_name_allowed c ≡ true
  pub unused : is_unused_zero trees c ≡ true

-- the status that a test tells: a reason's number, and 0 where it passed
abbrev pub status_told : {A : Type 0} → Result A Reason → ℕ
status_told (Ok passed) = 0
status_told (Err reason) = number_of_reason reason

-- a well-formed command that names a name, and the name's record
pub record Naming (p : List ℕ) (c : Command) (found : Record) : Type 0 where
  pub sound : Sound p
  pub formed : WellFormed c
  pub named : c.code ≢ unpromised_code
  pub read : found ≡ record_of p c.name

-- the same where the name is open
pub record Asking (p : List ℕ) (c : Command) (found : Record) : Type 0 where
  pub naming : Naming p c found
  pub opened : OpenName p c.name

-- the status of a command to an open name with this record, on every pool the same
abbrev pub StatusBy : Command → Record → ℕ → Type 0
StatusBy c found status = (p : List ℕ) → Asking p c found → status ≡ status_in p c
