-- The index as a machine: what it answers to a command, and what it then holds.
use Rattle.std.specs.Prelude.{List, [], ◌∷◌, ℕ, zero, suc, set}
use Rattle.protocol.specs.Commands.{Effect, row_for}
use Rattle.protocol.specs.Refusals.{status_of}
use Rattle.protocol.specs.State.{Store, Part, State, part_of, unpromised}
use Rattle.protocol.specs.declared.Answer.{Answer}
use Rattle.protocol.specs.declared.Command.{Command}

-- an answer, and the name's part after it
pub record Reply (A : Type 0) : Type 0 where
  pub answer : Answer
  pub part : Part A

-- an answer, and the state after it
pub record Response (A : Type 0) : Type 0 where
  pub answer : Answer
  pub state : State A

-- the answer to a command that isn't refused
abbrev pub accepted : {A : Type 0} → Command → Effect A → Answer
accepted c e = record { status = 0; name = c.name; symbol = e.symbol; depth = e.depth; value = e.value }

-- the same for one that tells a value alone
abbrev pub value_to : Command → ℕ → Answer
value_to c value = record { status = 0; name = c.name; symbol = 0; depth = 0; value = value }

-- the answer to a refused command
abbrev pub refused : ℕ → Command → Answer
refused status c = record { status = status; name = c.name; symbol = 0; depth = 0; value = 0 }

-- with status 0 the command's effect; with another the part as it was
abbrev pub reply_of : {A : Type 0} → ℕ → Part A → Command → Effect A → Reply A
reply_of zero part c e = record { answer = accepted c e; part = e.part }
reply_of (suc status) part c e = record { answer = refused (suc status) c; part = part }

module _ {A : Type 0} (store : Store A) where
  -- what a name's part answers to a command, where so many shares are unpromised
  unfoldable pub reply : ℕ → Part A → Command → Reply A
  reply free part c = reply_of (status_of store free part c) part c ((row_for store c).effect free part c)

  -- the answer to a command, and the state with the part that its name then has
  unfoldable pub respond : State A → Command → Response A
  respond s c =
      let r = reply (unpromised s) (part_of s c.name) c in
      record { answer = r.answer; state = record { shares = s.shares; parts = set s.parts c.name r.part } }

  -- the answers to commands in order
  unfoldable pub answers_to : State A → List Command → List Answer
  answers_to s [] = []
  answers_to s (c ∷ cs) = (respond s c).answer ∷ answers_to (respond s c).state cs

  -- the state after commands in order
  unfoldable pub state_after : State A → List Command → State A
  state_after s [] = s
  state_after s (c ∷ cs) = state_after (respond s c).state cs

-- an answer but for its depth
abbrev pub without_depth : Answer → Answer
without_depth a = record { status = a.status; name = a.name; symbol = a.symbol; depth = 0; value = a.value }
