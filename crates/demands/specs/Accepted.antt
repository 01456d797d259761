-- An accepted call frame by frame, and accepted calls one after the other.
use Rattle.std.specs.Prelude.{◌≡◌, List, [], ◌∷◌, ◌++◌, ℕ, length, take}
use Rattle.call_run.specs.Calls.{Formats, Ran}
use Rattle.call_run.specs.Runs.{Runs, eights, commands_in}
use Rattle.call_tests.specs.Outcomes.{Outcome}
use Rattle.protocol.specs.declared.Answer.{Answer}
use Rattle.protocol.specs.declared.Command.{Command}

-- One call.

-- one frame of a call: the pool before it, the command, its answer, the pool after it
pub record Frame : Type 0 where
  pub before : List ℕ
  pub command : Command
  pub answer : Answer
  pub after : List ℕ

-- frames in turn, each from the pool that the one before it left, from the pool p to the pool q
abbrev pub InTurn : List ℕ → List Frame → List ℕ → Type 0
InTurn p [] q = q ≡ p
InTurn p (f ∷ fs) q = (f.before ≡ p) × InTurn f.after fs q

-- the frames that were run, in order
abbrev pub frames_of : (p : List ℕ) (cs : List Command) (answers : List Answer) (q : List ℕ) → Runs p cs answers q → List Frame
frames_of p [] answers q runs = []
frames_of p (c ∷ cs) answers q runs =
    record { before = p; command = c; answer = runs.answer; after = runs.middle }
    ∷ frames_of runs.middle cs runs.behind q runs.rest

-- the frames of an accepted call
abbrev pub frames_run : {p commands room : List ℕ} {r : Outcome} {q filled : List ℕ} → Ran p commands room r q filled → r.status ≡ 0
    → List Frame
frames_run {p} {commands} {room} {r} {q} {filled} ran zero =
    frames_of p (commands_in commands) (ran.accepted zero).answers q (ran.accepted zero).runs

-- the answer frames of a call: those at the front of the answer room, as many as the commands
abbrev pub answer_frames : List ℕ → List ℕ → List (List ℕ)
answer_frames commands filled = eights (take (length commands) filled)

-- Several calls.

-- a pool that format has just left
pub record Fresh (p : List ℕ) : Type 0 where
  pub before : List ℕ
  pub formats : Formats before 0 p

-- a call: the commands lent, the answer room before and after, and what came of it
pub record Call : Type 0 where
  pub commands : List ℕ
  pub room : List ℕ
  pub outcome : Outcome
  pub filled : List ℕ

-- the first of several calls is accepted, and the rest follow from the pool that it left
pub record FirstCall (p : List ℕ) (call : Call) (Rest : List ℕ → Type 0) : Type 0 where
  pub middle : List ℕ
  pub ran : Ran p call.commands call.room call.outcome middle call.filled
  pub accepted : call.outcome.status ≡ 0
  pub rest : Rest middle

-- accepted calls one after the other, with no format between them, from the pool p to the pool q
abbrev pub Session : List ℕ → List Call → List ℕ → Type 0
Session p [] q = q ≡ p
Session p (call ∷ calls) q = FirstCall p call (λ middle. Session middle calls q)

-- their commands, in order
unfoldable pub commands_of : List Call → List Command
commands_of [] = []
commands_of (call ∷ calls) = commands_in call.commands ++ commands_of calls

-- their answer frames, in order
unfoldable pub answers_of : List Call → List (List ℕ)
answers_of [] = []
answers_of (call ∷ calls) = answer_frames call.commands call.filled ++ answers_of calls
