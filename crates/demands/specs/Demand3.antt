-- Demand 3 (RULES, Demands): two runs from formatted pools, in which one file gets the same commands and each of its openings the same
-- status, give that file the same answers byte for byte, whatever other files do and whatever the pools' sizes. No command that names
-- another file changes a byte of a block that this file holds. And RULES, Trees: the shape of the tree depends on the commands that its
-- own name got since it was opened, and not on the blocks that it was handed.
use Rattle.std.specs.Prelude.{◌≡◌, List, [], ◌∷◌, ◌++◌, map, ◌≢◌, ℕ, ◌<◌, get_or}
use Rattle.geometry.specs.Limits.{names}
use Rattle.lists.specs.Items.{All}
use Rattle.call_run.specs.Calls.{Ran}
use Rattle.call_tests.specs.Outcomes.{Outcome}
use Rattle.machine.specs.Machine.{trees}
use Rattle.machine.specs.OneName.{beside, is_to, is_opening, frames_to}
use Rattle.pool.specs.Meaning.{meaning_of}
use Rattle.pool.specs.Names.{blocks_of}
use Rattle.pool.specs.Untouched.{SameBlocks}
use Rattle.protocol.specs.Commands.{open_code}
use Rattle.protocol.specs.Respond.{reply}
use Rattle.protocol.specs.State.{Part, opened}
use Rattle.protocol.specs.declared.Command.{Command}
use Rattle.shape.specs.Trees.{Tree, empty_t}
use Rattle.demands.specs.Accepted.{Frame, frames_run, Fresh, Call, Session, commands_of, answers_of}
use Rattle.demands.specs.Demand2.{Demand2}

-- One name in a list of accepted calls.

-- its commands, in order
abbrev pub commands_to : ℕ → List Call → List Command
commands_to x calls = frames_to x (commands_of calls)

-- the answer frames to them, as bytes
abbrev pub answers_to_name : ℕ → List Call → List (List ℕ)
answers_to_name x calls = beside (is_to x) (commands_of calls) (answers_of calls)

-- the statuses of its openings: the first byte of each answer frame to one
abbrev pub openings_in : ℕ → List Call → List ℕ
openings_in x calls = map (λ bytes. get_or bytes 0 0) (beside is_opening (commands_to x calls) (answers_to_name x calls))

-- Two runs.

-- one name's commands are the same, in the same order, and each of its openings gets the same status; all other commands are free
pub record SameCommands (x : ℕ) (calls calls' : List Call) : Type 0 where
  pub name : x < names
  pub commands : commands_to x calls ≡ commands_to x calls'
  pub openings : openings_in x calls ≡ openings_in x calls'

-- two pools are alike at a name: closed in both, or open with the same alphabet, shares and tree, whichever blocks bear it
abbrev pub Alike : ℕ → List ℕ → List ℕ → Type 0
Alike x p p' = meaning_of p x ≡ meaning_of p' x

-- it is answered alike, byte for byte, and the pools are alike at it in the end
pub record AnsweredAlike (x : ℕ) (calls calls' : List Call) (q q' : List ℕ) : Type 0 where
  pub answers : answers_to_name x calls ≡ answers_to_name x calls'
  pub end : Alike x q q'

-- Another name's blocks.

-- a frame naming another file changes no byte of a block that x holds, nor which blocks it holds
pub record BlocksStay (x : ℕ) (f : Frame) : Type 0 where
  pub bytes : SameBlocks (blocks_of f.before x) f.before f.after
  pub blocks : blocks_of f.after x ≡ blocks_of f.before x

abbrev pub OthersStay : ℕ → Frame → Type 0
OthersStay x f = x ≢ f.command.name → BlocksStay x f

-- The tree's shape.

-- a name's part after commands naming it, none of which opens it: neither shares nor blocks nor other names are looked at
unfoldable pub part_after : Part Tree → List Command → Part Tree
part_after part [] = part
part_after part (c ∷ cs) = part_after (reply trees 0 part c).part cs

-- in these frames x is opened by a command that isn't refused, and not opened again
pub record Since (x : ℕ) (frames : List Frame) (opening : Frame) (since : List Frame) : Type 0 where
  pub earlier : List Frame
  pub cut : frames ≡ earlier ++ opening ∷ since
  pub own : opening.command.name ≡ x
  pub opens : opening.command.code ≡ open_code
  pub taken : opening.answer.status ≡ 0
  pub last : All (λ f. f.command.name ≡ x → f.command.code ≡ open_code → f.answer.status ≢ 0) since

-- a session's frames, in order
abbrev pub frames_in : (p : List ℕ) (calls : List Call) (q : List ℕ) → Session p calls q → List Frame
frames_in p [] q session = []
frames_in p (call ∷ calls) q session = frames_run session.ran session.accepted ++ frames_in session.middle calls q session.rest

-- the tree is a function of the opening and of its own commands since
abbrev pub ShapeIsOwn : ℕ → Frame → List Frame → List ℕ → Type 0
ShapeIsOwn x opening since q =
    meaning_of q x
    ≡ part_after (opened opening.command.symbol opening.command.number empty_t) (frames_to x (map (λ f. f.command) since))

pub record Demand3 : Type 0 where
  -- answers and meaning are demand 2's
  pub meaning : Demand2
  -- two runs from formatted pools
  pub formatted : (x : ℕ) (p p' q q' : List ℕ) (calls calls' : List Call) → Fresh p → Fresh p' → Session p calls q → Session p' calls' q'
      → SameCommands x calls calls' → AnsweredAlike x calls calls' q q'
  -- two runs from any two pools alike at x
  pub alike : (x : ℕ) (p p' q q' : List ℕ) (calls calls' : List Call) → Alike x p p' → Session p calls q → Session p' calls' q'
      → SameCommands x calls calls' → AnsweredAlike x calls calls' q q'
  pub others : (x : ℕ) → x < names → (p commands room : List ℕ) (r : Outcome) (q filled : List ℕ) (ran : Ran p commands room r q filled)
      (zero : r.status ≡ 0) → All (OthersStay x) (frames_run ran zero)
  pub shape : (x : ℕ) → x < names → (p q : List ℕ) (calls : List Call) (session : Session p calls q) (opening : Frame) (since : List Frame)
      → Since x (frames_in p calls q session) opening since → ShapeIsOwn x opening since q
