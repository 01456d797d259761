-- What one name sees of a run. Its answers and its part go by its own part and its own commands, the statuses of its openings aside.
use Rattle.std.specs.Prelude.{Bool, cond, List, [], ◌∷◌, map, ◌⊎◌, ◌≢◌, ◌≡◌, ℕ, ◌<◌, eqb, length}
use Rattle.geometry.specs.Limits.{names}
use Rattle.protocol.specs.Commands.{open_code}
use Rattle.protocol.specs.Frames.{bytes_of_answer}
use Rattle.protocol.specs.Respond.{Reply, reply, refused, respond, answers_to, state_after}
use Rattle.protocol.specs.State.{Part, State, part_of}
use Rattle.protocol.specs.declared.Answer.{Answer}
use Rattle.protocol.specs.declared.Command.{Command}
use Rattle.shape.specs.Trees.{Tree}
use Rattle.machine.specs.Machine.{trees}

-- there is a part for each of the sixteen names
abbrev pub HasNames : State Tree → Type 0
HasNames s = length s.parts ≡ names

-- two states are alike at name x: closed in both, or open with the same alphabet, shares and tree
abbrev pub AlikeAt : ℕ → State Tree → State Tree → Type 0
AlikeAt x s t = part_of s x ≡ part_of t x

-- One command.

-- the answer to a command, and its name's part after it
abbrev pub reply_in : State Tree → Command → Reply Tree
reply_in s c = record { answer = (respond trees s c).answer; part = part_of (respond trees s c).state c.name }

-- what a name with this part replies where the shares that an opening asks for are there
abbrev pub own_reply : Part Tree → Command → Reply Tree
own_reply part c = reply trees c.number part c

-- what it replies where they are not
abbrev pub shares_lacking : Part Tree → Command → Reply Tree
shares_lacking part c = record { answer = refused 12 c; part = part }

-- the reply to a command naming one of the sixteen is a function of the name's part and the command alone, except that an opening's
-- status may also be 12
abbrev pub OwnPartOnly : State Tree → Command → Type 0
OwnPartOnly s c = HasNames s → c.name < names
    → (reply_in s c ≡ own_reply (part_of s c.name) c)
    ⊎ ((c.code ≡ open_code) × (reply_in s c ≡ shares_lacking (part_of s c.name) c))

-- no command changes the part of a name that it doesn't name
abbrev pub OtherPartsStay : State Tree → Command → Type 0
OtherPartsStay s c = (x : ℕ) → x ≢ c.name → AlikeAt x (respond trees s c).state s

-- Two runs.

-- of the items that stand beside commands, those beside the commands that a test picks
unfoldable pub beside : {A : Type 0} → (Command → Bool) → List Command → List A → List A
beside pick [] items = []
beside pick (c ∷ cs) [] = []
beside pick (c ∷ cs) (item ∷ items) = cond (pick c) (item ∷ beside pick cs items) (beside pick cs items)

-- the command has this name byte, whatever its code
abbrev pub is_to : ℕ → Command → Bool
is_to x c = eqb c.name x

-- the command is an opening
abbrev pub is_opening : Command → Bool
is_opening c = eqb c.code open_code

-- the commands naming x, in order
abbrev pub frames_to : ℕ → List Command → List Command
frames_to x cs = beside (is_to x) cs cs

-- the answers to them
abbrev pub answers_for : ℕ → State Tree → List Command → List Answer
answers_for x s cs = beside (is_to x) cs (answers_to trees s cs)

-- the statuses of the openings among them
abbrev pub openings_of : ℕ → State Tree → List Command → List ℕ
openings_of x s cs = map (λ a. a.status) (beside is_opening (frames_to x cs) (answers_for x s cs))

-- two runs from states alike at a name x of the sixteen, with the same commands naming x and the same statuses of its openings; all
-- other commands are free
pub record RunsAlike (x : ℕ) (s t : State Tree) (cs ds : List Command) : Type 0 where
  pub name : x < names
  pub first_has : HasNames s
  pub second_has : HasNames t
  pub start : AlikeAt x s t
  pub frames : frames_to x cs ≡ frames_to x ds
  pub openings : openings_of x s cs ≡ openings_of x t ds

-- x gets the same answers, byte for byte, and has the same part at the end
pub record SameForName (x : ℕ) (s t : State Tree) (cs ds : List Command) : Type 0 where
  pub answers : answers_for x s cs ≡ answers_for x t ds
  pub bytes : map bytes_of_answer (answers_for x s cs) ≡ map bytes_of_answer (answers_for x t ds)
  pub end : AlikeAt x (state_after trees s cs) (state_after trees t ds)
