-- Demand 2 (RULES, Demands): for every name insert, delete, access, rank and select are those of Definition 1, with the answers, the edges
-- and the order of refusals of the rules. 'Full' is given exactly where the promised room is used up, 'no room' exactly where too few
-- shares are unpromised.
use Rattle.std.specs.Prelude.{◌≡◌, List, ◌++◌, map, ◌↔◌, ◌≢◌, ℕ, ◌+◌, ◌-◌, ◌*◌, ◌≤◌, ◌<◌, length, get_or, take}
use Rattle.lists.specs.Items.{All}
use Rattle.geometry.specs.Limits.{names, marks_per_share}
use Rattle.call_run.specs.Calls.{Ran}
use Rattle.call_tests.specs.Outcomes.{Outcome}
use Rattle.machine.specs.Machine.{trees}
use Rattle.pool.specs.Blocks.{leaf_marks}
use Rattle.pool.specs.Bytes.{shares}
use Rattle.pool.specs.Meaning.{meaning}
use Rattle.pool.specs.Names.{record_of, blocks_of, path_of}
use Rattle.pool.specs.Sound.{OpenName, Sound}
use Rattle.pool.specs.Trees.{shape_at, Way, entered}
use Rattle.protocol.specs.Commands.{open_code, insert_code, delete_code, access_code, rank_code, select_code}
use Rattle.protocol.specs.Edges.{edges, answered}
use Rattle.protocol.specs.Refusals.{NoneApplies, Lowest, refusals}
use Rattle.protocol.specs.Respond.{respond, without_depth}
use Rattle.protocol.specs.State.{Part, State, fresh_state, part_of, shares_of, marks_of, unpromised, lists, as_lists}
use Rattle.sequence.specs.Definition1.{count, access, rank, select, insert, delete}
use Rattle.shape.specs.Depth.{DepthRule}
use Rattle.shape.specs.Paths.{left_of}
use Rattle.demands.specs.Accepted.{Frame, frames_run, Fresh, Call, Session, commands_of, answers_of}

-- what a pool holds: its shares, and for each name nothing, or an alphabet size, the shares promised and a list of marks
abbrev pub held : List ℕ → State (List ℕ)
held p = as_lists trees (meaning p)

-- the part of the name that a frame names, before the frame
abbrev pub part : Frame → Part (List ℕ)
part f = part_of (held f.before) f.command.name

-- its marks
abbrev pub marks : Frame → List ℕ
marks f = marks_of lists (part f)

-- its marks after the frame
abbrev pub marks_after : Frame → List ℕ
marks_after f = marks_of lists (part_of (held f.after) f.command.name)

-- the unpromised shares before a frame
abbrev pub free : Frame → ℕ
free f = unpromised (held f.before)

-- The answers.

-- the answer, and what the pool then holds, are those of Definition 1 with the rules' tables; of the depth see below
pub record ByDefinition1 (f : Frame) : Type 0 where
  pub answer : without_depth f.answer ≡ (respond lists (held f.before) f.command).answer
  pub holds : held f.after ≡ (respond lists (held f.before) f.command).state

-- the five operations by themselves: what a frame that isn't refused answers, and what it makes of its name's marks
pub record Does (f : Frame) : Type 0 where
  pub inserts : f.command.code ≡ insert_code
      → (f.answer.value ≡ length (marks f) + 1) × (marks_after f ≡ insert f.command.symbol f.command.number (marks f))
  pub deletes : f.command.code ≡ delete_code
      → (f.answer.symbol ≡ access (marks f) f.command.number)
      × (f.answer.value ≡ length (marks f) - 1)
      × (marks_after f ≡ delete f.command.number (marks f))
  pub accesses : f.command.code ≡ access_code → f.answer.symbol ≡ access (marks f) f.command.number
  pub ranks : f.command.code ≡ rank_code → f.answer.value ≡ rank f.command.symbol (marks f) f.command.number
  pub selects : f.command.code ≡ select_code → f.answer.value ≡ select f.command.symbol (marks f) f.command.number

-- the status is the lowest that applies, and 0 exactly when none applies
abbrev pub InOrder : Frame → Type 0
InOrder f = Lowest (refusals lists) (free f) (part f) f.command f.answer.status

-- no refusal applies that stands before this one in the order of RULES, Statuses
abbrev pub NoneBefore : ℕ → Frame → Type 0
NoneBefore status f = NoneApplies (take (status - 1) (refusals lists)) (free f) (part f) f.command

-- a status is given exactly when this holds, at a command that no earlier refusal applies to, and at no other command
pub record Exactly (status code : ℕ) (When : Frame → Type 0) (f : Frame) : Type 0 where
  pub here : NoneBefore status f → f.command.code ≡ code → (f.answer.status ≡ status) ↔ When f
  pub only : f.answer.status ≡ status → NoneBefore status f × (f.command.code ≡ code)

-- n is 24·q
abbrev pub RoomUsedUp : Frame → Type 0
RoomUsedUp f = length (marks f) ≡ marks_per_share * shares_of (part f)

-- q exceeds the unpromised shares
abbrev pub TooFewShares : Frame → Type 0
TooFewShares f = free f < f.command.number

-- The depth.

-- the last of some blocks
abbrev pub last_of : List ℕ → ℕ
last_of path = get_or path (length path - 1) 0

-- these blocks stand from the root, a block of level h, to the leaf that bears place i: at each level the child of that number is entered,
-- the leaf's marks follow those below the children passed, and the place is among them
pub record FromRootTo (p path : List ℕ) (h root i : ℕ) (all : List ℕ) : Type 0 where
  pub numbers : List ℕ
  pub way : Way p h root numbers
  pub blocks : path ≡ entered p root numbers
  pub right : List ℕ
  pub marks : all ≡ left_of h numbers (shape_at p h root) ++ (leaf_marks p (last_of path) ++ right)
  pub past : length (left_of h numbers (shape_at p h root)) < i
  pub within : i ≤ length (left_of h numbers (shape_at p h root)) + length (leaf_marks p (last_of path))

-- an access that isn't refused tells how many blocks stand from the root to the block that bears the place, by the depth rule
pub record DepthOfPlace (f : Frame) : Type 0 where
  pub own : f.answer.depth ≡ length (path_of f.before f.command.name f.command.number)
  pub path : FromRootTo f.before (path_of f.before f.command.name f.command.number)
      (record_of f.before f.command.name).height (record_of f.before f.command.name).root f.command.number (marks f)
  pub rule : DepthRule (length (marks f)) f.answer.depth
  pub same : f.after ≡ f.before

-- and no other answer tells a depth
pub record Depth (f : Frame) : Type 0 where
  pub told : f.command.code ≡ access_code → f.answer.status ≡ 0 → DepthOfPlace f
  pub refused : f.answer.status ≢ 0 → f.answer.depth ≡ 0
  pub others : f.command.code ≢ access_code → f.answer.depth ≡ 0

-- one frame
pub record Answers (f : Frame) : Type 0 where
  pub definition : ByDefinition1 f
  pub does : f.answer.status ≡ 0 → Does f
  pub order : InOrder f
  pub full : Exactly 11 insert_code RoomUsedUp f
  pub no_room : Exactly 12 open_code TooFewShares f
  pub depth : Depth f

-- Rank and select.

-- rank at the j-th c is j, and select at the rank of a place bearing c is that place
pub record RankAndSelect (c : ℕ) (xs : List ℕ) : Type 0 where
  pub bears : (j : ℕ) → 1 ≤ j → j ≤ count c xs → access xs (select c xs j) ≡ c
  pub rank_of_select : (j : ℕ) → 1 ≤ j → j ≤ count c xs → rank c xs (select c xs j) ≡ j
  pub select_of_rank : (i : ℕ) → 1 ≤ i → i ≤ length xs → access xs i ≡ c → select c xs (rank c xs i) ≡ i

-- Calls.

-- the same frames in the same order, in one call or in several, from the same pool
pub record SameAnswers (calls calls' : List Call) (q q' : List ℕ) : Type 0 where
  pub answers : answers_of calls ≡ answers_of calls'
  pub meaning : meaning q ≡ meaning q'

pub record Demand2 : Type 0 where
  -- each frame of each accepted call (that the answers' bytes stand in the room is in demand 1), and the pool that the call leaves
  pub frames : (p commands room : List ℕ) (r : Outcome) (q filled : List ℕ) (ran : Ran p commands room r q filled) (zero : r.status ≡ 0)
      → All Answers (frames_run ran zero)
  pub sound : (p commands room : List ℕ) (r : Outcome) (q filled : List ℕ) → Ran p commands room r q filled → r.status ≡ 0 → Sound q
  -- in a sound pool no name holds more blocks than the shares it was promised, and every depth keeps to the rule
  pub blocks : (p : List ℕ) → Sound p → (x : ℕ) → x < names → length (blocks_of p x) ≤ shares_of (part_of (held p) x)
  pub depths : (p : List ℕ) → Sound p → (x : ℕ) → x < names → OpenName p x → (i : ℕ)
      → DepthRule (length (marks_of lists (part_of (held p) x))) (length (path_of p x i))
  -- a formatted pool is sound, with every name closed
  pub fresh : (p : List ℕ) → Fresh p → Sound p × (held p ≡ fresh_state (shares p))
  -- RULES, Edges
  pub edges : map answered edges ≡ map (λ e. e.expected) edges
  pub rank_and_select : (c : ℕ) (xs : List ℕ) → RankAndSelect c xs
  pub one_or_several : (p q q' : List ℕ) (calls calls' : List Call) → Session p calls q → Session p calls' q'
      → commands_of calls ≡ commands_of calls' → SameAnswers calls calls' q q'
