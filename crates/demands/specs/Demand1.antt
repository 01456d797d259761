-- Demand 1 (RULES, Demands): whatever pool, commands and answer room are lent, every call ends, and it counts on nothing that the caller
-- might have tested. A call that is refused leaves all three buffers as they were. A command that is refused leaves the pool as it was,
-- and has its answer frame all the same.
use Rattle.std.specs.Prelude.{◌≡◌, List, map, ◌⊎◌, ◌↔◌, ◌≢◌, ℕ, ◌*◌, length, drop}
use borrow.Fn.World.{World, Pr, ArgsD, ResD}
use contract.Lifetimes.{Lfts}
use contract.Notation.{connectives}
use denote.Triple.Clauses.{AtExit}
use Rattle.lists.specs.Items.{All}
use Rattle.forfochry.specs.contracts.mark as mark
use Rattle.forfochry.proofs.mark.Reads as MarkReads
use Rattle.forfochry.proofs.mark.Statement as Mark
use Rattle.text_fixed_form.specs.Mark.{mark_of}
use Rattle.geometry.specs.Limits.{frame_size}
use Rattle.forfochry.specs.contracts.format as format
use Rattle.forfochry.proofs.format.Reads as FormatReads
use Rattle.forfochry.proofs.format.Statement as Format
use Rattle.forfochry.specs.contracts.run as run
use Rattle.forfochry.proofs.run.Reads as RunReads
use Rattle.forfochry.proofs.run.Statement as Run
use Rattle.call_run.specs.Alike.{SameOutcome}
use Rattle.call_tests.specs.Tests.{StatusOfCall}
use Rattle.call_run.specs.Calls.{Formats, Ran}
use Rattle.call_run.specs.Runs.{commands_in}
use Rattle.call_tests.specs.Outcomes.{Outcome, call_outcome, call_status}
use Rattle.pool.specs.Formatted.{formatted}
use Rattle.pool.specs.Sound.{LengthAllowed}
use Rattle.protocol.specs.Frames.{bytes_of_answer}
use Rattle.protocol.specs.Respond.{refused}
use Rattle.demands.specs.Accepted.{Frame, InTurn, frames_run, answer_frames}

-- format, whatever the bytes: 0 and a formatted pool, or 101 and every byte as it was
pub record FormatTakesAll (p : List ℕ) (status : ℕ) (q : List ℕ) : Type 0 where
  pub number : (status ≡ 0) ⊎ (status ≡ 101)
  pub when : (status ≡ 0) ↔ LengthAllowed (length p)
  pub refused : status ≢ 0 → q ≡ p
  pub accepted : status ≡ 0 → q ≡ formatted (length p)

-- a refused command: its answer frame holds the number, the name and zeros, and no byte of the pool changes
abbrev pub RefusedCommand : Frame → Type 0
RefusedCommand f = f.answer.status ≢ 0 → (f.answer ≡ refused f.answer.status f.command) × (f.after ≡ f.before)

-- an accepted call: each command is run in its turn and has its answer frame, a refused one too; the room behind these is as it was
pub record AcceptedCall (p commands room : List ℕ) (r : Outcome) (q filled : List ℕ) (frames : List Frame) : Type 0 where
  pub each : map (λ f. f.command) frames ≡ commands_in commands
  pub turns : InTurn p frames q
  pub answers : map (λ f. bytes_of_answer f.answer) frames ≡ answer_frames commands filled
  pub count : r.count ≡ length frames
  pub whole : length commands ≡ frame_size * r.count
  pub behind : drop (length commands) filled ≡ drop (length commands) room
  pub refusals : All RefusedCommand frames

-- run, whatever the bytes: the first reason of RULES, Calls that applies gives the number. Refused, all lent buffers are as they were;
-- the commands always are, since they are lent to be read alone
pub record RunTakesAll (p commands room : List ℕ) (r : Outcome) (q filled : List ℕ) (ran : Ran p commands room r q filled) : Type 0 where
  pub table : StatusOfCall p commands room r.status
  pub refused : r.status ≢ 0 → (r.count ≡ 0) × (q ≡ p) × (filled ≡ room)
  pub accepted : (zero : r.status ≡ 0) → AcceptedCall p commands room r q filled (frames_run ran zero)
  pub long : (length q ≡ length p) × (length filled ≡ length room)

-- mark, whatever the line: one of six numbers, and no refusal
abbrev pub MarkTakesAll : ℕ → Type 0
MarkTakesAll r = (r ≡ 0) ⊎ (r ≡ 1) ⊎ (r ≡ 2) ⊎ (r ≡ 3) ⊎ (r ≡ 4) ⊎ (r ≡ 15)

-- What the calls do.

pub record Demand1 : Type 0 where
  pub format : (p : List ℕ) (status : ℕ) (q : List ℕ) → Formats p status q → FormatTakesAll p status q
  pub run : (p commands room : List ℕ) (r : Outcome) (q filled : List ℕ) (ran : Ran p commands room r q filled)
      → RunTakesAll p commands room r q filled ran
  -- and no two outcomes differ, but in the bytes of pools that mean the same
  pub alone : (p commands room : List ℕ) (r : Outcome) (q filled : List ℕ) (r' : Outcome) (q' filled' : List ℕ)
      → Ran p commands room r q filled → Ran p commands room r' q' filled' → SameOutcome r q filled r' q' filled'
  pub mark : (line : List ℕ) (r : ℕ) → r ≡ mark_of line → MarkTakesAll r

-- That the calls end, rely on nothing, and promise what is said above.

-- a condition that asks nothing, and one that is this statement
abbrev pub Nothing : (w : World) → Pr w
Nothing w = (connectives w.𝓤).⊤ₛ

abbrev pub Stated : (w : World) → Type 0 → Pr w
Stated w This = (connectives w.𝓤).⌜◌⌝ This

-- a function's code, on whatever it is lent, ends safely and keeps its contract, which asks for nothing and promises this
-- (a is what is lent, in turn, s the same at exit, r the result)
pub record Keeps (n : ℕ) (Args Result Exit : Lfts n → Type 0) (statement : Type 1 → Type 2)
    (requires : (κs : Lfts n) → Args κs → Unit {0} → (w : World) → Pr w)
    (ensures : (κs : Lfts n) → Args κs → Unit {0} → Result κs → Exit κs → (w : World) → Pr w)
    (This : (κs : Lfts n) → Args κs → Result κs → Exit κs → Type 0) : Type 2 where
  pub ends : (M : Type 1) → statement M
  pub asks : (κs : Lfts n) (a : Args κs) (w : World) → requires κs a tt w ≡ Nothing w
  pub promises : (κs : Lfts n) (a : Args κs) (r : Result κs) (s : Exit κs) (w : World) → ensures κs a tt r s w ≡ Stated w (This κs a r s)

-- the three calls, for programs in Rattle
pub record Demand1Ends : Type 2 where
  pub format : Keeps 1 (ArgsD format.signature) (ResD format.signature) (AtExit format.ended) Format.statement FormatReads.requires
      FormatReads.ensures (λ κs a r s. Formats a.0.now (call_status r) s.0.now)
  pub run : Keeps 3 (ArgsD run.signature) (ResD run.signature) (AtExit run.ended) Run.statement RunReads.requires RunReads.ensures
      (λ κs a r s. Ran a.0.now a.1.0.now a.1.1.0.now (call_outcome r) s.0.now s.1.1.0.now)
  pub mark : Keeps 1 (ArgsD mark.signature) (ResD mark.signature) (AtExit mark.ended) Mark.statement MarkReads.requires MarkReads.ensures
      (λ κs a r s. r ≡ mark_of a.0.now)
