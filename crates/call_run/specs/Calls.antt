-- What the two calls on a pool promise: every result and every lent buffer at exit, for refusals as for successes.
use Rattle.std.specs.Prelude.{◌≡◌, List, ◌++◌, ◌≢◌, ℕ, length, drop}
use Rattle.lists.specs.Joins.{joined}
use Rattle.call_tests.specs.Tests.{StatusOfCall}
use Rattle.call_tests.specs.Outcomes.{Outcome}
use Rattle.call_run.specs.Runs.{Runs, commands_in}
use Rattle.pool.specs.Formatted.{formatted}
use Rattle.pool.specs.Sound.{LengthAllowed}
use Rattle.protocol.specs.Frames.{bytes_of_answer}
use Rattle.protocol.specs.declared.Answer.{Answer}

-- format: 0 and a formatted pool, or 101 and the pool as it was
pub record Formats (p : List ℕ) (status : ℕ) (q : List ℕ) : Type 0 where
  pub allowed : LengthAllowed (length p) → (status ≡ 0) × (q ≡ formatted (length p))
  pub refused : (LengthAllowed (length p) → ⊥) → (status ≡ 101) × (q ≡ p)

-- the frames were run in order, and their answers stand at the front of the room, whose rest is as it was
pub record Answered (p commands room q filled : List ℕ) (count : ℕ) : Type 0 where
  pub answers : List Answer
  pub runs : Runs p (commands_in commands) answers q
  pub many : count ≡ length answers
  pub front : filled ≡ joined bytes_of_answer answers ++ drop (length commands) room

-- run: p and room are the pool and the answer room before, q and filled after; the commands are lent to be read alone
pub record Ran (p commands room : List ℕ) (r : Outcome) (q filled : List ℕ) : Type 0 where
  pub status : StatusOfCall p commands room r.status
  pub refused : r.status ≢ 0 → (r.count ≡ 0) × (q ≡ p) × (filled ≡ room)
  pub accepted : r.status ≡ 0 → Answered p commands room q filled r.count
