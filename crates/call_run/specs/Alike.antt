-- Two outcomes that a call's contract allows.
use Rattle.std.specs.Prelude.{◌≡◌, List, ℕ}
use Rattle.call_tests.specs.Outcomes.{Outcome}
use Rattle.pool.specs.Meaning.{meaning}

-- the same status, count and answer room, and pools that mean the same
pub record SameOutcome (r : Outcome) (q filled : List ℕ) (r' : Outcome) (q' filled' : List ℕ) : Type 0 where
  pub status : r.status ≡ r'.status
  pub count : r.count ≡ r'.count
  pub room : filled ≡ filled'
  pub means : meaning q ≡ meaning q'
