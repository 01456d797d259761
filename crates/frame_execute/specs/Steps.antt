-- One frame: what is answered, and what becomes of the pool.
use Rattle.std.specs.Prelude.{Bool, false, ◌≡◌, List, ◌⊎◌, ◌≢◌, ℕ, ◌<◌, length, Result, Ok, Err}
use Rattle.geometry.specs.Limits.{names}
use Rattle.machine.specs.Machine.{trees}
use Rattle.pool_holders.specs.Maps.{Exact}
use Rattle.pool.specs.Meaning.{meaning}
use Rattle.pool.specs.Names.{blocks_of}
use Rattle.pool.specs.Sound.{Sound}
use Rattle.pool.specs.Untouched.{Untouched}
use Rattle.protocol.specs.Commands.{open_code, delete_code}
use Rattle.protocol.specs.Refusals.{codes_between}
use Rattle.protocol.specs.Numbers.{number_of_reason}
use Rattle.protocol.specs.Respond.{refused, respond}
use Rattle.protocol.specs.declared.Answer.{Answer}
use Rattle.protocol.specs.declared.Command.{Command}
use Rattle.protocol.specs.declared.numbers.Reason.{Reason}

-- the command may change the pool: an opening, a closing, an insert or a delete
abbrev pub is_change : ℕ → Bool
is_change code = codes_between open_code delete_code code

-- the answer that a command gets: its own, or that of the reason that refuses it
abbrev pub answer_told : Command → Result Answer Reason → Answer
answer_told c (Ok a) = a
answer_told c (Err reason) = refused (number_of_reason reason) c

-- another name's record and the blocks that it holds, and which they are, are as before
pub record Kept (name : ℕ) (p q : List ℕ) : Type 0 where
  pub bytes : Untouched name p q
  pub blocks : blocks_of q name ≡ blocks_of p name

-- one frame: p is the pool before, q after, a the answer
pub record Step (p : List ℕ) (c : Command) (a : Answer) (q : List ℕ) : Type 0 where
  -- answer and meaning are the machine's
  pub answer : a ≡ (respond trees (meaning p) c).answer
  pub next : meaning q ≡ (respond trees (meaning p) c).state
  -- after a refusal or a query the pool is as it was
  pub stays : (a.status ≢ 0) ⊎ (is_change c.code ≡ false) → q ≡ p
  -- the pool is sound again, and as long
  pub sound : Sound q
  pub long : length q ≡ length p
  pub others : (name : ℕ) → name < names → name ≢ c.name → Kept name p q

-- the same with the map of blocks after it, which is exact
pub record Stepped (p : List ℕ) (c : Command) (a : Answer) (q n : List ℕ) : Type 0 where
  pub step : Step p c a q
  pub map : Exact q n

-- a sound pool and its map
pub record Ready (p m : List ℕ) : Type 0 where
  pub sound : Sound p
  pub map : Exact p m
