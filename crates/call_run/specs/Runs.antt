-- Frames in order, each from the pool that the one before it left.
use Rattle.std.specs.Prelude.{◌≡◌, List, [], ◌∷◌, map, ℕ, ◌*◌, ◌/◌, length, take, drop}
use Rattle.geometry.specs.Limits.{frame_size}
use Rattle.lists.specs.Froms.{from}
use Rattle.frame_execute.specs.Steps.{Step}
use Rattle.protocol.specs.Frames.{command_of}
use Rattle.protocol.specs.declared.Answer.{Answer}
use Rattle.protocol.specs.declared.Command.{Command}

-- the first of several commands is answered, and the rest follow from the pool that it left
pub record First (p : List ℕ) (c : Command) (answers : List Answer) (Rest : List ℕ → List Answer → Type 0) : Type 0 where
  pub middle : List ℕ
  pub answer : Answer
  pub behind : List Answer
  pub whole : answers ≡ answer ∷ behind
  pub step : Step p c answer middle
  pub rest : Rest middle behind

-- commands in order, from the pool p to the pool q, with their answers in order
abbrev pub Runs : List ℕ → List Command → List Answer → List ℕ → Type 0
Runs p [] answers q = (answers ≡ []) × (q ≡ p)
Runs p (c ∷ cs) answers q = First p c answers (λ middle behind. Runs middle cs behind q)

-- a buffer cut into frames of eight bytes
unfoldable pub eights : List ℕ → List (List ℕ)
eights bytes = from (λ k. take frame_size (drop (frame_size * k) bytes)) 0 (length bytes / frame_size)

-- the commands that stand one behind the other in so many bytes
unfoldable pub commands_in : List ℕ → List Command
commands_in bytes = map command_of (eights bytes)
