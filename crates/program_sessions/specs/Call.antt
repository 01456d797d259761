-- The call that the lines of a batch make: what it needs, and what the drafts have become then.
use Rattle.std.specs.Prelude.{◌≡◌, List, map, ℕ, ◌*◌, ◌≤◌, length, take}
use Rattle.lists.specs.Joins.{joined}
use Rattle.program_batches.specs.Answers.{line_of_answer}
use Rattle.program_batches.specs.Batch.{draft_of, bytes_of, kept_in}
use Rattle.geometry.specs.Limits.{frame_size}
use Rattle.text_hex.specs.Lines.{frame_of, line_size}
use Rattle.call_tests.specs.Tests.{CommandsAllowed}
use Rattle.pool.specs.Meaning.{meaning}
use Rattle.pool.specs.Sound.{Sound}
use Rattle.program_sessions.specs.Session.{answers_to_lines, state_after_lines}

-- what a call needs: commands that it takes, drafts within out, and no more places kept than there are commands
pub record Asks (commands out : List ℕ) (lines : ℕ) : Type 0 where
  pub allowed : CommandsAllowed (length commands)
  pub room : line_size * lines ≤ length out
  pub kept : frame_size * kept_in lines out ≤ length commands

-- the lines of a call have been run and answered, from the state that the pool stood for
pub record AnswersLines (p q commands out out' : List ℕ) (lines : ℕ) : Type 0 where
  pub long : length out' ≡ length out
  pub same_pool : length q ≡ length p
  pub refused : (Sound p → ⊥) → q ≡ p
  pub sound : Sound p → Sound q
  pub state : (ls : List (List ℕ)) → commands ≡ joined bytes_of (map frame_of ls) → Sound p
      → meaning q ≡ state_after_lines (meaning p) (map frame_of ls)
  pub answers : (ls : List (List ℕ)) → commands ≡ joined bytes_of (map frame_of ls) → lines ≡ length ls
      → take (line_size * lines) out ≡ joined draft_of (map frame_of ls) → Sound p
      → take (line_size * lines) out' ≡ joined line_of_answer (answers_to_lines (meaning p) (map frame_of ls))
