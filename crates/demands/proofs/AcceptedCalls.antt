-- An accepted call: its pool is sound, and its answer frames are those of its answers, since the commands are whole frames and each
-- has one answer of eight bytes.
use mathlib.Core.Path.{◌≡◌, ap, ◌∙◌}
use mathlib.Core.List.{List, map}
use Prim.Native.Nat.{ℕ, ◌*◌, ◌/◌}
use native.Mathlib.Omega.{arith}
use lib.ListN.{length, drop, length-append, length-drop}
use lib.Seq.{take_at, drop_at}
use Rattle.geometry.specs.Limits.{frame_size}
use Rattle.lists.specs.Items.{All}
use Rattle.lists.specs.Joins.{joined}
use Rattle.call_run.proofs.Cutting.{commands-many}
use Rattle.call_run.proofs.Runs.{runs-many, runs-long, runs-sound}
use Rattle.call_run.proofs.Outcomes.{TestsPassed, all-passed}
use Rattle.call_run.specs.Calls.{Ran}
use Rattle.call_run.specs.Runs.{Runs, eights, commands_in}
use Rattle.call_tests.specs.Outcomes.{Outcome}
use Rattle.pool.specs.Sound.{Sound}
use Rattle.protocol.proofs.Frames.{length-of-answer}
use Rattle.protocol.specs.Frames.{bytes_of_answer}
use Rattle.protocol.specs.declared.Answer.{Answer}
use Rattle.demands.specs.Accepted.{Frame, frames_run, answer_frames}
use Rattle.demands.proofs.Eights.{length-of-frames, cut-frames}
use Rattle.demands.proofs.FramesRun.{IsStep, each-frame}

module _ (p commands room : List ℕ) (r : Outcome) (q filled : List ℕ) (ran : Ran p commands room r q filled) (zero : r.status ≡ 0) where
  passed : TestsPassed p commands room
  passed = all-passed p commands room r.status zero ran.status

  abbrev pub answers : List Answer
  answers = (ran.accepted zero).answers

  abbrev pub runs : Runs p (commands_in commands) answers q
  runs = (ran.accepted zero).runs

  pub one_each : length answers ≡ length commands / frame_size
  one_each = runs-many (commands_in commands) p q answers runs ∙ commands-many commands

  length-answers : length (joined bytes_of_answer answers) ≡ length commands
  length-answers = omega (arith, length-of-frames bytes_of_answer length-of-answer answers, one_each, passed.frames)

  pub whole-frames : length commands ≡ frame_size * r.count
  whole-frames = omega (arith, length-answers, length-of-frames bytes_of_answer length-of-answer answers, (ran.accepted zero).many)

  -- the answer frames in the room are the answers' bytes
  pub answer-frames : answer_frames commands filled ≡ map bytes_of_answer answers
  answer-frames =
      ap (λ bytes. answer_frames commands bytes) (ran.accepted zero).front
      ∙ ap eights (take_at (joined bytes_of_answer answers) (drop (length commands) room) (length commands) length-answers)
      ∙ cut-frames bytes_of_answer length-of-answer answers

  -- the room behind them is as it was, and so are the lengths
  pub rest-of-room : drop (length commands) filled ≡ drop (length commands) room
  rest-of-room =
      ap (drop (length commands)) (ran.accepted zero).front
      ∙ drop_at (joined bytes_of_answer answers) (drop (length commands) room) (length commands) length-answers

  pub length-room : length filled ≡ length room
  length-room =
      ap length (ran.accepted zero).front
      ∙ omega (arith, length-append (joined bytes_of_answer answers) (drop (length commands) room), length-drop (length commands) room, length-answers, passed.fits)

  pub length-pool : length q ≡ length p
  length-pool = runs-long (commands_in commands) p q answers runs

  pub sound-after : Sound q
  sound-after = runs-sound (commands_in commands) p q answers passed.sound runs

  -- what holds of every step from a sound pool holds of each of its frames
  pub each-of-call : (P : Frame → Type 0) → ((f : Frame) → Sound f.before → IsStep f → P f) → All P (frames_run ran zero)
  each-of-call P one = each-frame P one (commands_in commands) p q answers passed.sound runs
