-- The call that a batch makes. The bytes of its frames, one behind the other, stand for its frames in order; the machine's answers to
-- them, put at the places that the drafts keep, make the answers to all lines. A call that was accepted answers its lines from the state
-- that the pool stood for.
use mathlib.Core.Logic.{inr}
use mathlib.Core.Path.{◌≡◌, refl, sym, ap, ap₂, ◌∙◌}
use mathlib.Core.List.{List, [], ◌∷◌, ◌++◌, map, append_assoc}
use Prim.Native.Nat.{ℕ, ◌*◌, ◌≤◌}
use native.Mathlib.Decide.{ℕ_discrete}
use native.Mathlib.Omega.{arith}
use lib.ListN.{length, take, drop, length-map, take-append-drop}
use lib.Seq.{length-take-le, take_at, drop_at, take_all}
use Rattle.std.proofs.Common.{Ok, Err}
use Rattle.geometry.specs.Limits.{frame_size, longest_commands}
use Rattle.lists.specs.Froms.{from}
use Rattle.lists.specs.Joins.{joined}
use Rattle.protocol.specs.Frames.{bytes_of_answer, bytes_of_frame, command_in, command_of, frame_of_answer, bytes_of_command}
use Rattle.protocol.specs.Respond.{answers_to, state_after, respond}
use Rattle.protocol.specs.State.{State}
use Rattle.protocol.specs.declared.Answer.{Answer}
use Rattle.protocol.proofs.Frames.{command-of-bytes, length-of-answer}
use Rattle.shape.specs.Trees.{Tree}
use Rattle.machine.specs.Machine.{trees}
use Rattle.pool.specs.Meaning.{meaning}
use Rattle.pool.specs.Sound.{Sound}
use Rattle.call_tests.specs.Outcomes.{Outcome}
use Rattle.call_run.specs.Calls.{Answered, Ran}
use Rattle.call_run.specs.Runs.{commands_in, eights}
use Rattle.call_run.proofs.Cutting.{commands-append}
use Rattle.call_run.proofs.Runs.{runs-sound, runs-long}
use Rattle.call_run.proofs.Outcomes.{all-passed, one-status, room-by-machine, meaning-by-machine}
use Rattle.text_hex.specs.Lines.{Reading, frame_of, line_size, line_of}
use Rattle.program_batches.specs.Answers.{line_of_answer, bad_answer}
use Rattle.program_batches.specs.Batch.{zeros, draft_of, bytes_of, kept_in, completed, Completes}
use Rattle.program_batches.proofs.Answers.{line-of-bytes}
use Rattle.program_batches.proofs.Completed.{kept-in-drafts, take-line, drop-line, zeros-keep, bad-keeps-none}
use Rattle.program_batches.proofs.Framed.{commands_read, fits-lines, length-of-batch, AllFit}
use Rattle.program_sessions.specs.Call.{Asks, AnswersLines}
use Rattle.program_sessions.specs.Session.{answers_to_lines}
use Rattle.program_sessions.proofs.Session.{state-after-lines}

-- eight bytes are one command
one-command : (bytes : List ℕ) → length bytes ≡ frame_size → commands_in bytes ≡ command_of bytes ∷ []
unfolding commands_in eights from
one-command bytes long = rw long (ap (λ l. command_of l ∷ []) (take_all frame_size bytes (omega arith)))

-- the bytes of lines are the commands of their frames
pub commands-in-batch : (rs : List Reading) → AllFit rs → commands_in (joined bytes_of rs) ≡ commands_read rs
unfolding commands_in eights from bytes_of_command
commands-in-batch [] fits = refl
commands-in-batch (Ok frame ∷ rs) fits =
    let bytes : List ℕ = bytes_of_frame frame in
    commands-append bytes (joined bytes_of rs) refl
    ∙ ap₂ (λ xs ys. xs ++ ys)
    (one-command bytes refl ∙ ap (λ c. c ∷ []) (command-of-bytes (command_in frame) fits.0))
    (commands-in-batch rs fits.1)
commands-in-batch (Err bad ∷ rs) fits = commands-in-batch rs fits.1

-- the answers to the frames at the kept places
pub completed-drafts : (rs : List Reading) (s : State Tree) (rest more : List ℕ)
    → completed (length rs) (joined draft_of rs ++ rest) (joined bytes_of_answer (answers_to trees s (commands_read rs)) ++ more)
    ≡ joined line_of_answer (answers_to_lines s rs)
unfolding completed answers_to answers_to_lines
completed-drafts [] s rest more = refl
completed-drafts (Ok frame ∷ rs) s rest more =
    let c = command_in frame in
    let a : Answer = (respond trees s c).answer in
    let next : State Tree = (respond trees s c).state in
    let later : List ℕ = joined bytes_of_answer (answers_to trees next (commands_read rs)) in
    rw (
      append_assoc (line_of zeros) (joined draft_of rs) rest,
      zeros-keep (joined draft_of rs ++ rest),
      drop-line zeros (joined draft_of rs ++ rest),
      append_assoc (bytes_of_answer a) later more,
      take_at (bytes_of_answer a) (later ++ more) frame_size (length-of-answer a),
      drop_at (bytes_of_answer a) (later ++ more) frame_size (length-of-answer a),
    )
    (ap₂ (λ l ls. l ++ ls) (line-of-bytes a) (completed-drafts rs next rest more))
completed-drafts (Err bad ∷ rs) s rest more =
    rw (
      append_assoc (line_of_answer bad_answer) (joined draft_of rs) rest,
      bad-keeps-none (joined draft_of rs ++ rest),
      drop-line (frame_of_answer bad_answer) (joined draft_of rs ++ rest),
      take-line (frame_of_answer bad_answer) (joined draft_of rs ++ rest),
    )
    (ap (λ l. line_of_answer bad_answer ++ l) (completed-drafts rs s rest more))

-- what is at the front of a buffer, in front of its rest
front-and-rest : (out front : List ℕ) (n : ℕ) → take n out ≡ front → out ≡ front ++ drop n out
front-and-rest out front n is = sym (take-append-drop n out) ∙ ap (λ l. l ++ drop n out) is

module _ (p q commands room answers out out' : List ℕ) (lines : ℕ) (r : Outcome) (ran : Ran p commands room r q answers) (asks : Asks commands out lines)
    (enough : longest_commands ≤ length room) (done : Completes lines out out' answers) where
  fits : length commands ≤ length room
  fits = omega (arith, asks.allowed.most)

  answered : Sound p → Answered p commands room q answers r.count
  answered sound =
      ran.accepted (one-status p commands room r.status 0 ran.status (inr (inr (inr (inr (refl, sound.allowed, asks.allowed, fits, sound))))))

  -- a call that is refused leaves the pool as it was, and one that isn't leaves its length
  refused : (r.status ≡ 0 → ⊥) → q ≡ p
  refused other = (ran.refused other).1

  same-pool : Dec (r.status ≡ 0) → length q ≡ length p
  same-pool (yes zero) = runs-long (commands_in commands) p q (ran.accepted zero).answers (ran.accepted zero).runs
  same-pool (no other) = ap length (refused other)

  -- the commands are those of the lines that are frames
  frames-run : (ls : List (List ℕ)) → commands ≡ joined bytes_of (map frame_of ls) → commands_in commands ≡ commands_read (map frame_of ls)
  frames-run ls is = ap commands_in is ∙ commands-in-batch (map frame_of ls) (fits-lines ls)

  -- the lines were run and answered
  pub lines-answered : AnswersLines p q commands out out' lines
  lines-answered =
      record {
        long = done.long;
        same_pool = same-pool (ℕ_discrete r.status 0);
        refused = λ unsound. refused (λ zero. unsound (all-passed p commands room r.status zero ran.status).sound);
        sound = λ sound. runs-sound (commands_in commands) p q (answered sound).answers sound (answered sound).runs;
        state =
            λ ls is sound.
            meaning-by-machine p commands room q answers r.count (answered sound) ∙ ap (state_after trees (meaning p)) (frames-run ls is) ∙ sym (state-after-lines (map frame_of ls) (meaning p));
        answers = all-answered;
      }
    where
      all-answered : (ls : List (List ℕ)) → commands ≡ joined bytes_of (map frame_of ls) → lines ≡ length ls
          → take (line_size * lines) out ≡ joined draft_of (map frame_of ls) → Sound p
          → take (line_size * lines) out' ≡ joined line_of_answer (answers_to_lines (meaning p) (map frame_of ls))
      all-answered ls is many drafts sound =
          let rs : List Reading = map frame_of ls in
          let given : answers ≡ joined bytes_of_answer (answers_to trees (meaning p) (commands_read rs)) ++ drop (length commands) room =
          room-by-machine p commands room q answers r.count (answered sound)
          ∙ ap (λ cs. joined bytes_of_answer (answers_to trees (meaning p) cs) ++ drop (length commands) room) (frames-run ls is)
          in
          let count : lines ≡ length rs = many ∙ sym (length-map ls frame_of) in
          done.whole
          ∙ ap (λ n. completed n out answers) count
          ∙ ap₂ (completed (length rs)) (front-and-rest out (joined draft_of rs) (line_size * lines) drafts) given
          ∙ completed-drafts rs (meaning p) (drop (line_size * lines) out) (drop (length commands) room)

-- what a call needs stands in the buffers of lines that were put
pub asks-lines : (ls : List (List ℕ)) (commands out : List ℕ) (lines frames : ℕ) → lines ≡ length ls
    → take (line_size * lines) out ≡ joined draft_of (map frame_of ls) → take (frame_size * frames) commands ≡ joined bytes_of (map frame_of ls)
    → line_size * lines ≤ length out → frame_size * frames ≤ length commands → length commands ≤ longest_commands
    → Asks (take (frame_size * frames) commands) out lines
asks-lines ls commands out lines frames many drafts bytes room room-for-frames few =
    let rs : List Reading = map frame_of ls in
    let long : length (take (frame_size * frames) commands) ≡ frame_size * frames = length-take-le (frame_size * frames) commands room-for-frames in
    let kept : kept_in lines out ≡ length (commands_read rs) =
    ap (λ n. kept_in n out) (many ∙ sym (length-map ls frame_of))
    ∙ ap (kept_in (length rs)) (front-and-rest out (joined draft_of rs) (line_size * lines) drafts)
    ∙ kept-in-drafts rs (drop (line_size * lines) out)
    in
    record {
      allowed = record { whole = rw long (omega arith); most = omega arith };
      room = room;
      kept = omega (arith, kept, ap length bytes, length-of-batch rs);
    }
