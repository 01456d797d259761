-- The loop over frames: how far it has come after k of them, at its start, after one more and at its end.
use mathlib.Core.Path.{◌≡◌, refl, sym, ap, ap₂, ◌∙◌}
use mathlib.Core.List.{List, [], ◌∷◌, ◌++◌, append-nil}
use Prim.Native.Nat.{ℕ, ◌+◌, ◌*◌, ◌/◌, ◌≤◌, ◌<◌}
use native.Mathlib.Numerals.{add-one}
use native.Mathlib.Omega.{arith}
use lib.ListN.{length, take, drop, length-append}
use lib.Seq.{paste, length-paste, take_at, drop-append-add, drop-drop}
use Rattle.lists.proofs.Joins.{joined-append}
use Rattle.lists.specs.Joins.{joined}
use Rattle.frame_execute.specs.Steps.{Ready, Stepped}
use Rattle.geometry.specs.Limits.{frame_size}
use Rattle.protocol.specs.Frames.{bytes_of_answer}
use Rattle.protocol.specs.declared.Answer.{Answer}
use Rattle.protocol.specs.declared.Command.{Command}
use Rattle.call_run.specs.Frames.{FramesReady, FramesRun}
use Rattle.call_run.specs.Runs.{Runs}
use Rattle.call_run.proofs.Cutting.{command_at, first_commands, no-commands, one-command-more, all-commands, answer-bytes}
use Rattle.call_run.proofs.Runs.{runs-long, runs-snoc}

-- k frames were run, from the pool p to the pool q with its map m, and answered in front of the room
pub record FramesDone (p commands room : List ℕ) (k : ℕ) (q m filled : List ℕ) : Type 0 where
  pub ready : Ready q m
  pub within : k ≤ length commands / frame_size
  pub answers : List Answer
  pub runs : Runs p (first_commands commands k) answers q
  pub many : length answers ≡ k
  pub front : filled ≡ joined bytes_of_answer answers ++ drop (frame_size * k) room
  pub long : length filled ≡ length room

module _ (p m commands room : List ℕ) (given : FramesReady p m commands room) where
  -- nothing yet
  pub none-run : FramesDone p commands room 0 p m room
  none-run =
      record {
        ready = given.ready;
        within = omega arith;
        answers = [];
        runs = rw (no-commands commands) (refl, refl);
        many = refl;
        front = refl;
        long = refl;
      }

  module _ (k : ℕ) (q map filled : List ℕ) (so_far : FramesDone p commands room k q map filled) where
    -- there is room for the next answer
    pub room-inside : k < length commands / frame_size → frame_size * k + frame_size ≤ length filled
    room-inside l = omega (arith, so_far.long, given.fits)

    -- pool and map are as long as they were
    pub pool-stays : length q ≡ length p
    pool-stays = runs-long (first_commands commands k) p q so_far.answers so_far.runs

    pub map-stays : length map ≡ length m
    map-stays = omega (arith, pool-stays, so_far.ready.map.blocks, given.ready.map.blocks)

    module _ (c : Command) (a : Answer) (q' map' filled' : List ℕ) (more : k < length commands / frame_size)
        (is : c ≡ command_at commands k) (step : Stepped q c a q' map')
        (put : filled' ≡ paste filled (frame_size * k) (bytes_of_answer a) frame_size) where
      -- the answers written so far
      before : List ℕ
      before = joined bytes_of_answer so_far.answers

      before-long : length before ≡ frame_size * k
      unfolding before
      before-long = answer-bytes so_far.answers ∙ ap (λ n. frame_size * n) so_far.many

      answers-joined : joined bytes_of_answer (so_far.answers ++ a ∷ []) ≡ before ++ bytes_of_answer a
      unfolding before
      answers-joined = joined-append bytes_of_answer so_far.answers (a ∷ []) ∙ ap (λ l. before ++ l) (append-nil (bytes_of_answer a))

      rest-left : drop (frame_size * k + frame_size) filled ≡ drop (frame_size * (k + 1)) room
      unfolding before
      rest-left =
          let e : frame_size * k + frame_size ≡ length before + frame_size = omega (arith, before-long) in
          let f : frame_size * k + frame_size ≡ frame_size * (k + 1) = omega arith in
          ap (drop (frame_size * k + frame_size)) so_far.front
          ∙ ap (λ n. drop n (before ++ drop (frame_size * k) room)) e
          ∙ drop-append-add before (drop (frame_size * k) room) frame_size
          ∙ drop-drop frame_size (frame_size * k) room
          ∙ ap (λ n. drop n room) f

      front-taken : take (frame_size * k) filled ≡ before
      unfolding before
      front-taken = ap (take (frame_size * k)) so_far.front ∙ take_at before (drop (frame_size * k) room) (frame_size * k) before-long

      filled_more : filled' ≡ joined bytes_of_answer (so_far.answers ++ a ∷ []) ++ drop (frame_size * (k + 1)) room
      unfolding bytes_of_answer
      filled_more =
          put
          ∙ ap₂ (λ l r. l ++ bytes_of_answer a ++ r) front-taken rest-left
          ∙ ap (λ l. l ++ drop (frame_size * (k + 1)) room) (sym answers-joined)

      long_after : length filled' ≡ length room
      unfolding bytes_of_answer
      long_after = ap length put ∙ length-paste filled (frame_size * k) (bytes_of_answer a) frame_size (room-inside more) (omega arith) ∙ so_far.long

      -- one frame more
      pub one-run : FramesDone p commands room (k + 1) q' map' filled'
      one-run =
          record {
            ready = record { sound = step.step.sound; map = step.map };
            within = omega arith;
            answers = so_far.answers ++ a ∷ [];
            runs =
                rw (add-one, one-command-more)
                (runs-snoc (first_commands commands k) (command_at commands k) p q q' so_far.answers a so_far.runs (rw is at step.step));
            many = length-append so_far.answers (a ∷ []) ∙ ap (λ n. n + 1) so_far.many;
            front = filled_more;
            long = long_after;
          }

    -- all of them
    pub all-run : length commands / frame_size ≤ k → FramesRun p commands room q filled
    all-run end =
        let e : k ≡ length commands / frame_size = omega (arith, so_far.within) in
        let f : frame_size * k ≡ length commands = omega (arith, given.allowed.whole) in
        record {
          answers = so_far.answers;
          runs = rw (all-commands commands) at (rw e at so_far.runs);
          many = sym (so_far.many ∙ e);
          front = so_far.front ∙ ap (λ n. joined bytes_of_answer so_far.answers ++ drop n room) f;
        }
