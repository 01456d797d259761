-- Accepted calls one after the other are one run of all their commands, and their answer frames are that run's answers.
use mathlib.Core.Path.{◌≡◌, refl, sym, ap, ap₂, ◌∙◌}
use mathlib.Core.List.{List, [], ◌∷◌, ◌++◌, map, map-append}
use Prim.Native.Nat.{ℕ}
use Rattle.call_run.proofs.Runs.{runs_append, runs-answers, runs-meaning}
use Rattle.call_run.specs.Runs.{Runs, commands_in}
use Rattle.machine.specs.Machine.{trees}
use Rattle.pool.specs.Meaning.{meaning}
use Rattle.protocol.specs.Frames.{bytes_of_answer}
use Rattle.protocol.specs.Respond.{answers_to, state_after}
use Rattle.protocol.specs.declared.Answer.{Answer}
use Rattle.demands.specs.Accepted.{Call, Session, commands_of, answers_of}
use Rattle.demands.proofs.AcceptedCalls.{answers, runs, answer-frames}

-- a session as one run
pub record OneRun (p : List ℕ) (calls : List Call) (q : List ℕ) : Type 0 where
  pub told : List Answer
  pub run : Runs p (commands_of calls) told q
  pub bytes : answers_of calls ≡ map bytes_of_answer told

pub session-runs : (calls : List Call) (p q : List ℕ) → Session p calls q → OneRun p calls q
unfolding commands_of answers_of
session-runs [] p q session = record { told = []; run = (refl, session); bytes = refl }
session-runs (call ∷ calls) p q session =
    let m = session.middle in
    let now = answers p call.commands call.room call.outcome m call.filled session.ran session.accepted in
    let later = session-runs calls m q session.rest in
    record {
      told = now ++ later.told;
      run =
          runs_append (commands_in call.commands) (commands_of calls) p m q now later.told
          (runs p call.commands call.room call.outcome m call.filled session.ran session.accepted)
          later.run;
      bytes =
          ap₂ (λ frames rest. frames ++ rest)
          (answer-frames p call.commands call.room call.outcome m call.filled session.ran session.accepted)
          later.bytes
          ∙ sym (map-append bytes_of_answer now later.told);
    }

-- so the answers and the meaning are the machine's
module _ (calls : List Call) (p q : List ℕ) (session : Session p calls q) where
  pub session-answers : answers_of calls ≡ map bytes_of_answer (answers_to trees (meaning p) (commands_of calls))
  session-answers =
      let one = session-runs calls p q session in
      one.bytes ∙ ap (map bytes_of_answer) (runs-answers (commands_of calls) p q one.told one.run)

  pub session-meaning : meaning q ≡ state_after trees (meaning p) (commands_of calls)
  session-meaning =
      let one = session-runs calls p q session in
      runs-meaning (commands_of calls) p q one.told one.run
