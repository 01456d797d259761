-- Demand 1, from the contracts' definitions: a length is allowed or not, an accepted call has an answer
-- frame for each command, and a refused command's step leaves the pool.
use mathlib.Core.Bool.{Bool, true, false, cond}
use mathlib.Core.Path.{◌≡◌, refl, sym, ap, ◌∙◌}
use mathlib.Core.List.{List, [], ◌∷◌, map, map-map}
use mathlib.Core.Logic.{inl, inr, ⊎_elim}
use Prim.Native.Nat.{ℕ, ◌<◌}
use native.Mathlib.Nat.{eq-zero-or-pos}
use native.Mathlib.Omega.{arith}
use lib.ListN.{length, length-map}
use Rattle.lists.specs.Items.{All}
use Rattle.forfochry.proofs.mark.Met as MarkMet
use Rattle.text_fixed_form.specs.Mark.{mark_of, first_that_fits, rules, card}
use Rattle.forfochry.proofs.format.Met as FormatMet
use Rattle.forfochry.proofs.run.Met as RunMet
use Rattle.call_run.proofs.Outcomes.{length-cases, same_outcome}
use Rattle.call_run.specs.Calls.{Formats, Ran}
use Rattle.call_run.specs.Runs.{commands_in}
use Rattle.call_tests.specs.Outcomes.{Outcome}
use Rattle.machine.specs.Machine.{trees}
use Rattle.pool.specs.Meaning.{meaning}
use Rattle.protocol.proofs.Respond.{refused-answers-zeros}
use Rattle.protocol.specs.Frames.{bytes_of_answer}
use Rattle.protocol.specs.Respond.{refused}
use Rattle.demands.specs.Accepted.{Frame, frames_run}
use Rattle.demands.specs.Demand1.{FormatTakesAll, RefusedCommand, AcceptedCall, RunTakesAll, MarkTakesAll, Demand1, Demand1Ends}
use Rattle.demands.proofs.AcceptedCalls.{
  answers,
  runs,
  whole-frames,
  answer-frames,
  rest-of-room,
  length-room,
  length-pool,
  each-of-call,
}
use Rattle.demands.proofs.FramesRun.{IsStep, frames-commands, frames-answers, frames-in-turn}

format-takes-all : (p : List ℕ) (status : ℕ) (q : List ℕ) → Formats p status q → FormatTakesAll p status q
format-takes-all p status q formats =
    ⊎_elim
    (λ is.
    let done = formats.allowed is in
    record { number = inl done.0; when = (λ zero. is, λ _. done.0); refused = λ some. absurd (some done.0); accepted = λ zero. done.1 })
    (λ not.
    let kept = formats.refused not in
    record {
      number = inr kept.0;
      when = (λ zero. absurd (omega (arith, kept.0)), λ is. absurd (not is));
      refused = λ some. kept.1;
      accepted = λ zero. absurd (omega (arith, kept.0));
    })
    (length-cases (length p))

-- a refused command's step
refused-step : (f : Frame) → IsStep f → RefusedCommand f
refused-step f step some =
    let same = step.answer in (
      same
          ∙ refused-answers-zeros trees (meaning f.before) f.command (λ zero. some (ap (λ a. a.status) same ∙ zero))
          ∙ ap (λ status. refused status f.command) (ap (λ a. a.status) (sym same)),
      step.stays (inl some),
    )

module _ (p commands room : List ℕ) (r : Outcome) (q filled : List ℕ) (ran : Ran p commands room r q filled) where
  accepted-call : (zero : r.status ≡ 0) → AcceptedCall p commands room r q filled (frames_run ran zero)
  accepted-call zero =
      let told = answers p commands room r q filled ran zero in
      let run = runs p commands room r q filled ran zero in
      let same : map (λ f. f.answer) (frames_run ran zero) ≡ told = frames-answers (commands_in commands) p q told run in
      record {
        each = frames-commands (commands_in commands) p q told run;
        turns = frames-in-turn (commands_in commands) p q told run;
        answers =
            sym (map-map bytes_of_answer (λ f. f.answer) (frames_run ran zero))
            ∙ ap (map bytes_of_answer) same
            ∙ sym (answer-frames p commands room r q filled ran zero);
        count = (ran.accepted zero).many ∙ ap length (sym same) ∙ length-map (frames_run ran zero) (λ f. f.answer);
        whole = whole-frames p commands room r q filled ran zero;
        behind = rest-of-room p commands room r q filled ran zero;
        refusals = each-of-call p commands room r q filled ran zero RefusedCommand (λ f sound step. refused-step f step);
      }

  run-takes-all : RunTakesAll p commands room r q filled ran
  run-takes-all =
      record {
        table = ran.status;
        refused = ran.refused;
        accepted = accepted-call;
        long =
            ⊎_elim
            (λ zero. (length-pool p commands room r q filled ran zero, length-room p commands room r q filled ran zero))
            (λ (some : 0 < r.status). let kept = ran.refused (λ zero. omega arith) in (ap length kept.1, ap length kept.2))
            (eq-zero-or-pos r.status);
      }

-- the mark of the first rule that fits is one of the rules', or the last
by-rules : (P : ℕ → Type 0) (rs : List (Bool × ℕ)) → P 0 → All (λ rule. P rule.1) rs → P (first_that_fits rs)
by-rules P [] last each = last
by-rules P (rule ∷ rs) last each = go rule.0 (by-rules P rs last each.1)
  where
    go : (fits : Bool) → P (first_that_fits rs) → P (cond fits rule.1 (first_that_fits rs))
    go true later = each.0
    go false later = later

mark-takes-all : (line : List ℕ) → MarkTakesAll (mark_of line)
unfolding mark_of
mark-takes-all line =
    by-rules MarkTakesAll (rules (card line)) (inl refl) (
      inr (inr (inr (inr (inr refl)))),
      (inr (inl refl), (inr (inr (inl refl)), (inr (inr (inr (inl refl))), (inr (inr (inr (inr (inl refl)))), tt)))),
    )

pub demand-1 : Demand1
demand-1 =
    record {
      format = format-takes-all;
      run = run-takes-all;
      alone = same_outcome;
      mark = λ line r is. rw is (mark-takes-all line);
    }

-- each contract is read off by computation, and that the code meets it is the function's own theorem
pub demand-1-ends : Demand1Ends
demand-1-ends =
    record {
      format = record { ends = λ M. FormatMet.met; asks = λ κs a w. refl; promises = λ κs a r s w. refl };
      run = record { ends = λ M. RunMet.met; asks = λ κs a w. refl; promises = λ κs a r s w. refl };
      mark = record { ends = λ M. MarkMet.met; asks = λ κs a w. refl; promises = λ κs a r s w. refl };
    }
