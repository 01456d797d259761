-- Demand 3's lemma. A name's answers and its part at the end are computed from its part, the commands naming it and the statuses of its
-- openings alone, so two runs that agree in these agree in those.
use mathlib.Core.Bool.{Bool, true, false, cond}
use mathlib.Core.List.{List, [], ◌∷◌, map}
use mathlib.Core.Path.{◌≡◌, refl, sym, ap, subst, ◌∙◌}
use Prim.Native.Nat.{ℕ, ◌<◌}
use native.Mathlib.Omega.{arith}
use borrow.Author.Tests.{eqb-true, eqb-false}
use lib.ListN.{get_or, drop}
use Rattle.geometry.specs.Limits.{names}
use Rattle.protocol.proofs.Respond.{reply-status, respond-answer, names-stay, own-part-after}
use Rattle.protocol.specs.Commands.{open_code}
use Rattle.protocol.specs.Frames.{bytes_of_answer}
use Rattle.protocol.specs.Respond.{Reply, reply, respond, answers_to, state_after}
use Rattle.protocol.specs.State.{Part, State, fresh_state, part_of, unpromised}
use Rattle.protocol.specs.declared.Answer.{Answer}
use Rattle.protocol.specs.declared.Command.{Command}
use Rattle.shape.specs.Trees.{Tree}
use Rattle.machine.specs.Machine.{trees}
use Rattle.machine.specs.OneName.{
  HasNames,
  beside,
  is_to,
  is_opening,
  frames_to,
  answers_for,
  openings_of,
  RunsAlike,
  SameForName,
}
use Rattle.machine.proofs.OwnParts.{reply_at, reply-at, others-stay}

-- the answers to a name, and its part after them
pub record RunOutcome : Type 0 where
  pub answers : List Answer
  pub part : Part Tree

-- a reply before what comes after it
abbrev pub before : Reply Tree → RunOutcome → RunOutcome
before r o = record { answers = r.answer ∷ o.answers; part = o.part }

-- what a name with this part answers to commands naming it, where the statuses of its openings are given
unfoldable pub own_run : Part Tree → List Command → List ℕ → RunOutcome
own_run part [] openings = record { answers = []; part = part }
own_run part (c ∷ cs) openings =
    let r = reply_at (get_or openings 0 0) part c in
    before r (own_run r.part cs (drop (cond (is_opening c) 1 0) openings))

-- what a name sees of a run
abbrev pub outcome_for : ℕ → State Tree → List Command → RunOutcome
outcome_for x s cs = record { answers = answers_for x s cs; part = part_of (state_after trees s cs) x }

-- the statuses of the openings among commands, from their answers
abbrev statuses_of : List Command → List Answer → List ℕ
statuses_of cs answers = map (λ a. a.status) (beside is_opening cs answers)

-- one command of a name's own run, before what comes after it
own-step : (free : ℕ) (part : Part Tree) (c : Command) (cs : List Command) (later : RunOutcome) → c.name < names
    → later ≡ own_run (reply trees free part c).part cs (statuses_of cs later.answers)
    → before (reply trees free part c) later ≡ own_run part (c ∷ cs) (statuses_of (c ∷ cs) (before (reply trees free part c) later).answers)
unfolding own_run beside
own-step free part c cs later below rest = ap (before now) rest ∙ sym (go (is_opening c) refl)
  where
    now : Reply Tree
    now = reply trees free part c

    picked : List Answer
    picked = beside is_opening cs later.answers

    go : (t : Bool) → is_opening c ≡ t
        → let openings = map (λ a. a.status) (cond t (now.answer ∷ picked) picked) in
        let r = reply_at (get_or openings 0 0) part c in
        before r (own_run r.part cs (drop (cond t 1 0) openings)) ≡ before now (own_run now.part cs (map (λ a. a.status) picked))
    go true is = rw (reply-at free part c now.answer.status (λ is'. reply-status trees free part c) below)
    go false other =
        rw (reply-at free part c (get_or (map (λ a. a.status) picked) 0 0) (λ is. absurd (eqb-false c.code open_code other is)) below)

module _ (x : ℕ) (below : x < names) where
  -- a name's answers and its part at the end are those of its own run
  pub outcome-is-own : (cs : List Command) (s : State Tree) → HasNames s
      → outcome_for x s cs ≡ own_run (part_of s x) (frames_to x cs) (openings_of x s cs)
  unfolding own_run beside answers_to state_after
  outcome-is-own [] s has = refl
  outcome-is-own (c ∷ cs) s has =
      go (is_to x c) refl (outcome-is-own cs (respond trees s c).state (names-stay trees s c ∙ has))
    where
      after : State Tree
      after = (respond trees s c).state

      answer : Answer
      answer = (respond trees s c).answer

      go : (t : Bool) → is_to x c ≡ t → outcome_for x after cs ≡ own_run (part_of after x) (frames_to x cs) (openings_of x after cs)
          → let frames = cond t (c ∷ frames_to x cs) (frames_to x cs) in
          let answers = cond t (answer ∷ answers_for x after cs) (answers_for x after cs) in
          ◌≡◌ {A = RunOutcome}
          (record { answers = answers; part = part_of (state_after trees after cs) x })
          (own_run (part_of s x) frames (statuses_of frames answers))
      go true is rest =
          let free = unpromised s in
          let now = reply trees free (part_of s x) c in
          let named : c.name ≡ x = eqb-true c.name x is in
          let answered : answer ≡ now.answer = respond-answer trees s c ∙ ap (λ n. (reply trees free (part_of s n) c).answer) named in
          let left : part_of after x ≡ now.part
          = subst (λ n. part_of after n ≡ (reply trees free (part_of s n) c).part) named (own-part-after trees s c (omega arith)) in
          rw answered (own-step free (part_of s x) c (frames_to x cs) (outcome_for x after cs) (omega arith) (rw left at rest))
      go false other rest = rw (others-stay s c x (λ is. eqb-false c.name x other (sym is))) at rest

-- demand 3's lemma
pub same-for-name : (x : ℕ) (s t : State Tree) (cs ds : List Command) → RunsAlike x s t cs ds → SameForName x s t cs ds
same-for-name x s t cs ds alike =
    let same : outcome_for x s cs ≡ outcome_for x t ds
    = outcome-is-own x alike.name cs s alike.first_has
    ∙ rw (alike.start, alike.openings, alike.frames) (sym (outcome-is-own x alike.name ds t alike.second_has)) in
    record {
      answers = ap (λ o. o.answers) same;
      bytes = ap (λ o. map bytes_of_answer o.answers) same;
      end = ap (λ o. o.part) same;
    }

-- from freshly formatted pools of any two sizes
pub same-from-formatted : (x shares shares' : ℕ) (cs ds : List Command) → x < names → frames_to x cs ≡ frames_to x ds
    → openings_of x (fresh_state shares) cs ≡ openings_of x (fresh_state shares') ds
    → SameForName x (fresh_state shares) (fresh_state shares') cs ds
same-from-formatted x shares shares' cs ds below frames openings =
    same-for-name x (fresh_state shares) (fresh_state shares') cs ds
    (record { name = below; first_has = refl; second_has = refl; start = refl; frames = frames; openings = openings })
