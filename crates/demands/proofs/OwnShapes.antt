-- A name's tree since its opening: frames in order, each from the pool that the one before it left. A frame to another name leaves the
-- part, and a frame to this one replies by the part alone, unless it opens the name.
use mathlib.Core.Bool.{Bool, true, false, cond}
use mathlib.Core.Path.{◌≡◌, refl, sym, ap, subst, ◌∙◌}
use mathlib.Core.List.{List, [], ◌∷◌, ◌++◌, map}
use mathlib.Core.Logic.{◌≢◌}
use Prim.Native.Nat.{ℕ, ◌<◌}
use native.Mathlib.Omega.{arith}
use borrow.Author.Tests.{eqb-true, eqb-false}
use Rattle.geometry.specs.Limits.{names}
use Rattle.lists.specs.Items.{All}
use Rattle.pool.proofs.Meaning.{part-meaning}
use Rattle.call_run.specs.Runs.{Runs, commands_in}
use Rattle.machine.proofs.OwnParts.{reply-at, others-stay, opening-starts-afresh}
use Rattle.machine.specs.Machine.{trees}
use Rattle.machine.specs.OneName.{beside, is_to, is_opening, frames_to}
use Rattle.pool.specs.Meaning.{meaning_of, meaning}
use Rattle.protocol.proofs.Accepted.{open-accepted}
use Rattle.protocol.proofs.Respond.{refused-reply, respond-status, own-part-after}
use Rattle.protocol.specs.Commands.{open_code}
use Rattle.protocol.specs.Refusals.{status_of}
use Rattle.protocol.specs.Respond.{reply}
use Rattle.protocol.specs.State.{Part, opened, part_of, unpromised}
use Rattle.protocol.specs.declared.Answer.{Answer}
use Rattle.protocol.specs.declared.Command.{Command}
use Rattle.shape.specs.Trees.{Tree, empty_t}
use Rattle.demands.specs.Accepted.{Frame, frames_of, frames_run, Call, Session}
use Rattle.demands.specs.Demand3.{part_after, Since, frames_in, ShapeIsOwn}
use Rattle.demands.proofs.AcceptedCalls.{answers, runs}
use Rattle.demands.proofs.FramesRun.{IsStep}
use Rattle.demands.proofs.OneNameRuns.{has-names}

-- Frames in order, from the pool p to the pool q.
abbrev Chain : List ℕ → List Frame → List ℕ → Type 0
Chain p [] q = q ≡ p
Chain p (f ∷ fs) q = (f.before ≡ p) × IsStep f × Chain f.after fs q

run-chains : (cs : List Command) (p q : List ℕ) (told : List Answer) (run : Runs p cs told q) → Chain p (frames_of p cs told q run) q
run-chains [] p q told run = run.1
run-chains (c ∷ cs) p q told run = (refl, run.step, run-chains cs run.middle q run.behind run.rest)

chain-append : (fs gs : List Frame) (p m q : List ℕ) → Chain p fs m → Chain m gs q → Chain p (fs ++ gs) q
chain-append [] gs p m q one two = subst (λ start. Chain start gs q) one two
chain-append (f ∷ fs) gs p m q one two = (one.0, one.1, chain-append fs gs f.after m q one.2 two)

session-chains : (calls : List Call) (p q : List ℕ) (session : Session p calls q) → Chain p (frames_in p calls q session) q
session-chains [] p q session = session
session-chains (call ∷ calls) p q session =
    let m = session.middle in
    chain-append (frames_run session.ran session.accepted) (frames_in m calls q session.rest) p m q
    (run-chains (commands_in call.commands) p m
    (answers p call.commands call.room call.outcome m call.filled session.ran session.accepted)
    (runs p call.commands call.room call.outcome m call.filled session.ran session.accepted))
    (session-chains calls m q session.rest)

chain-from : (fs : List Frame) (g : Frame) (gs : List Frame) (p q : List ℕ) → Chain p (fs ++ g ∷ gs) q → IsStep g × Chain g.after gs q
chain-from [] g gs p q chain = (chain.1, chain.2)
chain-from (f ∷ fs) g gs p q chain = chain-from fs g gs f.after q chain.2

-- a reply's part goes by the part and the command, where it isn't an opening that succeeds
own-reply : (free : ℕ) (part : Part Tree) (c : Command) → c.name < names → (c.code ≡ open_code → status_of trees free part c ≢ 0)
    → (reply trees free part c).part ≡ (reply trees 0 part c).part
own-reply free part c below none = go (is_opening c) refl
  where
    go : (t : Bool) → is_opening c ≡ t → (reply trees free part c).part ≡ (reply trees 0 part c).part
    go true is =
        let code = eqb-true c.code open_code is in
        ap (λ r. r.part) (refused-reply trees free part c (none code))
        ∙ sym (ap (λ r. r.part) (refused-reply trees 0 part c (λ zero. let taken = open-accepted trees 0 part c code zero in omega (arith, taken.some, taken.unpromised))))
    go false other =
        let no : (n : ℕ) → c.code ≡ open_code → 0 ≡ n = λ n code. absurd (eqb-false c.code open_code other code) in
        ap (λ r. r.part) (sym (reply-at free part c 0 (no _) below) ∙ reply-at 0 part c 0 (no _) below)

module _ (x : ℕ) (low : x < names) where
  -- one frame
  part-after-own : (f : Frame) → IsStep f → f.command.name ≡ x → (f.command.code ≡ open_code → f.answer.status ≢ 0)
      → meaning_of f.after x ≡ (reply trees 0 (meaning_of f.before x) f.command).part
  part-after-own f step is none =
      let c = f.command in
      let s = meaning f.before in
      let below : c.name < names = omega (arith, is) in
      let own : part_of (meaning f.after) c.name ≡ (reply trees (unpromised s) (part_of s c.name) c).part
      = ap (λ t. part_of t c.name) step.next ∙ own-part-after trees s c (omega (arith, has-names f.before)) in
      let refused : c.code ≡ open_code → status_of trees (unpromised s) (part_of s c.name) c ≢ 0
      = λ code zero. none code (ap (λ a. a.status) step.answer ∙ respond-status trees s c ∙ zero) in
      subst (λ y. meaning_of f.after y ≡ (reply trees 0 (meaning_of f.before y) c).part) is
      (sym (part-meaning f.after c.name below)
      ∙ own
      ∙ own-reply (unpromised s) (part_of s c.name) c below refused
      ∙ ap (λ part. (reply trees 0 part c).part) (part-meaning f.before c.name below))

  part-after-other : (f : Frame) → IsStep f → f.command.name ≢ x → meaning_of f.after x ≡ meaning_of f.before x
  part-after-other f step other =
      sym (part-meaning f.after x low)
      ∙ ap (λ t. part_of t x) step.next
      ∙ others-stay (meaning f.before) f.command x (λ is. other (sym is))
      ∙ part-meaning f.before x low

  -- frames in order
  part-after-all : (fs : List Frame) (p q : List ℕ) → Chain p fs q
      → All (λ f. f.command.name ≡ x → f.command.code ≡ open_code → f.answer.status ≢ 0) fs
      → meaning_of q x ≡ part_after (meaning_of p x) (frames_to x (map (λ f. f.command) fs))
  unfolding part_after beside
  part-after-all [] p q chain none = ap (λ bytes. meaning_of bytes x) chain
  part-after-all (f ∷ fs) p q chain none = go (is_to x f.command) refl (part-after-all fs f.after q chain.2 none.1)
    where
      later : List Command
      later = frames_to x (map (λ g. g.command) fs)

      start : meaning_of f.before x ≡ meaning_of p x
      start = ap (λ bytes. meaning_of bytes x) chain.0

      go : (t : Bool) → is_to x f.command ≡ t → meaning_of q x ≡ part_after (meaning_of f.after x) later
          → meaning_of q x ≡ part_after (meaning_of p x) (cond t (f.command ∷ later) later)
      go true is rest =
          let own = part-after-own f chain.1 (eqb-true f.command.name x is) (none.0 (eqb-true f.command.name x is)) in
          rest ∙ ap (λ part. part_after part later) (own ∙ ap (λ part. (reply trees 0 part f.command).part) start)
      go false other rest =
          rest ∙ ap (λ part. part_after part later) (part-after-other f chain.1 (eqb-false f.command.name x other) ∙ start)

  -- the opening leaves the empty tree
  part-after-opening : (f : Frame) → IsStep f → f.command.name ≡ x → f.command.code ≡ open_code → f.answer.status ≡ 0
      → meaning_of f.after x ≡ opened f.command.symbol f.command.number empty_t
  part-after-opening f step is code zero =
      let c = f.command in
      let s = meaning f.before in
      subst (λ y. meaning_of f.after y ≡ opened c.symbol c.number empty_t) is
      (sym (part-meaning f.after c.name (omega (arith, is)))
      ∙ ap (λ t. part_of t c.name) step.next
      ∙ opening-starts-afresh s c (has-names f.before) code (sym (ap (λ a. a.status) step.answer) ∙ zero))

  pub shape-is-own : (p q : List ℕ) (calls : List Call) (session : Session p calls q) (opening : Frame) (since : List Frame)
      → Since x (frames_in p calls q session) opening since → ShapeIsOwn x opening since q
  shape-is-own p q calls session opening since cut =
      let found = chain-from cut.earlier opening since p q (subst (λ fs. Chain p fs q) cut.cut (session-chains calls p q session)) in
      part-after-all since opening.after q found.1 cut.last
      ∙ ap (λ part. part_after part (frames_to x (map (λ f. f.command) since)))
      (part-after-opening opening found.0 cut.own cut.opens cut.taken)
