-- Demand 2, frame by frame: the machine's image on lists is Definition 1's, the statuses are the table's, the depth is the path's.
use mathlib.Core.Bool.{true, false≢true}
use mathlib.Core.Path.{◌≡◌, refl, sym, ap, ◌∙◌}
use mathlib.Core.List.{List, map}
use mathlib.Core.Logic.{inr, ⊎_elim}
use Prim.Native.Nat.{ℕ, ◌≤◌, ◌<◌}
use native.Mathlib.Omega.{arith}
use lib.ListN.{length, get_or-map}
use Rattle.geometry.specs.Limits.{names}
use Rattle.machine.proofs.Depth.{access-tells-depth, others-tell-no-depth}
use Rattle.machine.proofs.Machine.{image-of-respond}
use Rattle.machine.specs.Depth.{DepthTold}
use Rattle.machine.specs.Machine.{trees}
use Rattle.pool.proofs.SoundNames.{open-depth}
use Rattle.pool.proofs.SoundNames.{closed-blocks, open-blocks-most, open-depth, open-depth-rule}
use Rattle.pool.specs.Meaning.{meaning}
use Rattle.pool.specs.Names.{record_of, tree_of, blocks_of, path_of}
use Rattle.pool.specs.Sound.{OpenName, Sound}
use Rattle.protocol.proofs.Accepted.{access-accepted, name-is-below}
use Rattle.protocol.proofs.Edges.{edges-hold}
use Rattle.protocol.proofs.Respond.{respond-status, refused-answers-zeros}
use Rattle.protocol.proofs.Refusals.{status-is-lowest, full-exactly-when, shares-exceeded-exactly-when}
use Rattle.protocol.specs.Commands.{open_code, insert_code, access_code}
use Rattle.protocol.specs.Refusals.{status_of}
use Rattle.protocol.specs.Frames.{bytes_of_answer}
use Rattle.protocol.specs.Respond.{without_depth, answers_to, state_after}
use Rattle.protocol.specs.State.{closed, opened, is_open, part_of, shares_of, marks_of, unpromised, lists, part_as_list, as_lists}
use Rattle.sequence.proofs.Selects.{rank-select, access-select, select-rank}
use Rattle.shape.specs.Depth.{DepthRule}
use Rattle.shape.specs.Trees.{marks_t}
use Rattle.pool.proofs.Meaning.{closed-meaning, open-meaning, part-meaning, valid-meaning}
use Rattle.demands.specs.Accepted.{Frame, Call, Session, commands_of}
use Rattle.demands.specs.Demand2.{
  held,
  part,
  free,
  ByDefinition1,
  InOrder,
  Exactly,
  RoomUsedUp,
  TooFewShares,
  DepthOfPlace,
  Depth,
  Answers,
  RankAndSelect,
  SameAnswers,
  Demand2,
}
use Rattle.demands.proofs.AcceptedCalls.{each-of-call, sound-after}
use Rattle.demands.proofs.Doings.{frame-does}
use Rattle.demands.proofs.FramesRun.{IsStep}
use Rattle.demands.proofs.FreshPools.{fresh-sound, fresh-held}
use Rattle.demands.proofs.PlaceDepths.{path-to-place, filled-meaning, shares-within}
use Rattle.demands.proofs.SessionsRun.{session-answers, session-meaning}

module _ (f : Frame) (step : IsStep f) where
  by-definition-1 : ByDefinition1 f
  by-definition-1 =
      let image = image-of-respond (meaning f.before) f.command in
      record {
        answer = ap without_depth step.answer ∙ sym (ap (λ r. r.answer) image);
        holds = ap (as_lists trees) step.next ∙ sym (ap (λ r. r.state) image);
      }

  -- the status by the table, on lists
  status-by-table : f.answer.status ≡ status_of lists (free f) (part f) f.command
  status-by-table = ap (λ a. a.status) by-definition-1.answer ∙ respond-status lists (held f.before) f.command

  in_order : InOrder f
  in_order = rw status-by-table (status-is-lowest lists (free f) (part f) f.command)

  full-exactly : Exactly 11 insert_code RoomUsedUp f
  full-exactly =
      let exactly = full-exactly-when lists (free f) (part f) f.command in
      record {
        here = λ none code. (λ is. (exactly.0 (sym status-by-table ∙ is)).2, λ used. status-by-table ∙ exactly.1 (none, code, used));
        only = λ is. let holds = exactly.0 (sym status-by-table ∙ is) in (holds.0, holds.1);
      }

  no-room-exactly : Exactly 12 open_code TooFewShares f
  no-room-exactly =
      let exactly = shares-exceeded-exactly-when lists (free f) (part f) f.command in
      record {
        here = λ none code. (λ is. (exactly.0 (sym status-by-table ∙ is)).2, λ few. status-by-table ∙ exactly.1 (none, code, few));
        only = λ is. let holds = exactly.0 (sym status-by-table ∙ is) in (holds.0, holds.1);
      }

-- A successful access.

-- its name is open
named-is-open : (p : List ℕ) (name : ℕ) → Sound p → name < names → is_open (part_of (meaning p) name) ≡ true → OpenName p name
named-is-open p name sound low is =
    ⊎_elim (λ c. absurd (false≢true (sym (ap is_open (part-meaning p name low ∙ closed-meaning p name c)) ∙ is))) (λ o. o) (sound.each name low)

-- what a sound pool holds of an open name is its record's shares and its tree's marks
part-of-open : (p : List ℕ) (name : ℕ) → name < names → OpenName p name
    → part_of (held p) name ≡ opened (record_of p name).alphabet (record_of p name).q (marks_t (tree_of p name))
part-of-open p name low open-name =
    get_or-map (part_as_list trees) (meaning p).parts name closed ∙ ap (part_as_list trees) (part-meaning p name low ∙ open-meaning p name open-name)

marks-of-tree : (p : List ℕ) (name : ℕ) → name < names → OpenName p name → marks_of lists (part_of (held p) name) ≡ marks_t (tree_of p name)
marks-of-tree p name low open-name = ap (marks_of lists) (part-of-open p name low open-name)

module _ (f : Frame) (sound : Sound f.before) (step : IsStep f) where
  depth-of-place : f.command.code ≡ access_code → f.answer.status ≡ 0 → DepthOfPlace f
  depth-of-place code zero =
      let p = f.before in
      let c = f.command in
      let name = c.name in
      let s = meaning p in
      let given = sym (ap (λ a. a.status) step.answer) ∙ zero in
      let status : status_of trees (unpromised s) (part_of s name) c ≡ 0 = sym (respond-status trees s c) ∙ given in
      let place = access-accepted trees (unpromised s) (part_of s name) c code status in
      let low : name < names = name-is-below trees (unpromised s) (part_of s name) c status (λ other. omega (arith, code, other)) in
      let is_open_lem = named-is-open p name sound low place.is_open_lem in
      let kept = part-meaning p name low ∙ open-meaning p name is_open_lem in
      let valid = valid-meaning p sound trees (λ t. refl) in
      let told : DepthTold (tree_of p name) c.number f.answer.depth
      = rw (ap (λ a. a.depth) step.answer)
      (access-tells-depth s c valid (filled-meaning p sound) (shares-within p sound) (record_of p name).alphabet (record_of p name).q (tree_of p name) code kept given) in
      let high : c.number ≤ length (marks_t (tree_of p name)) = rw kept at place.high in
      record {
        own = told.own ∙ sym (open-depth p name is_open_lem c.number);
        path = rw (marks-of-tree p name low is_open_lem) (path-to-place p name is_open_lem c.number place.low high);
        rule = rw (marks-of-tree p name low is_open_lem) told.rule;
        same = step.stays (inr (rw code refl));
      }

  depths : Depth f
  depths =
      let zeros = refused-answers-zeros trees (meaning f.before) f.command in
      record {
        told = depth-of-place;
        refused = λ some.
            ap (λ a. a.depth) step.answer
            ∙ ap (λ a. a.depth) (zeros (λ zero. some (ap (λ a. a.status) step.answer ∙ zero)));
        others = λ other. ap (λ a. a.depth) step.answer ∙ others-tell-no-depth (meaning f.before) f.command other;
      }

  frame-answers : Answers f
  frame-answers =
      record {
        definition = by-definition-1 f step;
        does = λ zero. frame-does f (by-definition-1 f step) (sym (status-by-table f step) ∙ zero);
        order = in_order f step;
        full = full-exactly f step;
        no_room = no-room-exactly f step;
        depth = depths;
      }

-- Every sound pool.
blocks-in-promise : (p : List ℕ) → Sound p → (name : ℕ) → name < names → length (blocks_of p name) ≤ shares_of (part_of (held p) name)
blocks-in-promise p sound name low =
    ⊎_elim (λ closed-name. rw (closed-blocks p name closed-name) (omega arith))
    (λ open-name. rw (part-of-open p name low open-name) (open-blocks-most p name open-name)) (sound.each name low)

depths-in-rule : (p : List ℕ) → Sound p → (name : ℕ) → name < names → OpenName p name → (i : ℕ)
    → DepthRule (length (marks_of lists (part_of (held p) name))) (length (path_of p name i))
depths-in-rule p sound name low open-name i = rw (marks-of-tree p name low open-name, ← open-name.length) (open-depth-rule p name open-name i)

pub rank-and-select : (c : ℕ) (xs : List ℕ) → RankAndSelect c xs
rank-and-select c xs =
    record { bears = access-select c xs; rank_of_select = λ j low. rank-select c xs j; select_of_rank = select-rank c xs }

one-or-several : (p q q' : List ℕ) (calls calls' : List Call) → Session p calls q → Session p calls' q'
    → commands_of calls ≡ commands_of calls' → SameAnswers calls calls' q q'
one-or-several p q q' calls calls' one several same =
    record {
      answers =
          session-answers calls p q one
          ∙ ap (λ cs. map bytes_of_answer (answers_to trees (meaning p) cs)) same
          ∙ sym (session-answers calls' p q' several);
      meaning =
          session-meaning calls p q one
          ∙ ap (λ cs. state_after trees (meaning p) cs) same
          ∙ sym (session-meaning calls' p q' several);
    }

pub demand-2 : Demand2
demand-2 =
    record {
      frames = λ p commands room r q filled ran zero. each-of-call p commands room r q filled ran zero Answers frame-answers;
      sound = sound-after;
      blocks = blocks-in-promise;
      depths = depths-in-rule;
      fresh = λ p fresh. (fresh-sound p fresh, fresh-held p fresh);
      edges = edges-hold;
      rank_and_select = rank-and-select;
      one_or_several = one-or-several;
    }
