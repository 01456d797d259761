-- What one name sees of accepted calls is what it sees of the machine's run: its answer frames are those answers' bytes.
use mathlib.Core.Bool.{Bool, true, false, cond}
use mathlib.Core.Path.{◌≡◌, refl, sym, ap, ◌∙◌}
use mathlib.Core.List.{List, [], ◌∷◌, map}
use Prim.Native.Nat.{ℕ, ◌<◌}
use lib.ListN.{get_or}
use Rattle.geometry.specs.Limits.{names}
use Rattle.lists.proofs.Froms.{length_from}
use Rattle.machine.proofs.Runs.{same-for-name}
use Rattle.machine.specs.Machine.{trees}
use Rattle.machine.specs.OneName as OneName
use Rattle.machine.specs.OneName.{HasNames, AlikeAt, beside, is_to, is_opening, answers_for}
use Rattle.pool.specs.Meaning.{meaning_of, meaning}
use Rattle.protocol.specs.Frames.{bytes_of_answer}
use Rattle.protocol.specs.Respond as Respond
use Rattle.protocol.specs.State.{part_of}
use Rattle.protocol.specs.declared.Answer.{Answer}
use Rattle.protocol.specs.declared.Command.{Command}
use Rattle.pool.proofs.Meaning.{part-meaning}
use Rattle.demands.specs.Accepted.{Fresh, Call, Session, commands_of}
use Rattle.demands.specs.Demand3.{commands_to, answers_to_name, openings_in, SameCommands, Alike, AnsweredAlike}
use Rattle.demands.proofs.FreshPools.{fresh-part}
use Rattle.demands.proofs.SessionsRun.{session-answers, session-meaning}

-- picked items stay picked under a function
beside-map : {A B : Type 0} (f : A → B) (pick : Command → Bool) (cs : List Command) (items : List A)
    → beside pick cs (map f items) ≡ map f (beside pick cs items)
unfolding beside
beside-map f pick [] items = refl
beside-map f pick (c ∷ cs) [] = refl
beside-map {A} {B} f pick (c ∷ cs) (item ∷ items) = go (pick c) (beside-map f pick cs items)
  where
    go : (t : Bool) → beside pick cs (map f items) ≡ map f (beside pick cs items)
        → cond t (f item ∷ beside pick cs (map f items)) (beside pick cs (map f items))
        ≡ map f (cond t (item ∷ beside pick cs items) (beside pick cs items))
    go true later = ap (λ l. f item ∷ l) later
    go false later = later

-- the first byte of an answer frame is the status
first_byte : (answers : List Answer) → map (λ bytes. get_or bytes 0 0) (map bytes_of_answer answers) ≡ map (λ a. a.status) answers
unfolding bytes_of_answer
first_byte [] = refl
first_byte (a ∷ answers) = ap (λ l. a.status ∷ l) (first_byte answers)

module _ (x : ℕ) (calls : List Call) (p q : List ℕ) (session : Session p calls q) where
  pub answers-of-name : answers_to_name x calls ≡ map bytes_of_answer (answers_for x (meaning p) (commands_of calls))
  answers-of-name =
      ap (beside (is_to x) (commands_of calls)) (session-answers calls p q session)
      ∙ beside-map bytes_of_answer (is_to x) (commands_of calls) (Respond.answers_to trees (meaning p) (commands_of calls))

  pub openings-of-name : openings_in x calls ≡ OneName.openings_of x (meaning p) (commands_of calls)
  openings-of-name =
      let told = answers_for x (meaning p) (commands_of calls) in
      ap (λ frames. map (λ bytes. get_or bytes 0 0) (beside is_opening (commands_to x calls) frames)) answers-of-name
      ∙ ap (map (λ bytes. get_or bytes 0 0)) (beside-map bytes_of_answer is_opening (commands_to x calls) told)
      ∙ first_byte (beside is_opening (commands_to x calls) told)

  pub part-at-end : x < names → meaning_of q x ≡ part_of (Respond.state_after trees (meaning p) (commands_of calls)) x
  part-at-end low = sym (part-meaning q x low) ∙ ap (λ s. part_of s x) (session-meaning calls p q session)

pub has-names : (p : List ℕ) → HasNames (meaning p)
has-names p = length_from (meaning_of p) 0 names

-- two runs from pools alike at a name
pub alike-answered-alike : (x : ℕ) (p p' q q' : List ℕ) (calls calls' : List Call) → Alike x p p' → Session p calls q → Session p' calls' q'
    → SameCommands x calls calls' → AnsweredAlike x calls calls' q q'
alike-answered-alike x p p' q q' calls calls' alike one two same =
    let s = meaning p in
    let t = meaning p' in
    let start : AlikeAt x s t = part-meaning p x same.name ∙ alike ∙ sym (part-meaning p' x same.name) in
    let result =
    same-for-name x s t (commands_of calls) (commands_of calls')
    (record {
      name = same.name;
      first_has = has-names p;
      second_has = has-names p';
      start = start;
      frames = same.commands;
      openings = sym (openings-of-name x calls p q one) ∙ same.openings ∙ openings-of-name x calls' p' q' two;
    }) in
    record {
      answers = answers-of-name x calls p q one ∙ result.bytes ∙ sym (answers-of-name x calls' p' q' two);
      end = part-at-end x calls p q one same.name ∙ result.end ∙ sym (part-at-end x calls' p' q' two same.name);
    }

-- from pools that format has just left
pub fresh-answered-alike : (x : ℕ) (p p' q q' : List ℕ) (calls calls' : List Call) → Fresh p → Fresh p' → Session p calls q → Session p' calls' q'
    → SameCommands x calls calls' → AnsweredAlike x calls calls' q q'
fresh-answered-alike x p p' q q' calls calls' fresh fresh' one two same =
    alike-answered-alike x p p' q q' calls calls' (fresh-part x same.name p fresh ∙ sym (fresh-part x same.name p' fresh')) one two same
