-- What a frame that isn't refused does, read off its row of the table of commands.
use mathlib.Core.Bool.{true, false≢true}
use mathlib.Core.Path.{◌≡◌, refl, ap, ◌∙◌}
use mathlib.Core.List.{List}
use Prim.Native.Nat.{ℕ, ◌<◌}
use native.Mathlib.Omega.{arith}
use lib.ListN.{length-map}
use Rattle.geometry.specs.Limits.{names}
use Rattle.lists.proofs.Froms.{length_from}
use Rattle.machine.specs.Machine.{trees}
use Rattle.pool.specs.Meaning.{meaning_of, meaning}
use Rattle.protocol.proofs.Accepted.{insert-accepted, delete-accepted, name-is-below}
use Rattle.protocol.proofs.Respond.{accepted-reply, respond-answer, own-part-after}
use Rattle.protocol.specs.Commands.{
  Effect,
  edited,
  rows,
  row_for,
  unpromised_code,
}
use Rattle.protocol.specs.Refusals.{status_of}
use Rattle.protocol.specs.Respond.{without_depth, accepted}
use Rattle.protocol.specs.State.{Part, closed, opened, is_open, part_of, marks_of, lists, part_as_list}
use Rattle.sequence.specs.Definition1 as Definition1
use Rattle.demands.specs.Accepted.{Frame}
use Rattle.demands.specs.Demand2.{held, part, free, ByDefinition1, Does}

edited-marks : (edit : List ℕ → List ℕ) (p : Part (List ℕ)) → is_open p ≡ true → marks_of lists (edited edit p) ≡ edit (marks_of lists p)
edited-marks edit closed is = absurd (false≢true is)
edited-marks edit (opened alphabet q kept) is = refl

module _ (f : Frame) (by : ByDefinition1 f) (zero : status_of lists (free f) (part f) f.command ≡ 0) where
  abbrev effect : Effect (List ℕ)
  effect = (row_for lists f.command).effect (free f) (part f) f.command

  answered : without_depth f.answer ≡ accepted f.command effect
  answered =
      by.answer
      ∙ respond-answer lists (held f.before) f.command
      ∙ ap (λ r. r.answer) (accepted-reply lists (free f) (part f) f.command zero)

  left : f.command.code < unpromised_code → part_of (held f.after) f.command.name ≡ effect.part
  left early =
      let below = name-is-below lists (free f) (part f) f.command zero (λ is. omega (arith, is)) in
      ap (λ s. part_of s f.command.name) by.holds
      ∙ own-part-after lists (held f.before) f.command
      (omega (arith, length-map (meaning f.before).parts (part_as_list trees), length_from (meaning_of f.before) 0 names))
      ∙ ap (λ r. r.part) (accepted-reply lists (free f) (part f) f.command zero)

  pub frame-does : Does f
  unfolding rows
  frame-does =
      record {
        inserts = λ code. (
          rw code at (ap (λ a. a.value) answered),
          ap (marks_of lists) (rw code at (left (omega (arith, code))))
              ∙ edited-marks (Definition1.insert f.command.symbol f.command.number) (part f)
              (insert-accepted lists (free f) (part f) f.command code zero).is_open_lem,
        );
        deletes = λ code. (
          rw code at (ap (λ a. a.symbol) answered),
          rw code at (ap (λ a. a.value) answered),
          ap (marks_of lists) (rw code at (left (omega (arith, code))))
              ∙ edited-marks (Definition1.delete f.command.number) (part f)
              (delete-accepted lists (free f) (part f) f.command code zero).is_open_lem,
        );
        accesses = λ code. rw code at (ap (λ a. a.symbol) answered);
        ranks = λ code. rw code at (ap (λ a. a.value) answered);
        selects = λ code. rw code at (ap (λ a. a.value) answered);
      }
