-- What a command that nothing refuses comes to: its row's effect, code by code, and what its acceptance says of the pool.
use mathlib.Core.Bool.{true}
use mathlib.Core.List.{List}
use mathlib.Core.Logic.{◌≢◌}
use mathlib.Core.Path.{◌≡◌, sym, ap, ◌∙◌}
use Prim.Native.Nat.{ℕ, ◌*◌, ◌≤◌, ◌<◌}
use native.Mathlib.Omega.{arith}
use lib.ListN.{length}
use Rattle.geometry.specs.Layout.{most_height}
use Rattle.geometry.specs.Limits.{names, most_alphabet, marks_per_share, most_marks}
use Rattle.geometry.specs.declared.Record.{Record}
use Rattle.geometry.specs.Limits.{names, most_marks}
use Rattle.lists.proofs.Sums.{sum_below-one}
use Rattle.machine.specs.Machine.{trees}
use Rattle.pool.specs.Meaning.{meaning}
use Rattle.pool.specs.Names.{record_of, tree_of}
use Rattle.pool.specs.Shares.{promised_shares}
use Rattle.pool.specs.Sound.{ClosedName, OpenName, Sound}
use Rattle.protocol.proofs.Accepted.{name-is-below}
use Rattle.protocol.proofs.Respond.{accepted-reply, respond-answer}
use Rattle.protocol.specs.Commands.{Effect, unpromised_code, rows, row_of, row_for}
use Rattle.protocol.specs.Commands.{unpromised_code}
use Rattle.protocol.specs.Commands.{Effect, rows, row_for}
use Rattle.protocol.specs.Respond.{accepted, reply}
use Rattle.protocol.specs.State.{Part, closed, is_open, part_of, unpromised}
use Rattle.protocol.specs.State as State
use Rattle.protocol.specs.declared.Command.{Command}
use Rattle.shape.specs.Trees.{Tree, marks_t}
use Rattle.pool.proofs.Meaning.{part-meaning}
use Rattle.frame_status.specs.Statuses.{status_in}
use Rattle.frame_status.proofs.Parts.{is_open_lem, is-closed, opened-part}
use Rattle.tree_query.proofs.Records.{open-record}
use Rattle.tree_query.specs.Records.{OfOpenName, tree_by}
use Rattle.frame_queries.specs.Accepted.{Accepted, answer_of}

-- the effect of a command on a pool
abbrev pub effect_in : List ℕ → Command → Effect Tree
effect_in p c = (row_for trees c).effect (unpromised (meaning p)) (part_of (meaning p) c.name) c

-- and by its code, which the table has
pub coded-effect : (free : ℕ) (part : Part Tree) (c : Command) (code : ℕ) → c.code ≡ code
    → (row_for trees c).effect free part c ≡ (row_of code (rows trees)).effect free part c
coded-effect free part c code is = ap (λ x. (row_of x (rows trees)).effect free part c) is

-- the command names an open name, of which this is the record
pub record ToOpen (p : List ℕ) (c : Command) (found : Record) : Type 0 where
  pub low : c.name < names
  pub opened : OpenName p c.name
  pub asked : OfOpenName p found
  pub long : found.length ≡ length (marks_t (tree_by p found))
  pub most : found.alphabet ≤ most_alphabet
  pub high : found.height ≤ most_height
  pub room : found.length ≤ marks_per_share * found.q
  pub few : length (marks_t (tree_by p found)) ≤ most_marks
  pub part : part_of (meaning p) c.name ≡ State.opened found.alphabet found.q (tree_by p found)

-- an open name of a sound pool has few marks
marks-few : (p : List ℕ) (name : ℕ) → Sound p → name < names → OpenName p name → length (marks_t (tree_of p name)) ≤ most_marks
unfolding promised_shares
marks-few p name sound low o =
    omega (arith, sound.allowed, sound.promised, o.length, o.entry.room, sum_below-one names (λ x. (record_of p x).q) name low)

module _ (p : List ℕ) (c : Command) (sound : Sound p) (status : status_in p c ≡ 0) where
  -- the answer is made of the effect, and so is the part
  pub accepted-answer : answer_of p c ≡ accepted c (effect_in p c)
  accepted-answer =
      respond-answer trees (meaning p) c
      ∙ ap (λ r. r.answer) (accepted-reply trees (unpromised (meaning p)) (part_of (meaning p) c.name) c status)

  pub accepted-part : (reply trees (unpromised (meaning p)) (part_of (meaning p) c.name) c).part ≡ (effect_in p c).part
  accepted-part = ap (λ r. r.part) (accepted-reply trees (unpromised (meaning p)) (part_of (meaning p) c.name) c status)

  pub accepted-low : c.code ≢ unpromised_code → c.name < names
  accepted-low = name-is-below trees (unpromised (meaning p)) (part_of (meaning p) c.name) c status

  pub accepted-closed : c.name < names → part_of (meaning p) c.name ≡ closed → ClosedName p c.name
  accepted-closed low is = is-closed p c.name sound low (ap is_open (sym (part-meaning p c.name low) ∙ is))

  pub accepted-open : c.code ≢ unpromised_code → is_open (part_of (meaning p) c.name) ≡ true
      → (found : Record) → found ≡ record_of p c.name
      → ToOpen p c found
  accepted-open named holds found read =
      let low = accepted-low named in
      let opened = is_open_lem p c.name sound low (ap is_open (sym (part-meaning p c.name low)) ∙ holds) in
      record {
        low = low;
        opened = opened;
        asked = open-record p c.name found opened read;
        long = rw read opened.length;
        most = rw read opened.entry.alphabet_most;
        high = rw read opened.entry.height;
        room = rw read opened.entry.room;
        few = rw read (marks-few p c.name sound low opened);
        part = rw read (opened-part p c.name sound low opened);
      }

-- the answer to a command of this code that names an open name, by the name's record
pub open-answer : (p : List ℕ) (c : Command) (found : Record) → Accepted p c found → ToOpen p c found → (code : ℕ) → c.code ≡ code
    → answer_of p c
    ≡ accepted c ((row_of code (rows trees)).effect (unpromised (meaning p)) (State.opened found.alphabet found.q (tree_by p found)) c)
open-answer p c found a to code is =
    accepted-answer p c a.sound a.status
    ∙ ap (accepted c) (coded-effect _ _ c code is)
    ∙ ap (λ (part : Part Tree). accepted c ((row_of code (rows trees)).effect (unpromised (meaning p)) part c)) to.part
