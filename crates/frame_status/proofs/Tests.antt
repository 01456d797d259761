-- The statuses from 4 on, code by code: what is tested of a well-formed command, in the order of the table.
use mathlib.Core.Bool.{cond, not, ◌&&◌, ◌||◌}
use mathlib.Core.Path.{◌≡◌}
use Prim.Native.Nat.{ℕ, ◌+◌, ◌*◌, ◌≤◌}
use native.Mathlib.Omega.{arith}
use borrow.Author.Tests.{ne_eqb, le-leb}
use lib.Dec.{eqb, leb, ltb}
use lib.ListN.{length}
use Rattle.geometry.specs.Limits.{least_alphabet, most_alphabet, marks_per_share}
use Rattle.protocol.specs.Commands.{
  open_code,
  close_code,
  insert_code,
  delete_code,
  access_code,
  rank_code,
  select_code,
  length_code,
  unpromised_code,
  rows,
}
use Rattle.protocol.specs.Commands.{open_code, close_code, insert_code, delete_code, access_code, rank_code, select_code, length_code, unpromised_code}
use Rattle.protocol.specs.Commands.{rows}
use Rattle.protocol.specs.Refusals.{refusals}
use Rattle.protocol.specs.State.{Part, closed, opened}
use Rattle.protocol.specs.declared.Command.{Command}
use Rattle.sequence.specs.Definition1.{count}
use Rattle.shape.specs.Trees.{Tree, marks_t}
use Rattle.frame_status.proofs.Forms.{later_status}

-- of the unpromised shares nothing is tested
pub later-unpromised : (free : ℕ) (part : Part Tree) (c : Command) → c.code ≡ unpromised_code → later_status free part c ≡ 0
unfolding refusals
later-unpromised free part c is = rw is

-- an opening
pub already-open : (free a q : ℕ) (t : Tree) (c : Command) → c.code ≡ open_code → later_status free (opened a q t) c ≡ 4
unfolding refusals
already-open free a q t c is = rw is

pub opening-tests : (free : ℕ) (c : Command) → c.code ≡ open_code
    → later_status free closed c
    ≡ cond (not (leb least_alphabet c.symbol && leb c.symbol most_alphabet)) 6 (cond (eqb c.number 0) 7 (cond (ltb free c.number) 12 0))
unfolding refusals
opening-tests free c is = rw is

-- a command to a closed name
pub not-open : (free : ℕ) (c : Command) → close_code ≤ c.code → c.code ≤ length_code → later_status free closed c ≡ 5
unfolding refusals
not-open free c low high =
    rw (ne_eqb c.code open_code (λ (e : c.code ≡ open_code). omega arith), le-leb close_code c.code low, le-leb c.code length_code high)

-- a command to an open one
module _ (free a q : ℕ) (t : Tree) (c : Command) where
  pub insert-tests : c.code ≡ insert_code
      → later_status free (opened a q t) c
      ≡ cond (leb a c.symbol) 8
      (cond (not (leb 1 c.number && leb c.number (length (marks_t t) + 1))) 9 (cond (eqb (length (marks_t t)) (marks_per_share * q)) 11 0))
  unfolding refusals rows
  insert-tests is = rw is

  pub delete-tests : c.code ≡ delete_code → later_status free (opened a q t) c ≡ cond (not (leb 1 c.number && leb c.number (length (marks_t t)))) 9 0
  unfolding refusals rows
  delete-tests is = rw is

  pub access-tests : c.code ≡ access_code → later_status free (opened a q t) c ≡ cond (not (leb 1 c.number && leb c.number (length (marks_t t)))) 9 0
  unfolding refusals rows
  access-tests is = rw is

  pub rank-tests : c.code ≡ rank_code
      → later_status free (opened a q t) c ≡ cond (leb a c.symbol) 8 (cond (not (leb 0 c.number && leb c.number (length (marks_t t)))) 9 0)
  unfolding refusals rows
  rank-tests is = rw is

  pub select-tests : c.code ≡ select_code
      → later_status free (opened a q t) c
      ≡ cond (leb a c.symbol) 8 (cond (eqb c.number 0 || ltb (count c.symbol (marks_t t)) c.number) 10 0)
  unfolding refusals rows
  select-tests is = rw is

  pub close-tests : c.code ≡ close_code → later_status free (opened a q t) c ≡ 0
  unfolding refusals
  close-tests is = rw is

  pub length-tests : c.code ≡ length_code → later_status free (opened a q t) c ≡ 0
  unfolding refusals
  length-tests is = rw is
